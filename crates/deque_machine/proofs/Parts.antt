-- Sums over the places of a list from one place up to another.
use Rattle.std.proofs.Common.{◌≡◌, ℕ, zero, suc, ◌+◌, ◌*◌, ◌≤◌, ◌<◌, cond, nat_eq, nat_lt, nat_le, List, [], ◌∷◌, ◌++◌, length, map, take, ℤ, pos, ◌+ℤ◌, ◌≤ℤ◌, inl, inr, refl, sym, ap, subst, ◌∙◌, arith}
use Rattle.std.proofs.lemmas.Bool.{cases_eq, cases_lt, eq-eqb, ne_eqb, lt-ltb, le-ltb, le-leb, lt-leb}
use Rattle.std.proofs.lemmas.Int.{ints}
use Rattle.std.proofs.lemmas.List.{take_more}
use Rattle.std.proofs.Math.Nat.{mul-add}
use Rattle.depth_first_run.specs.Passed.Actions.{Action, weight, live_words}
use Rattle.depth_first_run.specs.Passed.Facts.{action_at, weight_at}
use Rattle.deque_machine.specs.Lists.{Each, total, times}
use Rattle.deque_machine.proofs.Lists.{one_cases}

-- f at a place from n on and below m, and else nothing
pub between : ℕ → ℕ → (ℕ → ℕ) → ℕ → ℕ
between n m f i = cond (nat_le n i) (cond (nat_lt i m) (f i) 0) 0

pub between_in : (n m : ℕ) (f : ℕ → ℕ) (i : ℕ) → n ≤ i → i < m → between n m f i ≡ f i
unfolding between
between_in n m f i low high = ap (λ b. cond b (cond (nat_lt i m) (f i) 0) 0) (le-leb n i low) ∙ ap (λ b. cond b (f i) 0) (lt-ltb i m high)

pub between_low : (n m : ℕ) (f : ℕ → ℕ) (i : ℕ) → i < n → between n m f i ≡ 0
unfolding between
between_low n m f i low = ap (λ b. cond b (cond (nat_lt i m) (f i) 0) 0) (lt-leb n i low)

pub between_high : (n m : ℕ) (f : ℕ → ℕ) (i : ℕ) → m ≤ i → between n m f i ≡ 0
unfolding between
between_high n m f i high = elim (cases_lt i n) [
  | inl low ↦ between_low n m f i low
  | inr le ↦ inner n m f i le high
]
  where
    inner : (n m : ℕ) (f : ℕ → ℕ) (i : ℕ) → n ≤ i → m ≤ i → between n m f i ≡ 0
    inner n m f i le high = ap (λ b. cond b (cond (nat_lt i m) (f i) 0) 0) (le-leb n i le) ∙ ap (λ b. cond b (f i) 0) (le-ltb i m high)

-- f at one place alone
pub pick : ℕ → (ℕ → ℕ) → ℕ → ℕ
pick n f i = cond (nat_eq n i) (f i) 0

pick_same : (n : ℕ) (f : ℕ → ℕ) (i : ℕ) → n ≡ i → pick n f i ≡ f n
unfolding pick
pick_same n f i same = ap (λ b. cond b (f i) 0) (eq-eqb n i same) ∙ ap f (sym same)

pick_other : (n : ℕ) (f : ℕ → ℕ) (i : ℕ) → (n ≡ i → ⊥) → pick n f i ≡ 0
unfolding pick
pick_other n f i other = ap (λ b. cond b (f i) 0) (ne_eqb n i other)

pub between_below : (n m : ℕ) (f : ℕ → ℕ) (i : ℕ) → between n m f i ≤ f i
between_below n m f i = elim (cases_lt i n) [
  | inl low ↦ let none = between_low n m f i low in omega arith
  | inr le ↦ elim (cases_lt i m) [
    | inl lt ↦ let all = between_in n m f i le lt in omega arith
    | inr high ↦ let none = between_high n m f i high in omega arith
  ]
]

-- one place more
between_more : (n m : ℕ) (f : ℕ → ℕ) (i : ℕ) → n ≤ m → between n (suc m) f i ≡ between n m f i + pick m f i
between_more n m f i le = elim (cases_lt i n) [
  | inl low ↦ let a = between_low n m f i low in let b = between_low n (suc m) f i low in let c = pick_other m f i (λ e. omega arith) in omega arith
  | inr from ↦ elim (cases_eq m i) [
    | inl same ↦ let a = between_high n m f i (omega arith) in let b = between_in n (suc m) f i from (omega arith) in
        let c = pick_same m f i same in let d : f m ≡ f i = ap f same in omega arith
    | inr other ↦ let c = pick_other m f i other in elim (cases_lt i m) [
      | inl lt ↦ let a = between_in n m f i from lt in let b = between_in n (suc m) f i from (omega arith) in omega arith
      | inr high ↦ let a = between_high n m f i high in let b = between_high n (suc m) f i (omega arith) in omega arith
    ]
  ]
]

-- the sum of f over the places of a list from n on and below m
pub part : ℕ → ℕ → (ℕ → ℕ) → List ℕ → ℕ
part n m f places = total (between n m f) places

picked_none : (n : ℕ) (f : ℕ → ℕ) (xs : List ℕ) → times n xs ≡ 0 → total (pick n f) xs ≡ 0
picked_none n f [] none = refl
picked_none n f (x ∷ xs) none = elim (one_cases n x) [
  | inl here ↦ let one = here.1 in absurd (omega arith)
  | inr other ↦ let zero_here = other.1 in let rest = picked_none n f xs (omega arith) in let nothing = pick_other n f x other.0 in omega arith
]

picked_once : (n : ℕ) (f : ℕ → ℕ) (xs : List ℕ) → times n xs ≡ 1 → total (pick n f) xs ≡ f n
picked_once n f [] once = absurd (omega arith)
picked_once n f (x ∷ xs) once = elim (one_cases n x) [
  | inl here ↦ let one = here.1 in let rest = picked_none n f xs (omega arith) in let this = pick_same n f x here.0 in omega arith
  | inr other ↦ let zero_here = other.1 in let rest = picked_once n f xs (omega arith) in let nothing = pick_other n f x other.0 in omega arith
]

part_more : (n m : ℕ) (f : ℕ → ℕ) (xs : List ℕ) → n ≤ m → part n (suc m) f xs ≡ part n m f xs + total (pick m f) xs
unfolding part
part_more n m f [] le = refl
part_more n m f (x ∷ xs) le = let rest = part_more n m f xs le in let here = between_more n m f x le in omega (arith, rest, here)

-- a place that is done once adds what f is there, a missing one nothing, and so does a place below n
pub part_done : (n m : ℕ) (f : ℕ → ℕ) (xs : List ℕ) → n ≤ m → times m xs ≡ 1 → part n (suc m) f xs ≡ part n m f xs + f m
part_done n m f xs le once = part_more n m f xs le ∙ ap (λ t. part n m f xs + t) (picked_once m f xs once)

pub part_missing : (n m : ℕ) (f : ℕ → ℕ) (xs : List ℕ) → n ≤ m → times m xs ≡ 0 → part n (suc m) f xs ≡ part n m f xs
part_missing n m f xs le none = let more = part_more n m f xs le in let nothing = picked_none m f xs none in omega arith

pub part_empty : (n m : ℕ) (f : ℕ → ℕ) (xs : List ℕ) → m ≤ n → part n m f xs ≡ 0
unfolding part
part_empty n m f [] le = refl
part_empty n m f (x ∷ xs) le = let rest = part_empty n m f xs le in elim (cases_lt x n) [
  | inl low ↦ let none = between_low n m f x low in omega (arith, rest)
  | inr from ↦ let none = between_high n m f x (omega arith) in omega (arith, rest)
]

pub part_append : (n m : ℕ) (f : ℕ → ℕ) (xs ys : List ℕ) → part n m f (xs ++ ys) ≡ part n m f xs + part n m f ys
unfolding part
part_append n m f [] ys = omega arith
part_append n m f (x ∷ xs) ys = let rest = part_append n m f xs ys in omega (arith, rest)

pub part_below : (n m : ℕ) (f : ℕ → ℕ) (xs : List ℕ) → part n m f xs ≤ total f xs
unfolding part
part_below n m f [] = omega arith
part_below n m f (x ∷ xs) = let rest = part_below n m f xs in let here = between_below n m f x in omega (arith, rest)

pub part_sum : (n m : ℕ) (f g : ℕ → ℕ) (xs : List ℕ) → part n m (λ i. f i + g i) xs ≡ part n m f xs + part n m g xs
unfolding part
part_sum n m f g [] = refl
part_sum n m f g (x ∷ xs) = let rest = part_sum n m f g xs in elim (cases_lt x n) [
  | inl low ↦ let a = between_low n m f x low in let b = between_low n m g x low in let c = between_low n m (λ i. f i + g i) x low in omega (arith, rest)
  | inr from ↦ elim (cases_lt x m) [
    | inl lt ↦ let a = between_in n m f x from lt in let b = between_in n m g x from lt in let c = between_in n m (λ i. f i + g i) x from lt in omega (arith, rest)
    | inr high ↦ let a = between_high n m f x high in let b = between_high n m g x high in let c = between_high n m (λ i. f i + g i) x high in omega (arith, rest)
  ]
]

-- where f is at most k times g at each place
pub part_times : (n m k : ℕ) (f g : ℕ → ℕ) (xs : List ℕ) → ((i : ℕ) → f i ≤ k * g i) → part n m f xs ≤ k * part n m g xs
unfolding part
part_times n m k f g [] below = omega arith
part_times n m k f g (x ∷ xs) below =
    let rest = part_times n m k f g xs below in let d = mul-add k (between n m g x) (total (between n m g) xs) in elim (cases_lt x n) [
      | inl low ↦ let a = between_low n m f x low in omega (arith, rest, d, a)
      | inr from ↦ elim (cases_lt x m) [
        | inl lt ↦ let a = between_in n m f x from lt in let e : between n m f x ≤ k * between n m g x = subst (λ t. between n m f x ≤ k * t) (sym (between_in n m g x from lt)) (subst (λ t. t ≤ k * g x) (sym a) (below x)) in omega (arith, rest, d, e)
        | inr high ↦ let a = between_high n m f x high in omega (arith, rest, d, a)
      ]
    ]

-- a list without places from n on
pub part_none : (n m : ℕ) (f : ℕ → ℕ) (xs : List ℕ) → Each (λ i. i < n) xs → part n m f xs ≡ 0
unfolding part
part_none n m f [] all = refl
part_none n m f (x ∷ xs) all = let rest = part_none n m f xs all.1 in let none = between_low n m f x all.0 in omega (arith, rest)

-- the weights of the places of a list that are below n
early_one : (ℕ → ℤ) → ℕ → ℕ → ℤ
early_one w n i = cond (nat_lt i n) (w i) (pos 0)

early_in : (w : ℕ → ℤ) (n i : ℕ) → i < n → early_one w n i ≡ w i
unfolding early_one
early_in w n i lt = ap (λ b. cond b (w i) (pos 0)) (lt-ltb i n lt)

early_out : (w : ℕ → ℤ) (n i : ℕ) → n ≤ i → early_one w n i ≡ pos 0
unfolding early_one
early_out w n i le = ap (λ b. cond b (w i) (pos 0)) (le-ltb i n le)

pub early : (ℕ → ℤ) → ℕ → List ℕ → ℤ
early w n [] = pos 0
early w n (i ∷ is) = early_one w n i +ℤ early w n is

early_nothing : (w : ℕ → ℤ) (xs : List ℕ) → early w 0 xs ≡ pos 0
unfolding early
early_nothing w [] = refl
early_nothing w (x ∷ xs) = let rest = early_nothing w xs in let here = early_out w 0 x (omega arith) in omega (arith, ints, rest, here)

early_missing : (w : ℕ → ℤ) (n : ℕ) (xs : List ℕ) → times n xs ≡ 0 → early w (suc n) xs ≡ early w n xs
unfolding early
early_missing w n [] none = refl
early_missing w n (x ∷ xs) none = elim (one_cases n x) [
  | inl here ↦ let one = here.1 in absurd (omega arith)
  | inr other ↦ let zero_here = other.1 in let rest = early_missing w n xs (omega arith) in
      elim (cases_lt x n) [
        | inl lt ↦ let a = early_in w n x lt in let b = early_in w (suc n) x (omega arith) in omega (arith, ints, rest, a, b)
        | inr le ↦ let differ : n ≡ x → ⊥ = other.0 in elim (cases_eq n x) [
          | inl same ↦ absurd (differ same)
          | inr apart ↦ let a = early_out w n x le in let b = early_out w (suc n) x (omega arith) in omega (arith, ints, rest, a, b)
        ]
      ]
]

early_once : (w : ℕ → ℤ) (n : ℕ) (xs : List ℕ) → times n xs ≡ 1 → early w (suc n) xs ≡ early w n xs +ℤ w n
unfolding early
early_once w n [] once = absurd (omega arith)
early_once w n (x ∷ xs) once = elim (one_cases n x) [
  | inl here ↦ let one = here.1 in let same : n ≡ x = here.0 in let rest = early_missing w n xs (omega arith) in
      let a = early_in w (suc n) x (omega arith) in let b = early_out w n x (omega arith) in let c : w n ≡ w x = ap w same in omega (arith, ints, rest, a, b, c)
  | inr other ↦ let zero_here = other.1 in let rest = early_once w n xs (omega arith) in
      elim (cases_lt x n) [
        | inl lt ↦ let a = early_in w n x lt in let b = early_in w (suc n) x (omega arith) in omega (arith, ints, rest, a, b)
        | inr le ↦ let differ : n ≡ x → ⊥ = other.0 in elim (cases_eq n x) [
          | inl same ↦ absurd (differ same)
          | inr apart ↦ let a = early_out w n x le in let b = early_out w (suc n) x (omega arith) in omega (arith, ints, rest, a, b)
        ]
      ]
]

pub live_append : (xs ys : List Action) → live_words (xs ++ ys) ≡ live_words xs +ℤ live_words ys
live_append [] ys = omega (arith, ints)
live_append (x ∷ xs) ys = let rest = live_append xs ys in omega (arith, ints, rest)

-- where each place below n is done once, their weights sum to those of the first n actions
pub early_all : (l : List Action) (n : ℕ) (xs : List ℕ) → n ≤ length l → ((i : ℕ) → i < n → times i xs ≡ 1) → early (weight_at l) n xs ≡ live_words (take n l)
early_all l zero xs inside once = early_nothing (weight_at l) xs
early_all l (suc n) xs inside once = all l n xs inside (once n (omega arith)) (early_all l n xs (omega arith) (λ i lt. once i (omega arith)))
  where
    tail : (a b : ℤ) → a +ℤ b ≡ a +ℤ (b +ℤ pos 0)
    tail a b = omega (arith, ints)

    all : (l : List Action) (n : ℕ) (xs : List ℕ) → suc n ≤ length l → times n xs ≡ 1 → early (weight_at l) n xs ≡ live_words (take n l)
        → early (weight_at l) (suc n) xs ≡ live_words (take (suc n) l)
    all l n xs inside once before =
        let more : take (n + 1) l ≡ take n l ++ action_at l n ∷ [] = take_more l n _ (omega arith) in
        let same : take (suc n) l ≡ take (n + 1) l = let e : suc n ≡ n + 1 = omega arith in ap (λ t. take t l) e in
        let sum = live_append (take n l) (action_at l n ∷ []) in
        let step = early_once (weight_at l) n xs once in
        step ∙ ap (λ t. t +ℤ weight (action_at l n)) before ∙ tail (live_words (take n l)) (weight (action_at l n)) ∙ sym sum ∙ sym (ap live_words (same ∙ more))

-- all weights are those of the places below n, and at most what the others gain
pub split_at : (l : List Action) (n m : ℕ) (gain : ℕ → ℕ) (xs : List ℕ) → ((i : ℕ) → i < m → weight_at l i ≤ℤ pos (gain i)) → Each (λ i. i < m) xs
    → live_words (map (action_at l) xs) ≤ℤ (early (weight_at l) n xs +ℤ pos (part n m gain xs))
unfolding early part
split_at l n m gain [] above all = omega (arith, ints)
split_at l n m gain (x ∷ xs) above all =
    let rest = split_at l n m gain xs above all.1 in
    elim (cases_lt x n) [
      | inl lt ↦ let a = early_in (weight_at l) n x lt in let b = between_low n m gain x lt in omega (arith, ints, rest, a, b)
      | inr le ↦ let a = early_out (weight_at l) n x le in let b = between_in n m gain x le all.0 in let c = above x all.0 in omega (arith, ints, rest, a, b, c)
    ]

-- where all places are below n, the part below n is the whole
pub total_is_part : (n : ℕ) (f : ℕ → ℕ) (xs : List ℕ) → Each (λ i. i < n) xs → total f xs ≡ part 0 n f xs
unfolding part
total_is_part n f [] inside = refl
total_is_part n f (x ∷ xs) inside = let rest = total_is_part n f xs inside.1 in let here = between_in 0 n f x (omega arith) inside.0 in omega (arith, rest, here)
