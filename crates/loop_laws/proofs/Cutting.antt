-- The parts of a block do not depend on how many cuts there may be, and are the block.
use Rattle.std.specs.Prelude.{◌≡◌, ℕ, zero, suc, ◌-◌, ◌%◌, ◌<◌, ◌≤◌, ◌&&◌, nat_eq, nat_le, Bool, true, false, if◌then◌else◌, List, [], ◌∷◌, ◌++◌, length, ℤ, pos, Some, None, refl}
use Rattle.std.proofs.Common.{sym, ◌∙◌, ap, arith, append-nil, append_assoc}
use Rattle.std.proofs.lemmas.Bool.{leb-true, leb-false, le-leb, lt-leb}
use Rattle.std.specs.List.{All}
use Rattle.std.proofs.lemmas.List.Elements.{All-nil, All-cons, All-append, All-same}
use Rattle.std.proofs.lemmas.List.{length-take, length-drop, take-append-drop}
use Rattle.depth_first_run.specs.Run.{cut_of}
use Rattle.loop_laws.specs.Parts.{half_of, left_half, right_half, parts_within, parts_of, joined_parts}

-- ---- halves

pub half_less : (n : ℕ) → 17 ≤ n → half_of n < n
half_less n le = omega (arith, le)

pub half_some : (n : ℕ) → 17 ≤ n → 1 ≤ half_of n
half_some n le = omega (arith, le)

pub half_whole : (n : ℕ) → half_of n % 16 ≡ 0
half_whole n = omega arith

pub left_length : (items : List ℤ) → 17 ≤ length items → length (left_half items) ≡ half_of (length items)
left_length items le =
    let l = length-take (half_of (length items)) items in
    let h : half_of (length items) < length items = half_less (length items) le in
    omega (arith, l, h)

pub right_length : (items : List ℤ) → length (right_half items) ≡ length items - half_of (length items)
right_length items = length-drop (half_of (length items)) items

-- a block may be cut at half of its length
pub half_may_be_cut : (items : List ℤ) → 17 ≤ length items → cut_of items (pos (half_of (length items))) ≡ Some (half_of (length items))
half_may_be_cut items le =
    let n : ℕ = length items in
    let h : ℕ = half_of n in
    let within : nat_le h n ≡ true = le-leb h n (let less = half_less n le in omega (arith, less)) in
    let whole : nat_eq (h % 16) 0 ≡ true = ap (λ m. nat_eq m 0) (half_whole n) in
    λ i. if within i && whole i then Some h else None

-- ---- cuts one within another

pub one_part : (cuts most : ℕ) (items : List ℤ) → length items ≤ most → parts_within cuts most items ≡ items ∷ []
unfolding parts_within
one_part zero most items le = refl
one_part (suc cuts) most items le =
    ap (λ t. if t then items ∷ [] else parts_within cuts most (left_half items) ++ parts_within cuts most (right_half items)) (le-leb (length items) most le)

pub two_halves : (cuts most : ℕ) (items : List ℤ) → most < length items
    → parts_within (suc cuts) most items ≡ parts_within cuts most (left_half items) ++ parts_within cuts most (right_half items)
unfolding parts_within
two_halves cuts most items more =
    ap (λ t. if t then items ∷ [] else parts_within cuts most (left_half items) ++ parts_within cuts most (right_half items)) (lt-leb (length items) most more)

more_cuts : (m n most : ℕ) (items : List ℤ) → 16 ≤ most → length items ≤ m → length items ≤ n → parts_within m most items ≡ parts_within n most items
more_cuts zero n most items big lm ln = one_part zero most items (omega (arith, big, lm)) ∙ sym (one_part n most items (omega (arith, big, lm)))
more_cuts (suc m) zero most items big lm ln = one_part (suc m) most items (omega (arith, big, ln)) ∙ sym (one_part zero most items (omega (arith, big, ln)))
more_cuts (suc m) (suc n) most items big lm ln = by (nat_le (length items) most) refl (more_cuts m n most (left_half items) big) (more_cuts m n most (right_half items) big)
  where
    by : (t : Bool) → nat_le (length items) most ≡ t
        → (length (left_half items) ≤ m → length (left_half items) ≤ n → parts_within m most (left_half items) ≡ parts_within n most (left_half items))
        → (length (right_half items) ≤ m → length (right_half items) ≤ n → parts_within m most (right_half items) ≡ parts_within n most (right_half items))
        → parts_within (suc m) most items ≡ parts_within (suc n) most items
    by true e left right =
        let le : length items ≤ most = leb-true (length items) most e in
        one_part (suc m) most items le ∙ sym (one_part (suc n) most items le)
    by false e left right =
        let more : most < length items = leb-false (length items) most e in
        let le : 17 ≤ length items = omega (arith, big, more) in
        let l = left_length items le in
        let r = right_length items in
        let less = half_less (length items) le in
        let some = half_some (length items) le in
        two_halves m most items more
        ∙ (λ i. left (omega (arith, l, less, lm)) (omega (arith, l, less, ln)) i ++ right (omega (arith, r, some, le, lm)) (omega (arith, r, some, le, ln)) i)
        ∙ sym (two_halves n most items more)

pub halved : (most : ℕ) (items : List ℤ) → 16 ≤ most → most < length items → parts_of most items ≡ parts_of most (left_half items) ++ parts_of most (right_half items)
halved most items big more = by (length items) refl
  where
    by : (n : ℕ) → length items ≡ n → parts_within (length items) most items ≡ parts_of most (left_half items) ++ parts_of most (right_half items)
    by zero e = absurd (omega (arith, e, more))
    by (suc n) e =
        let le : 17 ≤ length items = omega (arith, big, more) in
        let l = left_length items le in
        let r = right_length items in
        let less = half_less (length items) le in
        let some = half_some (length items) le in
        ap (λ m. parts_within m most items) e ∙ two_halves n most items more
        ∙ (λ i. more_cuts n (length (left_half items)) most (left_half items) big (omega (arith, l, less, e)) (omega arith) i
        ++ more_cuts n (length (right_half items)) most (right_half items) big (omega (arith, r, some, le, e)) (omega arith) i)

-- no part is longer than a part may be
abbrev Fits : ℕ → List ℤ → Type 0
Fits most part = length part ≤ most

one_fits : (most : ℕ) (items : List ℤ) → length items ≤ most → All (Fits most) (items ∷ [])
one_fits most items le = All-cons (Fits most) items [] le (All-nil (Fits most))

pub parts_fit : (cuts most : ℕ) (items : List ℤ) → 16 ≤ most → length items ≤ cuts → All (Fits most) (parts_within cuts most items)
parts_fit zero most items big fits =
    let le : length items ≤ most = omega (arith, fits) in
    All-same (Fits most) (parts_within zero most items) (items ∷ []) (one_part zero most items le) (one_fits most items le)
parts_fit (suc cuts) most items big fits = by (nat_le (length items) most) refl (parts_fit cuts most (left_half items) big) (parts_fit cuts most (right_half items) big)
  where
    by : (t : Bool) → nat_le (length items) most ≡ t
        → (length (left_half items) ≤ cuts → All (Fits most) (parts_within cuts most (left_half items)))
        → (length (right_half items) ≤ cuts → All (Fits most) (parts_within cuts most (right_half items)))
        → All (Fits most) (parts_within (suc cuts) most items)
    by true e left right =
        let le : length items ≤ most = leb-true (length items) most e in
        All-same (Fits most) (parts_within (suc cuts) most items) (items ∷ []) (one_part (suc cuts) most items le) (one_fits most items le)
    by false e left right =
        let more : most < length items = leb-false (length items) most e in
        let le : 17 ≤ length items = omega (arith, big, more) in
        let l = left_length items le in
        let r = right_length items in
        let less = half_less (length items) le in
        let some = half_some (length items) le in
        let lefts : List (List ℤ) = parts_within cuts most (left_half items) in
        let rights : List (List ℤ) = parts_within cuts most (right_half items) in
        All-same (Fits most) (parts_within (suc cuts) most items) (lefts ++ rights) (two_halves cuts most items more)
        (All-append (Fits most) lefts rights (left (omega (arith, l, less, fits))) (right (omega (arith, r, some, le, fits))))

-- there is a part
pub first_part : (cuts most : ℕ) (items : List ℤ) → (part : List ℤ) × (parts : List (List ℤ)) × (parts_within cuts most items ≡ part ∷ parts)
unfolding parts_within
first_part zero most items = (items, [], refl)
first_part (suc cuts) most items = by (nat_le (length items) most) refl (first_part cuts most (left_half items))
  where
    by : (t : Bool) → nat_le (length items) most ≡ t
        → ((part : List ℤ) × (parts : List (List ℤ)) × (parts_within cuts most (left_half items) ≡ part ∷ parts))
        → (part : List ℤ) × (parts : List (List ℤ)) × (parts_within (suc cuts) most items ≡ part ∷ parts)
    by true e left = (items, [], one_part (suc cuts) most items (leb-true (length items) most e))
    by false e left = (
      left.0,
      left.1 ++ parts_within cuts most (right_half items),
      two_halves cuts most items (leb-false (length items) most e) ∙ ap (λ (ps : List (List ℤ)). ps ++ parts_within cuts most (right_half items)) left.2,
    )

-- ---- the block

joined_append : (xs ys : List (List ℤ)) → joined_parts (xs ++ ys) ≡ joined_parts xs ++ joined_parts ys
joined_append [] ys = refl
joined_append (x ∷ xs) ys = ap (λ (zs : List ℤ). x ++ zs) (joined_append xs ys) ∙ sym (append_assoc x (joined_parts xs) (joined_parts ys))

joined_if : (t : Bool) (items : List ℤ) (left right : List (List ℤ)) → joined_parts left ≡ left_half items → joined_parts right ≡ right_half items
    → joined_parts (if t then items ∷ [] else left ++ right) ≡ items
joined_if true items left right l r = append-nil items
joined_if false items left right l r =
    joined_append left right ∙ (λ i. l i ++ r i) ∙ take-append-drop (half_of (length items)) items

pub joined_within : (cuts most : ℕ) (items : List ℤ) → joined_parts (parts_within cuts most items) ≡ items
unfolding parts_within
joined_within zero most items = append-nil items
joined_within (suc cuts) most items =
    joined_if (nat_le (length items) most) items (parts_within cuts most (left_half items)) (parts_within cuts most (right_half items))
    (joined_within cuts most (left_half items)) (joined_within cuts most (right_half items))
