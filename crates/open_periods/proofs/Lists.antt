-- Lists of periods with one that comes, changes, or goes to the closed ones.
use Rattle.std.proofs.Common.{◌≡◌, ◌≢◌, ℕ, zero, suc, ◌+◌, ◌≤◌, ◌⊎◌, List, [], ◌∷◌, ◌++◌, map, inl, inr, refl, sym, ap, subst, ◌∙◌, arith, append_assoc}
use Rattle.std.specs.Prelude.{Option, Some, slice_get, slice_set}
use Rattle.std.proofs.lemmas.List.{map-append}
use Rattle.std.proofs.lemmas.Option.{same_Some, none-some}
use Rattle.deque_machine.specs.Lists.{Among, Each, Differ}
use Rattle.deque_machine.proofs.Lists.{each_from, each_among, each_join, each_left, each_right, among_middle, among_wider, among_here, differ_at, differ_without}
use Rattle.space_ledger.specs.declared.book.Closed.{Closed}
use Rattle.open_periods.specs.Periods.{Period, Adds, Replaces, closed_shown}
use Rattle.open_periods.specs.declared.seat.Seat.{Seat}
use Rattle.open_periods.specs.Numbers.{period_of_seat, open_periods, all_periods, NumbersDiffer, NumbersWithin}
use Rattle.open_periods.specs.TableLaws.{ReplacedTwice}

abbrev num : Period → ℕ
num p = p.number

module _ {X : Type 0} where
  pub place_of_among : (x : X) (xs : List X) → Among x xs → (i : ℕ) × (slice_get xs i ≡ Some x)
  place_of_among x [] there = absurd there
  place_of_among x (y ∷ xs) there = elim there [
    | inl same ↦ (0, ap Some (sym same))
    | inr later ↦ let found = place_of_among x xs later in (suc found.0, found.1)
  ]

  pub among_of_place : (x : X) (xs : List X) (i : ℕ) → slice_get xs i ≡ Some x → Among x xs
  among_of_place x [] i is = absurd (none-some x is)
  among_of_place x (y ∷ xs) zero is = inl (sym (same_Some y x is))
  among_of_place x (y ∷ xs) (suc i) is = inr (among_of_place x xs i is)

  pub differ_with : (a : List X) (x : X) (b : List X) → Differ (a ++ b) → ¬ Among x (a ++ b) → Differ (a ++ x ∷ b)
  differ_with [] x b all new = (new, all)
  differ_with (y ∷ a) x b all new = (
    λ there. elim (among_middle y a x b there) [ inl same ↦ new (inl (sym same)) | inr beside ↦ all.0 beside ],
    differ_with a x b all.1 (λ there. new (inr there)),
  )

  pub set_same : (xs : List X) (i : ℕ) (x y : X) → slice_get xs i ≡ Some y → slice_get (slice_set xs i x) i ≡ Some x
  set_same [] i x y is = absurd (none-some y is)
  set_same (z ∷ xs) zero x y is = refl
  set_same (z ∷ xs) (suc i) x y is = set_same xs i x y is

  pub set_other : (xs : List X) (i j : ℕ) (x : X) → j ≢ i → slice_get (slice_set xs i x) j ≡ slice_get xs j
  set_other [] i j x other = refl
  set_other (z ∷ xs) zero zero x other = absurd (other refl)
  set_other (z ∷ xs) zero (suc j) x other = refl
  set_other (z ∷ xs) (suc i) zero x other = refl
  set_other (z ∷ xs) (suc i) (suc j) x other = set_other xs i j x (λ e. other (ap suc e))

numbered_among : (p : Period) (ps : List Period) → Among p ps → Among p.number (map num ps)
numbered_among p [] there = there
numbered_among p (q ∷ ps) there = elim there [ inl same ↦ inl (ap (λ t. Period.number t) same) | inr later ↦ inr (numbered_among p ps later) ]

among_numbered : (n : ℕ) (ps : List Period) → Among n (map num ps) → (p : Period) × Among p ps × (n ≡ p.number)
among_numbered n [] there = absurd there
among_numbered n (q ∷ ps) there = elim there [
  | inl same ↦ (q, inl refl, same)
  | inr later ↦ let found = among_numbered n ps later in (found.0, inr found.1, found.2)
]

pub to_differ : (ps : List Period) → NumbersDiffer ps → Differ (map num ps)
to_differ [] all = tt
to_differ (p ∷ ps) all = (
  λ there. let found = among_numbered p.number ps there in let place = place_of_among found.0 ps found.1 in
      let e : 0 ≡ suc place.0 = all 0 (suc place.0) p found.0 refl place.1 found.2 in absurd (omega (arith, e)),
  to_differ ps (λ i j q r q_there r_there same. let e = all (suc i) (suc j) q r q_there r_there same in omega (arith, e)),
)

pub from_differ : (ps : List Period) → Differ (map num ps) → NumbersDiffer ps
from_differ [] all i j p q p_there q_there same = absurd (none-some p p_there)
from_differ (x ∷ ps) all zero zero p q p_there q_there same = refl
from_differ (x ∷ ps) all zero (suc j) p q p_there q_there same =
    absurd (all.0 (subst (λ n. Among n (map num ps)) (sym same ∙ ap num (sym (same_Some x p p_there))) (numbered_among q ps (among_of_place q ps j q_there))))
from_differ (x ∷ ps) all (suc i) zero p q p_there q_there same =
    absurd (all.0 (subst (λ n. Among n (map num ps)) (same ∙ ap num (sym (same_Some x q q_there))) (numbered_among p ps (among_of_place p ps i p_there))))
from_differ (x ∷ ps) all (suc i) (suc j) p q p_there q_there same = ap suc (from_differ ps all.1 i j p q p_there q_there same)

pub to_within : (ps : List Period) (n : ℕ) → NumbersWithin ps n → Each (λ p. p.number ≤ n) ps
to_within ps n all = each_from (λ p. p.number ≤ n) ps (λ p there. let place = place_of_among p ps there in all place.0 p place.1)

pub from_within : (ps : List Period) (n : ℕ) → Each (λ p. p.number ≤ n) ps → NumbersWithin ps n
from_within ps n all i p there = each_among (λ q. q.number ≤ n) p ps all (among_of_place p ps i there)

-- the numbers with one period in the middle
numbers_are : (a : List Period) (p : Period) (b : List Period) → map num (a ++ p ∷ b) ≡ map num a ++ p.number ∷ map num b
numbers_are a p b = map-append num a (p ∷ b)

pub others_differ : (a : List Period) (p : Period) (b : List Period) → NumbersDiffer (a ++ p ∷ b) → (q : Period) → Among q (a ++ b) → q.number ≢ p.number
others_differ a p b all q there same =
    differ_at (map num a) p.number (map num b) (subst Differ (numbers_are a p b) (to_differ (a ++ p ∷ b) all))
    (subst (λ n. Among n (map num a ++ map num b)) same (subst (Among q.number) (map-append num a b) (numbered_among q (a ++ b) there)))

-- a period that changes in its place
pub changed_differ : (a : List Period) (p q : Period) (b : List Period) → q.number ≡ p.number → NumbersDiffer (a ++ p ∷ b) → NumbersDiffer (a ++ q ∷ b)
changed_differ a p q b same all = from_differ (a ++ q ∷ b)
    (subst Differ (numbers_are a p b ∙ ap (λ n. map num a ++ n ∷ map num b) (sym same) ∙ sym (numbers_are a q b)) (to_differ (a ++ p ∷ b) all))

pub changed_within : (a : List Period) (p q : Period) (b : List Period) (n : ℕ) → q.number ≡ p.number → NumbersWithin (a ++ p ∷ b) n → NumbersWithin (a ++ q ∷ b) n
changed_within a p q b n same all =
    let each = to_within (a ++ p ∷ b) n all in
    let here : p.number ≤ n = (each_right (λ r. r.number ≤ n) a (p ∷ b) each).0 in
    from_within (a ++ q ∷ b) n (each_join (λ r. r.number ≤ n) a (q ∷ b) (each_left (λ r. r.number ≤ n) a (p ∷ b) each)
    (omega (arith, here, same), (each_right (λ r. r.number ≤ n) a (p ∷ b) each).1))

pub changed : (a : List Period) (p q : Period) (b : List Period) → q.number ≡ p.number → NumbersDiffer (a ++ p ∷ b) → Replaces (a ++ p ∷ b) p q (a ++ q ∷ b)
changed a p q b same all = record {
  was_there = among_here p a b;
  same_number = same;
  there = among_here q a b;
  kept = each_from (λ r. r.number ≢ p.number → Among r (a ++ q ∷ b)) (a ++ p ∷ b) (λ r there other. elim (among_middle r a p b there) [
    | inl is ↦ absurd (other (ap num is))
    | inr beside ↦ among_wider r a q b beside
  ]);
  no_more = each_from (λ r. (r ≡ q) ⊎ (Among r (a ++ p ∷ b) × (r.number ≢ p.number))) (a ++ q ∷ b) (λ r there. elim (among_middle r a q b there) [
    | inl is ↦ inl is
    | inr beside ↦ inr (among_wider r a p b beside, others_differ a p b all r beside)
  ]);
}

-- a period that comes, with a number above the others
pub added_differ : (a : List Period) (p : Period) (b : List Period) (n : ℕ) → p.number ≡ n + 1 → NumbersDiffer (a ++ b) → NumbersWithin (a ++ b) n → NumbersDiffer (a ++ p ∷ b)
added_differ a p b n number all within = from_differ (a ++ p ∷ b) (subst Differ (sym (numbers_are a p b))
    (differ_with (map num a) p.number (map num b) (subst Differ (map-append num a b) (to_differ (a ++ b) all))
    (λ there. let found = among_numbered p.number (a ++ b) (subst (Among p.number) (sym (map-append num a b)) there) in
    let most = each_among (λ r. r.number ≤ n) found.0 (a ++ b) (to_within (a ++ b) n within) found.1 in let same = found.2 in absurd (omega (arith, number, most, same)))))

pub added_within : (a : List Period) (p : Period) (b : List Period) (n : ℕ) → p.number ≡ n + 1 → NumbersWithin (a ++ b) n → NumbersWithin (a ++ p ∷ b) (n + 1)
added_within a p b n number within =
    let each = each_wider (a ++ b) (to_within (a ++ b) n within) in
    from_within (a ++ p ∷ b) (n + 1) (each_join (λ r. r.number ≤ n + 1) a (p ∷ b) (each_left (λ r. r.number ≤ n + 1) a b each)
    (omega (arith, number), each_right (λ r. r.number ≤ n + 1) a b each))
  where
    each_wider : (ps : List Period) → Each (λ r. r.number ≤ n) ps → Each (λ r. r.number ≤ n + 1) ps
    each_wider [] all = tt
    each_wider (q ∷ ps) all = (let low = all.0 in omega (arith, low), each_wider ps all.1)

pub adds : (a : List Period) (p : Period) (b : List Period) → Adds (a ++ b) p (a ++ p ∷ b)
adds a p b = record {
  there = among_here p a b;
  kept = each_from (λ r. Among r (a ++ p ∷ b)) (a ++ b) (λ r there. among_wider r a p b there);
  no_more = each_from (λ r. (r ≡ p) ⊎ Among r (a ++ b)) (a ++ p ∷ b) (λ r there. among_middle r a p b there);
}

-- a period that goes from the open ones to the closed ones, and is another one there
pub moved_differ : (c a : List Period) (p q : Period) (b : List Period) → q.number ≡ p.number → NumbersDiffer ((c ++ a) ++ p ∷ b) → NumbersDiffer (c ++ q ∷ (a ++ b))
moved_differ c a p q b same all =
    let were = subst Differ (numbers_are (c ++ a) p b) (to_differ ((c ++ a) ++ p ∷ b) all) in
    let joined : map num (c ++ a) ++ map num b ≡ map num c ++ map num (a ++ b) =
    ap (λ t. t ++ map num b) (map-append num c a) ∙ append_assoc (map num c) (map num a) (map num b) ∙ ap (λ t. map num c ++ t) (sym (map-append num a b)) in
    from_differ (c ++ q ∷ (a ++ b)) (subst Differ (sym (numbers_are c q (a ++ b)))
    (differ_with (map num c) q.number (map num (a ++ b)) (subst Differ joined (differ_without (map num (c ++ a)) p.number (map num b) were))
    (λ there. differ_at (map num (c ++ a)) p.number (map num b) were (subst (λ n. Among n (map num (c ++ a) ++ map num b)) same (subst (Among q.number) (sym joined) there)))))

pub moved_within : (c a : List Period) (p q : Period) (b : List Period) (n : ℕ) → q.number ≡ p.number → NumbersWithin ((c ++ a) ++ p ∷ b) n → NumbersWithin (c ++ q ∷ (a ++ b)) n
moved_within c a p q b n same all =
    let each = to_within ((c ++ a) ++ p ∷ b) n all in
    let front = each_left (λ r. r.number ≤ n) (c ++ a) (p ∷ b) each in
    let back = each_right (λ r. r.number ≤ n) (c ++ a) (p ∷ b) each in
    let here : p.number ≤ n = back.0 in
    from_within (c ++ q ∷ (a ++ b)) n (each_join (λ r. r.number ≤ n) c (q ∷ (a ++ b)) (each_left (λ r. r.number ≤ n) c a front)
    (omega (arith, here, same), each_join (λ r. r.number ≤ n) a b (each_right (λ r. r.number ≤ n) c a front) back.1))

pub moved : (c a : List Period) (p q : Period) (b : List Period) → q.number ≡ p.number → NumbersDiffer ((c ++ a) ++ p ∷ b) → Replaces ((c ++ a) ++ p ∷ b) p q (c ++ q ∷ (a ++ b))
moved c a p q b same all = record {
  was_there = among_here p (c ++ a) b;
  same_number = same;
  there = among_here q c (a ++ b);
  kept = each_from (λ r. r.number ≢ p.number → Among r (c ++ q ∷ (a ++ b))) ((c ++ a) ++ p ∷ b) (λ r there other. elim (among_middle r (c ++ a) p b there) [
    | inl is ↦ absurd (other (ap num is))
    | inr beside ↦ among_wider r c q (a ++ b) (subst (Among r) (append_assoc c a b) beside)
  ]);
  no_more = each_from (λ r. (r ≡ q) ⊎ (Among r ((c ++ a) ++ p ∷ b) × (r.number ≢ p.number))) (c ++ q ∷ (a ++ b)) (λ r there. elim (among_middle r c q (a ++ b) there) [
    | inl is ↦ inl is
    | inr beside ↦ let was = subst (Among r) (sym (append_assoc c a b)) beside in inr (among_wider r (c ++ a) p b was, others_differ (c ++ a) p b all r was)
  ]);
}

-- the open periods with the seat of one worker in the middle
pub record SeatCut (k : ℕ) (seats : List (Option Seat)) (w : ℕ) (s : Option Seat) : Type 0 where
  pub left : List Period
  pub right : List Period
  pub are : open_periods k seats ≡ left ++ (period_of_seat (k + w) s ++ right)
  pub with_seat : (x : Option Seat) → open_periods k (slice_set seats w x) ≡ left ++ (period_of_seat (k + w) x ++ right)

pub cut_seat : (k : ℕ) (seats : List (Option Seat)) (w : ℕ) (s : Option Seat) → slice_get seats w ≡ Some s → SeatCut k seats w s
cut_seat k [] w s is = absurd (none-some s is)
cut_seat k (y ∷ seats) zero s is =
    let e : k + 0 ≡ k = omega arith in
    record {
      left = [];
      right = open_periods (suc k) seats;
      are = ap (λ t. period_of_seat k t ++ open_periods (suc k) seats) (same_Some y s is) ∙ ap (λ n. period_of_seat n s ++ open_periods (suc k) seats) (sym e);
      with_seat = λ x. ap (λ n. period_of_seat n x ++ open_periods (suc k) seats) (sym e);
    }
cut_seat k (y ∷ seats) (suc w) s is =
    let rest = cut_seat (suc k) seats w s is in
    let e : suc k + w ≡ k + suc w = omega arith in
    record {
      left = period_of_seat k y ++ rest.left;
      right = rest.right;
      are = ap (λ t. period_of_seat k y ++ t) (rest.are ∙ ap (λ n. rest.left ++ (period_of_seat n s ++ rest.right)) e)
          ∙ sym (append_assoc (period_of_seat k y) rest.left (period_of_seat (k + suc w) s ++ rest.right));
      with_seat = λ x. ap (λ t. period_of_seat k y ++ t) (rest.with_seat x ∙ ap (λ n. rest.left ++ (period_of_seat n x ++ rest.right)) e)
          ∙ sym (append_assoc (period_of_seat k y) rest.left (period_of_seat (k + suc w) x ++ rest.right));
    }

-- all periods, cut there
pub record TableCut (closed : List Closed) (seats : List (Option Seat)) (w : ℕ) (s : Option Seat) : Type 0 where
  pub left : List Period
  pub right : List Period
  pub are : all_periods closed seats ≡ (map closed_shown closed ++ left) ++ (period_of_seat w s ++ right)
  pub with_seat : (x : Option Seat) → all_periods closed (slice_set seats w x) ≡ (map closed_shown closed ++ left) ++ (period_of_seat w x ++ right)

pub cut_table : (closed : List Closed) (seats : List (Option Seat)) (w : ℕ) (s : Option Seat) → slice_get seats w ≡ Some s → TableCut closed seats w s
cut_table closed seats w s is =
    let cut = cut_seat 0 seats w s is in
    let e : 0 + w ≡ w = omega arith in
    record {
      left = cut.left;
      right = cut.right;
      are = ap (λ t. map closed_shown closed ++ t) (cut.are ∙ ap (λ n. cut.left ++ (period_of_seat n s ++ cut.right)) e)
          ∙ sym (append_assoc (map closed_shown closed) cut.left (period_of_seat w s ++ cut.right));
      with_seat = λ x. ap (λ t. map closed_shown closed ++ t) (cut.with_seat x ∙ ap (λ n. cut.left ++ (period_of_seat n x ++ cut.right)) e)
          ∙ sym (append_assoc (map closed_shown closed) cut.left (period_of_seat w x ++ cut.right));
    }

pub replaced_twice : ReplacedTwice
replaced_twice first second third a b c one two = record {
  was_there = one.was_there;
  same_number = two.same_number ∙ one.same_number;
  there = two.there;
  kept = each_from (λ r. r.number ≢ a.number → Among r third) first (λ r there other.
      each_among (λ p. p.number ≢ b.number → Among p third) r second two.kept (each_among (λ p. p.number ≢ a.number → Among p second) r first one.kept there other)
      (λ e. other (e ∙ one.same_number)));
  no_more = each_from (λ r. (r ≡ c) ⊎ (Among r first × (r.number ≢ a.number))) third (λ r there.
      elim (each_among (λ p. (p ≡ c) ⊎ (Among p second × (p.number ≢ b.number))) r third two.no_more there) [
        | inl is ↦ inl is
        | inr known ↦ elim (each_among (λ p. (p ≡ b) ⊎ (Among p first × (p.number ≢ a.number))) r second one.no_more known.0) [
          | inl is ↦ absurd (known.1 (ap num is))
          | inr was ↦ inr was
        ]
      ]);
}
