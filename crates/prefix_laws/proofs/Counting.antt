-- What stands in books, and how many books go past the first actions.
use Rattle.std.proofs.Common.{◌≡◌, ℕ, zero, suc, ◌+◌, ◌<◌, ◌≤◌, length, Bool, true, false, List, [], ◌∷◌, ◌++◌, map, take, inl, inr, refl, sym, ap, subst, ◌∙◌, arith}
use Rattle.std.specs.Prelude.{Some, slice_get, nat_le, ◌||◌, cond}
use Rattle.std.proofs.lemmas.List.{map-append}
use Rattle.std.proofs.lemmas.Bool.{le-leb}
use Rattle.std.proofs.lemmas.Bool.Decides.{leb_tells}
use Rattle.std.proofs.lemmas.Option.{same_Some, none-some}
use Rattle.containers.specs.declared.bounded_list.BoundedList.{BoundedList}
use Rattle.containers.specs.BoundedList.{entries}
use Rattle.depth_first_list.specs.Actions.{Action}
use Rattle.deque_machine.specs.Books.{Book, booked, done_in, IsPrefix, goes_past, periods_ahead}
use Rattle.deque_machine.specs.Lists.{Among, times}
use Rattle.deque_machine.proofs.Lists.{among_parts, among_left, among_right, times_among, among_times, total_append}
use Rattle.prefix_laws.specs.Prefixes.{ran_of, all_ran, places_behind, one_if_past, many_past}
use Rattle.prefix_laws.proofs.Places.{take_one_more}

pub less : (i n : ℕ) → i < n + 1 → (i ≡ n → ⊥) → i < n
less zero zero below other = absurd (other refl)
less zero (suc n) below other = omega arith
less (suc i) zero below other = absurd (omega (arith, below))
less (suc i) (suc n) below other = let rest = less i n (omega (arith, below)) (λ e. other (ap suc e)) in omega (arith, rest)

-- what stands in one of the books
pub ran_there : (x : ℕ) (books : List (BoundedList ℕ)) (i : ℕ) (book : BoundedList ℕ) → slice_get books i ≡ Some book → Among x (entries book)
    → Among x (all_ran (places_behind books))
ran_there x [] i book is among = absurd (none-some book is)
ran_there x (b ∷ books) zero book is among =
    among_left x (entries b) (all_ran (places_behind books)) (subst (λ (q : BoundedList ℕ). Among x (entries q)) (sym (same_Some b book is)) among)
ran_there x (b ∷ books) (suc i) book is among = among_right x (entries b) (all_ran (places_behind books)) (ran_there x books i book is among)

pub ran_from : (x : ℕ) (books : List (BoundedList ℕ)) → Among x (all_ran (places_behind books))
    → (i : ℕ) × (book : BoundedList ℕ) × (slice_get books i ≡ Some book) × Among x (entries book)
ran_from x [] there = absurd there
ran_from x (b ∷ books) there = elim (among_parts x (entries b) (all_ran (places_behind books)) there) [
  | inl here ↦ (0, b, refl, here)
  | inr later ↦ let rest = ran_from x books later in (suc rest.0, rest.1, rest.2, rest.3)
]

-- all that was run is what stands in the books
booked_are : (books : List Book) → all_ran (map ran_of books) ≡ booked books
booked_are [] = refl
booked_are (book ∷ books) = ap (λ ps. book.ran ++ ps) (booked_are books)

nothing : (n : ℕ) → (0 < n → ⊥) → n ≡ 0
nothing zero none = refl
nothing (suc n) none = absurd (none (omega arith))

pub prefix_is : (l : List Action) (books : List Book) (all : List (List ℕ)) (n : ℕ) → all ≡ map ran_of books → n ≤ length l
    → ((i : ℕ) → i < n → Among i (all_ran all)) → (n < length l → ¬ Among n (all_ran all)) → IsPrefix l (done_in books) n
prefix_is l books all n is inside done next =
    let same : all_ran all ≡ booked books = ap all_ran is ∙ booked_are books in record {
      inside = inside;
      all_done = λ i below. times_among i (booked books) (subst (Among i) same (done i below));
      next_missing = λ below. nothing (times n (booked books)) (λ some. next below (subst (Among n) (sym same) (among_times n (booked books) some)));
    }

-- books that go past
pub past_there : (n : ℕ) (places : List ℕ) (i place : ℕ) → slice_get places i ≡ Some place → n ≤ place → goes_past n places ≡ true
past_there n [] i place is past = absurd (none-some place is)
past_there n (p ∷ places) zero place is past = let same = same_Some p place is in by_test (nat_le n p) (le-leb n p (omega (arith, same, past)))
  where
    by_test : (b : Bool) → b ≡ true → b || goes_past n places ≡ true
    by_test b so = ap (λ a. a || goes_past n places) so
past_there n (p ∷ places) (suc i) place is past = by_test (nat_le n p) (past_there n places i place is past)
  where
    by_test : (b : Bool) → goes_past n places ≡ true → b || goes_past n places ≡ true
    by_test true so = refl
    by_test false so = so

no_le : (n p : ℕ) → ¬ (n ≤ p) → nat_le n p ≡ false
no_le n p none = elim (leb_tells n p) [ inl is ↦ absurd (none is.1) | inr is ↦ is.0 ]

pub none_past : (n : ℕ) (places : List ℕ) → ((i place : ℕ) → slice_get places i ≡ Some place → ¬ (n ≤ place)) → goes_past n places ≡ false
none_past n [] none = refl
none_past n (p ∷ places) none =
    ap (λ a. a || goes_past n places) (no_le n p (none 0 p refl)) ∙ none_past n places (λ i place is. none (suc i) place is)

-- and how many do
pub past_more : (n : ℕ) (books : List (BoundedList ℕ)) (i : ℕ) (book : BoundedList ℕ) (ahead one : ℕ) → slice_get books i ≡ Some book
    → ahead ≡ many_past n (places_behind (take i books)) → one ≡ one_if_past n (entries book)
    → ahead + one ≡ many_past n (places_behind (take (i + 1) books))
past_more n books i book ahead one is so this =
    let whole : many_past n (places_behind (take (i + 1) books)) ≡ many_past n (places_behind (take i books) ++ entries book ∷ []) =
    ap (many_past n) (ap places_behind (take_one_more books i book is) ∙ map-append entries (take i books) (book ∷ [])) in
    let parts = total_append (one_if_past n) (places_behind (take i books)) (entries book ∷ []) in
    omega (arith, so, this, whole, parts)

pub past_is_ahead : (n : ℕ) (books : List Book) → many_past n (map ran_of books) ≡ periods_ahead n books
past_is_ahead n [] = refl
past_is_ahead n (book ∷ books) = ap (λ m. one_if_past n book.ran + m) (past_is_ahead n books)

pub one_at_most : (n : ℕ) (ran : List ℕ) → one_if_past n ran ≤ 1
one_at_most n ran = by_test (goes_past n ran)
  where
    by_test : (b : Bool) → cond b 1 0 ≤ 1
    by_test true = omega arith
    by_test false = omega arith
