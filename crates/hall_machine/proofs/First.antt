-- The law of the seats where a hall begins.
use Rattle.std.proofs.Common.{◌≡◌, ℕ, zero, suc, ◌+◌, ◌<◌, ◌≤◌, Bool, true, false, cond, min, nat_eq, [], ◌∷◌, length, inl, inr, refl, sym, ap, subst, ◌∙◌, arith, true≢false}
use Rattle.std.specs.Prelude.{Option, None, Some, slice_get}
use Rattle.std.proofs.lemmas.Option.{none-some, same_Some}
use Rattle.deque_list.specs.declared.deque_id.DequeId.{DequeId}
use Rattle.deque_list.specs.declared.place.Place.{Place}
use Rattle.deque_machine.specs.Lists.{Among, Each, times, one_if_same}
use Rattle.deque_machine.proofs.Lists.{one_cases}
use Rattle.deque_machine.specs.Moments.{opening}
use Rattle.deque_machine.specs.Machine.{Setting}
use Rattle.hall_machine.specs.Writing.{place_of}
use Rattle.hall_machine.specs.Views.{View, fresh, in_hall, stands_for}
use Rattle.hall_machine.specs.Crew.{SeatStands}
use Rattle.hall_machine.specs.Changes.{FirstCrew}

-- a seat with a place, which has not left, is in
pub is_in : (places : ℕ) → 0 < places → in_hall places false ≡ 1
is_in zero some = absurd (omega (arith, some))
is_in (suc places) some = refl

-- so is any seat that has one, as much as a seat with one place
pub as_with_one : (places : ℕ) (left : Bool) → 0 < places → in_hall places left ≡ in_hall 1 left
as_with_one zero left some = absurd (omega (arith, some))
as_with_one (suc places) true some = refl
as_with_one (suc places) false some = refl

pub none_is : {X : Type 0} (x : Option X) → x ≡ None → (y : X) → x ≡ Some y → ⊥
none_is x none y is = none-some y (sym none ∙ is)

pub first_crew : (s : Setting) → FirstCrew s
first_crew s limits h x worker first crew kept low = record {
  places = omega arith;
  named = λ w. ap (times w) crew ∙ one_of_it w;
  sized = ap length crew ∙ sym (ap (λ n. (n + 0) + 0) (is_in s.workers some));
  numbered = subst (Each (λ w. w < s.workers)) (sym crew) (low, tt);
  once = λ w. let counted = ap (times w) crew in at_most_one w counted;
  owners = subst (Each (λ place. (v : ℕ) → place.owner ≡ Some v → 0 < times v h.list.crew)) (sym first.places) (λ v is. absurd (none-some v is), tt);
  counted = none_done limits.actions;
  above = none_above limits.actions _;
  in_periods = tt;
  known = tt;
  unplaced = (λ none. let n = some in absurd (omega (arith, n, none)), tt);
  seats = λ seat v is placed. one_seat seat v is;
  none_free = λ yielded. tt;
  kept = λ end is. absurd (none_is h.list.kept kept end is);
}
  where
    some : 0 < s.workers
    some = omega (arith, low)

    one_of_it : (w : ℕ) → one_if_same w worker + 0 ≡ stands_for w (fresh worker s.workers) + 0
    one_of_it w = ap (λ n. cond (nat_eq w worker) n 0 + 0) (sym (is_in s.workers some)) ∙ more (cond (nat_eq w worker) (in_hall s.workers false) 0)
      where
        more : (n : ℕ) → n + 0 ≡ (n + 0) + 0
        more n = omega arith

    at_most_one : (w : ℕ) → times w h.list.crew ≡ one_if_same w worker + 0 → times w h.list.crew ≤ 1
    at_most_one w counted = elim (one_cases w worker) [
      | inl same ↦ let one = same.1 in omega (arith, counted, one)
      | inr other ↦ let none = other.1 in omega (arith, counted, none)
    ]

    none_done : (n : ℕ) → min 0 n ≡ 0
    none_done n = omega arith

    none_above : (n k : ℕ) → 0 ≤ n + k
    none_above n k = omega arith

    no_place : (id : DequeId) → Among (place_of id (Some worker)) h.list.places → ⊥
    no_place id there = elim (subst (Among (place_of id (Some worker))) first.places there) [
      | inl is ↦ none-some worker (sym (ap (λ p. Place.owner p) is))
      | inr nowhere ↦ nowhere
    ]

    stands : SeatStands s limits h [] opening refl 0 (fresh worker s.workers)
    stands = record {
      owns = λ id is. absurd (none-some id is);
      owned = λ here id there. absurd (no_place id there);
      gone = λ left. refl;
      told = refl;
      runs = λ id is p runs. absurd (none-some id is);
      counts = λ counting. absurd (true≢false (sym counting));
      enters = λ w is. absurd (none-some w is);
      found = λ stop is. absurd (none-some stop is);
      answered = λ end is. absurd (none-some end is);
    }

    one_seat : (seat : ℕ) (v : View) → slice_get (fresh worker s.workers ∷ []) seat ≡ Some v → SeatStands s limits h [] opening refl seat v
    one_seat zero v is = subst (SeatStands s limits h [] opening refl 0) (same_Some (fresh worker s.workers) v is) stands
    one_seat (suc seat) v is = absurd (none-some v is)
