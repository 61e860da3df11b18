-- Who is in a crew.
use Rattle.std.proofs.Common.{◌≡◌, ℕ, zero, suc, ◌<◌, ◌↔◌, List, [], ◌∷◌, ◌++◌, length, refl, sym, ap, ◌∙◌, arith}
use Rattle.std.specs.Prelude.{Option, None, Some, slice_get, remove, cond, IsTrue, MatchOption}
use Rattle.std.specs.Option.{is_some}
use Rattle.std.proofs.lemmas.Bool.{ne_eqb, eq-eqb}
use Rattle.std.proofs.lemmas.Option.{same_Some, none-some}
use Rattle.deque_machine.specs.Lists.{times, one_if_same}
use Rattle.open_periods.proofs.Sorting.{cut_at}
use Rattle.list_changes.proofs.Leaving.{remove_middle}
use Rattle.hall_slots.specs.ListCalls.{IsOutOf}

-- who is at no place is not in
pub none_times : (worker : ℕ) (crew : List ℕ) → ((place : ℕ) → place < length crew → ¬ (slice_get crew place ≡ Some worker)) → times worker crew ≡ 0
none_times worker [] none = refl
none_times worker (other ∷ crew) none = let here : one_if_same worker other ≡ 0 = ap (λ b. cond b 1 0) (ne_eqb worker other (λ e. none 0 (omega arith) (ap (λ (n : ℕ). Some n) (sym e)))) in
    let rest = none_times worker crew (λ place below at. none (suc place) (omega arith) at) in omega arith

-- who is at a place is in
pub times_at : (worker : ℕ) (crew : List ℕ) (place : ℕ) → slice_get crew place ≡ Some worker → 0 < times worker crew
times_at worker [] place at = absurd (none-some worker at)
times_at worker (other ∷ crew) zero at = let here : one_if_same worker other ≡ 1 = ap (λ b. cond b 1 0) (eq-eqb worker other (sym (same_Some other worker at))) in omega arith
times_at worker (other ∷ crew) (suc place) at = let rest = times_at worker crew place at in omega arith

-- so a place tells whether a worker is in
pub is_in : (worker : ℕ) (crew : List ℕ) (found : Option ℕ) → MatchOption found (times worker crew ≡ 0) (λ place. slice_get crew place ≡ Some worker) → IsTrue (is_some found) ↔ (0 < times worker crew)
is_in worker crew None none = (λ t. absurd (cc), λ more. absurd (omega arith))
is_in worker crew (Some place) at = (λ t. times_at worker crew place at, λ more. refl)

-- the crew without who is at a place
pub out_of : (worker : ℕ) (crew : List ℕ) (place : ℕ) → slice_get crew place ≡ Some worker → (after : List ℕ) → after ≡ remove crew place → IsOutOf worker crew after
out_of worker crew place at after is = let cut = cut_at crew place worker at in
    record { front = cut.0; back = cut.1; before_is = cut.2; after_is = is ∙ ap (λ xs. remove xs place) cut.2 ∙ ap (remove (cut.0 ++ worker ∷ cut.1)) (sym cut.3) ∙ remove_middle cut.0 worker cut.1 }
