-- How a look-up in the stored births is a look-up in the list of lists.
use Rattle.std.proofs.Common.{◌≡◌, ℕ, suc, List, map, Option, None, Some, IfSome, slice_get, ap, ◌∙◌, refl, ◌⊎◌, inl, inr}
use Rattle.std.specs.Option.{option_map, option_and_then}
use Rattle.std.proofs.lemmas.Option.{slice_get-map}
use Rattle.dag_order.specs.declared.birth.Birth.{Birth}
use Rattle.dag_order.specs.Births.{birth_in, StopsAt}
use Rattle.dag_order.proofs.BirthLaws.{one_stop}
use Rattle.dag_order.specs.declared.thread_id.ThreadId.{ThreadId}
use Rattle.dag_order.specs.declared.roster.RosterFail.{RosterFail}
use Rattle.dag_order.specs.declared.roster.RosterFail.TheVariants.{Unknown, OutOfMemory}

pub birth_found : {T : Type 0} (births_of : T → List Birth) (periods : List T) (period before nth : ℕ) (births : T)
    → period ≡ suc before → slice_get periods before ≡ Some births → birth_in (map births_of periods) period nth ≡ slice_get (births_of births) nth
birth_found births_of periods period before nth births is found =
    ap (λ p. birth_in (map births_of periods) p nth) is
    ∙ ap (λ o. option_and_then (λ list. slice_get list nth) o) (slice_get-map births_of periods before ∙ ap (λ o. option_map births_of o) found)

-- what holds of each value that an option may be holds of its value
pub if_some_from : {T : Type 0} (r : Option T) (P : T → Type 0) → ((x : T) → r ≡ Some x → P x) → IfSome r P
if_some_from None P each = tt
if_some_from (Some x) P each = each x refl

-- a refusal that names a thread names the one where the way stops
pub refused_alike : (periods : List (List Birth)) (id : ThreadId) (fail : RosterFail) → ((other : ThreadId) → fail ≡ Unknown other → StopsAt periods id other)
    → (unknown : ThreadId) → StopsAt periods id unknown → (fail ≡ Unknown unknown) ⊎ (fail ≡ OutOfMemory)
refused_alike periods id (Unknown other) named unknown stops = inl (ap (λ u. Unknown u) (one_stop periods id other unknown (named other refl) stops))
refused_alike periods id OutOfMemory named unknown stops = inr refl
