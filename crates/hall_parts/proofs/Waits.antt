-- A thread for which nothing is kept is not waited for, and what a list shows after a thread was taken out.
use Rattle.std.proofs.Common.{◌≡◌, ◌≢◌, List, [], ◌∷◌, map, sym, ap, ◌∙◌}
use Rattle.std.proofs.lemmas.List.Sorted.{IsPermutation-map}
use Rattle.std.specs.List.Sorted.{IsPermutation}
use Rattle.std.specs.Prelude.{Option, None, Some, IfSome}
use Rattle.hall_parts.specs.HallNames.{Each, ListSlot, list_shown, ThreadId, Thread}
use Rattle.moment_laws.specs.Passed.Parts.{Child}
use Rattle.thread_frames.specs.Kept.{WaitsUnder, waiting_shown}
use Rattle.thread_frames.proofs.Found.{none_found}
use Rattle.hall_parts.specs.ListCalls.{TakesWaiting}
use Rattle.hall_parts.specs.TakenOut.{NobodyWaits}

abbrev first_of : List Child → Child → Child
first_of [] other = other
first_of (child ∷ children) other = child

unawaited : (id : ThreadId) (entries : List (ThreadId × Thread)) → Each WaitsUnder entries → Each (λ e. e.0 ≢ id) entries
    → Each (λ x. (newest : Child) (older : List Child) → x.children ≡ newest ∷ older → newest.id ≢ id) (map waiting_shown entries)
unawaited id [] under others = tt
unawaited id (e ∷ entries) under others = (
  λ newest older children is. others.0 (sym (under.0).3
      ∙ ap (λ xs. Child.id (first_of xs newest)) (sym (under.0).2 ∙ children) ∙ is),
  unawaited id entries under.1 others.1,
)

pub nobody_waits : NobodyWaits
nobody_waits list id under none = unawaited id list.part.waiting.entries under (none_found id list.part.waiting.entries none)

pub taken_out : (before after : ListSlot) (child : ThreadId)
    → list_shown after ≡ record (list_shown before) { waiting = map waiting_shown after.part.waiting.entries } → (r : Option Thread)
    → IfSome r (λ value. IsPermutation before.part.waiting.entries ((child, value) ∷ after.part.waiting.entries))
    → IfSome r (λ parent. TakesWaiting before after child parent)
taken_out before after child shown None taken = tt
taken_out before after child shown (Some parent) taken = record {
  entries = taken;
  waiting = map waiting_shown after.part.waiting.entries;
  shown = shown;
  was = IsPermutation-map waiting_shown before.part.waiting.entries ((child, parent) ∷ after.part.waiting.entries) taken;
}
