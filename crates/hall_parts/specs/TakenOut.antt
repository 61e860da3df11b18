-- Who waits in a list that keeps each thread under the id of its newest child.
use Rattle.std.specs.Prelude.{◌≡◌, ◌≢◌, None, List, ◌∷◌}
use Rattle.hall_parts.specs.HallNames.{Each, ListSlot, list_shown, ThreadId, ListShown}
use Rattle.moment_laws.specs.Passed.Parts.{Child}
use Rattle.hall_slots.specs.Passed.ThreadMapKept.{kept_under}
use Rattle.thread_frames.specs.Kept.{WaitsUnder}

-- where nothing is kept under an id, no thread waits for it
abbrev pub NobodyWaits : Type 0
NobodyWaits = (list : ListSlot) (id : ThreadId) → Each WaitsUnder list.part.waiting.entries → kept_under list.part.waiting id ≡ None
    → Each (λ x. (newest : Child) (older : List Child) → x.children ≡ newest ∷ older → newest.id ≢ id) (ListShown.waiting (list_shown list))
