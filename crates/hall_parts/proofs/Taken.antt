-- What each event has in common.
use Rattle.std.proofs.Common.{◌≢◌, List, [], ◌∷◌, map, refl, sym, ◌∙◌}
use Rattle.std.specs.Prelude.{Option}
use Rattle.hall_parts.specs.HallNames.{DequeId, Each, Event, SeatNote, HallSeat, ThreadId}
use Rattle.moment_laws.specs.Passed.Parts as shown
use Rattle.hall_slots.specs.Passed.Ended.{Ended}
use Rattle.hall_slots.specs.Passed.ThreadFramesKept.{IsUnderItsId, result_kept}
use Rattle.hall_parts.specs.Writes.{told_note, IsOwner}
use Rattle.hall_parts.specs.EventParts.{MayGoOn}
use Rattle.hall_parts.specs.Staying.{NotesOn}

-- the note of an event is of the same seat
pub on : (note : SeatNote) (owns : Option DequeId) (event : Event) → NotesOn note (told_note note owns event)
on note owns event = record { worker = refl; left = refl; answered = refl; found = λ stop is. is }

pub owner_of : (seat : HallSeat) (deque : DequeId) → MayGoOn seat deque → IsOwner seat deque
owner_of seat deque goes = record { placed = goes.placed; owns = goes.owns }

-- where no entry has an id, no result has it
pub unkept : (id : ThreadId) (entries : List (ThreadId × Ended)) → Each IsUnderItsId entries → Each (λ e. e.0 ≢ id) entries
    → Each (λ r. shown.Result.id r ≢ id) (map result_kept entries)
unkept id [] under none = tt
unkept id (e ∷ entries) under none = (λ same. none.0 (sym under.0 ∙ same), unkept id entries under.1 none.1)
