-- The law of a hall over the slots of a row, its count word and the notes of its seats.
use Rattle.std.specs.Prelude.{◌≡◌, ℕ, ◌+◌, true, false, min, None, List, [], map, length}
use mathlib.Core.Option.{some}
use lib.ListN.{get_elem?}
use Rattle.depth_first_run.specs.States.{Setting}
use Rattle.deque_machine.specs.Terms.{Terms, machine_of}
use Rattle.thread_frames.specs.Passed.Settings.{IsSettingOf}
use Rattle.hall_machine.specs.State.{HallLaw}
use Rattle.hall_slots.specs.declared.slot.Slot.{Slot}
use Rattle.hall_slots.specs.declared.seat_note.SeatNote.{SeatNote}
use Rattle.hall_slots.specs.Shown.{value_of, kind_of, view_of}
use Rattle.hall_slots.specs.declared.key.HallKey.{HallKey}
use Rattle.hall_slots.specs.Keys.{table_of, quota_of, terms_of, IsKey}
use Rattle.hall_slots.specs.Sound.{PartsAreSound}

-- slot 0 is the list, slot 1 the pool, and each further one a lane
abbrev pub IsShaped : ℕ → Slot → Type 0
IsShaped slot found = kind_of found ≡ min slot 2

-- how many places a seat has by its note, and the note of a seat that was joined into another
abbrev pub places_of : SeatNote → ℕ
places_of note = note.places

abbrev pub joined_note : SeatNote
joined_note = record {
  worker = 0;
  places = 0;
  left = true;
  deque = None;
  found = None;
  answered = None;
  counting = false;
  yielded = false;
  enters = None;
  mine = [];
}

-- whichever program it is that the key is of, what the slots show keeps the law of a hall
abbrev pub KeepsHallLaw : HallKey → List Slot → ℕ → List SeatNote → Type 0
KeepsHallLaw key shown count notes = (c : Setting) → IsSettingOf (table_of key) (quota_of key) c
    → ∥ HallLaw (machine_of c (terms_of key)) (Terms.limits (terms_of key)) (map value_of shown) count (map view_of notes) ∥₁

-- The law: there is a slot for the list, one for the pool and one for each deque that there may be, each of its kind; what they show keeps
-- the law of a hall, with the count word and the notes; and the parts in them are sound.
pub record HallHolds (key : HallKey) (shown : List Slot) (count : ℕ) (notes : List SeatNote) : Type 0 where
  pub key_is : IsKey key
  pub sized : length shown ≡ key.deques + 2
  pub shaped : (i : ℕ) (slot : Slot) → get_elem? shown i ≡ some slot → IsShaped i slot
  pub state : KeepsHallLaw key shown count notes
  pub parts : PartsAreSound key shown notes
