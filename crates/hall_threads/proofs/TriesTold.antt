-- Which events a try adds to those of its seat, and what the seat says of its stop.
use Rattle.std.proofs.Common.{◌≡◌, ℕ, List, [], ◌∷◌, ◌++◌, inl, inr, refl, sym, ap, ◌∙◌}
use Rattle.std.specs.Prelude.{None, Some, Result, Ok, Err}
use Rattle.play_rules.specs.declared.stop.Stop.{Stop}
use Rattle.worker_entry.proofs.Failed.{busy_notes, over_notes, stopped_notes}
use Rattle.worker_entry.proofs.HeldFrom.{held_from_notes}
use Rattle.worker_entry.specs.Owners.{ActsIn}
use Rattle.worker_entry.specs.Thieves.{IsNotBusy, StealsIn}
use Rattle.worker_entry.specs.declared.hall.Hall.{Hall}
use Rattle.worker_entry.specs.declared.refused.EventRefused.{EventRefused}
use Rattle.worker_entry.specs.declared.refused.EventRefused.TheVariants.{Busy, Nothing, Over, Stopped}
use Rattle.worker_entry.specs.declared.seat.Seat.{Seat}
use Rattle.hall_slots.specs.declared.event.Event.{Event}
use Rattle.hall_slots.specs.declared.seat_note.SeatNote.{SeatNote}
use Rattle.hall_slots.specs.Takes.{HallSeat}
use Rattle.hall_threads.specs.declared.answer.Answer.TheVariants as answers
use Rattle.hall_threads.specs.Trying.{GoesOn, IsNotHeld, Tries, answer_as}

-- the events that a seat notes
abbrev pub mine : Seat → List Event
mine seat = seat.place.hand.note.mine

-- and one more
abbrev pub one_more_of : Seat → Event → List Event
one_more_of seat event = mine seat ++ event ∷ []

-- ---- refusals add nothing

acts_refused : (hall : Hall) (before after : Seat) (why : EventRefused) → ActsIn hall before after (Err why) → mine after ≡ mine before
acts_refused hall before after (Busy held) acts = ap (λ (n : SeatNote). n.mine) (busy_notes hall before after held acts.1)
acts_refused hall before after Nothing acts = absurd acts
acts_refused hall before after (Over end) acts = ap (λ (n : SeatNote). n.mine) (over_notes hall before after end acts.1)
acts_refused hall before after (Stopped stop) acts = elim acts [
  | inl same ↦ ap mine same.1
  | inr fails ↦ ap (λ (n : SeatNote). n.mine) (stopped_notes hall before after stop fails.1)
]

steals_refused : (hall : Hall) (word : ℕ) (before after : Seat) (why : EventRefused) → StealsIn hall word before after (Err why) → mine after ≡ mine before
steals_refused hall word before after (Busy held) steals = ap (λ (n : SeatNote). n.mine) (held_from_notes hall.workers word before.place after.place held steals.1)
steals_refused hall word before after Nothing steals = ap (λ (s : HallSeat). s.hand.note.mine) steals.1.1.2
steals_refused hall word before after (Over end) steals = ap (λ (s : HallSeat). s.hand.note.mine) steals.1.1.1
steals_refused hall word before after (Stopped stop) steals = elim steals [
  | inl same ↦ ap mine same.1
  | inr met ↦ ap (λ (s : HallSeat). s.hand.note.mine) met.1.leaves
]

goes_refused : (hall : Hall) (word : ℕ) (before after : Seat) (why : EventRefused) → GoesOn hall word before after (Err why) → mine after ≡ mine before
goes_refused hall word before after why goes = elim goes.1 [
  | inl acts ↦ acts_refused hall before after why acts.2
  | inr steals ↦ steals_refused hall word before after why steals.1
]

pub found_adds_nothing : (hall : Hall) (word : ℕ) (before after : Seat) (stop : Stop) → Tries hall word before after (answers.Found stop) → mine after ≡ mine before
found_adds_nothing hall word before after stop tries = goes_refused hall word before after (Stopped stop) tries

pub refused_adds_nothing : (hall : Hall) (word : ℕ) (before after : Seat) (why : EventRefused) → Tries hall word before after (answers.Refused why) → mine after ≡ mine before
refused_adds_nothing hall word before after (Busy held) tries = elim tries [
  | inl goes ↦ goes_refused hall word before after (Busy held) goes
  | inr fails ↦ ap (λ (s : HallSeat). s.hand.note.mine) fails.2.1
]
refused_adds_nothing hall word before after Nothing tries = goes_refused hall word before after Nothing tries
refused_adds_nothing hall word before after (Over end) tries = absurd tries
refused_adds_nothing hall word before after (Stopped stop) tries = absurd tries

-- ---- an event adds itself

acts_add : (hall : Hall) (before after : Seat) (event : Event) → ActsIn hall before after (Ok event) → mine after ≡ one_more_of before event
acts_add hall before after event acts = ap (λ (s : HallSeat). s.hand.note.mine) acts.its_place.leaves ∙ ap (one_more_of before) acts.told

steals_add : (hall : Hall) (word : ℕ) (before after : Seat) (event : Event) → StealsIn hall word before after (Ok event) → mine after ≡ one_more_of before event
steals_add hall word before after event steals = ap (λ (s : HallSeat). s.hand.note.mine) steals.1.leaves.2 ∙ ap (one_more_of before) (sym steals.1.leaves.0)

pub did_adds : (hall : Hall) (word : ℕ) (before after : Seat) (event : Event) → Tries hall word before after (answers.Did event) → mine after ≡ one_more_of before event
did_adds hall word before after event tries = elim tries.1 [
  | inl acts ↦ acts_add hall before after event acts.2
  | inr steals ↦ steals_add hall word before after event steals.1
]

-- ---- stops

pub did_without_stop : (hall : Hall) (word : ℕ) (before after : Seat) (event : Event) → Tries hall word before after (answers.Did event) → after.stop ≡ None
did_without_stop hall word before after event tries = elim tries.1 [
  | inl acts ↦ acts.2.still_none
  | inr steals ↦ steals.1.5
]

not_both : (before : Seat) (stop : Stop) → before.stop ≡ None → before.stop ≡ Some stop → ⊥
not_both before stop none some = let no : None ≡ Some stop = sym none ∙ some in none_some stop no
  where
    none_some : (stop : Stop) → None ≡ Some stop → ⊥
    none_some stop e = cc

pub found_says_so : (hall : Hall) (word : ℕ) (before after : Seat) (stop : Stop) → Tries hall word before after (answers.Found stop) → after.stop ≡ Some stop
found_says_so hall word before after stop tries = elim tries.1 [
  | inl acts ↦ elim acts.2 [
    | inl same ↦ absurd (not_both before stop tries.0 same.0)
    | inr fails ↦ fails.5
  ]
  | inr steals ↦ elim steals.1 [
    | inl same ↦ absurd (not_both before stop tries.0 same.0)
    | inr met ↦ met.5
  ]
]

-- ---- a seat that went on made a try

pub goes_tried : (hall : Hall) (word : ℕ) (before after : Seat) (r : Result Event EventRefused) → GoesOn hall word before after r → Tries hall word before after (answer_as r)
goes_tried hall word before after (Ok event) goes = goes
goes_tried hall word before after (Err (Busy held)) goes = inl goes
goes_tried hall word before after (Err Nothing) goes = goes
goes_tried hall word before after (Err (Over end)) goes = inl goes
goes_tried hall word before after (Err (Stopped stop)) goes = goes

-- ---- a seat to which no slot was refused

pub not_held : (r : Result Event EventRefused) → IsNotBusy r → IsNotHeld (answer_as r)
not_held (Ok event) free = tt
not_held (Err (Busy held)) free = absurd free
not_held (Err Nothing) free = refl
not_held (Err (Over end)) free = tt
not_held (Err (Stopped stop)) free = tt
