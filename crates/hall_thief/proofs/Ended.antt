-- What a seat is that has put back what it held.
use Rattle.std.proofs.Common.{◌≡◌, ◌≢◌, ℕ, ◌+◌, ◌<◌, ◌≤◌, List, [], ◌∷◌, ◌++◌, length, inl, inr, refl, sym, ap, ◌∙◌, subst, arith, append-nil}
use Rattle.std.specs.Prelude.{Result, Ok, Err}
use Rattle.hall_thief.specs.HallNames.{DequeId, HasAs, with_hand, LaneSlot, ListSlot, SeatNote, Slot, Event, HallSeat, IsGiven, IsRefused, IsTaken}
use Rattle.deque_list.specs.declared.place.Place.{Place}
use Rattle.deque_list.specs.Ids.{IsSmallestFree, place_ids}
use Rattle.turn_table.specs.declared.held.Held.{Held}
use Rattle.turn_table.specs.declared.look.Look.{Look}
use Rattle.turn_table.specs.declared.look.Look.TheVariants.{Took, Refused}
use Rattle.turn_table.specs.Hands.{gave, without_slot, renewed}
use Rattle.turn_table.proofs.Left.{first_of_two, left_of_one, second_of_two, third_of_three}
use Rattle.turn_table.specs.Backs.{still, unchanged}
use Rattle.hall_slots.specs.declared.slot.Slot.TheVariants as slots
use Rattle.hall_thief.specs.Thefts.{stolen_note}
use Rattle.hall_thief.specs.Stealing.{HasStolenIn}
use Rattle.hall_slots.specs.Stopping.{found_note, HasStopped}
use Rattle.hall_thief.specs.declared.refused.StealRefused.{StealRefused}
use Rattle.hall_thief.specs.declared.refused.StealRefused.TheVariants.{Busy, Nothing, Over, Stopped}
use Rattle.play_rules.specs.declared.stop.Stop.{Stop}
use Rattle.hall_thief.specs.Prey.{EndsWith, IsItsStop, LeavesWith, StealsWith, TakesNext}

-- the seat notes this, was told this besides, and holds these slots
abbrev pub NowHolds : HallSeat → SeatNote → List (Look Slot) → List (ℕ × Slot) → HallSeat → Type 0
NowHolds before note more held after = after ≡ with_hand before (record { seated = before.hand.seated; holds = held; note = note; looks = before.hand.looks ++ more })

-- it puts a slot back
pub given : (before middle after : HallSeat) (note : SeatNote) (more : List (Look Slot)) (slot : ℕ) (held left : List (ℕ × Slot)) → NowHolds before note more held middle → IsGiven middle slot after
    → renewed unchanged (without_slot slot held) ≡ left → NowHolds before note more left after
given before middle after note more slot held left now gives is =
    gives ∙ ap (λ (s : HallSeat). with_hand s (gave still unchanged s.hand slot)) now
    ∙ ap (λ (xs : List (ℕ × Slot)). with_hand before (record { seated = before.hand.seated; holds = xs; note = note; looks = before.hand.looks ++ more })) is

-- it put the list back, in which a stop is kept
pub stopped : (before after : HallSeat) (note : SeatNote) (held left : List (ℕ × Slot)) → before.hand.holds ≡ held → HasStopped before note after → renewed unchanged (without_slot 0 held) ≡ left
    → NowHolds before note [] left after
stopped before after note held left are stops is =
    stops ∙ (λ k. with_hand before (record { seated = before.hand.seated; holds = (ap (λ (xs : List (ℕ × Slot)). renewed unchanged (without_slot 0 xs)) are ∙ is) k; note = note; looks = sym (append-nil before.hand.looks) k }))

-- it was refused a slot
pub refused_now : (before after : HallSeat) (slot : ℕ) (held : Held) (holds : List (ℕ × Slot)) → before.hand.holds ≡ holds → IsRefused before slot held after
    → NowHolds before before.hand.note (Refused held.slot held.seen ∷ []) holds after
refused_now before after slot held holds are refuses =
    refuses.1 ∙ (λ k. with_hand before (record { seated = before.hand.seated; holds = are k; note = before.hand.note; looks = before.hand.looks ++ Refused (sym refuses.0 k) held.seen ∷ [] }))

-- it stole
pub stolen_now : (before after : HallSeat) (id : DequeId) (number next : ℕ) → number ≡ next → HasStolenIn before id number after → LeavesWith before (stolen_note before.hand.note id next) [] after
stolen_now before after id number next is steals =
    steals ∙ (λ k. with_hand before (record { seated = before.hand.seated; holds = []; note = stolen_note before.hand.note id (is k); looks = sym (append-nil before.hand.looks) k }))

-- what it holds then
pub holds_of : (before after : HallSeat) (note : SeatNote) (more : List (Look Slot)) (held : List (ℕ × Slot)) → NowHolds before note more held after → after.hand.holds ≡ held
holds_of before after note more held now = ap (λ (s : HallSeat). s.hand.holds) now

pub first_held : (before after : HallSeat) (note : SeatNote) (more : List (Look Slot)) (slot : ℕ) (found : Slot) (held : List (ℕ × Slot)) → NowHolds before note more ((slot, found) ∷ held) after
    → HasAs slot found after.hand.holds
first_held before after note more slot found held now = subst (HasAs slot found) (sym (holds_of before after note more ((slot, found) ∷ held) now)) (inl (refl, refl))

-- ---- which slots are left

module _ (victim : ℕ) (lane list : Slot) where
  abbrev pub two_slots : List (ℕ × Slot)
  two_slots = (victim + 2, lane) ∷ (0, list) ∷ []

  pub list_gone : renewed unchanged (without_slot 0 two_slots) ≡ (victim + 2, lane) ∷ []
  list_gone = second_of_two unchanged (victim + 2) 0 lane list (λ e. omega (arith, e))

  pub lane_gone : renewed unchanged (without_slot (victim + 2) ((victim + 2, lane) ∷ [])) ≡ []
  lane_gone = left_of_one unchanged (victim + 2) (victim + 2) lane refl

  pub lane_gone_first : renewed unchanged (without_slot (victim + 2) two_slots) ≡ (0, list) ∷ []
  lane_gone_first = first_of_two unchanged (victim + 2) 0 lane list

  pub list_gone_last : renewed unchanged (without_slot 0 ((0, list) ∷ [])) ≡ []
  list_gone_last = left_of_one unchanged 0 0 list refl

  module _ (id : ℕ) (new : Slot) where
    abbrev pub three_slots : List (ℕ × Slot)
    three_slots = (id + 2, new) ∷ two_slots

    pub list_gone_of_three : renewed unchanged (without_slot 0 three_slots) ≡ (id + 2, new) ∷ (victim + 2, lane) ∷ []
    list_gone_of_three = third_of_three unchanged (id + 2) (victim + 2) 0 new lane list (λ e. omega (arith, e)) (λ e. omega (arith, e))

    pub new_gone : renewed unchanged (without_slot (id + 2) ((id + 2, new) ∷ (victim + 2, lane) ∷ [])) ≡ (victim + 2, lane) ∷ []
    new_gone = first_of_two unchanged (id + 2) (victim + 2) new lane

-- ---- all is put back

pub stopped_two : (before middle after : HallSeat) (note : SeatNote) (victim : ℕ) (lane list : Slot) → before.hand.holds ≡ two_slots victim lane list → HasStopped before note middle → IsGiven middle (victim + 2) after
    → LeavesWith before note [] after
stopped_two before middle after note victim lane list are stops gives =
    given before middle after note [] (victim + 2) ((victim + 2, lane) ∷ []) []
    (stopped before middle note (two_slots victim lane list) ((victim + 2, lane) ∷ []) are stops (list_gone victim lane list)) gives (lane_gone victim lane list)

module _ (before middle : HallSeat) (note : SeatNote) (victim : ℕ) (lane list : Slot) (id : ℕ) (new : Slot) (are : before.hand.holds ≡ three_slots victim lane list id new) (stops : HasStopped before note middle) where
  two_left : NowHolds before note [] ((id + 2, new) ∷ (victim + 2, lane) ∷ []) middle
  two_left = stopped before middle note (three_slots victim lane list id new) ((id + 2, new) ∷ (victim + 2, lane) ∷ []) are stops (list_gone_of_three victim lane list id new)

  pub new_held : HasAs (id + 2) new middle.hand.holds
  new_held = first_held before middle note [] (id + 2) new ((victim + 2, lane) ∷ []) two_left

  module _ (second : HallSeat) (gives : IsGiven middle (id + 2) second) where
    one_left : NowHolds before note [] ((victim + 2, lane) ∷ []) second
    one_left = given before middle second note [] (id + 2) ((id + 2, new) ∷ (victim + 2, lane) ∷ []) ((victim + 2, lane) ∷ []) two_left gives (new_gone victim lane list id new)

    pub lane_held : HasAs (victim + 2) lane second.hand.holds
    lane_held = first_held before second note [] (victim + 2) lane [] one_left

    pub stopped_three : (after : HallSeat) → IsGiven second (victim + 2) after → LeavesWith before note [] after
    stopped_three after last = given before second after note [] (victim + 2) ((victim + 2, lane) ∷ []) [] one_left last (lane_gone victim lane list)

module _ (before middle : HallSeat) (slot : ℕ) (held : Held) (victim : ℕ) (lane list : Slot) (are : before.hand.holds ≡ two_slots victim lane list) (refuses : IsRefused before slot held middle) where
  still_two : NowHolds before before.hand.note (Refused held.slot held.seen ∷ []) (two_slots victim lane list) middle
  still_two = refused_now before middle slot held (two_slots victim lane list) are refuses

  pub lane_still : HasAs (victim + 2) lane middle.hand.holds
  lane_still = first_held before middle before.hand.note (Refused held.slot held.seen ∷ []) (victim + 2) lane ((0, list) ∷ []) still_two

  module _ (second : HallSeat) (gives : IsGiven middle (victim + 2) second) where
    list_left : NowHolds before before.hand.note (Refused held.slot held.seen ∷ []) ((0, list) ∷ []) second
    list_left = given before middle second before.hand.note (Refused held.slot held.seen ∷ []) (victim + 2) (two_slots victim lane list) ((0, list) ∷ []) still_two gives (lane_gone_first victim lane list)

    pub list_still : HasAs 0 list second.hand.holds
    list_still = first_held before second before.hand.note (Refused held.slot held.seen ∷ []) 0 list [] list_left

    pub backed : (after : HallSeat) → IsGiven second 0 after → LeavesWith before before.hand.note (Refused held.slot held.seen ∷ []) after
    backed after last = given before second after before.hand.note (Refused held.slot held.seen ∷ []) 0 ((0, list) ∷ []) [] list_left last (list_gone_last victim lane list)

-- ---- a thief that took the lane of a free deque

module _ (list : ListSlot) (victim : Place) (lane : LaneSlot) (id : DequeId) (new : LaneSlot) (before middle after : HallSeat) (taken : IsTaken before (id.0 + 2) (slots.Lane new) middle) (two : 2 ≤ length lane.lane.items)
    (next : IsSmallestFree (place_ids list.part.order.places) id) (few : length list.part.order.places ≢ list.part.order.most) where
  took_then : (note : SeatNote → SeatNote) → LeavesWith middle (note middle.hand.note) [] after → LeavesWith before (note before.hand.note) (Took (id.0 + 2) (slots.Lane new) ∷ []) after
  took_then note leaves =
      leaves ∙ ap (λ (s : HallSeat). with_hand s (record { seated = s.hand.seated; holds = []; note = note s.hand.note; looks = s.hand.looks ++ [] })) taken
      ∙ ap (λ (ls : List (Look Slot)). with_hand before (record { seated = before.hand.seated; holds = []; note = note before.hand.note; looks = ls })) (append-nil (before.hand.looks ++ Took (id.0 + 2) (slots.Lane new) ∷ []))

  pub ends_steal : (result : Result Event StealRefused) → EndsWith list id middle after result → StealsWith list victim lane before after result
  ends_steal (Ok event) ends = (
    id,
    Took (id.0 + 2) (slots.Lane new) ∷ [],
    inr (record { two = two; next = next; few = few; new = new; told = refl }),
    (
      ends.0,
      subst (λ n. id.0 + 2 < n) (ap (λ (s : HallSeat). s.table.slots) taken) ends.1,
      took_then (λ n. stolen_note n id (list.part.begun + 1)) ends.2,
    ),
  )
  ends_steal (Err (Busy held)) ends = absurd ends
  ends_steal (Err Nothing) ends = absurd ends
  ends_steal (Err (Over end)) ends = absurd ends
  ends_steal (Err (Stopped stop)) ends = (
    Took (id.0 + 2) (slots.Lane new) ∷ [],
    subst (IsItsStop list lane) (sym ends.0) (λ many. few many.1),
    subst (λ (s : Stop). TakesNext list lane s (Took (id.0 + 2) (slots.Lane new) ∷ [])) (sym ends.0)
        (inr (id, record { two = two; next = next; few = few; new = new; told = refl })),
    took_then (λ n. found_note n stop) ends.1,
  )
