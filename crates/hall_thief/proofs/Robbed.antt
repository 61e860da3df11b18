-- What a thief may do with what it has found, and what its whole call has done then.
use Rattle.std.proofs.Common.{◌≡◌, ◌≢◌, ℕ, ◌+◌, ◌%◌, ◌<◌, ◌≤◌, min, List, [], ◌∷◌, ◌++◌, map, length, inl, inr, refl, sym, ap, ◌∙◌, subst, arith, mod-lt}
use Rattle.std.proofs.lemmas.List.{append_assoc, length-map}
use Rattle.std.proofs.lemmas.Option.{same_Some}
use Rattle.std.specs.Prelude.{None, Some, Result, Ok, Err, true, nat_lt, slice_get}
use mathlib.Core.List.{map-append}
use Rattle.hall_thief.specs.HallNames.{DequeId, HasAs, with_hand, LaneShown, of_lane, Event, HallKey, LaneSlot, ListSlot, SeatNote, Slot, lane_shown}
use Rattle.hall_thief.specs.HallNames.{HallSeat, HasAllPlaces, IsTaken, MeetsLaw}
use Rattle.deque_list.specs.declared.place.Place.{Place}
use Rattle.deque_list.specs.Ids.{IsSmallestFree, place_ids}
use Rattle.hall_slots.specs.Passed.Lists.{Among}
use Rattle.play_rules.specs.declared.stop.Stop.TheVariants.{DequesFull}
use Rattle.open_periods.specs.declared.period.Period.{Period}
use Rattle.hall_slots.specs.Passed.Thread.{Thread}
use Rattle.hall_slots.specs.Passed.Shown.{thread_shown}
use Rattle.turn_table.specs.declared.look.Look.{Look}
use Rattle.turn_table.specs.declared.look.Look.TheVariants.{Took}
use Rattle.turn_table.specs.Hands.{Has}
use Rattle.turn_table.proofs.Standing.{has_as}
use Rattle.hall_slots.specs.Passed.Receipts as shown
use Rattle.hall_slots.specs.Passed.Receipts.{SawLane, ShowsVictim}
use Rattle.hall_slots.specs.Passed.Writing.{lane_slot}
use Rattle.hall_slots.proofs.Passed.Notes.{each_get}
use Rattle.hall_interleavings.specs.Thefts.{ShowsId, keeps_its_id, has_free_id}
use Rattle.hall_slots.specs.declared.slot.Slot.TheVariants as slots
use Rattle.hall_thief.specs.Choosing.{look_shown, took_lane, refused_look, HasVictim, PicksNext}
use Rattle.hall_slots.specs.Lists.{with_list}
use Rattle.hall_thief.specs.declared.prey.Prey.{Prey}
use Rattle.hall_thief.specs.declared.prey.SeekRefused.{SeekRefused}
use Rattle.hall_thief.specs.declared.prey.SeekRefused.TheVariants as sought
use Rattle.hall_thief.specs.Seeking as seeking
use Rattle.hall_thief.specs.Seeking.{HasSought, SeeksWith}
use Rattle.hall_thief.proofs.Sought as begun
use Rattle.hall_thief.specs.Stealing.{IsNew, IsOpenTo, MayTakeOver, MayTakeBottom}
use Rattle.hall_thief.specs.Thefts.{stolen_note}
use Rattle.hall_thief.proofs.Slots.{slot_is}
use Rattle.hall_thief.proofs.Stolen.{free_of}
use Rattle.hall_slots.specs.Stopping.{found_note, MayStop}
use Rattle.hall_thief.proofs.Robbing.{found_may_be_taken_over, found_bottoms_may_be_taken, holds_both, nobody}
use Rattle.hall_thief.specs.declared.refused.StealRefused.{StealRefused}
use Rattle.hall_thief.specs.declared.refused.StealRefused.TheVariants.{Busy, Nothing, Over, Stopped}
use Rattle.hall_thief.specs.Prey.{HasBoth, HasPrey, IsNotBusy, IsOneTooMany, LeavesWith, MaySteal, StealsInto, StealsWith}
use Rattle.hall_thief.specs.Refusals.{refusal_of}
use Rattle.hall_thief.specs.Steals.{all_told, Finds, Steals}
use Rattle.hall_thief.proofs.Causes.{full_is_caused, may_stop}
use Rattle.hall_thief.proofs.Known.{first_and_last, free_is_empty, id_inside, key_quota, lane_inside, most_is, one_thread}

pub open_to : (seat : HallSeat) (list : ListSlot) (worker : ℕ) → MaySteal seat worker → list.end ≡ None → IsOpenTo seat list worker
open_to seat list worker may no_end = record { thief = may.thief; its_worker = may.its_worker; no_end = no_end }

-- ---- what it has found

module _ (key : HallKey) (list : ListSlot) (place : ℕ) (lane : LaneSlot) (seat : HallSeat) (prey : HasPrey key list place lane seat) (victim : Place) (there : slice_get list.part.order.places place ≡ Some victim) where
  pub it_is : HasVictim.victim prey.victim ≡ victim
  it_is = same_Some (HasVictim.victim prey.victim) victim (sym (PicksNext.there (HasVictim.picks prey.victim)) ∙ there)

  pub held_two : seat.hand.holds ≡ (victim.id.0 + 2, slots.Lane lane) ∷ (0, slots.List list) ∷ []
  held_two = subst (λ (v : Place). seat.hand.holds ≡ (v.id.0 + 2, slots.Lane lane) ∷ (0, slots.List list) ∷ []) it_is (holds_both key prey.start seat list prey.word place lane prey.victim prey.alone)

  pub held_list : HasAs 0 (slots.List list) seat.hand.holds
  held_list = subst (HasAs 0 (slots.List list)) (sym held_two) (inr (inl (refl, refl)))

  pub held_lane : HasAs (victim.id.0 + 2) (slots.Lane lane) seat.hand.holds
  held_lane = subst (HasAs (victim.id.0 + 2) (slots.Lane lane)) (sym held_two) (inl (refl, refl))

  pub in_reach : place < min key.workers (length list.part.order.places)
  in_reach = let few = ShowsVictim.few (HasVictim.shows prey.victim) in let is = ShowsVictim.is (HasVictim.shows prey.victim) in
      let low : (prey.word + ShowsVictim.turns (HasVictim.shows prey.victim)) % min key.workers (length list.part.order.places) < min key.workers (length list.part.order.places) =
      mod-lt (prey.word + ShowsVictim.turns (HasVictim.shows prey.victim)) (let some : 0 < min key.workers (length list.part.order.places) = omega (arith, few) in some) in
      omega (arith, is, low)

  pub unowned : (thread : Thread) → lane.lane.items ≡ thread ∷ [] → victim.owner ≡ None
  unowned thread one = ap (λ (v : Place). v.owner) (sym it_is) ∙ nobody key prey.start seat list prey.word place lane prey.victim thread one

  pub may_take_over : (worker : ℕ) (period : Period) (thread : Thread) → MaySteal seat worker → lane.lane.items ≡ thread ∷ [] → IsNew period (nat_lt 0 place) (list.part.begun + 1)
      → MayTakeOver key seat list victim.id lane worker period
  may_take_over worker period thread may one new = subst (λ (v : Place). MayTakeOver key seat list v.id lane worker period) it_is
      (found_may_be_taken_over key prey.start seat list prey.word place worker lane period thread prey.alone prey.victim (open_to seat list worker may prey.no_end) one new)

  pub inside : MeetsLaw key seat → victim.id.0 + 2 < seat.table.slots
  inside meets = lane_inside key seat meets victim.id (has_as (victim.id.0 + 2) (slots.Lane lane) seat.hand.holds held_lane)

  pub alone_in_it : MeetsLaw key seat → length lane.lane.items < 2 → (thread : Thread) × (lane.lane.items ≡ thread ∷ [])
  alone_in_it meets few = one_thread key seat meets list held_list place victim lane there held_lane few

  pub its_id_is_free : MeetsLaw key seat → (id : DequeId) → id.0 < list.part.order.most → id.0 + 2 < seat.table.slots
  its_id_is_free meets id low = id_inside key seat meets list held_list id low

  -- a free deque is not the victim
  pub not_held : (id : DequeId) → IsSmallestFree (place_ids list.part.order.places) id → ¬ Has (id.0 + 2) seat.hand.holds
  not_held id next has = elim (subst (Has (id.0 + 2)) held_two has) [
    | inl same ↦ each_get (λ (p : Place). p.id.0 ≢ id.0) list.part.order.places place victim (free_of list.part.order.places id next) there (omega (arith, same))
    | inr later ↦ elim later [ inl list_is ↦ absurd (omega (arith, list_is)) | inr none ↦ none ]
  ]

  -- one deque more would be too many
  pub may_stop_at_full : (worker : ℕ) → MaySteal seat worker → MeetsLaw key seat → IsOneTooMany list lane → MayStop key seat list (DequesFull list.part.order.most)
  may_stop_at_full worker may meets many = may_stop key seat worker list (DequesFull list.part.order.most) may held_list prey.no_end
      (full_is_caused key seat worker may (key_quota key seat meets) list place victim lane held_list held_lane there in_reach many.0 many.1 (most_is key seat meets list held_list))

-- with the lane of a free deque
module _ (key : HallKey) (list : ListSlot) (place : ℕ) (lane : LaneSlot) (id : DequeId) (new_was : LaneSlot) (seat : HallSeat) (both : HasBoth key list place lane id new_was seat) (victim : Place)
    (there : slice_get list.part.order.places place ≡ Some victim) where
  pub held_three : seat.hand.holds ≡ (id.0 + 2, slots.Lane new_was) ∷ (victim.id.0 + 2, slots.Lane lane) ∷ (0, slots.List list) ∷ []
  held_three = ap (λ (s : HallSeat). s.hand.holds) both.taken
      ∙ ap (λ (xs : List (ℕ × Slot)). (id.0 + 2, slots.Lane new_was) ∷ xs) (held_two key list place lane both.before both.prey victim there)

  pub may_take_bottom : (worker : ℕ) (new : LaneSlot) (period : Period) → MaySteal seat worker → 2 ≤ length lane.lane.items → IsSmallestFree (place_ids list.part.order.places) id
      → length list.part.order.places ≢ list.part.order.most → new.lane.items ≡ [] → 1 ≤ new.lane.spare → IsNew period true (list.part.begun + 1)
      → MayTakeBottom key seat list victim.id lane id new worker period
  may_take_bottom worker new period may two next few empty room its =
      let cut = first_and_last lane.lane.items two in
      subst (λ (v : Place). MayTakeBottom key seat list v.id lane id new worker period) (it_is key list place lane both.before both.prey victim there)
      (found_bottoms_may_be_taken key both.prey.start both.before seat list both.prey.word place worker lane new_was new id period cut.0 cut.2 cut.1 both.prey.alone both.prey.victim both.taken
      (open_to seat list worker may both.prey.no_end) cut.3 next few empty room its)

  pub inside_three : MeetsLaw key seat → (id.0 + 2 < seat.table.slots) × (victim.id.0 + 2 < seat.table.slots)
  inside_three meets = (
    lane_inside key seat meets id (subst (Has (id.0 + 2)) (sym held_three) (inl refl)),
    lane_inside key seat meets victim.id (subst (Has (victim.id.0 + 2)) (sym held_three) (inr (inl refl))),
  )

  pub held_list_of_three : HasAs 0 (slots.List list) seat.hand.holds
  held_list_of_three = subst (HasAs 0 (slots.List list)) (sym held_three) (inr (inr (inl (refl, refl))))

  pub new_is_empty : MeetsLaw key seat → IsSmallestFree (place_ids list.part.order.places) id → new_was.lane.items ≡ []
  new_is_empty meets next = (free_is_empty key seat meets list held_list_of_three id new_was next (subst (HasAs (id.0 + 2) (slots.Lane new_was)) (sym held_three) (inl (refl, refl)))).0

-- ---- the whole call

-- a seat that notes the same may steal as before, and has all places if it had
pub may_as : (before after : HallSeat) (worker : ℕ) → after.hand.note ≡ before.hand.note → MaySteal before worker → MaySteal after worker
may_as before after worker same may = record {
  thief = record {
    placed = subst (λ (n : SeatNote). 0 < n.places) (sym same) may.thief.placed;
    stays = ap (λ (n : SeatNote). n.left) same ∙ may.thief.stays;
    idle = ap (λ (n : SeatNote). n.deque) same ∙ may.thief.idle;
  };
  its_worker = ap (λ (n : SeatNote). n.worker) same ∙ may.its_worker;
  settled = ap (λ (n : SeatNote). n.counting) same ∙ may.settled;
  none = ap (λ (n : SeatNote). n.found) same ∙ may.none;
}

pub all_as : (key : HallKey) (before after : HallSeat) → after.hand.note ≡ before.hand.note → HasAllPlaces key before → HasAllPlaces key after
all_as key before after same has = record {
  all = ap (λ (n : SeatNote). n.places) same ∙ has.all;
  stays = ap (λ (n : SeatNote). n.left) same ∙ has.stays;
  alone = ap (λ (n : SeatNote). n.enters) same ∙ has.alone;
}

among_last : {X : Type 0} (x : X) (xs : List X) → Among x (xs ++ x ∷ [])
among_last x [] = inl refl
among_last x (z ∷ xs) = inr (among_last x xs)

-- a look at a lane shows it
saw_last : (looks : List (Look Slot)) (place : Place) (lane : LaneSlot) → SawLane (map look_shown (looks ++ took_lane place lane ∷ [])) place.id (lane_shown lane)
saw_last looks place lane =
    subst (λ (ls : List shown.Look). Among (shown.took (lane_slot place.id) (of_lane (lane_shown lane))) ls) (sym (map-append look_shown looks (took_lane place lane ∷ [])))
    (subst (λ n. Among (shown.took n (of_lane (lane_shown lane))) (map look_shown looks ++ shown.took (place.id.0 + 2) (of_lane (lane_shown lane)) ∷ [])) (slot_is place.id.0)
    (among_last (shown.took (place.id.0 + 2) (of_lane (lane_shown lane))) (map look_shown looks)))

as_many : (lane : LaneSlot) → length (LaneShown.threads (lane_shown lane)) ≡ length lane.lane.items
as_many lane = length-map lane.lane.items thread_shown

shows_id : (list : ListSlot) (victim : Place) (lane : LaneSlot) (id : DequeId) (tried more : List (Look Slot)) → StealsInto list victim lane id more
    → ShowsId (map look_shown (tried ++ took_lane victim lane ∷ [])) list.part.order.places victim id
shows_id list victim lane id tried more (inl over) = let same = as_many lane in let few = over.one in
    subst (λ (d : DequeId). ShowsId (map look_shown (tried ++ took_lane victim lane ∷ [])) list.part.order.places victim d) (sym over.its_id)
    (keeps_its_id (over.unowned, lane_shown lane, saw_last tried victim lane, omega (arith, same, few)))
shows_id list victim lane id tried more (inr bottom) = let same = as_many lane in let many = bottom.two in
    has_free_id id (inr (lane_shown lane, saw_last tried victim lane, omega (arith, same, many))) bottom.next

-- what was told before and after the choice
told_all : (ls : List (Look Slot)) (first : Look Slot) (tried : List (Look Slot)) (last : Look Slot) (more : List (Look Slot))
    → (((ls ++ first ∷ []) ++ tried) ++ last ∷ []) ++ more ≡ ls ++ (first ∷ ((tried ++ last ∷ []) ++ more))
told_all ls first tried last more = simp append_assoc

-- the deque that it has found, with the list that it held alone
module _ (workers word : ℕ) (held middle : HallSeat) (list : ListSlot) (alone : held.hand.holds ≡ (0, slots.List list) ∷ []) (prey : Prey) (seeks : SeeksWith workers word list held middle (Ok prey)) where
  its_victim : HasVictim workers word prey.list held prey.place prey.lane middle
  its_victim = subst (λ (l : ListSlot). HasVictim workers word l held prey.place prey.lane middle) (sym seeks.0) seeks.2

  -- it notes what it noted
  pub note_kept : middle.hand.note ≡ held.hand.note
  note_kept = ap (λ (s : HallSeat). s.hand.note) (HasVictim.after_is its_victim)

  pub prey_of : (key : HallKey) → workers ≡ key.workers → HasPrey key prey.list prey.place prey.lane middle
  prey_of key same = record {
    start = held;
    alone = subst (λ (l : ListSlot). held.hand.holds ≡ (0, slots.List l) ∷ []) (sym seeks.0) alone;
    no_end = ap (λ (l : ListSlot). l.end) seeks.0 ∙ seeks.1;
    word = word;
    victim = subst (λ n. HasVictim n word prey.list held prey.place prey.lane middle) same its_victim;
  }

module _ (workers word : ℕ) (before middle after : HallSeat) (free : before.hand.holds ≡ []) (list : ListSlot) (place : ℕ) (lane : LaneSlot) (no_end : list.end ≡ None)
    (has : HasVictim workers word list (with_list before list) place lane middle) where
  abbrev seen : List (Look Slot)
  seen = has.more ++ took_lane has.victim lane ∷ []

  finds : Finds workers word list seen place has.victim lane
  finds = record { no_end = no_end; tried = has.more; picks = has.picks; last = refl; chosen = has.shows }

  all_left : (note : SeatNote → SeatNote) (more : List (Look Slot)) → LeavesWith middle (note middle.hand.note) more after → LeavesWith before (note before.hand.note) (all_told list seen more) after
  all_left note more leaves =
      leaves ∙ ap (λ (s : HallSeat). with_hand s (record { seated = s.hand.seated; holds = []; note = note s.hand.note; looks = s.hand.looks ++ more })) has.after_is
      ∙ ap (λ (ls : List (Look Slot)). with_hand before (record { seated = before.hand.seated; holds = []; note = note before.hand.note; looks = ls }))
      (told_all before.hand.looks (Took 0 (slots.List list)) has.more (took_lane has.victim lane) more)

  -- what it did with its prey is what the call did
  pub steals_of : (result : Result Event StealRefused) → StealsWith list has.victim lane middle after result → Steals workers word before after result
  steals_of (Ok event) steals = record {
    list = list;
    seen = seen;
    place = place;
    victim = has.victim;
    lane = lane;
    finds = finds;
    id = steals.0;
    shows = record { chosen = has.shows; victim = has.victim; there = PicksNext.there has.picks; its_id = shows_id list has.victim lane steals.0 has.more steals.1 steals.2 };
    more = steals.1;
    into = steals.2;
    leaves = (
      steals.3.0,
      subst (λ n. steals.0.0 + 2 < n) (ap (λ (s : HallSeat). s.table.slots) has.after_is) steals.3.1,
      all_left (λ n. stolen_note n steals.0 (list.part.begun + 1)) steals.1 steals.3.2,
    );
  }
  steals_of (Err (Busy held)) steals = inr (record {
    list = list;
    seen = seen;
    place = place;
    victim = has.victim;
    lane = lane;
    finds = finds;
    new_held = steals.0;
    told = all_left (λ n. n) (refused_look held ∷ []) steals.1
        ∙ ap (λ (xs : List (ℕ × Slot)). with_hand before (record { seated = before.hand.seated; holds = xs; note = before.hand.note; looks = before.hand.looks ++ all_told list seen (refused_look held ∷ []) }))
        (sym free);
  })
  steals_of (Err Nothing) steals = absurd steals
  steals_of (Err (Over end)) steals = absurd steals
  steals_of (Err (Stopped stop)) steals = record {
    list = list;
    seen = seen;
    place = place;
    victim = has.victim;
    lane = lane;
    finds = finds;
    its_stop = steals.1;
    more = steals.0;
    takes = steals.2;
    leaves = all_left (λ n. found_note n stop) steals.0 steals.3;
  }

-- a seat that held nothing, took the list and then found a deque has stolen
pub steals_then : (workers word : ℕ) (before held middle after : HallSeat) (list : ListSlot) (prey : Prey) → before.hand.holds ≡ [] → IsTaken before 0 (slots.List list) held
    → SeeksWith workers word list held middle (Ok prey) → (result : Result Event StealRefused)
    → ((victim : Place) → slice_get prey.list.part.order.places prey.place ≡ Some victim → StealsWith prey.list victim prey.lane middle after result) → Steals workers word before after result
steals_then workers word before held middle after list prey free taken seeks result steals =
    let found = begun.sought workers word before held middle list (Ok prey) taken free seeks in
    steals_of workers word before middle after free prey.list prey.place prey.lane found.0 found.1 result (steals (HasVictim.victim found.1) (PicksNext.there (HasVictim.picks found.1)))

-- what the choice was refused by is what the call is refused by
refused_as : (workers word : ℕ) (before after : HallSeat) (refused : SeekRefused) → HasSought workers word before after (Err refused) → Steals workers word before after (Err (refusal_of refused))
refused_as workers word before after (sought.Busy held) has = inl has
refused_as workers word before after sought.Nothing has = has
refused_as workers word before after (sought.Over end) has = has

pub refused_then : (workers word : ℕ) (before held after : HallSeat) (list : ListSlot) (refused : SeekRefused) → before.hand.holds ≡ [] → IsTaken before 0 (slots.List list) held
    → SeeksWith workers word list held after (Err refused) → Steals workers word before after (Err (refusal_of refused))
refused_then workers word before held after list refused free taken seeks = refused_as workers word before after refused (begun.sought workers word before held after list (Err refused) taken free seeks)

pub not_busy_as : (refused : SeekRefused) → seeking.IsNotBusy (Err refused) → IsNotBusy (Err (refusal_of refused))
not_busy_as (sought.Busy held) free = free
not_busy_as sought.Nothing free = free
not_busy_as (sought.Over end) free = free
