-- What a thief has written is a theft.
use Rattle.std.proofs.Common.{◌≡◌, ◌≢◌, ℕ, suc, ◌+◌, Bool, true, List, [], ◌∷◌, ◌++◌, length, inl, inr, sym, ap, ◌∙◌, subst, arith}
use Rattle.std.specs.Prelude.{Some, nat_lt}
use Rattle.hall_thief.specs.HallNames.{DequeId, with_hand, LaneSlot, ListSlot, HallKey, HallSeat}
use Rattle.deque_list.specs.declared.place.Place.{Place}
use Rattle.deque_list.specs.Ids.{IsSmallestFree, IsLive, place_ids, deque_id}
use Rattle.hall_slots.specs.Passed.Lists.{Among, Each}
use Rattle.hall_slots.proofs.Passed.DequeMachineLists.{each_from}
use Rattle.hall_slots.specs.Passed.Parts.{Has, place_with}
use Rattle.open_periods.specs.Periods.{open_shown}
use Rattle.open_periods.specs.declared.period.Period.{Period}
use Rattle.hall_slots.specs.Passed.Thread.{Thread}
use Rattle.hall_slots.specs.Passed.Writing.{new_period}
use Rattle.hall_thief.specs.Thefts.{stolen_note, IsRobbed, Begins, HasTakenOver, HasTakenBottom, HasStolen}
use Rattle.hall_thief.specs.Stealing.{IsNew, MayTakeOver, MayTakeBottom, HasStolenIn}

-- a period that begins shows nothing yet
shows_new : (period : Period) (worker : ℕ) (ahead : Bool) (number : ℕ) → IsNew period ahead (number + 1) → open_shown worker period ≡ new_period worker ahead (suc number)
shows_new period worker ahead number new = λ k. record { number = (new.number_is ∙ one_more number) k; ahead = new.marked k; owner = Some worker; used = new.unused k; ran = new.ran_nothing k; born = new.bore_none k }
  where
    one_more : (n : ℕ) → n + 1 ≡ suc n
    one_more n = omega arith

begins_of : (lane : LaneSlot) (thread : Thread) (worker its : ℕ) (ahead : Bool) (number : ℕ) (period : Period) → its ≡ worker → IsNew period ahead (number + 1) → lane.lane.items ≡ thread ∷ []
    → lane.running ≡ Some (record { worker = worker; period = period }) → Begins lane thread its ahead (suc number)
begins_of lane thread worker its ahead number period same new items running = record {
  items = items;
  period = period;
  running = running ∙ ap (λ w. Some (record { worker = w; period = period })) (sym same);
  shown = shows_new period its ahead number new;
}

-- what was taken over
pub over_of : (key : HallKey) (seat : HallSeat) (list now : ListSlot) (id : DequeId) (lane begun : LaneSlot) (worker : ℕ) (period : Period) (may : MayTakeOver key seat list id lane worker period)
    → IsRobbed list now (Has.left may.has ++ place_with id (Some worker) ∷ Has.right may.has) → begun.lane ≡ lane.lane → begun.running ≡ Some (record { worker = worker; period = period })
    → HasTakenOver key seat now id begun
over_of key seat list now id lane begun worker period may robbed same running = record {
  thief = may.open_to.thief;
  list_was = list;
  lane_was = lane;
  holds = may.holds;
  left = Has.left may.has;
  right = Has.right may.has;
  near = may.near;
  places_were = Has.places_are may.has;
  thread = may.thread;
  one = may.one;
  robbed = subst (λ w. IsRobbed list now (Has.left may.has ++ place_with id (Some w) ∷ Has.right may.has)) (sym may.open_to.its_worker) robbed;
  begins = begins_of begun may.thread worker seat.hand.note.worker (nat_lt 0 (length (Has.left may.has))) list.part.begun period may.open_to.its_worker may.new
      ((λ k. (same k).items) ∙ may.one) running;
}

-- a free id is that of no place
pub free_of : (places : List Place) (id : DequeId) → IsSmallestFree (place_ids places) id → Each (λ place. place.id.0 ≢ id.0) places
free_of places id next = each_from (λ place. place.id.0 ≢ id.0) places (λ place there same. next.0 (is_live places place there id same))
  where
    is_live : (ps : List Place) (place : Place) → Among place ps → (d : DequeId) → place.id.0 ≡ d.0 → IsLive (place_ids ps) d
    is_live [] place there d same = absurd there
    is_live (p ∷ ps) place there d same = elim there [
      | inl here ↦ (0, ap (λ (q : Place). Some q.id) (sym here) ∙ ap (λ n. Some (deque_id n)) same)
      | inr later ↦ let rest = is_live ps place later d same in (suc rest.0, rest.1)
    ]

-- what was taken from the bottom
pub bottom_of : (key : HallKey) (seat : HallSeat) (list now : ListSlot) (victim : DequeId) (lane left_lane : LaneSlot) (id : DequeId) (new moved begun : LaneSlot) (worker : ℕ) (period : Period)
    (may : MayTakeBottom key seat list victim lane id new worker period)
    → IsRobbed list now (Has.left may.has ++ place_with victim may.owner ∷ place_with id (Some worker) ∷ Has.right may.has)
    → (left_lane.lane.items ≡ may.first ∷ may.others) × (moved.lane.items ≡ may.bottom ∷ []) → left_lane.running ≡ lane.running → begun.lane ≡ moved.lane
    → begun.running ≡ Some (record { worker = worker; period = period }) → HasTakenBottom key seat now victim left_lane id begun
bottom_of key seat list now victim lane left_lane id new moved begun worker period may robbed items running same begins = record {
  thief = may.open_to.thief;
  list_was = list;
  lane_was = lane;
  new_was = may.new_was;
  holds = may.holds;
  left = Has.left may.has;
  right = Has.right may.has;
  owner = may.owner;
  near = may.near;
  places_were = Has.places_are may.has;
  free = free_of list.part.order.places id may.next;
  first = may.first;
  others = may.others;
  bottom = may.bottom;
  more = may.more;
  stay = items.0;
  running = running;
  robbed = subst (λ w. IsRobbed list now (Has.left may.has ++ place_with victim may.owner ∷ place_with id (Some w) ∷ Has.right may.has)) (sym may.open_to.its_worker) robbed;
  begins = begins_of begun may.bottom worker seat.hand.note.worker true list.part.begun period may.open_to.its_worker may.period_new ((λ k. (same k).items) ∙ items.1) begins;
}

-- the seat notes the number of the period
pub stolen_in : (before after : HallSeat) (id : DequeId) (list now : ListSlot) (number : ℕ) (places : List Place) → IsRobbed list now places → number ≡ list.part.begun + 1 → HasStolen before id now after
    → HasStolenIn before id number after
stolen_in before after id list now number places robbed is steals = steals
    ∙ ap (λ n. with_hand before (record { seated = before.hand.seated; holds = []; note = stolen_note before.hand.note id n; looks = before.hand.looks })) (robbed.begun ∙ sym is)
