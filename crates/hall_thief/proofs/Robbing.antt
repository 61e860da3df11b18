-- The victim that a thief has chosen may be robbed.
use Rattle.std.proofs.Common.{◌≡◌, ℕ, ◌+◌, ◌%◌, ◌<◌, min, List, [], ◌∷◌, ◌++◌, length, inl, inr, refl, sym, ap, ◌∙◌, subst, arith, mod-lt}
use Rattle.std.specs.Prelude.{Option, None, nat_lt}
use Rattle.deque_list.specs.declared.place.Place.{Place}
use Rattle.hall_slots.specs.Passed.Parts.{Has, place_with}
use Rattle.open_periods.proofs.Sorting.{cut_at}
use Rattle.hall_slots.specs.Passed.Thread.{Thread}
use Rattle.hall_slots.specs.Passed.Receipts.{ShowsVictim}
use Rattle.hall_thief.specs.HallNames.{LaneSlot, ListSlot, Slot, HallKey, HallSeat}
use Rattle.hall_slots.specs.declared.slot.Slot.TheVariants as slots
use Rattle.hall_thief.specs.Choosing.{HasVictim, PicksNext}
use Rattle.hall_thief.specs.Stealing.{IsNew}
use Rattle.hall_thief.specs.Robbing.{FoundMayBeTakenOver, FoundBottomsMayBeTaken}

module _ (key : HallKey) (before seat : HallSeat) (list : ListSlot) (word place : ℕ) (lane : LaneSlot) (has : HasVictim key.workers word list before place lane seat) where
  abbrev cut : (left right : List Place) × (list.part.order.places ≡ left ++ has.victim ∷ right) × (length left ≡ place)
  cut = cut_at list.part.order.places place has.victim (PicksNext.there has.picks)

  -- it is in the middle of the places
  abbrev pub middle_of : (owner : Option ℕ) → has.victim.owner ≡ owner → Has list.part.order.places has.victim.id owner
  middle_of owner is = record { left = cut.0; right = cut.1; places_are = cut.2 ∙ ap (λ o. cut.0 ++ place_with has.victim.id o ∷ cut.1) is }

  pub at_place : length cut.0 ≡ place
  at_place = cut.3

  -- and in reach
  pub in_reach : length cut.0 < key.workers
  in_reach = let few = ShowsVictim.few has.shows in let is = ShowsVictim.is has.shows in let at = at_place in
      let low : (word + ShowsVictim.turns has.shows) % min key.workers (length list.part.order.places) < min key.workers (length list.part.order.places) =
      mod-lt (word + ShowsVictim.turns has.shows) (let some : 0 < min key.workers (length list.part.order.places) = omega (arith, few) in some) in
      omega (arith, is, at, low)

  -- nobody owns it if it has one thread
  pub nobody : (thread : Thread) → lane.lane.items ≡ thread ∷ [] → has.victim.owner ≡ None
  nobody thread one = elim has.is_ready [
    | inl none ↦ none
    | inr two ↦ let many = ap length one in absurd (omega (arith, two, many))
  ]

  pub holds_both : before.hand.holds ≡ (0, slots.List list) ∷ [] → seat.hand.holds ≡ (has.victim.id.0 + 2, slots.Lane lane) ∷ (0, slots.List list) ∷ []
  holds_both alone = ap (λ (s : HallSeat). s.hand.holds) has.after_is ∙ ap (λ (xs : List (ℕ × Slot)). (has.victim.id.0 + 2, slots.Lane lane) ∷ xs) alone

pub found_may_be_taken_over : FoundMayBeTakenOver
found_may_be_taken_over key before seat list word place worker lane period thread alone has opened one new = record {
  open_to = opened;
  holds = holds_both key before seat list word place lane has alone;
  has = middle_of key before seat list word place lane has None (nobody key before seat list word place lane has thread one);
  near = in_reach key before seat list word place lane has;
  thread = thread;
  one = one;
  new = subst (λ n. IsNew period (nat_lt 0 n) (list.part.begun + 1)) (sym (at_place key before seat list word place lane has)) new;
}

pub found_bottoms_may_be_taken : FoundBottomsMayBeTaken
found_bottoms_may_be_taken key before middle seat list word place worker lane new_was new id period first bottom others alone has taken opened more next few empty room period_new = record {
  open_to = opened;
  new_was = new_was;
  holds = ap (λ (s : HallSeat). s.hand.holds) taken ∙ ap (λ (xs : List (ℕ × Slot)). (id.0 + 2, slots.Lane new_was) ∷ xs) (holds_both key before middle list word place lane has alone);
  owner = (HasVictim.victim has).owner;
  has = middle_of key before middle list word place lane has (HasVictim.victim has).owner refl;
  near = in_reach key before middle list word place lane has;
  next = next;
  few = few;
  first = first;
  others = others;
  bottom = bottom;
  more = more;
  room = room;
  empty = empty;
  period_new = period_new;
}
