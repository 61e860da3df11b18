-- What the calls on the list do to it.
use Rattle.std.specs.Prelude.{◌≡◌, ℕ, Option, None, Some, List, ◌∷◌, ◌++◌}
use Rattle.play_rules.specs.declared.stop.Stop.{Stop}
use Rattle.play_rules.specs.declared.ends.RunEnd.{RunEnd}
use Rattle.play_rules.specs.declared.ends.RunEnd.TheVariants.{Stopped}
use Rattle.deque_list.specs.declared.deque_id.DequeId.{DequeId}
use Rattle.deque_list.specs.declared.place.Place.{Place}
use Rattle.list_changes.specs.Parts.{Has, place_with}
use Rattle.open_periods.specs.Tables.{shut}
use Rattle.hall_machine.specs.Values.{Hall}
use Rattle.hall_machine.specs.Writing.{IsAtWork, list_unowned, list_without}
use Rattle.hall_slots.specs.declared.list_slot.ListSlot.{ListSlot}
use Rattle.hall_slots.specs.declared.lane_slot.Running.{Running}
use Rattle.hall_slots.specs.Shown.{list_shown, running_shown}

-- the end that is kept where a stop is to be kept: the one that was kept before, and else the stop
abbrev pub end_kept : Option RunEnd → Stop → RunEnd
end_kept None stop = Stopped stop
end_kept (Some end) stop = end

-- one worker is out of the crew, and the others are in it as they were
pub record IsOutOf (worker : ℕ) (before after : List ℕ) : Type 0 where
  pub front : List ℕ
  pub back : List ℕ
  pub before_is : before ≡ front ++ worker ∷ back
  pub after_is : after ≡ front ++ back

-- the list shows that a deque, which was that of a worker at work, has no owner, or is gone, and that its period is closed, for whichever
-- worker it was noted
abbrev pub ShowsUnowned : (before after : ListSlot) → DequeId → Running → Type 0
ShowsUnowned before after id running = (worker : ℕ) (h : Hall) (w : IsAtWork h worker) → h.list ≡ list_shown before → w.id ≡ id
    → list_shown after ≡ list_unowned w (shut (running_shown running))

abbrev pub ShowsWithout : (before after : ListSlot) → DequeId → Running → Type 0
ShowsWithout before after id running = (worker : ℕ) (h : Hall) (w : IsAtWork h worker) → h.list ≡ list_shown before → w.id ≡ id
    → list_shown after ≡ list_without w (shut (running_shown running))

-- What a call that closes a period leaves: the crew, the end, what waits, the results, and how many deques there may be.
pub record KeepsRest (before after : ListSlot) : Type 0 where
  pub crew : after.crew ≡ before.crew
  pub end : after.end ≡ before.end
  pub waiting : after.part.waiting ≡ before.part.waiting
  pub results : after.part.results ≡ before.part.results
  pub most : after.part.order.most ≡ before.part.order.most

-- the deque has no owner in the list, or is out of it, and the others are where they were
abbrev pub HasNoOwner : DequeId → (before after : List Place) → Type 0
HasNoOwner id before after = (owner : Option ℕ) (has : Has before id owner) → after ≡ has.left ++ place_with id None ∷ has.right

abbrev pub IsGone : DequeId → (before after : List Place) → Type 0
IsGone id before after = (owner : Option ℕ) (has : Has before id owner) → after ≡ has.left ++ has.right
