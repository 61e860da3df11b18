-- The lanes after an event of a seat at work.
use Rattle.std.proofs.Common.{◌≡◌, ◌≢◌, ℕ, List, sym, subst}
use Rattle.std.specs.Prelude.{Option, Some}
use Rattle.deque_list.specs.declared.deque_id.DequeId.{DequeId}
use Rattle.deque_list.specs.declared.place.Place.{Place}
use Rattle.deque_machine.specs.Lists.{Among, Each}
use Rattle.deque_machine.proofs.Lists.{each_among, among_here}
use Rattle.deque_machine.specs.Moments.{Moment}
use Rattle.deque_machine.specs.Machine.{Setting}
use Rattle.deque_machine.specs.Play.{Limits}
use Rattle.hall_machine.specs.Values.{Hall, no_memory, End}
use Rattle.hall_machine.specs.Steps.{Step, Leads}
use Rattle.hall_machine.specs.Writing.{place_of, IsAtWork}
use Rattle.hall_machine.specs.Views.{View}
use Rattle.hall_machine.specs.State.{RunningState, IsIn}
use Rattle.hall_machine.specs.Points.{IsExcused, LaneAtPoints}
use Rattle.hall_interleavings.proofs.Excuses.{none_excused, excused_itself}

module _ {T : Type 0} (At : T → Type 0) (s : Setting) (limits : Limits) (h : Hall) (steps : List Step) (m : Moment) (leads : Leads s steps m) (count : ℕ) (views : List View) (seat : ℕ) (v : View)
    (state : RunningState s limits h steps m leads count views) (here : IsIn views seat v) (w : IsAtWork h v.worker) (lanes : DequeId → List T)
    (were : Each (λ place. LaneAtPoints At (IsExcused views h.list.kept place.owner) (lanes place.id)) h.list.places) where
  abbrev mine : Place
  mine = place_of w.id (Some v.worker)

  own_lane : LaneAtPoints At (IsExcused views h.list.kept (Some v.worker)) (lanes w.id)
  own_lane = each_among (λ place. LaneAtPoints At (IsExcused views h.list.kept place.owner) (lanes place.id)) mine h.list.places were
      (subst (Among mine) (sym w.places_are) (among_here mine w.left w.right))

  -- all threads in its lane are at their points, unless it found want of memory
  pub all_in_lane : v.found ≢ Some no_memory → Each At (lanes w.id)
  all_in_lane found = none_excused At (IsExcused views h.list.kept (Some v.worker)) (λ excused. found (excused_itself s limits h steps m leads count views seat v state here excused))
      (lanes w.id) own_lane

  -- ---- the lanes beside

  module _ (views_now : List View) (kept_now : Option End) (lanes_now : DequeId → List T) (same : (other : DequeId) → other.0 ≢ w.id.0 → lanes_now other ≡ lanes other)
      (excuses : (place : Place) → Among place h.list.places → place.id.0 ≢ w.id.0 → IsExcused views h.list.kept place.owner → IsExcused views_now kept_now place.owner) where
    abbrev pub Now : Place → Type 0
    Now place = LaneAtPoints At (IsExcused views_now kept_now place.owner) (lanes_now place.id)
