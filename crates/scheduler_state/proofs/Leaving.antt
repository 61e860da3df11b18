-- How a run goes on by an event that does nothing: a deque that is given up, a thread that waits, a theft.
use Rattle.std.proofs.Common.{◌≡◌, ℕ, ◌+◌, ◌≤◌, ◌<◌, List, length, sym, subst, ◌∙◌, arith}
use Rattle.std.specs.Prelude.{Some, slice_get}
use Rattle.dag_order.specs.declared.thread_id.ThreadId.{ThreadId}
use Rattle.open_periods.specs.Passed.Actions.{Deed, record_words}
use Rattle.thread_points.specs.Passed.States.{Setting}
use Rattle.thread_state.proofs.Passed.Built.{whole_is_depth_first}
use Rattle.deque_list.specs.declared.deque_id.DequeId.{DequeId}
use Rattle.open_periods.specs.Passed.Books.{charge_at}
use Rattle.open_periods.specs.Passed.Moments.{Moment, Deque, owned_by}
use Rattle.open_periods.specs.Passed.Machine as machine
use Rattle.open_periods.specs.Passed.LawfulOrder.{IsLawful}
use Rattle.open_periods.specs.Passed.Play as play
use Rattle.open_periods.specs.Passed.Play.{Meets, IsFirst, IsReady, IsThiefsId, Stays, reach, a_give_up, a_theft, no_deque}
use Rattle.open_periods.specs.Passed.DequeMachineRuns.{Pair, moves}
use Rattle.open_periods.specs.Names.{HasLabel}
use Rattle.open_periods.specs.Tables.{periods_of}
use Rattle.moment_laws.specs.Passed.Parts.{Parts}
use Rattle.moment_laws.specs.Passed.MomentShownEvents.{Works, IsNextOf, GivesUp, Suspends, Steals}
use Rattle.moment_laws.proofs.Passed.Placing.{own, top_stands}
use Rattle.thread_points.specs.Passed.Run.{list_of}
use Rattle.moment_laws.specs.Standing.{StandsAfter, Keeps}
use Rattle.moment_laws.proofs.Labels.{wait_keeps_labels}
use Rattle.moment_laws.proofs.Standing.{give_ups_stand, waits_stand, thefts_stand}
use Rattle.moment_laws.proofs.Told.{others_add_none, wait_is_wanted, give_up_is_forced}
use Rattle.scheduler_state.specs.declared.event.Event.TheVariants.{Stole, Suspended, GaveUp}
use Rattle.moment_laws.specs.Orders.{AreSame}
use Rattle.scheduler_state.specs.Held.{Held, parts_in}
use Rattle.scheduler_state.specs.Moments.{shown, HasRun}
use Rattle.open_periods.specs.Passed.Terms.{Terms, machine_of}
use Rattle.scheduler_state.specs.Outcomes.{GoesOn, GivesDequeUp, tells_wait, tells_give_up, tells_theft}
use Rattle.scheduler_state.proofs.Going.{some_quota, has_run_on}

-- what stays where nothing is done
pub record IsIdle (before after : Held) (more : ℕ) : Type 0 where
  pub live : after.live ≡ before.live
  pub moves : after.moves ≡ before.moves
  pub done : after.done ≡ before.done
  pub begun : after.table.begun ≡ before.table.begun + more

next_number : (number begun books : ℕ) → number ≡ begun + 1 → begun ≡ books → number ≡ Rattle.std.specs.Prelude.suc books
next_number number begun books is same = omega (arith, is, same)

module _ (c : Setting) (terms : Terms) (quota : record_words ≤ c.quota) (h after : Held) (run : List Pair) (m : Moment) (at : HasRun c terms h run m) (worker : ℕ) where
  abbrev s : machine.Setting
  s = machine_of c terms

  lawful : IsLawful s m
  lawful = at.standing.lawful

  kept_so : (more : ℕ) → IsIdle h after more → Keeps (shown h) (shown after) more
  kept_so more idle = record { live = idle.live; begun = idle.begun; moves = idle.moves }

  -- only an action or a theft of a new deque can be stopped
  gives_up_free : (stop : play.Stop) → Meets s terms.limits m machine.gives_up stop → ⊥
  gives_up_free stop meets = elim meets [ ]

  pub gave_up : (next : Parts) → GivesUp (parts_in h) worker next → AreSame next (parts_in after) → IsIdle h after 0
      → (o : Works (parts_in h) worker) (id : DequeId) → o.id ≡ id.0 → GivesDequeUp c terms after worker run m id
  gave_up next gives same idle o id is =
      let behind : StandsAfter s (shown after) (moves (list_of c) run) m worker machine.gives_up =
      give_ups_stand s (some_quota c terms quota) (whole_is_depth_first c) (shown h) (shown after) (moves (list_of c) run) m worker next at.standing gives same (kept_so 0 idle) in
      record {
        next = behind.0;
        may = behind.1;
        stands = has_run_on c terms quota h after run m at worker machine.gives_up behind (idle.done ∙ at.done ∙ sym ((others_add_none s m behind.0 worker).1 behind.1).booked);
        tells = tells_give_up (own s (whole_is_depth_first c) m lawful (parts_in h) at.standing.shows worker o) id is;
      }

  -- a give up that is forced is the event that the rules want
  pub gave_up_goes_on : (word : ℕ) (o : Works (parts_in h) worker) (place : ℕ) (deed : Deed) → IsNextOf (list_of c) o.top place deed
      → c.quota < o.period.used + charge_at c.quota (list_of c) place → (id : DequeId) → GivesDequeUp c terms after worker run m id
      → GoesOn c terms after worker word run m (GaveUp id)
  gave_up_goes_on word o place deed is_next no_room id gave = record {
    event = machine.gives_up;
    next = gave.next;
    wants = a_give_up (give_up_is_forced s (some_quota c terms quota) (whole_is_depth_first c) m (parts_in h) worker place deed lawful at.standing.shows o is_next no_room);
    free = gives_up_free;
    may = gave.may;
    stands = gave.stands;
    tells = gave.tells;
  }

  waits_free : (stop : play.Stop) → Meets s terms.limits m machine.suspends stop → ⊥
  waits_free stop meets = elim meets [ ]

  pub waited_goes_on : (word : ℕ) (next : Parts) → Suspends (list_of c) (parts_in h) worker next → AreSame next (parts_in after) → IsIdle h after 0
      → (o : Works (parts_in h) worker) (id : ThreadId) → o.top.id ≡ id → GoesOn c terms after worker word run m (Suspended id)
  waited_goes_on word next waits same idle o id is =
      let behind : StandsAfter s (shown after) (moves (list_of c) run) m worker machine.suspends =
      waits_stand s (some_quota c terms quota) (whole_is_depth_first c) (shown h) (shown after) (moves (list_of c) run) m worker next at.standing waits same (kept_so 0 idle) in
      let stays : (x : ThreadId) (label : List ℕ) → HasLabel (periods_of h.table) x label → HasLabel next.periods x label =
      wait_keeps_labels c.quota (list_of c) (parts_in h) worker next m.books at.standing.shows.books waits in
      record {
        event = machine.suspends;
        next = behind.0;
        wants = wait_is_wanted s m behind.0 worker word behind.1;
        free = waits_free;
        may = behind.1;
        stands = has_run_on c terms quota h after run m at worker machine.suspends behind (idle.done ∙ at.done ∙ sym ((others_add_none s m behind.0 worker).0 behind.1).booked);
        tells = tells_wait (own s (whole_is_depth_first c) m lawful (parts_in h) at.standing.shows worker o) id
            (subst (λ ps. HasLabel ps id o.top.label) (sym same.periods) (subst (λ x. HasLabel next.periods x o.top.label) is
            (stays o.top.id o.top.label (top_stands s (whole_is_depth_first c) m lawful (parts_in h) at.standing.shows worker o).labelled)));
      }

  -- a theft, at the first place that is ready, into a deque with the id that it gets
  pub stole_goes_on : (word place : ℕ) (id : DequeId) (next : Parts) → Steals terms.workers h.table.begun (parts_in h) worker place id.0 next → AreSame next (parts_in after)
      → IsIdle h after 1 → owned_by worker m.deques ≡ 0 → IsFirst (reach s m) word (IsReady m) place → IsThiefsId m place id.0
      → ((deque : Deque) → slice_get m.deques place ≡ Some deque → Stays deque → terms.limits.deques ≤ length m.deques → ⊥)
      → (number : ℕ) → number ≡ h.table.begun + 1 → GoesOn c terms after worker word run m (Stole id number)
  stole_goes_on word place id next steals same idle owns_none first its_id room number number_is =
      let behind : StandsAfter s (shown after) (moves (list_of c) run) m worker (machine.steals place id.0) =
      thefts_stand s (some_quota c terms quota) (whole_is_depth_first c) (shown h) (shown after) (moves (list_of c) run) m worker place id.0 next at.standing steals same (kept_so 1 idle) in
      record {
        event = machine.steals place id.0;
        next = behind.0;
        wants = a_theft place id.0 owns_none first its_id;
        free = λ stop meets. no_stop stop meets;
        may = behind.1;
        stands = has_run_on c terms quota h after run m at worker (machine.steals place id.0) behind
            (idle.done ∙ at.done ∙ sym ((others_add_none s m behind.0 worker).2 place id.0 behind.1).booked);
        tells = subst (λ n. Rattle.scheduler_state.specs.Outcomes.Tells (list_of c) (periods_of after.table) m worker (machine.steals place id.0) (Stole id n))
            (sym (next_number number h.table.begun (length m.books) number_is at.standing.begun)) (tells_theft place id);
      }
    where
      no_stop : (stop : play.Stop) → Meets s terms.limits m (machine.steals place id.0) stop → ⊥
      no_stop stop (no_deque p i deque is stays full) = room deque is stays full
