-- Each event of a seat leads from a running state to a running state, by one event of the machine.
use Rattle.std.proofs.Common.{◌≡◌, ℕ, suc, ◌<◌, true, false, List, true≢false}
use Rattle.std.specs.Prelude.{Option, None, Some, slice_set}
use Rattle.dag_order.specs.declared.action_id.ActionId.{ActionId}
use Rattle.open_periods.specs.Passed.DepthFirstListRuns.{IsDepthFirst}
use Rattle.deque_list.specs.declared.deque_id.DequeId.{DequeId}
use Rattle.deque_machine.specs.Moments.{Moment}
use Rattle.deque_machine.specs.Machine.{Setting, Event, steals, does}
use Rattle.deque_machine.specs.Play.{Limits}
use Rattle.hall_machine.specs.Values.{Hall}
use Rattle.hall_machine.specs.Steps.{Step, Told, did, stole, Leads}
use Rattle.hall_machine.specs.Writing.{IsAtWork, step_of}
use Rattle.hall_machine.specs.Views.{View}
use Rattle.hall_machine.specs.Changes.{after_event}
use Rattle.hall_machine.specs.State.{RunningState, IsIn, GoesOn}
use Rattle.hall_machine.proofs.Owners.{lane_actions_go_on, own_joins_go_on, dummies_go_on, ends_above_go_on, waking_ends_go_on, leaving_ends_go_on, kept_joins_go_on, giving_up_goes_on, forced_give_ups_go_on, suspending_goes_on}
use Rattle.hall_machine.proofs.Roots.{root_ends_go_on}
use Rattle.hall_machine.proofs.Thieves.{thefts_beside_go_on, taking_over_goes_on}
use Rattle.hall_machine.proofs.Quiet.{leaving_owners_go_on}
use Rattle.hall_interleavings.specs.Events.{ActsOn, acts_in_lane, joins_in_lane, runs_dummy, ends_above, ends_and_wakes, ends_and_leaves, root_ends, joins_kept, PausesOn, gives_up_forced, waits_for_child, StealsOn, steals_beside, takes_over, does_an_action, has_to_pause, gives_up_freely, steals_a_thread, leaves_as_owner}
use Rattle.hall_interleavings.specs.Sequences.{EventsGoOn}

module _ (s : Setting) (some : 0 < s.quota) (list : IsDepthFirst s.quota s.list) (limits : Limits) (h : Hall) (events : List Step) (m : Moment) (leads : Leads s events m) (count : ℕ)
    (views : List View) (seat : ℕ) (v : View) (state : RunningState s limits h events m leads count views) (here : IsIn views seat v) where
  action_goes_on : (w : IsAtWork h v.worker) (place : ℕ) (name : ActionId) (after : Hall) (deque : Option DequeId) → v.counting ≡ true → ActsOn s h w place name after deque
      → GoesOn s limits after events m leads (step_of w seat (does place) (did name)) count (slice_set views seat (after_event v deque (did name) v.yielded))
  action_goes_on w place name after deque counting (acts_in_lane threads words births pool acts takes) =
      lane_actions_go_on s some list limits h events m leads count views seat v w place name threads words births pool state here counting acts takes
  action_goes_on w place name after deque counting (joins_in_lane new words join none) =
      own_joins_go_on s some list limits h events m leads count views seat v w place name new words state here counting join none
  action_goes_on w place name after deque counting (runs_dummy new dummy) =
      dummies_go_on s some list limits h events m leads count views seat v w place name new state here counting dummy
  action_goes_on w place name after deque counting (ends_above parent handed below result pool under end is_handed takes) =
      ends_above_go_on s some list limits h events m leads count views seat v w place name parent handed below result pool state here counting under end is_handed takes
  action_goes_on w place name after deque counting (ends_and_wakes before later waiting parent handed newest older result pool alone waits children is end is_handed takes same) =
      waking_ends_go_on s some list limits h events m leads count views seat v w place name before later waiting parent handed newest older result pool state here counting alone waits
      children is end is_handed takes same
  action_goes_on w place name after deque counting (ends_and_leaves result results pool alone unwaited end takes same) =
      leaving_ends_go_on s some list limits h events m leads count views seat v w place name result results pool state here counting alone unwaited end takes same
  action_goes_on w place name after deque counting (root_ends result results pool alone unwaited end takes same is_root no_end) =
      root_ends_go_on s some list limits h events m leads count views seat v w place name result results pool state here counting alone unwaited end takes same is_root no_end
  action_goes_on w place name after deque counting (joins_kept before later results result handed new words pool are is_handed newest join takes same) =
      kept_joins_go_on s some list limits h events m leads count views seat v w place name before later results result handed new words pool state here counting are is_handed join takes
      same

  pause_goes_on : (w : IsAtWork h v.worker) (event : Event) (told : Told) (after : Hall) → v.counting ≡ false → PausesOn s h w event told after
      → GoesOn s limits after events m leads (step_of w seat event told) count (slice_set views seat (after_event v None told v.yielded))
  pause_goes_on w event told after free (gives_up_forced place deed is_next full) =
      forced_give_ups_go_on s some list limits h events m leads count views seat v w place deed state here free is_next full
  pause_goes_on w event told after free (waits_for_child place newest older waiting is_next children open_child no_result alone same) =
      suspending_goes_on s some list limits h events m leads count views seat v w place newest older waiting state here free is_next children open_child no_result alone same

  theft_goes_on : (place : ℕ) (id : DequeId) (after : Hall) → v.deque ≡ None → StealsOn s h v.worker place id after
      → GoesOn s limits after events m leads (record {
        seat = seat;
        worker = v.worker;
        period = suc h.list.begun;
        event = steals place id.0;
        told = stole id.0 (suc h.list.begun);
      }) count (slice_set views seat (after_event v (Some id) (stole id.0 (suc h.list.begun)) v.yielded))
  theft_goes_on place id after idle (steals_beside left right victim new first bottom others running reach are lane free inside) =
      thefts_beside_go_on s some list limits h events m leads count views seat v left right victim new first bottom others running state here idle reach are lane free inside
  theft_goes_on place id after idle (takes_over left right taken thread reach are lane) =
      taking_over_goes_on s some list limits h events m leads count views seat v left right taken thread state here idle reach are lane

pub events_go_on : (s : Setting) → 0 < s.quota → IsDepthFirst s.quota s.list → EventsGoOn s
events_go_on s some list limits b after step events m leads state (does_an_action seat v w place name hall deque here counting acts) =
    action_goes_on s some list limits b.hall events m leads b.count b.views seat v state here w place name hall deque counting acts
events_go_on s some list limits b after step events m leads state (has_to_pause seat v w event told hall here free pauses) =
    pause_goes_on s some list limits b.hall events m leads b.count b.views seat v state here w event told hall free pauses
events_go_on s some list limits b after step events m leads state (gives_up_freely seat v w here free) =
    giving_up_goes_on s some list limits b.hall events m leads b.count b.views seat v w true state here free (λ no. absurd (true≢false no)) (λ no. absurd (true≢false no))
events_go_on s some list limits b after step events m leads state (steals_a_thread seat v place id hall here idle steals_it) =
    theft_goes_on s some list limits b.hall events m leads b.count b.views seat v state here place id hall idle steals_it
events_go_on s some list limits b after step events m leads state (leaves_as_owner seat v w before later here free nobody crew) =
    leaving_owners_go_on s some list limits b.hall events m leads b.count b.views seat v w before later state here free nobody crew
