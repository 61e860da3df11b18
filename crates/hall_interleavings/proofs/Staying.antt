-- Each step of a seat that is no event leads from a running state to a running state at the same moment.
use Rattle.std.proofs.Common.{◌≡◌, ℕ, ◌<◌, false, List, refl}
use Rattle.std.specs.Prelude.{None, Some, slice_set}
use Rattle.open_periods.specs.Passed.DepthFirstListRuns.{IsDepthFirst}
use Rattle.deque_machine.specs.Moments.{Moment}
use Rattle.deque_machine.specs.Machine.{Setting}
use Rattle.deque_machine.specs.Play.{Limits}
use Rattle.open_periods.proofs.Lists.{set_same}
use Rattle.hall_machine.specs.Values.{Hall, Stop}
use Rattle.hall_machine.specs.Steps.{Step, Leads}
use Rattle.hall_machine.specs.Views.{View}
use Rattle.hall_machine.specs.Crew.{Crew, HasCauseAmong}
use Rattle.hall_machine.specs.Seats.{finding, end_with}
use Rattle.hall_machine.proofs.Noting.{crews_stand}
use Rattle.hall_machine.proofs.Halting.{finding_keeps_crew, stops_are_kept, answers_keep_crew}
use Rattle.hall_machine.specs.State.{RunningState, IsIn}
use Rattle.hall_machine.proofs.Quiet.{quiet_puts_go_on, counts_go_on, entering_goes_on, splitting_goes_on, kept_stops_go_on, halting_goes_on, leaving_goes_on, joining_goes_on}
use Rattle.hall_machine.proofs.Stops.{spent_counts_go_on, full_arenas_go_on, full_lists_go_on}
use Rattle.hall_interleavings.specs.Others.{MayFind, wants_memory, fills_the_arena, fills_the_list, puts_the_same, counts_below, counts_spent, finds_a_stop, finds_and_keeps, keeps_its_stop, halts_with, is_answered, enters_by, splits_off, leaves_idle, joins_into}
use Rattle.hall_interleavings.specs.Sequences.{OthersStay}

module _ (s : Setting) (some : 0 < s.quota) (list : IsDepthFirst s.quota s.list) (limits : Limits) (h : Hall) (events : List Step) (m : Moment) (leads : Leads s events m) (count : ℕ)
    (views : List View) (seat : ℕ) (v : View) (state : RunningState s limits h events m leads count views) (here : IsIn views seat v) where
  -- a stop that a seat finds
  finding_goes_on : (stop : Stop) → v.counting ≡ false → v.found ≡ None → MayFind s limits h v stop → Crew s limits h events m leads count (slice_set views seat (finding v stop))
  finding_goes_on stop free none wants_memory = finding_keeps_crew s limits h events m leads count views seat v stop state.crew here.noted here.placed free none tt
  finding_goes_on stop free none (fills_the_arena w place deed is_next takes within full) =
      full_arenas_go_on s some list limits h events m leads count views seat v w place deed state here free none is_next takes within full
  finding_goes_on stop free none (fills_the_list word place victim idle first is stays full) =
      full_lists_go_on s some list limits h events m leads count views seat v word place victim state here idle none first is stays full

  -- it has its cause
  cause_of : (stop : Stop) → v.counting ≡ false → v.found ≡ None → MayFind s limits h v stop → HasCauseAmong s limits events m leads stop
  cause_of stop free none may =
      ((finding_goes_on stop free none may).seats seat (finding v stop) (set_same views seat (finding v stop) v here.noted) here.placed).found stop refl

pub others_stay : (s : Setting) → 0 < s.quota → IsDepthFirst s.quota s.list → OthersStay s
others_stay s some list limits b after events m leads state (puts_the_same hall same keeps lanes looks) =
    quiet_puts_go_on s limits b.hall hall events m leads b.count b.views state same keeps lanes looks
others_stay s some list limits b after events m leads state (counts_below seat v id here free none owns few) =
    counts_go_on s limits b.hall events m leads b.count b.views seat v id state here free none owns few
others_stay s some list limits b after events m leads state (counts_spent seat v id here free none owns spent) = record {
  stands = state.stands;
  crew = (spent_counts_go_on s some list limits b.hall events m leads b.count b.views seat v id state here free none owns spent).1;
}
others_stay s some list limits b after events m leads state (finds_a_stop seat v stop here free none may) = record {
  stands = state.stands;
  crew = finding_goes_on s some list limits b.hall events m leads b.count b.views seat v state here stop free none may;
}
others_stay s some list limits b after events m leads state (finds_and_keeps seat v stop here free none may) =
    kept_stops_go_on s limits b.hall events m leads b.count b.views seat v stop state here free none
    (cause_of s some list limits b.hall events m leads b.count b.views seat v state here stop free none may)
others_stay s some list limits b after events m leads state (keeps_its_stop seat v stop is placed found) = record {
  stands = crews_stand s b.hall events m b.hall.list.crew (Some (end_with b.hall.list.kept stop)) state.stands;
  crew = stops_are_kept s limits b.hall events m leads b.count b.views seat v stop state.crew is placed found;
}
others_stay s some list limits b after events m leads state (halts_with seat v stop here found) =
    halting_goes_on s limits b.hall events m leads b.count b.views seat v stop state here found
others_stay s some list limits b after events m leads state (is_answered seat v end is placed kept) = record {
  stands = state.stands;
  crew = (answers_keep_crew s limits b.hall events m leads b.count b.views seat v end state.crew is placed kept).0;
}
others_stay s some list limits b after events m leads state (enters_by seat v worker before later is two nobody no_end crew low new) =
    entering_goes_on s limits b.hall events m leads b.count b.views seat v worker before later state is two nobody no_end crew low new
others_stay s some list limits b after events m leads state (splits_off seat v worker is enters) =
    splitting_goes_on s limits b.hall events m leads b.count b.views seat v worker state is enters
others_stay s some list limits b after events m leads state (leaves_idle seat v before later here idle nobody crew) =
    leaving_goes_on s limits b.hall events m leads b.count b.views seat v before later state here idle nobody crew
others_stay s some list limits b after events m leads state (joins_into seat other into gone apart is its placed some_places left nobody) =
    joining_goes_on s limits b.hall events m leads b.count b.views seat other into gone state apart is its placed some_places left nobody
