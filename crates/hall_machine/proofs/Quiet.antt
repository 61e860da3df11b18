-- Steps that are no event keep the running state.
use Rattle.std.proofs.Common.{◌≡◌, ℕ, ◌<◌, true, List, ◌∷◌, ◌++◌, refl, sym, subst, ◌∙◌, true≢false}
use Rattle.std.specs.Prelude.{Option, None, Some, slice_get, slice_set}
use Rattle.std.proofs.lemmas.Option.{none-some}
use Rattle.depth_first_list.specs.Runs.{IsDepthFirst}
use Rattle.deque_machine.specs.Moments.{Moment}
use Rattle.deque_machine.specs.Machine.{Setting, gives_up}
use Rattle.deque_machine.specs.Play.{Limits}
use Rattle.moment_laws.specs.Passed.Tables.{shut}
use Rattle.moment_laws.proofs.Passed.Lists.{set_same}
use Rattle.hall_machine.specs.Values.{Hall, Stop, End}
use Rattle.hall_machine.specs.Steps.{Step, Leads, gave_up}
use Rattle.hall_machine.specs.Writing.{lane_with, written, list_unowned, step_of}
use Rattle.hall_machine.proofs.Lanes.{written_twice}
use Rattle.hall_machine.proofs.Opening.{still_stands}
use Rattle.hall_machine.specs.Views.{View}
use Rattle.hall_machine.specs.Crew.{Crew}
use Rattle.hall_machine.specs.Changes.{after_event}
use Rattle.hall_machine.specs.Seats.{with_crew, end_with, finding, leaving}
use Rattle.hall_machine.proofs.Noting.{crews_stand}
use Rattle.hall_machine.proofs.Counting.{counts_keep_crew}
use Rattle.hall_machine.proofs.Entering.{entering_keeps_crew, splitting_keeps_crew}
use Rattle.hall_machine.proofs.Halting.{finding_keeps_crew, stops_are_kept, answers_keep_crew, quiet_puts_keep_crew}
use Rattle.hall_machine.proofs.Leaving.{leaving_keeps_crew, joining_keeps_crew}
use Rattle.hall_machine.specs.State.{IsIn, GoesOn}
use Rattle.hall_machine.specs.Quiet.{QuietPutsGoOn, CountsGoOn, EnteringGoesOn, SplittingGoesOn, KeptStopsGoOn, HaltingGoesOn, kept_with, LeavingGoesOn, LeavingOwnersGoOn, JoiningGoesOn}
use Rattle.hall_machine.proofs.Owners.{giving_up_goes_on}

pub quiet_puts_go_on : (s : Setting) → QuietPutsGoOn s
quiet_puts_go_on s limits h after steps m leads count views state same keeps lanes looks = record {
  stands = still_stands s h after steps m state.stands same keeps lanes;
  crew = quiet_puts_keep_crew s limits h after steps m leads count views state.crew looks;
}

pub counts_go_on : (s : Setting) → CountsGoOn s
counts_go_on s limits h steps m leads count views seat v id state here free none owns few = record {
  stands = state.stands;
  crew = counts_keep_crew s limits h steps m leads count views seat v id state.crew here.noted here.placed free none owns few;
}

pub entering_goes_on : (s : Setting) → EnteringGoesOn s
entering_goes_on s limits h steps m leads count views seat v worker before later state is placed free open_hall cut low new = record {
  stands = crews_stand s h steps m (before ++ worker ∷ later) h.list.kept state.stands;
  crew = entering_keeps_crew s limits h steps m leads count views seat v worker before later state.crew is placed free open_hall cut low new;
}

pub splitting_goes_on : (s : Setting) → SplittingGoesOn s
splitting_goes_on s limits h steps m leads count views seat v worker state is enters = record {
  stands = state.stands;
  crew = splitting_keeps_crew s limits h steps m leads count views seat v worker state.crew is enters;
}

pub joining_goes_on : (s : Setting) → JoiningGoesOn s
joining_goes_on s limits h steps m leads count views seat other into gone state apart is its placed some left nobody = record {
  stands = state.stands;
  crew = joining_keeps_crew s limits h steps m leads count views seat other into gone state.crew apart is its placed some left nobody;
}

pub kept_stops_go_on : (s : Setting) → KeptStopsGoOn s
kept_stops_go_on s limits h steps m leads count views seat v stop state here free none cause = record {
  stands = crews_stand s h steps m h.list.crew (Some (end_with h.list.kept stop)) state.stands;
  crew = stops_are_kept s limits h steps m leads count (slice_set views seat (finding v stop)) seat (finding v stop) stop
      (finding_keeps_crew s limits h steps m leads count views seat v stop state.crew here.noted here.placed free none cause)
      (set_same views seat (finding v stop) v here.noted) here.placed refl;
}

pub halting_goes_on : (s : Setting) → HaltingGoesOn s
halting_goes_on s limits h steps m leads count views seat v stop state here found =
    let end : End = end_with h.list.kept stop in record {
      stands = crews_stand s h steps m h.list.crew (Some end) state.stands;
      crew = (answers_keep_crew s limits (with_crew h h.list.crew (Some end)) steps m leads count views seat v end
          (stops_are_kept s limits h steps m leads count views seat v stop state.crew here.noted here.placed found) here.noted here.placed refl).1;
    }

-- a stop that the seat found is kept first, where it found one
kept_first : (s : Setting) (limits : Limits) (h : Hall) (steps : List Step) (m : Moment) (leads : Leads s steps m) (count : ℕ) (views : List View) (seat : ℕ) (v : View)
    → Crew s limits h steps m leads count views → slice_get views seat ≡ Some v → 0 < v.places → (found : Option Stop) → v.found ≡ found
    → Crew s limits (with_crew h h.list.crew (kept_with found h.list.kept)) steps m leads count views
    × ((stop : Stop) → v.found ≡ Some stop → (end : End) × (kept_with found h.list.kept ≡ Some end))
kept_first s limits h steps m leads count views seat v crew is placed None none = (crew, λ stop found. absurd (none-some stop (sym none ∙ found)))
kept_first s limits h steps m leads count views seat v crew is placed (Some stop) found =
    (stops_are_kept s limits h steps m leads count views seat v stop crew is placed found, λ other its. (end_with h.list.kept stop, refl))

idle_leaves : (s : Setting) (limits : Limits) (h : Hall) (steps : List Step) (m : Moment) (leads : Leads s steps m) (count : ℕ) (views : List View) (seat : ℕ) (v : View)
    (before later : List ℕ) → Crew s limits h steps m leads count views → IsIn views seat v → v.deque ≡ None → v.enters ≡ None → h.list.crew ≡ before ++ v.worker ∷ later
    → Crew s limits (with_crew h (before ++ later) (kept_with v.found h.list.kept)) steps m leads count (slice_set views seat (leaving v))
idle_leaves s limits h steps m leads count views seat v before later crew here idle nobody cut =
    let kept = kept_first s limits h steps m leads count views seat v crew here.noted here.placed v.found refl in
    leaving_keeps_crew s limits (with_crew h h.list.crew (kept_with v.found h.list.kept)) steps m leads count views seat v before later kept.0 here.noted here.placed here.stays idle nobody
    kept.1 cut

pub leaving_goes_on : (s : Setting) → LeavingGoesOn s
leaving_goes_on s limits h steps m leads count views seat v before later state here idle nobody cut = record {
  stands = crews_stand s h steps m (before ++ later) (kept_with v.found h.list.kept) state.stands;
  crew = idle_leaves s limits h steps m leads count views seat v before later state.crew here idle nobody cut;
}

pub leaving_owners_go_on : (s : Setting) → 0 < s.quota → IsDepthFirst s.quota s.list → LeavingOwnersGoOn s
leaving_owners_go_on s some list limits h steps m leads count views seat v w before later state here free nobody cut =
    let after : Hall = written w (list_unowned w (shut w.period)) h.pool (lane_with (w.top ∷ w.under) None) in
    let step : Step = step_of w seat gives_up (gave_up w.id.0) in
    let given : View = after_event v None (gave_up w.id.0) true in
    let went : GoesOn s limits after steps m leads step count (slice_set views seat given) =
    giving_up_goes_on s some list limits h steps m leads count views seat v w true state here free (λ no. absurd (true≢false no)) (λ no. absurd (true≢false no)) in
    let leads_on : Leads s (step ∷ steps) went.0 = (m, leads, went.1, went.2) in
    let is_in : IsIn (slice_set views seat given) seat given = record { noted = set_same views seat given v here.noted; placed = here.placed; stays = here.stays } in (
      went.0,
      went.1,
      went.2,
      record {
        stands = crews_stand s after (step ∷ steps) went.0 (before ++ later) (kept_with v.found h.list.kept) went.3.stands;
        crew = subst (λ vs. Crew s limits (with_crew after (before ++ later) (kept_with v.found h.list.kept)) (step ∷ steps) went.0 (m, leads, went.1, went.2) count vs)
            (written_twice views seat given (leaving given))
            (idle_leaves s limits after (step ∷ steps) went.0 leads_on count (slice_set views seat given) seat given before later went.3.crew is_in refl nobody cut);
      },
    )
