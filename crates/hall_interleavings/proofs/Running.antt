-- A sequence of steps of seats makes one run, and each of its snapshots shows a moment of it.
use Rattle.std.proofs.Common.{◌<◌, List, [], ◌∷◌, refl, sym, subst}
use Rattle.open_periods.specs.Passed.DepthFirstListRuns.{IsDepthFirst}
use Rattle.deque_machine.specs.Moments.{Moment, opening}
use Rattle.deque_machine.specs.Machine.{Setting}
use Rattle.deque_machine.specs.Play.{Limits}
use Rattle.hall_machine.specs.Steps.{Step, Leads}
use Rattle.hall_machine.proofs.Opening.{first_stands}
use Rattle.hall_machine.specs.Views.{fresh}
use Rattle.hall_machine.proofs.First.{first_crew}
use Rattle.hall_machine.specs.State.{RunningState}
use Rattle.hall_machine.proofs.Closed.{states_meet_the_law, halls_are_bounded, closed_give_one_run}
use Rattle.hall_interleavings.specs.Events.{Snapshot}
use Rattle.hall_interleavings.specs.Sequences.{IsBeginning, Sequence, begins, then_event, then_other, ShowsMoment, EachShows, SeatsMakeOneRun}
use Rattle.hall_interleavings.proofs.Going.{events_go_on}
use Rattle.hall_interleavings.proofs.Staying.{others_stay}

module _ (s : Setting) (some : 0 < s.quota) (list : IsDepthFirst s.quota s.list) (limits : Limits) where
  shows : (b : Snapshot) (events : List Step) (m : Moment) (leads : Leads s events m) → RunningState s limits b.hall events m leads b.count b.views
      → ShowsMoment s limits b events m leads
  shows b events m leads state = record {
    state = state;
    law = λ shown same. states_meet_the_law s limits b.hall shown events m leads b.count b.views state same;
    bounded = halls_are_bounded s some list limits b.hall events m leads b.count b.views state;
    closed = λ end unowned kept. closed_give_one_run s some list limits b.hall events m leads b.count b.views end state unowned kept;
  }

  first_state : (b : Snapshot) → IsBeginning s b → RunningState s limits b.hall [] opening refl b.count b.views
  first_state b is = subst (λ views. RunningState s limits b.hall [] opening refl b.count views) (sym is.views)
      (subst (λ n. RunningState s limits b.hall [] opening refl n (fresh is.worker s.workers ∷ [])) (sym is.counted) (record {
        stands = first_stands s some list b.hall is.thread is.first is.is_root is.label is.done is.children is.words;
        crew = first_crew s limits b.hall is.thread is.worker is.first is.crew is.no_end is.is_worker;
      }))

  -- the last snapshot is in a running state
  runs_on : (first : Snapshot) → IsBeginning s first → (now : Snapshot) (events : List Step) (sequence : Sequence s limits first events now)
      → (m : Moment) × (leads : Leads s events m) × RunningState s limits now.hall events m leads now.count now.views × EachShows sequence m leads
  runs_on first is now events begins = (opening, refl, first_state first is, shows first [] opening refl (first_state first is))
  runs_on first is now events (then_event told before after step earlier event) =
      let was = runs_on first is before told earlier in
      let next = events_go_on s some list limits before after step told was.0 was.1 was.2 event in
      (next.0, (was.0, was.1, next.1, next.2), next.3, (shows after (step ∷ told) next.0 (was.0, was.1, next.1, next.2) next.3, was.3))
  runs_on first is now events (then_other told before after earlier other) =
      let was = runs_on first is before told earlier in
      let state = others_stay s some list limits before after told was.0 was.1 was.2 other in
      (was.0, was.1, state, (shows after told was.0 was.1 state, was.3))

pub seats_make_one_run : (s : Setting) → 0 < s.quota → IsDepthFirst s.quota s.list → SeatsMakeOneRun s
seats_make_one_run s some list limits first now events is sequence =
    let run = runs_on s some list limits first is now events sequence in (run.0, run.1, run.3)
