-- With the End of the root the hall has finished.
use Rattle.std.proofs.Common.{◌≡◌, ◌<◌, List, [], ◌∷◌, map, refl, sym, ◌∙◌}
use Rattle.std.specs.Prelude.{Some, slice_set}
use Rattle.depth_first_list.specs.Runs.{IsDepthFirst}
use Rattle.deque_list.specs.declared.place.Place.{Place}
use Rattle.deque_machine.proofs.Lists.{cons_is_not_nil}
use Rattle.deque_machine.specs.Moments.{Moment}
use Rattle.deque_machine.specs.Machine.{Setting, HasEnded, does}
use Rattle.moment_laws.specs.Passed.Tables.{noted, shut}
use Rattle.moment_laws.specs.Passed.Parts.{deque_shown}
use Rattle.hall_machine.specs.Values.{Hall, finished, no_lane, deque_at}
use Rattle.hall_machine.specs.Steps.{Step, did}
use Rattle.hall_machine.specs.Standing.{HallStands}
use Rattle.hall_machine.specs.Writing.{written, list_without, step_of}
use Rattle.hall_machine.proofs.Noting.{crews_stand}
use Rattle.hall_machine.proofs.Halting.{ends_are_kept}
use Rattle.hall_machine.specs.State.{GoesOn}
use Rattle.hall_machine.specs.Events.{RootEndsGoOn, idle_after}
use Rattle.hall_machine.proofs.Moments.{ended_has_no_deques, actions_are_done}
use Rattle.hall_machine.proofs.Owners.{leaving_ends_go_on}

-- where no deque is shown the list has none
none_shown : (h : Hall) (places : List Place) → map deque_shown (map (deque_at h.lanes) places) ≡ [] → places ≡ []
none_shown h [] none = refl
none_shown h (place ∷ places) none = absurd (cons_is_not_nil (deque_shown (deque_at h.lanes place)) (map deque_shown (map (deque_at h.lanes) places)) none)

pub no_places : (s : Setting) → 0 < s.quota → IsDepthFirst s.quota s.list → (h : Hall) (steps : List Step) (m : Moment) → HallStands s h steps m → HasEnded s m [] → h.list.places ≡ []
no_places s some list h steps m stands ended =
    none_shown h h.list.places (sym stands.standing.shows.deques ∙ ended_has_no_deques s some list m stands.standing.lawful ended)

pub root_ends_go_on : (s : Setting) → 0 < s.quota → IsDepthFirst s.quota s.list → RootEndsGoOn s
root_ends_go_on s some list limits h steps m leads count views seat v w place name result results pool state here counting alone unwaited end takes same is_root none =
    let after : Hall = written w (record (list_without w (shut (noted w.period name 0 []))) { results = results }) pool no_lane in
    let step : Step = step_of w seat (does place) (did name) in
    let went : GoesOn s limits after steps m leads step count (slice_set views seat (idle_after v name)) =
    leaving_ends_go_on s some list limits h steps m leads count views seat v w place name result results pool state here counting alone unwaited end takes same in
    let ended : HasEnded s went.0 [] = (place, end.next.inside, end.next.by ∙ is_root, end.next.does, actions_are_done s m went.0 v.worker place went.1) in (
      went.0,
      went.1,
      went.2,
      record {
        stands = crews_stand s after (step ∷ steps) went.0 h.list.crew (Some finished) went.3.stands;
        crew = ends_are_kept s limits after (step ∷ steps) went.0 (m, leads, went.1, went.2) count (slice_set views seat (idle_after v name)) finished went.3.crew none
            (ended, no_places s some list after (step ∷ steps) went.0 went.3.stands ended);
      },
    )
