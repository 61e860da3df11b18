-- A stop that was met among the steps of a hall was met on the way of its run.
use Rattle.std.proofs.Common.{List, [], ◌∷◌, ◌++◌, inl, inr, refl, sym, ap, ◌∙◌, append_assoc, append-nil}
use Rattle.deque_machine.specs.Moments.{Moment}
use Rattle.deque_machine.specs.Machine.{Setting}
use Rattle.deque_machine.specs.Play as play
use Rattle.deque_machine.specs.Play.{Limits}
use Rattle.deque_machine.specs.Runs.{Pair}
use Rattle.hall_machine.specs.Crew as crew
use Rattle.hall_machine.specs.Steps.{Step, Leads, HasMet, run_of}
use Rattle.hall_machine.specs.Values.{by_rule}
use Rattle.hall_machine.proofs.Going.{steps_are_a_run}
use Rattle.hall_machine.specs.Runs.{StopHasCause, MeetsOnTheWay}

pub met : (s : Setting) (limits : Limits) (steps : List Step) (m : Moment) (leads : Leads s steps m) (stop : play.Stop) → HasMet s limits steps m leads stop
    → MeetsOnTheWay s limits (run_of steps) stop
met s limits [] m leads stop meets = ([], [], refl, m, sym leads, meets)
met s limits (step ∷ earlier) m leads stop (inl now) =
    (run_of (step ∷ earlier), [], sym (append-nil (run_of (step ∷ earlier))), m, steps_are_a_run s (step ∷ earlier) m leads, now)
met s limits (step ∷ earlier) m leads stop (inr before) =
    let last : List Pair = record { worker = step.worker; event = step.event } ∷ [] in
    let found = met s limits earlier leads.0 leads.1 stop before in
    (found.0, found.1 ++ last, ap (λ run. run ++ last) found.2 ∙ append_assoc found.0 found.1 last, found.3, found.4, found.5)

pub caused : (s : Setting) (limits : Limits) (steps : List Step) (m : Moment) (leads : Leads s steps m) (stop : play.Stop)
    → crew.HasCauseAmong s limits steps m leads (by_rule stop) → StopHasCause s limits (run_of steps) stop
caused s limits steps m leads (play.arena_full live asked) cause = met s limits steps m leads (play.arena_full live asked) cause
caused s limits steps m leads (play.deques_full deques) cause = met s limits steps m leads (play.deques_full deques) cause
caused s limits steps m leads (play.steps_spent limit) cause = cause
