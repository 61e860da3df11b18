use Rattle.std.proofs.Common.{sym, subst, ◌∙◌}
use Rattle.std.proofs.Math.Logic.{∥∥₁_map}
use Rattle.std.proofs.lemmas.Result.{err_from_is_err_and}
use Rattle.scheduler_state.specs.declared.scheduler.Scheduler.{Scheduler}
use Rattle.scheduler_state.specs.Held.{held}
use Rattle.scheduler_state.specs.Moments.{IsSound, terms_of}
use Rattle.scheduler_state.specs.Outcomes.{GivesDequeUp}
use Rattle.scheduler_state.proofs.Still.{reordered_sound, reordered_points, reordered_stands}
use Rattle.worker_step.specs.Steps.{GivesUpOrStays}
use Rattle.worker_step.proofs.Owning.{gave_up_gives, gave_up_sound}
use Rattle.worker_step.proofs.Taking.{taken_sound, taken_points, taken_at}
use Rattle.worker_step.proofs.leaves.give_up_deque.Goals as goal

pub give_up-requires-clause-stands : goal.give_up-requires-clause-stands
give_up-requires-clause-stands c = let takes = c.in_ok-deque.ensures.takes in (takes.items, takes.stands)

pub returns-in_err-deque-clause-sound : goal.returns-in_err-deque-clause-sound
returns-in_err-deque-clause-sound c t k limit sound =
    let s : Scheduler = c.args.scheduler.now in
    subst (λ x. IsSound t k x (held c.take_top.new.scheduler)) (sym (c.take_top.ensures.keeps.terms limit))
    (reordered_sound t k (terms_of s limit) (held s) (held c.take_top.new.scheduler) c.in_err-deque.ensures.same sound)

pub returns-in_err-deque-clause-points : goal.returns-in_err-deque-clause-points
returns-in_err-deque-clause-points c t k points =
    ∥∥₁_map points (reordered_points t k (held c.args.scheduler.now) (held c.take_top.new.scheduler) c.in_err-deque.ensures.same)

pub returns-in_err-deque-clause-gives : goal.returns-in_err-deque-clause-gives
returns-in_err-deque-clause-gives c t k limit sound setting of run m at =
    let s : Scheduler = c.args.scheduler.now in
    let err = err_from_is_err_and c.from_residual.result c.from_residual.ensures.1 in
    subst (GivesUpOrStays setting (terms_of s limit) (held c.take_top.new.scheduler) c.args.worker run m) (sym err.1)
    (reordered_stands setting (terms_of s limit) (held s) (held c.take_top.new.scheduler) run m c.in_err-deque.ensures.same at)

pub returns-clause-sound : goal.returns-clause-sound
returns-clause-sound c t k limit sound =
    let takes = c.in_ok-deque.ensures.takes in
    let now : Scheduler = c.take_top.new.scheduler in
    gave_up_sound t k limit now takes.stands c.in_ok-deque.top (taken_sound t k limit c.args.scheduler.now now c.args.worker c.in_ok-deque.deque c.in_ok-deque.top takes sound)
    c.give_up.new.scheduler c.give_up.ensures.leaves

pub returns-clause-points : goal.returns-clause-points
returns-clause-points c t k points =
    let takes = c.in_ok-deque.ensures.takes in
    ∥∥₁_map (taken_points t k 0 c.args.scheduler.now c.take_top.new.scheduler c.args.worker c.in_ok-deque.deque c.in_ok-deque.top takes points)
    (λ p. c.give_up.ensures.leaves.points t k takes.items takes.stands p)

pub returns-clause-gives : goal.returns-clause-gives
returns-clause-gives c t k limit sound setting of run m at =
    let takes = c.in_ok-deque.ensures.takes in
    let now : Scheduler = c.take_top.new.scheduler in
    subst (λ x. ∥ GivesDequeUp setting x (held c.give_up.new.scheduler) c.args.worker run m c.in_ok-deque.deque ∥₁) (takes.keeps.terms limit)
    (gave_up_gives t k limit now takes.stands c.in_ok-deque.top (taken_sound t k limit c.args.scheduler.now now c.args.worker c.in_ok-deque.deque c.in_ok-deque.top takes sound)
    c.give_up.new.scheduler c.give_up.ensures.leaves setting of run m (taken_at t k limit c.args.scheduler.now now c.args.worker c.in_ok-deque.deque c.in_ok-deque.top takes setting run m at))

pub returns-clause-terms : goal.returns-clause-terms
returns-clause-terms c actions = c.give_up.ensures.leaves.same.keeps.terms actions ∙ c.take_top.ensures.keeps.terms actions
