use Rattle.std.proofs.Common.{subst, ap, ◌∙◌, ◌≡◌}
use Rattle.std.specs.Prelude.{[], Some, not, IsTrue, ◌↔◌}
use Rattle.scheduler_state.specs.declared.scheduler.Scheduler.{Scheduler}
use Rattle.thread_frames.specs.Views.{label_of}
use Rattle.worker_step.proofs.Ending.{forked_is, end_performs}
use Rattle.worker_step.proofs.ends.end.Goals as goal

pub returns : goal.returns
returns c =
    let before : Scheduler = c.args.scheduler.now in
    let after : Scheduler = record c.end_thread.new.scheduler { used_place = Some c.end_thread.new.top } in
    let ended = c.end_thread.ensures in
    end_performs c.args.worker c.args.deque c.args.top before after
    (record { acted = ended.acted; same_moves = ended.same_moves; same_done = ended.same_done; pool = ended.pool; keeps = record { terms = ended.keeps.terms; spare = ended.keeps.spare } })
    c.requires.may.0 (not c.is_empty-is_forked.result)
    (forked_is c.is_empty-is_forked.result (label_of c.args.top) (subst (λ l. IsTrue c.is_empty-is_forked.result ↔ (l ≡ [])) (c.label.ensures ∙ ap label_of c.get.ensures) c.is_empty-is_forked.ensures))
