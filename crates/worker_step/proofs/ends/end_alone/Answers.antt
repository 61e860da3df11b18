use Rattle.std.proofs.Common.{ap, subst, ◌∙◌}
use Rattle.std.specs.Prelude.{◌∷◌}
use Rattle.std.specs.List.Sorted.{IsPermutation}
use Rattle.space_ledger.specs.MovesList.{moves_list}
use Rattle.thread_frames.specs.declared.next.Next.TheVariants.{End}
use Rattle.thread_frames.specs.declared.thread.Thread.{Thread}
use Rattle.thread_actions.specs.Acts.{Always}
use Rattle.scheduler_state.specs.declared.scheduler.Scheduler.{Scheduler}
use Rattle.worker_step.proofs.Ending.{acted_moved, with_result}
use Rattle.worker_step.proofs.ends.end_alone.Goals as goal

pub returns : goal.returns
returns c =
    let before : Scheduler = c.args.scheduler.now in
    let between : Scheduler = c.leave-ended.new.scheduler in
    let left = c.leave-ended.ensures in
    record {
      acted = acted_moved End Always c.args.worker c.args.deque c.args.top.now before (with_result between c.args.top.now.id c.leave-ended.result) c.put.new.self.entries (moves_list between.moves) between.done
          (subst (λ i. IsPermutation ((i, c.leave-ended.result) ∷ between.results.entries) c.put.new.self.entries) (c.id-id.ensures ∙ ap (λ (x : Thread). x.id) c.get.ensures) c.put.ensures.entries) left.acted;
      same_moves = left.same_moves;
      same_done = left.same_done;
      pool = left.pool;
      keeps = record { terms = left.keeps.terms; spare = left.keeps.spare };
    }
