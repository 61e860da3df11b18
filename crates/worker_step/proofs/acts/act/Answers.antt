use Rattle.std.proofs.Common.{ap, ◌∙◌}
use Rattle.std.specs.Prelude.{◌+◌, ◌++◌}
use Rattle.std.proofs.lemmas.List.Sorted.{IsPermutation-refl}
use Rattle.space_ledger.specs.MovesList.{moves_list}
use Rattle.open_periods.specs.Passed.DequeMachineRuns.{moves_words}
use Rattle.thread_frames.specs.Actions.{deed_of}
use Rattle.thread_frames.specs.Views.{label_of}
use Rattle.scheduler_state.specs.declared.scheduler.Scheduler.{Scheduler}
use Rattle.scheduler_state.specs.Held.{held}
use Rattle.worker_step.specs.Acts.{noted, change}
use Rattle.thread_actions.specs.Acts.{IsCharged}
use Rattle.worker_step.proofs.Ending.{acted_moved}
use Rattle.worker_step.proofs.acts.act.Goals as goal

pub returns : goal.returns
returns c =
    let before : Scheduler = c.args.scheduler.now in
    let between : Scheduler = c.perform-is_move.new.scheduler in
    let done = c.perform-is_move.ensures in
    record {
      acted = acted_moved c.args.next (IsCharged c.args.charge c.args.next) c.args.worker c.args.deque c.args.top before (held between) between.results.entries
          (moves_list c.count.new.moves) c.count.new.done (IsPermutation-refl between.results.entries) done.acted;
      by = c.name_of-name.ensures.by;
      index = c.name_of-name.ensures.index;
      done = c.count.ensures.done ∙ ap (λ n. n + 1) done.done;
      live = done.live;
      moves = λ w told. c.count.ensures.moves
          ∙ ap (λ ms. moves_list ms ++ noted c.perform-is_move.result c.name_of-name.result (change c.live-before.result c.live-after.result)) done.moves
          ∙ ap (λ b. moves_list before.moves ++ noted b c.name_of-name.result (change c.live-before.result c.live-after.result)) (done.moved_words w told)
          ∙ ap (λ n. moves_list before.moves ++ noted (moves_words (deed_of c.args.top c.args.next) (label_of c.args.top) w) c.name_of-name.result (change n c.live-after.result)) c.live-before.ensures.value
          ∙ ap (λ n. moves_list before.moves ++ noted (moves_words (deed_of c.args.top c.args.next) (label_of c.args.top) w) c.name_of-name.result (change before.pool.live n)) c.live-after.ensures.value;
      keeps = record { terms = done.keeps.terms; spare = done.keeps.spare };
    }
