use Rattle.std.proofs.Common.{sym, ◌∙◌, arith, true≢false}
use Rattle.play_rules.specs.Choices.{CanMove}
use Rattle.play_rules.proofs.Turns.{none_passes, first_is, one_more_fails}
use Rattle.play_rules.proofs.choice.first_mover.Goals as goal

pub returns-then-can_move : goal.returns-then-can_move
returns-then-can_move c =
    first_is (CanMove c.args.table.now c.args.some_ready) c.args.word c.args.workers c.loop-turn.turn c.picked-worker.result (let test = c.loop-turn-test.true in omega (arith, test))
    c.picked-worker.ensures.value (c.can_move.ensures.0 c.if-can_move.true) c.loop-turn.invariant

pub loop-turn-preserved : goal.loop-turn-preserved
loop-turn-preserved c =
    one_more_fails (CanMove c.args.table.now c.args.some_ready) c.args.word c.args.workers c.loop-turn.turn c.picked-worker.result c.picked-worker.ensures.value
    (λ can. true≢false (sym (c.can_move.ensures.1 can) ∙ c.if-can_move.false)) c.loop-turn.invariant

pub returns : goal.returns
returns c =
    none_passes (CanMove c.args.table.now c.args.some_ready) c.args.word c.args.workers
    (λ e below. c.loop-turn.invariant e (let test = c.loop-turn-test.false in omega (arith, below, test)))
