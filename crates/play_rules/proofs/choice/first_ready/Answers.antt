use Rattle.std.proofs.Common.{subst, arith}
use Rattle.open_periods.specs.Passed.Play.{IsFirst}
use Rattle.play_rules.specs.Choices.{IsReadyAt}
use Rattle.play_rules.proofs.Turns.{none_passes, first_is, one_more_fails, told_ready, told_not_ready}
use Rattle.play_rules.proofs.choice.first_ready.Goals as goal

pub returns-then-ready_at : goal.returns-then-ready_at
returns-then-ready_at g c =
    subst (λ n. IsFirst n c.args.word (IsReadyAt c.args.list.now.deques) c.picked-place.result) c.leftmost-reach.ensures
    (first_is (IsReadyAt c.args.list.now.deques) c.args.word c.leftmost-reach.result c.loop-turn.turn c.picked-place.result (let test = c.loop-turn-test.true in omega (arith, test))
    c.picked-place.ensures.value (told_ready c.args.list.now.deques c.picked-place.result c.ready_at.result c.ready_at.ensures c.if-ready_at.true) c.loop-turn.invariant)

pub loop-turn-preserved : goal.loop-turn-preserved
loop-turn-preserved g c =
    one_more_fails (IsReadyAt c.args.list.now.deques) c.args.word c.leftmost-reach.result c.loop-turn.turn c.picked-place.result c.picked-place.ensures.value
    (told_not_ready c.args.list.now.deques c.picked-place.result c.ready_at.result c.ready_at.ensures c.if-ready_at.false) c.loop-turn.invariant

pub returns : goal.returns
returns g c some =
    none_passes (IsReadyAt c.args.list.now.deques) c.args.word c.leftmost-reach.result
    (λ e below. c.loop-turn.invariant e (let test = c.loop-turn-test.false in omega (arith, below, test)))
    some.0 (let reach = c.leftmost-reach.ensures in let below = some.1 in omega (arith, reach, below)) some.2
