use Rattle.std.proofs.Common.{◌≤◌, ◌+◌, ◌*◌, sym, ◌∙◌, arith}
use Rattle.async_core.specs.Cores.{terms_at, workers_of}
use Rattle.async_core.proofs.Underway.{begins, goes_on_by, ends_by, setting_by, too_many}
use Rattle.async_core.proofs.player.play_async.Goals as goal

pub loop-init : goal.loop-init
loop-init g c = begins _ c.args.core.now (sym c.end.ensures ∙ c.in_default.is)

pub turn-requires : goal.turn-requires
turn-requires g c = c.loop.invariant.going

pub returns-in-Some-end-clause-played : goal.returns-in-Some-end-clause-played
returns-in-Some-end-clause-played g c = λ none s run m at.
    ends_by (g.C.Choices.coming c.args.choices.now) (g.C.Choices.coming c.loop.choices) (g.C.Choices.coming c.turn.new.choices) c.args.core.now c.loop.core c.turn.new.core
    c.loop.counter c.loop.invariant c.turn.ensures.turn c.turn.ensures.setting c.in-Some-end.end (sym c.in-Some-end.ensures) s run m at

pub returns-in-Some-end-clause-setting : goal.returns-in-Some-end-clause-setting
returns-in-Some-end-clause-setting g c =
    setting_by (g.C.Choices.coming c.args.choices.now) (g.C.Choices.coming c.loop.choices) (g.C.Choices.coming c.turn.new.choices) c.args.core.now c.loop.core c.turn.new.core
    c.loop.counter c.loop.invariant c.turn.ensures.turn c.turn.ensures.setting

pub loop-preserved : goal.loop-preserved
loop-preserved g c =
    goes_on_by (g.C.Choices.coming c.args.choices.now) (g.C.Choices.coming c.loop.choices) (g.C.Choices.coming c.turn.new.choices) c.args.core.now c.loop.core c.turn.new.core
    c.loop.counter c.loop.invariant c.turn.ensures.turn c.turn.ensures.setting (sym c.end-in-loop.ensures ∙ c.in_default-end.is)

pub unreachable-requires : goal.unreachable-requires
unreachable-requires g c =
    let most = c.most_turns-end.ensures in let test = c.loop-test.false in
    let many : 5 * (terms_at c.args.core.now).limits.actions + 2 * workers_of c.args.core.now + 1 ≤ c.loop.counter = omega (arith, most, test) in
    too_many (g.C.Choices.coming c.args.choices.now) (g.C.Choices.coming c.loop.choices) c.args.core.now c.loop.core c.loop.counter c.loop.invariant many
