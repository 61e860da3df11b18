use Rattle.std.proofs.Common.{◌≡◌, sym, subst, arith, inl, inr, true≢false}
use Rattle.std.proofs.lemmas.Bool.{cases_lt}
use Rattle.play_rules.specs.Choices.{IsReadyAt}
use Rattle.play_rules.proofs.Turns.{told_not_ready}
use Rattle.play_rules.proofs.choice.some_ready.Goals as goal

pub loop-place-preserved : goal.loop-place-preserved
loop-place-preserved g c p below ready = elim (cases_lt p c.loop-place.place) [
  | inl before ↦ c.loop-place.invariant p before ready
  | inr last ↦ let same : p ≡ c.loop-place.place = omega (arith, below, last) in
      told_not_ready c.args.list.now.deques c.loop-place.place c.ready_at.result c.ready_at.ensures c.if-ready_at.false (subst (IsReadyAt c.args.list.now.deques) same ready)
]

pub returns : goal.returns
returns g c = (
  λ is. absurd (true≢false (sym is)),
  λ some. absurd (let reach = c.leftmost-place-end.ensures in let test = c.loop-place-test.false in let below = some.1 in
      c.loop-place.invariant some.0 (omega (arith, reach, test, below)) some.2),
)
