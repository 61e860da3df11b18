-- The last action is the End of the root.
use Rattle.std.proofs.Common.{◌≡◌, ◌↔◌, ◌-◌, [], true, sym, subst, arith}
use Rattle.deque_machine.specs.Machine.{HasEnded}
use Rattle.trail_check.proofs.Opening.{some_action, last_done}
use Rattle.trail_check.proofs.checker.Checker.has_ended.Goals as goal

pub returns-then-places-eq0 : goal.returns-then-places-eq0
returns-then-places-eq0 c = λ s limits run m stands.
    let some = some_action s limits run m c.args.self.now stands in let none = c.if-places-eq0.true in let len = c.len-places.ensures in absurd (omega (arith, some, none, len))

pub returns : goal.returns
returns c = λ s limits run m stands.
    let len = c.len-places.ensures in
    subst (λ b. (b ≡ true) ↔ HasEnded s m []) (sym c.is_done.ensures)
    (last_done s limits run m c.args.self.now stands (c.len-places.result - 1) (omega (arith, len)))
