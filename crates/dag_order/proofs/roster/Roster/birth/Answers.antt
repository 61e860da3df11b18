-- The birth is found where the list of lists has it, and the roster's invariant tells of its parent.
use Rattle.std.proofs.Common.{◌≡◌, suc, Some, slice_get, subst, arith, rules, ap, sym, ◌∙◌}
use Rattle.containers.specs.BoundedList.{entries}
use Rattle.dag_order.specs.Births.{birth_of, ParentsComeFirst, ParentComesFirst}
use Rattle.dag_order.proofs.BirthLemmas.{birth_found, if_some_from}
use Rattle.dag_order.proofs.roster.Roster.birth.Goals as goal

is_birth : goal.returns-clause-birth
is_birth c =
    let is : c.args.id.period ≡ suc c.in_ok-before.before = omega (arith, c.in_ok-before.ensures) in
    let found : slice_get c.self.inside.periods.items.items c.in_ok-before.before ≡ Some c.in_ok-births.births.now = sym (c.in_ok-births.ensures) in
    let value : c.copied.result ≡ slice_get (entries c.in_ok-births.births.now) c.args.id.nth = search rules in
    value ∙ sym (birth_found (λ births. entries births) c.self.inside.periods.items.items c.args.id.period c.in_ok-before.before c.args.id.nth c.in_ok-births.births.now is found) ∙ ap (λ periods. birth_of periods c.args.id) c.self.view_is

pub returns-clause-birth : goal.returns-clause-birth
returns-clause-birth c = is_birth c

pub returns-clause-parent : goal.returns-clause-parent
returns-clause-parent c =
    let first : ParentsComeFirst c.args.self.now = subst ParentsComeFirst c.self.view_is c.self.invariant in
    if_some_from c.copied.result (λ birth. ParentComesFirst c.args.self.now c.args.id birth)
    (λ birth is. first c.args.id birth (sym (is_birth c) ∙ is))
