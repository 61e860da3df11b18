use Rattle.std.proofs.Common.{sym, ap, ◌∙◌, w64, rules}
use Rattle.std.proofs.lemmas.Int.{to_z-of_z}
use Rattle.par_tree.specs.View.{cmp_op_tree}
use Rattle.slot_store.specs.Passed.Values.{is_true}
use Rattle.slot_store.specs.Shown.{slots_shown}
use Rattle.flat_expressions.specs.Acts.{operand_in, passes}
use Rattle.flat_expressions.specs.Shown.{operand_shown}
use Rattle.flat_code.specs.Shown.{test_shown}
use Rattle.flat_run.proofs.Tests.{compared_true}
use Rattle.flat_run.proofs.step.passes.Goals as goal

pub returns-in-Compare : goal.returns-in-Compare
returns-in-Compare c =
    let row = slots_shown c.args.slots.now in
    c.is_true-in-Compare.ensures
    ∙ ap is_true (to_z-of_z w64 c.compared.result (search rules))
    ∙ compared_true (cmp_op_tree c.in-Compare.op) (operand_in row (operand_shown c.in-Compare.left)) (operand_in row (operand_shown c.in-Compare.right))
    c.compared.result c.compared.ensures
    ∙ ap (λ t. passes row (test_shown t)) (sym c.in-Compare.is)
