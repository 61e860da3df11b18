use Rattle.std.proofs.Common.{sym, ap, subst, ◌∙◌}
use Rattle.std.specs.List.{filter}
use Rattle.par_tree.specs.View.{body_tree}
use Rattle.node_table.specs.Programs.{is_named_in, is_assigned_in}
use Rattle.node_table.specs.Reading.{AreSlots}
use Rattle.frame_code.specs.Scopes.{names_tree}
use Rattle.frame_code.proofs.Rows.{body_is}
use Rattle.frame_code.proofs.branches.branch_slots.Goals as goal

pub returns : goal.returns
returns c =
    let names = names_tree c.args.names.now.names.items in
    let same = c.in_ok-body.ensures ∙ ap body_tree c.deref-2.ensures.value ∙ sym (body_is c.args.left.now) in
    record {
      blocks = subst (λ b. AreSlots names c.in_ok-blocks.blocks.items (filter (is_named_in b) names)) same c.in_ok-blocks.ensures;
      assigned = subst (λ b. AreSlots names c.in_ok-assigned.assigned.items (filter (is_assigned_in b) names)) same c.in_ok-assigned.ensures;
    }
