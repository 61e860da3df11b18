use Rattle.std.proofs.Common.{ap, ◌∙◌}
use Rattle.par_tree.specs.View.{body_tree}
use Rattle.par_tree.specs.Names.{body_names, body_assigned}
use Rattle.par_tree.specs.Names.{is_among}
use Rattle.par_names.proofs.Listed.{listed}
use Rattle.par_names.proofs.Found.{body_found, body_assigned_found}
use Rattle.par_names.proofs.named_body.NamedBody.of.Goals as goal

pub invariant_of-result : goal.invariant_of-result
invariant_of-result c =
    let b = body_tree c.args.body.now in
    let names = listed (body_names b) c.new-names.result.items c.add_names.new.out.items c.deref.result.now c.new-names.ensures.items c.in_ok-add_names.ensures c.deref.ensures.value in
    let integers = listed (body_assigned b) c.clear.new.self.items c.add_assigned.new.out.items c.deref-2.result.now c.clear.ensures.items c.in_ok-add_assigned.ensures c.deref-2.ensures.value in
    record {
      are_named = λ x a. c.in_ok-named.ensures x a ∙ ap (is_among x) names ∙ body_found x b;
      are_assigned = λ x a. c.in_ok-assigned.ensures x a ∙ ap (is_among x) integers ∙ body_assigned_found x b;
    }
