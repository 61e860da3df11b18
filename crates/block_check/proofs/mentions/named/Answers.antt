use Rattle.std.proofs.Common.{◌≡◌, IfOk, ap, sym, subst, ◌∙◌}
use Rattle.par_tree.specs.Tree.{Body}
use Rattle.par_tree.specs.View.{body_tree}
use Rattle.par_names.specs.Named.{body_of}
use Rattle.par_names.specs.declared.named_body.NamedBody.{NamedBody}
use Rattle.par_names.proofs.Rows.{body_is}
use Rattle.block_check.proofs.mentions.named.Goals as goal

pub returns : goal.returns
returns c =
    let same = ap body_tree c.deref.ensures.value ∙ sym (body_is c.args.body.now) in
    subst (λ (t : Body). IfOk c.of.result (λ (b : NamedBody). body_of b ≡ t)) same c.of.ensures
