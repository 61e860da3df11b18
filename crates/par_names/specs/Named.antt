-- The statements whose names were taken.
use Rattle.par_tree.specs.Tree
use Rattle.par_tree.specs.View.{body_tree}
use Rattle.par_names.specs.declared.named_body.NamedBody.{NamedBody}

abbrev pub body_of : NamedBody → Tree.Body
body_of b = body_tree b.body.now
