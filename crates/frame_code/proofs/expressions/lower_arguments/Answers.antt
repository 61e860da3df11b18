use Rattle.std.proofs.Common.{refl}
use Rattle.par_tree.specs.View.{args_tree}
use Rattle.frame_code.specs.Scopes.{names_tree}
use Rattle.node_table.specs.Reading.{AreArgs}
use Rattle.node_table.specs.Shown.{args_shown}
use Rattle.frame_code.proofs.Having.{arg_has}
use Rattle.node_table.proofs.Lists.{continues_end}
use Rattle.frame_code.proofs.expressions.lower_arguments.Goals as goal

pub returns : goal.returns
returns c = continues_end (λ cs xs. AreArgs (names_tree c.args.names.now.names.items) (args_shown cs) (args_tree xs)) c.args.args.now c.loop-arg.found.items c.loop-arg.arg-index c.loop-arg-test.false c.loop-arg.invariant (refl, tt)

pub lower_argument-requires : goal.lower_argument-requires
lower_argument-requires c = arg_has (names_tree c.args.names.now.names.items) c.args.args.now c.loop-arg.arg-index c.arg-item.result c.loop-arg-test.true c.arg-item.is c.requires
