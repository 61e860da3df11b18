use Rattle.std.proofs.Common.{refl}
use Rattle.par_tree.specs.View.{params_tree}
use Rattle.par_tree.specs.Names.{param_names}
use Rattle.frame_code.specs.Scopes.{names_tree}
use Rattle.node_table.specs.Reading.{AreSlots}
use Rattle.frame_code.proofs.Having.{param_has}
use Rattle.node_table.proofs.Lists.{continues_end}
use Rattle.frame_code.proofs.functions.param_slots.Goals as goal

pub returns : goal.returns
returns c = continues_end (λ cs xs. AreSlots (names_tree c.args.names.now.names.items) cs (param_names (params_tree xs))) c.args.params.now c.loop-param.found.items c.loop-param.param-index c.loop-param-test.false c.loop-param.invariant (refl, tt)

pub slot-requires : goal.slot-requires
slot-requires c = param_has (names_tree c.args.names.now.names.items) c.args.params.now c.loop-param.param-index c.param-item.result c.loop-param-test.true c.param-item.is c.requires
