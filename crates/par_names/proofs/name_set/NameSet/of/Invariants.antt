use Rattle.std.proofs.Common.{take}
use Rattle.par_names.proofs.Inserted.{HasAsked}
use Rattle.par_names.proofs.name_set.NameSet.of.Given as goal

abbrev pub invariant-loop-name : goal.invariant-loop-name
invariant-loop-name l = HasAsked l.asked l.names (take l.name-index l.list)
