use Rattle.std.proofs.Common.{subst}
use Rattle.node_table.specs.Programs.{IsTableOf}
use Rattle.node_table.proofs.laws.same_table_same_program.Goals as goal

pub returns : goal.returns
returns c = λ p a b same is. subst (λ t. IsTableOf p t) same is
