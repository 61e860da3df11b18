use Rattle.std.proofs.Common.{arith}
use Rattle.flat_expressions.proofs.Coded.{code_leaves}
use Rattle.flat_expressions.proofs.laws.expressions_have_code.Goals as goal

pub returns : goal.returns
returns c = λ k size d e fits room to row long. code_leaves e k size d k row long (omega arith) fits room to
