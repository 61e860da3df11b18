use Rattle.std.proofs.Common.{take}
use Rattle.frame_code.proofs.Numbering.{Numbers}
use Rattle.frame_code.proofs.function_numbers.FunctionNumbers.of.Given as goal

abbrev pub invariant-loop-i : goal.invariant-loop-i
invariant-loop-i l = Numbers l.funcs l.numbers (take l.i l.funcs)
