use Rattle.std.proofs.Common.{◌<◌, length, arith}
use Rattle.std.proofs.lemmas.Grind.{common_steps}
use Rattle.frame_code.proofs.Numbering.{numbers_more}
use Rattle.frame_code.proofs.function_numbers.FunctionNumbers.of.Goals as goal

pub loop-i-preserved : goal.loop-i-preserved
loop-i-preserved c =
    let fs = c.args.funcs.now in
    let i = c.loop-i.i in
    let lt : i < length fs = grind (arith, common_steps) in
    numbers_more fs i c.index-funcs-i.result c.as_slice.result.now c.loop-i.numbers c.insert.new.self lt c.as_slice.ensures.value c.in_ok-insert.ensures.updates c.loop-i.invariant
