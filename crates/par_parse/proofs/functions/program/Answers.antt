use Rattle.std.proofs.Common.{◌≡◌, ◌<◌, length, ap, ◌∙◌, arith}
use Rattle.std.proofs.lemmas.Bool.Decides.{nat_tests}
use Rattle.par_tree.specs.View.{program_tree}
use Rattle.par_text.specs.Parsing.{read_program, ended}
use Rattle.par_parse.proofs.Whole.{whole-empty, whole-rest}
use Rattle.par_parse.proofs.functions.program.Goals as goal

pub returns-then-is_empty : goal.returns-then-is_empty
unfolding read_program
returns-then-is_empty c =
    let none : length c.in_ok-program.rest.now ≡ 0 = grind (arith, nat_tests) in
    ap ended c.in_ok-program.ensures ∙ whole-empty (program_tree c.in_ok-program.program) c.args.text.now c.in_ok-program.rest.now none

pub returns : goal.returns
unfolding read_program
returns c =
    let some : 0 < length c.in_ok-program.rest.now = grind (arith, nat_tests) in
    ap ended c.in_ok-program.ensures ∙ whole-rest (program_tree c.in_ok-program.program) c.args.text.now c.in_ok-program.rest.now some
