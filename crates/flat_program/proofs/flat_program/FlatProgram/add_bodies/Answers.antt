use Rattle.std.proofs.Common.{◌≤◌, sym, rules}
use Rattle.node_table.specs.Codes.{code_shown}
use Rattle.flat_program.specs.Lists.{most_functions}
use Rattle.flat_program.proofs.Entries.{keeps_both}
use Rattle.flat_program.proofs.Lists.{bodies_all, bodies_next, starts_all, starts_below, starts_next}
use Rattle.flat_program.proofs.flat_program.FlatProgram.add_bodies.Goals as goal

pub returns-in_default-clause-bodies : goal.returns-in_default-clause-bodies
returns-in_default-clause-bodies c =
    bodies_all c.args.table.now c.loop-func.self.lists.items c.loop-func.func most_functions (sym c.in_default.ensures) c.loop-func.invariant.1

pub loop-func-preserved : goal.loop-func-preserved
loop-func-preserved c = (
  c.in_ok-add.ensures.program,
  bodies_next c.args.table.now c.loop-func.self.lists.items c.add.new.self.lists.items c.loop-func.func c.in-Some.function.now (sym c.in-Some.ensures)
      c.loop-func.invariant.1 c.in_ok-add.ensures.grows c.in_ok-add.ensures.has,
  starts_next c.args.table.now c.loop-func.self c.add.new.self c.loop-func.func c.in-Some.function.now (sym c.in-Some.ensures)
      c.loop-func.invariant.2 c.in_ok-add.ensures.grows c.in_ok-add.ensures.keeps c.in_ok-add.ensures.begins,
  keeps_both c.args.self.now.starts.items c.loop-func.self.starts.items c.add.new.self.starts.items c.loop-func.invariant.3 c.in_ok-add.ensures.keeps,
)

pub returns-in_default-clause-begins : goal.returns-in_default-clause-begins
returns-in_default-clause-begins c =
    starts_all c.args.table.now c.loop-func.self c.loop-func.func most_functions (sym c.in_default.ensures) c.loop-func.invariant.2

pub returns-clause-begins : goal.returns-clause-begins
returns-clause-begins c =
    let end : most_functions ≤ c.loop-func.func = search rules in
    starts_below (code_shown c.args.table.now) c.loop-func.self c.loop-func.func most_functions end c.loop-func.invariant.2
