use Rattle.node_table.specs.Codes.{code_shown}
use Rattle.flat_program.specs.Lists.{most_functions}
use Rattle.flat_program.proofs.Lists.{bodies_more, starts_more}
use Rattle.flat_program.proofs.flat_program.FlatProgram.of.Goals as goal

pub returns-clause-bodies : goal.returns-clause-bodies
returns-clause-bodies c =
    bodies_more (code_shown c.args.table.now) c.add_bodies.new.self.lists.items c.add_branches.new.self.lists.items most_functions
    c.in_ok-add_branches.ensures.grows c.in_ok-add_bodies.ensures.bodies

pub returns-clause-begins : goal.returns-clause-begins
returns-clause-begins c =
    starts_more (code_shown c.args.table.now) c.add_bodies.new.self c.add_branches.new.self most_functions
    c.in_ok-add_branches.ensures.grows c.in_ok-add_branches.ensures.keeps c.in_ok-add_bodies.ensures.begins
