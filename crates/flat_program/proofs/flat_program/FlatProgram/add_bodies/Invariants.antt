use Rattle.node_table.specs.Codes.{code_shown}
use Rattle.flat_program.specs.Programs.{IsFlatProgram}
use Rattle.flat_program.specs.Entries.{KeepsStarts}
use Rattle.flat_program.specs.Lists.{HasBodies, HasBodyStarts}
use Rattle.flat_program.proofs.flat_program.FlatProgram.add_bodies.Given as goal

-- the functions that were looked at have their bodies
abbrev pub invariant-loop-func : goal.invariant-loop-func
invariant-loop-func l =
    IsFlatProgram (code_shown l.fn.table) l.self × HasBodies (code_shown l.fn.table) l.self.lists.items l.func
    × HasBodyStarts (code_shown l.fn.table) l.self l.func
    × KeepsStarts l.initial.self.starts.items l.self.starts.items
