use Rattle.node_table.specs.Codes.{code_shown}
use Rattle.flat_program.specs.Programs.{IsFlatProgram}
use Rattle.flat_program.specs.Entries.{KeepsStarts}
use Rattle.flat_program.specs.Lists.{Grows}
use Rattle.flat_program.proofs.flat_program.FlatProgram.add_branches.Given as goal

abbrev pub invariant-loop-slots : goal.invariant-loop-slots
invariant-loop-slots l =
    IsFlatProgram (code_shown l.fn.table) l.self × Grows l.initial.self.lists.items l.self.lists.items
    × KeepsStarts l.initial.self.starts.items l.self.starts.items
