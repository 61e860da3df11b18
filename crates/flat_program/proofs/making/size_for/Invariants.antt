use Rattle.std.proofs.Common.{ℕ, ◌+◌, ◌<◌}
use Rattle.std.specs.Prelude.{min}
use Rattle.node_table.specs.Codes.{code_shown}
use Rattle.flat_code.specs.Fits.{CanBeFlat}
use Rattle.flat_program.proofs.making.size_for.Given as goal

-- no length that was tried serves
abbrev pub invariant-loop-more : goal.invariant-loop-more
invariant-loop-more l = (n : ℕ) → n < l.more → CanBeFlat (code_shown l.fn.table) l.fn.slots (min (l.fn.slots + n) 65535) l.fn.list → ⊥
