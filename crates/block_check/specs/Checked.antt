-- What the answers of the checker show.
use Rattle.std.specs.Prelude.{◌≡◌, Some, Result, Ok, Err}
use Rattle.par_tree.specs.View.{name_tree, program_tree}
use Rattle.par_tree.specs.declared.program.Program.{Program}
use Rattle.par_ownership.specs.Ownership.{Ownership}
use Rattle.par_ownership.specs.Walk
use Rattle.par_ownership.specs.Walk.{program_refusal}
use Rattle.block_check.specs.declared.check_error.CheckError.{CheckError}
use Rattle.block_check.specs.declared.check_fail.CheckFail.{CheckFail}
use Rattle.block_check.specs.declared.check_fail.CheckFail.TheVariants.{Refused, OutOfMemory}
use Rattle.block_check.specs.declared.checked.Checked.{Checked}

-- the program that was checked
abbrev pub program_of : Checked → Program
program_of c = c.program

abbrev pub error_shown : CheckError → Walk.Refusal
error_shown e = record { kind = e.kind; line = e.line; name = name_tree e.name }

-- An accepted program keeps the ownership rules. A refused one does not, its error is the first refusal
-- of the walk, and it comes back unchanged. Want of memory may come at any time, and gives it back too.
abbrev pub Checks : Program → Result Checked CheckFail → Type 0
Checks p (Ok c) = (program_of c ≡ p) × Ownership (program_tree p)
Checks p (Err (Refused q e)) = (q ≡ p) × (program_refusal (program_tree p) ≡ Some (error_shown e)) × ¬ Ownership (program_tree p)
Checks p (Err (OutOfMemory q)) = q ≡ p
