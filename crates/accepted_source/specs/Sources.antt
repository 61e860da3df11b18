-- What the bytes of a source are: an accepted program, no text, or a text whose program is refused.
use Rattle.std.specs.Prelude.{◌≡◌, ℕ, List, Some, Result, Ok, Err}
use Rattle.par_tree.specs.Tree.{Program}
use Rattle.par_tree.specs.View.{program_tree}
use Rattle.par_text.specs.Judging.{IsText, IsRefused}
use Rattle.par_ownership.specs.Ownership.{Ownership}
use Rattle.par_ownership.specs.Walk.{program_refusal}
use Rattle.block_check.specs.Checked.{program_of, error_shown}
use Rattle.block_check.specs.declared.checked.Checked.{Checked}
use Rattle.accepted_source.specs.declared.source_fail.SourceFail.{SourceFail}
use Rattle.accepted_source.specs.declared.source_fail.SourceFail.TheVariants.{Syntax, Check, OutOfMemory}

abbrev pub ReadsSource : List ℕ → Result Checked SourceFail → Type 0
ReadsSource text (Ok c) = IsText text (program_tree (program_of c)) × Ownership (program_tree (program_of c))
ReadsSource text (Err (Syntax e)) = IsRefused text e
ReadsSource text (Err (Check e)) = (p : Program) × IsText text p × (program_refusal p ≡ Some (error_shown e)) × ¬ Ownership p
ReadsSource text (Err OutOfMemory) = Unit {0}
