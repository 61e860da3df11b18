-- Why a source could not be read.
use Rattle.std.specs.Prelude.{◌≡◌, ℕ}
use Rattle.byte_streams.specs.Faults.{Rose}
use Rattle.byte_streams.specs.declared.read_fail.ReadFail.{ReadFail}
use Rattle.byte_streams.specs.declared.read_fail.ReadFail.TheVariants.{Fault, OutOfMemory}

-- what the source counted in a reading that failed: one fault where it says so, and none where there was no memory
abbrev pub CauseOf : ReadFail → (before after : ℕ) → Type 0
CauseOf Fault before after = Rose before after
CauseOf OutOfMemory before after = after ≡ before
