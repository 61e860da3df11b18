-- The faults of a call's streams and its status.
use Rattle.std.specs.Prelude.{◌≡◌, ℕ, ◌⊎◌}
use Rattle.byte_streams.specs.Faults.{Rose}
use Rattle.dfd_plays.specs.declared.status.Status.{Status}
use Rattle.dfd_plays.specs.declared.status.Status.TheVariants.{ReadFault, WriteFault}

-- how the counts of faults of source and sink went in a call that ended so: the source's rose at a read fault, the sink's at
-- a write fault, whatever was to be written, and else none
abbrev pub Counts : Status → (reads reads' writes writes' : ℕ) → Type 0
Counts ReadFault reads reads' writes writes' = Rose reads reads' × (writes' ≡ writes)
Counts WriteFault reads reads' writes writes' = ((reads' ≡ reads) ⊎ Rose reads reads') × Rose writes writes'
Counts status reads reads' writes writes' = (reads' ≡ reads) × (writes' ≡ writes)
