-- The line of a refusal is what is made of bytes without an expansion.
use Rattle.std.proofs.Common.{◌≡◌, ℕ, List}
use Rattle.std.specs.Prelude.{Err}
use Rattle.loop_expand.specs.Answers.{FailsSo}
use Rattle.loop_expand.specs.declared.expand_fail.ExpandFail.{ExpandFail}
use Rattle.loop_expand.specs.declared.expand_fail.ExpandFail.TheVariants.{Refused, BadLoop, NameTaken, OutOfMemory}
use Rattle.dfd_plays.specs.Expanding.{TellsExpandFail, ExpansionGives}
use Rattle.dfd_plays.specs.declared.status.Status.{Status}
use Rattle.dfd_plays.specs.declared.status.Status.TheVariants.{Syntax}

-- the line of a refusal is what bytes give that are refused so
pub expansion_refused :
    (makes : List ℕ → Status → List ℕ → Type 0) (bytes : List ℕ) (fail : ExpandFail) (status : Status) (text : List ℕ) →
    FailsSo fail bytes → status ≡ Syntax → TellsExpandFail fail text → ExpansionGives makes bytes status text
expansion_refused makes bytes (Refused e) status text is at_status told = (Err (Refused e), is, (at_status, told))
expansion_refused makes bytes (BadLoop at) status text is at_status told = (Err (BadLoop at), is, (at_status, told))
expansion_refused makes bytes (NameTaken at) status text is at_status told = (Err (NameTaken at), is, (at_status, told))
expansion_refused makes bytes OutOfMemory status text is at_status told = absurd told
