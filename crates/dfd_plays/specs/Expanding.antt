-- What is made of the bytes of a source whose parallel loops are written out.
use Rattle.std.specs.Prelude.{◌≡◌, ℕ, List, Result, Ok, Err}
use Rattle.loop_expand.specs.Expansion.{Expands}
use Rattle.loop_expand.specs.declared.expand_fail.ExpandFail.{ExpandFail}
use Rattle.loop_expand.specs.declared.expand_fail.ExpandFail.TheVariants.{Refused, BadLoop, NameTaken, OutOfMemory}
use Rattle.dfd_plays.specs.Messages.{syntax_text, bad_loop_text, name_taken_text}
use Rattle.dfd_plays.specs.declared.status.Status.{Status}
use Rattle.dfd_plays.specs.declared.status.Status.TheVariants.{Done, Syntax}

-- The line that says why and where bytes have no expansion; want of memory is no such reason.
abbrev pub TellsExpandFail : ExpandFail → List ℕ → Type 0
TellsExpandFail (Refused e) text = text ≡ syntax_text e
TellsExpandFail (BadLoop at) text = text ≡ bad_loop_text at
TellsExpandFail (NameTaken at) text = text ≡ name_taken_text at
TellsExpandFail OutOfMemory text = ⊥

-- what is made of what bytes come to: this of an expansion, and of a refusal its line
abbrev pub OfExpansion : (makes : (expanded : List ℕ) → Status → List ℕ → Type 0) → Result (List ℕ) ExpandFail → Status → List ℕ → Type 0
OfExpansion makes (Ok expanded) status text = makes expanded status text
OfExpansion makes (Err fail) status text = (status ≡ Syntax) × TellsExpandFail fail text

-- What is made of bytes: this of their expansion, or the line of their refusal.
abbrev pub ExpansionGives : (makes : (expanded : List ℕ) → Status → List ℕ → Type 0) → (bytes : List ℕ) → Status → List ℕ → Type 0
ExpansionGives makes bytes status text = (answer : Result (List ℕ) ExpandFail) × Expands bytes answer × OfExpansion makes answer status text

-- what the command `expand` makes of an expansion: it writes it
abbrev pub ExpandMakes : (expanded : List ℕ) → Status → List ℕ → Type 0
ExpandMakes expanded status text = (status ≡ Done) × (text ≡ expanded)
