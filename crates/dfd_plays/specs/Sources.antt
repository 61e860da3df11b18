-- What is made of the bytes of a source.
use Rattle.std.specs.Prelude.{◌≡◌, ℕ, List, Some}
use Rattle.par_ownership.specs.Accepted.{IsAccepted}
use Rattle.par_ownership.specs.Walk.{Refusal, program_refusal}
use Rattle.par_text.specs.Judging.{IsText, IsRefused}
use Rattle.par_text.specs.declared.syntax_error.SyntaxError.{SyntaxError}
use Rattle.par_tree.specs.Tree.{Program}
use Rattle.dfd_plays.specs.Messages.{syntax_text, check_text}
use Rattle.dfd_plays.specs.declared.status.Status.{Status}
use Rattle.dfd_plays.specs.declared.status.Status.TheVariants.{Syntax, Check}

-- the bytes are no text, and the line says why and where
abbrev pub SyntaxGives : List ℕ → List ℕ → Type 0
SyntaxGives bytes text = (e : SyntaxError) × (IsRefused bytes e × (text ≡ syntax_text e))

-- the bytes are the text of a program that is refused, and the line says what the walk refuses first
abbrev pub OwnershipGives : List ℕ → List ℕ → Type 0
OwnershipGives bytes text =
    (p : Program) × (IsText bytes p × ((r : Refusal) × ((program_refusal p ≡ Some r) × (text ≡ check_text r))))

-- the bytes are refused, as no text or for their program
abbrev pub RefusalGives : List ℕ → Status → List ℕ → Type 0
RefusalGives bytes Syntax text = SyntaxGives bytes text
RefusalGives bytes Check text = OwnershipGives bytes text
RefusalGives bytes status text = ⊥

-- what a command gives that makes this of each program: the refusal of the bytes, or else the refusal of their
-- program, or else what it makes of the program
abbrev pub SourceGives : (makes : Program → Status → List ℕ → Type 0) → List ℕ → Status → List ℕ → Type 0
SourceGives makes bytes Syntax text = SyntaxGives bytes text
SourceGives makes bytes Check text = OwnershipGives bytes text
SourceGives makes bytes status text = (p : Program) × (IsText bytes p × (IsAccepted p × makes p status text))
