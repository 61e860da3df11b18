-- What `parse` and `tokens` answer.
use Rattle.std.specs.Prelude.{◌≡◌, ℕ, List, Result, Ok, Err}
use Rattle.par_tree.specs.Tree.{Program}
use Rattle.par_tree.specs.View.{program_tree}
use Rattle.par_tree.specs.declared.program.Program.{Program as RustProgram}
use Rattle.par_text.specs.declared.syntax_error.SyntaxError.{SyntaxError}
use Rattle.par_text.specs.Judging.{IsText, IsRefused}
use Rattle.par_lex.specs.declared.parse_fail.ParseFail.{ParseFail}
use Rattle.par_lex.specs.declared.parse_fail.ParseFail.TheVariants.{Refused, OutOfMemory}

-- a fact of the refusal, where there is one
abbrev pub IfRefused : {X : Type 0} → Result X ParseFail → (SyntaxError → Type 0) → Type 0
IfRefused (Ok x) P = Unit {0}
IfRefused (Err OutOfMemory) P = Unit {0}
IfRefused (Err (Refused e)) P = P e

-- this tree, unless memory ran out
abbrev pub IsTreeOrMemory : Result RustProgram ParseFail → Program → Type 0
IsTreeOrMemory (Ok q) p = program_tree q ≡ p
IsTreeOrMemory (Err OutOfMemory) p = Unit {0}
IsTreeOrMemory (Err (Refused e)) p = ⊥

-- this refusal, unless memory ran out
abbrev pub IsRefusalOrMemory : {X : Type 0} → Result X ParseFail → SyntaxError → Type 0
IsRefusalOrMemory (Ok x) e = ⊥
IsRefusalOrMemory (Err OutOfMemory) e = Unit {0}
IsRefusalOrMemory (Err (Refused g)) e = g ≡ e

-- the bytes are what the result says, unless memory ran out
abbrev pub IsJudged : Result RustProgram ParseFail → List ℕ → Type 0
IsJudged (Ok p) text = IsText text (program_tree p)
IsJudged (Err OutOfMemory) text = Unit {0}
IsJudged (Err (Refused e)) text = IsRefused text e
