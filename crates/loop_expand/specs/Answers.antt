-- What the expansion returns, unless memory runs out.
use Rattle.std.specs.Prelude.{ℕ, List, Option, Some, None, Result, Ok, Err}
use Rattle.std.specs.declared.vec.Vec.{Vec}
use Rattle.std.specs.declared.alloc.Global.{Global}
use Rattle.par_lex.specs.declared.lexeme.Lexeme.{Lexeme}
use Rattle.loop_expand.specs.declared.expand_fail.ExpandFail.{ExpandFail}
use Rattle.loop_expand.specs.declared.expand_fail.ExpandFail.TheVariants.{Refused, BadLoop, NameTaken, OutOfMemory}
use Rattle.loop_expand.specs.Expansion.{FirstAt, Nowhere, Expands}

-- the place of the first token from which on P holds, or none
abbrev pub FindsFirst : Option ℕ → (List Lexeme → Type 0) → List Lexeme → Type 0
FindsFirst None P ts = Nowhere P ts
FindsFirst (Some at) P ts = FirstAt P ts at

-- The answer is what the text comes to, unless memory ran out.
abbrev pub FailsSo : ExpandFail → List ℕ → Type 0
FailsSo (Refused e) text = Expands text (Err (Refused e))
FailsSo (BadLoop at) text = Expands text (Err (BadLoop at))
FailsSo (NameTaken at) text = Expands text (Err (NameTaken at))
FailsSo OutOfMemory text = Unit {0}

abbrev pub ExpandsOrNoMemory : Result (Vec ℕ Global) ExpandFail → List ℕ → Type 0
ExpandsOrNoMemory (Ok bytes) text = Expands text (Ok bytes.items)
ExpandsOrNoMemory (Err fail) text = FailsSo fail text
