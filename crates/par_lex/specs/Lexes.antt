-- What the lexer returns, against the tokens of a text.
use Rattle.std.specs.Prelude.{◌≡◌, ℕ, List, ◌++◌, length, take, drop, Result, Ok, Err}
use Rattle.par_text.specs.Rule.{Token}
use Rattle.par_text.specs.Lexing.{Lexed, with_piece}
use Rattle.par_lex.specs.declared.lexeme.Lexeme.{Lexeme}
use Rattle.std.specs.declared.vec.Vec.{Vec}
use Rattle.std.specs.declared.alloc.Global.{Global}
use Rattle.par_lex.specs.declared.parse_fail.ParseFail.{ParseFail}
use Rattle.par_lex.specs.declared.parse_fail.ParseFail.TheVariants.{Refused, OutOfMemory}
use Rattle.par_lex.specs.Words.{words}

-- tokens in front of others
abbrev pub with_tokens : List Token → Lexed → Lexed
with_tokens ts (Ok us) = Ok (ts ++ us)
with_tokens ts (Err e) = Err e

-- the same refusal, unless memory ran out
abbrev pub RefusesSo : ParseFail → Lexed → Type 0
RefusesSo OutOfMemory tokens = Unit {0}
RefusesSo (Refused e) tokens = tokens ≡ Err e

-- these tokens of the text, or the same refusal
abbrev pub GivesTokens : Result (Vec Lexeme Global) ParseFail → List ℕ → Lexed → Type 0
GivesTokens (Ok v) text tokens = tokens ≡ Ok (words text v.items)
GivesTokens (Err f) text tokens = RefusesSo f tokens

-- The piece stands behind the old tokens in front of whatever follows: the new tokens are the old ones
-- with it, or it is refused whatever follows.
abbrev pub AddsPiece : Result (Unit {0}) ParseFail → List Lexeme → List Lexeme → List ℕ → ℕ → ℕ → Type 0
AddsPiece (Ok x) old new bytes at line =
    (text : List ℕ) (rest : Lexed) → take (length bytes) (drop at text) ≡ bytes
    → with_tokens (words text old) (with_piece (record { bytes = bytes; at = at; line = line }) rest) ≡ with_tokens (words text new) rest
AddsPiece (Err f) old new bytes at line = (rest : Lexed) → RefusesSo f (with_piece (record { bytes = bytes; at = at; line = line }) rest)
