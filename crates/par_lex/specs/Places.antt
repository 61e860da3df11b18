-- Where tokens stand.
use Rattle.std.specs.Prelude.{◌≡◌, map, Result, Ok, Err}
use Rattle.std.specs.declared.vec.Vec.{Vec}
use Rattle.std.specs.declared.alloc.Global.{Global}
use Rattle.par_text.specs.Rule.{Token as Word}
use Rattle.par_text.specs.Lexing.{Lexed}
use Rattle.par_lex.specs.declared.lexeme.Lexeme.{Lexeme}
use Rattle.par_lex.specs.declared.token.Token.{Token}
use Rattle.par_lex.specs.declared.parse_fail.ParseFail.{ParseFail}
use Rattle.par_lex.specs.declared.parse_fail.ParseFail.TheVariants.{Refused, OutOfMemory}

abbrev pub lexeme_place : Lexeme → Token
lexeme_place l = record { at = l.at; len = l.len; line = l.line }

-- the place of a token of a text
abbrev pub word_place : Word → Token
word_place t = record { at = t.at; len = t.len; line = t.line }

-- the places of the tokens, or the refusal, unless memory ran out
abbrev pub GivesPlaces : Result (Vec Token Global) ParseFail → Lexed → Type 0
GivesPlaces (Ok v) (Ok ts) = v.items ≡ map word_place ts
GivesPlaces (Ok v) (Err e) = ⊥
GivesPlaces (Err OutOfMemory) tokens = Unit {0}
GivesPlaces (Err (Refused e)) (Ok ts) = ⊥
GivesPlaces (Err (Refused e)) (Err g) = e ≡ g
