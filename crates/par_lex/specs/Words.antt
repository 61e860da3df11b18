-- The tokens of a text, by the lexemes that stand for them in the code.
use Rattle.std.specs.Prelude.{ℕ, List, map, take, drop}
use Rattle.par_text.specs.Rule.{Token}
use Rattle.par_lex.specs.declared.lexeme.Lexeme.{Lexeme}

-- a token of a text
abbrev pub word_of : List ℕ → Lexeme → Token
word_of text t = record { kind = t.kind; bytes = take t.len (drop t.at text); value = t.value; at = t.at; len = t.len; line = t.line }

unfoldable pub words : List ℕ → List Lexeme → List Token
words text ts = map (word_of text) ts
