-- What the lexer returns, against the tokens of a text.
use Rattle.std.specs.Prelude.{◌≡◌, ℕ, ℤ, pos, List, Result, Ok, Err}
use Rattle.par_text.specs.declared.kind.Kind.{Kind}
use Rattle.par_text.specs.declared.kind.Kind.TheVariants.{Number}
use Rattle.par_text.specs.declared.syntax_error.SyntaxKind.{SyntaxKind}
use Rattle.par_text.specs.Lexing.{of_digits, form_of, value_from, value_of}

-- the same kind, or the same refusal
abbrev pub GivesKind : Result Kind SyntaxKind → Result Kind SyntaxKind → Type 0
GivesKind result form = form ≡ result

-- the value of digits that make a number, or their refusal
abbrev pub GivesNumber : Result ℤ SyntaxKind → List ℕ → Type 0
GivesNumber (Ok n) w = (of_digits w ≡ Ok Number) × (n ≡ pos (value_from 0 w))
GivesNumber (Err e) w = of_digits w ≡ Err e

-- the kind and the value of a token, or its refusal
abbrev pub GivesForm : Result (Kind × ℤ) SyntaxKind → List ℕ → Type 0
GivesForm (Ok f) w = (form_of w ≡ Ok f.0) × (f.1 ≡ value_of w)
GivesForm (Err e) w = form_of w ≡ Err e
