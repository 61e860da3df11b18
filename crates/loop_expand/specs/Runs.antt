-- Runs of tokens: what stands between the commas of a loop.
use Rattle.std.specs.Prelude.{◌≡◌, ◌<◌, Bool, true, false, ◌||◌, List, [], ◌∷◌, ◌++◌, length, Option, Some, None, IsTrue}
use Rattle.par_text.specs.declared.kind.Kind.{Kind}
use Rattle.par_text.specs.declared.kind.Kind.TheVariants.{Name, Number, LeftParen, RightParen, LeftBracket, RightBracket, Comma, Assign, Plus, Minus, Star, Slash, Percent, Less, LessEqual, Greater, GreaterEqual, EqualEqual, NotEqual, Len}
use Rattle.par_text.specs.Kinds.{is}
use Rattle.par_lex.specs.declared.lexeme.Lexeme.{Lexeme}

-- The kinds that a run has outside brackets: names, numbers, operators, `=` and `len`. So it has no brace, no `;`, no
-- other keyword, and no comma there.
abbrev pub is_plain : Kind → Bool
is_plain Name = true
is_plain Number = true
is_plain Assign = true
is_plain Plus = true
is_plain Minus = true
is_plain Star = true
is_plain Slash = true
is_plain Percent = true
is_plain Less = true
is_plain LessEqual = true
is_plain Greater = true
is_plain GreaterEqual = true
is_plain EqualEqual = true
is_plain NotEqual = true
is_plain Len = true
is_plain _ = false

-- Inside brackets it has commas too.
abbrev pub is_inner : Kind → Bool
is_inner k = is_plain k || is Comma k

-- the bracket that closes another
abbrev pub closer : Kind → Option Kind
closer LeftParen = Some RightParen
closer LeftBracket = Some RightBracket
closer _ = None

-- Tokens in which each bracket is closed by its own kind, and all tokens outside brackets are of kinds that pass:
-- no token · such a token, and then others · an opening bracket, tokens inside, its closing bracket, and then others
pub data Nested : (Kind → Bool) → List Lexeme → Type 0 where
  nothing : (p : Kind → Bool) → Nested p []
  plain : (p : Kind → Bool) (t : Lexeme) (behind : List Lexeme) → IsTrue (p t.kind) → Nested p behind → Nested p (t ∷ behind)
  bracketed : (p : Kind → Bool) (opening closing : Lexeme) (inside behind : List Lexeme) → closer opening.kind ≡ Some closing.kind →
      Nested is_inner inside → Nested p behind → Nested p (opening ∷ inside ++ closing ∷ behind)

-- A run has at least one token.
abbrev pub IsRun : List Lexeme → Type 0
IsRun ts = (0 < length ts) × Nested is_plain ts
