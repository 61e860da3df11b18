-- What is a text, and each refusal of bytes that are none.
use Rattle.std.specs.Prelude.{◌≡◌, ℕ, zero, suc, ◌+◌, ◌≤◌, List, [], ◌∷◌, length, take, Option, Some, None, IfSome, Ok, Err, ◌⊎◌, nat_lt, if◌then◌else◌}
use Rattle.language_limits.specs.declared.TheConstants.{DEEPEST_NESTING}
use Rattle.par_text.specs.declared.stop.Stop.{Stop}
use Rattle.par_text.specs.declared.stop.Stop.TheVariants as stops
use Rattle.par_tree.specs.Tree.{Program}
use Rattle.par_text.specs.declared.syntax_error.SyntaxKind.{SyntaxKind}
use Rattle.par_text.specs.declared.syntax_error.SyntaxKind.TheVariants.{BadByte, BadToken, NumberTooLarge, Expected, TooDeep, TooLong, TooMany}
use Rattle.par_text.specs.declared.syntax_error.SyntaxError.{SyntaxError}
use Rattle.par_text.specs.Rule.{Token}
use Rattle.par_text.specs.Lexing.{text_tokens}
use Rattle.par_text.specs.Counts.{crowded}
use Rattle.par_text.specs.Text.{IsProgram, HasBegun, IsExpected, IsTooDeep}

-- how many constructs may be open at once
abbrev pub deepest : ℕ
deepest = DEEPEST_NESTING

-- The bytes are a text, and p is its tree.
pub record IsText (text : List ℕ) (p : Program) : Type 0 where
  pub tokens : List Token
  pub lexed : text_tokens text ≡ Ok tokens
  pub parsed : IsProgram deepest tokens p
  pub counted : crowded tokens ≡ None

-- the first byte of token i, or the count of the bytes where there is none
abbrev pub place_of : List Token → ℕ → ℕ → ℕ
place_of [] i end = end
place_of (t ∷ ts) zero end = t.at
place_of (t ∷ ts) (suc i) end = place_of ts i end

-- no token before token i is one too many
abbrev pub NotCrowded : List Token → ℕ → Type 0
NotCrowded ts i = IfSome (crowded ts) (λ j. i ≤ j)

-- Token i of these is the first that is refused, in this way: unexpected, too deep, or one too many.
abbrev pub RefusesToken : SyntaxKind → List Token → ℕ → Type 0
RefusesToken Expected ts i = IsExpected deepest ts i × NotCrowded ts i
RefusesToken TooDeep ts i = IsTooDeep deepest ts i × NotCrowded ts i
RefusesToken TooMany ts i = (crowded ts ≡ Some i) × HasBegun deepest (take (i + 1) ts)
RefusesToken BadByte ts i = ⊥
RefusesToken BadToken ts i = ⊥
RefusesToken NumberTooLarge ts i = ⊥
RefusesToken TooLong ts i = ⊥

-- the refusal of tokens
pub record IsRefusedByGrammar (text : List ℕ) (e : SyntaxError) : Type 0 where
  pub tokens : List Token
  pub lexed : text_tokens text ≡ Ok tokens
  pub index : ℕ
  pub refuses : RefusesToken e.kind tokens index
  pub place : e.at ≡ place_of tokens index (length text)

-- The bytes are no text, for this reason at this place: they have no tokens, or their tokens make no
-- program within the limits.
abbrev pub IsRefused : List ℕ → SyntaxError → Type 0
IsRefused text e = (text_tokens text ≡ Err e) ⊎ IsRefusedByGrammar text e

-- what a stop of the reading is
abbrev pub kind_of : Stop → SyntaxKind
kind_of stops.Expected = Expected
kind_of stops.TooDeep = TooDeep

-- the refusal at token i
abbrev pub refused_at : List Token → SyntaxKind → ℕ → ℕ → SyntaxError
refused_at ts f i end = record { kind = f; at = place_of ts i end }

-- the earlier of a refusal at token i and of a token that is one too many, if there is one
abbrev pub earlier : List Token → SyntaxKind → ℕ → Option ℕ → ℕ → SyntaxError
earlier ts f i None end = refused_at ts f i end
earlier ts f i (Some j) end = if nat_lt j i then refused_at ts TooMany j end else refused_at ts f i end

-- what bytes are: a text with its tree, or refused
pub data Verdict : Type 0 where
  tree : Program → Verdict
  refusal : SyntaxError → Verdict

abbrev pub Judges : List ℕ → Verdict → Type 0
Judges text (tree p) = IsText text p
Judges text (refusal e) = IsRefused text e
