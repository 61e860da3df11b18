-- Loops in a list of tokens.
use Rattle.std.specs.Prelude.{◌≡◌, ℤ, pos, negsuc, ◌==◌, ◌%◌, nat_le, Bool, false, ◌&&◌, List, [], ◌∷◌, ◌++◌, IsTrue}
use Rattle.par_text.specs.declared.kind.Kind.{Kind}
use Rattle.par_text.specs.declared.kind.Kind.TheVariants.{Name, Number, LeftParen, RightParen, Comma, Semicolon, Assign, Par, Call, Into, Use, At}
use Rattle.par_text.specs.Kinds.{is}
use Rattle.par_lex.specs.declared.lexeme.Lexeme.{Lexeme}
use Rattle.language_limits.specs.declared.TheConstants.{LEAST_QUOTA, LONGEST_BLOCK}
use Rattle.loop_expand.specs.Runs.{IsRun}

-- What a loop goes over: the numbers from the value of one run up to before the value of another, or the parts of a
-- block of this name, each of at most so many words.
pub data Range : Type 0 where
  numbers : List Lexeme → List Lexeme → Range
  parts : Lexeme → Lexeme → Range

-- A loop: its `par`, the name that gets the sum, the function that is called, what the loop goes over, the further
-- arguments of each call, and its `;`.
pub record Loop : Type 0 where
  pub opening : Lexeme
  pub target : Lexeme
  pub function : Lexeme
  pub range : Range
  pub others : List (List Lexeme)
  pub closing : Lexeme

-- the words that a part may have at most: a multiple of 16, up to the longest block
abbrev pub is_size : ℤ → Bool
is_size (pos n) = nat_le LEAST_QUOTA n && (nat_le n LONGEST_BLOCK && n % LEAST_QUOTA == 0)
is_size (negsuc n) = false

-- An element of a form: any token of a kind · this token, which is of a kind · this number, which is a size · this run
pub data Element : Type 0 where
  sign : Kind → Element
  word : Kind → Lexeme → Element
  size : Lexeme → Element
  run : List Lexeme → Element

-- the element stands first, and these tokens behind it
abbrev pub StandsFirst : Element → List Lexeme → List Lexeme → Type 0
StandsFirst (sign k) ts behind = (t : Lexeme) × (ts ≡ t ∷ behind) × (t.kind ≡ k)
StandsFirst (word k t) ts behind = (ts ≡ t ∷ behind) × (t.kind ≡ k)
StandsFirst (size t) ts behind = (ts ≡ t ∷ behind) × (t.kind ≡ Number) × IsTrue (is_size t.value)
StandsFirst (run r) ts behind = (ts ≡ r ++ behind) × IsRun r

-- the elements stand first, one behind the other, and these tokens behind them
abbrev pub StandFirst : List Element → List Lexeme → List Lexeme → Type 0
StandFirst [] ts behind = ts ≡ behind
StandFirst (e ∷ es) ts behind = (next : List Lexeme) × StandsFirst e ts next × StandFirst es next behind

-- `E1 into E2`, or `use B at G`
abbrev pub range_form : Range → List Element
range_form (numbers low high) = run low ∷ sign Into ∷ run high ∷ []
range_form (parts block most) = sign Use ∷ word Name block ∷ sign At ∷ size most ∷ []

-- `, C1 , .. , Ck`
abbrev pub others_form : List (List Lexeme) → List Element
others_form [] = []
others_form (r ∷ rs) = sign Comma ∷ run r ∷ others_form rs

-- `par call X = F ( RANGE OTHERS ) ;`
abbrev pub loop_form : Loop → List Element
loop_form l =
    word Par l.opening ∷ sign Call ∷ word Name l.target ∷ sign Assign ∷ word Name l.function ∷ sign LeftParen ∷
    (range_form l.range ++ (others_form l.others ++ (sign RightParen ∷ word Semicolon l.closing ∷ [])))

-- The tokens begin with this loop.
abbrev pub BeginsLoop : Loop → List Lexeme → Type 0
BeginsLoop l ts = (behind : List Lexeme) × StandFirst (loop_form l) ts behind

-- the first token is of this kind
abbrev pub next_is : Kind → List Lexeme → Bool
next_is k [] = false
next_is k (t ∷ ts) = is k t.kind

-- The tokens begin with `par call`.
abbrev pub begins_call : List Lexeme → Bool
begins_call [] = false
begins_call (t ∷ ts) = is Par t.kind && next_is Call ts

-- These are the loops of the tokens, in text order: each `par call` begins one.
pub data AreLoops : List Lexeme → List Loop → Type 0 where
  no_token : AreLoops [] []
  no_call : (t : Lexeme) (ts : List Lexeme) (ls : List Loop) → begins_call (t ∷ ts) ≡ false → AreLoops ts ls → AreLoops (t ∷ ts) ls
  one_loop : (t : Lexeme) (ts : List Lexeme) (l : Loop) (ls : List Loop) → BeginsLoop l (t ∷ ts) → AreLoops ts ls → AreLoops (t ∷ ts) (l ∷ ls)
