-- What a text is.
use Rattle.std.specs.Prelude.{◌≡◌, ℕ, zero, suc, ◌+◌, ◌<◌, ◌≤◌, List, [], ◌∷◌, ◌++◌, length, take, ◌⊎◌}
use Rattle.par_tree.specs.Tree.{Program}
use Rattle.par_text.specs.Rule.{Token, Nonterminal, TreeOf}
use Rattle.par_text.specs.Form.{Marked, Form, spelling, meaning, tokens_of}
use Rattle.par_text.specs.Grammar.{rule, program_rule}

-- no token has more constructs open with it than this
abbrev pub Shallow : ℕ → List Marked → Type 0
Shallow most [] = Unit {0}
Shallow most (m ∷ ms) = (m.depth ≤ most) × Shallow most ms

-- the forms of the nonterminals, less than n deep in one another
abbrev pub Nested : ℕ → Nonterminal → Type 0
Nested zero s = ⊥
Nested (suc n) s = Form (Nested n) (rule s)

abbrev pub nested_spelling : (n : ℕ) → ℕ → (s : Nonterminal) → Nested n s → List Marked
nested_spelling zero depth s d = []
nested_spelling (suc n) depth s d = spelling (Nested n) (nested_spelling n) depth (rule s) d

abbrev pub nested_meaning : (n : ℕ) → (s : Nonterminal) → Nested n s → TreeOf s
nested_meaning zero s d = absurd d
nested_meaning (suc n) s d = meaning (Nested n) (nested_meaning n) (rule s) d

-- a form of a program, less than size deep
abbrev pub ProgramForm : ℕ → Type 0
ProgramForm size = Form (Nested size) program_rule

-- its tokens, with how many constructs are open with each, and its tree
abbrev pub program_spelling : (size : ℕ) → ProgramForm size → List Marked
program_spelling size form = spelling (Nested size) (nested_spelling size) 0 program_rule form

abbrev pub program_meaning : (size : ℕ) → ProgramForm size → Program
program_meaning size form = meaning (Nested size) (nested_meaning size) program_rule form

-- The tokens make a program, this one, and no token is too deep.
pub record IsProgram (most : ℕ) (ts : List Token) (p : Program) : Type 0 where
  pub size : ℕ
  pub form : ProgramForm size
  pub spelled : tokens_of (program_spelling size form) ≡ ts
  pub means : program_meaning size form ≡ p
  pub shallow : Shallow most (program_spelling size form)

-- Some tokens after these make a program, whatever is deep in it.
pub record IsViable (ts : List Token) : Type 0 where
  pub size : ℕ
  pub form : ProgramForm size
  pub more : List Token
  pub spelled : tokens_of (program_spelling size form) ≡ ts ++ more

-- A program begins with these tokens, and none of them is too deep.
pub record HasBegun (most : ℕ) (ts : List Token) : Type 0 where
  pub size : ℕ
  pub form : ProgramForm size
  pub front : List Marked
  pub back : List Marked
  pub spelled : program_spelling size form ≡ front ++ back
  pub tokens : tokens_of front ≡ ts
  pub shallow : Shallow most front

-- no tokens make a program that begins with the first i and goes on with the next, or ends where there is none
abbrev pub NoneGoesOn : List Token → ℕ → Type 0
NoneGoesOn ts i =
    ((i ≡ length ts) × ((size : ℕ) (form : ProgramForm size) → tokens_of (program_spelling size form) ≡ ts → ⊥))
    ⊎ ((i < length ts) × (IsViable (take (i + 1) ts) → ⊥))

-- Token i is the first that no program has after the tokens before it, or the tokens are cut there.
pub record IsExpected (most : ℕ) (ts : List Token) (i : ℕ) : Type 0 where
  pub begun : HasBegun most (take i ts)
  pub none : NoneGoesOn ts i

-- Token i is the first that is too deep: a program begins with the tokens up to it.
pub record IsTooDeep (most : ℕ) (ts : List Token) (i : ℕ) : Type 0 where
  pub size : ℕ
  pub form : ProgramForm size
  pub front : List Marked
  pub deep : Marked
  pub back : List Marked
  pub spelled : program_spelling size form ≡ front ++ deep ∷ back
  pub tokens : tokens_of (front ++ deep ∷ []) ≡ take (i + 1) ts
  pub place : length front ≡ i
  pub shallow : Shallow most front
  pub too_deep : most < deep.depth
