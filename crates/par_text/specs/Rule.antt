-- A grammar as data: the forms of EBNF, each with what it means.
use Rattle.std.specs.Prelude.{ℕ, ℤ, Bool, List}
use Rattle.par_tree.specs.Tree.{Expr, Body}
use Rattle.par_text.specs.declared.kind.Kind.{Kind}

-- a token: its kind, its bytes and their count, the value of a number, the place of its first byte,
-- and its line
pub record Token : Type 0 where
  pub kind : Kind
  pub bytes : List ℕ
  pub value : ℤ
  pub at : ℕ
  pub len : ℕ
  pub line : ℕ

-- what can stand inside itself, behind a bracket or a sign
pub data Nonterminal : Type 0 where
  expression : Nonterminal
  factor : Nonterminal
  statements : Nonterminal

-- the trees that these mean
abbrev pub TreeOf : Nonterminal → Type 0
TreeOf expression = Expr
TreeOf factor = Expr
TreeOf statements = Body

-- A rule whose forms mean values of X:
-- no token · one token of a kind · a rule with another meaning · a rule and then another · one of two rules, where the kinds that
-- pass begin the first · a rule again and again, where the kinds that pass begin it · a token that
-- opens a construct and the rest of this construct, one deeper · a nonterminal
pub data Rule : Type 0 → Type 1 where
  nothing : {X : Type 0} → X → Rule X
  token : Kind → Rule Token
  mapped : {A X : Type 0} → (A → X) → Rule A → Rule X
  pair : {A B X : Type 0} → (A → B → X) → Rule A → Rule B → Rule X
  either : {X : Type 0} → (Kind → Bool) → Rule X → Rule X → Rule X
  many : {A X : Type 0} → (Kind → Bool) → (A → X → X) → X → Rule A → Rule X
  nest : {X : Type 0} → Kind → Rule X → Rule X
  within : {X : Type 0} → (s : Nonterminal) → (TreeOf s → X) → Rule X
