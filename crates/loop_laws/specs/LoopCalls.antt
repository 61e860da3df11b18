-- The call that stands for a loop, as a tree.
use Rattle.std.specs.Prelude.{◌≡◌, ◌⊎◌, ℕ, ℤ, List, [], ◌∷◌, map}
use Rattle.par_tree.specs.Tree.{Name, Expr, integer, Arg, value, lend, Stmt, let_stmt, assign_stmt, put_stmt, alloc_stmt, free_stmt, if_stmt, while_stmt, call_stmt, print_stmt, par_stmt, split_stmt, Body, done, step, Program}
use Rattle.par_text.specs.declared.kind.Kind.{Kind}
use Rattle.par_text.specs.Rule.{Token}
use Rattle.par_text.specs.Form.{Form, tokens_of, spelling, meaning}
use Rattle.par_text.specs.Text.{Nested, nested_spelling, nested_meaning}
use Rattle.par_text.specs.Grammar.{expr_rule}
use Rattle.par_lex.specs.declared.lexeme.Lexeme.{Lexeme}
use Rattle.loop_expand.specs.Loops.{Range, numbers, parts, Loop}
use Rattle.loop_expand.specs.Texts.{bytes_of, sum_name}
use Rattle.loop_laws.specs.HelperTrees.{difference}

-- a token without its place
pub record Word : Type 0 where
  pub kind : Kind
  pub bytes : List ℕ
  pub value : ℤ

abbrev pub word_of : Token → Word
word_of t = record { kind = t.kind; bytes = t.bytes; value = t.value }

abbrev pub word_at : List ℕ → Lexeme → Word
word_at text t = record { kind = t.kind; bytes = bytes_of text t; value = t.value }

-- The words are an expression, this one.
pub record IsExpression (words : List Word) (e : Expr) : Type 0 where
  pub size : ℕ
  pub form : Form (Nested size) expr_rule
  pub spelled : map word_of (tokens_of (spelling (Nested size) (nested_spelling size) 0 expr_rule form)) ≡ words
  pub means : meaning (Nested size) (nested_meaning size) expr_rule form ≡ e

-- the words of a run
abbrev pub run_words : List ℕ → List Lexeme → List Word
run_words text run = map (word_at text) run

-- Each run is an expression, and these are they.
abbrev pub AreExpressions : List ℕ → List (List Lexeme) → List Expr → Type 0
AreExpressions text [] [] = Unit {0}
AreExpressions text [] (e ∷ es) = ⊥
AreExpressions text (r ∷ rs) [] = ⊥
AreExpressions text (r ∷ rs) (e ∷ es) = IsExpression (run_words text r) e × AreExpressions text rs es

-- The first arguments of a loop's call, before others: the first number and the count of numbers, or the block.
abbrev pub AreArguments : List ℕ → Range → List Arg → List Arg → Type 0
AreArguments text (numbers low high) others args =
    (first : Expr) × (last : Expr) × IsExpression (run_words text low) first × IsExpression (run_words text high) last
    × (args ≡ value first ∷ value (difference last first) ∷ others)
AreArguments text (parts block most) others args = args ≡ lend (bytes_of text block) ∷ others

-- The statement is the call of the helper of loop J.
abbrev pub IsCall : List ℕ → ℕ → Loop → Stmt → Type 0
IsCall text j l s =
    (others : List Expr) × (args : List Arg) × AreExpressions text l.others others × AreArguments text l.range (map value others) args
    × (s ≡ call_stmt (integer (bytes_of text l.target)) (sum_name j) args)

-- This holds of some statement of a list, at any depth.
abbrev mutual
  pub OfSome : (Stmt → Type 0) → Body → Type 0
  OfSome P done = ⊥
  OfSome P (step line s rest) = (P s ⊎ OfSomeInside P s) ⊎ OfSome P rest

  -- of some statement inside this one
  pub OfSomeInside : (Stmt → Type 0) → Stmt → Type 0
  OfSomeInside P (let_stmt x e) = ⊥
  OfSomeInside P (assign_stmt x e) = ⊥
  OfSomeInside P (put_stmt b i e) = ⊥
  OfSomeInside P (alloc_stmt b e) = ⊥
  OfSomeInside P (free_stmt b) = ⊥
  OfSomeInside P (if_stmt e a b) = OfSome P a ⊎ OfSome P b
  OfSomeInside P (while_stmt e a) = OfSome P a
  OfSomeInside P (call_stmt t f xs) = ⊥
  OfSomeInside P (print_stmt e) = ⊥
  OfSomeInside P (par_stmt a b) = OfSome P a ⊎ OfSome P b
  OfSomeInside P (split_stmt b e l r a) = OfSome P a

-- of some statement of a program
abbrev pub OfSomeStatement : (Stmt → Type 0) → Program → Type 0
OfSomeStatement P [] = ⊥
OfSomeStatement P (f ∷ fs) = OfSome P f.body ⊎ OfSomeStatement P fs

-- the statement calls the function of this name
abbrev pub Calls : Name → Stmt → Type 0
Calls f (let_stmt x e) = ⊥
Calls f (assign_stmt x e) = ⊥
Calls f (put_stmt b i e) = ⊥
Calls f (alloc_stmt b e) = ⊥
Calls f (free_stmt b) = ⊥
Calls f (if_stmt e a b) = ⊥
Calls f (while_stmt e a) = ⊥
Calls f (call_stmt t g xs) = g ≡ f
Calls f (print_stmt e) = ⊥
Calls f (par_stmt a b) = ⊥
Calls f (split_stmt b e l r a) = ⊥

-- This holds of each statement of a list, at any depth.
abbrev mutual
  pub OfEach : (Stmt → Type 0) → Body → Type 0
  OfEach P done = Unit {0}
  OfEach P (step line s rest) = (P s × OfEachInside P s) × OfEach P rest

  -- of each statement inside this one
  pub OfEachInside : (Stmt → Type 0) → Stmt → Type 0
  OfEachInside P (let_stmt x e) = Unit {0}
  OfEachInside P (assign_stmt x e) = Unit {0}
  OfEachInside P (put_stmt b i e) = Unit {0}
  OfEachInside P (alloc_stmt b e) = Unit {0}
  OfEachInside P (free_stmt b) = Unit {0}
  OfEachInside P (if_stmt e a b) = OfEach P a × OfEach P b
  OfEachInside P (while_stmt e a) = OfEach P a
  OfEachInside P (call_stmt t f xs) = Unit {0}
  OfEachInside P (print_stmt e) = Unit {0}
  OfEachInside P (par_stmt a b) = OfEach P a × OfEach P b
  OfEachInside P (split_stmt b e l r a) = OfEach P a

-- of each statement of a program
abbrev pub OfEachStatement : (Stmt → Type 0) → Program → Type 0
OfEachStatement P [] = Unit {0}
OfEachStatement P (f ∷ fs) = OfEach P f.body × OfEachStatement P fs
