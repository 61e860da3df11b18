-- How large a program is, and that the tree of a text is small.
use Rattle.std.specs.Prelude.{◌≡◌, ◌↔◌, ℕ, ◌+◌, ◌≤◌, List, [], ◌∷◌, length, None}
use Rattle.par_tree.specs.Tree.{Stmt, let_stmt, assign_stmt, put_stmt, alloc_stmt, free_stmt, if_stmt, while_stmt, call_stmt, print_stmt, par_stmt, split_stmt, Body, done, step, Func, Program}
use Rattle.accepted_source.specs.Laws.{EachFunction}
use Rattle.par_tree.specs.Names.{declared_in}
use Rattle.par_text.specs.Counts.{crowded, most_functions, most_names}
use Rattle.par_text.specs.Lexing.{longest_text}
use Rattle.par_text.specs.Rule.{Token}
use Rattle.par_text.specs.Text.{IsProgram}
use Rattle.par_text.specs.Trees.{IsTreeOfText}

-- how many statements a statement is with those inside it, and how many stand in a list
abbrev mutual
  pub stmt_size : Stmt → ℕ
  stmt_size (let_stmt x e) = 1
  stmt_size (assign_stmt x e) = 1
  stmt_size (put_stmt b i e) = 1
  stmt_size (alloc_stmt b e) = 1
  stmt_size (free_stmt b) = 1
  stmt_size (if_stmt c a b) = 1 + (body_size a + body_size b)
  stmt_size (while_stmt c a) = 1 + body_size a
  stmt_size (call_stmt t f args) = 1
  stmt_size (print_stmt e) = 1
  stmt_size (par_stmt a b) = 1 + (body_size a + body_size b)
  stmt_size (split_stmt b e l r a) = 1 + body_size a

  pub body_size : Body → ℕ
  body_size done = 0
  body_size (step line s rest) = stmt_size s + body_size rest

-- how many statements stand in functions
abbrev pub functions_size : List Func → ℕ
functions_size [] = 0
functions_size (f ∷ fs) = body_size f.body + functions_size fs

-- a function that declares few names
abbrev pub HasFewNames : Func → Type 0
HasFewNames f = length (declared_in f) ≤ most_names

-- no more functions, names of a function and statements than a text can have
pub record IsSmall (p : Program) : Type 0 where
  pub functions : length p ≤ most_functions
  pub names : EachFunction HasFewNames p
  pub statements : functions_size p ≤ longest_text

abbrev pub SizesAreSmall : Type 0
SizesAreSmall = (p : Program) → IsTreeOfText p → IsSmall p

-- at most so many functions, and at most so many declared names in each
pub record IsWithinCounts (p : Program) : Type 0 where
  pub functions : length p ≤ most_functions
  pub names : EachFunction HasFewNames p

-- None of the tokens of a program is a function or a declared name too many exactly where its tree has no more than a text may.
abbrev pub CountsAreOfTheTree : Type 0
CountsAreOfTheTree = (most : ℕ) (ts : List Token) (p : Program) → IsProgram most ts p → (crowded ts ≡ None) ↔ IsWithinCounts p
