-- The canonical text of a program, as a function of its tree alone: all blanks are fixed, numbers have
-- no leading zeros, and parentheses stand just where the grammar would read another tree without them.
use Rattle.std.specs.Prelude.{ℕ, Bool, true, false, ◌||◌, List, [], ◌∷◌, ◌++◌, map, Option, Some, None, codes}
use Rattle.std.specs.List.{flat_map}
use Rattle.std.specs.Fmt.{signed_decimal}
use Rattle.par_tree.specs.Tree.{ChainOp, plus, minus, times, over, modulo, Comparison, equal, unequal, below, at_most, above, at_least, Expr, num, var, get, len_of, neg, chain, cmp, Links, last, link, Target, unused, integer, block, Arg, value, lend, give, Stmt, let_stmt, assign_stmt, put_stmt, alloc_stmt, free_stmt, if_stmt, while_stmt, call_stmt, print_stmt, par_stmt, split_stmt, Body, done, step, Param, ParamKind, by_value, lent, owned, RetValue, gives, hands, Ret, Func, Program}
use Rattle.canonical_text.specs.declared.place.Place.{Place}
use Rattle.canonical_text.specs.declared.place.Place.TheVariants.{Expression, Sum, Term, Factor}

-- a text and then another
infixr 5 ◌⊕◌
abbrev pub ◌⊕◌ : List ℕ → List ℕ → List ℕ
u ⊕ v = u ++ v

-- expressions

-- A binary operator has one space on each side.
abbrev pub operator_text : ChainOp → List ℕ
operator_text plus = codes " + "
operator_text minus = codes " - "
operator_text times = codes " * "
operator_text over = codes " / "
operator_text modulo = codes " % "

abbrev pub comparison_text : Comparison → List ℕ
comparison_text equal = codes " == "
comparison_text unequal = codes " != "
comparison_text below = codes " < "
comparison_text at_most = codes " <= "
comparison_text above = codes " > "
comparison_text at_least = codes " >= "

-- The operands of a sum are terms, and those of a term are factors.
abbrev pub operand_place : ChainOp → Place
operand_place plus = Term
operand_place minus = Term
operand_place times = Factor
operand_place over = Factor
operand_place modulo = Factor

-- the place of the operand that stands before these links
abbrev pub first_place : Links → Place
first_place last = Factor
first_place (link op e rest) = operand_place op

-- Whether links are a sum's, and whether an expression is a sum of at least two operands.
abbrev pub are_of_sum : Links → Bool
are_of_sum (link plus f rest) = true
are_of_sum (link minus f rest) = true
are_of_sum _ = false

abbrev pub is_sum : Expr → Bool
is_sum (chain e rest) = are_of_sum rest
is_sum _ = false

abbrev pub is_chain : Expr → Bool
is_chain (chain e rest) = true
is_chain _ = false

abbrev pub is_comparison : Expr → Bool
is_comparison (cmp op l r) = true
is_comparison _ = false

-- Whether the grammar reads an expression in a place only between parentheses: a comparison is no
-- sum, a sum is no term, and no chain is a factor.
abbrev pub needs_parentheses : Place → Expr → Bool
needs_parentheses Expression e = false
needs_parentheses Sum e = is_comparison e
needs_parentheses Term e = is_comparison e || is_sum e
needs_parentheses Factor e = is_comparison e || is_chain e

abbrev pub parenthesised : Bool → List ℕ → List ℕ
parenthesised true text = codes "(" ⊕ text ⊕ codes ")"
parenthesised false text = text

-- An expression, and the operators and operands of a chain behind its first operand. A number is its
-- decimal digits without leading zeros. A sign has no space behind it, and brackets have none inside.
abbrev mutual
  pub expr_text : Expr → List ℕ
  expr_text (num n) = signed_decimal n
  expr_text (var x) = x
  expr_text (get b i) = b ⊕ codes "[" ⊕ expr_text i ⊕ codes "]"
  expr_text (len_of b) = codes "len(" ⊕ b ⊕ codes ")"
  expr_text (neg e) = codes "-" ⊕ parenthesised (needs_parentheses Factor e) (expr_text e)
  expr_text (chain e rest) = parenthesised (needs_parentheses (first_place rest) e) (expr_text e) ⊕ links_text rest
  expr_text (cmp op l r) =
      parenthesised (needs_parentheses Sum l) (expr_text l) ⊕ comparison_text op ⊕ parenthesised (needs_parentheses Sum r) (expr_text r)

  pub links_text : Links → List ℕ
  links_text last = []
  links_text (link op e rest) = operator_text op ⊕ parenthesised (needs_parentheses (operand_place op) e) (expr_text e) ⊕ links_text rest

-- an expression in a place
abbrev pub text_in : Place → Expr → List ℕ
text_in p e = parenthesised (needs_parentheses p e) (expr_text e)

-- lists

-- A comma is followed by one space.
abbrev pub behind_comma : List ℕ → List ℕ
behind_comma text = codes ", " ⊕ text

abbrev pub with_commas : List (List ℕ) → List ℕ
with_commas [] = []
with_commas (text ∷ texts) = text ⊕ flat_map behind_comma texts

-- statements

abbrev pub line_end : List ℕ
line_end = 10 ∷ []

-- A margin is what stands before each line of a list of statements. It grows by two spaces a level.
abbrev pub deeper : List ℕ → List ℕ
deeper margin = margin ⊕ codes "  "

-- Statements between braces: `{` ends its line, and `}` stands on a line of its own.
abbrev pub braces : List ℕ → List ℕ → List ℕ
braces margin inner = codes "{" ⊕ line_end ⊕ inner ⊕ margin ⊕ codes "}"

-- `else` is written only where its list is not empty.
abbrev pub else_text : List ℕ → Body → List ℕ → List ℕ
else_text margin done inner = []
else_text margin (step line s rest) inner = codes " else " ⊕ braces margin inner

abbrev pub target_text : Target → List ℕ
target_text unused = []
target_text (integer x) = x ⊕ codes " = "
target_text (block x) = codes "own " ⊕ x ⊕ codes " = "

abbrev pub arg_text : Arg → List ℕ
arg_text (value e) = expr_text e
arg_text (lend b) = codes "use " ⊕ b
arg_text (give b) = codes "own " ⊕ b

-- a statement behind its margin, up to the end of its last line, and a list of statements
abbrev mutual
  pub stmt_text : List ℕ → Stmt → List ℕ
  stmt_text margin (let_stmt x e) = codes "let " ⊕ x ⊕ codes " = " ⊕ expr_text e ⊕ codes ";"
  stmt_text margin (assign_stmt x e) = x ⊕ codes " = " ⊕ expr_text e ⊕ codes ";"
  stmt_text margin (put_stmt b i e) = b ⊕ codes "[" ⊕ expr_text i ⊕ codes "] = " ⊕ expr_text e ⊕ codes ";"
  stmt_text margin (alloc_stmt b e) = codes "alloc " ⊕ b ⊕ codes " = " ⊕ expr_text e ⊕ codes ";"
  stmt_text margin (free_stmt b) = codes "free " ⊕ b ⊕ codes ";"
  stmt_text margin (if_stmt e a b) =
      codes "if " ⊕ expr_text e ⊕ codes " " ⊕ braces margin (body_text (deeper margin) a) ⊕ else_text margin b (body_text (deeper margin) b)
  stmt_text margin (while_stmt e a) = codes "while " ⊕ expr_text e ⊕ codes " " ⊕ braces margin (body_text (deeper margin) a)
  stmt_text margin (call_stmt t f xs) = codes "call " ⊕ target_text t ⊕ f ⊕ codes "(" ⊕ with_commas (map arg_text xs) ⊕ codes ");"
  stmt_text margin (print_stmt e) = codes "print " ⊕ expr_text e ⊕ codes ";"
  stmt_text margin (par_stmt a b) =
      codes "par " ⊕ braces margin (body_text (deeper margin) a) ⊕ codes " and " ⊕ braces margin (body_text (deeper margin) b)
  stmt_text margin (split_stmt b e l r a) =
      codes "split " ⊕ b ⊕ codes " at " ⊕ expr_text e ⊕ codes " into " ⊕ l ⊕ codes ", " ⊕ r ⊕ codes " " ⊕ braces margin (body_text (deeper margin) a)

  pub body_text : List ℕ → Body → List ℕ
  body_text margin done = []
  body_text margin (step line s rest) = margin ⊕ stmt_text margin s ⊕ line_end ⊕ body_text margin rest

-- functions

abbrev pub kind_text : ParamKind → List ℕ
kind_text by_value = []
kind_text lent = codes "use "
kind_text owned = codes "own "

abbrev pub param_text : Param → List ℕ
param_text p = kind_text p.kind ⊕ p.name

abbrev pub ret_value_text : RetValue → List ℕ
ret_value_text (gives e) = expr_text e
ret_value_text (hands b) = codes "own " ⊕ b

-- a `return` on a line of its own, where there is one
abbrev pub ret_text : List ℕ → Option Ret → List ℕ
ret_text margin None = []
ret_text margin (Some r) = margin ⊕ codes "return " ⊕ ret_value_text r.value ⊕ codes ";" ⊕ line_end

abbrev pub func_text : Func → List ℕ
func_text f =
    codes "fn " ⊕ f.name ⊕ codes "(" ⊕ with_commas (map param_text f.params) ⊕ codes ") "
    ⊕ braces [] (body_text (deeper []) f.body ⊕ ret_text (deeper []) f.ret) ⊕ line_end

-- Functions follow one another without empty lines.
abbrev pub canonical : Program → List ℕ
canonical p = flat_map func_text p
