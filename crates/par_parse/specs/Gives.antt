-- What a reading function of the code returns, against reading by the grammar.
use Rattle.std.specs.Prelude.{◌≡◌, ℕ, List, map, Option, Some, None, Result, Ok, Err}
use Rattle.par_tree.specs.declared.expr.Expr.{Expr as RustExpr}
use Rattle.par_tree.specs.Tree.{Name, ChainOp, Expr, Stmt, Func}
use Rattle.par_tree.specs.declared.func.Func.{Func as RustFunc}
use Rattle.par_tree.specs.View.{func_tree, name_tree, chain_op_tree, expr_tree, stmt_tree}
use Rattle.par_tree.specs.declared.name.Name.{Name as RustName}
use Rattle.par_tree.specs.declared.stmt.Stmt.{Stmt as RustStmt}
use Rattle.par_tree.specs.declared.link.Link.{Link}
use Rattle.par_text.specs.Rule.{Token, expression, factor, statements}
use Rattle.par_text.specs.Grammar.{expr_rule, factor_rule, stmts_rule}
use Rattle.par_text.specs.Parsing.{read, read_inner}
use Rattle.par_text.specs.declared.stop.Stop.{Stop}
use Rattle.par_parse.specs.declared.parse_error.ParseError.{ParseError}
use Rattle.par_parse.specs.declared.parse_error.ParseError.TheVariants.{Memory, Stopped}

abbrev pub Fails : {Y : Type 0} → ParseError → Result Y (Stop × ℕ) → Type 0
Fails Memory read = Unit {0}
Fails (Stopped stop left) read = read ≡ Err (stop, left)

-- what a function returned, seen by view, is what reading gives, unless memory ran out
abbrev pub Gives : {X Y : Type 0} → (X → Y) → Result X ParseError → Result Y (Stop × ℕ) → Type 0
Gives view (Ok x) read = read ≡ Ok (view x)
Gives view (Err e) read = Fails e read

-- an operator and the operand on its right
abbrev pub link_pair : Link → ChainOp × Expr
link_pair l = (chain_op_tree l.op, expr_tree l.operand)

abbrev pub option_expr : Option RustExpr → Option Expr
option_expr None = None
option_expr (Some e) = Some (expr_tree e)

-- inside a construct the nonterminals are read with this room
pub record Inside (outer inner : ℕ) (ts : List Token) : Type 0 where
  pub an_expression : read_inner outer expression ts ≡ read inner expr_rule ts
  pub a_factor : read_inner outer factor ts ≡ read inner factor_rule ts
  pub a_list : read_inner outer statements ts ≡ read inner stmts_rule ts

abbrev pub option_name : Option RustName → Option Name
option_name None = None
option_name (Some x) = Some (name_tree x)

-- a statement and its line
abbrev pub line_and_tree : RustStmt → ℕ × Stmt
line_and_tree s = (s.line, stmt_tree s.kind)

abbrev pub func_trees : List RustFunc → List Func
func_trees fs = map func_tree fs
