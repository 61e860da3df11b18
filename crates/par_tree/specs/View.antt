-- The tree that a value of the Rust types is.
use Rattle.std.specs.Prelude.{List, [], ◌∷◌, map, Option, Some, None}
use Rattle.par_tree.specs.Tree
use Rattle.par_tree.specs.declared.name.Name.{Name}
use Rattle.par_tree.specs.declared.chain_op.ChainOp.{ChainOp}
use Rattle.par_tree.specs.declared.chain_op.ChainOp.TheVariants as chain_ops
use Rattle.par_tree.specs.declared.cmp_op.CmpOp.{CmpOp}
use Rattle.par_tree.specs.declared.cmp_op.CmpOp.TheVariants as cmp_ops
use Rattle.par_tree.specs.declared.expr.Expr.{Expr, Num, Var, Get', Len, Neg', Chain', Cmp', Row_of-Link, end_of-Link, more_of-Link}
use Rattle.par_tree.specs.declared.link.Link.{Link}
use Rattle.par_tree.specs.declared.target.Target.{Target}
use Rattle.par_tree.specs.declared.target.Target.TheVariants as targets
use Rattle.par_tree.specs.declared.arg.Arg.{Arg}
use Rattle.par_tree.specs.declared.arg.Arg.TheVariants as args
use Rattle.par_tree.specs.declared.stmt_kind.StmtKind.{StmtKind, Let, Assign, Put, Alloc, Free, If', While', Call, Print, Par', Split', Row_of-Stmt, end_of-Stmt, more_of-Stmt}
use Rattle.par_tree.specs.declared.stmt.Stmt.{Stmt}
use Rattle.par_tree.specs.declared.param.Param.{Param}
use Rattle.par_tree.specs.declared.param.ParamKind.{ParamKind}
use Rattle.par_tree.specs.declared.param.ParamKind.TheVariants as param_kinds
use Rattle.par_tree.specs.declared.ret_value.RetValue.{RetValue}
use Rattle.par_tree.specs.declared.ret_value.RetValue.TheVariants as ret_values
use Rattle.par_tree.specs.declared.ret.Ret.{Ret}
use Rattle.par_tree.specs.declared.func.Func.{Func}
use Rattle.par_tree.specs.declared.program.Program.{Program}

abbrev pub name_tree : Name → Tree.Name
name_tree n = n.bytes.items

abbrev pub chain_op_tree : ChainOp → Tree.ChainOp
chain_op_tree chain_ops.Add = Tree.plus
chain_op_tree chain_ops.Sub = Tree.minus
chain_op_tree chain_ops.Mul = Tree.times
chain_op_tree chain_ops.Div = Tree.over
chain_op_tree chain_ops.Rem = Tree.modulo

abbrev pub cmp_op_tree : CmpOp → Tree.Comparison
cmp_op_tree cmp_ops.Eq = Tree.equal
cmp_op_tree cmp_ops.Ne = Tree.unequal
cmp_op_tree cmp_ops.Lt = Tree.below
cmp_op_tree cmp_ops.Le = Tree.at_most
cmp_op_tree cmp_ops.Gt = Tree.above
cmp_op_tree cmp_ops.Ge = Tree.at_least

-- an expression, and the links of a chain
abbrev mutual
  pub expr_tree : Expr → Tree.Expr
  expr_tree (Num n) = Tree.num n
  expr_tree (Var x) = Tree.var (name_tree x)
  expr_tree (Get' b p i) = Tree.get (name_tree b) (expr_tree i)
  expr_tree (Len b) = Tree.len_of (name_tree b)
  expr_tree (Neg' p e) = Tree.neg (expr_tree e)
  expr_tree (Chain' p e shape rest) = Tree.chain (expr_tree e) (row_links rest)
  expr_tree (Cmp' op p l q r) = Tree.cmp (cmp_op_tree op) (expr_tree l) (expr_tree r)

  pub row_links : {n : _} → Row_of-Link n → Tree.Links
  row_links end_of-Link = Tree.last
  row_links (more_of-Link op e rest) = Tree.link (chain_op_tree op) (expr_tree e) (row_links rest)

-- the links in a list
abbrev pub links_tree : List Link → Tree.Links
links_tree [] = Tree.last
links_tree (l ∷ ls) = Tree.link (chain_op_tree l.op) (expr_tree l.operand) (links_tree ls)

abbrev pub target_tree : Target → Tree.Target
target_tree targets.Unused = Tree.unused
target_tree (targets.Int x) = Tree.integer (name_tree x)
target_tree (targets.Own x) = Tree.block (name_tree x)

abbrev pub arg_tree : Arg → Tree.Arg
arg_tree (args.Value e) = Tree.value (expr_tree e)
arg_tree (args.Lend b) = Tree.lend (name_tree b)
arg_tree (args.Give b) = Tree.give (name_tree b)

abbrev pub args_tree : List Arg → List Tree.Arg
args_tree xs = map arg_tree xs

-- a statement, and a list of statements
abbrev mutual
  pub stmt_tree : StmtKind → Tree.Stmt
  stmt_tree (Let x e) = Tree.let_stmt (name_tree x) (expr_tree e)
  stmt_tree (Assign x e) = Tree.assign_stmt (name_tree x) (expr_tree e)
  stmt_tree (Put b i e) = Tree.put_stmt (name_tree b) (expr_tree i) (expr_tree e)
  stmt_tree (Alloc b e) = Tree.alloc_stmt (name_tree b) (expr_tree e)
  stmt_tree (Free b) = Tree.free_stmt (name_tree b)
  stmt_tree (If' e p a q b) = Tree.if_stmt (expr_tree e) (row_body a) (row_body b)
  stmt_tree (While' e p a) = Tree.while_stmt (expr_tree e) (row_body a)
  stmt_tree (Call t f xs) = Tree.call_stmt (target_tree t) (name_tree f) (args_tree xs.items)
  stmt_tree (Print e) = Tree.print_stmt (expr_tree e)
  stmt_tree (Par' p a q b) = Tree.par_stmt (row_body a) (row_body b)
  stmt_tree (Split' b e l r p a) = Tree.split_stmt (name_tree b) (expr_tree e) (name_tree l) (name_tree r) (row_body a)

  pub row_body : {n : _} → Row_of-Stmt n → Tree.Body
  row_body end_of-Stmt = Tree.done
  row_body (more_of-Stmt line s rest) = Tree.step line (stmt_tree s) (row_body rest)

-- the statements in a list
abbrev pub body_tree : List Stmt → Tree.Body
body_tree [] = Tree.done
body_tree (s ∷ ss) = Tree.step s.line (stmt_tree s.kind) (body_tree ss)

abbrev pub param_kind_tree : ParamKind → Tree.ParamKind
param_kind_tree param_kinds.Int = Tree.by_value
param_kind_tree param_kinds.Lent = Tree.lent
param_kind_tree param_kinds.Owned = Tree.owned

abbrev pub param_tree : Param → Tree.Param
param_tree p = record { name = name_tree p.name; kind = param_kind_tree p.kind }

abbrev pub params_tree : List Param → List Tree.Param
params_tree ps = map param_tree ps

abbrev pub ret_value_tree : RetValue → Tree.RetValue
ret_value_tree (ret_values.Int e) = Tree.gives (expr_tree e)
ret_value_tree (ret_values.Own b) = Tree.hands (name_tree b)

abbrev pub ret_tree : Option Ret → Option Tree.Ret
ret_tree None = None
ret_tree (Some r) = Some record { line = r.line; value = ret_value_tree r.value }

abbrev pub func_tree : Func → Tree.Func
func_tree f = record {
  name = name_tree f.name;
  params = params_tree f.params.items;
  body = body_tree f.body.items;
  ret = ret_tree f.ret;
  line = f.line;
}

abbrev pub program_tree : Program → Tree.Program
program_tree p = map func_tree p.funcs.items
