-- What the values of a node table are as plain data.
use Rattle.std.specs.Prelude.{ℕ, List, [], ◌∷◌, map, Option, Some, None}
use Rattle.par_tree.specs.View.{chain_op_tree, cmp_op_tree}
use Rattle.node_table.specs.Table
use Rattle.node_table.specs.declared.code_expr.CodeExpr.{CodeExpr, Num, Var, Get', Len, Neg', Chain', Cmp', Row_of-CodeLink, end_of-CodeLink, more_of-CodeLink}
use Rattle.node_table.specs.declared.code_link.CodeLink.{CodeLink}
use Rattle.node_table.specs.declared.code_target.CodeTarget.{CodeTarget}
use Rattle.node_table.specs.declared.code_target.CodeTarget.TheVariants as targets
use Rattle.node_table.specs.declared.code_arg.CodeArg.{CodeArg}
use Rattle.node_table.specs.declared.code_arg.CodeArg.TheVariants as args
use Rattle.node_table.specs.declared.code_ret_value.CodeRetValue.{CodeRetValue}
use Rattle.node_table.specs.declared.code_ret_value.CodeRetValue.TheVariants as ret_values
use Rattle.node_table.specs.declared.code_ret.CodeRet.{CodeRet}
use Rattle.node_table.specs.declared.node_kind.NodeKind.{NodeKind}
use Rattle.node_table.specs.declared.node_kind.NodeKind.TheVariants as k
use Rattle.node_table.specs.declared.node.Node.{Node}
use Rattle.node_table.specs.declared.func_code.FuncCode.{FuncCode}

-- an expression, and the links of a chain
abbrev mutual
  pub expr_shown : CodeExpr → Table.Expr
  expr_shown (Num n) = Table.num n
  expr_shown (Var s) = Table.var s
  expr_shown (Get' s p i) = Table.get s (expr_shown i)
  expr_shown (Len s) = Table.len_of s
  expr_shown (Neg' p e) = Table.neg (expr_shown e)
  expr_shown (Chain' p e shape rest) = Table.chain (expr_shown e) (row_shown rest)
  expr_shown (Cmp' op p l q r) = Table.cmp (cmp_op_tree op) (expr_shown l) (expr_shown r)

  pub row_shown : {n : _} → Row_of-CodeLink n → Table.Links
  row_shown end_of-CodeLink = Table.last
  row_shown (more_of-CodeLink op e rest) = Table.link (chain_op_tree op) (expr_shown e) (row_shown rest)

-- the links in a list
abbrev pub links_shown : List CodeLink → Table.Links
links_shown [] = Table.last
links_shown (l ∷ ls) = Table.link (chain_op_tree l.op) (expr_shown l.operand) (links_shown ls)

abbrev pub target_shown : CodeTarget → Table.Target
target_shown targets.Unused = Table.unused
target_shown (targets.Int s) = Table.integer s
target_shown (targets.Own s) = Table.block s

abbrev pub arg_shown : CodeArg → Table.Arg
arg_shown (args.Value e) = Table.value (expr_shown e)
arg_shown (args.Lend s) = Table.lend s
arg_shown (args.Give s) = Table.give s

abbrev pub args_shown : List CodeArg → List Table.Arg
args_shown as_ = map arg_shown as_

abbrev pub ret_value_shown : CodeRetValue → Table.RetValue
ret_value_shown (ret_values.Int e) = Table.gives (expr_shown e)
ret_value_shown (ret_values.Own s) = Table.hands s

abbrev pub ret_shown : Option CodeRet → Option Table.Ret
ret_shown None = None
ret_shown (Some r) = Some record { line = r.line; value = ret_value_shown r.value }

abbrev pub kind_shown : NodeKind → Table.Kind
kind_shown (k.Let s c) = Table.let_node s (expr_shown c)
kind_shown (k.Assign s c) = Table.assign_node s (expr_shown c)
kind_shown (k.Put s c d) = Table.put_node s (expr_shown c) (expr_shown d)
kind_shown (k.Alloc s c) = Table.alloc_node s (expr_shown c)
kind_shown (k.Free s) = Table.free_node s
kind_shown (k.If c a b) = Table.if_node (expr_shown c) a.items b.items
kind_shown (k.While c a) = Table.while_node (expr_shown c) a.items
kind_shown (k.Call t f cs) = Table.call_node (target_shown t) f (args_shown cs.items)
kind_shown (k.Print c) = Table.print_node (expr_shown c)
kind_shown (k.Both a b xs ys) = Table.both_node a.items b.items xs.items ys.items
kind_shown (k.Split s c m n a) = Table.split_node s (expr_shown c) m n a.items

abbrev pub node_shown : Node → Table.Node
node_shown n = record { line = n.line; kind = kind_shown n.kind }

abbrev pub func_shown : FuncCode → Table.Function
func_shown f = record { slots = f.slots; params = f.params.items; body = f.body.items; ret = ret_shown f.ret }

abbrev pub nodes_shown : List Node → List Table.Node
nodes_shown ns = map node_shown ns

abbrev pub funcs_shown : List FuncCode → List Table.Function
funcs_shown fs = map func_shown fs

-- the table of these nodes and functions, with the number of `main`
abbrev pub table_shown : List Node → List FuncCode → ℕ → Table.Table
table_shown nodes funcs main = record { nodes = nodes_shown nodes; funcs = funcs_shown funcs; main = main }
