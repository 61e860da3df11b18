-- What a node table has, and what it is as plain data.
use Rattle.std.specs.Prelude.{ℕ, List}
use Rattle.node_table.specs.Table.{Table}
use Rattle.node_table.specs.Shown.{table_shown}
use Rattle.node_table.specs.declared.node.Node.{Node}
use Rattle.node_table.specs.declared.func_code.FuncCode.{FuncCode}
use Rattle.node_table.specs.declared.node_table.NodeTable.{NodeTable}

-- the nodes by number, the functions by number, and the number of `main`
abbrev pub nodes_of : NodeTable → List Node
nodes_of c = c.nodes.items

abbrev pub funcs_of : NodeTable → List FuncCode
funcs_of c = c.funcs.items

abbrev pub main_of : NodeTable → ℕ
main_of c = c.main

-- a whole table
abbrev pub code_shown : NodeTable → Table
code_shown c = table_shown (nodes_of c) (funcs_of c) (main_of c)
