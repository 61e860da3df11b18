-- The lists of statements of a node table, by where they stand.
use Rattle.std.specs.Prelude.{ℕ, List, [], Option, Some, None, slice_get, drop}
use Rattle.node_table.specs.Table.{Kind, if_node, while_node, both_node, split_node, Node, Function, Table}
use Rattle.node_table.specs.Shown.{kind_shown}
use Rattle.node_table.specs.declared.node_kind.NodeKind.{NodeKind}
use Rattle.thread_stack.specs.declared.list_of.ListOf.{ListOf}
use Rattle.thread_stack.specs.declared.list_of.ListOf.TheVariants.{Body, Then, Other, Round, Left, Right, Inside}

-- what a node does, where there is one of this number
abbrev pub kind_of_node : Option Node → Option Kind
kind_of_node None = None
kind_of_node (Some node) = Some node.kind

abbrev pub kind_at : Table → ℕ → Option Kind
kind_at t n = kind_of_node (slice_get t.nodes n)

abbrev pub body_of : Option Function → List ℕ
body_of None = []
body_of (Some f) = f.body

-- the arms of an `if`; the body of a loop; the branches of a `par`; the body of a `split`
abbrev pub then_of : Option Kind → List ℕ
then_of (Some (if_node c a b)) = a
then_of other = []

abbrev pub other_of : Option Kind → List ℕ
other_of (Some (if_node c a b)) = b
other_of other = []

abbrev pub round_of : Option Kind → List ℕ
round_of (Some (while_node c a)) = a
round_of other = []

abbrev pub left_of : Option Kind → List ℕ
left_of (Some (both_node a b blocks assigned)) = a
left_of other = []

abbrev pub right_of : Option Kind → List ℕ
right_of (Some (both_node a b blocks assigned)) = b
right_of other = []

abbrev pub inside_of : Option Kind → List ℕ
inside_of (Some (split_node s c m n a)) = a
inside_of other = []

-- the numbers of the statements of a list
abbrev pub numbers_of : Table → ListOf → List ℕ
numbers_of t (Body f) = body_of (slice_get t.funcs f)
numbers_of t (Then n) = then_of (kind_at t n)
numbers_of t (Other n) = other_of (kind_at t n)
numbers_of t (Round n) = round_of (kind_at t n)
numbers_of t (Left n) = left_of (kind_at t n)
numbers_of t (Right n) = right_of (kind_at t n)
numbers_of t (Inside n) = inside_of (kind_at t n)

-- those from a place on
abbrev pub numbers_from : Table → ListOf → ℕ → List ℕ
numbers_from t list next = drop next (numbers_of t list)

-- what a node that is looked at does, or none
abbrev pub kinds_shown : Option NodeKind → Option Kind
kinds_shown None = None
kinds_shown (Some kind) = Some (kind_shown kind)
