-- Which statements have flat code in a function with k slots, in a row of `size` slots: those whose slots are of the function, whose
-- expressions find the temporary slots that they need, and which are nested so many deep at most.
use Rattle.std.specs.Prelude.{ℕ, zero, suc, ◌<◌, ◌≤◌, List, [], ◌∷◌, length, Option, Some, None}
use Rattle.node_table.specs.Table.{Expr, Kind, let_node, assign_node, put_node, alloc_node, free_node, if_node, while_node, call_node, print_node}
use Rattle.node_table.specs.Table.{both_node, split_node, Table}
use Rattle.node_table.specs.Reading.{FitsExpr}
use Rattle.thread_stack.specs.declared.list_of.ListOf.{ListOf}
use Rattle.thread_stack.specs.Lists.{kind_at, numbers_from}
use Rattle.flat_expressions.specs.Codes.{HasRoom}

abbrev pub FitsSet : (k size : ℕ) → ℕ → Expr → Type 0
FitsSet k size s e = (s < k) × FitsExpr k e × HasRoom size e k

abbrev pub FitsPut : (k size : ℕ) → ℕ → Expr → Expr → Type 0
FitsPut k size b i e = (suc k < size) × (b < k) × FitsExpr k i × HasRoom size i k × FitsExpr k e × HasRoom size e (suc k)

abbrev pub FitsTest : (k size : ℕ) → Expr → Type 0
FitsTest k size e = (k < size) × FitsExpr k e × HasRoom size e k

-- each of the nodes of these numbers
abbrev pub AllFit : (ℕ → Type 0) → List ℕ → Type 0
AllFit F [] = Unit {0}
AllFit F (n ∷ ns) = F n × AllFit F ns

abbrev pub FitsKind : (k size : ℕ) → (ℕ → Type 0) → Option Kind → Type 0
FitsKind k size F None = ⊥
FitsKind k size F (Some (let_node s e)) = FitsSet k size s e
FitsKind k size F (Some (assign_node s e)) = FitsSet k size s e
FitsKind k size F (Some (put_node b i e)) = FitsPut k size b i e
FitsKind k size F (Some (alloc_node s e)) = Unit {0}
FitsKind k size F (Some (free_node s)) = Unit {0}
FitsKind k size F (Some (if_node e a b)) = FitsTest k size e × AllFit F a × AllFit F b
FitsKind k size F (Some (while_node e a)) = FitsTest k size e × AllFit F a
FitsKind k size F (Some (call_node to func from)) = Unit {0}
FitsKind k size F (Some (print_node e)) = Unit {0}
FitsKind k size F (Some (both_node a b blocks assigned)) = Unit {0}
FitsKind k size F (Some (split_node s e l r a)) = Unit {0}

abbrev pub FitsNode : Table → (k size : ℕ) → (depth : ℕ) → ℕ → Type 0
FitsNode t k size zero n = ⊥
FitsNode t k size (suc depth) n = FitsKind k size (FitsNode t k size depth) (kind_at t n)

-- a row of `size` slots has those of the function, and all statements of a list have code
abbrev pub FitsList : Table → (k size : ℕ) → (depth : ℕ) → ListOf → Type 0
FitsList t k size depth list = (k ≤ size) × AllFit (FitsNode t k size depth) (numbers_from t list 0)

-- A node is inside nodes of less numbers, so as many nodes as there are at most are nested in one another.
abbrev pub CanBeFlat : Table → (k size : ℕ) → ListOf → Type 0
CanBeFlat t k size list = FitsList t k size (length t.nodes) list

-- a row of `size` slots has room, after the k slots of the function, for the intermediate numbers of a node
abbrev pub KindHasRoom : (k size : ℕ) → Option Kind → Type 0
KindHasRoom k size None = Unit {0}
KindHasRoom k size (Some (let_node s e)) = HasRoom size e k
KindHasRoom k size (Some (assign_node s e)) = HasRoom size e k
KindHasRoom k size (Some (put_node b i e)) = (suc k < size) × HasRoom size i k × HasRoom size e (suc k)
KindHasRoom k size (Some (alloc_node s e)) = Unit {0}
KindHasRoom k size (Some (free_node s)) = Unit {0}
KindHasRoom k size (Some (if_node e a b)) = (k < size) × HasRoom size e k
KindHasRoom k size (Some (while_node e a)) = (k < size) × HasRoom size e k
KindHasRoom k size (Some (call_node to func from)) = Unit {0}
KindHasRoom k size (Some (print_node e)) = Unit {0}
KindHasRoom k size (Some (both_node a b blocks assigned)) = Unit {0}
KindHasRoom k size (Some (split_node s e l r a)) = Unit {0}
