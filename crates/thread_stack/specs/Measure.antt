-- How much is left to a thread that goes on without an action, at most: a number that each silent step lowers. It serves the proof
-- that a thread comes to its next action, and nothing runs it.
use Rattle.std.specs.Prelude.{ℕ, zero, suc, ◌+◌, ◌-◌, ◌*◌, List, [], ◌∷◌, length, Option, Some, None}
use Rattle.node_table.specs.Table.{Kind, let_node, assign_node, put_node, alloc_node, free_node, if_node, while_node, call_node, print_node, both_node, split_node, Function, Table}
use Rattle.thread_stack.specs.declared.frame.Frame.{Frame}
use Rattle.thread_stack.specs.declared.frame.Frame.TheVariants.{Statements, Again, Tree, Answers, Rejoins, AnswersMain, Allocates, Joins}
use Rattle.thread_stack.specs.Lists.{kind_at, numbers_from}

-- lists, by what a statement counts
abbrev pub list_cost : (ℕ → ℕ) → List ℕ → ℕ
list_cost cost [] = 1
list_cost cost (n ∷ ns) = cost n + list_cost cost ns

-- a statement, by what those inside it count; the frames that it puts count besides
abbrev pub kind_cost : (ℕ → ℕ) → Option Kind → ℕ
kind_cost cost None = 0
kind_cost cost (Some (let_node s c)) = 0
kind_cost cost (Some (assign_node s c)) = 0
kind_cost cost (Some (put_node s c d)) = 0
kind_cost cost (Some (alloc_node s c)) = 2
kind_cost cost (Some (free_node s)) = 0
kind_cost cost (Some (if_node c a b)) = list_cost cost a + list_cost cost b
kind_cost cost (Some (while_node c a)) = list_cost cost a
kind_cost cost (Some (call_node to f from)) = 0
kind_cost cost (Some (print_node c)) = 0
kind_cost cost (Some (both_node a b blocks assigned)) = 0
kind_cost cost (Some (split_node s c m n a)) = 1 + list_cost cost a

-- a statement, where the nodes inside a node have greater numbers, so that so many of them at most stand in one another
unfoldable pub cost_within : Table → ℕ → ℕ → ℕ
cost_within t zero n = 2
cost_within t (suc depth) n = 2 + kind_cost (cost_within t depth) (kind_at t n)

abbrev pub node_cost : Table → ℕ → ℕ
node_cost t n = cost_within t (length t.nodes - n) n

-- the statements of the first n nodes, and of the bodies of functions
abbrev pub nodes_cost : Table → ℕ → ℕ
nodes_cost t zero = 0
nodes_cost t (suc n) = node_cost t n + nodes_cost t n

abbrev pub bodies_cost : Table → List Function → ℕ
bodies_cost t [] = 0
bodies_cost t (f ∷ fs) = list_cost (node_cost t) f.body + bodies_cost t fs

-- a loop round or a call may bring the loop again, or a whole body
abbrev pub turn_cost : Table → ℕ
turn_cost t = 4 + (nodes_cost t (length t.nodes) + bodies_cost t t.funcs)

abbrev pub frame_cost : Table → Frame → ℕ
frame_cost t (Statements list next) = list_cost (node_cost t) (numbers_from t list next)
frame_cost t (Again n) = 1 + node_cost t n
frame_cost t (Tree shape) = 1
frame_cost t (Answers n caller) = 1
frame_cost t (Rejoins n) = 1
frame_cost t AnswersMain = 1
frame_cost t (Allocates slot len) = 1
frame_cost t (Joins branch) = 1

abbrev pub frames_cost : Table → List Frame → ℕ
frames_cost t [] = 0
frames_cost t (x ∷ xs) = frame_cost t x + frames_cost t xs

-- what is left to a thread with so many turns
abbrev pub left_to_do : Table → (turns : ℕ) → List Frame → ℕ
left_to_do t turns xs = turns * turn_cost t + frames_cost t xs
