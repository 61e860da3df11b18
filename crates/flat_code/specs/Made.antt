-- The flat code of a node table: the places of a statement and of a list, by where they begin. So the places that jumps name are known by
-- the lengths of what is between.
use Rattle.std.specs.Prelude.{ℕ, zero, suc, ◌+◌, List, [], ◌∷◌, ◌++◌, length, Option, Some, None}
use Rattle.node_table.specs.Table.{Expr, Kind, let_node, assign_node, put_node, alloc_node, free_node, if_node, while_node, call_node, print_node}
use Rattle.node_table.specs.Table.{both_node, split_node, Table}
use Rattle.thread_stack.specs.declared.frame.Frame.{Frame}
use Rattle.thread_stack.specs.declared.frame.Frame.TheVariants.{Statements, Again}
use Rattle.thread_stack.specs.declared.list_of.ListOf.{ListOf}
use Rattle.thread_stack.specs.declared.list_of.ListOf.TheVariants.{Then, Other, Round}
use Rattle.thread_stack.specs.Lists.{kind_at, numbers_from}
use Rattle.flat_expressions.specs.Acts.{Act}
use Rattle.flat_expressions.specs.Codes.{code_of, put_code, before_test, test_of}
use Rattle.flat_statements.specs.Flat.{Flat, doing, unless, rounds, jumps, leaves}
use Rattle.flat_statements.specs.Threads.{rest_of}

-- what is at a place, and its mark
pub record Placed : Type 0 where
  pub what : Flat
  pub mark : List Frame

abbrev pub placed : Flat → List Frame → Placed
placed what mark = record { what = what; mark = mark }

-- the acts of one statement
abbrev pub acts_placed : List Frame → List Act → List Placed
acts_placed here [] = []
acts_placed here (a ∷ acts) = placed (doing a) here ∷ acts_placed here acts

-- a condition with its test, and how many places it has
abbrev pub tested : Expr → (k : ℕ) → List Frame → Flat → List Placed
tested e k here test = acts_placed here (before_test e k) ++ placed test here ∷ []

abbrev pub test_length : Expr → (k : ℕ) → ℕ
test_length e k = length (before_test e k) + 1

-- how the places of a statement are made: by its place, its node, and the frames before it and after it
abbrev pub Making : Type 0
Making = (place n : ℕ) → (here xs : List Frame) → List Placed

-- a list of statements, by how a statement is made
abbrev pub list_made : Making → List ℕ → ListOf → ℕ → List Frame → (place : ℕ) → List Placed
list_made M [] list next xs place = []
list_made M (n ∷ ns) list next xs place =
    M place n (Statements list next ∷ xs) (rest_of ns list (next + 1) xs)
    ++ list_made M ns list (next + 1) xs (place + length (M place n (Statements list next ∷ xs) (rest_of ns list (next + 1) xs)))

-- The end of the first arm of an `if`: it jumps over the other arm, if there is one. And how many places that takes.
abbrev pub arm_end : List ℕ → List Frame → (behind : ℕ) → List Placed
arm_end [] xs behind = []
arm_end (n ∷ ns) xs behind = placed (jumps behind) xs ∷ []

abbrev pub arm_end_length : List ℕ → ℕ
arm_end_length [] = 0
arm_end_length (n ∷ ns) = 1

-- the place of the other arm, by where the first one begins
abbrev pub other_at : (start : ℕ) → (first : List Placed) → (b : List ℕ) → ℕ
other_at start first b = start + length first + arm_end_length b

-- The arms of an `if`, of which the other one is at the place `other`. And the whole, with the test before them.
abbrev pub arms_of : (xs : List Frame) → (b : List ℕ) → (other : ℕ) → (first second : List Placed) → List Placed
arms_of xs b other first second = first ++ (arm_end b xs (other + length second) ++ second)

abbrev pub arms_made : Making → (n : ℕ) → (xs : List Frame) → (b : List ℕ) → (start : ℕ) → (first : List Placed) → List Placed
arms_made M n xs b start first = arms_of xs b (other_at start first b) first (list_made M b (Other n) 0 xs (other_at start first b))

abbrev pub if_from : Making → (n : ℕ) → Expr → (k : ℕ) → (here xs : List Frame) → (b : List ℕ) → (start : ℕ) → (first : List Placed) → List Placed
if_from M n e k here xs b start first =
    tested e k here (unless (test_of e k) (other_at start first b)) ++ arms_made M n xs b start first

abbrev pub if_made : Making → (place n : ℕ) → Expr → (k : ℕ) → (a b : List ℕ) → (here xs : List Frame) → List Placed
if_made M place n e k a b here xs =
    if_from M n e k here xs b (place + test_length e k) (list_made M a (Then n) 0 xs (place + test_length e k))

-- A loop: its test, its body, which is at the place `body`, and its test again.
abbrev pub loop_made : Expr → (k : ℕ) → (here again : List Frame) → (body : ℕ) → (inside : List Placed) → (behind : ℕ) → List Placed
loop_made e k here again body inside behind =
    tested e k here (rounds (test_of e k) body behind) ++ (inside ++ tested e k again (rounds (test_of e k) body behind))

abbrev pub loop_from : Expr → (k : ℕ) → (here again : List Frame) → (body : ℕ) → (inside : List Placed) → List Placed
loop_from e k here again body inside = loop_made e k here again body inside (body + length inside + test_length e k)

abbrev pub while_made : Making → (place n : ℕ) → Expr → (k : ℕ) → (a : List ℕ) → (here xs : List Frame) → List Placed
while_made M place n e k a here xs =
    loop_from e k here (Again n ∷ xs) (place + test_length e k) (list_made M a (Round n) 0 (Again n ∷ xs) (place + test_length e k))

-- a statement that the thread does by itself
abbrev pub left_alone : List Frame → List Placed
left_alone here = placed leaves here ∷ []

abbrev pub kind_made : (k : ℕ) → Making → (n : ℕ) → (here xs : List Frame) → (place : ℕ) → Option Kind → List Placed
kind_made k M n here xs place None = []
kind_made k M n here xs place (Some (let_node s e)) = acts_placed here (code_of e s k)
kind_made k M n here xs place (Some (assign_node s e)) = acts_placed here (code_of e s k)
kind_made k M n here xs place (Some (put_node b i e)) = acts_placed here (put_code b i e k)
kind_made k M n here xs place (Some (alloc_node s e)) = left_alone here
kind_made k M n here xs place (Some (free_node s)) = left_alone here
kind_made k M n here xs place (Some (if_node e a b)) = if_made M place n e k a b here xs
kind_made k M n here xs place (Some (while_node e a)) = while_made M place n e k a here xs
kind_made k M n here xs place (Some (call_node to func from)) = left_alone here
kind_made k M n here xs place (Some (print_node e)) = left_alone here
kind_made k M n here xs place (Some (both_node a b blocks assigned)) = left_alone here
kind_made k M n here xs place (Some (split_node s e l r a)) = left_alone here

-- nodes are nested so many deep at most
abbrev pub node_made : Table → (k : ℕ) → (depth : ℕ) → (place n : ℕ) → (here xs : List Frame) → List Placed
node_made t k zero place n here xs = []
node_made t k (suc depth) place n here xs = kind_made k (node_made t k depth) n here xs place (kind_at t n)

-- a whole list that a thread does not leave by itself
abbrev pub whole_made : Table → (k : ℕ) → (depth : ℕ) → ListOf → (place : ℕ) → List Placed
whole_made t k depth list place = list_made (node_made t k depth) (numbers_from t list 0) list 0 [] place ++ left_alone []

-- how many places the code of such a list has
abbrev pub code_length : Table → (k : ℕ) → ListOf → ℕ
code_length t k list = length (whole_made t k (length t.nodes) list 0)
