-- What code of statements is: at which place each statement begins, which frames are left there, and where it goes on.
--
-- A list of statements ends at the place at which what is after the list begins. So a statement that is the last of its list goes on
-- there at once, and no frame of the list is left, as a thread has none. A loop has its test twice. A thread that meets a loop in a
-- list has the frame of the list, and one that meets it again after its body has the frame of the loop: these are two places, with
-- two marks, and both go on alike.
use Rattle.std.specs.Prelude.{◌≡◌, ℕ, zero, suc, ◌+◌, List, [], ◌∷◌, Option, Some, None, slice_get}
use Rattle.thread_stack.specs.Passed.Table.{Expr, Kind, let_node, assign_node, put_node, alloc_node, free_node, if_node, while_node, call_node, print_node, both_node, split_node, Table}
use Rattle.thread_stack.specs.declared.frame.Frame.{Frame}
use Rattle.thread_stack.specs.declared.frame.Frame.TheVariants.{Statements, Again}
use Rattle.thread_stack.specs.declared.list_of.ListOf.{ListOf}
use Rattle.thread_stack.specs.declared.list_of.ListOf.TheVariants.{Then, Other, Round}
use Rattle.thread_stack.specs.Lists.{kind_at, numbers_from}
use Rattle.flat_expressions.specs.Acts.{Act, Test}
use Rattle.flat_expressions.specs.Values.{set_by, put_by}
use Rattle.flat_expressions.specs.Meanings.{Do, AreTest}
use Rattle.flat_statements.specs.Flat.{Flat, doing, unless, rounds, jumps, leaves, FlatCode, frames_at}
use Rattle.flat_statements.specs.Threads.{rest_of}

-- this is at a place, and its mark is these frames
pub record Has (f : FlatCode) (place : ℕ) (what : Flat) (here : List Frame) : Type 0 where
  pub is : slice_get f.places place ≡ Some what
  pub mark : frames_at f place ≡ here

-- these acts of one statement are from a place on, and after the last one is the place `behind`
abbrev pub HasActs : FlatCode → (here : List Frame) → ℕ → List Act → (behind : ℕ) → Type 0
HasActs f here place [] behind = place ≡ behind
HasActs f here place (a ∷ rest) behind = Has f place (doing a) here × HasActs f here (suc place) rest behind

-- acts, of which there is one at least
abbrev pub HasAct : List Act → Type 0
HasAct [] = ⊥
HasAct (a ∷ rest) = Unit {0}

-- In a function with k slots, in a row of `size` slots. An assignment of the slot s, and a write to the block of the slot b.
pub record IsSetCode (f : FlatCode) (k size : ℕ) (s : ℕ) (e : Expr) (here : List Frame) (place behind : ℕ) : Type 0 where
  pub code : List Act
  pub some : HasAct code
  pub there : HasActs f here place code behind
  pub does : Do k size (set_by s e) code

pub record IsPutCode (f : FlatCode) (k size : ℕ) (b : ℕ) (i e : Expr) (here : List Frame) (place behind : ℕ) : Type 0 where
  pub code : List Act
  pub some : HasAct code
  pub there : HasActs f here place code behind
  pub does : Do k size (put_by b i e) code

-- a condition, whose test is at the place `at` after its acts
pub record IsTestCode (f : FlatCode) (k size : ℕ) (e : Expr) (test : Test) (here : List Frame) (place at : ℕ) : Type 0 where
  pub code : List Act
  pub there : HasActs f here place code at
  pub tests : AreTest k size e code test

-- the test of a loop, from which its body or what is after it comes next
pub record IsRoundCode (f : FlatCode) (k size : ℕ) (e : Expr) (here : List Frame) (place body behind : ℕ) : Type 0 where
  pub test : Test
  pub at : ℕ
  pub before : IsTestCode f k size e test here place at
  pub jumps_by : Has f at (rounds test body behind) here

-- what the code of a statement is: by its place, its node, the frames before it and after it, and the place at which it goes on
abbrev pub StatementCode : Type 1
StatementCode = (place n : ℕ) → (here xs : List Frame) → (behind : ℕ) → Type 0

-- a list of statements, by what the code of a statement is
abbrev pub IsListCode : FlatCode → StatementCode → List ℕ → ListOf → ℕ → List Frame → (place behind : ℕ) → Type 0
IsListCode f P [] list next xs place behind = place ≡ behind
IsListCode f P (n ∷ ns) list next xs place behind =
    (frames_at f place ≡ Statements list next ∷ xs)
    × ((then_at : ℕ) × P place n (Statements list next ∷ xs) (rest_of ns list (next + 1) xs) then_at
    × IsListCode f P ns list (next + 1) xs then_at behind)

-- the end of the first arm of an `if`: it jumps over the other arm, if there is one
abbrev pub IsArmEnd : FlatCode → List Frame → List ℕ → (place behind : ℕ) → Type 0
IsArmEnd f xs [] place behind = place ≡ behind
IsArmEnd f xs (n ∷ ns) place behind = Has f place (jumps behind) xs

pub record IsIfCode (f : FlatCode) (k size : ℕ) (P : StatementCode) (n : ℕ) (e : Expr) (a b : List ℕ) (here xs : List Frame)
    (place behind : ℕ) : Type 0 where
  pub test : Test
  pub at : ℕ
  pub other : ℕ
  pub arm_end : ℕ
  pub before : IsTestCode f k size e test here place at
  pub jumps_by : Has f at (unless test other) here
  pub first : IsListCode f P a (Then n) 0 xs (suc at) arm_end
  pub over : IsArmEnd f xs b arm_end behind
  pub second : IsListCode f P b (Other n) 0 xs other behind

-- the second test of a loop, after its body
pub record IsAgainCode (f : FlatCode) (k size : ℕ) (P : StatementCode) (n : ℕ) (e : Expr) (a : List ℕ) (xs : List Frame)
    (place body behind : ℕ) : Type 0 where
  pub mark : frames_at f place ≡ Again n ∷ xs
  pub test : IsRoundCode f k size e (Again n ∷ xs) place body behind
  pub round : IsListCode f P a (Round n) 0 (Again n ∷ xs) body place

pub record IsWhileCode (f : FlatCode) (k size : ℕ) (P : StatementCode) (n : ℕ) (e : Expr) (a : List ℕ) (here xs : List Frame)
    (place behind : ℕ) : Type 0 where
  pub body : ℕ
  pub again_at : ℕ
  pub test : IsRoundCode f k size e here place body behind
  pub again : IsAgainCode f k size P n e a xs again_at body behind

-- The kinds of statements that a thread does by itself, since they act, call, print or split; and the code of such a statement.
abbrev pub IsByItself : Option Kind → Type 0
IsByItself None = ⊥
IsByItself (Some (let_node s e)) = ⊥
IsByItself (Some (assign_node s e)) = ⊥
IsByItself (Some (put_node b i e)) = ⊥
IsByItself (Some (alloc_node s e)) = Unit {0}
IsByItself (Some (free_node s)) = Unit {0}
IsByItself (Some (if_node e a b)) = ⊥
IsByItself (Some (while_node e a)) = ⊥
IsByItself (Some (call_node to func from)) = Unit {0}
IsByItself (Some (print_node e)) = Unit {0}
IsByItself (Some (both_node a b blocks assigned)) = Unit {0}
IsByItself (Some (split_node s e l r a)) = Unit {0}

pub record IsLeft (f : FlatCode) (here : List Frame) (place behind : ℕ) : Type 0 where
  pub there : Has f place leaves here
  pub next : behind ≡ suc place

-- The statement of the node n, with the frames `here` before it and xs after it, from a place on. It goes on at the place `behind`.
abbrev pub IsKindCode : FlatCode → (k size : ℕ) → StatementCode → ℕ → (here xs : List Frame) → (place behind : ℕ)
    → Option Kind → Type 0
IsKindCode f k size P n here xs place behind None = ⊥
IsKindCode f k size P n here xs place behind (Some (let_node s e)) = IsSetCode f k size s e here place behind
IsKindCode f k size P n here xs place behind (Some (assign_node s e)) = IsSetCode f k size s e here place behind
IsKindCode f k size P n here xs place behind (Some (put_node b i e)) = IsPutCode f k size b i e here place behind
IsKindCode f k size P n here xs place behind (Some (alloc_node s e)) = IsLeft f here place behind
IsKindCode f k size P n here xs place behind (Some (free_node s)) = IsLeft f here place behind
IsKindCode f k size P n here xs place behind (Some (if_node e a b)) = IsIfCode f k size P n e a b here xs place behind
IsKindCode f k size P n here xs place behind (Some (while_node e a)) = IsWhileCode f k size P n e a here xs place behind
IsKindCode f k size P n here xs place behind (Some (call_node to func from)) = IsLeft f here place behind
IsKindCode f k size P n here xs place behind (Some (print_node e)) = IsLeft f here place behind
IsKindCode f k size P n here xs place behind (Some (both_node a b blocks assigned)) = IsLeft f here place behind
IsKindCode f k size P n here xs place behind (Some (split_node s e l r a)) = IsLeft f here place behind

-- nodes are nested so many deep at most
abbrev pub IsNodeCode : Table → FlatCode → (k size : ℕ) → (depth : ℕ) → (place n : ℕ) → (here xs : List Frame) → (behind : ℕ) → Type 0
IsNodeCode t f k size zero place n here xs behind = ⊥
IsNodeCode t f k size (suc depth) place n here xs behind =
    IsKindCode f k size (IsNodeCode t f k size depth) n here xs place behind (kind_at t n)

-- a whole list that a thread does not leave by itself, as the body of a function or a branch of a `par`: no frame is after it
pub record IsWholeCode (t : Table) (f : FlatCode) (k size : ℕ) (list : ListOf) (place : ℕ) : Type 0 where
  pub depth : ℕ
  pub behind : ℕ
  pub code : IsListCode f (IsNodeCode t f k size depth) (numbers_from t list 0) list 0 [] place behind
  pub end : Has f behind leaves []
