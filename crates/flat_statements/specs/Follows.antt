-- Where flat code represents a thread, and that it follows the thread step by step.
use Rattle.std.specs.Prelude.{◌≡◌, ℕ, zero, suc, List, [], ◌∷◌, Option, Some, None}
use Rattle.thread_stack.specs.Passed.Table.{Kind, let_node, assign_node, put_node, alloc_node, free_node, if_node, while_node, call_node, print_node, both_node, split_node, Table}
use Rattle.thread_stack.specs.declared.frame.Frame.{Frame}
use Rattle.thread_stack.specs.declared.frame.Frame.TheVariants.{Statements, Again, Tree, Answers, Rejoins, AnswersMain, Allocates, Joins}
use Rattle.thread_stack.specs.declared.list_of.ListOf.{ListOf}
use Rattle.thread_stack.specs.Lists.{kind_at, numbers_from}
use Rattle.flat_expressions.specs.Meanings.{HasInFront}
use Rattle.flat_statements.specs.Flat.{jumps, leaves, FlatCode, frames_at, Point, Came, goes_to, meets, stops, flat_step, Runs}
use Rattle.flat_statements.specs.Threads.{Standing, thread_step}
use Rattle.flat_statements.specs.Codes.{Has, StatementCode, IsListCode, IsAgainCode, IsNodeCode}

-- so many jumps lead from a place to another; with all of them goes the same mark
abbrev pub Jumps : FlatCode → List Frame → ℕ → (place end : ℕ) → Type 0
Jumps f xs zero place end = place ≡ end
Jumps f xs (suc many) place end = (next : ℕ) × Has f place (jumps next) xs × Jumps f xs many next end

-- from a place there is code P, at once or after jumps
abbrev pub Reaches : FlatCode → List Frame → (ℕ → Type 0) → ℕ → Type 0
Reaches f xs P place = (many : ℕ) × (end : ℕ) × Jumps f xs many place end × P end

-- From a place on there is the code of what is left of a list, which is not empty, and then the code P of the frames xs.
abbrev pub IsRestCode : FlatCode → StatementCode → (ℕ → Type 0) → List ℕ → ListOf → ℕ → List Frame → ℕ → Type 0
IsRestCode f Q P [] list next xs place = ⊥
IsRestCode f Q P (n ∷ ns) list next xs place = (behind : ℕ) × IsListCode f Q (n ∷ ns) list next xs place behind × Reaches f xs P behind

-- Or the code of a loop that comes again.
abbrev pub IsLoopCode : FlatCode → (k size : ℕ) → StatementCode → (ℕ → Type 0) → ℕ → List Frame → ℕ → Option Kind → Type 0
IsLoopCode f k size Q P n xs place None = ⊥
IsLoopCode f k size Q P n xs place (Some (let_node s e)) = ⊥
IsLoopCode f k size Q P n xs place (Some (assign_node s e)) = ⊥
IsLoopCode f k size Q P n xs place (Some (put_node b i e)) = ⊥
IsLoopCode f k size Q P n xs place (Some (alloc_node s e)) = ⊥
IsLoopCode f k size Q P n xs place (Some (free_node s)) = ⊥
IsLoopCode f k size Q P n xs place (Some (if_node e a b)) = ⊥
IsLoopCode f k size Q P n xs place (Some (while_node e a)) =
    (body : ℕ) × (behind : ℕ) × IsAgainCode f k size Q n e a xs place body behind × Reaches f xs P behind
IsLoopCode f k size Q P n xs place (Some (call_node to func from)) = ⊥
IsLoopCode f k size Q P n xs place (Some (print_node e)) = ⊥
IsLoopCode f k size Q P n xs place (Some (both_node a b blocks assigned)) = ⊥
IsLoopCode f k size Q P n xs place (Some (split_node s e l r a)) = ⊥

abbrev pub IsFrameCode : Table → FlatCode → (k size : ℕ) → (ℕ → Type 0) → Frame → List Frame → ℕ → Type 0
IsFrameCode t f k size P (Statements list next) xs place =
    (depth : ℕ) × IsRestCode f (IsNodeCode t f k size depth) P (numbers_from t list next) list next xs place
IsFrameCode t f k size P (Again n) xs place = (depth : ℕ) × IsLoopCode f k size (IsNodeCode t f k size depth) P n xs place (kind_at t n)
IsFrameCode t f k size P (Tree shape) xs place = ⊥
IsFrameCode t f k size P (Answers n caller) xs place = ⊥
IsFrameCode t f k size P (Rejoins n) xs place = ⊥
IsFrameCode t f k size P AnswersMain xs place = ⊥
IsFrameCode t f k size P (Allocates slot len) xs place = ⊥
IsFrameCode t f k size P (Joins branch) xs place = ⊥

-- From a place on there is the code of all these frames, and then flat code ends.
abbrev pub IsCodeOf : Table → FlatCode → (k size : ℕ) → List Frame → ℕ → Type 0
IsCodeOf t f k size [] place = Has f place leaves []
IsCodeOf t f k size (x ∷ xs) place = IsFrameCode t f k size (IsCodeOf t f k size xs) x xs place

-- The machine represents a thread: from its place on there is the code of the thread's frames, the function's slots are in front of its
-- row, and it has as many turns.
pub record StandsFor (t : Table) (f : FlatCode) (k size : ℕ) (p : Point) (s : Standing) : Type 0 where
  pub code : Reaches f s.frames (IsCodeOf t f k size s.frames) p.place
  pub front : HasInFront k size p.row s.row
  pub turns : p.turns ≡ s.turns

-- It is before or within the statement that comes next to the thread: the mark of its place is the thread's frames.
pub record IsWithin (f : FlatCode) (k size : ℕ) (p : Point) (s : Standing) : Type 0 where
  pub mark : frames_at f p.place ≡ s.frames
  pub front : HasInFront k size p.row s.row
  pub turns : p.turns ≡ s.turns

-- steps of the machine, of which there is one at least, lead from p to q
pub record RunsOn (f : FlatCode) (p q : Point) : Type 0 where
  pub next : Point
  pub first : flat_step f p ≡ goes_to next
  pub rest : Runs f next q

-- What the machine does from p where one step of the thread s gives this: it represents the thread after the step; or it meets the
-- same fault, or stops, within the statement, so that the thread is as it was.
abbrev pub Follows : Table → FlatCode → (k size : ℕ) → Point → Standing → Came Standing → Type 0
Follows t f k size p s (goes_to after) = (q : Point) × RunsOn f p q × StandsFor t f k size q after
Follows t f k size p s (meets kind) = (q : Point) × Runs f p q × (flat_step f q ≡ meets kind) × IsWithin f k size q s
Follows t f k size p s stops = (q : Point) × Runs f p q × (flat_step f q ≡ stops) × IsWithin f k size q s

-- so many steps of a thread as lead from one standing to another
pub data Steps (t : Table) : Standing → Standing → Type 0 where
  stays : {s : Standing} → Steps t s s
  onward : {s u : Standing} → (v : Standing) → thread_step t s ≡ goes_to v → Steps t v u → Steps t s u

-- where the machine does not go on, this is what a thread's step gives that does not go on either
abbrev pub IsSameEnd : Came Point → Came Standing → Type 0
IsSameEnd (goes_to p) c = ⊥
IsSameEnd (meets kind) c = c ≡ meets kind
IsSameEnd stops c = c ≡ stops

-- A thread has come from s to where it does not go on, in the way in which the machine at q does not: the machine is within its statement.
pub record EndsWithin (t : Table) (f : FlatCode) (k size : ℕ) (q : Point) (s : Standing) : Type 0 where
  pub at : Standing
  pub way : Steps t s at
  pub within : IsWithin f k size q at
  pub same : IsSameEnd (flat_step f q) (thread_step t at)
