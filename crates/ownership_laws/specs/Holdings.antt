-- How often a name is given a block, and what stands where a call or a `split` ends.
use Rattle.std.specs.Prelude.{◌≡◌, ℕ, ◌+◌, ◌*◌, ◌≤◌, Bool, false, ◌||◌, List, [], ◌∷◌, length, Option, Some, None}
use Rattle.std.specs.Str.{bytes_eq}
use Rattle.language_limits.specs.declared.TheConstants.{LONGEST_BLOCK, PIECE_WORDS}
use Rattle.depth_first_run.specs.Passed.Tree.{Name, Arg, value, lend, give, Target, unused, integer, block, Stmt, let_stmt, assign_stmt, put_stmt, alloc_stmt, free_stmt, if_stmt, while_stmt, call_stmt, print_stmt, par_stmt, split_stmt, Param, Ret, RetValue, gives, hands}
use Rattle.depth_first_run.specs.Stores.{Store, Held, block_of}
use Rattle.depth_first_run.specs.States.{State}
use Rattle.depth_first_run.specs.Middle.{Frame, does, statements, tree, answers, rejoins, answers_main, allocates, awaits, joins}
use Rattle.ownership_laws.specs.Counts.{hit, count}

-- of each name at most one block
abbrev pub OneEach : Store → Type 0
OneEach st = (x : Name) → count st.blocks x ≤ 1

-- no block has more numbers than a block may have
abbrev pub AreShort : List Held → Type 0
AreShort [] = Unit {0}
AreShort (h ∷ hs) = (length h.items ≤ LONGEST_BLOCK) × AreShort hs

abbrev pub NoneTooLong : Store → Type 0
NoneTooLong st = AreShort st.blocks

-- how many parameters of the name take a block, and how many of these are lent one
abbrev pub taken_under : List Param → List Arg → Name → ℕ
taken_under [] args x = 0
taken_under (q ∷ qs) [] x = 0
taken_under (q ∷ qs) (value e ∷ args) x = taken_under qs args x
taken_under (q ∷ qs) (lend b ∷ args) x = hit q.name x + taken_under qs args x
taken_under (q ∷ qs) (give b ∷ args) x = hit q.name x + taken_under qs args x

abbrev pub lent_under : List Param → List Arg → Name → ℕ
lent_under [] args x = 0
lent_under (q ∷ qs) [] x = 0
lent_under (q ∷ qs) (value e ∷ args) x = lent_under qs args x
lent_under (q ∷ qs) (lend b ∷ args) x = hit q.name x + lent_under qs args x
lent_under (q ∷ qs) (give b ∷ args) x = lent_under qs args x

-- how often the end of a call gives a block back under the name; and 1 where it gives its answer under it
abbrev pub given_back_under : List Arg → Name → ℕ
given_back_under [] x = 0
given_back_under (value e ∷ args) x = given_back_under args x
given_back_under (lend b ∷ args) x = hit b x + given_back_under args x
given_back_under (give b ∷ args) x = given_back_under args x

abbrev pub answered_under : Target → Name → ℕ
answered_under unused x = 0
answered_under (integer y) x = 0
answered_under (block b) x = hit b x

-- 1 where the `return` hands the block of the name out
abbrev pub handed_by : RetValue → Name → ℕ
handed_by (gives e) x = 0
handed_by (hands b) x = hit b x

abbrev pub handed_out : Option Ret → Name → ℕ
handed_out None x = 0
handed_out (Some r) x = handed_by r.value x

-- the statement itself, or the end of a call of it, puts a block under the name
abbrev pub is_target : Name → Target → Bool
is_target x unused = false
is_target x (integer y) = false
is_target x (block b) = bytes_eq b x

abbrev pub puts_block : Name → Stmt → Bool
puts_block x (let_stmt y e) = false
puts_block x (assign_stmt y e) = false
puts_block x (put_stmt b i e) = false
puts_block x (alloc_stmt b e) = bytes_eq b x
puts_block x (free_stmt b) = false
puts_block x (if_stmt c a b) = false
puts_block x (while_stmt c a) = false
puts_block x (call_stmt t f args) = is_target x t
puts_block x (print_stmt e) = false
puts_block x (par_stmt a b) = false
puts_block x (split_stmt b e l r a) = bytes_eq l x || bytes_eq r x

-- the frame puts a block under the name: an allocation behind its dummies, and the end of a `split`
abbrev pub frame_puts : Name → Frame → Bool
frame_puts x (does part) = false
frame_puts x (answers ret params args t) = false
frame_puts x (rejoins b l r) = bytes_eq b x
frame_puts x (answers_main ret) = false
frame_puts x (allocates b n) = bytes_eq b x
frame_puts x (awaits named assigned own parent) = false
frame_puts x (joins assigned child d) = false

-- the frame is of an allocation that the quota does not cover: its tree of dummies, or the allocation behind it
abbrev pub IsOfAllocation : Frame → Type 0
IsOfAllocation (does (statements b)) = ⊥
IsOfAllocation (does (tree shape)) = Unit {0}
IsOfAllocation (answers ret params args t) = ⊥
IsOfAllocation (rejoins b l r) = ⊥
IsOfAllocation (answers_main ret) = ⊥
IsOfAllocation (allocates b n) = Unit {0}
IsOfAllocation (awaits named assigned own parent) = ⊥
IsOfAllocation (joins assigned child d) = ⊥

-- The end of a call: its caller waits, and the function holds the blocks that were lent to it and the one that it hands
-- out, and no others. What goes to the caller meets no block under its name there.
pub record EndsCall (ret : Option Ret) (params : List Param) (args : List Arg) (t : Target) (s : State) : Type 0 where
  pub caller : Store
  pub older : List Store
  pub waits : s.callers ≡ caller ∷ older
  pub holds : (x : Name) → count s.store.blocks x ≡ lent_under params args x + handed_out ret x
  pub meets_none : (x : Name) → count caller.blocks x + (given_back_under args x + answered_under t x) ≤ 1

-- The end of a `split` of b: the block itself is not there, its two parts have different names, the left one is still
-- whole pieces of 16 numbers, as it was cut, and both together have no more numbers than a block may have.
pub record EndsSplit (b l r : Name) (s : State) : Type 0 where
  pub none : count s.store.blocks b ≡ 0
  pub apart : bytes_eq l r ≡ false
  pub pieces : ℕ
  pub whole : length (block_of s.store.blocks l) ≡ PIECE_WORDS * pieces
  pub short : length (block_of s.store.blocks l) + length (block_of s.store.blocks r) ≤ LONGEST_BLOCK
