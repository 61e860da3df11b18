-- Where the table of starts has the start of a frame: two entries for each node, of its statement and of its loop that comes again.
use Rattle.std.specs.Prelude.{◌≡◌, ℕ, ◌+◌, ◌*◌, List, [], ◌∷◌, length, Option, Some, None, slice_get}
use Rattle.node_table.specs.Table.{Table}
use Rattle.thread_stack.specs.declared.frame.Frame.{Frame}
use Rattle.thread_stack.specs.declared.frame.Frame.TheVariants.{Statements, Again, Tree, Answers, Rejoins, AnswersMain, Allocates, Joins}
use Rattle.thread_stack.specs.Lists.{numbers_of}
use Rattle.flat_code.specs.declared.instruction.Instruction.{Instruction}
use Rattle.flat_code.specs.declared.instruction.Instruction.TheVariants.{Act, Write, Unless, Round, Jump, Leave}
use Rattle.flat_code.specs.declared.place.Place.{Place}
use Rattle.flat_program.specs.declared.flat_list.FlatList.{FlatList}
use Rattle.flat_program.specs.declared.flat_start.FlatStart.{FlatStart}

abbrev pub entry_of_node : Option ℕ → Option ℕ
entry_of_node None = None
entry_of_node (Some n) = Some (n * 2)

abbrev pub entry_of_frame : Table → Frame → Option ℕ
entry_of_frame t (Statements list next) = entry_of_node (slice_get (numbers_of t list) next)
entry_of_frame t (Again n) = Some (n * 2 + 1)
entry_of_frame t (Tree shape) = None
entry_of_frame t (Answers n caller) = None
entry_of_frame t (Rejoins n) = None
entry_of_frame t AnswersMain = None
entry_of_frame t (Allocates slot len) = None
entry_of_frame t (Joins branch) = None

-- a start is noted there
abbrev pub HasStart : List (Option FlatStart) → (entry : ℕ) → Type 0
HasStart starts entry = (s : FlatStart) × (slice_get starts entry ≡ Some (Some s))

-- no start that was noted goes
pub record KeepsStarts (before after : List (Option FlatStart)) : Type 0 where
  pub long : length after ≡ length before
  pub kept : (entry : ℕ) → HasStart before entry → HasStart after entry

-- a start is found
abbrev pub IsFound : Option FlatStart → Type 0
IsFound o = (s : FlatStart) × (o ≡ Some s)

-- the entry of a frame has a start
abbrev pub IsNoted : Table → List (Option FlatStart) → Frame → Type 0
IsNoted t starts frame = (entry : ℕ) × (entry_of_frame t frame ≡ Some entry) × HasStart starts entry

-- an instruction is a jump
abbrev pub IsJump : Instruction → Type 0
IsJump (Act a) = ⊥
IsJump (Write b i a) = ⊥
IsJump (Unless test other) = ⊥
IsJump (Round test body after) = ⊥
IsJump (Jump place) = Unit {0}
IsJump Leave = ⊥

-- A list begins with a statement, whose entry this is: its first place is no jump, and has the mark of the statement.
pub record BeginsWith (t : Table) (l : FlatList) (entry : ℕ) : Type 0 where
  pub here : Place
  pub frame : Frame
  pub there : slice_get l.places.items 0 ≡ Some here
  pub no_jump : IsJump here.what → ⊥
  pub mark : here.mark.items ≡ frame ∷ []
  pub entry_is : entry_of_frame t frame ≡ Some entry
