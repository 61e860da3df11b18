-- The memory that is had before an action is done.
use Rattle.std.specs.Prelude.{ℕ}
use Rattle.thread_stack.specs.declared.branch.Branch.{Branch}
use Rattle.thread_stack.specs.declared.branch.Branch.TheVariants.{Par, Dummies}
use Rattle.thread_state.specs.Forks.{IsRoom, IsDummyRoom}
use Rattle.thread_state.specs.declared.state.ThreadState.{ThreadState}
use Rattle.thread_state.specs.declared.fork_room.ForkRoom.{ForkRoom}
use Rattle.thread_frames.specs.declared.prepared.Prepared.{Prepared}
use Rattle.thread_frames.specs.declared.prepared.Prepared.TheVariants.{Nothing, Fork, Join, Alloc, Release, Dummy, Fault, End}

-- a Fork puts two frames, and an open child
abbrev pub frames_put : Prepared → ℕ
frames_put Nothing = 0
frames_put (Fork forking room) = 2
frames_put (Join branch assigned) = 0
frames_put (Alloc slot len words shell) = 0
frames_put (Release slot words) = 0
frames_put Dummy = 0
frames_put (Fault fault) = 0
frames_put End = 0

abbrev pub children_put : Prepared → ℕ
children_put Nothing = 0
children_put (Fork forking room) = 1
children_put (Join branch assigned) = 0
children_put (Alloc slot len words shell) = 0
children_put (Release slot words) = 0
children_put Dummy = 0
children_put (Fault fault) = 0
children_put End = 0

-- the label and the row of a child that runs a branch
abbrev pub RoomFits : ThreadState → Branch → ForkRoom → Type 0
RoomFits state (Par n) room = IsRoom state room
RoomFits state Dummies room = IsDummyRoom state room
