-- What callers see of a thread: its open children, its next action, and the words that it has.
use Rattle.std.specs.Prelude.{ℕ, ◌+◌, Bool, List, [], ◌∷◌, map, Option, Some, None, is_some}
use Rattle.dag_order.specs.Births.{root}
use Rattle.dag_order.specs.declared.thread_id.ThreadId.{ThreadId}
use Rattle.block_arena.specs.declared.record_block.RecordBlock.{RecordBlock}
use Rattle.depth_first_list.specs.Actions.{record_words}
use Rattle.thread_state.specs.States.{words_held}
use Rattle.thread_state.specs.Joins.{released}
use Rattle.thread_frames.specs.declared.next.Next.{Next}
use Rattle.thread_frames.specs.declared.next.Next.TheVariants as next
use Rattle.thread_frames.specs.declared.prepared.Prepared.{Prepared}
use Rattle.thread_frames.specs.declared.prepared.Prepared.TheVariants.{Nothing, Fork, Join, Alloc, Release, Dummy, Fault, End}
use Rattle.thread_frames.specs.declared.ended.Ended.{Ended}
use Rattle.thread_frames.specs.declared.open_child.OpenChild.{OpenChild}
use Rattle.thread_frames.specs.declared.thread.Thread.{Thread}

-- an open child: its id, its ordinal among the forks of its parent, the function in which it runs, and whether its result is there
pub record Child : Type 0 where
  pub id : ThreadId
  pub ordinal : ℕ
  pub func : Option ℕ
  pub delivered : Bool

abbrev pub child_shown : OpenChild → Child
child_shown x = record { id = x.id; ordinal = x.ordinal; func = x.func; delivered = is_some x.ended }

-- the open children of a thread, the newest last
abbrev pub children_of : Thread → List Child
children_of thread = map child_shown thread.children.items

-- the newest one, where there is any
abbrev pub newest : {A : Type 0} → List A → Option A
newest [] = None
newest (x ∷ []) = Some x
newest (x ∷ y ∷ xs) = newest (y ∷ xs)

abbrev pub id_of : Option OpenChild → ThreadId
id_of None = root
id_of (Some x) = x.id

abbrev pub ordinal_of : Option Child → ℕ
ordinal_of None = 0
ordinal_of (Some x) = x.ordinal

-- the action that is prepared, as the answer of `advance`
abbrev pub told_as : List OpenChild → Prepared → Option Next
told_as children Nothing = None
told_as children (Fork forking room) = Some next.Fork
told_as children (Join branch assigned) = Some (next.Join (id_of (newest children)))
told_as children (Alloc slot len words shell) = Some (next.Alloc words)
told_as children (Release slot words) = Some (next.Release words)
told_as children Dummy = Some next.Dummy
told_as children (Fault fault) = Some (next.Fault fault)
told_as children End = Some next.End

abbrev pub next_of : Thread → Option Next
next_of thread = told_as thread.children.items thread.prepared

-- the words of an allocation, and of a block that goes back
abbrev pub words_asked : Option Next → ℕ
words_asked (Some (next.Alloc words)) = words
words_asked (Some (next.Release words)) = words
words_asked other = 0

-- its label, and how many actions and forks it has done
abbrev pub label_of : Thread → List ℕ
label_of thread = thread.run.state.label

abbrev pub done_of : Thread → ℕ
done_of thread = thread.run.state.done

abbrev pub forks_of : Thread → ℕ
forks_of thread = thread.run.state.forks

-- the words of its blocks, of its record block, and of the blocks that its delivered children bring back
abbrev pub held_by : Thread → ℕ
held_by thread = words_held thread.run.state

abbrev pub recorded : Option RecordBlock → ℕ
recorded None = 0
recorded (Some block) = record_words

abbrev pub ended_words : Ended → ℕ
ended_words child = words_held child.state

abbrev pub brought : Option Ended → ℕ
brought None = 0
brought (Some child) = ended_words child

abbrev pub all_brought : List OpenChild → ℕ
all_brought [] = 0
all_brought (x ∷ xs) = brought x.ended + all_brought xs

abbrev pub thread_words : Thread → ℕ
thread_words thread = held_by thread + recorded thread.record_block + all_brought thread.children.items

-- the words that the Join of the newest open child gives back, where its result is there
abbrev pub released_by : Thread → Option Ended → ℕ
released_by thread None = 0
released_by thread (Some child) = released thread.run.state child.state

abbrev pub result_of : Option OpenChild → Option Ended
result_of None = None
result_of (Some x) = x.ended

abbrev pub join_words_of : Thread → ℕ
join_words_of thread = released_by thread (result_of (newest thread.children.items))

-- its label, of a thread that has ended
abbrev pub ended_label : Ended → List ℕ
ended_label child = child.state.label
