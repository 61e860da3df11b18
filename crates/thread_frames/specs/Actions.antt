-- The action of the depth-first list that a thread does next, and what an action changes of the thread.
use Rattle.std.specs.Prelude.{◌≡◌, ℕ, suc, ◌+◌, ◌<◌, Bool, false, [], List, ◌∷◌, ◌++◌, length, Option, Some, None}
use Rattle.dag_order.specs.LabelOrder.{fork_of}
use Rattle.dag_order.specs.declared.thread_id.ThreadId.{ThreadId}
use Rattle.depth_first_list.specs.Actions as actions
use Rattle.depth_first_list.specs.Actions.{Deed, record_words}
use Rattle.depth_first_list.specs.Facts.{label_at, index_at, deed_at, words_at}
use Rattle.thread_state.specs.Passed.States.{Setting, State, Item, acted, failed}
use Rattle.thread_state.specs.Passed.Run.{whole, list_of}
use Rattle.thread_run.specs.Passed.Points.{words_at_end}
use Rattle.thread_frames.specs.Views.{Child, children_of, newest, ordinal_of, result_of, next_of, label_of, done_of, forks_of, held_by, released_by, thread_words}
use Rattle.thread_frames.specs.declared.ended.Ended.{Ended}
use Rattle.thread_frames.specs.declared.next.Next.{Next}
use Rattle.thread_frames.specs.declared.next.Next.TheVariants.{Fork, Join, Alloc, Release, Dummy, End, Fault}
use Rattle.thread_frames.specs.declared.thread.Thread.{Thread}

-- what the answer of a thread says that it does
abbrev pub deed_of : Thread → Next → Deed
deed_of thread Fork = actions.forks (suc (forks_of thread))
deed_of thread (Join child) = actions.joins (ordinal_of (newest (children_of thread)))
deed_of thread (Alloc words) = actions.allocates
deed_of thread (Release words) = actions.releases
deed_of thread Dummy = actions.dummy
deed_of thread (Fault fault) = actions.faults
deed_of thread End = actions.ends

-- the words of a Join are told when the child is delivered
abbrev pub TellsJoin : Thread → Option Ended → ℕ → Type 0
TellsJoin thread None words = Unit {0}
TellsJoin thread (Some child) words = words ≡ released_by thread (Some child)

abbrev pub TellsWords : Thread → Next → ℕ → Type 0
TellsWords thread Fork words = words ≡ record_words
TellsWords thread (Join child) words = TellsJoin thread (result_of (newest thread.children.items)) words
TellsWords thread (Alloc asked) words = words ≡ asked
TellsWords thread (Release given) words = words ≡ given
TellsWords thread Dummy words = words ≡ 0
TellsWords thread (Fault fault) words = words ≡ held_by thread
TellsWords thread End words = words ≡ words_at_end (label_of thread)

-- a fault stands in the run directly behind its action
abbrev pub TellsFault : Setting → Thread → Next → Type 0
TellsFault c thread Fork = Unit {0}
TellsFault c thread (Join child) = Unit {0}
TellsFault c thread (Alloc asked) = Unit {0}
TellsFault c thread (Release given) = Unit {0}
TellsFault c thread Dummy = Unit {0}
TellsFault c thread (Fault fault) =
    (front : List Item) × (words : ℕ) × (behind : List Item) × (State.items (whole c)
    ≡ front
    ++ acted (record { label = label_of thread; index = done_of thread; deed = actions.faults; words = words }) ∷ failed fault ∷ behind)
TellsFault c thread End = Unit {0}

-- the next action of the thread in the list of all actions: its label, its index, what it does, and its words; and a fault with its line
pub record IsOfTheList (c : Setting) (thread : Thread) (next : Next) : Type 0 where
  pub place : ℕ
  pub inside : place < length (list_of c)
  pub labelled : label_at (list_of c) place ≡ label_of thread
  pub index : index_at (list_of c) place ≡ done_of thread
  pub deed : deed_at (list_of c) place ≡ deed_of thread next
  pub words : TellsWords thread next (words_at (list_of c) place)
  pub fault : TellsFault c thread next

-- a Join is that of the newest open child, and there is one
abbrev pub IsIdOf : ThreadId → Option Child → Type 0
IsIdOf id None = ⊥
IsIdOf id (Some child) = child.id ≡ id

abbrev pub JoinsNewest : Next → List Child → Type 0
JoinsNewest Fork children = Unit {0}
JoinsNewest (Join child) children = IsIdOf child (newest children)
JoinsNewest (Alloc words) children = Unit {0}
JoinsNewest (Release words) children = Unit {0}
JoinsNewest Dummy children = Unit {0}
JoinsNewest (Fault fault) children = Unit {0}
JoinsNewest End children = Unit {0}

-- the child of a Join is delivered
abbrev pub is_there : Option Child → Bool
is_there None = false
is_there (Some child) = child.delivered

-- the next action is of this kind
abbrev pub IsFork : Option Next → Type 0
IsFork (Some Fork) = Unit {0}
IsFork other = ⊥

abbrev pub IsJoin : Option Next → Type 0
IsJoin (Some (Join child)) = Unit {0}
IsJoin other = ⊥

abbrev pub IsAlloc : Option Next → Type 0
IsAlloc (Some (Alloc words)) = Unit {0}
IsAlloc other = ⊥

abbrev pub IsRelease : Option Next → Type 0
IsRelease (Some (Release words)) = Unit {0}
IsRelease other = ⊥

abbrev pub IsDummy : Option Next → Type 0
IsDummy (Some Dummy) = Unit {0}
IsDummy other = ⊥

abbrev pub IsFault : Option Next → Type 0
IsFault (Some (Fault fault)) = Unit {0}
IsFault other = ⊥

abbrev pub IsEnd : Option Next → Type 0
IsEnd (Some End) = Unit {0}
IsEnd other = ⊥

-- what stays of a thread whatever it does: its id, its parent, its label, and the function in which it began
pub record IsSame (before after : Thread) : Type 0 where
  pub id : after.id ≡ before.id
  pub parent : after.parent ≡ before.parent
  pub func : after.func ≡ before.func
  pub label : label_of after ≡ label_of before

-- it has done no action
pub record IsStill (before after : Thread) : Type 0 where
  pub same : IsSame before after
  pub done : done_of after ≡ done_of before
  pub forks : forks_of after ≡ forks_of before
  pub children : children_of after ≡ children_of before
  pub words : thread_words after ≡ thread_words before

-- it has done one action more, which is none with a child
pub record HasActed (before after : Thread) : Type 0 where
  pub same : IsSame before after
  pub done : done_of after ≡ done_of before + 1
  pub forks : forks_of after ≡ forks_of before
  pub children : children_of after ≡ children_of before
  pub next : next_of after ≡ None

-- It has forked a child of this id, which has done nothing, and which is its newest open child.
pub record HasForked (id : ThreadId) (before after child : Thread) : Type 0 where
  pub same : IsSame before after
  pub done : done_of after ≡ done_of before + 1
  pub forks : forks_of after ≡ forks_of before + 1
  pub children : children_of after
      ≡ children_of before ++ record { id = id; ordinal = forks_of before + 1; func = child.func; delivered = false } ∷ []
  pub next : next_of after ≡ None
  pub words : thread_words after + thread_words child ≡ thread_words before + record_words
  pub child_id : child.id ≡ id
  pub child_parent : child.parent ≡ Some before.id
  pub child_label : label_of child ≡ fork_of (label_of before) (forks_of before + 1)
  pub child_done : done_of child ≡ 0
  pub child_children : children_of child ≡ []
  pub child_next : next_of child ≡ None

-- it has joined its newest open child
pub record HasJoined (words : ℕ) (before after : Thread) : Type 0 where
  pub same : IsSame before after
  pub done : done_of after ≡ done_of before + 1
  pub forks : forks_of after ≡ forks_of before
  pub joined : Child
  pub children : children_of before ≡ children_of after ++ joined ∷ []
  pub next : next_of after ≡ None
  pub words_left : thread_words after + words ≡ thread_words before
