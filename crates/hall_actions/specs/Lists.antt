-- What an owner knows of the list, and of its own threads, once its top thread is before its next action.
use Rattle.std.specs.Prelude.{◌≡◌, ◌≢◌, ℕ, ◌≤◌, ◌<◌, false, None, Some, List, [], ◌∷◌, length}
use Rattle.dag_order.specs.Births.{root}
use Rattle.dag_order.specs.declared.finish.Finish.{Finish}
use Rattle.hall_parts.specs.HallNames.{DequeId, LaneSlot, ListSlot, PoolSlot, HallKey, table_of, quota_of, HallSeat, MeetsLaw, ThreadId, Setting, IsStill}
use Rattle.hall_parts.specs.HallNames.{IsOfTheList, JoinsNewest, deed_of, is_there, IsAwaited, IsOnlyNewest, is_delivered, IsAtPoint, IsResult}
use Rattle.hall_parts.specs.HallNames.{thread_shown, children_of, held_by, join_words_of, label_of, newest, next_of, Ended, Next, Thread, kept_under, HasAs}
use Rattle.hall_parts.specs.HallNames.{ListIsSound}
use Rattle.depth_first_list.specs.Actions.{joins}
use Rattle.hall_slots.specs.Passed.Parts.{Has}
use Rattle.moment_shown.specs.Parts as shown
use Rattle.hall_parts.specs.Passed.RunEndVariants.{Finished}
use Rattle.thread_actions.specs.Results.{FirstAwaits}
use Rattle.thread_frames.specs.Kept.{WaitsUnder}
use Rattle.thread_frames.specs.declared.next.Next.TheVariants.{Fork, Join, Alloc, Release, Dummy, Fault, End}
use Rattle.hall_parts.specs.Passed.Points.{words_at_end}
use Rattle.hall_parts.specs.Passed.Joins.{released}
use Rattle.hall_parts.specs.Passed.Settings.{IsSettingOf}
use Rattle.hall_slots.specs.declared.slot.Slot.TheVariants as slots
use Rattle.hall_actions.specs.Reads.{HoldsItsLane}

-- The top thread of the lane has come to this action without doing any, and these are under it. For each program that the key may be of this is
-- its next action, and a Join is that of its newest open child.
pub record ComesTo (key : HallKey) (lane : LaneSlot) (top : Thread) (under : List Thread) (next : Next) : Type 0 where
  pub top_was : Thread
  pub items : lane.lane.items ≡ top_was ∷ under
  pub still : IsStill top_was top
  pub listed : (c : Setting) → IsSettingOf (table_of key) (quota_of key) c → ∥ IsOfTheList c top next ∥₁
  pub newest : JoinsNewest next (children_of top)

-- ---- the list

-- It has the deque for the worker of the seat. What waits and each result is under its id, and each result is that of its thread. No run has
-- finished.
pub record ReadsList (key : HallKey) (seat : HallSeat) (deque : DequeId) (list : ListSlot) : Type 0 where
  pub has : Has list.part.order.places deque (Some seat.hand.note.worker)
  pub sound : ListIsSound key list
  pub unfinished : (finish : Finish) → list.end ≢ Some (Finished finish)

-- so it is by the law for an owner that holds its lane and the list
abbrev pub ListsAreRead : Type 0
ListsAreRead = (key : HallKey) (seat : HallSeat) (deque : DequeId) (lane : LaneSlot) (list : ListSlot) → HoldsItsLane seat deque lane
    → HasAs 0 (slots.List list) seat.hand.holds → MeetsLaw key seat → ReadsList key seat deque list

-- ---- before a Join

-- The child that is joined is the newest open one, and no other open child has its id. The thread has its result if that is delivered.
pub record ReadsJoin (top : Thread) (child : ThreadId) : Type 0 where
  pub youngest : shown.Child
  pub older : List shown.Child
  pub children : shown.Thread.children (thread_shown top) ≡ youngest ∷ older
  pub its_id : youngest.id ≡ child
  pub joins_it : deed_of top (Join child) ≡ joins youngest.ordinal
  pub only : IsOnlyNewest child (children_of top)
  pub delivered : is_delivered child (children_of top) ≡ youngest.delivered
  pub there : is_there (newest (children_of top)) ≡ youngest.delivered

-- so it is for an owner that holds its lane
abbrev pub JoinsAreRead : Type 0
JoinsAreRead = (key : HallKey) (seat : HallSeat) (deque : DequeId) (lane : LaneSlot) (top : Thread) (under : List Thread) (child : ThreadId)
    → HoldsItsLane seat deque lane → MeetsLaw key seat → ComesTo key lane top under (Join child) → ReadsJoin top child

-- If the result is not delivered and is not in the list, the thread is alone in its lane, and nobody waits for the child.
pub record ReadsWait (list : ListSlot) (under : List Thread) (child : ThreadId) : Type 0 where
  pub alone : under ≡ []
  pub free : kept_under list.part.waiting child ≡ None

abbrev pub WaitsAreRead : Type 0
WaitsAreRead = (key : HallKey) (seat : HallSeat) (deque : DequeId) (lane : LaneSlot) (list : ListSlot) (top : Thread) (under : List Thread)
    (child : ThreadId) → HoldsItsLane seat deque lane → HasAs 0 (slots.List list) seat.hand.holds → MeetsLaw key seat
    → ComesTo key lane top under (Join child) → is_delivered child (children_of top) ≡ false → kept_under list.part.results child ≡ None
    → ReadsWait list under child

-- If it is in the list, it is under the id of the child, is the end of the child, and is the result that the thread waits for.
pub record ReadsResult (key : HallKey) (top : Thread) (child : ThreadId) (ended : Ended) : Type 0 where
  pub its_id : ended.id ≡ child
  pub result : IsResult (table_of key) (quota_of key) ended
  pub awaited : IsAwaited (label_of top) ended (children_of top)

abbrev pub ResultsAreAwaited : Type 0
ResultsAreAwaited = (key : HallKey) (seat : HallSeat) (deque : DequeId) (lane : LaneSlot) (list : ListSlot) (top : Thread) (under : List Thread)
    (child : ThreadId) (ended : Ended) → HoldsItsLane seat deque lane → HasAs 0 (slots.List list) seat.hand.holds → MeetsLaw key seat
    → ComesTo key lane top under (Join child) → is_delivered child (children_of top) ≡ false → kept_under list.part.results child ≡ Some ended
    → ReadsResult key top child ended

-- ---- before an End

-- The thread directly below waits for the result, and is there only if the thread was forked.
pub record ReadsEnd (top : Thread) (under : List Thread) : Type 0 where
  pub below : FirstAwaits top under
  pub alone : label_of top ≡ [] → under ≡ []
  pub forked : under ≢ [] → 0 < length (label_of top)

abbrev pub EndsAreRead : Type 0
EndsAreRead = (key : HallKey) (seat : HallSeat) (deque : DequeId) (lane : LaneSlot) (top : Thread) (under : List Thread)
    → HoldsItsLane seat deque lane → MeetsLaw key seat → ComesTo key lane top under End → ReadsEnd top under

-- A thread that waits in the list under the id of this one waits for its result, and is at its point.
pub record ReadsParent (key : HallKey) (top parent : Thread) : Type 0 where
  pub under : WaitsUnder (Thread.id top, parent)
  pub awaits : FirstAwaits top (parent ∷ [])
  pub point : IsAtPoint (table_of key) (quota_of key) parent

-- No result is in the list under the id of the thread. If the thread is the root, it has the id of the root, and nobody waits under it.
pub record ReadsLeave (key : HallKey) (list : ListSlot) (top : Thread) : Type 0 where
  pub free : kept_under list.part.results (Thread.id top) ≡ None
  pub parent : (parent : Thread) → kept_under list.part.waiting (Thread.id top) ≡ Some parent → ReadsParent key top parent
  pub root_id : label_of top ≡ [] → Thread.id top ≡ root
  pub root_alone : label_of top ≡ [] → kept_under list.part.waiting (Thread.id top) ≡ None

abbrev pub LeavesAreRead : Type 0
LeavesAreRead = (key : HallKey) (seat : HallSeat) (deque : DequeId) (lane : LaneSlot) (list : ListSlot) (top : Thread) (under : List Thread)
    → HoldsItsLane seat deque lane → HasAs 0 (slots.List list) seat.hand.holds → MeetsLaw key seat → ComesTo key lane top under End
    → ReadsLeave key list top

-- ---- words that go back

-- the words that an action gives back, a Join those of a child whose result is delivered
abbrev pub words_back : Thread → Next → ℕ
words_back top Fork = 0
words_back top (Join child) = join_words_of top
words_back top (Alloc words) = 0
words_back top (Release words) = words
words_back top Dummy = 0
words_back top (Fault fault) = held_by top
words_back top End = words_at_end (label_of top)

-- in a pool that the owner holds beside its lane these are in use
abbrev pub WordsAreInUse : Type 0
WordsAreInUse = (key : HallKey) (seat : HallSeat) (deque : DequeId) (lane : LaneSlot) (pool : PoolSlot) (top : Thread) (under : List Thread)
    (next : Next) → HoldsItsLane seat deque lane → HasAs 1 (slots.Pool pool) seat.hand.holds → MeetsLaw key seat
    → ComesTo key lane top under next → next_of top ≡ Some next → IsAtPoint (table_of key) (quota_of key) top
    → words_back top next ≤ pool.pool.live

-- and so are those of the Join of a child whose result is in the list
abbrev pub KeptWordsAreInUse : Type 0
KeptWordsAreInUse = (key : HallKey) (seat : HallSeat) (deque : DequeId) (lane : LaneSlot) (list : ListSlot) (pool : PoolSlot) (top : Thread)
    (under : List Thread) (child : ThreadId) (ended : Ended) → HoldsItsLane seat deque lane → HasAs 0 (slots.List list) seat.hand.holds
    → HasAs 1 (slots.Pool pool) seat.hand.holds → MeetsLaw key seat → ComesTo key lane top under (Join child)
    → kept_under list.part.results child ≡ Some ended → released top.run.state ended.state ≤ pool.pool.live
