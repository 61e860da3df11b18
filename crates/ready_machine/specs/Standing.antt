-- At which lawful ready list a scheduler stands, and how it goes on with each event.
use Rattle.std.specs.Prelude.{◌≡◌, ℕ, ◌<◌, ◌≤◌, ◌+◌, ◌*◌, ◌⊎◌, Option, None, Some, List, [], ◌∷◌, ◌++◌, length, filter, map, pos, ◌+ℤ◌}
use Rattle.dag_order.specs.Births.{root}
use Rattle.depth_first_list.specs.Actions.{Action, record_words}
use Rattle.depth_first_list.specs.Facts.{action_at}
use Rattle.deque_machine.specs.Lists.{Each}
use Rattle.deque_machine.specs.Moments as machine
use Rattle.deque_machine.specs.Moments.{Moment, opening, moment_of, owned_by, live_at}
use Rattle.deque_machine.specs.Machine.{Setting, Event, May}
use Rattle.deque_machine.specs.Runs.{Pair, place_of, is_move}
use Rattle.moment_laws.specs.Passed.Parts.{Thread, Deque, parts_with_root, deque_shown}
use Rattle.moment_laws.specs.Passed.Cuts.{deque_with}
use Rattle.moment_laws.specs.Standing.{Showing, StandsAt}
use Rattle.ready_machine.specs.Entries.{entry, IsEntry, IsLeastFree, IsReadyList}
use Rattle.ready_machine.specs.ReadyMachine.{MayReady, ReadyReaches}
use Rattle.ready_machine.specs.ReadyPlay.{WantsReady}

-- what is shown stands at a lawful ready list, with these actions as its moves
pub record StandsReady (s : Setting) (shown : Showing) (moved : List Action) (m : Moment) : Type 0 where
  pub entries : Each IsEntry m.deques
  pub standing : StandsAt s shown moved m

-- with an event of a worker the ready list comes to this moment, where what is shown stands, with the event's move if it is one
abbrev pub StandsReadyAfter : Setting → Showing → List Action → Moment → (worker : ℕ) → Event → Moment → Type 0
StandsReadyAfter s after moved m worker event next = MayReady s m worker event next
    × StandsReady s after (moved ++ filter is_move (map (action_at s.list) (place_of event))) next

-- a deque of the parts has one thread
abbrev pub HasOneThread : Deque → Type 0
HasOneThread deque = (thread : Thread) × (deque.threads ≡ thread ∷ [])

-- the same with the deque of two cut in two, the lower one without an owner
abbrev pub set_aside : Showing → (left right : List Deque) → (id new : ℕ) → Option ℕ → (upper lower : Thread) → Showing
set_aside shown left right id new owner upper lower = record shown {
  parts = record (shown.parts) { deques = left ++ deque_with id owner (upper ∷ []) ∷ deque_with new None (lower ∷ []) ∷ right };
}

-- and the moment with its deque cut so
abbrev pub cut_moment : Moment → (left right : List Deque) → (id new worker : ℕ) → (upper lower : Thread) → Moment
cut_moment next left right id new worker upper lower = moment_of
    (map deque_shown left ++ entry id (Some worker) upper.label ∷ entry new None lower.label ∷ map deque_shown right) next.waiting next.books

-- a root that has done nothing, alone and ready, stands at the opening moment
abbrev pub RootStandsReady : Setting → Type 0
RootStandsReady s = (x : Thread) (shown : Showing) → x.id ≡ root → x.label ≡ [] → x.done ≡ 0 → x.children ≡ [] → x.words ≡ 0
    → shown.parts ≡ parts_with_root x → shown.live ≡ 0 → shown.begun ≡ 0 → shown.moves ≡ [] → StandsReady s shown [] opening

-- Where the rules want an event of a worker, it came in the machine of deques, and each deque has one thread then, the event came in the
-- ready list.
abbrev pub OneThreadEach : Setting → Type 0
OneThreadEach s = (before after : Showing) (moved : List Action) (m next : Moment) (worker : ℕ) (event : Event)
    → StandsReady s before moved m
    → worker < s.workers → WantsReady s m worker event → May s m worker event next
    → StandsAt s after (moved ++ filter is_move (map (action_at s.list) (place_of event))) next
    → Each HasOneThread after.parts.deques → StandsReadyAfter s after moved m worker event next

-- Where the worker's deque has two threads then, it came in the ready list once the deque is cut in two, under the least free id.
abbrev pub TwoAreCut : Setting → Type 0
TwoAreCut s = (before after : Showing) (moved : List Action) (m next : Moment) (worker : ℕ) (event : Event) (left right : List Deque)
    (id new : ℕ)
    (upper lower : Thread) → StandsReady s before moved m → worker < s.workers → WantsReady s m worker event → May s m worker event next
    → StandsAt s after (moved ++ filter is_move (map (action_at s.list) (place_of event))) next
    → after.parts.deques ≡ left ++ deque_with id (Some worker) (upper ∷ lower ∷ []) ∷ right → IsLeastFree next.deques new
    → StandsReadyAfter s (set_aside after left right id new (Some worker) upper lower) moved m worker event
    (cut_moment next left right id new worker upper lower)

-- a run goes on with each event that may come at the ready list that it reaches
abbrev pub ReadyRunsGoOn : Setting → Type 0
ReadyRunsGoOn s = (run : List Pair) (m after : Moment) (worker : ℕ) (event : Event) → ReadyReaches s opening run m
    → MayReady s m worker event after
    → ReadyReaches s opening (run ++ record { worker = worker; event = event } ∷ []) after

-- a thread is the root, or holds at least the words of a record
abbrev pub HasRecord : Thread → Type 0
HasRecord thread = (thread.label ≡ []) ⊎ (record_words ≤ thread.words)

-- Where each thread of the list does, there is at most one entry more than the words in use have records.
abbrev pub EntriesAreFew : Setting → Type 0
EntriesAreFew s = (shown : Showing) (moved : List Action) (m : Moment) → StandsReady s shown moved m
    → Each (λ deque. Each HasRecord deque.threads) shown.parts.deques → record_words * length m.deques ≤ record_words + shown.live

-- A Fork left the worker, who ran an entry, with a deque of two. There are as many deques as before, and a record more in use.
pub record LeavesTwo (l : List Action) (m next : Moment) (worker : ℕ) : Type 0 where
  pub owned : 0 < owned_by worker m.deques
  pub left : List machine.Deque
  pub right : List machine.Deque
  pub id : ℕ
  pub upper : List ℕ
  pub lower : List ℕ
  pub deques_are : next.deques ≡ left ++ machine.deque_of id (Some worker) (upper ∷ lower ∷ []) ∷ right
  pub many : length next.deques ≡ length m.deques
  pub live : live_at l next ≡ live_at l m +ℤ pos record_words

-- Where the rules want an event of a worker and it came in the machine of deques, each deque has one thread then, or it was a Fork.
abbrev pub OneOrTwo : Setting → Type 0
OneOrTwo s = (m next : Moment) (worker : ℕ) (event : Event) → IsReadyList s m → worker < s.workers → WantsReady s m worker event
    → May s m worker event next → Each IsEntry next.deques ⊎ LeavesTwo s.list m next worker
