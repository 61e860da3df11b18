-- The steps of a seat that are no event: what it needs, what it writes into the slots, and what the seat notes.
use Rattle.std.specs.Prelude.{◌≡◌, ◌≢◌, ◌⊎◌, ℕ, suc, ◌+◌, ◌<◌, ◌≤◌, true, false, None, Some, List, [], ◌∷◌, ◌++◌, length, pos, slice_get, slice_set}
use Rattle.open_periods.specs.Passed.Actions.{Deed}
use Rattle.open_periods.specs.Passed.Facts.{action_at, words_at}
use Rattle.deque_list.specs.declared.deque_id.DequeId.{DequeId}
use Rattle.deque_list.specs.Deques.{Deque}
use Rattle.deque_machine.specs.Lists.{Each, times}
use Rattle.deque_machine.specs.Books.{charge_at}
use Rattle.deque_machine.specs.Machine.{Setting}
use Rattle.deque_machine.specs.Play as play
use Rattle.deque_machine.specs.Play.{Limits, IsFirst, words_taken}
use Rattle.moment_laws.specs.Passed.Choices.{IsReadyAt, reach_of}
use Rattle.moment_laws.specs.Passed.Parts.{Thread}
use Rattle.moment_laws.specs.Passed.MomentShownEvents.{IsNextOf}
use Rattle.moment_laws.specs.Orders.{AreSame}
use Rattle.moment_laws.specs.Standing.{Keeps}
use Rattle.hall_machine.specs.Values.{Hall, Stop, by_rule, no_memory, End, deques_of, parts_of, showing_of}
use Rattle.hall_machine.specs.Standing.{HasLane}
use Rattle.hall_machine.specs.Writing.{IsAtWork}
use Rattle.hall_machine.specs.Views.{View, fresh, joined}
use Rattle.hall_machine.specs.Seats.{with_crew, LooksTheSame, entering, giving, finding, end_with, answered_with, halted_with, leaving, with_places_of}
use Rattle.hall_machine.specs.State.{IsIn}
use Rattle.hall_machine.specs.Quiet.{kept_with}
use Rattle.hall_interleavings.specs.Events.{Snapshot, seen}

-- The stops that a seat may find, by what the slots show.
pub data MayFind (s : Setting) (limits : Limits) (h : Hall) (v : View) : Stop → Type 0 where
  -- memory was refused
  wants_memory : MayFind s limits h v no_memory
  -- the next action of its top thread is an Alloc or a Fork that the quota covers and the arena does not
  fills_the_arena : (w : IsAtWork h v.worker) (place : ℕ) (deed : Deed) → IsNextOf s.list w.top place deed
      → 0 < words_taken (action_at s.list place) → w.period.used + charge_at s.quota s.list place ≤ s.quota
      → limits.capacity < h.pool.live + words_at s.list place
      → MayFind s limits h v (by_rule (play.arena_full (pos h.pool.live) (words_at s.list place)))
  -- the deque that the word of an idle seat picks stays, while there are as many deques as may be
  fills_the_list : (word place : ℕ) (victim : Deque Thread) → v.deque ≡ None
      → IsFirst (reach_of s.workers (deques_of h)) word (IsReadyAt (deques_of h)) place
      → slice_get (deques_of h) place ≡ Some victim → (victim.owner ≢ None) ⊎ (2 ≤ length victim.items)
      → limits.deques ≤ length h.list.places
      → MayFind s limits h v (by_rule (play.deques_full limits.deques))

-- `IsOther s limits b after`: with a step of one of its seats that is no event, the hall shows `after`.
pub data IsOther (s : Setting) (limits : Limits) (b : Snapshot) : Snapshot → Type 0 where
  -- what is put back shows the same, perhaps in another order
  puts_the_same : (after : Hall) → AreSame (parts_of b.hall) (parts_of after) → Keeps (showing_of b.hall) (showing_of after) 0
      → Each (HasLane after.lanes) after.list.places → LooksTheSame b.hall after → IsOther s limits b (seen after b.count b.views)
  -- a count below the limit, which the seat holds until its action
  counts_below : (seat : ℕ) (v : View) (id : DequeId) → IsIn b.views seat v → v.counting ≡ false → v.found ≡ None → v.deque ≡ Some id
      → b.count < limits.actions
      → IsOther s limits b (seen b.hall (suc b.count) (slice_set b.views seat (record v { counting = true })))
  -- a count at the limit or above it: the seat has found the limit spent
  counts_spent : (seat : ℕ) (v : View) (id : DequeId) → IsIn b.views seat v → v.counting ≡ false → v.found ≡ None → v.deque ≡ Some id
      → limits.actions ≤ b.count
      → IsOther s limits b (seen b.hall (suc b.count) (slice_set b.views seat (finding v (by_rule (play.steps_spent limits.actions)))))
  -- a seat finds a stop
  finds_a_stop : (seat : ℕ) (v : View) (stop : Stop) → IsIn b.views seat v → v.counting ≡ false → v.found ≡ None
      → MayFind s limits b.hall v stop
      → IsOther s limits b (seen b.hall b.count (slice_set b.views seat (finding v stop)))
  -- and keeps it in the same put back, unless an end is kept
  finds_and_keeps : (seat : ℕ) (v : View) (stop : Stop) → IsIn b.views seat v → v.counting ≡ false → v.found ≡ None
      → MayFind s limits b.hall v stop
      → IsOther s limits b
      (seen (with_crew b.hall b.hall.list.crew (Some (end_with b.hall.list.kept stop))) b.count (slice_set b.views seat (finding v stop)))
  -- or keeps one that it found before
  keeps_its_stop : (seat : ℕ) (v : View) (stop : Stop) → slice_get b.views seat ≡ Some v → 0 < v.places → v.found ≡ Some stop
      → IsOther s limits b (seen (with_crew b.hall b.hall.list.crew (Some (end_with b.hall.list.kept stop))) b.count b.views)
  -- a seat that found a stop halts: it keeps the stop unless an end is kept, and is answered the kept end
  halts_with : (seat : ℕ) (v : View) (stop : Stop) → IsIn b.views seat v → v.found ≡ Some stop
      → IsOther s limits b (seen (with_crew b.hall b.hall.list.crew (Some (end_with b.hall.list.kept stop))) b.count
      (slice_set b.views seat (halted_with v (end_with b.hall.list.kept stop))))
  -- a seat is answered the kept end
  is_answered : (seat : ℕ) (v : View) (end : End) → slice_get b.views seat ≡ Some v → 0 < v.places → b.hall.list.kept ≡ Some end
      → IsOther s limits b (seen b.hall b.count (slice_set b.views seat (answered_with v end)))
  -- a worker enters by a seat with two places: the list names it
  enters_by : (seat : ℕ) (v : View) (worker : ℕ) (before later : List ℕ) → slice_get b.views seat ≡ Some v → 2 ≤ v.places → v.enters ≡ None
      → b.hall.list.kept ≡ None → b.hall.list.crew ≡ before ++ later → worker < s.workers → times worker b.hall.list.crew ≡ 0
      → IsOther s limits b
      (seen (with_crew b.hall (before ++ worker ∷ later) b.hall.list.kept) b.count (slice_set b.views seat (entering v worker)))
  -- then its seat is split off
  splits_off : (seat : ℕ) (v : View) (worker : ℕ) → slice_get b.views seat ≡ Some v → v.enters ≡ Some worker
      → IsOther s limits b (seen b.hall b.count (slice_set b.views seat (giving v) ++ fresh worker 1 ∷ []))
  -- an idle seat leaves
  leaves_idle : (seat : ℕ) (v : View) (before later : List ℕ) → IsIn b.views seat v → v.deque ≡ None → v.enters ≡ None
      → b.hall.list.crew ≡ before ++ v.worker ∷ later
      → IsOther s limits b
      (seen (with_crew b.hall (before ++ later) (kept_with v.found b.hall.list.kept)) b.count (slice_set b.views seat (leaving v)))
  -- a seat that has left is joined into another
  joins_into : (seat other : ℕ) (into gone : View) → seat ≢ other → slice_get b.views seat ≡ Some into → slice_get b.views other ≡ Some gone
      → 0 < into.places → 0 < gone.places → gone.left ≡ true → gone.enters ≡ None
      → IsOther s limits b
      (seen b.hall b.count (slice_set (slice_set b.views seat (with_places_of into gone)) other joined))
