-- The stops that a seat finds have their causes.
use Rattle.std.specs.Prelude.{◌≡◌, ◌≢◌, ◌⊎◌, ℕ, suc, ◌+◌, ◌<◌, ◌≤◌, false, None, Some, List, length, pos, ◌≤ℤ◌, slice_get, slice_set}
use Rattle.depth_first_list.specs.Actions.{Deed}
use Rattle.depth_first_list.specs.Facts.{action_at, words_at}
use Rattle.deque_list.specs.declared.deque_id.DequeId.{DequeId}
use Rattle.deque_list.specs.Deques.{Deque}
use Rattle.deque_machine.specs.Books.{charge_at, bound, periods_ahead, IsPrefix}
use Rattle.deque_machine.specs.Moments.{Moment, done_at}
use Rattle.deque_machine.specs.Machine.{Setting, does, May}
use Rattle.deque_machine.specs.Play as play
use Rattle.deque_machine.specs.Play.{Limits, IsFirst, words_taken}
use Rattle.moment_laws.specs.Passed.Choices.{IsReadyAt, reach_of}
use Rattle.moment_laws.specs.Passed.Parts.{Thread}
use Rattle.moment_laws.specs.Passed.MomentShownEvents.{IsNextOf}
use Rattle.hall_machine.specs.Values.{Hall, by_rule, deques_of}
use Rattle.hall_machine.specs.Steps.{Step, Leads}
use Rattle.hall_machine.specs.Writing.{IsAtWork}
use Rattle.hall_machine.specs.Views.{View}
use Rattle.hall_machine.specs.Crew.{Crew}
use Rattle.hall_machine.specs.Seats.{finding}
use Rattle.hall_machine.specs.State.{RunningState, IsIn}

-- A count at the limit or above it, of a seat that owns a deque: the list has more actions, though other seats may hold counts.
abbrev pub SpentCountsGoOn : Setting → Type 0
SpentCountsGoOn s = (limits : Limits) (h : Hall) (steps : List Step) (m : Moment) (leads : Leads s steps m) (count : ℕ) (views : List View)
    (seat : ℕ) (v : View) (id : DequeId) → RunningState s limits h steps m leads count views → IsIn views seat v → v.counting ≡ false
    → v.found ≡ None → v.deque ≡ Some id → limits.actions ≤ count
    → (limits.actions < length s.list)
    × Crew s limits h steps m leads (suc count) (slice_set views seat (finding v (by_rule (play.steps_spent limits.actions))))

-- The next action of its top thread is an Alloc or a Fork that the quota covers and the arena does not.
abbrev pub FullArenasGoOn : Setting → Type 0
FullArenasGoOn s = (limits : Limits) (h : Hall) (steps : List Step) (m : Moment) (leads : Leads s steps m) (count : ℕ) (views : List View)
    (seat : ℕ) (v : View) (w : IsAtWork h v.worker) (place : ℕ) (deed : Deed) → RunningState s limits h steps m leads count views
    → IsIn views seat v → v.counting ≡ false → v.found ≡ None → IsNextOf s.list w.top place deed
    → 0 < words_taken (action_at s.list place) → w.period.used + charge_at s.quota s.list place ≤ s.quota
    → limits.capacity < h.pool.live + words_at s.list place
    → Crew s limits h steps m leads count
    (slice_set views seat (finding v (by_rule (play.arena_full (pos h.pool.live) (words_at s.list place)))))

-- Such an action would leave more periods ahead than the arena has room for: if it has the peak and two quotas for each of so many periods.
abbrev pub FullArenasAreAhead : Setting → Type 0
FullArenasAreAhead s = (limits : Limits) (h : Hall) (steps : List Step) (m : Moment) (leads : Leads s steps m) (count : ℕ) (views : List View)
    (seat : ℕ) (v : View) (w : IsAtWork h v.worker) (place periods : ℕ) (deed : Deed) → RunningState s limits h steps m leads count views
    → IsIn views seat v → IsNextOf s.list w.top place deed → 0 < words_taken (action_at s.list place)
    → w.period.used + charge_at s.quota s.list place ≤ s.quota → limits.capacity < h.pool.live + words_at s.list place
    → bound s.quota s.list periods ≤ℤ pos limits.capacity
    → (after : Moment) × May s m v.worker (does place) after
    × ((n : ℕ) → IsPrefix s.list (done_at after) n → periods < periods_ahead n after.books)

-- The deque that an idle seat's word picks stays, while there are as many deques as may be.
abbrev pub FullListsGoOn : Setting → Type 0
FullListsGoOn s = (limits : Limits) (h : Hall) (steps : List Step) (m : Moment) (leads : Leads s steps m) (count : ℕ) (views : List View)
    (seat : ℕ) (v : View) (word place : ℕ) (victim : Deque Thread) → RunningState s limits h steps m leads count views → IsIn views seat v
    → v.deque ≡ None → v.found ≡ None → IsFirst (reach_of s.workers (deques_of h)) word (IsReadyAt (deques_of h)) place
    → slice_get (deques_of h) place ≡ Some victim → (victim.owner ≢ None) ⊎ (2 ≤ length victim.items) → limits.deques ≤ length h.list.places
    → Crew s limits h steps m leads count (slice_set views seat (finding v (by_rule (play.deques_full limits.deques))))
