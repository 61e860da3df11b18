-- What the event of an owner writes into a hall, whichever it is.
use Rattle.std.specs.Prelude.{◌≡◌, ℕ, ◌≤◌, Bool, true, false, Option, None, List, map}
use Rattle.std.specs.List.Sorted.{IsPermutation}
use Rattle.hall_parts.specs.HallNames.{DequeId, Event, list_shown, pool_shown, lane_shown, HallKey, table_of, quota_of, terms_of, HallSeat, machine_of}
use Rattle.hall_parts.specs.HallNames.{Setting, Hall, lane_at}
use Rattle.hall_interleavings.specs.Events.{ActsOn, PausesOn, given_up}
use Rattle.hall_slots.specs.Passed.DepthFirstListActions.{record_words}
use Rattle.hall_slots.specs.Passed.Machine as machine
use Rattle.moment_laws.specs.Passed.Parts.{Thread, Result}
use Rattle.thread_state.specs.Settings.{IsSettingOf}
use Rattle.hall_slots.specs.Passed.Steps.{waited, gave_up}
use Rattle.hall_slots.specs.Passed.Writing.{IsAtWork}
use Rattle.hall_slots.specs.declared.event.Event.TheVariants.{Stole, Did, Suspended, GaveUp, Halted}
use Rattle.hall_parts.specs.Writes.{Parts, hall_with, MayBecome}
use Rattle.hall_parts.specs.EventParts.{MayGoOn}
use Rattle.hall_parts.specs.Puts.{note_of}
use Rattle.hall_parts.specs.declared.noting.Noting.{Noting}
use Rattle.hall_parts.specs.declared.noting.Noting.TheVariants.{Same, Found, Does, Yields, Leaves, Closes, Halts}

-- The list keeps in no order which threads wait, and the results: here they are in these orders.
abbrev pub in_order : Hall → List Thread → List Result → Hall
in_order h waiting results = record h { list = record h.list { waiting = waiting; results = results } }

abbrev pub at_work_there : {h : Hall} {worker : ℕ} → IsAtWork h worker → (waiting : List Thread) (results : List Result)
    → IsAtWork (in_order h waiting results) worker
at_work_there w waiting results = record {
  left = w.left;
  id = w.id;
  right = w.right;
  top = w.top;
  under = w.under;
  period = w.period;
  places_are = w.places_are;
  lane_is = w.lane_is;
}

-- `WritesEvent s h w event owned after`: a worker at work does this event, owns this deque then or none, and writes this hall.
abbrev pub WritesEvent : (s : machine.Setting) (h : Hall) {worker : ℕ} → IsAtWork h worker → Event → Option DequeId → Hall → Type 0
WritesEvent s h w (Did name) owned after = (place : ℕ) × ActsOn s h w place name after owned
WritesEvent s h w (Suspended thread) owned after = (owned ≡ None) × PausesOn s h w machine.suspends (waited thread) after
WritesEvent s h w (GaveUp deque) owned after = (owned ≡ None) × PausesOn s h w machine.gives_up (gave_up deque.0) after
WritesEvent s h w (Stole deque period) owned after = ⊥
WritesEvent s h w (Halted end) owned after = ⊥

-- So it is with what is noted: an event, or a give up that nothing asks for. (What a seat writes that leaves, closes the hall or keeps its stop is
-- said elsewhere.)
abbrev pub Writes : (s : machine.Setting) (h : Hall) {worker : ℕ} → IsAtWork h worker → Noting → Hall → Type 0
Writes s h w Same after = ⊥
Writes s h w (Found stop) after = ⊥
Writes s h w (Does event owned) after = WritesEvent s h w event owned after
Writes s h w (Yields deque) after = (w.id ≡ deque) × (after ≡ given_up w)
Writes s h w (Leaves deque) after = ⊥
Writes s h w (Closes deque end) after = ⊥
Writes s h w (Halts stop end) after = ⊥

-- in some order of what is kept in none
abbrev pub WritesInAnOrder : (s : machine.Setting) (h : Hall) {worker : ℕ} → IsAtWork h worker → Noting → Hall → Type 0
WritesInAnOrder s h w noting after = (waiting : List Thread) × (results : List Result) × IsPermutation h.list.waiting waiting
    × IsPermutation h.list.results results × Writes s (in_order h waiting results) (at_work_there w waiting results) noting after

-- a program that the key may be of, and a hall with these parts, in which the worker is at work in the deque
pub record AtWorkWith (key : HallKey) (worker : ℕ) (deque : DequeId) (was : Parts) : Type 0 where
  pub setting : Setting
  pub of : IsSettingOf (table_of key) (quota_of key) setting
  pub hall : Hall
  pub work : IsAtWork hall worker
  pub id_is : work.id ≡ deque
  pub list_is : hall.list ≡ list_shown was.list
  pub pool_is : hall.pool ≡ pool_shown was.pool
  pub lane_is : lane_at hall.lanes deque ≡ lane_shown was.lane

-- for each of them the worker writes these parts by what is noted
abbrev pub DoesEvent : HallKey → (worker : ℕ) → DequeId → (was now : Parts) → Noting → Type 0
DoesEvent key worker deque was now noting = (x : AtWorkWith key worker deque was)
    → ∥ WritesInAnOrder (machine_of x.setting (terms_of key)) x.hall x.work noting (hall_with x.hall deque now) ∥₁

-- an action is counted before
abbrev pub is_counted : Event → Bool
is_counted (Did name) = true
is_counted (Suspended thread) = false
is_counted (GaveUp deque) = false
is_counted (Stole deque period) = false
is_counted (Halted end) = false

abbrev pub counts : Noting → Bool
counts Same = false
counts (Found stop) = false
counts (Does event owned) = is_counted event
counts (Yields deque) = false
counts (Leaves deque) = false
counts (Closes deque end) = false
counts (Halts stop end) = false

-- Then the hall goes on, with what the seat notes.
abbrev pub EventsMayCome : Type 0
EventsMayCome = (key : HallKey) (seat : HallSeat) (deque : DequeId) (was now : Parts) (noting : Noting) → record_words ≤ quota_of key
    → MayGoOn seat deque → seat.hand.note.counting ≡ counts noting → DoesEvent key seat.hand.note.worker deque was now noting
    → MayBecome key seat deque was now (note_of seat.hand.note noting)
