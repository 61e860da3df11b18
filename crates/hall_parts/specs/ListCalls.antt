-- What the calls on the list do to what it shows.
use Rattle.std.specs.Prelude.{◌≡◌, ℕ, Some, List, ◌∷◌}
use Rattle.std.specs.List.Sorted.{IsPermutation}
use Rattle.hall_parts.specs.HallNames.{DequeId, ListSlot, Running, list_shown, running_shown, ThreadId, Ended, Thread, thread_shown, result_shown, Hall}
use Rattle.hall_parts.specs.HallNames.{ListShown}
use Rattle.moment_laws.specs.Passed.Parts as parts
use Rattle.open_periods.specs.Tables.{shut}
use Rattle.hall_slots.specs.Passed.ThreadMapKept.{kept_under}
use Rattle.hall_slots.specs.Passed.Writing.{IsAtWork, IsHanded, list_without}

-- the list shows that the thread on top waits, and that its deque, of a worker at work, is gone
abbrev pub SuspendsThere : (before after : ListSlot) → DequeId → Running → Thread → Type 0
SuspendsThere before after id running top = (worker : ℕ) (h : Hall) (w : IsAtWork h worker) → h.list ≡ list_shown before → w.id ≡ id
    → w.top ≡ thread_shown top → (waiting : List parts.Thread) × IsPermutation (w.top ∷ h.list.waiting) waiting
    × (list_shown after ≡ record (list_without w (shut (running_shown running))) { waiting = waiting })

-- it shows that a result is kept, and that the deque is gone
abbrev pub LeavesThere : (before after : ListSlot) → DequeId → Running → Ended → Type 0
LeavesThere before after id running ended = (worker : ℕ) (h : Hall) (w : IsAtWork h worker) → h.list ≡ list_shown before → w.id ≡ id
    → (results : List parts.Result) × IsPermutation (result_shown ended ∷ h.list.results) results
    × (list_shown after ≡ record (list_without w (shut (running_shown running))) { results = results })

-- a thread that waited for this child was taken out of the list
pub record TakesWaiting (before after : ListSlot) (child : ThreadId) (parent : Thread) : Type 0 where
  pub entries : IsPermutation before.part.waiting.entries ((child, parent) ∷ after.part.waiting.entries)
  pub waiting : List parts.Thread
  pub shown : list_shown after ≡ record (list_shown before) { waiting = waiting }
  pub was : IsPermutation (ListShown.waiting (list_shown before)) (thread_shown parent ∷ waiting)

-- the result that was kept for this child was taken out of the list, and handed to the thread that joins it
pub record IsHandedThere (before after : ListSlot) (top now : Thread) (child : ThreadId) : Type 0 where
  pub ended : Ended
  pub kept : kept_under before.part.results child ≡ Some ended
  pub results : List parts.Result
  pub shown : list_shown after ≡ record (list_shown before) { results = results }
  pub was : IsPermutation (ListShown.results (list_shown before)) (result_shown ended ∷ results)
  pub handed : IsHanded (thread_shown top) (result_shown ended) (thread_shown now)

-- the crew, the end and how many deques there may be stay
pub record KeepsCrew (before after : ListSlot) : Type 0 where
  pub crew : after.crew ≡ before.crew
  pub end : after.end ≡ before.end
  pub most : after.part.order.most ≡ before.part.order.most
