-- The deque of two that a worker's seat has.
use Rattle.std.proofs.Common.{◌≡◌, ℕ, List, [], ◌∷◌, length, refl, sym, subst, ◌∙◌, arith}
use Rattle.std.proofs.Math.Logic.{∥∥₁_elim}
use Rattle.std.specs.Prelude.{Some, suc}
use Rattle.deque_list.specs.declared.deque_id.DequeId.{DequeId}
use Rattle.deque_list.specs.Deques.{Deque, DequeAt}
use Rattle.list_changes.specs.Shown.{Stands, deque_with}
use Rattle.list_changes.proofs.Putting.{here, at_rank}
use Rattle.deque_machine.specs.Terms.{Terms}
use Rattle.node_table.specs.Table.{Table}
use Rattle.deque_machine.proofs.Lists.{each_at}
use Rattle.scheduler_state.specs.Passed.Tables.{deque_at}
use Rattle.thread_frames.specs.declared.thread.Thread.{Thread}
use Rattle.scheduler_state.specs.declared.scheduler.Scheduler.{Scheduler}
use Rattle.scheduler_state.specs.Held.{held, IsInOrder, OwnersSit}
use Rattle.scheduler_state.specs.Moments.{IsSound}
use Rattle.scheduler_state.proofs.SeatDeques.{seat_deque}

-- the owner of a deque has it in its seat
pub sits_there : (s : Scheduler) → IsInOrder (held s) → {worker : ℕ} {id : DequeId} {items : List Thread} → Stands s.list worker id items
    → deque_at s.table worker ≡ Some id
sits_there s o {worker} {id} {items} stands =
    each_at (λ d. (w : ℕ) → Deque.owner d ≡ Some w → deque_at s.table w ≡ Some (Deque.id d)) stands.left (deque_with id (Some worker) items) stands.right
    (subst (OwnersSit s.table) stands.deques_are o.owners) worker refl

-- one below the top is one
pub one_below : (items : List Thread) → suc (length items) ≡ 2 → (bottom : Thread) × (items ≡ bottom ∷ [])
one_below [] is = absurd (omega (arith, is))
one_below (x ∷ []) is = (x, refl)
one_below (x ∷ y ∷ items) is = absurd (omega (arith, is))

-- so a seat whose deque has so many threads has a deque of two
pub two_there : (t : Table) (k : ℕ) (terms : Terms) (s : Scheduler) (worker : ℕ) (id : DequeId) → IsSound t k terms (held s) → deque_at s.table worker ≡ Some id
    → (len : ℕ) → len ≡ 2 → ((rank : ℕ) (deque : Deque Thread) → DequeAt s.list.deques id rank deque → len ≡ length (Deque.items deque))
    → (top : Thread) × (bottom : Thread) × Stands s.list worker id (top ∷ bottom ∷ [])
two_there t k terms s worker id sound seat len two many =
    let its = seat_deque t k terms s worker id sound seat in
    let rest = one_below its.1 (sym (many (length its.2.left) (here its.2) (at_rank its.2)) ∙ two) in
    (its.0, rest.0, subst (λ xs. Stands s.list worker id (its.0 ∷ xs)) rest.1 its.2)

-- and a worker whose seat has none, or another number of threads, has no deque of two
pub no_two : (s : Scheduler) → ∥ IsInOrder (held s) ∥₁ → (worker : ℕ) → ((id : DequeId) (top bottom : Thread) → deque_at s.table worker ≡ Some id → Stands s.list worker id (top ∷ bottom ∷ []) → ⊥)
    → (id : DequeId) (top bottom : Thread) → ¬ Stands s.list worker id (top ∷ bottom ∷ [])
no_two s ordered worker never id top bottom stands = ∥∥₁_elim ordered (λ x y. absurd x) (λ o. never id top bottom (sits_there s o stands) stands)
