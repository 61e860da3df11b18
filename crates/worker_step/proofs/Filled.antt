-- No deque is without threads where a scheduler stands at the moment of a run.
use Rattle.std.proofs.Common.{◌≡◌, ◌≢◌, ℕ, [], length, map, ap}
use Rattle.std.proofs.Math.Logic.{∥∥₁_elim}
use Rattle.std.proofs.lemmas.List.{nil_from_length}
use Rattle.std.specs.Prelude.{Some, slice_get}
use Rattle.open_periods.proofs.Passed.Lists.{each_among}
use Rattle.deque_list.specs.Deques.{Deque}
use Rattle.open_periods.specs.Passed.Moments.{Deque as DequeOfMoment}
use Rattle.moment_shown.specs.Parts as parts
use Rattle.node_table.specs.Table.{Table}
use Rattle.open_periods.proofs.Lists.{among_of_place}
use Rattle.thread_frames.specs.declared.thread.Thread.{Thread}
use Rattle.thread_frames.specs.Shown.{thread_shown}
use Rattle.scheduler_state.specs.declared.scheduler.Scheduler.{Scheduler}
use Rattle.scheduler_state.specs.Held.{held}
use Rattle.scheduler_state.specs.Moments.{IsSound, terms_of}
use Rattle.worker_step.proofs.Wanting.{shown_as, shown_at}

pub never_empty : (t : Table) (k limit : ℕ) (s : Scheduler) → IsSound t k (terms_of s limit) (held s) → (place : ℕ) (deque : Deque Thread)
    → slice_get s.list.deques place ≡ Some deque → length (Deque.items deque) ≢ 0
never_empty t k limit s sound place deque there none = ∥∥₁_elim sound.of_program (λ x y. absurd x) (λ p. ∥∥₁_elim (sound.somewhere p.0 p.1) (λ x y. absurd x) (λ a.
    let lawful = (a.2).standing.lawful in
    each_among (λ (x : DequeOfMoment). x.threads ≢ []) (shown_as deque) (a.1).deques (lawful.order).none_empty
    (among_of_place (shown_as deque) (a.1).deques place (shown_at s.list.deques a.1 (a.2).standing.shows.deques place deque there))
    (ap (λ ts. map parts.label_of (map thread_shown ts)) (nil_from_length (Deque.items deque) none))))
