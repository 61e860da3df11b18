-- Who can move, by the seats and by whether something is ready.
use Rattle.std.proofs.Common.{◌≡◌, ◌↔◌, ℕ, ◌+◌, ◌≤◌, ◌<◌, List, inl, inr, refl, arith, mod-lt}
use Rattle.std.specs.Prelude.{Option, None, Some, Bool, IsTrue}
use Rattle.open_periods.specs.Passed.Actions.{record_words}
use Rattle.thread_points.specs.Passed.States.{Setting}
use Rattle.open_periods.specs.Passed.Moments.{Moment, owned_by}
use Rattle.open_periods.specs.Passed.Play as play
use Rattle.open_periods.specs.Passed.Play.{IsFirst}
use Rattle.open_periods.specs.Passed.DequeMachineRuns.{Pair}
use Rattle.open_periods.specs.Passed.Terms.{Terms, machine_of}
use Rattle.open_periods.specs.declared.seat.Seat.{Seat}
use Rattle.open_periods.specs.Tables.{seat_at}
use Rattle.thread_frames.specs.Shown.{thread_shown}
use Rattle.moment_laws.proofs.Ready.{some_ready_is_shown}
use Rattle.play_rules.specs.Choices.{SomeReady, CanMove}
use Rattle.play_rules.proofs.Firsts.{first_below}
use Rattle.scheduler_state.specs.Held.{Held, IsInOrder}
use Rattle.scheduler_state.specs.Moments.{HasRun}
use Rattle.scheduler_state.proofs.Sitting.{seat_owns, idle_owns_none}

-- the first that passes does so by what passes below the bound as well
pub first_by : (n word : ℕ) (P Q : ℕ → Type 0) (x : ℕ) → ((i : ℕ) → i < n → P i ↔ Q i) → IsFirst n word P x → IsFirst n word Q x
first_by n word P Q x same first =
    let some : 0 < n = (let few = first.few in omega (arith, few)) in
    record {
      turns = first.turns;
      few = first.few;
      is = first.is;
      passes = (same x (first_below n word P x first)).0 first.passes;
      none_before = λ e before passes. first.none_before e before ((same _ (mod-lt (word + e) some)).1 passes);
    }

module _ (c : Setting) (terms : Terms) (quota : record_words ≤ c.quota) (h : Held) (run : List Pair) (m : Moment) (at : HasRun c terms h run m) (worker : ℕ) where
  module _ (ordered : ∥ IsInOrder h ∥₁) where
    -- a worker cannot move where it is idle and nothing in reach is ready
    pub cannot_move : ((seat_at h.table worker ≡ None) × (¬ SomeReady terms.workers h.deques)) ↔ ¬ play.CanMove (machine_of c terms) m worker
    cannot_move = (
      λ idle can. elim can [
        | inl owns ↦ idle_owns_none c terms quota h run m at worker ordered idle.0 owns
        | inr ready ↦ idle.1 ((some_ready_is_shown (machine_of c terms) thread_shown h.deques m at.standing.shows.deques).1 ready)
      ],
      λ cannot. (no_seat (seat_at h.table worker) refl cannot, λ some. cannot (inr ((some_ready_is_shown (machine_of c terms) thread_shown h.deques m at.standing.shows.deques).0 some))),
    )
      where
        no_seat : (seat : Option Seat) → seat_at h.table worker ≡ seat → ¬ play.CanMove (machine_of c terms) m worker → seat ≡ None
        no_seat None is cannot = refl
        no_seat (Some seat) is cannot = absurd (cannot (inl (seat_owns c terms quota h run m at worker seat is)))

    -- whether it can is what its seat tells, and whether something is ready
    pub can_move_is : (some_ready : Bool) → (IsTrue some_ready ↔ SomeReady terms.workers h.deques)
        → CanMove h.table some_ready worker ↔ play.CanMove (machine_of c terms) m worker
    can_move_is some_ready ready = (
      λ can. elim can [
        | inl seat ↦ inl (seat_owns c terms quota h run m at worker seat.0 seat.1)
        | inr some ↦ inr ((some_ready_is_shown (machine_of c terms) thread_shown h.deques m at.standing.shows.deques).0 (ready.0 some))
      ],
      λ can. elim can [
        | inl owns ↦ a_seat (seat_at h.table worker) refl owns
        | inr some ↦ inr (ready.1 ((some_ready_is_shown (machine_of c terms) thread_shown h.deques m at.standing.shows.deques).1 some))
      ],
    )
      where
        a_seat : (seat : Option Seat) → seat_at h.table worker ≡ seat → 0 < owned_by worker m.deques → CanMove h.table some_ready worker
        a_seat None is owns = absurd (idle_owns_none c terms quota h run m at worker ordered is owns)
        a_seat (Some seat) is owns = inl (seat, is)
