-- Who can move at the moment at which a core is.
use Rattle.std.proofs.Common.{◌≡◌, ◌↔◌, ℕ, ◌≤◌, ◌<◌, List, inl, inr, ap, subst, arith}
use Rattle.std.specs.Prelude.{Option, None, Some, Bool, IsTrue, cond, Result, Ok}
use Rattle.std.proofs.lemmas.Bool.{cases_lt, eq-eqb, ne_eqb}
use Rattle.depth_first_list.specs.Actions.{record_words}
use Rattle.depth_first_run.specs.States.{Setting}
use Rattle.open_periods.specs.Passed.Moments.{Moment, owned_by}
use Rattle.open_periods.specs.Passed.Play as play
use Rattle.open_periods.specs.Passed.Play.{words_drawn}
use Rattle.open_periods.specs.Passed.DequeMachineRuns.{Pair}
use Rattle.open_periods.specs.declared.seat.Seat.{Seat}
use Rattle.open_periods.specs.Tables.{seat_at}
use Rattle.play_rules.specs.Choices.{SomeReady, CanMove}
use Rattle.node_table.specs.Table.{Table}
use Rattle.scheduler_state.specs.declared.event.Event.{Event}
use Rattle.play_rules.specs.declared.stop.Stop.{Stop}
use Rattle.scheduler_state.specs.Held.{Held, IsInOrder}
use Rattle.scheduler_state.specs.Moments.{IsSound, HasRun}
use Rattle.open_periods.specs.Passed.Terms.{Terms, machine_of}
use Rattle.scheduler_state.proofs.Sitting.{seat_owns as seated_owns, idle_owns_none}
use Rattle.scheduler_state.proofs.Movers.{cannot_move, can_move_is}
use Rattle.scheduler_state.proofs.Answering.{nothing_told}
use Rattle.play_rules.specs.declared.ends.RunEnd.{RunEnd}
use Rattle.scheduler_state.specs.declared.stepped.Stepped.{Stepped}
use Rattle.scheduler_state.specs.declared.stepped.Stepped.TheVariants.{Nothing}
use Rattle.dfd_core.specs.Running.{IsAtMoment}
use Rattle.scheduler_state.specs.Told.{IsTold}

module _ (c : Setting) (terms : Terms) (quota : record_words ≤ c.quota) (h : Held) (run : List Pair) (m : Moment) (at : HasRun c terms h run m) (worker : ℕ) where
  pub seat_owns : (seat : Seat) → seat_at h.table worker ≡ Some seat → 0 < owned_by worker m.deques
  seat_owns seat is = seated_owns c terms quota h run m at worker seat is

  -- how many words its turn draws
  pub idle_draws : ∥ IsInOrder h ∥₁ → seat_at h.table worker ≡ None → words_drawn m worker ≡ 2
  idle_draws ordered idle = ap (λ b. cond b 2 1) (eq-eqb (owned_by worker m.deques) 0 (elim (cases_lt 0 (owned_by worker m.deques)) [
    | inl some ↦ absurd (idle_owns_none c terms quota h run m at worker ordered idle some)
    | inr none ↦ omega (arith, none)
  ]))

  pub owner_draws : (seat : Seat) → seat_at h.table worker ≡ Some seat → words_drawn m worker ≡ 1
  owner_draws seat is = let some = seat_owns seat is in ap (λ b. cond b 2 1) (ne_eqb (owned_by worker m.deques) 0 (λ none. absurd (omega (arith, some, none))))

-- so at the moment at which a core is
cannot_move_at : (t : Table) (k : ℕ) (terms : Terms) (h : Held) → IsSound t k terms h → (end : Option RunEnd) (c : Setting) (run : List Pair) (m : Moment)
    → IsAtMoment t k terms h end c run m → (worker : ℕ)
    → ((seat_at h.table worker ≡ None) × (¬ SomeReady terms.workers h.deques)) ↔ ¬ play.CanMove (machine_of c terms) m worker
cannot_move_at t k terms h sound end c run m at worker =
    let covers = sound.quota in let same = at.setting.quota in
    cannot_move c terms (omega (arith, covers, same)) h run m at.stands worker sound.in_order

pub nothing_behind : (t : Table) (k : ℕ) (terms : Terms) (h : Held) → IsSound t k terms h → (end : Option RunEnd) (c : Setting) (run : List Pair) (m : Moment)
    → IsAtMoment t k terms h end c run m → (worker : ℕ) (stepped : Stepped) (result : Result (Option Event) Stop) → IsTold stepped result
    → ((result ≡ Ok None) ↔ ((seat_at h.table worker ≡ None) × (¬ SomeReady terms.workers h.deques)))
    → (stepped ≡ Nothing) ↔ ¬ play.CanMove (machine_of c terms) m worker
nothing_behind t k terms h sound end c run m at worker stepped result told nothing =
    let cannot = cannot_move_at t k terms h sound end c run m at worker in (
      λ is. cannot.0 (nothing.0 (subst (λ s. IsTold s result) is told)),
      λ no. nothing_told stepped result told (nothing.1 (cannot.1 no)),
    )

pub can_move_at : (t : Table) (k : ℕ) (terms : Terms) (h : Held) → IsSound t k terms h → (end : Option RunEnd) → end ≡ None → (c : Setting) (run : List Pair) (m : Moment)
    → IsAtMoment t k terms h end c run m → (worker : ℕ) (some_ready result : Bool) → (IsTrue some_ready ↔ SomeReady terms.workers h.deques)
    → (IsTrue result ↔ CanMove h.table some_ready worker) → IsTrue result ↔ ((end ≡ None) × play.CanMove (machine_of c terms) m worker)
can_move_at t k terms h sound end none c run m at worker some_ready result ready tells =
    let covers = sound.quota in let same = at.setting.quota in
    let is = can_move_is c terms (omega (arith, covers, same)) h run m at.stands worker sound.in_order some_ready ready in (
      λ can. (none, is.0 (tells.0 can)),
      λ can. tells.1 (is.1 can.1),
    )
