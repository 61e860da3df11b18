-- Who moves next, and how many words are drawn for it.
use Rattle.std.proofs.Common.{◌≡◌, ◌↔◌, ℕ, ◌≤◌, ◌<◌, List, sym, arith, Bor}
use Rattle.std.proofs.Math.Logic.{∥∥₁_elim}
use Rattle.std.specs.Prelude.{Option, None, Some, Bool, true, false, is_some, not, IsTrue, MatchOption}
use Rattle.std.specs.Option.{option_copied}
use Rattle.std.proofs.lemmas.Bool.{false≢true, true≢false}
use Rattle.depth_first_run.specs.States.{Setting}
use Rattle.open_periods.specs.Passed.Moments.{Moment}
use Rattle.play_rules.proofs.Firsts.{first_below}
use Rattle.open_periods.specs.Passed.Play as play
use Rattle.open_periods.specs.Passed.Play.{IsFirst, IsReady, reach, words_drawn}
use Rattle.open_periods.specs.Passed.DequeMachineRuns.{Pair}
use Rattle.open_periods.proofs.Passed.Playing.{somebodys_turn}
use Rattle.depth_first_run.proofs.Built.{whole_is_depth_first}
use Rattle.node_table.specs.Table.{Table}
use Rattle.open_periods.specs.declared.seat.Seat.{Seat}
use Rattle.open_periods.specs.Tables.{seat_at}
use Rattle.play_rules.specs.Choices.{IsReadyAt, SomeReady, CanMove, reach_of}
use Rattle.thread_frames.specs.Shown.{thread_shown}
use Rattle.scheduler_state.proofs.Passed.Ready.{first_is_shown, some_ready_is_shown}
use Rattle.scheduler_state.specs.Held.{Held}
use Rattle.scheduler_state.specs.Moments.{IsSound}
use Rattle.open_periods.specs.Passed.Terms.{Terms, machine_of}
use Rattle.play_rules.specs.declared.ends.RunEnd.{RunEnd}
use Rattle.dfd_core.specs.Cores.{words_of_turn}
use Rattle.dfd_core.specs.Running.{IsAtMoment, IsSomewhere}
use Rattle.scheduler_state.proofs.Movers.{can_move_is, first_by}
use Rattle.dfd_core.proofs.Turns.{idle_draws, owner_draws}

module _ (t : Table) (k : ℕ) (terms : Terms) (h : Held) (sound : IsSound t k terms h) (end : Option RunEnd) where
  -- the first that can move by what the table tells is the first that can move at the moment
  pub first_at : (c : Setting) (run : List Pair) (m : Moment) → IsAtMoment t k terms h end c run m → (some_ready : Bool)
      → (IsTrue some_ready ↔ SomeReady terms.workers h.deques) → (word worker : ℕ) → IsFirst terms.workers word (CanMove h.table some_ready) worker
      → IsFirst terms.workers word (play.CanMove (machine_of c terms) m) worker
  first_at c run m at some_ready ready word worker first =
      let covers = sound.quota in let same = at.setting.quota in
      first_by terms.workers word (CanMove h.table some_ready) (play.CanMove (machine_of c terms) m) worker
      (λ w below. can_move_is c terms (omega (arith, covers, same)) h run m at.stands w sound.in_order some_ready ready) first

  -- while no end is kept somebody can move
  pub somebody_can : IsSomewhere t k terms h end → end ≡ None → 1 ≤ terms.workers → (some_ready : Bool) → (IsTrue some_ready ↔ SomeReady terms.workers h.deques)
      → ((worker : ℕ) → worker < terms.workers → ¬ CanMove h.table some_ready worker) → ⊥
  somebody_can somewhere none some some_ready ready nobody = ∥∥₁_elim sound.of_program (λ x y. absurd x) (λ p.
      ∥∥₁_elim (somewhere p.0 p.1) (λ x y. absurd x) (λ w.
      let covers = sound.quota in let same = p.1.quota in
      let turn = somebodys_turn (machine_of p.0 terms) (omega (arith, covers, same)) (whole_is_depth_first p.0) (λ i. i) 0 w.1
      w.2.stands.standing.lawful (omega (arith, some)) (w.2.going none) in
      nobody turn.0.worker (first_below terms.workers 0 (play.CanMove (machine_of p.0 terms) w.1) turn.0.worker turn.1.first)
      ((can_move_is p.0 terms (omega (arith, covers, same)) h w.0 w.1 w.2.stands turn.0.worker sound.in_order some_ready ready).1 turn.1.first.passes)))

  -- how many words the turn of a worker draws
  pub draws_at : (c : Setting) (run : List Pair) (m : Moment) → IsAtMoment t k terms h end c run m → (worker : ℕ) (seat : Option (Bor Seat)) (idle : Bool)
      → is_some seat ≡ not idle → option_copied seat ≡ seat_at h.table worker → words_drawn m worker ≡ words_of_turn idle
  draws_at c run m at worker None true is copied =
      let covers = sound.quota in let same = at.setting.quota in
      idle_draws c terms (omega (arith, covers, same)) h run m at.stands worker sound.in_order (sym copied)
  draws_at c run m at worker None false is copied = absurd (false≢true is)
  draws_at c run m at worker (Some seat) true is copied = absurd (true≢false is)
  draws_at c run m at worker (Some seat) false is copied =
      let covers = sound.quota in let same = at.setting.quota in
      owner_draws c terms (omega (arith, covers, same)) h run m at.stands worker seat.now (sym copied)

  -- whom a thief robs by what the list tells is whom it robs at the moment
  pub victim_at : (c : Setting) (run : List Pair) (m : Moment) → IsAtMoment t k terms h end c run m → (word : ℕ) (place : Option ℕ)
      → MatchOption place (¬ SomeReady terms.workers h.deques) (IsFirst (reach_of terms.workers h.deques) word (IsReadyAt h.deques))
      → MatchOption place ((p : ℕ) → p < reach (machine_of c terms) m → ¬ IsReady m p) (IsFirst (reach (machine_of c terms) m) word (IsReady m))
  victim_at c run m at word None none = λ p near ready.
      none ((some_ready_is_shown (machine_of c terms) thread_shown h.deques m at.stands.standing.shows.deques).1 (p, near, ready))
  victim_at c run m at word (Some place) first = first_is_shown (machine_of c terms) thread_shown h.deques m word place at.stands.standing.shows.deques first
