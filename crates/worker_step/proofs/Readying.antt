-- What the readiness of a top thread is for the decision of its worker, by cases on the next action.
use Rattle.std.proofs.Common.{◌≡◌, ℕ, inl, inr, sym, ap, subst, ◌∙◌}
use Rattle.std.specs.Prelude.{Some, None}
use Rattle.std.proofs.lemmas.Option.{same_Some}
use Rattle.dag_order.specs.declared.thread_id.ThreadId.{ThreadId}
use Rattle.depth_first_list.specs.Actions.{record_words}
use Rattle.open_periods.specs.Periods.{Period, open_shown}
use Rattle.open_periods.specs.declared.seat.Seat.{Seat}
use Rattle.open_periods.specs.declared.table.PeriodTable.{PeriodTable}
use Rattle.open_periods.specs.Tables.{period_at, seat_at, shown_of}
use Rattle.thread_map.specs.Kept.{kept_under}
use Rattle.thread_frames.specs.declared.next.Next.{Next}
use Rattle.thread_frames.specs.declared.next.Next.TheVariants.{Fork, Join, Alloc, Release, Dummy, Fault, End}
use Rattle.thread_frames.specs.declared.thread.Thread.{Thread}
use Rattle.thread_actions.specs.Acts.{AllocIsCharged}
use Rattle.thread_actions.specs.Readiness.{IsReadiness, UsesQuota}
use Rattle.thread_actions.specs.declared.readiness.Readiness.TheVariants.{Ready, Spent, Missing}
use Rattle.scheduler_state.specs.declared.scheduler.Scheduler.{Scheduler}
use Rattle.worker_step.specs.Decisions.{Decides, DecidesByKept, DecidesByQuota}
use Rattle.worker_step.specs.declared.decisions.Decision.{Decision}
use Rattle.worker_step.specs.declared.decisions.Decision.TheVariants.{Act, GiveUp, Wait}

-- the words that are used of a worker's quota are those of its seat
pub used_by_seat : (table : PeriodTable) (worker : ℕ) (seat : Seat) → Some seat ≡ seat_at table worker → (period : Period)
    → period_at table worker ≡ Some period → period.used ≡ seat.period.used
used_by_seat table worker seat is period at =
    ap (λ (p : Period). p.used) (same_Some period (open_shown worker seat.period) (sym at ∙ ap (shown_of worker) (sym is)))

module _ (s : Scheduler) (worker k used : ℕ) (top : Thread) (of : (period : Period) → period_at s.table worker ≡ Some period → period.used ≡ used) where
  fits : (words charged : ℕ) → UsesQuota used k words (Ready charged) → (period : Period) → period_at s.table worker ≡ Some period
      → AllocIsCharged charged k period words
  fits words charged may period at = subst (λ u. UsesQuota u k words (Ready charged)) (sym (of period at)) may

  over : (words : ℕ) → UsesQuota used k words Spent → (period : Period) → period_at s.table worker ≡ Some period
      → DecidesByQuota k words period GiveUp
  over words spent period at = subst (λ u. UsesQuota u k words Spent) (sym (of period at)) spent

  -- the action may come
  pub ready_decides : (next : Next) (charged : ℕ) → IsReadiness used k top next (Ready charged) → Decides s worker k top next (Act charged)
  ready_decides Fork charged ready = fits record_words charged ready
  ready_decides (Join child) charged ready = inl ready.0
  ready_decides (Alloc words) charged ready = fits words charged ready
  ready_decides (Release words) charged ready = tt
  ready_decides Dummy charged ready = tt
  ready_decides (Fault fault) charged ready = tt
  ready_decides End charged ready = tt

  -- the quota is spent
  pub spent_decides : (next : Next) → IsReadiness used k top next Spent → Decides s worker k top next GiveUp
  spent_decides Fork spent = over record_words spent
  spent_decides (Join child) spent = absurd spent
  spent_decides (Alloc words) spent = over words spent
  spent_decides (Release words) spent = absurd spent
  spent_decides Dummy spent = absurd spent
  spent_decides (Fault fault) spent = absurd spent
  spent_decides End spent = absurd spent

  -- the child that is joined was not delivered: what is kept of it decides
  pub missing_decides : (next : Next) (child : ThreadId) → IsReadiness used k top next (Missing child) → (decision : Decision)
      → DecidesByKept s.results child decision → Decides s worker k top next decision
  missing_decides Fork child missing decision kept = absurd missing
  missing_decides (Join own) child missing (Act charged) kept = inr (kept.0, subst (λ x. kept_under s.results x ≡ Some kept.0) missing.0 kept.1)
  missing_decides (Join own) child missing GiveUp kept = absurd kept
  missing_decides (Join own) child missing (Wait awaited) kept =
      (kept.0 ∙ missing.0, missing.1, subst (λ x. kept_under s.results x ≡ None) missing.0 kept.1)
  missing_decides (Alloc words) child missing decision kept = absurd missing
  missing_decides (Release words) child missing decision kept = absurd missing
  missing_decides Dummy child missing decision kept = absurd missing
  missing_decides (Fault fault) child missing decision kept = absurd missing
  missing_decides End child missing decision kept = absurd missing
