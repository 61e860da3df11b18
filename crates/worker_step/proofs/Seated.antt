-- The limit of deques does not stop a worker that owns one.
use Rattle.std.proofs.Common.{◌≡◌, ℕ, ◌≤◌, List, sym, subst}
use Rattle.std.specs.Prelude.{Some}
use Rattle.deque_list.specs.declared.deque_id.DequeId.{DequeId}
use Rattle.depth_first_list.specs.Actions.{record_words}
use Rattle.depth_first_run.specs.States.{Setting}
use Rattle.open_periods.specs.Passed.Moments.{Moment}
use Rattle.open_periods.specs.Passed.DequeMachineRuns.{Pair}
use Rattle.open_periods.specs.Passed.Terms.{Terms}
use Rattle.node_table.specs.Table.{Table}
use Rattle.open_periods.specs.Tables.{seat_at, deque_at}
use Rattle.scheduler_state.specs.Passed.Settings.{IsSettingOf}
use Rattle.scheduler_state.specs.Held.{Held}
use Rattle.scheduler_state.specs.Moments.{HasRun}
use Rattle.scheduler_state.specs.Outcomes.{HasDequesLeft}
use Rattle.scheduler_state.proofs.AtTop.{seat_of_deque}
use Rattle.scheduler_state.proofs.Sitting.{owner_has_deques_left}

pub seated_has_left : {t : Table} {k : ℕ} → record_words ≤ k → (c : Setting) → IsSettingOf t k c → (terms : Terms) (h : Held) (run : List Pair) (m : Moment)
    → HasRun c terms h run m → (worker word : ℕ) → (id : DequeId) × (deque_at h.table worker ≡ Some id) → HasDequesLeft c terms worker word m
seated_has_left {t} {k} quota c of terms h run m at worker word owner =
    let there = seat_of_deque (seat_at h.table worker) owner.0 owner.1 in
    owner_has_deques_left c terms (subst (λ n. record_words ≤ n) (sym of.quota) quota) h run m at worker word there.0 there.1
