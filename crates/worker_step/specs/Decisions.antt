-- What a worker does whose top thread comes to its next action.
use Rattle.std.specs.Prelude.{◌≡◌, ◌⊎◌, ◌≤◌, ◌<◌, ◌+◌, ℕ, true, false, Some, None}
use Rattle.dag_order.specs.declared.thread_id.ThreadId.{ThreadId}
use Rattle.depth_first_list.specs.Actions.{record_words}
use Rattle.open_periods.specs.Periods.{Period}
use Rattle.open_periods.specs.declared.table.PeriodTable.{PeriodTable}
use Rattle.open_periods.specs.Tables.{period_at}
use Rattle.thread_map.specs.Kept.{Kept, kept_under}
use Rattle.thread_frames.specs.Children.{is_delivered}
use Rattle.thread_frames.specs.Views.{children_of}
use Rattle.thread_frames.specs.declared.ended.Ended.{Ended}
use Rattle.thread_frames.specs.declared.next.Next.{Next}
use Rattle.thread_frames.specs.declared.next.Next.TheVariants.{Fork, Join, Alloc, Release, Dummy, Fault, End}
use Rattle.thread_frames.specs.declared.thread.Thread.{Thread}
use Rattle.thread_actions.specs.Acts.{AllocIsCharged}
use Rattle.scheduler_state.specs.declared.scheduler.Scheduler.{Scheduler}
use Rattle.worker_step.specs.declared.decisions.Decision.{Decision}
use Rattle.worker_step.specs.declared.decisions.Decision.TheVariants.{Act, GiveUp, Wait}

-- by the quota k: an action that takes so many words is done, and uses so many of it, or does not fit what is left of it
abbrev pub DecidesByQuota : (k words : ℕ) → Period → Decision → Type 0
DecidesByQuota k words period (Act charge) = AllocIsCharged charge k period words
DecidesByQuota k words period GiveUp = (words ≤ k) × (k < period.used + words)
DecidesByQuota k words period (Wait child) = ⊥

-- the result of a child was delivered to its parent, or is kept
abbrev pub HasResult : Kept Ended → Thread → ThreadId → Type 0
HasResult results top child = (is_delivered child (children_of top) ≡ true) ⊎ ((ended : Ended) × (kept_under results child ≡ Some ended))

-- by the results that are kept, where the result of the child was not delivered: the Join is done where it is kept, and the thread waits for it
-- where it is not
abbrev pub DecidesByKept : Kept Ended → ThreadId → Decision → Type 0
DecidesByKept results child (Act charge) = (ended : Ended) × (kept_under results child ≡ Some ended)
DecidesByKept results child GiveUp = ⊥
DecidesByKept results child (Wait awaited) = (awaited ≡ child) × (kept_under results child ≡ None)

-- by the child that is joined: a Join is done where its result is there, and the thread waits for it where it is not
abbrev pub DecidesByChild : Kept Ended → Thread → ThreadId → Decision → Type 0
DecidesByChild results top child (Act charge) = HasResult results top child
DecidesByChild results top child GiveUp = ⊥
DecidesByChild results top child (Wait awaited) = (awaited ≡ child) × (is_delivered child (children_of top) ≡ false) × (kept_under results child ≡ None)

-- any other action is done
abbrev pub IsAct : Decision → Type 0
IsAct (Act charge) = Unit {0}
IsAct GiveUp = ⊥
IsAct (Wait child) = ⊥

abbrev pub UsesQuota : PeriodTable → (worker k words : ℕ) → Decision → Type 0
UsesQuota table worker k words decision = (period : Period) → period_at table worker ≡ Some period → DecidesByQuota k words period decision

abbrev pub Decides : Scheduler → (worker k : ℕ) → Thread → Next → Decision → Type 0
Decides s worker k top Fork decision = UsesQuota s.table worker k record_words decision
Decides s worker k top (Join child) decision = DecidesByChild s.results top child decision
Decides s worker k top (Alloc words) decision = UsesQuota s.table worker k words decision
Decides s worker k top (Release words) decision = IsAct decision
Decides s worker k top Dummy decision = IsAct decision
Decides s worker k top (Fault fault) decision = IsAct decision
Decides s worker k top End decision = IsAct decision
