-- Whether the top thread of a worker may do its next action.
use Rattle.std.specs.Prelude.{◌≡◌, ◌≤◌, ◌<◌, ◌+◌, ℕ, true, false}
use Rattle.dag_order.specs.declared.thread_id.ThreadId.{ThreadId}
use Rattle.depth_first_list.specs.Actions.{allocates, record_words}
use Rattle.open_periods.specs.Passed.Books.{charge}
use Rattle.thread_frames.specs.Passed.Events.{MayDo}
use Rattle.thread_frames.specs.Children.{is_delivered}
use Rattle.thread_frames.specs.Views.{children_of}
use Rattle.thread_frames.specs.declared.next.Next.{Next}
use Rattle.thread_frames.specs.declared.next.Next.TheVariants.{Fork, Join, Alloc, Release, Dummy, Fault, End}
use Rattle.thread_frames.specs.declared.thread.Thread.{Thread}
use Rattle.thread_actions.specs.declared.readiness.Readiness.{Readiness}
use Rattle.thread_actions.specs.declared.readiness.Readiness.TheVariants.{Ready, Spent, Missing}

-- by the quota k, of which `used` words are used: an action that takes so many words may come, and uses so many of it, or it does not fit the
-- rest
abbrev pub UsesQuota : (used k words : ℕ) → Readiness → Type 0
UsesQuota used k words (Ready charged) = MayDo k used allocates words × (charged ≡ charge k allocates words)
UsesQuota used k words Spent = (words ≤ k) × (k < used + words)
UsesQuota used k words (Missing child) = ⊥

-- by the child that is joined: the Join may come if its result was delivered, and uses no words
abbrev pub UsesResult : Thread → ThreadId → Readiness → Type 0
UsesResult top child (Ready charged) = (is_delivered child (children_of top) ≡ true) × (charged ≡ 0)
UsesResult top child Spent = ⊥
UsesResult top child (Missing missing) = (missing ≡ child) × (is_delivered child (children_of top) ≡ false)

-- always, and it uses no words
abbrev pub MayAlways : Readiness → Type 0
MayAlways (Ready charged) = charged ≡ 0
MayAlways Spent = ⊥
MayAlways (Missing child) = ⊥

-- whether a thread may do this action in a period that used so many words of a quota k
abbrev pub IsReadiness : (used k : ℕ) → Thread → Next → Readiness → Type 0
IsReadiness used k top Fork readiness = UsesQuota used k record_words readiness
IsReadiness used k top (Join child) readiness = UsesResult top child readiness
IsReadiness used k top (Alloc words) readiness = UsesQuota used k words readiness
IsReadiness used k top (Release words) readiness = MayAlways readiness
IsReadiness used k top Dummy readiness = MayAlways readiness
IsReadiness used k top (Fault fault) readiness = MayAlways readiness
IsReadiness used k top End readiness = MayAlways readiness
