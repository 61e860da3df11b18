-- What the decision of a worker is for its step, by cases on the next action.
use Rattle.std.proofs.Common.{◌≡◌, ℕ, ◌+◌, ◌≤◌, ◌<◌, List, [], ◌∷◌, inl, inr, refl, sym, ap, subst, ◌∙◌, arith, true≢false}
use Rattle.std.specs.Prelude.{IsTrue, false, Some, None, Ok, cond}
use Rattle.std.proofs.Math.Logic.{∥∥₁_elim}
use Rattle.std.proofs.lemmas.Bool.{le-leb, lt-leb}
use Rattle.dag_order.specs.LabelOrder.{fork_of}
use Rattle.dag_order.specs.declared.thread_id.ThreadId.{ThreadId}
use Rattle.deque_list.specs.declared.deque_id.DequeId.{DequeId}
use Rattle.depth_first_list.specs.Actions.{allocates, joins, record_words}
use Rattle.depth_first_list.specs.Facts.{words_at}
use Rattle.depth_first_run.specs.States.{Setting}
use Rattle.open_periods.specs.Passed.Books.{charge}
use Rattle.open_periods.specs.Passed.Moments.{Moment}
use Rattle.open_periods.specs.Passed.Machine.{HasEnded}
use Rattle.open_periods.specs.Passed.Play.{taken_by}
use Rattle.open_periods.specs.Passed.DequeMachineRuns.{Pair}
use Rattle.node_table.specs.Table.{Table}
use Rattle.open_periods.specs.Periods.{Period}
use Rattle.open_periods.specs.Tables.{period_at}
use Rattle.depth_first_run.specs.Run.{list_of}
use Rattle.thread_map.specs.Kept.{Kept, kept_under}
use Rattle.scheduler_state.specs.Passed.Settings.{IsSettingOf}
use Rattle.thread_frames.specs.Actions.{IsOfTheList, deed_of, TellsWords, is_there}
use Rattle.thread_frames.specs.Children.{is_delivered}
use Rattle.thread_frames.specs.Views.{label_of, children_of, newest}
use Rattle.thread_frames.specs.declared.ended.Ended.{Ended}
use Rattle.thread_frames.specs.declared.next.Next.{Next}
use Rattle.thread_frames.specs.declared.next.Next.TheVariants.{Fork, Join, Alloc, Release, Dummy, Fault, End}
use Rattle.thread_frames.specs.declared.thread.Thread.{Thread}
use Rattle.thread_actions.specs.Acts.{AllocIsCharged, IsCharged}
use Rattle.list_changes.specs.Shown.{Stands}
use Rattle.scheduler_state.specs.declared.scheduler.Scheduler.{Scheduler}
use Rattle.scheduler_state.specs.declared.event.Event.{Event}
use Rattle.scheduler_state.specs.Held.{held_under}
use Rattle.scheduler_state.specs.Moments.{terms_of, HasRun}
use Rattle.open_periods.specs.Passed.Terms.{machine_of}
use Rattle.scheduler_state.proofs.AtEnd.{parent_awaits}
use Rattle.thread_frames.proofs.Bounds.{release_within, end_within}
use Rattle.scheduler_state.proofs.Joining.{awaited_one}
use Rattle.worker_step.specs.Decisions.{Decides}
use Rattle.worker_step.specs.Memory.{MayAct, words_taken_by}
use Rattle.thread_actions.specs.Results.{TakesResult, IsToCome, FirstAwaits}
use Rattle.worker_step.specs.Steps.{IsBeforeAction, Comes}
use Rattle.worker_step.specs.declared.decisions.Decision.TheVariants as decisions
use Rattle.worker_step.proofs.Owning.{quota_is, Known, used_within_quota, alloc_within, joins_within, no_join_by, no_result, words_out}
use Rattle.worker_step.proofs.TakingIn.{joined_ended, delivered_is, can_come, before_later, now_there, taken_in_comes}

-- the words that are asked are those that the action takes
pub asked_is : (top : Thread) (next : Next) (words : ℕ) → TellsWords top next words → taken_by (deed_of top next) words ≡ words_taken_by next
asked_is top Fork words told = told
asked_is top (Join child) words told = refl
asked_is top (Alloc asked) words told = told
asked_is top (Release given) words told = refl
asked_is top Dummy words told = refl
asked_is top (Fault fault) words told = refl
asked_is top End words told = refl

-- a Fork that may come fits what is left of the quota
fork_fits : (k charged : ℕ) (period : Period) → record_words ≤ k → AllocIsCharged charged k period record_words → period.used + record_words ≤ k
fork_fits k charged period enough may = elim may.0 [
  | inl fits ↦ fits.1
  | inr above ↦ absurd (omega (arith, enough, above))
]

-- an Alloc leaves the period with what may be counted
alloc_counts : (k charged words : ℕ) (period : Period) → k ≤ 1048576 → period.used ≤ 1048576 → AllocIsCharged charged k period words → period.used + charged ≤ 1048576
alloc_counts k charged words period bounded used may = elim may.0 [
  | inl fits ↦ let all = may.1 ∙ ap (λ b. cond b words 0) (le-leb words k fits.0) in let within = fits.1 in omega (arith, all, within, bounded)
  | inr above ↦ let none = may.1 ∙ ap (λ b. cond b words 0) (lt-leb words k above) in omega (arith, none, used)
]

-- the parent that stands directly below a thread waits for its result
parent_waits : (t : Table) (k limit : ℕ) (s : Scheduler) (worker : ℕ) (id : DequeId) (top : Thread) → IsBeforeAction t k limit s worker id top End
    → (items : List Thread) → Stands s.list worker id items → FirstAwaits top items
parent_waits t k limit s worker id top b [] its = tt
parent_waits t k limit s worker id top b (parent ∷ below) its = λ ended is label func.
    let one = awaited_one (label_of parent) ended (children_of parent) in
    let sound = b.sound (parent ∷ below) its in
    ∥∥₁_elim sound.of_program one (λ p. ∥∥₁_elim (sound.somewhere p.0 p.1) one (λ a. ∥∥₁_elim (b.of_the_list p.0 p.1) one (λ i. ∥∥₁_elim sound.in_order one (λ o.
    parent_awaits s parent below its top p.0 (terms_of s limit) (quota_is t k p.0 p.1 sound.quota) a.0 a.1 a.2 i o ended is label func))))

module _ (t : Table) (k limit : ℕ) (s : Scheduler) {worker : ℕ} {id : DequeId} {items : List Thread} (stands : Stands s.list worker id items) (top : Thread) where
  -- a Fork, at whatever setting of the program
  fork_within : (b : IsBeforeAction t k limit s worker id top Fork) (used : ℕ) → Decides s worker k top Fork (decisions.Act used)
      → (c : Setting) → IsSettingOf t k c → (period : Period) → period_at s.table worker ≡ Some period → period.used + record_words ≤ c.quota
  fork_within b used d c of period is =
      subst (λ q. period.used + record_words ≤ q) (sym of.quota) (fork_fits k used period (b.sound items stands).quota (d period is))

  -- an action that is done leaves the period within its quota
  pub charged_within : (next : Next) (b : IsBeforeAction t k limit s worker id top next) (used : ℕ) → Decides s worker k top next (decisions.Act used)
      → (c : Setting) → IsSettingOf t k c → (i : IsOfTheList c top next) → (period : Period) → period_at s.table worker ≡ Some period
      → period.used + charge c.quota (deed_of top next) (words_at (list_of c) i.place) ≤ c.quota
  charged_within Fork b used d c of i period is = fork_within b used d c of period is
  charged_within (Join child) b used d c of i period is = used_within_quota t k limit s stands top (Join child) b c of period is
  charged_within (Alloc words) b used d c of i period is =
      alloc_within t k limit s stands top (Alloc words) b c of period is used words (words_at (list_of c) i.place) i.words (d period is)
  charged_within (Release words) b used d c of i period is = used_within_quota t k limit s stands top (Release words) b c of period is
  charged_within Dummy b used d c of i period is = used_within_quota t k limit s stands top Dummy b c of period is
  charged_within (Fault fault) b used d c of i period is = used_within_quota t k limit s stands top (Fault fault) b c of period is
  charged_within End b used d c of i period is = used_within_quota t k limit s stands top End b c of period is

  -- and uses of the quota what it was decided to
  pub is_charged : (next : Next) (b : IsBeforeAction t k limit s worker id top next) (used : ℕ) → ((words : ℕ) → next ≡ Alloc words → (period : Period)
      → period_at s.table worker ≡ Some period → AllocIsCharged used k period words)
      → (next ≡ Fork → (period : Period) → period_at s.table worker ≡ Some period → period.used + record_words ≤ k)
      → (c : Setting) → IsSettingOf t k c → (i : IsOfTheList c top next) → (period : Period) → period_at s.table worker ≡ Some period
      → IsCharged used next c.quota period (words_at (list_of c) i.place)
  is_charged Fork b used alloc fork c of i period is = subst (λ q. period.used + record_words ≤ q) (sym of.quota) (fork refl period is)
  is_charged (Join child) b used alloc fork c of i period is = tt
  is_charged (Alloc words) b used alloc fork c of i period is =
      subst (λ w. AllocIsCharged used c.quota period w) (sym i.words) (subst (λ q. AllocIsCharged used q period words) (sym of.quota) (alloc words refl period is))
  is_charged (Release words) b used alloc fork c of i period is = tt
  is_charged Dummy b used alloc fork c of i period is = tt
  is_charged (Fault fault) b used alloc fork c of i period is = tt
  is_charged End b used alloc fork c of i period is = tt

  -- a child that is joined has ended
  pub ended_before : (next : Next) (b : IsBeforeAction t k limit s worker id top next) (used : ℕ) → Decides s worker k top next (decisions.Act used)
      → (c : Setting) → Known t k limit s stands top next b c → (run : List Pair) (m : Moment) → HasRun c (terms_of s limit) (held_under s stands top) run m
      → (child : ℕ) → deed_of top next ≡ joins child → HasEnded (machine_of c (terms_of s limit)) m (fork_of (label_of top) child)
  ended_before Fork b used d c known run m at child is = absurd (no_join_by _ child refl is)
  ended_before (Join own) b used d c known run m at child is = joined_ended t k limit s stands top own b d c known.of known.action known.order run m at child is
  ended_before (Alloc words) b used d c known run m at child is = absurd (no_join_by _ child refl is)
  ended_before (Release words) b used d c known run m at child is = absurd (no_join_by _ child refl is)
  ended_before Dummy b used d c known run m at child is = absurd (no_join_by _ child refl is)
  ended_before (Fault fault) b used d c known run m at child is = absurd (no_join_by _ child refl is)
  ended_before End b used d c known run m at child is = absurd (no_join_by _ child refl is)

  -- the quota is spent where the deque is given up
  pub over_quota : (next : Next) (b : IsBeforeAction t k limit s worker id top next) → Decides s worker k top next decisions.GiveUp
      → (c : Setting) → IsSettingOf t k c → (i : IsOfTheList c top next) → (period : Period) → period_at s.table worker ≡ Some period
      → c.quota < period.used + charge c.quota (deed_of top next) (words_at (list_of c) i.place)
  over_quota Fork b d c of i period is = subst (λ q. q < period.used + record_words) (sym of.quota) (d period is).1
  over_quota (Join child) b d c of i period is = absurd d
  over_quota (Alloc words) b d c of i period is =
      subst (λ q. q < period.used + charge q allocates (words_at (list_of c) i.place)) (sym of.quota)
      (subst (λ w. k < period.used + charge k allocates w) (sym i.words)
      (let over = (d period is).1 in let all = ap (λ b. cond b words 0) (le-leb words k (d period is).0) in omega (arith, over, all)))
  over_quota (Release words) b d c of i period is = absurd d
  over_quota Dummy b d c of i period is = absurd d
  over_quota (Fault fault) b d c of i period is = absurd d
  over_quota End b d c of i period is = absurd d

  -- the action may be done, where its words fit and the result of a child that is joined was delivered
  pub may_act : (next : Next) (b : IsBeforeAction t k limit s worker id top next) (used : ℕ) → ((words : ℕ) → next ≡ Alloc words → (period : Period)
      → period_at s.table worker ≡ Some period → AllocIsCharged used k period words)
      → (next ≡ Fork → (period : Period) → period_at s.table worker ≡ Some period → period.used + record_words ≤ k)
      → k ≤ 1048576 → s.pool.live + words_taken_by next ≤ s.pool.capacity
      → ((child : ThreadId) → next ≡ Join child → IsTrue (is_there (newest (children_of top)))) → MayAct used s worker id top next
  may_act Fork b used alloc fork bounded fits there = ((λ period is. let within = fork refl period is in omega (arith, within, bounded)), fits)
  may_act (Join child) b used alloc fork bounded fits there = (there child refl, joins_within t k limit s stands top (Join child) b)
  may_act (Alloc words) b used alloc fork bounded fits there =
      ((λ period is. alloc_counts k used words period bounded (b.can.used period is) (alloc words refl period is)), fits)
  may_act (Release words) b used alloc fork bounded fits there =
      let few = release_within top words b.can.placed b.can.is_next in let out = words_out t k limit s stands top (Release words) b in omega (arith, few, out)
  may_act Dummy b used alloc fork bounded fits there = tt
  may_act (Fault fault) b used alloc fork bounded fits there = let out = words_out t k limit s stands top (Fault fault) b in omega (arith, out)
  may_act End b used alloc fork bounded fits there = (
    (let few = end_within top b.can.placed in let out = words_out t k limit s stands top End b in omega (arith, few, out)),
    no_result t k limit s stands top End b,
    λ others its. parent_waits t k limit s worker id top b others its,
  )

  -- the kept result of a child that is joined may come, where none was delivered
  pub may_come : (next : Next) (b : IsBeforeAction t k limit s worker id top next) (used : ℕ) → Decides s worker k top next (decisions.Act used)
      → (child : ThreadId) → next ≡ Join child → is_delivered child (children_of top) ≡ false → IsToCome s.results top child
  may_come next b used d child is missing = joined (subst (λ n. IsBeforeAction t k limit s worker id top n) is b) (subst (λ n. Decides s worker k top n (decisions.Act used)) is d)
    where
      joined : (b : IsBeforeAction t k limit s worker id top (Join child)) → Decides s worker k top (Join child) (decisions.Act used) → IsToCome s.results top child
      joined b d = elim d [
        | inl delivered ↦ absurd (true≢false (sym delivered ∙ missing))
        | inr kept ↦ record { ended = kept.0; kept = kept.1; awaited = can_come t k limit s stands top child b missing kept.0 kept.1 }
      ]

  -- what is used of the quota, where the action is known
  pub alloc_charged : (next : Next) (used : ℕ) → Decides s worker k top next (decisions.Act used) → (words : ℕ) → next ≡ Alloc words → (period : Period)
      → period_at s.table worker ≡ Some period → AllocIsCharged used k period words
  alloc_charged next used d words is period at = subst (λ n. Decides s worker k top n (decisions.Act used)) is d period at

  pub fork_charged : (next : Next) (used : ℕ) → Decides s worker k top next (decisions.Act used) → record_words ≤ k → next ≡ Fork → (period : Period)
      → period_at s.table worker ≡ Some period → period.used + record_words ≤ k
  fork_charged next used d enough is period at = fork_fits k used period enough (subst (λ n. Decides s worker k top n (decisions.Act used)) is d period at)

  -- a thread that waits joins this child, whose result is not there
  pub waits_for : (next : Next) (child : ThreadId) (its : (p : Period) × (period_at s.table worker ≡ Some p)) → Decides s worker k top next (decisions.Wait child)
      → (next ≡ Join child) × (is_delivered child (children_of top) ≡ false) × (kept_under s.results child ≡ None)
  waits_for Fork child its d = absurd (d its.0 its.1)
  waits_for (Join own) child its d = (ap Join (sym d.0), subst (λ x. is_delivered x (children_of top) ≡ false) (sym d.0) d.1, subst (λ x. kept_under s.results x ≡ None) (sym d.0) d.2)
  waits_for (Alloc words) child its d = absurd (d its.0 its.1)
  waits_for (Release words) child its d = absurd d
  waits_for Dummy child its d = absurd d
  waits_for (Fault fault) child its d = absurd d
  waits_for End child its d = absurd d

-- ---- with the result of the child that is joined

module _ (t : Table) (k limit : ℕ) (s : Scheduler) (worker : ℕ) (id : DequeId) (top : Thread) (next : Next) (b : IsBeforeAction t k limit s worker id top next)
    (results : Kept Ended) (now : Thread) (none : (results ≡ s.results) × (now ≡ top)) where
  unchanged : IsBeforeAction t k limit (record s { results = results }) worker id now next
  unchanged = subst (λ r. IsBeforeAction t k limit (record s { results = r }) worker id now next) (sym none.0)
      (subst (λ x. IsBeforeAction t k limit s worker id x next) (sym none.1) b)

  unchanged_comes : {items : List Thread} (stands : Stands s.list worker id items) (after : Scheduler) (told : Event)
      → Comes t k limit worker (held_under (record s { results = results }) (record { left = stands.left; right = stands.right; deques_are = stands.deques_are }) now)
      (record s { results = results }) after (Ok told) → Comes t k limit worker (held_under s stands top) s after (Ok told)
  unchanged_comes stands after told comes =
      subst (λ x. Comes t k limit worker (held_under s stands x) s after (Ok told)) none.1
      (subst (λ r. Comes t k limit worker (held_under (record s { results = r }) (record { left = stands.left; right = stands.right; deques_are = stands.deques_are }) now)
      (record s { results = r }) after (Ok told)) none.0 comes)

-- the thread is before the same action
pub before_taken : (t : Table) (k limit : ℕ) (s : Scheduler) (worker : ℕ) (id : DequeId) (top : Thread) (next : Next) (b : IsBeforeAction t k limit s worker id top next)
    (results : Kept Ended) (now : Thread) → TakesResult next s.results results top now → IsBeforeAction t k limit (record s { results = results }) worker id now next
before_taken t k limit s worker id top Fork b results now takes = unchanged t k limit s worker id top Fork b results now takes
before_taken t k limit s worker id top (Join child) b results now takes = elim takes [
  | inl same ↦ unchanged t k limit s worker id top (Join child) b results now same.1
  | inr come ↦ before_later t k limit s worker id top child b come.0 results now come.1
]
before_taken t k limit s worker id top (Alloc words) b results now takes = unchanged t k limit s worker id top (Alloc words) b results now takes
before_taken t k limit s worker id top (Release words) b results now takes = unchanged t k limit s worker id top (Release words) b results now takes
before_taken t k limit s worker id top Dummy b results now takes = unchanged t k limit s worker id top Dummy b results now takes
before_taken t k limit s worker id top (Fault fault) b results now takes = unchanged t k limit s worker id top (Fault fault) b results now takes
before_taken t k limit s worker id top End b results now takes = unchanged t k limit s worker id top End b results now takes

-- a child that it joins was delivered to it
pub there_taken : (t : Table) (k limit : ℕ) (s : Scheduler) {worker : ℕ} {id : DequeId} {items : List Thread} (stands : Stands s.list worker id items) (top : Thread) (next : Next)
    (b : IsBeforeAction t k limit s worker id top next) (results : Kept Ended) (now : Thread) → TakesResult next s.results results top now
    → (child : ThreadId) → next ≡ Join child → IsTrue (is_there (newest (children_of now)))
there_taken t k limit s {worker} {id} stands top next b results now takes child is =
    joined (subst (λ n. IsBeforeAction t k limit s worker id top n) is b) (subst (λ n. TakesResult n s.results results top now) is takes)
  where
    joined : IsBeforeAction t k limit s worker id top (Join child) → TakesResult (Join child) s.results results top now → IsTrue (is_there (newest (children_of now)))
    joined b takes = elim takes [
      | inl same ↦ subst (λ x. IsTrue (is_there (newest (children_of x)))) (sym same.1.1) (delivered_is t k limit s stands top child b same.0)
      | inr come ↦ now_there t k limit s stands top child b come.0 results now come.1
    ]

-- and what it comes to is what the step comes to
pub comes_taken : (t : Table) (k limit : ℕ) (s : Scheduler) {worker : ℕ} {id : DequeId} {items : List Thread} (stands : Stands s.list worker id items) (top : Thread) (next : Next)
    (b : IsBeforeAction t k limit s worker id top next) (results : Kept Ended) (now : Thread) → TakesResult next s.results results top now → (after : Scheduler) (told : Event)
    → Comes t k limit worker (held_under (record s { results = results }) (record { left = stands.left; right = stands.right; deques_are = stands.deques_are }) now)
    (record s { results = results }) after (Ok told) → Comes t k limit worker (held_under s stands top) s after (Ok told)
comes_taken t k limit s {worker} {id} stands top Fork b results now takes after told comes = unchanged_comes t k limit s worker id top Fork b results now takes stands after told comes
comes_taken t k limit s {worker} {id} stands top (Join child) b results now takes after told comes = elim takes [
  | inl same ↦ unchanged_comes t k limit s worker id top (Join child) b results now same.1 stands after told comes
  | inr come ↦ taken_in_comes t k limit s stands top child b come.0 results now come.1 after told comes
]
comes_taken t k limit s {worker} {id} stands top (Alloc words) b results now takes after told comes =
    unchanged_comes t k limit s worker id top (Alloc words) b results now takes stands after told comes
comes_taken t k limit s {worker} {id} stands top (Release words) b results now takes after told comes =
    unchanged_comes t k limit s worker id top (Release words) b results now takes stands after told comes
comes_taken t k limit s {worker} {id} stands top Dummy b results now takes after told comes = unchanged_comes t k limit s worker id top Dummy b results now takes stands after told comes
comes_taken t k limit s {worker} {id} stands top (Fault fault) b results now takes after told comes =
    unchanged_comes t k limit s worker id top (Fault fault) b results now takes stands after told comes
comes_taken t k limit s {worker} {id} stands top End b results now takes after told comes = unchanged_comes t k limit s worker id top End b results now takes stands after told comes
