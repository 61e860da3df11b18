-- What the test of a period says of the next action of a thread.
use Rattle.std.proofs.Common.{◌≡◌, ℕ, ◌+◌, ◌≤◌, ◌<◌, inl, inr, sym, ap, ◌∙◌, subst, arith}
use Rattle.std.proofs.Math.Logic.{∥∥₁_map}
use Rattle.std.proofs.lemmas.Bool.{le-leb, lt-leb}
use Rattle.std.specs.Prelude.{cond}
use Rattle.depth_first_list.specs.Actions.{Deed, allocates, record_words}
use Rattle.depth_first_list.specs.Facts.{words_at}
use Rattle.depth_first_run.specs.Run.{list_of}
use Rattle.depth_first_run.specs.States.{Setting}
use Rattle.hall_slots.specs.Passed.Books.{charge}
use Rattle.thread_frames.specs.Passed.Events.{MayDo}
use Rattle.hall_slots.specs.Passed.Periods.{open_shown}
use Rattle.hall_slots.specs.Passed.Period.{Period as OpenPeriod}
use Rattle.hall_parts.specs.Passed.Acts.{AllocIsCharged, IsCharged}
use Rattle.hall_parts.specs.Passed.Readiness.{IsReadiness}
use Rattle.hall_parts.specs.Passed.ReadinessVariants.{Ready, Spent}
use Rattle.thread_frames.specs.declared.next.Next.TheVariants.{Fork, Join, Alloc, Release, Dummy, Fault, End}
use Rattle.hall_parts.specs.Passed.Settings.{IsSettingOf}
use Rattle.hall_parts.specs.HallNames.{HallKey, table_of, quota_of, IsOfTheList, deed_of, Next, Thread}
use Rattle.hall_actions.specs.Quotas.{ReadyMayBeDone, SpentIsTooMuch}

-- words of which no more than the quota may be asked for are charged; more are not
all_charged : (k words used : ℕ) → words ≤ k → k < words → used + words ≤ k
all_charged k words used few many = absurd (omega (arith, few, many))

fork_within : (k used : ℕ) → record_words ≤ k → MayDo k used allocates record_words → used + record_words ≤ k
fork_within k used enough may = elim may [
  | inl fits ↦ fits.1
  | inr above ↦ all_charged k record_words used enough above
]

fork_charge : (k charged used : ℕ) → record_words ≤ k → charged ≡ charge k allocates record_words → charged ≡ record_words
fork_charge k charged used enough is = is ∙ ap (λ b. cond b record_words 0) (le-leb record_words k enough)

alloc_fits : (k charged used words : ℕ) → k ≤ 1048576 → used ≤ k → MayDo k used allocates words → charged ≡ charge k allocates words → used + charged ≤ 1048576
alloc_fits k charged used words small within may is = elim may [
  | inl fits ↦ let all = is ∙ ap (λ b. cond b words 0) (le-leb words k fits.0) in let some = fits.1 in omega (arith, all, some, small)
  | inr above ↦ let none = is ∙ ap (λ b. cond b words 0) (lt-leb words k above) in omega (arith, none, within, small)
]

module _ (key : HallKey) (worker charged : ℕ) (top : Thread) (period : OpenPeriod) (enough : record_words ≤ quota_of key) where
  charged_by : (next : Next) (c : Setting) → IsSettingOf (table_of key) (quota_of key) c → (is : IsOfTheList c top next) → IsReadiness period.used (quota_of key) top next (Ready charged)
      → IsCharged charged next c.quota (open_shown worker period) (words_at (list_of c) (IsOfTheList.place is))
  charged_by Fork c of is ready = subst (λ q. period.used + record_words ≤ q) (sym of.quota) (fork_within (quota_of key) period.used enough ready.0)
  charged_by (Join child) c of is ready = tt
  charged_by (Alloc words) c of is ready = subst (λ w. AllocIsCharged charged c.quota (open_shown worker period) w) (sym is.words)
      (subst (λ q. AllocIsCharged charged q (open_shown worker period) words) (sym of.quota) ready)
  charged_by (Release words) c of is ready = tt
  charged_by Dummy c of is ready = tt
  charged_by (Fault fault) c of is ready = tt
  charged_by End c of is ready = tt

  fits_by : (next : Next) → quota_of key ≤ 1048576 → period.used ≤ quota_of key → IsReadiness period.used (quota_of key) top next (Ready charged) → period.used + charged ≤ 1048576
  fits_by Fork small used ready = alloc_fits (quota_of key) charged period.used record_words small used ready.0 ready.1
  fits_by (Join child) small used ready = let none = ready.1 in omega (arith, none, small, used)
  fits_by (Alloc words) small used ready = alloc_fits (quota_of key) charged period.used words small used ready.0 ready.1
  fits_by (Release words) small used ready = omega (arith, ready, small, used)
  fits_by Dummy small used ready = omega (arith, ready, small, used)
  fits_by (Fault fault) small used ready = omega (arith, ready, small, used)
  fits_by End small used ready = omega (arith, ready, small, used)

pub ready_may_be_done : ReadyMayBeDone
ready_may_be_done key worker charged next top period enough small used listed ready = record {
  may = λ c of. ∥∥₁_map (listed c of) (λ is. (is, charged_by key worker charged top period enough next c of is ready));
  fits = fits_by key worker charged top period enough next small used ready;
  forks = λ is. let fork = subst (λ n. IsReadiness period.used (quota_of key) top n (Ready charged)) is ready in fork_charge (quota_of key) charged period.used enough fork.1;
}

over_by : (key : HallKey) (top : Thread) (period : OpenPeriod) (next : Next) (c : Setting) → IsSettingOf (table_of key) (quota_of key) c → (is : IsOfTheList c top next)
    → IsReadiness period.used (quota_of key) top next Spent → c.quota < period.used + charge c.quota (deed_of top next) (words_at (list_of c) (IsOfTheList.place is))
over_by key top period Fork c of is spent = subst (λ q. q < period.used + record_words) (sym of.quota) spent.1
over_by key top period (Join child) c of is spent = absurd spent
over_by key top period (Alloc words) c of is spent =
    subst (λ q. q < period.used + charge q allocates (words_at (list_of c) is.place)) (sym of.quota)
    (subst (λ w. quota_of key < period.used + charge (quota_of key) allocates w) (sym is.words)
    (let over = spent.1 in let all = ap (λ b. cond b words 0) (le-leb words (quota_of key) spent.0) in omega (arith, over, all)))
over_by key top period (Release words) c of is spent = absurd spent
over_by key top period Dummy c of is spent = absurd spent
over_by key top period (Fault fault) c of is spent = absurd spent
over_by key top period End c of is spent = absurd spent

pub spent_is_too_much : SpentIsTooMuch
spent_is_too_much key next top period listed spent = λ c of. ∥∥₁_map (listed c of) (λ is. (
  is,
  subst (λ (d : Deed). c.quota < period.used + charge c.quota d (words_at (list_of c) (IsOfTheList.place is))) (sym is.deed) (over_by key top period next c of is spent),
))
