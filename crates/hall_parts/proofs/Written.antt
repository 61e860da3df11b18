-- What an action did in its lane is what the law of the hall asks for.
use Rattle.std.proofs.Common.{◌≡◌, ℕ, List, [], ◌∷◌, map, sym, ap, subst, ◌∙◌}
use Rattle.hall_parts.specs.HallNames.{ActionId, Thread, thread_shown, Hall, open_for}
use Rattle.dag_order.specs.declared.birth.Birth.{Birth}
use Rattle.hall_slots.specs.Passed.DepthFirstListActions.{Action}
use Rattle.open_periods.specs.Periods.{open_shown}
use Rattle.open_periods.specs.Tables.{noted}
use Rattle.open_periods.specs.declared.period.Period.{Period as OpenPeriod}
use Rattle.moment_laws.specs.Passed.Parts as parts
use Rattle.hall_slots.specs.Passed.ListChangesEvents.{DidAlone, DidFork}
use Rattle.hall_slots.specs.Passed.Writing.{IsAtWork, ActsInLane, acts_alone, forks_child}
use Rattle.hall_parts.specs.Here.{ShowsOwn}

module _ {h : Hall} {worker : ℕ} (w : IsAtWork h worker) (k : ℕ) (l : List Action) (top after : Thread) (under threads : List Thread)
    (before behind : OpenPeriod) (name : ActionId) (words place : ℕ) (own : ShowsOwn w top under before) where
  threads_are : threads ≡ after ∷ under → thread_shown after ∷ w.under ≡ map thread_shown threads
  threads_are are = ap (λ u. thread_shown after ∷ u) own.under_is ∙ sym (ap (map thread_shown) are)

  period_is : (births : List Birth) → open_shown worker behind ≡ noted (open_shown worker before) name words births
      → open_shown worker behind ≡ noted (open_for worker w.period) name words births
  period_is births is = is ∙ ap (λ p. noted p name words births) (sym own.period_is)

  pub alone_written : DidAlone k l (open_shown worker before) (thread_shown top) (thread_shown after) name words place → threads ≡ after ∷ under
      → open_shown worker behind ≡ noted (open_shown worker before) name words []
      → ActsInLane k l w place name (map thread_shown threads) words [] × (open_shown worker behind ≡ noted (open_for worker w.period) name words [])
  alone_written did are is = (
    subst (λ ts. ActsInLane k l w place name ts words []) (threads_are are) (acts_alone (thread_shown after) words
        (subst (λ t. DidAlone k l (open_for worker w.period) t (thread_shown after) name words place) (sym own.top_is)
        (subst (λ p. DidAlone k l p (thread_shown top) (thread_shown after) name words place) (sym own.period_is) did))),
    period_is [] is,
  )

  abbrev birth : ℕ → List Birth
  birth ordinal = record { parent = top.id; ordinal = ordinal } ∷ []

  pub forked_written : (child : Thread) (ordinal : ℕ)
      → DidFork k l (open_shown worker before) (thread_shown top) (thread_shown after) (thread_shown child) name words place ordinal
      → threads ≡ child ∷ after ∷ under → open_shown worker behind ≡ noted (open_shown worker before) name words (birth ordinal)
      → ActsInLane k l w place name (map thread_shown threads) words (birth ordinal) × (open_shown worker behind ≡ noted (open_for worker w.period) name words (birth ordinal))
  forked_written child ordinal did are is = (
    subst (λ ts. ActsInLane k l w place name ts words (birth ordinal))
        (ap (λ u. thread_shown child ∷ thread_shown after ∷ u) own.under_is ∙ sym (ap (map thread_shown) are))
        (subst (λ t. ActsInLane k l w place name (thread_shown child ∷ thread_shown after ∷ w.under) words (record { parent = parts.Thread.id t; ordinal = ordinal } ∷ []))
        own.top_is (forks_child (thread_shown after) (thread_shown child) words ordinal
        (subst (λ t. DidFork k l (open_for worker w.period) t (thread_shown after) (thread_shown child) name words place ordinal) (sym own.top_is)
        (subst (λ p. DidFork k l p (thread_shown top) (thread_shown after) (thread_shown child) name words place ordinal) (sym own.period_is) did)))),
    period_is (birth ordinal) is,
  )
