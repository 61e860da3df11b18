-- What an owner does is what its looks show.
use Rattle.std.proofs.Common.{◌≡◌, ◌≢◌, ℕ, ◌+◌, ◌<◌, ◌≤◌, nat_le, cond, true, false, Bool, List, [], ◌∷◌, ◌++◌, inl, inr, refl, sym, ap, subst, ◌∙◌, arith}
use Rattle.open_periods.specs.Passed.Actions.{Deed, forks, joins, allocates, releases, dummy, faults, ends}
use Rattle.open_periods.specs.Passed.Facts.{deed_at, words_at}
use Rattle.open_periods.specs.Passed.DepthFirstListRuns.{IsDepthFirst}
use Rattle.dag_order.specs.declared.action_id.ActionId.{ActionId}
use Rattle.deque_machine.specs.Lists.{Among}
use Rattle.deque_machine.specs.Books.{charge, charge_at}
use Rattle.deque_machine.proofs.Lists.{among_here}
use Rattle.deque_machine.specs.Moments.{Moment}
use Rattle.deque_machine.specs.Machine.{Setting, does}
use Rattle.moment_laws.specs.Passed.Parts.{Child, Thread, Result, IsKept}
use Rattle.moment_laws.specs.Passed.MomentShownEvents.{IsNextOf, MayDo}
use Rattle.moment_laws.specs.Passed.ListChangesEvents.{DidJoin}
use Rattle.hall_machine.specs.Values.{Hall}
use Rattle.hall_machine.specs.Steps.{Step}
use Rattle.hall_machine.specs.Standing.{HallStands}
use Rattle.hall_machine.specs.Writing.{IsAtWork, ActsInLane, acts_alone, joins_handed, forks_child, IsHanded}
use Rattle.hall_machine.specs.Receipts.{Look}
use Rattle.hall_interleavings.specs.Needs.{NeedsList, for_join}
use Rattle.hall_interleavings.specs.Decisions.{Decides, decides_join, decides_action}
use Rattle.hall_interleavings.proofs.Top.{used_within, kept_is_missing}

-- an action that a thread does by itself joins nobody, and fits
alone_joins_nobody : (k used words : ℕ) (deed : Deed) → MayDo k used deed words → (ordinal : ℕ) → deed ≢ joins ordinal
alone_joins_nobody k used words deed may ordinal is = subst (λ d. MayDo k used d words) is may

alone_fits : (k used words : ℕ) (deed : Deed) → MayDo k used deed words → used ≤ k → used + charge k deed words ≤ k
alone_fits k used words (forks child) may within = absurd may
alone_fits k used words (joins child) may within = absurd may
alone_fits k used words dummy may within = absurd may
alone_fits k used words ends may within = absurd may
alone_fits k used words releases may within = omega (arith, within)
alone_fits k used words faults may within = omega (arith, within)
alone_fits k used words allocates may within = by_test (nat_le words k) refl
  where
    by_test : (b : Bool) → nat_le words k ≡ b → used + cond b words 0 ≤ k
    by_test false is = omega (arith, within)
    by_test true is = elim may [
      | inl small ↦ let fits = small.1 in omega (arith, fits)
      | inr large ↦ absurd (let test = is in grind (arith, large, test))
    ]

module _ (s : Setting) (some : 0 < s.quota) (list : IsDepthFirst s.quota s.list) (h : Hall) (steps : List Step) (m : Moment) (at : HallStands s h steps m) (worker : ℕ)
    (w : IsAtWork h worker) (looks : List Look) where
  -- an action without a charge fits
  fits_free : (place : ℕ) (deed : Deed) → deed_at s.list place ≡ deed → charge s.quota deed (words_at s.list place) ≡ 0 → w.period.used + charge_at s.quota s.list place ≤ s.quota
  fits_free place deed is free =
      let within = used_within s some list h steps m at worker w in
      let none : charge_at s.quota s.list place ≡ 0 = ap (λ d. charge s.quota d (words_at s.list place)) is ∙ free in omega (arith, within, none)

  joined_in_lane : (place : ℕ) (name : ActionId) (new : Thread) (taken : ℕ) → DidJoin s.quota s.list w.top new name taken place → Decides s looks w.top w.period (does place)
  joined_in_lane place name new taken d = decides_join place d.newest d.next (subst (Among d.newest) (sym d.children_were) (inl refl)) (inl d.given)

  in_lane : (place : ℕ) (name : ActionId) (threads : List Thread) (words : ℕ) (births : List Rattle.dag_order.specs.declared.birth.Birth.Birth)
      → ActsInLane s.quota s.list w place name threads words births → Decides s looks w.top w.period (does place)
  in_lane place name threads words births (acts_alone new taken d) = decides_action place d.deed d.next
      (alone_joins_nobody s.quota w.period.used (words_at s.list place) d.deed d.may)
      (subst (λ deed. w.period.used + charge s.quota deed (words_at s.list place) ≤ s.quota) (sym d.next.does)
      (alone_fits s.quota w.period.used (words_at s.list place) d.deed d.may (used_within s some list h steps m at worker w)))
  in_lane place name threads words births (joins_handed new taken d) = joined_in_lane place name new taken d
  in_lane place name threads words births (forks_child new child taken ordinal d) = decides_action place (forks ordinal) d.next (λ n. λ is. cc)
      (subst (λ deed. w.period.used + charge s.quota deed (words_at s.list place) ≤ s.quota) (sym d.next.does) d.fits)

  ended : (place : ℕ) → IsNextOf s.list w.top place ends → Decides s looks w.top w.period (does place)
  ended place is_next = decides_action place ends is_next (λ n. λ is. cc) (fits_free place ends is_next.does refl)

  -- ---- the Join of a kept result

  module _ (place : ℕ) (name : ActionId) (before later : List Result) (result : Result) (handed new : Thread) (words : ℕ) (are : h.list.results ≡ before ++ result ∷ later)
      (is_handed : IsHanded w.top result handed) (newest : is_handed.front ≡ []) (d : DidJoin s.quota s.list handed new name words place) where
    children_are : w.top.children ≡ is_handed.child ∷ is_handed.back
    children_are = is_handed.children_were ∙ ap (λ front. front ++ is_handed.child ∷ is_handed.back) newest

    pub there : Among is_handed.child w.top.children
    there = subst (Among is_handed.child) (sym children_are) (inl refl)

    pub kept : IsKept h.list.results is_handed.child.id
    kept = (result, subst (Among result) (sym are) (among_here result before later), sym is_handed.child_is)

    abbrev ordinal_in : List Child → ℕ → ℕ
    ordinal_in [] other = other
    ordinal_in (child ∷ older) other = child.ordinal

    ordinal : d.newest.ordinal ≡ is_handed.child.ordinal
    ordinal = ap (λ xs. ordinal_in xs 0) (sym d.children_were ∙ is_handed.children
        ∙ ap (λ front. front ++ record { id = is_handed.child.id; ordinal = is_handed.child.ordinal; func = is_handed.child.func; delivered = true } ∷ is_handed.back) newest)

    pub is_next : IsNextOf s.list w.top place (joins is_handed.child.ordinal)
    is_next = record {
      inside = d.next.inside;
      by = d.next.by ∙ is_handed.same_label;
      index = d.next.index ∙ is_handed.same_done;
      does = d.next.does ∙ ap joins ordinal;
    }

    pub needs : NeedsList s.list w.top w.under (does place)
    needs = for_join place is_handed.child is_next.does there (kept_is_missing s some list h steps m at worker w is_handed.child there kept)
