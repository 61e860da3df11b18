-- The thread that stands directly below a worker's top thread, which is before its End.
use Rattle.std.proofs.Common.{◌≡◌, ℕ, ◌≤◌, List, [], ◌∷◌, map, reverse, inl, inr, refl, sym, ap, subst, ◌∙◌, arith, true≢false}
use Rattle.std.specs.Prelude.{Bool, true, false}
use Rattle.std.proofs.lemmas.List.{reverse-append, map-append}
use Rattle.open_periods.specs.Passed.Actions.{record_words}
use Rattle.thread_points.specs.Passed.States.{Setting}
use Rattle.thread_state.proofs.Passed.Built.{whole_is_depth_first}
use Rattle.deque_list.specs.declared.deque_id.DequeId.{DequeId}
use Rattle.open_periods.specs.Passed.Lists.{Among, Each}
use Rattle.open_periods.proofs.Passed.Lists.{each_from, each_among, among_parts}
use Rattle.open_periods.specs.Passed.Moments.{Moment}
use Rattle.open_periods.specs.Passed.DequeMachineRuns.{Pair}
use Rattle.open_periods.specs.Passed.Terms.{Terms, machine_of}
use Rattle.moment_laws.specs.Passed.Parts as parts
use Rattle.thread_frames.specs.Actions.{IsOfTheList}
use Rattle.thread_frames.specs.Children.{same_id, IsResultFor, either_of, IsAwaited}
use Rattle.thread_frames.specs.Views.{Child, children_of, label_of, ended_label}
use Rattle.thread_frames.specs.declared.ended.Ended.{Ended}
use Rattle.thread_frames.specs.declared.next.Next.TheVariants as nexts
use Rattle.thread_frames.specs.declared.thread.Thread.{Thread}
use Rattle.thread_frames.specs.Shown.{child_shown, thread_shown}
use Rattle.thread_frames.proofs.Threads.{next_actions_stand}
use Rattle.moment_laws.specs.Passed.Shown.{Stands}
use Rattle.moment_laws.specs.Results.{IsChildOf}
use Rattle.moment_laws.proofs.Parents.{parents_await}
use Rattle.scheduler_state.specs.declared.scheduler.Scheduler.{Scheduler}
use Rattle.scheduler_state.specs.Held.{held_under, IsInOrder}
use Rattle.scheduler_state.specs.Moments.{HasRun}
use Rattle.scheduler_state.proofs.AtTop.{its_period, period_there}
use Rattle.thread_frames.proofs.Found.{same_with_itself}
use Rattle.scheduler_state.proofs.Newest.{among_reversed}
use Rattle.thread_map.proofs.KeptLemmas.{same_is_same}

-- what is shown of the children is one of them
among_back : (c : parts.Child) (xs : List Child) → Among c (map child_shown (reverse xs)) → (x : Child) × Among x xs × (child_shown x ≡ c)
among_back c [] there = absurd there
among_back c (y ∷ xs) there = elim (among_parts c (map child_shown (reverse xs)) (child_shown y ∷ []) (subst (Among c) (ap (map child_shown) (reverse-append (y ∷ []) xs) ∙ map-append child_shown (reverse xs) (y ∷ [])) there)) [
  | inl before ↦ let found = among_back c xs before in (found.0, inr found.1, found.2)
  | inr last ↦ elim last [ inl same ↦ (y, inl refl, sym same) | inr none ↦ absurd none ]
]

-- a thread waits for a result, where one of its children has its id and each that has it is the child
awaits : (label : List ℕ) (ended : Ended) (xs : List Child) (x : Child) → Among x xs → same_id x.id ended.id ≡ true
    → Each (λ y. same_id y.id ended.id ≡ true → IsResultFor label ended y) xs → IsAwaited label ended xs
awaits label ended [] x there is each = absurd there
awaits label ended (y ∷ ys) x there is each = by_test (λ later. awaits label ended ys x later is each.1) (same_id y.id ended.id) refl
  where
    by_test : (Among x ys → IsAwaited label ended ys) → (b : Bool) → same_id y.id ended.id ≡ b
        → either_of (same_id y.id ended.id) (IsResultFor label ended y) (IsAwaited label ended ys)
    by_test further true same = subst (λ b. either_of b (IsResultFor label ended y) (IsAwaited label ended ys)) (sym same) (each.0 same)
    by_test further false other = subst (λ b. either_of b (IsResultFor label ended y) (IsAwaited label ended ys)) (sym other) (elim there [
      | inl here ↦ absurd (true≢false (sym is ∙ ap (λ z. same_id (Child.id z) ended.id) here ∙ other))
      | inr later ↦ further later
    ])

-- it waits for the result of the top thread
pub parent_awaits : (s : Scheduler) {worker : ℕ} {id : DequeId} (parent : Thread) (below : List Thread) (stands : Stands s.list worker id (parent ∷ below)) (top : Thread)
    (c : Setting) (terms : Terms) → record_words ≤ c.quota → (run : List Pair) (m : Moment) → HasRun c terms (held_under s stands top) run m
    → IsOfTheList c top nexts.End → IsInOrder (held_under s stands top)
    → (ended : Ended) → ended.id ≡ Thread.id top → ended_label ended ≡ label_of top → ended.func ≡ Thread.func top → IsAwaited (label_of parent) ended (children_of parent)
parent_awaits s {worker} {id} parent below stands top c terms quota run m at i o ended its_id its_label its_func =
    let period = its_period s stands top o in
    let known = parents_await (machine_of c terms) (omega (arith, quota)) (whole_is_depth_first c) m _ worker i.place (period_there s stands top period.0 period.1) (thread_shown parent) (map thread_shown below)
    at.standing.lawful at.standing.shows (next_actions_stand c top nexts.End i) refl in
    let found = among_back known.0.0 (children_of parent) known.0.1 in
    let same : Child.id found.0 ≡ ended.id = ap (λ x. parts.Child.id x) found.2 ∙ known.0.2 ∙ sym its_id in
    awaits (label_of parent) ended (children_of parent) found.0 found.1 (ap (λ x. same_id x ended.id) same ∙ same_with_itself ended.id)
    (each_from (λ y. same_id y.id ended.id ≡ true → IsResultFor (label_of parent) ended y) (children_of parent) (λ y there is.
    let child = each_among (λ x. parts.Child.id x ≡ Thread.id top → IsChildOf (thread_shown parent) (thread_shown top) x) (child_shown y) (parts.Thread.children (thread_shown parent)) known.1
    (among_reversed y (children_of parent) there) (sym (same_is_same (Child.id y) ended.id is) ∙ its_id) in
    record { waits = child.waits; labelled = its_label ∙ child.labelled; func = its_func ∙ child.func }))
