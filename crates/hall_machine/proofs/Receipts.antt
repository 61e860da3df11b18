-- The looks of a thief show the choice that the rules of play make.
use Rattle.std.proofs.Common.{◌≡◌, ℕ, ◌+◌, ◌%◌, min, List, length, inl, inr, sym, ap, subst, ◌∙◌, arith}
use Rattle.std.proofs.lemmas.List.{length-map}
use Rattle.std.specs.Prelude.{Some, slice_get}
use Rattle.deque_list.specs.declared.place.Place.{Place}
use Rattle.deque_list.specs.Deques.{Deque}
use Rattle.deque_list.proofs.DequeLaws.{mapped_at}
use Rattle.deque_machine.specs.Machine.{Setting}
use Rattle.deque_machine.specs.Play.{IsFirst}
use Rattle.moment_laws.specs.Passed.Choices.{IsReadyAt, reach_of}
use Rattle.hall_machine.specs.Values.{Hall, deque_of, deques_of}
use Rattle.hall_machine.specs.Receipts.{Look, SawTheLanes, ShowsReady, ShowsUnready, VictimsAreFirst}
use Rattle.hall_machine.proofs.Stops.{at_mapped}

module _ (h : Hall) (looks : List Look) (saw : SawTheLanes looks h) where
  shows_ready : (place : ℕ) (p : Place) → slice_get h.list.places place ≡ Some p → ShowsReady looks p → IsReadyAt (deques_of h) place
  shows_ready place p is ready = (
    deque_of h.lanes p,
    at_mapped (deque_of h.lanes) h.list.places place p is,
    elim ready [
      | inl nobody ↦ inl nobody
      | inr two ↦ inr (let same = ap length (saw p.id two.0 two.1) in let many = two.2 in omega (arith, same, many))
    ],
  )

  shows_unready : (place : ℕ) → ((p : Place) → slice_get h.list.places place ≡ Some p → ShowsUnready looks p) → ¬ IsReadyAt (deques_of h) place
  shows_unready place unready ready =
      let at = mapped_at (deque_of h.lanes) h.list.places place ready.0 ready.1 in
      let not_ready = unready at.0 at.1 in
      elim ready.2 [
        | inl nobody ↦ not_ready.0 (ap (λ d. Deque.owner d) (sym at.2) ∙ nobody)
        | inr two ↦
            let same = ap length (saw (at.0).id not_ready.1.0 not_ready.1.1) in let few = not_ready.1.2 in
            let its = ap (λ d. length (Deque.items d)) at.2 in absurd (omega (arith, two, same, few, its))
      ]

  same_reach : (workers : ℕ) → reach_of workers (deques_of h) ≡ min workers (length h.list.places)
  same_reach workers = ap (min workers) (length-map h.list.places (deque_of h.lanes))

pub victims_are_first : (s : Setting) → VictimsAreFirst s
victims_are_first s h looks word place saw shows = subst (λ n. IsFirst n word (IsReadyAt (deques_of h)) place) (sym (same_reach h looks saw s.workers)) (record {
  turns = shows.turns;
  few = shows.few;
  is = shows.is;
  passes = shows_ready h looks saw place shows.ready.0 shows.ready.1 shows.ready.2;
  none_before = λ e low. shows_unready h looks saw ((word + e) % min s.workers (length h.list.places)) (λ p is. shows.earlier e p low is);
})
