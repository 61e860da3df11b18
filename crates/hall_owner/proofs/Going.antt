-- A seat that took what its event needs, and what came of it.
use Rattle.std.proofs.Common.{◌≡◌, ℕ, [], ◌∷◌, ◌++◌, sym, ap, ◌∙◌, subst, append_assoc}
use Rattle.std.specs.Prelude.{None, Result, Ok, Err}
use Rattle.hall_actions.specs.Passed.HallNames.{DequeId, HallSeat, IsTaken, HallKey, ListSlot, SeatNote, Next, with_hand}
use Rattle.hall_slots.specs.declared.event.Event.TheVariants.{Did}
use Rattle.hall_slots.specs.declared.slot.Slot.TheVariants as slots
use Rattle.hall_actions.specs.declared.at_next.AtNext.{AtNext}
use Rattle.hall_actions.specs.Advancing.{HasLooked}
use Rattle.hall_actions.specs.Passed.Taken.{its_lane}
use Rattle.hall_actions.specs.Passed.Writes.{told_note}
use Rattle.hall_actions.specs.declared.with_all.WholeEvent.{WholeEvent}
use Rattle.hall_owner.proofs.Following.{fails, is_before, leaves, note}
use Rattle.hall_owner.proofs.Refusals.{pool_too_refusal}
use Rattle.hall_owner.proofs.Showing.{named, whole_needs, whole_to_do}
use Rattle.hall_owner.specs.Acting.{Does, DoesWith}
use Rattle.hall_owner.specs.Asked.{IsAskedByAll, IsAskedFor}
use Rattle.hall_owner.specs.Holding.{IsBefore, look_at_count, look_at_list, look_at_pool}
use Rattle.hall_owner.specs.Ready.{IsReadyFor}
use Rattle.hall_owner.specs.Refusing.{IsRefusal}
use Rattle.hall_owner.specs.Taken.{held_with, list_in, looks_in, pool_in, slots_of}
use Rattle.hall_owner.specs.Taking.{HasTaken, TakesFor, TakesPoolToo}
use Rattle.hall_owner.specs.declared.acting.Acted.{Acted}
use Rattle.hall_actions.specs.declared.refused.ActRefused.{ActRefused}
use Rattle.hall_owner.specs.declared.taken.Taken.{Taken}
use Rattle.hall_owner.specs.declared.taken.Taken.TheVariants.{WithAll}
use Rattle.turn_table.specs.declared.look.Look.TheVariants.{Took}

-- it took the list, and then the pool
module _ (key : HallKey) (before middle : HallSeat) (deque : DequeId) (at now : AtNext) (next : Next) (list : ListSlot) (event : WholeEvent) (same : now ≡ at)
    (no_end : list.end ≡ None) (taken : IsTaken before 0 (slots.List list) middle) (asked : IsAskedByAll list at next event) (after : HallSeat) where
  pub takes_for : (r : Result (AtNext × Taken) ActRefused) → TakesPoolToo key middle now list event r after → TakesFor key before deque at next r after
  takes_for (Ok come) t = (
    t.0 ∙ same,
    subst (λ all. HasTaken key before at next all after) (sym t.2) (record {
      took = t.3
          ∙ ap (λ (s : HallSeat). with_hand s (record {
            seated = s.hand.seated;
            holds = (1, slots.Pool t.1) ∷ s.hand.holds;
            note = s.hand.note;
            looks = s.hand.looks ++ Took 1 (slots.Pool t.1) ∷ [];
          })) taken
          ∙ ap (λ looks. with_hand before (record {
            seated = before.hand.seated;
            holds = held_with (WithAll list t.1 event) before.hand.holds;
            note = before.hand.note;
            looks = looks;
          })) (append_assoc before.hand.looks (Took 0 (slots.List list) ∷ []) (Took 1 (slots.Pool t.1) ∷ []));
      meets = t.4;
      asked = (no_end, asked);
    }),
  )
  takes_for (Err refused) f = fails before middle ((0, slots.List list) ∷ before.hand.holds) (Took 0 (slots.List list) ∷ []) taken after
      (IsRefusal key deque at next) refused (
        f.0,
        pool_too_refusal key deque at next list (Did (named at.top)) (whole_to_do key deque list at next no_end event asked (named at.top))
            (whole_needs key deque list at next event asked) f.0 refused f.1,
        f.2,
      )

module _ (key : HallKey) (before middle : HallSeat) (deque : DequeId) (at now : AtNext) (next : Next) (ready : ℕ) (taken : Taken) (same : now ≡ at)
    (has : HasTaken key before at next taken middle) where
  pub ready_for : IsBefore key before deque (its_lane deque) at next ready → IsReadyFor key middle deque now next ready taken
  ready_for b = record {
    before = subst (λ a. IsBefore key middle deque (slots_of deque taken) a next ready) (sym same)
        (is_before before middle (held_with taken before.hand.holds) (looks_in taken) has.took key deque (its_lane deque) (slots_of deque taken) at next ready
        (λ lane held. ap (held_with taken) held) b);
    meets = has.meets;
    asked = subst (λ a. IsAskedFor key middle.hand.note.worker a next taken) (sym same) (subst (λ (n : SeatNote). IsAskedFor key n.worker at next taken)
        (sym (note before middle (held_with taken before.hand.holds) (looks_in taken) has.took)) has.asked);
  }

  does_at : (r : Result Acted ActRefused) (after : HallSeat) → DoesWith key middle deque at next taken r after → Does key before deque at next r after
  does_at (Ok acted) after d = record {
    seen = record { list = list_in taken; pool = pool_in taken; count = d.count };
    decides = d.decides;
    leaves = subst (λ looks. HasLooked before looks (told_note before.hand.note acted.owned acted.event) after)
        (append_assoc (look_at_list (list_in taken)) (look_at_pool (pool_in taken)) (look_at_count d.count))
        (leaves before middle (held_with taken before.hand.holds) (looks_in taken) has.took after acted.owned acted.event (look_at_count d.count) d.leaves);
  }
  does_at (Err refused) after f = fails before middle (held_with taken before.hand.holds) (looks_in taken) has.took after (IsRefusal key deque at next) refused f

  pub does : (r : Result Acted ActRefused) (after : HallSeat) → DoesWith key middle deque now next taken r after → Does key before deque at next r after
  does r after d = does_at r after (subst (λ a. DoesWith key middle deque a next taken r after) same d)
