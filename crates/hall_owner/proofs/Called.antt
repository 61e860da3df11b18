-- What the whole call of an owner does and answers.
use Rattle.std.proofs.Common.{◌≡◌, ℕ, ◌+◌, [], ◌∷◌, ◌++◌, inl, inr, refl, sym, ap, ◌∙◌}
use Rattle.std.specs.Prelude.{Result, Ok, Err}
use Rattle.hall_actions.specs.Passed.HallNames.{DequeId, HallSeat, IsRefused, IsTaken, HallKey, LaneSlot, Next, with_hand}
use Rattle.hall_slots.specs.declared.slot.Slot.TheVariants as slots
use Rattle.hall_actions.specs.Advancing.{HasCome, IsAtNext, took_lane}
use Rattle.hall_actions.specs.declared.at_next.AtNext.{AtNext}
use Rattle.hall_actions.specs.declared.memory.SeatMemory.{SeatMemory}
use Rattle.hall_owner.proofs.Following.{leaves, looked, note}
use Rattle.hall_owner.specs.Acting.{Acts, AtLane, Does}
use Rattle.hall_owner.specs.Holding.{FailsBy, last_look, looks_of, refusal_note}
use Rattle.hall_owner.specs.declared.acting.Acted.{Acted}
use Rattle.hall_actions.specs.declared.refused.ActRefused.{ActRefused}
use Rattle.hall_actions.specs.declared.refused.ActRefused.TheVariants.{Busy, Over, Stopped}
use Rattle.turn_table.specs.declared.held.Held.{Held}
use Rattle.turn_table.specs.declared.look.Look.TheVariants.{Refused}

pub acts : (key : HallKey) (before middle : HallSeat) (deque : DequeId) (lane : LaneSlot) (at : AtNext) (next : Next) (ready : ℕ)
    → IsTaken before (deque.0 + 2) (slots.Lane lane) middle → IsAtNext key lane at next ready → (r : Result Acted ActRefused) (after : HallSeat)
    → Does key middle deque at next r after → Acts key before deque r after
acts key before middle deque lane at next ready taken is_next (Ok acted) after d = record {
  lane = lane;
  at = at;
  next = next;
  ready = ready;
  is_next = is_next;
  seen = d.seen;
  decides = d.decides;
  leaves = leaves before middle ((deque.0 + 2, slots.Lane lane) ∷ before.hand.holds) (took_lane deque lane ∷ []) taken after acted.owned acted.event
      (looks_of d.seen) d.leaves;
}
acts key before middle deque lane at next ready taken is_next (Err refused) after d = inr (record {
  lane = lane;
  at = at;
  next = next;
  ready = ready;
  is_next = is_next;
  seen = d.1.0;
  refuses = d.1.1;
  leaves = looked before middle ((deque.0 + 2, slots.Lane lane) ∷ before.hand.holds) (took_lane deque lane ∷ []) taken after
      (looks_of d.1.0 ++ last_look refused)
      (refusal_note before.hand.note refused) (d.2
      ∙ ap (λ more. with_hand middle (record {
        seated = middle.hand.seated;
        holds = [];
        note = refusal_note middle.hand.note refused;
        looks = middle.hand.looks ++ more;
      })) d.1.2
      ∙ ap (λ n. with_hand middle (record {
        seated = middle.hand.seated;
        holds = [];
        note = refusal_note n refused;
        looks = middle.hand.looks ++ (looks_of d.1.0 ++ last_look refused);
      })) (note before middle ((deque.0 + 2, slots.Lane lane) ∷ before.hand.holds) (took_lane deque lane ∷ []) taken));
})

-- the lane that it was refused, and the way to its action, for which there was not enough memory
module _ (before after : HallSeat) (deque : DequeId) where
  refused_lane : (held : Held) → before.hand.holds ≡ [] → IsRefused before (deque.0 + 2) held after → FailsBy (AtLane deque) before (Busy held) after
  refused_lane held free refused = (
    Refused held.slot held.seen ∷ [],
    (refused.0, refl),
    refused.1
        ∙ ap (λ n. with_hand before (record {
          seated = before.hand.seated;
          holds = before.hand.holds;
          note = before.hand.note;
          looks = before.hand.looks ++ Refused n held.seen ∷ [];
        })) (sym refused.0)
        ∙ ap (λ holds. with_hand before (record {
          seated = before.hand.seated;
          holds = holds;
          note = before.hand.note;
          looks = before.hand.looks ++ Refused held.slot held.seen ∷ [];
        })) free,
  )

  pub refused_first : (key : HallKey) (memory : SeatMemory) (refused : ActRefused) → before.hand.holds ≡ [] → HasCome key before deque memory (Err refused) after
      → FailsBy (AtLane deque) before refused after
  refused_first key memory (Busy held) free come = refused_lane held free come
  refused_first key memory (Over end) free come = absurd come
  refused_first key memory (Stopped stop) free come = (took_lane deque come.1.0 ∷ [], (come.0, (come.1.0, refl)), come.1.1)

-- what it notes, wherever it failed
pub fails_note : (key : HallKey) (before : HallSeat) (deque : DequeId) (refused : ActRefused) (after : HallSeat) → Acts key before deque (Err refused) after
    → after.hand.note ≡ refusal_note before.hand.note refused
fails_note key before deque refused after acts = elim acts [
  | inl early ↦ ap (λ (s : HallSeat). s.hand.note) early.2
  | inr there ↦ ap (λ (s : HallSeat). s.hand.note) there.leaves
]
