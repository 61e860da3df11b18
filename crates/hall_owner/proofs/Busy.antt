-- A seat that was refused its lane, or that took it and was refused the list.
use Rattle.std.proofs.Common.{◌≡◌, ℕ, ◌+◌, List, [], ◌∷◌, ◌++◌, inl, inr, refl, sym, ap, ◌∙◌, append_assoc}
use Rattle.hall_actions.specs.Passed.HallNames.{DequeId, HallSeat, IsGiven, IsRefused, IsTaken, LaneSlot, Slot, with_hand}
use Rattle.turn_table.specs.declared.held.Held.{Held}
use Rattle.turn_table.specs.declared.look.Look.TheVariants.{Refused}
use Rattle.turn_table.specs.Hands.{gave, refused as refused_hand, renewed, without_slot}
use Rattle.turn_table.proofs.Left.{left_of_one}
use Rattle.turn_table.specs.Backs.{kept, still, unchanged}
use Rattle.hall_slots.specs.declared.slot.Slot.TheVariants as slots
use Rattle.hall_actions.specs.Advancing.{took_lane}
use Rattle.hall_owner.specs.Yielding.{IsBusy}

pub busy_lane : (before after : HallSeat) (deque : DequeId) (held : Held) → before.hand.holds ≡ [] → IsRefused before (deque.0 + 2) held after
    → IsBusy before deque held after
busy_lane before after deque held free refused = (
  [],
  refused.1 ∙ (λ k. with_hand before (record {
    seated = before.hand.seated;
    holds = free k;
    note = before.hand.note;
    looks = before.hand.looks ++ Refused (sym refused.0 k) held.seen ∷ [];
  })),
  inl (refused.0, refl),
)

pub busy_list : (before middle last after : HallSeat) (deque : DequeId) (lane : LaneSlot) (held : Held) → before.hand.holds ≡ []
    → IsTaken before (deque.0 + 2) (slots.Lane lane) middle → IsRefused middle 0 held last → IsGiven last (deque.0 + 2) after
    → IsBusy before deque held after
busy_list before middle last after deque lane held free taken refused given =
    let holds : renewed unchanged (without_slot (deque.0 + 2) ((deque.0 + 2, slots.Lane lane) ∷ before.hand.holds)) ≡ [] =
    ap (λ (xs : List (ℕ × Slot)). renewed unchanged (without_slot (deque.0 + 2) ((deque.0 + 2, slots.Lane lane) ∷ xs))) free
    ∙ left_of_one unchanged (deque.0 + 2) (deque.0 + 2) (slots.Lane lane) refl in
    let looks = append_assoc before.hand.looks (took_lane deque lane ∷ []) (Refused 0 held.seen ∷ [])
    ∙ ap (λ (n : ℕ). before.hand.looks ++ took_lane deque lane ∷ Refused n held.seen ∷ []) (sym refused.0) in (
      took_lane deque lane ∷ [],
      given
          ∙ ap (λ (s : HallSeat). with_hand s (gave still unchanged s.hand (deque.0 + 2))) refused.1
          ∙ ap (λ (s : HallSeat). with_hand s (gave still unchanged (refused_hand kept s.hand 0 held.seen) (deque.0 + 2))) taken
          ∙ (λ k. with_hand before (record { seated = before.hand.seated; holds = holds k; note = before.hand.note; looks = looks k })),
      inr (refused.0, lane, refl),
    )
