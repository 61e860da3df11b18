-- What a seat is that has sought a deque to rob.
use Rattle.std.proofs.Common.{◌≡◌, ℕ, List, [], ◌∷◌, ◌++◌, sym, ap, ◌∙◌, subst}
use Rattle.std.proofs.lemmas.List.{append_assoc}
use Rattle.std.specs.Prelude.{Result, Ok, Err}
use Rattle.turn_table.specs.declared.look.Look.{Look}
use Rattle.turn_table.specs.declared.look.Look.TheVariants.{Took}
use Rattle.hall_thief.specs.HallNames.{with_hand, ListSlot, Slot, HallSeat, IsTaken}
use Rattle.hall_slots.specs.declared.slot.Slot.TheVariants as slots
use Rattle.hall_thief.specs.Choosing.{IsToldMore, HasVictim, refused_look}
use Rattle.hall_slots.specs.Lists.{with_list}
use Rattle.hall_thief.specs.declared.prey.Prey.{Prey}
use Rattle.hall_thief.specs.declared.prey.SeekRefused.{SeekRefused}
use Rattle.hall_thief.specs.declared.prey.SeekRefused.TheVariants.{Busy, Nothing, Over}
use Rattle.hall_thief.specs.Seeking.{LeavesTold, SeeksWith, HasSought}

-- a seat that took the list and holds nothing any more is back
taken_and_left : (before middle after : HallSeat) (list : ListSlot) (more : List (Look Slot)) → IsTaken before 0 (slots.List list) middle → before.hand.holds ≡ [] → LeavesTold middle more after
    → IsToldMore before (Took 0 (slots.List list) ∷ more) after
taken_and_left before middle after list more taken free leaves =
    leaves ∙ ap (λ (s : HallSeat). with_hand s (record { seated = s.hand.seated; holds = []; note = s.hand.note; looks = s.hand.looks ++ more })) taken
    ∙ (λ k. with_hand before (record { seated = before.hand.seated; holds = sym free k; note = before.hand.note; looks = append_assoc before.hand.looks (Took 0 (slots.List list) ∷ []) more k }))

-- what it does with the list that it took it has done
pub sought : (workers word : ℕ) (before middle after : HallSeat) (list : ListSlot) (result : Result Prey SeekRefused) → IsTaken before 0 (slots.List list) middle → before.hand.holds ≡ []
    → SeeksWith workers word list middle after result → HasSought workers word before after result
sought workers word before middle after list (Ok prey) taken free seeks = (
  ap (λ (l : ListSlot). l.end) seeks.0 ∙ seeks.1,
  subst (λ (l : ListSlot). HasVictim workers word l (with_list before l) prey.place prey.lane after) (sym seeks.0)
      (subst (λ (s : HallSeat). HasVictim workers word list s prey.place prey.lane after) taken seeks.2),
)
sought workers word before middle after list (Err (Busy held)) taken free seeks =
    (list, seeks.0, seeks.1, seeks.2, taken_and_left before middle after list (seeks.1 ++ refused_look held ∷ []) taken free seeks.3)
sought workers word before middle after list (Err Nothing) taken free seeks = (list, subst (λ (s : HallSeat). SeeksWith workers word list s after (Err Nothing)) taken seeks)
sought workers word before middle after list (Err (Over end)) taken free seeks = (list, subst (λ (s : HallSeat). SeeksWith workers word list s after (Err (Over end))) taken seeks)
