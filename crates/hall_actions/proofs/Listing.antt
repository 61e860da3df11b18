-- What an owner knows of the list by the law of its hall.
use Rattle.std.proofs.Common.{◌≡◌, ◌∷◌, ◌++◌, map, inl, inr, sym, ap, ◌∙◌, subst}
use Rattle.std.proofs.Math.Logic.{∥∥₁_elim}
use Rattle.std.specs.Prelude.{Some}
use mathlib.Core.Option.{some}
use lib.ListN.{get_elem?}
use Rattle.hall_parts.specs.HallNames.{DequeId, LaneSlot, ListSlot, HallKey, table_of, quota_of, terms_of, value_of, view_of, HallSeat, MeetsLaw, Terms}
use Rattle.hall_parts.specs.HallNames.{machine_of, Setting, IsAtPoint, HasAs, notes, ListIsSound, thread_that_waits}
use Rattle.deque_list.proofs.DequeLaws.{same_id}
use Rattle.hall_slots.specs.Passed.Lists.{Among, Each}
use Rattle.hall_slots.proofs.Passed.DequeMachineLists.{among_here}
use Rattle.hall_slots.specs.Passed.Parts.{Has}
use Rattle.thread_frames.specs.Kept.{waiting_shown, result_kept}
use Rattle.hall_parts.specs.Passed.Settings.{IsSettingOf}
use Rattle.turn_table.proofs.NoteLaws.{notes_at}
use Rattle.turn_table.proofs.Standing.{shown_as}
use Rattle.hall_machine.specs.Values.{Hall, ListShown}
use Rattle.hall_machine.specs.State.{HallLaw}
use Rattle.hall_machine.specs.Points.{AreAtPoints}
use Rattle.hall_slots.specs.declared.slot.Slot.TheVariants as slots
use Rattle.hall_slots.specs.Steps.{hall_shown}
use Rattle.hall_slots.proofs.Reading.{get_of_at}
use Rattle.hall_slots.proofs.Written.{list_at}
use Rattle.hall_parts.proofs.Owned.{is_listed, is_its, is_open}
use Rattle.hall_actions.specs.Reads.{HoldsItsLane}
use Rattle.hall_actions.specs.Lists.{ReadsList, ListsAreRead}
use Rattle.hall_actions.proofs.Places.{find}
use Rattle.hall_actions.proofs.Reading.{st, shown, holds, shows}

module _ (key : HallKey) (seat : HallSeat) (deque : DequeId) (lane : LaneSlot) (has : HoldsItsLane seat deque lane) (meets : MeetsLaw key seat) where
  -- what holds at the moment where the hall stands, for each program that the key may be of, holds
  pub gives : {P : Type 0} → IsProp P → ((c : Setting) → IsSettingOf (table_of key) (quota_of key) c
      → HallLaw (machine_of c (terms_of key)) (Terms.limits (terms_of key)) (map value_of (shown key seat deque lane has meets)) meets.1 (map view_of (notes meets.2)) → P) → P
  gives prop f = ∥∥₁_elim (holds key seat deque lane has meets).key_is.of_program prop (λ p. ∥∥₁_elim ((holds key seat deque lane has meets).state p.0 p.1) prop (λ law. f p.0 p.1 law))

  -- ---- the list

  module _ (list : ListSlot) (first : HasAs 0 (slots.List list) seat.hand.holds) where
    pub at : get_elem? (shown key seat deque lane has meets) 0 ≡ some (slots.List list)
    at = shown_as (shown key seat deque lane has meets) 0 (slots.List list) seat.hand.holds (shows key seat deque lane has meets) first

    pub sound : ListIsSound key list
    sound = (holds key seat deque lane has meets).parts.list list (get_of_at (shown key seat deque lane has meets) 0 (slots.List list) at)

    pub its_place : Has list.part.order.places deque (Some seat.hand.note.worker)
    its_place = elim (find deque list.part.order.places) [
      | inl there ↦ record {
        left = there.left;
        right = there.right;
        places_are = there.are ∙ ap (λ place. there.left ++ place ∷ there.right) (λ i. record {
          id = same_id there.place.id deque there.same i;
          owner = is_its key (shown key seat deque lane has meets) meets.1 (notes meets.2) (holds key seat deque lane has meets) seat.number seat.hand.note
              (notes_at meets.2 seat.number seat.hand (st key seat deque lane has meets).mine) has.placed deque has.owns list at there.place
              (subst (Among there.place) (sym there.are) (among_here there.place there.left there.right)) there.same i;
        });
      }
      | inr none ↦ absurd (is_listed key (shown key seat deque lane has meets) meets.1 (notes meets.2) (holds key seat deque lane has meets) seat.number seat.hand.note
          (notes_at meets.2 seat.number seat.hand (st key seat deque lane has meets).mine) has.placed deque has.owns list at none)
    ]

    pub reads_list : ReadsList key seat deque list
    reads_list = record {
      has = its_place;
      sound = sound;
      unfinished = is_open key (shown key seat deque lane has meets) meets.1 (notes meets.2) (holds key seat deque lane has meets) seat.number seat.hand.note
          (notes_at meets.2 seat.number seat.hand (st key seat deque lane has meets).mine) has.placed deque has.owns list at;
    }

    -- what it shows
    pub waiting_is : ListShown.waiting (Hall.list (hall_shown (shown key seat deque lane has meets))) ≡ map waiting_shown list.part.waiting.entries
    waiting_is = ap (λ l. l.waiting) (list_at (shown key seat deque lane has meets) list at)

    pub results_are : ListShown.results (Hall.list (hall_shown (shown key seat deque lane has meets))) ≡ map result_kept list.part.results.entries
    results_are = ap (λ l. l.results) (list_at (shown key seat deque lane has meets) list at)

    -- who waits there is at its point
    pub that_wait : Each (IsAtPoint (table_of key) (quota_of key)) (map thread_that_waits list.part.waiting.entries)
    that_wait = AreAtPoints.that_wait ((holds key seat deque lane has meets).parts.points list (get_of_at (shown key seat deque lane has meets) 0 (slots.List list) at))

pub lists_are_read : ListsAreRead
lists_are_read key seat deque lane list has first meets = reads_list key seat deque lane has meets list first
