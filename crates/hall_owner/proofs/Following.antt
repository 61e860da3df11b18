-- A seat that took some slots more: what it holds, and how it leaves and fails then.
use Rattle.std.proofs.Common.{◌≡◌, ℕ, List, [], ◌++◌, sym, ap, ◌∙◌, subst, append_assoc, append-nil}
use Rattle.std.specs.Prelude.{Option}
use Rattle.hall_actions.specs.Passed.HallNames.{DequeId, HallSeat, HasAllPlaces, Event, HallKey, LaneSlot, SeatNote, Slot, Next, with_hand}
use Rattle.turn_table.specs.declared.look.Look.{Look}
use Rattle.hall_actions.specs.Passed.EventParts.{MayGoOn}
use Rattle.hall_actions.specs.Passed.Writes.{told_note}
use Rattle.hall_actions.specs.Advancing.{HasLooked}
use Rattle.hall_actions.specs.declared.at_next.AtNext.{AtNext}
use Rattle.hall_owner.specs.Holding.{FailsBy, IsHolding, IsBefore, refusal_note}
use Rattle.hall_actions.specs.declared.refused.ActRefused.{ActRefused}

-- what it holds then, and its answers
abbrev pub seen_by : HallSeat → List (ℕ × Slot) → List (Look Slot) → HallSeat
seen_by before holds xs = with_hand before (record {
  seated = before.hand.seated;
  holds = holds;
  note = before.hand.note;
  looks = before.hand.looks ++ xs;
})

-- it may have had none
pub unseen : (seat : HallSeat) → seat ≡ seen_by seat seat.hand.holds []
unseen seat = ap (λ looks. with_hand seat (record { seated = seat.hand.seated; holds = seat.hand.holds; note = seat.hand.note; looks = looks }))
    (sym (append-nil seat.hand.looks))

module _ (before middle : HallSeat) (holds : List (ℕ × Slot)) (xs : List (Look Slot)) (seen : middle ≡ seen_by before holds xs) where
  pub note : middle.hand.note ≡ before.hand.note
  note = ap (λ (s : HallSeat). s.hand.note) seen

  pub all_too : (key : HallKey) → HasAllPlaces key before → HasAllPlaces key middle
  all_too key all = record {
    all = ap (λ (s : SeatNote). s.places) note ∙ all.all;
    stays = ap (λ (s : SeatNote). s.left) note ∙ all.stays;
    alone = ap (λ (s : SeatNote). s.enters) note ∙ all.alone;
  }

  -- what it holds
  module _ (key : HallKey) (deque : DequeId) (others all : LaneSlot → List (ℕ × Slot)) (at : AtNext) (next : Next) (ready : ℕ)
      (more : (lane : LaneSlot) → before.hand.holds ≡ others lane → holds ≡ all lane) where
    pub holding : IsHolding key before deque others at next ready → IsHolding key middle deque all at next ready
    holding is = record {
      goes = subst (λ (s : HallSeat). MayGoOn s deque) (sym seen) (record { placed = is.goes.placed; stays = is.goes.stays; owns = is.goes.owns });
      lane = is.lane;
      holds = ap (λ (s : HallSeat). s.hand.holds) seen ∙ more is.lane is.holds;
      is_next = is.is_next;
    }

    pub is_before : IsBefore key before deque others at next ready → IsBefore key middle deque all at next ready
    is_before is = record {
      holding = holding is.holding;
      free = ap (λ (s : SeatNote). s.counting) note ∙ is.free;
      none = ap (λ (s : SeatNote). s.found) note ∙ is.none;
    }

  -- how it leaves
  module _ (after : HallSeat) where
    pub looked : (more : List (Look Slot)) (new : SeatNote) → HasLooked middle more new after → HasLooked before (xs ++ more) new after
    looked more new put = put
        ∙ ap (λ (s : HallSeat). with_hand s (record { seated = s.hand.seated; holds = []; note = new; looks = s.hand.looks ++ more })) seen
        ∙ ap (λ looks. with_hand before (record { seated = before.hand.seated; holds = []; note = new; looks = looks })) (append_assoc before.hand.looks xs more)

    pub leaves : (owned : Option DequeId) (event : Event) (more : List (Look Slot)) → HasLooked middle more (told_note middle.hand.note owned event) after
        → HasLooked before (xs ++ more) (told_note before.hand.note owned event) after
    leaves owned event more left = subst (λ n. HasLooked before (xs ++ more) (told_note n owned event) after) note
        (looked more (told_note middle.hand.note owned event) left)

    pub fails : (Shows : List (Look Slot) → ActRefused → Type 0) (refused : ActRefused)
        → FailsBy (λ more. Shows (xs ++ more)) middle refused after → FailsBy Shows before refused after
    fails Shows refused f = (
      xs ++ f.0,
      f.1,
      subst (λ n. HasLooked before (xs ++ f.0) (refusal_note n refused) after) note (looked f.0 (refusal_note middle.hand.note refused) f.2),
    )
