-- A seat that may draw a count, and how it fails if there is none for it.
use Rattle.std.proofs.Common.{◌≡◌, ℕ, ◌≤◌, List, [], ◌∷◌, ◌++◌, refl, sym, ap, ◌∙◌, subst}
use Rattle.std.specs.Prelude.{Some}
use Rattle.hall_actions.specs.Passed.HallNames.{DequeId, HallSeat, HallKey, LaneSlot, Slot, Next, with_hand}
use Rattle.play_rules.specs.declared.stop.Stop.{Stop}
use Rattle.play_rules.specs.declared.stop.Stop.TheVariants.{StepsSpent}
use Rattle.turn_table.specs.declared.look.Look.TheVariants.{Counted}
use Rattle.hall_slots.specs.Counting.{HasFoundSpent, MayDraw}
use Rattle.hall_actions.specs.Passed.Puts.{HasPut}
use Rattle.hall_actions.specs.Passed.EventParts.{MayGoOn}
use Rattle.hall_actions.specs.declared.at_next.AtNext.{AtNext}
use Rattle.hall_owner.specs.Holding.{AtCount, FailsBy, IsHolding, IsBefore}
use Rattle.hall_actions.specs.declared.refused.ActRefused.TheVariants.{Stopped}

module _ (key : HallKey) (before : HallSeat) (deque : DequeId) (others : LaneSlot → List (ℕ × Slot)) (at : AtNext) (next : Next) (ready : ℕ)
    (is : IsBefore key before deque others at next ready) where
  pub may_draw : MayDraw before
  may_draw = record {
    placed = is.holding.goes.placed;
    stays = is.holding.goes.stays;
    owns = (deque, is.holding.goes.owns);
    free = is.free;
    none = is.none;
  }

  -- if the steps are spent
  module _ (limit : ℕ) (is_limit : limit ≡ key.actions) (middle : HallSeat) (stop : Stop) (spent : HasFoundSpent limit before stop middle) where
    pub still_holds : IsHolding key middle deque others at next ready
    still_holds = record {
      goes = subst (λ (s : HallSeat). MayGoOn s deque) (sym spent.3) (record { placed = is.holding.goes.placed; stays = is.holding.goes.stays; owns = is.holding.goes.owns });
      lane = is.holding.lane;
      holds = ap (λ (s : HallSeat). s.hand.holds) spent.3 ∙ is.holding.holds;
      is_next = is.holding.is_next;
    }

    pub stopped : (after : HallSeat) → HasPut middle middle.hand.note [] after → FailsBy (AtCount key.actions) before (Stopped stop) after
    stopped after put = (
      Counted spent.0 ∷ [],
      (spent.0, subst (λ n. n ≤ spent.0) is_limit spent.1, ap Stopped (spent.2 ∙ ap StepsSpent is_limit), refl),
      put
          ∙ ap (λ (s : HallSeat). with_hand s (record { seated = s.hand.seated; holds = []; note = s.hand.note; looks = s.hand.looks })) spent.3
          ∙ ap (λ (stop : Stop). with_hand before (record {
            seated = before.hand.seated;
            holds = [];
            note = record before.hand.note { found = Some stop };
            looks = before.hand.looks ++ Counted spent.0 ∷ [];
          })) (sym spent.2),
    )
