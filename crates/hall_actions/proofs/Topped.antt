-- An owner whose top thread has come to its next action, as the law of events sees it.
use Rattle.std.proofs.Common.{◌≡◌, List, ◌∷◌, map, ap, ◌∙◌}
use Rattle.std.proofs.Math.Logic.{∥∥₁_elim}
use Rattle.std.specs.Prelude.{Some}
use Rattle.hall_parts.specs.HallNames.{DequeId, LaneSlot, HallKey, table_of, quota_of, terms_of, value_of, view_of, HallSeat, MeetsLaw, Terms, machine_of}
use Rattle.hall_parts.specs.HallNames.{Setting, IsOfTheList, thread_shown, Next, Thread, notes}
use Rattle.hall_slots.specs.Passed.LawfulOrder.{IsLawful}
use Rattle.hall_slots.specs.Passed.Run.{list_of}
use Rattle.moment_shown.specs.Events.{Works}
use Rattle.moment_shown.specs.Standing.{Shows}
use Rattle.hall_parts.specs.Passed.Settings.{IsSettingOf}
use Rattle.hall_machine.specs.Values.{Hall, LaneShown, parts_of}
use Rattle.hall_machine.specs.Writing.{IsAtWork, lane_with}
use Rattle.hall_machine.specs.State.{HallLaw}
use Rattle.hall_machine.proofs.Own.{works}
use Rattle.hall_slots.specs.Steps.{hall_shown}
use Rattle.hall_actions.specs.Reads.{HoldsItsLane}
use Rattle.hall_actions.specs.Lists.{ComesTo}
use Rattle.hall_actions.proofs.Awaiting.{still_shows}
use Rattle.hall_actions.proofs.Listing.{gives}
use Rattle.hall_actions.proofs.Reading.{shown, at_work, lane_is}

module _ (key : HallKey) (seat : HallSeat) (deque : DequeId) (lane : LaneSlot) (has : HoldsItsLane seat deque lane) (meets : MeetsLaw key seat) (top : Thread) (under : List Thread)
    (next : Next) (comes : ComesTo key lane top under next) where
  -- what holds at the moment where the hall stands and where the list has the next action, for each program that the key may be of, holds
  pub gives_next : {P : Type 0} → IsProp P → ((c : Setting) → IsSettingOf (table_of key) (quota_of key) c
      → HallLaw (machine_of c (terms_of key)) (Terms.limits (terms_of key)) (map value_of (shown key seat deque lane has meets)) meets.1 (map view_of (notes meets.2))
      → IsOfTheList c top next → P) → P
  gives_next prop f = gives key seat deque lane has meets prop (λ c of law. ∥∥₁_elim (comes.listed c of) prop (λ is. f c of law is))

  module _ (c : Setting)
      (law : HallLaw (machine_of c (terms_of key)) (Terms.limits (terms_of key)) (map value_of (shown key seat deque lane has meets)) meets.1 (map view_of (notes meets.2))) where
    abbrev pub its_hall : Hall
    its_hall = hall_shown (shown key seat deque lane has meets)

    pub was : (w : IsAtWork its_hall seat.hand.note.worker) × (w.id ≡ deque)
    was = at_work key seat deque lane has meets c law

    pub threads_are : IsAtWork.top was.0 ∷ IsAtWork.under was.0 ≡ thread_shown top ∷ map thread_shown under
    threads_are = ap (λ (l : LaneShown). l.threads) (lane_is key seat deque lane has meets c law was.0 was.1) ∙ ap (map thread_shown) comes.items
        ∙ ap (λ t. t ∷ map thread_shown under) (still_shows comes.top_was top comes.still)

    pub its_lane : lane_with (IsAtWork.top was.0 ∷ IsAtWork.under was.0) (Some (IsAtWork.period was.0)) ≡ lane_with (thread_shown top ∷ map thread_shown under) (Some (IsAtWork.period was.0))
    its_lane = ap (λ ts. lane_with ts (Some (IsAtWork.period was.0))) threads_are

    -- the worker is at work with the thread as it is now
    abbrev pub now : IsAtWork its_hall seat.hand.note.worker
    now = record {
      left = IsAtWork.left was.0;
      id = IsAtWork.id was.0;
      right = IsAtWork.right was.0;
      top = thread_shown top;
      under = map thread_shown under;
      period = IsAtWork.period was.0;
      places_are = IsAtWork.places_are was.0;
      lane_is = IsAtWork.lane_is was.0 ∙ its_lane;
    }

    abbrev pub o : Works (parts_of its_hall) seat.hand.note.worker
    o = works (machine_of c (terms_of key)) its_hall law.steps law.moment law.state.stands now

    pub lawful : IsLawful (machine_of c (terms_of key)) law.moment
    lawful = law.state.stands.standing.lawful

    pub parts_show : Shows c.quota (list_of c) (parts_of its_hall) law.moment
    parts_show = law.state.stands.standing.shows
