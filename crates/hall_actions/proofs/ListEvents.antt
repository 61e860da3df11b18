-- What a give up, or an event that leaves a result, wrote into the list and the lane may be put back.
use Rattle.std.proofs.Common.{◌≡◌, ◌≢◌, ℕ, ◌≤◌, List, ◌∷◌, refl, sym, ap, ◌∙◌, subst}
use Rattle.std.proofs.lemmas.List.Sorted.{IsPermutation-cons, IsPermutation-trans}
use Rattle.std.specs.List.Sorted.{IsPermutation}
use Rattle.std.specs.Prelude.{None}
use Rattle.hall_parts.specs.HallNames.{DequeId, Each, list_shown, LaneSlot, ListSlot, PoolSlot, HallKey, quota_of, HallSeat, ThreadId, ListShown, Ended}
use Rattle.hall_parts.specs.HallNames.{Thread, Kept, kept_under}
use Rattle.depth_first_list.specs.Actions.{record_words}
use Rattle.thread_frames.specs.Kept.{IsUnderItsId, WaitsUnder}
use Rattle.thread_frames.specs.Passed.Parts as shown
use Rattle.thread_frames.proofs.Found.{none_found}
use Rattle.hall_parts.specs.EventParts.{IsAtAction, MayGoOn, MayPause, IsUnawaited}
use Rattle.hall_parts.specs.Puts.{note_of, MayPutListAndLane}
use Rattle.hall_parts.specs.Rooms.{HasMoreBooks, HasMoreToLeave, HasMoreToWait}
use Rattle.hall_parts.specs.Staying.{NotesOn, AllAtPoints}
use Rattle.hall_parts.specs.Taken.{list_and_lane}
use Rattle.hall_parts.specs.Writes.{parts}
use Rattle.hall_parts.specs.Writing.{DoesEvent, counts}
use Rattle.hall_parts.specs.declared.noting.Noting.{Noting}
use Rattle.hall_parts.specs.declared.noting.Noting.TheVariants.{Yields}
use Rattle.hall_parts.proofs.Pauses.{yields_do}
use Rattle.hall_parts.proofs.Noted.{list_may}
use Rattle.hall_parts.proofs.Waits.{nobody_waits}
use Rattle.hall_parts.proofs.Staying.{given_up_stays_sound}
use Rattle.hall_parts.proofs.Taken.{unkept}
use Rattle.hall_slots.specs.Passed.Period.{Period as OpenPeriod}
use Rattle.hall_slots.specs.ListCalls.{ShowsUnowned, HasNoOwner, KeepsRest}
use Rattle.hall_actions.specs.Ends.{CanLeave}
use Rattle.hall_actions.specs.Pauses.{CanClose, CanWait}
use Rattle.hall_actions.proofs.Roomier.{has_from, rest_from, shows_unowned_from, unowned_from}

-- the list that was taken, with room to close a period, in which the deque has no owner now
pub given_up_may : (key : HallKey) (seat : HallSeat) (deque : DequeId) (noting : Noting) → record_words ≤ quota_of key → MayGoOn seat deque
    → seat.hand.note.counting ≡ counts noting → NotesOn seat.hand.note (note_of seat.hand.note noting) → (was now after : ListSlot) (lane_was lane : LaneSlot)
    → HasMoreBooks was now → CanClose deque now → HasNoOwner deque now.part.order.places after.part.order.places → KeepsRest now after
    → lane.running ≡ None → AllAtPoints key lane → seat.hand.holds ≡ list_and_lane deque was lane_was
    → ((pool : PoolSlot) → DoesEvent key seat.hand.note.worker deque (parts was pool lane_was) (parts after pool lane) noting)
    → MayPutListAndLane key seat deque after lane (note_of seat.hand.note noting)
given_up_may key seat deque noting quota goes counting on was now after lane_was lane more closes places rest idle points holds does =
    list_may key seat deque noting quota goes counting lane_was lane was after holds does
    (λ pool. given_up_stays_sound key seat deque was after pool lane_was lane (note_of seat.hand.note noting) closes.owner on
    (has_from was now deque closes.owner more.deques closes.has) (unowned_from was now after deque more.deques places)
    (rest_from was now after deque more.deques more.waiting more.results rest) idle points)

-- so it is with a give up that nothing asks for
pub yields_may : (key : HallKey) (seat : HallSeat) (deque : DequeId) → MayPause seat deque → record_words ≤ quota_of key → (was now after : ListSlot)
    (lane_was lane : LaneSlot) (top : Thread) (under : List Thread) (holder : ℕ) (period : OpenPeriod) → IsAtAction lane_was top under holder period
    → seat.hand.holds ≡ list_and_lane deque was lane_was → HasMoreBooks was now → CanClose deque now
    → HasNoOwner deque now.part.order.places after.part.order.places → KeepsRest now after
    → ShowsUnowned now after deque (record { worker = holder; period = period }) → lane.lane.items ≡ top ∷ under → lane.running ≡ None
    → AllAtPoints key lane → MayPutListAndLane key seat deque after lane (note_of seat.hand.note (Yields deque))
yields_may key seat deque may quota was now after lane_was lane top under holder period at holds more closes places rest shows_it items idle points =
    given_up_may key seat deque (Yields deque) quota may.goes may.counting (record { worker = refl; left = refl; answered = refl; found = λ stop is. is })
    was now after lane_was lane more closes places rest idle points holds
    (λ pool. yields_do key seat.hand.note.worker deque (parts was pool lane_was) (parts after pool lane) top under holder period at refl idle items
    (shows_unowned_from was now after deque (record { worker = holder; period = period }) more shows_it))

-- the list that was taken, with room for a thread that waits, has no result of the child for which it waits
pub none_there : (was now : ListSlot) → HasMoreToWait was now → (key : HallKey) (top : Thread) (child : ThreadId) (waits : CanWait key now top child)
    → Each (λ result. shown.Result.id result ≢ shown.Child.id waits.newest) (ListShown.results (list_shown was))
none_there was now more key top child waits =
    subst (λ (i : ThreadId). Each (λ result. shown.Result.id result ≢ i) (ListShown.results (list_shown was))) (sym waits.waits_for)
    (unkept child was.part.results.entries (subst (λ (k : Kept Ended). Each IsUnderItsId k.entries) more.results waits.ids)
    (none_found child was.part.results.entries (ap (λ (k : Kept Ended). kept_under k child) (sym more.results) ∙ waits.no_result)))

-- the list that was taken, with room for a result, before the result of a thread that ended is left there
module _ (was now : ListSlot) (more : HasMoreToLeave was now) where
  pub nobody_there : (id : ThreadId) → CanLeave now id → IsUnawaited was id
  nobody_there id leaves = nobody_waits was id (subst (λ (k : Kept Thread). Each WaitsUnder k.entries) more.waiting leaves.waiting)
      (ap (λ (k : Kept Thread). kept_under k id) (sym more.waiting) ∙ leaves.nobody)

  pub left_there : (after : ListSlot) (id of : ThreadId) (ended : Ended) → id ≡ of
      → IsPermutation ((id, ended) ∷ now.part.results.entries) after.part.results.entries
      → IsPermutation ((of, ended) ∷ was.part.results.entries) after.part.results.entries
  left_there after id of ended same there =
      IsPermutation-trans ((of, ended) ∷ was.part.results.entries) ((of, ended) ∷ now.part.results.entries) after.part.results.entries
      (IsPermutation-cons (of, ended) was.part.results.entries now.part.results.entries more.results.0)
      (subst (λ (i : ThreadId). IsPermutation ((i, ended) ∷ now.part.results.entries) after.part.results.entries) same there)
