-- A seat at work, what its lane shows, and the hall after an event.
use Rattle.std.proofs.Common.{◌≡◌, ℕ, ◌<◌, ◌≤◌, List, [], ◌∷◌, map, false, sym, ap, ◌∙◌, subst, arith, reverse}
use Rattle.std.proofs.lemmas.Option.{same_Some}
use Rattle.std.specs.Prelude.{Option, Some, slice_get, slice_set}
use mathlib.Core.List.{map-append}
use Rattle.dag_order.specs.declared.birth.Birth.{Birth}
use Rattle.hall_parts.specs.HallNames.{DequeId, Event, LaneSlot, SeatNote, list_shown, lane_shown, pool_shown, told_shown, view_of, HallKey, table_of}
use Rattle.hall_parts.specs.HallNames.{quota_of, terms_of, HallSeat, ActionId, Terms, machine_of, Setting, Hall, ListShown, LaneShown, PoolShown, lane_at}
use Rattle.hall_parts.specs.HallNames.{open_for}
use Rattle.hall_slots.specs.Passed.Machine as machine
use Rattle.hall_slots.specs.Passed.Moments.{Moment}
use Rattle.hall_slots.specs.Passed.Play.{Limits}
use Rattle.hall_slots.specs.Passed.DepthFirstListActions.{record_words}
use Rattle.hall_slots.specs.Passed.Lists.{Among}
use Rattle.moment_laws.specs.Passed.Parts as parts
use Rattle.hall_slots.specs.Passed.Periods.{Period, open_shown}
use Rattle.hall_slots.specs.Passed.Tables.{noted}
use Rattle.hall_slots.specs.Passed.Period.{Period as OpenPeriod}
use Rattle.hall_slots.specs.Passed.ThreadFramesActions.{IsStill}
use Rattle.hall_slots.specs.Passed.Thread.{Thread}
use Rattle.hall_slots.specs.Passed.Shown.{child_shown, thread_shown}
use Rattle.thread_state.specs.Settings.{IsSettingOf}
use Rattle.hall_slots.specs.Passed.Changes.{after_event}
use Rattle.hall_slots.specs.Passed.Crew.{SeatStands}
use Rattle.hall_slots.specs.Passed.HallMachineViews.{View}
use Rattle.hall_slots.specs.Passed.Steps.{Step, Leads}
use Rattle.hall_slots.specs.Passed.Writing.{IsAtWork, place_of, lane_with, written}
use Rattle.hall_slots.proofs.Passed.Closing.{owners_are_at_work}
use Rattle.hall_slots.specs.Passed.State.{RunningState, IsIn, GoesOn}
use Rattle.hall_parts.specs.Here.{ShowsOwn}
use Rattle.hall_slots.specs.Steps.{IsRunning}
use Rattle.hall_parts.specs.Writes.{Parts, hall_with, told_note}
use Rattle.hall_parts.proofs.Owned.{split}
use Rattle.hall_parts.specs.EventParts.{IsAtAction, MayGoOn}

-- a thread that has done nothing shows what it showed
pub still_shows : (was now : Thread) → IsStill was now → thread_shown now ≡ thread_shown was
still_shows was now still = λ i. record {
  id = still.same.id i;
  parent = still.same.parent i;
  label = still.same.label i;
  done = still.done i;
  func = still.same.func i;
  children = map child_shown (reverse (still.children i));
  words = still.words i;
}

abbrev first_of : List parts.Thread → parts.Thread → parts.Thread
first_of [] other = other
first_of (x ∷ xs) other = x

abbrev rest_of : List parts.Thread → List parts.Thread
rest_of [] = []
rest_of (x ∷ xs) = xs

-- what the note of a seat that did an event is, as it is viewed
pub viewed : (note : SeatNote) (owns : Option DequeId) (event : Event) → after_event (view_of note) owns (told_shown event) note.yielded ≡ view_of (told_note note owns event)
viewed note owns event = λ i. record (view_of note) { deque = owns; counting = false; mine = sym (map-append told_shown note.mine (event ∷ [])) i }

-- a worker at work in whose lane this period is noted for somebody
module _ {h : Hall} {worker : ℕ} (w : IsAtWork h worker) (deque : DequeId) (lane : LaneSlot) (top : Thread) (under : List Thread) (holder : ℕ) (before : OpenPeriod)
    (id_is : w.id ≡ deque) (shows : lane_at h.lanes deque ≡ lane_shown lane) (at : IsAtAction lane top under holder before) where
  lane_is : lane_with (w.top ∷ w.under) (Some w.period) ≡ lane_shown lane
  lane_is = sym w.lane_is ∙ ap (lane_at h.lanes) id_is ∙ shows

  threads_are : w.top ∷ w.under ≡ thread_shown at.top_was ∷ map thread_shown under
  threads_are = ap (λ (l : LaneShown). l.threads) lane_is ∙ ap (map thread_shown) at.items

  pub period_was : w.period ≡ open_shown holder before
  period_was = same_Some w.period (open_shown holder before) (ap (λ (l : LaneShown). l.period) lane_is ∙ at.running)

  pub own : ShowsOwn w top under before
  own = record {
    top_is = ap (λ xs. first_of xs w.top) threads_are ∙ sym (still_shows at.top_was top at.still);
    under_is = ap rest_of threads_are;
    period_is = ap (open_for worker) period_was;
  }

  -- what is noted in it for its owner is noted in it for whoever it is
  pub period_now : (after : OpenPeriod) (name : ActionId) (words : ℕ) (births : List Birth) → open_shown worker after ≡ noted (open_for worker w.period) name words births
      → noted w.period name words births ≡ open_shown holder after
  period_now after name words births is = ap {A = Option ℕ} {B = Period} (λ o. record (noted w.period name words births) { owner = o }) (ap (λ p. Period.owner p) period_was)
      ∙ sym (ap {A = Period} {B = Period} (λ p. record p { owner = Some holder }) is)

  pub period_told : (after : OpenPeriod) (name : ActionId) → ((who : ℕ) → open_shown who after ≡ noted (open_shown who before) name 0 [])
      → noted w.period name 0 [] ≡ open_shown holder after
  period_told after name notes = ap (λ p. noted p name 0 []) period_was ∙ sym (notes holder)

module _ (key : HallKey) (seat : HallSeat) (deque : DequeId) (goes : MayGoOn seat deque) (c : Setting) (h : Hall) (count : ℕ) (views : List View)
    (run : IsRunning (machine_of c (terms_of key)) (Terms.limits (terms_of key)) h count views) (its : slice_get views seat.number ≡ Some (view_of seat.hand.note)) where
  abbrev pub s : machine.Setting
  s = machine_of c (terms_of key)

  abbrev pub limits : Limits
  limits = Terms.limits (terms_of key)

  abbrev pub v : View
  v = view_of seat.hand.note

  pub some : record_words ≤ quota_of key → IsSettingOf (table_of key) (quota_of key) c → 0 < c.quota
  some quota of = let same = IsSettingOf.quota of in omega (arith, quota, same)

  its_place : Among (place_of deque (Some v.worker)) h.list.places
  its_place = SeatStands.owns (run.3.crew.seats seat.number v its goes.placed) deque goes.owns

  pub work : (w : IsAtWork h v.worker) × (w.id ≡ deque)
  work = let cut = split (place_of deque (Some v.worker)) h.list.places its_place in
      owners_are_at_work s h run.0 run.1 run.3.stands cut.left cut.right deque v.worker cut.is

  pub here : IsIn views seat.number v
  here = record { noted = its; placed = goes.placed; stays = goes.stays }

-- the hall that an event writes is the one with the parts that show it
pub hall_now : {h : Hall} {worker : ℕ} (w : IsAtWork h worker) (deque : DequeId) (now : Parts) (list : ListShown) (pool : PoolShown) (lane : LaneShown) → w.id ≡ deque
    → list ≡ list_shown now.list → pool ≡ pool_shown now.pool → lane ≡ lane_shown now.lane → written w list pool lane ≡ hall_with h deque now
hall_now {h} {worker} w deque now list pool lane id_is list_is pool_is lane_is = λ i. record { list = list_is i; pool = pool_is i; lanes = slice_set h.lanes (DequeId.0 (id_is i)) (lane_is i) }
