-- A seat that tries to take the list or the pool beside what it holds.
use Rattle.std.proofs.Common.{◌≡◌, ℕ, ◌+◌, ◌≤◌, ◌<◌, List, [], ◌∷◌, ◌++◌, inl, refl, sym, ap, ◌∙◌, subst, append-nil}
use Rattle.std.specs.Prelude.{Option, Some}
use Rattle.hall_actions.specs.Passed.HallNames.{DequeId, HallSeat, IsTaken, IsRefused, MeetsLaw, HallKey, LaneSlot, ListSlot, PoolSlot, Slot, Next, HasAs, with_hand}
use Rattle.hall_actions.specs.Passed.HallNames.{PoolIsSound}
use Rattle.play_rules.specs.declared.ends.RunEnd.{RunEnd}
use Rattle.play_rules.specs.declared.stop.Stop.{Stop}
use Rattle.play_rules.specs.declared.stop.Stop.TheVariants.{ArenaFull, OutOfMemory}
use Rattle.turn_table.specs.declared.held.Held.{Held}
use Rattle.turn_table.specs.declared.look.Look.{Look}
use Rattle.turn_table.specs.declared.look.Look.TheVariants.{Took, Refused}
use Rattle.hall_actions.specs.Passed.Puts.{HasPut}
use Rattle.hall_actions.specs.Passed.EventParts.{MayGoOn, MayPause}
use Rattle.hall_actions.specs.Passed.Writes.{Parts}
use Rattle.hall_actions.specs.Passed.Taken.{its_lane, pool_and_lane}
use Rattle.hall_actions.specs.Passed.NotingVariants.{Found}
use Rattle.hall_actions.proofs.Reading.{pools_are_sound}
use Rattle.hall_slots.specs.Lists.{answered_note}
use Rattle.hall_slots.specs.declared.slot.Slot.TheVariants as slots
use Rattle.hall_actions.specs.declared.at_next.AtNext.{AtNext}
use Rattle.hall_actions.proofs.Notable.{full_arenas_may_be_noted, memory_may_be_noted}
use Rattle.hall_actions.proofs.Returned.{same_pool}
use Rattle.hall_actions.specs.Returning.{MayNote, ReturnsPool}
use Rattle.hall_owner.proofs.Following.{is_before}
use Rattle.hall_owner.proofs.Given.{lane_back}
use Rattle.hall_owner.specs.Holding.{AtList, AtMemory, FailsBy, IsHolding, IsBefore, found_note}
use Rattle.hall_owner.specs.Taking.{AsksByTheList}
use Rattle.hall_actions.specs.WithPool.{words_asked_by}
use Rattle.hall_actions.specs.declared.refused.ActRefused.{ActRefused}
use Rattle.hall_actions.specs.declared.refused.ActRefused.TheVariants.{Busy, Over, Stopped}

-- it may ask for memory
pub may_pause : (key : HallKey) (seat : HallSeat) (deque : DequeId) (others : LaneSlot → List (ℕ × Slot)) (at : AtNext) (next : Next) (ready : ℕ)
    → IsBefore key seat deque others at next ready → MayPause seat deque
may_pause key seat deque others at next ready b = record { goes = b.holding.goes; counting = b.free }

pub may_want : (key : HallKey) (seat : HallSeat) (deque : DequeId) (others : LaneSlot → List (ℕ × Slot)) (at : AtNext) (next : Next) (ready : ℕ)
    → IsBefore key seat deque others at next ready → (was : Parts) → MayNote key seat deque was (Found OutOfMemory)
may_want key seat deque others at next ready b was = memory_may_be_noted key seat deque was (may_pause key seat deque others at next ready b) b.none

-- a slot that it was refused
module _ (before middle : HallSeat) (slot : ℕ) (held : Held) (refused : IsRefused before slot held middle) where
  pub still_holding : (key : HallKey) (deque : DequeId) (others : LaneSlot → List (ℕ × Slot)) (at : AtNext) (next : Next) (ready : ℕ)
      → IsHolding key before deque others at next ready → IsHolding key middle deque others at next ready
  still_holding key deque others at next ready is = record {
    goes = subst (λ (s : HallSeat). MayGoOn s deque) (sym refused.1) (record { placed = is.goes.placed; stays = is.goes.stays; owns = is.goes.owns });
    lane = is.lane;
    holds = ap (λ (s : HallSeat). s.hand.holds) refused.1 ∙ is.holds;
    is_next = is.is_next;
  }

  pub busy : (Shows : List (Look Slot) → ActRefused → Type 0) → Shows (Refused held.slot held.seen ∷ []) (Busy held) → (after : HallSeat)
      → HasPut middle middle.hand.note [] after → FailsBy Shows before (Busy held) after
  busy Shows shows after put = (
    Refused held.slot held.seen ∷ [],
    shows,
    put
        ∙ ap (λ (s : HallSeat). with_hand s (record { seated = s.hand.seated; holds = []; note = s.hand.note; looks = s.hand.looks })) refused.1
        ∙ ap (λ n. with_hand before (record {
          seated = before.hand.seated;
          holds = [];
          note = before.hand.note;
          looks = before.hand.looks ++ Refused n held.seen ∷ [];
        })) (sym refused.0),
  )

-- there was not enough memory
pub wanting : (before after : HallSeat) → HasPut before (found_note before.hand.note OutOfMemory) [] after
    → FailsBy AtMemory before (Stopped OutOfMemory) after
wanting before after put = (
  [],
  (refl, refl),
  put ∙ ap (λ looks. with_hand before (record {
    seated = before.hand.seated;
    holds = [];
    note = found_note before.hand.note OutOfMemory;
    looks = looks;
  })) (sym (append-nil before.hand.looks)),
)

-- the list that it took, in which an end is kept
module _ (before middle : HallSeat) (list : ListSlot) (end : RunEnd) (kept : list.end ≡ Some end) (taken : IsTaken before 0 (slots.List list) middle) where
  pub over : (after : HallSeat) → HasPut middle (answered_note middle.hand.note list) [] after → FailsBy AtList before (Over end) after
  over after put = (
    Took 0 (slots.List list) ∷ [],
    (list, kept, refl),
    put
        ∙ ap (λ (s : HallSeat). with_hand s (record {
          seated = s.hand.seated;
          holds = [];
          note = answered_note s.hand.note list;
          looks = s.hand.looks;
        })) taken
        ∙ ap (λ (answered : Option RunEnd). with_hand before (record {
          seated = before.hand.seated;
          holds = [];
          note = record before.hand.note { answered = answered };
          looks = before.hand.looks ++ Took 0 (slots.List list) ∷ [];
        })) kept,
  )

-- the pool that it took
module _ (key : HallKey) (before middle : HallSeat) (deque : DequeId) (pool : PoolSlot) (taken : IsTaken before 1 (slots.Pool pool) middle)
    (meets : MeetsLaw key middle) where
  holds : HasAs 1 (slots.Pool pool) middle.hand.holds
  holds = subst (λ (s : HallSeat). HasAs 1 (slots.Pool pool) s.hand.holds) (sym taken) (inl (refl, refl))

  pub pool_sound : PoolIsSound key pool
  pool_sound = pools_are_sound key middle pool holds meets

  -- which has no room for the words of the action
  module _ (at : AtNext) (next : Next) (ready : ℕ) (b : IsBefore key before deque (its_lane deque) at next ready) (asks : AsksByTheList key at next)
      (full : pool.pool.capacity < pool.pool.live + words_asked_by next) where
    then : IsBefore key middle deque (pool_and_lane deque pool) at next ready
    then = is_before before middle ((1, slots.Pool pool) ∷ before.hand.holds) (Took 1 (slots.Pool pool) ∷ []) taken key deque (its_lane deque)
        (pool_and_lane deque pool) at next ready (λ lane held. ap (λ (xs : List (ℕ × Slot)). (1, slots.Pool pool) ∷ xs) held) b

    too_full : key.capacity < pool.pool.live + words_asked_by next
    too_full = subst (λ n. n < pool.pool.live + words_asked_by next) pool_sound.capacity full

    few : pool.pool.live ≤ key.capacity
    few = subst (λ n. pool.pool.live ≤ n) pool_sound.capacity pool_sound.within

    pub full_back : (lane : LaneSlot) → lane.lane.items ≡ at.top ∷ at.lane.items → lane.running ≡ Some at.running
        → ReturnsPool key middle deque pool lane (Found (ArenaFull pool.pool.live (words_asked_by next)))
    full_back lane items running = record {
      pool_was = pool;
      lane_was = then.holding.lane;
      holds = then.holding.holds;
      pool_same = same_pool pool;
      lane_same = lane_back key middle deque (pool_and_lane deque pool) at next ready then.holding lane items running;
      may = λ list. full_arenas_may_be_noted key middle deque list pool then.holding.lane next at.top at.lane.items at.running.worker at.running.period (words_asked_by next)
          b.holding.is_next.within.quota (may_pause key middle deque (pool_and_lane deque pool) at next ready then) then.none
          then.holding.is_next.at_action
          (asks pool.pool.live few too_full);
    }

    -- as the stop that was found
    pub stop_back : (asked : ℕ) → asked ≡ words_asked_by next → (stop : Stop) → stop ≡ ArenaFull pool.pool.live asked → (lane : LaneSlot)
        → lane.lane.items ≡ at.top ∷ at.lane.items → lane.running ≡ Some at.running → ReturnsPool key middle deque pool lane (Found stop)
    stop_back asked asked_is stop is lane items running = subst (λ s. ReturnsPool key middle deque pool lane (Found s)) (sym (is ∙ ap (ArenaFull pool.pool.live) asked_is))
        (full_back lane items running)

    -- so it fails
    pub full_fails : (Shows : List (Look Slot) → ActRefused → Type 0)
        → Shows (Took 1 (slots.Pool pool) ∷ []) (Stopped (ArenaFull pool.pool.live (words_asked_by next))) → (asked : ℕ) → asked ≡ words_asked_by next
        → (stop : Stop) → stop ≡ ArenaFull pool.pool.live asked → (after : HallSeat)
        → HasPut middle (found_note middle.hand.note stop) [] after → FailsBy Shows before (Stopped stop) after
    full_fails Shows shows asked asked_is stop is after put = (
      Took 1 (slots.Pool pool) ∷ [],
      subst (λ s. Shows (Took 1 (slots.Pool pool) ∷ []) (Stopped s)) (sym (is ∙ ap (ArenaFull pool.pool.live) asked_is)) shows,
      put ∙ ap (λ (s : HallSeat). with_hand s (record {
        seated = s.hand.seated;
        holds = [];
        note = found_note s.hand.note stop;
        looks = s.hand.looks;
      })) taken,
    )
