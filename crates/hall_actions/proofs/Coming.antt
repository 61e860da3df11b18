-- The seat that took its lane, and what its call comes to.
use Rattle.std.proofs.Common.{◌≡◌, ℕ, ◌+◌, ◌<◌, List, [], ◌∷◌, inl, refl, sym, ap, ◌∙◌, subst}
use Rattle.std.specs.Option.{option_map}
use Rattle.std.specs.Prelude.{Some, Bool, Result, Ok, Err, IfOk}
use Rattle.containers.specs.BoundedList.{spare}
use Rattle.hall_parts.specs.HallNames.{DequeId, running_shown, HallSeat, IsTaken, MeetsLaw, HallKey, LaneSlot, Slot, Next, HasAs, with_hand}
use Rattle.play_rules.specs.declared.stop.Stop.{Stop}
use Rattle.hall_parts.specs.Puts.{HasPut}
use Rattle.hall_actions.specs.Reads.{HoldsItsLane}
use Rattle.hall_actions.proofs.Reading.{owners_read}
use Rattle.hall_slots.specs.declared.slot.Slot.TheVariants as slots
use Rattle.hall_actions.specs.Advancing.{HasCome, HasLooked, IsNotBusy, IsReadable, MayCome, RunsOn, took_lane}
use Rattle.hall_actions.specs.Stepping.{GoesSteps, StepsBack}
use Rattle.hall_actions.specs.declared.refused.ActRefused.{ActRefused}
use Rattle.hall_actions.specs.declared.refused.ActRefused.TheVariants.{Busy, Over, Stopped}
use Rattle.hall_actions.specs.declared.at_next.AtNext.{AtNext}
use Rattle.hall_actions.specs.declared.memory.SeatMemory.{SeatMemory}

module _ (key : HallKey) (before middle : HallSeat) (deque : DequeId) (was : LaneSlot) (may : MayCome before deque) (taken : IsTaken before (deque.0 + 2) (slots.Lane was) middle) where
  holds : middle.hand.holds ≡ (deque.0 + 2, slots.Lane was) ∷ []
  holds = ap (λ (s : HallSeat). s.hand.holds) taken ∙ ap (λ (xs : List (ℕ × Slot)). (deque.0 + 2, slots.Lane was) ∷ xs) may.free

  pub readable : MeetsLaw key middle → (lane : LaneSlot) → lane.lane.items ≡ was.lane.items → option_map running_shown lane.running ≡ option_map running_shown was.running
      → IsReadable key middle deque was lane
  readable meets lane items shown =
      let placed : 0 < middle.hand.note.places = subst (λ (s : HallSeat). 0 < s.hand.note.places) (sym taken) may.may.goes.placed in
      let stays = ap (λ (s : HallSeat). s.hand.note.left) taken ∙ may.may.goes.stays in
      let owns = ap (λ (s : HallSeat). s.hand.note.deque) taken ∙ may.may.goes.owns in
      let held : HasAs (deque.0 + 2) (slots.Lane was) middle.hand.holds = subst (HasAs (deque.0 + 2) (slots.Lane was)) (sym holds) (inl (refl, refl)) in
      let has : HoldsItsLane middle deque was = record { placed = placed; stays = stays; owns = owns; holds = held } in record {
        may = record { goes = record { placed = placed; stays = stays; owns = owns }; counting = ap (λ (s : HallSeat). s.hand.note.counting) taken ∙ may.may.counting };
        none = ap (λ (s : HallSeat). s.hand.note.found) taken ∙ may.none;
        holds = holds;
        items = items;
        shown = shown;
        reads = owners_read key middle deque was has meets;
        is_key = meets.3.kept.0.key_is;
      }

  -- a lane that went back since memory was wanting
  pub fell_short : (stop : Stop) (after : HallSeat) → HasPut middle (record middle.hand.note { found = Some stop }) [] after
      → HasLooked before (took_lane deque was ∷ []) (record before.hand.note { found = Some stop }) after
  fell_short stop after put = put ∙ ap (λ (s : HallSeat). with_hand s (record { seated = s.hand.seated; holds = []; note = record s.hand.note { found = Some stop }; looks = s.hand.looks })) taken

  pub has_come : (memory : SeatMemory) (r : Result (AtNext × Next) ActRefused) (after : HallSeat) → RunsOn key middle was (spare memory.births) r after → HasCome key before deque memory r after
  has_come memory (Ok come) after runs = (was, runs.0 ∙ taken, runs.1)
  has_come memory (Err (Busy held)) after runs = absurd runs
  has_come memory (Err (Over end)) after runs = absurd runs
  has_come memory (Err (Stopped stop)) after runs = (runs.0, (was, fell_short stop after runs.1))

  -- a lane that went back after some steps
  pub has_stepped : (r : Result Bool ActRefused) (after : HallSeat) → StepsBack key middle was r after → GoesSteps key before deque r after
  has_stepped (Ok came) after back = (
    was,
    back.0,
    back.1,
    back.2
        ∙ ap (λ (s : HallSeat). with_hand s (record { seated = s.hand.seated; holds = []; note = s.hand.note; looks = s.hand.looks })) taken,
  )
  has_stepped (Err (Busy held)) after put = absurd put
  has_stepped (Err (Over end)) after put = absurd put
  has_stepped (Err (Stopped stop)) after put = (put.0, (was, fell_short stop after put.1))

-- a seat whose thread has come there still meets the law
pub still_meets : (key : HallKey) (middle : HallSeat) (was : LaneSlot) (ready : ℕ) (r : Result (AtNext × Next) ActRefused) (after : HallSeat)
    → RunsOn key middle was ready r after → MeetsLaw key middle → IfOk r (λ _. MeetsLaw key after)
still_meets key middle was ready (Ok come) after runs meets = subst (MeetsLaw key) (sym runs.0) meets
still_meets key middle was ready (Err (Busy held)) after runs meets = tt
still_meets key middle was ready (Err (Over end)) after runs meets = tt
still_meets key middle was ready (Err (Stopped stop)) after runs meets = tt

-- and was refused nothing on the way
pub not_busy : (key : HallKey) (middle : HallSeat) (was : LaneSlot) (ready : ℕ) (r : Result (AtNext × Next) ActRefused) (after : HallSeat)
    → RunsOn key middle was ready r after → IsNotBusy r
not_busy key middle was ready (Ok come) after runs = tt
not_busy key middle was ready (Err (Busy held)) after runs = absurd runs
not_busy key middle was ready (Err (Over end)) after runs = tt
not_busy key middle was ready (Err (Stopped stop)) after runs = tt
