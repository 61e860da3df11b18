-- What shows the same is no event, nor is want of memory.
use Rattle.std.proofs.Common.{◌≡◌, ℕ, zero, suc, List, [], ◌∷◌, refl, sym, ap, ◌∙◌, subst}
use Rattle.std.specs.Option.{option_map}
use Rattle.std.specs.Prelude.{Some, slice_set, slice_index_or}
use Rattle.atomic_table.proofs.Lists.{set_again}
use Rattle.hall_parts.specs.HallNames.{DequeId, lane_shown, stop_shown, view_of, terms_of, Terms, machine_of, Hall, LaneShown, no_lane, no_memory, lane_at}
use Rattle.hall_slots.specs.Passed.HallMachineViews.{View}
use Rattle.hall_slots.proofs.Passed.Halting.{finding_keeps_crew}
use Rattle.hall_slots.specs.Passed.State.{RunningState}
use Rattle.hall_slots.proofs.Reading.{at_of_get}
use Rattle.hall_parts.specs.Quiet.{StatementsMayCome, WantsOfMemoryMayCome}

-- a lane that is written as it is there is not written
written_again : (lanes : List LaneShown) (n : ℕ) → slice_set lanes n (slice_index_or lanes n no_lane) ≡ lanes
written_again [] n = refl
written_again (x ∷ xs) zero = refl
written_again (x ∷ xs) (suc n) = ap (λ ys. x ∷ ys) (written_again xs n)

pub same_hall : (h : Hall) (deque : DequeId) (lane : LaneShown) → lane_at h.lanes deque ≡ lane → slice_set h.lanes deque.0 lane ≡ h.lanes
same_hall h deque lane is = ap (slice_set h.lanes deque.0) (sym is) ∙ written_again h.lanes deque.0

pub statements_may_come : StatementsMayCome
statements_may_come key seat deque list pool lane_was lane same c of h count views run list_is pool_is lane_is its = ∣ (
  run.0,
  run.1,
  run.2,
  subst (λ (z : Hall × List View). RunningState (machine_of c (terms_of key)) (Terms.limits (terms_of key)) z.0 run.0 run.1 run.2 count z.1)
      (λ i. (
        record { list = list_is i; pool = pool_is i; lanes = sym (same_hall h deque (lane_shown lane) (lane_is ∙ sym same)) i },
        sym (set_again views seat.number (view_of seat.hand.note) (at_of_get views seat.number (view_of seat.hand.note) its)) i,
      )) run.3,
) ∣₁

pub wants_of_memory_may_come : WantsOfMemoryMayCome
wants_of_memory_may_come key seat deque list pool lane_was lane goes counting none same c of h count views run list_is pool_is lane_is its =
    let found : RunningState (machine_of c (terms_of key)) (Terms.limits (terms_of key)) h run.0 run.1 run.2 count (slice_set views seat.number (record (view_of seat.hand.note) { found = Some no_memory })) = record {
      stands = run.3.stands;
      crew = finding_keeps_crew (machine_of c (terms_of key)) (Terms.limits (terms_of key)) h run.0 run.1 run.2 count views seat.number (view_of seat.hand.note) no_memory run.3.crew its goes.placed
          counting (ap (option_map stop_shown) none) tt;
    } in ∣ (
      run.0,
      run.1,
      run.2,
      subst (λ (x : Hall). RunningState (machine_of c (terms_of key)) (Terms.limits (terms_of key)) x run.0 run.1 run.2 count (slice_set views seat.number (record (view_of seat.hand.note) { found = Some no_memory })))
          (λ i. record { list = list_is i; pool = pool_is i; lanes = sym (same_hall h deque (lane_shown lane) (lane_is ∙ sym same)) i }) found,
    ) ∣₁
