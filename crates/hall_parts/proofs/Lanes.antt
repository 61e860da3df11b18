-- What an action writes into a lane, or into a lane and the pool, is one event of the machine.
use Rattle.std.proofs.Common.{◌≡◌, ℕ, List, [], ◌∷◌, map, refl, sym, ap, ◌∙◌, subst}
use Rattle.std.proofs.Math.Logic.{∥∥₁_map}
use Rattle.std.proofs.lemmas.List.Sorted.{IsPermutation-refl}
use Rattle.std.specs.Option.{option_map}
use Rattle.std.specs.Prelude.{Option, Some}
use Rattle.dag_order.specs.declared.birth.Birth.{Birth}
use Rattle.hall_parts.specs.HallNames.{DequeId, list_shown, lane_shown, pool_shown, running_shown, HallKey, terms_of, ActionId, ThreadId, machine_of, Hall}
use Rattle.hall_parts.specs.HallNames.{ListShown, PoolShown, LaneShown, lane_at}
use Rattle.hall_interleavings.specs.Events.{ActsOn, acts_in_lane, ends_above}
use Rattle.hall_slots.specs.Passed.Facts.{words_at}
use Rattle.hall_slots.specs.Passed.Run.{list_of}
use Rattle.moment_laws.specs.Passed.Parts as shown
use Rattle.hall_slots.specs.Passed.Periods.{open_shown}
use Rattle.hall_slots.specs.Passed.Tables.{noted}
use Rattle.hall_slots.specs.Passed.Period.{Period as OpenPeriod}
use Rattle.thread_actions.specs.Acts.{IsCharged}
use Rattle.hall_slots.specs.Passed.ThreadFramesActions.{IsOfTheList}
use Rattle.hall_slots.specs.Passed.Next.{Next}
use Rattle.hall_slots.specs.Passed.NextVariants as nexts
use Rattle.hall_slots.specs.Passed.Thread.{Thread}
use Rattle.hall_slots.specs.Passed.Shown.{thread_shown, result_shown}
use Rattle.hall_slots.specs.Passed.ListChangesEvents.{DidJoin, DidEnd}
use Rattle.hall_slots.specs.Passed.Writing.{lane_with, written, joins_handed, PoolTakes}
use Rattle.hall_parts.specs.Here.{ShowsOwn, ActsHere, TakesWords}
use Rattle.hall_parts.specs.Ends.{EndsAbove}
use Rattle.hall_parts.specs.Joins.{JoinsHere}
use Rattle.hall_slots.specs.declared.event.Event.TheVariants.{Did}
use Rattle.hall_parts.specs.Writes.{Parts, hall_with}
use Rattle.hall_parts.specs.EventParts.{IsAtAction, IsNext, MayDoNext}
use Rattle.hall_parts.specs.Writing.{AtWorkWith, WritesInAnOrder, DoesEvent}
use Rattle.hall_parts.specs.declared.noting.Noting.TheVariants.{Does}
use Rattle.hall_parts.proofs.Working.{own, period_now, period_told, hall_now}

module _ (key : HallKey) (worker : ℕ) (deque : DequeId) (was now : Parts) (top : Thread) (under : List Thread) (holder : ℕ) (before : OpenPeriod)
    (at : IsAtAction was.lane top under holder before) where
  module _ (x : AtWorkWith key worker deque was) where
    -- the worker has these threads and this period
    pub its_own : ShowsOwn x.work top under before
    its_own = own x.work deque was.lane top under holder before x.id_is x.lane_is at

    -- the hall with these parts is the one that an event writes
    pub hall_is : (list : ListShown) (pool : PoolShown) (lane : LaneShown) → list ≡ list_shown now.list → pool ≡ pool_shown now.pool
        → lane ≡ lane_shown now.lane → written x.work list pool lane ≡ hall_with x.hall deque now
    hall_is list pool lane = hall_now x.work deque now list pool lane x.id_is

    -- what the list keeps in no order is in the order in which it is
    pub acts : (place : ℕ) (name : ActionId) (owned owns : Option DequeId) (after : Hall)
        → ActsOn (machine_of x.setting (terms_of key)) x.hall x.work place name after owned → owned ≡ owns → after ≡ hall_with x.hall deque now
        → WritesInAnOrder (machine_of x.setting (terms_of key)) x.hall x.work (Does (Did name) owns) (hall_with x.hall deque now)
    acts place name owned owns after did same is = (
      x.hall.list.waiting,
      x.hall.list.results,
      IsPermutation-refl x.hall.list.waiting,
      IsPermutation-refl x.hall.list.results,
      (
        place,
        subst (λ (z : Hall × Option DequeId). ActsOn (machine_of x.setting (terms_of key)) x.hall x.work place name z.0 z.1)
            (λ i. (is i, same i)) did,
      ),
    )

    pub takes_there : (next : Next) (t : Thread) (name : ActionId) → TakesWords next t name (pool_shown was.pool) (pool_shown now.pool)
        → (is : IsOfTheList x.setting t next) → PoolTakes (list_of x.setting) is.place name x.hall.pool (pool_shown now.pool)
    takes_there next t name takes is =
        subst (λ (p : PoolShown). PoolTakes (list_of x.setting) is.place name p (pool_shown now.pool)) (sym x.pool_is) (takes x.setting is)

    -- the lane in which the period goes on with an action that uses nothing of the quota
    pub runs_on : (threads : List shown.Thread) (after : OpenPeriod) (name : ActionId) → threads ≡ map thread_shown now.lane.lane.items
        → now.lane.running ≡ Some (record { worker = holder; period = after })
        → ((who : ℕ) → open_shown who after ≡ noted (open_shown who before) name 0 [])
        → lane_with threads (Some (noted x.work.period name 0 [])) ≡ lane_shown now.lane
    runs_on threads after name are running notes =
        ap (λ xs. lane_with xs (Some (noted x.work.period name 0 []))) are
        ∙ ap (λ p. lane_with (map thread_shown now.lane.lane.items) (Some p))
        (period_told x.work deque was.lane top under holder before x.id_is x.lane_is at after name notes)
        ∙ ap (lane_with (map thread_shown now.lane.lane.items)) (sym (ap (option_map running_shown) running))

  -- ---- an Alloc, a Release, a Fault, a Fork

  module _ (same_list : list_shown now.list ≡ list_shown was.list) (name : ActionId) (after : OpenPeriod)
      (running : now.lane.running ≡ Some (record { worker = holder; period = after })) where
    module _ (next : Next) (words : ℕ) (births : List Birth)
        (did : ActsHere next (IsCharged words next) top under before now.lane.lane.items after name words births)
        (takes : TakesWords next top name (pool_shown was.pool) (pool_shown now.pool)) where
      action_does : (x : AtWorkWith key worker deque was) (is : IsOfTheList x.setting top next)
          → IsCharged words next x.setting.quota (open_shown worker before) (words_at (list_of x.setting) is.place)
          → WritesInAnOrder (machine_of x.setting (terms_of key)) x.hall x.work (Does (Did name) (Some deque)) (hall_with x.hall deque now)
      action_does x is charged =
          let acted = did worker x.setting x.setting.quota is charged x.hall x.work (its_own x) in
          let threads = map thread_shown now.lane.lane.items in
          let lane = lane_with threads (Some (noted x.work.period name words births)) in
          acts x is.place name (Some x.work.id) (Some deque) (written x.work x.hall.list (pool_shown now.pool) lane)
          (acts_in_lane threads words births (pool_shown now.pool) acted.0 (takes_there x next top name takes is)) (ap Some x.id_is)
          (hall_is x x.hall.list (pool_shown now.pool) lane (x.list_is ∙ sym same_list) refl
          (ap (λ p. lane_with threads (Some p))
          (period_now x.work deque was.lane top under holder before x.id_is x.lane_is at after name words births acted.1)
          ∙ ap (lane_with threads) (sym (ap (option_map running_shown) running))))

      pub actions_do : MayDoNext key worker next words top before → DoesEvent key worker deque was now (Does (Did name) (Some deque))
      actions_do next_is x = ∥∥₁_map (next_is x.setting x.of) (λ done. action_does x done.0 done.1)

    -- ---- the Join of a child whose result was handed over

    module _ (child : ThreadId) (did : JoinsHere top under before now.lane.lane.items after name)
        (takes : TakesWords (nexts.Join child) top name (pool_shown was.pool) (pool_shown now.pool)) where
      join_does : (x : AtWorkWith key worker deque was) → IsOfTheList x.setting top (nexts.Join child)
          → WritesInAnOrder (machine_of x.setting (terms_of key)) x.hall x.work (Does (Did name) (Some deque)) (hall_with x.hall deque now)
      join_does x is =
          let threads = thread_shown did.now ∷ x.work.under in
          let lane = lane_with threads (Some (noted x.work.period name 0 [])) in
          let joined : DidJoin x.setting.quota (list_of x.setting) x.work.top (thread_shown did.now) name 0 is.place =
          subst (λ t. DidJoin x.setting.quota (list_of x.setting) t (thread_shown did.now) name 0 is.place) (sym (ShowsOwn.top_is (its_own x)))
          (did.did x.setting x.setting.quota child is) in
          acts x is.place name (Some x.work.id) (Some deque) (written x.work x.hall.list (pool_shown now.pool) lane)
          (acts_in_lane threads 0 [] (pool_shown now.pool) (joins_handed (thread_shown did.now) 0 joined)
          (takes_there x (nexts.Join child) top name takes is)) (ap Some x.id_is)
          (hall_is x x.hall.list (pool_shown now.pool) lane (x.list_is ∙ sym same_list) refl
          (runs_on x threads after name
          (ap (λ u. thread_shown did.now ∷ u) (ShowsOwn.under_is (its_own x)) ∙ ap (map thread_shown) (sym did.threads_are)) running did.period))

      pub joins_do : IsNext key top (nexts.Join child) → DoesEvent key worker deque was now (Does (Did name) (Some deque))
      joins_do next_is x = ∥∥₁_map (next_is x.setting x.of) (join_does x)

    -- ---- the End of a thread above its parent

    module _ (parent : Thread) (below : List Thread) (under_is : under ≡ parent ∷ below)
        (did : EndsAbove top under before now.lane.lane.items after name)
        (takes : TakesWords nexts.End top name (pool_shown was.pool) (pool_shown now.pool)) where
      end_does : (x : AtWorkWith key worker deque was) → IsOfTheList x.setting top nexts.End
          → WritesInAnOrder (machine_of x.setting (terms_of key)) x.hall x.work (Does (Did name) (Some deque)) (hall_with x.hall deque now)
      end_does x is =
          let given = did.given parent below under_is in
          let threads = thread_shown given.0 ∷ map thread_shown below in
          let lane = lane_with threads (Some (noted x.work.period name 0 [])) in
          let ended : DidEnd (list_of x.setting) x.work.top name is.place (result_shown did.ended) =
          subst (λ t. DidEnd (list_of x.setting) t name is.place (result_shown did.ended)) (sym (ShowsOwn.top_is (its_own x))) (did.ends.did x.setting is) in
          acts x is.place name (Some x.work.id) (Some deque) (written x.work x.hall.list (pool_shown now.pool) lane)
          (ends_above (thread_shown parent) (thread_shown given.0) (map thread_shown below) (result_shown did.ended) (pool_shown now.pool)
          (ShowsOwn.under_is (its_own x) ∙ ap (map thread_shown) under_is) ended given.3 (takes_there x nexts.End top name takes is))
          (ap Some x.id_is)
          (hall_is x x.hall.list (pool_shown now.pool) lane (x.list_is ∙ sym same_list) refl
          (runs_on x threads after name (ap (map thread_shown) (sym given.1)) running did.ends.period))

      pub ends_above_do : IsNext key top nexts.End → DoesEvent key worker deque was now (Does (Did name) (Some deque))
      ends_above_do next_is x = ∥∥₁_map (next_is x.setting x.of) (end_does x)
