-- The End of a thread that is alone in its deque, and the Join of a child whose result is in the list, are each one event of the machine.
use Rattle.std.proofs.Common.{◌≡◌, ◌≢◌, ℕ, List, [], ◌∷◌, map, refl, sym, ap, ◌∙◌, subst}
use Rattle.std.proofs.Math.Logic.{∥∥₁_map}
use Rattle.std.proofs.lemmas.List.Sorted.{IsPermutation-refl}
use Rattle.std.specs.List.Sorted.{IsPermutation}
use Rattle.std.specs.Option.{option_map}
use Rattle.std.specs.Prelude.{Option, None, Some}
use Rattle.dag_order.specs.declared.finish.Finish.{Finish}
use Rattle.hall_parts.specs.HallNames.{DequeId, Each, ListSlot, PoolSlot, LaneSlot, list_shown, pool_shown, running_shown, end_shown, HallKey, terms_of}
use Rattle.hall_parts.specs.HallNames.{ActionId, ThreadId, machine_of, Hall, ListShown, PoolShown, no_lane, finished}
use Rattle.hall_interleavings.specs.Events.{ActsOn, NobodyAwaits, ends_and_wakes, ends_and_leaves, root_ends, joins_kept}
use Rattle.hall_slots.specs.Passed.ListChangesEvents.{DidEnd}
use Rattle.hall_slots.specs.Passed.Run.{list_of}
use Rattle.hall_slots.proofs.Passed.DequeMachineLists.{each_map}
use Rattle.moment_laws.specs.Passed.Parts as shown
use Rattle.hall_slots.specs.Passed.Periods.{open_shown}
use Rattle.hall_slots.specs.Passed.Tables.{noted, shut}
use Rattle.hall_slots.specs.Passed.Period.{Period as OpenPeriod}
use Rattle.play_rules.specs.declared.ends.RunEnd.TheVariants.{Finished}
use Rattle.hall_slots.specs.Passed.ThreadFramesActions.{IsOfTheList}
use Rattle.hall_slots.specs.Passed.ThreadFramesViews.{label_of}
use Rattle.hall_slots.specs.Passed.Ended.{Ended}
use Rattle.hall_slots.specs.Passed.NextVariants as nexts
use Rattle.hall_slots.specs.Passed.Thread.{Thread}
use Rattle.hall_slots.specs.Passed.ThreadFramesKept.{WaitsUnder}
use Rattle.hall_slots.specs.Passed.Shown.{thread_shown, result_shown}
use Rattle.hall_slots.specs.Passed.Writing.{lane_with, list_without, written, IsHanded, PoolTakes}
use Rattle.hall_parts.specs.Here.{ShowsOwn, TakesWords}
use Rattle.hall_parts.specs.Ends.{EndsHere}
use Rattle.hall_parts.specs.Joins.{JoinsHere}
use Rattle.hall_parts.specs.ListCalls.{LeavesThere, TakesWaiting, IsHandedThere}
use Rattle.hall_slots.specs.declared.event.Event.TheVariants.{Did}
use Rattle.hall_parts.specs.Writes.{Parts, parts, hall_with}
use Rattle.hall_parts.specs.EventParts.{IsAtAction, IsNext, IsUnawaited}
use Rattle.hall_parts.specs.Writing.{AtWorkWith, WritesInAnOrder, DoesEvent, in_order, at_work_there}
use Rattle.hall_parts.specs.declared.noting.Noting.TheVariants.{Does}
use Rattle.hall_parts.proofs.Working.{own, period_told}
use Rattle.hall_parts.proofs.Lanes.{its_own, hall_is, acts, takes_there, runs_on}
use Rattle.hall_parts.proofs.Untaken.{root_takes_nothing}

module _ (key : HallKey) (worker : ℕ) (deque : DequeId) (was now : Parts) (top : Thread) (under : List Thread) (holder : ℕ) (before : OpenPeriod)
    (at : IsAtAction was.lane top under holder before) (name : ActionId) (after : OpenPeriod) where
  -- ---- the End of a thread that is alone

  module _ (alone : under ≡ []) (ended : Ended) (did : EndsHere top before after name ended) where
    -- it has ended in this hall
    has_ended : (x : AtWorkWith key worker deque was) (is : IsOfTheList x.setting top nexts.End)
        → DidEnd (list_of x.setting) x.work.top name is.place (result_shown ended)
    has_ended x is = subst (λ t. DidEnd (list_of x.setting) t name is.place (result_shown ended))
        (sym (ShowsOwn.top_is (its_own key worker deque was now top under holder before at x))) (did.did x.setting is)

    its_under : (x : AtWorkWith key worker deque was) → x.work.under ≡ []
    its_under x = ShowsOwn.under_is (its_own key worker deque was now top under holder before at x) ∙ ap (map thread_shown) alone

    -- and nobody waits for it
    module _ (unawaited : IsUnawaited was.list top.id) where
      nobody : (x : AtWorkWith key worker deque was) → NobodyAwaits x.work.top x.hall.list.waiting
      nobody x = subst (λ (l : ListShown). NobodyAwaits x.work.top l.waiting) (sym x.list_is)
          (each_map (λ y. (newest : shown.Child) (older : List shown.Child) → y.children ≡ newest ∷ older → newest.id ≢ top.id)
          (λ y. (newest : shown.Child) (older : List shown.Child) → y.children ≡ newest ∷ older → x.work.top.parent ≡ Some y.id → newest.id ≢ x.work.top.id)
          (ListShown.waiting (list_shown was.list))
          (λ y there others newest older children parent same. others newest older children
          (same ∙ ap (λ t. shown.Thread.id t) (ShowsOwn.top_is (its_own key worker deque was now top under holder before at x)))) unawaited)

      module _ (empty : now.lane.lane.items ≡ []) (idle : now.lane.running ≡ None) (left : ListSlot)
          (leaves : LeavesThere was.list left deque (record { worker = holder; period = after }) ended) where
        module _ (x : AtWorkWith key worker deque was) where
          abbrev there : (results : List shown.Result) × IsPermutation (result_shown ended ∷ x.hall.list.results) results
              × (list_shown left ≡ record (list_without x.work (shut (open_shown holder after))) { results = results })
          there = leaves worker x.hall x.work x.list_is x.id_is

          abbrev list_left : ListShown
          list_left = record (list_without x.work (shut (noted x.work.period name 0 []))) { results = there.0 }

          list_left_is : list_left ≡ list_shown left
          list_left_is = ap (λ p. record (list_without x.work (shut p)) { results = there.0 })
              (period_told x.work deque was.lane top under holder before x.id_is x.lane_is at after name did.period) ∙ sym there.2

          nothing_there : no_lane ≡ lane_with (map thread_shown now.lane.lane.items) (option_map running_shown now.lane.running)
          nothing_there = λ i. lane_with (map thread_shown (sym empty i)) (option_map running_shown (sym idle i))

        leave_does : now.list ≡ left → TakesWords nexts.End top name (pool_shown was.pool) (pool_shown now.pool)
            → (x : AtWorkWith key worker deque was) → IsOfTheList x.setting top nexts.End
            → WritesInAnOrder (machine_of x.setting (terms_of key)) x.hall x.work (Does (Did name) None) (hall_with x.hall deque now)
        leave_does list_is takes x is = acts key worker deque was now top under holder before at x is.place name None None
            (written x.work (list_left x) (pool_shown now.pool) no_lane)
            (ends_and_leaves (result_shown ended) (there x).0 (pool_shown now.pool) (its_under x) (nobody x) (has_ended x is)
            (takes_there key worker deque was now top under holder before at x nexts.End top name takes is) (there x).1) refl
            (hall_is key worker deque was now top under holder before at x (list_left x) (pool_shown now.pool) no_lane
            (list_left_is x ∙ ap list_shown (sym list_is)) refl (nothing_there x))

        pub leaving_ends_do : now.list ≡ left → TakesWords nexts.End top name (pool_shown was.pool) (pool_shown now.pool)
            → IsNext key top nexts.End → DoesEvent key worker deque was now (Does (Did name) None)
        leaving_ends_do list_is takes next_is x = ∥∥₁_map (next_is x.setting x.of) (leave_does list_is takes x)

        -- the root, with which the run has finished
        module _ (finish : Finish) (list_is : now.list ≡ record left { end = Some (Finished finish) }) (same_pool : pool_shown now.pool ≡ pool_shown was.pool)
            (root_is : label_of top ≡ []) (no_end : was.list.end ≡ None) where
          root_does : (x : AtWorkWith key worker deque was) → IsOfTheList x.setting top nexts.End
              → WritesInAnOrder (machine_of x.setting (terms_of key)) x.hall x.work (Does (Did name) None) (hall_with x.hall deque now)
          root_does x is = acts key worker deque was now top under holder before at x is.place name None None
              (written x.work (record (list_left x) { kept = Some finished }) x.hall.pool no_lane)
              (root_ends (result_shown ended) (there x).0 x.hall.pool (its_under x) (nobody x) (has_ended x is)
              (subst (λ (p : PoolShown). PoolTakes (list_of x.setting) is.place name p p) (sym x.pool_is)
              (root_takes_nothing top name was.pool root_is x.setting is)) (there x).1
              (ap (λ t. shown.Thread.label t) (ShowsOwn.top_is (its_own key worker deque was now top under holder before at x)) ∙ root_is)
              (ap (λ (l : ListShown). l.kept) x.list_is ∙ ap (option_map end_shown) no_end)) refl
              (hall_is key worker deque was now top under holder before at x (record (list_left x) { kept = Some finished }) x.hall.pool no_lane
              (ap {A = ListShown} (λ l. record l { kept = Some finished }) (list_left_is x) ∙ ap list_shown (sym list_is)) (x.pool_is ∙ sym same_pool)
              (nothing_there x))

          pub root_ends_do : IsNext key top nexts.End → DoesEvent key worker deque was now (Does (Did name) None)
          root_ends_do next_is x = ∥∥₁_map (next_is x.setting x.of) (root_does x)

    -- its parent waits for it
    module _ (parent handed : Thread) (items : now.lane.lane.items ≡ handed ∷ []) (running : now.lane.running ≡ Some (record { worker = holder; period = after }))
        (taken : TakesWaiting was.list now.list top.id parent) (awaits : WaitsUnder (top.id, parent))
        (is_handed : IsHanded (thread_shown parent) (result_shown ended) (thread_shown handed))
        (takes : TakesWords nexts.End top name (pool_shown was.pool) (pool_shown now.pool)) where
      wake_does : (x : AtWorkWith key worker deque was) → IsOfTheList x.setting top nexts.End
          → WritesInAnOrder (machine_of x.setting (terms_of key)) x.hall x.work (Does (Did name) (Some deque)) (hall_with x.hall deque now)
      wake_does x is =
          let waiting = thread_shown parent ∷ taken.waiting in
          let threads = thread_shown handed ∷ [] in
          let list : ListShown = record x.hall.list { waiting = taken.waiting } in
          let lane = lane_with threads (Some (noted x.work.period name 0 [])) in
          let v = at_work_there x.work waiting x.hall.list.results in
          let list_is : list ≡ list_shown now.list = ap {A = ListShown} (λ l. record l { waiting = taken.waiting }) x.list_is ∙ sym taken.shown in
          let hall_now_is : written x.work list (pool_shown now.pool) lane ≡ hall_with x.hall deque now =
          hall_is key worker deque was now top under holder before at x list (pool_shown now.pool) lane list_is refl
          (runs_on key worker deque was now top under holder before at x threads after name (ap (map thread_shown) (sym items)) running did.period) in (
            waiting,
            x.hall.list.results,
            subst (λ (l : ListShown). IsPermutation l.waiting waiting) (sym x.list_is) taken.was,
            IsPermutation-refl x.hall.list.results,
            (
              is.place,
              subst (λ (z : Hall × Option DequeId). ActsOn (machine_of x.setting (terms_of key)) (in_order x.hall waiting x.hall.list.results) v is.place name z.0 z.1)
                  (λ i. (hall_now_is i, Some (x.id_is i)))
                  (ends_and_wakes [] taken.waiting taken.waiting (thread_shown parent) (thread_shown handed) awaits.0 awaits.1 (result_shown ended)
                  (pool_shown now.pool) (its_under x) refl awaits.2
                  (awaits.3 ∙ sym (ap (λ t. shown.Thread.id t) (ShowsOwn.top_is (its_own key worker deque was now top under holder before at x))))
                  (has_ended x is) is_handed (takes_there key worker deque was now top under holder before at x nexts.End top name takes is)
                  (IsPermutation-refl taken.waiting)),
            ),
          )

      pub waking_ends_do : IsNext key top nexts.End → DoesEvent key worker deque was now (Does (Did name) (Some deque))
      waking_ends_do next_is x = ∥∥₁_map (next_is x.setting x.of) (wake_does x)

  -- ---- a Join of the newest child, whose result was in the list

  module _ (child : ThreadId) (handed : Thread) (did : JoinsHere handed under before now.lane.lane.items after name)
      (running : now.lane.running ≡ Some (record { worker = holder; period = after })) (come : IsHandedThere was.list now.list top handed child)
      (newest : IsHanded.front come.handed ≡ []) (takes : TakesWords (nexts.Join child) handed name (pool_shown was.pool) (pool_shown now.pool)) where
    kept_join_does : (x : AtWorkWith key worker deque was) → IsOfTheList x.setting handed (nexts.Join child)
        → WritesInAnOrder (machine_of x.setting (terms_of key)) x.hall x.work (Does (Did name) (Some deque)) (hall_with x.hall deque now)
    kept_join_does x is =
        let own_is = its_own key worker deque was now top under holder before at x in
        let results = result_shown come.ended ∷ come.results in
        let threads = thread_shown did.now ∷ x.work.under in
        let list : ListShown = record x.hall.list { results = come.results } in
        let lane = lane_with threads (Some (noted x.work.period name 0 [])) in
        let v = at_work_there x.work x.hall.list.waiting results in
        let given : (g : IsHanded x.work.top (result_shown come.ended) (thread_shown handed)) × (g.front ≡ []) =
        subst (λ (t : shown.Thread). (g : IsHanded t (result_shown come.ended) (thread_shown handed)) × (g.front ≡ [])) (sym own_is.top_is) (come.handed, newest) in
        let list_is : list ≡ list_shown now.list = ap {A = ListShown} (λ l. record l { results = come.results }) x.list_is ∙ sym come.shown in
        let hall_now_is : written x.work list (pool_shown now.pool) lane ≡ hall_with x.hall deque now =
        hall_is key worker deque was now top under holder before at x list (pool_shown now.pool) lane list_is refl
        (runs_on key worker deque was now top under holder before at x threads after name
        (ap (λ u. thread_shown did.now ∷ u) own_is.under_is ∙ ap (map thread_shown) (sym did.threads_are)) running did.period) in (
          x.hall.list.waiting,
          results,
          IsPermutation-refl x.hall.list.waiting,
          subst (λ (l : ListShown). IsPermutation l.results results) (sym x.list_is) come.was,
          (
            is.place,
            subst (λ (z : Hall × Option DequeId). ActsOn (machine_of x.setting (terms_of key)) (in_order x.hall x.hall.list.waiting results) v is.place name z.0 z.1)
                (λ i. (hall_now_is i, Some (x.id_is i)))
                (joins_kept [] come.results come.results (result_shown come.ended) (thread_shown handed) (thread_shown did.now) 0 (pool_shown now.pool)
                refl given.0 given.1 (did.did x.setting x.setting.quota child is)
                (takes_there key worker deque was now top under holder before at x (nexts.Join child) handed name takes is)
                (IsPermutation-refl come.results)),
          ),
        )

    pub kept_joins_do : IsNext key handed (nexts.Join child) → DoesEvent key worker deque was now (Does (Did name) (Some deque))
    kept_joins_do next_is x = ∥∥₁_map (next_is x.setting x.of) (kept_join_does x)
