-- A wait, a give up and a Dummy, which are written into a lane and the list, are each one event of the machine.
use Rattle.std.proofs.Common.{◌≡◌, ◌≢◌, ℕ, ◌+◌, ◌<◌, List, [], ◌∷◌, map, refl, sym, ap, ◌∙◌, subst}
use Rattle.std.proofs.Math.Logic.{∥∥₁_map}
use Rattle.std.proofs.lemmas.List.Sorted.{IsPermutation-refl}
use Rattle.std.specs.Option.{option_map}
use Rattle.std.specs.Prelude.{None, false}
use Rattle.hall_parts.specs.HallNames.{DequeId, Each, list_shown, lane_shown, pool_shown, running_shown, HallKey, terms_of, ActionId, ThreadId, machine_of}
use Rattle.hall_parts.specs.HallNames.{Setting, Hall, ListShown, no_lane}
use Rattle.hall_interleavings.specs.Events.{runs_dummy, gives_up_forced, waits_for_child, PausesOn, given_up}
use Rattle.hall_slots.specs.Passed.Machine as machine
use Rattle.hall_slots.specs.Passed.DepthFirstListActions.{joins}
use Rattle.hall_slots.specs.Passed.Run.{list_of}
use Rattle.hall_slots.specs.Passed.Books.{charge_at}
use Rattle.hall_slots.specs.Passed.ListChangesEvents.{DidDummy}
use Rattle.moment_laws.specs.Passed.Parts as shown
use Rattle.moment_laws.specs.Passed.MomentShownEvents.{IsNextOf}
use Rattle.hall_slots.specs.Passed.Periods.{Period, open_shown}
use Rattle.hall_slots.specs.Passed.Tables.{noted, shut}
use Rattle.hall_slots.specs.Passed.Period.{Period as OpenPeriod}
use Rattle.hall_slots.specs.Passed.ThreadFramesActions.{IsOfTheList, deed_of}
use Rattle.hall_slots.specs.Passed.Next.{Next}
use Rattle.hall_slots.specs.Passed.NextVariants as nexts
use Rattle.hall_slots.specs.Passed.Thread.{Thread}
use Rattle.hall_slots.specs.Passed.Shown.{thread_shown}
use Rattle.hall_slots.specs.Passed.Steps.{waited, gave_up}
use Rattle.hall_slots.specs.Passed.Writing.{lane_with, list_unowned, list_without, written}
use Rattle.hall_parts.specs.Here.{ShowsOwn}
use Rattle.hall_parts.specs.Dummies.{DummyHere}
use Rattle.hall_parts.specs.ListCalls.{SuspendsThere}
use Rattle.hall_slots.specs.declared.event.Event.TheVariants.{Did, Suspended, GaveUp}
use Rattle.hall_slots.specs.ListCalls.{ShowsUnowned}
use Rattle.hall_parts.specs.Writes.{Parts, hall_with}
use Rattle.hall_parts.specs.EventParts.{IsAtAction, IsNext, IsTooMuch}
use Rattle.hall_parts.specs.Writing.{AtWorkWith, Writes, WritesInAnOrder, DoesEvent}
use Rattle.hall_parts.specs.declared.noting.Noting.{Noting}
use Rattle.hall_parts.specs.declared.noting.Noting.TheVariants.{Does, Yields}
use Rattle.hall_parts.proofs.Working.{own, period_was, period_told}
use Rattle.hall_parts.proofs.Lanes.{its_own, hall_is, acts}

-- the next action of a thread, as the machine has it
pub next_of_it : (c : Setting) (top : Thread) (next : Next) (x : shown.Thread) → x ≡ thread_shown top → (is : IsOfTheList c top next) → IsNextOf (list_of c) x is.place (deed_of top next)
next_of_it c top next x same is = record {
  inside = is.inside;
  by = is.labelled ∙ sym (ap (λ t. shown.Thread.label t) same);
  index = is.index ∙ sym (ap (λ t. shown.Thread.done t) same);
  does = is.deed;
}

-- a pause is written in the order in which the list is
as_it_is : (key : HallKey) (worker : ℕ) (deque : DequeId) (was now : Parts) (x : AtWorkWith key worker deque was) (noting : Noting)
    → Writes (machine_of x.setting (terms_of key)) x.hall x.work noting (hall_with x.hall deque now)
    → WritesInAnOrder (machine_of x.setting (terms_of key)) x.hall x.work noting (hall_with x.hall deque now)
as_it_is key worker deque was now x noting wrote =
    (x.hall.list.waiting, x.hall.list.results, IsPermutation-refl x.hall.list.waiting, IsPermutation-refl x.hall.list.results, wrote)

module _ (key : HallKey) (worker : ℕ) (deque : DequeId) (was now : Parts) (top : Thread) (under : List Thread) (holder : ℕ) (before : OpenPeriod)
    (at : IsAtAction was.lane top under holder before) (same_pool : pool_shown now.pool ≡ pool_shown was.pool) (idle : now.lane.running ≡ None) where
  -- ---- a wait

  module _ (alone : under ≡ []) (empty : now.lane.lane.items ≡ []) (child : ThreadId) (newest : shown.Child) (older : List shown.Child)
      (waits : SuspendsThere was.list now.list deque (record { worker = holder; period = before }) top)
      (children : shown.Thread.children (thread_shown top) ≡ newest ∷ older) (open_one : newest.delivered ≡ false)
      (joins_it : deed_of top (nexts.Join child) ≡ joins newest.ordinal)
      (none : Each (λ result. result.id ≢ newest.id) (ListShown.results (list_shown was.list))) where
    wait_does : (x : AtWorkWith key worker deque was) → IsOfTheList x.setting top (nexts.Join child)
        → WritesInAnOrder (machine_of x.setting (terms_of key)) x.hall x.work (Does (Suspended top.id) None) (hall_with x.hall deque now)
    wait_does x is =
        let own_is = its_own key worker deque was now top under holder before at x in
        let top_is : x.work.top ≡ thread_shown top = own_is.top_is in
        let there = waits worker x.hall x.work x.list_is x.id_is top_is in
        let after : Hall = written x.work (record (list_without x.work (shut x.work.period)) { waiting = there.0 }) x.hall.pool no_lane in
        let written_is : after ≡ hall_with x.hall deque now = hall_is key worker deque was now top under holder before at x
        (record (list_without x.work (shut x.work.period)) { waiting = there.0 }) x.hall.pool no_lane
        (ap (λ p. record (list_without x.work (shut p)) { waiting = there.0 })
        (period_was x.work deque was.lane top under holder before x.id_is x.lane_is at) ∙ sym there.2)
        (x.pool_is ∙ sym same_pool) (λ i. lane_with (map thread_shown (sym empty i)) (option_map running_shown (sym idle i))) in
        as_it_is key worker deque was now x (Does (Suspended top.id) None) (
          refl,
          subst (λ (z : ThreadId × Hall). PausesOn (machine_of x.setting (terms_of key)) x.hall x.work machine.suspends (waited z.0) z.1)
              (λ i. (shown.Thread.id (top_is i), written_is i))
              (waits_for_child is.place newest older there.0
              (subst (IsNextOf (list_of x.setting) x.work.top is.place) joins_it (next_of_it x.setting top (nexts.Join child) x.work.top top_is is))
              (ap (λ t. shown.Thread.children t) top_is ∙ children) open_one
              (subst (λ (l : ListShown). Each (λ result. result.id ≢ newest.id) l.results) (sym x.list_is) none)
              (own_is.under_is ∙ ap (map thread_shown) alone) there.1),
        )

    pub suspends_do : IsNext key top (nexts.Join child) → DoesEvent key worker deque was now (Does (Suspended top.id) None)
    suspends_do next_is x = ∥∥₁_map (next_is x.setting x.of) (wait_does x)

  -- ---- a give up

  module _ (items : now.lane.lane.items ≡ top ∷ under) (unowned : ShowsUnowned was.list now.list deque (record { worker = holder; period = before })) where
    module _ (x : AtWorkWith key worker deque was) where
      given_up_is : given_up x.work ≡ hall_with x.hall deque now
      given_up_is =
          let own_is = its_own key worker deque was now top under holder before at x in
          hall_is key worker deque was now top under holder before at x (list_unowned x.work (shut x.work.period)) x.hall.pool
          (lane_with (x.work.top ∷ x.work.under) None)
          (ap (λ p. list_unowned x.work (shut p)) (period_was x.work deque was.lane top under holder before x.id_is x.lane_is at)
          ∙ sym (unowned worker x.hall x.work x.list_is x.id_is)) (x.pool_is ∙ sym same_pool)
          (ap (λ u. lane_with (x.work.top ∷ u) None) own_is.under_is ∙ ap (λ t. lane_with (t ∷ map thread_shown under) None) own_is.top_is
          ∙ (λ i. lane_with (map thread_shown (sym items i)) (option_map running_shown (sym idle i))))

      give_up_does : (next : Next) (is : IsOfTheList x.setting top next)
          → x.setting.quota < before.used + charge_at x.setting.quota (list_of x.setting) is.place
          → WritesInAnOrder (machine_of x.setting (terms_of key)) x.hall x.work (Does (GaveUp deque) None) (hall_with x.hall deque now)
      give_up_does next is full =
          let own_is = its_own key worker deque was now top under holder before at x in
          as_it_is key worker deque was now x (Does (GaveUp deque) None) (
            refl,
            subst (λ (z : DequeId × Hall). PausesOn (machine_of x.setting (terms_of key)) x.hall x.work machine.gives_up (gave_up z.0.0) z.1)
                (λ i. (x.id_is i, given_up_is i))
                (gives_up_forced is.place (deed_of top next) (next_of_it x.setting top next x.work.top own_is.top_is is)
                (subst (λ n. x.setting.quota < n + charge_at x.setting.quota (list_of x.setting) is.place)
                (sym (ap (λ p. Period.used p) (period_was x.work deque was.lane top under holder before x.id_is x.lane_is at))) full)),
          )

    pub give_ups_do : (next : Next) → IsTooMuch key next top before → DoesEvent key worker deque was now (Does (GaveUp deque) None)
    give_ups_do next too_much x = ∥∥₁_map (too_much x.setting x.of) (λ done. give_up_does x next done.0 done.1)

    pub yields_do : DoesEvent key worker deque was now (Yields deque)
    yields_do x = ∣ as_it_is key worker deque was now x (Yields deque) (x.id_is, sym (given_up_is x)) ∣₁

  -- ---- a Dummy

  module _ (name : ActionId) (after : OpenPeriod) (did : DummyHere top under before now.lane.lane.items after name)
      (unowned : ShowsUnowned was.list now.list deque (record { worker = holder; period = after })) where
    dummy_does : (x : AtWorkWith key worker deque was) → IsOfTheList x.setting top nexts.Dummy
        → WritesInAnOrder (machine_of x.setting (terms_of key)) x.hall x.work (Does (Did name) None) (hall_with x.hall deque now)
    dummy_does x is =
        let own_is = its_own key worker deque was now top under holder before at x in
        let list = list_unowned x.work (shut (noted x.work.period name 0 [])) in
        let lane = lane_with (thread_shown did.now ∷ x.work.under) None in
        let done : DidDummy x.setting.quota (list_of x.setting) x.work.top (thread_shown did.now) name 0 is.place =
        subst (λ t. DidDummy x.setting.quota (list_of x.setting) t (thread_shown did.now) name 0 is.place) (sym own_is.top_is)
        (did.did x.setting x.setting.quota is) in
        acts key worker deque was now top under holder before at x is.place name None None (written x.work list x.hall.pool lane)
        (runs_dummy (thread_shown did.now) done) refl
        (hall_is key worker deque was now top under holder before at x list x.hall.pool lane
        (ap (λ p. list_unowned x.work (shut p)) (period_told x.work deque was.lane top under holder before x.id_is x.lane_is at after name did.period)
        ∙ sym (unowned worker x.hall x.work x.list_is x.id_is)) (x.pool_is ∙ sym same_pool)
        (ap (λ u. lane_with (thread_shown did.now ∷ u) None) own_is.under_is
        ∙ (λ i. lane_with (map thread_shown (sym did.threads_are i)) (option_map running_shown (sym idle i)))))

    pub dummies_do : IsNext key top nexts.Dummy → DoesEvent key worker deque was now (Does (Did name) None)
    dummies_do next_is x = ∥∥₁_map (next_is x.setting x.of) (dummy_does x)
