-- Which events may not come.
use Rattle.std.proofs.Common.{◌≡◌, ◌⊎◌, ℕ, ◌+◌, ◌≤◌, ◌<◌, List, ◌∷◌, length, map, get_or, true, false, true≢false, inl, inr, refl, sym, ap, subst, ◌∙◌, arith}
use Rattle.std.specs.Prelude.{Option, None, Some, slice_get, is_some}
use Rattle.std.specs.Option.{option_map}
use Rattle.std.proofs.lemmas.Option.{slice_get-map, same_Some}
use Rattle.std.proofs.lemmas.List.{length-map}
use Rattle.dag_order.specs.LabelOrder.{fork_of}
use Rattle.dag_order.specs.declared.kind.Kind.{Kind}
use Rattle.dag_order.specs.declared.kind.Kind.TheVariants as kinds
use Rattle.depth_first_list.specs.Actions.{joins, kind_of}
use Rattle.depth_first_list.specs.Facts.{label_at, deed_at, words_at, IsNext}
use Rattle.deque_machine.specs.Lists.{Each}
use Rattle.deque_machine.specs.Books.{charge, charge_at, charged}
use Rattle.deque_machine.proofs.Lists.{each_at, same_head, same_tail, cons_is_not_nil}
use Rattle.deque_list.specs.Deques.{Deque}
use Rattle.deque_machine.specs.Moments as machine
use Rattle.deque_machine.specs.Moments.{Moment, done_at, owned_by}
use Rattle.deque_machine.specs.Machine.{Setting, Event, steals, does, suspends, gives_up, Owns, HasEnded, May}
use Rattle.deque_machine.specs.Play.{Limits}
use Rattle.deque_machine.specs.Runs.{Pair}
use Rattle.deque_machine.proofs.KeptOrder.{fork_is_no_join, end_is_no_join}
use Rattle.deque_machine.proofs.LiveThreads.{one_next}
use Rattle.trail_check.specs.Partners.{IsPartner, of_fork, of_join, of_end}
use Rattle.trail_meaning.specs.declared.trail_kind.TrailKind.TheVariants.{Steal, Act, Suspend, GiveUp}
use Rattle.trail_check.specs.Following.{Tells, tells_steal, tells_action, tells_wait, tells_give_up}
use Rattle.trail_check.specs.Verdicts.{LeadsNowhere}
use Rattle.trail_check.specs.declared.seat.Seat.{Seat}
use Rattle.trail_check.specs.declared.checker.Checker.{Checker}
use Rattle.trail_check.specs.Places.{deque_shown, HasUsed, SeatIs}
use Rattle.trail_check.specs.Standing.{StandsFor}
use Rattle.trail_check.specs.Steps.{told_of, NoAction, done_by, has_ended_by}
use Rattle.trail_check.proofs.Needs.{Steals, Acts, Suspends, needs}
use Rattle.trail_check.proofs.Mine.{none_beside, one_hand}
use Rattle.trail_check.proofs.Deeds.{join_deed}
use Rattle.trail_check.proofs.Ending.{one_join}
use Rattle.trail_check.proofs.Leaving.{sits, own_of, top_next}

module _ (s : Setting) (limits : Limits) (run : List Pair) (m : Moment) (c : Checker) (stands : StandsFor s limits run m c) where
  -- what the events of each kind need
  pub steal_needs : (worker place : ℕ) (event : Event) (next : Moment) → Tells m (Steal place) event → May s m worker event next → Steals s m worker place next
  steal_needs worker place event next (tells_steal place' id named) may = needs s m stands.lawful worker (steals place id) next may

  pub act_needs : (worker : ℕ) (event : Event) (next : Moment) → Tells m Act event → May s m worker event next → (place : ℕ) × May s m worker (does place) next
  act_needs worker event next (tells_action place) may = (place, may)

  pub wait_needs : (worker : ℕ) (event : Event) (next : Moment) → Tells m Suspend event → May s m worker event next → Suspends s m worker
  wait_needs worker event next tells_wait may = needs s m stands.lawful worker suspends next may

  pub give_up_needs : (worker : ℕ) (event : Event) (next : Moment) → Tells m GiveUp event → May s m worker event next → Owns m worker
  give_up_needs worker event next tells_give_up may = needs s m stands.lawful worker gives_up next may

  -- who has no seat owns nothing
  not_owner : (worker : ℕ) → get_or c.seats.items worker None ≡ None → Owns m worker → ⊥
  not_owner worker is o =
      let none : owned_by worker m.deques ≡ 0 = subst (SeatIs s m worker) is ((stands.places).seats_are worker) in
      let one = (none_beside s m worker stands.lawful o).2 in omega (arith, none, one)

  pub idle_acts_not : (worker : ℕ) → get_or c.seats.items worker None ≡ None → NoAction s m worker
  idle_acts_not worker is = λ place next may. not_owner worker is (needs s m stands.lawful worker (does place) next may).owns

  pub idle_waits_not : (worker : ℕ) → get_or c.seats.items worker None ≡ None → LeadsNowhere s limits m (told_of worker Suspend)
  idle_waits_not worker is = λ event next leads. not_owner worker is (wait_needs worker event next leads.tells leads.may).owns

  pub idle_gives_not_up : (worker : ℕ) → get_or c.seats.items worker None ≡ None → LeadsNowhere s limits m (told_of worker GiveUp)
  idle_gives_not_up worker is = λ event next leads. not_owner worker is (give_up_needs worker event next leads.tells leads.may)

  pub no_action_leads : (worker : ℕ) → NoAction s m worker → LeadsNowhere s limits m (told_of worker Act)
  no_action_leads worker none = λ event next leads. let does_it = act_needs worker event next leads.tells leads.may in none does_it.0 next does_it.1

  -- steals that may not come
  pub no_worker : (worker place : ℕ) → s.workers ≤ worker → LeadsNowhere s limits m (told_of worker (Steal place))
  no_worker worker place many = λ event next leads. let is = (steal_needs worker place event next leads.tells leads.may).idle.is_worker in absurd (omega (arith, many, is))

  pub out_of_reach : (worker place : ℕ) → s.workers ≤ place → LeadsNowhere s limits m (told_of worker (Steal place))
  out_of_reach worker place many = λ event next leads. let is = (steal_needs worker place event next leads.tells leads.may).near in absurd (omega (arith, many, is))

  pub busy_steals_not : (worker place : ℕ) (seat : Seat) → get_or c.seats.items worker None ≡ Some seat → LeadsNowhere s limits m (told_of worker (Steal place))
  busy_steals_not worker place seat is = λ event next leads.
      let idle = (steal_needs worker place event next leads.tells leads.may).idle.owns_none in
      let one = (subst (SeatIs s m worker) is ((stands.places).seats_are worker)).owns_one in absurd (omega (arith, idle, one))

  -- the deque at a place of the machine's list
  deque_there : (place : ℕ) → slice_get m.deques place ≡ option_map (deque_shown s.list) (slice_get c.deques.deques place)
  deque_there place = ap (λ t. slice_get t place) (stands.places).deques_are ∙ slice_get-map (deque_shown s.list) c.deques.deques place

  pub no_deque_there : (worker place : ℕ) → slice_get c.deques.deques place ≡ None → LeadsNowhere s limits m (told_of worker (Steal place))
  no_deque_there worker place none = λ event next leads.
      let is = (steal_needs worker place event next leads.tells leads.may).there in
      true≢false (sym (ap is_some (sym (ap (option_map (deque_shown s.list)) none) ∙ sym (deque_there place) ∙ is)))

  -- the victim of a steal
  victim_is : (place : ℕ) (d : Deque ℕ) → slice_get c.deques.deques place ≡ Some d → (v : machine.Deque) → slice_get m.deques place ≡ Some v → deque_shown s.list d ≡ v
  victim_is place d is v there = same_Some (deque_shown s.list d) v (sym (ap (option_map (deque_shown s.list)) is) ∙ sym (deque_there place) ∙ there)

  pub not_ready : (worker place : ℕ) (d : Deque ℕ) → slice_get c.deques.deques place ≡ Some d → length d.items < 2 → is_some d.owner ≡ true → LeadsNowhere s limits m (told_of worker (Steal place))
  not_ready worker place d is one owned = λ event next leads.
      let it = steal_needs worker place event next leads.tells leads.may in
      let same = victim_is place d is it.victim it.there in
      elim it.ready [
        | inl free ↦ true≢false (sym (sym (ap is_some (ap (λ t. t.owner) same ∙ free.0)) ∙ owned))
        | inr many ↦
            let size : length (it.victim).threads ≡ length d.items = ap (λ t. length t.threads) (sym same) ∙ length-map d.items (label_at s.list) in
            let two = many.0 in absurd (omega (arith, one, size, two))
      ]

  pub no_more_deques : (worker place : ℕ) (d : Deque ℕ) → slice_get c.deques.deques place ≡ Some d → 2 ≤ length d.items → length c.deques.deques ≡ c.deques.most
      → LeadsNowhere s limits m (told_of worker (Steal place))
  no_more_deques worker place d is two full = λ event next leads.
      let it = steal_needs worker place event next leads.tells leads.may in
      let same = victim_is place d is it.victim it.there in
      let size : length (it.victim).threads ≡ length d.items = ap (λ t. length t.threads) (sym same) ∙ length-map d.items (label_at s.list) in
      elim it.ready [
        | inl free ↦ let one = free.1 in absurd (omega (arith, two, size, one))
        | inr many ↦
            let more = many.1 in let fit = (leads.within).deques in
            let now : length m.deques ≡ length c.deques.deques = ap length (stands.places).deques_are ∙ length-map c.deques.deques (deque_shown s.list) in
            let a = (stands.knows).most in let b = (stands.knows).list_most in absurd (omega (arith, more, fit, now, a, b, full))
      ]

  -- whether a child has ended, by the bits
  module _ (place child : ℕ) (inside : place < length s.list) (deed : deed_at s.list place ≡ joins child) where
    pub ended_by_bits : has_ended_by c place ≡ true → HasEnded s m (fork_of (label_at s.list place) child)
    ended_by_bits bit = by_partner (get_or c.partners.items place None) refl bit
      where
        by_end : (end : ℕ) → IsPartner s.list place end → get_or c.tally.done.items end false ≡ true → HasEnded s m (fork_of (label_at s.list place) child)
        by_end end (of_fork other forked ended) bit = absurd (fork_is_no_join other child (sym forked ∙ deed))
        by_end end (of_join other joined ended) bit =
            (end, ended.0, ended.1 ∙ ap (fork_of (label_at s.list place)) (one_join other child (sym joined ∙ deed)), ended.2, ((stands.tally).done_is end ended.0).0 bit)
        by_end end (of_end parent other ended label joined) bit = absurd (end_is_no_join child (sym ended ∙ deed))

        by_partner : (o : Option ℕ) → get_or c.partners.items place None ≡ o → done_by c o ≡ true → HasEnded s m (fork_of (label_at s.list place) child)
        by_partner None is bit = absurd (true≢false (sym bit))
        by_partner (Some end) is bit = by_end end ((((stands.knows).partners).each place end inside).0 is) bit

    pub bits_of_ended : HasEnded s m (fork_of (label_at s.list place) child) → has_ended_by c place ≡ true
    bits_of_ended has =
        let partner = (((stands.knows).partners).each place has.0 inside).1 (of_join child deed (has.1, has.2, has.3)) in
        ap (done_by c) partner ∙ ((stands.tally).done_is has.0 has.1).1 has.4

  -- a busy worker
  module _ (worker : ℕ) (seat : Seat) (is : get_or c.seats.items worker None ≡ Some seat) where
    the_place : ℕ
    the_place = (sits s limits run m c stands worker seat is).place

    -- whatever the machine says that it owns, it is in its hand
    same_threads : (o : Owns m worker) → o.top ∷ o.under ≡ label_at s.list (sits s limits run m c stands worker seat is).place
        ∷ map (label_at s.list) ((sits s limits run m c stands worker seat is).hand).under
    same_threads o = one_hand s m worker stands.lawful (own_of s limits run m c stands worker seat is) o

    same_top : (o : Owns m worker) → o.top ≡ label_at s.list (sits s limits run m c stands worker seat is).place
    same_top o = same_head o.top (label_at s.list (sits s limits run m c stands worker seat is).place) o.under
        (map (label_at s.list) ((sits s limits run m c stands worker seat is).hand).under) (same_threads o)

    pub same_place : (o : Owns m worker) (place : ℕ) → IsNext s.list (done_at m) o.top place → place ≡ (sits s limits run m c stands worker seat is).place
    same_place o place next =
        one_next s.quota s.list (stands.knows).depth_first (done_at m) (((stands.lawful).periods).lawful).first_actions (label_at s.list (sits s limits run m c stands worker seat is).place)
        place (sits s limits run m c stands worker seat is).place
        (subst (λ t. IsNext s.list (done_at m) t place) (same_top o) next) (top_next s limits run m c stands worker seat is)

    same_used : (o : Owns m worker) → charged s.quota s.list o.book.ran ≡ seat.used
    same_used o = each_at (HasUsed s worker seat.used) o.older o.book o.newer
        (subst (λ t. Each (HasUsed s worker seat.used) t) o.books_are (subst (SeatIs s m worker) is ((stands.places).seats_are worker)).used) o.open_for_it

    -- an action is refused if a child that it joins has not ended, or if the quota has no room for it
    pub refused : (kind : Kind) → kind ≡ kind_of (deed_at s.list (sits s limits run m c stands worker seat is).place)
        → ((kind ≡ kinds.Join) × (has_ended_by c (sits s limits run m c stands worker seat is).place ≡ false))
        ⊎ (c.quota < seat.used + charge c.quota (deed_at s.list (sits s limits run m c stands worker seat is).place) (words_at s.list (sits s limits run m c stands worker seat is).place))
        → NoAction s m worker
    refused kind kind_is why = λ place next may.
        let it : Acts s m worker place = needs s m stands.lawful worker (does place) next may in
        let here : place ≡ (sits s limits run m c stands worker seat is).place = same_place it.owns place it.next in
        elim why [
          | inl open_child ↦
              let deed = join_deed (deed_at s.list (sits s limits run m c stands worker seat is).place) (sym kind_is ∙ open_child.0) in
              let has : HasEnded s m (fork_of (label_at s.list (sits s limits run m c stands worker seat is).place) deed.0) =
              subst (λ t. HasEnded s m (fork_of t deed.0)) (same_top it.owns) (it.ended deed.0 (ap (deed_at s.list) here ∙ deed.1)) in
              true≢false (sym (bits_of_ended (sits s limits run m c stands worker seat is).place deed.0 (top_next s limits run m c stands worker seat is).inside deed.1 has) ∙ open_child.1)
          | inr over ↦
              let fits = it.fits in let used = same_used it.owns in let quota = (stands.knows).quota in
              let same : charge_at s.quota s.list place ≡ charge c.quota (deed_at s.list (sits s limits run m c stands worker seat is).place) (words_at s.list (sits s limits run m c stands worker seat is).place) =
              ap (charge_at s.quota s.list) here
              ∙ ap (λ q. charge q (deed_at s.list (sits s limits run m c stands worker seat is).place) (words_at s.list (sits s limits run m c stands worker seat is).place)) quota in
              absurd (omega (arith, over, fits, used, quota, same))
        ]

    -- a wait is refused if there is no Join of a child that has not ended, or if a thread stands below
    pub waits_not : ((child : ℕ) → deed_at s.list (sits s limits run m c stands worker seat is).place ≡ joins child → has_ended_by c (sits s limits run m c stands worker seat is).place ≡ true)
        → LeadsNowhere s limits m (told_of worker Suspend)
    waits_not none = λ event next leads.
        let it = wait_needs worker event next leads.tells leads.may in
        let here = same_place it.owns it.place (it.at).next in
        let deed : deed_at s.list (sits s limits run m c stands worker seat is).place ≡ joins it.child = ap (deed_at s.list) (sym here) ∙ (it.at).deed_is in
        let has = ended_by_bits (sits s limits run m c stands worker seat is).place it.child (top_next s limits run m c stands worker seat is).inside deed (none it.child deed) in
        it.none (subst (λ t. HasEnded s m (fork_of t it.child)) (sym (same_top it.owns)) has)

    pub waits_not_above : (next_place : ℕ) (below : List ℕ) → ((sits s limits run m c stands worker seat is).hand).under ≡ next_place ∷ below → LeadsNowhere s limits m (told_of worker Suspend)
    waits_not_above next_place below under = λ event next leads.
        let it = wait_needs worker event next leads.tells leads.may in
        let same : (it.owns).under ≡ map (label_at s.list) ((sits s limits run m c stands worker seat is).hand).under =
        same_tail (it.owns).top (label_at s.list (sits s limits run m c stands worker seat is).place) (it.owns).under
        (map (label_at s.list) ((sits s limits run m c stands worker seat is).hand).under) (same_threads it.owns) in
        cons_is_not_nil (label_at s.list next_place) (map (label_at s.list) below) (sym (ap (map (label_at s.list)) under) ∙ sym same ∙ it.alone)
