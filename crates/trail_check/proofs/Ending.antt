-- The End of a thread.
use Rattle.std.proofs.Common.{◌≡◌, ◌≢◌, ℕ, ◌<◌, List, [], ◌∷◌, ◌++◌, length, map, get_or, set, true, false, true≢false, inl, inr, refl, sym, ap, subst, ◌∙◌}
use Rattle.std.specs.Prelude.{None, Some}
use Rattle.dag_order.specs.LabelOrder.{fork_of}
use Rattle.dag_order.specs.declared.kind.Kind.TheVariants as kinds
use Rattle.depth_first_list.specs.Actions.{joins, ends}
use Rattle.depth_first_list.specs.Facts.{label_at, deed_at, IsNext}
use Rattle.depth_first_list.proofs.JoinLaws.{joined_once_law}
use Rattle.deque_machine.specs.Lists.{Among, Each}
use Rattle.deque_machine.proofs.Lists.{each_at, each_among, each_from, each_join, among_left, among_right}
use Rattle.deque_machine.specs.Moments.{Waiting, Moment, moment_of, deque_of, done_at, threads_in, waiting_threads}
use Rattle.deque_machine.specs.Machine.{Setting, deques_with, books_with, booked_with, ends_above_parent, ends_and_wakes, ends_and_leaves}
use Rattle.deque_machine.specs.LawfulOrder.{Stacked, Waits}
use Rattle.deque_machine.specs.Play.{Limits}
use Rattle.deque_machine.specs.Runs.{Pair}
use Rattle.deque_machine.proofs.Labels.{one_parent, fork_is_longer}
use Rattle.deque_machine.proofs.OneAction.{end_is_no_fork, stays_next}
use Rattle.deque_machine.proofs.LiveThreads.{join_is_no_end}
use Rattle.deque_machine.proofs.Placed.{waits_among}
use Rattle.deque_machine.proofs.Shapes.{threads_append}
use Rattle.trail_check.specs.Partners.{IsPartner, of_fork, of_join, of_end}
use Rattle.trail_meaning.specs.declared.trail_kind.TrailKind.TheVariants.{Act}
use Rattle.trail_check.specs.declared.step.Step.{Step}
use Rattle.trail_check.specs.declared.checker.Checker.{Checker}
use Rattle.trail_check.specs.Tallies.{HasActed}
use Rattle.trail_check.specs.Holds.{deque_with, with_these}
use Rattle.trail_check.specs.Places.{IsNextHere, WaitsAt}
use Rattle.trail_check.specs.Standing.{StandsFor}
use Rattle.trail_check.specs.Steps.{told_of, Came, IsStep}
use Rattle.trail_check.proofs.CutLists.{among_cut}
use Rattle.trail_check.proofs.Mine.{left_out}
use Rattle.trail_check.proofs.Placing.{WaitsAre, one_goes_on, waits_stay}
use Rattle.trail_check.proofs.Going.{SameList}
use Rattle.trail_check.proofs.Deeds.{end_deed}
use Rattle.trail_check.proofs.Acting.{own, at_top, one_done, under_next, stays, acted, waits_kept}

pub one_join : (a b : ℕ) → joins a ≡ joins b → a ≡ b
one_join a b e = cc

module _ (s : Setting) (limits : Limits) (run : List Pair) (m : Moment) (c : Checker) (stands : StandsFor s limits run m c) (step : Step) (is : IsStep s m c step)
    (kind : step.kind ≡ kinds.End) where
  abbrev deed : deed_at s.list step.place ≡ ends
  deed = end_deed (deed_at s.list step.place) (sym is.kind ∙ kind)

  abbrev the_label : List ℕ
  the_label = label_at s.list step.place

  abbrev under_labels : List (List ℕ)
  under_labels = map (label_at s.list) (is.hand).under

  -- the threads of the worker's deque stand above those that forked them
  stacked : Stacked (label_at s.list step.place ∷ map (label_at s.list) (is.hand).under)
  stacked =
      let o = own s limits run m c stands step is in
      each_at (λ d. Stacked d.threads) o.left (deque_of o.id (Some step.worker) (o.top ∷ o.under)) o.right
      (subst (λ t. Each (λ d. Stacked d.threads) t) o.deques_are ((stands.lawful).order).stacked)

  -- the thread below
  module _ (next : ℕ) (below : List ℕ) (under_is : (is.hand).under ≡ next ∷ below) where
    parent_below : (child : ℕ) × (label_at s.list step.place ≡ fork_of (label_at s.list next) child)
    parent_below = (subst (λ u. Stacked (label_at s.list step.place ∷ map (label_at s.list) u)) under_is stacked).0

    -- it is in a deque
    below_is_there : Among (label_at s.list next) (threads_in m.deques)
    below_is_there =
        let o = own s limits run m c stands step is in
        subst (λ t. Among (label_at s.list next) (threads_in t)) (sym o.deques_are)
        (subst (λ t. Among (label_at s.list next) t) (sym (threads_append o.left (deque_of o.id (Some step.worker) (o.top ∷ o.under) ∷ o.right)))
        (among_right (label_at s.list next) (threads_in o.left) ((o.top ∷ o.under) ++ threads_in o.right)
        (among_left (label_at s.list next) (o.top ∷ o.under) (threads_in o.right)
        (inr (subst (λ u. Among (label_at s.list next) (map (label_at s.list) u)) (sym under_is) (inl refl))))))

    pub above_came : (d : Checker) → SameList c d → HasActed step.place step.change c.tally d.tally
        → d.deques.deques ≡ with_these (is.hand).holds (deque_with step.seat.deque (Some step.worker) (next ∷ below) ∷ [])
        → d.seats.items ≡ set c.seats.items step.worker (Some step.seat) → d.waits.items ≡ c.waits.items → Came s limits run m (told_of step.worker Act) true d
    above_came d same tally deques seats waits =
        let o = own s limits run m c stands step is in
        let labels : o.under ≡ label_at s.list next ∷ map (label_at s.list) below = ap (map (label_at s.list)) under_is in
        let after : Moment = booked_with m step.worker o o.under step.place in
        let may = ends_above_parent o step.place (parent_below).0 (label_at s.list next) (map (label_at s.list) below) (at_top s limits run m c stands step is ends deed) labels (parent_below).1 in
        acted s limits run m c stands step is after (Some step.worker) refl may d same tally
        (deque_with step.seat.deque (Some step.worker) (next ∷ below) ∷ []) deques
        (ap (λ t. o.left ++ deque_of o.id (Some step.worker) t ∷ o.right) labels)
        (each_join (IsNextHere s.list (done_at after)) (next ∷ below) []
        (subst (λ u. Each (IsNextHere s.list (done_at after)) u) under_is (under_next s limits run m c stands step is after (Some step.worker) refl)) tt)
        (Some step.seat) seats
        (stays s limits run m c stands step is after (Some step.worker) refl may refl (label_at s.list next) (map (label_at s.list) below)
        (ap (λ t. o.left ++ deque_of o.id (Some step.worker) t ∷ o.right) labels))
        (waits_kept s limits run m c stands step is d waits)

  -- the parent's Join is the partner of the End
  join_of : (join : ℕ) → IsPartner s.list step.place join → (parent : List ℕ) × (child : ℕ) × (label_at s.list step.place ≡ fork_of parent child)
      × (join < length s.list) × (label_at s.list join ≡ parent) × (deed_at s.list join ≡ joins child)
  join_of join (of_fork child forked ended) = absurd (end_is_no_fork child (sym deed ∙ forked))
  join_of join (of_join child joined ended) = absurd (join_is_no_end child (sym joined ∙ deed))
  join_of join (of_end parent child ended label at) = (parent, child, label, at.0, at.1, at.2)

  -- a thread that waits for the one that ends has its Join there
  waits_at_partner : (w : Waiting) → Among w m.waiting → label_at s.list step.place ≡ fork_of w.thread w.child
      → (join : ℕ) × (get_or c.partners.items step.place None ≡ Some join) × (get_or c.waits.items join false ≡ true)
  waits_at_partner w there label =
      let waits : Waits s.list (done_at m) w = each_among (Waits s.list (done_at m)) w m.waiting ((stands.lawful).order).waits there in
      let inside = (waits.next).inside in
      let o = own s limits run m c stands step is in
      let here : step.place < length s.list = ((at_top s limits run m c stands step is ends deed).next).inside in (
        waits.place,
        ((((stands.knows).partners).each step.place waits.place here).1 (of_end w.thread w.child deed label (inside, (waits.next).by, waits.joins_it))),
        ((stands.places).waits_are waits.place inside).1 (w, there, (waits.next).by, waits.joins_it),
      )

  -- nobody waits for it
  pub nobody_waits : ((join : ℕ) → get_or c.partners.items step.place None ≡ Some join → get_or c.waits.items join false ≡ false)
      → Each (λ w. label_at s.list step.place ≢ fork_of w.thread w.child) m.waiting
  nobody_waits none = each_from (λ w. label_at s.list step.place ≢ fork_of w.thread w.child) m.waiting
      (λ w there label. let at = waits_at_partner w there label in true≢false (sym at.2 ∙ none at.0 at.1))

  pub leaves_came : (is.hand).under ≡ [] → ((join : ℕ) → get_or c.partners.items step.place None ≡ Some join → get_or c.waits.items join false ≡ false)
      → (d : Checker) → SameList c d → HasActed step.place step.change c.tally d.tally → d.deques.deques ≡ with_these (is.hand).holds []
      → d.seats.items ≡ set c.seats.items step.worker None → d.waits.items ≡ c.waits.items → Came s limits run m (told_of step.worker Act) true d
  leaves_came alone none d same tally deques seats waits =
      let o = own s limits run m c stands step is in
      let after : Moment = moment_of (o.left ++ o.right) m.waiting (books_with o None step.place) in
      let may = ends_and_leaves o step.place (at_top s limits run m c stands step is ends deed) (ap (map (label_at s.list)) alone) (nobody_waits none) in
      acted s limits run m c stands step is after None refl may d same tally [] deques refl tt None seats (left_out s m step.worker stands.lawful o)
      (waits_kept s limits run m c stands step is d waits)

  -- the parent waits at a Join
  module _ (join : ℕ) (partner : get_or c.partners.items step.place None ≡ Some join) (bit : get_or c.waits.items join false ≡ true) where
    abbrev at_join : (parent : List ℕ) × (child : ℕ) × (label_at s.list step.place ≡ fork_of parent child)
        × (join < length s.list) × (label_at s.list join ≡ parent) × (deed_at s.list join ≡ joins child)
    at_join = join_of join ((((stands.knows).partners).each step.place join ((at_top s limits run m c stands step is ends deed).next).inside).0 partner)

    waiter : WaitsAt s.list m.waiting join
    waiter = ((stands.places).waits_are join (at_join).3).0 bit

    waiter_is_parent : label_at s.list step.place ≡ fork_of ((waiter).0).thread ((waiter).0).child
    waiter_is_parent =
        let same_thread : (at_join).0 ≡ ((waiter).0).thread = sym (at_join).4 ∙ (waiter).2 in
        let same_child : (at_join).1 ≡ ((waiter).0).child = one_join (at_join).1 ((waiter).0).child (sym (at_join).5 ∙ (waiter).3) in
        (at_join).2 ∙ (λ i. fork_of (same_thread i) (same_child i))

    -- then it does not stand below
    pub wakes_alone : (is.hand).under ≡ []
    wakes_alone = by_under (is.hand).under refl
      where
        by_under : (under : List ℕ) → (is.hand).under ≡ under → under ≡ []
        by_under [] under_is = refl
        by_under (next ∷ below) under_is =
            let parent = parent_below next below under_is in
            let same : label_at s.list next ≡ ((waiter).0).thread = (one_parent (label_at s.list next) ((waiter).0).thread parent.0 ((waiter).0).child (sym parent.1 ∙ waiter_is_parent)).0 in
            absurd (each_among (λ t. ¬ Among t (threads_in m.deques)) ((waiter).0).thread (waiting_threads m.waiting) ((stands.lawful).order).apart
            (waits_among (waiter).0 m.waiting (waiter).1) (subst (λ t. Among t (threads_in m.deques)) same (below_is_there next below under_is)))

    -- its Join is its next action
    join_is_next : IsNextHere s.list (done_at m) join
    join_is_next =
        let waits : Waits s.list (done_at m) (waiter).0 = each_among (Waits s.list (done_at m)) (waiter).0 m.waiting ((stands.lawful).order).waits (waiter).1 in
        let same : waits.place ≡ join = joined_once_law s.quota s.list (stands.knows).depth_first waits.place join ((waiter).0).child (waits.next).inside (at_join).3
        ((waits.next).by ∙ sym (waiter).2) waits.joins_it (waiter).3 in
        subst (λ n. IsNext s.list (done_at m) (label_at s.list join) n) same (subst (λ t. IsNext s.list (done_at m) t waits.place) (sym (waiter).2) waits.next)

    pub wakes_came : (d : Checker) → SameList c d → HasActed step.place step.change c.tally d.tally
        → d.deques.deques ≡ with_these (is.hand).holds (deque_with step.seat.deque (Some step.worker) (join ∷ (is.hand).under) ∷ [])
        → d.seats.items ≡ set c.seats.items step.worker (Some step.seat) → d.waits.items ≡ set c.waits.items join false → Came s limits run m (told_of step.worker Act) true d
    wakes_came d same tally deques seats waits =
        let o = own s limits run m c stands step is in
        let cut = among_cut (waiter).0 m.waiting (waiter).1 in
        let alone = wakes_alone in
        let after : Moment = moment_of (deques_with o (Some step.worker) (((waiter).0).thread ∷ [])) (cut.0 ++ cut.1) (books_with o (Some step.worker) step.place) in
        let may = ends_and_wakes o step.place cut.0 cut.1 (waiter).0 (at_top s limits run m c stands step is ends deed) (ap (map (label_at s.list)) alone) cut.2 waiter_is_parent in
        let other : label_at s.list step.place ≢ label_at s.list join = λ e. fork_is_longer (label_at s.list join) ((waiter).0).child
        (ap (λ t. fork_of t ((waiter).0).child) (waiter).2 ∙ sym waiter_is_parent ∙ e) in
        let here : IsNextHere s.list (done_at after) join = stays_next s.list (done_at m) (done_at after) step.place (one_done s limits run m c stands step is after (Some step.worker) refl)
        (label_at s.list join) join join_is_next other in
        acted s limits run m c stands step is after (Some step.worker) refl may d same tally
        (deque_with step.seat.deque (Some step.worker) (join ∷ []) ∷ []) (deques ∙ ap (λ u. with_these (is.hand).holds (deque_with step.seat.deque (Some step.worker) (join ∷ u) ∷ [])) alone)
        (ap (λ t. o.left ++ deque_of o.id (Some step.worker) (t ∷ []) ∷ o.right) (sym (waiter).2))
        (here, tt)
        (Some step.seat) seats (stays s limits run m c stands step is after (Some step.worker) refl may refl ((waiter).0).thread [] refl)
        (subst (WaitsAre s.list (cut.0 ++ cut.1)) (sym waits)
        (one_goes_on s.list s.quota (stands.knows).depth_first m.waiting c.waits.items (waits_stay s m c.deques.deques c.seats.items c.waits.items stands.places)
        join cut.0 cut.1 (waiter).0 cut.2 ((stands.lawful).order).wait_once (at_join).3 (waiter).2 (waiter).3))
