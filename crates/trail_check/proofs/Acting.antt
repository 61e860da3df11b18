-- The actions of a thread that stays in its deque.
use Rattle.std.proofs.Common.{◌≡◌, ℕ, suc, ◌+◌, ◌≤◌, ◌<◌, List, [], ◌∷◌, ◌++◌, length, map, get_or, set, inl, inr, refl, sym, ap, subst, ◌∙◌, arith, cond, true}
use Rattle.std.specs.Prelude.{Option, None, Some}
use Rattle.std.proofs.lemmas.Bool.{cases_lt, le-leb}
use Rattle.dag_order.specs.LabelOrder.{fork_of}
use Rattle.dag_order.specs.declared.kind.Kind.TheVariants as kinds
use Rattle.depth_first_list.specs.Actions.{Deed, forks, joins, allocates, releases, dummy, faults, ends, kind_of}
use Rattle.depth_first_list.specs.Facts.{label_at, deed_at, words_at}
use Rattle.depth_first_list.proofs.ThreadLaws.{end_is_last, child_begins_behind_fork}
use Rattle.deque_machine.specs.Lists.{Each, one_if_same}
use Rattle.deque_machine.specs.Books.{done_in, charge, charge_at, charged, book_of, one_more}
use Rattle.deque_machine.proofs.Lists.{each_left, each_right, each_join, total_append}
use Rattle.deque_machine.proofs.Keeping.{done_more}
use Rattle.deque_list.specs.Deques.{Deque}
use Rattle.deque_machine.specs.Moments.{Moment, moment_of, deque_of, done_at, threads_in, Rises}
use Rattle.deque_machine.specs.Machine.{Setting, does, Owns, IsAtTop, only_booked, booked_with, deques_with, books_with, May, forks_child, joins_child, allocates_within, allocates_above, releases_words, meets_fault, runs_dummy}
use Rattle.deque_machine.specs.Play.{Limits}
use Rattle.deque_machine.specs.Runs.{Pair}
use Rattle.deque_machine.proofs.Kept.{kept}
use Rattle.deque_machine.proofs.KeptOrder.{fork_is_no_join, no_dummy_fork, no_dummy_end}
use Rattle.deque_machine.proofs.OneAction.{end_is_no_fork}
use Rattle.depth_first_list.proofs.Own.{one_fork}
use Rattle.trail_check.specs.PlaceLaws.{GoesOnAt, ChildThenParent}
use Rattle.trail_check.specs.Partners.{IsPartner, of_fork, of_join, of_end}
use Rattle.trail_check.proofs.NextPlaces.{next_follows, parent_follows}
use Rattle.trail_meaning.specs.declared.trail_kind.TrailKind.TheVariants.{Act}
use Rattle.trail_check.specs.Following.{tells_action}
use Rattle.trail_check.specs.declared.seat.Seat.{Seat}
use Rattle.trail_check.specs.declared.step.Step.{Step}
use Rattle.trail_check.specs.declared.checker.Checker.{Checker}
use Rattle.trail_check.specs.Tallies.{HasActed}
use Rattle.trail_check.specs.Holds.{deque_with, with_these}
use Rattle.trail_check.specs.Places.{deque_shown, places_in, IsNextHere, Sits, SeatIs}
use Rattle.trail_check.specs.Standing.{StandsFor}
use Rattle.trail_check.specs.Steps.{told_of, Came, IsStep, IsAlone}
use Rattle.trail_check.proofs.Mine.{owned, sits_of, left_unowned}
use Rattle.trail_check.proofs.Nexts.{places_middle, labels_in, others_stay, goes_on, begins}
use Rattle.trail_check.proofs.Counting.{SamePeriods, one_book_changed, action_counted}
use Rattle.trail_check.proofs.Placing.{WaitsAre, placed, waits_stay}
use Rattle.trail_check.proofs.Going.{SameList, came}
use Rattle.trail_check.proofs.Deeds.{fork_deed, dummy_deed}

module _ (s : Setting) (limits : Limits) (run : List Pair) (m : Moment) (c : Checker) (stands : StandsFor s limits run m c) (step : Step) (is : IsStep s m c step) where
  -- what the worker owns
  abbrev pub own : Owns m step.worker
  own = owned s.list m c.deques.deques (stands.places).deques_are step.worker step.seat.deque step.place is.hand

  -- the places in the deques, cut at the worker's
  cut_places : Each (IsNextHere s.list (done_at m)) (places_in (is.hand).holds.left ++ step.place ∷ ((is.hand).under ++ places_in (is.hand).holds.right))
  cut_places = subst (λ t. Each (IsNextHere s.list (done_at m)) t)
      (ap places_in (is.hand).holds.deques_are ∙ places_middle (is.hand).holds.left (is.hand).holds.right (deque_with step.seat.deque (Some step.worker) (step.place ∷ (is.hand).under)))
      (stands.places).next

  pub next_here : IsNextHere s.list (done_at m) step.place
  next_here = (each_right (IsNextHere s.list (done_at m)) (places_in (is.hand).holds.left) (step.place ∷ ((is.hand).under ++ places_in (is.hand).holds.right)) cut_places).0

  cut_rises : Rises (map (label_at s.list) (places_in (is.hand).holds.left ++ step.place ∷ ((is.hand).under ++ places_in (is.hand).holds.right)))
  cut_rises = subst Rises
      (ap threads_in (stands.places).deques_are ∙ sym (labels_in s.list c.deques.deques)
      ∙ ap (λ t. map (label_at s.list) (places_in t)) (is.hand).holds.deques_are
      ∙ ap (map (label_at s.list)) (places_middle (is.hand).holds.left (is.hand).holds.right (deque_with step.seat.deque (Some step.worker) (step.place ∷ (is.hand).under))))
      ((stands.lawful).order).rises

  -- at the top is an action with this deed
  pub at_top : (deed : Deed) → deed_at s.list step.place ≡ deed → IsAtTop s m (own).top step.place deed
  at_top deed is_deed = record { next = next_here; deed_is = is_deed }

  -- the quota has room for what an action of this deed takes
  pub room : (deed : Deed) → deed_at s.list step.place ≡ deed → charged s.quota s.list (is.hand).book.ran + charge s.quota deed (words_at s.list step.place) ≤ s.quota
  room deed is_deed =
      let used = is.used in let fits = is.fits in
      let same : charge_at s.quota s.list step.place ≡ charge s.quota deed (words_at s.list step.place) = ap (λ d. charge s.quota d (words_at s.list step.place)) is_deed in
      omega (arith, used, fits, same)

  module _ (after : Moment) (owner : Option ℕ) (books : after.books ≡ one_more (own).older (own).book (own).newer owner step.place) where
    -- what is done after the action
    pub one_done : (i : ℕ) → done_at after i ≡ done_at m i + one_if_same i step.place
    one_done i =
        ap (λ b. done_in b i) books ∙ done_more (own).older (own).newer (own).book owner step.place i
        ∙ ap (λ b. done_in b i + one_if_same i step.place) (sym (own).books_are)

    both_next : Each (IsNextHere s.list (done_at after)) (places_in (is.hand).holds.left) × Each (IsNextHere s.list (done_at after)) ((is.hand).under ++ places_in (is.hand).holds.right)
    both_next = others_stay s.list (done_at m) (done_at after) step.place one_done (places_in (is.hand).holds.left) ((is.hand).under ++ places_in (is.hand).holds.right) cut_rises cut_places

    -- the next places of the other threads stay
    pub left_next : Each (IsNextHere s.list (done_at after)) (places_in (is.hand).holds.left)
    left_next = both_next.0

    pub under_next : Each (IsNextHere s.list (done_at after)) (is.hand).under
    under_next = each_left (IsNextHere s.list (done_at after)) (is.hand).under (places_in (is.hand).holds.right) both_next.1

    pub right_next : Each (IsNextHere s.list (done_at after)) (places_in (is.hand).holds.right)
    right_next = each_right (IsNextHere s.list (done_at after)) (is.hand).under (places_in (is.hand).holds.right) both_next.1

    -- the thread goes on
    pub on_next : (n : ℕ) → step.place < n → GoesOnAt s.list step.place n → IsNextHere s.list (done_at after) n
    on_next n lt on = goes_on s.list (done_at m) (done_at after) step.place one_done s.quota (stands.knows).depth_first (((stands.lawful).periods).lawful).first_actions next_here n lt on

    -- the child that was forked begins
    pub child_next : (child : ℕ) → deed_at s.list step.place ≡ forks child → IsNextHere s.list (done_at after) (suc step.place)
    child_next child deed = begins s.list (done_at m) (done_at after) step.place one_done s.quota (stands.knows).depth_first (((stands.lawful).periods).lawful).first_actions next_here child deed

    pub same_periods : SamePeriods m.books after.books
    same_periods = subst (SamePeriods m.books) (sym books) (one_book_changed m.books (own).older (own).newer (own).book owner ((own).book.ran ++ step.place ∷ []) (own).books_are)

    -- the worker stays at a deque with these threads
    pub stays : May s m step.worker (does step.place) after → owner ≡ Some step.worker → (top : List ℕ) (under : List (List ℕ))
        → after.deques ≡ (own).left ++ deque_of (own).id (Some step.worker) (top ∷ under) ∷ (own).right → Sits s after step.worker step.seat
    stays may owner_is top under deques =
        sits_of s after step.worker (kept s (stands.knows).depth_first m stands.lawful step.worker (does step.place) after may) (record {
          left = (own).left;
          id = (own).id;
          top = top;
          under = under;
          right = (own).right;
          older = (own).older;
          book = book_of (own).book owner ((own).book.ran ++ step.place ∷ []);
          newer = (own).newer;
          deques_are = deques;
          books_are = books;
          open_for_it = owner_is;
        }) step.seat refl
        (let sum = total_append (charge_at s.quota s.list) (own).book.ran (step.place ∷ []) in let used = is.used in omega (arith, sum, used))

    -- so the action came
    pub acted : May s m step.worker (does step.place) after → (d : Checker) → SameList c d → HasActed step.place step.change c.tally d.tally
        → (these : List (Deque ℕ)) → d.deques.deques ≡ with_these (is.hand).holds these
        → after.deques ≡ (own).left ++ (map (deque_shown s.list) these ++ (own).right)
        → Each (IsNextHere s.list (done_at after)) (places_in these)
        → (seat : Option Seat) → d.seats.items ≡ set c.seats.items step.worker seat → SeatIs s after step.worker seat
        → WaitsAre s.list after.waiting d.waits.items → Came s limits run m (told_of step.worker Act) true d
    acted may d same tally these deques deques_are these_next seat seats mine waits =
        came s limits run m c d stands step.worker Act (does step.place) after (tells_action step.place) may same
        (placed s m after step.worker (does step.place) may c.deques.deques c.seats.items c.waits.items stands.places
        (is.hand).holds.left these (is.hand).holds.right d.deques.deques deques deques_are left_next these_next right_next is.seated seat d.seats.items seats mine d.waits.items waits)
        (action_counted s (stands.knows).some (stands.knows).depth_first run m stands.reaches c.tally d.tally stands.tally step.worker after step.place may next_here.inside same_periods
        (subst (λ w. HasActed step.place w c.tally d.tally) is.change tally))

  -- nobody begins or ends to wait
  pub waits_kept : (d : Checker) → d.waits.items ≡ c.waits.items → WaitsAre s.list m.waiting d.waits.items
  waits_kept d same = subst (WaitsAre s.list m.waiting) (sym same) (waits_stay s m c.deques.deques c.seats.items c.waits.items stands.places)

  -- the action of a thread that goes on by itself may come
  abbrev alone_after : Moment
  alone_after = only_booked m step.worker (own) step.place

  may_alone : (deed : Deed) → deed_at s.list step.place ≡ deed → IsAlone (kind_of deed) → May s m step.worker (does step.place) alone_after
  may_alone (forks child) deed alone = absurd alone
  may_alone (joins child) deed alone = joins_child (own) step.place child (at_top (joins child) deed) (is.ended child deed)
  may_alone allocates deed alone = elim (cases_lt s.quota (words_at s.list step.place)) [
    | inl large ↦ allocates_above (own) step.place (at_top allocates deed) large
    | inr small ↦ allocates_within (own) step.place (at_top allocates deed) small
        (subst (λ b. charged s.quota s.list (is.hand).book.ran + cond b (words_at s.list step.place) 0 ≤ s.quota) (le-leb (words_at s.list step.place) s.quota small) (room allocates deed))
  ]
  may_alone releases deed alone = releases_words (own) step.place (at_top releases deed)
  may_alone dummy deed alone = absurd alone
  may_alone faults deed alone = meets_fault (own) step.place (at_top faults deed)
  may_alone ends deed alone = absurd alone

  no_fork : (deed : Deed) → deed_at s.list step.place ≡ deed → IsAlone (kind_of deed) → (child : ℕ) → ¬ (deed_at s.list step.place ≡ forks child)
  no_fork deed is_deed alone child forked = subst (λ d. IsAlone (kind_of d)) (sym is_deed ∙ forked) alone

  no_end : (deed : Deed) → deed_at s.list step.place ≡ deed → IsAlone (kind_of deed) → ¬ (deed_at s.list step.place ≡ ends)
  no_end deed is_deed alone ended = subst (λ d. IsAlone (kind_of d)) (sym is_deed ∙ ended) alone

  -- the thread goes on directly after its action
  on_alone : IsAlone step.kind → GoesOnAt s.list step.place (step.place + 1)
  on_alone alone =
      let of_deed : IsAlone (kind_of (deed_at s.list step.place)) = subst IsAlone is.kind alone in
      subst (GoesOnAt s.list step.place) (let e : suc step.place ≡ step.place + 1 = omega arith in e)
      (next_follows s.quota s.list (stands.knows).depth_first step.place next_here.inside (no_fork (deed_at s.list step.place) refl of_deed) (no_end (deed_at s.list step.place) refl of_deed))

  pub alone_came : IsAlone step.kind → (d : Checker) → SameList c d → HasActed step.place step.change c.tally d.tally
      → d.deques.deques ≡ with_these (is.hand).holds (deque_with step.seat.deque (Some step.worker) ((step.place + 1) ∷ (is.hand).under) ∷ [])
      → d.seats.items ≡ set c.seats.items step.worker (Some step.seat) → d.waits.items ≡ c.waits.items → Came s limits run m (told_of step.worker Act) true d
  alone_came alone d same tally deques seats waits =
      let may = may_alone (deed_at s.list step.place) refl (subst IsAlone is.kind alone) in
      let on = on_alone alone in
      acted alone_after (Some step.worker) refl may d same tally
      (deque_with step.seat.deque (Some step.worker) ((step.place + 1) ∷ (is.hand).under) ∷ []) deques
      ((own).deques_are ∙ ap (λ t. (own).left ++ deque_of (own).id (Some step.worker) (t ∷ (own).under) ∷ (own).right) (sym on.same_thread)) (
        on_next alone_after (Some step.worker) refl (step.place + 1) (omega arith) on,
        each_join (IsNextHere s.list (done_at alone_after)) (is.hand).under [] (under_next alone_after (Some step.worker) refl) tt,
      )
      (Some step.seat) seats (stays alone_after (Some step.worker) refl may refl (own).top (own).under (own).deques_are) (waits_kept d waits)

  -- a Dummy
  abbrev dummy_after : Moment
  dummy_after = moment_of (deques_with (own) None ((own).top ∷ (own).under)) m.waiting (books_with (own) None step.place)

  on_dummy : deed_at s.list step.place ≡ dummy → GoesOnAt s.list step.place (step.place + 1)
  on_dummy deed =
      subst (GoesOnAt s.list step.place) (let e : suc step.place ≡ step.place + 1 = omega arith in e)
      (next_follows s.quota s.list (stands.knows).depth_first step.place next_here.inside (λ child forked. no_dummy_fork child (sym forked ∙ deed)) (λ ended. no_dummy_end (sym ended ∙ deed)))

  pub dummy_came : step.kind ≡ kinds.Dummy → (d : Checker) → SameList c d → HasActed step.place step.change c.tally d.tally
      → d.deques.deques ≡ with_these (is.hand).holds (deque_with step.seat.deque None ((step.place + 1) ∷ (is.hand).under) ∷ [])
      → d.seats.items ≡ set c.seats.items step.worker None → d.waits.items ≡ c.waits.items → Came s limits run m (told_of step.worker Act) true d
  dummy_came kind d same tally deques seats waits =
      let deed = dummy_deed (deed_at s.list step.place) (sym is.kind ∙ kind) in
      let on = on_dummy deed in
      acted dummy_after None refl (runs_dummy (own) step.place (at_top dummy deed)) d same tally
      (deque_with step.seat.deque None ((step.place + 1) ∷ (is.hand).under) ∷ []) deques
      (ap (λ t. (own).left ++ deque_of (own).id None (t ∷ (own).under) ∷ (own).right) (sym on.same_thread)) (
        on_next dummy_after None refl (step.place + 1) (omega arith) on,
        each_join (IsNextHere s.list (done_at dummy_after)) (is.hand).under [] (under_next dummy_after None refl) tt,
      )
      None seats (left_unowned s m step.worker stands.lawful (own) ((own).top ∷ (own).under)) (waits_kept d waits)

  -- a Fork: its partner is the End of the child, and after that the parent goes on
  module _ (child : ℕ) (deed : deed_at s.list step.place ≡ forks child) where
    after_child : ChildThenParent s.list step.place child
    after_child = parent_follows s.quota s.list (stands.knows).depth_first step.place child next_here.inside deed

    pub fork_has_partner : (end : ℕ) × (get_or c.partners.items step.place None ≡ Some end)
    fork_has_partner =
        let on = (after_child).parent in let inside = on.inside in (
          (after_child).last,
          (((stands.knows).partners).each step.place (after_child).last next_here.inside).1
              (of_fork child deed (omega (arith, inside), (after_child).of_child, (after_child).its_end)),
        )

    -- it is the last place of the child
    end_is_the_last : (end : ℕ) → IsPartner s.list step.place end → end ≡ (after_child).last
    end_is_the_last end (of_fork other other_deed ended) =
        let on = (after_child).parent in let inside = on.inside in
        let last_in : (after_child).last < length s.list = omega (arith, inside) in
        let same_child : other ≡ child = one_fork other child (sym other_deed ∙ deed) in
        let label : label_at s.list end ≡ label_at s.list (after_child).last = ended.1 ∙ ap (fork_of (label_at s.list step.place)) same_child ∙ sym (after_child).of_child in
        let up = end_is_last s.quota s.list (stands.knows).depth_first end (after_child).last ended.0 last_in label (after_child).its_end in
        let down = end_is_last s.quota s.list (stands.knows).depth_first (after_child).last end last_in ended.0 (sym label) ended.2 in
        omega (arith, up, down)
    end_is_the_last end (of_join other other_deed ended) = absurd (fork_is_no_join child other (sym deed ∙ other_deed))
    end_is_the_last end (of_end parent other other_deed label joined) = absurd (end_is_no_fork child (sym other_deed ∙ deed))

    -- the parent goes on behind it
    pub parent_on : (end : ℕ) → get_or c.partners.items step.place None ≡ Some end → GoesOnAt s.list step.place (end + 1)
    parent_on end partner =
        let same = end_is_the_last end ((((stands.knows).partners).each step.place end next_here.inside).0 partner) in
        subst (GoesOnAt s.list step.place) (let e : suc (after_child).last ≡ end + 1 = omega (arith, same) in e) (after_child).parent

    pub parent_later : (end : ℕ) → get_or c.partners.items step.place None ≡ Some end → step.place < end + 1
    parent_later end partner =
        let same = end_is_the_last end ((((stands.knows).partners).each step.place end next_here.inside).0 partner) in let lt = (after_child).after in omega (arith, same, lt)

    abbrev fork_after : Moment
    fork_after = booked_with m step.worker (own) (fork_of (own).top child ∷ (own).top ∷ (own).under) step.place

    forked : (d : Checker) → SameList c d → HasActed step.place step.change c.tally d.tally → (end : ℕ) → get_or c.partners.items step.place None ≡ Some end
        → d.deques.deques ≡ with_these (is.hand).holds (deque_with step.seat.deque (Some step.worker) ((step.place + 1) ∷ (end + 1) ∷ (is.hand).under) ∷ [])
        → d.seats.items ≡ set c.seats.items step.worker (Some step.seat) → d.waits.items ≡ c.waits.items → Came s limits run m (told_of step.worker Act) true d
    forked d same tally end partner deques seats waits =
        let may = forks_child (own) step.place child (at_top (forks child) deed) (room (forks child) deed) in
        let on = parent_on end partner in
        let first = child_begins_behind_fork s.quota s.list (stands.knows).depth_first step.place child next_here.inside deed in
        let one : suc step.place ≡ step.place + 1 = omega arith in
        let child_label : label_at s.list (step.place + 1) ≡ fork_of (own).top child = ap (label_at s.list) (sym one) ∙ first.1 in
        let begun : IsNextHere s.list (done_at fork_after) (step.place + 1) = subst (IsNextHere s.list (done_at fork_after)) one (child_next fork_after (Some step.worker) refl child deed) in
        acted fork_after (Some step.worker) refl may d same tally
        (deque_with step.seat.deque (Some step.worker) ((step.place + 1) ∷ (end + 1) ∷ (is.hand).under) ∷ []) deques
        (λ i. (own).left ++ deque_of (own).id (Some step.worker) (sym child_label i ∷ sym on.same_thread i ∷ (own).under) ∷ (own).right) (
          begun,
          (
            on_next fork_after (Some step.worker) refl (end + 1) (parent_later end partner) on,
            each_join (IsNextHere s.list (done_at fork_after)) (is.hand).under [] (under_next fork_after (Some step.worker) refl) tt,
          ),
        )
        (Some step.seat) seats (stays fork_after (Some step.worker) refl may refl (fork_of (own).top child) ((own).top ∷ (own).under) refl) (waits_kept d waits)

  pub fork_came : step.kind ≡ kinds.Fork → (d : Checker) → SameList c d → HasActed step.place step.change c.tally d.tally → (end : ℕ) → get_or c.partners.items step.place None ≡ Some end
      → d.deques.deques ≡ with_these (is.hand).holds (deque_with step.seat.deque (Some step.worker) ((step.place + 1) ∷ (end + 1) ∷ (is.hand).under) ∷ [])
      → d.seats.items ≡ set c.seats.items step.worker (Some step.seat) → d.waits.items ≡ c.waits.items → Came s limits run m (told_of step.worker Act) true d
  fork_came kind d same tally end partner deques seats waits =
      let deed = fork_deed (deed_at s.list step.place) (sym is.kind ∙ kind) in forked deed.0 deed.1 d same tally end partner deques seats waits

  -- a Fork has a partner, and a place comes behind it
  pub fork_partner : step.kind ≡ kinds.Fork → (end : ℕ) × (get_or c.partners.items step.place None ≡ Some end)
  fork_partner kind = let deed = fork_deed (deed_at s.list step.place) (sym is.kind ∙ kind) in fork_has_partner deed.0 deed.1

  pub parent_inside : step.kind ≡ kinds.Fork → (end : ℕ) → get_or c.partners.items step.place None ≡ Some end → end + 1 < length s.list
  parent_inside kind end partner = let deed = fork_deed (deed_at s.list step.place) (sym is.kind ∙ kind) in (parent_on deed.0 deed.1 end partner).inside
