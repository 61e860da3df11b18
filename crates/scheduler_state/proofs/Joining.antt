-- The Join of the newest open child of a worker's top thread, at the moment of a run.
use Rattle.std.proofs.Common.{◌≡◌, ◌≢◌, ℕ, ◌+◌, ◌≤◌, ◌<◌, List, [], ◌∷◌, ◌++◌, map, reverse, length, inl, inr, refl, sym, ap, subst, ◌∙◌, arith, true≢false}
use Rattle.std.specs.Prelude.{Option, None, Some, Bool, true, false}
use Rattle.std.specs.Coded.{coded_option, coded_ℕ}
use Rattle.std.specs.List.Sorted.{IsPermutation}
use Rattle.std.proofs.lemmas.Bool.{cases_lt}
use Rattle.std.proofs.lemmas.List.{map-append}
use Rattle.std.proofs.lemmas.List.Sorted.{IsPermutation-map, IsPermutation-refl}
use Rattle.std.proofs.lemmas.Option.{none-some}
use denote.Struct.Props.{props}
use base.Stored.{Coded-set}
use Rattle.dag_order.specs.declared.thread_id.ThreadId.{ThreadId}
use Rattle.dag_order.specs.LabelOrder.{fork_of}
use Rattle.open_periods.specs.Passed.Actions.{record_words, joins, ends}
use Rattle.open_periods.specs.Passed.Facts.{label_at, deed_at, IsLive}
use Rattle.thread_points.specs.Passed.States.{Setting}
use Rattle.deque_list.specs.declared.deque_id.DequeId.{DequeId}
use Rattle.open_periods.specs.Passed.Lists.{Among, Each, Differ}
use Rattle.open_periods.proofs.Passed.Lists.{each_among, each_from}
use Rattle.open_periods.specs.Passed.Moments.{Moment, Waiting, done_at, threads_in, waiting_threads}
use Rattle.open_periods.specs.Passed.LawfulOrder.{ChildrenAbove}
use Rattle.open_periods.specs.Passed.DequeMachineRuns.{Pair}
use Rattle.open_periods.proofs.Passed.Labels.{one_parent}
use Rattle.open_periods.proofs.Passed.LiveThreads.{child_live_at_join}
use Rattle.open_periods.proofs.Passed.Placed.{waits_among}
use Rattle.open_periods.specs.Names.{HasLabel}
use Rattle.open_periods.proofs.Labels.{one_label}
use Rattle.open_periods.specs.Tables.{periods_of}
use Rattle.moment_laws.specs.Passed.Parts as parts
use Rattle.moment_laws.specs.Passed.Standing.{EndedIn, ChildStands, IsWaiting, ordinal_of}
use Rattle.moment_laws.specs.Passed.MomentShownEvents.{Works, IsNextOf, deques_with, HandsOver, hands_over}
use Rattle.thread_points.specs.Passed.Run.{list_of}
use Rattle.thread_frames.specs.declared.thread.Thread.{Thread}
use Rattle.thread_frames.specs.declared.ended.Ended.{Ended}
use Rattle.thread_frames.specs.declared.next.Next.TheVariants as nexts
use Rattle.thread_frames.specs.Actions.{IsSame, IsOfTheList, JoinsNewest, is_there}
use Rattle.thread_frames.specs.Children.{IsResultFor, either_of, IsAwaited, same_id, with_delivered, IsOnlyNewest, is_delivered}
use Rattle.thread_frames.specs.Views.{Child, children_of, newest, ordinal_of as ordinal_in, label_of, done_of, thread_words, ended_words, ended_label}
use Rattle.thread_frames.specs.Shown.{child_shown, thread_shown, result_shown}
use Rattle.thread_frames.proofs.Threads.{newest_last, deliveries_hand_over}
use Rattle.thread_map.specs.Kept.{kept_under}
use Rattle.moment_laws.specs.Passed.Shown.{deque_shown, deque_with, Stands}
use Rattle.scheduler_state.specs.declared.scheduler.Scheduler.{Scheduler}
use Rattle.scheduler_state.specs.Held.{Held, held_under, parts_in, IsInOrder}
use Rattle.thread_frames.specs.Kept.{waiting_shown, result_kept, WaitsUnder, IsUnderItsId}
use Rattle.scheduler_state.specs.Moments.{HasRun}
use Rattle.open_periods.specs.Passed.Terms.{Terms}
use Rattle.scheduler_state.proofs.Lists.{among_mapped}
use Rattle.thread_frames.proofs.Found.{found_among, none_found}
use Rattle.scheduler_state.proofs.Newest.{Cut, cut_newest, shown_cut, among_reversed, AreOthers, delivered_last, with_delivered_last, only_last, awaits_last}
use Rattle.scheduler_state.proofs.AtTop.{own_deque, its_period, period_there, lawful, listed, stands_at_top, next_at_top, deque_there, label_there, top_is_live}
use Rattle.scheduler_state.proofs.Still.{same_stands, handed_stands}

-- that a result is awaited is known in one way
numbers_set : (xs ys : List ℕ) → IsProp (xs ≡ ys)
numbers_set xs ys = search props

result_one : (label : List ℕ) (ended : Ended) (x : Child) → IsProp (IsResultFor label ended x)
result_one label ended x = λ a b i. record {
  waits = waits_one a.waits b.waits i;
  labelled = numbers_set (ended_label ended) (fork_of label x.ordinal) a.labelled b.labelled i;
  func = func_one a.func b.func i;
}
  where
    waits_one : IsProp (x.delivered ≡ false)
    waits_one = search props

    func_one : IsProp (ended.func ≡ x.func)
    func_one = Coded-set (coded_option coded_ℕ) ended.func x.func

pub awaited_one : (label : List ℕ) (ended : Ended) (xs : List Child) → IsProp (IsAwaited label ended xs)
awaited_one label ended [] = λ a b. absurd a
awaited_one label ended (x ∷ xs) = by_test (same_id x.id ended.id) (awaited_one label ended xs)
  where
    by_test : (b : Bool) → IsProp (IsAwaited label ended xs) → IsProp (either_of b (IsResultFor label ended x) (IsAwaited label ended xs))
    by_test true rest = result_one label ended x
    by_test false rest = rest

-- where no entry has an id, no result has it
unkept_in : (id : ThreadId) (entries : List (ThreadId × Ended)) → Each IsUnderItsId entries → Each (λ e. e.0 ≢ id) entries
    → Each (λ r. parts.Result.id r ≢ id) (map result_kept entries)
unkept_in id [] under none = tt
unkept_in id (e ∷ entries) under none = (λ same. none.0 (sym under.0 ∙ same), unkept_in id entries under.1 none.1)

module _ (s : Scheduler) {worker : ℕ} {id : DequeId} {items : List Thread} (stands : Stands s.list worker id items) (top : Thread)
    (c : Setting) (terms : Terms) (quota : record_words ≤ c.quota) (run : List Pair) (m : Moment) (at : HasRun c terms (held_under s stands top) run m)
    (child : ThreadId) (i : IsOfTheList c top (nexts.Join child)) (joins_newest : JoinsNewest (nexts.Join child) (children_of top)) (o : IsInOrder (held_under s stands top)) where
  pub cut : Cut (children_of top) child
  cut = cut_newest (children_of top) child joins_newest

  pub children_shown : parts.Thread.children (thread_shown top) ≡ child_shown cut.last ∷ map child_shown (reverse cut.front)
  children_shown = ap (λ cs. map child_shown (reverse cs)) cut.are ∙ shown_cut cut.front cut.last

  newest_is : newest (children_of top) ≡ Some cut.last
  newest_is = ap newest cut.are ∙ newest_last cut.front cut.last

  -- the newest open child has the id
  abbrev pub newest_child : (x : parts.Child) × (older : List parts.Child) × (parts.Thread.children (thread_shown top) ≡ x ∷ older) × (x.id ≡ child)
  newest_child = (child_shown cut.last, map child_shown (reverse cut.front), children_shown, cut.its_id)

  -- and the next action joins it
  pub joins_it : IsNextOf (list_of c) (thread_shown top) (IsOfTheList.place i) (joins (parts.Child.ordinal newest_child.0))
  joins_it = record {
    inside = i.inside;
    by = i.labelled;
    index = i.index;
    does = i.deed ∙ ap (λ x. joins (ordinal_in x)) newest_is;
  }

  children_stand : Each (ChildStands (list_of c) (done_at m) (parts_in (held_under s stands top)) (Thread.id top) (label_of top)) (child_shown cut.last ∷ map child_shown (reverse cut.front))
  children_stand = subst (Each (ChildStands (list_of c) (done_at m) (parts_in (held_under s stands top)) (Thread.id top) (label_of top))) children_shown
      (stands_at_top s stands top c terms quota run m at).children

  -- its label
  its_label : HasLabel (periods_of s.table) child (fork_of (label_of top) (Child.ordinal cut.last))
  its_label = subst (λ x. HasLabel (periods_of s.table) x (fork_of (label_of top) (Child.ordinal cut.last))) cut.its_id children_stand.0.labelled

  -- whoever has this id has this label
  one_of_it : (who : ThreadId) (label : List ℕ) → who ≡ child → HasLabel (periods_of s.table) who label → label ≡ fork_of (label_of top) (Child.ordinal cut.last)
  one_of_it who label is has = one_label c.quota (list_of c) (periods_of s.table) m.books child label (fork_of (label_of top) (Child.ordinal cut.last)) at.standing.shows.books
      (subst (λ x. HasLabel (periods_of s.table) x label) is has) its_label

  -- no older open child has the id
  pub others : AreOthers child cut.front
  others = each_from (λ x. Child.id x ≢ child) cut.front (λ x there same.
      let shown = among_reversed x cut.front there in
      let stands_x = each_among (ChildStands (list_of c) (done_at m) (parts_in (held_under s stands top)) (Thread.id top) (label_of top)) (child_shown x) (map child_shown (reverse cut.front))
      children_stand.1 shown in
      let ordinal = (one_parent (label_of top) (label_of top) (Child.ordinal x) (Child.ordinal cut.last) (one_of_it (Child.id x) (fork_of (label_of top) (Child.ordinal x)) same stands_x.labelled)).1 in
      let differ = subst (λ cs. Differ (map ordinal_of cs)) children_shown (stands_at_top s stands top c terms quota run m at).ordinals_differ in
      differ.0 (subst (λ n. Among n (map ordinal_of (map child_shown (reverse cut.front)))) ordinal
      (among_mapped ordinal_of (child_shown x) (map child_shown (reverse cut.front)) shown)))

  -- whether its result is there
  pub told_newest : is_delivered child (children_of top) ≡ parts.Child.delivered newest_child.0
  told_newest = ap (is_delivered child) cut.are ∙ delivered_last child cut.front cut.last others cut.its_id

  pub told : is_delivered child (children_of top) ≡ is_there (newest (children_of top))
  told = told_newest ∙ sym (ap is_there newest_is)

  -- no result of it is kept
  pub unkept : kept_under s.results child ≡ None → Each (λ r. parts.Result.id r ≢ child) (parts.Parts.results (parts_in (held_under s stands top)))
  unkept none = unkept_in child s.results.entries o.results (none_found child s.results.entries none)

  -- so it goes on
  pub goes_on : is_delivered child (children_of top) ≡ false → kept_under s.results child ≡ None
      → EndedIn (list_of c) (done_at m) (fork_of (label_of top) (Child.ordinal cut.last)) → ⊥
  goes_on missing none ended = elim (children_stand.0.ended ended) [
    | inl given ↦ true≢false (sym given ∙ sym told_newest ∙ missing)
    | inr kept ↦ each_among (λ r. parts.Result.id r ≢ child) kept.0 (parts.Parts.results (parts_in (held_under s stands top))) (unkept none) kept.1 (kept.2 ∙ cut.its_id)
  ]

  -- a thread that has to wait is alone in its deque
  pub waits_alone : is_delivered child (children_of top) ≡ false → kept_under s.results child ≡ None → items ≡ []
  waits_alone missing none =
      let order = (lawful s stands top c terms quota run m at).order in
      let above = each_among (λ d. ChildrenAbove (list_of c) (done_at m) None d.threads) (parts.deque_shown (deque_shown thread_shown (own_deque s stands top))) m.deques order.children_above
      (deque_there s stands top c terms quota run m at) in
      by_items items above (child_live_at_join c.quota (list_of c) (listed s stands top c terms quota run m at) (done_at m) (lawful s stands top c terms quota run m at).periods.lawful.first_actions
      (label_of top) i.place (Child.ordinal cut.last) (top_is_live s stands top c terms quota run m at) (next_at_top s stands top c terms quota run m at (nexts.Join child) i) joins_it.does
      (λ e inside label deed. not_done e inside label deed))
    where
      by_items : (xs : List Thread) → ChildrenAbove (list_of c) (done_at m) None (label_of top ∷ map parts.label_of (map thread_shown xs))
          → IsLive (list_of c) (done_at m) (fork_of (label_of top) (Child.ordinal cut.last)) → xs ≡ []
      by_items [] above live = refl
      by_items (x ∷ xs) above live = absurd (none-some (fork_of (label_of top) (Child.ordinal cut.last)) (above.0 (Child.ordinal cut.last) live))

      not_done : (e : ℕ) → e < length (list_of c) → label_at (list_of c) e ≡ fork_of (label_of top) (Child.ordinal cut.last)
          → deed_at (list_of c) e ≡ ends → done_at m e ≡ 0
      not_done e inside label deed = elim (cases_lt 0 (done_at m e)) [
        | inl did ↦ absurd (goes_on missing none (e, inside, label, deed, did))
        | inr none ↦ omega (arith, none)
      ]

  -- no thread waits for it
  pub not_waited : kept_under s.waiting child ≡ None
  not_waited = by_found (kept_under s.waiting child) refl
    where
      by_found : (found : Option Thread) → kept_under s.waiting child ≡ found → found ≡ None
      by_found None is = refl
      by_found (Some x) is =
          let there = found_among child s.waiting.entries x is in
          let waits = each_among WaitsUnder (child, x) s.waiting.entries o.waiting there in
          let shown = among_mapped waiting_shown (child, x) s.waiting.entries there in
          let stands_x = at.standing.shows.threads (thread_shown x) (inr shown) in
          let its = subst (Each (ChildStands (list_of c) (done_at m) (parts_in (held_under s stands top)) (Thread.id x) (label_of x))) waits.2 stands_x.children in
          let label = (one_parent (label_of x) (label_of top) (parts.Child.ordinal waits.0) (Child.ordinal cut.last)
          (one_of_it (parts.Child.id waits.0) (fork_of (label_of x) (parts.Child.ordinal waits.0)) waits.3 its.0.labelled)).0 in
          let w = each_among (λ y. (w : Waiting) × Among w m.waiting × IsWaiting y w) (thread_shown x) (map waiting_shown s.waiting.entries) at.standing.shows.waits shown in
          let apart = each_among (λ thread. ¬ Among thread (threads_in m.deques)) w.0.thread (waiting_threads m.waiting) (lawful s stands top c terms quota run m at).order.apart
          (waits_among w.0 m.waiting w.1) in
          absurd (apart (subst (λ t. Among t (threads_in m.deques)) (sym (w.2.0 ∙ label)) (label_there s stands top c terms quota run m at)))

  -- a result of it that is kept is one that the thread waits for
  module _ (ended : Ended) (is : kept_under s.results child ≡ Some ended) where
    its_entry : Among {X = ThreadId × Ended} (child, ended) s.results.entries
    its_entry = found_among child s.results.entries ended is

    pub under_its_id : ended.id ≡ child
    under_its_id = each_among IsUnderItsId (child, ended) s.results.entries o.results its_entry

    pub to_come : is_delivered child (children_of top) ≡ false → IsAwaited (label_of top) ended (children_of top)
    to_come missing =
        let shown = among_mapped result_kept (child, ended) s.results.entries its_entry in
        let label = one_of_it (Ended.id ended) (ended_label ended) under_its_id (at.standing.shows.results (result_shown ended) shown).labelled in
        subst (IsAwaited (label_of top) ended) (sym cut.are) (awaits_last child (label_of top) ended under_its_id cut.front cut.last others cut.its_id (record {
          waits = sym told_newest ∙ missing;
          labelled = label;
          func = (children_stand.0.is_result (result_shown ended) shown label).1;
        }))

    pub given : (now : Thread) → children_of now ≡ with_delivered ended.id (children_of top)
        → (is_there (newest (children_of now)) ≡ true) × IsOnlyNewest ended.id (children_of now)
    given now children =
        let last : Child = record cut.last { delivered = true } in
        let are : children_of now ≡ cut.front ++ last ∷ [] = children ∙ ap (λ x. with_delivered x (children_of top)) under_its_id ∙ ap (with_delivered child) cut.are
        ∙ with_delivered_last child cut.front cut.last others cut.its_id in (
          ap (λ cs. is_there (newest cs)) are ∙ ap is_there (newest_last cut.front last),
          subst (IsOnlyNewest ended.id) (sym are) (subst (λ x. IsOnlyNewest x (cut.front ++ last ∷ [])) (sym under_its_id) (only_last child cut.front last others cut.its_id)),
        )

  -- a child whose result was delivered, or is kept, has ended
  pub ended_when_delivered : is_delivered child (children_of top) ≡ true
      → EndedIn (list_of c) (done_at m) (fork_of (label_of top) (parts.Child.ordinal newest_child.0))
  ended_when_delivered is = (children_stand.0.delivered (sym told_newest ∙ is)).0

  pub ended_when_kept : (ended : Ended) → kept_under s.results child ≡ Some ended
      → EndedIn (list_of c) (done_at m) (fork_of (label_of top) (parts.Child.ordinal newest_child.0))
  ended_when_kept ended is =
      let there = found_among child s.results.entries ended is in
      let its_id : Ended.id ended ≡ child = each_among IsUnderItsId (child, ended) s.results.entries o.results there in
      let result = at.standing.shows.results (result_kept (child, ended)) (among_mapped result_kept (child, ended) s.results.entries there) in
      subst (EndedIn (list_of c) (done_at m)) (one_of_it (Ended.id ended) (ended_label ended) its_id result.labelled) result.ended

-- ---- a result that comes to the top thread

module _ (s : Scheduler) {worker : ℕ} {id : DequeId} {items : List Thread} (stands : Stands s.list worker id items) (top : Thread)
    (c : Setting) (terms : Terms) (quota : record_words ≤ c.quota) (run : List Pair) (m : Moment) (at : HasRun c terms (held_under s stands top) run m)
    (o : IsInOrder (held_under s stands top)) (child : ThreadId) (ended : Ended) (results : List (ThreadId × Ended))
    (moved : IsPermutation s.results.entries ((child, ended) ∷ results)) (now : Thread) (awaited : IsAwaited (label_of top) ended (children_of top))
    (same : IsSame top now) (done : done_of now ≡ done_of top) (children : children_of now ≡ with_delivered ended.id (children_of top))
    (words : thread_words now ≡ thread_words top + ended_words ended) where
  -- the result first
  abbrev first : Held
  first = record (held_under s stands top) { results = (child, ended) ∷ results }

  first_stands : HasRun c terms first run m
  first_stands = same_stands c terms (held_under s stands top) first run m (record {
    deques = refl;
    waiting = IsPermutation-refl (map waiting_shown s.waiting.entries);
    results = IsPermutation-map result_kept s.results.entries ((child, ended) ∷ results) moved;
    periods = refl;
  }) refl refl refl refl at

  abbrev works_first : Works (parts_in first) worker
  works_first =
      let p = its_period s stands top o in
      let o = period_there s stands top p.0 p.1 in record {
        left = o.left;
        id = o.id;
        top = o.top;
        under = o.under;
        right = o.right;
        period = o.period;
        deques_are = o.deques_are;
        period_there = o.period_there;
        open_for_it = o.open_for_it;
      }

  abbrev next : parts.Parts
  next = record (parts_in first) { deques = deques_with works_first (Some worker) (thread_shown now ∷ map thread_shown items); results = map result_kept results }

  hands : HandsOver (parts_in first) worker next
  hands =
      let over = deliveries_hand_over top now ended awaited children in
      hands_over works_first [] (map result_kept results) (result_shown ended) over.0 over.1 over.2 (thread_shown now) refl over.3 over.4
      same.id same.parent same.label same.func done over.5 words

  abbrev after : Held
  after = record (held_under s stands top) { deques = stands.left ++ deque_with id (Some worker) (now ∷ items) ∷ stands.right; results = results }

  -- it stands at the same moment
  pub handed : HasRun c terms (record (held_under s stands top) { deques = stands.left ++ deque_with id (Some worker) (now ∷ items) ∷ stands.right; results = results }) run m
  handed = handed_stands c terms quota first after run m worker next first_stands hands (record {
    deques = map-append (deque_shown thread_shown) stands.left (deque_with id (Some worker) (now ∷ items) ∷ stands.right);
    waiting = IsPermutation-refl (map waiting_shown s.waiting.entries);
    results = IsPermutation-refl (map result_kept results);
    periods = refl;
  }) refl refl refl refl
