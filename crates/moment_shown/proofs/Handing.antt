-- A kept result that is handed to its parent, and the root alone.
use Rattle.std.proofs.Common.{◌≡◌, ◌≢◌, ℕ, ◌+◌, ◌<◌, List, [], ◌∷◌, ◌++◌, map, inl, inr, refl, sym, ap, subst, ◌∙◌, arith}
use Rattle.std.proofs.lemmas.List.{map-append}
use Rattle.std.specs.Prelude.{None, Some, true, pos}
use Rattle.open_periods.specs.Passed.ThreadId.{ThreadId}
use Rattle.open_periods.specs.Passed.Births.{root}
use Rattle.open_periods.specs.Passed.LabelOrder.{fork_of}
use Rattle.open_periods.specs.Passed.DepthFirstListRuns.{IsDepthFirst}
use Rattle.open_periods.specs.Passed.Facts.{HasDone}
use Rattle.deque_machine.specs.Lists.{Among, Each, Differ, total}
use Rattle.deque_machine.proofs.Lists.{each_among, each_map, each_join, each_left, each_right, among_left, among_right, among_parts, among_middle, among_wider, among_here, differ_at, differ_without, total_append, total_middle}
use Rattle.deque_machine.specs.Moments.{Moment, opening, done_at}
use Rattle.deque_machine.specs.Machine.{Setting}
use Rattle.deque_machine.specs.LawfulOrder.{IsLawful}
use Rattle.deque_machine.proofs.Labels.{one_parent}
use Rattle.open_periods.specs.Names.{HasLabel, of_root}
use Rattle.open_periods.proofs.Labels.{one_label}
use Rattle.open_periods.proofs.Changes.{none_tell}
use Rattle.moment_shown.specs.Parts.{Child, Thread, Result, Deque, Parts, IsIn, IsKept, deque_shown, label_of, words_of, thread_words, deque_words, result_words, parts_with_root}
use Rattle.moment_shown.specs.Standing.{EndedIn, ChildStands, ThreadStands, Shows, ordinal_of, result_label}
use Rattle.moment_shown.specs.Events as events
use Rattle.moment_shown.specs.Events.{Works}
use Rattle.moment_shown.specs.Laws.{RootIsTheOpening, HandingOverIsNoEvent}
use Rattle.moment_shown.proofs.Facts.{Alike, as_alike}
use Rattle.moment_shown.proofs.Shown.{shown_middle, deques_shown, by_deque, among_map, deque_words_middle}
use Rattle.moment_shown.proofs.Placing.{top_is_in, top_stands, under_differs, beside_differs, waiting_differs, under_is_in, beside_is_in, words_beside, words_were}
use Rattle.deque_machine.proofs.Lists.{each_at as at_each}

module _ (s : Setting) (run : IsDepthFirst s.quota s.list) (m : Moment) (lawful : IsLawful s m) (parts : Parts) (shows : Shows s.quota s.list parts m) (worker : ℕ) (o : Works parts worker)
    (before later : List Result) (result : Result) (front back : List Child) (child : Child) (new : Thread)
    (results_are : parts.results ≡ before ++ result ∷ later) (children_are : o.top.children ≡ front ++ child ∷ back) (child_is : child.id ≡ result.id)
    (like : Alike o.top new) (same_done : new.done ≡ o.top.done)
    (new_children : new.children ≡ front ++ record { id = child.id; ordinal = child.ordinal; func = child.func; delivered = true } ∷ back)
    (new_words : new.words ≡ o.top.words + result.words) where
  abbrev pub next : Parts
  next = record parts { deques = events.deques_with o (Some worker) (new ∷ o.under); results = before ++ later }

  abbrev given_child : Child
  given_child = record { id = child.id; ordinal = child.ordinal; func = child.func; delivered = true }

  result_there : Among result parts.results
  result_there = subst (Among result) (sym results_are) (among_here result before later)

  own_children : Each (ChildStands s.list (done_at m) parts o.top.id o.top.label) (front ++ child ∷ back)
  own_children = subst (Each (ChildStands s.list (done_at m) parts o.top.id o.top.label)) children_are (top_stands s run m lawful parts shows worker o).children

  child_stands : ChildStands s.list (done_at m) parts o.top.id o.top.label child
  child_stands = at_each (ChildStands s.list (done_at m) parts o.top.id o.top.label) front child back own_children

  result_label_is : result.label ≡ fork_of o.top.label child.ordinal
  result_label_is = one_label s.quota s.list parts.periods m.books result.id result.label (fork_of o.top.label child.ordinal) shows.books
      (shows.results result result_there).labelled (subst (λ i. HasLabel parts.periods i (fork_of o.top.label child.ordinal)) child_is child_stands.labelled)

  labels_differ : Differ (map result_label before ++ result.label ∷ map result_label later)
  labels_differ = subst Differ (ap (map result_label) results_are ∙ map-append result_label before (result ∷ later)) shows.kept_once

  wider : (r : Result) → Among r (before ++ later) → Among r parts.results
  wider r there = subst (Among r) (sym results_are) (among_wider r before result later there)

  other_label : (r : Result) → Among r (before ++ later) → r.label ≢ result.label
  other_label r there same = differ_at (map result_label before) result.label (map result_label later) labels_differ
      (subst (λ t. Among t (map result_label before ++ map result_label later)) same
      (subst (Among r.label) (map-append result_label before later) (among_map result_label r (before ++ later) there)))

  -- the id of the result is that of no other kept result
  not_kept_more : IsKept (before ++ later) child.id → ⊥
  not_kept_more kept =
      let r = kept.0 in
      let label : r.label ≡ result.label = one_label s.quota s.list parts.periods m.books r.id r.label result.label shows.books (shows.results r (wider r kept.1)).labelled
      (subst (λ i. HasLabel parts.periods i result.label) (sym (kept.2 ∙ child_is)) (shows.results result result_there).labelled) in
      other_label r kept.1 label

  -- whoever is in the parts now was there before, or is the thread itself
  by_who : (P : Thread → Type 0) → P new → ((y : Thread) → y.label ≢ o.top.label → IsIn y parts → P y) → (y : Thread) → IsIn y next → P y
  by_who P of_new of_other y there = elim there [
    | inl in_deque ↦ elim (by_deque y o.left o.right (record { id = o.id; owner = Some worker; threads = new ∷ o.under }) in_deque) [
      | inl here ↦ elim here [
        | inl is ↦ subst P (sym is) of_new
        | inr under ↦ of_other y (under_differs s run m lawful parts shows worker o y under) (under_is_in s run m lawful parts shows worker o y under)
      ]
      | inr beside ↦ of_other y (beside_differs s run m lawful parts shows worker o y beside) (beside_is_in s run m lawful parts shows worker o y beside)
    ]
    | inr waiting ↦ of_other y (waiting_differs s run m lawful parts shows worker o y waiting) (inr waiting)
  ]

  -- a child that is not the one whose result it was
  stands_still : (id : ThreadId) (label : List ℕ) (other : Child) → fork_of label other.ordinal ≢ fork_of o.top.label child.ordinal
      → ChildStands s.list (done_at m) parts id label other → ChildStands s.list (done_at m) next id label other
  stands_still id label other differs was = record {
    labelled = was.labelled;
    forked = was.forked;
    ended = λ ended. elim (was.ended ended) [
      | inl given ↦ inl given
      | inr kept ↦ elim (among_middle kept.0 before result later (subst (Among kept.0) results_are kept.1)) [
        | inl same ↦ absurd (differs (sym (one_label s.quota s.list parts.periods m.books result.id result.label (fork_of label other.ordinal) shows.books
            (shows.results result result_there).labelled
            (subst (λ i. HasLabel parts.periods i (fork_of label other.ordinal)) (sym kept.2 ∙ ap (λ r. Result.id r) same) was.labelled)) ∙ result_label_is))
        | inr rest ↦ inr (kept.0, rest, kept.2)
      ]
    ];
    delivered = λ given. ((was.delivered given).0, λ kept. (was.delivered given).1 (kept.0, wider kept.0 kept.1, kept.2));
    is_thread = by_who (λ y. y.label ≡ fork_of label other.ordinal → (y.id ≡ other.id) × (y.parent ≡ Some id) × (y.func ≡ other.func))
        (λ named. let known = was.is_thread o.top (top_is_in s run m lawful parts shows worker o) (sym like.same_label ∙ named) in
        (like.same_id ∙ known.0, like.same_parent ∙ known.1, like.same_func ∙ known.2))
        (λ y differs there named. was.is_thread y there named);
    is_result = λ r there named. was.is_result r (wider r there) named;
  }

  -- the child whose result it was
  given_stands : ChildStands s.list (done_at m) next o.top.id o.top.label given_child
  given_stands =
      let was = child_stands in
      record {
        labelled = was.labelled;
        forked = was.forked;
        ended = λ ended. inl refl;
        delivered = λ given. (subst (EndedIn s.list (done_at m)) result_label_is (shows.results result result_there).ended, not_kept_more);
        is_thread = by_who (λ y. y.label ≡ fork_of o.top.label child.ordinal → (y.id ≡ child.id) × (y.parent ≡ Some o.top.id) × (y.func ≡ child.func))
            (λ named. let known = was.is_thread o.top (top_is_in s run m lawful parts shows worker o) (sym like.same_label ∙ named) in
            (like.same_id ∙ known.0, like.same_parent ∙ known.1, like.same_func ∙ known.2))
            (λ y differs there named. was.is_thread y there named);
        is_result = λ r there named. was.is_result r (wider r there) named;
      }

  ordinals_differ : Differ (map ordinal_of front ++ child.ordinal ∷ map ordinal_of back)
  ordinals_differ = subst Differ (ap (map ordinal_of) children_are ∙ map-append ordinal_of front (child ∷ back)) (top_stands s run m lawful parts shows worker o).ordinals_differ

  other_ordinal : (c : Child) → Among c (front ++ back) → fork_of o.top.label c.ordinal ≢ fork_of o.top.label child.ordinal
  other_ordinal c there same = differ_at (map ordinal_of front) child.ordinal (map ordinal_of back) ordinals_differ
      (subst (λ t. Among t (map ordinal_of front ++ map ordinal_of back)) (one_parent o.top.label o.top.label c.ordinal child.ordinal same).1
      (subst (Among c.ordinal) (map-append ordinal_of front back) (among_map ordinal_of c (front ++ back) there)))

  some_stand : (cs : List Child) → ((c : Child) → Among c cs → Among c (front ++ back)) → Each (ChildStands s.list (done_at m) parts o.top.id o.top.label) cs
      → Each (ChildStands s.list (done_at m) next o.top.id o.top.label) cs
  some_stand cs inside all = each_map (ChildStands s.list (done_at m) parts o.top.id o.top.label) (ChildStands s.list (done_at m) next o.top.id o.top.label) cs
      (λ c there was. stands_still o.top.id o.top.label c (other_ordinal c (inside c there)) was) all

  new_stands : ThreadStands s.list (done_at m) next new
  new_stands =
      let was = top_stands s run m lawful parts shows worker o in
      as_alike s.list (done_at m) next o.top new like was.labelled (subst (HasDone s.list (done_at m) o.top.label) (sym same_done) was.has_done)
      (subst (Each (ChildStands s.list (done_at m) next o.top.id o.top.label)) (sym new_children)
      (each_join (ChildStands s.list (done_at m) next o.top.id o.top.label) front (given_child ∷ back)
      (some_stand front (λ c there. among_left c front back there) (each_left (ChildStands s.list (done_at m) parts o.top.id o.top.label) front (child ∷ back) own_children))
      (given_stands, some_stand back (λ c there. among_right c front back there) (each_right (ChildStands s.list (done_at m) parts o.top.id o.top.label) front (child ∷ back) own_children).1)))
      (λ f ordinal inside label forked did unjoined.
      let found = was.all_children f ordinal inside label forked did unjoined in
      subst (λ cs. (c : Child) × Among c cs × (c.ordinal ≡ ordinal)) (sym new_children) (still found.0 (subst (Among found.0) children_are found.1) ordinal found.2))
      (subst (λ cs. Differ (map (λ c. Child.ordinal c) cs)) (sym new_children)
      (subst Differ (sym (map-append ordinal_of front (given_child ∷ back))) ordinals_differ))
    where
      still : (c : Child) → Among c (front ++ child ∷ back) → (ordinal : ℕ) → c.ordinal ≡ ordinal → (d : Child) × Among d (front ++ given_child ∷ back) × (d.ordinal ≡ ordinal)
      still c there ordinal is = elim (among_middle c front child back there) [
        | inl same ↦ (given_child, among_here given_child front back, ap (λ t. Child.ordinal t) (sym same) ∙ is)
        | inr beside ↦ (c, among_wider c front given_child back beside, is)
      ]

  other_stands : (x : Thread) → x.label ≢ o.top.label → IsIn x parts → ThreadStands s.list (done_at m) next x
  other_stands x differs there =
      let was = shows.threads x there in
      record {
        labelled = was.labelled;
        has_done = was.has_done;
        children = each_map (ChildStands s.list (done_at m) parts x.id x.label) (ChildStands s.list (done_at m) next x.id x.label) x.children
            (λ c here stands. stands_still x.id x.label c (λ same. differs (one_parent x.label o.top.label c.ordinal child.ordinal same).0) stands) was.children;
        all_children = was.all_children;
        ordinals_differ = was.ordinals_differ;
      }

  pub handed_over : Shows s.quota s.list next m
  unfolding words_beside
  handed_over = record {
    deques = deques_shown s.quota s.list parts m shows worker o
        ∙ ap (λ t. map deque_shown o.left ++ record { id = o.id; owner = Some worker; threads = t ∷ map label_of o.under } ∷ map deque_shown o.right) (sym like.same_label)
        ∙ sym (shown_middle o.left o.right (record { id = o.id; owner = Some worker; threads = new ∷ o.under }));
    waits = shows.waits;
    waiting = shows.waiting;
    wait_once = shows.wait_once;
    books = shows.books;
    threads = by_who (ThreadStands s.list (done_at m) next) new_stands other_stands;
    results = λ r there. let was = shows.results r (wider r there) in record { labelled = was.labelled; ended = was.ended };
    kept_once = subst Differ (sym (map-append result_label before later)) (differ_without (map result_label before) result.label (map result_label later) labels_differ);
    words =
        let was = words_were s run m lawful parts shows worker o in
        let all = ap (total result_words) results_are in
        let a = total_middle result_words before result later in
        let b = total_append result_words before later in
        let c = deque_words_middle o.left o.right (record { id = o.id; owner = Some worker; threads = new ∷ o.under }) in
        shows.words ∙ ap pos (sym (same_words was all a b c new_words));
  }
    where
      same_words : words_of parts ≡ o.top.words + (total thread_words o.under + words_beside s run m lawful parts shows worker o)
          → total result_words parts.results ≡ total result_words (before ++ result ∷ later)
          → total result_words (before ++ result ∷ later) ≡ total result_words before + (result.words + total result_words later)
          → total result_words (before ++ later) ≡ total result_words before + total result_words later
          → total deque_words (o.left ++ record { id = o.id; owner = Some worker; threads = new ∷ o.under } ∷ o.right) ≡ total deque_words o.left + ((new.words + total thread_words o.under) + total deque_words o.right)
          → new.words ≡ o.top.words + result.words → words_of next ≡ words_of parts
      same_words was all a b c w = omega (arith, was, all, a, b, c, w)

pub handing_over_is_no_event : (s : Setting) → 0 < s.quota → IsDepthFirst s.quota s.list → HandingOverIsNoEvent s
handing_over_is_no_event s some run m parts worker behind lawful shows (events.hands_over o before later result front back child new results_are children_are child_is id parent label func done children words) =
    handed_over s run m lawful parts shows worker o before later result front back child new results_are children_are child_is
    (record { same_id = id; same_parent = parent; same_label = label; same_func = func }) done children words

pub root_is_the_opening : (s : Setting) → 0 < s.quota → IsDepthFirst s.quota s.list → RootIsTheOpening s
root_is_the_opening s some run x id label none children words = record {
  deques = ap (λ t. record { id = 0; owner = None; threads = t ∷ [] } ∷ []) (sym label);
  waits = tt;
  waiting = tt;
  wait_once = tt;
  books = none_tell s.quota s.list;
  threads = λ y there. elim there [
    | inl in_deque ↦ elim in_deque.1 [
      | inl is ↦ elim (subst (λ d. Among y (Deque.threads d)) is in_deque.2) [ inl same ↦ subst (ThreadStands s.list (done_at opening) (parts_with_root x)) (sym same) root_stands | inr nobody ↦ absurd nobody ]
      | inr nobody ↦ absurd nobody
    ]
    | inr nobody ↦ absurd nobody
  ];
  results = λ r there. absurd there;
  kept_once = tt;
  words = ap pos (sym nothing);
}
  where
    nothing : words_of (parts_with_root x) ≡ 0
    nothing = omega (arith, words)

    root_stands : ThreadStands s.list (done_at opening) (parts_with_root x) x
    root_stands = record {
      labelled = subst (λ i. HasLabel [] i x.label) (sym id) (subst (HasLabel [] root) (sym label) of_root);
      has_done = record { those = λ i inside named few. absurd (omega (arith, few, none)); no_more = λ i inside named many. refl };
      children = subst (Each (ChildStands s.list (done_at opening) (parts_with_root x) x.id x.label)) (sym children) tt;
      all_children = λ f ordinal inside named forked did unjoined. absurd (omega (arith, did));
      ordinals_differ = subst (λ cs. Differ (map (λ c. Child.ordinal c) cs)) (sym children) tt;
    }
