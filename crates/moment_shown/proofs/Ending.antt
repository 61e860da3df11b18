-- The End of a thread: its result is kept, and its parent below or waiting runs next, or the deque leaves the list.
use Rattle.std.proofs.Common.{◌≡◌, ◌≢◌, ℕ, ◌+◌, List, [], ◌∷◌, ◌++◌, map, inl, inr, refl, sym, ap, subst, ◌∙◌, arith}
use Rattle.std.proofs.lemmas.Int.{ints}
use Rattle.std.proofs.lemmas.List.{map-append}
use Rattle.std.specs.Prelude.{Option, None, Some, ℤ, pos, neg_ℤ, ◌+ℤ◌}
use Rattle.open_periods.specs.Passed.LabelOrder.{fork_of}
use Rattle.open_periods.specs.Passed.Actions.{ends, weight_of}
use Rattle.open_periods.specs.Passed.DepthFirstListRuns.{IsDepthFirst}
use Rattle.open_periods.specs.Passed.Facts.{words_at, weight_at}
use Rattle.deque_machine.specs.Lists.{Among, Each, Differ, total}
use Rattle.deque_machine.specs.Books.{done_in}
use Rattle.deque_machine.proofs.Lists.{one_same, each_among, each_from, each_at, each_map, among_left, among_right, among_parts, among_middle, among_wider, among_here, differ_at, differ_without, total_middle, total_append}
use Rattle.deque_machine.specs.Moments as machine
use Rattle.deque_machine.specs.Moments.{Moment, Waiting, done_at, live_at, waiting_threads}
use Rattle.deque_machine.specs.Machine.{Setting, May, does, books_with, ends_above_parent, ends_and_wakes, ends_and_leaves}
use Rattle.deque_machine.specs.LawfulOrder.{IsLawful, Stacked}
use Rattle.deque_machine.proofs.Placed.{waiting_append, waits_among}
use Rattle.open_periods.specs.Periods.{Period}
use Rattle.open_periods.specs.Names.{HasLabel}
use Rattle.open_periods.proofs.Labels.{one_label}
use Rattle.moment_shown.specs.Parts.{Child, Thread, Result, Deque, Parts, IsIn, deque_shown, label_of, words_of, thread_words, deque_words, result_words}
use Rattle.moment_shown.specs.Standing.{EndedIn, ChildStands, ThreadStands, ResultStands, Shows, IsWaiting, result_label}
use Rattle.moment_shown.specs.Events as events
use Rattle.moment_shown.specs.Events.{Works, IsNextOf, Notes, IsLeftBy}
use Rattle.moment_shown.specs.Laws.{Comes}
use Rattle.moment_shown.proofs.Facts.{Behind, alike_itself, other_behind, result_behind, top_goes_on}
use Rattle.moment_shown.proofs.Shown.{shown_middle, shown_without, deques_shown, by_deque, among_map, deque_words_middle}
use Rattle.moment_shown.proofs.Placing.{own, top_is_in, top_stands, under_differs, beside_differs, waiting_differs, under_is_in, beside_is_in, words_beside, words_were, at_top, told, behind, words_behind, one_done}
use Rattle.moment_shown.proofs.Forking.{among_mapped}
use Rattle.deque_machine.proofs.Lists.{same_head as same_front}

module _ {X : Type 0} where
  pub cut_among : (x : X) (xs : List X) → Among x xs → (left right : List X) × (xs ≡ left ++ x ∷ right)
  cut_among x [] there = absurd there
  cut_among x (y ∷ xs) there = elim there [
    | inl same ↦ ([], xs, ap (λ t. t ∷ xs) (sym same))
    | inr later ↦ let cut = cut_among x xs later in (y ∷ cut.0, cut.1, ap (λ t. y ∷ t) cut.2)
  ]

module _ (s : Setting) (run : IsDepthFirst s.quota s.list) (m : Moment) (lawful : IsLawful s m) (parts : Parts) (shows : Shows s.quota s.list parts m) (worker : ℕ) (o : Works parts worker)
    (place : ℕ) (is_next : IsNextOf s.list o.top place ends) (owner : Option ℕ) (periods : List Period) (n : Notes s.quota s.list o place [] owner periods)
    (result : Result) (left_by : IsLeftBy s.list o.top place result) where
  abbrev pub after : ℕ → ℕ
  after = done_in (books_with (own s run m lawful parts shows worker o) owner place)

  abbrev pub next_of : List Deque → List Thread → Parts
  next_of deques waiting = record { deques = deques; waiting = waiting; results = result ∷ parts.results; periods = periods }

  -- everybody who is left was there before, and is not the thread that ended
  pub AreLeft : List Deque → List Thread → Type 0
  AreLeft deques waiting = (y : Thread) → IsIn y (next_of deques waiting) → (y.label ≢ o.top.label) × IsIn y parts

  pub end_behind : (deques : List Deque) (waiting : List Thread) → AreLeft deques waiting
      → Behind s.list parts (next_of deques waiting) (done_at m) after o.top place
  unfolding AreLeft
  end_behind deques waiting left = behind s run m lawful parts shows worker o place ends is_next [] owner periods n deques waiting (result ∷ parts.results)
      (λ y there. inl (y, (left y there).1, alike_itself y))
      (λ r there. elim there [
        | inl same ↦ inr (
          ap (λ t. Result.id t) same ∙ left_by.same_id,
          ap (λ t. Result.label t) same ∙ left_by.same_label,
          ap (λ t. Result.func t) same ∙ left_by.same_func,
          refl,
        )
        | inr before ↦ inl before
      ])
      (λ id kept. (kept.0, inr kept.1, kept.2))
      (λ end. (result, inl refl, left_by.same_id))

  result_stands : (deques : List Deque) (waiting : List Thread) → AreLeft deques waiting → ResultStands s.list after (next_of deques waiting) result
  result_stands deques waiting left =
      let b = end_behind deques waiting left in
      let more = one_done s run m lawful parts shows worker o place ends is_next owner place in let one = one_same place place refl in
      record {
        labelled = subst (λ i. HasLabel periods i result.label) (sym left_by.same_id) (subst (HasLabel periods o.top.id) (sym left_by.same_label) (b.stays o.top.id o.top.label b.stands.labelled));
        ended = (place, is_next.inside, is_next.by ∙ sym left_by.same_label, is_next.does, omega (arith, more, one));
      }

  first_kept : (deques : List Deque) (waiting : List Thread) → AreLeft deques waiting → ¬ Among result.label (map result_label parts.results)
  first_kept deques waiting left there =
      let found = among_mapped result_label result.label parts.results there in
      top_goes_on s.quota s.list run parts (next_of deques waiting) (done_at m) after o.top place (end_behind deques waiting left)
      (subst (EndedIn s.list (done_at m)) (sym found.2 ∙ left_by.same_label) (shows.results found.0 found.1).ended)

  pub shows_end : (deques : List Deque) (waiting : List Thread) (shown : List machine.Deque) (waits : List Waiting) → AreLeft deques waiting
      → May s m worker (does place) (record { deques = shown; waiting = waits; books = books_with (own s run m lawful parts shows worker o) owner place })
      → shown ≡ map deque_shown deques
      → Each (λ x. (w : Waiting) × Among w waits × IsWaiting x w) waiting → Each (λ w. (x : Thread) × Among x waiting × IsWaiting x w) waits
      → Differ (map label_of waiting)
      → words_of (next_of deques waiting) + words_at s.list place ≡ words_of parts
      → Comes s m worker (does place) (next_of deques waiting)
  unfolding AreLeft
  shows_end deques waiting shown waits left event shown_is waits_are waiting_are once words = (
    _,
    event,
    record {
      deques = shown_is;
      waits = waits_are;
      waiting = waiting_are;
      wait_once = once;
      books = told s run m lawful parts shows worker o place ends is_next [] owner periods n refl;
      threads = λ x there. other x there (is_left x there);
      results = λ r there. elim there [
        | inl same ↦ subst (ResultStands s.list after (next_of deques waiting)) (sym same) (result_stands deques waiting left)
        | inr before ↦ result_behind s.quota s.list run parts (next_of deques waiting) (done_at m) after o.top place (end_behind deques waiting left) r (shows.results r before)
      ];
      kept_once = (first_kept deques waiting left, shows.kept_once);
      words = words_behind s run m lawful parts shows worker o place ends is_next _ event (words_of parts) (words_of (next_of deques waiting)) shows.words
          (less (words_of (next_of deques waiting)) (words_of parts) (words_at s.list place) (weight_at s.list place) words (ap (λ d. weight_of d (words_at s.list place)) is_next.does));
    },
  )
    where
      is_left : (x : Thread) → IsIn x (next_of deques waiting) → (x.label ≢ o.top.label) × IsIn x parts
      is_left x there = left x there

      other : (x : Thread) → IsIn x (next_of deques waiting) → (x.label ≢ o.top.label) × IsIn x parts → ThreadStands s.list after (next_of deques waiting) x
      other x there known = other_behind s.quota s.list run parts (next_of deques waiting) (done_at m) after o.top place (end_behind deques waiting left) x known.0 (shows.threads x known.1)

      less : (now before words : ℕ) (w : ℤ) → now + words ≡ before → w ≡ neg_ℤ (pos words) → pos now ≡ pos before +ℤ w
      less now before words w a b = omega (arith, ints, a, b)

module _ (s : Setting) (run : IsDepthFirst s.quota s.list) (m : Moment) (lawful : IsLawful s m) (parts : Parts) (shows : Shows s.quota s.list parts m) (worker : ℕ) (o : Works parts worker)
    (place : ℕ) (is_next : IsNextOf s.list o.top place ends) (result : Result) (left_by : IsLeftBy s.list o.top place result) where
  -- the thread that stands directly below is the parent
  below_is_parent : (parent : Thread) (below : List Thread) → o.under ≡ parent ∷ below → (child : ℕ) × (o.top.label ≡ fork_of parent.label child)
  below_is_parent parent below under_is =
      let all = subst (Each (λ d. Stacked (machine.Deque.threads d))) (deques_shown s.quota s.list parts m shows worker o) lawful.order.stacked in
      let stacked : Stacked (o.top.label ∷ map label_of o.under) = each_at (λ d. Stacked (machine.Deque.threads d)) (map deque_shown o.left)
      (record { id = o.id; owner = Some worker; threads = label_of o.top ∷ map label_of o.under }) (map deque_shown o.right) all in
      (subst (λ us. Stacked (o.top.label ∷ map label_of us)) under_is stacked).0

  pub above : (parent : Thread) (below : List Thread) (periods : List Period) → o.under ≡ parent ∷ below → Notes s.quota s.list o place [] (Some worker) periods
      → Comes s m worker (does place) (record parts { deques = events.deques_with o (Some worker) o.under; results = result ∷ parts.results; periods = periods })
  unfolding AreLeft words_beside
  above parent below periods under_is n =
      let child = below_is_parent parent below under_is in
      shows_end s run m lawful parts shows worker o place is_next (Some worker) periods n result left_by (events.deques_with o (Some worker) o.under) parts.waiting _ _ left
      (ends_above_parent (own s run m lawful parts shows worker o) place child.0 parent.label (map label_of below) (at_top s run m lawful parts shows worker o place ends is_next)
      (ap (map label_of) under_is) child.1)
      (sym (shown_middle o.left o.right (record { id = o.id; owner = Some worker; threads = o.under })))
      shows.waits shows.waiting shows.wait_once
      (let was = words_were s run m lawful parts shows worker o in
      let is = deque_words_middle o.left o.right (record { id = o.id; owner = Some worker; threads = o.under }) in
      let words = left_by.words in sums was is words)
    where
      left : AreLeft s run m lawful parts shows worker o place is_next (Some worker) periods n result left_by (events.deques_with o (Some worker) o.under) parts.waiting
      left y there = elim there [
        | inl in_deque ↦ elim (by_deque y o.left o.right (record { id = o.id; owner = Some worker; threads = o.under }) in_deque) [
          | inl under ↦ (under_differs s run m lawful parts shows worker o y under, under_is_in s run m lawful parts shows worker o y under)
          | inr beside ↦ (beside_differs s run m lawful parts shows worker o y beside, beside_is_in s run m lawful parts shows worker o y beside)
        ]
        | inr waiting ↦ (waiting_differs s run m lawful parts shows worker o y waiting, inr waiting)
      ]

      sums : words_of parts ≡ o.top.words + (total thread_words o.under + words_beside s run m lawful parts shows worker o)
          → total deque_words (o.left ++ record { id = o.id; owner = Some worker; threads = o.under } ∷ o.right) ≡ total deque_words o.left + (total thread_words o.under + total deque_words o.right)
          → result.words + words_at s.list place ≡ o.top.words
          → total deque_words (o.left ++ record { id = o.id; owner = Some worker; threads = o.under } ∷ o.right) + (total thread_words parts.waiting + (result.words + total result_words parts.results)) + words_at s.list place ≡ words_of parts
      sums was is words = omega (arith, was, is, words)

  pub leaves : (periods : List Period) → o.under ≡ []
      → Each (λ x. (newest : Child) (older : List Child) → x.children ≡ newest ∷ older → o.top.parent ≡ Some x.id → newest.id ≢ o.top.id) parts.waiting
      → Notes s.quota s.list o place [] None periods
      → Comes s m worker (does place) (record parts { deques = o.left ++ o.right; results = result ∷ parts.results; periods = periods })
  unfolding AreLeft words_beside
  leaves periods under_is unwaited n =
      shows_end s run m lawful parts shows worker o place is_next None periods n result left_by (o.left ++ o.right) parts.waiting _ _ left
      (ends_and_leaves (own s run m lawful parts shows worker o) place (at_top s run m lawful parts shows worker o place ends is_next) (ap (map label_of) under_is) nobody_waits)
      (sym (shown_without o.left o.right))
      shows.waits shows.waiting shows.wait_once
      (let was = words_were s run m lawful parts shows worker o in
      let none = ap (total thread_words) under_is in
      let is = total_append deque_words o.left o.right in
      let words = left_by.words in sums was none is words)
    where
      left : AreLeft s run m lawful parts shows worker o place is_next None periods n result left_by (o.left ++ o.right) parts.waiting
      left y there = elim there [
        | inl beside ↦ (beside_differs s run m lawful parts shows worker o y beside, beside_is_in s run m lawful parts shows worker o y beside)
        | inr waiting ↦ (waiting_differs s run m lawful parts shows worker o y waiting, inr waiting)
      ]

      nobody_waits : Each (λ waits. o.top.label ≢ fork_of waits.thread waits.child) m.waiting
      nobody_waits = each_from (λ waits. o.top.label ≢ fork_of waits.thread waits.child) m.waiting (λ w there same.
          let x = each_among (λ v. (x : Thread) × Among x parts.waiting × IsWaiting x v) w m.waiting shows.waiting there in
          let stands = subst (Each (ChildStands s.list (done_at m) parts x.0.id x.0.label)) x.2.3 (shows.threads x.0 (inr x.1)).children in
          let label : o.top.label ≡ fork_of x.0.label x.2.1.ordinal = same ∙ ap (λ t. fork_of t w.child) x.2.0 ∙ ap (fork_of x.0.label) x.2.4 in
          let known = stands.0.is_thread o.top (top_is_in s run m lawful parts shows worker o) label in
          each_among (λ y. (newest : Child) (older : List Child) → y.children ≡ newest ∷ older → o.top.parent ≡ Some y.id → newest.id ≢ o.top.id) x.0 parts.waiting unwaited x.1
          x.2.1 x.2.2 x.2.3 known.1 (sym known.0))

      sums : words_of parts ≡ o.top.words + (total thread_words o.under + words_beside s run m lawful parts shows worker o)
          → total thread_words o.under ≡ 0
          → total deque_words (o.left ++ o.right) ≡ total deque_words o.left + total deque_words o.right
          → result.words + words_at s.list place ≡ o.top.words
          → total deque_words (o.left ++ o.right) + (total thread_words parts.waiting + (result.words + total result_words parts.results)) + words_at s.list place ≡ words_of parts
      sums was none is words = omega (arith, was, none, is, words)

  pub wakes : (before later : List Thread) (parent : Thread) (newest : Child) (older : List Child) (periods : List Period) → o.under ≡ []
      → parts.waiting ≡ before ++ parent ∷ later → parent.children ≡ newest ∷ older → newest.id ≡ o.top.id
      → Notes s.quota s.list o place [] (Some worker) periods
      → Comes s m worker (does place) (record {
        deques = events.deques_with o (Some worker) (parent ∷ []);
        waiting = before ++ later;
        results = result ∷ parts.results;
        periods = periods;
      })
  unfolding AreLeft words_beside
  wakes before later parent newest older periods under_is waiting_is children_are newest_is n =
      shows_end s run m lawful parts shows worker o place is_next (Some worker) periods n result left_by (events.deques_with o (Some worker) (parent ∷ [])) (before ++ later) _ (cut.0 ++ cut.1) left
      (ends_and_wakes (own s run m lawful parts shows worker o) place cut.0 cut.1 w.0 (at_top s run m lawful parts shows worker o place ends is_next) (ap (map label_of) under_is) cut.2 child_is)
      (ap (λ t. map deque_shown o.left ++ record { id = o.id; owner = Some worker; threads = t ∷ [] } ∷ map deque_shown o.right) w.2.0
      ∙ sym (shown_middle o.left o.right (record { id = o.id; owner = Some worker; threads = parent ∷ [] })))
      waits_are waiting_are
      (subst Differ (sym (map-append label_of before later)) (differ_without (map label_of before) parent.label (map label_of later) labels_differ))
      (let was = words_were s run m lawful parts shows worker o in
      let none = ap (total thread_words) under_is in
      let is = deque_words_middle o.left o.right (record { id = o.id; owner = Some worker; threads = parent ∷ [] }) in
      let all = ap (total thread_words) waiting_is in
      let a = total_middle thread_words before parent later in
      let b = total_append thread_words before later in
      let words = left_by.words in sums was none is all a b words)
    where
      parent_there : Among parent parts.waiting
      parent_there = subst (Among parent) (sym waiting_is) (among_here parent before later)

      w : (w : Waiting) × Among w m.waiting × IsWaiting parent w
      w = each_among (λ x. (v : Waiting) × Among v m.waiting × IsWaiting x v) parent parts.waiting shows.waits parent_there

      cut : (a b : List Waiting) × (m.waiting ≡ a ++ w.0 ∷ b)
      cut = cut_among w.0 m.waiting w.1

      same_newest : (c d : Child) (cs ds : List Child) → c ∷ cs ≡ d ∷ ds → c.ordinal ≡ d.ordinal
      same_newest c d cs ds same = ap (λ t. Child.ordinal t) (same_front c d cs ds same)

      child_is : o.top.label ≡ fork_of w.0.thread w.0.child
      child_is =
          let stands = subst (Each (ChildStands s.list (done_at m) parts parent.id parent.label)) children_are (shows.threads parent (inr parent_there)).children in
          let label : o.top.label ≡ fork_of parent.label newest.ordinal = one_label s.quota s.list parts.periods m.books o.top.id o.top.label (fork_of parent.label newest.ordinal) shows.books
          (top_stands s run m lawful parts shows worker o).labelled (subst (λ i. HasLabel parts.periods i (fork_of parent.label newest.ordinal)) newest_is stands.0.labelled) in
          label ∙ ap (λ t. fork_of t newest.ordinal) (sym w.2.0)
          ∙ ap (fork_of w.0.thread) (same_newest newest w.2.1 older w.2.2 (sym children_are ∙ w.2.3) ∙ sym w.2.4)

      labels_differ : Differ (map label_of before ++ parent.label ∷ map label_of later)
      labels_differ = subst Differ (ap (map label_of) waiting_is ∙ map-append label_of before (parent ∷ later)) shows.wait_once

      is_left_over : (x : Thread) → Among x (before ++ later) → x.label ≢ parent.label
      is_left_over x there same = differ_at (map label_of before) parent.label (map label_of later) labels_differ
          (subst (λ t. Among t (map label_of before ++ map label_of later)) same
          (subst (Among x.label) (map-append label_of before later) (among_map label_of x (before ++ later) there)))

      wider : (x : Thread) → Among x (before ++ later) → Among x parts.waiting
      wider x there = subst (Among x) (sym waiting_is) (among_wider x before parent later there)

      waits_are : Each (λ x. (v : Waiting) × Among v (cut.0 ++ cut.1) × IsWaiting x v) (before ++ later)
      waits_are = each_from (λ x. (v : Waiting) × Among v (cut.0 ++ cut.1) × IsWaiting x v) (before ++ later) (λ x there.
          let v = each_among (λ y. (u : Waiting) × Among u m.waiting × IsWaiting y u) x parts.waiting shows.waits (wider x there) in
          elim (among_middle v.0 cut.0 w.0 cut.1 (subst (Among v.0) cut.2 v.1)) [
            | inl same ↦ absurd (is_left_over x there (sym v.2.0 ∙ ap (λ t. Waiting.thread t) same ∙ w.2.0))
            | inr beside ↦ (v.0, beside, v.2)
          ])

      threads_differ : Differ (waiting_threads cut.0 ++ w.0.thread ∷ waiting_threads cut.1)
      threads_differ = subst Differ (ap waiting_threads cut.2 ∙ waiting_append cut.0 (w.0 ∷ cut.1)) lawful.order.wait_once

      waiting_are : Each (λ v. (x : Thread) × Among x (before ++ later) × IsWaiting x v) (cut.0 ++ cut.1)
      waiting_are = each_from (λ v. (x : Thread) × Among x (before ++ later) × IsWaiting x v) (cut.0 ++ cut.1) (λ v there.
          let x = each_among (λ u. (y : Thread) × Among y parts.waiting × IsWaiting y u) v m.waiting shows.waiting (subst (Among v) (sym cut.2) (among_wider v cut.0 w.0 cut.1 there)) in
          elim (among_middle x.0 before parent later (subst (Among x.0) waiting_is x.1)) [
            | inl same ↦ absurd (differ_at (waiting_threads cut.0) w.0.thread (waiting_threads cut.1) threads_differ
                (subst (λ t. Among t (waiting_threads cut.0 ++ waiting_threads cut.1)) (x.2.0 ∙ ap (λ t. Thread.label t) same ∙ sym w.2.0)
                (subst (Among v.thread) (waiting_append cut.0 cut.1) (waits_among v (cut.0 ++ cut.1) there))))
            | inr beside ↦ (x.0, beside, x.2)
          ])

      left : AreLeft s run m lawful parts shows worker o place is_next (Some worker) periods n result left_by (events.deques_with o (Some worker) (parent ∷ [])) (before ++ later)
      left y there = elim there [
        | inl in_deque ↦ elim (by_deque y o.left o.right (record { id = o.id; owner = Some worker; threads = parent ∷ [] }) in_deque) [
          | inl here ↦ elim here [
            | inl is ↦ (waiting_differs s run m lawful parts shows worker o y (subst (λ t. Among t parts.waiting) (sym is) parent_there), inr (subst (λ t. Among t parts.waiting) (sym is) parent_there))
            | inr none ↦ absurd none
          ]
          | inr beside ↦ (beside_differs s run m lawful parts shows worker o y beside, beside_is_in s run m lawful parts shows worker o y beside)
        ]
        | inr waiting ↦ (waiting_differs s run m lawful parts shows worker o y (wider y waiting), inr (wider y waiting))
      ]

      sums : words_of parts ≡ o.top.words + (total thread_words o.under + words_beside s run m lawful parts shows worker o)
          → total thread_words o.under ≡ 0
          → total deque_words (o.left ++ record { id = o.id; owner = Some worker; threads = parent ∷ [] } ∷ o.right) ≡ total deque_words o.left + (parent.words + 0 + total deque_words o.right)
          → total thread_words parts.waiting ≡ total thread_words (before ++ parent ∷ later)
          → total thread_words (before ++ parent ∷ later) ≡ total thread_words before + (parent.words + total thread_words later)
          → total thread_words (before ++ later) ≡ total thread_words before + total thread_words later
          → result.words + words_at s.list place ≡ o.top.words
          → total deque_words (o.left ++ record { id = o.id; owner = Some worker; threads = parent ∷ [] } ∷ o.right) + (total thread_words (before ++ later) + (result.words + total result_words parts.results)) + words_at s.list place ≡ words_of parts
      sums was none is all a b words = omega (arith, was, none, is, all, a, b, words)
