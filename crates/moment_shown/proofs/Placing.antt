-- The worker's top thread and its next action: that it may come, and what is done behind it.
use Rattle.std.proofs.Common.{◌≡◌, ◌≢◌, ℕ, ◌+◌, ◌⊎◌, List, ◌∷◌, ◌++◌, map, inl, inr, refl, sym, ap, subst, ◌∙◌, arith}
use Rattle.std.proofs.lemmas.Int.{ints}
use Rattle.std.specs.Prelude.{Option, Some, ℤ, pos, ◌+ℤ◌}
use Rattle.open_periods.specs.Passed.ThreadId.{ThreadId}
use Rattle.open_periods.specs.Passed.Birth.{Birth}
use Rattle.open_periods.specs.Passed.LabelOrder.{fork_of}
use Rattle.open_periods.specs.Passed.Actions.{Deed, forks, ends}
use Rattle.open_periods.specs.Passed.DepthFirstListRuns.{IsDepthFirst}
use Rattle.open_periods.specs.Passed.Facts.{weight_at, IsDone, IsNext, HasDone}
use Rattle.open_periods.proofs.Passed.LiveLaws.{next_is_of_its_index}
use Rattle.deque_machine.specs.Lists.{Among, total, one_if_same}
use Rattle.deque_machine.specs.Books.{done_in, one_more}
use Rattle.deque_machine.proofs.Lists.{among_left, among_right, among_parts, among_here, each_among}
use Rattle.deque_machine.proofs.Keeping.{done_more}
use Rattle.deque_machine.specs.Moments.{Moment, Waiting, done_at, live_at, threads_in, waiting_threads}
use Rattle.deque_machine.specs.Machine.{Setting, Owns, IsAtTop, May, does, books_with}
use Rattle.deque_machine.specs.LawfulOrder.{IsLawful}
use Rattle.deque_machine.proofs.Labels.{stands_once}
use Rattle.deque_machine.proofs.Placed.{waits_among}
use Rattle.deque_machine.proofs.Reached.{event_writes}
use Rattle.open_periods.specs.Periods.{Period}
use Rattle.open_periods.specs.Names.{HasLabel, IsNamed, births_by}
use Rattle.open_periods.specs.Telling.{Tell}
use Rattle.open_periods.proofs.Labels.{one_label, labels_stay}
use Rattle.open_periods.proofs.Changes.{running_is_told}
use Rattle.moment_shown.specs.Parts.{Thread, Result, Deque, Parts, IsIn, IsKept, deque_shown, label_of, words_of, thread_words, deque_words, result_words}
use Rattle.moment_shown.specs.Standing.{ThreadStands, Shows, IsWaiting}
use Rattle.moment_shown.specs.Events.{Works, IsNextOf, name_of, Notes}
use Rattle.moment_shown.proofs.Facts.{Behind, Alike}
use Rattle.moment_shown.proofs.Shown.{book_of_it, deques_shown, owns, InDeques, in_here, in_wider, label_in, among_map, threads_middle, deque_words_middle}

module _ (s : Setting) (run : IsDepthFirst s.quota s.list) (m : Moment) (lawful : IsLawful s m) (parts : Parts) (shows : Shows s.quota s.list parts m) (worker : ℕ) (o : Works parts worker) where
  abbrev pub own : Owns m worker
  own = owns s.quota s.list parts m shows worker o

  pub closed : IsDone s.list (done_at m)
  closed = lawful.periods.lawful.first_actions

  pub top_is_in : IsIn o.top parts
  top_is_in = inl (
    record { id = o.id; owner = Some worker; threads = o.top ∷ o.under },
    subst (Among (record { id = o.id; owner = Some worker; threads = o.top ∷ o.under })) (sym o.deques_are)
        (among_here (record { id = o.id; owner = Some worker; threads = o.top ∷ o.under }) o.left o.right),
    inl refl,
  )

  pub top_stands : ThreadStands s.list (done_at m) parts o.top
  top_stands = shows.threads o.top top_is_in

  -- the labels of all that stand in deques, with the top one in the middle
  labels_are : threads_in m.deques ≡ threads_in (map deque_shown o.left) ++ o.top.label ∷ (map label_of o.under ++ threads_in (map deque_shown o.right))
  labels_are = ap threads_in (deques_shown s.quota s.list parts m shows worker o)
      ∙ threads_middle (map deque_shown o.left) (map deque_shown o.right) (record { id = o.id; owner = Some worker; threads = label_of o.top ∷ map label_of o.under })

  once : ¬ Among o.top.label (threads_in (map deque_shown o.left) ++ (map label_of o.under ++ threads_in (map deque_shown o.right)))
  once = stands_once (threads_in (map deque_shown o.left)) o.top.label (map label_of o.under ++ threads_in (map deque_shown o.right))
      (subst Rattle.deque_machine.specs.Moments.Rises labels_are lawful.order.rises)

  -- whoever else is in the parts has another label
  pub under_differs : (x : Thread) → Among x o.under → x.label ≢ o.top.label
  under_differs x there same = once (among_right o.top.label (threads_in (map deque_shown o.left)) (map label_of o.under ++ threads_in (map deque_shown o.right))
      (among_left o.top.label (map label_of o.under) (threads_in (map deque_shown o.right))
      (subst (λ t. Among t (map label_of o.under)) same (among_map label_of x o.under there))))

  pub beside_differs : (x : Thread) → InDeques x (o.left ++ o.right) → x.label ≢ o.top.label
  beside_differs x there same = elim (among_parts there.0 o.left o.right there.1) [
    | inl left ↦ once (among_left o.top.label (threads_in (map deque_shown o.left)) (map label_of o.under ++ threads_in (map deque_shown o.right))
        (subst (λ t. Among t (threads_in (map deque_shown o.left))) same (label_in x o.left (there.0, left, there.2))))
    | inr right ↦ once (among_right o.top.label (threads_in (map deque_shown o.left)) (map label_of o.under ++ threads_in (map deque_shown o.right))
        (among_right o.top.label (map label_of o.under) (threads_in (map deque_shown o.right))
        (subst (λ t. Among t (threads_in (map deque_shown o.right))) same (label_in x o.right (there.0, right, there.2)))))
  ]

  pub waiting_differs : (x : Thread) → Among x parts.waiting → x.label ≢ o.top.label
  waiting_differs x there same =
      let w = each_among (λ y. (w : Waiting) × Among w m.waiting × IsWaiting y w) x parts.waiting shows.waits there in
      let apart : ¬ Among w.0.thread (threads_in m.deques) =
      each_among (λ thread. ¬ Among thread (threads_in m.deques)) w.0.thread (waiting_threads m.waiting) lawful.order.apart (waits_among w.0 m.waiting w.1) in
      apart (subst (λ t. Among t (threads_in m.deques)) (sym (w.2.0 ∙ same)) (subst (Among o.top.label) (sym labels_are)
      (among_here o.top.label (threads_in (map deque_shown o.left)) (map label_of o.under ++ threads_in (map deque_shown o.right)))))

  -- they are in the parts
  pub under_is_in : (x : Thread) → Among x o.under → IsIn x parts
  under_is_in x there = inl (subst (InDeques x) (sym o.deques_are)
      (in_here x o.left o.right (record { id = o.id; owner = Some worker; threads = o.top ∷ o.under }) (inr there)))

  pub beside_is_in : (x : Thread) → InDeques x (o.left ++ o.right) → IsIn x parts
  beside_is_in x there = inl (subst (InDeques x) (sym o.deques_are)
      (in_wider x o.left o.right (record { id = o.id; owner = Some worker; threads = o.top ∷ o.under }) there))

  -- the words of all but the top thread, and of the parts with other threads in the worker's deque
  unfoldable pub words_beside : ℕ
  words_beside = (total deque_words o.left + total deque_words o.right) + (total thread_words parts.waiting + total result_words parts.results)

  pub words_were : words_of parts ≡ o.top.words + (total thread_words o.under + words_beside)
  unfolding words_beside
  words_were =
      let a = ap (total deque_words) o.deques_are in
      let b = deque_words_middle o.left o.right (record { id = o.id; owner = Some worker; threads = o.top ∷ o.under }) in omega (arith, a, b)

  pub words_now : (owner : Option ℕ) (threads : List Thread) (periods : List Period)
      → words_of (record parts { deques = o.left ++ record { id = o.id; owner = owner; threads = threads } ∷ o.right; periods = periods }) ≡ total thread_words threads + words_beside
  unfolding words_beside
  words_now owner threads periods =
      let b = deque_words_middle o.left o.right (record { id = o.id; owner = owner; threads = threads }) in omega (arith, b)

  module _ (place : ℕ) (deed : Deed) (is_next : IsNextOf s.list o.top place deed) where
    pub next_at_top : IsNext s.list (done_at m) o.top.label place
    next_at_top = (next_is_of_its_index s.quota s.list run (done_at m) closed o.top.label place is_next.inside is_next.by).1
        (subst (HasDone s.list (done_at m) o.top.label) (sym is_next.index) top_stands.has_done)

    pub at_top : IsAtTop s m own.top place deed
    at_top = record { next = next_at_top; deed_is = is_next.does }

    pub named : IsNamed s.list parts.periods (name_of o.top) place
    named = record {
      inside = is_next.inside;
      by = subst (HasLabel parts.periods o.top.id) (sym is_next.by) top_stands.labelled;
      index = is_next.index;
    }

    pub one_done : (owner : Option ℕ) (i : ℕ) → done_in (books_with own owner place) i ≡ done_at m i + one_if_same i place
    one_done owner i = done_more own.older own.newer own.book owner place i ∙ ap (λ bs. done_in bs i + one_if_same i place) (sym own.books_are)

    module _ (births : List Birth) (owner : Option ℕ) (periods : List Period) (n : Notes s.quota s.list o place births owner periods) where
      pub told : births ≡ births_by (Thread.id o.top) deed → Tell s.quota s.list periods (books_with own owner place)
      told births_are =
          let book = book_of_it s.quota s.list parts m shows worker o in
          subst (λ w. Tell s.quota s.list periods (one_more own.older own.book own.newer w place)) n.owner_is (
          running_is_told s.quota s.list parts.periods periods own.older own.newer own.book o.period n.after (name_of o.top) place
          (subst (Tell s.quota s.list parts.periods) own.books_are shows.books) n.replaces book.numbered (record {
            same_ahead = n.same_ahead;
            was_open = (worker, o.open_for_it);
            ran = n.ran;
            births = n.born ∙ ap (λ t. o.period.born ++ t) (births_are ∙ ap (births_by (Thread.id o.top)) (sym is_next.does));
            named = named;
            used = n.used;
          })
          )

      pub label_stays : (id : ThreadId) (label : List ℕ) → HasLabel parts.periods id label → HasLabel periods id label
      label_stays id label has = labels_stay s.quota s.list parts.periods periods m.books o.period n.after births id label shows.books n.replaces n.born has

      pub behind : (deques : List Deque) (waiting : List Thread) (results : List Result)
          → ((y : Thread) → IsIn y (record { deques = deques; waiting = waiting; results = results; periods = periods }) → ((z : Thread) × IsIn z parts × Alike z y) ⊎ ((c : ℕ) × (y.label ≡ fork_of o.top.label c) × (deed ≡ forks c)))
          → ((r : Result) → Among r results → Among r parts.results ⊎ ((r.id ≡ o.top.id) × (r.label ≡ o.top.label) × (r.func ≡ o.top.func) × (deed ≡ ends)))
          → ((id : ThreadId) → IsKept parts.results id → IsKept results id)
          → (deed ≡ ends → IsKept results o.top.id)
          → Behind s.list parts (record { deques = deques; waiting = waiting; results = results; periods = periods }) (done_at m) (done_in (books_with own owner place)) o.top place
      behind deques waiting results threads_are results_are kept keeps_end = record {
        more = one_done owner;
        inside = is_next.inside;
        by = is_next.by;
        index = is_next.index;
        missing = next_at_top.missing;
        is_in = top_is_in;
        stands = top_stands;
        one_name = λ id a b x y. one_label s.quota s.list parts.periods m.books id a b shows.books x y;
        stays = label_stays;
        threads = λ y there. elim (threads_are y there) [
          | inl old ↦ inl old
          | inr new ↦ inr (new.0, new.1, is_next.does ∙ new.2)
        ];
        results = λ r there. elim (results_are r there) [
          | inl old ↦ inl old
          | inr new ↦ inr (new.0, new.1, new.2, is_next.does ∙ new.3)
        ];
        kept = kept;
        keeps_end = λ is. keeps_end (sym is_next.does ∙ is);
      }

    -- the words behind an event that does this action
    pub words_behind : (after : Moment) → May s m worker (does place) after → (before now : ℕ) → live_at s.list m ≡ pos before
        → pos now ≡ pos before +ℤ weight_at s.list place → live_at s.list after ≡ pos now
    words_behind after may before now was is =
        sums (live_at s.list after) (live_at s.list m) (weight_at s.list place) (pos before) (pos now) (event_writes s m worker (does place) after may).live was is
      where
        sums : (a b w x y : ℤ) → a ≡ b +ℤ (w +ℤ pos 0) → b ≡ x → y ≡ x +ℤ w → a ≡ y
        sums a b w x y p q r = omega (arith, ints, p, q, r)
