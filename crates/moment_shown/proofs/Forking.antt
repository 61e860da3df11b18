-- A Fork: the child stands on top, and its parent has one child more.
use Rattle.std.proofs.Common.{◌≡◌, ◌≢◌, ℕ, ◌+◌, ◌<◌, ◌≤◌, List, [], ◌∷◌, ◌++◌, length, map, inl, inr, refl, sym, ap, subst, ◌∙◌, arith, append-nil, true≢false}
use Rattle.std.proofs.lemmas.Int.{ints}
use Rattle.std.proofs.lemmas.Bool.{cases_lt}
use Rattle.std.specs.Prelude.{Option, Some, false, ℤ, pos, ◌+ℤ◌}
use Rattle.open_periods.specs.Passed.Birth.{Birth}
use Rattle.open_periods.specs.Passed.LabelOrder.{fork_of}
use Rattle.open_periods.specs.Passed.Actions.{forks, record_words}
use Rattle.open_periods.specs.Passed.DepthFirstListRuns.{IsDepthFirst}
use Rattle.open_periods.specs.Passed.Facts.{label_at, deed_at, weight_at, IsLive, HasDone, StemsFrom}
use Rattle.open_periods.proofs.Passed.Own.{one_fork}
use Rattle.open_periods.proofs.Passed.ThreadLaws.{fork_stands_before, forked_once}
use Rattle.open_periods.proofs.Passed.Weights.{forks_take_records}
use Rattle.open_periods.proofs.Passed.DepthFirstListWhole.{forks_do_not_end}
use Rattle.deque_machine.specs.Lists.{Among, Each, Differ, total}
use Rattle.deque_machine.specs.Books.{done_in}
use Rattle.deque_machine.proofs.Lists.{one_same, each_among}
use Rattle.deque_machine.specs.Moments.{Moment, Waiting, done_at, threads_in}
use Rattle.deque_machine.specs.Machine.{Setting, does, books_with, forks_child}
use Rattle.deque_machine.specs.LawfulOrder.{IsLawful, Waits}
use Rattle.deque_machine.proofs.Labels.{fork_is_longer}
use Rattle.open_periods.specs.Periods.{Period}
use Rattle.open_periods.specs.Names.{id_of, HasLabel}
use Rattle.open_periods.proofs.Labels.{forked_is_labelled}
use Rattle.moment_shown.specs.Parts.{Child, Thread, Result, Parts, IsIn, deque_shown, label_of, words_of, thread_words}
use Rattle.moment_shown.specs.Standing.{EndedIn, ChildStands, ThreadStands, Shows, IsWaiting, ordinal_of}
use Rattle.moment_shown.specs.Events.{Works, IsNextOf, HasActed, Notes}
use Rattle.moment_shown.specs.Laws.{Comes}
use Rattle.moment_shown.proofs.Facts.{Behind, Alike, alike_itself, acted_alike, other_behind, result_behind, top_has_done, own_children_behind, down, elsewhere, none_before, not_done_there, ended_before, as_alike}
use Rattle.moment_shown.proofs.Shown.{shown_middle, used_is, by_deque, label_in}
use Rattle.moment_shown.proofs.Placing.{own, closed, top_is_in, top_stands, under_differs, beside_differs, waiting_differs, under_is_in, beside_is_in, words_beside, words_were, words_now, next_at_top, at_top, told, behind, words_behind, one_done}

-- an element of a mapped list is of one of the list
pub among_mapped : {X Y : Type 0} (f : X → Y) (y : Y) (xs : List X) → Among y (map f xs) → (x : X) × Among x xs × (y ≡ f x)
among_mapped f y [] there = absurd there
among_mapped f y (x ∷ xs) there = elim there [
  | inl same ↦ (x, inl refl, same)
  | inr later ↦ let found = among_mapped f y xs later in (found.0, inr found.1, found.2)
]

module _ (s : Setting) (run : IsDepthFirst s.quota s.list) (m : Moment) (lawful : IsLawful s m) (parts : Parts) (shows : Shows s.quota s.list parts m) where
  -- whoever is in the parts is live
  pub lives : (y : Thread) → IsIn y parts → IsLive s.list (done_at m) y.label
  lives y there = elim there [
    | inl in_deque ↦ each_among (IsLive s.list (done_at m)) y.label (threads_in m.deques) lawful.order.all_live
        (subst (λ ds. Among y.label (threads_in ds)) (sym shows.deques) (label_in y parts.deques in_deque))
    | inr waiting ↦
        let w = each_among (λ x. (w : Waiting) × Among w m.waiting × IsWaiting x w) y parts.waiting shows.waits waiting in
        subst (IsLive s.list (done_at m)) w.2.0 (Waits.live (each_among (Waits s.list (done_at m)) w.0 m.waiting lawful.order.waits w.1))
  ]

module _ (s : Setting) (run : IsDepthFirst s.quota s.list) (m : Moment) (lawful : IsLawful s m) (parts : Parts) (shows : Shows s.quota s.list parts m) (worker : ℕ) (o : Works parts worker)
    (place ordinal : ℕ) (is_next : IsNextOf s.list o.top place (forks ordinal)) where
  -- nothing is done of the child yet
  pub unborn : (i : ℕ) → i < length s.list → label_at s.list i ≡ fork_of o.top.label ordinal → 0 < done_at m i → ⊥
  unborn i inside label did =
      let f = fork_stands_before s.quota s.list run i ordinal o.top.label [] inside label in
      let stems : StemsFrom (fork_of (label_at s.list f.0) ordinal) (label_at s.list i) =
      ([], label ∙ ap (λ t. fork_of t ordinal) (sym f.2) ∙ sym (append-nil (fork_of (label_at s.list f.0) ordinal))) in
      let forked = (closed s run m lawful parts shows worker o).forked f.0 i ordinal f.1 inside f.3 stems did in
      let here : f.0 ≡ place = forked_once s.quota s.list run f.0 place ordinal (omega (arith, inside, f.1)) is_next.inside (f.2 ∙ sym is_next.by) f.3 is_next.does in
      let none = (next_at_top s run m lawful parts shows worker o place (forks ordinal) is_next).missing in
      let did_there : 0 < done_at m place = subst (λ n. 0 < done_at m n) here forked in absurd (omega (arith, none, did_there))

  -- and nobody in the parts has its label
  pub nobody : (y : Thread) → IsIn y parts → y.label ≡ fork_of o.top.label ordinal → ⊥
  nobody y there label =
      let live = lives s run m lawful parts shows y there in
      let stems : StemsFrom (fork_of (label_at s.list place) ordinal) y.label =
      ([], label ∙ ap (λ t. fork_of t ordinal) (sym is_next.by) ∙ sym (append-nil (fork_of (label_at s.list place) ordinal))) in
      let did = live.forked place ordinal is_next.inside is_next.does stems in
      let none = (next_at_top s run m lawful parts shows worker o place (forks ordinal) is_next).missing in absurd (omega (arith, none, did))

  module _ (func : Option ℕ) (new child : Thread) (periods : List Period) (acted : HasActed o.top new) (id_is : child.id ≡ id_of o.period (length o.period.born))
      (parent_is : child.parent ≡ Some o.top.id) (label_is : child.label ≡ fork_of o.top.label ordinal) (done_is : child.done ≡ 0) (func_is : child.func ≡ func) (no_children : child.children ≡ [])
      (children_are : new.children ≡ record { id = child.id; ordinal = ordinal; func = func; delivered = false } ∷ o.top.children)
      (n : Notes s.quota s.list o place (record { parent = o.top.id; ordinal = ordinal } ∷ []) (Some worker) periods) where
    abbrev pub next : Parts
    next = record parts { deques = o.left ++ record { id = o.id; owner = Some worker; threads = child ∷ new ∷ o.under } ∷ o.right; periods = periods }

    abbrev newborn : Child
    newborn = record { id = child.id; ordinal = ordinal; func = func; delivered = false }

    after : ℕ → ℕ
    after = done_in (books_with (own s run m lawful parts shows worker o) (Some worker) place)

    births : List Birth
    births = record { parent = o.top.id; ordinal = ordinal } ∷ []

    is_behind : Behind s.list parts next (done_at m) after o.top place
    unfolding after births
    is_behind = behind s run m lawful parts shows worker o place (forks ordinal) is_next births (Some worker) periods n next.deques parts.waiting parts.results
        (λ y there. elim there [
          | inl in_deque ↦ elim (by_deque y o.left o.right (record { id = o.id; owner = Some worker; threads = child ∷ new ∷ o.under }) in_deque) [
            | inl here ↦ elim here [
              | inl is ↦ inr (ordinal, ap (λ x. Thread.label x) is ∙ label_is, refl)
              | inr rest ↦ elim rest [
                | inl is ↦ inl (o.top, top_is_in s run m lawful parts shows worker o, subst (Alike o.top) (sym is) (acted_alike o.top new acted))
                | inr under ↦ inl (y, under_is_in s run m lawful parts shows worker o y under, alike_itself y)
              ]
            ]
            | inr beside ↦ inl (y, beside_is_in s run m lawful parts shows worker o y beside, alike_itself y)
          ]
          | inr waiting ↦ inl (y, inr waiting, alike_itself y)
        ])
        (λ r there. inl there) (λ id kept. kept) (λ end. absurd (forks_do_not_end ordinal end))

    -- whoever is in the parts behind the Fork is the child, its parent, or was there before
    by_who : (P : Thread → Type 0) → P child → P new → ((y : Thread) → y.label ≢ o.top.label → IsIn y parts → P y) → (y : Thread) → IsIn y next → P y
    by_who P of_child of_new of_other y there = elim there [
      | inl in_deque ↦ elim (by_deque y o.left o.right (record { id = o.id; owner = Some worker; threads = child ∷ new ∷ o.under }) in_deque) [
        | inl here ↦ elim here [
          | inl is ↦ subst P (sym is) of_child
          | inr rest ↦ elim rest [
            | inl is ↦ subst P (sym is) of_new
            | inr under ↦ of_other y (under_differs s run m lawful parts shows worker o y under) (under_is_in s run m lawful parts shows worker o y under)
          ]
        ]
        | inr beside ↦ of_other y (beside_differs s run m lawful parts shows worker o y beside) (beside_is_in s run m lawful parts shows worker o y beside)
      ]
      | inr waiting ↦ of_other y (waiting_differs s run m lawful parts shows worker o y waiting) (inr waiting)
    ]

    child_labelled : HasLabel periods child.id (fork_of o.top.label ordinal)
    child_labelled = subst (λ i. HasLabel periods i (fork_of o.top.label ordinal)) (sym id_is)
        (forked_is_labelled s.quota s.list parts.periods periods m.books o.period n.after (record { parent = o.top.id; ordinal = ordinal }) o.top.label shows.books n.replaces n.born
        (top_stands s run m lawful parts shows worker o).labelled)

    did_fork : 0 < after place
    unfolding after
    did_fork = let more = one_done s run m lawful parts shows worker o place (forks ordinal) is_next (Some worker) place in let one = one_same place place refl in omega (arith, more, one)

    not_ended : EndedIn s.list after (fork_of o.top.label ordinal) → ⊥
    not_ended ended = elim (ended_before s.quota s.list run parts next (done_at m) after o.top place is_behind (fork_of o.top.label ordinal) ended) [
      | inl before ↦ unborn before.0 before.1 before.2 before.4
      | inr now ↦ fork_is_longer o.top.label ordinal now.0
    ]

    newborn_stands : ChildStands s.list after next o.top.id o.top.label newborn
    newborn_stands = record {
      labelled = child_labelled;
      forked = (place, is_next.inside, is_next.by, is_next.does, did_fork);
      ended = λ ended. absurd (not_ended ended);
      delivered = λ given. absurd (true≢false (sym given));
      is_thread = by_who (λ y. y.label ≡ fork_of o.top.label ordinal → (y.id ≡ child.id) × (y.parent ≡ Some o.top.id) × (y.func ≡ func))
          (λ label. (refl, parent_is, func_is))
          (λ label. absurd (fork_is_longer o.top.label ordinal (sym label ∙ acted.same_label)))
          (λ y differs there label. absurd (nobody y there label));
      is_result = λ r there label. absurd (ended_result r there label);
    }
      where
        ended_result : (r : Result) → Among r parts.results → r.label ≡ fork_of o.top.label ordinal → ⊥
        ended_result r there label =
            let ended = subst (EndedIn s.list (done_at m)) label (shows.results r there).ended in unborn ended.0 ended.1 ended.2 ended.4

    new_one_differs : ¬ Among ordinal (map ordinal_of o.top.children)
    new_one_differs there =
        let found = among_mapped ordinal_of ordinal o.top.children there in
        let stands = each_among (ChildStands s.list (done_at m) parts o.top.id o.top.label) found.0 o.top.children (top_stands s run m lawful parts shows worker o).children found.1 in
        let f = stands.forked in
        let here : f.0 ≡ place = forked_once s.quota s.list run f.0 place ordinal f.1 is_next.inside (f.2 ∙ sym is_next.by) (f.3 ∙ ap forks (sym found.2)) is_next.does in
        not_done_there s.quota s.list run parts next (done_at m) after o.top place is_behind (subst (λ i. 0 < done_at m i) here f.4)

    parent_stands : ThreadStands s.list after next new
    parent_stands =
        let b = is_behind in
        as_alike s.list after next o.top new (acted_alike o.top new acted) (b.stays o.top.id o.top.label b.stands.labelled)
        (subst (λ d. HasDone s.list after o.top.label d) (sym acted.one_more) (top_has_done s.quota s.list run parts next (done_at m) after o.top place b))
        (subst (Each (ChildStands s.list after next o.top.id o.top.label)) (sym children_are)
        (newborn_stands, own_children_behind s.quota s.list run parts next (done_at m) after o.top place b o.top.children b.stands.children))
        (λ f other inside label forked did unjoined. subst (λ cs. (c : Child) × Among c cs × (c.ordinal ≡ other)) (sym children_are)
        (elim (down s.quota s.list run parts next (done_at m) after o.top place b f did) [
          | inl before ↦
              let found = b.stands.all_children f other inside label forked before
              (λ j j_in j_label j_deed. none_before s.quota s.list run parts next (done_at m) after o.top place b j (unjoined j j_in j_label j_deed)) in
              (found.0, inr found.1, found.2)
          | inr here ↦ (newborn, inl refl, one_fork ordinal other (sym is_next.does ∙ ap (deed_at s.list) (sym here) ∙ forked))
        ]))
        (subst (λ cs. Differ (map (λ c. Child.ordinal c) cs)) (sym children_are) (new_one_differs, b.stands.ordinals_differ))

    child_stands : ThreadStands s.list after next child
    child_stands = record {
      labelled = subst (HasLabel periods child.id) (sym label_is) child_labelled;
      has_done = record {
        those = λ i inside label few. absurd (omega (arith, few, done_is));
        no_more = λ i inside label many.
            elsewhere s.quota s.list run parts next (done_at m) after o.top place is_behind i
            (λ here. fork_is_longer o.top.label ordinal (sym label_is ∙ sym label ∙ ap (label_at s.list) here ∙ is_next.by))
            ∙ none i inside (label ∙ label_is);
      };
      children = subst (Each (ChildStands s.list after next child.id child.label)) (sym no_children) tt;
      all_children = λ f other inside label forked did unjoined. absurd (elim (down s.quota s.list run parts next (done_at m) after o.top place is_behind f did) [
        | inl before ↦ unborn f inside (label ∙ label_is) before
        | inr here ↦ fork_is_longer o.top.label ordinal (sym label_is ∙ sym label ∙ ap (label_at s.list) here ∙ is_next.by)
      ]);
      ordinals_differ = subst (λ cs. Differ (map (λ c. Child.ordinal c) cs)) (sym no_children) tt;
    }
      where
        none : (i : ℕ) → i < length s.list → label_at s.list i ≡ fork_of o.top.label ordinal → done_at m i ≡ 0
        none i inside label = elim (cases_lt 0 (done_at m i)) [ inl did ↦ absurd (unborn i inside label did) | inr nothing ↦ omega (arith, nothing) ]

    pub child_is_forked : o.period.used + record_words ≤ s.quota → new.words + child.words ≡ o.top.words + record_words → Comes s m worker (does place) next
    unfolding after births
    child_is_forked fits words =
        let event = forks_child (own s run m lawful parts shows worker o) place ordinal (at_top s run m lawful parts shows worker o place (forks ordinal) is_next)
        (subst (λ u. u + record_words ≤ s.quota) (used_is s.quota s.list parts m shows worker o) fits) in
        let was = words_were s run m lawful parts shows worker o in
        let is = words_now s run m lawful parts shows worker o (Some worker) (child ∷ new ∷ o.under) periods in
        let weighs = (forks_take_records s.quota s.list run place ordinal is_next.inside is_next.does).1 in (
          _,
          event,
          record {
            deques = ap (λ t. map deque_shown o.left ++ record { id = o.id; owner = Some worker; threads = t } ∷ map deque_shown o.right)
                (ap (λ t. t ∷ o.top.label ∷ map label_of o.under) (sym label_is) ∙ ap (λ t. child.label ∷ t ∷ map label_of o.under) (sym acted.same_label))
                ∙ sym (shown_middle o.left o.right (record { id = o.id; owner = Some worker; threads = child ∷ new ∷ o.under }));
            waits = shows.waits;
            waiting = shows.waiting;
            wait_once = shows.wait_once;
            books = told s run m lawful parts shows worker o place (forks ordinal) is_next births (Some worker) periods n refl;
            threads = by_who (ThreadStands s.list after next) child_stands parent_stands
                (λ y differs there. other_behind s.quota s.list run parts next (done_at m) after o.top place is_behind y differs (shows.threads y there));
            results = λ r there. result_behind s.quota s.list run parts next (done_at m) after o.top place is_behind r (shows.results r there);
            kept_once = shows.kept_once;
            words = words_behind s run m lawful parts shows worker o place (forks ordinal) is_next _ event (words_of parts) (words_of next) shows.words
                (grown (words_of parts) (words_of next) (total thread_words o.under + words_beside s run m lawful parts shows worker o) o.top.words new.words child.words record_words (weight_at s.list place) was
                (let rest = words_beside s run m lawful parts shows worker o in omega (arith, is)) words weighs);
          },
        )
      where
        grown : (before now rest top new child block : ℕ) (w : ℤ) → before ≡ top + rest → now ≡ child + (new + rest) → new + child ≡ top + block → w ≡ pos block → pos now ≡ pos before +ℤ w
        grown before now rest top new child block w a b c d = omega (arith, ints, a, b, c, d)
