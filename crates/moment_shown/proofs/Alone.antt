-- Actions that leave the worker's deque with the same threads: Alloc, Release, Fault, Dummy and Join.
use Rattle.std.proofs.Common.{◌≡◌, ◌≢◌, ℕ, ◌+◌, ◌≤◌, List, [], ◌∷◌, ◌++◌, map, inl, inr, refl, sym, ap, subst, ◌∙◌, arith}
use Rattle.std.proofs.lemmas.Int.{ints}
use Rattle.std.specs.Prelude.{Option, None, Some, true, ℤ, pos, ◌+ℤ◌}
use Rattle.open_periods.specs.Passed.LabelOrder.{fork_of}
use Rattle.open_periods.specs.Passed.ThreadId.{ThreadId}
use Rattle.open_periods.specs.Passed.Actions.{Deed, forks, joins, allocates, releases, dummy, faults, ends}
use Rattle.open_periods.specs.Passed.DepthFirstListRuns.{IsDepthFirst}
use Rattle.open_periods.specs.Passed.Facts.{label_at, deed_at, words_at, weight_at}
use Rattle.open_periods.proofs.Passed.Weights.{dummies_are_weightless}
use Rattle.deque_machine.specs.Lists.{Among, Each, Differ, total}
use Rattle.deque_machine.specs.Books.{done_in}
use Rattle.deque_machine.proofs.Lists.{one_same}
use Rattle.deque_machine.specs.Moments as machine
use Rattle.deque_machine.specs.Moments.{Moment, done_at, live_at}
use Rattle.deque_machine.specs.Machine.{Setting, May, does, HasEnded, books_with, allocates_within, allocates_above, releases_words, meets_fault, runs_dummy, joins_child}
use Rattle.deque_machine.specs.LawfulOrder.{IsLawful}
use Rattle.deque_machine.proofs.KeptOrder.{own_alloc, own_release, own_fault, own_dummy, IsOwn}
use Rattle.deque_machine.proofs.LiveThreads.{join_is_no_end, join_is_no_fork}
use Rattle.open_periods.specs.Periods.{Period}
use Rattle.open_periods.specs.Names.{births_by}
use Rattle.moment_shown.specs.Parts.{Child, Thread, Parts, IsIn, deque_shown, label_of, words_of, thread_words}
use Rattle.moment_shown.specs.Standing.{ChildStands, HasAllChildren, ThreadStands, Shows}
use Rattle.moment_shown.specs.Events as events
use Rattle.moment_shown.specs.Events.{Works, IsNextOf, HasActed, Notes, MayDo}
use Rattle.moment_shown.specs.Laws.{Comes}
use Rattle.moment_shown.proofs.Facts.{Behind, Alike, alike_itself, acted_alike, other_behind, result_behind, top_has_done, own_children_behind, down, none_before, as_alike}
use Rattle.moment_shown.proofs.Shown.{shown_middle, deques_shown, used_is, by_deque}
use Rattle.moment_shown.proofs.Placing.{own, top_is_in, top_stands, under_differs, beside_differs, waiting_differs, under_is_in, beside_is_in, words_beside, words_were, words_now, at_top, told, behind, words_behind, one_done}
use Rattle.open_periods.specs.Passed.Facts.{HasDone as IsDoneBy}

-- who does not fork gives no birth
no_births : (by : ThreadId) (deed : Deed) → ((c : ℕ) → deed ≢ forks c) → [] ≡ births_by by deed
no_births by (forks child) none = absurd (none child refl)
no_births by (joins child) none = refl
no_births by allocates none = refl
no_births by releases none = refl
no_births by dummy none = refl
no_births by faults none = refl
no_births by ends none = refl

pub words_change : (before now top new rest : ℕ) (w : ℤ) → before ≡ top + rest → now ≡ new + rest → pos new ≡ pos top +ℤ w → pos now ≡ pos before +ℤ w
words_change before now top new rest w was is changes = omega (arith, ints, was, is, changes)

module _ (s : Setting) (run : IsDepthFirst s.quota s.list) (m : Moment) (lawful : IsLawful s m) (parts : Parts) (shows : Shows s.quota s.list parts m) (worker : ℕ) (o : Works parts worker)
    (place : ℕ) (deed : Deed) (is_next : IsNextOf s.list o.top place deed) (owner : Option ℕ) (periods : List Period) (n : Notes s.quota s.list o place [] owner periods)
    (new : Thread) (acted : HasActed o.top new) (no_fork : (c : ℕ) → deed ≢ forks c) (no_end : deed ≢ ends) where
  abbrev pub next : Parts
  next = record parts { deques = o.left ++ record { id = o.id; owner = owner; threads = new ∷ o.under } ∷ o.right; periods = periods }

  pub is_behind : Behind s.list parts next (done_at m) (done_in (books_with (own s run m lawful parts shows worker o) owner place)) o.top place
  is_behind = behind s run m lawful parts shows worker o place deed is_next [] owner periods n next.deques parts.waiting parts.results
      (λ y there. inl (elim there [
        | inl in_deque ↦ elim (by_deque y o.left o.right (record { id = o.id; owner = owner; threads = new ∷ o.under }) in_deque) [
          | inl here ↦ elim here [
            | inl is ↦ (o.top, top_is_in s run m lawful parts shows worker o, subst (Alike o.top) (sym is) (acted_alike o.top new acted))
            | inr under ↦ (y, under_is_in s run m lawful parts shows worker o y under, alike_itself y)
          ]
          | inr beside ↦ (y, beside_is_in s run m lawful parts shows worker o y beside, alike_itself y)
        ]
        | inr waiting ↦ (y, inr waiting, alike_itself y)
      ]))
      (λ r there. inl there) (λ id kept. kept) (λ end. absurd (no_end end))

  -- the thread that acted stands, where its children do
  pub new_stands : Each (ChildStands s.list (done_at m) parts o.top.id o.top.label) new.children
      → HasAllChildren s.list (done_in (books_with (own s run m lawful parts shows worker o) owner place)) o.top.label new.children
      → Differ (map (λ c. Child.ordinal c) new.children)
      → ThreadStands s.list (done_in (books_with (own s run m lawful parts shows worker o) owner place)) next new
  new_stands children all_children differ =
      let after = done_in (books_with (own s run m lawful parts shows worker o) owner place) in
      let b = is_behind in
      as_alike s.list after next o.top new (acted_alike o.top new acted) (b.stays o.top.id o.top.label b.stands.labelled)
      (subst (λ d. IsDoneBy s.list after o.top.label d) (sym acted.one_more) (top_has_done s.quota s.list run parts next (done_at m) after o.top place b))
      (own_children_behind s.quota s.list run parts next (done_at m) after o.top place b new.children children) all_children differ

  pub shows_next : (after : List machine.Deque) → after ≡ map deque_shown next.deques → live_at s.list (record { deques = after; waiting = m.waiting; books = books_with (own s run m lawful parts shows worker o) owner place }) ≡ pos (words_of next)
      → ThreadStands s.list (done_in (books_with (own s run m lawful parts shows worker o) owner place)) next new
      → Shows s.quota s.list next (record { deques = after; waiting = m.waiting; books = books_with (own s run m lawful parts shows worker o) owner place })
  shows_next after shown words stands =
      let now = done_in (books_with (own s run m lawful parts shows worker o) owner place) in
      record {
        deques = shown;
        waits = shows.waits;
        waiting = shows.waiting;
        wait_once = shows.wait_once;
        books = told s run m lawful parts shows worker o place deed is_next [] owner periods n (no_births o.top.id deed no_fork);
        threads = λ x there. elim there [
          | inl in_deque ↦ elim (by_deque x o.left o.right (record { id = o.id; owner = owner; threads = new ∷ o.under }) in_deque) [
            | inl here ↦ elim here [
              | inl is ↦ subst (ThreadStands s.list now next) (sym is) stands
              | inr under ↦ other x (under_differs s run m lawful parts shows worker o x under) (under_is_in s run m lawful parts shows worker o x under)
            ]
            | inr beside ↦ other x (beside_differs s run m lawful parts shows worker o x beside) (beside_is_in s run m lawful parts shows worker o x beside)
          ]
          | inr waiting ↦ other x (waiting_differs s run m lawful parts shows worker o x waiting) (inr waiting)
        ];
        results = λ r there. result_behind s.quota s.list run parts next (done_at m) now o.top place is_behind r (shows.results r there);
        kept_once = shows.kept_once;
        words = words;
      }
    where
      other : (x : Thread) → x.label ≢ o.top.label → IsIn x parts → ThreadStands s.list (done_in (books_with (own s run m lawful parts shows worker o) owner place)) next x
      other x differs there =
          other_behind s.quota s.list run parts next (done_at m) (done_in (books_with (own s run m lawful parts shows worker o) owner place)) o.top place is_behind x differs (shows.threads x there)

  -- the deques that are shown, with the owner that there is now
  pub now_shown : map deque_shown o.left ++ record { id = o.id; owner = owner; threads = o.top.label ∷ map label_of o.under } ∷ map deque_shown o.right ≡ map deque_shown next.deques
  now_shown = ap (λ t. map deque_shown o.left ++ record { id = o.id; owner = owner; threads = t ∷ map label_of o.under } ∷ map deque_shown o.right) (sym acted.same_label)
      ∙ sym (shown_middle o.left o.right (record { id = o.id; owner = owner; threads = new ∷ o.under }))

  -- all children stay where the action is no Join
  pub children_stay : ((c : ℕ) → deed ≢ joins c) → new.children ≡ o.top.children
      → ThreadStands s.list (done_in (books_with (own s run m lawful parts shows worker o) owner place)) next new
  children_stay no_join same =
      let b = is_behind in let after = done_in (books_with (own s run m lawful parts shows worker o) owner place) in
      new_stands (subst (Each (ChildStands s.list (done_at m) parts o.top.id o.top.label)) (sym same) b.stands.children)
      (λ f ordinal inside label forked did unjoined. elim (down s.quota s.list run parts next (done_at m) after o.top place b f did) [
        | inl before ↦ subst (λ cs. (child : Child) × Among child cs × (child.ordinal ≡ ordinal)) (sym same)
            (b.stands.all_children f ordinal inside label forked before
            (λ j j_in j_label j_deed. none_before s.quota s.list run parts next (done_at m) after o.top place b j (unjoined j j_in j_label j_deed)))
        | inr here ↦ absurd (no_fork ordinal (sym is_next.does ∙ ap (deed_at s.list) (sym here) ∙ forked))
      ])
      (subst (λ cs. Differ (map (λ c. Child.ordinal c) cs)) (sym same) b.stands.ordinals_differ)

  pub words_after : pos new.words ≡ pos o.top.words +ℤ weight_at s.list place → pos (words_of next) ≡ pos (words_of parts) +ℤ weight_at s.list place
  words_after changes =
      let was = words_were s run m lawful parts shows worker o in let is = words_now s run m lawful parts shows worker o owner (new ∷ o.under) periods in
      words_change (words_of parts) (words_of next) o.top.words new.words (total thread_words o.under + words_beside s run m lawful parts shows worker o) (weight_at s.list place) was
      (let rest = words_beside s run m lawful parts shows worker o in omega (arith, is)) changes

module _ (s : Setting) (run : IsDepthFirst s.quota s.list) (m : Moment) (lawful : IsLawful s m) (parts : Parts) (shows : Shows s.quota s.list parts m) (worker : ℕ) (o : Works parts worker) (place : ℕ) where
  -- which case of the machine an Alloc, a Release or a Fault is
  alone_may : (deed : Deed) (is_next : IsNextOf s.list o.top place deed) → MayDo s.quota o.period.used deed (words_at s.list place)
      → May s m worker (does place) (record { deques = m.deques; waiting = m.waiting; books = books_with (own s run m lawful parts shows worker o) (Some worker) place })
  alone_may (forks child) is_next may = absurd may
  alone_may (joins child) is_next may = absurd may
  alone_may allocates is_next may = elim may [
    | inl within ↦ allocates_within (own s run m lawful parts shows worker o) place (at_top s run m lawful parts shows worker o place allocates is_next) within.0
        (subst (λ u. u + words_at s.list place ≤ s.quota) (used_is s.quota s.list parts m shows worker o) within.1)
    | inr above ↦ allocates_above (own s run m lawful parts shows worker o) place (at_top s run m lawful parts shows worker o place allocates is_next) above
  ]
  alone_may releases is_next may = releases_words (own s run m lawful parts shows worker o) place (at_top s run m lawful parts shows worker o place releases is_next)
  alone_may dummy is_next may = absurd may
  alone_may faults is_next may = meets_fault (own s run m lawful parts shows worker o) place (at_top s run m lawful parts shows worker o place faults is_next)
  alone_may ends is_next may = absurd may

  alone_is_own : (deed : Deed) → MayDo s.quota o.period.used deed (words_at s.list place) → IsOwn deed
  alone_is_own (forks child) may = absurd may
  alone_is_own (joins child) may = absurd may
  alone_is_own allocates may = own_alloc
  alone_is_own releases may = own_release
  alone_is_own dummy may = absurd may
  alone_is_own faults may = own_fault
  alone_is_own ends may = absurd may

  pub alone : (deed : Deed) (new : Thread) (periods : List Period) (is_next : IsNextOf s.list o.top place deed) → MayDo s.quota o.period.used deed (words_at s.list place)
      → (acted : HasActed o.top new) → new.children ≡ o.top.children → pos new.words ≡ pos o.top.words +ℤ weight_at s.list place
      → Notes s.quota s.list o place [] (Some worker) periods
      → Comes s m worker (does place) (record parts { deques = events.deques_with o (Some worker) (new ∷ o.under); periods = periods })
  alone deed new periods is_next may acted same changes n =
      let is_own = alone_is_own deed may in
      let event = alone_may deed is_next may in
      let next_words = words_after s run m lawful parts shows worker o place deed is_next (Some worker) periods n new acted is_own.no_fork is_own.no_end changes in (
        record { deques = m.deques; waiting = m.waiting; books = books_with (own s run m lawful parts shows worker o) (Some worker) place },
        event,
        shows_next s run m lawful parts shows worker o place deed is_next (Some worker) periods n new acted is_own.no_fork is_own.no_end m.deques
            (deques_shown s.quota s.list parts m shows worker o ∙ now_shown s run m lawful parts shows worker o place deed is_next (Some worker) periods n new acted is_own.no_fork is_own.no_end)
            (words_behind s run m lawful parts shows worker o place deed is_next _ event (words_of parts) _ shows.words next_words)
            (children_stay s run m lawful parts shows worker o place deed is_next (Some worker) periods n new acted is_own.no_fork is_own.no_end is_own.no_join same),
      )

  pub dummy_runs : (new : Thread) (periods : List Period) (is_next : IsNextOf s.list o.top place dummy) → (acted : HasActed o.top new) → new.children ≡ o.top.children → new.words ≡ o.top.words
      → Notes s.quota s.list o place [] None periods
      → Comes s m worker (does place) (record parts { deques = events.deques_with o None (new ∷ o.under); periods = periods })
  dummy_runs new periods is_next acted same same_words n =
      let is_own = own_dummy in
      let event = runs_dummy (own s run m lawful parts shows worker o) place (at_top s run m lawful parts shows worker o place dummy is_next) in
      let none = (dummies_are_weightless s.quota s.list run place is_next.inside is_next.does).1 in
      let next_words = words_after s run m lawful parts shows worker o place dummy is_next None periods n new acted is_own.no_fork is_own.no_end
      (omega (arith, ints, same_words, none)) in (
        _,
        event,
        shows_next s run m lawful parts shows worker o place dummy is_next None periods n new acted is_own.no_fork is_own.no_end _
            (now_shown s run m lawful parts shows worker o place dummy is_next None periods n new acted is_own.no_fork is_own.no_end)
            (words_behind s run m lawful parts shows worker o place dummy is_next _ event (words_of parts) _ shows.words next_words)
            (children_stay s run m lawful parts shows worker o place dummy is_next None periods n new acted is_own.no_fork is_own.no_end is_own.no_join same),
      )

  -- children without the newest one, which is joined
  pub joins_the_newest : (newest : Child) (older : List Child) (new : Thread) (periods : List Period) → o.top.children ≡ newest ∷ older → newest.delivered ≡ true
      → (is_next : IsNextOf s.list o.top place (joins newest.ordinal)) (acted : HasActed o.top new) → new.children ≡ older
      → pos new.words ≡ pos o.top.words +ℤ weight_at s.list place → Notes s.quota s.list o place [] (Some worker) periods
      → Comes s m worker (does place) (record parts { deques = events.deques_with o (Some worker) (new ∷ o.under); periods = periods })
  joins_the_newest newest older new periods children_are given is_next acted are changes n =
      let no_fork : (c : ℕ) → joins newest.ordinal ≢ forks c = join_is_no_fork newest.ordinal in
      let no_end = join_is_no_end newest.ordinal in
      let stands = top_stands s run m lawful parts shows worker o in
      let all : Each (ChildStands s.list (done_at m) parts o.top.id o.top.label) (newest ∷ older) = subst (Each (ChildStands s.list (done_at m) parts o.top.id o.top.label)) children_are stands.children in
      let differ : Differ (map (λ c. Child.ordinal c) (newest ∷ older)) = subst (λ cs. Differ (map (λ c. Child.ordinal c) cs)) children_are stands.ordinals_differ in
      let ended : HasEnded s m (fork_of o.top.label newest.ordinal) = (all.0.delivered given).0 in
      let event = joins_child (own s run m lawful parts shows worker o) place newest.ordinal (at_top s run m lawful parts shows worker o place (joins newest.ordinal) is_next) ended in
      let next_words = words_after s run m lawful parts shows worker o place (joins newest.ordinal) is_next (Some worker) periods n new acted no_fork no_end changes in
      let b = is_behind s run m lawful parts shows worker o place (joins newest.ordinal) is_next (Some worker) periods n new acted no_fork no_end in
      let after = done_in (books_with (own s run m lawful parts shows worker o) (Some worker) place) in (
        _,
        event,
        shows_next s run m lawful parts shows worker o place (joins newest.ordinal) is_next (Some worker) periods n new acted no_fork no_end m.deques
            (deques_shown s.quota s.list parts m shows worker o ∙ now_shown s run m lawful parts shows worker o place (joins newest.ordinal) is_next (Some worker) periods n new acted no_fork no_end)
            (words_behind s run m lawful parts shows worker o place (joins newest.ordinal) is_next _ event (words_of parts) _ shows.words next_words)
            (new_stands s run m lawful parts shows worker o place (joins newest.ordinal) is_next (Some worker) periods n new acted no_fork no_end
            (subst (Each (ChildStands s.list (done_at m) parts o.top.id o.top.label)) (sym are) all.1)
            (λ f ordinal inside label forked did unjoined. elim (down s.quota s.list run parts _ (done_at m) after o.top place b f did) [
              | inl before ↦
                  let found = b.stands.all_children f ordinal inside label forked before
                  (λ j j_in j_label j_deed. none_before s.quota s.list run parts _ (done_at m) after o.top place b j (unjoined j j_in j_label j_deed)) in
                  subst (λ cs. (child : Child) × Among child cs × (child.ordinal ≡ ordinal)) (sym are)
                  (still found.0 (subst (Among found.0) children_are found.1) ordinal found.2
                  (λ same. let one = one_same place place refl in
                  let m_place = one_done s run m lawful parts shows worker o place (joins newest.ordinal) is_next (Some worker) place in
                  let none = unjoined place is_next.inside is_next.by (is_next.does ∙ ap joins same) in absurd (omega (arith, one, m_place, none))))
              | inr here ↦ absurd (no_fork ordinal (sym is_next.does ∙ ap (deed_at s.list) (sym here) ∙ forked))
            ])
            (subst (λ cs. Differ (map (λ c. Child.ordinal c) cs)) (sym are) differ.1)),
      )
    where
      -- a child that is not the joined one stands among the others
      still : (child : Child) → Among child (newest ∷ older) → (ordinal : ℕ) → child.ordinal ≡ ordinal → (newest.ordinal ≡ ordinal → ⊥)
          → (c : Child) × Among c older × (c.ordinal ≡ ordinal)
      still child there ordinal is other = elim there [
        | inl same ↦ absurd (other (ap (λ c. Child.ordinal c) (sym same) ∙ is))
        | inr older_one ↦ (child, older_one, is)
      ]
