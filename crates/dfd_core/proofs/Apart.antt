-- What is left of a core that is taken apart.
use Rattle.std.proofs.Common.{◌≡◌, ◌↔◌, ℕ, zero, suc, ◌<◌, reverse, List, [], ◌∷◌, ◌++◌, length, map, append-nil, inl, refl, sym, ap, subst, ◌∙◌, arith}
use Rattle.std.proofs.Math.Logic.{∥∥₁_elim, ∥∥₁_map}
use denote.Struct.Props.{props}
use Rattle.std.specs.Prelude.{Option, None, Some, IfSome, pos, slice_get}
use Rattle.std.proofs.lemmas.Int.{ints}
use Rattle.std.proofs.lemmas.List.{length-map, length-reverse, nil_from_length}
use Rattle.std.proofs.lemmas.Option.{none-some, same_Some}
use Rattle.dag_order.specs.Births.{root}
use Rattle.dag_order.specs.declared.finish.Finish.{Finish}
use Rattle.dag_order.specs.declared.thread_id.ThreadId.{ThreadId}
use Rattle.deque_list.specs.declared.deque_id.DequeId.{DequeId}
use Rattle.deque_list.specs.Deques.{Deque}
use Rattle.deque_list.specs.Ids.{deque_id}
use Rattle.depth_first_list.specs.Actions.{Action}
use Rattle.depth_first_list.specs.Facts.{label_at, index_at, HasDone}
use Rattle.depth_first_list.specs.Laws.{NoIndexIsSkipped}
use Rattle.depth_first_list.proofs.ThreadLaws.{root_ends, no_index_is_skipped}
use Rattle.depth_first_run.specs.States.{Setting}
use Rattle.depth_first_run.specs.Run.{list_of}
use Rattle.depth_first_run.proofs.Built.{whole_is_depth_first}
use Rattle.open_periods.specs.Passed.Moments as machine
use Rattle.open_periods.specs.Passed.Moments.{opening, done_at}
use Rattle.open_periods.specs.Passed.DequeMachineRuns.{Pair, moves}
use Rattle.open_periods.specs.Passed.Lists.{Among, Each, total}
use Rattle.open_periods.proofs.Passed.Lists.{middle_is_not_nil}
use Rattle.thread_frames.specs.Passed.Parts as parts
use Rattle.thread_frames.specs.Passed.Standing.{ChildStands, ThreadStands}
use Rattle.node_table.specs.Table.{Table}
use Rattle.open_periods.specs.Periods.{Period, closed_shown}
use Rattle.open_periods.specs.Telling.{Tell}
use Rattle.open_periods.specs.Names.{HasLabel, of_root, of_fork}
use Rattle.open_periods.specs.declared.seat.Seat.{Seat}
use Rattle.open_periods.specs.Numbers.{open_periods}
use Rattle.open_periods.specs.Tables.{periods_of, seat_in, seat_at}
use Rattle.space_ledger.specs.BooksList.{books_list}
use Rattle.space_ledger.specs.MovesList.{moves_list}
use Rattle.space_ledger.specs.declared.moves.Moves.{Moves}
use Rattle.scheduler_state.specs.Passed.Settings.{IsSettingOf}
use Rattle.thread_frames.specs.declared.ended.Ended.{Ended}
use Rattle.thread_frames.specs.declared.thread.Thread.{Thread}
use Rattle.thread_frames.specs.Points.{IsAtPoint}
use Rattle.thread_frames.specs.Views.{label_of, done_of, children_of, thread_words}
use Rattle.thread_frames.specs.Shown.{thread_shown, child_shown}
use Rattle.list_changes.specs.Shown.{deque_shown}
use Rattle.scheduler_state.specs.Held.{Held, parts_in}
use Rattle.scheduler_state.specs.Moments.{IsSound, CanGoOn, HasRun}
use Rattle.scheduler_state.specs.Passed.Moves.{AreMovesOf}
use Rattle.open_periods.specs.Passed.Terms.{Terms}
use Rattle.play_rules.specs.declared.ends.RunEnd.{RunEnd}
use Rattle.play_rules.specs.declared.ends.RunEnd.TheVariants.{Finished, Stopped}
use Rattle.dfd_core.specs.Parts.{root_behind, IsOfWholeRun, AreOfRun}
use Rattle.thread_frames.specs.Roots.{HasDoneNothing, IsRootAlone}
use Rattle.dfd_core.specs.Running.{IsAtMoment, IsSomewhere}
use Rattle.scheduler_state.proofs.Roots.{root_result, label_of_root, root_is_result}
use Rattle.dfd_core.proofs.Finished.{finished_keeps}

-- ---- at an end

IsStop : RunEnd → Type 0
IsStop (Finished finish) = ⊥
IsStop (Stopped stop) = Unit {0}

module _ (t : Table) (k : ℕ) (terms : Terms) (h : Held) (sound : IsSound t k terms h) (kept_end : Option RunEnd) (somewhere : IsSomewhere t k terms h kept_end) where
  -- a stopped run has no result of its root, and only a stopped one
  pub none_is_stop : (end : RunEnd) → kept_end ≡ Some end → (root_behind end (root_result h) ≡ None) ↔ ¬ ((finish : Finish) × (kept_end ≡ Some (Finished finish)))
  unfolding IsStop
  none_is_stop (Finished finish) is = (
    λ none _. finished_keeps t k terms h sound kept_end somewhere finish is none,
    λ unfinished. absurd (unfinished (finish, is)),
  )
  none_is_stop (Stopped stop) is = (
    λ none finished. subst IsStop (same_Some _ _ (sym is ∙ finished.1)) tt,
    λ unfinished. refl,
  )

  its_result : (kept : Option Ended) → root_result h ≡ kept → IfSome kept (IsOfWholeRun t k)
  its_result None is = tt
  its_result (Some ended) is = (
    root_is_result t k terms h sound ended is,
    ∥∥₁_elim sound.of_program (search props) (λ p. label_of_root t k terms h sound ended is p.0 p.1),
  )

  pub of_whole_run : (end : RunEnd) → IfSome (root_behind end (root_result h)) (IsOfWholeRun t k)
  of_whole_run (Finished finish) = its_result (root_result h) refl
  of_whole_run (Stopped stop) = tt

-- where no worker has a seat, no period is open
none_open : (worker : ℕ) (seats : List (Option Seat)) → ((n : ℕ) → seat_in (slice_get seats n) ≡ None) → open_periods worker seats ≡ []
none_open worker [] idle = refl
none_open worker (None ∷ seats) idle = none_open (suc worker) seats (λ n. idle (suc n))
none_open worker (Some seat ∷ seats) idle = absurd (none-some seat (sym (idle 0)))

-- so what is left is of the run
pub of_run : (c : Setting) (terms : Terms) (h : Held) (run : List Pair) (m : machine.Moment) (moved : Moves) → HasRun c terms h run m
    → h.moves ≡ moves_list moved → ((worker : ℕ) → seat_at h.table worker ≡ None) → AreOfRun c run m h.table.books moved
of_run c terms h run m moved at same idle =
    let all : periods_of h.table ≡ map closed_shown (books_list h.table.books) =
    ap (λ ps. map closed_shown (books_list h.table.books) ++ ps) (none_open 0 h.table.seats.items idle)
    ∙ append-nil (map closed_shown (books_list h.table.books)) in
    record {
      books_are = subst (λ ps. Tell c.quota (list_of c) ps m.books) all at.standing.shows.books;
      moves_are = subst (λ ps. AreMovesOf ps (moves_list moved) (moves (list_of c) run)) all
          (subst (λ ms. AreMovesOf (periods_of h.table) ms (moves (list_of c) run)) same at.standing.moves);
    }

-- ---- at the opening

-- who has no ordinals in his label is the root
no_label_is_root : (periods : List Period) (id : ThreadId) (label : List ℕ) → HasLabel periods id label → label ≡ [] → id ≡ root
no_label_is_root periods id label of_root is = refl
no_label_is_root periods id label (of_fork p nth birth parent there at has) is = absurd (middle_is_not_nil parent birth.ordinal [] is)

id_of_first : List machine.Deque → ℕ
id_of_first [] = 0
id_of_first (deque ∷ right) = deque.id

owner_of_first : List machine.Deque → Option ℕ
owner_of_first [] = None
owner_of_first (deque ∷ right) = deque.owner

threads_of_first : List machine.Deque → List (List ℕ)
threads_of_first [] = []
threads_of_first (deque ∷ right) = deque.threads

first_label : List (List ℕ) → List ℕ
first_label [] = []
first_label (label ∷ labels) = label

-- a list of one
alone : {X : Type 0} → (xs : List X) → length xs ≡ 1 → (x : X) × (xs ≡ x ∷ [])
alone [] one = absurd (omega (arith, one))
alone (x ∷ xs) one = (x, ap (λ t. x ∷ t) (nil_from_length xs (omega (arith, one))))

-- where nothing is done, the root counts nothing
counts_none : (c : Setting) (count : ℕ) → HasDone (list_of c) (done_at opening) [] count → count ≡ 0
counts_none c zero has = refl
counts_none c (suc n) has =
    let l = list_of c in
    let last = root_ends c.quota l (whole_is_depth_first c) in
    let inside : last.0 < length l = let size = last.1 in omega (arith, size) in
    by_index l last.0 inside last.2 (index_at l last.0) refl has (no_index_is_skipped c.quota l (whole_is_depth_first c))
  where
    by_index : (l : List Action) (e : ℕ) → e < length l → label_at l e ≡ [] → (i : ℕ) → index_at l e ≡ i → HasDone l (done_at opening) [] (suc n)
        → NoIndexIsSkipped l → suc n ≡ 0
    by_index l e inside label zero index has skipped = let did = has.those e inside label (omega (arith, index)) in absurd (omega (arith, did))
    by_index l e inside label (suc i) index has skipped =
        let f = skipped e 0 inside (omega (arith, index)) in
        let before = f.1 in let at = f.3 in
        let did = has.those f.0 (omega (arith, before, inside)) (f.2 ∙ label) (omega (arith, at)) in absurd (omega (arith, did))

module _ (t : Table) (k : ℕ) (terms : Terms) (h : Held) (sound : IsSound t k terms h) (points : CanGoOn t k h) (end : Option RunEnd)
    (fresh : (c : Setting) → IsSettingOf t k c → IsAtMoment t k terms h end c [] opening) where
  at_opening : {P : Type 0} → IsProp P → ((c : Setting) → HasRun c terms h [] opening → P) → P
  at_opening prop f = ∥∥₁_elim sound.of_program prop (λ p. f p.0 (fresh p.0 p.1).stands)

  pub one_deque : length h.deques ≡ 1
  one_deque = at_opening (search props) (λ c at.
      let same = ap length at.standing.shows.deques in
      let a = length-map (parts.Parts.deques (parts_in h)) parts.deque_shown in let b = length-map h.deques (deque_shown thread_shown) in omega (arith, same, a, b))

  pub first : (d : Deque Thread) × (h.deques ≡ d ∷ [])
  first = alone h.deques one_deque

  -- the deque of the opening
  shown_first : (c : Setting) → HasRun c terms h [] opening → opening.deques ≡ parts.deque_shown (deque_shown thread_shown first.0) ∷ []
  shown_first c at = at.standing.shows.deques ∙ ap (λ ds. map parts.deque_shown (map (deque_shown thread_shown) ds)) first.1

  pub no_owner : Deque.owner first.0 ≡ None
  unfolding owner_of_first
  no_owner = by_owner (Deque.owner first.0) refl
    where
      shown : (c : Setting) → HasRun c terms h [] opening → None ≡ Deque.owner first.0
      shown c at = ap owner_of_first (shown_first c at)

      by_owner : (owner : Option ℕ) → Deque.owner first.0 ≡ owner → Deque.owner first.0 ≡ None
      by_owner None is = is
      by_owner (Some w) is = absurd (at_opening (λ x y. absurd x) (λ c at. none-some w (shown c at ∙ is)))

  -- its id is the first one
  pub first_id : Deque.id first.0 ≡ deque_id 0
  unfolding id_of_first
  first_id = let same : DequeId.0 (Deque.id first.0) ≡ 0 = at_opening (search props) (λ c at. sym (ap id_of_first (shown_first c at))) in λ i. record { 0 = same i }

  labels : (c : Setting) → HasRun c terms h [] opening → [] ∷ [] ≡ map parts.label_of (map thread_shown (Deque.items first.0))
  unfolding threads_of_first
  labels c at = ap threads_of_first (shown_first c at)

  one_thread : length (Deque.items first.0) ≡ 1
  one_thread = at_opening (search props) (λ c at.
      let same = ap length (labels c at) in
      let a = length-map (map thread_shown (Deque.items first.0)) parts.label_of in let b = length-map (Deque.items first.0) thread_shown in omega (arith, same, a, b))

  pub root_alone : IsRootAlone t k (Deque.items first.0)
  unfolding first_label
  root_alone = (x, is, its_id, no_label, nothing_done, ∥∥₁_map points (λ p. (subst (Each (IsAtPoint t k)) is (subst AtPoints first.1 p.in_deques).0).0))
    where
      x : Thread
      x = (alone (Deque.items first.0) one_thread).0

      is : Deque.items first.0 ≡ x ∷ []
      is = (alone (Deque.items first.0) one_thread).1

      AtPoints : List (Deque Thread) → Type 0
      AtPoints ds = Each (λ d. Each (IsAtPoint t k) (Deque.items d)) ds

      no_label : label_of x ≡ []
      no_label = nil_from_length (label_of x) (at_opening (search props) (λ c at. sym (ap length (shown c at))))
        where
          shown : (c : Setting) → HasRun c terms h [] opening → [] ≡ label_of x
          shown c at = ap first_label (labels c at ∙ ap (λ xs. map parts.label_of (map thread_shown xs)) is)

      -- it stands in the parts, and so is what it says
      its_stand : (c : Setting) → HasRun c terms h [] opening → ThreadStands (list_of c) (done_at opening) (parts_in h) (thread_shown x)
      its_stand c at = at.standing.shows.threads (thread_shown x) (inl (
        deque_shown thread_shown first.0,
        subst (λ ds. Among (deque_shown thread_shown first.0) (map (deque_shown thread_shown) ds)) (sym first.1) (inl refl),
        subst (λ xs. Among (thread_shown x) (map thread_shown xs)) (sym is) (inl refl),
      ))

      shown_id : (c : Setting) → HasRun c terms h [] opening → Thread.id x ≡ root
      shown_id c at = no_label_is_root (periods_of h.table) (Thread.id x) (label_of x)
          (its_stand c at).labelled no_label

      none_done : (c : Setting) → HasRun c terms h [] opening → done_of x ≡ 0
      none_done c at = counts_none c (done_of x) (subst (λ l. HasDone (list_of c) (done_at opening) l (done_of x)) no_label (its_stand c at).has_done)

      no_child : (c : Setting) → HasRun c terms h [] opening → length (children_of x) ≡ 0
      no_child c at =
          let none : length (map child_shown (reverse (children_of x))) ≡ 0 = none_forked c (map child_shown (reverse (children_of x))) (its_stand c at).children in
          let a = length-map (reverse (children_of x)) child_shown in let b = length-reverse (children_of x) in omega (arith, none, a, b)
        where
          none_forked : (c : Setting) → (cs : List parts.Child) → Each (ChildStands (list_of c) (done_at opening) (parts_in h) (Thread.id x) (label_of x)) cs → length cs ≡ 0
          none_forked c [] all = refl
          none_forked c (child ∷ cs) all = let did = (all.0).forked.4 in absurd (omega (arith, did))

      no_words : (c : Setting) → HasRun c terms h [] opening → thread_words x ≡ 0
      no_words c at =
          let all : pos 0 ≡ pos (parts.words_of (parts_in h)) = at.standing.shows.words in
          let deques = ap (λ ds. total parts.deque_words (map (deque_shown thread_shown) ds)) first.1 in
          let threads = ap (λ xs. total parts.thread_words (map thread_shown xs)) is in
          let none : parts.words_of (parts_in h) ≡ 0 = zero_is (parts.words_of (parts_in h)) all in omega (arith, none, deques, threads)
        where
          zero_is : (n : ℕ) → pos 0 ≡ pos n → n ≡ 0
          zero_is n e = omega (arith, ints, e)

      nothing_done : HasDoneNothing x
      nothing_done = record {
        done = at_opening (search props) none_done;
        children = nil_from_length (children_of x) (at_opening (search props) no_child);
        words = at_opening (search props) no_words;
      }

      its_id : Thread.id x ≡ root
      its_id =
          let period = at_opening (search props) (λ c at. ap (λ (id : ThreadId). id.period) (shown_id c at)) in
          let nth = at_opening (search props) (λ c at. ap (λ (id : ThreadId). id.nth) (shown_id c at)) in
          λ i. record { period = period i; nth = nth i }

  pub none_live : h.live ≡ 0
  none_live = at_opening (search props) (λ c at. let none : pos h.live ≡ pos 0 = at.standing.live in omega (arith, ints, none))
