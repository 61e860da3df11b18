-- What holds at each moment that a run of a ready list reaches.
use Rattle.std.proofs.Common.{◌≡◌, ℕ, ◌*◌, ◌≤◌, ◌<◌, List, [], ◌∷◌, ◌++◌, length, map, inl, inr, refl, sym, ap, subst, ◌∙◌, arith, true, cond, ℤ, pos, ◌+ℤ◌, ◌≤ℤ◌, ◌<ℤ◌}
use Rattle.std.specs.Prelude.{filter}
use Rattle.std.specs.Int.{int_max}
use Rattle.std.proofs.lemmas.Bool.{cases_Bool}
use Rattle.std.proofs.lemmas.Int.{ints, clamps}
use Rattle.std.proofs.lemmas.Nat.{mul-le}
use Rattle.std.proofs.lemmas.List.{map-append}
use Rattle.depth_first_list.specs.Actions.{Action, live_words, peak, weight}
use Rattle.depth_first_list.specs.Runs.{IsDepthFirst}
use Rattle.depth_first_list.specs.Facts.{action_at, weight_at}
use Rattle.deque_machine.specs.Lists.{Each}
use Rattle.deque_machine.specs.Books.{words_in_use, IsPrefix, is_ahead, one_if_ahead, one_if_marked, periods_ahead, periods_marked, bound}
use Rattle.deque_machine.proofs.Lists.{total_below, each_map, each_join}
use Rattle.deque_machine.proofs.Parts.{live_append}
use Rattle.deque_machine.proofs.Keeping.{prefix_of, ended_has_all}
use Rattle.deque_machine.proofs.Accounting.{arena_law}
use Rattle.deque_machine.specs.Moments.{Moment, opening, done_at, live_at}
use Rattle.deque_machine.specs.Machine.{Setting, Event, steals, does, suspends, gives_up, May}
use Rattle.deque_machine.specs.LawfulOrder.{IsLawful}
use Rattle.deque_machine.specs.Runs.{Pair, place_of, places_of, is_move, moves, high_water_mark}
use Rattle.deque_machine.specs.Play.{words_taken}
use Rattle.deque_machine.proofs.Reached.{Writes, event_writes, place_inside, no_move_weighs_nothing, bound_at}
use Rattle.deque_machine.proofs.Sizes.{live_below_whole}
use Rattle.deque_machine.specs.Lists.{total}
use Rattle.ready_machine.specs.Entries.{IsReadyList}
use Rattle.ready_machine.specs.ReadyMachine.{MayReady, ReadyReaches}
use Rattle.ready_machine.specs.Laws.{EventsKeepReady, ReachedIsReady, BoundInReady, ReadyAheadIsMarked, ReadyMovesAreLive, ReadyMarkedBound, ReadyMarksNeverFall, ReadyArenaRefuses, ReadyEndedDidAll, ReadyArenaNeverFills}
use Rattle.ready_machine.proofs.Sharing.{IsBeside, beside, kept_ready, opening_is_ready}

pub ready_along : (s : Setting) → IsDepthFirst s.quota s.list → (run : List Pair) (first last : Moment) → IsReadyList s first
    → ReadyReaches s first run last → IsReadyList s last
ready_along s list [] first last ready reaches = subst (IsReadyList s) reaches ready
ready_along s list (pair ∷ later) first last ready reaches =
    ready_along s list later reaches.0 last (kept_ready s list first ready pair.worker pair.event reaches.0 reaches.1) reaches.2

-- what an event writes into the books is what the case of the machine beside it writes
pub ready_writes : (s : Setting) (m : Moment) → IsReadyList s m → (worker : ℕ) (event : Event) (after : Moment)
    → MayReady s m worker event after
    → Writes s.list m event after
ready_writes s m ready worker event after may =
    let b : IsBeside s m worker event after = beside s m ready worker event after may in
    let w : Writes s.list m event b.between = event_writes s m worker event b.between b.may in
    record {
      live = ap (words_in_use s.list) b.books_are ∙ w.live;
      marks = let same : periods_marked after.books ≡ periods_marked (b.between).books = ap periods_marked b.books_are in
          let marks = w.marks in omega (arith, same, marks);
    }

module _ (s : Setting) (list : IsDepthFirst s.quota s.list) where
  marks_grow : (run : List Pair) (first last : Moment) → IsReadyList s first → ReadyReaches s first run last
      → periods_marked first.books ≤ periods_marked last.books
  marks_grow [] first last ready reaches =
      let same : periods_marked first.books ≡ periods_marked last.books = ap (λ m. periods_marked m.books) reaches in omega arith
  marks_grow (pair ∷ later) first last ready reaches =
      let w : Writes s.list first pair.event reaches.0 = ready_writes s first ready pair.worker pair.event reaches.0 reaches.1 in
      let here = w.marks in
      let rest = marks_grow later reaches.0 last (kept_ready s list first ready pair.worker pair.event reaches.0 reaches.1) reaches.2 in
      omega (arith, here, rest)

  -- the places of a run are of the list
  places_inside : (run : List Pair) (first last : Moment) → IsReadyList s first → ReadyReaches s first run last
      → Each (λ i. i < length s.list) (places_of run)
  places_inside [] first last ready reaches = tt
  places_inside (pair ∷ later) first last ready reaches =
      let b : IsBeside s first pair.worker pair.event reaches.0 = beside s first ready pair.worker pair.event reaches.0 reaches.1 in
      each_join (λ i. i < length s.list) (place_of pair.event) (places_of later) (by_event pair.event b.may)
      (places_inside later reaches.0 last (kept_ready s list first ready pair.worker pair.event reaches.0 reaches.1) reaches.2)
    where
      by_event : (event : Event) {between : Moment} → May s first pair.worker event between → Each (λ i. i < length s.list) (place_of event)
      by_event (steals place id) may = tt
      by_event (does place) {between} may = (place_inside s first pair.worker place between may, tt)
      by_event suspends may = tt
      by_event gives_up may = tt

  -- the words in use rise by what the actions of a run weigh
  live_grows : (run : List Pair) (first last : Moment) → IsReadyList s first → ReadyReaches s first run last
      → live_at s.list last ≡ live_at s.list first +ℤ live_words (map (action_at s.list) (places_of run))
  live_grows [] first last ready reaches = ap (live_at s.list) (sym reaches) ∙ plus_none (live_at s.list first)
    where
      plus_none : (x : ℤ) → x ≡ x +ℤ pos 0
      plus_none x = omega (arith, ints)
  live_grows (pair ∷ later) first last ready reaches =
      let w : Writes s.list first pair.event reaches.0 = ready_writes s first ready pair.worker pair.event reaches.0 reaches.1 in
      let rest = live_grows later reaches.0 last (kept_ready s list first ready pair.worker pair.event reaches.0 reaches.1) reaches.2 in
      let here : List Action = map (action_at s.list) (place_of pair.event) in let further : List Action = map (action_at s.list)
      (places_of later) in
      let sum : live_words (map (action_at s.list) (place_of pair.event ++ places_of later)) ≡ live_words here +ℤ live_words further =
      ap live_words (map-append (action_at s.list) (place_of pair.event) (places_of later)) ∙ live_append here further in
      adds (live_at s.list last) (live_at s.list reaches.0) (live_at s.list first) (live_words here) (live_words further)
      (live_words (map (action_at s.list) (place_of pair.event ++ places_of later))) rest w.live sum
    where
      adds : (z y x a b c : ℤ) → z ≡ y +ℤ b → y ≡ x +ℤ a → c ≡ a +ℤ b → z ≡ x +ℤ c
      adds z y x a b c p q r = omega (arith, ints)

  -- What is no move weighs nothing. So the moves among some actions weigh what all of these weigh, and rise as high.
  moves_weigh_all : (xs : List ℕ) → Each (λ i. i < length s.list) xs
      → live_words (filter is_move (map (action_at s.list) xs)) ≡ live_words (map (action_at s.list) xs)
  moves_weigh_all [] all = refl
  moves_weigh_all (x ∷ xs) all =
      let rest = moves_weigh_all xs all.1 in
      let a : Action = action_at s.list x in
      let later : List Action = filter is_move (map (action_at s.list) xs) in
      elim (cases_Bool (is_move (action_at s.list x))) [
        | inl moved ↦ ap (λ b. live_words (cond b (a ∷ later) later)) moved ∙ ap (λ t. weight_at s.list x +ℤ t) rest
        | inr none ↦ ap (λ b. live_words (cond b (a ∷ later) later)) none
            ∙ drops (live_words later) (live_words (map (action_at s.list) xs)) (weight_at s.list x) rest
            (no_move_weighs_nothing s.quota s.list list x all.0 none)
      ]
    where
      drops : (x y w : ℤ) → x ≡ y → w ≡ pos 0 → x ≡ w +ℤ y
      drops x y w e none = omega (arith, ints)

  peak_is_high : (actions : List Action) → pos 0 ≤ℤ peak actions
  peak_is_high [] = omega (arith, ints)
  peak_is_high (a ∷ later) = high (weight a) (peak later)
    where
      high : (w h : ℤ) → pos 0 ≤ℤ int_max (pos 0) (w +ℤ h)
      high w h = omega (arith, ints, clamps)

  moves_rise_as_high : (xs : List ℕ) → Each (λ i. i < length s.list) xs
      → peak (filter is_move (map (action_at s.list) xs)) ≡ peak (map (action_at s.list) xs)
  moves_rise_as_high [] all = refl
  moves_rise_as_high (x ∷ xs) all =
      let rest = moves_rise_as_high xs all.1 in
      let a : Action = action_at s.list x in
      let later : List Action = filter is_move (map (action_at s.list) xs) in
      elim (cases_Bool (is_move (action_at s.list x))) [
        | inl moved ↦ ap (λ b. peak (cond b (a ∷ later) later)) moved ∙ ap (λ t. int_max (pos 0) (weight_at s.list x +ℤ t)) rest
        | inr none ↦ ap (λ b. peak (cond b (a ∷ later) later)) none
            ∙ drops (peak later) (peak (map (action_at s.list) xs)) (weight_at s.list x) rest
            (no_move_weighs_nothing s.quota s.list list x all.0 none) (peak_is_high (map (action_at s.list) xs))
      ]
    where
      drops : (x y w : ℤ) → x ≡ y → w ≡ pos 0 → pos 0 ≤ℤ y → x ≡ int_max (pos 0) (w +ℤ y)
      drops x y w e none high = omega (arith, ints, clamps)

  -- at one lawful moment: the periods ahead are marked, so the bound holds with the marked ones
  ahead_marked_at : (m : Moment) (n : ℕ) → IsLawful s m → IsPrefix s.list (done_at m) n → periods_ahead n m.books ≤ periods_marked m.books
  ahead_marked_at m n lawful prefix =
      total_below (one_if_ahead n) one_if_marked m.books
      (each_map (λ book. is_ahead n book ≡ true → book.ahead ≡ true) (λ book. one_if_ahead n book ≤ one_if_marked book) m.books
      (λ book among marked. elim (cases_Bool (is_ahead n book)) [
        | inl ahead ↦
            let a : one_if_ahead n book ≡ 1 = ap (λ b. cond b 1 0) ahead in
            let c : one_if_marked book ≡ 1 = ap (λ b. cond b 1 0) (marked ahead) in omega arith
        | inr none ↦ let a : one_if_ahead n book ≡ 0 = ap (λ b. cond b 1 0) none in omega arith
      ]) ((lawful.begun).ahead_marked n prefix))

bound_grows : (k : ℕ) (l : List Action) (a b : ℕ) → a ≤ b → bound k l a ≤ℤ bound k l b
bound_grows k l a b le = grows (peak l) (2 * k * a) (2 * k * b) (mul-le (2 * k) a (2 * k) b (omega arith) le)
  where
    grows : (top : ℤ) (x y : ℕ) → x ≤ y → (top +ℤ pos x) ≤ℤ (top +ℤ pos y)
    grows top x y le = omega (arith, ints)

trans : (x y z : ℤ) → x ≤ℤ y → y ≤ℤ z → x ≤ℤ z
trans x y z a b = omega (arith, ints)

module _ (s : Setting) (some : 0 < s.quota) (list : IsDepthFirst s.quota s.list) where
  marked_bound_at : (m : Moment) (marks : ℕ) → IsLawful s m → periods_marked m.books ≤ marks
      → live_at s.list m ≤ℤ bound s.quota s.list marks
  marked_bound_at m marks lawful most =
      let p = prefix_of s.list (done_at m) in
      let few = ahead_marked_at s list m p.0 lawful p.1 in
      trans (live_at s.list m) (bound s.quota s.list (periods_ahead p.0 m.books)) (bound s.quota s.list marks)
      (bound_at s some list m p.0 lawful p.1) (bound_grows s.quota s.list (periods_ahead p.0 m.books) marks (omega (arith, few, most)))

  -- how high the actions of a run rise from a moment on
  high_from : (run : List Pair) (first last : Moment) → IsReadyList s first → ReadyReaches s first run last
      → (live_at s.list first +ℤ peak (map (action_at s.list) (places_of run))) ≤ℤ bound s.quota s.list (periods_marked last.books)
  high_from [] first last ready reaches =
      none_more (live_at s.list first) (bound s.quota s.list (periods_marked last.books))
      (marked_bound_at first (periods_marked last.books) ready.lawful (marks_grow s list [] first last ready reaches))
    where
      none_more : (x y : ℤ) → x ≤ℤ y → (x +ℤ pos 0) ≤ℤ y
      none_more x y le = omega (arith, ints)
  high_from (pair ∷ later) first last ready reaches =
      let w : Writes s.list first pair.event reaches.0 = ready_writes s first ready pair.worker pair.event reaches.0 reaches.1 in
      by_event pair.event w.live
      (high_from later reaches.0 last (kept_ready s list first ready pair.worker pair.event reaches.0 reaches.1) reaches.2)
      (marked_bound_at first (periods_marked last.books) ready.lawful (marks_grow s list (pair ∷ later) first last ready reaches))
    where
      same : (x y h b : ℤ) → y ≡ x +ℤ pos 0 → (y +ℤ h) ≤ℤ b → (x +ℤ h) ≤ℤ b
      same x y h b e le = omega (arith, ints)

      higher : (x y w h b : ℤ) → y ≡ x +ℤ (w +ℤ pos 0) → (y +ℤ h) ≤ℤ b → x ≤ℤ b → (x +ℤ int_max (pos 0) (w +ℤ h)) ≤ℤ b
      higher x y w h b e le low = omega (arith, ints, clamps)

      by_event : (event : Event) → live_at s.list reaches.0 ≡ live_at s.list first +ℤ live_words (map (action_at s.list) (place_of event))
          → (live_at s.list reaches.0 +ℤ peak (map (action_at s.list) (places_of later))) ≤ℤ bound s.quota s.list
          (periods_marked last.books)
          → live_at s.list first ≤ℤ bound s.quota s.list (periods_marked last.books)
          → (live_at s.list first +ℤ peak (map (action_at s.list) (place_of event ++ places_of later))) ≤ℤ bound s.quota s.list
          (periods_marked last.books)
      by_event (steals place id) live rest low =
          same (live_at s.list first) (live_at s.list reaches.0) (peak (map (action_at s.list) (places_of later))) (bound s.quota s.list
          (periods_marked last.books)) live rest
      by_event suspends live rest low =
          same (live_at s.list first) (live_at s.list reaches.0) (peak (map (action_at s.list) (places_of later))) (bound s.quota s.list
          (periods_marked last.books)) live rest
      by_event gives_up live rest low =
          same (live_at s.list first) (live_at s.list reaches.0) (peak (map (action_at s.list) (places_of later))) (bound s.quota s.list
          (periods_marked last.books)) live rest
      by_event (does place) live rest low =
          higher (live_at s.list first) (live_at s.list reaches.0) (weight_at s.list place) (peak (map (action_at s.list)
          (places_of later)))
          (bound s.quota s.list (periods_marked last.books)) live rest low

  pub events_keep_ready : EventsKeepReady s
  events_keep_ready m after worker event ready may = kept_ready s list m ready worker event after may

  pub reached_is_ready : ReachedIsReady s
  reached_is_ready run m reaches = ready_along s list run opening m (opening_is_ready s list) reaches

  pub bound_in_ready : BoundInReady s
  bound_in_ready run m n reaches prefix = bound_at s some list m n (reached_is_ready run m reaches).lawful prefix

  pub ahead_is_marked : ReadyAheadIsMarked s
  ahead_is_marked run m n reaches prefix = ahead_marked_at s list m n (reached_is_ready run m reaches).lawful prefix

  pub moves_are_live : ReadyMovesAreLive s
  moves_are_live run m reaches =
      let all = live_grows s list run opening m (opening_is_ready s list) reaches in
      let inside = places_inside s list run opening m (opening_is_ready s list) reaches in
      let weigh = moves_weigh_all s list (places_of run) inside in
      from_nothing (live_at s.list m) (live_words (map (action_at s.list) (places_of run))) (live_words (moves s.list run)) all weigh
    where
      from_nothing : (x y z : ℤ) → x ≡ pos 0 +ℤ y → z ≡ y → z ≡ x
      from_nothing x y z e f = omega (arith, ints)

  pub marked_bound : ReadyMarkedBound s
  marked_bound run m reaches =
      let inside = places_inside s list run opening m (opening_is_ready s list) reaches in
      let high = moves_rise_as_high s list (places_of run) inside in
      from_nothing (high_water_mark s.list run) (peak (map (action_at s.list) (places_of run))) (bound s.quota s.list
      (periods_marked m.books)) high
      (high_from run opening m (opening_is_ready s list) reaches)
    where
      from_nothing : (z x y : ℤ) → z ≡ x → (pos 0 +ℤ x) ≤ℤ y → z ≤ℤ y
      from_nothing z x y e le = omega (arith, ints)

  pub marks_never_fall : ReadyMarksNeverFall s
  marks_never_fall run first last ready reaches = marks_grow s list run first last ready reaches

  pub arena_refuses : ReadyArenaRefuses s
  arena_refuses run m after worker place n periods capacity reaches may room refused prefix =
      let ready : IsReadyList s m = reached_is_ready run m reaches in
      let next : IsReadyList s after = kept_ready s list m ready worker (does place) after may in
      let w : Writes s.list m (does place) after = ready_writes s m ready worker (does place) after may in
      arena_law s.quota s.list some list after.books n periods ((next.lawful).periods).lawful prefix
      (above (bound s.quota s.list periods) (pos capacity) (live_at s.list m) (weight_at s.list place)
      (live_at s.list after) room refused w.live)
    where
      above : (b c x w y : ℤ) → b ≤ℤ c → c <ℤ (x +ℤ w) → y ≡ x +ℤ (w +ℤ pos 0) → b <ℤ y
      above b c x w y p q e = omega (arith, ints)

  pub ended_did_all : ReadyEndedDidAll s
  ended_did_all run m reaches has place inside =
      ended_has_all s.quota s.list list m.books has.0
      (((reached_is_ready run m reaches).lawful).periods).lawful has.1 has.2 has.3 has.4 place inside

  pub arena_never_fills : ReadyArenaNeverFills s
  arena_never_fills run m after worker place reaches may =
      let ready : IsReadyList s m = reached_is_ready run m reaches in
      let next : IsReadyList s after = kept_ready s list m ready worker (does place) after may in
      let w : Writes s.list m (does place) after = ready_writes s m ready worker (does place) after may in
      below (live_at s.list after) (live_at s.list m) (weight_at s.list place) (total words_taken s.list) w.live
      (live_below_whole s.quota s.list after.books ((next.lawful).periods).lawful)
    where
      below : (y x w : ℤ) (n : ℕ) → y ≡ x +ℤ (w +ℤ pos 0) → y ≤ℤ pos n → (x +ℤ w) ≤ℤ pos n
      below y x w n e le = omega (arith, ints)
