-- What is counted after one event more.
use Rattle.std.proofs.Common.{◌≡◌, ℕ, ◌+◌, ◌<◌, Bool, true, false, cond, List, [], ◌∷◌, ◌++◌, ◌⊎◌, length, map, get_or, set, inl, inr, refl, sym, ap, subst, ◌∙◌, arith, append-nil, append_assoc, length-append, ℤ, pos, ◌+ℤ◌, ◌≤ℤ◌}
use Rattle.std.specs.Prelude.{Option, filter}
use Rattle.std.specs.Int.{int_max}
use Rattle.std.proofs.lemmas.Bool.{cases_Bool, cases_eq}
use Rattle.std.proofs.lemmas.Int.{ints, clamps}
use Rattle.std.proofs.lemmas.List.{map-append}
use Rattle.depth_first_list.specs.Actions.{Action, live_words, peak, weight}
use Rattle.depth_first_list.specs.Runs.{IsDepthFirst}
use Rattle.depth_first_list.specs.Facts.{action_at, weight_at}
use Rattle.deque_machine.specs.Lists.{one_if_same, times}
use Rattle.deque_machine.specs.Books.{Book, booked, book_of, one_if_marked, periods_marked}
use Rattle.deque_machine.proofs.Lists.{total_append, one_cases}
use Rattle.deque_machine.proofs.Parts.{live_append}
use Rattle.deque_machine.proofs.Whole.{total_ones}
use Rattle.deque_machine.specs.Moments.{Moment, opening, done_at, live_at}
use Rattle.deque_machine.specs.Machine.{Setting, Event, steals, does, suspends, gives_up, new_book, May}
use Rattle.deque_machine.specs.Runs.{Pair, Reaches, place_of, places_of, is_move, moves, high_water_mark}
use Rattle.deque_machine.proofs.Reached.{event_writes, moves_are_live}
use Rattle.serial_journal.proofs.Items.{peak_more}
use Rattle.trail_check.specs.Following.{pair_of}
use Rattle.trail_check.proofs.Adding.{adds_to_books}
use Rattle.trail_check.proofs.GrowingLists.{get_set_here, get_set_other, length_set}
use Rattle.trail_check.specs.declared.tally.Tally.{Tally}
use Rattle.trail_check.specs.Tallies.{HasBegun, HasActed}
use Rattle.trail_check.specs.Counts.{TallyIs}

-- a run with one event more
pub reaches_more : (s : Setting) (run : List Pair) (pair : Pair) (first m next : Moment) → Reaches s first run m → May s m pair.worker pair.event next
    → Reaches s first (run ++ pair ∷ []) next
reaches_more s [] pair first m next reaches may = (next, subst (λ t. May s t pair.worker pair.event next) (sym reaches) may, refl)
reaches_more s (p ∷ run) pair first m next reaches may = (reaches.0, reaches.1, reaches_more s run pair reaches.0 m next reaches.2 may)

-- and its moves
filter_append : (xs ys : List Action) → filter is_move (xs ++ ys) ≡ filter is_move xs ++ filter is_move ys
filter_append [] ys = refl
filter_append (x ∷ xs) ys = ap (λ t. cond (is_move x) (x ∷ t) t) (filter_append xs ys) ∙ kept (is_move x) x (filter is_move xs) (filter is_move ys)
  where
    kept : (b : Bool) (x : Action) (xs ys : List Action) → cond b (x ∷ (xs ++ ys)) (xs ++ ys) ≡ cond b (x ∷ xs) xs ++ ys
    kept true x xs ys = refl
    kept false x xs ys = refl

places_more : (run : List Pair) (pair : Pair) → places_of (run ++ pair ∷ []) ≡ places_of run ++ place_of pair.event
places_more [] pair = append-nil (place_of pair.event)
places_more (p ∷ run) pair = ap (λ t. place_of p.event ++ t) (places_more run pair) ∙ sym (append_assoc (place_of p.event) (places_of run) (place_of pair.event))

moves_more : (l : List Action) (run : List Pair) (pair : Pair) → moves l (run ++ pair ∷ []) ≡ moves l run ++ filter is_move (map (action_at l) (place_of pair.event))
moves_more l run pair =
    ap (λ t. filter is_move (map (action_at l) t)) (places_more run pair) ∙ ap (filter is_move) (map-append (action_at l) (places_of run) (place_of pair.event))
    ∙ filter_append (map (action_at l) (places_of run)) (map (action_at l) (place_of pair.event))

live_below_peak : (xs : List Action) → live_words xs ≤ℤ peak xs
live_below_peak [] = omega (arith, ints)
live_below_peak (x ∷ xs) = one (weight x) (live_words xs) (peak xs) (live_below_peak xs)
  where
    one : (w a b : ℤ) → a ≤ℤ b → (w +ℤ a) ≤ℤ int_max (pos 0) (w +ℤ b)
    one w a b le = omega (arith, ints, clamps)

-- the peak with no move more, or one
peak_same : (xs : List Action) (live : ℤ) → live_words xs ≡ live → peak xs ≡ int_max (peak xs) live
peak_same xs live is = higher (peak xs) (live_words xs) live (live_below_peak xs) is
  where
    higher : (p a b : ℤ) → a ≤ℤ p → a ≡ b → p ≡ int_max p b
    higher p a b le same = omega (arith, ints, clamps)

peak_one : (xs : List Action) (a : Action) (live : ℤ) → live_words (xs ++ a ∷ []) ≡ live → peak (xs ++ a ∷ []) ≡ int_max (peak xs) live
peak_one xs a live is = peak_more xs a ∙ ap (int_max (peak xs)) (last (live_words (xs ++ a ∷ [])) (live_words xs) (weight a) live (live_append xs (a ∷ [])) is)
  where
    last : (t x w live : ℤ) → t ≡ x +ℤ (w +ℤ pos 0) → t ≡ live → x +ℤ w ≡ live
    last t x w live sum is = omega (arith, ints)

peak_with : (xs zs : List Action) (live : ℤ) → ((zs ≡ []) ⊎ ((a : Action) × (zs ≡ a ∷ []))) → live_words (xs ++ zs) ≡ live → peak (xs ++ zs) ≡ int_max (peak xs) live
peak_with xs zs live (inl none) is =
    ap (λ t. peak (xs ++ t)) none ∙ ap peak (append-nil xs)
    ∙ peak_same xs live (ap live_words (sym (append-nil xs)) ∙ ap (λ t. live_words (xs ++ t)) (sym none) ∙ is)
peak_with xs zs live (inr one) is =
    ap (λ t. peak (xs ++ t)) one.1 ∙ peak_one xs one.0 live (ap (λ t. live_words (xs ++ t)) (sym one.1) ∙ is)

at_most_one : (l : List Action) (event : Event)
    → (filter is_move (map (action_at l) (place_of event)) ≡ []) ⊎ ((a : Action) × (filter is_move (map (action_at l) (place_of event)) ≡ a ∷ []))
at_most_one l (steals place id) = inl refl
at_most_one l suspends = inl refl
at_most_one l gives_up = inl refl
at_most_one l (does place) = elim (cases_Bool (is_move (action_at l place))) [
  | inl moved ↦ inr (action_at l place, ap (λ b. cond b (action_at l place ∷ []) []) moved)
  | inr none ↦ inl (ap (λ b. cond b (action_at l place ∷ []) []) none)
]

module _ (s : Setting) (some : 0 < s.quota) (list : IsDepthFirst s.quota s.list) (run : List Pair) (m : Moment) (reaches : Reaches s opening run m) (worker : ℕ) (event : Event) (next : Moment)
    (may : May s m worker event next) where
  -- the high-water mark
  pub high_more : high_water_mark s.list (run ++ pair_of worker event ∷ []) ≡ int_max (high_water_mark s.list run) (live_at s.list next)
  high_more =
      let is = moves_are_live s some list (run ++ pair_of worker event ∷ []) next (reaches_more s run (pair_of worker event) opening m next reaches may) in
      let more = moves_more s.list run (pair_of worker event) in
      ap peak more ∙ peak_with (moves s.list run) (filter is_move (map (action_at s.list) (place_of event))) (live_at s.list next) (at_most_one s.list event) (ap live_words (sym more) ∙ is)

  -- what is done
  done_more_by : (i : ℕ) → done_at next i ≡ done_at m i + times i (place_of event)
  done_more_by i = adds_to_books s (one_if_same i) m worker event next may

  booked_more_by : length (booked next.books) ≡ length (booked m.books) + length (place_of event)
  booked_more_by =
      let sum = adds_to_books s (λ i. 1) m worker event next may in
      let a = total_ones (booked next.books) in let b = total_ones (booked m.books) in let c = total_ones (place_of event) in omega (arith, sum, a, b, c)

-- the books have as many periods, and as many marks
pub record SamePeriods (bs cs : List Book) : Type 0 where
  pub periods : length cs ≡ length bs
  pub marked : periods_marked cs ≡ periods_marked bs

pub one_book_changed : (xs older newer : List Book) (book : Book) (owner : Option ℕ) (ran : List ℕ) → xs ≡ older ++ book ∷ newer
    → SamePeriods xs (older ++ book_of book owner ran ∷ newer)
one_book_changed xs older newer book owner ran are = subst (λ t. SamePeriods t (older ++ book_of book owner ran ∷ newer)) (sym are) (record {
  periods = let a = length-append older (book ∷ newer) in let b = length-append older (book_of book owner ran ∷ newer) in omega (arith, a, b);
  marked = let a = total_append one_if_marked older (book ∷ newer) in let b = total_append one_if_marked older (book_of book owner ran ∷ newer) in omega (arith, a, b);
})

module _ (s : Setting) (some : 0 < s.quota) (list : IsDepthFirst s.quota s.list) (run : List Pair) (m : Moment) (reaches : Reaches s opening run m) (t u : Tally)
    (tally : TallyIs s run m t) (worker : ℕ) (next : Moment) where
  -- an action was counted
  pub action_counted : (place : ℕ) → May s m worker (does place) next → place < length s.list → SamePeriods m.books next.books → HasActed place (weight_at s.list place) t u
      → TallyIs s (run ++ pair_of worker (does place) ∷ []) next u
  action_counted place may inside same acted =
      let live : u.live ≡ live_at s.list next = acted.live ∙ lived t.live (weight_at s.list place) (live_at s.list m) (live_at s.list next) tally.live (event_writes s m worker (does place) next may).live in record {
        done_size = ap length acted.done ∙ length_set t.done.items true place ∙ tally.done_size;
        done_is = λ i i_in. (
          λ is. by_bit i i_in (cases_eq i place) is,
          λ did. by_done i i_in (cases_eq i place) did,
        );
        actions = let more = booked_more_by s some list run m reaches worker (does place) next may in let was = tally.actions in let now = acted.actions in omega (arith, more, was, now);
        live = live;
        numbers = record {
          periods = acted.periods ∙ (tally.numbers).periods ∙ sym same.periods;
          ahead = acted.ahead ∙ (tally.numbers).ahead ∙ sym same.marked;
          high = acted.high ∙ ap (λ z. int_max z u.live) (tally.numbers).high ∙ ap (int_max (high_water_mark s.list run)) live
              ∙ sym (high_more s some list run m reaches worker (does place) next may);
        };
      }
    where
      lived : (t w x y : ℤ) → t ≡ x → y ≡ x +ℤ (w +ℤ pos 0) → t +ℤ w ≡ y
      lived t w x y a b = omega (arith, ints)

      more_is : (i : ℕ) → done_at next i ≡ done_at m i + (one_if_same i place + 0)
      more_is i = done_more_by s some list run m reaches worker (does place) next may i

      by_bit : (i : ℕ) → i < length s.list → (i ≡ place) ⊎ (¬ (i ≡ place)) → get_or u.done.items i false ≡ true → 0 < done_at next i
      by_bit i i_in (inl here) is = let more = more_is i in elim (one_cases i place) [ inl yes_here ↦ let one = yes_here.1 in omega (arith, more, one) | inr apart ↦ absurd (apart.0 here) ]
      by_bit i i_in (inr other) is =
          let did : 0 < done_at m i = (tally.done_is i i_in).0 (sym (get_set_other t.done.items true false place i other) ∙ ap (λ b. get_or b i false) (sym acted.done) ∙ is) in
          let more = more_is i in omega (arith, more, did)

      by_done : (i : ℕ) → i < length s.list → (i ≡ place) ⊎ (¬ (i ≡ place)) → 0 < done_at next i → get_or u.done.items i false ≡ true
      by_done i i_in (inl here) did =
          ap (λ b. get_or b i false) acted.done ∙ ap (λ n. get_or (set t.done.items place true) n false) here
          ∙ get_set_here t.done.items true false place (let size = tally.done_size in omega (arith, size, inside))
      by_done i i_in (inr other) did =
          ap (λ b. get_or b i false) acted.done ∙ get_set_other t.done.items true false place i other
          ∙ (tally.done_is i i_in).1 (let more = more_is i in elim (one_cases i place) [ inl here ↦ absurd (other here.0) | inr apart ↦ let none = apart.1 in omega (arith, more, none, did) ])

  -- an event that is no action changes neither what is done nor the words in use
  module _ (event : Event) (may : May s m worker event next) (none : place_of event ≡ []) where
    same_done : (i : ℕ) → done_at next i ≡ done_at m i
    same_done i = let more = done_more_by s some list run m reaches worker event next may i in let zero_more : times i (place_of event) ≡ 0 = ap (times i) none in omega (arith, more, zero_more)

    pub same_done_at : (i : ℕ) → done_at next i ≡ done_at m i
    same_done_at i = same_done i

    same_live : live_at s.list next ≡ live_at s.list m
    same_live = plain (live_at s.list next) (live_at s.list m) (live_words (map (action_at s.list) (place_of event))) (event_writes s m worker event next may).live
        (ap (λ t. live_words (map (action_at s.list) t)) none)
      where
        plain : (x y z : ℤ) → x ≡ y +ℤ z → z ≡ pos 0 → x ≡ y
        plain x y z a b = omega (arith, ints)

    same_high : high_water_mark s.list (run ++ pair_of worker event ∷ []) ≡ high_water_mark s.list run
    same_high = ap peak (moves_more s.list run (pair_of worker event) ∙ ap (λ t. moves s.list run ++ filter is_move (map (action_at s.list) t)) none ∙ append-nil (moves s.list run))

    same_actions : length (booked next.books) ≡ length (booked m.books)
    same_actions = let more = booked_more_by s some list run m reaches worker event next may in let zero_more : length (place_of event) ≡ 0 = ap length none in omega (arith, more, zero_more)

    pub nothing_counted : SamePeriods m.books next.books → u ≡ t → TallyIs s (run ++ pair_of worker event ∷ []) next u
    nothing_counted same is = subst (TallyIs s (run ++ pair_of worker event ∷ []) next) (sym is) (record {
      done_size = tally.done_size;
      done_is = λ i i_in. let e = same_done i in (
        λ bit. let did = (tally.done_is i i_in).0 bit in omega (arith, e, did),
        λ did. (tally.done_is i i_in).1 (omega (arith, e, did)),
      );
      actions = tally.actions ∙ sym same_actions;
      live = tally.live ∙ sym same_live;
      numbers = record {
        periods = (tally.numbers).periods ∙ sym same.periods;
        ahead = (tally.numbers).ahead ∙ sym same.marked;
        high = (tally.numbers).high ∙ sym same_high;
      };
    })

    pub period_counted : (ahead : Bool) → next.books ≡ m.books ++ new_book worker ahead ∷ [] → HasBegun ahead t u → TallyIs s (run ++ pair_of worker event ∷ []) next u
    period_counted ahead books begun = record {
      done_size = ap length begun.done ∙ tally.done_size;
      done_is = λ i i_in. let e = same_done i in (
        λ bit. let did = (tally.done_is i i_in).0 (ap (λ b. get_or b i false) (sym begun.done) ∙ bit) in omega (arith, e, did),
        λ did. ap (λ b. get_or b i false) begun.done ∙ (tally.done_is i i_in).1 (omega (arith, e, did)),
      );
      actions = begun.actions ∙ tally.actions ∙ sym same_actions;
      live = begun.live ∙ tally.live ∙ sym same_live;
      numbers = record {
        periods = let n : length next.books ≡ length m.books + 1 = ap length books ∙ length-append m.books (new_book worker ahead ∷ []) in
            let was = (tally.numbers).periods in let now = begun.periods in omega (arith, n, was, now);
        ahead = let n : periods_marked next.books ≡ periods_marked m.books + (cond ahead 1 0 + 0) = ap periods_marked books ∙ total_append one_if_marked m.books (new_book worker ahead ∷ []) in
            let was = (tally.numbers).ahead in let now = begun.marked in omega (arith, n, was, now);
        high = ap pos begun.high ∙ (tally.numbers).high ∙ sym same_high;
      };
    }
