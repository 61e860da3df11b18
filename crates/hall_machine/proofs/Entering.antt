-- The law of the seats goes on where a worker enters, and where its seat is split off.
use Rattle.std.proofs.Common.{◌≡◌, ℕ, zero, suc, ◌+◌, ◌-◌, ◌<◌, ◌≤◌, Bool, false, cond, nat_eq, min, List, [], ◌∷◌, ◌++◌, length, inl, inr, refl, sym, ap, subst, ◌∙◌, arith, append-nil, length-append, length-set, true≢false}
use Rattle.std.specs.Prelude.{Some, slice_get, slice_set}
use Rattle.std.proofs.lemmas.Option.{none-some, same_Some}
use Rattle.deque_list.specs.declared.deque_id.DequeId.{DequeId}
use Rattle.deque_machine.specs.Lists.{Among, Each, total, times, one_if_same}
use Rattle.deque_machine.specs.Books.{booked}
use Rattle.deque_machine.proofs.Lists.{each_map, each_left, each_right, each_join, each_among, total_append, total_middle, one_cases}
use Rattle.deque_machine.specs.Moments.{one_if_worker}
use Rattle.deque_machine.specs.Machine.{Setting}
use Rattle.hall_machine.specs.Steps.{Step, told_to}
use Rattle.hall_machine.specs.Writing.{place_of}
use Rattle.hall_machine.proofs.Going.{if_same_other}
use Rattle.hall_machine.specs.Views.{View, fresh, joined, in_hall, one_if_in, one_if_its, by_the_limit, stands_for, workers_of, one_if_some, places_held, one_if_counting, one_if_late}
use Rattle.hall_machine.specs.Crew.{SeatStands, missing}
use Rattle.hall_machine.specs.Seats.{with_crew, entering, EnteringKeepsCrew, giving, SplittingKeepsCrew}
use Rattle.hall_machine.proofs.First.{as_with_one}
use Rattle.hall_machine.proofs.Notes.{total_set, each_get, each_set, each_unset, get_more, each_more, each_and, total_more}
use Rattle.hall_machine.proofs.Noting.{same_total, seats_set, one_noted}

-- one more in the middle of a list of workers
pub times_middle : (w worker : ℕ) (before later : List ℕ) → times w (before ++ worker ∷ later) ≡ times w (before ++ later) + one_if_same w worker
times_middle w worker before later =
    let middle = total_middle (one_if_same w) before worker later in let both = total_append (one_if_same w) before later in omega (arith, middle, both)

pub length_middle : (worker : ℕ) (before later : List ℕ) → length (before ++ worker ∷ later) ≡ length (before ++ later) + 1
length_middle worker before later = let middle = length-append before (worker ∷ later) in let both = length-append before later in omega (arith, middle, both)

each_wider : (P : ℕ → Type 0) (before : List ℕ) (x : ℕ) (later : List ℕ) → Each P (before ++ later) → P x → Each P (before ++ x ∷ later)
each_wider P before x later all one = each_join P before (x ∷ later) (each_left P before later all) (one, each_right P before later all)

pub entering_keeps_crew : (s : Setting) → EnteringKeepsCrew s
entering_keeps_crew s limits h steps m leads count views seat v worker before later crew its_view placed free open_hall cut low new =
    one_noted s limits h steps m leads count views seat v (entering v worker) crew its_view (before ++ worker ∷ later) h.list.kept
    (omega (arith, placed)) refl named sized once
    (each_wider (λ n. n < s.workers) before worker later (subst (Each (λ n. n < s.workers)) cut crew.numbered) low)
    (each_map (λ place. (w : ℕ) → place.owner ≡ Some w → 0 < times w h.list.crew) (λ place. (w : ℕ) → place.owner ≡ Some w → 0 < times w (before ++ worker ∷ later)) h.list.places
    (λ place there owned w is. let was = owned w is in let more = times_now w in omega (arith, was, more)) crew.owners)
    refl above (λ end is. is) stands (λ same. same) crew.kept
  where
    times_now : (w : ℕ) → times w (before ++ worker ∷ later) ≡ times w h.list.crew + one_if_same w worker
    times_now w = times_middle w worker before later ∙ ap (λ c. times w c + one_if_same w worker) (sym cut)

    nobody : (w : ℕ) → one_if_worker w v.enters ≡ 0
    nobody w = ap (one_if_worker w) free

    named : (w : ℕ) → times w (before ++ worker ∷ later) ≡ total (stands_for w) (slice_set views seat (entering v worker))
    named w =
        let was = crew.named w in let now = times_now w in let none = nobody w in
        let set : total (stands_for w) (slice_set views seat (entering v worker)) + (one_if_its w v + one_if_worker w v.enters) ≡ total (stands_for w) views + (one_if_its w v + one_if_same w worker) =
        total_set (stands_for w) views seat (entering v worker) v its_view in
        omega (arith, was, now, none, set)

    sized : length (before ++ worker ∷ later) ≡ total workers_of (slice_set views seat (entering v worker))
    sized =
        let was = crew.sized in let now = length_middle worker before later in let long = ap length cut in
        let none : one_if_some v.enters ≡ 0 = ap one_if_some free in
        let set : total workers_of (slice_set views seat (entering v worker)) + (one_if_in v + one_if_some v.enters) ≡ total workers_of views + (one_if_in v + 1) =
        total_set workers_of views seat (entering v worker) v its_view in
        omega (arith, was, now, long, none, set)

    once : (w : ℕ) → times w (before ++ worker ∷ later) ≤ 1
    once w = elim (one_cases w worker) [
      | inl same ↦
          let now = times_now w in let one = same.1 in let none : times w h.list.crew ≡ 0 = ap (λ n. times n h.list.crew) same.0 ∙ new in
          omega (arith, now, one, none)
      | inr other ↦ let now = times_now w in let none = other.1 in let was = crew.once w in omega (arith, now, none, was)
    ]

    above : count ≤ limits.actions + (total one_if_late (slice_set views seat (entering v worker)) + missing h.list.kept s.workers (length (before ++ worker ∷ later)))
    above =
        let was = crew.above in let late = same_total views seat v (entering v worker) its_view one_if_late refl in
        let none_before : missing h.list.kept s.workers (length h.list.crew) ≡ 0 = ap (λ k. missing k s.workers (length h.list.crew)) open_hall in
        omega (arith, was, late, none_before)

    nowhere : (id : DequeId) → Among (place_of id (Some worker)) h.list.places → ⊥
    nowhere id there =
        let some : 0 < times worker h.list.crew = each_among (λ place. (w : ℕ) → place.owner ≡ Some w → 0 < times w h.list.crew) (place_of id (Some worker)) h.list.places crew.owners there worker refl in
        let none = new in omega (arith, some, none)

    stood : SeatStands s limits h steps m leads seat v
    stood = crew.seats seat v its_view (omega (arith, placed))

    stands : SeatStands s limits (with_crew h (before ++ worker ∷ later) h.list.kept) steps m leads seat (entering v worker)
    stands = record {
      owns = stood.owns;
      owned = stood.owned;
      gone = stood.gone;
      told = stood.told;
      runs = stood.runs;
      counts = stood.counts;
      enters = λ w is. (placed, λ id there. nowhere id (subst (λ n. Among (place_of id (Some n)) h.list.places) (sym (same_Some worker w is)) there));
      found = stood.found;
      answered = stood.answered;
    }

-- ---- a seat is split off

-- a seat that notes anything has a place
some_place : (n : ℕ) → (n ≡ 0 → ⊥) → 0 < n
some_place zero some = absurd (some refl)
some_place (suc n) some = omega arith

pub splitting_keeps_crew : (s : Setting) → SplittingKeepsCrew s
splitting_keeps_crew s limits h steps m leads count views seat v worker crew its_view enters = record {
  places = places;
  named = named;
  sized = sized;
  once = crew.once;
  numbered = crew.numbered;
  owners = crew.owners;
  counted = counted;
  above = above;
  in_periods = crew.in_periods;
  known = each_map (λ step. step.seat < length views) (λ step. step.seat < length views_now) steps (λ step there low. let long = longer in omega (arith, low, long)) crew.known;
  unplaced = each_and (λ u. u.places ≡ 0 → u ≡ joined) (slice_set views seat (giving v)) (fresh worker 1)
      (each_set (λ u. u.places ≡ 0 → u ≡ joined) views seat (giving v) crew.unplaced (λ none. let two = two_places in absurd (omega (arith, none, two))))
      (λ none. absurd (omega (arith, none)));
  seats = seats_now;
  none_free = λ none. crew.none_free
      (each_unset (λ u. u.yielded ≡ false) views seat (giving v) v its_view (each_more (λ u. u.yielded ≡ false) (slice_set views seat (giving v)) (fresh worker 1) none) (λ same. same));
  kept = crew.kept;
}
  where
    views_now : List View
    views_now = slice_set views seat (giving v) ++ fresh worker 1 ∷ []

    placed : 0 < v.places
    placed = some_place v.places (λ none. none-some worker (sym (ap (λ u. View.enters u)
        (each_get (λ u. u.places ≡ 0 → u ≡ joined) views seat v crew.unplaced its_view none)) ∙ enters))

    stood : SeatStands s limits h steps m leads seat v
    stood = crew.seats seat v its_view placed

    two_places : 2 ≤ v.places
    two_places = (stood.enters worker enters).0

    longer : length views_now ≡ length views + 1
    longer = length-append (slice_set views seat (giving v)) (fresh worker 1 ∷ []) ∙ ap (λ n. n + 1) (length-set views seat (giving v))

    places : total places_held views_now ≡ s.workers
    places =
        let more = total_more places_held (slice_set views seat (giving v)) (fresh worker 1) in
        let set : total places_held (slice_set views seat (giving v)) + v.places ≡ total places_held views + (v.places - 1) = total_set places_held views seat (giving v) v its_view in
        let was = crew.places in let two = two_places in let one : places_held (fresh worker 1) ≡ 1 = refl in
        omega (arith, more, set, was, two, one)

    same_in : (n : ℕ) (left : Bool) → 2 ≤ n → in_hall (n - 1) left ≡ in_hall n left
    same_in n left two = as_with_one (n - 1) left (omega (arith, two)) ∙ sym (as_with_one n left (omega (arith, two)))

    its_in : one_if_in (giving v) ≡ one_if_in v
    its_in = same_in v.places v.left two_places

    named : (w : ℕ) → times w h.list.crew ≡ total (stands_for w) views_now
    named w =
        let was = crew.named w in let more = total_more (stands_for w) (slice_set views seat (giving v)) (fresh worker 1) in
        let set : total (stands_for w) (slice_set views seat (giving v)) + (one_if_its w v + one_if_worker w v.enters) ≡ total (stands_for w) views + (one_if_its w (giving v) + 0) =
        total_set (stands_for w) views seat (giving v) v its_view in
        let same : one_if_its w (giving v) ≡ one_if_its w v = ap (λ n. cond (nat_eq w v.worker) n 0) its_in in
        let entered : one_if_worker w v.enters ≡ one_if_same w worker = ap (one_if_worker w) enters in
        let one : stands_for w (fresh worker 1) ≡ one_if_same w worker + 0 = refl in
        omega (arith, was, more, set, same, entered, one)

    sized : length h.list.crew ≡ total workers_of views_now
    sized =
        let was = crew.sized in let more = total_more workers_of (slice_set views seat (giving v)) (fresh worker 1) in
        let set : total workers_of (slice_set views seat (giving v)) + (one_if_in v + one_if_some v.enters) ≡ total workers_of views + (one_if_in (giving v) + 0) =
        total_set workers_of views seat (giving v) v its_view in
        let same = its_in in let entered : one_if_some v.enters ≡ 1 = ap one_if_some enters in
        let one : workers_of (fresh worker 1) ≡ 1 = refl in
        omega (arith, was, more, set, same, entered, one)

    counted : min count limits.actions ≡ length (booked m.books) + total one_if_counting views_now
    counted =
        let was = crew.counted in let more = total_more one_if_counting (slice_set views seat (giving v)) (fresh worker 1) in
        let same = same_total views seat v (giving v) its_view one_if_counting refl in let none : one_if_counting (fresh worker 1) ≡ 0 = refl in
        omega (arith, was, more, same, none)

    above : count ≤ limits.actions + (total one_if_late views_now + missing h.list.kept s.workers (length h.list.crew))
    above =
        let was = crew.above in let more = total_more one_if_late (slice_set views seat (giving v)) (fresh worker 1) in
        let same = same_total views seat v (giving v) its_view one_if_late (ap (by_the_limit v.found) its_in) in
        omega (arith, was, more, same)

    its_stands : SeatStands s limits h steps m leads seat (giving v)
    its_stands = record {
      owns = stood.owns;
      owned = stood.owned;
      gone = stood.gone;
      told = stood.told;
      runs = stood.runs;
      counts = stood.counts;
      enters = λ w is. absurd (none-some w is);
      found = stood.found;
      answered = stood.answered;
    }

    -- nobody but the seats that there were did a step
    nothing_told : (earlier : List Step) → Each (λ step. step.seat < length views) earlier → told_to (length views) earlier ≡ []
    nothing_told [] known = refl
    nothing_told (step ∷ earlier) known =
        let low = known.0 in
        ap (λ t. told_to (length views) earlier ++ t) (if_same_other (length views) step.seat (step.told ∷ []) (λ same. absurd (omega (arith, low, same))))
        ∙ append-nil (told_to (length views) earlier) ∙ nothing_told earlier known.1

    new_stands : SeatStands s limits h steps m leads (length views) (fresh worker 1)
    new_stands = record {
      owns = λ id is. absurd (none-some id is);
      owned = λ here id there. absurd ((stood.enters worker enters).1 id there);
      gone = λ left. refl;
      told = sym (nothing_told steps crew.known);
      runs = λ id is p runs. absurd (none-some id is);
      counts = λ counting. absurd (true≢false (sym counting));
      enters = λ w is. absurd (none-some w is);
      found = λ stop is. absurd (none-some stop is);
      answered = λ end is. absurd (none-some end is);
    }

    seats_now : (n : ℕ) (u : View) → slice_get views_now n ≡ Some u → 0 < u.places → SeatStands s limits h steps m leads n u
    seats_now n u is there = elim (get_more (slice_set views seat (giving v)) (fresh worker 1) n u is) [
      | inl earlier ↦ seats_set (λ k x. SeatStands s limits h steps m leads k x) views seat v (giving v) its_view (λ k x apart at some. crew.seats k x at some) (λ some. its_stands) n u earlier there
      | inr last ↦ subst (λ k. SeatStands s limits h steps m leads k u) (sym (last.0 ∙ length-set views seat (giving v)))
          (subst (λ x. SeatStands s limits h steps m leads (length views) x) last.1 new_stands)
    ]
