-- The law of the seats goes on where a seat leaves, and where it is joined into another.
use Rattle.std.proofs.Common.{◌≡◌, ℕ, zero, suc, ◌+◌, ◌*◌, ◌<◌, ◌≤◌, Bool, true, false, cond, nat_eq, List, ◌++◌, length, inl, inr, refl, sym, ap, subst, ◌∙◌, arith, length-set, true≢false}
use Rattle.std.specs.Prelude.{Option, None, Some, slice_get, slice_set}
use Rattle.std.proofs.lemmas.Option.{none-some}
use Rattle.deque_list.specs.declared.place.Place.{Place}
use Rattle.deque_machine.specs.Lists.{Among, Each, total, times, one_if_same}
use Rattle.deque_machine.proofs.Lists.{each_map, each_from, each_among, each_without, total_below, one_cases}
use Rattle.deque_machine.specs.Moments.{Moment, one_if_worker}
use Rattle.deque_machine.specs.Machine.{Setting}
use Rattle.deque_machine.specs.Play.{Limits}
use Rattle.deque_machine.specs.Play as play
use Rattle.moment_laws.proofs.Passed.Lists.{set_same, set_other}
use Rattle.hall_machine.specs.Values.{Hall, Stop, by_rule, no_memory, End}
use Rattle.hall_machine.specs.Steps.{Step, Leads}
use Rattle.hall_machine.specs.Writing.{place_of}
use Rattle.hall_machine.specs.Views.{View, joined, in_hall, one_if_in, one_if_its, by_the_limit, stands_for, workers_of, one_if_some, places_held, one_if_counting, one_if_late}
use Rattle.hall_machine.specs.Crew.{SeatStands, Crew, missing}
use Rattle.hall_machine.specs.Seats.{with_crew, leaving, LeavingKeepsCrew, or_else, with_places_of, JoiningKeepsCrew, CountsAreFew}
use Rattle.hall_machine.proofs.First.{is_in, as_with_one}
use Rattle.hall_machine.proofs.Notes.{total_set, each_set, each_unset, each_get, each_by_place}
use Rattle.hall_machine.proofs.Noting.{seats_set, one_noted}
use Rattle.hall_machine.proofs.Entering.{times_middle, length_middle}

-- a seat that has left is not in and is not late
pub none_in : (places : ℕ) → in_hall places true ≡ 0
none_in zero = refl
none_in (suc places) = refl

abbrev pub if_it : Bool → ℕ → ℕ
if_it b n = cond b n 0

pub none_of : (b : Bool) → if_it b 0 ≡ 0
none_of true = refl
none_of false = refl

no_limit : (found : Option Stop) → by_the_limit found 0 ≡ 0
no_limit None = refl
no_limit (Some no_memory) = refl
no_limit (Some (by_rule (play.arena_full live asked))) = refl
no_limit (Some (by_rule (play.deques_full deques))) = refl
no_limit (Some (by_rule (play.steps_spent limit))) = refl

limit_below : (found : Option Stop) (n : ℕ) → by_the_limit found n ≤ n
limit_below None n = omega arith
limit_below (Some no_memory) n = omega arith
limit_below (Some (by_rule (play.arena_full live asked))) n = omega arith
limit_below (Some (by_rule (play.deques_full deques))) n = omega arith
limit_below (Some (by_rule (play.steps_spent limit))) n = omega arith

pub in_below : (places : ℕ) (left : Bool) → (in_hall places left ≤ places) × (in_hall places left ≤ 1)
in_below zero left = (omega arith, omega arith)
in_below (suc places) true = (omega arith, omega arith)
in_below (suc places) false = (omega arith, omega arith)

-- ---- there are no more workers in than places

module _ (s : Setting) (limits : Limits) (h : Hall) (steps : List Step) (m : Moment) (leads : Leads s steps m) (count : ℕ) (views : List View) (crew : Crew s limits h steps m leads count views) where
  pub workers_below : (n : ℕ) (u : View) → slice_get views n ≡ Some u → (places : ℕ) → u.places ≡ places → (enters : Option ℕ) → u.enters ≡ enters → workers_of u ≤ places_held u
  workers_below n u is zero none enters entered =
      let its = each_get (λ v. v.places ≡ 0 → v ≡ joined) views n u crew.unplaced is none in
      let nobody : one_if_some u.enters ≡ 0 = ap (λ v. one_if_some (View.enters v)) its in
      let here = (in_below u.places u.left).0 in omega (arith, nobody, here)
  workers_below n u is (suc places) some None entered =
      let nobody : one_if_some u.enters ≡ 0 = ap one_if_some entered in let here = (in_below u.places u.left).0 in omega (arith, nobody, here)
  workers_below n u is (suc places) some (Some worker) entered =
      let one : one_if_some u.enters ≡ 1 = ap one_if_some entered in
      let two = ((crew.seats n u is (omega (arith, some))).enters worker entered).0 in
      let here = (in_below u.places u.left).1 in omega (arith, one, two, here)

  pub few_in : length h.list.crew ≤ s.workers
  few_in =
      let below = total_below workers_of places_held views (each_by_place (λ u. workers_of u ≤ places_held u) views (λ n u is. workers_below n u is u.places refl u.enters refl)) in
      let sized = crew.sized in let places = crew.places in omega (arith, below, sized, places)

  late_below : (u : View) → one_if_late u ≤ places_held u
  late_below u = let limit = limit_below u.found (one_if_in u) in let here = (in_below u.places u.left).0 in omega (arith, limit, here)

  few_late : total one_if_late views ≤ s.workers
  few_late =
      let below = total_below one_if_late places_held views (each_by_place (λ u. one_if_late u ≤ places_held u) views (λ n u is. late_below u)) in
      let places = crew.places in omega (arith, below, places)

  few_missing : (kept : Option End) → missing kept s.workers (length h.list.crew) ≤ s.workers
  few_missing None = omega arith
  few_missing (Some end) = omega arith

  few_counts : count ≤ limits.actions + 2 * s.workers
  few_counts = let above = crew.above in let late = few_late in let gone = few_missing h.list.kept in omega (arith, above, late, gone)

pub counts_are_few : (s : Setting) → CountsAreFew s
counts_are_few s limits h steps m leads count views crew = few_counts s limits h steps m leads count views crew

-- ---- a seat leaves

pub leaving_keeps_crew : (s : Setting) → LeavingKeepsCrew s
leaving_keeps_crew s limits h steps m leads count views seat v before later crew its_view placed here no_deque nobody with_end cut =
    one_noted s limits h steps m leads count views seat v (leaving v) crew its_view (before ++ later) h.list.kept placed refl named sized once
    (each_without (λ n. n < s.workers) before v.worker later (subst (Each (λ n. n < s.workers)) cut crew.numbered))
    (each_from (λ place. (w : ℕ) → place.owner ≡ Some w → 0 < times w (before ++ later)) h.list.places owners)
    refl (above v.found refl) (λ end is. is) stands (λ same. same) crew.kept
  where
    stood : SeatStands s limits h steps m leads seat v
    stood = crew.seats seat v its_view placed

    times_now : (w : ℕ) → times w h.list.crew ≡ times w (before ++ later) + one_if_same w v.worker
    times_now w = ap (times w) cut ∙ times_middle w v.worker before later

    in_it : one_if_in v ≡ 1
    in_it = ap (in_hall v.places) here ∙ is_in v.places placed

    named : (w : ℕ) → times w (before ++ later) ≡ total (stands_for w) (slice_set views seat (leaving v))
    named w =
        let was = crew.named w in let now = times_now w in
        let set : total (stands_for w) (slice_set views seat (leaving v)) + (one_if_its w v + one_if_worker w v.enters)
        ≡ total (stands_for w) views + (if_it (nat_eq w v.worker) (in_hall v.places true) + one_if_worker w v.enters) =
        total_set (stands_for w) views seat (leaving v) v its_view in
        let its : one_if_its w v ≡ one_if_same w v.worker = ap (if_it (nat_eq w v.worker)) in_it in
        let none : if_it (nat_eq w v.worker) (in_hall v.places true) ≡ 0 = ap (if_it (nat_eq w v.worker)) (none_in v.places) ∙ none_of (nat_eq w v.worker) in
        omega (arith, was, now, set, its, none)

    long : length h.list.crew ≡ length (before ++ later) + 1
    long = ap length cut ∙ length_middle v.worker before later

    sized : length (before ++ later) ≡ total workers_of (slice_set views seat (leaving v))
    sized =
        let was = crew.sized in let now = long in
        let set : total workers_of (slice_set views seat (leaving v)) + (one_if_in v + one_if_some v.enters) ≡ total workers_of views + (in_hall v.places true + one_if_some v.enters) =
        total_set workers_of views seat (leaving v) v its_view in
        let one = in_it in let none = none_in v.places in omega (arith, was, now, set, one, none)

    once : (w : ℕ) → times w (before ++ later) ≤ 1
    once w = let was = crew.once w in let now = times_now w in omega (arith, was, now)

    owners : (place : Place) → Among place h.list.places → (w : ℕ) → place.owner ≡ Some w → 0 < times w (before ++ later)
    owners place there w owner = elim (one_cases w v.worker) [
      | inl same ↦ absurd (none-some place.id (sym no_deque ∙ stood.owned here place.id
          (subst (λ o. Among (place_of place.id o) h.list.places) (owner ∙ ap Some same.0) there)))
      | inr other ↦
          let was = each_among (λ p. (u : ℕ) → p.owner ≡ Some u → 0 < times u h.list.crew) place h.list.places crew.owners there w owner in
          let now = times_now w in let none = other.1 in omega (arith, was, now, none)
    ]

    gone_late : one_if_late (leaving v) ≡ 0
    gone_late = ap (by_the_limit v.found) (none_in v.places) ∙ no_limit v.found

    more_missing : (kept : Option End) → missing kept s.workers (length h.list.crew) ≤ missing kept s.workers (length (before ++ later))
    more_missing None = omega arith
    more_missing (Some end) = let now = long in omega (arith, now)

    above : (found : Option Stop) → v.found ≡ found
        → count ≤ limits.actions + (total one_if_late (slice_set views seat (leaving v)) + missing h.list.kept s.workers (length (before ++ later)))
    above None is =
        let was = crew.above in let set = total_set one_if_late views seat (leaving v) v its_view in let gone = gone_late in
        let none : one_if_late v ≡ 0 = ap (λ f. by_the_limit f (one_if_in v)) is in let more = more_missing h.list.kept in
        omega (arith, was, set, gone, none, more)
    above (Some stop) is =
        let was = crew.above in let set = total_set one_if_late views seat (leaving v) v its_view in let gone = gone_late in
        let few : one_if_late v ≤ 1 = one_at_most (one_if_late v) (one_if_in v) (limit_below v.found (one_if_in v)) in_it in
        let in_crew = few_in s limits h steps m leads count views crew in let now = long in
        let kept = ap (λ k. missing k s.workers (length h.list.crew)) (with_end stop is).1 in
        let kept_now = ap (λ k. missing k s.workers (length (before ++ later))) (with_end stop is).1 in
        omega (arith, was, set, gone, few, in_crew, now, kept, kept_now)
      where
        one_at_most : (a b : ℕ) → a ≤ b → b ≡ 1 → a ≤ 1
        one_at_most a b below one = omega (arith, below, one)

    stands : SeatStands s limits (with_crew h (before ++ later) h.list.kept) steps m leads seat (leaving v)
    stands = record {
      owns = stood.owns;
      owned = λ same. absurd (true≢false same);
      gone = λ left. no_deque;
      told = stood.told;
      runs = stood.runs;
      counts = stood.counts;
      enters = stood.enters;
      found = stood.found;
      answered = stood.answered;
    }

-- ---- it is joined into another

neither : (a b : Bool) → or_else a b ≡ false → (a ≡ false) × (b ≡ false)
neither true b none = absurd (true≢false none)
neither false b none = (refl, none)

pub joining_keeps_crew : (s : Setting) → JoiningKeepsCrew s
joining_keeps_crew s limits h steps m leads count views seat other into gone crew apart its_view gone_view placed gone_placed left nobody = record {
  places =
      let both : (total places_held views_now + gone.places) + into.places ≡ (total places_held views + (into.places + gone.places)) + 0 = set_both places_held in
      let was = crew.places in omega (arith, both, was);
  named = λ w.
      let both : (total (stands_for w) views_now + (one_if_its w gone + one_if_worker w gone.enters)) + (one_if_its w into + one_if_worker w into.enters)
      ≡ (total (stands_for w) views + (one_if_its w (with_places_of into gone) + one_if_worker w into.enters)) + (if_it (nat_eq w 0) 0 + 0) = set_both (stands_for w) in let was = crew.named w in
      let none : one_if_its w gone ≡ 0 = ap (if_it (nat_eq w gone.worker)) gone_in ∙ none_of (nat_eq w gone.worker) in
      let enters : one_if_worker w gone.enters ≡ 0 = ap (one_if_worker w) nobody in
      let blank = none_of (nat_eq w 0) in
      let same : one_if_its w (with_places_of into gone) ≡ one_if_its w into = ap (if_it (nat_eq w into.worker)) same_in in
      omega (arith, both, was, none, enters, blank, same);
  sized =
      let both : (total workers_of views_now + (one_if_in gone + one_if_some gone.enters)) + (one_if_in into + one_if_some into.enters)
      ≡ (total workers_of views + (one_if_in (with_places_of into gone) + one_if_some into.enters)) + 0 = set_both workers_of in let was = crew.sized in let none = gone_in in let enters : one_if_some gone.enters ≡ 0 = ap one_if_some nobody in
      let same = same_in in omega (arith, both, was, none, enters, same);
  once = crew.once;
  numbered = crew.numbered;
  owners = crew.owners;
  counted =
      let both : (total one_if_counting views_now + one_if_counting gone) + one_if_counting into ≡ (total one_if_counting views + one_if_counting into) + 0 =
      set_both one_if_counting in let was = crew.counted in let none : one_if_counting gone ≡ 0 = ap (λ b. cond b 1 0) not_counting in
      omega (arith, both, was, none);
  above =
      let both : (total one_if_late views_now + one_if_late gone) + one_if_late into ≡ (total one_if_late views + one_if_late (with_places_of into gone)) + 0 =
      set_both one_if_late in let was = crew.above in let none : one_if_late gone ≡ 0 = ap (by_the_limit gone.found) gone_in ∙ no_limit gone.found in
      let same : one_if_late (with_places_of into gone) ≡ one_if_late into = ap (by_the_limit into.found) same_in in omega (arith, both, was, none, same);
  in_periods = crew.in_periods;
  known = each_map (λ step. step.seat < length views) (λ step. step.seat < length views_now) steps (λ step there low. let long = longer in omega (arith, low, long)) crew.known;
  unplaced = each_set (λ u. u.places ≡ 0 → u ≡ joined) views_then other joined
      (each_set (λ u. u.places ≡ 0 → u ≡ joined) views seat (with_places_of into gone) crew.unplaced (λ none. let some = placed in absurd (omega (arith, some, none)))) (λ none. refl);
  seats = seats_set (λ n u. SeatStands s limits h steps m leads n u) views_then other gone joined gone_then
      (λ n u aside is there. seats_set (λ k x. SeatStands s limits h steps m leads k x) views seat into (with_places_of into gone) its_view
      (λ k x beside at some. crew.seats k x at some) (λ some. stands) n u is there)
      (λ none. absurd (omega (arith, none)));
  none_free = λ none. crew.none_free (none_yielded none);
  kept = crew.kept;
}
  where
    views_then : List View
    views_then = slice_set views seat (with_places_of into gone)

    views_now : List View
    views_now = slice_set views_then other joined

    gone_then : slice_get views_then other ≡ Some gone
    gone_then = set_other views seat other (with_places_of into gone) (λ same. apart (sym same)) ∙ gone_view

    longer : length views_now ≡ length views
    longer = length-set views_then other joined ∙ length-set views seat (with_places_of into gone)

    -- a sum in which both count otherwise
    set_both : (f : View → ℕ) → (total f views_now + f gone) + f into ≡ (total f views + f (with_places_of into gone)) + f joined
    set_both f =
        let first = total_set f views seat (with_places_of into gone) into its_view in let second = total_set f views_then other joined gone gone_then in
        omega (arith, first, second)

    gone_in : one_if_in gone ≡ 0
    gone_in = ap (in_hall gone.places) left ∙ none_in gone.places

    same_in : one_if_in (with_places_of into gone) ≡ one_if_in into
    same_in =
        as_with_one (into.places + gone.places) into.left (let some = placed in omega (arith, some)) ∙ sym (as_with_one into.places into.left placed)

    stood : SeatStands s limits h steps m leads seat into
    stood = crew.seats seat into its_view placed

    gone_stood : SeatStands s limits h steps m leads other gone
    gone_stood = crew.seats other gone gone_view gone_placed

    bool_cases : (b : Bool) → (b ≡ true → ⊥) → b ≡ false
    bool_cases true none = absurd (none refl)
    bool_cases false none = refl

    not_counting : gone.counting ≡ false
    not_counting = bool_cases gone.counting (λ counting. let owns = (gone_stood.counts counting).0 in none-some owns.0 (sym (gone_stood.gone left) ∙ owns.1))

    stands : SeatStands s limits h steps m leads seat (with_places_of into gone)
    stands = record {
      owns = stood.owns;
      owned = stood.owned;
      gone = stood.gone;
      told = stood.told;
      runs = stood.runs;
      counts = stood.counts;
      enters = λ w is. let was = stood.enters w is in let two = was.0 in (omega (arith, two), was.1);
      found = stood.found;
      answered = stood.answered;
    }

    none_yielded : Each (λ u. u.yielded ≡ false) views_now → Each (λ u. u.yielded ≡ false) views
    none_yielded none =
        let into_now : slice_get views_now seat ≡ Some (with_places_of into gone) = set_other views_then other seat joined apart ∙ set_same views seat (with_places_of into gone) into its_view in
        let both = neither into.yielded gone.yielded (each_get (λ u. u.yielded ≡ false) views_now seat (with_places_of into gone) none into_now) in
        each_unset (λ u. u.yielded ≡ false) views seat (with_places_of into gone) into its_view
        (each_unset (λ u. u.yielded ≡ false) views_then other joined gone gone_then none (λ same. both.1)) (λ same. both.0)
