-- The law of the seats goes on where a seat finds a stop, where a stop is kept, and where a seat is answered the kept end.
use Rattle.std.proofs.Common.{◌≡◌, ℕ, ◌+◌, ◌<◌, ◌≤◌, List, [], ◌∷◌, ◌++◌, length, refl, sym, ap, subst, ◌∙◌, arith, append-nil, true≢false}
use Rattle.std.specs.Prelude.{Option, None, Some, slice_get, slice_set}
use Rattle.std.proofs.lemmas.Option.{none-some, same_Some}
use Rattle.deque_machine.specs.Lists.{Among, Each, total, times}
use Rattle.deque_machine.specs.Moments.{Moment}
use Rattle.deque_machine.specs.Machine.{Setting}
use Rattle.deque_machine.specs.Play.{Limits}
use Rattle.hall_machine.specs.Values.{Hall, Stop, End}
use Rattle.hall_machine.specs.Steps.{Step, Told, Leads, halted}
use Rattle.hall_machine.specs.Writing.{place_of}
use Rattle.hall_machine.specs.Views.{View, one_if_in, by_the_limit, one_if_late, events_told}
use Rattle.hall_machine.specs.Crew.{HasCauseAmong, MayBeKept, SeatStands, Crew, missing}
use Rattle.hall_machine.specs.Seats.{with_crew, QuietPutsKeepCrew, finding, FindingKeepsCrew, end_with, StopsAreKept, EndsAreKept, AnswersKeepCrew}
use Rattle.hall_machine.proofs.First.{none_is}
use Rattle.hall_machine.proofs.Acting.{events_append}
use Rattle.hall_machine.proofs.Notes.{total_set}
use Rattle.hall_machine.proofs.Noting.{same_total, stands_with, one_noted_alone}

-- a seat that found no stop is not late
pub none_late : (v : View) → v.found ≡ None → one_if_late v ≡ 0
none_late v none = ap (λ f. by_the_limit f (one_if_in v)) none

pub finding_keeps_crew : (s : Setting) → FindingKeepsCrew s
finding_keeps_crew s limits h steps m leads count views seat v stop crew its_view placed free none cause =
    one_noted_alone s limits h steps m leads count views seat v (finding v stop) crew its_view h.list.crew h.list.kept placed refl refl (λ w. refl) refl refl above
    (λ end is. is) stands (λ same. same) crew.kept
  where
    above : count ≤ limits.actions + (total one_if_late (slice_set views seat (finding v stop)) + missing h.list.kept s.workers (length h.list.crew))
    above =
        let was = crew.above in let set = total_set one_if_late views seat (finding v stop) v its_view in let zero_before = none_late v none in
        omega (arith, was, set, zero_before)

    stood : SeatStands s limits h steps m leads seat v
    stood = crew.seats seat v its_view placed

    stands : SeatStands s limits h steps m leads seat (finding v stop)
    stands = record {
      owns = stood.owns;
      owned = stood.owned;
      gone = stood.gone;
      told = stood.told;
      runs = stood.runs;
      counts = λ counting. absurd (true≢false (sym counting ∙ free));
      enters = stood.enters;
      found = λ other is. subst (HasCauseAmong s limits steps m leads) (same_Some stop other is) cause;
      answered = stood.answered;
    }

-- ---- a stop is kept

end_kept : (kept : Option End) (stop : Stop) (end : End) → kept ≡ Some end → Some (end_with kept stop) ≡ Some end
end_kept None stop end is = absurd (none-some end is)
end_kept (Some other) stop end is = is

missing_more : (kept : Option End) (end : End) (workers crew : ℕ) → missing kept workers crew ≤ missing (Some end) workers crew
missing_more None end workers crew = omega arith
missing_more (Some other) end workers crew = omega arith

module _ (s : Setting) (limits : Limits) (h : Hall) (steps : List Step) (m : Moment) (leads : Leads s steps m) (count : ℕ) (views : List View)
    (crew : Crew s limits h steps m leads count views) (end : End) where
  kept_crew : ((other : End) → h.list.kept ≡ Some other → Some end ≡ Some other) → MayBeKept s limits steps m leads h.list.places end
      → Crew s limits (with_crew h h.list.crew (Some end)) steps m leads count views
  kept_crew keeps may = record {
    places = crew.places;
    named = crew.named;
    sized = crew.sized;
    once = crew.once;
    numbered = crew.numbered;
    owners = crew.owners;
    counted = crew.counted;
    above = let was = crew.above in let more = missing_more h.list.kept end s.workers (length h.list.crew) in omega (arith, was, more);
    in_periods = crew.in_periods;
    known = crew.known;
    unplaced = crew.unplaced;
    seats = λ n u is there. stands_with s limits h steps m leads h.list.crew (Some end) keeps n u (crew.seats n u is there);
    none_free = crew.none_free;
    kept = λ other is. subst (MayBeKept s limits steps m leads h.list.places) (same_Some end other is) may;
  }

pub ends_are_kept : (s : Setting) → EndsAreKept s
ends_are_kept s limits h steps m leads count views end crew none may =
    kept_crew s limits h steps m leads count views crew end (λ other is. absurd (none_is h.list.kept none other is)) may

pub stops_are_kept : (s : Setting) → StopsAreKept s
stops_are_kept s limits h steps m leads count views seat v stop crew its_view placed found =
    kept_crew s limits h steps m leads count views crew (end_with h.list.kept stop) (end_kept h.list.kept stop) (may h.list.kept refl)
  where
    may : (kept : Option End) → h.list.kept ≡ kept → MayBeKept s limits steps m leads h.list.places (end_with kept stop)
    may None was = (crew.seats seat v its_view placed).found stop found
    may (Some other) was = crew.kept other was

-- ---- a seat is answered the kept end

module _ (s : Setting) (limits : Limits) (h : Hall) (steps : List Step) (m : Moment) (leads : Leads s steps m) (count : ℕ) (views : List View) (seat : ℕ) (v : View) (end : End)
    (crew : Crew s limits h steps m leads count views) (its_view : slice_get views seat ≡ Some v) (placed : 0 < v.places) (kept : h.list.kept ≡ Some end) (mine : List Told)
    (same : events_told mine ≡ events_told v.mine) where
  abbrev w : View
  w = record v { answered = Some end; mine = mine }

  answered_crew : Crew s limits h steps m leads count (slice_set views seat w)
  answered_crew =
      one_noted_alone s limits h steps m leads count views seat v w crew its_view h.list.crew h.list.kept placed refl refl (λ u. refl) refl refl above
      (λ other is. is) stands (λ yields. yields) crew.kept
    where
      above : count ≤ limits.actions + (total one_if_late (slice_set views seat w) + missing h.list.kept s.workers (length h.list.crew))
      above = let was = crew.above in let late = same_total views seat v w its_view one_if_late refl in omega (arith, was, late)

      stood : SeatStands s limits h steps m leads seat v
      stood = crew.seats seat v its_view placed

      stands : SeatStands s limits h steps m leads seat w
      stands = record {
        owns = stood.owns;
        owned = stood.owned;
        gone = stood.gone;
        told = same ∙ stood.told;
        runs = stood.runs;
        counts = stood.counts;
        enters = stood.enters;
        found = stood.found;
        answered = λ other is. kept ∙ is;
      }

pub answers_keep_crew : (s : Setting) → AnswersKeepCrew s
answers_keep_crew s limits h steps m leads count views seat v end crew its_view placed kept = (
  answered_crew s limits h steps m leads count views seat v end crew its_view placed kept v.mine refl,
  answered_crew s limits h steps m leads count views seat v end crew its_view placed kept (v.mine ++ halted end ∷ [])
      (events_append v.mine (halted end ∷ []) ∙ append-nil (events_told v.mine)),
)

-- ---- what is written is nothing to the seats

pub quiet_puts_keep_crew : (s : Setting) → QuietPutsKeepCrew s
quiet_puts_keep_crew s limits h after steps m leads count views crew same = record {
  places = crew.places;
  named = λ w. ap (times w) same.crew ∙ crew.named w;
  sized = ap length same.crew ∙ crew.sized;
  once = λ w. subst (λ c. times w c ≤ 1) (sym same.crew) (crew.once w);
  numbered = subst (Each (λ w. w < s.workers)) (sym same.crew) crew.numbered;
  owners = subst (λ c. Each (λ place. (w : ℕ) → place.owner ≡ Some w → 0 < times w c) after.list.places) (sym same.crew)
      (subst (Each (λ place. (w : ℕ) → place.owner ≡ Some w → 0 < times w h.list.crew)) (sym same.places) crew.owners);
  counted = crew.counted;
  above = subst (λ k. count ≤ limits.actions + (total one_if_late views + missing k s.workers (length after.list.crew))) (sym same.kept)
      (subst (λ c. count ≤ limits.actions + (total one_if_late views + missing h.list.kept s.workers (length c))) (sym same.crew) crew.above);
  in_periods = crew.in_periods;
  known = crew.known;
  unplaced = crew.unplaced;
  seats = seats_now;
  none_free = crew.none_free;
  kept = λ end is. subst (λ ps. MayBeKept s limits steps m leads ps end) (sym same.places) (crew.kept end (sym same.kept ∙ is));
}
  where
    seats_now : (n : ℕ) (u : View) → slice_get views n ≡ Some u → 0 < u.places → SeatStands s limits after steps m leads n u
    seats_now n u is there =
        let was : SeatStands s limits h steps m leads n u = crew.seats n u is there in
        record {
          owns = λ id owns. subst (Among (place_of id (Some u.worker))) (sym same.places) (was.owns id owns);
          owned = λ here id at. was.owned here id (subst (Among (place_of id (Some u.worker))) same.places at);
          gone = was.gone;
          told = was.told;
          runs = λ id owns p run. was.runs id owns p (sym (same.periods id u.worker (was.owns id owns)) ∙ run);
          counts = was.counts;
          enters = λ w is. ((was.enters w is).0, λ id at. (was.enters w is).1 id (subst (Among (place_of id (Some w))) same.places at));
          found = was.found;
          answered = λ end answered. same.kept ∙ was.answered end answered;
        }
