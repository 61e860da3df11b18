-- The law of the seats goes on where a seat draws a count.
use Rattle.std.proofs.Common.{◌≡◌, ◌≢◌, ℕ, suc, ◌+◌, ◌<◌, ◌≤◌, Bool, true, false, cond, min, List, length, inl, inr, refl, sym, ap, subst, ◌∙◌, arith, length-set}
use Rattle.std.proofs.lemmas.Bool.{cases_eq}
use Rattle.std.specs.Prelude.{Option, None, Some, slice_get, slice_set}
use Rattle.std.proofs.lemmas.Option.{same_Some}
use Rattle.deque_list.specs.declared.deque_id.DequeId.{DequeId}
use Rattle.deque_machine.specs.Lists.{total}
use Rattle.deque_machine.specs.Books.{booked}
use Rattle.deque_machine.proofs.Lists.{each_map}
use Rattle.deque_machine.specs.Moments.{Moment}
use Rattle.deque_machine.specs.Machine.{Setting}
use Rattle.deque_machine.specs.Play as play
use Rattle.deque_machine.specs.Play.{Limits}
use Rattle.moment_laws.proofs.Passed.Lists.{set_same, set_other}
use Rattle.hall_machine.specs.Values.{Hall, Stop, by_rule}
use Rattle.hall_machine.specs.Steps.{Step, Leads}
use Rattle.hall_machine.specs.Views.{View, joined, in_hall, one_if_in, stands_for, workers_of, places_held, one_if_counting, by_the_limit, one_if_late}
use Rattle.hall_machine.specs.Crew.{HasCauseAmong, SeatStands, Crew, missing}
use Rattle.hall_machine.specs.Changes.{CountsKeepCrew, SpentCountsKeepCrew}
use Rattle.hall_machine.proofs.First.{is_in}
use Rattle.hall_machine.proofs.Notes.{total_set, each_set, each_unset}

-- a seat that notes another count or another stop, and nothing else
abbrev noting : View → Bool → Option Stop → View
noting v counting found = record v { counting = counting; found = found }

module _ (s : Setting) (limits : Limits) (h : Hall) (steps : List Step) (m : Moment) (leads : Leads s steps m) (count : ℕ) (views : List View) (seat : ℕ) (v : View)
    (crew : Crew s limits h steps m leads count views) (its_view : slice_get views seat ≡ Some v) (placed : 0 < v.places) (counting : Bool) (found : Option Stop) where
  abbrev w : View
  w = noting v counting found

  abbrev views_now : List View
  views_now = slice_set views seat w

  same_total : (f : View → ℕ) → f w ≡ f v → total f views_now ≡ total f views
  same_total f same = let set = total_set f views seat w v its_view in omega (arith, same, set)

  stood : SeatStands s limits h steps m leads seat v
  stood = crew.seats seat v its_view placed

  noted_crew : (now : ℕ) → min now limits.actions ≡ length (booked m.books) + total one_if_counting views_now
      → now ≤ limits.actions + (total one_if_late views_now + missing h.list.kept s.workers (length h.list.crew))
      → (counting ≡ true → ((id : DequeId) × (v.deque ≡ Some id)) × (found ≡ None)) → ((stop : Stop) → found ≡ Some stop → HasCauseAmong s limits steps m leads stop)
      → Crew s limits h steps m leads now views_now
  noted_crew now counted above counts causes = record {
    places = same_total places_held refl ∙ crew.places;
    named = λ worker. crew.named worker ∙ sym (same_total (stands_for worker) refl);
    sized = crew.sized ∙ sym (same_total workers_of refl);
    once = crew.once;
    numbered = crew.numbered;
    owners = crew.owners;
    counted = counted;
    above = above;
    in_periods = crew.in_periods;
    known = each_map (λ t. t.seat < length views) (λ t. t.seat < length views_now) steps
        (λ t there low. let long = length-set views seat w in omega (arith, low, long)) crew.known;
    unplaced = each_set (λ u. u.places ≡ 0 → u ≡ joined) views seat w crew.unplaced (λ none. let n = placed in absurd (omega (arith, none, n)));
    seats = λ other u is there. elim (cases_eq other seat) [
      | inl same ↦ subst (λ n. SeatStands s limits h steps m leads n u) (sym same)
          (subst (SeatStands s limits h steps m leads seat) (same_Some w u (sym (set_same views seat w v its_view) ∙ ap (slice_get views_now) (sym same) ∙ is)) stands_now)
      | inr apart ↦ crew.seats other u (sym (set_other views seat other w apart) ∙ is) there
    ];
    none_free = λ none. crew.none_free (each_unset (λ u. u.yielded ≡ false) views seat w v its_view none (λ kept. kept));
    kept = crew.kept;
  }
    where
      stands_now : SeatStands s limits h steps m leads seat w
      stands_now = record {
        owns = stood.owns;
        owned = stood.owned;
        gone = stood.gone;
        told = stood.told;
        runs = stood.runs;
        counts = counts;
        enters = stood.enters;
        found = causes;
        answered = stood.answered;
      }

pub counts_keep_crew : (s : Setting) → CountsKeepCrew s
counts_keep_crew s limits h steps m leads count views seat v id crew its_view placed none_yet no_stop owns few =
    noted_crew s limits h steps m leads count views seat v crew its_view placed true v.found (suc count) counted above (λ holds. ((id, owns), no_stop)) (crew.seats seat v its_view placed).found
  where
    counted : min (suc count) limits.actions ≡ length (booked m.books) + total one_if_counting (slice_set views seat (noting v true v.found))
    counted =
        let was = crew.counted in let set = total_set one_if_counting views seat (noting v true v.found) v its_view in
        let one : one_if_counting (noting v true v.found) ≡ 1 = refl in let none : one_if_counting v ≡ 0 = ap (λ b. cond b 1 0) none_yet in
        omega (arith, was, set, one, none, few)

    above : suc count ≤ limits.actions + (total one_if_late (slice_set views seat (noting v true v.found)) + missing h.list.kept s.workers (length h.list.crew))
    above = omega (arith, few)

pub spent_counts_keep_crew : (s : Setting) → SpentCountsKeepCrew s
spent_counts_keep_crew s limits h steps m leads count views seat v crew its_view placed here none_yet no_stop spent more =
    noted_crew s limits h steps m leads count views seat v crew its_view placed v.counting (Some (by_rule (play.steps_spent limits.actions))) (suc count) counted above
    (λ holds. absurd (Rattle.std.proofs.Common.true≢false (sym holds ∙ none_yet)))
    (λ stop is. subst (HasCauseAmong s limits steps m leads) (same_Some (by_rule (play.steps_spent limits.actions)) stop is) (refl, more))
  where
    counted : min (suc count) limits.actions ≡ length (booked m.books) + total one_if_counting (slice_set views seat (noting v v.counting (Some (by_rule (play.steps_spent limits.actions)))))
    counted =
        let was = crew.counted in
        let set = total_set one_if_counting views seat (noting v v.counting (Some (by_rule (play.steps_spent limits.actions)))) v its_view in
        let same : one_if_counting (noting v v.counting (Some (by_rule (play.steps_spent limits.actions)))) ≡ one_if_counting v = refl in
        omega (arith, was, set, same, spent)

    above : suc count ≤ limits.actions + (total one_if_late (slice_set views seat (noting v v.counting (Some (by_rule (play.steps_spent limits.actions))))) + missing h.list.kept s.workers (length h.list.crew))
    above =
        let was = crew.above in
        let set = total_set one_if_late views seat (noting v v.counting (Some (by_rule (play.steps_spent limits.actions)))) v its_view in
        let one : one_if_late (noting v v.counting (Some (by_rule (play.steps_spent limits.actions)))) ≡ 1 = ap (in_hall v.places) here ∙ is_in v.places placed in
        let none : one_if_late v ≡ 0 = ap (λ f. by_the_limit f (one_if_in v)) no_stop in
        omega (arith, was, set, one, none)
