-- The law of the seats where one seat notes something else, and the list another crew or another end.
use Rattle.std.proofs.Common.{◌≡◌, ◌≢◌, ℕ, ◌+◌, ◌<◌, ◌≤◌, false, List, length, inl, inr, sym, ap, subst, ◌∙◌, arith, length-set}
use Rattle.std.proofs.lemmas.Bool.{cases_eq}
use Rattle.std.specs.Prelude.{Option, Some, slice_get, slice_set}
use Rattle.std.proofs.lemmas.Option.{same_Some}
use Rattle.deque_machine.specs.Lists.{Each, total, times}
use Rattle.deque_machine.specs.Books.{booked}
use Rattle.deque_machine.proofs.Lists.{each_map}
use Rattle.deque_machine.specs.Moments.{Moment}
use Rattle.deque_machine.specs.Machine.{Setting}
use Rattle.deque_machine.specs.Play.{Limits}
use Rattle.moment_laws.proofs.Passed.Lists.{set_same, set_other}
use Rattle.hall_machine.specs.Values.{Hall, End}
use Rattle.hall_machine.specs.Steps.{Step, Leads}
use Rattle.hall_machine.specs.Views.{View, joined, stands_for, workers_of, places_held, one_if_counting, one_if_late}
use Rattle.hall_machine.specs.Crew.{MayBeKept, SeatStands, Crew, missing}
use Rattle.hall_machine.specs.Seats.{with_crew, CrewsStand}
use Rattle.hall_machine.proofs.Notes.{total_set, each_set, each_unset}

pub crews_stand : (s : Setting) → CrewsStand s
crews_stand s h steps m crew kept at = record {
  standing = at.standing;
  shape = record { lanes = at.shape.lanes; numbers = at.shape.numbers };
  ran = at.ran;
  tagged = at.tagged;
}

-- a sum in which one seat counts as before
pub same_total : (views : List View) (seat : ℕ) (v w : View) → slice_get views seat ≡ Some v → (f : View → ℕ) → f w ≡ f v → total f (slice_set views seat w) ≡ total f views
same_total views seat v w its_view f same = let set = total_set f views seat w v its_view in omega (arith, same, set)

-- all seats, where one notes something else
pub seats_set : (Stands : ℕ → View → Type 0) (views : List View) (seat : ℕ) (v w : View) → slice_get views seat ≡ Some v
    → ((n : ℕ) (u : View) → n ≢ seat → slice_get views n ≡ Some u → 0 < u.places → Stands n u) → (0 < w.places → Stands seat w)
    → (n : ℕ) (u : View) → slice_get (slice_set views seat w) n ≡ Some u → 0 < u.places → Stands n u
seats_set Stands views seat v w its_view others own n u is there = elim (cases_eq n seat) [
  | inl same ↦
      let its : w ≡ u = same_Some w u (sym (set_same views seat w v its_view) ∙ ap (slice_get (slice_set views seat w)) (sym same) ∙ is) in
      subst (λ k. Stands k u) (sym same) (subst (Stands seat) its (own (subst (λ x. 0 < View.places x) (sym its) there)))
  | inr apart ↦ others n u apart (sym (set_other views seat n w apart) ∙ is) there
]

module _ (s : Setting) (limits : Limits) (h : Hall) (steps : List Step) (m : Moment) (leads : Leads s steps m) where
  -- a seat stands where the list has another crew, and keeps the end that it kept
  pub stands_with : (crew : List ℕ) (kept : Option End) → ((end : End) → h.list.kept ≡ Some end → kept ≡ Some end) → (n : ℕ) (u : View)
      → SeatStands s limits h steps m leads n u → SeatStands s limits (with_crew h crew kept) steps m leads n u
  stands_with crew kept keeps n u stood = record {
    owns = stood.owns;
    owned = stood.owned;
    gone = stood.gone;
    told = stood.told;
    runs = stood.runs;
    counts = stood.counts;
    enters = stood.enters;
    found = stood.found;
    answered = λ end is. keeps end (stood.answered end is);
  }

  module _ (count : ℕ) (views : List View) (seat : ℕ) (v w : View) (was : Crew s limits h steps m leads count views) (its_view : slice_get views seat ≡ Some v) (crew : List ℕ) (kept : Option End) where
    abbrev after : Hall
    after = with_crew h crew kept

    abbrev views_now : List View
    views_now = slice_set views seat w

    pub one_noted : 0 < v.places → w.places ≡ v.places
        → ((worker : ℕ) → times worker crew ≡ total (stands_for worker) views_now) → length crew ≡ total workers_of views_now
        → ((worker : ℕ) → times worker crew ≤ 1) → Each (λ worker. worker < s.workers) crew
        → Each (λ place. (worker : ℕ) → place.owner ≡ Some worker → 0 < times worker crew) h.list.places
        → one_if_counting w ≡ one_if_counting v
        → count ≤ limits.actions + (total one_if_late views_now + missing kept s.workers (length crew))
        → ((end : End) → h.list.kept ≡ Some end → kept ≡ Some end)
        → SeatStands s limits after steps m leads seat w → (w.yielded ≡ false → v.yielded ≡ false)
        → ((end : End) → kept ≡ Some end → MayBeKept s limits steps m leads h.list.places end) → Crew s limits after steps m leads count views_now
    one_noted placed same_places named sized once numbered owners same_counting above keeps stands yields may = record {
      places = same_total views seat v w its_view places_held same_places ∙ was.places;
      named = named;
      sized = sized;
      once = once;
      numbered = numbered;
      owners = owners;
      counted = was.counted ∙ ap (λ n. length (booked m.books) + n) (sym (same_total views seat v w its_view one_if_counting same_counting));
      above = above;
      in_periods = was.in_periods;
      known = each_map (λ step. step.seat < length views) (λ step. step.seat < length views_now) steps
          (λ step there low. let long = length-set views seat w in omega (arith, low, long)) was.known;
      unplaced = each_set (λ u. u.places ≡ 0 → u ≡ joined) views seat w was.unplaced
          (λ none. let some = placed in let same = same_places in absurd (omega (arith, some, same, none)));
      seats = seats_set (λ n u. SeatStands s limits after steps m leads n u) views seat v w its_view
          (λ n u apart is there. stands_with crew kept keeps n u (was.seats n u is there)) (λ there. stands);
      none_free = λ none. was.none_free (each_unset (λ u. u.yielded ≡ false) views seat w v its_view none yields);
      kept = may;
    }

    -- where it stands for the same workers, and the crew is as it was
    pub one_noted_alone : 0 < v.places → w.places ≡ v.places → crew ≡ h.list.crew → ((worker : ℕ) → stands_for worker w ≡ stands_for worker v) → workers_of w ≡ workers_of v
        → one_if_counting w ≡ one_if_counting v
        → count ≤ limits.actions + (total one_if_late views_now + missing kept s.workers (length h.list.crew))
        → ((end : End) → h.list.kept ≡ Some end → kept ≡ Some end)
        → SeatStands s limits after steps m leads seat w → (w.yielded ≡ false → v.yielded ≡ false)
        → ((end : End) → kept ≡ Some end → MayBeKept s limits steps m leads h.list.places end) → Crew s limits after steps m leads count views_now
    one_noted_alone placed same_places same_crew same_stands same_workers same_counting above keeps stands yields may =
        one_noted placed same_places
        (λ worker. ap (times worker) same_crew ∙ was.named worker ∙ sym (same_total views seat v w its_view (stands_for worker) (same_stands worker)))
        (ap length same_crew ∙ was.sized ∙ sym (same_total views seat v w its_view workers_of same_workers))
        (λ worker. subst (λ c. times worker c ≤ 1) (sym same_crew) (was.once worker))
        (subst (Each (λ worker. worker < s.workers)) (sym same_crew) was.numbered)
        (subst (λ c. Each (λ place. (worker : ℕ) → place.owner ≡ Some worker → 0 < times worker c) h.list.places) (sym same_crew) was.owners)
        same_counting
        (subst (λ c. count ≤ limits.actions + (total one_if_late views_now + missing kept s.workers (length c))) (sym same_crew) above)
        keeps stands yields may
