-- There is a verdict on each trail.
use Rattle.std.proofs.Common.{◌≡◌, ◌⊎◌, ℕ, zero, suc, ◌+◌, ◌≤◌, ◌<◌, List, [], ◌∷◌, ◌++◌, length, map, inl, inr, refl, sym, ap, subst, ◌∙◌, arith, ℤ, pos, negsuc, ◌+ℤ◌, ◌≤ℤ◌, ◌<ℤ◌}
use Rattle.std.specs.Prelude.{Option, None, Some, slice_get, unwrap_or}
use Rattle.std.specs.Int.{int_max}
use Rattle.std.proofs.lemmas.Bool.{cases_lt, cases_eq}
use Rattle.std.proofs.lemmas.Int.{ints, clamps, by_lt_z}
use Rattle.dag_order.specs.Changes.{high_water}
use Rattle.depth_first_list.specs.Actions.{weight}
use Rattle.depth_first_list.specs.Runs.{IsDepthFirst}
use Rattle.depth_first_list.specs.Facts.{deed_at, IsNext}
use Rattle.deque_machine.specs.Books.{booked, periods_marked}
use Rattle.deque_machine.proofs.Lists.{one_other}
use Rattle.deque_machine.specs.Moments.{Deque, Moment, opening, done_at, live_at, with_id}
use Rattle.deque_machine.specs.Machine.{Setting, Event, steals, does, suspends, gives_up, HasEnded, May}
use Rattle.deque_machine.specs.LawfulOrder.{IsLawful}
use Rattle.deque_machine.specs.Runs.{Pair, moves, high_water_mark}
use Rattle.deque_machine.specs.Play.{Limits, IsThiefsId}
use Rattle.deque_machine.proofs.Kept.{opening_is_lawful}
use Rattle.deque_machine.proofs.LiveThreads.{one_next}
use Rattle.deque_machine.proofs.Movers.{Decided, ended_or_not, stays_or_not}
use Rattle.deque_machine.specs.Tests.{is_next, next_from}
use Rattle.deque_machine.specs.Step.{Hand, hand_of, act_by, does_by, step}
use Rattle.deque_machine.proofs.OnePlay.{one_way}
use Rattle.deque_machine.proofs.StepComplete.{step_complete}
use Rattle.deque_machine.proofs.StepSound.{none_is_not_some, gate, step_sound}
use Rattle.deque_machine.proofs.TestLaws.{is_next_is, next_from_is, next_from_finds}
use Rattle.trail_meaning.specs.declared.trail_event.TrailEvent.{TrailEvent}
use Rattle.trail_meaning.specs.declared.trail_kind.TrailKind.{TrailKind}
use Rattle.trail_meaning.specs.declared.trail_kind.TrailKind.TheVariants.{Steal, Act, Suspend, GiveUp}
use Rattle.trail_meaning.specs.declared.trail_numbers.TrailNumbers.{TrailNumbers}
use Rattle.trail_check.specs.Following.{Tells, tells_steal, tells_action, tells_wait, tells_give_up, IsWithin, Leads, pair_of, Follows, stays, goes_on}
use Rattle.trail_check.specs.Good.{IsGood}
use Rattle.trail_check.specs.Verdicts.{AreNumbers, LeadsNowhere, TrailVerdict, accepted, bad_event, not_ended, wrong_numbers, IsVerdict, is_accepted, is_bad, is_unended, is_wrong}
use Rattle.trail_check.specs.GoodLaws.{AVerdict}
use Rattle.trail_check.proofs.Steps.{one_id, leads_lawful}

-- from some number on no deque has the id
unused : (ds : List Deque) → (n : ℕ) × ((i : ℕ) → n ≤ i → with_id i ds ≡ 0)
unused [] = (0, λ i high. refl)
unused (d ∷ ds) =
    let rest = unused ds in
    (rest.0 + suc d.id, λ i high. let none = rest.1 i (omega arith) in let other = one_other i d.id (λ e. omega arith) in omega (arith, none, other))

-- so there is a least id that no deque has
least_free : (ds : List Deque) (turns x : ℕ) → ((i : ℕ) → i < x → 0 < with_id i ds) → with_id (x + turns) ds ≡ 0
    → (id : ℕ) × (with_id id ds ≡ 0) × ((i : ℕ) → i < id → 0 < with_id i ds)
least_free ds zero x below free = (x, ap (λ i. with_id i ds) (let e : x ≡ x + 0 = omega arith in e) ∙ free, below)
least_free ds (suc turns) x below free = elim (cases_lt 0 (with_id x ds)) [
  | inr none ↦ (x, omega (arith, none), below)
  | inl some ↦ least_free ds turns (suc x) (λ i lt. elim (cases_eq i x) [ inl same ↦ subst (λ t. 0 < with_id t ds) (sym same) some | inr other ↦ below i (omega arith) ])
      (ap (λ i. with_id i ds) (let e : suc x + turns ≡ x + suc turns = omega arith in e) ∙ free)
]

free_id : (ds : List Deque) → (id : ℕ) × (with_id id ds ≡ 0) × ((i : ℕ) → i < id → 0 < with_id i ds)
free_id ds =
    let u = unused ds in
    least_free ds u.0 0 (λ i lt. absurd (omega arith)) (ap (λ i. with_id i ds) (let e : 0 + u.0 ≡ u.0 = omega arith in e) ∙ u.1 u.0 (omega arith))

-- The one event that a kind of a worker may be, if any.
record Candidate (s : Setting) (m : Moment) (worker : ℕ) (kind : TrailKind) : Type 0 where
  pub event : Event
  pub tells : Tells m kind event
  pub no_other : (other : Event) (next : Moment) → Tells m kind other → May s m worker other next → other ≡ event

NoCandidate : Setting → Moment → ℕ → TrailKind → Type 0
NoCandidate s m worker kind = (event : Event) (next : Moment) → Tells m kind event → ¬ May s m worker event next

module _ (s : Setting) (some : 0 < s.quota) (list : IsDepthFirst s.quota s.list) (m : Moment) (lawful : IsLawful s m) (worker : ℕ) where
  -- a steal
  steal_is : (place id : ℕ) → IsThiefsId m place id → (other : Event) → Tells m (Steal place) other → other ≡ steals place id
  steal_is place id named other (tells_steal place' id' named') = ap (steals place) (one_id m place id' id named' named)

  no_deque_there : (place : ℕ) → slice_get m.deques place ≡ None → (other : Event) → Tells m (Steal place) other → ⊥
  no_deque_there place is other (tells_steal place' id' named') = none_is_not_some named'.0 (sym is ∙ named'.1)

  by_id : (place id : ℕ) → IsThiefsId m place id → Candidate s m worker (Steal place)
  by_id place id named = record { event = steals place id; tells = tells_steal place id named; no_other = λ other next tells may. steal_is place id named other tells }

  by_deque : (place : ℕ) (o : Option Deque) → slice_get m.deques place ≡ o → Candidate s m worker (Steal place) ⊎ NoCandidate s m worker (Steal place)
  unfolding NoCandidate
  by_deque place None is = inr (λ event next tells may. no_deque_there place is event tells)
  by_deque place (Some d) is = elim (stays_or_not d) [
    | inl kept ↦ let free = free_id m.deques in inl (by_id place free.0 (d, is, inr (kept, free.1, free.2)))
    | inr gone ↦ inl (by_id place d.id (d, is, inl (gone, refl)))
  ]

  -- an action
  hand_does : (place : ℕ) (o : Option Hand) (next : Moment) → does_by s m worker place o ≡ Some next → (h : Hand) × (o ≡ Some h) × IsNext s.list (done_at m) h.top place
  hand_does place None next is = absurd (none_is_not_some next is)
  hand_does place (Some h) next is =
      (h, refl, is_next_is s.list (done_at m) h.top place (gate (is_next s.list (done_at m) h.top place) (act_by s m h worker place (deed_at s.list place)) next is).0)

  may_does : (place : ℕ) (next : Moment) → May s m worker (does place) next → (h : Hand) × (hand_of m worker ≡ Some h) × IsNext s.list (done_at m) h.top place
  may_does place next may = hand_does place (hand_of m worker) next (step_complete s m lawful worker (does place) next may)

  action_is : (h : Hand) → hand_of m worker ≡ Some h → (place : ℕ) → IsNext s.list (done_at m) h.top place → (other : Event) (next : Moment) → Tells m Act other
      → May s m worker other next → other ≡ does place
  action_is h is place at other next (tells_action place') may =
      let it = may_does place' next may in
      let same : (it.0).top ≡ h.top = ap (λ o. (unwrap_or o h).top) (sym it.1 ∙ is) in
      ap does (one_next s.quota s.list list (done_at m) ((lawful.periods).lawful).first_actions h.top place' place
      (subst (λ t. IsNext s.list (done_at m) t place') same it.2) at)

  no_hand : hand_of m worker ≡ None → (other : Event) (next : Moment) → Tells m Act other → ¬ May s m worker other next
  no_hand is other next (tells_action place) may = let it = may_does place next may in none_is_not_some it.0 (sym is ∙ it.1)

  no_place : (h : Hand) → hand_of m worker ≡ Some h → next_from s.list (done_at m) h.top 0 (length s.list) ≡ None → (other : Event) (next : Moment) → Tells m Act other
      → ¬ May s m worker other next
  no_place h is none other next (tells_action place) may =
      let it = may_does place next may in
      let same : (it.0).top ≡ h.top = ap (λ o. (unwrap_or o h).top) (sym it.1 ∙ is) in
      let at : IsNext s.list (done_at m) h.top place = subst (λ t. IsNext s.list (done_at m) t place) same it.2 in
      none_is_not_some place (sym none ∙ next_from_finds s.list (done_at m) h.top (length s.list) 0 place at (omega arith) (let inside = at.inside in omega arith))

  by_place : (h : Hand) → hand_of m worker ≡ Some h → (o : Option ℕ) → next_from s.list (done_at m) h.top 0 (length s.list) ≡ o
      → Candidate s m worker Act ⊎ NoCandidate s m worker Act
  unfolding NoCandidate
  by_place h is None none = inr (no_place h is none)
  by_place h is (Some place) found = inl (record {
    event = does place;
    tells = tells_action place;
    no_other = action_is h is place (next_from_is s.list (done_at m) h.top (length s.list) 0 place found);
  })

  by_hand : (o : Option Hand) → hand_of m worker ≡ o → Candidate s m worker Act ⊎ NoCandidate s m worker Act
  unfolding NoCandidate
  by_hand None is = inr (no_hand is)
  by_hand (Some h) is = by_place h is (next_from s.list (done_at m) h.top 0 (length s.list)) refl

  wait_is : (other : Event) → Tells m Suspend other → other ≡ suspends
  wait_is other tells_wait = refl

  give_up_is : (other : Event) → Tells m GiveUp other → other ≡ gives_up
  give_up_is other tells_give_up = refl

  candidate : (kind : TrailKind) → Candidate s m worker kind ⊎ NoCandidate s m worker kind
  candidate (Steal place) = by_deque place (slice_get m.deques place) refl
  candidate Act = by_hand (hand_of m worker) refl
  candidate Suspend = inl (record { event = suspends; tells = tells_wait; no_other = λ other next tells may. wait_is other tells })
  candidate GiveUp = inl (record { event = gives_up; tells = tells_give_up; no_other = λ other next tells may. give_up_is other tells })

-- a moment is within the limits, or not
within_or_not : (s : Setting) (limits : Limits) (m : Moment) → Decided (IsWithin s limits m)
within_or_not s limits m = by_lt_z (pos limits.capacity) (live_at s.list m)
    (λ over. inr (λ within. both (live_at s.list m) (pos limits.capacity) within.words over))
    (λ fits. elim (cases_lt limits.actions (length (booked m.books))) [
      | inl many ↦ inr (λ within. let few = within.actions in omega (arith, many, few))
      | inr few ↦ elim (cases_lt limits.deques (length m.deques)) [
        | inl many ↦ inr (λ within. let fewer = within.deques in omega (arith, many, fewer))
        | inr fewer ↦ inl (record { words = fits; actions = few; deques = fewer })
      ]
    ])
  where
    both : (x y : ℤ) → x ≤ℤ y → y <ℤ x → ⊥
    both x y a b = omega (arith, ints)

-- an event of a trail leads on, or nowhere
record LeadsOn (s : Setting) (limits : Limits) (m : Moment) (told : TrailEvent) : Type 0 where
  pub event : Event
  pub next : Moment
  pub leads : Leads s limits m told event next

module _ (s : Setting) (some : 0 < s.quota) (list : IsDepthFirst s.quota s.list) (limits : Limits) where
  by_within : (m : Moment) → IsLawful s m → (told : TrailEvent) (c : Candidate s m told.worker told.kind) (next : Moment) → May s m told.worker c.event next
      → Decided (IsWithin s limits next) → LeadsOn s limits m told ⊎ LeadsNowhere s limits m told
  by_within m lawful told c next may (inl within) = inl (record { event = c.event; next = next; leads = record { tells = c.tells; may = may; within = within } })
  by_within m lawful told c next may (inr out) = inr (λ event after leads.
      let same : event ≡ c.event = c.no_other event after leads.tells leads.may in
      let there : after ≡ next = one_way s some list m after next told.worker c.event lawful (subst (λ e. May s m told.worker e after) same leads.may) may in
      out (subst (IsWithin s limits) there leads.within))

  by_step : (m : Moment) → IsLawful s m → (told : TrailEvent) (c : Candidate s m told.worker told.kind) (o : Option Moment) → step s m told.worker c.event ≡ o
      → LeadsOn s limits m told ⊎ LeadsNowhere s limits m told
  by_step m lawful told c None is = inr (λ event after leads.
      let same : event ≡ c.event = c.no_other event after leads.tells leads.may in
      none_is_not_some after (sym is ∙ step_complete s m lawful told.worker c.event after (subst (λ e. May s m told.worker e after) same leads.may)))
  by_step m lawful told c (Some next) is = by_within m lawful told c next (step_sound s m told.worker c.event next is) (within_or_not s limits next)

  leads_or_not : (m : Moment) → IsLawful s m → (told : TrailEvent) → LeadsOn s limits m told ⊎ LeadsNowhere s limits m told
  unfolding NoCandidate
  leads_or_not m lawful told = elim (candidate s some list m lawful told.worker told.kind) [
    | inl c ↦ by_step m lawful told c (step s m told.worker c.event) refl
    | inr none ↦ inr (λ event after leads. none event after leads.tells leads.may)
  ]

  -- all events of a trail lead on, or one is the first that leads nowhere
  record Whole (m : Moment) (events : List TrailEvent) : Type 0 where
    pub run : List Pair
    pub last : Moment
    pub follows : Follows s limits m events run last

  record Bad (m : Moment) (events : List TrailEvent) : Type 0 where
    pub front : List TrailEvent
    pub back : List TrailEvent
    pub told : TrailEvent
    pub run : List Pair
    pub mid : Moment
    pub is : events ≡ front ++ told ∷ back
    pub follows : Follows s limits m front run mid
    pub nowhere : LeadsNowhere s limits mid told

  walk : (m : Moment) → IsLawful s m → (events : List TrailEvent) → Whole m events ⊎ Bad m events
  walk m lawful [] = inl (record { run = []; last = m; follows = stays m })
  walk m lawful (told ∷ later) = elim (leads_or_not m lawful told) [
    | inr nowhere ↦ inr (record { front = []; back = later; told = told; run = []; mid = m; is = refl; follows = stays m; nowhere = nowhere })
    | inl on ↦ elim (walk on.next (leads_lawful s some list limits m lawful told on.event on.next on.leads) later) [
      | inl w ↦ inl (record { run = pair_of told.worker on.event ∷ w.run; last = w.last; follows = goes_on m on.next w.last told on.event later w.run on.leads w.follows })
      | inr b ↦ inr (record {
        front = told ∷ b.front;
        back = b.back;
        told = b.told;
        run = pair_of told.worker on.event ∷ b.run;
        mid = b.mid;
        is = ap (λ t. told ∷ t) b.is;
        follows = goes_on m on.next b.mid told on.event b.front b.run on.leads b.follows;
        nowhere = b.nowhere;
      })
    ]
  ]

-- a high-water mark is a number
as_number : (z : ℤ) → pos 0 ≤ℤ z → (n : ℕ) × (pos n ≡ z)
as_number (pos n) above = (n, refl)
as_number (negsuc n) above = absurd (below n above)
  where
    below : (n : ℕ) → pos 0 ≤ℤ negsuc n → ⊥
    below n above = omega (arith, ints)

never_below : (changes : List ℤ) → pos 0 ≤ℤ high_water changes
never_below [] = omega (arith, ints)
never_below (x ∷ changes) = clamped (x +ℤ high_water changes)
  where
    clamped : (z : ℤ) → pos 0 ≤ℤ int_max (pos 0) z
    clamped z = omega (arith, ints, clamps)

-- so each run has its numbers
numbers_of : (s : Setting) (run : List Pair) (last : Moment) → (numbers : TrailNumbers) × AreNumbers s run last numbers
numbers_of s run last =
    let high = as_number (high_water_mark s.list run) (never_below (map weight (moves s.list run))) in
    (record { periods = length last.books; ahead = periods_marked last.books; high = high.0 }, record { periods = refl; ahead = refl; high = high.1 })

same_or_not : (a b : TrailNumbers) → Decided (a ≡ b)
same_or_not a b = elim (cases_eq a.periods b.periods) [
  | inr other ↦ inr (λ e. other (ap (λ n. n.periods) e))
  | inl periods ↦ elim (cases_eq a.ahead b.ahead) [
    | inr other ↦ inr (λ e. other (ap (λ n. n.ahead) e))
    | inl ahead ↦ elim (cases_eq a.high b.high) [
      | inr other ↦ inr (λ e. other (ap (λ n. n.high) e))
      | inl high ↦ inl (λ i. record { periods = periods i; ahead = ahead i; high = high i })
    ]
  ]
]

module _ (s : Setting) (limits : Limits) (events : List TrailEvent) (numbers : TrailNumbers) where
  by_numbers : (run : List Pair) (last : Moment) → IsGood s limits events run last → (right : TrailNumbers) → AreNumbers s run last right → Decided (right ≡ numbers)
      → (verdict : TrailVerdict) × IsVerdict s limits events numbers verdict
  by_numbers run last good right are (inl same) = (accepted (length (booked last.books)), is_accepted run last good (subst (AreNumbers s run last) same are))
  by_numbers run last good right are (inr differ) = (wrong_numbers right, is_wrong run last right good are differ)

  by_end : (run : List Pair) (last : Moment) → Follows s limits opening events run last → Decided (HasEnded s last []) → (verdict : TrailVerdict) × IsVerdict s limits events numbers verdict
  by_end run last follows (inl ended) =
      let right = numbers_of s run last in
      by_numbers run last (record { follows = follows; ended = ended }) right.0 right.1 (same_or_not right.0 numbers)
  by_end run last follows (inr none) = (not_ended (length events), is_unended run last follows none)

pub a_verdict : (s : Setting) → 0 < s.quota → IsDepthFirst s.quota s.list → AVerdict s
a_verdict s some list limits events numbers = elim (walk s some list limits opening (opening_is_lawful s list) events) [
  | inl w ↦ by_end s limits events numbers w.run w.last w.follows (ended_or_not s w.last [])
  | inr b ↦ (bad_event (suc (length b.front)), is_bad b.front b.back b.told b.run b.mid b.is b.follows b.nowhere)
]
