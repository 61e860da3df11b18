-- The actions of a period are those that its seat was told from its theft to the next one.
use Rattle.std.proofs.Common.{◌≡◌, ◌≢◌, ℕ, suc, ◌+◌, ◌<◌, ◌≤◌, ◌⊎◌, Bool, false, nat_eq, List, [], ◌∷◌, ◌++◌, length, inl, inr, refl, sym, ap, subst, ◌∙◌, arith, append-nil}
use Rattle.std.specs.Prelude.{Option, None, Some}
use Rattle.std.proofs.lemmas.Option.{none-some, same_Some}
use Rattle.std.proofs.lemmas.Bool.{cases_eq}
use Rattle.deque_machine.specs.Lists.{Among, Each}
use Rattle.deque_machine.proofs.Lists.{each_map, each_among, each_join, among_parts}
use Rattle.deque_machine.specs.Moments.{Moment}
use Rattle.deque_machine.specs.Machine.{Setting, Event, steals, does, suspends, gives_up, May}
use Rattle.moment_laws.proofs.Told.{actions_are_added, others_add_none}
use Rattle.hall_machine.specs.Steps.{Step, Told, stole, did, waited, gave_up, halted, Tells, Leads, told_to, last_from, last_theft, IsOfItsPeriod, InTheirPeriods}
use Rattle.hall_machine.proofs.Going.{if_same_is, if_same_other}

-- ---- what is told, by itself

-- the number of the period that is begun, or 0
abbrev begun_by : Told → ℕ
begun_by (stole deque period) = period
begun_by (did name) = 0
begun_by (waited thread) = 0
begun_by (gave_up deque) = 0
begun_by (halted end) = 0

abbrev IsTheft : Told → Type 0
IsTheft (stole deque period) = Unit {0}
IsTheft (did name) = ⊥
IsTheft (waited thread) = ⊥
IsTheft (gave_up deque) = ⊥
IsTheft (halted end) = ⊥

-- 'inside' is by the last theft
abbrev is_in : ℕ → Option ℕ → Bool
is_in n None = false
is_in n (Some period) = nat_eq n period

-- the last theft is one of those that are told
last_among : (last : Option ℕ) (xs : List Told) (n : ℕ) → last_from last xs ≡ Some n → (last ≡ Some n) ⊎ ((deque : ℕ) × Among (stole deque n) xs)
last_among last [] n is = inl is
last_among last (stole deque period ∷ xs) n is = elim (last_among (Some period) xs n is) [
  | inl here ↦ inr (deque, inl (ap (stole deque) (sym (same_Some period n here))))
  | inr later ↦ inr (later.0, inr later.1)
]
last_among last (did name ∷ xs) n is = elim (last_among last xs n is) [ inl here ↦ inl here | inr later ↦ inr (later.0, inr later.1) ]
last_among last (waited thread ∷ xs) n is = elim (last_among last xs n is) [ inl here ↦ inl here | inr later ↦ inr (later.0, inr later.1) ]
last_among last (gave_up deque ∷ xs) n is = elim (last_among last xs n is) [ inl here ↦ inl here | inr later ↦ inr (later.0, inr later.1) ]
last_among last (halted end ∷ xs) n is = elim (last_among last xs n is) [ inl here ↦ inl here | inr later ↦ inr (later.0, inr later.1) ]

last_there : (xs : List Told) (n : ℕ) → last_theft xs ≡ Some n → (deque : ℕ) × Among (stole deque n) xs
last_there xs n is = elim (last_among None xs n is) [ inl none ↦ absurd (none-some n none) | inr there ↦ there ]

-- ---- one step more

-- a step begins a period, whose number is above all before, or is in the period of its seat's last theft
pub record Begins (before m : Moment) (period : ℕ) (told : Told) : Type 0 where
  pub deque : ℕ
  pub told_is : told ≡ stole deque period
  pub next_one : period ≡ suc (length before.books)
  pub one_more : length m.books ≡ length before.books + 1

pub record Continues (before m : Moment) (period : ℕ) (told : Told) (earlier : List Told) : Type 0 where
  pub no_theft : IsTheft told → ⊥
  pub of_last : last_theft earlier ≡ Some period
  pub no_more : length m.books ≡ length before.books

plus_none : (a b : ℕ) → a ≡ b + 0 → a ≡ b
plus_none a b same = omega (arith, same)

by_event : (s : Setting) (before m : Moment) (worker : ℕ) (event : Event) (period : ℕ) (told : Told) (earlier : List Told) → May s before worker event m
    → Tells s.list before event period told → IsOfItsPeriod event period earlier → Begins before m period told ⊎ Continues before m period told earlier
by_event s before m worker (steals place id) period told earlier may tells of_it =
    inl (record { deque = id; told_is = tells.0; next_one = tells.1; one_more = ((others_add_none s before m worker).2 place id may).books })
by_event s before m worker (does place) period told earlier may tells of_it =
    inr (record { no_theft = λ theft. subst IsTheft tells.1 theft; of_last = of_it; no_more = (actions_are_added s before m worker place may).books })
by_event s before m worker suspends period told earlier may tells of_it =
    inr (record { no_theft = λ theft. subst IsTheft tells.1 theft; of_last = of_it; no_more = plus_none (length m.books) (length before.books) ((others_add_none s before m worker).0 may).books })
by_event s before m worker gives_up period told earlier may tells of_it =
    inr (record { no_theft = λ theft. subst IsTheft tells.1 theft; of_last = of_it; no_more = plus_none (length m.books) (length before.books) ((others_add_none s before m worker).1 may).books })

no_theft_begins : (told : Told) → (IsTheft told → ⊥) → begun_by told ≡ 0
no_theft_begins (stole deque period) none = absurd (none tt)
no_theft_begins (did name) none = refl
no_theft_begins (waited thread) none = refl
no_theft_begins (gave_up deque) none = refl
no_theft_begins (halted end) none = refl

-- who was told what, with one step more
told_own : (seat : ℕ) (step : Step) (earlier : List Step) → seat ≡ step.seat → told_to seat (step ∷ earlier) ≡ told_to seat earlier ++ step.told ∷ []
told_own seat step earlier same = ap (λ t. told_to seat earlier ++ t) (if_same_is seat step.seat (step.told ∷ []) same)

told_others : (seat : ℕ) (step : Step) (earlier : List Step) → seat ≢ step.seat → told_to seat (step ∷ earlier) ≡ told_to seat earlier
told_others seat step earlier other = ap (λ t. told_to seat earlier ++ t) (if_same_other seat step.seat (step.told ∷ []) other) ∙ append-nil (told_to seat earlier)

among_told : (x : Told) (seat : ℕ) (step : Step) (earlier : List Step) → Among x (told_to seat (step ∷ earlier)) → Among x (told_to seat earlier) ⊎ ((seat ≡ step.seat) × (x ≡ step.told))
among_told x seat step earlier there = elim (cases_eq seat step.seat) [
  | inl same ↦ elim (among_parts x (told_to seat earlier) (step.told ∷ []) (subst (Among x) (told_own seat step earlier same) there)) [
    | inl before ↦ inl before
    | inr last ↦ elim last [ inl is ↦ inr (same, is) | inr nowhere ↦ absurd nowhere ]
  ]
  | inr other ↦ inl (subst (Among x) (told_others seat step earlier other) there)
]

each_told : (P : Told → Type 0) (seat : ℕ) (step : Step) (earlier : List Step) → Each P (told_to seat earlier) → P step.told → Each P (told_to seat (step ∷ earlier))
each_told P seat step earlier all one = elim (cases_eq seat step.seat) [
  | inl same ↦ subst (Each P) (sym (told_own seat step earlier same)) (each_join P (told_to seat earlier) (step.told ∷ []) all (one, tt))
  | inr other ↦ subst (Each P) (sym (told_others seat step earlier other)) all
]

-- ---- along the steps

module _ (s : Setting) where
  -- no number is above that of the period that was begun last
  pub record Numbered (steps : List Step) (m : Moment) : Type 0 where
    pub of_steps : Each (λ step. step.period ≤ length m.books) steps
    pub of_seats : (seat : ℕ) → Each (λ t. begun_by t ≤ length m.books) (told_to seat steps)

  numbered : (steps : List Step) (m : Moment) → Leads s steps m → InTheirPeriods steps → Numbered steps m
  numbered [] m leads periods = record { of_steps = tt; of_seats = λ seat. tt }
  numbered (step ∷ earlier) m leads periods =
      let before : Moment = leads.0 in
      let rest = numbered earlier before leads.1 periods.1 in
      elim (by_event s before m step.worker step.event step.period step.told (told_to step.seat earlier) leads.2 leads.3 periods.0) [
        | inl begins ↦
            let more = begins.one_more in let next = begins.next_one in record {
              of_steps = (omega (arith, more, next), each_map (λ x. x.period ≤ length before.books) (λ x. x.period ≤ length m.books) earlier (λ x there low. omega (arith, more, low)) rest.of_steps);
              of_seats = λ seat. each_told (λ t. begun_by t ≤ length m.books) seat step earlier
                  (each_map (λ t. begun_by t ≤ length before.books) (λ t. begun_by t ≤ length m.books) (told_to seat earlier) (λ t there low. omega (arith, more, low)) (rest.of_seats seat))
                  (let is = ap begun_by begins.told_is in omega (arith, more, next, is));
            }
        | inr continues ↦
            let same = continues.no_more in
            let last = last_there (told_to step.seat earlier) step.period continues.of_last in
            let low = each_among (λ t. begun_by t ≤ length before.books) (stole last.0 step.period) (told_to step.seat earlier) (rest.of_seats step.seat) last.1 in
            record {
              of_steps = (omega (arith, same, low), each_map (λ x. x.period ≤ length before.books) (λ x. x.period ≤ length m.books) earlier (λ x there lower. omega (arith, same, lower)) rest.of_steps);
              of_seats = λ seat. each_told (λ t. begun_by t ≤ length m.books) seat step earlier
                  (each_map (λ t. begun_by t ≤ length before.books) (λ t. begun_by t ≤ length m.books) (told_to seat earlier) (λ t there lower. omega (arith, same, lower)) (rest.of_seats seat))
                  (let none = no_theft_begins step.told continues.no_theft in omega (arith, none));
            }
      ]

  -- two seats began no period of one number
  pub one_seat : (steps : List Step) (m : Moment) → Leads s steps m → InTheirPeriods steps → (a b deque other n : ℕ) → Among (stole deque n) (told_to a steps)
      → Among (stole other n) (told_to b steps) → a ≡ b
  one_seat [] m leads periods a b deque other n first second = absurd first
  one_seat (step ∷ earlier) m leads periods a b deque other n first second =
      let before : Moment = leads.0 in
      let rest = numbered earlier before leads.1 periods.1 in
      elim (by_event s before m step.worker step.event step.period step.told (told_to step.seat earlier) leads.2 leads.3 periods.0) [
        | inl begins ↦ elim (among_told (stole deque n) a step earlier first) [
          | inl first_before ↦ elim (among_told (stole other n) b step earlier second) [
            | inl second_before ↦ one_seat earlier before leads.1 periods.1 a b deque other n first_before second_before
            | inr now ↦
                let low = each_among (λ t. begun_by t ≤ length before.books) (stole deque n) (told_to a earlier) (rest.of_seats a) first_before in
                let is = ap begun_by (now.1 ∙ begins.told_is) in let next = begins.next_one in absurd (omega (arith, low, is, next))
          ]
          | inr now ↦ elim (among_told (stole other n) b step earlier second) [
            | inl second_before ↦
                let low = each_among (λ t. begun_by t ≤ length before.books) (stole other n) (told_to b earlier) (rest.of_seats b) second_before in
                let is = ap begun_by (now.1 ∙ begins.told_is) in let next = begins.next_one in absurd (omega (arith, low, is, next))
            | inr too ↦ now.0 ∙ sym too.0
          ]
        ]
        | inr continues ↦ elim (among_told (stole deque n) a step earlier first) [
          | inr now ↦ absurd (continues.no_theft (subst IsTheft now.1 tt))
          | inl first_before ↦ elim (among_told (stole other n) b step earlier second) [
            | inr now ↦ absurd (continues.no_theft (subst IsTheft now.1 tt))
            | inl second_before ↦ one_seat earlier before leads.1 periods.1 a b deque other n first_before second_before
          ]
        ]
      ]

  -- the number of a period that a seat began
  pub number_within : (steps : List Step) (m : Moment) → Leads s steps m → InTheirPeriods steps → (seat deque n : ℕ) → Among (stole deque n) (told_to seat steps)
      → (0 < n) × (n ≤ length m.books)
  number_within [] m leads periods seat deque n there = absurd there
  number_within (step ∷ earlier) m leads periods seat deque n there =
      let before : Moment = leads.0 in
      elim (by_event s before m step.worker step.event step.period step.told (told_to step.seat earlier) leads.2 leads.3 periods.0) [
        | inl begins ↦ let more = begins.one_more in let next = begins.next_one in elim (among_told (stole deque n) seat step earlier there) [
          | inl was ↦
              let rest = number_within earlier before leads.1 periods.1 seat deque n was in let some = rest.0 in let low = rest.1 in
              (omega (arith, some), omega (arith, low, more))
          | inr now ↦ let is = ap begun_by (now.1 ∙ begins.told_is) in (omega (arith, is, next), omega (arith, is, next, more))
        ]
        | inr continues ↦ let same = continues.no_more in elim (among_told (stole deque n) seat step earlier there) [
          | inl was ↦
              let rest = number_within earlier before leads.1 periods.1 seat deque n was in let some = rest.0 in let low = rest.1 in
              (omega (arith, some), omega (arith, low, same))
          | inr now ↦ absurd (continues.no_theft (subst IsTheft now.1 tt))
        ]
      ]
