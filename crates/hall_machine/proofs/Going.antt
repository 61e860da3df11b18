-- How a run of the hall goes on by one step.
use Rattle.std.proofs.Common.{◌≡◌, ◌≢◌, ℕ, suc, ◌+◌, ◌≤◌, ◌⊎◌, cond, List, [], ◌∷◌, ◌++◌, length, inl, inr, refl, sym, ap, subst, ◌∙◌, arith, append-nil, length-append}
use Rattle.std.proofs.lemmas.Bool.{eq-eqb, ne_eqb, cases_eq}
use Rattle.deque_machine.specs.Lists.{Among, Each}
use Rattle.deque_machine.proofs.Lists.{each_map, each_from, each_among}
use Rattle.deque_machine.specs.Moments.{Moment}
use Rattle.deque_machine.specs.Machine.{Setting}
use Rattle.deque_machine.specs.Runs.{moves}
use Rattle.moment_laws.specs.Passed.Periods.{Period, Adds, Replaces}
use Rattle.moment_laws.proofs.Passed.Changes.{each_has_its_book}
use Rattle.moment_laws.specs.Passed.Numbers.{NumbersWithin}
use Rattle.moment_laws.proofs.Passed.Lists.{from_within}
use Rattle.moment_laws.specs.Passed.Parts.{Parts}
use Rattle.moment_laws.specs.Standing.{StandsAt, StandsAfter}
use Rattle.moment_laws.proofs.Going.{runs_go_on, moves_go_on}
use Rattle.hall_machine.specs.Values.{Hall, parts_of, showing_of}
use Rattle.hall_machine.specs.Steps.{Step, Tells, run_of, if_same, name_told, names_in}
use Rattle.hall_machine.specs.Standing.{IsInShape, RanBy, HallStands, Went, StepsAreARun}

module _ {X : Type 0} where
  pub if_same_is : (n k : ℕ) (xs : List X) → n ≡ k → if_same n k xs ≡ xs
  if_same_is n k xs same = ap (λ b. cond b xs []) (eq-eqb n k same)

  pub if_same_other : (n k : ℕ) (xs : List X) → n ≢ k → if_same n k xs ≡ []
  if_same_other n k xs other = ap (λ b. cond b xs []) (ne_eqb n k other)

  pub if_same_nothing : (n k : ℕ) (xs : List X) → xs ≡ [] → if_same n k xs ≡ []
  if_same_nothing n k xs none = elim (cases_eq n k) [ inl same ↦ if_same_is n k xs same ∙ none | inr other ↦ if_same_other n k xs other ]

pub steps_are_a_run : (s : Setting) → StepsAreARun s
steps_are_a_run s [] m leads = sym leads
steps_are_a_run s (step ∷ earlier) m leads =
    runs_go_on s (run_of earlier) leads.0 m step.worker step.event (steps_are_a_run s earlier leads.0 leads.1) leads.2

module _ (s : Setting) (h : Hall) (steps : List Step) (m : Moment) (at : HallStands s h steps m) where
  abbrev before : List Period
  before = Parts.periods (parts_of h)

  -- a period was begun
  pub number_within : (p : Period) → Among p before → p.number ≤ h.list.begun
  number_within p there =
      let cut = each_has_its_book s.quota s.list before m.books p at.standing.shows.books there in
      let number = cut.numbered in
      let long = ap length cut.books_are ∙ length-append cut.older (cut.book ∷ cut.newer) in
      let begun = at.standing.begun in
      omega (arith, number, long, begun)

  pub numbers_within : NumbersWithin before h.list.begun
  numbers_within = from_within before h.list.begun (each_from (λ p. p.number ≤ h.list.begun) before number_within)

  -- what is done in another period is nothing to this one
  skipped : (step : Step) (p : Period) → p.number ≢ step.period → RanBy steps p → RanBy (step ∷ steps) p
  skipped step p other ran = ran
      ∙ sym (ap (λ t. names_in p.number steps ++ t) (if_same_other p.number step.period (name_told step.told) other) ∙ append-nil (names_in p.number steps))

  -- nor is what is no action
  pub idle_ran : (step : Step) (p : Period) → name_told step.told ≡ [] → RanBy steps p → RanBy (step ∷ steps) p
  idle_ran step p idle ran = ran
      ∙ sym (ap (λ t. names_in p.number steps ++ t) (if_same_nothing p.number step.period (name_told step.told) idle) ∙ append-nil (names_in p.number steps))

  -- a period ran one action more, or was closed
  pub ran_on : (step : Step) (old new : Period) (next : List Period) → Replaces before old new next → step.period ≡ old.number
      → new.ran ≡ old.ran ++ name_told step.told → Each (RanBy (step ∷ steps)) next
  ran_on step old new next replaces is ran = each_from (RanBy (step ∷ steps)) next (λ p there.
      elim (each_among (λ q. (q ≡ new) ⊎ (Among q before × (q.number ≢ old.number))) p next replaces.no_more there) [
        | inl same ↦ subst (RanBy (step ∷ steps)) (sym same) here
        | inr other ↦ skipped step p (λ e. other.1 (e ∙ is)) (each_among (RanBy steps) p before at.ran other.0)
      ])
    where
      here : RanBy (step ∷ steps) new
      here = ran ∙ ap (λ t. t ++ name_told step.told) (each_among (RanBy steps) old before at.ran replaces.was_there)
          ∙ ap (λ n. names_in n steps ++ name_told step.told) (sym replaces.same_number)
          ∙ ap (λ t. names_in new.number steps ++ t) (sym (if_same_is new.number step.period (name_told step.told) (replaces.same_number ∙ sym is)))

  -- no step is of a period above those that were begun
  none_above : (earlier : List Step) (n : ℕ) → Each (λ step. step.period ≤ h.list.begun) earlier → h.list.begun + 1 ≤ n → names_in n earlier ≡ []
  none_above [] n all above = refl
  none_above (step ∷ earlier) n all above =
      ap (λ t. t ++ if_same n step.period (name_told step.told)) (none_above earlier n all.1 above)
      ∙ if_same_other n step.period (name_told step.told) (λ e. let low = all.0 in absurd (omega (arith, low, above, e)))

  -- a period begins, which ran nothing
  pub ran_at_a_beginning : (step : Step) (new : Period) (next : List Period) → Adds before new next → name_told step.told ≡ [] → new.number ≡ suc h.list.begun → new.ran ≡ []
      → Each (RanBy (step ∷ steps)) next
  ran_at_a_beginning step new next adds idle number ran = each_from (RanBy (step ∷ steps)) next (λ p there. idle_ran step p idle
      (elim (each_among (λ q. (q ≡ new) ⊎ Among q before) p next adds.no_more there) [
        | inl same ↦ subst (RanBy steps) (sym same) (ran ∙ sym (none_above steps new.number at.tagged (omega (arith, number))))
        | inr was ↦ each_among (RanBy steps) p before at.ran was
      ]))

  -- the hall stands at the next moment
  pub went : (after : Hall) (step : Step) → StandsAfter s (showing_of after) (moves s.list (run_of steps)) m step.worker step.event
      → Tells s.list m step.event step.period step.told → IsInShape after → Each (RanBy (step ∷ steps)) (Parts.periods (parts_of after))
      → step.period ≤ after.list.begun → h.list.begun ≤ after.list.begun → Went s after steps m step
  went after step stands tells shape ran within rises = (
    stands.0,
    stands.1,
    tells,
    record {
      standing = subst (λ ms. StandsAt s (showing_of after) ms stands.0) (sym (moves_go_on s.list (run_of steps) (record { worker = step.worker; event = step.event }))) stands.2;
      shape = shape;
      ran = ran;
      tagged = (within, each_map (λ t. t.period ≤ h.list.begun) (λ t. t.period ≤ after.list.begun) steps (λ t there low. omega (arith, low, rises)) at.tagged);
    },
  )
