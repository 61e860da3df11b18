-- The moves of a run sum up to the words in use.
use Rattle.std.proofs.Common.{◌≡◌, ℕ, ◌<◌, List, [], ◌∷◌, map, inl, inr, refl, sym, ap, ◌∙◌, arith, cond, ℤ, pos, ◌+ℤ◌}
use Rattle.std.specs.Prelude.{filter}
use Rattle.std.proofs.lemmas.Bool.{cases_Bool}
use Rattle.std.proofs.lemmas.Int.{ints}
use Rattle.open_periods.specs.Passed.Actions.{Action, live_words}
use Rattle.open_periods.specs.Passed.DepthFirstListRuns.{IsDepthFirst}
use Rattle.open_periods.specs.Passed.Facts.{action_at, weight_at}
use Rattle.open_periods.proofs.Passed.Parts.{live_append}
use Rattle.open_periods.specs.Passed.Moments.{Moment, live_at}
use Rattle.open_periods.specs.Passed.Machine.{Setting, Event, steals, does, suspends, gives_up, May}
use Rattle.open_periods.specs.Passed.DequeMachineRuns.{Pair, place_of, is_move, moves}
use Rattle.open_periods.proofs.Passed.Reached.{event_writes, place_inside, no_move_weighs_nothing}
use Rattle.moment_laws.specs.Steps.{SumsGoOn}
use Rattle.moment_laws.proofs.Going.{moves_go_on}

module _ (s : Setting) (some : 0 < s.quota) (list : IsDepthFirst s.quota s.list) where
  -- the move of an event, if it is one, weighs what the event writes
  move_weighs : (m after : Moment) (worker : ℕ) (event : Event) → May s m worker event after
      → live_words (filter is_move (map (action_at s.list) (place_of event))) ≡ live_words (map (action_at s.list) (place_of event))
  move_weighs m after worker (steals place id) may = refl
  move_weighs m after worker suspends may = refl
  move_weighs m after worker gives_up may = refl
  move_weighs m after worker (does place) may = elim (cases_Bool (is_move (action_at s.list place))) [
    | inl moved ↦ ap (λ b. live_words (cond b (action_at s.list place ∷ []) [])) moved
    | inr none ↦ ap (λ b. live_words (cond b (action_at s.list place ∷ []) [])) none
        ∙ nothing (weight_at s.list place) (no_move_weighs_nothing s.quota s.list list place (place_inside s m worker place after may) none)
  ]
    where
      nothing : (w : ℤ) → w ≡ pos 0 → pos 0 ≡ w +ℤ pos 0
      nothing w none = omega (arith, ints)

  pub sums_go_on : SumsGoOn s
  sums_go_on run m after worker event sum may =
      let pair : Pair = record { worker = worker; event = event } in
      let here : List Action = filter is_move (map (action_at s.list) (place_of event)) in
      ap live_words (moves_go_on s.list run pair) ∙ live_append (moves s.list run) here ∙ ap (λ t. t +ℤ live_words here) sum
      ∙ ap (λ t. live_at s.list m +ℤ t) (move_weighs m after worker event may) ∙ sym (event_writes s m worker event after may).live
