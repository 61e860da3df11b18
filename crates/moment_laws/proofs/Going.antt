-- Runs and their moves go on.
use Rattle.std.proofs.Common.{◌≡◌, ℕ, List, [], ◌∷◌, ◌++◌, map, refl, sym, ap, subst, ◌∙◌, append_assoc, append-nil}
use Rattle.std.specs.Prelude.{filter}
use Rattle.std.proofs.lemmas.List.{map-append}
use Rattle.std.proofs.lemmas.List.Elements.{filter-append}
use Rattle.open_periods.specs.Passed.Actions.{Action}
use Rattle.open_periods.specs.Passed.Facts.{action_at}
use Rattle.open_periods.specs.Passed.Moments.{Moment, opening}
use Rattle.open_periods.specs.Passed.Machine.{Setting, Event, May}
use Rattle.open_periods.specs.Passed.DequeMachineRuns.{Pair, Reaches, place_of, places_of, is_move, moves}
use Rattle.moment_laws.specs.Steps.{RunsGoOn, MovesGoOn}

goes_on : (s : Setting) (run : List Pair) (first m after : Moment) (worker : ℕ) (event : Event) → Reaches s first run m → May s m worker event after
    → Reaches s first (run ++ record { worker = worker; event = event } ∷ []) after
goes_on s [] first m after worker event reaches may = (after, subst (λ t. May s t worker event after) (sym reaches) may, refl)
goes_on s (pair ∷ run) first m after worker event reaches may = (reaches.0, reaches.1, goes_on s run reaches.0 m after worker event reaches.2 may)

pub runs_go_on : (s : Setting) → RunsGoOn s
runs_go_on s run m after worker event reaches may = goes_on s run opening m after worker event reaches may

places_append : (xs ys : List Pair) → places_of (xs ++ ys) ≡ places_of xs ++ places_of ys
places_append [] ys = refl
places_append (x ∷ xs) ys = ap (λ t. place_of x.event ++ t) (places_append xs ys) ∙ sym (append_assoc (place_of x.event) (places_of xs) (places_of ys))

pub moves_go_on : (l : List Action) → MovesGoOn l
moves_go_on l run pair =
    ap (λ t. filter is_move (map (action_at l) t)) (places_append run (pair ∷ []))
    ∙ ap (filter is_move) (map-append (action_at l) (places_of run) (places_of (pair ∷ [])))
    ∙ filter-append is_move (map (action_at l) (places_of run)) (map (action_at l) (places_of (pair ∷ [])))
    ∙ ap (λ t. moves l run ++ filter is_move (map (action_at l) t)) (append-nil (place_of pair.event))
