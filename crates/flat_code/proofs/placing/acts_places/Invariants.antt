use Rattle.std.proofs.Common.{◌≡◌, ◌++◌, drop}
use Rattle.flat_expressions.specs.Shown.{acts_shown}
use Rattle.flat_code.specs.Made.{acts_placed}
use Rattle.flat_code.specs.Shown.{frames_shown, places_shown}
use Rattle.flat_code.proofs.placing.acts_places.Given as goal

-- the places so far, and those of the acts that are left, are those of all acts
abbrev pub invariant-loop-act : goal.invariant-loop-act
invariant-loop-act l =
    places_shown l.places.items ++ acts_placed (frames_shown l.here) (acts_shown (drop l.act-index l.acts))
    ≡ acts_placed (frames_shown l.here) (acts_shown l.acts)
