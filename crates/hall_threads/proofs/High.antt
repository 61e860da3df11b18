-- The greatest sum of the moves is the high-water mark of the run.
use Rattle.std.proofs.Common.{◌≡◌, ℤ, SFits, pos, negsuc, ◌≤ℤ◌, to_z, of_z, w64, List, [], ◌∷◌, map, refl, ap, ◌∙◌, arith}
use Rattle.std.proofs.lemmas.Int.{to_z-of_z, ints}
use Rattle.std.proofs.Math.IntN.{nat_abs}
use Rattle.dag_order.specs.Changes.{high_water}
use Rattle.depth_first_list.specs.Actions.{Action, weight}
use Rattle.deque_machine.specs.Runs.{Pair, moves, high_water_mark}
use Rattle.hall_slots.specs.Passed.Periods.{Period}
use Rattle.space_ledger.specs.declared.moved.Moved.{Moved}
use Rattle.space_ledger.specs.Sums.{change_of, highest, IsHighest}
use Rattle.scheduler_state.specs.Passed.Moves.{AreMovesOf}

changes_are : (periods : List Period) (moved : List Moved) (actions : List Action) → AreMovesOf periods moved actions
    → map change_of moved ≡ map weight actions
changes_are periods [] [] are = refl
changes_are periods [] (action ∷ actions) are = absurd are
changes_are periods (moved ∷ rest) [] are = absurd are
changes_are periods (moved ∷ rest) (action ∷ actions) are =
    ap (λ z. z ∷ map change_of rest) are.0.change ∙ ap (λ zs. weight action ∷ zs) (changes_are periods rest actions are.1)

pub high_is : (l : List Action) (run : List Pair) (periods : List Period) (moved : List Moved) → AreMovesOf periods moved (moves l run)
    → highest moved ≡ high_water_mark l run
high_is l run periods moved are = ap high_water (changes_are periods moved (moves l run) are)

-- it is a number from 0 on, and so it is as a word
positive : (z : ℤ) → pos 0 ≤ℤ z → pos (nat_abs z) ≡ z
positive (pos n) some = refl
positive (negsuc n) some = absurd (omega (arith, ints, some))

pub as_word : (moved : List Moved) (high : ℤ) → high ≡ highest moved → IsHighest moved high → SFits w64 high
    → pos (nat_abs (to_z w64 (of_z w64 high))) ≡ highest moved
as_word moved high is greatest fits =
    ap (λ z. pos (nat_abs z)) (to_z-of_z w64 high fits) ∙ positive high (greatest.never_above 0) ∙ is
