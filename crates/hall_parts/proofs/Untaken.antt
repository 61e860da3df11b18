-- An action without words leaves the pool as it is.
use Rattle.std.proofs.Common.{◌≡◌, ℕ, List, [], ◌++◌, length, refl, sym, ap, ◌∙◌, arith, append-nil, ℤ, pos, ◌+ℤ◌}
use Rattle.std.proofs.lemmas.Int.{ints}
use Rattle.std.specs.Prelude.{false, nat_lt, neg_ℤ}
use Rattle.hall_slots.specs.Passed.DequeMachineRuns.{is_move, moves_words}
use Rattle.hall_slots.specs.Passed.DepthFirstListActions.{Action, weight_of}
use Rattle.hall_slots.specs.Passed.Facts.{action_at, words_at, weight_at}
use Rattle.hall_slots.specs.Passed.Run.{list_of}
use Rattle.hall_slots.specs.Passed.Moved.{Moved}
use Rattle.moment_laws.specs.Moves.{noted_if}
use Rattle.hall_slots.specs.Passed.ThreadFramesActions.{deed_of}
use Rattle.hall_slots.specs.Passed.ThreadFramesViews.{label_of}
use Rattle.hall_slots.specs.Passed.NextVariants as nexts
use Rattle.hall_slots.specs.Passed.Thread.{Thread}
use Rattle.thread_points.specs.Points.{words_at_end}
use Rattle.hall_slots.specs.Passed.Writing.{PoolTakes}
use Rattle.hall_parts.specs.Here.{TakesWords}
use Rattle.hall_parts.specs.HallNames.{PoolSlot, pool_shown, ActionId, PoolShown}
use Rattle.hall_parts.specs.Quiet.{NothingIsTaken}

unweighed : (x y : ℤ) → y ≡ pos 0 → x ≡ x +ℤ y
unweighed x y none = omega (arith, ints, none)

untaken : (l : List Action) (place : ℕ) (name : ActionId) (pool : PoolShown) → weight_at l place ≡ pos 0 → is_move (action_at l place) ≡ false → PoolTakes l place name pool pool
untaken l place name pool none still = let move : Moved = record { by = name; change = weight_at l place } in record {
  live = unweighed (pos pool.live) (weight_at l place) none;
  move = move;
  by = refl;
  change = refl;
  moves = sym (append-nil pool.moves) ∙ ap (λ b. pool.moves ++ noted_if b move) (sym still);
}

-- a Join that releases nothing
pub nothing_is_taken : NothingIsTaken
nothing_is_taken child top name pool none c is =
    let w : ℕ = words_at (list_of c) is.place in
    let label : List ℕ = Action.label (action_at (list_of c) is.place) in
    untaken (list_of c) is.place name (pool_shown pool)
    (ap (λ d. weight_of d w) is.deed ∙ ap (λ n. weight_of (deed_of top (nexts.Join child)) n) (none c child is))
    (ap (λ d. moves_words d label w) is.deed ∙ ap (λ n. moves_words (deed_of top (nexts.Join child)) label n) (none c child is))

-- and the End of the root
pub root_takes_nothing : (top : Thread) (name : ActionId) (pool : PoolSlot) → label_of top ≡ [] → TakesWords nexts.End top name (pool_shown pool) (pool_shown pool)
root_takes_nothing top name pool root c is =
    let w : ℕ = words_at (list_of c) is.place in
    let label : List ℕ = Action.label (action_at (list_of c) is.place) in
    untaken (list_of c) is.place name (pool_shown pool)
    (ap (λ d. weight_of d w) is.deed ∙ ap (λ n. neg_ℤ (pos n)) (is.words ∙ ap words_at_end root))
    (ap (λ d. moves_words d label w) is.deed ∙ ap (λ (xs : List ℕ). nat_lt 0 (length xs)) (is.labelled ∙ root))
