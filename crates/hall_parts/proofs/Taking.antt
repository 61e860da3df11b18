-- What an action took from the pool or gave back is what the law of the hall asks for.
use Rattle.std.proofs.Common.{◌≡◌, ℕ, ◌+◌, ◌-◌, ◌≤◌, ◌<◌, [], ◌∷◌, ◌++◌, refl, sym, ap, subst, ◌∙◌, arith}
use Rattle.std.proofs.lemmas.Bool.{lt-ltb}
use Rattle.std.proofs.lemmas.Int.{ints}
use Rattle.std.specs.Prelude.{Bool, true, nat_lt, Some, ℤ, pos, neg_ℤ, ◌+ℤ◌, ◌-ℤ◌, IsTrue}
use Rattle.hall_parts.specs.HallNames.{ActionId, TellsWords, TellsJoin, deed_of, is_there, label_of, children_of, newest, result_of, released_by}
use Rattle.hall_parts.specs.HallNames.{join_words_of, Next, Thread}
use Rattle.hall_slots.specs.Passed.DepthFirstListActions.{weight_of}
use Rattle.hall_slots.specs.Passed.Facts.{action_at, deed_at, words_at, weight_at}
use Rattle.hall_slots.specs.Passed.Run.{list_of}
use Rattle.hall_slots.specs.Passed.DequeMachineRuns.{is_move, moves_words}
use Rattle.space_ledger.specs.declared.moves.Moves.{Moves}
use Rattle.space_ledger.specs.declared.moved.Moved.{Moved}
use Rattle.space_ledger.specs.MovesList.{moves_list}
use Rattle.moment_laws.specs.Moves.{noted_if}
use Rattle.thread_actions.proofs.Acting.{newest_there}
use Rattle.hall_parts.specs.Here.{TakesWords, pool_with}

pub taken_change : (before words : ℕ) → pos (before + words) ≡ pos before +ℤ pos words
taken_change before words = omega (arith, ints)

pub given_change : (before words : ℕ) → words ≤ before → pos (before - words) ≡ pos before +ℤ neg_ℤ (pos words)
given_change before words few = omega (arith, ints, few)

weight_is : (x y w : ℤ) → x ≡ y +ℤ w → x -ℤ y ≡ w
weight_is x y w is = omega (arith, ints, is)

-- an action with so many words, which is a move and was noted as one
pub takes_words : (next : Next) (top : Thread) (name : ActionId) (before after : ℕ) (old new : Moves) (words : ℕ)
    → ((w : ℕ) → TellsWords top next w → w ≡ words) → pos after ≡ pos before +ℤ weight_of (deed_of top next) words
    → moves_words (deed_of top next) (label_of top) words ≡ true
    → (was now : ℕ) → was ≡ before → now ≡ after → moves_list new ≡ moves_list old ++ record { by = name; change = pos now -ℤ pos was } ∷ []
    → TakesWords next top name (pool_with before old) (pool_with after new)
takes_words next top name before after old new words tells live moved was now was_is now_is moves c is =
    let w = words_at (list_of c) is.place in
    let same : w ≡ words = tells w is.words in
    let weighs : pos after ≡ pos before +ℤ weight_at (list_of c) is.place = live ∙ ap (λ n. pos before +ℤ weight_of (deed_of top next) n) (sym same)
    ∙ ap (λ x. pos before +ℤ weight_of x w) (sym is.deed) in
    let is_one : ◌≡◌ {A = Bool} true (is_move (action_at (list_of c) is.place)) = sym moved
    ∙ ap (moves_words (deed_of top next) (label_of top)) (sym same)
    ∙ ap (λ x. moves_words x (label_of top) w) (sym is.deed) ∙ ap (λ x. moves_words (deed_at (list_of c) is.place) x w) (sym is.labelled) in
    let move : Moved = record { by = name; change = pos now -ℤ pos was } in
    record {
      live = weighs;
      move = move;
      by = refl;
      change = ap (λ n. pos n -ℤ pos was) now_is ∙ ap (λ n. pos after -ℤ pos n) was_is
          ∙ weight_is (pos after) (pos before) (weight_at (list_of c) is.place) weighs;
      moves = moves ∙ ap (λ b. moves_list old ++ noted_if b move) is_one;
    }

-- if the newest child is there, the words of its Join are told
pub join_tells : (top : Thread) → IsTrue (is_there (newest (children_of top))) → (w : ℕ) → TellsJoin top (result_of (newest top.children.items)) w
    → w ≡ join_words_of top
join_tells top there w told =
    let found = newest_there top.children.items there in
    let result_is : result_of (newest top.children.items) ≡ Some found.result = ap result_of found.newest_is ∙ found.there in
    subst (λ r. TellsJoin top r w) result_is told ∙ ap (released_by top) (sym result_is)

pub some_words : (n : ℕ) → 0 < n → ◌≡◌ {A = Bool} (nat_lt 0 n) true
some_words n some = lt-ltb 0 n some
