-- The words of Forks.
use Rattle.std.proofs.Common.{◌≡◌, ◌<◌, ℕ, List, length, pos, ◌≤ℤ◌, arith, subst, sym}
use Rattle.std.proofs.lemmas.Int.{ints}
use Rattle.depth_first_run.specs.Passed.Actions.{forks, Action, record_words, weight_of}
use Rattle.depth_first_run.specs.Passed.Runs.{IsDepthFirst}
use Rattle.depth_first_run.specs.Passed.Facts.{deed_at, words_at}
use Rattle.depth_first_run.proofs.Passed.Weights.{forks_take_records}

-- a Fork takes the words of a record
pub fork_weight : (k : ℕ) (l : List Action) → IsDepthFirst k l → (i child : ℕ) → i < length l → deed_at l i ≡ forks child
    → weight_of (deed_at l i) (words_at l i) ≤ℤ pos record_words
fork_weight k l run i child inside is =
    let w : words_at l i ≡ record_words = (forks_take_records k l run i child inside is).0 in
    subst (λ d. weight_of d (words_at l i) ≤ℤ pos record_words) (sym is) (omega (arith, ints, w))
