-- One action more: its Fork, the words in use and the peak.
use Rattle.std.proofs.Common.{◌≡◌, ℕ, List, [], ◌∷◌, ◌++◌, ◌+ℤ◌, refl, ◌∙◌, ap, arith}
use Rattle.std.proofs.lemmas.Int.{ints, clamps}
use Rattle.std.specs.Int.{int_max}
use Rattle.depth_first_run.specs.Passed.Actions.{Deed, forks, joins, allocates, releases, dummy, faults, ends, Action, weight, live_words, peak}
use Rattle.serial_journal.specs.Telling.{ForkOf, with_fork, forks_of, IsNoFork}

fork_more : (label : List ℕ) (deed : Deed) (xs ys : List ForkOf) → with_fork label deed (xs ++ ys) ≡ with_fork label deed xs ++ ys
fork_more label (forks child) xs ys = refl
fork_more label (joins child) xs ys = refl
fork_more label allocates xs ys = refl
fork_more label releases xs ys = refl
fork_more label dummy xs ys = refl
fork_more label faults xs ys = refl
fork_more label ends xs ys = refl

pub forks_more : (xs ys : List Action) → forks_of (xs ++ ys) ≡ forks_of xs ++ forks_of ys
forks_more [] ys = refl
forks_more (a ∷ xs) ys =
    ap (λ (fs : List ForkOf). with_fork a.label a.deed fs) (forks_more xs ys) ∙ fork_more a.label a.deed (forks_of xs) (forks_of ys)

pub no_fork : (label : List ℕ) (deed : Deed) → IsNoFork deed → with_fork label deed [] ≡ []
no_fork label (forks child) is = absurd is
no_fork label (joins child) is = refl
no_fork label allocates is = refl
no_fork label releases is = refl
no_fork label dummy is = refl
no_fork label faults is = refl
no_fork label ends is = refl

pub live_more : (xs : List Action) (a : Action) → live_words (xs ++ a ∷ []) ≡ live_words xs +ℤ weight a
live_more [] a = omega (arith, ints)
live_more (x ∷ xs) a = let more = live_more xs a in omega (arith, ints, more)

pub peak_more : (xs : List Action) (a : Action) → peak (xs ++ a ∷ []) ≡ int_max (peak xs) (live_words xs +ℤ weight a)
peak_more [] a = omega (arith, ints, clamps)
peak_more (x ∷ xs) a = let more = peak_more xs a in omega (arith, ints, clamps, more)
