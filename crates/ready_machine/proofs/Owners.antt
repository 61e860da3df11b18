-- The workers that run the elements of a list, and how many they can be.
use Rattle.std.proofs.Common.{◌≡◌, ◌≢◌, ℕ, suc, ◌+◌, ◌≤◌, ◌<◌, List, [], ◌∷◌, length, refl, arith}
use Rattle.std.specs.Prelude.{Option, None, Some}
use Rattle.deque_machine.specs.Lists.{Each, total, times}
use Rattle.deque_machine.proofs.Lists.{each_from, times_among}
use Rattle.deque_machine.proofs.Whole.{few_places}
use Rattle.deque_machine.specs.Moments.{one_if_worker}

with_owner : Option ℕ → List ℕ → List ℕ
with_owner None rest = rest
with_owner (Some w) rest = w ∷ rest

unfoldable pub one_if_some : Option ℕ → ℕ
one_if_some None = 0
one_if_some (Some w) = 1

-- the workers that own elements of a list, from left to right
module _ {X : Type 0} (owner_of : X → Option ℕ) where
  pub owners : List X → List ℕ
  owners [] = []
  owners (x ∷ xs) = with_owner (owner_of x) (owners xs)

  -- a worker is among them as often as it owns one
  pub owners_times : (w : ℕ) (xs : List X) → times w (owners xs) ≡ total (λ x. one_if_worker w (owner_of x)) xs
  unfolding owners with_owner
  owners_times w [] = refl
  owners_times w (x ∷ xs) = by_owner (owner_of x) (owners_times w xs)
    where
      by_owner : (owner : Option ℕ) → times w (owners xs) ≡ total (λ x. one_if_worker w (owner_of x)) xs
          → times w (with_owner owner (owners xs)) ≡ one_if_worker w owner + total (λ x. one_if_worker w (owner_of x)) xs
      by_owner None rest = omega (arith, rest)
      by_owner (Some v) rest = omega (arith, rest)

  -- where each element has one, they are as many
  pub all_have_owners : (xs : List X) → Each (λ x. owner_of x ≢ None) xs → length (owners xs) ≡ length xs
  unfolding owners with_owner
  all_have_owners [] all = refl
  all_have_owners (x ∷ xs) all = by_owner (owner_of x) all.0 (all_have_owners xs all.1)
    where
      by_owner : (owner : Option ℕ) → owner ≢ None → length (owners xs) ≡ length xs
          → length (with_owner owner (owners xs)) ≡ suc (length xs)
      by_owner None some rest = absurd (some refl)
      by_owner (Some v) some rest = omega (arith, rest)

  -- and they are as many as the elements with an owner
  pub how_many_owners : (xs : List X) → length (owners xs) ≡ total (λ x. one_if_some (owner_of x)) xs
  unfolding owners with_owner one_if_some
  how_many_owners [] = refl
  how_many_owners (x ∷ xs) = by_owner (owner_of x) (how_many_owners xs)
    where
      by_owner : (owner : Option ℕ) → length (owners xs) ≡ total (λ x. one_if_some (owner_of x)) xs
          → length (with_owner owner (owners xs)) ≡ one_if_some owner + total (λ x. one_if_some (owner_of x)) xs
      by_owner None rest = omega (arith, rest)
      by_owner (Some v) rest = omega (arith, rest)

  -- where each worker owns at most one, and is below n, there are at most n
  pub few_owners : (xs : List X) (n : ℕ) → ((w : ℕ) → total (λ x. one_if_worker w (owner_of x)) xs ≤ 1)
      → ((w : ℕ) → 0 < total (λ x. one_if_worker w (owner_of x)) xs → w < n) → length (owners xs) ≤ n
  few_owners xs n once below =
      few_places (owners xs) n (λ w. let t = owners_times w xs in let most = once w in omega (arith, t, most))
      (each_from (λ w. w < n) (owners xs) (λ w there. below w
      (let t = owners_times w xs in let some = times_among w (owners xs) there in omega (arith, t, some))))
