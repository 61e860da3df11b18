-- Sums over all places of a list.
use Rattle.std.proofs.Common.{◌≡◌, ℕ, zero, suc, ◌+◌, ◌≤◌, ◌<◌, List, [], ◌∷◌, length, get_or, inl, inr, refl, ap, ◌∙◌, arith}
use Rattle.std.proofs.lemmas.Bool.{cases_eq}
use Rattle.depth_first_run.specs.Passed.Actions.{Action}
use Rattle.deque_machine.specs.Lists.{Each, total, times}
use Rattle.deque_machine.proofs.Parts.{part, part_done, part_missing, part_empty, total_is_part}

-- the sum over all places below n
pub up_to : (ℕ → ℕ) → ℕ → ℕ
up_to f zero = 0
up_to f (suc n) = up_to f n + f n

-- places below n, each at most once, sum to no more
part_below_all : (f : ℕ → ℕ) (xs : List ℕ) → ((i : ℕ) → times i xs ≤ 1) → (n : ℕ) → part 0 n f xs ≤ up_to f n
unfolding up_to
part_below_all f xs once zero = let none = part_empty 0 0 f xs (omega arith) in omega (arith, none)
part_below_all f xs once (suc n) =
    let before = part_below_all f xs once n in
    let most = once n in
    elim (cases_eq (times n xs) 0) [
      | inl none ↦ let same = part_missing 0 n f xs (omega arith) none in omega (arith, before, same)
      | inr some ↦ let same = part_done 0 n f xs (omega arith) (omega arith) in omega (arith, before, same)
    ]

pub total_below_all : (f : ℕ → ℕ) (xs : List ℕ) (n : ℕ) → ((i : ℕ) → times i xs ≤ 1) → Each (λ i. i < n) xs → total f xs ≤ up_to f n
total_below_all f xs n once inside = let same = total_is_part n f xs inside in let most = part_below_all f xs once n in omega (arith, same, most)

up_to_front : (f : ℕ → ℕ) (n : ℕ) → up_to f (suc n) ≡ f 0 + up_to (λ i. f (suc i)) n
unfolding up_to
up_to_front f zero = omega arith
up_to_front f (suc n) = let rest = up_to_front f n in omega (arith, rest)

-- over the actions of a list
pub up_to_total : (f : Action → ℕ) (l : List Action) (d : Action) → up_to (λ i. f (get_or l i d)) (length l) ≡ total f l
unfolding up_to
up_to_total f [] d = refl
up_to_total f (x ∷ l) d = up_to_front (λ i. f (get_or (x ∷ l) i d)) (length l) ∙ ap (λ t. f x + t) (up_to_total f l d)

-- one for each place
pub up_to_ones : (n : ℕ) → up_to (λ i. 1) n ≡ n
unfolding up_to
up_to_ones zero = refl
up_to_ones (suc n) = let rest = up_to_ones n in omega (arith, rest)

pub total_ones : (xs : List ℕ) → total (λ i. 1) xs ≡ length xs
total_ones [] = refl
total_ones (x ∷ xs) = let rest = total_ones xs in omega (arith, rest)

-- so there are at most n different places below n
pub few_places : (xs : List ℕ) (n : ℕ) → ((i : ℕ) → times i xs ≤ 1) → Each (λ i. i < n) xs → length xs ≤ n
few_places xs n once inside =
    let most = total_below_all (λ i. 1) xs n once inside in let a = total_ones xs in let b = up_to_ones n in omega (arith, most, a, b)
