-- Where the elements of a list stand after one was inserted or removed.
use Rattle.std.specs.Prelude.{◌≡◌, ◌≢◌, ℕ, zero, suc, ◌-◌, ◌<◌, ◌≤◌, List, [], ◌∷◌, length, Some, slice_get, insert, remove, nat_lt, if◌then◌else◌, Bool, true, false, refl, slice_set, ◌⊎◌}
use Rattle.std.proofs.Common.{sym, ◌∙◌, ap, inl, inr, arith}
use Rattle.std.proofs.lemmas.Bool.{le-ltb, cases_order}
use borrow.Author.Tests.{ltb-true, ltb-false}

-- the rank that an element has after one was inserted at `at`
abbrev pub moved_on : ℕ → ℕ → ℕ
moved_on at rank = if nat_lt rank at then rank else suc rank

module _ {X : Type 0} where
  -- the inserted element stands where it was inserted
  pub inserted_stands : (xs : List X) (at : ℕ) (x : X) → at ≤ length xs → slice_get (insert xs at x) at ≡ Some x
  inserted_stands xs zero x within = refl
  inserted_stands [] (suc at) x within = absurd (omega arith)
  inserted_stands (y ∷ xs) (suc at) x within = inserted_stands xs at x (omega arith)

  below_inserted : (xs : List X) (at : ℕ) (x : X) (rank : ℕ) → at ≤ length xs → rank < at → slice_get (insert xs at x) rank ≡ slice_get xs rank
  below_inserted xs zero x rank within below = absurd (omega arith)
  below_inserted [] (suc at) x rank within below = absurd (omega arith)
  below_inserted (y ∷ xs) (suc at) x zero within below = refl
  below_inserted (y ∷ xs) (suc at) x (suc rank) within below = below_inserted xs at x rank (omega arith) (omega arith)

  above_inserted : (xs : List X) (at : ℕ) (x : X) (rank : ℕ) → at ≤ length xs → at ≤ rank → slice_get (insert xs at x) (suc rank) ≡ slice_get xs rank
  above_inserted xs zero x rank within above = refl
  above_inserted [] (suc at) x rank within above = absurd (omega arith)
  above_inserted (y ∷ xs) (suc at) x zero within above = absurd (omega arith)
  above_inserted (y ∷ xs) (suc at) x (suc rank) within above = above_inserted xs at x rank (omega arith) (omega arith)

  -- and each other one where it stood, or one rank further
  pub others_move_on : (xs : List X) (at : ℕ) (x : X) (rank : ℕ) → at ≤ length xs → slice_get (insert xs at x) (moved_on at rank) ≡ slice_get xs rank
  others_move_on xs at x rank within = go (nat_lt rank at) refl
    where
      go : (b : Bool) → nat_lt rank at ≡ b → slice_get (insert xs at x) (if b then rank else suc rank) ≡ slice_get xs rank
      go true is = below_inserted xs at x rank within (ltb-true rank at is)
      go false is = above_inserted xs at x rank within (ltb-false rank at is)

  below_removed : (xs : List X) (at rank : ℕ) → rank < at → slice_get (remove xs at) rank ≡ slice_get xs rank
  below_removed xs zero rank below = absurd (omega arith)
  below_removed [] (suc at) rank below = refl
  below_removed (y ∷ xs) (suc at) zero below = refl
  below_removed (y ∷ xs) (suc at) (suc rank) below = below_removed xs at rank (omega arith)

  above_removed : (xs : List X) (at rank : ℕ) → at ≤ rank → slice_get (remove xs at) rank ≡ slice_get xs (suc rank)
  above_removed [] zero rank above = refl
  above_removed (y ∷ xs) zero rank above = refl
  above_removed [] (suc at) rank above = refl
  above_removed (y ∷ xs) (suc at) zero above = absurd (omega arith)
  above_removed (y ∷ xs) (suc at) (suc rank) above = above_removed xs at rank (omega arith)

  -- after a removal each element stands where it stood, or one rank before
  pub others_stay : (xs : List X) (at rank : ℕ) → slice_get (remove xs at) rank ≡ slice_get xs (moved_on at rank)
  others_stay xs at rank = go (nat_lt rank at) refl
    where
      go : (b : Bool) → nat_lt rank at ≡ b → slice_get (remove xs at) rank ≡ slice_get xs (if b then rank else suc rank)
      go true is = below_removed xs at rank (ltb-true rank at is)
      go false is = above_removed xs at rank (ltb-false rank at is)

-- no two ranks move on to one, and none to the place between
pub moved_on_differs : (at r s : ℕ) → moved_on at r ≡ moved_on at s → r ≡ s
moved_on_differs at r s same = go (nat_lt r at) refl (nat_lt s at) refl same
  where
    go : (b : Bool) → nat_lt r at ≡ b → (c : Bool) → nat_lt s at ≡ c → (if b then r else suc r) ≡ (if c then s else suc s) → r ≡ s
    go true is true is' same = same
    go true is false is' same = let p : r < at = ltb-true r at is in let q : at ≤ s = ltb-false s at is' in absurd (omega arith)
    go false is true is' same = let p : at ≤ r = ltb-false r at is in let q : s < at = ltb-true s at is' in absurd (omega arith)
    go false is false is' same = omega arith

pub moved_on_skips : (at rank : ℕ) → moved_on at rank ≢ at
moved_on_skips at rank = go (nat_lt rank at) refl
  where
    go : (b : Bool) → nat_lt rank at ≡ b → (if b then rank else suc rank) ≢ at
    go true is same = let p : rank < at = ltb-true rank at is in omega arith
    go false is same = let p : at ≤ rank = ltb-false rank at is in omega arith

-- each other rank is one that was moved on to
pub came_from : (at rank : ℕ) → rank ≢ at → (before : ℕ) × (rank ≡ moved_on at before)
came_from at rank other = go (nat_lt rank at) refl
  where
    go : (b : Bool) → nat_lt rank at ≡ b → (before : ℕ) × (rank ≡ moved_on at before)
    go true is = (rank, sym (ap (λ b. if b then rank else suc rank) is))
    go false is =
        let above : at ≤ rank = ltb-false rank at is in
        let not_below : nat_lt (rank - 1) at ≡ false = le-ltb (rank - 1) at (omega arith) in
        let next : rank ≡ suc (rank - 1) = omega arith in
        (rank - 1, next ∙ sym (ap (λ b. if b then rank - 1 else suc (rank - 1)) not_below))

-- what stands where an element was written
pub written_stands : {X : Type 0} (xs : List X) (at : ℕ) (x : X) → at < length xs → slice_get (slice_set xs at x) at ≡ Some x
written_stands [] at x within = absurd (omega arith)
written_stands (y ∷ xs) zero x within = refl
written_stands (y ∷ xs) (suc at) x within = written_stands xs at x (omega arith)

-- and elsewhere
pub others_unwritten : {X : Type 0} (xs : List X) (at : ℕ) (x : X) (rank : ℕ) → rank ≢ at → slice_get (slice_set xs at x) rank ≡ slice_get xs rank
others_unwritten [] at x rank other = refl
others_unwritten (y ∷ xs) zero x zero other = absurd (other refl)
others_unwritten (y ∷ xs) zero x (suc rank) other = refl
others_unwritten (y ∷ xs) (suc at) x zero other = refl
others_unwritten (y ∷ xs) (suc at) x (suc rank) other = others_unwritten xs at x rank (λ same. other (ap (λ n. suc n) same))

-- two numbers are the same or they are not
pub same_or_other : (m n : ℕ) → (m ≡ n) ⊎ (m ≢ n)
same_or_other m n =
    elim (cases_order m n) [
      | inl same ↦ inl same
      | inr r ↦ elim r [ inl lt ↦ inr (λ same. omega arith) | inr gt ↦ inr (λ same. omega arith) ]
    ]
