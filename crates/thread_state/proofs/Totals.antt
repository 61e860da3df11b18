-- The words of rows.
use Rattle.std.proofs.Common.{◌≡◌, ◌≢◌, ℕ, zero, suc, ◌+◌, ◌<◌, ◌≤◌, List, [], ◌∷◌, length, ℤ, refl, ap, ◌∙◌, arith}
use Rattle.block_arena.specs.Size.{words_taken}
use Rattle.depth_first_run.specs.Stores.{block_words}
use Rattle.slot_store.specs.Rows.{Entry, blocks_at, items_at, first_of, HasBlock, words_of, row_words}

pub one_of : (row : List Entry) (s : ℕ) → s < length row → words_of (blocks_at row s) ≤ row_words row
one_of [] s within = absurd (omega arith)
one_of (e ∷ row) zero within = omega arith
one_of (e ∷ row) (suc s) within = let rest = one_of row s (omega arith) in omega (arith, rest)

-- the blocks of two slots take no more words than the row
pub two_of : (row : List Entry) (l r : ℕ) → l < length row → r < length row → l ≢ r →
    words_of (blocks_at row l) + words_of (blocks_at row r) ≤ row_words row
two_of [] l r in_l in_r apart = absurd (omega arith)
two_of (e ∷ row) zero zero in_l in_r apart = absurd (apart refl)
two_of (e ∷ row) zero (suc r) in_l in_r apart = let rest = one_of row r (omega arith) in omega (arith, rest)
two_of (e ∷ row) (suc l) zero in_l in_r apart = let rest = one_of row l (omega arith) in omega (arith, rest)
two_of (e ∷ row) (suc l) (suc r) in_l in_r apart =
    let rest = two_of row l r (omega arith) (omega arith) (λ e. apart (ap (λ n. suc n) e)) in omega (arith, rest)

-- the words of a slot's block
one_block : (blocks : List (List ℤ)) → length blocks ≡ 1 → words_of blocks ≡ words_taken (length (first_of blocks))
unfolding block_words
one_block [] e = let never : ⊥ = omega (arith, e) in absurd never
one_block (items ∷ []) e = omega arith
one_block (items ∷ more ∷ rest) e = let never : ⊥ = omega (arith, e) in absurd never

pub block_taken : (row : List Entry) (s : ℕ) → HasBlock row s → words_of (blocks_at row s) ≡ words_taken (length (items_at row s))
block_taken row s has = one_block (blocks_at row s) has

pub both_taken : (row : List Entry) (l r : ℕ) → l < length row → r < length row → l ≢ r → HasBlock row l → HasBlock row r →
    words_taken (length (items_at row l)) + words_taken (length (items_at row r)) ≤ row_words row
both_taken row l r in_l in_r apart has_l has_r =
    let a = block_taken row l has_l in
    let b = block_taken row r has_r in
    let c = two_of row l r in_l in_r apart in
    omega (arith, a, b, c)

-- the words of a block that was taken
pub items_taken : (blocks : List (List ℤ)) (items : List ℤ) → blocks ≡ items ∷ [] → words_of blocks ≡ words_taken (length items)
unfolding block_words
items_taken blocks items e = ap words_of e ∙ omega arith

pub words_are : (n k : ℕ) → words_taken n ≡ k → block_words n ≡ k
unfolding block_words
words_are n k e = e
