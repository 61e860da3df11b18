-- Whether the quota covers the words of an allocation, by the number of its dummies.
use Rattle.std.proofs.Common.{inl, inr, ◌≡◌, ℕ, ◌<◌, ◌≤◌, arith}
use Rattle.std.specs.Prelude.{◌⊎◌}
use Rattle.std.proofs.lemmas.Bool.{cases_lt}
use Rattle.depth_first_list.specs.Leaves.{IsTreeSize}
use Rattle.depth_first_list.specs.Quotas.{dummies_of}
use Rattle.depth_first_list.proofs.QuotaLaws.{no_dummies}

-- there is no tree exactly where the quota covers the words
pub few_words : (words k n : ℕ) → words ≤ 1048576 → (k < words → 1 < n) → (words ≤ 1048576 → n ≤ 65536) → (IsTreeSize n → ⊥) → words ≤ k
few_words words k n small several bound none = go (cases_lt k words)
  where
    go : (k < words) ⊎ (words ≤ k) → words ≤ k
    go (inl many) = let more = several many in let within = bound small in absurd (none (omega arith, within))
    go (inr few) = few

pub many_words : (words k n : ℕ) → n ≡ dummies_of words k → 1 ≤ n → k < words
many_words words k n dummies some = go (cases_lt k words)
  where
    go : (k < words) ⊎ (words ≤ k) → k < words
    go (inl many) = many
    go (inr few) = let never = no_dummies words k few in absurd (omega (arith, dummies, never))
