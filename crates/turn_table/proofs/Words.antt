-- What a step on a turn word says of its slot.
use Rattle.std.proofs.Common.{◌≡◌, ℕ, ◌*◌, subst, arith}
use Rattle.atomic_table.specs.Table.{State, Me, Allows}
use Rattle.turn_table.specs.Rows.{turn_word}
use Rattle.turn_table.specs.Steps.{OfWord}

-- no two slots have one turn word
pub of_slot : (P : ℕ → Type 0) (i : ℕ) → P i → OfWord (turn_word i) P
of_slot P i p k e = let is : i ≡ k = omega arith in subst P is p

-- a step that says this of a slot says it of the slot that has the word
pub of_word : {S V : Type 0} (holds : State S V → Type 0) (slots id : ℕ) (me : Me S V) (i : ℕ) (f : ℕ → ℕ) (told : ℕ → ℕ → Me S V → Type 0)
    → Allows holds slots id me (turn_word i) f (told i) → Allows holds slots id me (turn_word i) f (λ n m. OfWord (turn_word i) (λ k. told k n m))
of_word holds slots id me i f told all s law wide at small = let r = all s law wide at small in (
  r.0,
  r.1,
  r.2,
  r.3,
  of_slot (λ k. told k _ _) i r.4,
)
