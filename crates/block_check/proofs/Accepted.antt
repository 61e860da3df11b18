-- What an absent refusal tells.
use Rattle.std.proofs.Common.{◌≡◌, true, Option, Some, None, is_none, refl}
use Rattle.par_tree.specs.Tree.{Program}
use Rattle.par_ownership.specs.Ownership.{Ownership}
use Rattle.par_ownership.specs.Walk.{Refusal, program_refusal}
use Rattle.par_ownership.proofs.Law.{tells_program}

none_when : (o : Option Refusal) → is_none o ≡ true → o ≡ None
none_when None h = refl
none_when (Some r) h = let never : ⊥ = cc in absurd never

pub accepted_owns : (p : Program) → is_none (program_refusal p) ≡ true → Ownership p
accepted_owns p h = (tells_program p).sound (none_when (program_refusal p) h)

pub owns : (p : Program) → program_refusal p ≡ None → Ownership p
owns p e = (tells_program p).sound e

pub not_owns : (p : Program) (r : Refusal) → program_refusal p ≡ Some r → ¬ Ownership p
not_owns p r e o = let none : program_refusal p ≡ None = (tells_program p).complete o in let never : ⊥ = cc in absurd never
