-- Where the first of two tests passes or fails.
use Rattle.std.proofs.Common.{◌≡◌, Bool, true, false, ◌||◌, sym, ◌∙◌}

pub or_then : {x r : Bool} (a b : Bool) → x ≡ (a || b) → r ≡ a → r ≡ true → r ≡ x
or_then true b whole e t = t ∙ sym whole
or_then false b whole e t = let never : ⊥ = cc in absurd never

pub or_else : {x r : Bool} (a b : Bool) → x ≡ (a || b) → a ≡ false → r ≡ b → r ≡ x
or_else true b whole f e = let never : ⊥ = cc in absurd never
or_else false b whole f e = e ∙ sym whole
