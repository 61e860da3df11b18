-- The functions of a program that keeps the rules.
use Rattle.std.proofs.Common.{◌≡◌, Bool, true, false, not, ◌&&◌, List, [], ◌∷◌, Some, refl}
use Rattle.std.proofs.lemmas.Bool.{not-true}
use Rattle.par_tree.specs.Tree.{Program, Param, Func}
use Rattle.par_ownership.specs.Ownership.{Ownership, function_of, hands_back, takes_nothing, main_name}
use Rattle.accepted_source.specs.Laws.{IsMain}

both_true : (a b : Bool) → (a && b) ≡ true → (a ≡ true) × (b ≡ true)
both_true true b h = (refl, h)
both_true false b h = let never : ⊥ = cc in absurd never

no_params : (qs : List Param) → takes_nothing qs ≡ true → qs ≡ []
no_params [] h = refl
no_params (q ∷ qs) h = let never : ⊥ = cc in absurd never

pub main_of : (p : Program) → Ownership p → (f : Func) × (function_of p main_name ≡ Some f) × IsMain f
main_of p o =
    let both = both_true (takes_nothing o.main.0.params) (not (hands_back o.main.0.ret)) o.main.2 in
    (o.main.0, o.main.1, record { takes_nothing = no_params o.main.0.params both.0; hands_nothing = not-true (hands_back o.main.0.ret) both.1 })
