-- What a caller may use: the walk and the rules say the same.
use Rattle.std.specs.Prelude.{◌↔◌}
use Rattle.par_tree.specs.Tree.{Program}
use Rattle.par_ownership.specs.Ownership.{Ownership}
use Rattle.par_ownership.specs.Accepted.{IsAccepted}

-- a program is accepted exactly if it keeps the rules of ownership
abbrev pub WalkIsOwnership : Type 0
WalkIsOwnership = (p : Program) → IsAccepted p ↔ Ownership p
