-- Which programs are accepted.
use Rattle.std.specs.Prelude.{◌≡◌, None}
use Rattle.par_tree.specs.Tree.{Program}
use Rattle.par_ownership.specs.Walk.{program_refusal}

-- The walk over the program finds nothing to refuse. The law `walk_is_ownership` says that this holds exactly if the program keeps the
-- rules of ownership.
abbrev pub IsAccepted : Program → Type 0
IsAccepted p = program_refusal p ≡ None
