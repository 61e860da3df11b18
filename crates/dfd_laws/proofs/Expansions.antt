-- `loops` plays the expansion of its bytes.
use Rattle.std.proofs.Common.{ℕ, List, subst}
use Rattle.std.specs.Prelude.{Ok}
use Rattle.loop_expand.specs.Expansion.{Expands}
use Rattle.loop_expand.proofs.Answered.{one_answer}
use Rattle.dfd_plays.specs.Expanding.{OfExpansion, ExpansionGives}
use Rattle.dfd_plays.specs.declared.status.Status.{Status}
use Rattle.dfd_laws.specs.Laws.{LoopsArePlays}

-- bytes with an expansion give what is made of it, and nothing else
of_one_expansion :
    (makes : List ℕ → Status → List ℕ → Type 0) (bytes expanded : List ℕ) (status : Status) (text : List ℕ) →
    Expands bytes (Ok expanded) → ExpansionGives makes bytes status text → makes expanded status text
of_one_expansion makes bytes expanded status text is gives =
    subst (λ a. OfExpansion makes a status text) (one_answer bytes gives.0 (Ok expanded) gives.1 is) gives.2

pub loops_are_plays : LoopsArePlays
loops_are_plays command bytes expanded is s t = (of_one_expansion _ bytes expanded s t is, λ gives. (Ok expanded, is, gives))
