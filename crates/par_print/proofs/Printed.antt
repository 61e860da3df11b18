-- What holds of bytes that are a canonical text.
use Rattle.std.proofs.Common.{◌≡◌, ℕ, ◌≤◌, List, length, sym, ◌∙◌, subst}
use Rattle.par_tree.specs.Tree.{Program}
use Rattle.par_text.specs.Lexing.{longest_text}
use Rattle.par_text.specs.Judging.{IsText}
use Rattle.canonical_text.specs.Canonical.{canonical}
use Rattle.canonical_text.specs.Laws.{IsTextButForLines}
use Rattle.canonical_text.proofs.ReadBack.{canonical_reads_back, canonical_again}

pub printed_text : (text : List ℕ) (p : Program) → text ≡ canonical p → (source : List ℕ) → IsText source p → length text ≤ longest_text → IsTextButForLines text p
printed_text text p is source h short =
    subst (λ (t : List ℕ). IsTextButForLines t p) (sym is) (canonical_reads_back source p h (subst (λ (t : List ℕ). length t ≤ longest_text) is short))

pub printed_again : (text : List ℕ) (p : Program) → text ≡ canonical p → (source : List ℕ) (again : Program) → IsText source p → IsText text again → canonical again ≡ text
printed_again text p is source again h g = (canonical_again source p again h (subst (λ (t : List ℕ). IsText t again) is g)).1 ∙ sym is
