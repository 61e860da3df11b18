use Rattle.std.proofs.Common.{◌≡◌, ◌++◌, ◌∷◌, [], List, ℕ, pos, append_assoc, ap, sym, ◌∙◌}
use Rattle.std.specs.Prelude.{codes}
use Rattle.std.specs.Fmt.{decimal}
use Rattle.dfd_plays.specs.Messages.{arena_text}
use Rattle.dfd_plays.proofs.messages.arena_text.Goals as goal

-- the pieces of the line, one behind the other
pieces : (live asked : ℕ) →
    codes "stop ArenaFull live " ++ (decimal live ++ (codes " asked " ++ (decimal asked ++ 10 ∷ []))) ≡ arena_text (pos live) asked
pieces live asked =
    ap (λ (t : List ℕ). codes "stop ArenaFull live " ++ t)
    (sym (append_assoc (decimal live) (codes " asked ") (decimal asked ++ 10 ∷ []))
    ∙ sym (append_assoc (decimal live ++ codes " asked ") (decimal asked) (10 ∷ [])))

pub returns : goal.returns
returns c = ap (λ v. v.items) c.into_bytes.ensures.value ∙ c.in_ok-line.ensures.ok ∙ pieces c.args.live c.args.asked
