-- The choices of one worker more.
use Rattle.std.proofs.Common.{◌≡◌, ℕ, suc, ◌+◌, ◌%◌, ◌^◌, List, [], ◌∷◌, ◌++◌, length, sym, subst, arith}
use Rattle.dfd_plays.specs.PcgChoices.{coming_output}
use Rattle.dfd_plays.specs.Play.{seeded_words}
use Rattle.dfd_plays.specs.declared.pcg_choices.PcgChoices.{PcgChoices}
use Rattle.dfd_run.specs.Seeds.{AreSeeded}

pub one_more : (seed worker next : ℕ) (others : List PcgChoices) (choices : PcgChoices) → AreSeeded seed worker others
    → length others + worker ≡ next → ((n : ℕ) → coming_output choices n ≡ seeded_words ((seed + next) % 2 ^ 64) n)
    → AreSeeded seed worker (others ++ choices ∷ [])
one_more seed worker next [] choices seeded last draws =
    let same : worker ≡ next = omega (arith, last) in (λ n. subst (λ w. coming_output choices n ≡ seeded_words ((seed + w) % 2 ^ 64) n) (sym same) (draws n), tt)
one_more seed worker next (first ∷ others) choices seeded last draws =
    (seeded.0, one_more seed (suc worker) next others choices seeded.1 (omega (arith, last)) draws)
