-- Which words the workers of a run in threads draw.
use Rattle.std.specs.Prelude.{◌≡◌, ℕ, suc, ◌+◌, ◌%◌, ◌^◌, List, [], ◌∷◌}
use Rattle.dfd_plays.specs.PcgChoices.{coming_output}
use Rattle.dfd_plays.specs.Play.{seeded_words}
use Rattle.dfd_plays.specs.declared.pcg_choices.PcgChoices.{PcgChoices}

-- These are the choices of the workers from this number on. Each draws the words that its own seed gives: that of the command and its number,
-- modulo 2^64.
abbrev pub AreSeeded : (seed worker : ℕ) → List PcgChoices → Type 0
AreSeeded seed worker [] = Unit {0}
AreSeeded seed worker (choices ∷ later) =
    ((n : ℕ) → coming_output choices n ≡ seeded_words ((seed + worker) % 2 ^ 64) n) × AreSeeded seed (suc worker) later
