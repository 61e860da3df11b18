-- The words of a seeded generator.
use Rattle.std.specs.Prelude.{ℕ}
use Rattle.rand_pcg.specs.Lcg.{state_after}
use Rattle.rand_pcg.specs.Pcg.{multiplier_64, output_xsh_rr}
use Rattle.dfd_plays.specs.declared.pcg_choices.PcgChoices.{PcgChoices}

-- the word that comes so many words later: the output of the state so many steps later
abbrev pub coming_output : PcgChoices → ℕ → ℕ
coming_output choices later =
    output_xsh_rr (state_after 64 multiplier_64 choices.generator.increment later choices.generator.state)
