use Rattle.std.proofs.Common.{◌≡◌, ℕ, ◌+◌, suc, arith, ap, ◌∙◌}
use Rattle.rand_pcg.specs.Lcg.{Lcg, state_after}
use Rattle.dfd_plays.specs.PcgChoices.{coming_output}
use Rattle.dfd_plays.proofs.pcg_choices.PcgChoicesChoices.word.Goals as goal

pub returns-clause-value : goal.returns-clause-value
unfolding state_after
returns-clause-value c = c.from.ensures ∙ ap (λ (pair : ℕ × Lcg). pair.0) c.next_word.ensures

pub returns-clause-later : goal.returns-clause-later
unfolding state_after
returns-clause-later c = λ i.
    (let index : suc i ≡ i + 1 = omega arith in
    ap (λ (pair : ℕ × Lcg). coming_output (record { generator = pair.1 }) i) c.next_word.ensures ∙
    ap (coming_output c.args.self.now) index)
