use Rattle.std.proofs.Common.{◌≡◌, ◌+◌, ◌%◌, ◌^◌, ℕ, [], ◌∷◌, length, length-append, sym, ap, subst, ◌∙◌, arith}
use Rattle.dfd_plays.specs.PcgChoices.{coming_output}
use Rattle.dfd_plays.specs.Play.{seeded_words}
use Rattle.dfd_run.specs.Seeds.{AreSeeded}
use Rattle.dfd_run.proofs.Seeds.{one_more}
use Rattle.dfd_run.proofs.running.choices_of_others.Goals as goal

pub workers-preserved : goal.workers-preserved
workers-preserved c =
    let seed = c.args.command.now.seed in
    let had = c.workers.invariant in
    let many = had.0 in
    let more = ap length c.in_ok-push.ensures.items ∙ length-append c.workers.others.items (c.new.result ∷ []) in
    let draws : (n : ℕ) → coming_output c.new.result n ≡ seeded_words ((seed + c.workers.worker) % 2 ^ 64) n =
    λ n. ap (λ g. coming_output (record { generator = g }) n) c.new.ensures ∙ ap (λ w. seeded_words ((seed + w) % 2 ^ 64) n) c.from.ensures in (
      omega (arith, many, more),
      subst (AreSeeded seed 1) (sym c.in_ok-push.ensures.items)
          (one_more seed 1 c.workers.worker c.workers.others.items c.new.result had.1 many draws),
    )
