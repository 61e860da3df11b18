use Rattle.std.proofs.Common.{◌+◌, ◌%◌, ap, ◌∙◌}
use Rattle.play_rules.proofs.Turns.{rest_first}
use Rattle.play_rules.proofs.choice.picked.Goals as goal

pub returns-clause-value : goal.returns-clause-value
returns-clause-value c =
    ap (λ n. (c.args.word % n + c.from.result) % n) c.from-n.ensures ∙ ap (λ t. (c.args.word % c.args.n + t) % c.args.n) c.from.ensures
    ∙ rest_first c.args.word c.args.turn c.args.n
