use Rattle.dfd_plays.proofs.Expansions.{expansion_refused}
use Rattle.dfd_plays.proofs.Plays.{both_ok}
use Rattle.dfd_plays.specs.Expanding.{ExpandMakes}
use Rattle.dfd_plays.proofs.expanding.expand.Goals as goal

pub returns-in-Err : goal.returns-in-Err
returns-in-Err c = both_ok c.unexpanded_answer.result _ _ _ c.unexpanded_answer.ensures.status c.unexpanded_answer.ensures.line
    (λ answer status line. expansion_refused ExpandMakes c.args.bytes.now _ answer.status answer.text.items c.in-Err.ensures status line)
