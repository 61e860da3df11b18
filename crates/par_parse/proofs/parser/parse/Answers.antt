use Rattle.par_parse.proofs.Judged.{one_tree, one_refusal}
use Rattle.par_parse.proofs.parser.parse.Goals as goal

pub returns-clause-only_ok : goal.returns-clause-only_ok
returns-clause-only_ok c = one_tree c.judge.result c.args.text.now c.judge.ensures

pub returns-clause-only_refused : goal.returns-clause-only_refused
returns-clause-only_refused c = one_refusal c.judge.result c.args.text.now c.judge.ensures
