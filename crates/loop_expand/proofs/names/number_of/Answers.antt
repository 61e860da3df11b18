use Rattle.loop_expand.proofs.FirstNames.{no_text, parsed}
use Rattle.loop_expand.proofs.names.number_of.Goals as goal

pub returns-in_default : goal.returns-in_default
returns-in_default c = λ n small e. absurd (no_text c.args.digits.now c.in_default.ensures.cases.0 n small e)

pub returns : goal.returns
returns c = parsed c.args.digits.now c.in-Ok.text.now c.parse.result c.ok.result c.in-Ok.ensures.cases.0 c.ok.ensures.value c.parse.ensures.value.0
