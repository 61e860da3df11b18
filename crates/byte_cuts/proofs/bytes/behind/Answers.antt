use Rattle.byte_cuts.proofs.Cuts.{behind_is}
use Rattle.byte_cuts.proofs.bytes.behind.Goals as goal

pub returns : goal.returns
returns c = behind_is c.args.bytes.now c.args.front.now c.strip_prefix.result c.strip_prefix.ensures.cases
