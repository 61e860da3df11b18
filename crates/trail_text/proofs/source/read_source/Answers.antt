use Rattle.trail_text.proofs.Fronts.{too_few_bytes, no_last_byte}
use Rattle.trail_text.proofs.source.read_source.Goals as goal

pub returns-then-rest-len : goal.returns-then-rest-len
returns-then-rest-len c =
    too_few_bytes c.args.bytes.now c.in_ok-count.count c.in_ok-count.rest.now c.in_ok-count.ensures.0 c.in_ok-count.ensures.1.1 c.if-rest-len.true

pub returns-then-rest-len-ne10 : goal.returns-then-rest-len-ne10
returns-then-rest-len-ne10 c =
    no_last_byte c.args.bytes.now c.in_ok-count.count c.in_ok-count.rest.now c.in_ok-count.ensures.0 c.in_ok-count.ensures.1.1 c.if-rest-len-ne10.true
