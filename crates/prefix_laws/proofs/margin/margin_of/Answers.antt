use Rattle.std.proofs.Common.{arith}
use Rattle.depth_first_list.specs.QuotaWords.{quota_words}
use Rattle.prefix_laws.proofs.Bounding.{beside_of, live_within, margin_at}
use Rattle.prefix_laws.proofs.margin.margin_of.Goals as goal

pub ahead_of-requires : goal.ahead_of-requires
ahead_of-requires c = beside_of (quota_words c.args.k) c.args.live c.args.table.now c.args.serial.now c.requires

pub overflow_sub-result : goal.overflow_sub-result
overflow_sub-result c = live_within (quota_words c.args.k) c.args.live c.args.table.now c.args.serial.now c.in_ok-ahead.ahead c.two_quotas.result _
    c.in_ok-ahead.ensures c.two_quotas.ensures.value (omega arith) c.requires

pub returns : goal.returns
returns c = λ s books n within told prefix.
    margin_at (quota_words c.args.k) c.args.live c.args.table.now c.args.serial.now c.in_ok-ahead.ahead c.two_quotas.result _
    c.in_ok-ahead.ensures c.two_quotas.ensures.value (omega arith) s books n within told prefix
