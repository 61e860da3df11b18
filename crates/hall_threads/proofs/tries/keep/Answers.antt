use Rattle.std.proofs.Common.{sym, true≢false}
use Rattle.hall_threads.proofs.tries.keep.Goals as goal

pub returns-in-Err-clause-lone : goal.returns-in-Err-clause-lone
returns-in-Err-clause-lone c all = absurd (true≢false (sym (c.in-Err.ensures.lone all)))
