use Rattle.std.proofs.Common.{sym, ap, inl, inr}
use Rattle.std.specs.Prelude.{cond}
use Rattle.std.proofs.lemmas.Bool.{le-leb, lt-leb}
use Rattle.depth_first_list.specs.QuotaWords.{quota_words}
use Rattle.thread_actions.proofs.readiness.by_quota.Goals as goal

pub returns-in-Fits : goal.returns-in-Fits
returns-in-Fits c =
    let fits = c.in-Fits.ensures.charge in
    (inl fits, sym (ap (λ b. cond b c.args.words 0) (le-leb c.args.words (quota_words c.args.k) fits.0)))

pub returns-in-Large : goal.returns-in-Large
returns-in-Large c =
    let above = c.in-Large.ensures.charge in
    (inr above, sym (ap (λ b. cond b c.args.words 0) (lt-leb c.args.words (quota_words c.args.k) above)))
