use Rattle.std.proofs.Common.{◌<◌, sym, subst}
use Rattle.node_table.specs.Codes.{code_shown}
use Rattle.depth_first_list.specs.QuotaWords.{quota_words}
use Rattle.serial_meaning.proofs.run.Run.act.Goals as goal

pub returns-clause-write : goal.returns-clause-write
returns-clause-write c = λ limit setting of w less.
    c.do_next.ensures.write limit (code_shown c.args.code.now) (quota_words c.args.k) setting of c.in_ok-next.ensures.stand (c.in_ok-next.ensures.list setting of)
    (c.in_ok-next.ensures.write limit setting w) (subst (λ n. n < limit) (sym c.go_on.ensures.done) less)

pub returns-clause-never : goal.returns-clause-never
returns-clause-never c = λ limit setting of w less.
    c.do_next.ensures.never limit (code_shown c.args.code.now) (quota_words c.args.k) setting c.in_ok-next.ensures.stand (c.in_ok-next.ensures.write limit setting w)
    (subst (λ n. n < limit) (sym c.go_on.ensures.done) less)
