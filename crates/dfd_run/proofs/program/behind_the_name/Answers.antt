use Rattle.std.proofs.Common.{refl, sym, ◌∙◌}
use Rattle.std.proofs.lemmas.Iterator.{items_from_collect}
use Rattle.std.proofs.lemmas.Iterator.Adapters.{YieldsList-from_vec}
use Rattle.std.proofs.lemmas.Result.{IfOk-weaker}
use Rattle.dfd_run.proofs.GivenWords.{behind_first}
use Rattle.dfd_run.proofs.program.behind_the_name.Goals as goal

pub returns : goal.returns
returns c =
    let rest = c.next-name.new.self in
    IfOk-weaker c.collect.result _ _ (λ words is. is ∙ sym (behind_first c.args.args rest c.next-name.result c.next-name.ensures.cases))
    (items_from_collect c.collect.result c.collect.ensures.ran (YieldsList-from_vec _ refl rest.rest.ok.0))
