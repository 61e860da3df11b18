use Rattle.std.proofs.Common.{◌≡◌, ap, ◌∙◌, sym, arith}
use Rattle.std.specs.Prelude.{cond}
use Rattle.containers.specs.BoundedList.{entries}
use Rattle.scheduler_state.proofs.Marked.{byte_is}
use Rattle.prefix_laws.specs.Prefixes.{one_if_past}
use Rattle.prefix_laws.proofs.Counting.{past_more, one_at_most}
use Rattle.prefix_laws.proofs.prefix.count_past.Goals as goal

pub books-preserved : goal.books-preserved
books-preserved c =
    let places = entries c.in-Some.places.now in
    let one : c.from-ahead.result ≡ one_if_past c.args.prefix places = c.from-ahead.ensures ∙ byte_is c.is_past.result ∙ ap (λ b. cond b 1 0) c.is_past.ensures in
    let most = one_at_most c.args.prefix places in let few = c.books.invariant.0 in (
      omega (arith, one, most, few),
      past_more c.args.prefix (entries c.args.books.now) c.books.rank c.in-Some.places.now c.books.ahead c.from-ahead.result (sym c.in-Some.ensures) c.books.invariant.1 one,
    )
