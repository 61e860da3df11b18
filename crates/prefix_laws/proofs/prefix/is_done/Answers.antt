use Rattle.std.proofs.lemmas.Bool.{false≢true}
use Rattle.std.proofs.Common.{sym, arith, refl}
use Rattle.std.proofs.lemmas.Option.{slice_get_within}
use Rattle.containers.specs.BoundedList.{entries}
use Rattle.prefix_laws.proofs.Counting.{ran_there, ran_from}
use Rattle.prefix_laws.proofs.prefix.is_done.Goals as goal

pub returns-then-ran : goal.returns-then-ran
returns-then-ran c = (
  λ so. ran_there c.args.place (entries c.args.books.now) c.books.rank c.in-Some.book.now (sym c.in-Some.ensures) (c.if-ran.ensures.0 refl),
  λ there. refl,
)

pub returns : goal.returns
returns c = (
  λ so. absurd (false≢true so),
  λ there.
      let found = ran_from c.args.place (entries c.args.books.now) there in
      let within = slice_get_within (entries c.args.books.now) found.0 found.1 found.2 in
      let all = c.books-test.false in let many = c.len-rank-end.ensures in
      absurd (c.books.invariant found.0 found.1 (omega (arith, within, all, many)) found.2 found.3),
)
