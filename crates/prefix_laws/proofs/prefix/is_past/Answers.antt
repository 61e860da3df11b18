use Rattle.std.proofs.Common.{sym, arith}
use Rattle.std.proofs.lemmas.Option.{slice_get_within}
use Rattle.containers.specs.BoundedList.{entries}
use Rattle.prefix_laws.proofs.Counting.{past_there, none_past}
use Rattle.prefix_laws.proofs.prefix.is_past.Goals as goal

pub returns-then-prefix-place : goal.returns-then-prefix-place
returns-then-prefix-place c =
    sym (past_there c.args.prefix (entries c.args.places.now) c.places.rank c.in-Some.place.now (sym c.in-Some.ensures) c.if-prefix-place.true)

pub returns : goal.returns
returns c = sym (none_past c.args.prefix (entries c.args.places.now) (λ i place is past.
    let within = slice_get_within (entries c.args.places.now) i place is in
    let all = c.places-test.false in let many = c.len-rank-end.ensures in
    c.places.invariant i place (omega (arith, within, all, many)) is past))
