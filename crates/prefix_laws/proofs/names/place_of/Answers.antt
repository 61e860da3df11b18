use Rattle.std.proofs.Common.{arith}
use Rattle.std.proofs.Math.Logic.{∥∥₁_elim}
use Rattle.std.proofs.lemmas.Option.{slice_get_within}
use Rattle.containers.specs.BoundedList.{entries}
use Rattle.prefix_laws.proofs.names.place_of.Goals as goal

pub unreachable-requires : goal.unreachable-requires
unreachable-requires c = ∥∥₁_elim c.requires (λ x y. absurd x) (λ found.
    let within = slice_get_within (entries c.args.names.now) found.0 c.args.name.now found.1 in
    let all = c.places-test.false in let many = c.len-place-end.ensures in
    c.places.invariant found.0 (omega (arith, within, all, many)) found.1)
