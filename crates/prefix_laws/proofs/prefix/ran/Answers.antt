use Rattle.std.proofs.lemmas.Bool.{false≢true}
use Rattle.std.proofs.Common.{sym, subst, arith}
use Rattle.std.proofs.lemmas.Option.{slice_get_within}
use Rattle.containers.specs.BoundedList.{entries}
use Rattle.deque_machine.specs.Lists.{Among}
use Rattle.open_periods.proofs.Lists.{place_of_among}
use Rattle.std.proofs.Common.{refl}
use Rattle.prefix_laws.proofs.Places.{among_of_place}
use Rattle.prefix_laws.proofs.prefix.ran.Goals as goal

pub returns-then-other-place : goal.returns-then-other-place
returns-then-other-place c = (
  λ so. subst (λ n. Among n (entries c.args.places.now)) c.if-other-place.true
      (among_of_place (entries c.args.places.now) c.places.rank c.in-Some.other.now (sym c.in-Some.ensures)),
  λ there. refl,
)

pub returns : goal.returns
returns c = (
  λ so. absurd (false≢true so),
  λ there.
      let place = place_of_among c.args.place (entries c.args.places.now) there in
      let within = slice_get_within (entries c.args.places.now) place.0 c.args.place place.1 in
      let all = c.places-test.false in let many = c.len-rank-end.ensures in
      absurd (c.places.invariant place.0 c.args.place (omega (arith, within, all, many)) place.1 refl),
)
