use Rattle.std.proofs.Common.{sym, subst}
use Rattle.containers.specs.BoundedList.{entries}
use Rattle.trail_check.specs.Passing.{pairs_of}
use Rattle.trail_check.proofs.PlacesPassed.{IsPassing, none_passed, passing_on}
use Rattle.trail_check.proofs.Stacks.{Stands, begins}
use Rattle.trail_check.proofs.Listed.{passes, all_passed}
use Rattle.trail_check.proofs.places.partners.Goals as goal

pub pass-requires : goal.pass-requires
pass-requires c = (c.loop-place.invariant.0).passed

pub loop-place-init : goal.loop-place-init
loop-place-init c = (
  subst (λ m. IsPassing 0 m) (sym c.in_ok-pairing.ensures) none_passed,
  λ list listed. subst (λ m. Stands list 0 m) (sym c.in_ok-pairing.ensures) (begins list),
)

pub loop-place-preserved : goal.loop-place-preserved
loop-place-preserved c = (
  passing_on c.loop-place.place _ (pairs_of c.loop-place.pairing) (pairs_of c.pass.new.self) c.loop-place.invariant.0 c.in_ok-pass.ensures,
  λ list listed. passes list (entries c.args.actions.now) c.as_slice-actions.result.now listed c.as_slice-actions.ensures c.loop-place.place
      c.loop-place-test.true _ (pairs_of c.loop-place.pairing) (pairs_of c.pass.new.self) (c.loop-place.invariant.1 list listed) c.in_ok-pass.ensures,
)

pub returns : goal.returns
returns c = λ list listed.
    all_passed list (entries c.args.actions.now) c.as_slice-actions.result.now listed c.as_slice-actions.ensures c.loop-place.place
    (c.loop-place.auto).place-end c.loop-place-test.false (pairs_of c.loop-place.pairing) (c.loop-place.invariant.1 list listed)
