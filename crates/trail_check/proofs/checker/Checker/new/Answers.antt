-- The opening.
use Rattle.std.proofs.Common.{◌≡◌, replicate, false, refl, ap, subst, ◌∙◌, rules}
use Rattle.std.specs.Prelude.{None}
use Rattle.containers.specs.BoundedList.{entries}
use Rattle.trail_check.specs.Tallies.{IsBlank}
use Rattle.trail_check.proofs.Opening.{opens}
use Rattle.trail_check.proofs.checker.Checker.new.Goals as goal

pub returns : goal.returns
returns c = λ s limits given.
    let seats : c.in_ok-vec.field-0.items ≡ replicate c.args.terms.workers None = search rules in
    let waits : c.in_ok-vec-2.field-0.items ≡ replicate c.len-places.result false = search rules in
    opens s limits (entries c.args.actions) c.args.partners.items c.args.terms given _ refl refl refl refl refl refl refl c.in-Ok.ensures.most c.in-Ok.ensures.deques
    seats (waits ∙ ap (λ n. replicate n false) c.len-places.ensures) (subst (λ n. IsBlank n c.in_ok-new.field-0) c.len-places.ensures c.in_ok-new.ensures)
