use Rattle.std.proofs.Common.{◌≡◌, suc, Some, slice_get, arith, sym, ◌∙◌, refl}
use denote.Ref.{Bor}
use Rattle.std.proofs.lemmas.Option.{slice_get_read}
use Rattle.containers.specs.declared.bounded_list.BoundedList.{BoundedList}
use Rattle.containers.specs.BoundedList.{entries}
use Rattle.dag_order.specs.declared.birth.Birth.{Birth}
use Rattle.dag_order.proofs.BirthLemmas.{birth_found}
use Rattle.prefix_laws.proofs.labels.birth_of.Goals as goal

pub returns : goal.returns
returns c =
    let is : c.args.id.period ≡ suc c.in_ok-before.before = omega (arith, c.in_ok-before.ensures) in
    let lookup = c.in-Some.ensures.lookup in
    let found : slice_get c.args.births.now c.in_ok-before.before ≡ Some c.in-Some.period.now =
    slice_get_read c.args.births.now _ c.in_ok-before.before c.in-Some.period.now refl lookup.3.0 lookup.1 in
    let value : c.copied.result ≡ slice_get (entries c.in-Some.period.now.now) c.args.id.nth = c.copied.ensures ∙ c.at.ensures in
    value ∙ sym (birth_found (λ (r : Bor (BoundedList Birth)). entries r.now) c.args.births.now c.args.id.period c.in_ok-before.before c.args.id.nth c.in-Some.period.now is found)
