use Rattle.std.proofs.Common.{◌≡◌, length, slice_get, Some, refl, sym, ap, ◌∙◌, subst, rules}
use Rattle.std.proofs.lemmas.Option.{slice_get_read, slice_get_within, slice_get_past}
use Rattle.slot_store.specs.Shown.{slots_shown}
use Rattle.flat_code.specs.Passed.Flat.{step_at, arrived}
use Rattle.flat_code.specs.Shown.{flat_shown, instruction_shown}
use Rattle.flat_run.specs.Ran.{at_point, RanTo}
use Rattle.flat_run.proofs.Forward.{what_at, none_at, one_more, falls}
use Rattle.flat_run.proofs.running.run_flat.Goals as goal

pub steps-init : goal.steps-init
steps-init c = arrived

pub steps-smaller : goal.steps-smaller
steps-smaller c =
    let p = at_point c.steps.at (slots_shown c.steps.slots) c.steps.left in
    let q = at_point c.in-Goes.place (slots_shown c.do_one.new.slots) c.in-Goes.turns in
    let places = c.args.places.now in
    let what = instruction_shown c.in-Some.place.now.what in
    let lookup = c.in-Some.ensures.lookup in
    let at : slice_get places c.steps.at ≡ Some c.in-Some.place.now = slice_get_read places _ c.steps.at c.in-Some.place.now refl lookup.3.0 lookup.1 in
    falls (length places) p q (slice_get_within places c.steps.at c.in-Some.place.now at) what
    (c.requires c.steps.at what (what_at places c.steps.at c.in-Some.place.now at)) c.in-Goes.ensures.step

pub steps-preserved : goal.steps-preserved
steps-preserved c =
    let p = at_point c.steps.at (slots_shown c.steps.slots) c.steps.left in
    let q = at_point c.in-Goes.place (slots_shown c.do_one.new.slots) c.in-Goes.turns in
    let places = c.args.places.now in
    let lookup = c.in-Some.ensures.lookup in
    let at : slice_get places c.steps.at ≡ Some c.in-Some.place.now = slice_get_read places _ c.steps.at c.in-Some.place.now refl lookup.3.0 lookup.1 in
    one_more c.steps.invariant q (ap (step_at p) (what_at places c.steps.at c.in-Some.place.now at) ∙ c.in-Goes.ensures.step)

pub returns-in-Ends : goal.returns-in-Ends
returns-in-Ends c =
    let f = flat_shown c.args.places.now in
    let p = at_point c.steps.at (slots_shown c.steps.slots) c.steps.left in
    let places = c.args.places.now in
    let lookup = c.in-Some.ensures.lookup in
    let at : slice_get places c.steps.at ≡ Some c.in-Some.place.now = slice_get_read places _ c.steps.at c.in-Some.place.now refl lookup.3.0 lookup.1 in
    let step = ap (step_at p) (what_at places c.steps.at c.in-Some.place.now at) ∙ c.in-Ends.ensures.step in
    let first = at_point c.args.from (slots_shown c.args.slots.now) c.args.turns in
    subst (λ row. RanTo f first (record { place = c.steps.at; turns = c.steps.left; end = c.in-Ends.end }) row)
    (sym c.in-Ends.ensures.stays) (record { runs = c.steps.invariant; ends = step })

pub returns : goal.returns
returns c = record {
  runs = c.steps.invariant;
  ends =
      ap (step_at (at_point c.steps.at (slots_shown c.steps.slots) c.steps.left))
      (none_at c.args.places.now c.steps.at (slice_get_past c.args.places.now c.steps.at (search rules)));
}
