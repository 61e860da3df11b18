use Rattle.std.proofs.Common.{◌≡◌, ◌-◌, Some, slice_get, IsTrue, refl, sym, ◌∙◌, rules}
use Rattle.std.proofs.lemmas.Option.{slice_get_read}
use Rattle.flat_program.proofs.Starts.{same_mark}
use Rattle.flat_program.proofs.starting.is_first.Goals as goal

pub returns-clause-first : goal.returns-clause-first
returns-clause-first c other same =
    let places = c.args.places.now in
    let at = c.args.at in
    let before = c.in-Some.before.now in
    let here = c.in-Some-get.here.now in
    let one = c.in-Some.ensures.lookup in
    let two = c.in-Some-get.ensures.lookup in
    let there : slice_get places (at - 1) ≡ Some before = slice_get_read places _ (at - 1) before refl one.3.0 one.1 in
    let next : slice_get places at ≡ Some here = slice_get_read places _ at here refl two.3.0 two.1 in
    let marks = c.deref.ensures.value ∙ same_mark places at before here there next same ∙ sym c.deref-2.ensures.value in
    let equal : IsTrue c.are_same_frames.result = c.are_same_frames.ensures.1 marks in
    search rules
