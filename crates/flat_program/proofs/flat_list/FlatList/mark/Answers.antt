use Rattle.std.proofs.Common.{◌≡◌, List, Some, reverse, slice_get, refl, sym, ap, ◌∙◌}
use Rattle.std.proofs.lemmas.Option.{slice_get_read}
use Rattle.flat_code.specs.declared.place.Place.{Place}
use Rattle.flat_program.proofs.Starts.{mark_at}
use Rattle.flat_program.proofs.flat_list.FlatList.mark.Goals as goal

pub returns-in-Some : goal.returns-in-Some
returns-in-Some c =
    let lookup = c.in-Some.ensures.lookup in
    let here = c.in-Some.here.now in
    let there : slice_get c.deref.result.now c.args.place ≡ Some here = slice_get_read c.deref.result.now _ c.args.place here refl lookup.3.0 lookup.1 in
    ap reverse c.deref-in-Some.ensures.value
    ∙ sym
    (mark_at c.args.self.now.places.items c.args.place here (ap (λ (ps : List Place). slice_get ps c.args.place) (sym c.deref.ensures.value) ∙ there))
