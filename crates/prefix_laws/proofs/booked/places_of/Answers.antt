use Rattle.std.proofs.Common.{◌++◌, ◌∷◌, [], sym, ap, ◌∙◌}
use Rattle.std.proofs.Math.Logic.{∥∥₁_map}
use Rattle.containers.specs.BoundedList.{entries}
use Rattle.prefix_laws.specs.Listing.{births_behind}
use Rattle.prefix_laws.specs.Naming.{IsKnown, IsPlaced}
use Rattle.prefix_laws.proofs.Places.{each_place}
use Rattle.prefix_laws.proofs.Naming.{as_known, placed_as, zip_more}
use Rattle.prefix_laws.proofs.booked.places_of.Goals as goal

pub name_of-requires : goal.name_of-requires
name_of-requires c = ∥∥₁_map
    (each_place (IsKnown (births_behind c.args.births.now) (entries c.args.names.now)) (entries c.args.book.now) c.actions.rank c.in-Some.id.now c.requires (sym c.in-Some.ensures))
    (λ known. (known.1.label, known.1.by))

pub place_of-requires : goal.place_of-requires
place_of-requires c = as_known (births_behind c.args.births.now) (entries c.args.names.now) c.in-Some.id.now c.in_ok-name.name c.in_ok-name.ensures.label c.in_ok-name.ensures.index
    (each_place (IsKnown (births_behind c.args.births.now) (entries c.args.names.now)) (entries c.args.book.now) c.actions.rank c.in-Some.id.now c.requires (sym c.in-Some.ensures))

pub actions-preserved : goal.actions-preserved
actions-preserved c = zip_more (IsPlaced (births_behind c.args.births.now) (entries c.args.names.now)) (entries c.args.book.now) (entries c.actions.places) (entries c.add.new.self)
    c.actions.rank c.in-Some.id.now c.place_of.result (sym c.in-Some.ensures) c.actions.invariant
    (placed_as (births_behind c.args.births.now) (entries c.args.names.now) c.in-Some.id.now c.in_ok-name.name c.place_of.result c.in_ok-name.ensures.label c.in_ok-name.ensures.index c.place_of.ensures)
    (c.add.ensures.entries ∙ ap (λ ps. ps ++ c.place_of.result ∷ []) c.in_ok-reserve.ensures.entries)
