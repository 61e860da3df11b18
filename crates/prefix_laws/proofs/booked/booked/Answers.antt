use Rattle.std.proofs.Common.{ap, ◌∙◌}
use Rattle.std.proofs.lemmas.Result.{IfOk-weaker}
use Rattle.containers.specs.BoundedList.{entries}
use Rattle.prefix_laws.specs.Listing.{births_behind, books_behind}
use Rattle.prefix_laws.specs.Prefixes.{places_behind}
use Rattle.prefix_laws.proofs.Booking.{some_items, beside_listed, names_known, places_at}
use Rattle.prefix_laws.proofs.booked.booked.Goals as goal

pub in_order-requires : goal.in_order-requires
in_order-requires c = beside_listed c.args.table.now c.args.serial.now c.requires

pub names_in-requires : goal.names_in-requires
names_in-requires c = some_items c.args.table.now c.args.serial.now c.requires

pub all_places-requires : goal.all_places-requires
all_places-requires c = names_known c.args.table.now c.args.serial.now c.requires
    (births_behind c.deref.result.now) (λ sorted listed. ap births_behind c.deref.ensures.value ∙ c.in_ok-periods.ensures.births sorted listed)
    (books_behind c.deref-2.result.now) (λ sorted listed. ap books_behind c.deref-2.ensures.value ∙ c.in_ok-periods.ensures.books sorted listed)
    (entries c.in_ok-names.names) c.in_ok-names.ensures

pub returns : goal.returns
returns c = λ s books b tells. IfOk-weaker c.all_places.result _ _
    (λ all so. places_at c.args.table.now c.args.serial.now c.requires
    (births_behind c.deref.result.now) (λ sorted listed. ap births_behind c.deref.ensures.value ∙ c.in_ok-periods.ensures.births sorted listed)
    (books_behind c.deref-2.result.now) (λ sorted listed. ap books_behind c.deref-2.ensures.value ∙ c.in_ok-periods.ensures.books sorted listed)
    (entries c.in_ok-names.names) c.in_ok-names.ensures s books b tells (places_behind (entries all)) so) c.all_places.ensures
