use Rattle.std.proofs.Common.{arith}
use Rattle.std.proofs.lemmas.Slice.Zip.{AllZip-long}
use Rattle.containers.specs.BoundedList.{entries}
use Rattle.serial_journal.specs.Telling.{ShowsAction}
use Rattle.depth_first_run.specs.Run.{list_of}
use Rattle.prefix_laws.specs.Prefixes.{places_behind}
use Rattle.prefix_laws.proofs.Counting.{prefix_is}
use Rattle.prefix_laws.proofs.prefix.prefix_of.Goals as goal

pub returns : goal.returns
returns c = λ s books b told.
    let long = AllZip-long (ShowsAction (entries c.args.serial.now.births)) (list_of s) (entries c.args.serial.now.actions) told.actions_are in
    let many = c.len.ensures in let inside = c.prefix_in.ensures.inside in
    prefix_is (list_of s) books (places_behind (entries c.in_ok-books.books)) c.prefix_in.result (c.in_ok-books.ensures s books b told) (omega (arith, long, many, inside))
    c.prefix_in.ensures.done (λ below. c.prefix_in.ensures.next (omega (arith, below, long, many)))
