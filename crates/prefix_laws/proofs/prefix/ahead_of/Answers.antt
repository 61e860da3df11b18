use Rattle.std.proofs.Common.{◌≡◌, ap, ◌∙◌, arith}
use Rattle.std.proofs.lemmas.Slice.Zip.{AllZip-long}
use Rattle.containers.specs.BoundedList.{entries}
use Rattle.deque_machine.specs.Books.{done_in, periods_ahead}
use Rattle.deque_machine.proofs.Keeping.{one_prefix_of}
use Rattle.serial_journal.specs.Telling.{ShowsAction}
use Rattle.depth_first_run.specs.Run.{list_of}
use Rattle.prefix_laws.specs.Prefixes.{places_behind, many_past}
use Rattle.prefix_laws.proofs.Counting.{prefix_is, past_is_ahead}
use Rattle.prefix_laws.proofs.prefix.ahead_of.Goals as goal

pub returns : goal.returns
returns c = λ s books n b told prefix.
    let long = AllZip-long (ShowsAction (entries c.args.serial.now.births)) (list_of s) (entries c.args.serial.now.actions) told.actions_are in
    let many = c.len.ensures in let inside = c.prefix_in-prefix.ensures.inside in let books_are = c.in_ok-books.ensures s books b told in
    let own = prefix_is (list_of s) books (places_behind (entries c.in_ok-books.books)) c.prefix_in-prefix.result books_are (omega (arith, long, many, inside))
    c.prefix_in-prefix.ensures.done (λ below. c.prefix_in-prefix.ensures.next (omega (arith, below, long, many))) in
    let same : c.prefix_in-prefix.result ≡ n = one_prefix_of (list_of s) (done_in books) n c.prefix_in-prefix.result prefix own in
    c.count_past.ensures ∙ ap (many_past c.prefix_in-prefix.result) books_are ∙ past_is_ahead c.prefix_in-prefix.result books ∙ ap (λ k. periods_ahead k books) same
