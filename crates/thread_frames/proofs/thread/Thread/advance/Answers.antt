use Rattle.std.proofs.Common.{sym}
use Rattle.std.proofs.Math.Logic.{∥∥₁_map}
use Rattle.thread_frames.proofs.Listing.{of_list, joins_newest}
use Rattle.node_table.specs.Codes.{code_shown}
use Rattle.thread_frames.proofs.thread.Thread.advance.Goals as goal

pub returns-in-Some-clause-list : goal.returns-in-Some-clause-list
returns-in-Some-clause-list c = λ setting of.
    ∥∥₁_map (c.requires.point.at setting of) (λ x. of_list setting (code_shown c.args.code.now) c.args.self.now c.args.self.now.prepared c.in-Some.next x (sym c.in-Some.ensures))

pub returns-in-Some-clause-newest : goal.returns-in-Some-clause-newest
returns-in-Some-clause-newest c = joins_newest (code_shown c.args.code.now) _ c.args.self.now c.in-Some.next c.requires.point (sym c.in-Some.ensures)

pub returns-clause-list : goal.returns-clause-list
returns-clause-list c = λ setting of.
    ∥∥₁_map (c.in_ok-go_on.ensures.point.at setting of)
    (λ x. of_list setting (code_shown c.args.code.now) c.go_on.new.self c.go_on.new.self.prepared c.in-Some-told.next x (sym c.in-Some-told.ensures))

pub returns-clause-newest : goal.returns-clause-newest
returns-clause-newest c =
    joins_newest (code_shown c.args.code.now) _ c.go_on.new.self c.in-Some-told.next c.in_ok-go_on.ensures.point (sym c.in-Some-told.ensures)
