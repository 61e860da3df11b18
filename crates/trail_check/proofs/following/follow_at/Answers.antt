use Rattle.std.proofs.Common.{◌<◌, length, sym, subst, arith}
use Rattle.containers.specs.BoundedList.{entries}
use Rattle.trail_check.specs.Steps.{Followed}
use Rattle.trail_check.proofs.Ways.{standing, followed, refused}
use Rattle.trail_check.proofs.following.follow_at.Goals as goal

pub follow-requires : goal.follow-requires
follow-requires c =
    let short = c.args.events.now.short in let size = c.args.events.now.items.ok.0 in
    let few : length (entries c.args.events.now) < 4294967296 = omega (arith, short, size) in
    standing c.requires.followed.0 c.requires.followed.1 (entries c.args.events.now) c.args.at c.args.checker.now c.requires.inside few c.requires.followed.2

pub returns-then-not-branch : goal.returns-then-not-branch
returns-then-not-branch c = λ s limits numbers had.
    refused s limits (entries c.args.events.now) numbers c.args.at c.in-Some.told.now c.args.checker.now (sym c.in-Some.ensures) had
    (subst (λ leads. Followed s limits had.run had.moment c.in-Some.told.now leads c.follow.new.self) c.if-not-branch.true
    (c.in_ok-follow.ensures.followed s limits had.run had.moment had.stands))

pub returns : goal.returns
returns c = λ s limits numbers had.
    followed s limits (entries c.args.events.now) c.args.at c.in-Some.told.now c.args.checker.now c.follow.new.self (sym c.in-Some.ensures) had
    (subst (λ leads. Followed s limits had.run had.moment c.in-Some.told.now leads c.follow.new.self) c.if-not-branch.false
    (c.in_ok-follow.ensures.followed s limits had.run had.moment had.stands))
