use Rattle.std.proofs.Common.{arith, refl}
use Rattle.block_arena.proofs.Fronts.{shown-length, shown-room}
use Rattle.block_arena.proofs.numbers.Numbers.can_join.Goals as goal

pub returns-then-left-ne0 : goal.returns-then-left-ne0
returns-then-left-ne0 c =
    let left = c.left.inside in
    let len = shown-length left.pieces left.len c.args.left.now c.left.view_is c.left.invariant.exact in
    (λ h. (cc), λ can. absurd (c.if-left-ne0.true (rw len at can.whole)))

pub returns-then-capacity-pieces : goal.returns-then-capacity-pieces
returns-then-capacity-pieces c =
    let left = c.left.inside in
    let right = c.right.inside in
    let len = shown-length left.pieces left.len c.args.left.now c.left.view_is c.left.invariant.exact in
    let room = shown-room left.pieces left.len c.args.left.now c.left.view_is in
    let more = shown-length right.pieces right.len c.args.right.now c.right.view_is c.right.invariant.exact in
    (λ h. (cc), λ can. absurd (let enough = rw (len, more, room) at can.room in omega arith))

pub returns-then-pieces-gt-MOST_PIECES : goal.returns-then-pieces-gt-MOST_PIECES
returns-then-pieces-gt-MOST_PIECES c =
    let left = c.left.inside in
    let right = c.right.inside in
    let len = shown-length left.pieces left.len c.args.left.now c.left.view_is c.left.invariant.exact in
    let more = shown-length right.pieces right.len c.args.right.now c.right.view_is c.right.invariant.exact in
    (λ h. (cc), λ can. absurd (let fits = rw (len, more) at can.fits in omega arith))

pub returns : goal.returns
returns c =
    let left = c.left.inside in
    let right = c.right.inside in
    let len = shown-length left.pieces left.len c.args.left.now c.left.view_is c.left.invariant.exact in
    let room = shown-room left.pieces left.len c.args.left.now c.left.view_is in
    let more = shown-length right.pieces right.len c.args.right.now c.right.view_is c.right.invariant.exact in (
      λ h. record {
        whole = rw len c.if-left-ne0.false;
        room = rw (len, more, room) (omega arith);
        fits = rw (len, more) (omega arith);
      },
      λ can. refl,
    )
