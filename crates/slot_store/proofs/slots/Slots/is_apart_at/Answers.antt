use Rattle.std.proofs.Common.{length, ap, arith, rules}
use Rattle.slot_store.proofs.Rows.{block_or_none}
use Rattle.slot_store.proofs.slots.Slots.is_apart_at.Goals as goal

pub returns-then-not-has_block : goal.returns-then-not-has_block
returns-then-not-has_block c =
    let none = ap length (c.has_block.ensures.none.0 c.if-not-has_block.true) in
    let most = block_or_none c.args.child.now.slots.items c.args.slot in
    (λ yes. omega (arith, none, most), λ apart. search rules)
