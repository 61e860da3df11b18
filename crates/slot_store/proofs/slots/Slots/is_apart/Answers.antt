use Rattle.std.proofs.Common.{◌+◌, ◌≤◌, length, refl, sym, subst, arith, rules}
use Rattle.slot_store.specs.Rows.{blocks_at}
use Rattle.slot_store.specs.Shown.{slots_shown}
use Rattle.slot_store.proofs.Rows.{block_or_none, past_end}
use Rattle.slot_store.proofs.Parting.{same_or_other, below_or_past}
use Rattle.slot_store.proofs.slots.Slots.is_apart.Goals as goal

pub loop-slot-preserved : goal.loop-slot-preserved
loop-slot-preserved c s below =
    let own = slots_shown c.args.self.now in
    let child = slots_shown c.args.child.now in
    same_or_other s c.loop-slot.slot (length (blocks_at own s) + length (blocks_at child s) ≤ 1)
    (λ is. subst (λ j. length (blocks_at own j) + length (blocks_at child j) ≤ 1) (sym is) (c.if-not-is_apart_at.ensures.0 refl))
    (λ differ. c.loop-slot.invariant s (omega (arith, below, differ)))

pub returns : goal.returns
returns c =
    let own = slots_shown c.args.self.now in
    let child = slots_shown c.args.child.now in (
      λ yes s. below_or_past s c.loop-slot.slot (length (blocks_at own s) + length (blocks_at child s) ≤ 1) (λ below. c.loop-slot.invariant s below)
          (λ past.
          let none = past_end c.args.self.now.slots.items s
          (omega (arith, past, c.loop-slot-test.false, c.len-slot-end.ensures, c.args.self.now.slots.ok.0)) in
          let most = block_or_none c.args.child.now.slots.items s in
          omega (arith, none, most)),
      λ apart. search rules,
    )
