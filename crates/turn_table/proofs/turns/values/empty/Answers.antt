use Rattle.std.proofs.Common.{arith, ℕ, false, sym, ap, ◌∙◌, ◌++◌, option_to_list, get_or, get_or-set_other}
use Rattle.core.specs.Mem.Slots.{slots_items, slots_filled}
use lib.ListN.{get_elem?}
use Rattle.turn_table.proofs.Wraps.{kept_next, emptied}
use Rattle.turn_table.proofs.turns.values.empty.Goals as goal

pub loop-i-preserved : goal.loop-i-preserved
loop-i-preserved g c = let i : ℕ = c.loop-i.i in let inv = c.loop-i.invariant in let all = slots_items c.args.closed.now.slots in (
  c.keep.ensures.items ∙ ap (λ xs. xs ++ option_to_list c.take.result) inv.0 ∙ sym (kept_next all i c.take.result (ap (λ xs. get_elem? xs i) (sym inv.3) ∙ c.take.ensures.value)),
  (let l = c.keep.ensures.len in let b = inv.1 in omega arith),
  c.keep.ensures.room ∙ inv.2,
  c.take.ensures.others.0 ∙ inv.3,
  c.take.ensures.others.2 ∙ inv.4,
  (λ k low high. ap (λ fs. get_or fs k false) c.take.ensures.others.1 ∙ get_or-set_other (slots_filled c.loop-i.closed.slots) i k false false (λ e. omega arith) ∙ inv.5 k (omega arith) (let e = c.take.ensures.others.2 in omega arith)),
  (λ k low. ap (λ fs. get_or fs k false) c.take.ensures.others.1 ∙ emptied (slots_filled c.loop-i.closed.slots) i k low inv.6),
)
