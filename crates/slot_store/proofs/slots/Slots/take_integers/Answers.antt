use Rattle.std.proofs.Common.{◌≡◌, List, ℕ, length, get_or, take, sym, ap, ◌∙◌, subst, arith, length-set, ℤ, w64, rules}
use Rattle.std.proofs.lemmas.Int.{to_z-of_z}
use Rattle.std.proofs.lemmas.List.{take_more}
use Rattle.slot_store.specs.Rows.{entry_at, with_integer_at}
use Rattle.slot_store.specs.Shown.{slots_shown}
use Rattle.slot_store.specs.Forks.{with_integers_of}
use Rattle.slot_store.proofs.Parting.{fits_at, integers_next}
use Rattle.slot_store.proofs.slots.Slots.take_integers.Goals as goal

pub set_integer-requires : goal.set_integer-requires
set_integer-requires c =
    let within = fits_at (length (slots_shown c.args.self.now)) c.args.assigned.now c.loop-slot.slot-index 0 c.requires.within c.loop-slot-test.true in
    omega (arith, within, c.loop-slot.invariant.0)

pub loop-slot-preserved : goal.loop-slot-preserved
loop-slot-preserved c =
    let own = slots_shown c.args.self.now in
    let child = slots_shown c.args.child.now in
    let slots = c.args.assigned.now in
    let i = c.loop-slot.slot-index in
    let s = get_or slots i 0 in
    let now = slots_shown c.loop-slot.self in
    let new = slots_shown c.set_integer.new.self in
    let within = fits_at (length own) slots i 0 c.requires.within c.loop-slot-test.true in
    let number = to_z-of_z w64 c.integer.result (search rules) in
    let row = c.set_integer.ensures.row ∙ ap (λ (v : ℤ). with_integer_at now s v) (number ∙ c.integer.ensures.row) in
    let has = integers_next own child now new (take i slots) s (omega (arith, within, c.loop-slot.invariant.0)) c.loop-slot.invariant.1 row in (
      ap length row ∙ length-set now s _ ∙ c.loop-slot.invariant.0,
      subst (λ (ss : List ℕ). (j : ℕ) → entry_at new j ≡ with_integers_of own child ss j) (sym (take_more slots i 0 c.loop-slot-test.true)) has,
    )
