use Rattle.std.proofs.Common.{◌≡◌, ◌≤◌, List, [], refl, sym, ap, ◌∙◌, subst, arith}
use Rattle.std.proofs.lemmas.List.{nil_from_length}
use Rattle.std.specs.Vec.Iter.{into_iter_items}
use Rattle.block_arena.specs.Region.{Region, with_given}
use Rattle.slot_store.specs.declared.slot.Slot.{Slot}
use Rattle.slot_store.specs.Rows.{row_words, words_of}
use Rattle.slot_store.specs.Shown.{row_shown, slots_shown, blocks_shown}
use Rattle.slot_store.proofs.Holdings.{given_more, given_none, words_are}
use Rattle.slot_store.proofs.slots.Slots.give_all.Goals as goal

pub loop-slot-init : goal.loop-slot-init
loop-slot-init c =
    let first = c.into_iter-slot-iterator.ensures.into_iter_gives.0 in
    (tt, tt, subst (λ (xs : List Slot). row_words (row_shown xs) ≤ c.args.pool.now.live) (sym first) c.requires.live, refl)

pub give-requires : goal.give-requires
give-requires c =
    let total = ap (λ (xs : List Slot). row_words (row_shown xs)) c.in-Some.ensures.steps.0 in
    omega (arith, total, c.loop-slot.invariant.2)

pub loop-slot-preserved : goal.loop-slot-preserved
loop-slot-preserved c =
    let total = ap (λ (xs : List Slot). row_words (row_shown xs)) c.in-Some.ensures.steps.0 in
    let words = words_of (blocks_shown c.in-Some.slot.block) in
    let rest = row_words (row_shown (into_iter_items c.next.new.self)) in
    let live = ap Region.live c.give.ensures in (
      tt,
      tt,
      omega (arith, total, live, c.loop-slot.invariant.2),
      ap (λ (p : Region). with_given p rest) c.give.ensures ∙ given_more c.loop-slot.pool words rest
          ∙ ap (λ n. with_given c.loop-slot.pool n) (sym total) ∙ c.loop-slot.invariant.3,
    )

pub returns-clause-row : goal.returns-clause-row
returns-clause-row c =
    let first = c.into_iter-slot-iterator.ensures.into_iter_gives.0 in
    let left = c.loop-slot.slot-iterator in
    let none : into_iter_items left ≡ [] = nil_from_length (into_iter_items left) (sym left.rest.ok.0 ∙ c.in-None.ensures.steps.0) in
    sym (given_none c.loop-slot.pool)
    ∙ ap (λ (xs : List Slot). with_given c.loop-slot.pool (row_words (row_shown xs))) (sym none)
    ∙ c.loop-slot.invariant.3
    ∙ ap (λ (xs : List Slot). with_given c.args.pool.now (row_words (row_shown xs))) first

pub returns-clause-store : goal.returns-clause-store
returns-clause-store c names store shows =
    returns-clause-row c ∙ ap (λ n. with_given c.args.pool.now n) (words_are names (slots_shown c.args.self) store shows)
