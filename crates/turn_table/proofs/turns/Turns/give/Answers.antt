use Rattle.std.proofs.Common.{◌<◌, ◌∷◌, None, arith, refl, sym, ap, ◌∙◌, subst}
use Rattle.atomic_table.specs.Table.{rest}
use Rattle.turn_table.specs.Hands.{Has, without_slot, gave}
use Rattle.turn_table.specs.Seats.{SeatView}
use Rattle.turn_table.specs.Law.{PutKeeps, Meets}
use Rattle.turn_table.specs.Steps.{with, placed, Fronted, Gave}
use Rattle.turn_table.proofs.Hands.{times_has, vacant_without, vacant_renewed, within_left}
use Rattle.turn_table.proofs.Fronts.{fronts}
use Rattle.turn_table.proofs.PutBacks.{gives_back}
use Rattle.turn_table.proofs.Words.{of_word}
use Rattle.turn_table.proofs.Sits.{placed_is, placed_after, view_after, in_place, same_front}
use Rattle.turn_table.proofs.turns.Turns.give.Goals as goal

pub load-requires : goal.load-requires
load-requires g c = let table = c.args.self.now.table.shared.table_id in let here = ap (λ x. x.table) c.seat.view_is ∙ c.requires.1.1.1.1.1.0.0 in let has = subst (λ x. Has c.args.i x.hand.holds) (sym c.seat.view_is) c.requires.1.1.1.1.1.1.0 in
    let near = subst (λ n. c.args.i < n) (ap (λ z. z.slots) here) (c.seat.invariant.2 c.args.i (times_has c.args.i _ has)) in let w = c.args.self.now.sized.0 in (
      here,
      omega arith,
      of_word _ _ _ _ c.args.i (λ n. n) (λ i _ m. Fronted i c.seat.inside.seat.me m)
          (fronts g.L.TurnLaw.fact g.L.TurnLaw.blank c.args.self.now.table.shared.key table.slots c.args.i c.seat.inside.seat.id c.seat.inside.seat.me c.seat.invariant.1 c.seat.invariant.0 has),
    )

pub exchange-requires : goal.exchange-requires
exchange-requires g c = let e = ap (λ m. m.1) (c.load.ensures.2 c.args.i refl) in (
  c.load.ensures.0 ∙ ap (λ x. x.table) c.seat.view_is ∙ c.requires.1.1.1.1.1.0.0,
  (None, e ∙ ap (λ l. (c.args.i, None) ∷ l) (sym (ap rest e))),
)

pub unreachable-requires : goal.unreachable-requires
unreachable-requires g c = let e = same_front c.args.i _ _ _ _ (sym (ap (λ m. m.1) (c.load.ensures.2 c.args.i refl)) ∙ c.exchange.ensures.2) ∙ c.in-Some.is in cc

pub store-requires : goal.store-requires
store-requires g c = let table = c.args.self.now.table.shared.table_id in let here = ap (λ x. x.table) c.seat.view_is ∙ c.requires.1.1.1.1.1.0.0 in let has = subst (λ x. Has c.args.i x.hand.holds) (sym c.seat.view_is) c.requires.1.1.1.1.1.1.0 in
    let near = subst (λ n. c.args.i < n) (ap (λ z. z.slots) here) (c.seat.invariant.2 c.args.i (times_has c.args.i _ has)) in let w = c.args.self.now.sized.0 in
    let same = ap (λ m. m.0) c.exchange.ensures.3 ∙ ap (λ m. m.0) (c.load.ensures.2 c.args.i refl) in let number = c.exchange.ensures.1 ∙ c.load.ensures.1 in
    let is = placed_is table c.seat.inside.seat c.args.seat.now c.seat.view_is c.requires.1.1.1.1.1.0.0 in
    let keeps = λ (x : SeatView g.row.L-Key.Denot g.row.V.Denot g.row.L-Note.Denot). PutKeeps g.L.TurnLaw.fact g.L.TurnLaw.blank c.args.self.now.table.shared.key.key.value x c.args.i c.args.value g.M.Puts.note g.shows in
    let law = subst keeps (sym is) c.requires.1.1.1.1.1.1.1 in
    let law' = subst (λ p. keeps (placed table c.exchange.new.seat.id p)) (sym same) (subst (λ n. keeps (placed table n c.seat.inside.seat.me.0)) (sym number) law) in (
      c.exchange.ensures.0 ∙ c.load.ensures.0 ∙ here,
      omega arith,
      of_word _ _ _ _ c.args.i (λ _. 0) (λ i _ m. Gave g.L.TurnLaw.fact g.L.TurnLaw.blank c.args.self.now.table.shared.key.key.value table c.exchange.new.seat.id i g.M.Puts.note g.shows c.exchange.new.seat.me m)
          (gives_back g.L.TurnLaw.fact g.L.TurnLaw.blank c.args.self.now.table.shared.key table c.args.i c.exchange.new.seat.id c.exchange.new.seat.me c.args.value _ g.M.Puts.note g.shows
          (ap (λ p. p.hand.seated) same ∙ c.seat.invariant.1) (ap (λ m. m.1) c.exchange.ensures.3) (subst (λ p. Has c.args.i p.hand.holds) (sym same) has) law'),
    )

pub invariant_of-seat : goal.invariant_of-seat
invariant_of-seat g c = let same = ap (λ m. m.0) c.exchange.ensures.3 ∙ ap (λ m. m.0) (c.load.ensures.2 c.args.i refl) in
    let left = ap (λ m. rest m.1) c.exchange.ensures.3 ∙ ap (λ m. rest m.1) (c.load.ensures.2 c.args.i refl) in
    in_place c.seat.inside.seat c.store.new.seat (with c.seat.inside.seat.me.0 (gave g.M.Puts.note g.shows c.seat.inside.seat.me.0.hand c.args.i)) (without_slot c.args.i c.seat.inside.seat.me.1)
    ((c.store.ensures.2 c.args.i refl).0 ∙ (λ k. (with (same k) (gave g.M.Puts.note g.shows (same k).hand c.args.i), left k)))
    (ap (without_slot c.args.i) c.seat.invariant.0 ∙ vacant_without c.args.i c.seat.inside.seat.me.0.hand.holds ∙ sym (vacant_renewed g.shows (without_slot c.args.i c.seat.inside.seat.me.0.hand.holds)))
    c.seat.invariant.1 (c.store.ensures.0 ∙ c.exchange.ensures.0 ∙ c.load.ensures.0) (within_left c.seat.inside.seat.table_id.slots c.args.i g.shows c.seat.inside.seat.me.0.hand.holds c.seat.invariant.2)

pub returns-clause-seat : goal.returns-clause-seat
returns-clause-seat g c = let same = ap (λ m. m.0) c.exchange.ensures.3 ∙ ap (λ m. m.0) (c.load.ensures.2 c.args.i refl) in
    view_after (λ h. gave g.M.Puts.note g.shows h c.args.i) c.seat.inside.seat c.store.new.seat c.args.seat.now c.seat.view_is (c.store.ensures.0 ∙ c.exchange.ensures.0 ∙ c.load.ensures.0) (c.store.ensures.1 ∙ c.exchange.ensures.1 ∙ c.load.ensures.1)
    (ap (λ m. m.0) (c.store.ensures.2 c.args.i refl).0 ∙ (λ k. with (same k) (gave g.M.Puts.note g.shows (same k).hand c.args.i)))

pub returns-clause-meets : goal.returns-clause-meets
returns-clause-meets g c = let table = c.args.self.now.table.shared.table_id in let number = c.exchange.ensures.1 ∙ c.load.ensures.1 in
    let M = Meets g.L.TurnLaw.fact g.L.TurnLaw.blank c.args.self.now.table.shared.key.key.value in
    subst M (placed_after table c.seat.inside.seat c.store.new.seat c.args.seat.now c.seat.view_is c.requires.1.1.1.1.1.0.0 (c.store.ensures.0 ∙ c.exchange.ensures.0 ∙ c.load.ensures.0) (c.store.ensures.1 ∙ number))
    (subst (λ n. M (placed table n c.store.new.seat.me.0)) number (c.store.ensures.2 c.args.i refl).1)
