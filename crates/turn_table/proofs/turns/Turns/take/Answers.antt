use prog.Atomic.{either}
use Rattle.std.proofs.Common.{◌≡◌, eqb, ◌<◌, ◌∷◌, Some, None, arith, refl, sym, ap, ◌∙◌, subst}
use Rattle.atomic_table.specs.Table.{rest}
use Rattle.turn_table.specs.Hands.{took, refused}
use Rattle.turn_table.specs.Law.{TakeKeeps, HeldKeeps, Meets, MeetsHeld}
use Rattle.turn_table.specs.Steps.{with, placed, Tried}
use Rattle.turn_table.proofs.Hands.{within_more}
use Rattle.turn_table.proofs.Steps.{tries}
use Rattle.turn_table.proofs.Words.{of_word}
use Rattle.turn_table.proofs.Sits.{placed_is, placed_after, view_after, in_place, same_front}
use Rattle.turn_table.proofs.turns.Turns.take.Goals as goal

pub compare_exchange-found-requires : goal.compare_exchange-found-requires
compare_exchange-found-requires g c = let table = c.args.self.now.table.shared.table_id in let is = placed_is table c.seat.inside.seat c.args.seat.now c.seat.view_is c.requires.here.0 in (
  ap (λ x. x.table) c.seat.view_is ∙ c.requires.here.0,
  (let i = c.requires.slot.0 in let w = c.args.self.now.sized.0 in omega arith),
  of_word _ _ _ _ c.args.i (λ n. either (eqb n 0) 1 n) (λ i. Tried g.L.TurnLaw.fact g.L.TurnLaw.blank c.args.self.now.table.shared.key.key.value table c.seat.inside.seat.id i g.M.Notes.note c.seat.inside.seat.me)
      (tries g.L.TurnLaw.fact g.L.TurnLaw.blank c.args.self.now.table.shared.key table c.args.i c.seat.inside.seat.id c.seat.inside.seat.me g.M.Notes.note c.seat.invariant.1 c.requires.slot.0
      (subst (λ x. TakeKeeps g.L.TurnLaw.fact g.L.TurnLaw.blank c.args.self.now.table.shared.key.key.value x c.args.i g.M.Notes.note) (sym is) c.requires.keeps.0)
      (subst (λ x. HeldKeeps g.L.TurnLaw.fact g.L.TurnLaw.blank c.args.self.now.table.shared.key.key.value x c.args.i g.M.Notes.note) (sym is) c.requires.keeps.1)),
)

pub invariant_of-seat : goal.invariant_of-seat
invariant_of-seat g c = let was = (c.compare_exchange-found.ensures.2 c.args.i refl).1 c.if-found-ne0.true in in_place c.seat.inside.seat c.compare_exchange-found.new.seat _ _ was.0 c.seat.invariant.0 c.seat.invariant.1 c.compare_exchange-found.ensures.0 c.seat.invariant.2

pub returns-then-found-ne0-clause-seat : goal.returns-then-found-ne0-clause-seat
returns-then-found-ne0-clause-seat g c = let was = (c.compare_exchange-found.ensures.2 c.args.i refl).1 c.if-found-ne0.true in (
  refl,
  c.if-found-ne0.true,
  view_after (λ h. refused g.M.Notes.note h c.args.i c.compare_exchange-found.result) c.seat.inside.seat c.compare_exchange-found.new.seat c.args.seat.now c.seat.view_is c.compare_exchange-found.ensures.0 c.compare_exchange-found.ensures.1 (ap (λ m. m.0) was.0),
)

pub returns-then-found-ne0-clause-meets : goal.returns-then-found-ne0-clause-meets
returns-then-found-ne0-clause-meets g c = let was = (c.compare_exchange-found.ensures.2 c.args.i refl).1 c.if-found-ne0.true in let table = c.args.self.now.table.shared.table_id in
    subst (λ x. MeetsHeld g.L.TurnLaw.fact g.L.TurnLaw.blank c.args.self.now.table.shared.key.key.value x c.args.i c.compare_exchange-found.result)
    (placed_after table c.seat.inside.seat c.compare_exchange-found.new.seat c.args.seat.now c.seat.view_is c.requires.here.0 c.compare_exchange-found.ensures.0 c.compare_exchange-found.ensures.1) was.1

pub exchange-requires : goal.exchange-requires
exchange-requires g c = let got = (c.compare_exchange-found.ensures.2 c.args.i refl).0 c.if-found-ne0.false in let e = ap (λ m. m.1) got.1 in (
  c.compare_exchange-found.ensures.0 ∙ ap (λ x. x.table) c.seat.view_is ∙ c.requires.here.0,
  (Some got.0, e ∙ ap (λ l. (c.args.i, Some got.0) ∷ l) (sym (ap rest e))),
)

pub unreachable-requires : goal.unreachable-requires
unreachable-requires g c = let got = (c.compare_exchange-found.ensures.2 c.args.i refl).0 c.if-found-ne0.false in let e = same_front c.args.i _ _ _ _ (sym (ap (λ m. m.1) got.1) ∙ c.exchange.ensures.2) ∙ c.in-None.is in cc

pub invariant_of-seat-2 : goal.invariant_of-seat-2
invariant_of-seat-2 g c = let got = (c.compare_exchange-found.ensures.2 c.args.i refl).0 c.if-found-ne0.false in
    let slots : c.args.self.now.table.shared.table_id.slots ≡ c.seat.inside.seat.table_id.slots = ap (λ z. z.slots) (sym (ap (λ x. x.table) c.seat.view_is ∙ c.requires.here.0)) in
    in_place c.seat.inside.seat c.exchange.new.seat _ _ (c.exchange.ensures.3 ∙ ap (λ m. (m.0, (c.args.i, None) ∷ rest m.1)) got.1) (ap (λ l. (c.args.i, None) ∷ l) c.seat.invariant.0) c.seat.invariant.1 (c.exchange.ensures.0 ∙ c.compare_exchange-found.ensures.0)
    (within_more c.seat.inside.seat.table_id.slots c.args.i got.0 c.seat.inside.seat.me.0.hand.holds (subst (λ n. c.args.i < n) slots c.requires.slot.0) c.seat.invariant.2)

pub returns-clause-seat : goal.returns-clause-seat
returns-clause-seat g c = let got = (c.compare_exchange-found.ensures.2 c.args.i refl).0 c.if-found-ne0.false in
    let e = same_front c.args.i _ _ _ _ (sym (ap (λ m. m.1) got.1) ∙ c.exchange.ensures.2) ∙ c.in-Some.is in let v : got.0 ≡ c.in-Some.value = cc in
    view_after (λ h. took g.M.Notes.note h c.args.i c.in-Some.value) c.seat.inside.seat c.exchange.new.seat c.args.seat.now c.seat.view_is (c.exchange.ensures.0 ∙ c.compare_exchange-found.ensures.0) (c.exchange.ensures.1 ∙ c.compare_exchange-found.ensures.1)
    (ap (λ m. m.0) c.exchange.ensures.3 ∙ ap (λ m. m.0) got.1 ∙ ap (λ x. with c.seat.inside.seat.me.0 (took g.M.Notes.note c.seat.inside.seat.me.0.hand c.args.i x)) v)

pub returns-clause-meets : goal.returns-clause-meets
returns-clause-meets g c = let got = (c.compare_exchange-found.ensures.2 c.args.i refl).0 c.if-found-ne0.false in let table = c.args.self.now.table.shared.table_id in
    let M = Meets g.L.TurnLaw.fact g.L.TurnLaw.blank c.args.self.now.table.shared.key.key.value in
    subst M (placed_after table c.seat.inside.seat c.exchange.new.seat c.args.seat.now c.seat.view_is c.requires.here.0 (c.exchange.ensures.0 ∙ c.compare_exchange-found.ensures.0) (c.exchange.ensures.1 ∙ c.compare_exchange-found.ensures.1))
    (subst (λ p. M (placed table c.seat.inside.seat.id p)) (sym (ap (λ m. m.0) c.exchange.ensures.3)) got.2)
