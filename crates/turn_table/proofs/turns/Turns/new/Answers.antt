use Rattle.std.proofs.Common.{◌<◌, ◌∷◌, [], arith, refl, sym, ap, ◌∙◌, subst, length, Some}
use Rattle.turn_table.specs.Hands.{fresh}
use lib.ListN.{length-map}
use Rattle.turn_table.specs.Rows.{unopened}
use Rattle.turn_table.specs.Steps.{with}
use Rattle.turn_table.specs.Values.{present}
use Rattle.turn_table.proofs.Sits.{in_place}
use Rattle.turn_table.proofs.Comings.{opens}
use Rattle.turn_table.proofs.Wraps.{present-some}
use Rattle.turn_table.proofs.Roomy.{have_room}
use Rattle.turn_table.proofs.turns.Turns.new.Goals as goal

pub load-requires : goal.load-requires
load-requires g c = let made = c.in-Ok-new.ensures.ok in let n = c.in-Ok.ensures.len in let al = c.as_slice.ensures.len in (
  made.2,
  (let w : 0 < c.in-Ok-new.table.shared.table_id.words = omega arith in w),
  opens g.L.TurnLaw.fact g.L.TurnLaw.blank c.in-Ok-new.table.shared.key c.args.values.items (g.M.Opens.note g.L.TurnLaw.blank) c.in-Ok-new.table.shared.table_id.slots c.in-Ok-new.seat.id c.in-Ok-new.seat.me
      (subst (λ k. g.L.TurnLaw.fact k c.args.values.items 0 (fresh (g.M.Opens.note g.L.TurnLaw.blank) ∷ [])) (sym (ap (λ o. o.key.value) made.5 ∙ c.of.ensures)) c.requires.keeps)
      (ap (λ o. o.values.value.items) made.5 ∙ ap (λ v. v.items) c.of-2.ensures ∙ c.in-Ok-wrap.ensures.ok)
      made.3 (made.4 ∙ ap (λ o. (unopened o.key.value g.L.TurnLaw.blank, [])) (sym made.5)),
)

pub invariant_of-result : goal.invariant_of-result
invariant_of-result g c = in_place c.in-Ok-new.seat c.load.new.seat (with c.in-Ok-new.seat.me.0 (fresh (g.M.Opens.note g.L.TurnLaw.blank))) c.in-Ok-new.seat.me.1 c.load.ensures.2 (ap (λ m. m.1) c.in-Ok-new.ensures.ok.4) refl c.load.ensures.0 (λ k pos. absurd (omega arith))

pub returns-in-Ok-new-clause-ok : goal.returns-in-Ok-new-clause-ok
returns-in-Ok-new-clause-ok g c = let made = c.in-Ok-new.ensures.ok in (
  (c.load.ensures.0 ∙ made.2, ap (λ m. m.0.key) c.load.ensures.2 ∙ ap (λ m. m.0.key) made.4 ∙ ap (λ o. Some o.key.value) (sym made.5)),
  ap (λ o. o.key.value) made.5 ∙ c.of.ensures,
  made.1 ∙ ap length c.in-Ok-wrap.ensures.ok ∙ length-map c.args.values.items Some ∙ sym c.args.values.ok.0,
  ap (λ m. m.0.hand) c.load.ensures.2,
)

pub returns-clause-err : goal.returns-clause-err
returns-clause-err g c = c.unwrap.ensures ∙ ap present (c.in-Err.ensures.err ∙ c.in-Ok-wrap.ensures.ok) ∙ present-some c.args.values.items

pub unwrap-requires : goal.unwrap-requires
unwrap-requires g c = (
  c.in-Ok-wrap.ensures.left,
  have_room c.args.values c.wrap.new.values _
      (c.in-Err.field-0.slots.ok.0 ∙ ap length (c.in-Err.ensures.err ∙ c.in-Ok-wrap.ensures.ok) ∙ length-map c.args.values.items Some)
      c.wrap.ensures.room,
)

pub invariant_of-result-in-Ok-new : goal.invariant_of-result-in-Ok-new
invariant_of-result-in-Ok-new g c =
    let made = c.in-Ok-new.ensures.ok in
    let n = c.in-Ok.ensures.len in
    let al = c.as_slice.ensures.len in
    let count = made.1 ∙ ap length c.in-Ok-wrap.ensures.ok ∙ length-map c.args.values.items Some in
    record {
      sized = (omega arith, omega arith, omega arith);
      told = ap (λ o. length o.values.value.items) made.5 ∙ ap (λ v. length v.items) c.of-2.ensures ∙ sym made.1;
      roomy = (c.in-Ok-wrap.ensures.left, have_room c.args.values c.wrap.new.values _ count c.wrap.ensures.room);
    }
