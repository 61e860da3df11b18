-- What the worker has, and what its top thread does next.
use Rattle.std.proofs.Common.{sym, ap, subst, ◌∙◌, arith, true≢false, w64, rules}
use Rattle.std.specs.Prelude.{Some, None, is_some}
use Rattle.std.proofs.lemmas.Int.{to_z-of_z}
use Rattle.trail_check.specs.Steps.{IsStep, UsedAfter}
use Rattle.std.proofs.lemmas.Option.{same_Some}
use Rattle.trail_check.proofs.Refusing.{idle_acts_not}
use Rattle.trail_check.proofs.Leaving.{sits, top_next}
use Rattle.trail_check.proofs.Stepping.{live_deque, top_is, shown_inside, got_inside, no_step, one_step}
use Rattle.trail_check.proofs.checker.Checker.next_step.Goals as goal

pub returns-in_default-clause-step : goal.returns-in_default-clause-step
returns-in_default-clause-step c = λ s limits run m stands. idle_acts_not s limits run m c.args.self.now stands c.args.worker (sym c.seat.ensures ∙ c.in_default.is)

pub top-requires : goal.top-requires
top-requires c = live_deque c.requires.0 c.requires.1 c.requires.2 c.requires.3 c.args.self.now c.requires.4 c.args.worker c.in-Some.seat (sym c.seat.ensures ∙ c.in-Some.is)

pub returns-in_default-top-clause-step : goal.returns-in_default-top-clause-step
returns-in_default-top-clause-step c = λ s limits run m stands.
    let has = top_is s limits run m c.args.self.now stands c.args.worker c.in-Some.seat (sym c.seat.ensures ∙ c.in-Some.is) c.top.result c.top.ensures in
    absurd (true≢false (sym (ap is_some (sym c.in_default-top.is ∙ has))))

pub returns-in_default-at-clause-step : goal.returns-in_default-at-clause-step
returns-in_default-at-clause-step c = λ s limits run m stands.
    let has = top_is s limits run m c.args.self.now stands c.args.worker c.in-Some.seat (sym c.seat.ensures ∙ c.in-Some.is) c.top.result c.top.ensures in
    let here = same_Some c.in-Some-top.place (sits s limits run m c.args.self.now stands c.args.worker c.in-Some.seat (sym c.seat.ensures ∙ c.in-Some.is)).place (sym c.in-Some-top.is ∙ has) in
    let inside = (top_next s limits run m c.args.self.now stands c.args.worker c.in-Some.seat (sym c.seat.ensures ∙ c.in-Some.is)).inside in
    absurd (shown_inside s limits run m c.args.self.now stands c.in-Some-top.place (omega (arith, here, inside)) c.in_default-at.ensures)

pub returns-in_default-used_after-clause-step : goal.returns-in_default-used_after-clause-step
returns-in_default-used_after-clause-step c = λ s limits run m stands.
    let has = top_is s limits run m c.args.self.now stands c.args.worker c.in-Some.seat (sym c.seat.ensures ∙ c.in-Some.is) c.top.result c.top.ensures in
    no_step s limits run m c.args.self.now stands c.args.worker c.in-Some.seat (sym c.seat.ensures ∙ c.in-Some.is) c.in-Some-top.place (sym c.in-Some-top.is ∙ has) c.in-Some-at.action.now (sym c.in-Some-at.ensures)
    (subst (λ z. UsedAfter c.args.self.now c.in-Some.seat.used c.in-Some-top.place c.in-Some-at.action.now.kind z None) (to_z-of_z w64 c.in-Some-at.action.now.change (search rules))
    c.in_default-used_after.ensures)

pub returns-clause-inside : goal.returns-clause-inside
returns-clause-inside c = got_inside c.args.self.now c.in-Some-top.place c.in-Some-at.action.now (sym c.in-Some-at.ensures)

pub returns-clause-step : goal.returns-clause-step
returns-clause-step c = λ s limits run m stands.
    let has = top_is s limits run m c.args.self.now stands c.args.worker c.in-Some.seat (sym c.seat.ensures ∙ c.in-Some.is) c.top.result c.top.ensures in
    let same = to_z-of_z w64 c.in-Some-at.action.now.change (search rules) in
    subst (λ z. IsStep s m c.args.self.now (record {
      worker = c.args.worker;
      place = c.in-Some-top.place;
      kind = c.in-Some-at.action.now.kind;
      change = z;
      seat = record { deque = c.in-Some.seat.deque; used = c.in-Some-used_after.used };
    })) (sym same)
    (one_step s limits run m c.args.self.now stands c.args.worker c.in-Some.seat (sym c.seat.ensures ∙ c.in-Some.is) c.in-Some-top.place (sym c.in-Some-top.is ∙ has) c.in-Some-at.action.now (sym c.in-Some-at.ensures) c.in-Some-used_after.used
    (subst (λ z. UsedAfter c.args.self.now c.in-Some.seat.used c.in-Some-top.place c.in-Some-at.action.now.kind z (Some c.in-Some-used_after.used)) same c.in-Some-used_after.ensures))
