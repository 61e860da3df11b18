-- The top thread waits if it has to, and is alone.
use Rattle.std.proofs.Common.{inl, inr, refl, sym, ap, subst, ◌∙◌, true≢false}
use Rattle.std.specs.Prelude.{is_some}
use Rattle.trail_check.specs.declared.checker.Checker.{Checker}
use Rattle.trail_check.specs.Steps.{Owes}
use Rattle.trail_check.proofs.Moves.{left_by_top}
use Rattle.trail_check.proofs.Refusing.{idle_waits_not, waits_not_above}
use Rattle.trail_check.proofs.Stepping.{live_deque, top_is, owes_nothing, owes}
use Rattle.trail_check.proofs.Leaving.{sits}
use Rattle.trail_check.proofs.checker.Checker.suspend.Goals as goal

pub returns-in_default : goal.returns-in_default
returns-in_default c = λ s limits run m stands. idle_waits_not s limits run m c.args.self.now stands c.args.worker (sym c.seat.ensures ∙ c.in_default.is)

pub top-requires : goal.top-requires
top-requires c = live_deque c.requires.0 c.requires.1 c.requires.2 c.requires.3 c.args.self.now c.requires.4 c.args.worker c.in-Some.seat (sym c.seat.ensures ∙ c.in-Some.is)

pub returns-in_default-top : goal.returns-in_default-top
returns-in_default-top c = λ s limits run m stands.
    let has = top_is s limits run m c.args.self.now stands c.args.worker c.in-Some.seat (sym c.seat.ensures ∙ c.in-Some.is) c.top.result c.top.ensures in
    absurd (true≢false (sym (ap is_some (sym c.in_default-top.is ∙ has))))

pub returns-then-not-has_to_wait : goal.returns-then-not-has_to_wait
returns-then-not-has_to_wait c = λ s limits run m stands.
    let has = top_is s limits run m c.args.self.now stands c.args.worker c.in-Some.seat (sym c.seat.ensures ∙ c.in-Some.is) c.top.result c.top.ensures in
    owes_nothing s limits run m c.args.self.now stands c.args.worker c.in-Some.seat (sym c.seat.ensures ∙ c.in-Some.is) c.in-Some-top.place (sym c.in-Some-top.is ∙ has)
    (subst (Owes c.args.self.now c.in-Some-top.place) c.if-not-has_to_wait.true c.has_to_wait.ensures)

pub leave-requires : goal.leave-requires
leave-requires c = live_deque c.requires.0 c.requires.1 c.requires.2 c.requires.3 c.args.self.now c.requires.4 c.args.worker c.in-Some.seat (sym c.seat.ensures ∙ c.in-Some.is)

pub returns-then-not-leave : goal.returns-then-not-leave
returns-then-not-leave c = λ s limits run m stands.
    let has = sits s limits run m c.args.self.now stands c.args.worker c.in-Some.seat (sym c.seat.ensures ∙ c.in-Some.is) in
    elim (left_by_top has.hand.under has.hand.holds c.leave.result c.leave.new.deques.deques c.leave.ensures.alone c.leave.ensures.more) [
      | inl alone ↦ absurd (true≢false (sym alone.1 ∙ c.if-not-leave.true))
      | inr above ↦ waits_not_above s limits run m c.args.self.now stands c.args.worker c.in-Some.seat (sym c.seat.ensures ∙ c.in-Some.is) above.0 above.1 above.2
    ]

pub returns : goal.returns
returns c = λ s limits run m stands.
    let now : Checker = c.args.self.now in
    let has = sits s limits run m now stands c.args.worker c.in-Some.seat (sym c.seat.ensures ∙ c.in-Some.is) in
    let top = top_is s limits run m now stands c.args.worker c.in-Some.seat (sym c.seat.ensures ∙ c.in-Some.is) c.top.result c.top.ensures in
    elim (left_by_top has.hand.under has.hand.holds c.leave.result c.leave.new.deques.deques c.leave.ensures.alone c.leave.ensures.more) [
      | inr above ↦ absurd (true≢false (sym c.if-not-leave.false ∙ above.3))
      | inl alone ↦ owes s limits run m now stands c.args.worker c.in-Some.seat (sym c.seat.ensures ∙ c.in-Some.is) c.in-Some-top.place (sym c.in-Some-top.is ∙ top)
          (subst (Owes now c.in-Some-top.place) c.if-not-has_to_wait.false c.has_to_wait.ensures) has.hand.under refl alone.0
          (record now { deques = c.leave.new.deques; seats = c.write-2.new.list; waits = c.write.new.list })
          (record { actions = refl; partners = refl; quota = refl; workers = refl; arena = refl; steps = refl; most = refl; list_most = c.leave.ensures.most })
          refl alone.2 c.write-2.ensures c.write.ensures
    ]
