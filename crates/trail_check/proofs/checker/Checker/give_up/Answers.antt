-- The owner leaves its deque.
use Rattle.std.proofs.Common.{refl, ◌∷◌, sym, ◌∙◌}
use Rattle.std.specs.Prelude.{Some}
use Rattle.trail_check.specs.declared.checker.Checker.{Checker}
use Rattle.trail_check.proofs.Refusing.{idle_gives_not_up}
use Rattle.trail_check.proofs.Stepping.{live_deque}
use Rattle.trail_check.proofs.Leaving.{sits, give_up_came}
use Rattle.trail_check.proofs.checker.Checker.give_up.Goals as goal

pub returns-in_default : goal.returns-in_default
returns-in_default c = λ s limits run m stands. idle_gives_not_up s limits run m c.args.self.now stands c.args.worker (sym c.seat.ensures ∙ c.in_default.is)

pub give_up-requires : goal.give_up-requires
give_up-requires c = live_deque c.requires.0 c.requires.1 c.requires.2 c.requires.3 c.args.self.now c.requires.4 c.args.worker c.in-Some.seat (sym c.seat.ensures ∙ c.in-Some.is)

pub returns : goal.returns
returns c = λ s limits run m stands.
    let now : Checker = c.args.self.now in
    let has = sits s limits run m now stands c.args.worker c.in-Some.seat (sym c.seat.ensures ∙ c.in-Some.is) in
    give_up_came s limits run m now stands c.args.worker c.in-Some.seat (sym c.seat.ensures ∙ c.in-Some.is)
    (record now { deques = c.give_up.new.deques; seats = c.write.new.list })
    (record { actions = refl; partners = refl; quota = refl; workers = refl; arena = refl; steps = refl; most = refl; list_most = c.give_up.ensures.most })
    refl (c.give_up.ensures.deques (Some c.args.worker) (has.place ∷ has.hand.under) has.hand.holds) c.write.ensures refl
