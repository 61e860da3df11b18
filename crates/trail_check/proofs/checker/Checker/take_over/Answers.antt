-- The deque has an owner from now on.
use Rattle.std.proofs.Common.{◌∷◌, [], refl, length}
use Rattle.std.specs.Prelude.{Some, None}
use Rattle.trail_check.specs.declared.checker.Checker.{Checker}
use Rattle.trail_check.specs.Holds.{deque_with}
use Rattle.trail_check.proofs.Moves.{rank_of, set_there}
use Rattle.trail_check.proofs.Victims.{one_thread, unowned_holds}
use Rattle.trail_check.proofs.Stealing.{over_came}
use Rattle.trail_check.proofs.checker.Checker.take_over.Goals as goal

pub take_over-requires : goal.take_over-requires
take_over-requires c = c.requires.live

pub returns : goal.returns
returns c = λ s limits run m stands can few unowned.
    let now : Checker = c.args.self.now in
    let one = one_thread s limits run m now stands c.args.worker c.args.place c.args.victim can few in
    let h = unowned_holds now.deques.deques c.args.victim can.owner can.items can.holds unowned (one.0 ∷ []) one.1 in
    over_came s limits run m now stands c.args.worker c.args.place c.args.victim can one.0 one.1 unowned
    (record now { deques = c.take_over.new.self; seats = c.write.new.list; tally = c.begin.new.self })
    (record { actions = refl; partners = refl; quota = refl; workers = refl; arena = refl; steps = refl; most = refl; list_most = c.take_over.ensures.rest.most })
    c.begin.ensures
    (set_there h c.take_over.new.self.deques (deque_with c.args.victim (Some c.args.worker) (one.0 ∷ []))
    (c.take_over.ensures.deque (length h.left) (deque_with c.args.victim None (one.0 ∷ [])) (rank_of h)))
    c.write.ensures refl
