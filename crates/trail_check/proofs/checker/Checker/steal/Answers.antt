-- An idle worker steals from a deque in reach that has a thread to steal.
use Rattle.std.proofs.Common.{◌≡◌, length, sym, ap, subst, ◌∙◌, arith}
use Rattle.std.specs.Prelude.{is_some}
use Rattle.deque_machine.specs.Moments.{owned_by}
use Rattle.trail_check.specs.Places.{SeatIs}
use Rattle.trail_check.proofs.Few.{few}
use Rattle.trail_check.proofs.Victims.{there, nothing_there, there_live, there_at, can_steal, is_there, is_absent}
use Rattle.trail_check.proofs.Refusing.{no_worker, out_of_reach, busy_steals_not, no_deque_there, not_ready}
use Rattle.trail_check.proofs.checker.Checker.steal.Goals as goal

pub returns-then-self-worker-clause-came : goal.returns-then-self-worker-clause-came
returns-then-self-worker-clause-came c = λ s limits run m stands.
    no_worker s limits run m c.args.self.now stands c.args.worker c.args.place (let a = stands.knows.workers in let b = c.if-self-worker.true in omega (arith, a, b))

pub returns-then-self-place-clause-came : goal.returns-then-self-place-clause-came
returns-then-self-place-clause-came c = λ s limits run m stands.
    out_of_reach s limits run m c.args.self.now stands c.args.worker c.args.place (let a = stands.knows.workers in let b = c.if-self-place.true in omega (arith, a, b))

pub returns-then-is_some-clause-came : goal.returns-then-is_some-clause-came
returns-then-is_some-clause-came c = λ s limits run m stands.
    let seat = is_there c.seat.result c.if-is_some.ensures in
    busy_steals_not s limits run m c.args.self.now stands c.args.worker c.args.place seat.0 (sym c.seat.ensures ∙ seat.1)

pub returns-in_default-clause-came : goal.returns-in_default-clause-came
returns-in_default-clause-came c = λ s limits run m stands.
    no_deque_there s limits run m c.args.self.now stands c.args.worker c.args.place (nothing_there c.args.self.now.deques.deques c.args.place c.in_default.ensures)

pub lane-requires : goal.lane-requires
lane-requires c = there_live c.args.self.now.deques.deques c.args.place c.in-Some.victim (there c.args.self.now.deques.deques c.args.place c.in-Some.victim c.in-Some.ensures)

pub steal_beside-requires-clause-live : goal.steal_beside-requires-clause-live
steal_beside-requires-clause-live c =
    there_live c.args.self.now.deques.deques c.args.place c.in-Some.victim (there c.args.self.now.deques.deques c.args.place c.in-Some.victim c.in-Some.ensures)

pub steal_beside-requires-clause-few : goal.steal_beside-requires-clause-few
steal_beside-requires-clause-few c = few c.args.self.now c.requires

pub returns-then-len-ge2-clause-came : goal.returns-then-len-ge2-clause-came
returns-then-len-ge2-clause-came c = λ s limits run m stands.
    let t = there c.args.self.now.deques.deques c.args.place c.in-Some.victim c.in-Some.ensures in
    let workers = stands.knows.workers in let is_worker = c.if-self-worker.false in let near = c.if-self-place.false in
    let idle : owned_by c.args.worker m.deques ≡ 0 = subst (SeatIs s m c.args.worker) (sym c.seat.ensures ∙ is_absent c.seat.result c.if-is_some.ensures) (stands.places.seats_are c.args.worker) in
    let items = c.lane.ensures.items c.args.place t.deque (there_at c.args.self.now.deques.deques c.args.place c.in-Some.victim t) in
    let size : c.len.result ≡ length t.deque.items = c.len.ensures ∙ ap length items in
    let two = c.if-len-ge2.true in
    c.steal_beside.ensures.came s limits run m stands
    (can_steal s m c.args.self.now c.args.worker c.args.place c.in-Some.victim (omega (arith, workers, is_worker)) (omega (arith, workers, near)) idle t)
    (omega (arith, size, two))

pub returns-then-is_some-2-clause-came : goal.returns-then-is_some-2-clause-came
returns-then-is_some-2-clause-came c = λ s limits run m stands.
    let t = there c.args.self.now.deques.deques c.args.place c.in-Some.victim c.in-Some.ensures in
    let items = c.lane.ensures.items c.args.place t.deque (there_at c.args.self.now.deques.deques c.args.place c.in-Some.victim t) in
    let size : c.len.result ≡ length t.deque.items = c.len.ensures ∙ ap length items in
    let few_items = c.if-len-ge2.false in
    not_ready s limits run m c.args.self.now stands c.args.worker c.args.place t.deque t.is (omega (arith, size, few_items)) (ap is_some t.owner ∙ sym c.if-is_some-2.ensures)

pub take_over-requires-clause-live : goal.take_over-requires-clause-live
take_over-requires-clause-live c =
    let t = there c.args.self.now.deques.deques c.args.place c.in-Some.victim c.in-Some.ensures in
    (c.args.place, t.deque, (t.is, t.id), t.owner ∙ is_absent c.in-Some.victim.owner c.if-is_some-2.ensures)

pub take_over-requires-clause-few : goal.take_over-requires-clause-few
take_over-requires-clause-few c = few c.args.self.now c.requires

pub returns-clause-came : goal.returns-clause-came
returns-clause-came c = λ s limits run m stands.
    let t = there c.args.self.now.deques.deques c.args.place c.in-Some.victim c.in-Some.ensures in
    let workers = stands.knows.workers in let is_worker = c.if-self-worker.false in let near = c.if-self-place.false in
    let idle : owned_by c.args.worker m.deques ≡ 0 = subst (SeatIs s m c.args.worker) (sym c.seat.ensures ∙ is_absent c.seat.result c.if-is_some.ensures) (stands.places.seats_are c.args.worker) in
    let items = c.lane.ensures.items c.args.place t.deque (there_at c.args.self.now.deques.deques c.args.place c.in-Some.victim t) in
    let size : c.len.result ≡ length t.deque.items = c.len.ensures ∙ ap length items in
    let few_items = c.if-len-ge2.false in
    c.take_over.ensures s limits run m stands
    (can_steal s m c.args.self.now c.args.worker c.args.place c.in-Some.victim (omega (arith, workers, is_worker)) (omega (arith, workers, near)) idle t)
    (omega (arith, size, few_items)) (t.owner ∙ is_absent c.in-Some.victim.owner c.if-is_some-2.ensures)
