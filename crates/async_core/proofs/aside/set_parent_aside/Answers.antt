use Rattle.std.proofs.Common.{◌≡◌, [], ◌∷◌, refl, sym, ap, subst, ◌∙◌, length}
use Rattle.std.proofs.lemmas.Option.{none-some, same_Some}
use Rattle.std.specs.Option.{option_copied}
use Rattle.std.specs.Prelude.{Some}
use Rattle.list_changes.specs.Shown.{Stands}
use Rattle.list_changes.proofs.Putting.{live, here, at_rank}
use Rattle.scheduler_state.specs.Passed.Tables.{deque_of, deque_at}
use Rattle.scheduler_state.specs.declared.scheduler.Scheduler.{Scheduler}
use Rattle.scheduler_state.specs.Moments.{terms_of}
use Rattle.scheduler_state.proofs.SeatDeques.{seat_deque}
use Rattle.async_core.specs.Aside.{stays, is_cut}
use Rattle.async_core.proofs.Seating.{two_there, no_two}
use Rattle.async_core.proofs.aside.set_parent_aside.Goals as goal

pub lane-requires : goal.lane-requires
lane-requires c =
    let s : Scheduler = c.args.scheduler.now in
    let r = c.requires.sound in
    let seat : deque_at s.table c.args.worker ≡ Some c.in-Some.seat.now.deque = ap deque_of (sym c.in-Some.ensures) in
    live (seat_deque r.0 r.1 (terms_of s r.2) s c.args.worker c.in-Some.seat.now.deque r.3 seat).2

pub returns-in_default : goal.returns-in_default
returns-in_default c =
    let s : Scheduler = c.args.scheduler.now in
    stays refl (no_two s c.requires.sound.3.in_order c.args.worker (λ id top bottom sits stands.
    none-some id (sym (ap deque_of (sym c.seat.ensures ∙ ap option_copied c.in_default.is)) ∙ sits)))

pub returns-then-len-ne2 : goal.returns-then-len-ne2
returns-then-len-ne2 c =
    let s : Scheduler = c.args.scheduler.now in
    let seat : deque_at s.table c.args.worker ≡ Some c.in-Some.seat.now.deque = ap deque_of (sym c.in-Some.ensures) in
    stays refl (no_two s c.requires.sound.3.in_order c.args.worker (λ id top bottom sits stands.
    let its : Stands s.list c.args.worker c.in-Some.seat.now.deque (top ∷ bottom ∷ []) =
    subst (λ x. Stands s.list c.args.worker x (top ∷ bottom ∷ [])) (same_Some id c.in-Some.seat.now.deque (sym sits ∙ seat)) stands in
    c.if-len-ne2.true (c.len.ensures ∙ ap length (c.lane.ensures.items _ (here its) (at_rank its)))))

pub set_aside-requires-clause-two : goal.set_aside-requires-clause-two
set_aside-requires-clause-two c =
    let s : Scheduler = c.args.scheduler.now in
    let r = c.requires.sound in
    let seat : deque_at s.table c.args.worker ≡ Some c.in-Some.seat.now.deque = ap deque_of (sym c.in-Some.ensures) in
    let two = two_there r.0 r.1 (terms_of s r.2) s c.args.worker c.in-Some.seat.now.deque r.3 seat c.len.result c.if-len-ne2.false
    (λ rank deque at. c.len.ensures ∙ ap length (c.lane.ensures.items rank deque at)) in
    (Some c.args.worker, two.0, two.1, two.2)

pub set_aside-requires-clause-room : goal.set_aside-requires-clause-room
set_aside-requires-clause-room c =
    let s : Scheduler = c.args.scheduler.now in
    let r = c.requires.sound in
    let seat : deque_at s.table c.args.worker ≡ Some c.in-Some.seat.now.deque = ap deque_of (sym c.in-Some.ensures) in
    let two = two_there r.0 r.1 (terms_of s r.2) s c.args.worker c.in-Some.seat.now.deque r.3 seat c.len.result c.if-len-ne2.false
    (λ rank deque at. c.len.ensures ∙ ap length (c.lane.ensures.items rank deque at)) in
    (c.requires.room c.in-Some.seat.now.deque two.0 two.1 two.2).0

pub set_aside-requires-clause-few_deques : goal.set_aside-requires-clause-few_deques
set_aside-requires-clause-few_deques c =
    let s : Scheduler = c.args.scheduler.now in
    let r = c.requires.sound in
    let seat : deque_at s.table c.args.worker ≡ Some c.in-Some.seat.now.deque = ap deque_of (sym c.in-Some.ensures) in
    let two = two_there r.0 r.1 (terms_of s r.2) s c.args.worker c.in-Some.seat.now.deque r.3 seat c.len.result c.if-len-ne2.false
    (λ rank deque at. c.len.ensures ∙ ap length (c.lane.ensures.items rank deque at)) in
    (c.requires.room c.in-Some.seat.now.deque two.0 two.1 two.2).1

pub returns : goal.returns
returns c =
    let s : Scheduler = c.args.scheduler.now in
    let r = c.requires.sound in
    let seat : deque_at s.table c.args.worker ≡ Some c.in-Some.seat.now.deque = ap deque_of (sym c.in-Some.ensures) in
    let two = two_there r.0 r.1 (terms_of s r.2) s c.args.worker c.in-Some.seat.now.deque r.3 seat c.len.result c.if-len-ne2.false
    (λ rank deque at. c.len.ensures ∙ ap length (c.lane.ensures.items rank deque at)) in
    let cut = c.set_aside.ensures.deques (Some c.args.worker) two.0 two.1 two.2 in
    is_cut (record {
      id = c.in-Some.seat.now.deque;
      new = c.set_aside.result;
      top = two.0;
      bottom = two.1;
      stands = two.2;
      free = c.set_aside.ensures.id;
      deques = cut.deques;
      most = cut.most;
    }) refl
