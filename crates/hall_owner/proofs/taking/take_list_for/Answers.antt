use Rattle.std.proofs.Common.{[], ◌∷◌, sym, ap, subst}
use Rattle.turn_table.specs.Tables.{key_of}
use Rattle.turn_table.specs.declared.look.Look.TheVariants.{Took}
use Rattle.hall_slots.specs.declared.slot.Slot.TheVariants as slots
use Rattle.hall_actions.specs.Passed.Taken.{its_lane, list_and_lane}
use Rattle.hall_owner.specs.Asked.{IsAskedByAll, IsAskedByList, IsWantedOfList}
use Rattle.hall_owner.specs.Holding.{AtList, IsBefore}
use Rattle.hall_owner.specs.Refusing.{IsRefusal}
use Rattle.hall_owner.specs.Taking.{TakesFor}
use Rattle.hall_owner.proofs.Choosing.{asks_for_list}
use Rattle.hall_owner.proofs.Ending.{exit, here_too}
use Rattle.hall_owner.proofs.Failing.{fails_too}
use Rattle.hall_owner.proofs.Following.{all_too, is_before}
use Rattle.hall_owner.proofs.Going.{takes_for}
use Rattle.hall_owner.proofs.Refusals.{list_refusal}
use Rattle.hall_owner.proofs.taking.take_list_for.Goals as goal

pub returns-in_err-at-clause-seat : goal.returns-in_err-at-clause-seat
returns-in_err-at-clause-seat c =
    exit (λ r. TakesFor (key_of c.args.row.now) c.args.seat.now c.args.deque c.args.at c.args.next r c.take_open_list.new.seat)
    c.from_residual.result c.in_err-at.field-0.0 c.from_residual.ensures.1
    (fails_too AtList (IsRefusal (key_of c.args.row.now) c.args.deque c.args.at c.args.next) c.in_err-at.field-0.0
    (λ more. list_refusal (key_of c.args.row.now) c.args.deque c.args.at c.args.next
    (asks_for_list (key_of c.args.row.now) c.args.at c.args.next c.args.wanted c.requires.wanted) more c.in_err-at.field-0.0)
    c.args.seat.now c.take_open_list.new.seat c.in_err-at.ensures.seat)

pub returns-in-Alone-clause-seat : goal.returns-in-Alone-clause-seat
returns-in-Alone-clause-seat c = let takes = c.in_ok-at.ensures.seat in (
  takes.0,
  record {
    took = takes.2;
    meets = c.in_ok-at.ensures.meets;
    asked = (
      takes.1,
      subst (λ a. IsAskedByList (key_of c.args.row.now) c.in_ok-at.list a c.args.next c.in-Alone.event) takes.0 (c.in-Alone.ensures (key_of c.args.row.now) c.args.next
          (subst (λ a. IsWantedOfList (key_of c.args.row.now) a c.args.next c.args.wanted) (sym takes.0) c.requires.wanted)),
    );
  },
)

pub take_pool_too-requires-clause-here : goal.take_pool_too-requires-clause-here
take_pool_too-requires-clause-here c = here_too c.args.row.now c.args.seat.now c.take_open_list.new.seat c.in_ok-at.ensures.seat.2 c.requires.here

pub take_pool_too-requires-clause-before : goal.take_pool_too-requires-clause-before
take_pool_too-requires-clause-before c = let takes = c.in_ok-at.ensures.seat in let r = c.requires.ready in (
  c.args.next,
  r.0,
  subst (λ a. IsBefore (key_of c.args.row.now) c.take_open_list.new.seat c.args.deque (list_and_lane c.args.deque c.in_ok-at.list) a c.args.next r.0) (sym takes.0)
      (is_before c.args.seat.now c.take_open_list.new.seat ((0, slots.List c.in_ok-at.list) ∷ c.args.seat.now.hand.holds) (Took 0 (slots.List c.in_ok-at.list) ∷ []) takes.2
      (key_of c.args.row.now) c.args.deque (its_lane c.args.deque) (list_and_lane c.args.deque c.in_ok-at.list) c.args.at c.args.next r.0
      (λ lane held. ap (λ holds. (0, slots.List c.in_ok-at.list) ∷ holds) held) r.1.before),
)

pub returns-in-Beside-clause-seat : goal.returns-in-Beside-clause-seat
returns-in-Beside-clause-seat c = let takes = c.in_ok-at.ensures.seat in
    takes_for (key_of c.args.row.now) c.args.seat.now c.take_open_list.new.seat c.args.deque c.args.at c.in_ok-at.at c.args.next c.in_ok-at.list c.in-Beside.event takes.0
    takes.1 takes.2
    (subst (λ a. IsAskedByAll c.in_ok-at.list a c.args.next c.in-Beside.event) takes.0 (c.in-Beside.ensures (key_of c.args.row.now) c.args.next
    (subst (λ a. IsWantedOfList (key_of c.args.row.now) a c.args.next c.args.wanted) (sym takes.0) c.requires.wanted)))
    c.take_pool_too.new.seat c.take_pool_too.result c.take_pool_too.ensures.seat

pub returns-in-Beside-clause-lone : goal.returns-in-Beside-clause-lone
returns-in-Beside-clause-lone c all =
    c.take_pool_too.ensures.lone (all_too c.args.seat.now c.take_open_list.new.seat ((0, slots.List c.in_ok-at.list) ∷ c.args.seat.now.hand.holds)
    (Took 0 (slots.List c.in_ok-at.list) ∷ []) c.in_ok-at.ensures.seat.2 (key_of c.args.row.now) all)
