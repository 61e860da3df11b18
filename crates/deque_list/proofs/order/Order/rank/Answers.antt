-- A rank is a small number.
use Rattle.std.proofs.Common.{arith, ap, ◌∙◌, sym}
use Rattle.deque_list.proofs.OrderLemmas.{rank_is_small}
use Rattle.deque_list.specs.Ids.{place_ids}
use Rattle.std.specs.Prelude.{slice_get}
use Rattle.deque_list.proofs.order.Order.rank.Goals as goal

pub overflow_cast-result : goal.overflow_cast-result
overflow_cast-result c =
    let small = rank_is_small c.self.inside.places.items c.self.inside.marks.items c.in-Some.rank c.args.id c.self.invariant.0
    (ap (λ places. slice_get (place_ids places) c.in-Some.rank) (sym c.deref.ensures.value) ∙ c.in-Some.ensures) in record { fits = omega arith }
