-- The id 0 alone is in use.
use Rattle.std.proofs.Common.{arith, Bool, length-set}
use Rattle.deque_list.proofs.MarkLaws.{first_sound}
use Rattle.deque_list.proofs.order.Order.new.Goals as goal

pub invariant_of-result : goal.invariant_of-result
invariant_of-result c = (
  rw (c.push_reserved.ensures.items, c.in_ok-places.ensures.items, c.in_ok-marks.ensures.items_if_clones_equal (λ y e. e))
      (first_sound c.args.most c.requires.0 c.requires.1),
  omega (arith, length-set {A = Bool}, c.push_reserved.ensures.capacity, c.in_ok-places.ensures.capacity, c.in_ok-marks.ensures.len, c.in_ok-marks.marks.ok.0),
)
