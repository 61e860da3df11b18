-- The id 0 alone has a lane.
use Rattle.std.proofs.Common.{◌∙◌, ap, Some}
use Rattle.std.specs.Prelude.{slice_set}
use Rattle.deque_list.proofs.KeptLemmas.{kept_first}
use Rattle.deque_list.proofs.list.List.new.Goals as goal

pub invariant_of-result : goal.invariant_of-result
invariant_of-result g c =
    kept_first c.in-Ok.order c.put.new.self c.args.most c.push_top.new.self c.requires.0 c.in-Ok.ensures.places c.in-Ok.ensures.most
    (c.put.ensures ∙ ap (λ lanes. slice_set lanes 0 (Some c.push_top.new.self)) c.in-Ok-new.ensures.lanes)
