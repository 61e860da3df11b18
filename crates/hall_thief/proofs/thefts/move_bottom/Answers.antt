use Rattle.std.proofs.Common.{List, [], ◌∷◌, ap, ◌∙◌}
use Rattle.hall_slots.specs.Passed.Thread.{Thread}
use Rattle.hall_thief.proofs.Parted.{others_left, bottom_found}
use Rattle.hall_thief.proofs.thefts.move_bottom.Goals as goal

pub returns-clause-items : goal.returns-clause-items
returns-clause-items c first others bottom are = (
  others_left c.args.lane.now.lane.items first others bottom are c.take_bottom.new.self.items c.in-Some.ensures.rest,
  c.push_top.ensures.items ∙ ap (λ (xs : List Thread). c.in-Some.bottom ∷ xs) c.requires.empty
      ∙ ap (λ (t : Thread). t ∷ []) (bottom_found c.args.lane.now.lane.items first others bottom are c.in-Some.bottom c.take_bottom.result c.in-Some.is c.take_bottom.ensures.item),
)
