use Rattle.hall_parts.proofs.Giving.{given_top}
use Rattle.hall_parts.proofs.ends.give_top.Goals as goal

pub returns : goal.returns
returns c parent below is = given_top c.args.ended c.args.lane.now.items c.pop_top.new.self.items c.push_top.new.self.items c.in-Some.parent c.give.new.parent
    parent below is c.in-Some.ensures.item c.in-Some.ensures.rest c.push_top.ensures.items c.requires c.give.ensures
