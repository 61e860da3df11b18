use Rattle.flat_program.proofs.Marks.{left_shown, none_shown}
use Rattle.flat_program.proofs.flat_list.FlatList.left_below.Goals as goal

pub returns-clause-some : goal.returns-clause-some
returns-clause-some c =
    left_shown c.args.self.now c.args.place c.args.next c.args.stack.now c.mark.result.now c.left_of.result c.mark.ensures c.left_of.ensures.some

pub returns-clause-none : goal.returns-clause-none
returns-clause-none c none left less =
    none_shown c.args.self.now c.args.place c.args.next c.args.stack.now c.mark.result.now left c.mark.ensures (c.left_of.ensures.none none left less)
