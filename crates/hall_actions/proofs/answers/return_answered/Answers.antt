use Rattle.turn_table.specs.Tables.{key_of}
use Rattle.hall_actions.proofs.Answered.{holds_it, still, returned}
use Rattle.hall_actions.proofs.answers.return_answered.Goals as goal

pub answer-requires-clause-holds : goal.answer-requires-clause-holds
answer-requires-clause-holds c = holds_it (key_of c.args.row.now) c.args.seat.now c.args.deque c.args.list c.args.lane c.requires.ended

pub give_still_back-requires-clause-still : goal.give_still_back-requires-clause-still
give_still_back-requires-clause-still c = still (key_of c.args.row.now) c.args.seat.now c.args.deque c.args.list c.args.lane c.requires.ended c.answer.new.seat c.answer.ensures

pub returns : goal.returns
returns c = returned (key_of c.args.row.now) c.args.seat.now c.args.deque c.args.list c.args.lane c.requires.ended c.answer.new.seat c.answer.ensures c.give_still_back.new.seat c.give_still_back.ensures
