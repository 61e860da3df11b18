use Rattle.space_ledger.specs.MovesList.{moves_list}
use Rattle.hall_threads.proofs.High.{as_word}
use Rattle.hall_threads.proofs.telling.high_of.Goals as goal

pub returns : goal.returns
returns c = as_word (moves_list c.args.moves.now) c.high.result c.high.ensures.high c.high.ensures.greatest (record { sfits = c.high.type_inv })
