use Rattle.std.proofs.Common.{ap, ◌∙◌}
use Rattle.space_ledger.specs.MovesList.{moves_list}
use Rattle.space_ledger.specs.Sums.{total_change}
use Rattle.space_ledger.proofs.SumLaws.{total_change_push}
use Rattle.hall_parts.proofs.actions.add_move.Goals as goal

pub returns-clause-sum : goal.returns-clause-sum
returns-clause-sum c = ap total_change c.add.ensures.moves ∙ total_change_push (moves_list c.args.moves.now) c.args.moved
