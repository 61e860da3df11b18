use Rattle.dfd_plays.proofs.call.serve_made.Goals as goal

pub returns-clause-no_memory : goal.returns-clause-no_memory
returns-clause-no_memory g c = c.write_answer.ensures.no_memory c.args.command.now c.deref.result.now c.answer_to.ensures

pub returns-clause-counts : goal.returns-clause-counts
returns-clause-counts g c = c.write_answer.ensures.counts c.args.command.now c.deref.result.now c.answer_to.ensures
