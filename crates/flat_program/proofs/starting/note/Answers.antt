use Rattle.std.proofs.Common.{Some, rules}
use Rattle.flat_program.proofs.Entries.{keeps_set, set_has}
use Rattle.flat_program.specs.Entries.{entry_of_frame}
use Rattle.std.proofs.lemmas.List.Elements.{All-set}
use Rattle.node_table.specs.Codes.{code_shown}
use Rattle.flat_program.specs.Programs.{StartsIn}
use Rattle.flat_program.proofs.starting.note.Goals as goal

pub returns-then-entry-len-clause-starts : goal.returns-then-entry-len-clause-starts
returns-then-entry-len-clause-starts c ls start all =
    All-set (StartsIn (code_shown c.args.table.now) ls) c.args.starts.now.items c.in-Some.entry (Some c.args.start) start all

pub returns-then-entry-len-clause-keeps : goal.returns-then-entry-len-clause-keeps
returns-then-entry-len-clause-keeps c = keeps_set c.args.starts.now.items c.in-Some.entry c.args.start (search rules)

pub returns-then-entry-len-clause-has : goal.returns-then-entry-len-clause-has
returns-then-entry-len-clause-has c entry here within =
    set_has c.args.starts.now.items c.in-Some.entry c.args.start (entry_of_frame (code_shown c.args.table.now) c.args.frame) entry c.in-Some.ensures here within
