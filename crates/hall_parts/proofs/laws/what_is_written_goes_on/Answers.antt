use Rattle.hall_parts.proofs.Deciding.{events_may_come}
use Rattle.hall_parts.proofs.Leaving.{owners_may_leave, writers_may_be_answered, stops_may_be_kept}
use Rattle.hall_parts.proofs.Quiet.{statements_may_come, wants_of_memory_may_come}
use Rattle.hall_parts.proofs.Untaken.{nothing_is_taken}
use Rattle.hall_parts.proofs.Holding.{written_halls_hold}
use Rattle.hall_parts.proofs.laws.what_is_written_goes_on.Goals as goal

pub returns-clause-events : goal.returns-clause-events
returns-clause-events c = events_may_come

pub returns-clause-leaves : goal.returns-clause-leaves
returns-clause-leaves c = owners_may_leave

pub returns-clause-answers : goal.returns-clause-answers
returns-clause-answers c = writers_may_be_answered

pub returns-clause-stops : goal.returns-clause-stops
returns-clause-stops c = stops_may_be_kept

pub returns-clause-statements : goal.returns-clause-statements
returns-clause-statements c = statements_may_come

pub returns-clause-memory : goal.returns-clause-memory
returns-clause-memory c = wants_of_memory_may_come

pub returns-clause-nothing : goal.returns-clause-nothing
returns-clause-nothing c = nothing_is_taken

pub returns-clause-halls : goal.returns-clause-halls
returns-clause-halls c = written_halls_hold
