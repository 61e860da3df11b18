use Rattle.hall_actions.proofs.Notable.{nothing_may_be_noted, memory_may_be_noted, full_arenas_may_be_noted}
use Rattle.hall_actions.proofs.Charging.{ready_may_be_done, spent_is_too_much}
use Rattle.hall_actions.proofs.laws.owners_may.Goals as goal

pub returns-clause-nothing : goal.returns-clause-nothing
returns-clause-nothing c = nothing_may_be_noted

pub returns-clause-memory : goal.returns-clause-memory
returns-clause-memory c = memory_may_be_noted

pub returns-clause-arena : goal.returns-clause-arena
returns-clause-arena c = full_arenas_may_be_noted

pub returns-clause-ready : goal.returns-clause-ready
returns-clause-ready c = ready_may_be_done

pub returns-clause-spent : goal.returns-clause-spent
returns-clause-spent c = spent_is_too_much
