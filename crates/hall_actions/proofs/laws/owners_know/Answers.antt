use Rattle.hall_actions.proofs.Within.{owners_are_within}
use Rattle.hall_actions.proofs.Reading.{owners_read, owners_read_pools, pools_are_sound, keys_are_sound}
use Rattle.hall_actions.proofs.Listing.{lists_are_read}
use Rattle.hall_actions.proofs.Joining.{joins_are_read, waits_are_read, results_are_awaited}
use Rattle.hall_actions.proofs.Ending.{ends_are_read, leaves_are_read}
use Rattle.hall_actions.proofs.InUse.{words_are_in_use, kept_words_are_in_use}
use Rattle.hall_actions.proofs.laws.owners_know.Goals as goal

pub returns-clause-within : goal.returns-clause-within
returns-clause-within c = owners_are_within

pub returns-clause-lane : goal.returns-clause-lane
returns-clause-lane c = owners_read

pub returns-clause-pool : goal.returns-clause-pool
returns-clause-pool c = owners_read_pools

pub returns-clause-pools : goal.returns-clause-pools
returns-clause-pools c = pools_are_sound

pub returns-clause-keys : goal.returns-clause-keys
returns-clause-keys c = keys_are_sound

pub returns-clause-lists : goal.returns-clause-lists
returns-clause-lists c = lists_are_read

pub returns-clause-joins : goal.returns-clause-joins
returns-clause-joins c = joins_are_read

pub returns-clause-waits : goal.returns-clause-waits
returns-clause-waits c = waits_are_read

pub returns-clause-results : goal.returns-clause-results
returns-clause-results c = results_are_awaited

pub returns-clause-ends : goal.returns-clause-ends
returns-clause-ends c = ends_are_read

pub returns-clause-leaves : goal.returns-clause-leaves
returns-clause-leaves c = leaves_are_read

pub returns-clause-words : goal.returns-clause-words
returns-clause-words c = words_are_in_use

pub returns-clause-kept : goal.returns-clause-kept
returns-clause-kept c = kept_words_are_in_use
