use Rattle.hall_parts.proofs.Staying.{lanes_stay_sound, given_up_stays_sound, suspended_stays_sound, left_stays_sound, root_stays_sound, woken_stays_sound, handed_stays_sound}
use Rattle.hall_parts.proofs.Waits.{nobody_waits}
use Rattle.hall_parts.proofs.laws.what_is_written_stays_sound.Goals as goal

pub returns-clause-lanes : goal.returns-clause-lanes
returns-clause-lanes c = lanes_stay_sound

pub returns-clause-given_up : goal.returns-clause-given_up
returns-clause-given_up c = given_up_stays_sound

pub returns-clause-suspended : goal.returns-clause-suspended
returns-clause-suspended c = suspended_stays_sound

pub returns-clause-left : goal.returns-clause-left
returns-clause-left c = left_stays_sound

pub returns-clause-root : goal.returns-clause-root
returns-clause-root c = root_stays_sound

pub returns-clause-woken : goal.returns-clause-woken
returns-clause-woken c = woken_stays_sound

pub returns-clause-handed : goal.returns-clause-handed
returns-clause-handed c = handed_stays_sound

pub returns-clause-waits : goal.returns-clause-waits
returns-clause-waits c = nobody_waits
