use Rattle.std.proofs.Common.{◌∙◌}
use Rattle.scheduler_state.proofs.Seats.{deque_there, read_some}
use Rattle.dfd_core.proofs.events.event_of.Goals as goal

pub returns-then-is_none-clause-sound : goal.returns-then-is_none-clause-sound
returns-then-is_none-clause-sound c = c.step_of_thief.ensures.sound _ _ _ c.requires.sound

pub returns-then-is_none-clause-steps : goal.returns-then-is_none-clause-steps
returns-then-is_none-clause-steps c = λ s is run m at. c.step_of_thief.ensures.steps _ _ _ c.requires.sound s is run m at

pub step_of_owner-requires-clause-owner : goal.step_of_owner-requires-clause-owner
step_of_owner-requires-clause-owner c = deque_there _ (λ none. read_some c.seat.result c.if-is_none.ensures (c.seat.ensures ∙ none))

pub returns-in-Err-clause-steps : goal.returns-in-Err-clause-steps
returns-in-Err-clause-steps c = λ s is run m at. c.in-Err.ensures.steps s is run m c.args.word at
