use Rattle.std.proofs.Common.{◌∙◌, sym, ap, arith}
use Rattle.std.specs.Option.{option_copied}
use Rattle.scheduler_state.specs.Held.{held}
use Rattle.scheduler_state.specs.Moments.{terms_of}
use Rattle.scheduler_state.proofs.Seats.{deque_there, read_some, none_is}
use Rattle.async_core.proofs.Taking.{thief_event}
use Rattle.async_core.proofs.events.event_of.Goals as goal

pub returns-then-is_none-clause-sound : goal.returns-then-is_none-clause-sound
returns-then-is_none-clause-sound c = c.step_of_thief.ensures.sound _ _ _ c.requires.sound

pub returns-then-is_none-clause-steps : goal.returns-then-is_none-clause-steps
returns-then-is_none-clause-steps c setting of run m at ready =
    let covers = c.requires.sound.quota in let its = of.quota in
    thief_event setting (terms_of c.args.scheduler.now c.args.limit) (omega (arith, covers, its)) (held c.args.scheduler.now) (held c.step_of_thief.new.scheduler)
    run m at ready c.args.worker c.requires.within c.requires.sound.in_order
    (sym c.seat.ensures ∙ ap option_copied (none_is c.seat.result (sym c.if-is_none.ensures))) c.step_of_thief.result
    (c.step_of_thief.ensures.steps _ _ _ c.requires.sound setting of run m at)

pub event_of_entry-requires-clause-owner : goal.event_of_entry-requires-clause-owner
event_of_entry-requires-clause-owner c = deque_there _ (λ none. read_some c.seat.result c.if-is_none.ensures (c.seat.ensures ∙ none))
