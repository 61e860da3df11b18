use Rattle.std.proofs.Common.{ap, ◌∙◌, arith}
use Rattle.std.specs.Prelude.{Err}
use Rattle.async_core.proofs.events.make_room.Goals as goal

pub returns-in-Err-Full-clause-room : goal.returns-in-Err-Full-clause-room
returns-in-Err-Full-clause-room c few =
    let full = (c.room_right.ensures.full c.in-Err-Full.field-0-0).0 (c.in-Err-Full.is ∙ ap Err c.in-Err-Full.field-0-is) in
    let same = full.0 in absurd (omega (arith, few, same))

pub returns-in-Err-OutOfMemory-clause-full : goal.returns-in-Err-OutOfMemory-clause-full
returns-in-Err-OutOfMemory-clause-full c many =
    let few = c.room_right.ensures.wanting (c.in-Err-OutOfMemory.is ∙ ap Err c.in-Err-OutOfMemory.field-0-is) in absurd (omega (arith, few, many))
