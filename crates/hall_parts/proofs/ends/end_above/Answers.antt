use Rattle.hall_parts.proofs.ends.end_above.Goals as goal

pub give_top-requires : goal.give_top-requires
give_top-requires c =
    let above = c.requires.above in
    let ends = c.end_forked-ended.ensures.acts in
    (above.0, above.1, above.2, above.3 c.end_forked-ended.result.1 ends.id ends.label ends.func)

pub returns-clause-acts : goal.returns-clause-acts
returns-clause-acts c = record { ended = c.end_forked-ended.result.1; ends = c.end_forked-ended.ensures.acts; given = c.give_top.ensures }
