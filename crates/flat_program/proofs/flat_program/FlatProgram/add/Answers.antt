use Rattle.std.proofs.Common.{refl}
use Rattle.std.proofs.lemmas.Result.{IfOk-weaker}
use Rattle.node_table.specs.Codes.{code_shown}
use Rattle.flat_program.proofs.Lists.{put_has, put_begins, IfOk-and}
use Rattle.flat_program.proofs.flat_program.FlatProgram.add.Goals as goal

pub returns-in_default-clause-has : goal.returns-in_default-clause-has
returns-in_default-clause-has c can few = absurd (c.in_default.ensures.none refl can.size can.near can.below can.can)

pub returns-in-Ok-clause-has : goal.returns-in-Ok-clause-has
returns-in-Ok-clause-has c =
    let made = c.in-Ok.ensures.code in
    IfOk-weaker c.put.result _ _
    (λ v h. put_has (code_shown c.args.table.now) c.args.self.now.lists.items c.put.new.self.lists.items c.in-Ok.flat c.args.slots c.args.list h made.0 made.1)
    c.put.ensures.lists

pub returns-in_default-clause-begins : goal.returns-in_default-clause-begins
returns-in_default-clause-begins c can few = absurd (c.in_default.ensures.none refl can.size can.near can.below can.can)

pub returns-in-Ok-clause-begins : goal.returns-in-Ok-clause-begins
returns-in-Ok-clause-begins c =
    let t = code_shown c.args.table.now in
    let made = c.in-Ok.ensures.code in
    IfOk-weaker c.put.result _ _
    (λ v h. put_begins t c.args.self.now c.put.new.self c.in-Ok.flat c.args.slots c.args.list made.1 h.0 h.1)
    (IfOk-and c.put.result _ _ c.put.ensures.keeps c.put.ensures.noted)
