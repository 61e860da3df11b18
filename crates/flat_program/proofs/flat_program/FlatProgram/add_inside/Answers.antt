use Rattle.std.proofs.lemmas.Result.{IfOk-weaker}
use Rattle.flat_program.proofs.Entries.{keeps_both}
use Rattle.flat_program.proofs.Lists.{grows_both}
use Rattle.flat_program.proofs.flat_program.FlatProgram.add_inside.Goals as goal

pub returns-in_ok-add-in-Both-clause-grows : goal.returns-in_ok-add-in-Both-clause-grows
returns-in_ok-add-in-Both-clause-grows c =
    IfOk-weaker c.add-in-Both.result _ _
    (λ v h. grows_both c.args.self.now.lists.items c.add.new.self.lists.items c.add-in-Both.new.self.lists.items c.in_ok-add-in-Both.ensures.grows h)
    c.add-in-Both.ensures.grows

pub returns-in_ok-add-in-Both-clause-keeps : goal.returns-in_ok-add-in-Both-clause-keeps
returns-in_ok-add-in-Both-clause-keeps c =
    IfOk-weaker c.add-in-Both.result _ _
    (λ v h. keeps_both c.args.self.now.starts.items c.add.new.self.starts.items c.add-in-Both.new.self.starts.items c.in_ok-add-in-Both.ensures.keeps h)
    c.add-in-Both.ensures.keeps
