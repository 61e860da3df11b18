use Rattle.std.proofs.Common.{refl, sym, ap, ◌∙◌}
use Rattle.std.proofs.Math.Logic.{∥∥₁_elim}
use Rattle.std.specs.Option.{option_copied}
use denote.Struct.Props.{props}
use Rattle.scheduler_state.proofs.Roots.{label_of_root, root_is_result}
use Rattle.dfd_core.proofs.Finished.{finished_keeps}
use Rattle.dfd_core.proofs.run.Core.output.Goals as goal

pub unreachable-requires : goal.unreachable-requires
unreachable-requires c =
    let finish = c.if-not-has_finished.ensures.0 refl in
    finished_keeps _ _ _ _ c.args.self.now.sound c.args.self.now.end c.args.self.now.somewhere finish.0 finish.1
    (sym c.get.ensures ∙ ap option_copied c.in_default.is)

pub returns-in-Ok-clause-lines : goal.returns-in-Ok-clause-lines
returns-in-Ok-clause-lines c = λ s of.
    let kept = sym c.get.ensures ∙ ap option_copied c.in-Some.is in
    ∥∥₁_elim (root_is_result _ _ _ _ c.args.self.now.sound c.in-Some.ended.now kept) (search props)
    (λ r. c.in-Ok.ensures _ _ r (label_of_root _ _ _ _ c.args.self.now.sound c.in-Some.ended.now kept s of) s of)
