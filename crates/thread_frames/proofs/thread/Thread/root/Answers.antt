use Rattle.std.proofs.Common.{List, None, sym, subst}
use Rattle.node_table.specs.Codes.{code_shown}
use Rattle.thread_frames.specs.Points.{At}
use Rattle.thread_frames.specs.declared.open_child.OpenChild.{OpenChild}
use Rattle.thread_frames.specs.declared.prepared.Prepared.TheVariants.{Nothing}
use Rattle.thread_frames.proofs.Beginning.{of_program, root_at}
use Rattle.thread_frames.proofs.thread.Thread.root.Goals as goal

pub returns-clause-point : goal.returns-clause-point
returns-clause-point c = λ k.
    let t = code_shown c.args.code.now in
    record {
      of_program = of_program t k c.is_accepted.ensures;
      at = λ setting of. ∣
          subst (λ (xs : List OpenChild). At setting t c.in_ok-begun.begun.func c.in_ok-begun.begun xs None Nothing) (sym c.new.ensures.items)
          (root_at setting t k c.in_ok-begun.begun c.in_ok-begun.ensures of) ∣₁;
    }
