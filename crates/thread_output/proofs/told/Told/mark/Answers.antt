use Rattle.std.proofs.Common.{List, ℤ, sym, ◌∙◌, subst}
use Rattle.thread_output.specs.Telling.{AreLines}
use Rattle.thread_output.proofs.Both.{marked_first, marked_lines}
use Rattle.thread_output.proofs.Parts.{none_from, still_marked}
use Rattle.thread_output.proofs.told.Told.mark.Goals as goal

pub returns-then-is_none-clause-items : goal.returns-then-is_none-clause-items
returns-then-is_none-clause-items c items tells = record {
  fault = marked_first items c.args.fault (none_from c.args.self.now.fault c.if-is_none.ensures ∙ tells.fault);
  lines = subst (λ (vs : List ℤ). AreLines c.args.self.now.lines vs) (sym (marked_lines items c.args.fault)) tells.lines;
}

pub returns-else-is_none-clause-items : goal.returns-else-is_none-clause-items
returns-else-is_none-clause-items c items tells = record {
  fault = still_marked c.args.self.now.fault items c.args.fault tells.fault c.if-is_none.ensures;
  lines = subst (λ (vs : List ℤ). AreLines c.args.self.now.lines vs) (sym (marked_lines items c.args.fault)) tells.lines;
}
