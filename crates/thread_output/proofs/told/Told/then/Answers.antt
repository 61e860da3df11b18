use Rattle.std.proofs.Common.{◌∙◌, sym, List, ℤ, subst}
use Rattle.thread_points.specs.Passed.Run.{lines_of}
use Rattle.thread_output.specs.Telling.{AreLines}
use Rattle.thread_output.proofs.Parts.{stays_fault, stays_lines, goes_on_fault, goes_on_lines, joined_lines}
use Rattle.thread_output.proofs.told.Told.then.Goals as goal

pub returns-then-is_some-clause-items : goal.returns-then-is_some-clause-items
returns-then-is_some-clause-items c items others tells later = record {
  fault = stays_fault c.args.self.fault items others tells.fault (sym c.if-is_some.ensures);
  lines = subst (λ (vs : List ℤ). AreLines c.args.self.lines vs)
      (sym (stays_lines c.args.self.fault items others tells.fault (sym c.if-is_some.ensures))) tells.lines;
}

pub returns-clause-items : goal.returns-clause-items
returns-clause-items c items others tells later = record {
  fault = later.fault ∙ sym (goes_on_fault c.args.self.fault items others tells.fault (sym c.if-is_some.ensures));
  lines = subst (λ (vs : List ℤ). AreLines c.joined.result vs)
      (sym (goes_on_lines c.args.self.fault items others tells.fault (sym c.if-is_some.ensures)))
      (joined_lines c.args.self.lines c.args.later.lines c.joined.result (lines_of items) (lines_of others) c.joined.ensures.both tells.lines later.lines);
}
