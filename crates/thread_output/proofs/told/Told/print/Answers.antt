use Rattle.std.proofs.Common.{◌∙◌, ap, sym, List, ℤ, ◌∷◌, ◌++◌, [], Option, subst, w64}
use Rattle.std.proofs.lemmas.Int.{to_z-of_z}
use Rattle.thread_points.specs.Passed.Run.{lines_of}
use Rattle.thread_output.specs.Telling.{AreLines}
use Rattle.thread_output.proofs.Both.{printed_fault, printed_lines}
use Rattle.thread_output.proofs.told.Told.print.Goals as goal

pub returns-clause-ok : goal.returns-clause-ok
returns-clause-ok c items tells =
    let v = c.args.value in
    let number = to_z-of_z w64 v c.ranges.value in
    let kept = subst (λ (o : Option (List ℤ)). AreLines o (lines_of items)) c.in-Some.is tells.lines in
    record {
      fault = tells.fault ∙ sym (printed_fault items v);
      lines = c.in_ok-push_back.ensures.items
          ∙ ap (λ n. c.in-Some.lines ++ n ∷ []) number
          ∙ ap (λ (vs : List ℤ). vs ++ v ∷ []) kept
          ∙ sym (printed_lines items v (sym c.requires ∙ tells.fault));
    }
