use Rattle.std.proofs.Common.{◌∙◌, ap, List, ℤ, map}
use Rattle.std.specs.Fmt.{signed_decimal}
use Rattle.std.proofs.lemmas.List.{take_all}
use Rattle.run_report.specs.Texts.{text_of}
use Rattle.run_report.proofs.Appended.{one_more_line, ended}
use Rattle.run_report.proofs.outcome.outcome_text.Goals as goal

pub loop-number-preserved : goal.loop-number-preserved
loop-number-preserved c =
    one_more_line _ _ _ _ c.loop-number-test.true c.loop-number.invariant c.in_ok-writeln.ensures.bytes

pub returns : goal.returns
returns c =
    ended _ _ _ _ _
    (c.loop-number.invariant ∙ ap (λ (numbers : List ℤ). text_of (map signed_decimal numbers))
    (take_all _ _ c.loop-number-test.false ∙ c.as_slice-number-items.ensures))
    c.in_ok-push_str.ensures.bytes c.in_ok-push_finish.ensures
