use Rattle.std.proofs.Common.{[], ◌∷◌, map}
use Rattle.std.specs.Prelude.{codes}
use Rattle.std.specs.Fmt.{signed_decimal}
use Rattle.containers.specs.BoundedList.{entries}
use Rattle.run_report.specs.Texts.{finish_words, counted}
use Rattle.run_report.proofs.Phases.{stops_at_values, stops_at_finish, stops_at_periods, stops_at_ahead, stops_at_high, stops_at_end, reads_all, one_line_more, one_more_behind, refused, are_none, are_some}
use Rattle.run_report.proofs.reading.read_report.Goals as goal

pub returns-in_default : goal.returns-in_default
returns-in_default c =
    let xs = entries c.in_ok-lines.lines in
    let text = c.args.text.now in
    refused text c.in_ok-lines.rest.now c.not_report.result c.not_report.ensures
    (stops_at_values text c.in_ok-lines.rest.now xs c.in_ok-lines.ensures.spelled c.in_ok-lines.ensures.words c.in_ok-lines.ensures.all c.in_default.ensures)

pub returns-in_default-finish_line : goal.returns-in_default-finish_line
returns-in_default-finish_line c =
    let xs = entries c.in_ok-lines.lines in
    let text = c.args.text.now in
    let s1 = one_line_more text _ c.in-Some.at_finish.now (map signed_decimal xs) (codes "--") c.in_ok-lines.ensures.spelled c.in-Some.ensures in
    refused text c.in-Some.at_finish.now c.not_report-in_default-finish_line.result c.not_report-in_default-finish_line.ensures
    (stops_at_finish text c.in-Some.at_finish.now xs c.in_ok-lines.ensures.words s1 c.in_default-finish_line.ensures)

pub returns-in_default-small_line : goal.returns-in_default-small_line
returns-in_default-small_line c =
    let xs = entries c.in_ok-lines.lines in
    let text = c.args.text.now in
    let s1 = one_line_more text _ c.in-Some.at_finish.now (map signed_decimal xs) (codes "--") c.in_ok-lines.ensures.spelled c.in-Some.ensures in
    let f = finish_words c.in-Some-finish_line.finish in
    let s2 = one_more_behind text _ c.in-Some-finish_line.at_periods.now xs [] f s1 c.in-Some-finish_line.ensures.0 in
    refused text c.in-Some-finish_line.at_periods.now c.not_report-in_default-small_line.result c.not_report-in_default-small_line.ensures
    (stops_at_periods text c.in-Some-finish_line.at_periods.now xs c.in_ok-lines.ensures.words c.in-Some-finish_line.finish c.in-Some-finish_line.ensures.1 s2 c.in_default-small_line.ensures)

pub returns-in_default-small_line-2 : goal.returns-in_default-small_line-2
returns-in_default-small_line-2 c =
    let xs = entries c.in_ok-lines.lines in
    let text = c.args.text.now in
    let s1 = one_line_more text _ c.in-Some.at_finish.now (map signed_decimal xs) (codes "--") c.in_ok-lines.ensures.spelled c.in-Some.ensures in
    let f = finish_words c.in-Some-finish_line.finish in
    let s2 = one_more_behind text _ c.in-Some-finish_line.at_periods.now xs [] f s1 c.in-Some-finish_line.ensures.0 in
    let p = counted (codes "periods ") c.in-Some-small_line.periods in
    let s3 = one_more_behind text _ c.in-Some-small_line.at_ahead.now xs (f ∷ []) p s2 c.in-Some-small_line.ensures.0 in
    refused text c.in-Some-small_line.at_ahead.now c.not_report-in_default-small_line-2.result c.not_report-in_default-small_line-2.ensures
    (stops_at_ahead text c.in-Some-small_line.at_ahead.now xs c.in_ok-lines.ensures.words c.in-Some-finish_line.finish c.in-Some-finish_line.ensures.1 c.in-Some-small_line.periods c.in-Some-small_line.ensures.1 s3 c.in_default-small_line-2.ensures)

pub returns-in_default-counted_line : goal.returns-in_default-counted_line
returns-in_default-counted_line c =
    let xs = entries c.in_ok-lines.lines in
    let text = c.args.text.now in
    let s1 = one_line_more text _ c.in-Some.at_finish.now (map signed_decimal xs) (codes "--") c.in_ok-lines.ensures.spelled c.in-Some.ensures in
    let f = finish_words c.in-Some-finish_line.finish in
    let s2 = one_more_behind text _ c.in-Some-finish_line.at_periods.now xs [] f s1 c.in-Some-finish_line.ensures.0 in
    let p = counted (codes "periods ") c.in-Some-small_line.periods in
    let s3 = one_more_behind text _ c.in-Some-small_line.at_ahead.now xs (f ∷ []) p s2 c.in-Some-small_line.ensures.0 in
    let a = counted (codes "ahead ") c.in-Some-small_line-2.ahead in
    let s4 = one_more_behind text _ c.in-Some-small_line-2.at_high.now xs (f ∷ p ∷ []) a s3 c.in-Some-small_line-2.ensures.0 in
    refused text c.in-Some-small_line-2.at_high.now c.not_report-in_default-counted_line.result c.not_report-in_default-counted_line.ensures
    (stops_at_high text c.in-Some-small_line-2.at_high.now xs c.in_ok-lines.ensures.words c.in-Some-finish_line.finish c.in-Some-finish_line.ensures.1
    c.in-Some-small_line.periods c.in-Some-small_line.ensures.1
    c.in-Some-small_line-2.ahead c.in-Some-small_line-2.ensures.1 s4 c.in_default-counted_line.ensures)

pub returns-then-not-is_empty : goal.returns-then-not-is_empty
returns-then-not-is_empty c =
    let xs = entries c.in_ok-lines.lines in
    let text = c.args.text.now in
    let s1 = one_line_more text _ c.in-Some.at_finish.now (map signed_decimal xs) (codes "--") c.in_ok-lines.ensures.spelled c.in-Some.ensures in
    let f = finish_words c.in-Some-finish_line.finish in
    let s2 = one_more_behind text _ c.in-Some-finish_line.at_periods.now xs [] f s1 c.in-Some-finish_line.ensures.0 in
    let p = counted (codes "periods ") c.in-Some-small_line.periods in
    let s3 = one_more_behind text _ c.in-Some-small_line.at_ahead.now xs (f ∷ []) p s2 c.in-Some-small_line.ensures.0 in
    let a = counted (codes "ahead ") c.in-Some-small_line-2.ahead in
    let s4 = one_more_behind text _ c.in-Some-small_line-2.at_high.now xs (f ∷ p ∷ []) a s3 c.in-Some-small_line-2.ensures.0 in
    let h = counted (codes "high ") c.in-Some-counted_line.high in
    let s5 = one_more_behind text _ c.in-Some-counted_line.at_end.now xs (f ∷ p ∷ a ∷ []) h s4 c.in-Some-counted_line.ensures.0 in
    refused text c.in-Some-counted_line.at_end.now c.not_report-then-not-is_empty.result c.not_report-then-not-is_empty.ensures
    (stops_at_end text c.in-Some-counted_line.at_end.now xs c.in_ok-lines.ensures.words c.in-Some-finish_line.finish c.in-Some-finish_line.ensures.1
    c.in-Some-small_line.periods c.in-Some-small_line.ensures.1
    c.in-Some-small_line-2.ahead c.in-Some-small_line-2.ensures.1
    c.in-Some-counted_line.high c.in-Some-counted_line.ensures.1 s5 (are_some c.in-Some-counted_line.at_end.now c.if-not-is_empty.ensures))

pub returns : goal.returns
returns c =
    let xs = entries c.in_ok-lines.lines in
    let text = c.args.text.now in
    let s1 = one_line_more text _ c.in-Some.at_finish.now (map signed_decimal xs) (codes "--") c.in_ok-lines.ensures.spelled c.in-Some.ensures in
    let f = finish_words c.in-Some-finish_line.finish in
    let s2 = one_more_behind text _ c.in-Some-finish_line.at_periods.now xs [] f s1 c.in-Some-finish_line.ensures.0 in
    let p = counted (codes "periods ") c.in-Some-small_line.periods in
    let s3 = one_more_behind text _ c.in-Some-small_line.at_ahead.now xs (f ∷ []) p s2 c.in-Some-small_line.ensures.0 in
    let a = counted (codes "ahead ") c.in-Some-small_line-2.ahead in
    let s4 = one_more_behind text _ c.in-Some-small_line-2.at_high.now xs (f ∷ p ∷ []) a s3 c.in-Some-small_line-2.ensures.0 in
    let h = counted (codes "high ") c.in-Some-counted_line.high in
    let s5 = one_more_behind text _ c.in-Some-counted_line.at_end.now xs (f ∷ p ∷ a ∷ []) h s4 c.in-Some-counted_line.ensures.0 in
    reads_all text c.in-Some-counted_line.at_end.now xs c.in_ok-lines.ensures.words c.in-Some-finish_line.finish c.in-Some-finish_line.ensures.1
    c.in-Some-small_line.periods c.in-Some-small_line.ensures.1
    c.in-Some-small_line-2.ahead c.in-Some-small_line-2.ensures.1
    c.in-Some-counted_line.high c.in-Some-counted_line.ensures.1 s5 (are_none c.in-Some-counted_line.at_end.now c.if-not-is_empty.ensures)
