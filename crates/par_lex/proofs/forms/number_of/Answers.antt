use Rattle.std.proofs.Common.{◌<◌, ◌∙◌, arith, rules}
use Rattle.par_text.specs.Lexing.{value_from, greatest_number}
use Rattle.par_lex.proofs.Numbers.{value_from-step, value_from-end, too_large}
use Rattle.par_lex.proofs.forms.number_of.Goals as goal

pub returns-then-value-digit-clause-fits : goal.returns-then-value-digit-clause-fits
returns-then-value-digit-clause-fits c =
    let above : greatest_number < value_from 0 c.args.word.now =
    too_large c.digits.value c.in-Some.first.now c.from-digit.result c.digits.rest.now c.in-Some.behind.now (value_from 0 c.args.word.now) c.in-Some.ensures.cases.0 (c.from-digit.ensures ∙ c.saturating_sub.ensures) c.if-value-digit.true c.digits.invariant.0 in
    (λ e. cc, λ le. absurd (omega arith))

pub digits-preserved : goal.digits-preserved
digits-preserved c =
    (value_from-step c.digits.value c.in-Some.first.now c.from-digit.result c.digits.rest.now c.in-Some.behind.now (value_from 0 c.args.word.now) c.in-Some.ensures.cases.0 (c.from-digit.ensures ∙ c.saturating_sub.ensures) c.digits.invariant.0, omega arith)

pub returns-clause-value : goal.returns-clause-value
returns-clause-value c = value_from-end c.digits.value c.digits.rest.now (value_from 0 c.args.word.now) c.in_default.ensures.cases c.digits.invariant.0

pub returns-clause-fits : goal.returns-clause-fits
returns-clause-fits c =
    let whole = value_from-end c.digits.value c.digits.rest.now (value_from 0 c.args.word.now) c.in_default.ensures.cases c.digits.invariant.0 in
    (λ e. omega arith, λ le. search rules)
