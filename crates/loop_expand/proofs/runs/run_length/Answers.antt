use Rattle.std.proofs.Common.{◌≡◌, [], length, reverse, arith, ap, sym, ◌∙◌, vec_len}
use Rattle.std.specs.Prelude.{◌==◌}
use Rattle.std.proofs.lemmas.Bool.{eqb-true, false≢true}
use Rattle.std.proofs.lemmas.Result.{err_from_is_err_and}
use Rattle.loop_expand.specs.Reading.{scan}
use Rattle.loop_expand.proofs.Scans.{turn_fails, turn_ends, turn_on, scan_done, scan_cut, no_brackets, some_brackets}
use Rattle.loop_expand.proofs.runs.run_length.Goals as goal

pub returns-in_err-turn-clause-count : goal.returns-in_err-turn-clause-count
returns-in_err-turn-clause-count c =
    let p = err_from_is_err_and c.from_residual.result c.from_residual.ensures.1 in
    rw (p.1, p.2) (turn_fails c.in_err-turn.field-0.0 c.tokens.count c.tokens.rest.now c.in-Some.token.now c.in-Some.behind.now (reverse c.tokens.brackets.items) (scan c.args.tokens.now []) c.in-Some.ensures.cases.0 c.in_err-turn.ensures c.tokens.invariant.0)

pub returns-then-not-branch-clause-count : goal.returns-then-not-branch-clause-count
returns-then-not-branch-clause-count c =
    turn_ends c.in_ok-turn.field-0 (reverse c.turn.new.brackets.items) c.tokens.count c.tokens.rest.now c.in-Some.token.now c.in-Some.behind.now (reverse c.tokens.brackets.items) (scan c.args.tokens.now []) c.if-not-branch.true c.in-Some.ensures.cases.0 c.in_ok-turn.ensures c.tokens.invariant.0

pub tokens-preserved : goal.tokens-preserved
tokens-preserved c = (
  turn_on c.in_ok-turn.field-0 (reverse c.turn.new.brackets.items) c.tokens.count c.tokens.rest.now c.in-Some.token.now c.in-Some.behind.now (reverse c.tokens.brackets.items) (scan c.args.tokens.now []) c.if-not-branch.false c.in-Some.ensures.cases.0 c.in_ok-turn.ensures c.tokens.invariant.0,
  omega (arith, ap length c.in-Some.ensures.cases.0, c.tokens.invariant.1),
)

pub returns-then-is_empty-clause-count : goal.returns-then-is_empty-clause-count
returns-then-is_empty-clause-count c =
    let none : length c.tokens.brackets.items ≡ 0 = sym c.tokens.brackets.ok.0 ∙ eqb-true (vec_len c.tokens.brackets) 0 (sym c.is_empty.ensures ∙ c.if-is_empty.true) in
    scan_done c.tokens.count c.tokens.rest.now (reverse c.tokens.brackets.items) (scan c.args.tokens.now []) c.in_default.ensures.cases (no_brackets c.tokens.brackets.items none) c.tokens.invariant.0

pub returns-clause-count : goal.returns-clause-count
returns-clause-count c =
    let some : (length c.tokens.brackets.items ≡ 0 → ⊥) = λ e.
    false≢true (sym c.if-is_empty.false ∙ c.is_empty.ensures ∙ ap (λ n. n == 0) (c.tokens.brackets.ok.0 ∙ e)) in
    scan_cut c.tokens.count c.tokens.rest.now (reverse c.tokens.brackets.items) (scan c.args.tokens.now []) c.in_default.ensures.cases (some_brackets c.tokens.brackets.items some) c.tokens.invariant.0
