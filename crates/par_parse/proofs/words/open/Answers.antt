use Rattle.std.proofs.Common.{◌≡◌, ℕ, suc, ◌-◌, ◌<◌, Err, arith, ap, ◌∙◌}
use Rattle.std.proofs.lemmas.Result.{err_from_is_err_and}
use Rattle.par_text.specs.declared.stop.Stop.TheVariants.{TooDeep}
use Rattle.par_lex.specs.Words.{words}
use Rattle.par_parse.proofs.Loops.{length-words}
use Rattle.par_parse.proofs.Opening.{no_token, no_room, some_room}
use Rattle.par_text.specs.Rule.{expression, factor, statements}
use Rattle.par_parse.proofs.Inner.{inner_below}
use Rattle.par_parse.proofs.words.open.Goals as goal

pub returns-clause-inside : goal.returns-clause-inside
returns-clause-inside c = λ ts.
    let less : c.args.depth ≡ suc (c.args.depth - 1) = omega arith in
    record {
      an_expression = inner_below c.args.depth (c.args.depth - 1) expression ts less;
      a_factor = inner_below c.args.depth (c.args.depth - 1) factor ts less;
      a_list = inner_below c.args.depth (c.args.depth - 1) statements ts less;
    }

pub returns-in_err-rest-clause-gives : goal.returns-in_err-rest-clause-gives
returns-in_err-rest-clause-gives c = λ text.
    let err = err_from_is_err_and c.from_residual.result c.from_residual.ensures.1 in
    rw (err.1, err.2) (no_token c.in_err-rest.field-0.0 c.args.depth c.args.kind (words text c.args.tokens.now) (c.in_err-rest.ensures text))

pub returns-then-depth-eq0-clause-gives : goal.returns-then-depth-eq0-clause-gives
returns-then-depth-eq0-clause-gives c = λ text.
    no_room c.args.depth c.args.kind (words text c.args.tokens.now) _ (words text c.in_ok-rest.rest.now) c.if-depth-eq0.true (c.in_ok-rest.ensures text)
    ∙ ap (λ (m : ℕ). Err (TooDeep, m)) (length-words text c.args.tokens.now)

pub returns-clause-gives : goal.returns-clause-gives
returns-clause-gives c = λ text.
    let some : 0 < c.args.depth = omega (arith, c.if-depth-eq0.false) in
    some_room c.args.depth c.args.kind (words text c.args.tokens.now) _ (words text c.in_ok-rest.rest.now) some (c.in_ok-rest.ensures text)
