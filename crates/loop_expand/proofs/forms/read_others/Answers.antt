use Rattle.std.proofs.Common.{◌≡◌, ◌+◌, ◌-◌, List, [], ◌∷◌, ◌++◌, length, ap, sym, ◌∙◌}
use Rattle.std.proofs.lemmas.Result.{err_from_is_err_and}
use Rattle.std.proofs.lemmas.List.{map_push}
use Rattle.par_lex.specs.declared.lexeme.Lexeme.{Lexeme}
use Rattle.loop_expand.specs.Reading.{read_others}
use Rattle.loop_expand.specs.Gives.{run_shown, runs_shown}
use Rattle.loop_expand.proofs.Others.{with_front, goes_on_behind, stops_at, runs_out, fails_behind}
use Rattle.loop_expand.proofs.forms.read_others.Goals as goal
use Rattle.loop_expand.proofs.forms.read_others.Goals.{else-others-test, then-others-test+then-not-next_is}

pub returns-in_err-run : goal.returns-in_err-run
returns-in_err-run c =
    let p = err_from_is_err_and c.from_residual.result c.from_residual.ensures.1 in
    rw (p.1, p.2) (fails_behind (runs_shown c.others.others.items) c.others.rest.now (read_others (length c.args.tokens.now) c.args.tokens.now) (length c.args.tokens.now) c.others.counter c.in_err-run.field-0.0 c.others-test.true (sym c.next_is.ensures ∙ c.if-not-next_is.false) c.in_err-run.ensures c.others.invariant)

pub others-preserved : goal.others-preserved
others-preserved c =
    let added : runs_shown c.push.new.self.items ≡ runs_shown c.others.others.items ++ c.in_ok-run.run'.now ∷ [] = ap (λ xs. runs_shown xs) c.in_ok-push.ensures.items ∙ map_push run_shown c.others.others.items c.in_ok-run.run' in
    ap (λ (xs : List (List Lexeme)). with_front xs (read_others (length c.args.tokens.now - (c.others.counter + 1)) c.in_ok-run.behind.now)) added
    ∙ goes_on_behind (runs_shown c.others.others.items) c.others.rest.now (read_others (length c.args.tokens.now) c.args.tokens.now) (length c.args.tokens.now) c.others.counter c.in_ok-run.run'.now c.in_ok-run.behind.now c.others-test.true (sym c.next_is.ensures ∙ c.if-not-next_is.false) c.in_ok-run.ensures c.others.invariant

pub returns : goal.returns
returns c =
    elim c.others-test.branch [
      | else-others-test w ↦ runs_out (runs_shown c.others.others.items) c.others.rest.now (read_others (length c.args.tokens.now) c.args.tokens.now) (length c.args.tokens.now) c.others.counter w.others-test.false c.others.invariant
      | then-others-test+then-not-next_is w ↦ stops_at (runs_shown c.others.others.items) c.others.rest.now (read_others (length c.args.tokens.now) c.args.tokens.now) (length c.args.tokens.now - c.others.counter) (sym w.next_is.ensures ∙ w.if-not-next_is.true) c.others.invariant
    ]
