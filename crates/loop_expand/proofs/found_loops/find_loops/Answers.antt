use Rattle.std.proofs.Common.{ℕ, List, Result, ap, sym, ◌∙◌, subst}
use Rattle.std.proofs.lemmas.Result.{err_from_is_err_and}
use Rattle.loop_expand.specs.Loops.{Loop}
use Rattle.loop_expand.specs.Reading.{loops_of}
use Rattle.loop_expand.specs.View.{loops_shown}
use Rattle.loop_expand.specs.Found.{FailsAt, loops_in_front}
use Rattle.loop_expand.proofs.Finding.{loops-call, loops-other, loops-none, find_fails, find_ends}
use Rattle.loop_expand.proofs.found_loops.find_loops.Goals as goal

pub returns-in_err-add_loop : goal.returns-in_err-add_loop
returns-in_err-add_loop c =
    let p = err_from_is_err_and c.from_residual.result c.from_residual.ensures.1 in
    let is = loops-call c.tokens.rest.now c.in-Some.first.now c.in-Some.behind.now c.in-Some.ensures.cases.0 (sym c.begins_call.ensures ∙ c.if-begins_call.true) in
    rw (p.1, p.2) (find_fails c.in_err-add_loop.field-0.0 (loops_shown c.tokens.loops.items) (loops_of c.tokens.rest.now) (loops_of c.args.tokens.now)
    (subst (λ (r : Result (List Loop) ℕ). FailsAt c.in_err-add_loop.field-0.0 r) (sym is) (c.in_err-add_loop.ensures (loops_of c.in-Some.behind.now))) c.tokens.invariant)

pub tokens-preserved-in_ok-add_loop : goal.tokens-preserved-in_ok-add_loop
tokens-preserved-in_ok-add_loop c =
    let is = loops-call c.tokens.rest.now c.in-Some.first.now c.in-Some.behind.now c.in-Some.ensures.cases.0 (sym c.begins_call.ensures ∙ c.if-begins_call.true) in
    sym (c.in_ok-add_loop.ensures (loops_of c.in-Some.behind.now))
    ∙ ap (λ (r : Result (List Loop) ℕ). loops_in_front (loops_shown c.tokens.loops.items) r) (sym is)
    ∙ c.tokens.invariant

pub tokens-preserved : goal.tokens-preserved
tokens-preserved c =
    let is = loops-other c.tokens.rest.now c.in-Some.first.now c.in-Some.behind.now c.in-Some.ensures.cases.0 (sym c.begins_call.ensures ∙ c.if-begins_call.false) in
    ap (λ (r : Result (List Loop) ℕ). loops_in_front (loops_shown c.tokens.loops.items) r) (sym is) ∙ c.tokens.invariant

pub returns : goal.returns
returns c = find_ends (loops_shown c.tokens.loops.items) (loops_of c.tokens.rest.now) (loops_of c.args.tokens.now) (loops-none c.tokens.rest.now c.in_default.ensures.cases) c.tokens.invariant
