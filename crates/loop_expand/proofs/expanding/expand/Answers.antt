use Rattle.std.proofs.Common.{◌≡◌, length, ap, sym, ◌∙◌, subst}
use Rattle.std.proofs.lemmas.Result.{err_from_is_err_and}
use Rattle.std.proofs.lemmas.List.{length-map}
use Rattle.loop_expand.specs.Expansion.{IsTaken}
use Rattle.loop_expand.specs.Answers.{FindsFirst}
use Rattle.loop_expand.specs.View.{loop_shown, loops_shown}
use Rattle.loop_expand.proofs.Expansions.{loops_fail, name_fails, expands}
use Rattle.loop_expand.proofs.expanding.expand.Goals as goal

pub returns-in_err-loops : goal.returns-in_err-loops
returns-in_err-loops c =
    let p = err_from_is_err_and c.from_residual-in_err-loops.result c.from_residual-in_err-loops.ensures.1 in
    rw (p.1, p.2) (loops_fail c.args.text.now c.in_ok-lexemes.lexemes.items c.deref.result.now c.in_err-loops.field-0.0 c.in_ok-lexemes.ensures.tokens c.deref.ensures.value c.in_err-loops.ensures)

pub returns-in-Some : goal.returns-in-Some
returns-in-Some c =
    let many : c.len.result ≡ length (loops_shown c.in_ok-loops.loops.items) = c.len.ensures ∙ c.in_ok-loops.loops.ok.0 ∙ sym (length-map c.in_ok-loops.loops.items loop_shown) in
    name_fails c.args.text.now c.in_ok-lexemes.lexemes.items c.deref.result.now c.deref-2.result.now (loops_shown c.in_ok-loops.loops.items) c.len.result c.in-Some.at c.in_ok-lexemes.ensures.tokens c.deref.ensures.value c.deref-2.ensures.value c.in_ok-loops.ensures many
    (subst (λ o. FindsFirst o (IsTaken c.args.text.now c.len.result) c.deref-2.result.now) c.in-Some.is c.in_ok-at.ensures)

pub returns : goal.returns
returns c =
    let many : c.len.result ≡ length (loops_shown c.in_ok-loops.loops.items) = c.len.ensures ∙ c.in_ok-loops.loops.ok.0 ∙ sym (length-map c.in_ok-loops.loops.items loop_shown) in
    expands c.args.text.now c.in_ok-lexemes.lexemes.items c.deref.result.now c.deref-2.result.now (loops_shown c.in_ok-loops.loops.items) (loops_shown c.deref-in-None.result.now) c.len.result c.in_ok-expansion-in-None.field-0.items c.in_ok-lexemes.ensures.tokens c.deref.ensures.value c.deref-2.ensures.value c.in_ok-loops.ensures many
    (subst (λ o. FindsFirst o (IsTaken c.args.text.now c.len.result) c.deref-2.result.now) c.in-None.is c.in_ok-at.ensures)
    (ap (λ xs. loops_shown xs) c.deref-in-None.ensures.value)
    c.in_ok-expansion-in-None.ensures
