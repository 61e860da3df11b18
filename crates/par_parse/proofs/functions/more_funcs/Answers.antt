use Rattle.std.proofs.Common.{◌≡◌, ◌+◌, ◌-◌, List, [], ◌∷◌, ◌++◌, length, map, Ok, refl, sym, ap, ◌∙◌}
use Rattle.std.proofs.lemmas.Result.{err_from_is_err_and}
use Rattle.std.proofs.lemmas.List.{map_push}
use Rattle.par_text.specs.Reading.{read_many, read_as}
use Rattle.par_text.specs.Parsing.{read}
use Rattle.par_lex.specs.Words.{words}
use Rattle.par_parse.proofs.Loops.{with_front, length-words, starts_with, goes_on, stops, ends, fails}
use Rattle.par_text.specs.Kinds.{is}
use Rattle.par_parse.proofs.Views.{funcs_tree-put}
use Rattle.par_tree.specs.Tree.{Func}
use Rattle.par_tree.specs.View.{func_tree}
use Rattle.par_text.specs.declared.kind.Kind.TheVariants.{Fn}
use Rattle.par_text.specs.Grammar.{listed, func_rule, more_funcs}
use Rattle.par_parse.proofs.functions.more_funcs.Goals as goal
use Rattle.par_parse.proofs.functions.more_funcs.Goals.{else-more-test, then-more-test+then-not-is}

pub more-init : goal.more-init
unfolding more_funcs
more-init c =
    starts_with (is Fn) listed [] (read c.args.depth func_rule) (func_tree c.args.first) (words c.args.text.now c.args.tokens.now) (read_as (listed (func_tree c.args.first)) (read c.args.depth more_funcs) (words c.args.text.now c.args.tokens.now)) (map func_tree c.push.new.self.items) (length c.args.tokens.now) (ap (λ xs. map func_tree xs) c.in_ok-push.ensures.items ∙ map_push func_tree c.new-funcs.result.items c.args.first ∙ ap (λ xs. map func_tree xs ++ func_tree c.args.first ∷ []) c.new-funcs.ensures.items) (sym (length-words c.args.text.now c.args.tokens.now)) refl

pub returns-in_err-func : goal.returns-in_err-func
returns-in_err-func c =
    let p = err_from_is_err_and c.from_residual-in_err-func.result c.from_residual-in_err-func.ensures.1 in
    rw (p.1, p.2) (fails (is Fn) listed [] (read c.args.depth func_rule) (map func_tree c.more.funcs.items) (words c.args.text.now c.more.rest.now) (read_as (listed (func_tree c.args.first)) (read c.args.depth more_funcs) (words c.args.text.now c.args.tokens.now)) (length c.args.tokens.now) c.more.counter c.in_err-func.field-0.0 c.more-test.true (ap (is Fn) (sym (c.peek.ensures c.args.text.now)) ∙ sym c.is.ensures ∙ c.if-not-is.false) (c.in_err-func.ensures) (c.more.invariant))

pub more-preserved : goal.more-preserved
more-preserved c =
    let x = c.in_ok-func.func in
    let e : map func_tree c.push-in-more.new.self.items ≡ (map func_tree c.more.funcs.items) ++ func_tree x ∷ [] = ap (λ xs. map func_tree xs) c.in_ok-push-2.ensures.items ∙ map_push func_tree c.more.funcs.items x in
    ap (λ xs. with_front listed xs (read_many (is Fn) listed [] (read c.args.depth func_rule) (length c.args.tokens.now - (c.more.counter + 1)) (words c.args.text.now c.in_ok-func.after.now))) e
    ∙ goes_on (is Fn) listed [] (read c.args.depth func_rule) (map func_tree c.more.funcs.items) (words c.args.text.now c.more.rest.now) (read_as (listed (func_tree c.args.first)) (read c.args.depth more_funcs) (words c.args.text.now c.args.tokens.now)) (length c.args.tokens.now) c.more.counter (func_tree x) (words c.args.text.now c.in_ok-func.after.now) c.more-test.true (ap (is Fn) (sym (c.peek.ensures c.args.text.now)) ∙ sym c.is.ensures ∙ c.if-not-is.false) (c.in_ok-func.ensures) (c.more.invariant)

pub returns : goal.returns
returns c =
    let same = ap (λ (x : List Func). Ok (x, (words c.args.text.now c.more.rest.now))) (sym (funcs_tree-put c.more.funcs.items)) in
    elim c.more-test.branch [
      | else-more-test w ↦ ends (is Fn) listed [] (read c.args.depth func_rule) (map func_tree c.more.funcs.items) (words c.args.text.now c.more.rest.now) (read_as (listed (func_tree c.args.first)) (read c.args.depth more_funcs) (words c.args.text.now c.args.tokens.now)) (length c.args.tokens.now) c.more.counter w.more-test.false (c.more.invariant) ∙ same
      | then-more-test+then-not-is w ↦ stops (is Fn) listed [] (read c.args.depth func_rule) (map func_tree c.more.funcs.items) (words c.args.text.now c.more.rest.now) (read_as (listed (func_tree c.args.first)) (read c.args.depth more_funcs) (words c.args.text.now c.args.tokens.now)) (length c.args.tokens.now - c.more.counter) (ap (is Fn) (sym (w.peek.ensures c.args.text.now)) ∙ sym w.is.ensures ∙ w.if-not-is.true) (c.more.invariant) ∙ same
    ]
