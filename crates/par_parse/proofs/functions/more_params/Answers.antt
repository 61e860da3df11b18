use Rattle.std.proofs.Common.{◌≡◌, ◌+◌, ◌-◌, List, [], ◌∷◌, ◌++◌, length, map, Ok, refl, sym, ap, ◌∙◌}
use Rattle.std.proofs.lemmas.Result.{err_from_is_err_and}
use Rattle.std.proofs.lemmas.List.{map_push}
use Rattle.par_text.specs.Reading.{read_many, read_as}
use Rattle.par_text.specs.Parsing.{read}
use Rattle.par_lex.specs.Words.{words}
use Rattle.par_parse.proofs.Loops.{with_front, length-words, starts_with, goes_on, stops, ends, fails}
use Rattle.par_text.specs.Kinds.{is}
use Rattle.par_parse.proofs.Views.{params_tree-put}
use Rattle.par_tree.specs.Tree.{Param}
use Rattle.par_tree.specs.View.{param_tree}
use Rattle.par_text.specs.declared.kind.Kind.TheVariants.{Comma}
use Rattle.par_text.specs.Grammar.{listed, next_param, more_params}
use Rattle.par_parse.proofs.functions.more_params.Goals as goal
use Rattle.par_parse.proofs.functions.more_params.Goals.{else-more-test, then-more-test+then-not-is}

pub more-init : goal.more-init
unfolding more_params
more-init c =
    λ n. starts_with (is Comma) listed [] (read n next_param) (param_tree c.args.first) (words c.args.text.now c.args.tokens.now) (read_as (listed (param_tree c.args.first)) (read n more_params) (words c.args.text.now c.args.tokens.now)) (map param_tree c.push.new.self.items) (length c.args.tokens.now) (ap (λ xs. map param_tree xs) c.in_ok-push.ensures.items ∙ map_push param_tree c.new-params.result.items c.args.first ∙ ap (λ xs. map param_tree xs ++ param_tree c.args.first ∷ []) c.new-params.ensures.items) (sym (length-words c.args.text.now c.args.tokens.now)) refl

pub returns-in_err-param : goal.returns-in_err-param
returns-in_err-param c =
    let p = err_from_is_err_and c.from_residual-in_err-param.result c.from_residual-in_err-param.ensures.1 in
    λ n. rw (p.1, p.2) (fails (is Comma) listed [] (read n next_param) (map param_tree c.more.params.items) (words c.args.text.now c.more.rest.now) (read_as (listed (param_tree c.args.first)) (read n more_params) (words c.args.text.now c.args.tokens.now)) (length c.args.tokens.now) c.more.counter c.in_err-param.field-0.0 c.more-test.true (ap (is Comma) (sym (c.peek.ensures c.args.text.now)) ∙ sym c.is.ensures ∙ c.if-not-is.false) (c.in_err-param.ensures n) (c.more.invariant n))

pub more-preserved : goal.more-preserved
more-preserved c =
    let x = c.in_ok-param.param in
    let e : map param_tree c.push-in-more.new.self.items ≡ (map param_tree c.more.params.items) ++ param_tree x ∷ [] = ap (λ xs. map param_tree xs) c.in_ok-push-2.ensures.items ∙ map_push param_tree c.more.params.items x in
    λ n. ap (λ xs. with_front listed xs (read_many (is Comma) listed [] (read n next_param) (length c.args.tokens.now - (c.more.counter + 1)) (words c.args.text.now c.in_ok-param.after.now))) e
    ∙ goes_on (is Comma) listed [] (read n next_param) (map param_tree c.more.params.items) (words c.args.text.now c.more.rest.now) (read_as (listed (param_tree c.args.first)) (read n more_params) (words c.args.text.now c.args.tokens.now)) (length c.args.tokens.now) c.more.counter (param_tree x) (words c.args.text.now c.in_ok-param.after.now) c.more-test.true (ap (is Comma) (sym (c.peek.ensures c.args.text.now)) ∙ sym c.is.ensures ∙ c.if-not-is.false) (c.in_ok-param.ensures n) (c.more.invariant n)

pub returns : goal.returns
returns c =
    let same = ap (λ (x : List Param). Ok (x, (words c.args.text.now c.more.rest.now))) (sym (params_tree-put c.more.params.items)) in
    elim c.more-test.branch [
      | else-more-test w ↦ λ n. ends (is Comma) listed [] (read n next_param) (map param_tree c.more.params.items) (words c.args.text.now c.more.rest.now) (read_as (listed (param_tree c.args.first)) (read n more_params) (words c.args.text.now c.args.tokens.now)) (length c.args.tokens.now) c.more.counter w.more-test.false (c.more.invariant n) ∙ same
      | then-more-test+then-not-is w ↦ λ n. stops (is Comma) listed [] (read n next_param) (map param_tree c.more.params.items) (words c.args.text.now c.more.rest.now) (read_as (listed (param_tree c.args.first)) (read n more_params) (words c.args.text.now c.args.tokens.now)) (length c.args.tokens.now - c.more.counter) (ap (is Comma) (sym (w.peek.ensures c.args.text.now)) ∙ sym w.is.ensures ∙ w.if-not-is.true) (c.more.invariant n) ∙ same
    ]
