use Rattle.std.proofs.Common.{◌≡◌, ◌+◌, ◌-◌, List, [], ◌∷◌, ◌++◌, length, map, Ok, refl, sym, ap, ◌∙◌}
use Rattle.std.proofs.lemmas.Result.{err_from_is_err_and}
use Rattle.std.proofs.lemmas.List.{map_push}
use Rattle.par_text.specs.Reading.{read_many, read_as}
use Rattle.par_text.specs.Parsing.{read}
use Rattle.par_lex.specs.Words.{words}
use Rattle.par_parse.proofs.Loops.{with_front, length-words, starts_with, goes_on, stops, ends, fails}
use Rattle.par_text.specs.Kinds.{is}
use Rattle.par_parse.proofs.Views.{args_tree-put}
use Rattle.par_tree.specs.Tree.{Arg}
use Rattle.par_tree.specs.View.{arg_tree}
use Rattle.par_text.specs.declared.kind.Kind.TheVariants.{Comma}
use Rattle.par_text.specs.Grammar.{listed, next_arg, more_args}
use Rattle.par_parse.proofs.calls.more_args.Goals as goal
use Rattle.par_parse.proofs.calls.more_args.Goals.{else-more-test, then-more-test+then-not-is}

pub more-init : goal.more-init
unfolding more_args
more-init c =
    starts_with (is Comma) listed [] (read c.args.depth next_arg) (arg_tree c.args.first) (words c.args.text.now c.args.tokens.now) (read_as (listed (arg_tree c.args.first)) (read c.args.depth more_args) (words c.args.text.now c.args.tokens.now)) (map arg_tree c.push.new.self.items) (length c.args.tokens.now) (ap (λ xs. map arg_tree xs) c.in_ok-push.ensures.items ∙ map_push arg_tree c.new-args.result.items c.args.first ∙ ap (λ xs. map arg_tree xs ++ arg_tree c.args.first ∷ []) c.new-args.ensures.items) (sym (length-words c.args.text.now c.args.tokens.now)) refl

pub returns-in_err-arg : goal.returns-in_err-arg
returns-in_err-arg c =
    let p = err_from_is_err_and c.from_residual-in_err-arg.result c.from_residual-in_err-arg.ensures.1 in
    rw (p.1, p.2) (fails (is Comma) listed [] (read c.args.depth next_arg) (map arg_tree c.more.args.items) (words c.args.text.now c.more.rest.now) (read_as (listed (arg_tree c.args.first)) (read c.args.depth more_args) (words c.args.text.now c.args.tokens.now)) (length c.args.tokens.now) c.more.counter c.in_err-arg.field-0.0 c.more-test.true (ap (is Comma) (sym (c.peek.ensures c.args.text.now)) ∙ sym c.is.ensures ∙ c.if-not-is.false) (c.in_err-arg.ensures) (c.more.invariant))

pub more-preserved : goal.more-preserved
more-preserved c =
    let x = c.in_ok-arg.arg in
    let e : map arg_tree c.push-in-more.new.self.items ≡ (map arg_tree c.more.args.items) ++ arg_tree x ∷ [] = ap (λ xs. map arg_tree xs) c.in_ok-push-2.ensures.items ∙ map_push arg_tree c.more.args.items x in
    ap (λ xs. with_front listed xs (read_many (is Comma) listed [] (read c.args.depth next_arg) (length c.args.tokens.now - (c.more.counter + 1)) (words c.args.text.now c.in_ok-arg.after.now))) e
    ∙ goes_on (is Comma) listed [] (read c.args.depth next_arg) (map arg_tree c.more.args.items) (words c.args.text.now c.more.rest.now) (read_as (listed (arg_tree c.args.first)) (read c.args.depth more_args) (words c.args.text.now c.args.tokens.now)) (length c.args.tokens.now) c.more.counter (arg_tree x) (words c.args.text.now c.in_ok-arg.after.now) c.more-test.true (ap (is Comma) (sym (c.peek.ensures c.args.text.now)) ∙ sym c.is.ensures ∙ c.if-not-is.false) (c.in_ok-arg.ensures) (c.more.invariant)

pub returns : goal.returns
returns c =
    let same = ap (λ (x : List Arg). Ok (x, (words c.args.text.now c.more.rest.now))) (sym (args_tree-put c.more.args.items)) in
    elim c.more-test.branch [
      | else-more-test w ↦ ends (is Comma) listed [] (read c.args.depth next_arg) (map arg_tree c.more.args.items) (words c.args.text.now c.more.rest.now) (read_as (listed (arg_tree c.args.first)) (read c.args.depth more_args) (words c.args.text.now c.args.tokens.now)) (length c.args.tokens.now) c.more.counter w.more-test.false (c.more.invariant) ∙ same
      | then-more-test+then-not-is w ↦ stops (is Comma) listed [] (read c.args.depth next_arg) (map arg_tree c.more.args.items) (words c.args.text.now c.more.rest.now) (read_as (listed (arg_tree c.args.first)) (read c.args.depth more_args) (words c.args.text.now c.args.tokens.now)) (length c.args.tokens.now - c.more.counter) (ap (is Comma) (sym (w.peek.ensures c.args.text.now)) ∙ sym w.is.ensures ∙ w.if-not-is.true) (c.more.invariant) ∙ same
    ]
