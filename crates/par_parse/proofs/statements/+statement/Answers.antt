use Rattle.std.proofs.Common.{rules, ◌≡◌, ◌+◌, ◌-◌, [], ◌∷◌, ◌++◌, length, map, Ok, refl, sym, ap, ◌∙◌}
use Rattle.std.proofs.lemmas.Result.{err_from_is_err_and}
use Rattle.std.proofs.lemmas.List.{map_push}
use Rattle.par_text.specs.Reading.{read_many}
use Rattle.par_text.specs.Parsing.{read}
use Rattle.par_lex.specs.Words.{words}
use Rattle.par_parse.proofs.Loops.{with_front, length-words, starts, goes_on, stops, ends, fails}
use Rattle.par_tree.specs.Tree.{Body, done}
use Rattle.par_text.specs.Grammar.{stepped, begins_statement, stmt_rule, stmts_rule, if_rule, while_rule, par_rule, split_rule}
use Rattle.par_tree.specs.Tree
use Rattle.par_tree.specs.View.{expr_tree, body_tree, name_tree}
use Rattle.par_tree.proofs.Lists.{stmt_tree-if, stmt_tree-while, stmt_tree-par, stmt_tree-split}
use Rattle.par_parse.specs.Gives.{line_and_tree}
use Rattle.par_parse.proofs.Views.{body_tree-put}
use Rattle.par_parse.proofs.statements.+statement.Goals as goal
use Rattle.par_parse.proofs.statements.+statement.Goals.{statements-else-body-test, statements-then-body-test+then-not-begins_statement}

pub statements-body-init : goal.statements-body-init
unfolding stmts_rule
statements-body-init t c =
    starts begins_statement stepped done (read c.args.depth stmt_rule) [] (words c.args.text.now c.args.tokens.now) (read c.args.depth stmts_rule (words c.args.text.now c.args.tokens.now)) (map line_and_tree c.new-body.result.items) (length c.args.tokens.now) (ap (λ xs. map line_and_tree xs) c.new-body.ensures.items) (sym (length-words c.args.text.now c.args.tokens.now)) refl

pub statements-returns-in_err-statement : goal.statements-returns-in_err-statement
statements-returns-in_err-statement t c =
    let p = err_from_is_err_and c.from_residual.result c.from_residual.ensures.1 in
    rw (p.1, p.2) (fails begins_statement stepped done (read c.args.depth stmt_rule) (map line_and_tree c.body.body.items) (words c.args.text.now c.body.rest.now) (read c.args.depth stmts_rule (words c.args.text.now c.args.tokens.now)) (length c.args.tokens.now) c.body.counter c.in_err-statement.field-0.0 c.body-test.true (ap begins_statement (sym (c.peek.ensures c.args.text.now)) ∙ sym c.begins_statement.ensures ∙ c.if-not-begins_statement.false) (c.in_err-statement.ensures) (c.body.invariant))

pub statements-body-preserved : goal.statements-body-preserved
statements-body-preserved t c =
    let x = c.in_ok-statement.statement in
    let e : map line_and_tree c.push.new.self.items ≡ (map line_and_tree c.body.body.items) ++ line_and_tree x ∷ [] = ap (λ xs. map line_and_tree xs) c.in_ok-push.ensures.items ∙ map_push line_and_tree c.body.body.items x in
    ap (λ xs. with_front stepped xs (read_many begins_statement stepped done (read c.args.depth stmt_rule) (length c.args.tokens.now - (c.body.counter + 1)) (words c.args.text.now c.in_ok-statement.after.now))) e
    ∙ goes_on begins_statement stepped done (read c.args.depth stmt_rule) (map line_and_tree c.body.body.items) (words c.args.text.now c.body.rest.now) (read c.args.depth stmts_rule (words c.args.text.now c.args.tokens.now)) (length c.args.tokens.now) c.body.counter (line_and_tree x) (words c.args.text.now c.in_ok-statement.after.now) c.body-test.true (ap begins_statement (sym (c.peek.ensures c.args.text.now)) ∙ sym c.begins_statement.ensures ∙ c.if-not-begins_statement.false) (c.in_ok-statement.ensures) (c.body.invariant)

pub statements-returns : goal.statements-returns
statements-returns t c =
    let same = ap (λ (x : Body). Ok (x, (words c.args.text.now c.body.rest.now))) (sym (body_tree-put c.body.body.items)) in
    elim c.body-test.branch [
      | statements-else-body-test w ↦ ends begins_statement stepped done (read c.args.depth stmt_rule) (map line_and_tree c.body.body.items) (words c.args.text.now c.body.rest.now) (read c.args.depth stmts_rule (words c.args.text.now c.args.tokens.now)) (length c.args.tokens.now) c.body.counter w.body-test.false (c.body.invariant) ∙ same
      | statements-then-body-test+then-not-begins_statement w ↦ stops begins_statement stepped done (read c.args.depth stmt_rule) (map line_and_tree c.body.body.items) (words c.args.text.now c.body.rest.now) (read c.args.depth stmts_rule (words c.args.text.now c.args.tokens.now)) (length c.args.tokens.now - c.body.counter) (ap begins_statement (sym (w.peek.ensures c.args.text.now)) ∙ sym w.begins_statement.ensures ∙ w.if-not-begins_statement.true) (c.body.invariant) ∙ same
    ]

pub if_statement-returns : goal.if_statement-returns
unfolding if_rule
if_statement-returns t c =
    let whole : read c.args.depth if_rule (words c.args.text.now c.args.tokens.now) ≡ Ok ((c.in_ok-first.first.now.line, Tree.if_stmt (expr_tree c.in_ok-cond.cond) (body_tree c.in_ok-then.then.items) (body_tree c.in_ok-other.other.items)), words c.args.text.now c.in_ok-other.rest.now) = search (rules) in
    whole ∙ ap (λ (s : Tree.Stmt). Ok ((c.in_ok-first.first.now.line, s), words c.args.text.now c.in_ok-other.rest.now)) (sym (stmt_tree-if c.in_ok-cond.cond c.in_ok-then.then c.in_ok-other.other))

pub while_statement-returns : goal.while_statement-returns
unfolding while_rule
while_statement-returns t c =
    let whole : read c.args.depth while_rule (words c.args.text.now c.args.tokens.now) ≡ Ok ((c.in_ok-first.first.now.line, Tree.while_stmt (expr_tree c.in_ok-cond.cond) (body_tree c.in_ok-body.body.items)), words c.args.text.now c.in_ok-body.rest.now) = search (rules) in
    whole ∙ ap (λ (s : Tree.Stmt). Ok ((c.in_ok-first.first.now.line, s), words c.args.text.now c.in_ok-body.rest.now)) (sym (stmt_tree-while c.in_ok-cond.cond c.in_ok-body.body))

pub par_statement-returns : goal.par_statement-returns
unfolding par_rule
par_statement-returns t c =
    let whole : read c.args.depth par_rule (words c.args.text.now c.args.tokens.now) ≡ Ok ((c.in_ok-first.first.now.line, Tree.par_stmt (body_tree c.in_ok-left.left.items) (body_tree c.in_ok-right.right.items)), words c.args.text.now c.in_ok-right.rest.now) = search (rules) in
    whole ∙ ap (λ (s : Tree.Stmt). Ok ((c.in_ok-first.first.now.line, s), words c.args.text.now c.in_ok-right.rest.now)) (sym (stmt_tree-par c.in_ok-left.left c.in_ok-right.right))

pub split_statement-returns-in_err-block : goal.split_statement-returns-in_err-block
unfolding split_rule
split_statement-returns-in_err-block t c = search (rules, c.in_err-block.ensures c.args.depth)

pub split_statement-returns-in_err-rest : goal.split_statement-returns-in_err-rest
unfolding split_rule
split_statement-returns-in_err-rest t c = search (rules, c.in_ok-block.ensures c.args.depth)

pub split_statement-returns-in_err-at : goal.split_statement-returns-in_err-at
unfolding split_rule
split_statement-returns-in_err-at t c = search (rules, c.in_ok-block.ensures c.args.depth)

pub split_statement-returns-in_err-rest-2 : goal.split_statement-returns-in_err-rest-2
unfolding split_rule
split_statement-returns-in_err-rest-2 t c = search (rules, c.in_ok-block.ensures c.args.depth)

pub split_statement-returns-in_err-left : goal.split_statement-returns-in_err-left
unfolding split_rule
split_statement-returns-in_err-left t c = search (rules, c.in_ok-block.ensures c.args.depth, c.in_err-left.ensures c.args.depth)

pub split_statement-returns-in_err-body : goal.split_statement-returns-in_err-body
unfolding split_rule
split_statement-returns-in_err-body t c = search (rules, c.in_ok-block.ensures c.args.depth, c.in_ok-left.ensures c.args.depth)

pub split_statement-returns : goal.split_statement-returns
unfolding split_rule
split_statement-returns t c =
    let whole : read c.args.depth split_rule (words c.args.text.now c.args.tokens.now) ≡ Ok ((c.in_ok-first.first.now.line, Tree.split_stmt (name_tree c.in_ok-block.block) (expr_tree c.in_ok-at.at) (name_tree c.in_ok-left.left) (name_tree c.in_ok-left.right) (body_tree c.in_ok-body.body.items)), words c.args.text.now c.in_ok-body.rest.now) = search (rules, c.in_ok-block.ensures c.args.depth, c.in_ok-left.ensures c.args.depth) in
    whole ∙ ap (λ (s : Tree.Stmt). Ok ((c.in_ok-first.first.now.line, s), words c.args.text.now c.in_ok-body.rest.now)) (sym (stmt_tree-split c.in_ok-block.block c.in_ok-at.at c.in_ok-left.left c.in_ok-left.right c.in_ok-body.body))
