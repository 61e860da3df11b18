use Rattle.std.proofs.Common.{◌≡◌, ◌∙◌, ◌+◌, Result, Ok, arith, drop, length, ap, sym, subst}
use Rattle.std.proofs.lemmas.Result.{err_from_is_err_and}
use Rattle.std.proofs.lemmas.Grind.{common_steps}
use Rattle.std.proofs.lemmas.List.{length-map}
use Rattle.par_tree.specs.Tree.{Body}
use Rattle.par_tree.specs.View.{name_tree, expr_tree, stmt_tree, body_tree}
use Rattle.par_ownership.specs.Environment.{Environment, with_entry, lent_entry, opened, held_in_both}
use Rattle.par_ownership.specs.Walk.{Refusal, ended, then_walk, walk, walk_all, expr_refusal, block_refusal, fresh_refusal, branches_refusal}
use Rattle.block_check.specs.Shown.{entry_shown, entries_shown, env_shown, funcs_tree, Walks}
use Rattle.par_names.specs.Rows.{rows_tree}
use Rattle.par_names.proofs.Rows.{body_is}
use Rattle.block_check.proofs.Compound.{copied, walked_if, walked_while, walked_par, walked_split}
use Rattle.block_check.proofs.Refused.{refused, refused_then, refused_else, refused_round, refused_left, refused_right, refused_body}
use Rattle.block_check.proofs.Seeking.{drop_item}
use Rattle.block_check.proofs.statements.+check_statement.Goals as goal

pub check_nested-returns : goal.check_nested-returns
check_nested-returns t c =
    let same = ap body_tree c.deref.ensures.value ∙ sym (body_is c.args.body.now) in
    subst (λ (b : Body). Walks env_shown c.check_list.result (ended c.args.visible (walk_all (funcs_tree c.args.funcs.now) b (env_shown c.args.env)))) same c.check_list.ensures

pub check_statement-returns-in_ok-other-in-If : goal.check_statement-returns-in_ok-other-in-If
check_statement-returns-in_ok-other-in-If t c =
    let p = funcs_tree c.args.funcs.now in
    let line = c.args.line in
    let env = env_shown c.args.env in
    let count : c.len-visible.result ≡ length c.args.env.items = grind (arith, common_steps) in
    let visible = count ∙ sym (length-map c.args.env.items entry_shown) in
    let passed = ap (λ es. expr_refusal line (entries_shown es) (expr_tree c.in-If.cond)) (sym c.deref-in-If.ensures.value) ∙ c.in_ok-check_expression-in-If.ensures in
    let same = copied (env_shown c.in_ok-saved-in-If.saved) c.deref-in-If-2.result.now c.args.env.items c.in_ok-saved-in-If.ensures c.deref-in-If-2.ensures.value in
    let whole = ap (λ k. walk p line (stmt_tree k) env) c.in-If.is in
    subst (λ (w : Result Environment Refusal). Walks env_shown c.after_arms.result w)
    (sym
    (whole
    ∙ walked_if line c.len-visible.result env (env_shown c.in_ok-saved-in-If.saved) (env_shown c.in_ok-env-in-If.env) (env_shown c.in_ok-other-in-If.other) (expr_refusal line env (expr_tree c.in-If.cond)) (walk_all p (rows_tree c.in-If.then)) (walk_all p (rows_tree c.in-If.other)) visible passed same c.in_ok-env-in-If.ensures c.in_ok-other-in-If.ensures))
    c.after_arms.ensures

pub check_statement-returns-in_ok-end-in-While : goal.check_statement-returns-in_ok-end-in-While
check_statement-returns-in_ok-end-in-While t c =
    let p = funcs_tree c.args.funcs.now in
    let line = c.args.line in
    let env = env_shown c.args.env in
    let count : c.len-visible.result ≡ length c.args.env.items = grind (arith, common_steps) in
    let visible = count ∙ sym (length-map c.args.env.items entry_shown) in
    let passed = ap (λ es. expr_refusal line (entries_shown es) (expr_tree c.in-While.cond)) (sym c.deref-in-While.ensures.value) ∙ c.in_ok-check_expression-in-While.ensures in
    let same = copied (env_shown c.in_ok-round-in-While.round) c.deref-in-While-2.result.now c.args.env.items c.in_ok-round-in-While.ensures c.deref-in-While-2.ensures.value in
    let whole = ap (λ k. walk p line (stmt_tree k) env) c.in-While.is in
    subst (λ (w : Result Environment Refusal). Walks env_shown c.after_arms-in-While.result w)
    (sym
    (whole
    ∙ walked_while line c.len-visible.result env (env_shown c.in_ok-round-in-While.round) (env_shown c.in_ok-end-in-While.end) (expr_refusal line env (expr_tree c.in-While.cond)) (walk_all p (rows_tree c.in-While.body)) visible passed same c.in_ok-end-in-While.ensures))
    c.after_arms-in-While.ensures

pub check_statement-returns-in_ok-right-in-Par : goal.check_statement-returns-in_ok-right-in-Par
check_statement-returns-in_ok-right-in-Par t c =
    let p = funcs_tree c.args.funcs.now in
    let line = c.args.line in
    let env = env_shown c.args.env in
    let a = rows_tree c.in-Par.left in
    let b = rows_tree c.in-Par.right in
    let count : c.len-visible.result ≡ length c.args.env.items = grind (arith, common_steps) in
    let visible = count ∙ sym (length-map c.args.env.items entry_shown) in
    let passed = ap (λ es. branches_refusal line a b (entries_shown es)) (sym c.deref-in-Par.ensures.value) ∙ c.in_ok-want_branches_apart-in-Par.ensures in
    let same = copied (env_shown c.in_ok-forked-in-Par.forked) c.deref-in-Par-2.result.now c.args.env.items c.in_ok-forked-in-Par.ensures c.deref-in-Par-2.ensures.value in
    let whole = ap (λ k. walk p line (stmt_tree k) env) c.in-Par.is in
    let both =
    ap (λ es. held_in_both (entries_shown es) (env_shown c.in_ok-right-in-Par.right)) (sym c.deref-in-Par-3.ensures.value)
    ∙ ap (λ es. held_in_both (entries_shown c.deref-in-Par-3.result.now) (entries_shown es)) (sym c.deref-in-Par-4.ensures.value) in
    subst (λ (w : Result Environment Refusal). Walks env_shown c.held_in_both.result w)
    (sym
    (whole
    ∙ walked_par c.len-visible.result env (env_shown c.in_ok-forked-in-Par.forked) (env_shown c.in_ok-left-in-Par.left) (env_shown c.in_ok-right-in-Par.right) (branches_refusal line a b env) (walk_all p a) (walk_all p b) visible passed same c.in_ok-left-in-Par.ensures c.in_ok-right-in-Par.ensures
    ∙ ap (λ (v : Environment). Ok v) both))
    c.held_in_both.ensures

pub check_statement-returns-in_ok-end-in-Split : goal.check_statement-returns-in_ok-end-in-Split
check_statement-returns-in_ok-end-in-Split t c =
    let p = funcs_tree c.args.funcs.now in
    let line = c.args.line in
    let env = env_shown c.args.env in
    let b = name_tree c.in-Split.block in
    let l = name_tree c.in-Split.left in
    let r = name_tree c.in-Split.right in
    let count : c.len-visible.result ≡ length c.args.env.items = grind (arith, common_steps) in
    let visible = count ∙ sym (length-map c.args.env.items entry_shown) in
    let whole = ap (λ k. walk p line (stmt_tree k) env) c.in-Split.is in
    subst (λ (w : Result Environment Refusal). Walks env_shown c.after_split.result w)
    (sym
    (whole
    ∙ walked_split (length env) c.len-visible.result b (opened env b l r line) (env_shown c.in_ok-env-in-Split.env) (env_shown c.in_ok-end-in-Split.end) (block_refusal line env b) (expr_refusal line env (expr_tree c.in-Split.at)) (fresh_refusal line env l) (fresh_refusal line (with_entry env (lent_entry l line)) r) (walk_all p (rows_tree c.in-Split.body)) visible c.in_ok-env-in-Split.ensures c.in_ok-end-in-Split.ensures))
    c.after_split.ensures

pub check_statement-returns-in_err-env-in-If : goal.check_statement-returns-in_err-env-in-If
check_statement-returns-in_err-env-in-If t c =
    let p = funcs_tree c.args.funcs.now in
    let line = c.args.line in
    let env = env_shown c.args.env in
    let count : c.len-visible.result ≡ length c.args.env.items = grind (arith, common_steps) in
    let visible = count ∙ sym (length-map c.args.env.items entry_shown) in
    let passed = ap (λ es. expr_refusal line (entries_shown es) (expr_tree c.in-If.cond)) (sym c.deref-in-If.ensures.value) ∙ c.in_ok-check_expression-in-If.ensures in
    let whole = ap (λ k. walk p line (stmt_tree k) env) c.in-If.is in
    let err = err_from_is_err_and c.from_residual-in_err-env-in-If.result c.from_residual-in_err-env-in-If.ensures.1 in
    refused env_shown env_shown c.from_residual-in_err-env-in-If.result c.in_err-env-in-If.field-0.0 err.0 (ended c.len-visible.result (walk_all p (rows_tree c.in-If.then) env)) (walk p line (stmt_tree c.args.kind.now) env) err.1 err.2
    (λ q e. whole ∙ refused_then c.len-visible.result env visible (expr_refusal line env (expr_tree c.in-If.cond)) passed (walk_all p (rows_tree c.in-If.then)) (walk_all p (rows_tree c.in-If.other)) q line e)
    c.in_err-env-in-If.ensures

pub check_statement-returns-in_err-other-in-If : goal.check_statement-returns-in_err-other-in-If
check_statement-returns-in_err-other-in-If t c =
    let p = funcs_tree c.args.funcs.now in
    let line = c.args.line in
    let env = env_shown c.args.env in
    let count : c.len-visible.result ≡ length c.args.env.items = grind (arith, common_steps) in
    let visible = count ∙ sym (length-map c.args.env.items entry_shown) in
    let passed = ap (λ es. expr_refusal line (entries_shown es) (expr_tree c.in-If.cond)) (sym c.deref-in-If.ensures.value) ∙ c.in_ok-check_expression-in-If.ensures in
    let same = copied (env_shown c.in_ok-saved-in-If.saved) c.deref-in-If-2.result.now c.args.env.items c.in_ok-saved-in-If.ensures c.deref-in-If-2.ensures.value in
    let whole = ap (λ k. walk p line (stmt_tree k) env) c.in-If.is in
    let err = err_from_is_err_and c.from_residual-in_err-other-in-If.result c.from_residual-in_err-other-in-If.ensures.1 in
    refused env_shown env_shown c.from_residual-in_err-other-in-If.result c.in_err-other-in-If.field-0.0 err.0 (ended c.len-visible.result (walk_all p (rows_tree c.in-If.other) (env_shown c.in_ok-saved-in-If.saved))) (walk p line (stmt_tree c.args.kind.now) env) err.1 err.2
    (λ q e. whole ∙ refused_else c.len-visible.result env visible (expr_refusal line env (expr_tree c.in-If.cond)) passed (walk_all p (rows_tree c.in-If.then)) (walk_all p (rows_tree c.in-If.other)) q line (env_shown c.in_ok-saved-in-If.saved) (env_shown c.in_ok-env-in-If.env) same c.in_ok-env-in-If.ensures e)
    c.in_err-other-in-If.ensures

pub check_statement-returns-in_err-end-in-While : goal.check_statement-returns-in_err-end-in-While
check_statement-returns-in_err-end-in-While t c =
    let p = funcs_tree c.args.funcs.now in
    let line = c.args.line in
    let env = env_shown c.args.env in
    let count : c.len-visible.result ≡ length c.args.env.items = grind (arith, common_steps) in
    let visible = count ∙ sym (length-map c.args.env.items entry_shown) in
    let passed = ap (λ es. expr_refusal line (entries_shown es) (expr_tree c.in-While.cond)) (sym c.deref-in-While.ensures.value) ∙ c.in_ok-check_expression-in-While.ensures in
    let same = copied (env_shown c.in_ok-round-in-While.round) c.deref-in-While-2.result.now c.args.env.items c.in_ok-round-in-While.ensures c.deref-in-While-2.ensures.value in
    let whole = ap (λ k. walk p line (stmt_tree k) env) c.in-While.is in
    let err = err_from_is_err_and c.from_residual-in_err-end-in-While.result c.from_residual-in_err-end-in-While.ensures.1 in
    refused env_shown env_shown c.from_residual-in_err-end-in-While.result c.in_err-end-in-While.field-0.0 err.0 (ended c.len-visible.result (walk_all p (rows_tree c.in-While.body) (env_shown c.in_ok-round-in-While.round))) (walk p line (stmt_tree c.args.kind.now) env) err.1 err.2
    (λ q e. whole ∙ refused_round c.len-visible.result env visible (expr_refusal line env (expr_tree c.in-While.cond)) passed (walk_all p (rows_tree c.in-While.body)) (walk_all p (rows_tree c.in-While.body)) q line (env_shown c.in_ok-round-in-While.round) same e)
    c.in_err-end-in-While.ensures

pub check_statement-returns-in_err-left-in-Par : goal.check_statement-returns-in_err-left-in-Par
check_statement-returns-in_err-left-in-Par t c =
    let p = funcs_tree c.args.funcs.now in
    let line = c.args.line in
    let env = env_shown c.args.env in
    let count : c.len-visible.result ≡ length c.args.env.items = grind (arith, common_steps) in
    let visible = count ∙ sym (length-map c.args.env.items entry_shown) in
    let a = rows_tree c.in-Par.left in
    let b = rows_tree c.in-Par.right in
    let passed = ap (λ es. branches_refusal line a b (entries_shown es)) (sym c.deref-in-Par.ensures.value) ∙ c.in_ok-want_branches_apart-in-Par.ensures in
    let same = copied (env_shown c.in_ok-forked-in-Par.forked) c.deref-in-Par-2.result.now c.args.env.items c.in_ok-forked-in-Par.ensures c.deref-in-Par-2.ensures.value in
    let whole = ap (λ k. walk p line (stmt_tree k) env) c.in-Par.is in
    let err = err_from_is_err_and c.from_residual-in_err-left-in-Par.result c.from_residual-in_err-left-in-Par.ensures.1 in
    refused env_shown env_shown c.from_residual-in_err-left-in-Par.result c.in_err-left-in-Par.field-0.0 err.0 (ended c.len-visible.result (walk_all p a (env_shown c.in_ok-forked-in-Par.forked))) (walk p line (stmt_tree c.args.kind.now) env) err.1 err.2
    (λ q e. whole ∙ refused_left c.len-visible.result env visible (branches_refusal line a b env) passed (walk_all p a) (walk_all p b) q (env_shown c.in_ok-forked-in-Par.forked) same e)
    c.in_err-left-in-Par.ensures

pub check_statement-returns-in_err-right-in-Par : goal.check_statement-returns-in_err-right-in-Par
check_statement-returns-in_err-right-in-Par t c =
    let p = funcs_tree c.args.funcs.now in
    let line = c.args.line in
    let env = env_shown c.args.env in
    let count : c.len-visible.result ≡ length c.args.env.items = grind (arith, common_steps) in
    let visible = count ∙ sym (length-map c.args.env.items entry_shown) in
    let a = rows_tree c.in-Par.left in
    let b = rows_tree c.in-Par.right in
    let passed = ap (λ es. branches_refusal line a b (entries_shown es)) (sym c.deref-in-Par.ensures.value) ∙ c.in_ok-want_branches_apart-in-Par.ensures in
    let same = copied (env_shown c.in_ok-forked-in-Par.forked) c.deref-in-Par-2.result.now c.args.env.items c.in_ok-forked-in-Par.ensures c.deref-in-Par-2.ensures.value in
    let whole = ap (λ k. walk p line (stmt_tree k) env) c.in-Par.is in
    let err = err_from_is_err_and c.from_residual-in_err-right-in-Par.result c.from_residual-in_err-right-in-Par.ensures.1 in
    refused env_shown env_shown c.from_residual-in_err-right-in-Par.result c.in_err-right-in-Par.field-0.0 err.0 (ended c.len-visible.result (walk_all p b env)) (walk p line (stmt_tree c.args.kind.now) env) err.1 err.2
    (λ q e. whole ∙ refused_right c.len-visible.result env visible (branches_refusal line a b env) passed (walk_all p a) (walk_all p b) q (env_shown c.in_ok-forked-in-Par.forked) (env_shown c.in_ok-left-in-Par.left) same c.in_ok-left-in-Par.ensures e)
    c.in_err-right-in-Par.ensures

pub check_statement-returns-in_err-end-in-Split : goal.check_statement-returns-in_err-end-in-Split
check_statement-returns-in_err-end-in-Split t c =
    let p = funcs_tree c.args.funcs.now in
    let line = c.args.line in
    let env = env_shown c.args.env in
    let count : c.len-visible.result ≡ length c.args.env.items = grind (arith, common_steps) in
    let visible = count ∙ sym (length-map c.args.env.items entry_shown) in
    let b = name_tree c.in-Split.block in
    let l = name_tree c.in-Split.left in
    let r = name_tree c.in-Split.right in
    let whole = ap (λ k. walk p line (stmt_tree k) env) c.in-Split.is in
    let err = err_from_is_err_and c.from_residual-in_err-end-in-Split.result c.from_residual-in_err-end-in-Split.ensures.1 in
    refused env_shown env_shown c.from_residual-in_err-end-in-Split.result c.in_err-end-in-Split.field-0.0 err.0 (ended c.len-visible.result (walk_all p (rows_tree c.in-Split.body) (env_shown c.in_ok-env-in-Split.env))) (walk p line (stmt_tree c.args.kind.now) env) err.1 err.2
    (λ q e. whole ∙ refused_body (length env) c.len-visible.result b (opened env b l r line) (env_shown c.in_ok-env-in-Split.env) (block_refusal line env b) (expr_refusal line env (expr_tree c.in-Split.at)) (fresh_refusal line env l) (fresh_refusal line (with_entry env (lent_entry l line)) r) (walk_all p (rows_tree c.in-Split.body)) q visible c.in_ok-env-in-Split.ensures e)
    c.in_err-end-in-Split.ensures

pub check_statements-returns-in_err-env : goal.check_statements-returns-in_err-env
check_statements-returns-in_err-env t c =
    let p = funcs_tree c.args.funcs.now in
    let now = env_shown c.loop-stmt.env in
    let s = c.stmt-item.result in
    let rest = body_tree (drop (c.loop-stmt.stmt-index + 1) c.args.body.now) in
    let front = ap (λ b. walk_all p (body_tree b) now) (drop_item c.args.body.now c.loop-stmt.stmt-index s c.loop-stmt-test.true c.stmt-item.is) in
    let err = err_from_is_err_and c.from_residual.result c.from_residual.ensures.1 in
    refused env_shown env_shown c.from_residual.result c.in_err-env.field-0.0 err.0 (walk p s.line (stmt_tree s.kind) now) (walk_all p (body_tree c.args.body.now) (env_shown c.args.env)) err.1 err.2
    (λ q e. sym c.loop-stmt.invariant ∙ front ∙ ap (λ (r : Result Environment Refusal). then_walk r (walk_all p rest)) e)
    c.in_err-env.ensures
