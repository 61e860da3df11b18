use Rattle.std.proofs.Common.{◌≡◌, ◌<◌, ◌+◌, ◌-◌, List, ◌++◌, drop, length, Ok, arith, sym, ap, subst, ◌∙◌}
use Rattle.std.specs.Prelude.{slice_get}
use Rattle.std.proofs.lemmas.Grind.{common_steps}
use Rattle.std.proofs.lemmas.List.{length-map}
use Rattle.par_tree.specs.Tree.{Body}
use Rattle.par_tree.specs.View.{name_tree, stmt_tree, body_tree}
use Rattle.par_ownership.specs.Environment.{Environment}
use Rattle.block_check.specs.Shown.{entry_shown, env_shown}
use Rattle.par_names.specs.Rows.{rows_tree}
use Rattle.block_check.specs.Forks.{Fork, declared_by, split_names, forks_in_stmt, forks_in_body}
use Rattle.block_check.specs.Sought.{Seeks}
use Rattle.block_check.specs.declared.sought.Sought.TheVariants.{Found}
use Rattle.par_names.proofs.Rows.{body_is}
use Rattle.block_check.proofs.Compound.{same_ok}
use Rattle.block_check.proofs.Seeking.{seeks_first, seeks_second, seeks_next, drop_item, goes_left, ends_left, passed_parts}
use Rattle.block_check.proofs.search.+seek.Goals as goal

pub seek-returns : goal.seek-returns
seek-returns t c =
    let same = ap body_tree c.deref.ensures.value ∙ sym (body_is c.args.body.now) in
    let env = env_shown c.args.names in
    subst (λ (b : Body). Seeks (forks_in_body env b) c.args.number env c.seek_in_list.result) same c.seek_in_list.ensures

pub seek_in_statement-returns-in-Found : goal.seek_in_statement-returns-in-Found
seek_in_statement-returns-in-Found t c =
    let env = env_shown c.args.names in
    let whole = ap (λ k. forks_in_stmt env c.args.line (stmt_tree k)) c.in-If.is in
    ap (λ (fs : List Fork). slice_get fs c.args.number) whole
    ∙ seeks_first (forks_in_body env (rows_tree c.in-If.then)) (forks_in_body env (rows_tree c.in-If.other)) c.args.number env c.in-Found.fork c.in_ok-fork-in-If.field-0 c.in-Found.is c.in_ok-fork-in-If.ensures

pub seek_in_statement-returns-in-Passed : goal.seek_in_statement-returns-in-Passed
seek_in_statement-returns-in-Passed t c =
    let env = env_shown c.args.names in
    let whole = ap (λ k. forks_in_stmt env c.args.line (stmt_tree k)) c.in-If.is in
    subst (λ (fs : List Fork). Seeks fs c.args.number env c.seek-in-Passed.result) (sym whole)
    (seeks_second (forks_in_body env (rows_tree c.in-If.then)) (λ v. forks_in_body v (rows_tree c.in-If.other)) c.args.number c.in-Passed.number env c.in-Passed.names c.in_ok-fork-in-If.field-0 c.seek-in-Passed.result c.in-Passed.is c.in_ok-fork-in-If.ensures c.seek-in-Passed.ensures)

pub seek_in_statement-returns-in-Found-2 : goal.seek_in_statement-returns-in-Found-2
seek_in_statement-returns-in-Found-2 t c =
    let env = env_shown c.args.names in
    let left = forks_in_body env (rows_tree c.in-Par.left) in
    let right = forks_in_body env (rows_tree c.in-Par.right) in
    let here : Fork = record { names = env; left = rows_tree c.in-Par.left; right = rows_tree c.in-Par.right } in
    let whole = ap (λ k. forks_in_stmt env c.args.line (stmt_tree k)) c.in-Par.is in
    let some : 0 < c.args.number = omega (arith, c.if-number-eq0.false) in
    ap (λ (fs : List Fork). slice_get fs c.args.number) whole
    ∙ seeks_next here (left ++ right) c.args.number env (Ok (Found c.in-Found-2.fork)) some
    (seeks_first left right (c.args.number - 1) env c.in-Found-2.fork c.in_ok-fork-in-Par.field-0 c.in-Found-2.is c.in_ok-fork-in-Par.ensures)

pub seek_in_statement-returns-in-Passed-2 : goal.seek_in_statement-returns-in-Passed-2
seek_in_statement-returns-in-Passed-2 t c =
    let env = env_shown c.args.names in
    let left = forks_in_body env (rows_tree c.in-Par.left) in
    let here : Fork = record { names = env; left = rows_tree c.in-Par.left; right = rows_tree c.in-Par.right } in
    let whole = ap (λ k. forks_in_stmt env c.args.line (stmt_tree k)) c.in-Par.is in
    let some : 0 < c.args.number = omega (arith, c.if-number-eq0.false) in
    subst (λ (fs : List Fork). Seeks fs c.args.number env c.seek-in-Passed-2.result) (sym whole)
    (seeks_next here (left ++ forks_in_body env (rows_tree c.in-Par.right)) c.args.number env c.seek-in-Passed-2.result some
    (seeks_second left (λ v. forks_in_body v (rows_tree c.in-Par.right)) (c.args.number - 1) c.in-Passed-2.number env c.in-Passed-2.names c.in_ok-fork-in-Par.field-0 c.seek-in-Passed-2.result c.in-Passed-2.is c.in_ok-fork-in-Par.ensures c.seek-in-Passed-2.ensures))

pub seek_in_statement-returns-in-Passed-3 : goal.seek_in_statement-returns-in-Passed-3
seek_in_statement-returns-in-Passed-3 t c =
    let env = env_shown c.args.names in
    let inner = env_shown c.in_ok-inner-in-Split.inner in
    let l = name_tree c.in-Split.left in
    let r = name_tree c.in-Split.right in
    let whole = ap (λ k. forks_in_stmt env c.args.line (stmt_tree k)) c.in-Split.is in
    let count : c.len-visible.result ≡ length c.args.names.items = grind (arith, common_steps) in
    let visible = count ∙ sym (length-map c.args.names.items entry_shown) in
    let parts = same_ok (split_names env c.args.line l r) inner c.in_ok-inner-in-Split.ensures in
    passed_parts (rows_tree c.in-Split.body) (forks_in_stmt env c.args.line (stmt_tree c.args.kind.now)) c.args.line l r c.args.number c.in-Passed-3.number c.len-visible.result env inner c.in-Passed-3.names c.truncate.new.self c.in_ok-fork-in-Split.field-0 whole parts visible c.in-Passed-3.is c.in_ok-fork-in-Split.ensures c.truncate.ensures.items

pub seek_in_list-returns-in-Found : goal.seek_in_list-returns-in-Found
seek_in_list-returns-in-Found t c =
    let now = env_shown c.loop-stmt.names in
    let s = c.stmt-item.result in
    let rest = ap (λ b. forks_in_body now (body_tree b)) (drop_item c.args.body.now c.loop-stmt.stmt-index s c.loop-stmt-test.true c.stmt-item.is) in
    c.loop-stmt.invariant.same
    ∙ ap (λ (fs : List Fork). slice_get fs c.loop-stmt.number) rest
    ∙ seeks_first (forks_in_stmt now s.line (stmt_tree s.kind)) (forks_in_body (declared_by now s.line (stmt_tree s.kind)) (body_tree (drop (c.loop-stmt.stmt-index + 1) c.args.body.now))) c.loop-stmt.number now c.in-Found.fork c.in_ok-fork.field-0 c.in-Found.is c.in_ok-fork.ensures

pub seek_in_list-loop-stmt-preserved : goal.seek_in_list-loop-stmt-preserved
seek_in_list-loop-stmt-preserved t c =
    let now = env_shown c.loop-stmt.names in
    let s = c.stmt-item.result in
    let rest = ap (λ b. forks_in_body now (body_tree b)) (drop_item c.args.body.now c.loop-stmt.stmt-index s c.loop-stmt-test.true c.stmt-item.is) in
    let declared = same_ok (declared_by (env_shown c.in-Passed.passed) s.line (stmt_tree s.kind)) (env_shown c.in_ok-names-in-Passed.names) c.in_ok-names-in-Passed.ensures in
    let i = c.loop-stmt.stmt-index in
    let new = env_shown c.in_ok-names-in-Passed.names in
    goes_left c.len-visible.result (env_shown c.args.names) now new (forks_in_body (env_shown c.args.names) (body_tree c.args.body.now)) (forks_in_body now (body_tree (drop i c.args.body.now))) (forks_in_stmt now s.line (stmt_tree s.kind)) (forks_in_body (declared_by now s.line (stmt_tree s.kind)) (body_tree (drop (i + 1) c.args.body.now))) (forks_in_body new (body_tree (drop (i + 1) c.args.body.now))) c.args.number c.loop-stmt.number c.in-Passed.left s.line (stmt_tree s.kind) c.in-Passed.passed c.in_ok-fork.field-0 c.loop-stmt.invariant rest c.in-Passed.is c.in_ok-fork.ensures declared
    (λ e. ap (λ (v : Environment). forks_in_body v (body_tree (drop (i + 1) c.args.body.now))) e)

pub seek_in_list-returns : goal.seek_in_list-returns
seek_in_list-returns t c =
    ends_left c.len-visible.result (env_shown c.args.names) (forks_in_body (env_shown c.args.names) (body_tree c.args.body.now)) c.args.number c.loop-stmt.number c.loop-stmt.names c.truncate.new.self c.args.body.now c.loop-stmt.stmt-index c.loop-stmt.invariant c.loop-stmt-test.false c.truncate.ensures.items
