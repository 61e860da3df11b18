-- The `(` of the canonical text of statements are at most as many as those of the tokens that they were read from.
use Rattle.std.proofs.Common.{◌≡◌, ℕ, zero, suc, ◌+◌, ◌≤◌, List, [], ◌∷◌, ◌++◌, map, refl, ap, ◌∙◌, arith}
use Rattle.std.specs.Prelude.{Option, Some, None, codes}
use Rattle.std.specs.List.{flat_map}
use Rattle.par_tree.specs.Tree.{Name, Expr, block, Arg, Stmt, put_stmt, if_stmt, while_stmt, call_stmt, par_stmt, split_stmt, Body, done, step}
use Rattle.par_text.specs.Rule.{statements}
use Rattle.par_text.specs.Text.{Nested, nested_spelling, nested_meaning}
use Rattle.par_text.specs.Grammar.{body_rule, named_value, let_rule, alloc_rule, free_rule, print_rule, written, written_value, write_rule, else_rule, if_rule, while_rule, arg_rule, next_arg, more_args, arg_list, args_rule, answering, callee_rule, owning_call, plain_call, any_call, call_rule, par_rule, parts_rule, split_rule, stmt_rule, stmts_rule}
use Rattle.canonical_text.specs.Canonical.{expr_text, behind_comma, with_commas, line_end, deeper, braces, else_text, arg_text, stmt_text, body_text}
use Rattle.canonical_text.proofs.Openings.{opened, opened-append}
use Rattle.canonical_text.proofs.Weights.{weight, Weighs, free, weigh_free, weigh_name, weigh_name_token, weigh_mapped, weigh_pair, weigh_second, weigh_first, weigh_either, weigh_nothing, weigh_many, weigh_nest}
use Rattle.canonical_text.proofs.ParenthesisExpressions.{opened_index, Inside, weigh_expression, weigh_index, weigh_expr}

-- texts put together

-- two texts with bytes between them that have no `(`, where the last of these is given as it stands
pub between : (u middle v : List ℕ) → opened middle ≡ 0 → opened (u ++ (middle ++ v)) ≡ opened u + opened v
between u middle v none = let a = opened-append u (middle ++ v) in let b = opened-append middle v in omega (arith, a, b, none)

pub before : (middle v : List ℕ) → opened middle ≡ 0 → opened (middle ++ v) ≡ opened v
before middle v none = let b = opened-append middle v in omega (arith, b, none)

pub behind : (u middle : List ℕ) → opened middle ≡ 0 → opened (u ++ middle) ≡ opened u
behind u middle none = let b = opened-append u middle in omega (arith, b, none)

-- lists

abbrev pub opened_texts : List (List ℕ) → ℕ
opened_texts [] = 0
opened_texts (text ∷ texts) = opened text + opened_texts texts

commas_open : (texts : List (List ℕ)) → opened (flat_map behind_comma texts) ≡ opened_texts texts
commas_open [] = refl
commas_open (text ∷ texts) =
    let a = opened-append (codes ", " ++ text) (flat_map behind_comma texts) in
    let b = before (codes ", ") text refl in
    let rest = commas_open texts in
    omega (arith, a, b, rest)

pub with_commas_opens : (texts : List (List ℕ)) → opened (with_commas texts) ≡ opened_texts texts
with_commas_opens [] = refl
with_commas_opens (text ∷ texts) = let a = opened-append text (flat_map behind_comma texts) in let rest = commas_open texts in omega (arith, a, rest)

-- braces

pub braces_open : (margin inner : List ℕ) → opened margin ≡ 0 → opened (braces margin inner) ≡ opened inner
braces_open margin inner plain =
    let a = opened-append inner (margin ++ codes "}") in
    let b = before margin (codes "}") plain in
    omega (arith, a, b)

pub deeper_plain : (margin : List ℕ) → opened margin ≡ 0 → opened (deeper margin) ≡ 0
deeper_plain margin plain = behind margin (codes "  ") refl ∙ plain

else_opens : (margin : List ℕ) (b : Body) (inner : List ℕ) → opened margin ≡ 0 → opened (else_text margin b inner) ≤ opened inner
else_opens margin done inner plain = omega arith
else_opens margin (step line s rest) inner plain = let a = braces_open margin inner plain in omega (arith, a)

module _ {size : ℕ} (inside : Inside size) (margin : List ℕ) (plain : opened margin ≡ 0)
    (bodies : (depth : ℕ) (d : Nested size statements) → opened (body_text (deeper margin) (nested_meaning size statements d)) ≤ weight (nested_spelling size depth statements d)) where
  abbrev opened_inner : Body → ℕ
  opened_inner b = opened (body_text (deeper margin) b)

  abbrev opened_stmt : ℕ × Stmt → ℕ
  opened_stmt v = opened (stmt_text margin v.1)

  abbrev opened_value : Name × Expr → ℕ
  opened_value v = opened v.0 + opened (expr_text v.1)

  weigh_body : Weighs size body_rule opened_inner
  unfolding body_rule
  weigh_body = weigh_nest {ca = opened_inner} (λ b. omega arith) (weigh_first (record { weighs = λ depth d. bodies depth d }))

  weigh_named_value : Weighs size named_value opened_value
  unfolding named_value
  weigh_named_value = weigh_pair (λ x e. omega arith) weigh_name (weigh_first (weigh_second (weigh_expr inside)))

  value_opens : (x : Name) (e : Expr) → opened (x ++ (codes " = " ++ (expr_text e ++ codes ";"))) ≡ opened x + opened (expr_text e)
  value_opens x e = between x (codes " = ") (expr_text e ++ codes ";") refl ∙ ap (λ n. opened x + n) (behind (expr_text e) (codes ";") refl)

  weigh_let : Weighs size let_rule opened_stmt
  unfolding let_rule
  weigh_let = weigh_pair {ca = free} {cb = opened_value} (λ t v. let a = value_opens v.0 v.1 in omega (arith, a)) (weigh_free _) weigh_named_value

  weigh_alloc : Weighs size alloc_rule opened_stmt
  unfolding alloc_rule
  weigh_alloc = weigh_pair {ca = free} {cb = opened_value} (λ t v. let a = value_opens v.0 v.1 in omega (arith, a)) (weigh_free _) weigh_named_value

  weigh_release : Weighs size free_rule opened_stmt
  unfolding free_rule
  weigh_release = weigh_pair {ca = free} {cb = opened} (λ t x. let a = behind x (codes ";") refl in omega (arith, a)) (weigh_free _) (weigh_first weigh_name)

  weigh_print : Weighs size print_rule opened_stmt
  unfolding print_rule
  weigh_print =
      weigh_pair {ca = free} {cb = λ e. opened (expr_text e)} (λ t e. let a = behind (expr_text e) (codes ";") refl in omega (arith, a)) (weigh_free _)
      (weigh_first (weigh_expr inside))

  abbrev opened_write : Option Expr × Expr → ℕ
  opened_write v = opened_index v.0 + opened (expr_text v.1)

  put_opens : (b : Name) (i e : Expr) → opened (stmt_text margin (put_stmt b i e)) ≡ opened b + (opened (expr_text i) + opened (expr_text e))
  put_opens b i e =
      between b (codes "[") (expr_text i ++ (codes "] = " ++ (expr_text e ++ codes ";"))) refl
      ∙ ap (λ n. opened b + n) (between (expr_text i) (codes "] = ") (expr_text e ++ codes ";") refl ∙ ap (λ n. opened (expr_text i) + n) (behind (expr_text e) (codes ";") refl))

  written_opens : (x : Name) (v : Option Expr × Expr) → opened (stmt_text margin (written x v)) ≤ opened x + opened_write v
  written_opens x (None, e) = let a = value_opens x e in omega (arith, a)
  written_opens x (Some i, e) = let a = put_opens x i e in omega (arith, a)

  weigh_write : Weighs size write_rule opened_stmt
  unfolding write_rule written_value
  weigh_write =
      weigh_pair {cb = opened_write} (λ t v. written_opens t.bytes v) weigh_name_token
      (weigh_pair (λ i e. omega arith) (weigh_index inside) (weigh_first (weigh_second (weigh_expr inside))))

  weigh_else : Weighs size else_rule opened_inner
  unfolding else_rule
  weigh_else = weigh_either (weigh_second weigh_body) (weigh_nothing (omega arith))

  if_opens : (e : Expr) (a b : Body) → opened (stmt_text margin (if_stmt e a b)) ≤ opened (expr_text e) + (opened_inner a + opened_inner b)
  if_opens e a b =
      let whole = between (expr_text e) (codes " ") (braces margin (body_text (deeper margin) a) ++ else_text margin b (body_text (deeper margin) b)) refl in
      let arms = opened-append (braces margin (body_text (deeper margin) a)) (else_text margin b (body_text (deeper margin) b)) in
      let first = braces_open margin (body_text (deeper margin) a) plain in
      let second = else_opens margin b (body_text (deeper margin) b) plain in
      omega (arith, whole, arms, first, second)

  weigh_if : Weighs size if_rule opened_stmt
  unfolding if_rule
  weigh_if =
      weigh_pair {ca = free} {cb = λ v. opened (expr_text v.0) + (opened_inner v.1.0 + opened_inner v.1.1)} (λ t v. let a = if_opens v.0 v.1.0 v.1.1 in omega (arith, a)) (weigh_free _)
      (weigh_pair {cb = λ v. opened_inner v.0 + opened_inner v.1} (λ e v. omega arith) (weigh_expr inside) (weigh_pair (λ a b. omega arith) weigh_body weigh_else))

  loop_opens : (e : Expr) (a : Body) → opened (stmt_text margin (while_stmt e a)) ≤ opened (expr_text e) + opened_inner a
  loop_opens e a =
      let whole = between (expr_text e) (codes " ") (braces margin (body_text (deeper margin) a)) refl in
      let first = braces_open margin (body_text (deeper margin) a) plain in
      omega (arith, whole, first)

  weigh_while : Weighs size while_rule opened_stmt
  unfolding while_rule
  weigh_while =
      weigh_pair {ca = free} {cb = λ v. opened (expr_text v.0) + opened_inner v.1} (λ t v. let a = loop_opens v.0 v.1 in omega (arith, a)) (weigh_free _)
      (weigh_pair (λ e a. omega arith) (weigh_expr inside) weigh_body)

  -- calls

  abbrev opened_args : List Arg → ℕ
  opened_args xs = opened (with_commas (map arg_text xs))

  weigh_arg : Weighs size arg_rule (λ a. opened (arg_text a))
  unfolding arg_rule
  weigh_arg =
      weigh_either (weigh_second (weigh_mapped {ca = opened} (λ b. omega arith) weigh_name))
      (weigh_either (weigh_second (weigh_mapped {ca = opened} (λ b. omega arith) weigh_name))
      (weigh_expression inside (λ e. omega arith)))

  abbrev opened_each : List Arg → ℕ
  opened_each xs = opened_texts (map arg_text xs)

  weigh_more_args : Weighs size more_args opened_each
  unfolding more_args next_arg
  weigh_more_args = weigh_many (omega arith) (λ a xs. omega arith) (weigh_second weigh_arg)

  weigh_args : Weighs size args_rule (λ xs. 1 + opened_args xs)
  unfolding args_rule arg_list
  weigh_args =
      weigh_nest {ca = opened_each} (λ xs. let a = with_commas_opens (map arg_text xs) in omega (arith, a))
      (weigh_first (weigh_either (weigh_pair (λ a xs. omega arith) weigh_arg weigh_more_args) (weigh_nothing (omega arith))))

  list_opens : (f : Name) (xs : List Arg) → opened (f ++ (codes "(" ++ (with_commas (map arg_text xs) ++ codes ");"))) ≡ opened f + (1 + opened_args xs)
  list_opens f xs =
      let a = opened-append f (codes "(" ++ (with_commas (map arg_text xs) ++ codes ");")) in
      let b = behind (with_commas (map arg_text xs)) (codes ");") refl in
      omega (arith, a, b)

  abbrev opened_name : Option Name → ℕ
  opened_name None = 0
  opened_name (Some x) = opened x

  answering_opens : (x : Name) (v : Option Name × List Arg) → opened (stmt_text margin (answering x v)) ≤ opened x + (opened_name v.0 + (1 + opened_args v.1))
  answering_opens f (None, xs) = let a = list_opens f xs in omega (arith, a)
  answering_opens x (Some f, xs) =
      let a = opened-append (x ++ codes " = ") (f ++ (codes "(" ++ (with_commas (map arg_text xs) ++ codes ");"))) in
      let b = behind x (codes " = ") refl in
      let c = list_opens f xs in
      omega (arith, a, b, c)

  owning_opens : (x f : Name) (xs : List Arg) → opened (stmt_text margin (call_stmt (block x) f xs)) ≤ opened x + (opened f + (1 + opened_args xs))
  owning_opens x f xs =
      let a = opened-append (codes "own " ++ (x ++ codes " = ")) (f ++ (codes "(" ++ (with_commas (map arg_text xs) ++ codes ");"))) in
      let b = behind x (codes " = ") refl in
      let c = list_opens f xs in
      omega (arith, a, b, c)

  weigh_any_call : Weighs size any_call (λ s. opened (stmt_text margin s))
  unfolding any_call owning_call plain_call callee_rule
  weigh_any_call =
      weigh_either
      (weigh_second (weigh_pair {cb = λ c. opened c.0 + (1 + opened_args c.1)} (λ x c. owning_opens x c.0 c.1) weigh_name
      (weigh_second (weigh_pair (λ f xs. omega arith) weigh_name weigh_args))))
      (weigh_pair {cb = λ v. opened_name v.0 + (1 + opened_args v.1)} answering_opens weigh_name
      (weigh_pair {ca = opened_name} (λ o xs. omega arith)
      (weigh_either (weigh_second (weigh_mapped {ca = opened} (λ x. omega arith) weigh_name)) (weigh_nothing (omega arith))) weigh_args))

  weigh_call : Weighs size call_rule opened_stmt
  unfolding call_rule
  weigh_call = weigh_pair {ca = free} {cb = λ s. opened (stmt_text margin s)} (λ t s. omega arith) (weigh_free _) (weigh_first weigh_any_call)

  par_opens : (a b : Body) → opened (stmt_text margin (par_stmt a b)) ≤ opened_inner a + opened_inner b
  par_opens a b =
      let whole = between (braces margin (body_text (deeper margin) a)) (codes " and ") (braces margin (body_text (deeper margin) b)) refl in
      let first = braces_open margin (body_text (deeper margin) a) plain in
      let second = braces_open margin (body_text (deeper margin) b) plain in
      omega (arith, whole, first, second)

  weigh_par : Weighs size par_rule opened_stmt
  unfolding par_rule
  weigh_par =
      weigh_pair {ca = free} {cb = λ v. opened_inner v.0 + opened_inner v.1} (λ t v. let a = par_opens v.0 v.1 in omega (arith, a)) (weigh_free _)
      (weigh_pair (λ a b. omega arith) weigh_body (weigh_second weigh_body))

  split_opens : (b : Name) (e : Expr) (l r : Name) (a : Body) → opened (stmt_text margin (split_stmt b e l r a)) ≤ opened b + (opened (expr_text e) + ((opened l + opened r) + opened_inner a))
  split_opens b e l r a =
      let inner = braces margin (body_text (deeper margin) a) in
      let w = between b (codes " at ") (expr_text e ++ (codes " into " ++ (l ++ (codes ", " ++ (r ++ (codes " " ++ inner)))))) refl in
      let x = between (expr_text e) (codes " into ") (l ++ (codes ", " ++ (r ++ (codes " " ++ inner)))) refl in
      let y = between l (codes ", ") (r ++ (codes " " ++ inner)) refl in
      let z = between r (codes " ") inner refl in
      let first = braces_open margin (body_text (deeper margin) a) plain in
      omega (arith, w, x, y, z, first)

  abbrev opened_parts : Name × Name → ℕ
  opened_parts v = opened v.0 + opened v.1

  weigh_parts : Weighs size parts_rule opened_parts
  unfolding parts_rule
  weigh_parts = weigh_pair (λ l r. omega arith) weigh_name (weigh_second weigh_name)

  weigh_split : Weighs size split_rule opened_stmt
  unfolding split_rule
  weigh_split =
      weigh_pair {ca = free} {cb = λ v. opened v.0 + (opened (expr_text v.1.0) + (opened_parts v.1.1.0 + opened_inner v.1.1.1))} (λ t v. let a = split_opens v.0 v.1.0 v.1.1.0.0 v.1.1.0.1 v.1.1.1 in omega (arith, a)) (weigh_free _)
      (weigh_pair {cb = λ v. opened (expr_text v.0) + (opened_parts v.1.0 + opened_inner v.1.1)} (λ b v. omega arith) weigh_name
      (weigh_second (weigh_pair {cb = λ v. opened_parts v.0 + opened_inner v.1} (λ e v. omega arith) (weigh_expr inside)
      (weigh_second (weigh_pair (λ p a. omega arith) weigh_parts weigh_body)))))

  weigh_stmt : Weighs size stmt_rule opened_stmt
  unfolding stmt_rule
  weigh_stmt = weigh_either weigh_let (weigh_either weigh_alloc (weigh_either weigh_release (weigh_either weigh_if (weigh_either weigh_while (weigh_either weigh_call (weigh_either weigh_print (weigh_either weigh_par (weigh_either weigh_split weigh_write))))))))

  step_opens : (v : ℕ × Stmt) (rest : Body) → opened (body_text margin (step v.0 v.1 rest)) ≤ opened_stmt v + opened (body_text margin rest)
  step_opens v rest =
      let a = before margin (stmt_text margin v.1 ++ (line_end ++ body_text margin rest)) plain in
      let b = between (stmt_text margin v.1) line_end (body_text margin rest) refl in
      omega (arith, a, b)

  pub weigh_stmts : Weighs size stmts_rule (λ b. opened (body_text margin b))
  unfolding stmts_rule
  weigh_stmts = weigh_many (omega arith) step_opens weigh_stmt

-- statements at each margin
pub all_bodies : (inside : (size : ℕ) → Inside size) (size : ℕ) (margin : List ℕ) → opened margin ≡ 0 → (depth : ℕ) (d : Nested size statements) → opened (body_text margin (nested_meaning size statements d)) ≤ weight (nested_spelling size depth statements d)
all_bodies inside zero margin plain depth d = absurd d
all_bodies inside (suc size) margin plain depth d =
    (weigh_stmts (inside size) margin plain (all_bodies inside size (deeper margin) (deeper_plain margin plain))).weighs depth d
