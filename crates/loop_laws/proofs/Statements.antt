-- Statements and functions as phrases.
use Rattle.std.proofs.Common.{◌≡◌, ℕ, suc, true, false, List, [], ◌∷◌, ◌++◌, refl, ap, ◌∙◌}
use Rattle.std.specs.Prelude.{Option, Some, None, codes}
use Rattle.par_tree.specs.Tree.{Expr, integer, Arg, value, lend, Stmt, let_stmt, assign_stmt, if_stmt, call_stmt, par_stmt, split_stmt, Body, done, step, Param, lent, by_value, gives, Ret}
use Rattle.par_text.specs.Rule.{expression, statements}
use Rattle.par_text.specs.Grammar.{named_value, declared, let_rule, written, written_value, write_rule, index_rule, body_rule, stmts_rule, else_rule, chosen, if_rule, arg_rule, listed, next_arg, more_args, arg_list, args_rule, answering, callee_rule, plain_call, any_call, call_rule, forked, par_rule, parts_rule, parted, split_rule, stmt_rule, param_of, lent_param, param_rule, next_param, more_params, param_list, params_rule, ret_value, returned, ret_rule, func_body, func_of, func_rule}
use Rattle.canonical_text.proofs.Claims.{Always}
use Rattle.canonical_text.proofs.Leaves.{IsName, name_fits, name_token_fits}
use Rattle.canonical_text.proofs.Symbols.{opens-LeftParen, opens-LeftBrace, reads-Fn, reads-Let, reads-If, reads-Else, reads-Call, reads-Par, reads-And, reads-Split, reads-At, reads-Into, reads-Return, reads-Use, reads-Assign, reads-Comma, reads-Semicolon, reads-RightParen, reads-RightBrace}
use Rattle.loop_laws.proofs.Phrases.{Says, Begins, leaf, pair_says, then_says, before_says, mapped_says, first_says, second_says, nothing_says, none_says, more_says, spaced, nest_says, within_says}
use Rattle.loop_laws.proofs.Expressions.{IsExpression}
use Rattle.loop_laws.proofs.TreeLines.{stmt_on, body_on, ret_on, func_on}

-- A phrase is this statement, or these statements, but for lines, which are all to be this one.
abbrev pub IsStatement : ℕ → ℕ → ℕ → Stmt → (List ℕ → List ℕ) → Type 0
IsStatement most n line s f = Says most false n stmt_rule (λ y. stmt_on line y.1 ≡ s) f

abbrev pub AreStatements : ℕ → ℕ → ℕ → Body → (List ℕ → List ℕ) → Type 0
AreStatements most n line b f = Says most false n stmts_rule (λ y. body_on line y ≡ b) f

abbrev pub IsBody : ℕ → ℕ → ℕ → Body → (List ℕ → List ℕ) → Type 0
IsBody most n line b f = Says most false n body_rule (λ y. body_on line y ≡ b) f

abbrev pub IsArgument : ℕ → ℕ → Arg → (List ℕ → List ℕ) → Type 0
IsArgument most n a f = Says most true n arg_rule (λ y. y ≡ a) f

abbrev pub AreMore : ℕ → ℕ → List Arg → (List ℕ → List ℕ) → Type 0
AreMore most n as_ f = Says most true n more_args (λ y. y ≡ as_) f

-- lists

pub no_statement : {most n line : ℕ} → AreStatements most n line done (λ t. t)
unfolding stmts_rule
no_statement = none_says refl

pub statement : {most n line : ℕ} {s : Stmt} {b : Body} {f g : List ℕ → List ℕ} → Begins g → IsStatement most n line s f → AreStatements most n line b g → AreStatements most n line (step line s b) (λ t. 32 ∷ f (g t))
unfolding stmts_rule
statement {line = line} {s = s} begins p q = more_says begins (λ x y a b. ap (λ z. step line z (body_on line y)) a ∙ ap (λ z. step line s z) b) (spaced p) q

pub last_statement : {most n line : ℕ} {s : Stmt} {f : List ℕ → List ℕ} → IsStatement most n line s f → AreStatements most n line (step line s done) (λ t. 32 ∷ f t)
last_statement p = statement (λ rest c. c) p no_statement

pub braces : {most n line : ℕ} {b : Body} {f : List ℕ → List ℕ} → AreStatements most n line b f → IsBody most (suc n) line b (λ t. 123 ∷ f (32 ∷ 125 ∷ t))
unfolding body_rule
braces p = nest_says opens-LeftBrace (before_says (λ rest c. (refl, refl)) (within_says {s = statements} (λ y. y) (λ y h. h) p) (spaced (leaf (codes "}") reads-RightBrace)))

-- statements

pub declares : {most n line : ℕ} {e : Expr} {f : List ℕ → List ℕ} (x : List ℕ) → IsName x → IsExpression most n e f → IsStatement most n line (let_stmt x e) (λ t. codes "let " ++ (x ++ (codes " = " ++ f (59 ∷ t))))
unfolding stmt_rule let_rule named_value
declares {line = line} {e = e} x h p =
    first_says (pair_says {P = Always} {Q = λ v. v ≡ (x, e)} (λ t v. (t.line, declared v)) (λ rest c. (refl, refl)) (λ t v a b. ap (λ z. declared z) b) (leaf (codes "let") reads-Let)
    (spaced (pair_says (λ y z. (y, z)) (λ rest c. (refl, refl)) (λ y z a b. ap (λ v. (y, v)) b ∙ ap (λ v. (v, e)) a) (leaf x (name_fits x h))
    (before_says (λ rest c. (refl, refl)) (then_says (λ rest c. (refl, refl)) (spaced (leaf (codes "=") reads-Assign)) (spaced p)) (leaf (codes ";") reads-Semicolon)))))

pub assigns : {most n line : ℕ} {e : Expr} {f : List ℕ → List ℕ} (x : List ℕ) → IsName x → IsExpression most n e f → IsStatement most n line (assign_stmt x e) (λ t. x ++ (codes " = " ++ f (59 ∷ t)))
unfolding stmt_rule write_rule written_value index_rule
assigns {line = line} {e = e} x h p =
    second_says (second_says (second_says (second_says (second_says (second_says (second_says (second_says (second_says
    (pair_says {Q = λ v. v ≡ (None, e)} (λ t v. (t.line, written t.bytes v)) (λ rest c. (refl, refl)) (λ t v a b. ap (λ z. stmt_on line (written t.bytes z)) b ∙ ap (λ z. assign_stmt z e) a) (leaf x (name_token_fits x h))
    (pair_says {P = λ o. o ≡ None} (λ o z. (o, z)) (λ rest c. (refl, refl)) (λ o z a b. ap (λ v. (o, v)) b ∙ ap (λ v. (v, e)) a) (second_says (nothing_says refl))
    (before_says (λ rest c. (refl, refl)) (then_says (λ rest c. (refl, refl)) (spaced (leaf (codes "=") reads-Assign)) (spaced p)) (leaf (codes ";") reads-Semicolon))))))))))))

-- arguments

pub takes_value : {most n : ℕ} {e : Expr} {f : List ℕ → List ℕ} → IsExpression most n e f → IsArgument most n (value e) f
unfolding arg_rule
takes_value p = second_says (second_says (within_says {s = expression} value (λ y q. ap value q) p))

pub lends : {most n : ℕ} (b : List ℕ) → IsName b → IsArgument most n (lend b) (λ t. codes "use " ++ (b ++ t))
unfolding arg_rule
lends b h = first_says (then_says (λ rest c. (refl, refl)) (leaf (codes "use") reads-Use) (spaced (mapped_says lend (λ y q. ap lend q) (leaf b (name_fits b h)))))

pub no_argument : {most n : ℕ} → AreMore most n [] (λ t. t)
unfolding more_args
no_argument = none_says refl

pub argument : {most n : ℕ} {a : Arg} {as_ : List Arg} {f g : List ℕ → List ℕ} → Begins g → IsArgument most n a f → AreMore most n as_ g → AreMore most n (a ∷ as_) (λ t. codes ", " ++ f (g t))
unfolding more_args next_arg
argument {a = a} {as_ = as_} begins p q = more_says begins (λ x y d e. ap (λ z. x ∷ z) e ∙ ap (λ z. z ∷ as_) d) (then_says (λ rest c. (refl, refl)) (leaf (codes ",") reads-Comma) (spaced p)) q

-- `call x = h(A, ..);`
pub calls : {most n line : ℕ} {a : Arg} {as_ : List Arg} {f g : List ℕ → List ℕ} (x h : List ℕ) → IsName x → IsName h → Begins g → IsArgument most n a f → AreMore most n as_ g
    → IsStatement most (suc n) line (call_stmt (integer x) h (a ∷ as_)) (λ t. codes "call " ++ (x ++ (codes " = " ++ (h ++ (40 ∷ f (g (41 ∷ 59 ∷ t)))))))
unfolding stmt_rule call_rule any_call plain_call callee_rule args_rule arg_list
calls {line = line} {a = a} {as_ = as_} x h target callee begins p q =
    second_says (second_says (second_says (second_says (second_says (first_says
    (pair_says {P = Always} {Q = λ s. s ≡ call_stmt (integer x) h (a ∷ as_)} (λ t s. (t.line, s)) (λ rest c. (refl, refl)) (λ t s d e. ap (λ z. stmt_on line z) e) (leaf (codes "call") reads-Call)
    (before_says (λ rest c. (refl, refl))
    (spaced (second_says (pair_says {P = λ y. y ≡ x} {Q = λ v. v ≡ (Some h, a ∷ as_)} answering (λ rest c. (refl, refl)) (λ y v d e. ap (λ z. answering y z) e ∙ ap (λ z. call_stmt (integer z) h (a ∷ as_)) d) (leaf x (name_fits x target))
    (pair_says {P = λ o. o ≡ Some h} {Q = λ l. l ≡ a ∷ as_} (λ o l. (o, l)) (λ rest c. (refl, refl)) (λ o l d e. ap (λ z. (o, z)) e ∙ ap (λ z. (z, a ∷ as_)) d)
    (first_says (then_says (λ rest c. (refl, refl)) (spaced (leaf (codes "=") reads-Assign)) (mapped_says (λ y. Some y) (λ y d. ap (λ z. Some z) d) (spaced (leaf h (name_fits h callee))))))
    (nest_says opens-LeftParen (before_says (λ rest c. (refl, refl)) (first_says (pair_says listed begins (λ y l d e. ap (λ z. y ∷ z) e ∙ ap (λ z. z ∷ as_) d) p q)) (leaf (codes ")") reads-RightParen)))))))
    (leaf (codes ";") reads-Semicolon))))))))

-- `if e {A} else {B}`, and without the other list
pub chooses : {most n line : ℕ} {e : Expr} {a b : Body} {f g h : List ℕ → List ℕ} → Begins g → IsExpression most n e f → IsBody most n line a g → IsBody most n line b h → Begins h
    → IsStatement most n line (if_stmt e a b) (λ t. codes "if " ++ f (32 ∷ g (codes " else " ++ h t)))
unfolding stmt_rule if_rule else_rule
chooses {line = line} {e = e} {a = a} {b = b} bg p q r bh =
    second_says (second_says (second_says (first_says
    (pair_says {P = Always} {Q = λ v. (v.0 ≡ e) × ((body_on line v.1.0 ≡ a) × (body_on line v.1.1 ≡ b))} (λ t v. (t.line, chosen v)) (λ rest c. (refl, refl))
    (λ t v d w. ap (λ z. if_stmt z (body_on line v.1.0) (body_on line v.1.1)) w.0 ∙ ap (λ z. if_stmt e z (body_on line v.1.1)) w.1.0 ∙ ap (λ z. if_stmt e a z) w.1.1) (leaf (codes "if") reads-If)
    (spaced (pair_says (λ x y. (x, y)) (λ rest c. (refl, refl)) (λ x y d w. (d, w)) p
    (pair_says (λ x y. (x, y)) (λ rest c. (refl, refl)) (λ x y d w. (d, w)) (spaced q)
    (first_says (then_says (λ rest c. (refl, refl)) (spaced (leaf (codes "else") reads-Else)) (spaced r))))))))))

pub chooses_once : {most n line : ℕ} {e : Expr} {a : Body} {f g : List ℕ → List ℕ} → IsExpression most n e f → IsBody most n line a g → IsStatement most n line (if_stmt e a done) (λ t. codes "if " ++ f (32 ∷ g t))
unfolding stmt_rule if_rule else_rule
chooses_once {line = line} {e = e} {a = a} p q =
    second_says (second_says (second_says (first_says
    (pair_says {P = Always} {Q = λ v. (v.0 ≡ e) × ((body_on line v.1.0 ≡ a) × (body_on line v.1.1 ≡ done))} (λ t v. (t.line, chosen v)) (λ rest c. (refl, refl))
    (λ t v d w. ap (λ z. if_stmt z (body_on line v.1.0) (body_on line v.1.1)) w.0 ∙ ap (λ z. if_stmt e z (body_on line v.1.1)) w.1.0 ∙ ap (λ z. if_stmt e a z) w.1.1) (leaf (codes "if") reads-If)
    (spaced (pair_says (λ x y. (x, y)) (λ rest c. (refl, refl)) (λ x y d w. (d, w)) p
    (pair_says (λ x y. (x, y)) (λ rest c. c) (λ x y d w. (d, w)) (spaced q) (second_says (nothing_says refl)))))))))

-- `par {A} and {B}`
pub forks : {most n line : ℕ} {a b : Body} {f g : List ℕ → List ℕ} → IsBody most n line a f → IsBody most n line b g → IsStatement most n line (par_stmt a b) (λ t. codes "par " ++ f (codes " and " ++ g t))
unfolding stmt_rule par_rule
forks {line = line} {a = a} {b = b} p q =
    second_says (second_says (second_says (second_says (second_says (second_says (second_says (first_says
    (pair_says {P = Always} {Q = λ v. (body_on line v.0 ≡ a) × (body_on line v.1 ≡ b)} (λ t v. (t.line, forked v)) (λ rest c. (refl, refl))
    (λ t v d w. ap (λ z. par_stmt z (body_on line v.1)) w.0 ∙ ap (λ z. par_stmt a z) w.1) (leaf (codes "par") reads-Par)
    (spaced (pair_says (λ x y. (x, y)) (λ rest c. (refl, refl)) (λ x y d w. (d, w)) p (then_says (λ rest c. (refl, refl)) (spaced (leaf (codes "and") reads-And)) (spaced q))))))))))))

-- `split b at e into l, r {A}`
pub splits : {most n line : ℕ} {e : Expr} {a : Body} {f g : List ℕ → List ℕ} (b l r : List ℕ) → IsName b → IsName l → IsName r → IsExpression most n e f → IsBody most n line a g
    → IsStatement most n line (split_stmt b e l r a) (λ t. codes "split " ++ (b ++ (codes " at " ++ f (codes " into " ++ (l ++ (codes ", " ++ (r ++ (32 ∷ g t))))))))
unfolding stmt_rule split_rule parts_rule
splits {line = line} {e = e} {a = a} b l r hb hl hr p q =
    second_says (second_says (second_says (second_says (second_says (second_says (second_says (second_says (first_says
    (pair_says {P = Always} {Q = λ v. (v.0 ≡ b) × ((v.1.0 ≡ e) × ((v.1.1.0 ≡ (l, r)) × (body_on line v.1.1.1 ≡ a)))} (λ t v. (t.line, parted v)) (λ rest c. (refl, refl))
    (λ t v d w.
    ap (λ z. split_stmt z v.1.0 v.1.1.0.0 v.1.1.0.1 (body_on line v.1.1.1)) w.0
    ∙ ap (λ z. split_stmt b z v.1.1.0.0 v.1.1.0.1 (body_on line v.1.1.1)) w.1.0
    ∙ ap (λ z. split_stmt b e z.0 z.1 (body_on line v.1.1.1)) w.1.1.0
    ∙ ap (λ z. split_stmt b e l r z) w.1.1.1)
    (leaf (codes "split") reads-Split)
    (spaced (pair_says (λ x y. (x, y)) (λ rest c. (refl, refl)) (λ x y d w. (d, w)) (leaf b (name_fits b hb))
    (then_says (λ rest c. (refl, refl)) (spaced (leaf (codes "at") reads-At))
    (pair_says (λ x y. (x, y)) (λ rest c. (refl, refl)) (λ x y d w. (d, w)) (spaced p)
    (then_says (λ rest c. (refl, refl)) (spaced (leaf (codes "into") reads-Into))
    (pair_says {P = λ y. y ≡ (l, r)} (λ x y. (x, y)) (λ rest c. (refl, refl)) (λ x y d w. (d, w))
    (spaced (pair_says (λ x y. (x, y)) (λ rest c. (refl, refl)) (λ x y d w. ap (λ z. (x, z)) w ∙ ap (λ z. (z, r)) d) (leaf l (name_fits l hl)) (then_says (λ rest c. (refl, refl)) (leaf (codes ",") reads-Comma) (spaced (leaf r (name_fits r hr))))))
    (spaced q))))))))))))))))

-- functions

abbrev pub IsParameter : ℕ → ℕ → Param → (List ℕ → List ℕ) → Type 0
IsParameter most n q f = Says most true n param_rule (λ y. y ≡ q) f

abbrev pub AreParameters : ℕ → ℕ → List Param → (List ℕ → List ℕ) → Type 0
AreParameters most n qs f = Says most true n more_params (λ y. y ≡ qs) f

pub takes_integer : {most n : ℕ} (x : List ℕ) → IsName x → IsParameter most n (record { name = x; kind = by_value }) (λ t. x ++ t)
unfolding param_rule
takes_integer x h = second_says (second_says (mapped_says param_of (λ y q. ap (λ v. param_of v) q) (leaf x (name_fits x h))))

pub takes_block : {most n : ℕ} (x : List ℕ) → IsName x → IsParameter most n (record { name = x; kind = lent }) (λ t. codes "use " ++ (x ++ t))
unfolding param_rule
takes_block x h = first_says (then_says (λ rest c. (refl, refl)) (leaf (codes "use") reads-Use) (spaced (mapped_says lent_param (λ y q. ap (λ v. lent_param v) q) (leaf x (name_fits x h)))))

pub no_parameter : {most n : ℕ} → AreParameters most n [] (λ t. t)
unfolding more_params
no_parameter = none_says refl

pub parameter : {most n : ℕ} {q : Param} {qs : List Param} {f g : List ℕ → List ℕ} → Begins g → IsParameter most n q f → AreParameters most n qs g → AreParameters most n (q ∷ qs) (λ t. codes ", " ++ f (g t))
unfolding more_params next_param
parameter {q = q} {qs = qs} begins p r = more_says begins (λ x y d e. ap (λ z. x ∷ z) e ∙ ap (λ z. z ∷ qs) d) (then_says (λ rest c. (refl, refl)) (leaf (codes ",") reads-Comma) (spaced p)) r

-- the function returns the integer of an expression
abbrev pub gives_back : ℕ → Expr → Option Ret
gives_back line e = Some (record { line = line; value = gives e })

-- `fn f(Q, ..) {A return e; }`
pub defines : {most n line : ℕ} {q : Param} {qs : List Param} {b : Body} {e : Expr} {f g h v : List ℕ → List ℕ} (x : List ℕ) → IsName x → Begins g → IsParameter most n q f → AreParameters most n qs g → AreStatements most n line b h → IsExpression most n e v
    → Says most false (suc n) func_rule (λ y. func_on line y ≡ record { name = x; params = q ∷ qs; body = b; ret = gives_back line e; line = line })
    (λ t. codes "fn " ++ (x ++ (40 ∷ f (g (codes ") {" ++ h (codes " return " ++ v (codes "; }" ++ t)))))))
unfolding func_rule params_rule param_list func_body ret_rule ret_value
defines {line = line} {q = q} {qs = qs} {b = b} {e = e} x named begins first more inside answer =
    pair_says {P = Always} {Q = λ y. (y.0 ≡ x) × ((y.1.0 ≡ q ∷ qs) × ((body_on line y.1.1.0 ≡ b) × (ret_on line y.1.1.1 ≡ gives_back line e)))} func_of (λ rest c. (refl, refl))
    (λ t y d w.
    ap (λ z. record { name = z; params = y.1.0; body = body_on line y.1.1.0; ret = ret_on line y.1.1.1; line = line }) w.0
    ∙ ap (λ z. record { name = x; params = z; body = body_on line y.1.1.0; ret = ret_on line y.1.1.1; line = line }) w.1.0
    ∙ ap (λ z. record { name = x; params = q ∷ qs; body = z; ret = ret_on line y.1.1.1; line = line }) w.1.1.0
    ∙ ap (λ z. record { name = x; params = q ∷ qs; body = b; ret = z; line = line }) w.1.1.1)
    (leaf (codes "fn") reads-Fn)
    (pair_says {P = λ y. y ≡ x} {Q = λ y. (y.0 ≡ q ∷ qs) × ((body_on line y.1.0 ≡ b) × (ret_on line y.1.1 ≡ gives_back line e))} (λ z y. (z, y)) (λ rest c. (refl, refl)) (λ z y d w. (d, w)) (spaced (leaf x (name_fits x named)))
    (pair_says {P = λ y. y ≡ q ∷ qs} {Q = λ y. (body_on line y.0 ≡ b) × (ret_on line y.1 ≡ gives_back line e)} (λ z y. (z, y)) (λ rest c. (refl, refl)) (λ z y d w. (d, w))
    (nest_says opens-LeftParen (before_says (λ rest c. (refl, refl)) (first_says (pair_says listed begins (λ y l d w. ap (λ z. y ∷ z) w ∙ ap (λ z. z ∷ qs) d) first more)) (leaf (codes ")") reads-RightParen)))
    (spaced (nest_says opens-LeftBrace (before_says (λ rest c. (refl, refl))
    (pair_says {P = λ y. body_on line y ≡ b} {Q = λ y. ret_on line y ≡ gives_back line e} (λ z y. (z, y)) (λ rest c. (refl, refl)) (λ z y d w. (d, w)) (within_says {s = statements} (λ y. y) (λ y d. d) inside)
    (first_says (pair_says {P = Always} {Q = λ y. y ≡ gives e} returned (λ rest c. (refl, refl)) (λ t y d w. ap (λ z. Some (record { line = line; value = z })) w) (spaced (leaf (codes "return") reads-Return))
    (before_says (λ rest c. (refl, refl)) (spaced (second_says (within_says {s = expression} gives (λ y d. ap gives d) answer))) (leaf (codes ";") reads-Semicolon)))))
    (spaced (leaf (codes "}") reads-RightBrace)))))))
