-- The canonical text of the statements of a text is read as them, but for lines.
use Rattle.std.proofs.Common.{◌≡◌, ℕ, true, false, List, [], ◌∷◌, ◌++◌, map, refl, sym, ap, ◌∙◌, subst, append_assoc}
use Rattle.std.specs.Prelude.{Some, None, codes}
use Rattle.std.specs.List.{flat_map}
use Rattle.par_tree.specs.Tree.{Expr, Target, unused, integer, block, Arg, value, lend, give, Stmt, let_stmt, assign_stmt, put_stmt, alloc_stmt, free_stmt, if_stmt, while_stmt, call_stmt, print_stmt, par_stmt, split_stmt, Body, done, step}
use Rattle.par_text.specs.declared.kind.Kind.{Kind}
use Rattle.par_text.specs.declared.kind.Kind.TheVariants as k
use Rattle.par_text.specs.Rule.{Rule, token, nest, within, expression, statements}
use Rattle.par_text.specs.Grammar.{◌⊳◌, ◌⊲◌, index_rule, expr_rule, body_rule, behind, named_value, declared, let_rule, allocated, alloc_rule, free_rule, print_rule, written, written_value, write_rule, else_rule, if_rule, while_rule, arg_rule, listed, next_arg, more_args, arg_list, args_rule, answering, callee_rule, owning_call, plain_call, any_call, call_rule, par_rule, parts_rule, split_rule, stmt_rule, stepped, stmts_rule}
use Rattle.canonical_text.specs.declared.place.Place.TheVariants.{Expression}
use Rattle.canonical_text.specs.Canonical.{expr_text, behind_comma, with_commas, line_end, deeper, braces, else_text, arg_text, stmt_text, body_text}
use Rattle.canonical_text.specs.Lines.{stmt_without_lines, body_without_lines}
use Rattle.canonical_text.proofs.Lexemes.{Clear, AreGaps, gap-space, gap-newline, gaps-append}
use Rattle.canonical_text.proofs.Written.{Opens}
use Rattle.canonical_text.proofs.Claims.{Fits, Always, mapped_fits, pair_fits, then_fits, before_fits, first_fits, second_fits, nothing_fits, none_fits, more_fits, same_fits, gaps_fit, nest_fits, within_fits}
use Rattle.canonical_text.proofs.Leaves.{IsName, name_fits, name_token_fits}
use Rattle.canonical_text.proofs.Symbols.{opens-LeftParen, opens-LeftBrace, opens-LeftBracket, reads-Let, reads-Alloc, reads-Free, reads-If, reads-Else, reads-While, reads-Call, reads-Print, reads-Par, reads-And, reads-Split, reads-At, reads-Into, reads-Use, reads-Own, reads-Assign, reads-Comma, reads-Semicolon, reads-RightParen, reads-RightBrace, reads-RightBracket}
use Rattle.canonical_text.proofs.Places.{Claim, in_place}
use Rattle.canonical_text.proofs.Expressions.{Inside, space}

abbrev pub SameBody : Body → Body → Type 0
SameBody b y = body_without_lines y ≡ body_without_lines b

abbrev SameStmt : Stmt → ℕ × Stmt → Type 0
SameStmt s y = stmt_without_lines y.1 ≡ stmt_without_lines s

pub record BodyClaim (most n : ℕ) (b : Body) : Type 0 where
  pub reads : (margin : List ℕ) → AreGaps margin → Fits most false n stmts_rule (SameBody b) (body_text margin b)

pub record StmtClaim (most n : ℕ) (s : Stmt) : Type 0 where
  pub reads : (margin : List ℕ) → AreGaps margin → Fits most false n stmt_rule (SameStmt s) (stmt_text margin s)

-- parts of statements

literal : (c : ℕ) (cs : List ℕ) → Clear (c ∷ []) → Opens (c ∷ cs)
literal c cs h = λ rest clear. h

gaps_open : (g v : List ℕ) → AreGaps g → Opens v → Opens (g ++ v)
gaps_open [] v h o = o
gaps_open (c ∷ g) v h o = λ rest clear. h.0.1

value_fits : {most n : ℕ} (e : Expr) → Claim most Expression n e → Fits most false n (token k.Assign ⊳ expr_rule ⊲ token k.Semicolon) (λ y. y ≡ e) (codes " = " ++ (expr_text e ++ codes ";"))
value_fits e c = before_fits (λ rest h. (refl, refl)) (then_fits (λ rest h. (refl, refl)) (gaps_fit space (gap-space, tt) reads-Assign) (gaps_fit space (gap-space, tt) (in_place Expression e c))) reads-Semicolon

named_value_fits : {most n : ℕ} (x : List ℕ) (e : Expr) → IsName x → Claim most Expression n e → Fits most false n named_value (λ v. v ≡ (x, e)) (x ++ (codes " = " ++ (expr_text e ++ codes ";")))
unfolding named_value
named_value_fits x e h c = pair_fits (λ y z. (y, z)) (λ rest g. (refl, refl)) (λ y z p q. ap (λ v. (y, v)) q ∙ ap (λ v. (v, e)) p) (name_fits x h) (value_fits e c)

-- a word and what stands behind it
behind_fits : {most n : ℕ} {X : Type 0} {j : Kind} {f : X → Stmt} {r : Rule X} {P : X → Type 0} {w u : List ℕ} (s : Stmt) → ((x : X) → P x → stmt_without_lines (f x) ≡ stmt_without_lines s)
    → Fits most false n (token j) Always w → Fits most false n r P u → Fits most false n (behind j f r) (SameStmt s) (w ++ (space ++ u))
behind_fits {f = f} s h w u = pair_fits (λ t x. (t.line, f x)) (λ rest c. (refl, refl)) (λ t x p q. h x q) w (gaps_fit space (gap-space, tt) u)

braces_fit : {most n : ℕ} (margin : List ℕ) (b : Body) → AreGaps margin → Inside n (λ m. BodyClaim most m b) → Fits most false n body_rule (SameBody b) (braces margin (body_text (deeper margin) b))
unfolding body_rule
braces_fit {most} margin b gaps inside =
    subst (λ (i : ℕ). Fits most false i body_rule (SameBody b) (braces margin (body_text (deeper margin) b))) (sym inside.is)
    (nest_fits opens-LeftBrace.lexeme opens-LeftBrace.form opens-LeftBrace.whole opens-LeftBrace.allowed
    (before_fits (gaps_open margin (codes "}") gaps (λ rest h. (refl, refl)))
    (gaps_fit line_end (gap-newline, tt) (within_fits {s = statements} (λ y. y) (λ y h. h) (inside.holds.reads (deeper margin) (gaps-append margin (codes "  ") gaps (gap-space, (gap-space, tt))))))
    (gaps_fit margin gaps reads-RightBrace)))

-- statements

pub declare_claim : {most n : ℕ} (x : List ℕ) (e : Expr) → IsName x → Claim most Expression n e → StmtClaim most n (let_stmt x e)
unfolding stmt_rule let_rule
declare_claim x e h c = record { reads = λ margin g. first_fits (behind_fits (let_stmt x e) (λ v q. ap (λ z. stmt_without_lines (declared z)) q) reads-Let (named_value_fits x e h c)) }

pub allocate_claim : {most n : ℕ} (x : List ℕ) (e : Expr) → IsName x → Claim most Expression n e → StmtClaim most n (alloc_stmt x e)
unfolding stmt_rule alloc_rule
allocate_claim x e h c = record { reads = λ margin g. second_fits (first_fits (behind_fits (alloc_stmt x e) (λ v q. ap (λ z. stmt_without_lines (allocated z)) q) reads-Alloc (named_value_fits x e h c))) }

pub release_claim : {most n : ℕ} (x : List ℕ) → IsName x → StmtClaim most n (free_stmt x)
unfolding stmt_rule free_rule
release_claim x h = record { reads = λ margin g. second_fits (second_fits (first_fits (behind_fits (free_stmt x) (λ v q. ap (λ z. free_stmt z) q) reads-Free (before_fits (λ rest c. (refl, refl)) (name_fits x h) reads-Semicolon)))) }

pub print_claim : {most n : ℕ} (e : Expr) → Claim most Expression n e → StmtClaim most n (print_stmt e)
unfolding stmt_rule print_rule
print_claim e c = record {
  reads = λ margin g.
      second_fits (second_fits (second_fits (second_fits (second_fits (second_fits (first_fits
      (behind_fits (print_stmt e) (λ v q. ap (λ z. print_stmt z) q) reads-Print (before_fits (λ rest h. (refl, refl)) (in_place Expression e c) reads-Semicolon))))))));
}

pub assign_claim : {most n : ℕ} (x : List ℕ) (e : Expr) → IsName x → Claim most Expression n e → StmtClaim most n (assign_stmt x e)
unfolding stmt_rule write_rule written_value index_rule
assign_claim x e h c = record {
  reads = λ margin g.
      second_fits (second_fits (second_fits (second_fits (second_fits (second_fits (second_fits (second_fits (second_fits
      (pair_fits {Q = λ v. v ≡ (None, e)} (λ t v. (t.line, written t.bytes v)) (λ rest d. (refl, refl)) (λ t v p q. ap (λ z. stmt_without_lines (written t.bytes z)) q ∙ ap (λ z. assign_stmt z e) p) (name_token_fits x h)
      (pair_fits {P = λ o. o ≡ None} (λ o z. (o, z)) (λ rest d. (refl, refl)) (λ o z p q. ap (λ v. (o, v)) q ∙ ap (λ v. (v, e)) p) (second_fits (nothing_fits refl)) (value_fits e c)))))))))));
}

pub store_claim : {most n : ℕ} (x : List ℕ) (i e : Expr) → IsName x → Inside n (λ m. Claim most Expression m i) → Claim most Expression n e → StmtClaim most n (put_stmt x i e)
unfolding stmt_rule write_rule written_value index_rule
store_claim {most} {n} x i e h inside c = record {
  reads = λ margin g.
      same_fits (ap (λ z. x ++ (91 ∷ z)) (append_assoc (expr_text i) (93 ∷ []) (codes " = " ++ (expr_text e ++ codes ";"))))
      (second_fits (second_fits (second_fits (second_fits (second_fits (second_fits (second_fits (second_fits (second_fits
      (pair_fits {Q = λ v. v ≡ (Some i, e)} (λ t v. (t.line, written t.bytes v)) (λ rest d. (refl, refl)) (λ t v p q. ap (λ z. stmt_without_lines (written t.bytes z)) q ∙ ap (λ z. put_stmt z i e) p) (name_token_fits x h)
      (pair_fits {P = λ o. o ≡ Some i} (λ o z. (o, z)) (λ rest d. (refl, refl)) (λ o z p q. ap (λ v. (o, v)) q ∙ ap (λ v. (v, e)) p) (first_fits index) (value_fits e c))))))))))));
}
  where
    index : Fits most false n (nest k.LeftBracket (within expression (λ e. Some e) ⊲ token k.RightBracket)) (λ o. o ≡ Some i) (91 ∷ (expr_text i ++ 93 ∷ []))
    index =
        subst (λ (j : ℕ). Fits most false j (nest k.LeftBracket (within expression (λ e. Some e) ⊲ token k.RightBracket)) (λ o. o ≡ Some i) (91 ∷ (expr_text i ++ 93 ∷ []))) (sym inside.is)
        (nest_fits opens-LeftBracket.lexeme opens-LeftBracket.form opens-LeftBracket.whole opens-LeftBracket.allowed
        (before_fits (λ rest d. (refl, refl)) (within_fits {s = expression} (λ y. Some y) (λ y q. ap (λ v. Some v) q) (in_place Expression i inside.holds)) reads-RightBracket))

pub repeat_claim : {most n : ℕ} (e : Expr) (a : Body) → Claim most Expression n e → Inside n (λ m. BodyClaim most m a) → StmtClaim most n (while_stmt e a)
unfolding stmt_rule while_rule
repeat_claim e a c inside = record {
  reads = λ margin g.
      second_fits (second_fits (second_fits (second_fits (first_fits
      (behind_fits {P = λ v. (v.0 ≡ e) × SameBody a v.1} (while_stmt e a) (λ v q. ap (λ z. while_stmt z (body_without_lines v.1)) q.0 ∙ ap (λ z. while_stmt e z) q.1) reads-While
      (pair_fits (λ x y. (x, y)) (λ rest d. (refl, refl)) (λ x y p q. (p, q)) (in_place Expression e c) (gaps_fit space (gap-space, tt) (braces_fit margin a g inside))))))));
}

abbrev pub ElseClaim : ℕ → ℕ → Body → Type 0
ElseClaim most n done = Unit {0}
ElseClaim most n (step l s rest) = Inside n (λ m. BodyClaim most m (step l s rest))

else_fits : {most n : ℕ} (margin : List ℕ) (b : Body) → AreGaps margin → ElseClaim most n b → Fits most false n else_rule (SameBody b) (else_text margin b (body_text (deeper margin) b))
unfolding else_rule
else_fits margin done g h = second_fits (nothing_fits refl)
else_fits margin (step l s rest) g h = first_fits (then_fits (λ r d. (refl, refl)) (gaps_fit space (gap-space, tt) reads-Else) (gaps_fit space (gap-space, tt) (braces_fit margin (step l s rest) g h)))

else_opens : (margin : List ℕ) (b : Body) (u : List ℕ) → Opens (else_text margin b u)
else_opens margin done u = λ rest h. h
else_opens margin (step l s rest) u = λ r h. (refl, refl)

pub choose_claim : {most n : ℕ} (e : Expr) (a b : Body) → Claim most Expression n e → Inside n (λ m. BodyClaim most m a) → ElseClaim most n b → StmtClaim most n (if_stmt e a b)
unfolding stmt_rule if_rule
choose_claim e a b c inside other = record {
  reads = λ margin g.
      second_fits (second_fits (second_fits (first_fits
      (behind_fits {P = λ v. (v.0 ≡ e) × (SameBody a v.1.0 × SameBody b v.1.1)} (if_stmt e a b)
      (λ v q. ap (λ z. if_stmt z (body_without_lines v.1.0) (body_without_lines v.1.1)) q.0 ∙ ap (λ z. if_stmt e z (body_without_lines v.1.1)) q.1.0 ∙ ap (λ z. if_stmt e (body_without_lines a) z) q.1.1)
      reads-If
      (pair_fits (λ x y. (x, y)) (λ rest d. (refl, refl)) (λ x y p q. (p, q)) (in_place Expression e c)
      (pair_fits {P = SameBody a} {Q = SameBody b} (λ x y. (x, y)) (else_opens margin b (body_text (deeper margin) b)) (λ x y p q. (p, q)) (gaps_fit space (gap-space, tt) (braces_fit margin a g inside)) (else_fits margin b g other)))))));
}

pub both_claim : {most n : ℕ} (a b : Body) → Inside n (λ m. BodyClaim most m a) → Inside n (λ m. BodyClaim most m b) → StmtClaim most n (par_stmt a b)
unfolding stmt_rule par_rule
both_claim a b ia ib = record {
  reads = λ margin g.
      second_fits (second_fits (second_fits (second_fits (second_fits (second_fits (second_fits (first_fits
      (behind_fits {P = λ v. SameBody a v.0 × SameBody b v.1} (par_stmt a b) (λ v q. ap (λ z. par_stmt z (body_without_lines v.1)) q.0 ∙ ap (λ z. par_stmt (body_without_lines a) z) q.1) reads-Par
      (pair_fits {P = SameBody a} {Q = SameBody b} (λ x y. (x, y)) (λ rest d. (refl, refl)) (λ x y p q. (p, q)) (braces_fit margin a g ia)
      (then_fits (λ rest d. (refl, refl)) (gaps_fit space (gap-space, tt) reads-And) (gaps_fit space (gap-space, tt) (braces_fit margin b g ib))))))))))));
}

pub split_claim : {most n : ℕ} (x : List ℕ) (e : Expr) (l r : List ℕ) (a : Body) → IsName x → Claim most Expression n e → IsName l → IsName r → Inside n (λ m. BodyClaim most m a) → StmtClaim most n (split_stmt x e l r a)
unfolding stmt_rule split_rule parts_rule
split_claim x e l r a h c hl hr inside = record {
  reads = λ margin g.
      same_fits (ap (λ z. codes "split " ++ (x ++ (codes " at " ++ (expr_text e ++ (codes " into " ++ z))))) (append_assoc l (44 ∷ 32 ∷ r) (space ++ braces margin (body_text (deeper margin) a))))
      (second_fits (second_fits (second_fits (second_fits (second_fits (second_fits (second_fits (second_fits (first_fits
      (behind_fits {P = λ v. (v.0 ≡ x) × ((v.1.0 ≡ e) × ((v.1.1.0 ≡ (l, r)) × SameBody a v.1.1.1))} (split_stmt x e l r a)
      (λ v q.
      ap (λ z. split_stmt z v.1.0 v.1.1.0.0 v.1.1.0.1 (body_without_lines v.1.1.1)) q.0
      ∙ ap (λ z. split_stmt x z v.1.1.0.0 v.1.1.0.1 (body_without_lines v.1.1.1)) q.1.0
      ∙ ap (λ z. split_stmt x e z.0 z.1 (body_without_lines v.1.1.1)) q.1.1.0
      ∙ ap (λ z. split_stmt x e l r z) q.1.1.1)
      reads-Split
      (pair_fits (λ y z. (y, z)) (λ rest d. (refl, refl)) (λ y z p q. (p, q)) (name_fits x h)
      (then_fits (λ rest d. (refl, refl)) (gaps_fit space (gap-space, tt) reads-At)
      (pair_fits (λ y z. (y, z)) (λ rest d. (refl, refl)) (λ y z p q. (p, q)) (gaps_fit space (gap-space, tt) (in_place Expression e c))
      (then_fits (λ rest d. (refl, refl)) (gaps_fit space (gap-space, tt) reads-Into)
      (pair_fits {P = λ y. y ≡ (l, r)} {Q = SameBody a} (λ y z. (y, z)) (λ rest d. (refl, refl)) (λ y z p q. (p, q))
      (pair_fits (λ y z. (y, z)) (λ rest d. (refl, refl)) (λ y z p q. ap (λ v. (y, v)) q ∙ ap (λ v. (v, r)) p) (gaps_fit space (gap-space, tt) (name_fits l hl)) (then_fits (λ rest d. (refl, refl)) reads-Comma (gaps_fit space (gap-space, tt) (name_fits r hr))))
      (gaps_fit space (gap-space, tt) (braces_fit margin a g inside)))))))))))))))));
}

-- calls

-- an argument, inside the parentheses
pub record ArgClaim (most n : ℕ) (a : Arg) : Type 0 where
  pub reads : Fits most true n arg_rule (λ y. y ≡ a) (arg_text a)

abbrev pub ArgsClaim : ℕ → ℕ → List Arg → Type 0
ArgsClaim most n [] = Unit {0}
ArgsClaim most n (a ∷ as_) = ArgClaim most n a × ArgsClaim most n as_

pub value_claim : {most n : ℕ} (e : Expr) → Claim most Expression n e → ArgClaim most n (value e)
unfolding arg_rule
value_claim e c = record { reads = second_fits (second_fits (within_fits {s = expression} value (λ y q. ap (λ v. value v) q) (in_place Expression e c))) }

pub lend_claim : {most n : ℕ} (x : List ℕ) → IsName x → ArgClaim most n (lend x)
unfolding arg_rule
lend_claim x h = record { reads = first_fits (then_fits (λ rest d. (refl, refl)) reads-Use (gaps_fit space (gap-space, tt) (mapped_fits lend (λ y q. ap (λ v. lend v) q) (name_fits x h)))) }

pub give_claim : {most n : ℕ} (x : List ℕ) → IsName x → ArgClaim most n (give x)
unfolding arg_rule
give_claim x h = record { reads = second_fits (first_fits (then_fits (λ rest d. (refl, refl)) reads-Own (gaps_fit space (gap-space, tt) (mapped_fits give (λ y q. ap (λ v. give v) q) (name_fits x h))))) }

commas_open : (us : List (List ℕ)) → Opens (flat_map behind_comma us)
commas_open [] = λ rest h. h
commas_open (u ∷ us) = λ rest h. (refl, refl)

more_args_fit : {most n : ℕ} (xs : List Arg) → ArgsClaim most n xs → Fits most true n more_args (λ y. y ≡ xs) (flat_map behind_comma (map arg_text xs))
unfolding more_args next_arg
more_args_fit [] h = none_fits refl
more_args_fit (a ∷ xs) h =
    more_fits (commas_open (map arg_text xs)) (λ x y p q. ap (λ z. x ∷ z) q ∙ ap (λ z. z ∷ xs) p) (then_fits (λ rest d. (refl, refl)) reads-Comma (gaps_fit space (gap-space, tt) h.0.reads)) (more_args_fit xs h.1)

arg_list_fits : {most n : ℕ} (xs : List Arg) → ArgsClaim most n xs → Fits most true n arg_list (λ y. y ≡ xs) (with_commas (map arg_text xs))
unfolding arg_list
arg_list_fits [] h = second_fits (nothing_fits refl)
arg_list_fits (a ∷ xs) h = first_fits (pair_fits listed (commas_open (map arg_text xs)) (λ x y p q. ap (λ z. x ∷ z) q ∙ ap (λ z. z ∷ xs) p) h.0.reads (more_args_fit xs h.1))

abbrev parenthesised_args : List Arg → List ℕ
parenthesised_args xs = 40 ∷ (with_commas (map arg_text xs) ++ 41 ∷ [])

args_fit : {most n : ℕ} (xs : List Arg) → Inside n (λ m. ArgsClaim most m xs) → Fits most false n args_rule (λ y. y ≡ xs) (parenthesised_args xs)
unfolding args_rule
args_fit {most} xs inside =
    subst (λ (i : ℕ). Fits most false i args_rule (λ y. y ≡ xs) (parenthesised_args xs)) (sym inside.is)
    (nest_fits opens-LeftParen.lexeme opens-LeftParen.form opens-LeftParen.whole opens-LeftParen.allowed (before_fits (λ rest d. (refl, refl)) (arg_list_fits xs inside.holds) reads-RightParen))

-- what stands behind `call `, without the semicolon
abbrev call_text : Target → List ℕ → List Arg → List ℕ
call_text unused f xs = f ++ parenthesised_args xs
call_text (integer x) f xs = x ++ (codes " = " ++ (f ++ parenthesised_args xs))
call_text (block x) f xs = codes "own " ++ (x ++ (codes " = " ++ (f ++ parenthesised_args xs)))

abbrev pub TargetClaim : Target → Type 0
TargetClaim unused = Unit {0}
TargetClaim (integer x) = IsName x
TargetClaim (block x) = IsName x

any_call_fits : {most n : ℕ} (t : Target) (f : List ℕ) (xs : List Arg) → TargetClaim t → IsName f → Inside n (λ m. ArgsClaim most m xs) → Fits most false n any_call (λ y. y ≡ call_stmt t f xs) (call_text t f xs)
unfolding any_call plain_call owning_call callee_rule
any_call_fits unused f xs ht hf inside =
    second_fits (pair_fits {Q = λ v. v ≡ (None, xs)} answering (λ rest d. (refl, refl)) (λ y v p q. ap (λ z. answering y z) q ∙ ap (λ z. call_stmt unused z xs) p) (name_fits f hf)
    (pair_fits {P = λ o. o ≡ None} (λ o z. (o, z)) (λ rest d. (refl, refl)) (λ o z p q. ap (λ v. (o, v)) q ∙ ap (λ v. (v, xs)) p) (second_fits (nothing_fits refl)) (args_fit xs inside)))
any_call_fits (integer x) f xs ht hf inside =
    second_fits (pair_fits {Q = λ v. v ≡ (Some f, xs)} answering (λ rest d. (refl, refl)) (λ y v p q. ap (λ z. answering y z) q ∙ ap (λ z. call_stmt (integer z) f xs) p) (name_fits x ht)
    (pair_fits {P = λ o. o ≡ Some f} (λ o z. (o, z)) (λ rest d. (refl, refl)) (λ o z p q. ap (λ v. (o, v)) q ∙ ap (λ v. (v, xs)) p)
    (first_fits (then_fits (λ rest d. (refl, refl)) (gaps_fit space (gap-space, tt) reads-Assign) (gaps_fit space (gap-space, tt) (mapped_fits (λ x. Some x) (λ y q. ap (λ v. Some v) q) (name_fits f hf)))))
    (args_fit xs inside)))
any_call_fits (block x) f xs ht hf inside =
    first_fits (then_fits (λ rest d. (refl, refl)) reads-Own
    (pair_fits {Q = λ v. v ≡ (f, xs)} (λ x c. call_stmt (block x) c.0 c.1) (λ rest d. (refl, refl)) (λ y v p q. ap (λ z. call_stmt (block y) z.0 z.1) q ∙ ap (λ z. call_stmt (block z) f xs) p) (gaps_fit space (gap-space, tt) (name_fits x ht))
    (then_fits (λ rest d. (refl, refl)) (gaps_fit space (gap-space, tt) reads-Assign)
    (pair_fits (λ y z. (y, z)) (λ rest d. (refl, refl)) (λ y z p q. ap (λ v. (y, v)) q ∙ ap (λ v. (v, xs)) p) (gaps_fit space (gap-space, tt) (name_fits f hf)) (args_fit xs inside)))))

call_ends : (f : List ℕ) (xs : List Arg) → (f ++ parenthesised_args xs) ++ codes ";" ≡ f ++ (codes "(" ++ (with_commas (map arg_text xs) ++ codes ");"))
call_ends f xs = append_assoc f (parenthesised_args xs) (codes ";") ∙ ap (λ z. f ++ (40 ∷ z)) (append_assoc (with_commas (map arg_text xs)) (41 ∷ []) (codes ";"))

call_to : (x f : List ℕ) (xs : List Arg) → (x ++ (codes " = " ++ (f ++ parenthesised_args xs))) ++ codes ";" ≡ (x ++ codes " = ") ++ (f ++ (codes "(" ++ (with_commas (map arg_text xs) ++ codes ");")))
call_to x f xs =
    append_assoc x (codes " = " ++ (f ++ parenthesised_args xs)) (codes ";")
    ∙ ap (λ z. x ++ (codes " = " ++ z)) (call_ends f xs)
    ∙ sym (append_assoc x (codes " = ") (f ++ (codes "(" ++ (with_commas (map arg_text xs) ++ codes ");"))))

call_same : (margin : List ℕ) (t : Target) (f : List ℕ) (xs : List Arg) → codes "call " ++ (call_text t f xs ++ codes ";") ≡ stmt_text margin (call_stmt t f xs)
call_same margin unused f xs = ap (λ z. codes "call " ++ z) (call_ends f xs)
call_same margin (integer x) f xs = ap (λ z. codes "call " ++ z) (call_to x f xs)
call_same margin (block x) f xs = ap (λ z. codes "call own " ++ z) (call_to x f xs)

pub call_claim : {most n : ℕ} (t : Target) (f : List ℕ) (xs : List Arg) → TargetClaim t → IsName f → Inside n (λ m. ArgsClaim most m xs) → StmtClaim most n (call_stmt t f xs)
unfolding stmt_rule call_rule
call_claim t f xs ht hf inside = record {
  reads = λ margin g.
      same_fits (call_same margin t f xs)
      (second_fits (second_fits (second_fits (second_fits (second_fits (first_fits
      (behind_fits (call_stmt t f xs) (λ v q. ap (λ z. stmt_without_lines z) q) reads-Call (before_fits (λ rest d. (refl, refl)) (any_call_fits t f xs ht hf inside) reads-Semicolon))))))));
}

-- lists of statements

pub done_claim : {most n : ℕ} → BodyClaim most n done
unfolding stmts_rule
done_claim = record { reads = λ margin g. none_fits refl }

rest_opens : (margin : List ℕ) (b : Body) → Opens (line_end ++ body_text margin b)
rest_opens margin b = λ rest h. (refl, refl)

pub step_claim : {most n : ℕ} (s : ℕ × Stmt) (rest : Body) → StmtClaim most n s.1 → BodyClaim most n rest → BodyClaim most n (stepped s rest)
unfolding stmts_rule
step_claim s rest c h = record {
  reads = λ margin g.
      same_fits (append_assoc margin (stmt_text margin s.1) (line_end ++ body_text margin rest))
      (more_fits {P = SameStmt s.1} {Q = SameBody rest} (rest_opens margin rest) (λ x y p q. ap (λ z. step 0 z (body_without_lines y)) p ∙ ap (λ z. step 0 (stmt_without_lines s.1) z) q)
      (gaps_fit margin g (c.reads margin g)) (gaps_fit line_end (gap-newline, tt) (h.reads margin g)));
}
