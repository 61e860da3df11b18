-- Where all tokens of a form stand on one line, so does all of its meaning.
use Rattle.std.proofs.Common.{◌≡◌, ℕ, zero, suc, ◌+◌, Bool, List, [], ◌∷◌, ◌++◌, inl, inr, refl, sym, ap, ◌∙◌, subst}
use Rattle.std.specs.Prelude.{Option, Some, None}
use Rattle.par_tree.specs.Tree.{Expr, Arg, Stmt, let_stmt, assign_stmt, put_stmt, alloc_stmt, free_stmt, if_stmt, while_stmt, call_stmt, print_stmt, par_stmt, split_stmt, Body, done, step, Ret, Func}
use Rattle.par_text.specs.declared.kind.Kind.{Kind}
use Rattle.par_text.specs.Rule.{Token, Nonterminal, expression, factor, statements, TreeOf, Rule, nothing, token, mapped, pair, either, many, nest, within}
use Rattle.par_text.specs.Form.{Marked, Form, tokens_of}
use Rattle.par_text.specs.Text.{Nested, nested_spelling, nested_meaning}
use Rattle.par_text.specs.Grammar.{◌⊳◌, ◌⊲◌, body_rule, behind, let_rule, alloc_rule, free_rule, print_rule, written, write_rule, else_rule, if_rule, while_rule, answering, owning_call, plain_call, any_call, call_rule, par_rule, split_rule, stmt_rule, stmts_rule, ret_rule, func_body, func_rule}
use Rattle.par_text.proofs.Marks.{tokens_of-append}
use Rattle.canonical_text.proofs.Written.{spells, means_of}
use Rattle.loop_laws.proofs.Pieces.{Each, IsOnLine}

-- a tree on a line
abbrev mutual
  pub stmt_on : ℕ → Stmt → Stmt
  stmt_on n (let_stmt x e) = let_stmt x e
  stmt_on n (assign_stmt x e) = assign_stmt x e
  stmt_on n (put_stmt b i e) = put_stmt b i e
  stmt_on n (alloc_stmt b e) = alloc_stmt b e
  stmt_on n (free_stmt b) = free_stmt b
  stmt_on n (if_stmt e a b) = if_stmt e (body_on n a) (body_on n b)
  stmt_on n (while_stmt e a) = while_stmt e (body_on n a)
  stmt_on n (call_stmt t f xs) = call_stmt t f xs
  stmt_on n (print_stmt e) = print_stmt e
  stmt_on n (par_stmt a b) = par_stmt (body_on n a) (body_on n b)
  stmt_on n (split_stmt b e l r a) = split_stmt b e l r (body_on n a)

  pub body_on : ℕ → Body → Body
  body_on n done = done
  body_on n (step line s rest) = step n (stmt_on n s) (body_on n rest)

abbrev pub ret_on : ℕ → Option Ret → Option Ret
ret_on n None = None
ret_on n (Some r) = Some (record { line = n; value = r.value })

abbrev pub func_on : ℕ → Func → Func
func_on n f = record { name = f.name; params = f.params; body = body_on n f.body; ret = ret_on n f.ret; line = n }

each_front : (P : Token → Type 0) (ts us : List Token) → Each P (ts ++ us) → Each P ts
each_front P [] us h = tt
each_front P (t ∷ ts) us h = (h.0, each_front P ts us h.1)

each_behind : (P : Token → Type 0) (ts us : List Token) → Each P (ts ++ us) → Each P us
each_behind P [] us h = h
each_behind P (t ∷ ts) us h = each_behind P ts us h.1

abbrev AreOn : ℕ → List Marked → Type 0
AreOn line ms = Each (IsOnLine line) (tokens_of ms)

front_on : (line : ℕ) (ms ns : List Marked) → AreOn line (ms ++ ns) → AreOn line ms
front_on line ms ns h = each_front (IsOnLine line) (tokens_of ms) (tokens_of ns) (subst (Each (IsOnLine line)) (tokens_of-append ms ns) h)

behind_on : (line : ℕ) (ms ns : List Marked) → AreOn line (ms ++ ns) → AreOn line ns
behind_on line ms ns h = each_behind (IsOnLine line) (tokens_of ms) (tokens_of ns) (subst (Each (IsOnLine line)) (tokens_of-append ms ns) h)

-- what holds of the meaning where all tokens of the form stand on the line
pub record Tells {X : Type 0} (line size depth : ℕ) (r : Rule X) (P : X → Type 0) : Type 0 where
  pub tells : (d : Form (Nested size) r) → AreOn line (spells size depth r d) → P (means_of size r d)

abbrev Any : {X : Type 0} → X → Type 0
Any x = Unit {0}

module _ {line size depth : ℕ} where
  tells_any : {X : Type 0} {r : Rule X} → Tells line size depth r Any
  tells_any = record { tells = λ d h. tt }

  tells_nothing : {X : Type 0} {x : X} {P : X → Type 0} → P x → Tells line size depth (nothing x) P
  tells_nothing p = record { tells = λ d h. p }

  tells_token : {j : Kind} → Tells line size depth (token j) (IsOnLine line)
  tells_token = record { tells = λ d h. h.0 }

  tells_mapped : {A X : Type 0} {a : Rule A} {P : A → Type 0} {R : X → Type 0} {f : A → X} → ((x : A) → P x → R (f x)) → Tells line size depth a P → Tells line size depth (mapped f a) R
  tells_mapped h a = record { tells = λ d s. h _ (a.tells d s) }

  tells_pair : {A B X : Type 0} {a : Rule A} {b : Rule B} {P : A → Type 0} {Q : B → Type 0} {R : X → Type 0} {f : A → B → X} → ((x : A) (y : B) → P x → Q y → R (f x y)) → Tells line size depth a P → Tells line size depth b Q → Tells line size depth (pair f a b) R
  tells_pair {a = a} {b = b} h p q = record {
    tells = λ d s. h _ _ (p.tells d.0 (front_on line (spells size depth a d.0) (spells size depth b d.1) s)) (q.tells d.1 (behind_on line (spells size depth a d.0) (spells size depth b d.1) s));
  }

  tells_then : {A X : Type 0} {a : Rule A} {b : Rule X} {P : X → Type 0} → Tells line size depth b P → Tells line size depth (a ⊳ b) P
  tells_then q = tells_pair (λ x y p h. h) tells_any q

  tells_before : {A X : Type 0} {a : Rule X} {b : Rule A} {P : X → Type 0} → Tells line size depth a P → Tells line size depth (a ⊲ b) P
  tells_before p = tells_pair (λ x y h q. h) p tells_any

  tells_either : {X : Type 0} {ks : Kind → Bool} {a b : Rule X} {P : X → Type 0} → Tells line size depth a P → Tells line size depth b P → Tells line size depth (either ks a b) P
  tells_either {X} {ks} {a} {b} {P} p q = record { tells = go }
    where
      go : (d : Form (Nested size) (either ks a b)) → AreOn line (spells size depth (either ks a b) d) → P (means_of size (either ks a b) d)
      go (inl d) s = p.tells d s
      go (inr d) s = q.tells d s

  tells_many : {A X : Type 0} {ks : Kind → Bool} {f : A → X → X} {z : X} {a : Rule A} {P : A → Type 0} {R : X → Type 0} → R z → ((x : A) (y : X) → P x → R y → R (f x y)) → Tells line size depth a P → Tells line size depth (many ks f z a) R
  tells_many {A} {X} {ks} {f} {z} {a} {P} {R} none more p = record { tells = go }
    where
      go : (ds : List (Form (Nested size) a)) → AreOn line (spells size depth (many ks f z a) ds) → R (means_of size (many ks f z a) ds)
      go [] s = none
      go (d ∷ ds) s =
          more _ _ (p.tells d (front_on line (spells size depth a d) (spells size depth (many ks f z a) ds) s))
          (go ds (behind_on line (spells size depth a d) (spells size depth (many ks f z a) ds) s))

  tells_nest : {X : Type 0} {j : Kind} {a : Rule X} {P : X → Type 0} → Tells line size (depth + 1) a P → Tells line size depth (nest j a) P
  tells_nest p = record { tells = λ d s. p.tells d.1 s.1 }

  tells_within : {X : Type 0} {s : Nonterminal} {P : TreeOf s → Type 0} {R : X → Type 0} {f : TreeOf s → X} → ((x : TreeOf s) → P x → R (f x)) → ((d : Nested size s) → AreOn line (nested_spelling size depth s d) → P (nested_meaning size s d)) → Tells line size depth (within s f) R
  tells_within h p = record { tells = λ d s. h _ (p d s) }

-- all of a statement, and of a list, stands on the line

abbrev BodyOn : ℕ → Body → Type 0
BodyOn line b = body_on line b ≡ b

abbrev StmtOn : ℕ → ℕ × Stmt → Type 0
StmtOn line s = (s.0 ≡ line) × (stmt_on line s.1 ≡ s.1)

abbrev InnerOn : ℕ → (s : Nonterminal) → TreeOf s → Type 0
InnerOn line expression e = Unit {0}
InnerOn line factor e = Unit {0}
InnerOn line statements b = BodyOn line b

abbrev Known : ℕ → ℕ → Type 0
Known line size = (s : Nonterminal) (depth : ℕ) (d : Nested size s) → AreOn line (nested_spelling size depth s d) → InnerOn line s (nested_meaning size s d)

answering_on : (line : ℕ) (x : List ℕ) (v : Option (List ℕ) × List Arg) → stmt_on line (answering x v) ≡ answering x v
answering_on line x (None, xs) = refl
answering_on line x (Some f, xs) = refl

written_on : (line : ℕ) (x : List ℕ) (v : Option Expr × Expr) → stmt_on line (written x v) ≡ written x v
written_on line x (None, e) = refl
written_on line x (Some i, e) = refl

module _ {line size : ℕ} (known : Known line size) where
  module _ {depth : ℕ} where
    -- a statement that has no list
    plain_on : {X : Type 0} {j : Kind} {f : X → Stmt} {r : Rule X} → ((x : X) → stmt_on line (f x) ≡ f x) → Tells line size depth (behind j f r) (StmtOn line)
    plain_on h = tells_pair (λ t x p q. (p, h x)) tells_token tells_any

    tells_body : Tells line size depth body_rule (BodyOn line)
    unfolding body_rule
    tells_body = tells_nest (tells_before (tells_within {s = statements} (λ x h. h) (λ d s. known statements (depth + 1) d s)))

    tells_call : Tells line size depth any_call (λ s. stmt_on line s ≡ s)
    unfolding any_call owning_call plain_call
    tells_call = tells_either (tells_then (tells_pair {P = Any} {Q = Any} (λ x c p q. refl) tells_any tells_any)) (tells_pair {P = Any} {Q = Any} (λ x v p q. answering_on line x v) tells_any tells_any)

    tells_if : Tells line size depth if_rule (StmtOn line)
    unfolding if_rule else_rule
    tells_if =
        tells_pair {Q = λ v. BodyOn line v.1.0 × BodyOn line v.1.1} (λ t v p q. (p, ap (λ z. if_stmt v.0 z (body_on line v.1.1)) q.0 ∙ ap (λ z. if_stmt v.0 v.1.0 z) q.1)) tells_token
        (tells_pair {P = Any} {Q = λ v. BodyOn line v.0 × BodyOn line v.1} (λ x y p q. q) tells_any
        (tells_pair {P = BodyOn line} {Q = BodyOn line} (λ x y p q. (p, q)) tells_body (tells_either (tells_then tells_body) (tells_nothing refl))))

    tells_while : Tells line size depth while_rule (StmtOn line)
    unfolding while_rule
    tells_while =
        tells_pair {Q = λ v. BodyOn line v.1} (λ t v p q. (p, ap (λ z. while_stmt v.0 z) q)) tells_token
        (tells_pair {P = Any} {Q = BodyOn line} (λ x y p q. q) tells_any tells_body)

    tells_par : Tells line size depth par_rule (StmtOn line)
    unfolding par_rule
    tells_par =
        tells_pair {Q = λ v. BodyOn line v.0 × BodyOn line v.1} (λ t v p q. (p, ap (λ z. par_stmt z (body_on line v.1)) q.0 ∙ ap (λ z. par_stmt v.0 z) q.1)) tells_token
        (tells_pair {P = BodyOn line} {Q = BodyOn line} (λ x y p q. (p, q)) tells_body (tells_then tells_body))

    tells_split : Tells line size depth split_rule (StmtOn line)
    unfolding split_rule
    tells_split =
        tells_pair {Q = λ v. BodyOn line v.1.1.1} (λ t v p q. (p, ap (λ z. split_stmt v.0 v.1.0 v.1.1.0.0 v.1.1.0.1 z) q)) tells_token
        (tells_pair {P = Any} {Q = λ v. BodyOn line v.1.1} (λ x y p q. q) tells_any
        (tells_then (tells_pair {P = Any} {Q = λ v. BodyOn line v.1} (λ x y p q. q) tells_any
        (tells_then (tells_pair {P = Any} {Q = BodyOn line} (λ x y p q. q) tells_any tells_body)))))

    tells_stmt : Tells line size depth stmt_rule (StmtOn line)
    unfolding stmt_rule let_rule alloc_rule free_rule call_rule print_rule write_rule
    tells_stmt =
        tells_either (plain_on (λ v. refl)) (tells_either (plain_on (λ v. refl)) (tells_either (plain_on (λ v. refl))
        (tells_either tells_if (tells_either tells_while
        (tells_either (tells_pair {Q = λ s. stmt_on line s ≡ s} (λ t s p q. (p, q)) tells_token (tells_before tells_call))
        (tells_either (plain_on (λ v. refl)) (tells_either tells_par (tells_either tells_split
        (tells_pair {Q = Any} (λ t v p q. (p, written_on line t.bytes v)) tells_token tells_any)))))))))

    tells_stmts : Tells line size depth stmts_rule (BodyOn line)
    unfolding stmts_rule
    tells_stmts =
        tells_many {P = StmtOn line} refl (λ s rest p q. ap (λ z. step line z (body_on line rest)) p.1 ∙ ap (λ z. step line s.1 z) q ∙ ap (λ z. step z s.1 rest) (sym p.0)) tells_stmt

all_known : (line size : ℕ) → Known line size
all_known line zero s depth d h = absurd d
all_known line (suc size) expression depth d h = tt
all_known line (suc size) factor depth d h = tt
all_known line (suc size) statements depth d h = (tells_stmts (all_known line size)).tells d h

pub tells_func : {line size depth : ℕ} → Tells line size depth func_rule (λ f. func_on line f ≡ f)
unfolding func_rule func_body ret_rule
tells_func {line} {size} {depth} =
    tells_pair {Q = λ v. BodyOn line v.1.1.0 × (ret_on line v.1.1.1 ≡ v.1.1.1)}
    (λ t v p q.
    ap (λ z. record { name = v.0; params = v.1.0; body = z; ret = ret_on line v.1.1.1; line = line }) q.0
    ∙ ap (λ z. record { name = v.0; params = v.1.0; body = v.1.1.0; ret = z; line = line }) q.1
    ∙ ap (λ z. record { name = v.0; params = v.1.0; body = v.1.1.0; ret = v.1.1.1; line = z }) (sym p))
    tells_token
    (tells_pair {P = Any} {Q = λ v. BodyOn line v.1.0 × (ret_on line v.1.1 ≡ v.1.1)} (λ x y p q. q) tells_any
    (tells_pair {P = Any} {Q = λ v. BodyOn line v.0 × (ret_on line v.1 ≡ v.1)} (λ x y p q. q) tells_any
    (tells_nest (tells_before
    (tells_pair {P = BodyOn line} {Q = λ r. ret_on line r ≡ r} (λ x y p q. (p, q))
    (tells_within {s = statements} (λ x h. h) (λ d s. all_known line size statements (depth + 1) d s))
    (tells_either (tells_pair {Q = Any} (λ t v p q. ap (λ z. Some (record { line = z; value = v })) (sym p)) tells_token tells_any) (tells_nothing refl)))))))
