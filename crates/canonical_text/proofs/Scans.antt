-- The count of names in the tokens of a form is that of its meaning.
use Rattle.std.proofs.Common.{◌≡◌, ℕ, zero, suc, ◌+◌, Bool, true, false, List, [], ◌∷◌, ◌++◌, inl, inr, refl, sym, ap, ◌∙◌, subst, arith}
use Rattle.std.specs.Prelude.{◌&&◌, ◌||◌, not, Option, Some, None}
use Rattle.par_tree.specs.Tree.{Expr, Target, unused, integer, block, Arg, Stmt, let_stmt, assign_stmt, put_stmt, alloc_stmt, free_stmt, if_stmt, while_stmt, call_stmt, print_stmt, par_stmt, split_stmt, Body, done, step}
use Rattle.par_text.specs.declared.kind.Kind.{Kind}
use Rattle.par_text.specs.declared.kind.Kind.TheVariants as k
use Rattle.par_text.specs.Kinds.{is}
use Rattle.par_text.specs.Rule.{Token, Nonterminal, expression, factor, statements, TreeOf, Rule, nothing, token, mapped, pair, either, many, nest, within}
use Rattle.par_text.specs.Form.{Marked, Form, tokens_of}
use Rattle.par_text.specs.Text.{Nested, nested_spelling, nested_meaning}
use Rattle.par_text.specs.Counts.{Before, after}
use Rattle.par_text.specs.Grammar.{◌⊳◌, ◌⊲◌, name, index_rule, extent_rule, group_rule, sign_rule, number_rule, factor_rule, term_operator, term_link, term_links, term_rule, sum_operator, sum_link, sum_links, sum_rule, comparison, compared_rule, expr_rule, body_rule, behind, named_value, let_rule, alloc_rule, free_rule, print_rule, written, written_value, write_rule, else_rule, if_rule, while_rule, arg_rule, next_arg, more_args, arg_list, args_rule, answering, callee_rule, owning_call, plain_call, any_call, call_rule, par_rule, parts_rule, split_rule, stmt_rule, stmts_rule}
use Rattle.par_text.proofs.Marks.{tokens_of-append}
use Rattle.par_text.proofs.KindLemmas.{both_true}
use Rattle.canonical_text.specs.Lines.{stmt_without_lines, body_without_lines}
use Rattle.canonical_text.proofs.Written.{spells, means_of}
use Rattle.canonical_text.proofs.Counting.{afters, afters-append, Calm, Plain, Adds, no_adds, adds_both, one_plain, let_adds, alloc_adds, call_adds, own_adds, into_adds}

-- the names that statements declare
abbrev pub target_names : Target → ℕ
target_names unused = 0
target_names (integer x) = 0
target_names (block x) = 1

abbrev mutual
  pub stmt_names : Stmt → ℕ
  stmt_names (let_stmt x e) = 1
  stmt_names (assign_stmt x e) = 0
  stmt_names (put_stmt b i e) = 0
  stmt_names (alloc_stmt b e) = 1
  stmt_names (free_stmt b) = 0
  stmt_names (if_stmt e a b) = body_names a + body_names b
  stmt_names (while_stmt e a) = body_names a
  stmt_names (call_stmt t f xs) = target_names t
  stmt_names (print_stmt e) = 0
  stmt_names (par_stmt a b) = body_names a + body_names b
  stmt_names (split_stmt b e l r a) = 2 + body_names a

  pub body_names : Body → ℕ
  body_names done = 0
  body_names (step line s rest) = stmt_names s + body_names rest

mutual
  stmt_names-lines : (s : Stmt) → stmt_names (stmt_without_lines s) ≡ stmt_names s
  stmt_names-lines (let_stmt x e) = refl
  stmt_names-lines (assign_stmt x e) = refl
  stmt_names-lines (put_stmt b i e) = refl
  stmt_names-lines (alloc_stmt b e) = refl
  stmt_names-lines (free_stmt b) = refl
  stmt_names-lines (if_stmt e a b) = ap (λ n. n + body_names (body_without_lines b)) (body_names-lines a) ∙ ap (λ n. body_names a + n) (body_names-lines b)
  stmt_names-lines (while_stmt e a) = body_names-lines a
  stmt_names-lines (call_stmt t f xs) = refl
  stmt_names-lines (print_stmt e) = refl
  stmt_names-lines (par_stmt a b) = ap (λ n. n + body_names (body_without_lines b)) (body_names-lines a) ∙ ap (λ n. body_names a + n) (body_names-lines b)
  stmt_names-lines (split_stmt b e l r a) = ap (λ n. 2 + n) (body_names-lines a)

  pub body_names-lines : (b : Body) → body_names (body_without_lines b) ≡ body_names b
  body_names-lines done = refl
  body_names-lines (step line s rest) = ap (λ n. n + body_names (body_without_lines rest)) (stmt_names-lines s) ∙ ap (λ n. stmt_names s + n) (body_names-lines rest)

adds_is : {m n : ℕ} {b c : Before} → m ≡ n → Adds m b c → Adds n b c
adds_is {b = b} {c = c} e a = subst (λ (n : ℕ). Adds n b c) e a

-- The tokens of a form, behind what w adds, declare as many names as c says of its meaning.
pub record Scans {X : Type 0} (size : ℕ) (w : Before → Before) (r : Rule X) (c : X → ℕ) : Type 0 where
  pub scans : (depth : ℕ) (d : Form (Nested size) r) (b : Before) → Calm b → Adds (c (means_of size r d)) b (afters (w b) (tokens_of (spells size depth r d)))

abbrev pub same : Before → Before
same b = b

pub afters-tokens : (b : Before) (ms ns : List Marked) → afters b (tokens_of (ms ++ ns)) ≡ afters (afters b (tokens_of ms)) (tokens_of ns)
afters-tokens b ms ns = ap (afters b) (tokens_of-append ms ns) ∙ afters-append b (tokens_of ms) (tokens_of ns)

module _ {size : ℕ} where
  pub scan_token : {w : Before → Before} {j : Kind} {c : Token → ℕ} (n : ℕ) → ((t : Token) → n ≡ c t) → ((b : Before) → Calm b → Adds n b (after (w b) j)) → Scans size w (token j) c
  scan_token {w} n h g = record { scans = λ depth d b calm. adds_is (h d.0) (subst (λ (i : Kind). Adds n b (after (w b) i)) (sym d.1) (g b calm)) }

  pub scan_mapped : {w : Before → Before} {A X : Type 0} {a : Rule A} {f : A → X} {ca : A → ℕ} {c : X → ℕ} → ((x : A) → ca x ≡ c (f x)) → Scans size w a ca → Scans size w (mapped f a) c
  scan_mapped h s = record { scans = λ depth d b calm. adds_is (h _) (s.scans depth d b calm) }

  pub scan_name : {w : Before → Before} {c : List ℕ → ℕ} (n : ℕ) → ((x : List ℕ) → n ≡ c x) → ((b : Before) → Calm b → Adds n b (after (w b) k.Name)) → Scans size w name c
  unfolding name
  scan_name {w} {c} n h g = record { scans = λ depth d b calm. adds_is (h d.0.bytes) (subst (λ (i : Kind). Adds n b (after (w b) i)) (sym d.1) (g b calm)) }

  pub scan_pair : {w : Before → Before} {A B X : Type 0} {a : Rule A} {r : Rule B} {f : A → B → X} {ca : A → ℕ} {cb : B → ℕ} {c : X → ℕ} → ((x : A) (y : B) → ca x + cb y ≡ c (f x y)) → Scans size w a ca → Scans size same r cb → Scans size w (pair f a r) c
  scan_pair {w} {a = a} {r = r} {ca = ca} {cb = cb} h s t = record {
    scans = λ depth d b calm.
        let first = s.scans depth d.0 b calm in
        let second = t.scans depth d.1 (afters (w b) (tokens_of (spells size depth a d.0))) first.calm in
        adds_is (h _ _)
        (subst (λ (x : Before). Adds (ca (means_of size a d.0) + cb (means_of size r d.1)) b x) (sym (afters-tokens (w b) (spells size depth a d.0) (spells size depth r d.1)))
        (adds_both (ca (means_of size a d.0)) (cb (means_of size r d.1)) b _ _ first second));
  }

  -- a token in front that leaves the count open
  pub scan_lead : {w : Before → Before} {B X : Type 0} {j : Kind} {r : Rule B} {f : Token → B → X} {cb : B → ℕ} {c : X → ℕ} → ((t : Token) (y : B) → cb y ≡ c (f t y)) → Scans size (λ b. after (w b) j) r cb → Scans size w (pair f (token j) r) c
  scan_lead {w} {r = r} {cb = cb} h s = record {
    scans = λ depth d b calm. adds_is (h _ _) (subst (λ (i : Kind). Adds (cb (means_of size r d.1)) b (afters (after (w b) i) (tokens_of (spells size depth r d.1)))) (sym d.0.1) (s.scans depth d.1 b calm));
  }

  pub scan_lead_name : {w : Before → Before} {B X : Type 0} {r : Rule B} {f : List ℕ → B → X} {cb : B → ℕ} {c : X → ℕ} → ((x : List ℕ) (y : B) → cb y ≡ c (f x y)) → Scans size (λ b. after (w b) k.Name) r cb → Scans size w (pair f name r) c
  unfolding name
  scan_lead_name {w} {r = r} {cb = cb} h s = record {
    scans = λ depth d b calm. adds_is (h _ _) (subst (λ (i : Kind). Adds (cb (means_of size r d.1)) b (afters (after (w b) i) (tokens_of (spells size depth r d.1)))) (sym d.0.1) (s.scans depth d.1 b calm));
  }

  pub scan_either : {w : Before → Before} {X : Type 0} {ks : Kind → Bool} {a r : Rule X} {c : X → ℕ} → Scans size w a c → Scans size w r c → Scans size w (either ks a r) c
  scan_either {w} {X} {ks} {a} {r} {c} s t = record { scans = go }
    where
      go : (depth : ℕ) (d : Form (Nested size) (either ks a r)) (b : Before) → Calm b → Adds (c (means_of size (either ks a r) d)) b (afters (w b) (tokens_of (spells size depth (either ks a r) d)))
      go depth (inl d) b calm = s.scans depth d b calm
      go depth (inr d) b calm = t.scans depth d b calm

  pub scan_nothing : {X : Type 0} {x : X} {c : X → ℕ} → 0 ≡ c x → Scans size same (nothing x) c
  scan_nothing h = record { scans = λ depth d b calm. adds_is h (no_adds b calm) }

  pub scan_many : {A X : Type 0} {ks : Kind → Bool} {f : A → X → X} {z : X} {a : Rule A} {ca : A → ℕ} {c : X → ℕ} → 0 ≡ c z → ((x : A) (y : X) → ca x + c y ≡ c (f x y)) → Scans size same a ca → Scans size same (many ks f z a) c
  scan_many {A} {X} {ks} {f} {z} {a} {ca} {c} none more s = record { scans = go }
    where
      go : (depth : ℕ) (ds : List (Form (Nested size) a)) (b : Before) → Calm b → Adds (c (means_of size (many ks f z a) ds)) b (afters b (tokens_of (spells size depth (many ks f z a) ds)))
      go depth [] b calm = adds_is none (no_adds b calm)
      go depth (d ∷ ds) b calm =
          let first = s.scans depth d b calm in
          let second = go depth ds (afters b (tokens_of (spells size depth a d))) first.calm in
          adds_is (more _ _)
          (subst (λ (x : Before). Adds (ca (means_of size a d) + c (means_of size (many ks f z a) ds)) b x) (sym (afters-tokens b (spells size depth a d) (spells size depth (many ks f z a) ds)))
          (adds_both (ca (means_of size a d)) (c (means_of size (many ks f z a) ds)) b _ _ first second))

  pub scan_nest : {X : Type 0} {j : Kind} {a : Rule X} {c : X → ℕ} → Plain j → Scans size same a c → Scans size same (nest j a) c
  scan_nest {X} {j} {a} {c} p s = record {
    scans = λ depth d b calm.
        let first = one_plain b j calm p in
        let second = s.scans (depth + 1) d.1 (after b j) first.calm in
        subst (λ (i : Kind). Adds (c (means_of size a d.1)) b (afters (after b i) (tokens_of (spells size (depth + 1) a d.1)))) (sym d.0.1)
        (adds_is (let e : 0 + c (means_of size a d.1) ≡ c (means_of size a d.1) = omega arith in e) (adds_both 0 (c (means_of size a d.1)) b _ _ first second));
  }

  pub plain_token : {j : Kind} {c : Token → ℕ} → ((t : Token) → 0 ≡ c t) → Plain j → Scans size same (token j) c
  plain_token {j} h p = scan_token 0 h (λ b calm. one_plain b j calm p)

-- what is known of the forms of the nonterminals
abbrev pub inner_names : (s : Nonterminal) → TreeOf s → ℕ
inner_names expression e = 0
inner_names factor e = 0
inner_names statements b = body_names b

abbrev pub Counts : ℕ → Type 0
Counts size = (s : Nonterminal) (depth : ℕ) (d : Nested size s) (b : Before) → Calm b → Adds (inner_names s (nested_meaning size s d)) b (afters b (tokens_of (nested_spelling size depth s d)))

-- rules whose tokens declare nothing

abbrev is_plain : Kind → Bool
is_plain j = not (is k.Fn j || (is k.Let j || (is k.Alloc j || (is k.Into j || is k.Call j))))

or_false : (a b : Bool) → (a || b) ≡ false → (a ≡ false) × (b ≡ false)
or_false true b e = cc
or_false false b e = (refl, e)

not_true : (a : Bool) → not a ≡ true → a ≡ false
not_true true e = cc
not_true false e = refl

plain_from : (j : Kind) → is_plain j ≡ true → Plain j
plain_from j e =
    let (a, p) = or_false (is k.Fn j) _ (not_true _ e) in
    let (b, q) = or_false (is k.Let j) _ p in
    let (c, r) = or_false (is k.Alloc j) _ q in
    let (d, f) = or_false (is k.Into j) (is k.Call j) r in
    record { no_fn = a; no_let = b; no_alloc = c; no_into = d; no_call = f }

abbrev no_statements : Nonterminal → Bool
no_statements expression = true
no_statements factor = true
no_statements statements = false

abbrev all_plain : {X : Type 0} → Rule X → Bool
all_plain (nothing x) = true
all_plain (token j) = is_plain j
all_plain (mapped f a) = all_plain a
all_plain (pair f a b) = all_plain a && all_plain b
all_plain (either ks a b) = all_plain a && all_plain b
all_plain (many ks f z a) = all_plain a
all_plain (nest j a) = is_plain j && all_plain a
all_plain (within s f) = no_statements s

abbrev pub Nothing : {X : Type 0} → X → ℕ
Nothing x = 0

module _ {size : ℕ} (counts : Counts size) where
  within_plain : {X : Type 0} (s : Nonterminal) (f : TreeOf s → X) → no_statements s ≡ true → Scans size same (within s f) Nothing
  within_plain expression f e = record { scans = λ depth d b calm. counts expression depth d b calm }
  within_plain factor f e = record { scans = λ depth d b calm. counts factor depth d b calm }
  within_plain statements f e = absurd (never e)
    where
      never : false ≡ true → ⊥
      never e = cc

  pub scan_plain : {X : Type 0} (r : Rule X) → all_plain r ≡ true → Scans size same r Nothing
  scan_plain (nothing x) e = scan_nothing refl
  scan_plain (token j) e = plain_token (λ t. refl) (plain_from j e)
  scan_plain (mapped f a) e = scan_mapped (λ x. refl) (scan_plain a e)
  scan_plain (pair f a b) e = let (p, q) = both_true _ _ e in scan_pair (λ x y. let z : 0 + 0 ≡ 0 = omega arith in z) (scan_plain a p) (scan_plain b q)
  scan_plain (either ks a b) e = let (p, q) = both_true _ _ e in scan_either (scan_plain a p) (scan_plain b q)
  scan_plain (many ks f z a) e = scan_many refl (λ x y. let z : 0 + 0 ≡ 0 = omega arith in z) (scan_plain a e)
  scan_plain (nest j a) e = let (p, q) = both_true _ _ e in scan_nest (plain_from j p) (scan_plain a q)
  scan_plain (within s f) e = within_plain s f e

-- statements

zero_more : (n : ℕ) → 0 + n ≡ n
zero_more n = omega arith

more_zero : (n : ℕ) → n + 0 ≡ n
more_zero n = omega arith

written_names : (x : List ℕ) (v : Option Expr × Expr) → 0 ≡ stmt_names (written x v)
written_names x (None, e) = refl
written_names x (Some i, e) = refl

answering_names : (x : List ℕ) (v : Option (List ℕ) × List Arg) → 0 ≡ stmt_names (answering x v)
answering_names x (None, xs) = refl
answering_names x (Some f, xs) = refl

abbrev StepNames : ℕ × Stmt → ℕ
StepNames s = stmt_names s.1

abbrev TwoNames : Body × Body → ℕ
TwoNames v = body_names v.0 + body_names v.1

module _ {size : ℕ} (counts : Counts size) where
  scan_expr : Scans size same expr_rule Nothing
  unfolding expr_rule compared_rule comparison sum_rule sum_links sum_link sum_operator term_rule term_links term_link term_operator factor_rule extent_rule group_rule sign_rule number_rule index_rule name
  scan_expr = scan_plain counts expr_rule refl

  scan_factor : Scans size same factor_rule Nothing
  unfolding factor_rule extent_rule group_rule sign_rule number_rule index_rule name
  scan_factor = scan_plain counts factor_rule refl

  scan_index : Scans size same index_rule Nothing
  unfolding index_rule
  scan_index = scan_plain counts index_rule refl

  scan_value : Scans size same (token k.Assign ⊳ expr_rule ⊲ token k.Semicolon) Nothing
  scan_value = scan_pair {ca = Nothing} {cb = Nothing} (λ x y. refl) (scan_pair {ca = Nothing} {cb = Nothing} (λ x y. refl) (plain_token (λ t. refl) (plain_from k.Assign refl)) scan_expr) (plain_token (λ t. refl) (plain_from k.Semicolon refl))

  scan_args : Scans size same args_rule Nothing
  unfolding args_rule arg_list more_args next_arg arg_rule name
  scan_args = scan_plain counts args_rule refl

  scan_body : Scans size same body_rule body_names
  unfolding body_rule
  scan_body =
      scan_nest (plain_from k.LeftBrace refl)
      (scan_pair {ca = body_names} {cb = Nothing} (λ x y. more_zero (body_names x)) (record { scans = λ depth d b calm. counts statements depth d b calm }) (plain_token (λ t. refl) (plain_from k.RightBrace refl)))

  -- a plain word and what stands behind it
  scan_behind : {X : Type 0} {j : Kind} {f : X → Stmt} {r : Rule X} {c : X → ℕ} → Plain j → ((x : X) → c x ≡ stmt_names (f x)) → Scans size same r c → Scans size same (behind j f r) StepNames
  scan_behind {c = c} p h s = scan_pair {ca = Nothing} {cb = c} (λ t x. zero_more (c x) ∙ h x) (plain_token (λ t. refl) p) s

  scan_let : Scans size same let_rule StepNames
  unfolding let_rule named_value
  scan_let =
      scan_lead {cb = λ v. 1} (λ t y. refl)
      (scan_pair {ca = λ x. 1} {cb = Nothing} (λ x y. refl) (scan_name 1 (λ x. refl) let_adds) scan_value)

  scan_alloc : Scans size same alloc_rule StepNames
  unfolding alloc_rule named_value
  scan_alloc =
      scan_lead {cb = λ v. 1} (λ t y. refl)
      (scan_pair {ca = λ x. 1} {cb = Nothing} (λ x y. refl) (scan_name 1 (λ x. refl) alloc_adds) scan_value)

  scan_free : Scans size same free_rule StepNames
  unfolding free_rule name
  scan_free = scan_behind {c = Nothing} (plain_from k.Free refl) (λ x. refl) (scan_plain counts (name ⊲ token k.Semicolon) refl)

  scan_print : Scans size same print_rule StepNames
  unfolding print_rule
  scan_print = scan_behind {c = Nothing} (plain_from k.Print refl) (λ x. refl) (scan_pair {ca = Nothing} {cb = Nothing} (λ x y. refl) scan_expr (plain_token (λ t. refl) (plain_from k.Semicolon refl)))

  scan_write : Scans size same write_rule StepNames
  unfolding write_rule written_value
  scan_write =
      scan_pair {ca = Nothing} {cb = Nothing} (λ t v. zero_more 0 ∙ written_names t.bytes v) (plain_token (λ t. refl) (plain_from k.Name refl)) (scan_pair {ca = Nothing} {cb = Nothing} (λ x y. refl) scan_index scan_value)

  scan_else : Scans size same else_rule body_names
  unfolding else_rule
  scan_else = scan_either (scan_pair {ca = Nothing} {cb = body_names} (λ x y. zero_more (body_names y)) (plain_token (λ t. refl) (plain_from k.Else refl)) scan_body) (scan_nothing refl)

  scan_if : Scans size same if_rule StepNames
  unfolding if_rule
  scan_if =
      scan_behind {c = λ v. TwoNames v.1} (plain_from k.If refl) (λ v. refl)
      (scan_pair {ca = Nothing} {cb = TwoNames} (λ x y. zero_more (TwoNames y)) scan_expr (scan_pair {ca = body_names} {cb = body_names} (λ x y. refl) scan_body scan_else))

  scan_while : Scans size same while_rule StepNames
  unfolding while_rule
  scan_while = scan_behind {c = λ v. body_names v.1} (plain_from k.While refl) (λ v. refl) (scan_pair {ca = Nothing} {cb = body_names} (λ x y. zero_more (body_names y)) scan_expr scan_body)

  scan_par : Scans size same par_rule StepNames
  unfolding par_rule
  scan_par =
      scan_behind {c = TwoNames} (plain_from k.Par refl) (λ v. refl)
      (scan_pair {ca = body_names} {cb = body_names} (λ x y. refl) scan_body (scan_pair {ca = Nothing} {cb = body_names} (λ x y. zero_more (body_names y)) (plain_token (λ t. refl) (plain_from k.And refl)) scan_body))

  scan_split : Scans size same split_rule StepNames
  unfolding split_rule parts_rule
  scan_split =
      scan_behind {c = λ v. 2 + body_names v.1.1.1} (plain_from k.Split refl) (λ v. refl)
      (scan_pair {ca = Nothing} {cb = λ v. 2 + body_names v.1.1} (λ x y. zero_more (2 + body_names y.1.1)) (scan_name 0 (λ x. refl) (λ b calm. one_plain b k.Name calm (plain_from k.Name refl)))
      (scan_pair {ca = Nothing} {cb = λ v. 2 + body_names v.1.1} (λ x y. zero_more (2 + body_names y.1.1)) (plain_token (λ t. refl) (plain_from k.At refl))
      (scan_pair {ca = Nothing} {cb = λ v. 2 + body_names v.1} (λ x y. zero_more (2 + body_names y.1)) scan_expr
      (scan_lead {cb = λ v. 2 + body_names v.1} (λ t y. refl)
      (scan_pair {ca = λ v. 2} {cb = body_names} (λ x y. refl)
      (scan_lead_name {cb = λ v. 2} (λ x y. refl) (scan_lead {cb = λ v. 2} (λ t y. refl) (scan_name 2 (λ x. refl) into_adds)))
      scan_body)))))

  scan_callee : Scans size same callee_rule Nothing
  unfolding callee_rule name
  scan_callee = scan_plain counts callee_rule refl

  scan_call : Scans size same call_rule StepNames
  unfolding call_rule any_call owning_call plain_call
  scan_call =
      scan_lead {cb = stmt_names} (λ t y. refl)
      (scan_pair {ca = stmt_names} {cb = Nothing} (λ x y. more_zero (stmt_names x))
      (scan_either
      (scan_lead {cb = stmt_names} (λ t y. refl)
      (scan_pair {ca = λ x. 1} {cb = Nothing} (λ x y. refl) (scan_name 1 (λ x. refl) own_adds)
      (scan_pair {ca = Nothing} {cb = Nothing} (λ x y. refl) (plain_token (λ t. refl) (plain_from k.Assign refl))
      (scan_pair {ca = Nothing} {cb = Nothing} (λ x y. refl) (scan_name 0 (λ x. refl) (λ b calm. one_plain b k.Name calm (plain_from k.Name refl))) scan_args))))
      (scan_pair {ca = Nothing} {cb = Nothing} (λ x v. zero_more 0 ∙ answering_names x v) (scan_name 0 (λ x. refl) call_adds) (scan_pair {ca = Nothing} {cb = Nothing} (λ x y. refl) scan_callee scan_args)))
      (plain_token (λ t. refl) (plain_from k.Semicolon refl)))

  scan_stmt : Scans size same stmt_rule StepNames
  unfolding stmt_rule
  scan_stmt = scan_either scan_let (scan_either scan_alloc (scan_either scan_free (scan_either scan_if (scan_either scan_while (scan_either scan_call (scan_either scan_print (scan_either scan_par (scan_either scan_split scan_write))))))))

  scan_stmts : Scans size same stmts_rule body_names
  unfolding stmts_rule
  scan_stmts = scan_many {ca = StepNames} refl (λ s rest. refl) scan_stmt

pub counts_all : (size : ℕ) → Counts size
counts_all zero s depth d b calm = absurd d
counts_all (suc size) expression depth d b calm = (scan_expr (counts_all size)).scans depth d b calm
counts_all (suc size) factor depth d b calm = (scan_factor (counts_all size)).scans depth d b calm
counts_all (suc size) statements depth d b calm = (scan_stmts (counts_all size)).scans depth d b calm
