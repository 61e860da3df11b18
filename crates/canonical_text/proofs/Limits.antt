-- A program is within the limits of functions and names by its tree, whatever its form.
use Rattle.std.proofs.Common.{◌≡◌, ℕ, zero, suc, ◌+◌, ◌≤◌, Bool, true, false, cond, List, [], ◌∷◌, ◌++◌, length, inl, inr, refl, sym, ap, ◌∙◌, subst, arith}
use Rattle.std.specs.Prelude.{◌&&◌, ◌||◌, not}
use Rattle.par_tree.specs.Tree.{Func, Program}
use Rattle.par_text.specs.declared.kind.Kind.{Kind}
use Rattle.par_text.specs.declared.kind.Kind.TheVariants as k
use Rattle.par_text.specs.Kinds.{is}
use Rattle.par_text.specs.Rule.{Token, Nonterminal, expression, factor, statements, Rule, nothing, token, mapped, pair, either, many, nest, within}
use Rattle.par_text.specs.Form.{Marked, Form, tokens_of}
use Rattle.par_text.specs.Text.{Nested, nested_spelling}
use Rattle.par_text.specs.Counts.{Before, after, is_declared, most_functions, most_names}
use Rattle.par_text.specs.Grammar.{rule, name, index_rule, extent_rule, group_rule, sign_rule, number_rule, factor_rule, term_operator, term_link, term_links, term_rule, sum_operator, sum_link, sum_links, sum_rule, comparison, compared_rule, expr_rule, body_rule, named_value, let_rule, alloc_rule, free_rule, print_rule, written_value, write_rule, else_rule, if_rule, while_rule, arg_rule, next_arg, more_args, arg_list, args_rule, callee_rule, owning_call, plain_call, any_call, call_rule, par_rule, parts_rule, split_rule, stmt_rule, stmts_rule, param_rule, next_param, more_params, param_list, params_rule, ret_value, ret_rule, func_body, func_rule, more_funcs, program_rule}
use Rattle.par_text.proofs.Marks.{tokens_of-append}
use Rattle.par_text.proofs.KindLemmas.{both_true}
use Rattle.canonical_text.specs.Lines.{without_lines, SameButForLines}
use Rattle.canonical_text.proofs.Written.{spells, means_of}
use Rattle.canonical_text.proofs.Counting.{afters, Uncrowded, uncrowded-append, uncrowded-front, uncrowded-back, Within, within_from, not_many, Calm}
use Rattle.canonical_text.proofs.Scans.{body_names, body_names-lines, Scans, counts_all, same, Nothing, scan_plain, scan_pair, scan_nest, plain_token, afters-tokens}

-- tokens that begin no function

abbrev NoFn : List Token → Type 0
NoFn [] = Unit {0}
NoFn (t ∷ ts) = (is k.Fn t.kind ≡ false) × NoFn ts

no_fn-append : (ts us : List Token) → NoFn ts → NoFn us → NoFn (ts ++ us)
no_fn-append [] us a b = b
no_fn-append (t ∷ ts) us a b = (a.0, no_fn-append ts us a.1 b)

abbrev fn_free : {X : Type 0} → Rule X → Bool
fn_free (nothing x) = true
fn_free (token j) = not (is k.Fn j)
fn_free (mapped f a) = fn_free a
fn_free (pair f a b) = fn_free a && fn_free b
fn_free (either ks a b) = fn_free a && fn_free b
fn_free (many ks f z a) = fn_free a
fn_free (nest j a) = not (is k.Fn j) && fn_free a
fn_free (within s f) = true

not_true : (a : Bool) → not a ≡ true → a ≡ false
not_true true e = cc
not_true false e = refl

module _ (size : ℕ) (inner : (s : Nonterminal) (depth : ℕ) (d : Nested size s) → NoFn (tokens_of (nested_spelling size depth s d))) where
  joined : (ms ns : List Marked) → NoFn (tokens_of ms) → NoFn (tokens_of ns) → NoFn (tokens_of (ms ++ ns))
  joined ms ns a b = subst (λ (ts : List Token). NoFn ts) (sym (tokens_of-append ms ns)) (no_fn-append (tokens_of ms) (tokens_of ns) a b)

  of_kind : (j : Kind) (t : Token) → t.kind ≡ j → not (is k.Fn j) ≡ true → is k.Fn t.kind ≡ false
  of_kind j t e h = subst (λ (i : Kind). is k.Fn i ≡ false) (sym e) (not_true (is k.Fn j) h)

  free : {X : Type 0} (r : Rule X) → fn_free r ≡ true → (depth : ℕ) (d : Form (Nested size) r) → NoFn (tokens_of (spells size depth r d))
  free (nothing x) e depth d = tt
  free (token j) e depth d = (of_kind j d.0 d.1 e, tt)
  free (mapped f a) e depth d = free a e depth d
  free (pair f a b) e depth d = let (p, q) = both_true _ _ e in joined (spells size depth a d.0) (spells size depth b d.1) (free a p depth d.0) (free b q depth d.1)
  free (either ks a b) e depth (inl d) = let (p, q) = both_true _ _ e in free a p depth d
  free (either ks a b) e depth (inr d) = let (p, q) = both_true _ _ e in free b q depth d
  free (many ks f z a) e depth [] = tt
  free (many ks f z a) e depth (d ∷ ds) = joined (spells size depth a d) (spells size depth (many ks f z a) ds) (free a e depth d) (free (many ks f z a) e depth ds)
  free (nest j a) e depth d = let (p, q) = both_true _ _ e in (of_kind j d.0.0 d.0.1 p, free a q (depth + 1) d.1)
  free (within s f) e depth d = inner s depth d

rule_free : (s : Nonterminal) → fn_free (rule s) ≡ true
unfolding name index_rule extent_rule group_rule sign_rule number_rule factor_rule term_operator term_link term_links term_rule sum_operator sum_link sum_links sum_rule comparison compared_rule expr_rule body_rule named_value let_rule alloc_rule free_rule print_rule written_value write_rule else_rule if_rule while_rule arg_rule next_arg more_args arg_list args_rule callee_rule owning_call plain_call any_call call_rule par_rule parts_rule split_rule stmt_rule stmts_rule
rule_free expression = refl
rule_free factor = refl
rule_free statements = refl

free_all : (size : ℕ) (s : Nonterminal) (depth : ℕ) (d : Nested size s) → NoFn (tokens_of (nested_spelling size depth s d))
free_all zero s depth d = absurd d
free_all (suc size) s depth d = free size (free_all size) (rule s) (rule_free s) depth d

-- without a new function the count of names never falls

grow_one : (b : Before) (j : Kind) → is k.Fn j ≡ false → ((after b j).functions ≡ b.functions) × (b.names ≤ (after b j).names)
grow_one b j e = (
  ap (λ x. cond x (b.functions + 1) b.functions) e,
  subst (λ (x : Bool). b.names ≤ cond x 0 (cond (is k.Name j && is_declared b) (b.names + 1) b.names)) (sym e) (either_way (is k.Name j && is_declared b)),
)
  where
    either_way : (c : Bool) → b.names ≤ cond c (b.names + 1) b.names
    either_way true = omega arith
    either_way false = omega arith

grows : (b : Before) (ts : List Token) → NoFn ts → ((afters b ts).functions ≡ b.functions) × (b.names ≤ (afters b ts).names)
grows b [] h = (refl, omega arith)
grows b (t ∷ ts) h =
    let one = grow_one b t.kind h.0 in
    let more = grows (after b t.kind) ts h.1 in
    (more.0 ∙ one.0, omega (arith, one.1, more.1))

steady : (b : Before) (ts : List Token) → NoFn ts → Within (afters b ts) → Uncrowded b ts
steady b [] h w = tt
steady b (t ∷ ts) h w =
    let more = grows (after b t.kind) ts h.1 in
    (not_many (after b t.kind) (omega (arith, w.0, more.0), omega (arith, w.1, more.1)), steady (after b t.kind) ts h.1 w)

within_all : (b : Before) (ts : List Token) → Within b → Uncrowded b ts → Within (afters b ts)
within_all b [] w h = w
within_all b (t ∷ ts) w h = within_all (after b t.kind) ts (within_from (after b t.kind) h.0) h.1

-- the parameters of a function

record Header (b : Before) : Type 0 where
  opens : b.in_header ≡ true
  no_fn : is k.Fn b.last ≡ false
  no_into : is k.Into b.last ≡ false
  second_into : is k.Into b.second ≡ false

record Takes (n : ℕ) (b c : Before) : Type 0 where
  functions : c.functions ≡ b.functions
  names : c.names ≡ b.names + n
  header : Header c

takes_both : (m n : ℕ) (b c d : Before) → Takes m b c → Takes n c d → Takes (m + n) b d
takes_both m n b c d x y = record { functions = y.functions ∙ x.functions; names = omega (arith, x.names, y.names); header = y.header }

takes_is : {m n : ℕ} {b c : Before} → m ≡ n → Takes m b c → Takes n b c
takes_is {b = b} {c = c} e a = subst (λ (n : ℕ). Takes n b c) e a

takes_other : (b : Before) (j : Kind) → is k.Fn j ≡ false → is k.Name j ≡ false → is k.RightParen j ≡ false → is k.Into j ≡ false → Header b → Takes 0 b (after b j)
takes_other b j fn nm rp into h = record {
  functions = ap (λ x. cond x (b.functions + 1) b.functions) fn;
  names =
      ap (λ x. cond x 0 (cond (is k.Name j && is_declared b) (b.names + 1) b.names)) fn
      ∙ ap (λ x. cond (x && is_declared b) (b.names + 1) b.names) nm
      ∙ (let e : b.names ≡ b.names + 0 = omega arith in e);
  header = record {
    opens = ap (λ x. x || (b.in_header && not (is k.RightParen j))) fn ∙ ap (λ x. b.in_header && not x) rp ∙ ap (λ x. x && true) h.opens;
    no_fn = fn;
    no_into = into;
    second_into = h.no_into;
  };
}

takes_name : (b : Before) → Header b → Takes 1 b (after b k.Name)
takes_name b h = record {
  functions = refl;
  names =
      ap (λ x. cond ((x && not (is k.Fn b.last)) || (is k.Let b.last || (is k.Alloc b.last || (is k.Into b.last || ((is k.Comma b.last && is k.Into b.third) || (is k.Own b.last && is k.Call b.second)))))) (b.names + 1) b.names) h.opens
      ∙ ap (λ x. cond (not x || (is k.Let b.last || (is k.Alloc b.last || (is k.Into b.last || ((is k.Comma b.last && is k.Into b.third) || (is k.Own b.last && is k.Call b.second)))))) (b.names + 1) b.names) h.no_fn;
  header = record { opens = ap (λ x. x && true) h.opens; no_fn = refl; no_into = refl; second_into = h.no_into };
}

takes_word : (b : Before) (j : Kind) → is k.Fn j ≡ false → is k.Name j ≡ false → is k.RightParen j ≡ false → is k.Into j ≡ false → Header b → Takes 1 b (after (after b j) k.Name)
takes_word b j fn nm rp into h =
    let one = takes_other b j fn nm rp into h in
    takes_is (let e : 0 + 1 ≡ 1 = omega arith in e) (takes_both 0 1 b (after b j) _ one (takes_name (after b j) one.header))

module _ (size : ℕ) where
  param_takes : (depth : ℕ) (d : Form (Nested size) param_rule) (b : Before) → Header b → Takes 1 b (afters b (tokens_of (spells size depth param_rule d)))
  unfolding param_rule name
  param_takes depth (inl d) b h =
      subst (λ (i : Kind). Takes 1 b (after (after b i) d.1.0.kind)) (sym d.0.1) (subst (λ (i : Kind). Takes 1 b (after (after b k.Use) i)) (sym d.1.1) (takes_word b k.Use refl refl refl refl h))
  param_takes depth (inr (inl d)) b h =
      subst (λ (i : Kind). Takes 1 b (after (after b i) d.1.0.kind)) (sym d.0.1) (subst (λ (i : Kind). Takes 1 b (after (after b k.Own) i)) (sym d.1.1) (takes_word b k.Own refl refl refl refl h))
  param_takes depth (inr (inr d)) b h = subst (λ (i : Kind). Takes 1 b (after b i)) (sym d.1) (takes_name b h)

  more_takes : (depth : ℕ) (ds : Form (Nested size) more_params) (b : Before) → Header b → Takes (length (means_of size more_params ds)) b (afters b (tokens_of (spells size depth more_params ds)))
  unfolding more_params next_param
  more_takes depth [] b h = record { functions = refl; names = omega arith; header = h }
  more_takes depth (d ∷ ds) b h =
      let comma = takes_other b k.Comma refl refl refl refl h in
      let first = param_takes depth d.1 (after b k.Comma) comma.header in
      let rest = more_takes depth ds (afters (after b k.Comma) (tokens_of (spells size depth param_rule d.1))) first.header in
      let all = takes_both 0 (1 + length (means_of size more_params ds)) b _ _ comma (takes_both 1 (length (means_of size more_params ds)) _ _ _ first rest) in
      takes_is (let e : 0 + (1 + length (means_of size more_params ds)) ≡ suc (length (means_of size more_params ds)) = omega arith in e)
      (subst (λ (i : Kind). Takes (0 + (1 + length (means_of size more_params ds))) b (afters (after b i) (tokens_of (spells size depth param_rule d.1 ++ spells size depth more_params ds)))) (sym d.0.1)
      (subst (λ (c : Before). Takes (0 + (1 + length (means_of size more_params ds))) b c) (sym (afters-tokens (after b k.Comma) (spells size depth param_rule d.1) (spells size depth more_params ds))) all))

  list_takes : (depth : ℕ) (d : Form (Nested size) param_list) (b : Before) → Header b → Takes (length (means_of size param_list d)) b (afters b (tokens_of (spells size depth param_list d)))
  unfolding param_list
  list_takes depth (inl d) b h =
      let first = param_takes depth d.0 b h in
      let rest = more_takes depth d.1 (afters b (tokens_of (spells size depth param_rule d.0))) first.header in
      takes_is (let e : 1 + length (means_of size more_params d.1) ≡ suc (length (means_of size more_params d.1)) = omega arith in e)
      (subst (λ (c : Before). Takes (1 + length (means_of size more_params d.1)) b c) (sym (afters-tokens b (spells size depth param_rule d.0) (spells size depth more_params d.1)))
      (takes_both 1 (length (means_of size more_params d.1)) b _ _ first rest))
  list_takes depth (inr d) b h = record { functions = refl; names = omega arith; header = h }

-- behind the parameters
closes : (b : Before) → Header b → Calm (after b k.RightParen)
closes b h = record {
  header = and_false (b.in_header);
  no_let = refl;
  no_alloc = refl;
  no_into = refl;
  no_call = refl;
  second_into = h.no_into;
  third_into = h.second_into;
  no_own = refl;
}
  where
    and_false : (a : Bool) → (a && false) ≡ false
    and_false true = refl
    and_false false = refl

-- how many names a function declares
abbrev pub func_names : Func → ℕ
func_names f = length f.params + body_names f.body

module _ (size : ℕ) where
  ret_scans : Scans size same ret_rule Nothing
  unfolding ret_rule ret_value name
  ret_scans = scan_plain (counts_all size) ret_rule refl

  block_scans : Scans size same func_body (λ v. body_names v.0)
  unfolding func_body
  block_scans =
      scan_nest (record { no_fn = refl; no_let = refl; no_alloc = refl; no_into = refl; no_call = refl })
      (scan_pair {ca = λ v. body_names v.0} {cb = Nothing} (λ x y. let e : body_names x.0 + 0 ≡ body_names x.0 = omega arith in e)
      (scan_pair {ca = body_names} {cb = Nothing} (λ x y. let e : body_names x + 0 ≡ body_names x = omega arith in e) (record { scans = λ depth d b calm. counts_all size statements depth d b calm }) ret_scans)
      (plain_token (λ t. refl) (record { no_fn = refl; no_let = refl; no_alloc = refl; no_into = refl; no_call = refl })))

  abbrev FuncForm : Type 0
  FuncForm = Form (Nested size) func_rule

  record Declares (b c : Before) (n : ℕ) : Type 0 where
    functions : c.functions ≡ b.functions + 1
    names : c.names ≡ n

  -- the parameters in their parentheses, from where they open
  params_scan : (depth : ℕ) (d : Form (Nested size) params_rule) (b : Before) → Header b
      → let c = afters b (tokens_of (spells size depth params_rule d)) in ((c.functions ≡ b.functions) × (c.names ≡ b.names + length (means_of size params_rule d))) × Calm c
  unfolding params_rule
  params_scan depth d b h =
      let first = takes_other b k.LeftParen refl refl refl refl h in
      let all = list_takes size (depth + 1) d.1.0 (after b k.LeftParen) first.header in
      let inside = afters (after b k.LeftParen) (tokens_of (spells size (depth + 1) param_list d.1.0)) in
      subst (λ (i : Kind). let c = afters (after b i) (tokens_of (spells size (depth + 1) param_list d.1.0 ++ record { token = d.1.1.0; depth = depth + 1 } ∷ [])) in ((c.functions ≡ b.functions) × (c.names ≡ b.names + length (means_of size param_list d.1.0))) × Calm c) (sym d.0.1)
      (subst (λ (c : Before). ((c.functions ≡ b.functions) × (c.names ≡ b.names + length (means_of size param_list d.1.0))) × Calm c) (sym (afters-tokens (after b k.LeftParen) (spells size (depth + 1) param_list d.1.0) (record { token = d.1.1.0; depth = depth + 1 } ∷ [])))
      (subst (λ (i : Kind). let c = after inside i in ((c.functions ≡ b.functions) × (c.names ≡ b.names + length (means_of size param_list d.1.0))) × Calm c) (sym d.1.1.1)
      ((all.functions ∙ first.functions, (let e : inside.names ≡ b.names + length (means_of size param_list d.1.0) = omega (arith, all.names, first.names) in same_names inside e)), closes inside all.header)))
    where
      same_names : (c : Before) {n : ℕ} → c.names ≡ n → (after c k.RightParen).names ≡ n
      same_names c e = e

  -- behind `fn` and the name
  begun : (b : Before) → Header (after (after b k.Fn) k.Name)
  begun b = record { opens = refl; no_fn = refl; no_into = refl; second_into = refl }

  tail_of : (depth : ℕ) → FuncForm → List Token
  unfolding func_rule name
  tail_of depth d = d.1.0.0 ∷ tokens_of (spells size depth params_rule d.1.1.0 ++ spells size depth func_body d.1.1.1)

  func_scan : (depth : ℕ) (d : FuncForm) (b : Before) → Declares b (afters b (tokens_of (spells size depth func_rule d))) (func_names (means_of size func_rule d))
  unfolding func_rule name
  func_scan depth d b =
      let start = after (after b k.Fn) k.Name in
      let ps = params_scan depth d.1.1.0 start (begun b) in
      let bs = block_scans.scans depth d.1.1.1 (afters start (tokens_of (spells size depth params_rule d.1.1.0))) ps.1 in
      let n = length (means_of size params_rule d.1.1.0) + body_names (means_of size func_body d.1.1.1).0 in
      subst (λ (i : Kind). Declares b (afters (after (after b i) d.1.0.0.kind) (tokens_of (spells size depth params_rule d.1.1.0 ++ spells size depth func_body d.1.1.1))) n) (sym d.0.1)
      (subst (λ (i : Kind). Declares b (afters (after (after b k.Fn) i) (tokens_of (spells size depth params_rule d.1.1.0 ++ spells size depth func_body d.1.1.1))) n) (sym d.1.0.1)
      (subst (λ (c : Before). Declares b c n) (sym (afters-tokens start (spells size depth params_rule d.1.1.0) (spells size depth func_body d.1.1.1)))
      (record { functions = bs.functions ∙ ps.0.0; names = omega (arith, bs.names, ps.0.1) })))

  rest_free : (depth : ℕ) (d : FuncForm) → NoFn (tail_of depth d)
  unfolding func_rule name tail_of params_rule param_list more_params next_param param_rule func_body ret_rule ret_value
  rest_free depth d = (
    of_kind size (free_all size) k.Name d.1.0.0 d.1.0.1 refl,
    joined size (free_all size) (spells size depth params_rule d.1.1.0) (spells size depth func_body d.1.1.1) (free size (free_all size) params_rule refl depth d.1.1.0) (free size (free_all size) func_body refl depth d.1.1.1),
  )

  -- a function is within the limits by its tree
  func_to : (depth : ℕ) (d : FuncForm) (b : Before) → Uncrowded b (tokens_of (spells size depth func_rule d)) → (b.functions + 1 ≤ most_functions) × (func_names (means_of size func_rule d) ≤ most_names)
  unfolding func_rule name
  func_to depth d b h =
      let s = func_scan depth d b in
      let w = within_all (after b d.0.0.kind) (d.1.0.0 ∷ tokens_of (spells size depth params_rule d.1.1.0 ++ spells size depth func_body d.1.1.1)) (within_from (after b d.0.0.kind) h.0) h.1 in
      (omega (arith, w.0, s.functions), omega (arith, w.1, s.names))

  func_from : (depth : ℕ) (d : FuncForm) (b : Before) → b.functions + 1 ≤ most_functions → func_names (means_of size func_rule d) ≤ most_names → Uncrowded b (tokens_of (spells size depth func_rule d))
  unfolding func_rule name tail_of
  func_from depth d b f n =
      let s = func_scan depth d b in
      let more = grows (after b d.0.0.kind) (tail_of depth d) (rest_free depth d) in (
        not_many (after b d.0.0.kind) (omega (arith, f, s.functions, more.0), omega (arith, n, s.names, more.1)),
        steady (after b d.0.0.kind) (tail_of depth d) (rest_free depth d) (omega (arith, f, s.functions), omega (arith, n, s.names)),
      )

-- programs

abbrev pub ProgramCount : ℕ → Program → Type 0
ProgramCount n [] = Unit {0}
ProgramCount n (f ∷ fs) = ((n + 1 ≤ most_functions) × (func_names f ≤ most_names)) × ProgramCount (n + 1) fs

module _ (size depth : ℕ) where
  funcs_to : (ds : Form (Nested size) more_funcs) (b : Before) → Uncrowded b (tokens_of (spells size depth more_funcs ds)) → ProgramCount b.functions (means_of size more_funcs ds)
  unfolding more_funcs
  funcs_to [] b h = tt
  funcs_to (d ∷ ds) b h =
      let u = subst (λ (ts : List Token). Uncrowded b ts) (tokens_of-append (spells size depth func_rule d) (spells size depth more_funcs ds)) h in (
        func_to size depth d b (uncrowded-front b (tokens_of (spells size depth func_rule d)) (tokens_of (spells size depth more_funcs ds)) u),
        subst (λ (n : ℕ). ProgramCount n (means_of size more_funcs ds)) (func_scan size depth d b).functions
            (funcs_to ds (afters b (tokens_of (spells size depth func_rule d))) (uncrowded-back b (tokens_of (spells size depth func_rule d)) (tokens_of (spells size depth more_funcs ds)) u)),
      )

  funcs_from : (ds : Form (Nested size) more_funcs) (b : Before) → ProgramCount b.functions (means_of size more_funcs ds) → Uncrowded b (tokens_of (spells size depth more_funcs ds))
  unfolding more_funcs
  funcs_from [] b h = tt
  funcs_from (d ∷ ds) b h =
      subst (λ (ts : List Token). Uncrowded b ts) (sym (tokens_of-append (spells size depth func_rule d) (spells size depth more_funcs ds)))
      (uncrowded-append b (tokens_of (spells size depth func_rule d)) (tokens_of (spells size depth more_funcs ds)) (func_from size depth d b h.0.0 h.0.1)
      (funcs_from ds (afters b (tokens_of (spells size depth func_rule d))) (subst (λ (n : ℕ). ProgramCount n (means_of size more_funcs ds)) (sym (func_scan size depth d b).functions) h.1)))

  pub program_to : (d : Form (Nested size) program_rule) (b : Before) → Uncrowded b (tokens_of (spells size depth program_rule d)) → ProgramCount b.functions (means_of size program_rule d)
  unfolding program_rule more_funcs
  program_to d b h = funcs_to (d.0 ∷ d.1) b h

  pub program_from : (d : Form (Nested size) program_rule) (b : Before) → ProgramCount b.functions (means_of size program_rule d) → Uncrowded b (tokens_of (spells size depth program_rule d))
  unfolding program_rule more_funcs
  program_from d b h = funcs_from (d.0 ∷ d.1) b h

-- lines do not count

count_bare : (n : ℕ) (p : Program) → ProgramCount n p → ProgramCount n (without_lines p)
count_bare n [] h = tt
count_bare n (f ∷ fs) h = ((h.0.0, let e = body_names-lines f.body in omega (arith, h.0.1, e)), count_bare (n + 1) fs h.1)

count_full : (n : ℕ) (p : Program) → ProgramCount n (without_lines p) → ProgramCount n p
count_full n [] h = tt
count_full n (f ∷ fs) h = ((h.0.0, let e = body_names-lines f.body in omega (arith, h.0.1, e)), count_full (n + 1) fs h.1)

pub same_count : (n : ℕ) (p q : Program) → SameButForLines q p → ProgramCount n p → ProgramCount n q
same_count n p q e h = count_full n q (subst (λ (x : Program). ProgramCount n x) (sym e) (count_bare n p h))
