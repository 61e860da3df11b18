-- The tokens of functions one behind the other: each begins with its only `fn`, so they are cut in one way.
use Rattle.std.proofs.Common.{◌≡◌, ℕ, Bool, true, false, List, [], ◌∷◌, ◌++◌, refl, sym, ap, ◌∙◌, subst}
use Rattle.std.proofs.lemmas.List.{append-nil}
use Rattle.par_tree.specs.Tree.{Func, Program}
use Rattle.par_text.specs.declared.kind.Kind.{Kind}
use Rattle.par_text.specs.declared.kind.Kind.TheVariants as k
use Rattle.par_text.specs.Kinds.{is}
use Rattle.par_text.specs.Rule.{Token, Nonterminal, expression, factor, statements}
use Rattle.par_text.specs.Form.{Marked, Form, tokens_of}
use Rattle.par_text.specs.Text.{Shallow, Nested, program_spelling, IsProgram}
use Rattle.par_text.specs.Grammar.{rule, two, name, index_rule, extent_rule, group_rule, sign_rule, number_rule, factor_rule, term_operator, term_link, term_links, term_rule, sum_operator, sum_link, sum_links, sum_rule, comparison, compared_rule, expr_rule, body_rule, named_value, let_rule, alloc_rule, free_rule, print_rule, written_value, write_rule, else_rule, if_rule, while_rule, arg_rule, next_arg, more_args, arg_list, args_rule, callee_rule, owning_call, plain_call, any_call, call_rule, par_rule, parts_rule, split_rule, stmt_rule, stmts_rule, param_rule, next_param, more_params, param_list, params_rule, ret_value, ret_rule, func_body, func_rule, more_funcs, program_rule}
use Rattle.par_text.proofs.Marks.{tokens_of-append, Shallow-append}
use Rattle.par_text.proofs.Answers.{one_program}
use Rattle.canonical_text.proofs.Written.{spells, means_of}
use Rattle.loop_laws.proofs.Without.{false_true, Without, is_without, AreWithout, spells_without, nested_without, head_same, tail_same}

abbrev every : Nonterminal → Bool
every s = true

nonterminals_without_fn : (s : Nonterminal) → is_without k.Fn every (rule s) ≡ true
unfolding name index_rule extent_rule group_rule sign_rule number_rule factor_rule term_operator term_link term_links term_rule sum_operator sum_link sum_links sum_rule comparison compared_rule expr_rule body_rule named_value let_rule alloc_rule free_rule print_rule written_value write_rule else_rule if_rule while_rule arg_rule next_arg more_args arg_list args_rule callee_rule owning_call plain_call any_call call_rule par_rule parts_rule split_rule stmt_rule stmts_rule
nonterminals_without_fn expression = refl
nonterminals_without_fn factor = refl
nonterminals_without_fn statements = refl

no_fn : (size : ℕ) → AreWithout k.Fn every size
no_fn size = nested_without k.Fn every (λ s h. nonterminals_without_fn s) size

-- the tokens of a function begin with `fn`, and no other of them is one

pub record BeginsOnce (ts : List Token) : Type 0 where
  pub first : Token
  pub rest : List Token
  pub all : ts ≡ first ∷ rest
  pub is_fn : is k.Fn first.kind ≡ true
  pub none : Without k.Fn rest

func_begins_once : (size depth : ℕ) (d : Form (Nested size) func_rule) → BeginsOnce (tokens_of (spells size depth func_rule d))
unfolding func_rule name params_rule param_list more_params next_param param_rule func_body ret_rule ret_value
func_begins_once size depth d = record {
  first = d.0.0;
  rest = tokens_of (spells size depth (two name (two params_rule func_body)) d.1);
  all = refl;
  is_fn = subst (λ (i : Kind). is k.Fn i ≡ true) (sym d.0.1) refl;
  none = spells_without k.Fn every size (no_fn size) (two name (two params_rule func_body)) refl depth d.1;
}

-- The tokens make a function, this one, and no token is too deep.
pub record IsFunction (most size : ℕ) (ts : List Token) (f : Func) : Type 0 where
  pub form : Form (Nested size) func_rule
  pub spelled : tokens_of (spells size 0 func_rule form) ≡ ts
  pub means : means_of size func_rule form ≡ f
  pub shallow : Shallow most (spells size 0 func_rule form)

begins_once : (most size : ℕ) (ts : List Token) (f : Func) → IsFunction most size ts f → BeginsOnce ts
begins_once most size ts f h = subst BeginsOnce h.spelled (func_begins_once size 0 h.form)

shallow_front : (most : ℕ) (ms ns : List Marked) → Shallow most (ms ++ ns) → Shallow most ms
shallow_front most [] ns h = tt
shallow_front most (m ∷ ms) ns h = (h.0, shallow_front most ms ns h.1)

shallow_behind : (most : ℕ) (ms ns : List Marked) → Shallow most (ms ++ ns) → Shallow most ns
shallow_behind most [] ns h = h
shallow_behind most (m ∷ ms) ns h = shallow_behind most ms ns h.1

-- a function alone is a program
alone : (most size : ℕ) (ts : List Token) (f : Func) → IsFunction most size ts f → IsProgram most ts (f ∷ [])
unfolding program_rule more_funcs
alone most size ts f h = record {
  size = size;
  form = (h.form, []);
  spelled = ap tokens_of (append-nil (spells size 0 func_rule h.form)) ∙ h.spelled;
  means = ap (λ g. g ∷ []) h.means;
  shallow = subst (Shallow most) (sym (append-nil (spells size 0 func_rule h.form))) h.shallow;
}

abbrev first_or : Func → Program → Func
first_or f [] = f
first_or f (g ∷ gs) = g

pub one_function : (most size size2 : ℕ) (ts : List Token) (f g : Func) → IsFunction most size ts f → IsFunction most size2 ts g → f ≡ g
one_function most size size2 ts f g a b = ap (first_or f) (one_program most ts (f ∷ []) (g ∷ []) (alone most size ts f a) (alone most size2 ts g b))

-- The tokens make functions, these, one behind the other.
abbrev pub AreFunctions : ℕ → ℕ → List Token → List Func → Type 0
AreFunctions most size ts [] = ts ≡ []
AreFunctions most size ts (f ∷ fs) = (front : List Token) × (behind : List Token) × (ts ≡ front ++ behind) × IsFunction most size front f × AreFunctions most size behind fs

functions_of : (most size : ℕ) (ds : Form (Nested size) more_funcs) → Shallow most (spells size 0 more_funcs ds)
    → AreFunctions most size (tokens_of (spells size 0 more_funcs ds)) (means_of size more_funcs ds)
unfolding more_funcs
functions_of most size [] h = refl
functions_of most size (d ∷ ds) h = (
  tokens_of (spells size 0 func_rule d),
  tokens_of (spells size 0 more_funcs ds),
  tokens_of-append (spells size 0 func_rule d) (spells size 0 more_funcs ds),
  record { form = d; spelled = refl; means = refl; shallow = shallow_front most (spells size 0 func_rule d) (spells size 0 more_funcs ds) h },
  functions_of most size ds (shallow_behind most (spells size 0 func_rule d) (spells size 0 more_funcs ds) h),
)

-- a program is its functions
pub program_functions : (most : ℕ) (ts : List Token) (p : Program) (h : IsProgram most ts p) → AreFunctions most h.size ts p
unfolding program_rule
program_functions most ts p h =
    subst (λ us. AreFunctions most h.size us p) h.spelled (subst (AreFunctions most h.size (tokens_of (program_spelling h.size h.form))) h.means (
      tokens_of (spells h.size 0 func_rule h.form.0),
      tokens_of (spells h.size 0 more_funcs h.form.1),
      tokens_of-append (spells h.size 0 func_rule h.form.0) (spells h.size 0 more_funcs h.form.1),
      record { form = h.form.0; spelled = refl; means = refl; shallow = shallow_front most (spells h.size 0 func_rule h.form.0) (spells h.size 0 more_funcs h.form.1) h.shallow },
      functions_of most h.size h.form.1 (shallow_behind most (spells h.size 0 func_rule h.form.0) (spells h.size 0 more_funcs h.form.1) h.shallow),
    ))

-- the form of functions
record HaveForms (most size : ℕ) (ts : List Token) (fs : List Func) : Type 0 where
  forms : Form (Nested size) more_funcs
  spelled : tokens_of (spells size 0 more_funcs forms) ≡ ts
  means : means_of size more_funcs forms ≡ fs
  shallow : Shallow most (spells size 0 more_funcs forms)

have_forms : (most size : ℕ) (ts : List Token) (fs : List Func) → AreFunctions most size ts fs → HaveForms most size ts fs
unfolding more_funcs
have_forms most size ts [] h = record { forms = []; spelled = sym h; means = refl; shallow = tt }
have_forms most size ts (f ∷ fs) (front, behind, all, first, rest) =
    let more = have_forms most size behind fs rest in
    record {
      forms = first.form ∷ more.forms;
      spelled = tokens_of-append (spells size 0 func_rule first.form) (spells size 0 more_funcs more.forms) ∙ ap (λ us. us ++ tokens_of (spells size 0 more_funcs more.forms)) first.spelled ∙ ap (λ us. front ++ us) more.spelled ∙ sym all;
      means = ap (λ g. g ∷ means_of size more_funcs more.forms) first.means ∙ ap (λ gs. f ∷ gs) more.means;
      shallow = Shallow-append most (spells size 0 func_rule first.form) (spells size 0 more_funcs more.forms) first.shallow more.shallow;
    }

-- functions are a program, where there is one at least
pub functions_program : (most size : ℕ) (ts : List Token) (f : Func) (fs : List Func) → AreFunctions most size ts (f ∷ fs) → IsProgram most ts (f ∷ fs)
unfolding program_rule
functions_program most size ts f fs (front, behind, all, first, rest) =
    let more = have_forms most size behind fs rest in
    record {
      size = size;
      form = (first.form, more.forms);
      spelled = tokens_of-append (spells size 0 func_rule first.form) (spells size 0 more_funcs more.forms) ∙ ap (λ us. us ++ tokens_of (spells size 0 more_funcs more.forms)) first.spelled ∙ ap (λ us. front ++ us) more.spelled ∙ sym all;
      means = ap (λ g. g ∷ means_of size more_funcs more.forms) first.means ∙ ap (λ gs. f ∷ gs) more.means;
      shallow = Shallow-append most (spells size 0 func_rule first.form) (spells size 0 more_funcs more.forms) first.shallow more.shallow;
    }

-- no token, or a `fn` first
abbrev pub StartsFn : List Token → Type 0
StartsFn [] = Unit {0}
StartsFn (t ∷ ts) = is k.Fn t.kind ≡ true

starts_once : (ts us : List Token) → BeginsOnce ts → StartsFn (ts ++ us)
starts_once ts us h = subst (λ vs. StartsFn (vs ++ us)) (sym h.all) h.is_fn

pub functions_start : (most size : ℕ) (ts : List Token) (fs : List Func) → AreFunctions most size ts fs → StartsFn ts
functions_start most size ts [] h = subst StartsFn (sym h) tt
functions_start most size ts (f ∷ fs) (front, behind, all, first, rest) = subst StartsFn (sym all) (starts_once front behind (begins_once most size front f first))

-- what stands behind the first tokens, up to where another part begins
record Reaches (r u a b : List Token) : Type 0 where
  between : List Token
  front : a ≡ r ++ between
  behind : u ≡ between ++ b

reaches : (r u a b : List Token) → Without k.Fn r → StartsFn b → r ++ u ≡ a ++ b → Reaches r u a b
reaches [] u a b none start e = record { between = a; front = refl; behind = e }
reaches (t ∷ r) u [] [] none start e = absurd (no_nil e)
  where
    no_nil : t ∷ (r ++ u) ≡ [] → ⊥
    no_nil e = cc
reaches (t ∷ r) u [] (v ∷ b) none start e = absurd (false_true (is k.Fn t.kind) none.0 (subst (λ (x : Token). is k.Fn x.kind ≡ true) (sym (head_same t v (r ++ u) b e)) start))
reaches (t ∷ r) u (v ∷ a) b none start e =
    let more = reaches r u a b none.1 start (tail_same t v (r ++ u) (a ++ b) e) in
    record { between = more.between; front = ap (λ x. x ∷ a) (sym (head_same t v (r ++ u) (a ++ b) e)) ∙ ap (λ xs. t ∷ xs) more.front; behind = more.behind }

-- functions whose tokens are cut before a `fn`
pub record Cut (most size : ℕ) (a b : List Token) (fs : List Func) : Type 0 where
  pub front : List Func
  pub behind : List Func
  pub all : fs ≡ front ++ behind
  pub front_are : AreFunctions most size a front
  pub behind_are : AreFunctions most size b behind

nothing_left : (a b : List Token) → [] ≡ a ++ b → (a ≡ []) × (b ≡ [])
nothing_left [] b e = (refl, sym e)
nothing_left (t ∷ a) b e = absurd (no_nil e)
  where
    no_nil : [] ≡ t ∷ (a ++ b) → ⊥
    no_nil e = cc

pub cut_functions : (most size : ℕ) (a b : List Token) (fs : List Func) → StartsFn b → AreFunctions most size (a ++ b) fs → Cut most size a b fs
cut_functions most size a b [] start h =
    let none = nothing_left a b (sym h) in
    record { front = []; behind = []; all = refl; front_are = none.0; behind_are = none.1 }
cut_functions most size [] b (f ∷ fs) start h = record { front = []; behind = f ∷ fs; all = refl; front_are = refl; behind_are = h }
cut_functions most size (t ∷ a) b (f ∷ fs) start (front, behind, all, first, rest) =
    let once = begins_once most size front f first in
    let same : t ∷ (a ++ b) ≡ once.first ∷ (once.rest ++ behind) = all ∙ ap (λ xs. xs ++ behind) once.all in
    let r = reaches once.rest behind a b once.none start (sym (tail_same t once.first (a ++ b) (once.rest ++ behind) same)) in
    let more = cut_functions most size r.between b fs start (subst (λ xs. AreFunctions most size xs fs) r.behind rest) in
    record {
      front = f ∷ more.front;
      behind = more.behind;
      all = ap (λ xs. f ∷ xs) more.all;
      front_are = (front, r.between, ap (λ x. x ∷ a) (head_same t once.first (a ++ b) (once.rest ++ behind) same) ∙ ap (λ xs. once.first ∷ xs) r.front ∙ ap (λ xs. xs ++ r.between) (sym once.all), first, more.front_are);
      behind_are = more.behind_are;
    }

no_function : (most size : ℕ) (f : Func) (fs : List Func) → AreFunctions most size [] (f ∷ fs) → ⊥
no_function most size f fs (front, behind, all, first, rest) =
    let once = begins_once most size front f first in
    no_nil once.first (once.rest ++ behind) (all ∙ ap (λ xs. xs ++ behind) once.all)
  where
    no_nil : (t : Token) (ts : List Token) → [] ≡ t ∷ ts → ⊥
    no_nil t ts e = cc

same_cut : (r s u v : List Token) → Without k.Fn r → Without k.Fn s → StartsFn u → StartsFn v → r ++ u ≡ s ++ v → (r ≡ s) × (u ≡ v)
same_cut r s u v a b c d e = by_between (reaches r u s v a d e)
  where
    by_between : Reaches r u s v → (r ≡ s) × (u ≡ v)
    by_between h = between_none h.between h.front h.behind
      where
        between_none : (m : List Token) → s ≡ r ++ m → u ≡ m ++ v → (r ≡ s) × (u ≡ v)
        between_none [] f g = (sym (append-nil r) ∙ sym f, g)
        between_none (t ∷ m) f g = absurd (false_true (is k.Fn t.kind) (last_none r t m (subst (Without k.Fn) f b)) (subst StartsFn g c))
          where
            last_none : (r : List Token) (t : Token) (m : List Token) → Without k.Fn (r ++ t ∷ m) → is k.Fn t.kind ≡ false
            last_none [] t m h = h.0
            last_none (x ∷ r) t m h = last_none r t m h.1

-- tokens make one list of functions
pub same_functions : (most size size2 : ℕ) (ts : List Token) (fs gs : List Func) → AreFunctions most size ts fs → AreFunctions most size2 ts gs → fs ≡ gs
same_functions most size size2 ts [] [] a b = refl
same_functions most size size2 ts [] (g ∷ gs) a b = absurd (no_function most size2 g gs (subst (λ us. AreFunctions most size2 us (g ∷ gs)) a b))
same_functions most size size2 ts (f ∷ fs) [] a b = absurd (no_function most size f fs (subst (λ us. AreFunctions most size us (f ∷ fs)) b a))
same_functions most size size2 ts (f ∷ fs) (g ∷ gs) (front, behind, all, first, rest) (front2, behind2, all2, first2, rest2) =
    let once = begins_once most size front f first in
    let twice = begins_once most size2 front2 g first2 in
    let same : once.first ∷ (once.rest ++ behind) ≡ twice.first ∷ (twice.rest ++ behind2) =
    ap (λ xs. xs ++ behind) (sym once.all) ∙ sym all ∙ all2 ∙ ap (λ xs. xs ++ behind2) twice.all in
    let parts = same_cut once.rest twice.rest behind behind2 once.none twice.none (functions_start most size behind fs rest) (functions_start most size2 behind2 gs rest2) (tail_same once.first twice.first (once.rest ++ behind) (twice.rest ++ behind2) same) in
    let fronts : front2 ≡ front = twice.all ∙ ap (λ x. x ∷ twice.rest) (sym (head_same once.first twice.first (once.rest ++ behind) (twice.rest ++ behind2) same)) ∙ ap (λ xs. once.first ∷ xs) (sym parts.0) ∙ sym once.all in
    ap (λ x. x ∷ fs) (one_function most size size2 front f g first (subst (λ us. IsFunction most size2 us g) fronts first2))
    ∙ ap (λ xs. g ∷ xs) (same_functions most size size2 behind fs gs rest (subst (λ us. AreFunctions most size2 us gs) (sym parts.1) rest2))
