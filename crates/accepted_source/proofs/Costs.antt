-- The statements of what a form means are at most as many as its tokens.
use Rattle.std.proofs.Common.{ℕ, zero, suc, ◌+◌, ◌≤◌, Bool, List, [], ◌∷◌, length, inl, inr, arith}
use Rattle.std.specs.Prelude.{Option, Some, None}
use Rattle.std.proofs.lemmas.List.{length-append}
use Rattle.par_tree.specs.Tree.{Name, Expr, Arg, Stmt}
use Rattle.par_text.specs.declared.kind.Kind.{Kind}
use Rattle.par_text.specs.declared.kind.Kind.TheVariants as k
use Rattle.par_text.specs.Rule.{Nonterminal, expression, factor, statements, TreeOf, Rule, nothing, token, pair, either, many, nest, within}
use Rattle.par_text.specs.Form.{Form}
use Rattle.par_text.specs.Text.{Nested, nested_spelling, nested_meaning, ProgramForm, program_spelling, program_meaning}
use Rattle.par_text.specs.Grammar.{name, expr_rule, body_rule, named_value, let_rule, alloc_rule, free_rule, print_rule, written, written_value, write_rule, else_rule, if_rule, while_rule, answering, owning_call, plain_call, any_call, call_rule, par_rule, parts_rule, split_rule, stmt_rule, stmts_rule, params_rule, ret_rule, func_body, func_rule, more_funcs, program_rule}
use Rattle.canonical_text.proofs.Written.{spells, means_of}
use Rattle.accepted_source.specs.Sizes.{stmt_size, body_size, functions_size}

-- a form of the rule has at least as many tokens as c says of its meaning
pub record Costs {X : Type 0} (size : ℕ) (r : Rule X) (c : X → ℕ) : Type 0 where
  pub costs : (depth : ℕ) (d : Form (Nested size) r) → c (means_of size r d) ≤ length (spells size depth r d)

-- no tokens are wanted
abbrev free : {X : Type 0} → X → ℕ
free x = 0

-- one token is wanted
abbrev one : {X : Type 0} → X → ℕ
one x = 1

module _ {size : ℕ} where
  cost_free : {X : Type 0} (r : Rule X) → Costs size r free
  cost_free r = record { costs = λ depth d. omega arith }

  cost_token : {j : Kind} → Costs size (token j) one
  cost_token = record { costs = λ depth d. omega arith }

  cost_name : Costs size name one
  unfolding name
  cost_name = record { costs = λ depth d. omega arith }

  cost_pair : {A B X : Type 0} {a : Rule A} {r : Rule B} {f : A → B → X} {ca : A → ℕ} {cb : B → ℕ} {c : X → ℕ} → ((x : A) (y : B) → c (f x y) ≤ ca x + cb y) → Costs size a ca → Costs size r cb → Costs size (pair f a r) c
  cost_pair {a = a} {r = r} h s t = record {
    costs = λ depth d.
        let more = h (means_of size a d.0) (means_of size r d.1) in
        let first = s.costs depth d.0 in
        let second = t.costs depth d.1 in
        let both = length-append (spells size depth a d.0) (spells size depth r d.1) in
        omega (arith, more, first, second, both);
  }

  cost_either : {X : Type 0} {ks : Kind → Bool} {a r : Rule X} {c : X → ℕ} → Costs size a c → Costs size r c → Costs size (either ks a r) c
  cost_either {X} {ks} {a} {r} {c} s t = record { costs = go }
    where
      go : (depth : ℕ) (d : Form (Nested size) (either ks a r)) → c (means_of size (either ks a r) d) ≤ length (spells size depth (either ks a r) d)
      go depth (inl d) = s.costs depth d
      go depth (inr d) = t.costs depth d

  cost_nothing : {X : Type 0} {x : X} {c : X → ℕ} → c x ≤ 0 → Costs size (nothing x) c
  cost_nothing h = record { costs = λ depth d. h }

  cost_many : {A X : Type 0} {ks : Kind → Bool} {f : A → X → X} {z : X} {a : Rule A} {ca : A → ℕ} {c : X → ℕ} → c z ≤ 0 → ((x : A) (y : X) → c (f x y) ≤ ca x + c y) → Costs size a ca → Costs size (many ks f z a) c
  cost_many {A} {X} {ks} {f} {z} {a} {ca} {c} none more s = record { costs = go }
    where
      go : (depth : ℕ) (ds : List (Form (Nested size) a)) → c (means_of size (many ks f z a) ds) ≤ length (spells size depth (many ks f z a) ds)
      go depth [] = none
      go depth (d ∷ ds) =
          let step = more (means_of size a d) (means_of size (many ks f z a) ds) in
          let first = s.costs depth d in
          let rest = go depth ds in
          let both = length-append (spells size depth a d) (spells size depth (many ks f z a) ds) in
          omega (arith, step, first, rest, both)

  cost_nest : {X : Type 0} {j : Kind} {a : Rule X} {c : X → ℕ} → Costs size a c → Costs size (nest j a) c
  cost_nest s = record { costs = λ depth d. let inside = s.costs (depth + 1) d.1 in omega (arith, inside) }

-- what is known of the forms of the nonterminals
abbrev inner_size : (s : Nonterminal) → TreeOf s → ℕ
inner_size expression e = 0
inner_size factor e = 0
inner_size statements b = body_size b

abbrev Holds : ℕ → Type 0
Holds size = (s : Nonterminal) (depth : ℕ) (d : Nested size s) → inner_size s (nested_meaning size s d) ≤ length (nested_spelling size depth s d)

-- a statement with its line
abbrev lined_size : ℕ × Stmt → ℕ
lined_size v = stmt_size v.1

answering_size : (f : Name) (v : Option Name × List Arg) → stmt_size (answering f v) ≤ 1 + 0
answering_size f (None, xs) = omega arith
answering_size f (Some x, xs) = omega arith

written_size : (x : Name) (v : Option Expr × Expr) → stmt_size (written x v) ≤ 1 + 0
written_size x (None, e) = omega arith
written_size x (Some i, e) = omega arith

module _ {size : ℕ} (holds : Holds size) where
  cost_statements : Costs size (within statements (λ b. b)) body_size
  cost_statements = record { costs = λ depth d. holds statements depth d }

  cost_body : Costs size body_rule body_size
  unfolding body_rule
  cost_body = cost_nest (cost_pair {cb = free} (λ x y. omega arith) cost_statements (cost_free (token k.RightBrace)))

  cost_else : Costs size else_rule body_size
  unfolding else_rule
  cost_else = cost_either (cost_pair {ca = free} (λ x y. omega arith) (cost_free (token k.Else)) cost_body) (cost_nothing (omega arith))

  cost_let : Costs size let_rule lined_size
  unfolding let_rule
  cost_let = cost_pair {cb = free} (λ x y. omega arith) cost_token (cost_free named_value)

  cost_alloc : Costs size alloc_rule lined_size
  unfolding alloc_rule
  cost_alloc = cost_pair {cb = free} (λ x y. omega arith) cost_token (cost_free named_value)

  cost_release : Costs size free_rule lined_size
  unfolding free_rule
  cost_release = cost_pair {cb = free} (λ x y. omega arith) cost_token (cost_free _)

  cost_print : Costs size print_rule lined_size
  unfolding print_rule
  cost_print = cost_pair {cb = free} (λ x y. omega arith) cost_token (cost_free _)

  cost_write : Costs size write_rule lined_size
  unfolding write_rule
  cost_write = cost_pair {cb = free} (λ x y. written_size x.bytes y) cost_token (cost_free written_value)

  cost_if : Costs size if_rule lined_size
  unfolding if_rule
  cost_if =
      cost_pair {cb = λ v. body_size v.1.0 + body_size v.1.1} (λ x y. omega arith) cost_token
      (cost_pair {ca = free} {cb = λ v. body_size v.0 + body_size v.1} (λ x y. omega arith) (cost_free expr_rule) (cost_pair (λ x y. omega arith) cost_body cost_else))

  cost_while : Costs size while_rule lined_size
  unfolding while_rule
  cost_while = cost_pair {cb = λ v. body_size v.1} (λ x y. omega arith) cost_token (cost_pair {ca = free} (λ x y. omega arith) (cost_free expr_rule) cost_body)

  cost_any_call : Costs size any_call stmt_size
  unfolding any_call owning_call plain_call
  cost_any_call =
      cost_either (cost_pair {ca = free} {cb = stmt_size} (λ x y. omega arith) (cost_free (token k.Own)) (cost_pair {cb = free} (λ x y. omega arith) cost_name (cost_free _)))
      (cost_pair {cb = free} answering_size cost_name (cost_free _))

  cost_call : Costs size call_rule lined_size
  unfolding call_rule
  cost_call = cost_pair {ca = free} {cb = stmt_size} (λ x y. omega arith) (cost_free (token k.Call)) (cost_pair {cb = free} (λ x y. omega arith) cost_any_call (cost_free (token k.Semicolon)))

  cost_par : Costs size par_rule lined_size
  unfolding par_rule
  cost_par =
      cost_pair {cb = λ v. body_size v.0 + body_size v.1} (λ x y. omega arith) cost_token
      (cost_pair {cb = body_size} (λ x y. omega arith) cost_body (cost_pair {ca = free} (λ x y. omega arith) (cost_free (token k.And)) cost_body))

  cost_split : Costs size split_rule lined_size
  unfolding split_rule
  cost_split =
      cost_pair {cb = λ v. body_size v.1.1.1} (λ x y. omega arith) cost_token
      (cost_pair {ca = free} {cb = λ v. body_size v.1.1} (λ x y. omega arith) (cost_free name)
      (cost_pair {ca = free} {cb = λ v. body_size v.1.1} (λ x y. omega arith) (cost_free (token k.At))
      (cost_pair {ca = free} {cb = λ v. body_size v.1} (λ x y. omega arith) (cost_free expr_rule)
      (cost_pair {ca = free} {cb = λ v. body_size v.1} (λ x y. omega arith) (cost_free (token k.Into)) (cost_pair {ca = free} (λ x y. omega arith) (cost_free parts_rule) cost_body)))))

  cost_stmt : Costs size stmt_rule lined_size
  unfolding stmt_rule
  cost_stmt = cost_either cost_let (cost_either cost_alloc (cost_either cost_release (cost_either cost_if (cost_either cost_while (cost_either cost_call (cost_either cost_print (cost_either cost_par (cost_either cost_split cost_write))))))))

  cost_stmts : Costs size stmts_rule body_size
  unfolding stmts_rule
  cost_stmts = cost_many (omega arith) (λ x y. omega arith) cost_stmt

  cost_func : Costs size func_rule (λ f. body_size f.body)
  unfolding func_rule func_body
  cost_func =
      cost_pair {ca = free} {cb = λ v. body_size v.1.1.0} (λ x y. omega arith) (cost_free (token k.Fn))
      (cost_pair {ca = free} {cb = λ v. body_size v.1.0} (λ x y. omega arith) (cost_free name)
      (cost_pair {ca = free} {cb = λ v. body_size v.0} (λ x y. omega arith) (cost_free params_rule)
      (cost_nest (cost_pair {ca = λ v. body_size v.0} {cb = free} (λ x y. omega arith) (cost_pair {cb = free} (λ x y. omega arith) cost_statements (cost_free ret_rule)) (cost_free (token k.RightBrace))))))

  cost_funcs : Costs size more_funcs functions_size
  unfolding more_funcs
  cost_funcs = cost_many (omega arith) (λ x y. omega arith) cost_func

  cost_program : Costs size program_rule functions_size
  unfolding program_rule
  cost_program = cost_pair (λ x y. omega arith) cost_func cost_funcs

all_hold : (size : ℕ) → Holds size
all_hold zero s depth d = absurd d
all_hold (suc size) expression depth d = omega arith
all_hold (suc size) factor depth d = omega arith
all_hold (suc size) statements depth d = (cost_stmts (all_hold size)).costs depth d

pub program_cost : (size : ℕ) (form : ProgramForm size) → functions_size (program_meaning size form) ≤ length (program_spelling size form)
program_cost size form = (cost_program (all_hold size)).costs 0 form
