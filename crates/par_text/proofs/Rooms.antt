-- The laws of reading, of the grammar and at each depth.
use Rattle.std.proofs.Common.{◌≡◌, ℕ, zero, suc, ◌+◌, ◌<◌, Bool, true, false, List, [], ◌∷◌, inr, refl, sym, ◌∙◌, subst, arith}
use Rattle.par_text.specs.declared.kind.Kind.{Kind}
use Rattle.par_text.specs.declared.kind.Kind.TheVariants as k
use Rattle.par_text.specs.Kinds.{holds_of_all, kinds}
use Rattle.par_text.specs.Rule.{Token, Nonterminal, expression, factor, statements}
use Rattle.par_text.specs.Form.{tokens_of, spelling, meaning}
use Rattle.par_text.specs.Reading.{next, read_by}
use Rattle.par_text.specs.Parsing.{read_inner, read}
use Rattle.par_text.specs.Grammar.{rule, name, index_rule, extent_rule, group_rule, sign_rule, number_rule, factor_rule, term_operator, term_link, term_links, term_rule, sum_operator, sum_link, sum_links, sum_rule, comparison, compared_rule, expr_rule, body_rule, named_value, let_rule, alloc_rule, free_rule, print_rule, written_value, write_rule, else_rule, if_rule, while_rule, arg_rule, next_arg, more_args, arg_list, args_rule, callee_rule, owning_call, plain_call, any_call, call_rule, par_rule, parts_rule, split_rule, stmt_rule, stmts_rule, param_rule, next_param, more_params, param_list, params_rule, ret_value, ret_rule, func_body, func_rule, more_funcs, program_rule}
use Rattle.par_text.specs.Text.{Nested, nested_spelling, nested_meaning}
use Rattle.par_text.proofs.Lookahead.{can_be_empty, empty_inner, begins, begins_inner, may_follow, follows_inner, implies, fine}
use Rattle.par_text.proofs.Local.{IsLocal, read_local}
use Rattle.par_text.proofs.Exact.{IsExact, sample, read_exact}
use Rattle.par_text.proofs.Complete.{BeginsBy, CompleteBy, implied, form_begins, read_complete}

pub rule_fine : (s : Nonterminal) → fine false (rule s) ≡ true
unfolding name index_rule extent_rule group_rule sign_rule number_rule factor_rule term_operator term_link term_links term_rule sum_operator sum_link sum_links sum_rule comparison compared_rule expr_rule body_rule named_value let_rule alloc_rule free_rule print_rule written_value write_rule else_rule if_rule while_rule arg_rule next_arg more_args arg_list args_rule callee_rule owning_call plain_call any_call call_rule par_rule parts_rule split_rule stmt_rule stmts_rule
rule_fine expression = refl
rule_fine factor = refl
rule_fine statements = refl

pub program_fine : fine false program_rule ≡ true
unfolding name index_rule extent_rule group_rule sign_rule number_rule factor_rule term_operator term_link term_links term_rule sum_operator sum_link sum_links sum_rule comparison compared_rule expr_rule body_rule named_value let_rule alloc_rule free_rule print_rule written_value write_rule else_rule if_rule while_rule arg_rule next_arg more_args arg_list args_rule callee_rule owning_call plain_call any_call call_rule par_rule parts_rule split_rule stmt_rule stmts_rule param_rule next_param more_params param_list params_rule ret_value ret_rule func_body func_rule more_funcs program_rule
program_fine = refl

rule_begins : (s : Nonterminal) → holds_of_all (implies (begins (rule s)) (begins_inner s)) kinds ≡ true
unfolding name index_rule extent_rule group_rule sign_rule number_rule factor_rule term_operator term_link term_links term_rule sum_operator sum_link sum_links sum_rule comparison compared_rule expr_rule body_rule named_value let_rule alloc_rule free_rule print_rule written_value write_rule else_rule if_rule while_rule arg_rule next_arg more_args arg_list args_rule callee_rule owning_call plain_call any_call call_rule par_rule parts_rule split_rule stmt_rule stmts_rule
rule_begins expression = refl
rule_begins factor = refl
rule_begins statements = refl

rule_follows : (s : Nonterminal) → holds_of_all (implies (follows_inner s) (may_follow (rule s))) kinds ≡ true
unfolding name index_rule extent_rule group_rule sign_rule number_rule factor_rule term_operator term_link term_links term_rule sum_operator sum_link sum_links sum_rule comparison compared_rule expr_rule body_rule named_value let_rule alloc_rule free_rule print_rule written_value write_rule else_rule if_rule while_rule arg_rule next_arg more_args arg_list args_rule callee_rule owning_call plain_call any_call call_rule par_rule parts_rule split_rule stmt_rule stmts_rule
rule_follows expression = refl
rule_follows factor = refl
rule_follows statements = refl

rule_empty : (s : Nonterminal) → can_be_empty (rule s) ≡ empty_inner s
unfolding name index_rule extent_rule group_rule sign_rule number_rule factor_rule term_operator term_link term_links term_rule sum_operator sum_link sum_links sum_rule comparison compared_rule expr_rule body_rule named_value let_rule alloc_rule free_rule print_rule written_value write_rule else_rule if_rule while_rule arg_rule next_arg more_args arg_list args_rule callee_rule owning_call plain_call any_call call_rule par_rule parts_rule split_rule stmt_rule stmts_rule
rule_empty expression = refl
rule_empty factor = refl
rule_empty statements = refl

pub program_follows : may_follow program_rule k.End ≡ true
unfolding name index_rule extent_rule group_rule sign_rule number_rule factor_rule term_operator term_link term_links term_rule sum_operator sum_link sum_links sum_rule comparison compared_rule expr_rule body_rule named_value let_rule alloc_rule free_rule print_rule written_value write_rule else_rule if_rule while_rule arg_rule next_arg more_args arg_list args_rule callee_rule owning_call plain_call any_call call_rule par_rule parts_rule split_rule stmt_rule stmts_rule param_rule next_param more_params param_list params_rule ret_value ret_rule func_body func_rule more_funcs program_rule
program_follows = refl

pub next_in : (s : Nonterminal) (j : Kind) → follows_inner s j ≡ true → may_follow (rule s) j ≡ true
next_in s j = implied (follows_inner s) (may_follow (rule s)) (rule_follows s) j

widened : (p q : Kind → Bool) (e g : Bool) → e ≡ g → ((j : Kind) → p j ≡ true → q j ≡ true) → (ts : List Token) → BeginsBy p e ts → BeginsBy q g ts
widened p q e g same h [] b = sym same ∙ b
widened p q e g same h (t ∷ ts) b = h t.kind b

pub nested_begins : (size depth : ℕ) (s : Nonterminal) (d : Nested size s) → BeginsBy (begins_inner s) (empty_inner s) (tokens_of (nested_spelling size depth s d))
nested_begins zero depth s d = absurd d
nested_begins (suc size) depth s d =
    widened (begins (rule s)) (begins_inner s) (can_be_empty (rule s)) (empty_inner s) (rule_empty s) (implied (begins (rule s)) (begins_inner s) (rule_begins s))
    (tokens_of (nested_spelling (suc size) depth s d)) (form_begins (Nested size) (nested_spelling size) (nested_begins size) depth (rule s) d)

deep_local : (s : Nonterminal) → IsLocal (empty_inner s) (read_inner zero s)
unfolding read_inner
deep_local s = λ ts. record { front = []; rest = ts; split = refl; count = refl; again = λ other h. refl }

pub inner_local : (n : ℕ) (s : Nonterminal) → IsLocal (empty_inner s) (read_inner n s)
unfolding read_inner
inner_local zero s = deep_local s
inner_local (suc n) s = subst (λ (e : Bool). IsLocal e (read_by n (read_inner n) (rule s))) (rule_empty s) (read_local n (read_inner n) (inner_local n) false (rule s) (rule_fine s))

-- a form of each nonterminal that holds no other
basic : (size : ℕ) (s : Nonterminal) → Nested (suc size) s
unfolding name index_rule extent_rule group_rule sign_rule number_rule factor_rule term_operator term_link term_links term_rule sum_operator sum_link sum_links sum_rule comparison compared_rule expr_rule stmts_rule
basic size expression = ((((inr (inr (inr (inr (sample k.Number))))), []), []), inr tt)
basic size factor = inr (inr (inr (inr (sample k.Number))))
basic size statements = []

pub inner_exact : (n depth most : ℕ) → depth + n ≡ most → 0 < n → (s : Nonterminal) → IsExact (nested_spelling (suc n) (depth + 1) s) (nested_meaning (suc n) s) most (read_inner n s)
unfolding read_inner
inner_exact zero depth most room lt s = absurd (omega arith)
inner_exact (suc n) depth most room lt s =
    let less : (depth + 1) + n ≡ most = omega arith in
    read_exact (Nested (suc n)) (nested_spelling (suc n)) (nested_meaning (suc n)) (basic n) most (depth + 1) n less (read_inner n) (inner_exact n (depth + 1) most less) false (λ e. absurd (never e)) (rule s) (rule_fine s)
  where
    never : false ≡ true → ⊥
    never e = cc

pub inner_complete : (size n depth most : ℕ) → depth + n ≡ most → 0 < n → (s : Nonterminal) → CompleteBy (nested_spelling size (depth + 1) s) (nested_meaning size s) (follows_inner s) most (read_inner n s)
unfolding read_inner
inner_complete zero n depth most room lt s = λ d rest h. absurd d
inner_complete (suc size) zero depth most room lt s = absurd (omega arith)
inner_complete (suc size) (suc n) depth most room lt s =
    let less : (depth + 1) + n ≡ most = omega arith in
    λ d rest h. read_complete (Nested size) (nested_spelling size) (nested_meaning size) (nested_begins size) most (depth + 1) n less (read_inner n) (inner_complete size n (depth + 1) most less) false (λ e. absurd (never e)) (rule s) (rule_fine s) d rest (next_in s (next rest) h)
  where
    never : false ≡ true → ⊥
    never e = cc

-- the grammar's program, where most constructs may open
pub program_local : (most : ℕ) → IsLocal (can_be_empty program_rule) (read most program_rule)
program_local most = read_local most (read_inner most) (inner_local most) false program_rule program_fine

pub program_exact : (most : ℕ) → IsExact (spelling (Nested (suc most)) (nested_spelling (suc most)) 0 program_rule) (meaning (Nested (suc most)) (nested_meaning (suc most)) program_rule) most (read most program_rule)
program_exact most =
    let room : 0 + most ≡ most = omega arith in
    read_exact (Nested (suc most)) (nested_spelling (suc most)) (nested_meaning (suc most)) (basic most) most 0 most room (read_inner most) (inner_exact most 0 most room) false (λ e. absurd (never e)) program_rule program_fine
  where
    never : false ≡ true → ⊥
    never e = cc

pub program_complete : (size most : ℕ) → CompleteBy (spelling (Nested size) (nested_spelling size) 0 program_rule) (meaning (Nested size) (nested_meaning size) program_rule) (may_follow program_rule) most (read most program_rule)
program_complete size most =
    let room : 0 + most ≡ most = omega arith in
    read_complete (Nested size) (nested_spelling size) (nested_meaning size) (nested_begins size) most 0 most room (read_inner most) (inner_complete size most 0 most room) false (λ e. absurd (never e)) program_rule program_fine
  where
    never : false ≡ true → ⊥
    never e = cc
