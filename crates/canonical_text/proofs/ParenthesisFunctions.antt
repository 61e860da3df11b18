-- The `(` of the canonical text of a program are at most as many as those of the tokens that it was read from.
use Rattle.std.proofs.Common.{◌≡◌, ℕ, ◌+◌, ◌≤◌, List, [], ◌∷◌, ◌++◌, map, refl, ap, ◌∙◌, arith}
use Rattle.std.specs.Prelude.{Option, Some, codes}
use Rattle.std.specs.List.{flat_map}
use Rattle.std.proofs.lemmas.List.Concat.{flat_map-cons}
use Rattle.par_tree.specs.Tree.{Body, Param, Ret, Func}
use Rattle.par_text.specs.Text.{ProgramForm, program_spelling, program_meaning}
use Rattle.par_text.specs.Grammar.{param_rule, next_param, more_params, param_list, params_rule, ret_value, ret_rule, func_body, func_of, func_rule, more_funcs, program_rule}
use Rattle.canonical_text.specs.Canonical.{with_commas, line_end, deeper, braces, body_text, param_text, ret_value_text, ret_text, func_text, canonical}
use Rattle.canonical_text.proofs.Openings.{opened, opened-append}
use Rattle.canonical_text.proofs.Weights.{weight, Weighs, free, weigh_free, weigh_name, weigh_mapped, weigh_pair, weigh_second, weigh_first, weigh_either, weigh_nothing, weigh_many, weigh_nest}
use Rattle.canonical_text.proofs.ParenthesisExpressions.{Inside, weigh_expression, all_inside}
use Rattle.canonical_text.proofs.ParenthesisStatements.{between, before, behind, opened_texts, with_commas_opens, braces_open, all_bodies}

abbrev opened_each : List Param → ℕ
opened_each ps = opened_texts (map param_text ps)

abbrev opened_params : List Param → ℕ
opened_params ps = opened (with_commas (map param_text ps))

ret_opens : (margin : List ℕ) → opened margin ≡ 0 → (r : Ret) → opened (ret_text margin (Some r)) ≡ opened (ret_value_text r.value)
ret_opens margin plain r =
    let a = before margin (codes "return " ++ (ret_value_text r.value ++ (codes ";" ++ line_end))) plain in
    let b = behind (ret_value_text r.value) (codes ";" ++ line_end) refl in
    omega (arith, a, b)

abbrev opened_ret : Option Ret → ℕ
opened_ret r = opened (ret_text (deeper []) r)

abbrev opened_block : Body × Option Ret → ℕ
opened_block v = opened (body_text (deeper []) v.0) + opened_ret v.1

func_opens : (f : Func) → opened (func_text f) ≡ opened f.name + ((1 + opened_params f.params) + opened_block (f.body, f.ret))
func_opens f =
    let inner = body_text (deeper []) f.body ++ ret_text (deeper []) f.ret in
    let tail = braces [] inner ++ line_end in
    let a = opened-append f.name (codes "(" ++ (with_commas (map param_text f.params) ++ (codes ") " ++ tail))) in
    let b = between (with_commas (map param_text f.params)) (codes ") ") tail refl in
    let c = behind (braces [] inner) line_end refl in
    let d = braces_open [] inner refl in
    let e = opened-append (body_text (deeper []) f.body) (ret_text (deeper []) f.ret) in
    omega (arith, a, b, c, d, e)

funcs_open : (f : Func) (fs : List Func) → opened (canonical (f ∷ fs)) ≡ opened (func_text f) + opened (canonical fs)
funcs_open f fs = ap opened (flat_map-cons func_text f fs) ∙ opened-append (func_text f) (flat_map func_text fs)

module _ {size : ℕ} where
  weigh_param : Weighs size param_rule (λ p. opened (param_text p))
  unfolding param_rule
  weigh_param =
      weigh_either (weigh_second (weigh_mapped {ca = opened} (λ b. omega arith) weigh_name))
      (weigh_either (weigh_second (weigh_mapped {ca = opened} (λ b. omega arith) weigh_name))
      (weigh_mapped {ca = opened} (λ b. omega arith) weigh_name))

  weigh_more_params : Weighs size more_params opened_each
  unfolding more_params next_param
  weigh_more_params = weigh_many (omega arith) (λ p ps. omega arith) (weigh_second weigh_param)

  weigh_params : Weighs size params_rule (λ ps. 1 + opened_params ps)
  unfolding params_rule param_list
  weigh_params =
      weigh_nest {ca = opened_each} (λ ps. let a = with_commas_opens (map param_text ps) in omega (arith, a))
      (weigh_first (weigh_either (weigh_pair (λ p ps. omega arith) weigh_param weigh_more_params) (weigh_nothing (omega arith))))

  inside : Inside size
  inside = all_inside size

  weigh_ret_value : Weighs size ret_value (λ v. opened (ret_value_text v))
  unfolding ret_value
  weigh_ret_value = weigh_either (weigh_second (weigh_mapped {ca = opened} (λ b. omega arith) weigh_name)) (weigh_expression inside (λ e. omega arith))

  weigh_ret : Weighs size ret_rule opened_ret
  unfolding ret_rule
  weigh_ret =
      weigh_either
      (weigh_pair {ca = free} {cb = λ v. opened (ret_value_text v)} (λ t v. let a = ret_opens (deeper []) refl (record { line = t.line; value = v }) in omega (arith, a)) (weigh_free _)
      (weigh_first weigh_ret_value)) (weigh_nothing (omega arith))

  weigh_block : Weighs size func_body opened_block
  unfolding func_body
  weigh_block =
      weigh_nest {ca = opened_block} (λ v. omega arith)
      (weigh_first (weigh_pair {ca = λ b. opened (body_text (deeper []) b)} (λ b r. omega arith) (record { weighs = λ depth d. all_bodies all_inside size (deeper []) refl depth d }) weigh_ret))

  weigh_func : Weighs size func_rule (λ f. opened (func_text f))
  unfolding func_rule
  weigh_func =
      weigh_pair {ca = free} {cb = λ v. opened v.0 + ((1 + opened_params v.1.0) + opened_block v.1.1)} (λ t v. let a = func_opens (func_of t v) in omega (arith, a)) (weigh_free _)
      (weigh_pair {cb = λ v. (1 + opened_params v.0) + opened_block v.1} (λ x v. omega arith) weigh_name
      (weigh_pair (λ ps v. omega arith) weigh_params weigh_block))

  weigh_funcs : Weighs size more_funcs (λ p. opened (canonical p))
  unfolding more_funcs
  weigh_funcs = weigh_many (omega arith) (λ f fs. let a = funcs_open f fs in omega (arith, a)) weigh_func

  weigh_program : Weighs size program_rule (λ p. opened (canonical p))
  unfolding program_rule
  weigh_program = weigh_pair (λ f fs. let a = funcs_open f fs in omega (arith, a)) weigh_func weigh_funcs

pub program_weighs : (size : ℕ) (form : ProgramForm size) → opened (canonical (program_meaning size form)) ≤ weight (program_spelling size form)
program_weighs size form = weigh_program.weighs 0 form
