-- The walk refuses nothing exactly where the ownership rules hold.
use Rattle.std.proofs.Common.{◌≡◌, ℕ, true, List, [], ◌∷◌, length, Option, Some, None, Result, Ok, Err, refl, sym, subst}
use Rattle.std.specs.List.{list_all}
use Rattle.par_tree.specs.Tree.{Program, Stmt, let_stmt, assign_stmt, put_stmt, alloc_stmt, free_stmt, if_stmt, while_stmt, call_stmt, print_stmt, par_stmt, split_stmt, Body, done, step, Param, Func, Ret, RetValue, gives, hands}
use Rattle.par_ownership.specs.Environment.{Environment, integer_entry, block_entry, lent_entry, with_entry, opened, without, after_gives, after_answer, is_released, param_entry}
use Rattle.par_ownership.specs.Ownership.{Owns, OwnsAll, OwnsParams, OwnsReturn, OwnsValue, OwnsFunction, OwnsFunctions, Ownership, function_of, main_name}
use Rattle.par_ownership.specs.Walk.{Refusal, walk, walk_all, walk_params, walk_return, walk_value, block_refusal, lent_refusal, last_refusal, func_refusal, funcs_refusal, program_refusal}
use Rattle.par_ownership.proofs.Exact.{Tells, Exact, tells_nothing, tells_as, tells_first, exact_ok, exact_as, exact_guarded, exact_then, exact_ended, exact_arms, exact_round, exact_branches, exact_split, exact_two, tells_end, same_end}
use Rattle.par_ownership.proofs.Tests.{tells_fresh, tells_integer, tells_held, tells_owned, tells_expr, tells_call, tells_branches, tells_names, tells_main}

mutual
  pub exact_stmt : (p : Program) (line : ℕ) (s : Stmt) (env : Environment) → Exact (walk p line s env) (Owns p line s env)
  exact_stmt p line (let_stmt x e) env =
      exact_as (exact_guarded (tells_fresh line env x) (exact_guarded (tells_expr line env e) (exact_ok (with_entry env (integer_entry x line)))))
      (λ after h. (h.0, h.1.0, h.1.1)) (λ after h. (h.0, (h.1, h.2)))
  exact_stmt p line (assign_stmt x e) env =
      exact_as (exact_guarded (tells_integer line env x) (exact_guarded (tells_expr line env e) (exact_ok env)))
      (λ after h. (h.0, h.1.0, h.1.1)) (λ after h. (h.0, (h.1, h.2)))
  exact_stmt p line (put_stmt b i e) env =
      exact_as (exact_guarded (tells_held line env b) (exact_guarded (tells_expr line env i) (exact_guarded (tells_expr line env e) (exact_ok env))))
      (λ after h. (h.0, h.1.0, h.1.1.0, h.1.1.1)) (λ after h. (h.0, (h.1, (h.2, h.3))))
  exact_stmt p line (alloc_stmt b e) env =
      exact_as (exact_guarded (tells_fresh line env b) (exact_guarded (tells_expr line env e) (exact_ok (with_entry env (block_entry b line)))))
      (λ after h. (h.0, h.1.0, h.1.1)) (λ after h. (h.0, (h.1, h.2)))
  exact_stmt p line (free_stmt b) env = exact_two (block_refusal line env b) (lent_refusal line env b) (tells_owned line env b) (exact_ok (without env b))
  exact_stmt p line (if_stmt c a b) env =
      exact_as (exact_guarded (tells_expr line env c) (exact_arms line (exact_ended (OwnsAll p a) (length env) env (exact_all p a env)) (exact_ended (OwnsAll p b) (length env) env (exact_all p b env))))
      (λ after h. (h.0, h.1.0, h.1.1)) (λ after h. (h.0, (h.1, h.2)))
  exact_stmt p line (while_stmt c a) env =
      exact_as (exact_guarded (tells_expr line env c) (exact_round line env (exact_ended (OwnsAll p a) (length env) env (exact_all p a env))))
      (λ after h. (h.0, h.1.0, h.1.1)) (λ after h. (h.0, (h.1, h.2)))
  exact_stmt p line (call_stmt t f args) env =
      exact_as (exact_guarded (tells_call p line env t f args) (exact_ok (after_answer (after_gives env args) t line)))
      (λ after h. (h.0.0, h.0.1, h.1)) (λ after h. ((h.0, h.1), h.2))
  exact_stmt p line (print_stmt e) env = exact_guarded (tells_expr line env e) (exact_ok env)
  exact_stmt p line (par_stmt a b) env =
      exact_guarded (tells_branches line a b env)
      (exact_branches (exact_ended (OwnsAll p a) (length env) env (exact_all p a env)) (exact_ended (OwnsAll p b) (length env) env (exact_all p b env)))
  exact_stmt p line (split_stmt b e l r a) env =
      exact_as
      (exact_guarded (tells_held line env b)
      (exact_guarded (tells_expr line env e)
      (exact_guarded (tells_fresh line env l)
      (exact_guarded (tells_fresh line (with_entry env (lent_entry l line)) r)
      (exact_split b
      (exact_ended (OwnsAll p a) (length env) (opened env b l r line)
      (exact_all p a (opened env b l r line))))))))
      (λ after h. (h.0, h.1.0, h.1.1.0, h.1.1.1.0, h.1.1.1.1)) (λ after h. (h.0, (h.1, (h.2, (h.3, h.4)))))

  pub exact_all : (p : Program) (b : Body) (env : Environment) → Exact (walk_all p b env) (OwnsAll p b env)
  exact_all p done env = exact_ok env
  exact_all p (step line s rest) env = exact_then (exact_stmt p line s env) (λ middle. exact_all p rest middle)

-- the parameters, and the `return`
exact_params : (line : ℕ) (qs : List Param) (env : Environment) → Exact (walk_params line qs env) (OwnsParams line qs env)
exact_params line [] env = exact_ok env
exact_params line (q ∷ qs) env = exact_guarded (tells_fresh line env q.name) (exact_params line qs (with_entry env (param_entry q line)))

exact_value : (line : ℕ) (v : RetValue) (env : Environment) → Exact (walk_value line v env) (OwnsValue v env)
exact_value line (gives e) env = exact_guarded (tells_expr line env e) (exact_ok env)
exact_value line (hands b) env = exact_two (block_refusal line env b) (lent_refusal line env b) (tells_owned line env b) (exact_ok (without env b))

exact_return : (ret : Option Ret) (env : Environment) → Exact (walk_return ret env) (OwnsReturn ret env)
exact_return None env = exact_ok env
exact_return (Some r) env = exact_value r.line r.value env

-- a function, the functions, the program
tells_last : {r : Result Environment Refusal} {R : Environment → Type 0} → Exact r R → Tells (last_refusal r) ((after : Environment) × R after × (list_all is_released after ≡ true))
tells_last {r = Ok env} x = record {
  sound = λ h. (env, x.sound env refl, (tells_end env).sound h);
  complete = λ h. (tells_end env).complete (subst (λ (v : Environment). list_all is_released v ≡ true) (sym (same_end env h.0 (x.complete h.0 h.1))) h.2);
}
tells_last {r = Err q} x = record {
  sound = λ h. let no : ⊥ = cc in absurd no;
  complete = λ h. let e : Err q ≡ Ok h.0 = x.complete h.0 h.1 in let no : ⊥ = cc in absurd no;
}

tells_func : (p : Program) (f : Func) → Tells (func_refusal p f) (OwnsFunction p f)
tells_func p f =
    tells_as
    (tells_last (exact_then (exact_then (exact_params f.line f.params []) (exact_all p f.body)) (exact_return f.ret)))
    (λ h. (h.1.1.0, h.1.1.1, (h.1.0, h.1.1.2, (h.0, h.1.2, h.2))))
    (λ h. (h.2.2.0, (h.2.0, (h.0, h.1, h.2.1), h.2.2.1), h.2.2.2))

tells_funcs : (p : Program) (fs : List Func) → Tells (funcs_refusal p fs) (OwnsFunctions p fs)
tells_funcs p [] = tells_nothing
tells_funcs p (f ∷ rest) = tells_first (tells_func p f) (tells_funcs p rest)

pub tells_program : (p : Program) → Tells (program_refusal p) (Ownership p)
tells_program p =
    tells_as (tells_first (tells_names [] p) (tells_first (tells_main (function_of p main_name)) (tells_funcs p p)))
    (λ h. record { new_names = h.0; main = h.1.0; functions = h.1.1 })
    (λ o. (o.new_names, (o.main, o.functions)))
