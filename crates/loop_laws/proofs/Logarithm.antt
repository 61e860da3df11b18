-- The words of the call by which a loop is written out.
use Rattle.std.specs.Prelude.{◌≡◌, ℕ, ◌*◌, ◌≤◌, List, ◌∷◌, map, ℤ, pos, negsuc, ◌+ℤ◌, ◌≤ℤ◌, Ok, refl}
use Rattle.std.specs.Int.{w64, int_wrapping_sub}
use Rattle.std.proofs.Common.{sym, ◌∙◌, ap, arith, subst}
use Rattle.depth_first_list.specs.Actions.{peak, record_words}
use Rattle.par_tree.specs.Tree
use Rattle.par_tree.specs.Tree.{Name, Expr, integer, Func}
use Rattle.par_tree.specs.Names.{param_names}
use Rattle.par_ownership.specs.Ownership.{hands_back}
use Rattle.depth_first_run.specs.States.{State}
use Rattle.depth_first_run.specs.Run.{actions_of, open_call, run}
use Rattle.loop_laws.specs.Outcomes.{added, KeepsLimits}
use Rattle.ownership_laws.proofs.Passing.{function_owned}
use Rattle.loop_laws.specs.HelperTrees.{further_names, low_name, count_name, difference, numbers_helper}
use Rattle.loop_laws.specs.PlainLoop.{constant, call_for, number_of_round, positive_part, count_between, written_out}
use Rattle.loop_laws.specs.NumberLoopLaws.{PrefixSumsGrowByTheLogarithm}
use Rattle.loop_laws.proofs.Wrapping.{count_small}
use Rattle.loop_laws.proofs.Arguments.{numbers_passed, expressions_have, constants_have, parameters_differ}
use Rattle.loop_laws.proofs.Bodies.{call_opens}
use Rattle.std.proofs.lemmas.Bool.{not-true}
use Rattle.loop_laws.proofs.Plain.{passed_numbers, length_numbers}
use Rattle.loop_laws.proofs.Growing.{Rounds, Grows, all_grow}

is_positive : (z : ℤ) → 1 ≤ positive_part z → z ≡ pos (positive_part z)
is_positive (pos n) some = refl
is_positive (negsuc n) some = absurd (omega (arith, some))

pub prefix_sums : PrefixSumsGrowByTheLogarithm
unfolding Rounds Grows
prefix_sums c sum f k helper_line own is line x e1 e2 cs s as_many sf lo hi vs p q e logarithm some lt w rounds ks =
    let helper : Func = numbers_helper sum f k helper_line in
    let owns = function_owned c.program c.program sum helper is own.functions in
    let called = owns.2.1.2.1.1.1.1.1 in
    let g : Func = called.0 in
    let n : ℕ = count_between lo hi in
    let expressions : List Expr = e1 ∷ difference e2 e1 ∷ cs in
    let have = expressions_have s.store expressions (lo ∷ int_wrapping_sub w64 hi lo ∷ vs) (passed_numbers s.store e1 e2 cs lo hi (Ok vs) p q e) in
    let call : ℤ → State = λ z. open_call c (run c) line (integer x) (map Tree.value expressions) helper (numbers_passed (param_names helper.params) (lo ∷ z ∷ vs) s.store) s in
    let is_call : written_out c line sum x e1 e2 cs s ≡ call (pos n) =
    call_opens c line (integer x) sum (map Tree.value expressions) helper (lo ∷ int_wrapping_sub w64 hi lo ∷ vs) s is have
    ∙ ap call (is_positive (int_wrapping_sub w64 hi lo) some) in
    let alone : ℤ → State = λ v. open_call c (run c) line (integer x) (map constant (v ∷ vs)) g (numbers_passed (param_names g.params) (v ∷ vs) s.store) s in
    let one : (v : ℤ) → call_for c line f x (v ∷ vs) s ≡ alone v = λ v. call_opens c line (integer x) f (map constant (v ∷ vs)) g (v ∷ vs) s called.1 (constants_have s.store (v ∷ vs)) in
    subst (λ (z : State). peak (actions_of (added s z)) ≤ℤ (w +ℤ pos (record_words * logarithm))) (sym is_call)
    (all_grow c sum f k helper_line line x vs g called.1 (not-true (hands_back g.ret) called.2) is (length_numbers s.store cs vs e ∙ as_many)
    (parameters_differ c.program sum helper (low_name ∷ count_name ∷ further_names k) is own refl) own s sf w n n (omega arith) some (count_small lo hi)
    logarithm lo line x (map Tree.value expressions) s sf lt
    (λ j below. subst (λ (z : State). KeepsLimits (added s z) × (peak (actions_of (added s z)) ≤ℤ w)) (one (number_of_round lo j)) (rounds j below))
    (subst (λ (z : State). KeepsLimits (added s z)) is_call ks))
