-- The call by which a loop is written out means the plain loop.
use Rattle.std.specs.Prelude.{◌≡◌, ℕ, zero, suc, ◌<◌, ◌≤◌, ◌^◌, true, false, List, [], ◌∷◌, map, length, ℤ, pos, negsuc, Result, Ok, Err, Some, refl}
use Rattle.std.specs.Int.{w64, int_wrapping_sub}
use Rattle.std.proofs.Common.{sym, ◌∙◌, ap, arith, subst, append-nil}
use Rattle.std.proofs.lemmas.Bool.{not-true}
use Rattle.std.proofs.lemmas.List.{length-map}
use Rattle.dag_order.specs.declared.fault.FaultKind.{FaultKind}
use Rattle.par_tree.specs.Tree
use Rattle.par_tree.specs.Tree.{Name, Expr, equal, above, Arg, call_stmt, integer, Param, Func}
use Rattle.par_tree.specs.Names.{param_names}
use Rattle.par_ownership.specs.Ownership.{function_of, hands_back}
use Rattle.depth_first_run.specs.Stores.{Store, nothing}
use Rattle.depth_first_run.specs.Values.{Outcome, and_then, value, chained, operated, compared}
use Rattle.depth_first_run.specs.States.{Setting, State, with_fault, with_number}
use Rattle.depth_first_run.specs.Run.{set_integer, lines_of, first_fault, open_call, call_with, call_function, exec, run}
use Rattle.loop_laws.specs.Outcomes.{added, KeepsLimits}
use Rattle.loop_laws.proofs.Lists.{added_is}
use Rattle.ownership_laws.proofs.Passing.{function_owned}
use Rattle.loop_laws.specs.HelperTrees.{integer_param, further_names, low_name, count_name, difference, numbers_helper}
use Rattle.loop_laws.specs.PlainLoop.{sum_calls, positive_part, count_between, in_front, numbers_of, loop_with, loop_between, loop_from, plain_loop, written_out, MeansTheSame}
use Rattle.loop_laws.specs.NumberLoopLaws.{NumbersLoopsArePlain}
use Rattle.loop_laws.proofs.Faulting.{call_told}
use Rattle.loop_laws.proofs.PlainLoops.{calls, after, calls_told}
use Rattle.loop_laws.proofs.Wrapping.{count_small}
use Rattle.loop_laws.proofs.Arguments.{HaveNumbers, numbers_passed, expressions_have, fault_passed, AllDiffer, parameters_differ}
use Rattle.loop_laws.proofs.Bodies.{call_opens}
use Rattle.loop_laws.proofs.TwoRuns.{both_faulted, one_meaning, means_at}
use Rattle.loop_laws.proofs.Halving.{further_length, loop_of_some, loop_of_none}

-- ---- a fault of an expression

fault_called : (c : Setting) (line : ℕ) (x f : Name) (es : List Expr) (g : Func) (kind : FaultKind) (s : State) → function_of c.program f ≡ Some g
    → length g.params ≡ length es → numbers_of s.store es ≡ Err kind → exec c (run c) line (call_stmt (integer x) f (map Tree.value es)) s ≡ with_fault kind line s
unfolding exec
fault_called c line x f es g kind s is l e =
    ap (λ o. call_function c (run c) line (integer x) (map Tree.value es) o s) is
    ∙ ap (λ r. call_with c (run c) line (integer x) (map Tree.value es) g r s) (fault_passed s.store g.params es record { callee = nothing; caller = s.store } kind l e)

-- ---- the numbers of the written-out call

difference_is : (s : Store) (e1 e2 : Expr) (lo hi : ℤ) → value s e1 ≡ Ok lo → value s e2 ≡ Ok hi → value s (difference e2 e1) ≡ Ok (int_wrapping_sub w64 hi lo)
unfolding value chained operated
difference_is s e1 e2 lo hi p q =
    ap (λ o. and_then o (chained s (Tree.link Tree.minus e1 Tree.last))) q
    ∙ ap (λ o. and_then (and_then o (operated Tree.minus hi)) (chained s Tree.last)) p

difference_fault : (s : Store) (e1 e2 : Expr) (kind : FaultKind) → value s e2 ≡ Err kind → value s (difference e2 e1) ≡ Err kind
unfolding value
difference_fault s e1 e2 kind q = ap (λ o. and_then o (chained s (Tree.link Tree.minus e1 Tree.last))) q

pub passed_numbers : (s : Store) (e1 e2 : Expr) (cs : List Expr) (lo hi : ℤ) (r : Result (List ℤ) FaultKind) → value s e1 ≡ Ok lo → value s e2 ≡ Ok hi → numbers_of s cs ≡ r
    → numbers_of s (e1 ∷ difference e2 e1 ∷ cs) ≡ in_front (Ok lo) (in_front (Ok (int_wrapping_sub w64 hi lo)) r)
unfolding numbers_of
passed_numbers s e1 e2 cs lo hi r p q e = λ i. in_front (p i) (in_front (difference_is s e1 e2 lo hi p q i) (e i))

-- ---- the loop

numbers_or : Result (List ℤ) FaultKind → List ℤ
numbers_or (Ok vs) = vs
numbers_or (Err kind) = []

pub length_numbers : (s : Store) (es : List Expr) (vs : List ℤ) → numbers_of s es ≡ Ok vs → length vs ≡ length es
unfolding numbers_of numbers_or
length_numbers s [] vs e = ap (λ (r : Result (List ℤ) FaultKind). length (numbers_or r)) (sym e)
length_numbers s (x ∷ es) vs e = by (value s x) (numbers_of s es) (length_numbers s es) e
  where
    by : (o : Outcome) (r : Result (List ℤ) FaultKind) → ((ws : List ℤ) → r ≡ Ok ws → length ws ≡ length es) → in_front o r ≡ Ok vs → length vs ≡ suc (length es)
    by (Ok v) (Ok ws) k i = ap (λ (r : Result (List ℤ) FaultKind). length (numbers_or r)) (sym i) ∙ ap suc (k ws refl)
    by (Ok v) (Err kind) k i = let never : ⊥ = cc in absurd never
    by (Err kind) r k i = let never : ⊥ = cc in absurd never

-- the call of the helper
abbrev call_of_helper : Setting → ℕ → Name → Func → List Arg → List ℤ → State → State
call_of_helper c line x h args vs s = open_call c (run c) line (integer x) args h (numbers_passed (param_names h.params) vs s.store) s

module _ (c : Setting) (sum f : Name) (k helper_line line : ℕ) (x : Name) (g : Func)
    (is_f : function_of c.program f ≡ Some g) (number_back : hands_back g.ret ≡ false) (is_sum : function_of c.program sum ≡ Some (numbers_helper sum f k helper_line))
    (differ : AllDiffer (low_name ∷ count_name ∷ further_names k)) (s : State) (sf : s.faulted ≡ false) where
  abbrev helper : Func
  helper = numbers_helper sum f k helper_line

  none_means : (args : List Arg) (vs : List ℤ) (lo n : ℤ) → length vs ≡ k → HaveNumbers s.store args (lo ∷ n ∷ vs)
      → compared equal n (pos 1) ≡ Ok (pos 0) → compared above n (pos 1) ≡ Ok (pos 0) → KeepsLimits (added s (call_of_helper c line x helper args (lo ∷ n ∷ vs) s))
      → MeansTheSame s (call_of_helper c line x helper args (lo ∷ n ∷ vs) s) (set_integer x (pos 0) s)
  none_means args vs lo n many have other few kept =
      let u : State = call_of_helper c line x helper args (lo ∷ n ∷ vs) s in
      let r = loop_of_none c sum f k helper_line line x vs g is_f number_back is_sum many differ n lo x line args s.store s have sf other few kept in
      let none : added s (set_integer x (pos 0) s) ≡ [] = added_is s (set_integer x (pos 0) s) [] (sym (append-nil s.items)) in
      record {
        lines = r.0.lines ∙ sym (ap lines_of none);
        fault = r.0.fault ∙ sym (ap first_fault none);
        faulted = r.1 ∙ sym sf;
        store = λ z. r.2;
      }

  some_means : (args : List Arg) (vs : List ℤ) (lo : ℤ) (n : ℕ) → 1 ≤ n → n < 2 ^ 63 → length vs ≡ k → HaveNumbers s.store args (lo ∷ pos n ∷ vs)
      → KeepsLimits (added s (call_of_helper c line x helper args (lo ∷ pos n ∷ vs) s)) → KeepsLimits (added s (sum_calls c line f x vs lo n s))
      → MeansTheSame s (call_of_helper c line x helper args (lo ∷ pos n ∷ vs) s) (sum_calls c line f x vs lo n s)
  unfolding after calls
  some_means args vs lo n some small many have ku kw =
      let h = numbers_passed (param_names helper.params) (lo ∷ pos n ∷ vs) s.store in
      let u : State = call_of_helper c line x helper args (lo ∷ pos n ∷ vs) s in
      let w : State = sum_calls c line f x vs lo n s in
      let r = loop_of_some c sum f k helper_line line x vs g is_f number_back is_sum many differ n some small lo x line args s.store s s have sf sf ku kw in
      record {
        lines = r.reading.lines;
        fault = r.reading.fault;
        faulted = both_faulted s s u w (call_told c line (integer x) args helper h s) (calls_told c line f x vs true n lo s) sf sf r.reading;
        store = λ z. let l = r.left z in l.1 ∙ sym l.2;
      }

  count_means : (args : List Arg) (vs : List ℤ) (lo n : ℤ) → positive_part n < 2 ^ 63 → length vs ≡ k → HaveNumbers s.store args (lo ∷ n ∷ vs)
      → KeepsLimits (added s (call_of_helper c line x helper args (lo ∷ n ∷ vs) s)) → KeepsLimits (added s (sum_calls c line f x vs lo (positive_part n) s))
      → MeansTheSame s (call_of_helper c line x helper args (lo ∷ n ∷ vs) s) (sum_calls c line f x vs lo (positive_part n) s)
  unfolding compared
  count_means args vs lo (pos zero) small many have ku kw = none_means args vs lo (pos zero) many have refl refl ku
  count_means args vs lo (pos (suc n)) small many have ku kw = some_means args vs lo (suc n) (omega arith) small many have ku kw
  count_means args vs lo (negsuc n) small many have ku kw = none_means args vs lo (negsuc n) many have refl refl ku

  module _ (e1 e2 : Expr) (cs : List Expr) (as_many : length cs ≡ k) where
    abbrev expressions : List Expr
    expressions = e1 ∷ difference e2 e1 ∷ cs

    abbrev written : State
    written = written_out c line sum x e1 e2 cs s

    abbrev plain : State
    plain = plain_loop c line f x e1 e2 cs s

    as_many_parameters : length helper.params ≡ length expressions
    as_many_parameters =
        let a = length-map (further_names k) integer_param in let b = further_length k in omega (arith, a, b, as_many)

    -- a fault of an expression is the fault of both
    fault_means : (kind : FaultKind) → numbers_of s.store expressions ≡ Err kind → plain ≡ with_fault kind line s → MeansTheSame s written plain
    fault_means kind e p = one_meaning s written plain (with_fault kind line s) (fault_called c line x sum expressions helper kind s is_sum as_many_parameters e) p

    first_fault_means : (kind : FaultKind) → value s.store e1 ≡ Err kind → MeansTheSame s written plain
    unfolding numbers_of with_number
    first_fault_means kind e =
        fault_means kind (ap (λ o. in_front o (numbers_of s.store (difference e2 e1 ∷ cs))) e) (ap (λ o. with_number line o (loop_from c line f x e2 cs) s) e)

    from_low : (lo : ℤ) → value s.store e1 ≡ Ok lo → plain ≡ loop_from c line f x e2 cs lo s
    unfolding with_number
    from_low lo e = ap (λ o. with_number line o (loop_from c line f x e2 cs) s) e

    second_fault_means : (lo : ℤ) (kind : FaultKind) → value s.store e1 ≡ Ok lo → value s.store e2 ≡ Err kind → MeansTheSame s written plain
    unfolding numbers_of with_number
    second_fault_means lo kind p q =
        fault_means kind (λ i. in_front (p i) (in_front (difference_fault s.store e1 e2 kind q i) (numbers_of s.store cs)))
        (from_low lo p ∙ ap (λ o. with_number line o (loop_between c line f x cs lo) s) q)

    from_both : (lo hi : ℤ) (r : Result (List ℤ) FaultKind) → value s.store e1 ≡ Ok lo → value s.store e2 ≡ Ok hi → numbers_of s.store cs ≡ r
        → plain ≡ loop_with c line f x lo hi r s
    unfolding with_number
    from_both lo hi r p q e =
        from_low lo p ∙ ap (λ o. with_number line o (loop_between c line f x cs lo) s) q ∙ ap (λ rs. loop_with c line f x lo hi rs s) e

    further_fault_means : (lo hi : ℤ) (kind : FaultKind) → value s.store e1 ≡ Ok lo → value s.store e2 ≡ Ok hi → numbers_of s.store cs ≡ Err kind → MeansTheSame s written plain
    further_fault_means lo hi kind p q e =
        fault_means kind (passed_numbers s.store e1 e2 cs lo hi (Err kind) p q e) (from_both lo hi (Err kind) p q e)

    numbers_mean : (lo hi : ℤ) (vs : List ℤ) → value s.store e1 ≡ Ok lo → value s.store e2 ≡ Ok hi → numbers_of s.store cs ≡ Ok vs
        → KeepsLimits (added s written) → KeepsLimits (added s plain) → MeansTheSame s written plain
    numbers_mean lo hi vs p q e ku kw =
        let n : ℤ = int_wrapping_sub w64 hi lo in
        let have : HaveNumbers s.store (map Tree.value expressions) (lo ∷ n ∷ vs) = expressions_have s.store expressions (lo ∷ n ∷ vs) (passed_numbers s.store e1 e2 cs lo hi (Ok vs) p q e) in
        let u : written ≡ call_of_helper c line x helper (map Tree.value expressions) (lo ∷ n ∷ vs) s =
        call_opens c line (integer x) sum (map Tree.value expressions) helper (lo ∷ n ∷ vs) s is_sum have in
        let w : plain ≡ sum_calls c line f x vs lo (count_between lo hi) s = from_both lo hi (Ok vs) p q e in
        means_at s written plain (call_of_helper c line x helper (map Tree.value expressions) (lo ∷ n ∷ vs) s) (sum_calls c line f x vs lo (count_between lo hi) s) u w
        (count_means (map Tree.value expressions) vs lo n (count_small lo hi) (length_numbers s.store cs vs e ∙ as_many) have
        (subst (λ (z : State). KeepsLimits (added s z)) u ku) (subst (λ (z : State). KeepsLimits (added s z)) w kw))

    loop_means : KeepsLimits (added s written) → KeepsLimits (added s plain) → MeansTheSame s written plain
    loop_means ku kw = by (value s.store e1) refl (value s.store e2) refl (numbers_of s.store cs) refl
      where
        by : (o : Outcome) → value s.store e1 ≡ o → (o' : Outcome) → value s.store e2 ≡ o' → (r : Result (List ℤ) FaultKind) → numbers_of s.store cs ≡ r
            → MeansTheSame s written plain
        by (Err kind) p o' q r e = first_fault_means kind p
        by (Ok lo) p (Err kind) q r e = second_fault_means lo kind p q
        by (Ok lo) p (Ok hi) q (Err kind) e = further_fault_means lo hi kind p q e
        by (Ok lo) p (Ok hi) q (Ok vs) e = numbers_mean lo hi vs p q e ku kw

pub numbers_loops : NumbersLoopsArePlain
numbers_loops c sum f k helper_line own is line x e1 e2 cs s as_many sf ku kw =
    let helper : Func = numbers_helper sum f k helper_line in
    let owns = function_owned c.program c.program sum helper is own.functions in
    let called = owns.2.1.2.1.1.1.1.1 in
    loop_means c sum f k helper_line line x called.0 called.1 (not-true (hands_back called.0.ret) called.2) is
    (parameters_differ c.program sum helper (low_name ∷ count_name ∷ further_names k) is own refl) s sf e1 e2 cs as_many ku kw
