-- The words of the call of a helper: those of one round, and a record for each time that its count is halved.
use Rattle.std.specs.Prelude.{◌≡◌, ℕ, zero, suc, ◌+◌, ◌-◌, ◌*◌, ◌/◌, ◌<◌, ◌≤◌, ◌^◌, Bool, true, false, List, [], ◌∷◌, ◌++◌, map, length, ℤ, pos, neg_ℤ, ◌+ℤ◌, ◌≤ℤ◌, Some, ◌⊎◌, refl}
use Rattle.std.specs.Int.{w64, int_max, int_wrapping_add}
use Rattle.std.proofs.Common.{sym, ◌∙◌, ap, arith, subst, append-nil, append_assoc, inl, inr}
use Rattle.std.proofs.lemmas.Int.{ints, clamps}
use Rattle.std.proofs.lemmas.Grind.{pow_more}
use Rattle.depth_first_list.specs.Actions as actions
use Rattle.depth_first_list.specs.Actions.{Action, weight, live_words, peak, record_words}
use Rattle.par_tree.specs.Tree
use Rattle.par_tree.specs.Tree.{Name, Arg, var, integer, Param, by_value, Body, Func}
use Rattle.par_tree.specs.Names.{param_names}
use Rattle.par_ownership.specs.Environment.{Environment, integer_entry, with_entry}
use Rattle.par_ownership.specs.Ownership.{Ownership, IsFresh, OwnsAll, OwnsParams, OwnsFunction, function_of, hands_back}
use Rattle.depth_first_run.specs.Stores.{Store, held_words, stored_words, those_named}
use Rattle.depth_first_run.specs.Values.{value}
use Rattle.depth_first_run.specs.States.{Setting, State, Item, began, acted, with_item, with_action, skip_if, unless_faulted, with_number, child_of, ended, given_back, holdings}
use Rattle.depth_first_run.specs.Calls.{end_call, with_answer, returned}
use Rattle.depth_first_run.specs.Calls as passing
use Rattle.depth_first_run.specs.Run.{set_integer, actions_of, names_in, assigns_in, open_call, exec_all, run}
use Rattle.depth_first_run.proofs.Fixed.{run_fixed}
use Rattle.ownership_laws.specs.Counts.{count, held_in, held_entry}
use Rattle.ownership_laws.specs.Laws.{HoldsFor, HasStopped, GoesOn}
use Rattle.ownership_laws.proofs.Counting.{none_counted, empty_found, fresh_unseen}
use Rattle.ownership_laws.proofs.Tame.{held_with_integer}
use Rattle.ownership_laws.proofs.Passing.{function_owned}
use Rattle.ownership_laws.proofs.Owned.{holds_rules}
use Rattle.loop_laws.specs.Outcomes.{added, KeepsLimits, TakesIntegers}
use Rattle.loop_laws.proofs.Lists.{peaks_append, live_under_peak}
use Rattle.loop_laws.proofs.Concluding.{same_call_peak}
use Rattle.loop_laws.proofs.Weighing.{all_given_back, changed_by_weights}
use Rattle.loop_laws.specs.HelperTrees.{integer_param, pass_on, further_names, further_arguments, low_name, count_name, sum_of_all, half_name, sum_of_rest, alone, sum_with, difference, add_rest, numbers_helper}
use Rattle.loop_laws.specs.PlainLoop.{constant, next_number, number_of_round}
use Rattle.loop_laws.proofs.Faulting.{joined_items, call_told}
use Rattle.loop_laws.proofs.Readings.{Longer, longer, longer_by, longer_trans, limits_split}
use Rattle.loop_laws.proofs.Arguments.{numbers_passed, AllDiffer}
use Rattle.loop_laws.proofs.Bodies.{only_statement, statement_skipped, assign_done, begun, first_half}
use Rattle.loop_laws.proofs.TwoRuns.{actions_split, quiet_front, quiet_back, actions_are}
use Rattle.loop_laws.proofs.Branches.{parent_begins, both_joined}
use Rattle.loop_laws.proofs.PlainLoops.{together, together_is}
use Rattle.loop_laws.proofs.Halving.{sum_value, one_run, halved}

-- ---- what holds the peak down

peak_least : (xs : List Action) → pos 0 ≤ℤ peak xs
peak_least [] = omega (arith, ints)
peak_least (a ∷ xs) = most (weight a +ℤ peak xs)
  where
    most : (z : ℤ) → pos 0 ≤ℤ int_max (pos 0) z
    most z = omega (arith, ints, clamps)

-- a Fork, the child, its End, the own part and the Join
forked_peak : (fork end join : Action) (xs ys : List Action) → weight fork ≡ pos record_words → weight end ≡ neg_ℤ (pos record_words) → weight join ≤ℤ pos 0
    → live_words xs ≡ pos 0 → (n : ℕ) (w : ℤ) → peak xs ≤ℤ (w +ℤ pos (record_words * n)) → peak ys ≤ℤ (w +ℤ pos (record_words * suc n))
    → peak (fork ∷ (xs ++ (end ∷ (ys ++ join ∷ [])))) ≤ℤ (w +ℤ pos (record_words * suc n))
forked_peak fork end join xs ys f e j l n w p q =
    let whole = peaks_append xs (end ∷ (ys ++ join ∷ [])) in
    let own = peaks_append ys (join ∷ []) in
    bound (weight fork) (weight end) (weight join) (live_words xs) (peak xs) (peak ys) (live_words ys) (peak (ys ++ join ∷ [])) (peak (xs ++ (end ∷ (ys ++ join ∷ []))))
    f e j l p q (peak_least xs) (live_under_peak ys) own whole
  where
    bound : (wf we wj l t1 t2 l2 to tw : ℤ) → wf ≡ pos 16 → we ≡ neg_ℤ (pos 16) → wj ≤ℤ pos 0 → l ≡ pos 0 → t1 ≤ℤ (w +ℤ pos (16 * n)) → t2 ≤ℤ (w +ℤ pos (16 * suc n))
        → pos 0 ≤ℤ t1 → l2 ≤ℤ t2 → to ≡ int_max t2 (l2 +ℤ int_max (pos 0) (wj +ℤ pos 0)) → tw ≡ int_max t1 (l +ℤ int_max (pos 0) (we +ℤ to))
        → int_max (pos 0) (wf +ℤ tw) ≤ℤ (w +ℤ pos (16 * suc n))
    bound wf we wj l t1 t2 l2 to tw a b d g h i m o r u = omega (arith, ints, clamps)

-- ---- what a helper adds besides the calls

module _ (c : Setting) (sum f : Name) (k line at_line : ℕ) (x : Name) (vs : List ℤ) (g : Func)
    (is_f : function_of c.program f ≡ Some g) (number_back : hands_back g.ret ≡ false) (is_sum : function_of c.program sum ≡ Some (numbers_helper sum f k line))
    (many : length vs ≡ k) (differ : AllDiffer (low_name ∷ count_name ∷ further_names k)) (own : Ownership c.program) (base : State) (bf : base.faulted ≡ false) (w : ℤ) where
  abbrev helper : Func
  helper = numbers_helper sum f k line

  abbrev helper_call : ℕ → Name → List Arg → (lo n : ℤ) → State → State
  helper_call l y args lo n s = open_call c (run c) l (integer y) args helper (numbers_passed (param_names helper.params) (lo ∷ n ∷ vs) s.store) s

  abbrev helper_end : Name → List Arg → State → State
  helper_end y args s = unless_faulted (with_answer helper.ret (returned helper.params args (integer y))) s

  abbrev sum_added : State → State
  sum_added s = exec_all c (run c) (alone line add_rest) s

  end_items : (y : Name) (args : List Arg) (r : State) → (helper_end y args r).items ≡ r.items
  unfolding with_answer with_number value returned unless_faulted
  end_items y args r = by r.faulted
    where
      ended_items : (callers : List Store) (a : passing.Answer) (z : State) → (end_call callers helper.params args (integer y) a z).items ≡ z.items
      ended_items [] a z = refl
      ended_items (caller ∷ callers) a z = refl

      by : (t : Bool) → (skip_if t (with_answer helper.ret (returned helper.params args (integer y))) r).items ≡ r.items
      by true = refl
      by false = ended_items r.callers (passing.number (r.store.integers sum_of_all)) r

  -- nothing is done where the sum is added, and at the end
  Idle : State → State → Type 0
  Idle s t = (new : List Item) × (t.items ≡ s.items ++ new) × (actions_of new ≡ [])

  sum_idle : (r : State) → Idle r (sum_added r)
  unfolding Idle
  sum_idle r = by r.faulted refl
    where
      by : (t : Bool) → r.faulted ≡ t → (new : List Item) × ((sum_added r).items ≡ r.items ++ new) × (actions_of new ≡ [])
      by true e = ([], ap (λ (z : State). z.items) (statement_skipped c line add_rest r e) ∙ sym (append-nil r.items), refl)
      by false e =
          let v : ℤ = int_wrapping_add w64 (r.store.integers sum_of_all) (r.store.integers sum_of_rest) in
          let summed : sum_added r ≡ set_integer sum_of_all v (begun line r) =
          only_statement c line add_rest r e
          ∙ assign_done c line sum_of_all (sum_with (var sum_of_all) (var sum_of_rest)) v (begun line r)
          (sum_value r.store sum_of_all sum_of_rest (r.store.integers sum_of_all) (r.store.integers sum_of_rest) refl refl) in
          (began line ∷ [], ap (λ (z : State). z.items) summed, refl)

  end_idle : (y : Name) (args : List Arg) (r : State) → Idle r (helper_end y args (sum_added r))
  unfolding Idle
  end_idle y args r = let i = sum_idle r in (i.0, end_items y args (sum_added r) ∙ i.1, i.2)

  -- ---- one number

  abbrev call_within : ℤ → State → State
  call_within lo s =
      open_call c (run c) line (integer sum_of_all) (pass_on low_name ∷ further_arguments k) g (numbers_passed (param_names g.params) (lo ∷ vs) s.store) s

  abbrev call_alone : ℤ → State → State
  call_alone lo s = open_call c (run c) at_line (integer x) (map constant (lo ∷ vs)) g (numbers_passed (param_names g.params) (lo ∷ vs) s.store) s

  -- the rounds of n numbers from lo, each alone
  unfoldable pub Rounds : ℤ → ℕ → Type 0
  Rounds lo n = (j : ℕ) → j < n → KeepsLimits (added base (call_alone (number_of_round lo j) base))
      × (peak (actions_of (added base (call_alone (number_of_round lo j) base))) ≤ℤ w)

  unfoldable pub Grows : ℕ → Type 0
  Grows m = (d : ℕ) (lo : ℤ) (l : ℕ) (y : Name) (args : List Arg) (s : State) → s.faulted ≡ false → m < 2 ^ suc d → Rounds lo m
      → KeepsLimits (added s (helper_call l y args lo (pos m) s)) → peak (actions_of (added s (helper_call l y args lo (pos m) s))) ≤ℤ (w +ℤ pos (record_words * d))

  grows_one : Grows 1
  unfolding Grows Rounds number_of_round
  grows_one d lo l y args s sf lt rounds ks =
      let r = one_run c sum f k line at_line x vs g is_f number_back is_sum many differ lo l y args s sf ks in
      let p : State = r.0 in
      let o : State = call_within lo p in
      let u : State = helper_end y args o in
      let s_p : Longer s p = longer_by s p r.1.marked.0 r.1.marked.1 in
      let p_o : Longer p o = longer p o (call_told c line (integer sum_of_all) (pass_on low_name ∷ further_arguments k) g (numbers_passed (param_names g.params) (lo ∷ vs) p.store) p) in
      let same : u.items ≡ o.items ++ [] = end_items y args o ∙ sym (append-nil o.items) in
      let o_u : Longer o u = longer_by o u [] same in
      let k1 = limits_split s p u s_p (longer_trans p o u p_o o_u) (subst (λ (z : State). KeepsLimits (added s z)) r.1.is ks) in
      let k2 = limits_split p o u p_o o_u k1.1 in
      let one = rounds 0 (omega arith) in
      let acts : actions_of (added s u) ≡ actions_of (added p o) =
      quiet_front s p u s_p (longer_trans p o u p_o o_u) (actions_are s p r.1.marked.0 r.1.marked.1 ∙ r.1.marked.3)
      ∙ quiet_back p o u p_o o_u (actions_are o u [] same) in
      let peaks = same_call_peak c line at_line sum_of_all x (pass_on low_name ∷ further_arguments k) (map constant (lo ∷ vs)) g
      (numbers_passed (param_names g.params) (lo ∷ vs) p.store) (numbers_passed (param_names g.params) (lo ∷ vs) base.store) p base refl number_back r.1.faulted bf k2.0 one.0 in
      let all : peak (actions_of (added s (helper_call l y args lo (pos 1) s))) ≡ peak (actions_of (added base (call_alone lo base))) =
      ap (λ (z : State). peak (actions_of (added s z))) r.1.is ∙ ap peak acts ∙ peaks in
      under (peak (actions_of (added s (helper_call l y args lo (pos 1) s)))) (peak (actions_of (added base (call_alone lo base)))) all one.1
    where
      under : (a b : ℤ) → a ≡ b → b ≤ℤ w → a ≤ℤ (w +ℤ pos (16 * d))
      under a b e le = omega (arith, ints)

  -- ---- the child gives back all that it takes

  takes_integers : (names : List Name) → TakesIntegers (map integer_param names)
  takes_integers [] = tt
  takes_integers (y ∷ names) = (refl, takes_integers names)

  -- no block is held where integers alone are declared
  none_held : (l : ℕ) (names : List Name) (env after : Environment) → OwnsParams l (map integer_param names) env after → (y : Name) → held_in env y ≡ 0 → held_in after y ≡ 0
  none_held l [] env after owns y e = ap (λ (v : Environment). held_in v y) owns ∙ e
  none_held l (z ∷ names) env after owns y e =
      none_held l names (with_entry env (integer_entry z l)) after owns.1 y (held_with_integer env z l y (fresh_unseen env z owns.0) ∙ e)

  one_more_held : (env after : Environment) (z : Name) (l : ℕ) (fresh : IsFresh env z) → after ≡ with_entry env (integer_entry z l) → (y : Name) → held_in env y ≡ 0
      → held_in after y ≡ 0
  one_more_held env after z l fresh is y e =
      ap (λ (v : Environment). held_in v y) is ∙ held_with_integer env z l y (fresh_unseen env z fresh) ∙ e

  branch_owned : (env : Environment) × (after : Environment) × OwnsAll c.program (alone line (first_half sum k)) env after × ((y : Name) → held_in env y ≡ 0)
  branch_owned =
      let owns : OwnsFunction c.program helper = function_owned c.program c.program sum helper is_sum own.functions in
      let body = owns.2.1 in
      let inner = body.2.1.2.1.1.1.1.1 in
      let rest = inner.2.2 in (
        inner.2.0,
        rest.1.1.1.0,
        rest.1.1.1.1,
        λ y.
            let e0 = none_held line (low_name ∷ count_name ∷ further_names k) [] owns.0 owns.1 y (empty_found held_entry y) in
            let e1 = one_more_held owns.0 body.0 sum_of_all line body.1.0 body.1.2 y e0 in
            let e2 = one_more_held body.0 inner.0 half_name line inner.1.0 inner.1.2 y e1 in
            one_more_held inner.0 inner.2.0 sum_of_rest line inner.2.1.0 inner.2.1.2 y e2,
      )

  abbrev first_branch : Body
  first_branch = alone line (first_half sum k)

  abbrev arguments_of_first : List Arg
  arguments_of_first = pass_on low_name ∷ pass_on half_name ∷ further_arguments k

  abbrev arguments_of_second : List Arg
  arguments_of_second = Tree.value (sum_with (var low_name) (var half_name)) ∷ Tree.value (difference (var count_name) (var half_name)) ∷ further_arguments k

  abbrev child_start : State → State
  child_start p = child_of c (names_in first_branch) p

  abbrev first_child : State → State
  first_child p = begun line (child_start p)

  abbrev first_done : ℤ → ℕ → State → State
  first_done lo j p = helper_call line sum_of_all arguments_of_first lo (pos (suc (j / 2))) (first_child p)

  abbrev second_parent : ℤ → ℕ → State → State
  second_parent lo j p = parent_begins line (names_in first_branch) (first_done lo j p) p

  abbrev second_done : ℤ → ℕ → State → State
  second_done lo j p = helper_call line sum_of_rest arguments_of_second (number_of_round lo (suc (j / 2))) (pos (suc (suc j) - suc (j / 2))) (second_parent lo j p)

  abbrev halves_joined : ℤ → ℕ → State → State
  halves_joined lo j p = both_joined (assigns_in first_branch) p (first_done lo j p) (second_done lo j p)

  -- the words of the child are given back, also where a fault ends it
  child_even : (lo : ℤ) (j : ℕ) (p : State) → p.store.blocks ≡ [] → exec_all c (run c) first_branch (child_start p) ≡ first_done lo j p
      → live_words (actions_of (added (first_child p) (first_done lo j p))) ≡ pos 0
  child_even lo j p none is = by (first_done lo j p).faulted refl
    where
      told : Longer (first_child p) (first_done lo j p)
      told = longer (first_child p) (first_done lo j p) (call_told c line (integer sum_of_all) arguments_of_first helper (numbers_passed (param_names helper.params) (lo ∷ pos (suc (j / 2)) ∷ vs) (first_child p).store) (first_child p))

      ran : run c first_branch (child_start p) ≡ first_done lo j p
      ran = run_fixed c first_branch (child_start p) ∙ is

      holds : HoldsFor first_branch branch_owned.0 (child_start p)
      holds y named = ap (λ hs. count (those_named (names_in first_branch) hs) y) none ∙ none_counted y ∙ sym (branch_owned.3 y)

      start_holds : holdings (child_start p) ≡ 0
      start_holds = ap (λ hs. held_words (those_named (names_in first_branch) hs) + 0) none

      changed : (t : State) → run c first_branch (child_start p) ≡ t → pos (holdings t) ≡ pos (holdings (child_start p)) +ℤ live_words (actions_of (added (child_start p) t))
      changed t e =
          subst (λ (z : State). pos (holdings z) ≡ pos (holdings (child_start p)) +ℤ live_words (actions_of (added (child_start p) z))) e
          (changed_by_weights c own first_branch branch_owned.0 branch_owned.1 (child_start p) branch_owned.2 refl holds)

      stopped : HasStopped (first_done lo j p) ⊎ GoesOn first_branch branch_owned.1 (child_start p) (first_done lo j p) → (first_done lo j p).faulted ≡ true → holdings (first_done lo j p) ≡ 0
      stopped (inl h) e = (λ i. held_words (h.1 i) + stored_words (h.2 i))
      stopped (inr h) e = let no : true ≡ false = sym e ∙ h.0 in let never : ⊥ = cc in absurd never

      plain : (a b : ℕ) (l : ℤ) → pos a ≡ pos b +ℤ l → a ≡ 0 → b ≡ 0 → l ≡ pos 0
      plain a b l e f h = omega (arith, ints)

      by : (t : Bool) → (first_done lo j p).faulted ≡ t → live_words (actions_of (added (first_child p) (first_done lo j p))) ≡ pos 0
      by false e =
          all_given_back c own line sum sum_of_all arguments_of_first helper (numbers_passed (param_names helper.params) (lo ∷ pos (suc (j / 2)) ∷ vs) (first_child p).store) (first_child p) is_sum
          (takes_integers (low_name ∷ count_name ∷ further_names k)) refl refl refl e
      by true e =
          let h = subst (λ (z : State). HasStopped z ⊎ GoesOn first_branch branch_owned.1 (child_start p) z) ran
          (holds_rules c own first_branch branch_owned.0 branch_owned.1 (child_start p) branch_owned.2 refl holds) in
          let l = plain (holdings (first_done lo j p)) (holdings (child_start p)) (live_words (actions_of (added (child_start p) (first_done lo j p)))) (changed (first_done lo j p) ran) (stopped h e) start_holds in
          sym (ap live_words (quiet_front (child_start p) (first_child p) (first_done lo j p) (longer_by (child_start p) (first_child p) (began line ∷ []) refl) told
          (actions_are (child_start p) (first_child p) (began line ∷ []) refl))) ∙ l

  -- ---- both halves

  later_rounds : (h : ℕ) (lo : ℤ) (j : ℕ) → number_of_round (number_of_round lo h) j ≡ number_of_round lo (together h j)
  unfolding number_of_round together
  later_rounds zero lo j = refl
  later_rounds (suc h) lo j = later_rounds h (next_number lo) j

  rounds_front : (lo : ℤ) (m n : ℕ) → m ≤ n → Rounds lo n → Rounds lo m
  unfolding Rounds
  rounds_front lo m n le r = λ j lt. r j (omega (arith, le, lt))

  rounds_back : (lo : ℤ) (h m n : ℕ) → h + m ≤ n → Rounds lo n → Rounds (number_of_round lo h) m
  unfolding Rounds
  rounds_back lo h m n le r = λ j lt.
      subst (λ (v : ℤ). KeepsLimits (added base (call_alone v base)) × (peak (actions_of (added base (call_alone v base))) ≤ℤ w)) (sym (later_rounds h lo j))
      (r (together h j) (let t = together_is h j in omega (arith, le, lt, t)))

  more_than_one : (j d : ℕ) → suc (suc j) < 2 ^ suc d → (e : ℕ) × (d ≡ suc e)
  more_than_one j zero lt = absurd (omega (arith, lt))
  more_than_one j (suc e) lt = (e, refl)

  child_ended_items : (a : State) → (with_item (began line) (ended record_words a)).items
      ≡ a.items ++ acted (record { label = a.label; index = a.done; deed = actions.ends; words = record_words }) ∷ began line ∷ []
  unfolding ended with_action
  child_ended_items a = append_assoc a.items (acted (record { label = a.label; index = a.done; deed = actions.ends; words = record_words }) ∷ []) (began line ∷ [])

  grows_more : (j : ℕ) → suc (suc j) < 2 ^ 63 → ((m : ℕ) → m < suc (suc j) → 1 ≤ m → Grows m) → (d : ℕ) (lo : ℤ) (l : ℕ) (y : Name) (args : List Arg) (s : State) → s.faulted ≡ false
      → suc (suc j) < 2 ^ suc (suc d) → Rounds lo (suc (suc j)) → KeepsLimits (added s (helper_call l y args lo (pos (suc (suc j))) s))
      → peak (actions_of (added s (helper_call l y args lo (pos (suc (suc j))) s))) ≤ℤ (w +ℤ pos (record_words * suc d))
  unfolding Grows Idle
  grows_more j small rec d lo l y args s sf lt rounds ks =
      let half : ℕ = suc (j / 2) in
      let rest : ℕ = suc (suc j) - half in
      let r = halved c sum f k line at_line x vs g is_f number_back is_sum many differ j small lo l y args s sf ks in
      let p : State = r.0 in
      let child : State = first_child p in
      let a : State = first_done lo j p in
      let parent : State = second_parent lo j p in
      let b : State = second_done lo j p in
      let joint : State = halves_joined lo j p in
      let u : State = helper_end y args (sum_added joint) in
      let fork : Action = record { label = p.label; index = p.done; deed = actions.forks (suc p.forks); words = record_words } in
      let end : Action = record { label = a.label; index = a.done; deed = actions.ends; words = record_words } in
      let joins : Action = record { label = b.label; index = b.done; deed = actions.joins (suc p.forks); words = given_back b.faulted (ended record_words a).faulted (ended record_words a) b } in
      let i_fork : child.items ≡ p.items ++ acted fork ∷ began line ∷ [] = append_assoc p.items (acted fork ∷ []) (began line ∷ []) in
      let i_end : parent.items ≡ a.items ++ acted end ∷ began line ∷ [] = child_ended_items a in
      let i_join : joint.items ≡ b.items ++ acted joins ∷ [] = joined_items (assigns_in first_branch) (suc p.forks) (ended record_words a) b in
      let idle = end_idle y args joint in
      let s_p : Longer s p = longer_by s p r.1.marked.0 r.1.marked.1 in
      let p_child : Longer p child = longer_by p child (acted fork ∷ began line ∷ []) i_fork in
      let child_a : Longer child a = longer child a (call_told c line (integer sum_of_all) arguments_of_first helper (numbers_passed (param_names helper.params) (lo ∷ pos half ∷ vs) child.store) child) in
      let a_parent : Longer a parent = longer_by a parent (acted end ∷ began line ∷ []) i_end in
      let parent_b : Longer parent b = longer parent b (call_told c line (integer sum_of_rest) arguments_of_second helper (numbers_passed (param_names helper.params) (number_of_round lo half ∷ pos rest ∷ vs) parent.store) parent) in
      let b_joint : Longer b joint = longer_by b joint (acted joins ∷ []) i_join in
      let joint_u : Longer joint u = longer_by joint u idle.0 idle.1 in
      let b_u : Longer b u = longer_trans b joint u b_joint joint_u in
      let parent_u : Longer parent u = longer_trans parent b u parent_b b_u in
      let a_u : Longer a u = longer_trans a parent u a_parent parent_u in
      let child_u : Longer child u = longer_trans child a u child_a a_u in
      let p_u : Longer p u = longer_trans p child u p_child child_u in
      let k1 = limits_split s p u s_p p_u (subst (λ (z : State). KeepsLimits (added s z)) r.1.is ks) in
      let k2 = limits_split p child u p_child child_u k1.1 in
      let k3 = limits_split child a u child_a a_u k2.1 in
      let k4 = limits_split a parent u a_parent parent_u k3.1 in
      let k5 = limits_split parent b u parent_b b_u k4.1 in
      let xs : List Action = actions_of (added child a) in
      let ys : List Action = actions_of (added parent b) in
      let at_joint : actions_of (added b u) ≡ joins ∷ [] = quiet_back b joint u b_joint joint_u (actions_are joint u idle.0 idle.1 ∙ idle.2) ∙ actions_are b joint (acted joins ∷ []) i_join in
      let at_parent : actions_of (added parent u) ≡ ys ++ joins ∷ [] = actions_split parent b u parent_b b_u ∙ ap (λ (zs : List Action). ys ++ zs) at_joint in
      let at_a : actions_of (added a u) ≡ end ∷ (ys ++ joins ∷ []) =
      actions_split a parent u a_parent parent_u ∙ (λ i. actions_are a parent (acted end ∷ began line ∷ []) i_end i ++ at_parent i) in
      let at_child : actions_of (added child u) ≡ xs ++ (end ∷ (ys ++ joins ∷ [])) = actions_split child a u child_a a_u ∙ ap (λ (zs : List Action). xs ++ zs) at_a in
      let at_p : actions_of (added p u) ≡ fork ∷ (xs ++ (end ∷ (ys ++ joins ∷ []))) =
      actions_split p child u p_child child_u ∙ (λ i. actions_are p child (acted fork ∷ began line ∷ []) i_fork i ++ at_child i) in
      let at_s : actions_of (added s u) ≡ fork ∷ (xs ++ (end ∷ (ys ++ joins ∷ []))) =
      quiet_front s p u s_p p_u (actions_are s p r.1.marked.0 r.1.marked.1 ∙ r.1.marked.3) ∙ at_p in
      let twice = pow_more 2 (suc d) in
      let double : 2 ^ suc (suc d) ≡ 2 ^ suc d * 2 = ap (λ n. 2 ^ n) (omega arith) ∙ twice in
      let first = rec half (omega arith) (omega arith) d lo line sum_of_all arguments_of_first child refl (omega (arith, lt, double)) (rounds_front lo half (suc (suc j)) (omega arith) rounds) k3.0 in
      let second = rec rest (omega arith) (omega arith) (suc d) (number_of_round lo half) line sum_of_rest arguments_of_second parent r.1.faulted (omega (arith, lt))
      (rounds_back lo half rest (suc (suc j)) (omega arith) rounds) k5.0 in
      subst (λ (zs : List Action). peak zs ≤ℤ (w +ℤ pos (record_words * suc d))) (sym (ap (λ (z : State). actions_of (added s z)) r.1.is ∙ at_s))
      (forked_peak fork end joins xs ys refl refl (nothing_more (given_back b.faulted (ended record_words a).faulted (ended record_words a) b)) (child_even lo j p r.1.blocks r.1.child) d w first second)
    where
      nothing_more : (n : ℕ) → neg_ℤ (pos n) ≤ℤ pos 0
      nothing_more n = omega (arith, ints)

  pub all_grow : (bound m : ℕ) → m ≤ bound → 1 ≤ m → m < 2 ^ 63 → Grows m
  unfolding Grows
  all_grow zero m le some small = absurd (omega (arith, le, some))
  all_grow (suc bound) zero le some small = absurd (omega (arith, some))
  all_grow (suc bound) (suc zero) le some small = grows_one
  all_grow (suc bound) (suc (suc j)) le some small = λ d lo l y args s sf lt rounds ks.
      let e = more_than_one j d lt in
      subst (λ n. peak (actions_of (added s (helper_call l y args lo (pos (suc (suc j))) s))) ≤ℤ (w +ℤ pos (record_words * n))) (sym e.1)
      (grows_more j small (λ m less one. all_grow bound m (omega (arith, le, less)) one (omega (arith, less, small))) e.0 lo l y args s sf
      (subst (λ n. suc (suc j) < 2 ^ suc n) e.1 lt) rounds ks)
