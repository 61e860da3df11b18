-- The call of a helper on a block comes to what the calls of the plain loop on its parts come to.
use Rattle.std.specs.Prelude.{◌≡◌, ℕ, zero, suc, ◌<◌, ◌≤◌, ◌^◌, ◌||◌, nat_le, Bool, true, false, if◌then◌else◌, List, [], ◌∷◌, ◌++◌, map, length, drop, pred, ℤ, pos, Some, refl}
use Rattle.std.specs.Int.{w64, int_wrapping_add}
use Rattle.std.specs.Str.{bytes_eq}
use Rattle.std.proofs.Common.{sym, ◌∙◌, ap, arith, subst, append_assoc}
use Rattle.std.proofs.lemmas.Bool.{leb-true, leb-false, le-leb, or_left, or_right}
use Rattle.par_tree.specs.Tree
use Rattle.par_tree.specs.Tree.{Name, Expr, var, Arg, lend, Param, Stmt, par_stmt, Body, Func, integer}
use Rattle.par_tree.specs.Names.{names_in_args, param_names}
use Rattle.par_ownership.specs.Ownership.{function_of, hands_back}
use Rattle.depth_first_run.specs.Stores.{Store, Held, no_integers, updated, with_integer, block_of, without, with_block, drop_block, hold_block, those_named, those_not_named}
use Rattle.depth_first_run.specs.Values.{value}
use Rattle.depth_first_run.specs.States
use Rattle.depth_first_run.specs.States.{Setting, State, Item, began, next_action, with_item, with_action, unless_faulted, with_depth, child_of, parent_of, ended, given_back, taken_integers, with_result, joined, own_part_then_join, fork_join}
use Rattle.depth_first_run.specs.Calls
use Rattle.depth_first_run.specs.Calls.{lent_back, end_call, with_answer, returned}
use Rattle.depth_first_run.specs.Run.{on_store, set_integer, names_in, assigns_in, rejoin_block, open_call, exec, exec_all, run}
use Rattle.depth_first_run.proofs.Fixed.{run_fixed}
use Rattle.ownership_laws.specs.Counts
use Rattle.loop_laws.specs.Outcomes.{added, KeepsLimits}
use Rattle.loop_laws.proofs.Concluding.{same_answer}
use Rattle.loop_laws.specs.HelperTrees.{integer_param, pass_on, further_name, further_names, further_arguments, block_name, left_name, right_name, count_name, sum_of_all, half_name, sum_of_rest, alone, sum_with, add_rest, parts_body, parts_helper}
use Rattle.loop_laws.specs.PlainLoop.{constant}
use Rattle.loop_laws.proofs.Faulting.{call_end_told, Tells, or_assoc, unless_faulted_tells, call_told, statements_told, statement_told}
use Rattle.loop_laws.proofs.Readings.{ReadTheSame, read_by_marks, Longer, longer, longer_trans, limits_split}
use Rattle.loop_laws.proofs.Arguments.{HaveNumbers, put, constants_have, passed_on_have, AllDiffer, put_read, integer_params, beside_further}
use Rattle.loop_laws.proofs.Bodies.{skipped_none, skipped_all, only_statement, statement_skipped, assign_done, call_runs, begun}
use Rattle.loop_laws.proofs.PlainLoops.{after, taken_up, taken_up_items, taken_up_store, after_both}
use Rattle.loop_laws.proofs.TwoRuns.{both_faulted, read_at, no_fault, mark_unread, Silent, silent_same, silent_item, silent_begun, silent_longer, silent_before, silent_behind}
use Rattle.loop_laws.proofs.Branches.{child_begins, child_ended, parent_begins, both_joined, end_of_child, par_done, joint_silent, joint_faulted, joint_store, branches_keep, child_read, parent_read, branches_read}
use Rattle.loop_laws.proofs.Halving.{sum_value, further_length}
use Rattle.loop_laws.specs.Parts.{half_of, left_half, right_half, parts_within}
use Rattle.loop_laws.specs.PartsLoop.{hold_again}
use Rattle.loop_laws.proofs.Cutting.{half_less, half_some, left_length, right_length, one_part, two_halves, first_part}
use Rattle.loop_laws.proofs.Blocks.{NoOther, again_read, again_twice, again_alone, block_passed, block_lent, call_opens_on}
use Rattle.loop_laws.proofs.Through.{Reached, reached, onward, onward_goes, onward_state, next, next_faulted, next_goes, next_told, on_store_told, through, through_one, through_both, through_told}
use Rattle.loop_laws.proofs.PartsBodies.{inside, before_test, before_split, before_par, left_call, right_call, both_calls, body_of_part, body_of_halves}

-- ---- small facts

-- what is held is of no account for a sum
taken_up_beside : (x : Name) (first : Bool) (b : Name) (items : List ℤ) (before : Store) (s : State) → taken_up x first before s ≡ taken_up x first (hold_again b items before) s
unfolding taken_up
taken_up_beside x true b items before s = refl
taken_up_beside x false b items before s = refl

after_beside : (x : Name) (first : Bool) (b : Name) (items : List ℤ) (before : Store) (v : ℤ) → after x first before v ≡ after x first (hold_again b items before) v
unfolding after
after_beside x true b items before v = refl
after_beside x false b items before v = refl

-- the right part is not named in the call on the left one
args_named : (x : Name) (ms ns : List Name) → names_in_args x (map pass_on (ms ++ ns)) ≡ (names_in_args x (map pass_on ms) || names_in_args x (map pass_on ns))
args_named x [] ns = refl
args_named x (m ∷ ms) ns =
    ap (λ t. bytes_eq m x || t) (args_named x ms ns) ∙ sym (or_assoc (bytes_eq m x) (names_in_args x (map pass_on ms)) (names_in_args x (map pass_on ns)))

right_beside_further : (k : ℕ) → names_in_args right_name (further_arguments k) ≡ false
right_beside_further zero = refl
right_beside_further (suc k) = args_named right_name (further_names k) (further_name (suc k) ∷ []) ∙ ap (λ t. t || false) (right_beside_further k)

right_not_named : (sum : Name) (k line : ℕ) → names_in (alone line (left_call sum k)) right_name ≡ false
right_not_named sum k line = ap (λ t. t || false) (right_beside_further k)

-- another store is of no account
silent_stored : (s t : State) (st : Store) → Silent s t → Silent s (record t { store = st })
silent_stored s t st l = l

module _ (c : Setting) (sum f : Name) (most k line at_line : ℕ) (x b : Name) (vs : List ℤ) (g : Func) (q : Param) (qs : List Param)
    (is_f : function_of c.program f ≡ Some g) (lends : g.params ≡ q ∷ qs) (number_back : hands_back g.ret ≡ false)
    (is_sum : function_of c.program sum ≡ Some (parts_helper sum f most k line)) (big : 16 ≤ most) (many : length vs ≡ k) (differ : AllDiffer (further_names k)) where
  abbrev helper : Func
  helper = parts_helper sum f most k line

  abbrev lent_block : Param
  lent_block = record { name = block_name; kind = Tree.lent }

  abbrev integer_params_of : List Param
  integer_params_of = map integer_param (further_names k)

  -- the integers with which the body of a helper begins
  abbrev given : Name → ℤ
  given = put (param_names integer_params_of) vs no_integers

  abbrev HasFurther : (Name → ℤ) → Type 0
  HasFurther integers = map integers (further_names k) ≡ vs

  given_has : HasFurther given
  given_has =
      let l = further_length k in
      subst (λ (ns : List Name). map (put ns vs no_integers) (further_names k) ≡ vs) (sym (integer_params (further_names k))) (put_read (further_names k) vs no_integers differ (omega (arith, many, l)))

  further_have : (s : Store) → HasFurther s.integers → HaveNumbers s (further_arguments k) vs
  further_have s h = subst (λ (ws : List ℤ). HaveNumbers s (further_arguments k) ws) h (passed_on_have s (further_names k))

  -- the call of the helper, which lends it a block that has these numbers
  abbrev helper_call : ℕ → (y name : Name) → List Arg → List ℤ → State → State
  helper_call l y name args items s =
      open_call c (run c) l (integer y) (lend name ∷ args) helper (block_passed name items block_name (param_names integer_params_of) vs s.store) s

  abbrev helper_end : (y name : Name) → List Arg → State → State
  helper_end y name args s = unless_faulted (with_answer helper.ret (returned helper.params (lend name ∷ args) (integer y))) s

  end_told : (y name : Name) (args : List Arg) (s : State) → Tells s (helper_end y name args s)
  end_told y name args s = call_end_told helper (lend name ∷ args) (integer y) s

  -- the state in which the body of a helper begins
  abbrev entry : Name → List ℤ → ℕ → State → State
  entry name items left s = inside (record s { callers = drop_block name s.store ∷ s.callers; calls = suc s.calls; turns = left }) given items

  -- a call of the helper that meets no limit runs its body
  helper_runs : (l : ℕ) (y name : Name) (args : List Arg) (items : List ℤ) (s : State) → KeepsLimits (added s (helper_call l y name args items s))
      → (left : ℕ) × (helper_call l y name args items s ≡ helper_end y name args (exec_all c (run c) (parts_body sum f most k line) (entry name items left s)))
  helper_runs l y name args items s kept =
      let r = call_runs c l (integer y) (lend name ∷ args) helper (block_passed name items block_name (param_names integer_params_of) vs s.store) s kept in
      (r.0, r.1 ∙ ap (λ (t : State). helper_end y name args t) (run_fixed c helper.body (entry name items r.0 s)))

  helper_ends : (y name : Name) (args : List Arg) (at caller : Store) (callers : List Store) (s : State) → HaveNumbers at args vs → s.faulted ≡ false → s.callers ≡ caller ∷ callers
      → helper_end y name args s
      ≡ record s { store = with_integer y (s.store.integers sum_of_all) (hold_block name (block_of s.store.blocks block_name) caller); callers = callers; calls = pred s.calls }
  unfolding with_answer States.with_number value returned
  helper_ends y name args at caller callers s have e calls =
      let v : ℤ = s.store.integers sum_of_all in
      skipped_none (with_answer helper.ret (returned helper.params (lend name ∷ args) (integer y))) s e
      ∙ ap (λ cs. end_call cs helper.params (lend name ∷ args) (integer y) (Calls.number v) s) calls
      ∙ ap (λ st. record s { store = with_integer y v st; callers = callers; calls = pred s.calls }) (block_lent at lent_block integer_params_of name args vs s.store.blocks caller have)

  -- the end of a helper whose body came to r
  record Ends (y name : Name) (s r u : State) : Type 0 where
    pub items : u.items ≡ r.items
    pub faulted : u.faulted ≡ r.faulted
    pub left : r.faulted ≡ false
        → (u.store ≡ with_integer y (r.store.integers sum_of_all) (hold_again name (block_of r.store.blocks block_name) s.store)) × (u.callers ≡ s.callers)

  ends_so : (y name : Name) (args : List Arg) (at : Store) (s r : State) → HaveNumbers at args vs
      → (r.faulted ≡ false → r.callers ≡ drop_block name s.store ∷ s.callers) → Ends y name s r (helper_end y name args r)
  ends_so y name args at s r have callers = by r.faulted refl
    where
      by : (t : Bool) → r.faulted ≡ t → Ends y name s r (helper_end y name args r)
      by true e =
          let same = skipped_all (with_answer helper.ret (returned helper.params (lend name ∷ args) (integer y))) r e in
          record { items = ap (λ (u : State). u.items) same; faulted = ap (λ (u : State). u.faulted) same; left = λ z. no_fault r.faulted e z }
      by false e =
          let same = helper_ends y name args at (drop_block name s.store) s.callers r have e (callers e) in
          record { items = ap (λ (u : State). u.items) same; faulted = ap (λ (u : State). u.faulted) same; left = λ z. (ap (λ (u : State). u.store) same, ap (λ (u : State). u.callers) same) }

  -- ---- what both come to

  -- Neither was ended by a fault: both have the same sum, and the blocks have become the same.
  pub record Answers (first : Bool) (before : List ℤ) (y name : Name) (s u t : State) (r : Reached) : Type 0 where
    pub total : ℤ
    pub result : List ℤ
    pub last_part : List ℤ
    pub store : u.store ≡ with_integer y total (hold_again name result s.store)
    pub callers : u.callers ≡ s.callers
    pub plain : r.state.store ≡ with_integer x (after x first t.store total) (hold_again b last_part t.store)
    pub become : r.become ≡ before ++ result

  pub record SameSum (first : Bool) (before : List ℤ) (y name : Name) (s u t : State) (r : Reached) : Type 0 where
    pub reading : ReadTheSame (added s u) (added t r.state)
    pub left : u.faulted ≡ false → Answers first before y name s u t r

  abbrev calls_through : Bool → List (List ℤ) → List ℤ → State → Reached
  calls_through first parts before t = through c at_line f x b vs first parts before t

  Claim : ℕ → Type 0
  Claim cuts = (items : List ℤ) → length items ≤ cuts → length items < 2 ^ 63
      → (first : Bool) (before : List ℤ) (l : ℕ) (y name : Name) (args : List Arg) (at : Store) (s t : State) → HaveNumbers at args vs → NoOther b t.store
      → s.faulted ≡ false → t.faulted ≡ false
      → KeepsLimits (added s (helper_call l y name args items s)) → KeepsLimits (added t (calls_through first (parts_within cuts most items) before t).state)
      → SameSum first before y name s (helper_call l y name args items s) t (calls_through first (parts_within cuts most items) before t)

  -- ---- one part

  -- the call of the function in a helper, and in the plain loop
  abbrev call_within : List ℤ → State → State
  call_within items s =
      open_call c (run c) line (integer sum_of_all) (lend block_name ∷ further_arguments k) g (block_passed block_name items q.name (param_names qs) vs s.store) s

  abbrev call_alone : List ℤ → State → State
  call_alone items s =
      open_call c (run c) at_line (integer x) (lend b ∷ map constant vs) g (block_passed b items q.name (param_names qs) vs (hold_again b items s.store)) (on_store (hold_again b items) s)

  -- what comes back from the function
  lent_by : (s : Store) (name : Name) (args : List Arg) (hs : List Held) (caller : Store) → HaveNumbers s args vs
      → lent_back g.params (lend name ∷ args) hs caller ≡ hold_block name (block_of hs q.name) caller
  lent_by s name args hs caller have = ap (λ ps. lent_back ps (lend name ∷ args) hs caller) lends ∙ block_lent s q qs name args vs hs caller have

  one_so : (first : Bool) (before : List ℤ) (y name : Name) (args : List Arg) (at : Store) (items : List ℤ) (s t p : State) → HaveNumbers at args vs → NoOther b t.store
      → t.faulted ≡ false → p.faulted ≡ false → p.callers ≡ drop_block name s.store ∷ s.callers → p.store.blocks ≡ record { name = block_name; items = items } ∷ []
      → Silent s p → HasFurther p.store.integers
      → KeepsLimits (added s (helper_end y name args (call_within items p)))
      → KeepsLimits (added t (onward b reached before (taken_up x first t.store (call_alone items t))).state)
      → SameSum first before y name s (helper_end y name args (call_within items p)) t (onward b reached before (taken_up x first t.store (call_alone items t)))
  one_so first before y name args at items s t p have none tf pf waits holds l further ks kt =
      let o : State = call_within items p in
      let o' : State = call_alone items t in
      let u : State = helper_end y name args o in
      let w : State = taken_up x first t.store o' in
      let r : Reached = onward b reached before w in
      let alone_args : List Arg = map constant vs in
      let told : Tells p o = call_told c line (integer sum_of_all) (lend block_name ∷ further_arguments k) g (block_passed block_name items q.name (param_names qs) vs p.store) p in
      let o_u : Longer o u = longer o u (end_told y name args o) in
      let k1 = limits_split s p u (silent_longer s p l) (longer_trans p o u (longer p o told) o_u) ks in
      let k2 = limits_split p o u (longer p o told) o_u k1.1 in
      let same = taken_up_items x first t.store o' in
      let items_same : r.state.items ≡ o'.items = ap (λ (z : State). z.items) (onward_state b before w) ∙ same.0 in
      let k3 : KeepsLimits (added t o') = subst (λ (is : List Item). KeepsLimits (drop (length t.items) is)) items_same kt in
      let a = same_answer c line at_line sum_of_all x (lend block_name ∷ further_arguments k) (lend b ∷ alone_args) g
      (block_passed block_name items q.name (param_names qs) vs p.store) (block_passed b items q.name (param_names qs) vs (hold_again b items t.store))
      p (on_store (hold_again b items) t) refl number_back pf tf k2.0 k3 in
      let ends : Ends y name s o u = ends_so y name args at s o have (λ z. (a.left z).4.callers ∙ waits) in
      record {
        reading = read_at (added s u) (added s u) (added t r.state) (added t o') refl (ap (λ (is : List Item). drop (length t.items) is) items_same)
            (silent_before s p u (added t o') l (longer_trans p o u (longer p o told) o_u)
            (silent_behind p o u (added t o') (longer p o told) (silent_same o u ends.items) (read_by_marks (added p o) (added t o') a.told)));
        left = λ z.
            let of : o.faulted ≡ false = sym ends.faulted ∙ z in
            let wf : w.faulted ≡ false = same.1 ∙ sym a.faulted ∙ of in
            let m = a.left of in
            let v : ℤ = m.0 in
            let result : List ℤ = block_of m.1 q.name in
            let e = ends.left of in
            let o_is : o.store ≡ with_integer sum_of_all v (hold_block block_name result (drop_block block_name p.store)) =
            m.2 ∙ ap (λ (st : Store). with_integer sum_of_all v st) (lent_by p.store block_name (further_arguments k) m.1 (drop_block block_name p.store) (further_have p.store further)) in
            let o'_is : o'.store ≡ with_integer x v (hold_again b result t.store) =
            m.3 ∙ ap (λ (st : Store). with_integer x v st) (lent_by t.store b alone_args m.1 (drop_block b (hold_again b items t.store)) (constants_have t.store vs))
            ∙ ap (λ (st : Store). with_integer x v st) (again_twice b items result t.store none) in
            let w_is : w.store ≡ with_integer x (after x first t.store v) (hold_again b result t.store) =
            ap (λ (z : State). z.store) (taken_up_beside x first b result t.store o')
            ∙ taken_up_store x first (hold_again b result t.store) v o' (sym a.faulted ∙ of) o'_is
            ∙ ap (λ n. with_integer x n (hold_again b result t.store)) (sym (after_beside x first b result t.store v)) in
            record {
              total = v;
              result = result;
              last_part = result;
              store = e.0
                  ∙ ap (λ (st : Store). with_integer y (st.integers sum_of_all) (hold_again name (block_of st.blocks block_name) s.store)) o_is
                  ∙ ap (λ (hs : List Held). with_integer y v (hold_again name (block_of (with_block (without hs block_name) block_name result) block_name) s.store)) holds;
              callers = e.1;
              plain = ap (λ (z : State). z.store) (onward_state b before w) ∙ w_is;
              become = ap (λ (z : Reached). z.become) (onward_goes b reached before w wf)
                  ∙ ap (λ (st : Store). before ++ block_of st.blocks b) w_is
                  ∙ ap (λ (ys : List ℤ). before ++ ys) (again_read b result t.store none);
            };
      }

  claim_part : (first : Bool) (before items : List ℤ) (l : ℕ) (y name : Name) (args : List Arg) (at : Store) (s t : State) → nat_le (length items) most ≡ true → HaveNumbers at args vs
      → NoOther b t.store → s.faulted ≡ false → t.faulted ≡ false
      → KeepsLimits (added s (helper_call l y name args items s)) → KeepsLimits (added t (calls_through first (items ∷ []) before t).state)
      → SameSum first before y name s (helper_call l y name args items s) t (calls_through first (items ∷ []) before t)
  claim_part first before items l y name args at s t short have none sf tf ks kt =
      let r = helper_runs l y name args items s ks in
      let e : State = entry name items r.0 s in
      let p : State = begun line (before_test line items e) in
      let n : ℤ = pos (length items) in
      let h : HasFurther p.store.integers =
      beside_further sum_of_all (λ ds. refl) k (pos 0) (updated count_name n given) ∙ beside_further count_name (λ ds. refl) k n given ∙ given_has in
      let u : helper_call l y name args items s ≡ helper_end y name args (call_within items p) =
      r.1 ∙ ap (λ (z : State). helper_end y name args z)
      (body_of_part c sum f most k line given items e sf short
      ∙ call_opens_on c line (integer sum_of_all) f block_name (further_arguments k) g q qs vs p is_f lends (further_have p.store h)) in
      let t' : State = on_store (hold_again b items) t in
      let w : calls_through first (items ∷ []) before t ≡ onward b reached before (taken_up x first t.store (call_alone items t)) =
      through_one c at_line f x b vs first items before t
      ∙ ap (λ (z : State). onward b reached before (taken_up x first t.store z))
      (call_opens_on c at_line (integer x) f b (map constant vs) g q qs vs t' is_f lends (constants_have t'.store vs)
      ∙ ap (λ (ys : List ℤ). open_call c (run c) at_line (integer x) (lend b ∷ map constant vs) g (block_passed b ys q.name (param_names qs) vs t'.store) t') (again_read b items t.store none)) in
      let s1 : Silent s (begun line e) = silent_begun line s e (silent_same s e refl) in
      let s2 : Silent s (begun line (set_integer count_name n (begun line e))) = silent_begun line s (set_integer count_name n (begun line e)) (silent_stored s (begun line e) (set_integer count_name n (begun line e)).store s1) in
      let u2 : State = begun line (set_integer count_name n (begun line e)) in
      let s3 : Silent s (before_test line items e) = silent_begun line s (set_integer sum_of_all (pos 0) u2) (silent_stored s u2 (set_integer sum_of_all (pos 0) u2).store s2) in
      let s4 : Silent s p = silent_begun line s (before_test line items e) s3 in
      subst (λ (z : State). SameSum first before y name s z t (calls_through first (items ∷ []) before t)) (sym u)
      (subst (λ (z : Reached). SameSum first before y name s (helper_end y name args (call_within items p)) t z) (sym w)
      (one_so first before y name args at items s t p have none tf sf refl refl s4 h
      (subst (λ (z : State). KeepsLimits (added s z)) u ks) (subst (λ (z : Reached). KeepsLimits (added t z.state)) w kt)))

  -- ---- both halves

  -- the child and its parent
  abbrev left_begins : (Name → Bool) → State → State
  left_begins named p = child_begins c line named p

  abbrev right_begins : (Name → Bool) → State → State → State
  right_begins named d p = parent_begins line named d p

  -- behind the Join, where no fault came: the block is one again, and the sums are added
  abbrev one_again : State → State
  one_again s = on_store (rejoin_block block_name left_name right_name) s

  abbrev unless_cut : State → State
  unless_cut s = unless_faulted one_again s

  abbrev sum_added : State → State
  sum_added s = exec_all c (run c) (alone line add_rest) s

  -- what the Join takes of two integers
  abbrev Takes : (Name → Bool) → Type 0
  Takes assigned = (m n : Name → ℤ) → (taken_integers assigned m n sum_of_all ≡ m sum_of_all) × (taken_integers assigned m n sum_of_rest ≡ n sum_of_rest)

  module _ (first : Bool) (before : List ℤ) (y name : Name) (args : List Arg) (at : Store) (named assigned : Name → Bool) (lefts rights : List ℤ)
      (others : List ℤ → State → Reached) (s t p d e : State) (w : Reached)
      (have : HaveNumbers at args vs) (none : NoOther b t.store) (tf : t.faulted ≡ false) (pf : p.faulted ≡ false) (waits : p.callers ≡ drop_block name s.store ∷ s.callers) (l : Silent s p)
      (child_holds : those_named named p.store.blocks ≡ record { name = left_name; items = lefts } ∷ [])
      (parent_holds : those_not_named named p.store.blocks ≡ record { name = right_name; items = rights } ∷ [])
      (takes : Takes assigned)
      (told_d : Tells (left_begins named p) d) (told_e : Tells (right_begins named d p) e) (told_w : Tells t w.state) (told_others : Tells w.state (others w.become w.state).state)
      (left : KeepsLimits (added (left_begins named p) d) → KeepsLimits (added t w.state) → SameSum first before sum_of_all left_name (left_begins named p) d t w)
      (right : w.state.faulted ≡ false → NoOther b w.state.store → KeepsLimits (added (right_begins named d p) e) → KeepsLimits (added w.state (others w.become w.state).state)
      → SameSum false w.become sum_of_rest right_name (right_begins named d p) e w.state (others w.become w.state)) where
    abbrev child : State
    child = left_begins named p

    abbrev parent : State
    parent = right_begins named d p

    abbrev joint : State
    joint = both_joined assigned p d e

    abbrev end_state : State
    end_state = helper_end y name args (sum_added (unless_cut joint))

    to_joint : Silent e joint
    to_joint = joint_silent assigned p d e

    joint_end : Longer joint end_state
    joint_end =
        let u : State = unless_cut joint in
        longer_trans joint u end_state (longer joint u (unless_faulted_tells one_again joint (on_store_told (rejoin_block block_name left_name right_name) joint)))
        (longer_trans u (sum_added u) end_state (longer u (sum_added u) (statements_told c (alone line add_rest) u)) (longer (sum_added u) end_state (end_told y name args (sum_added u))))

    -- a fault of a half ends the call
    ended_by : joint.faulted ≡ true → end_state ≡ joint
    ended_by z =
        ap (λ (u : State). helper_end y name args (sum_added u)) (skipped_all one_again joint z)
        ∙ ap (λ (u : State). helper_end y name args u) (statement_skipped c line add_rest joint z)
        ∙ skipped_all (with_answer helper.ret (returned helper.params (lend name ∷ args) (integer y))) joint z

    module _ (ks : KeepsLimits (added s end_state)) (kt : KeepsLimits (added t (next others w).state)) where
      kept_branches : KeepsLimits (added child d) × KeepsLimits (added parent e)
      kept_branches = branches_keep c line named assigned s p d e end_state l told_d told_e joint_end ks

      kept_w : KeepsLimits (added t w.state)
      kept_w = (limits_split t w.state (next others w).state (longer t w.state told_w) (longer w.state (next others w).state (next_told others w told_others)) kt).0

      sum_left : SameSum first before sum_of_all left_name child d t w
      sum_left = left kept_branches.0 kept_w

      w_faulted : w.state.faulted ≡ d.faulted
      w_faulted = sym (both_faulted child t d w.state told_d told_w refl tf sum_left.reading)

      -- the left half faulted
      left_over : d.faulted ≡ true → SameSum first before y name s end_state t (next others w)
      left_over z =
          let j : joint.faulted ≡ true = joint_faulted assigned p d e ∙ or_right e.faulted d.faulted z in
          let u = ended_by j in
          subst (λ (r : Reached). SameSum first before y name s end_state t r) (sym (next_faulted others w (w_faulted ∙ z)))
          (record {
            reading = child_read c line named assigned s p d e end_state l told_d told_e joint_end z (added t w.state) sum_left.reading;
            left = λ going. no_fault end_state.faulted (ap (λ (v : State). v.faulted) u ∙ j) going;
          })

      module _ (df : d.faulted ≡ false) where
        abbrev end_of_plain : Reached
        end_of_plain = others w.become w.state

        kept_others : KeepsLimits (added w.state end_of_plain.state)
        kept_others =
            (limits_split t w.state end_of_plain.state (longer t w.state told_w) (longer w.state end_of_plain.state told_others)
            (subst (λ (r : Reached). KeepsLimits (added t r.state)) (next_goes others w (w_faulted ∙ df)) kt)).1

        left_answers : Answers first before sum_of_all left_name child d t w
        left_answers = sum_left.left df

        none_w : NoOther b w.state.store
        none_w = ap (λ (st : Store). Counts.count (without st.blocks b) b) left_answers.plain ∙ again_alone b left_answers.last_part t.store none

        sum_right : SameSum false w.become sum_of_rest right_name parent e w.state end_of_plain
        sum_right = right (w_faulted ∙ df) none_w kept_branches.1 kept_others

        -- what is read of both halves
        whole_read : ReadTheSame (added parent end_state) (added w.state end_of_plain.state) → ReadTheSame (added s end_state) (added t end_of_plain.state)
        whole_read r =
            branches_read c line named assigned s p d e end_state l told_d told_e joint_end t w.state end_of_plain.state (longer t w.state told_w)
            (longer w.state end_of_plain.state told_others) sum_left.reading r

        -- the right half faulted
        right_over : e.faulted ≡ true → SameSum first before y name s end_state t end_of_plain
        right_over z =
            let j : joint.faulted ≡ true = joint_faulted assigned p d e ∙ or_left e.faulted d.faulted z in
            let u = ended_by j in
            record {
              reading = whole_read (parent_read c line named assigned s p d e end_state l told_d told_e joint_end pf z (added w.state end_of_plain.state) sum_right.reading);
              left = λ going. no_fault end_state.faulted (ap (λ (v : State). v.faulted) u ∙ j) going;
            }

        -- neither did
        both_done : e.faulted ≡ false → SameSum first before y name s end_state t end_of_plain
        both_done ef =
            let one = left_answers in
            let two = sum_right.left ef in
            let j : joint.faulted ≡ false = joint_faulted assigned p d e ∙ (λ i. ef i || df i) in
            let taken = joint_store assigned p d e ef df in
            let mine : Name → ℤ = e.store.integers in
            let all_is : joint.store.integers sum_of_all ≡ one.total =
            ap (λ (st : Store). st.integers sum_of_all) taken.0 ∙ (takes (child_ended d).store.integers mine).0
            ∙ ap (λ (st : Store). st.integers sum_of_all) ((end_of_child d).1 ∙ one.store) in
            let rest_is : joint.store.integers sum_of_rest ≡ two.total =
            ap (λ (st : Store). st.integers sum_of_rest) taken.0 ∙ (takes (child_ended d).store.integers mine).1
            ∙ ap (λ (st : Store). st.integers sum_of_rest) two.store in
            let left_held : (child_ended d).store.blocks ≡ record { name = left_name; items = one.result } ∷ [] =
            ap (λ (st : Store). st.blocks) ((end_of_child d).1 ∙ one.store) ∙ ap (λ (hs : List Held). with_block (without hs left_name) left_name one.result) child_holds in
            let right_held : e.store.blocks ≡ record { name = right_name; items = two.result } ∷ [] =
            ap (λ (st : Store). st.blocks) two.store ∙ ap (λ (hs : List Held). with_block (without hs right_name) right_name two.result) parent_holds in
            let held : joint.store.blocks ≡ record { name = right_name; items = two.result } ∷ record { name = left_name; items = one.result } ∷ [] =
            ap (λ (st : Store). st.blocks) taken.0 ∙ (λ i. right_held i ++ left_held i) in
            let v : ℤ = int_wrapping_add w64 one.total two.total in
            let z : State = one_again joint in
            let summed : sum_added (unless_cut joint) ≡ set_integer sum_of_all v (begun line z) =
            ap (λ (u : State). sum_added u) (skipped_none one_again joint j)
            ∙ only_statement c line add_rest z j
            ∙ assign_done c line sum_of_all (sum_with (var sum_of_all) (var sum_of_rest)) v (begun line z) (sum_value z.store sum_of_all sum_of_rest one.total two.total all_is rest_is) in
            let callers : (sum_added (unless_cut joint)).callers ≡ drop_block name s.store ∷ s.callers = ap (λ (u : State). u.callers) summed ∙ taken.1 ∙ two.callers ∙ waits in
            let ends : Ends y name s (sum_added (unless_cut joint)) end_state = ends_so y name args at s (sum_added (unless_cut joint)) have (λ going. callers) in
            let last = ends.left (ap (λ (u : State). u.faulted) summed ∙ j) in
            let silent : Silent e end_state =
            silent_item e joint end_state (began line) (mark_unread line) (ends.items ∙ ap (λ (u : State). u.items) summed) to_joint in
            let first_store : Store = hold_again b one.last_part t.store in
            let first_is : w.state.store ≡ with_integer x (after x first first_store one.total) first_store =
            one.plain ∙ ap (λ n. with_integer x n first_store) (after_beside x first b one.last_part t.store one.total) in
            record {
              reading = whole_read (silent_behind parent e end_state (added w.state end_of_plain.state) (longer parent e told_e) silent sum_right.reading);
              left = λ going. record {
                total = v;
                result = one.result ++ two.result;
                last_part = two.last_part;
                store = last.0
                    ∙ ap (λ (u : State). with_integer y (u.store.integers sum_of_all) (hold_again name (block_of u.store.blocks block_name) s.store)) summed
                    ∙ ap (λ (hs : List Held). with_integer y v (hold_again name (block_of (rejoin_block block_name left_name right_name record { integers = joint.store.integers; blocks = hs }).blocks block_name) s.store)) held;
                callers = last.1;
                plain = two.plain
                    ∙ ap (λ (st : Store). hold_again b two.last_part st) (after_both x first first_store one.total two.total w.state.store first_is)
                    ∙ ap (λ (st : Store). with_integer x (after x first first_store v) st) (again_twice b one.last_part two.last_part t.store none)
                    ∙ ap (λ n. with_integer x n (hold_again b two.last_part t.store)) (sym (after_beside x first b one.last_part t.store v));
                become = two.become ∙ ap (λ (ys : List ℤ). ys ++ two.result) one.become ∙ append_assoc before one.result two.result;
              };
            }

        right_half_read : SameSum first before y name s end_state t end_of_plain
        right_half_read = by e.faulted refl
          where
            by : (r : Bool) → e.faulted ≡ r → SameSum first before y name s end_state t end_of_plain
            by true z = right_over z
            by false z = both_done z

      halves_so : SameSum first before y name s end_state t (next others w)
      halves_so = by d.faulted refl
        where
          by : (r : Bool) → d.faulted ≡ r → SameSum first before y name s end_state t (next others w)
          by true z = left_over z
          by false z = subst (λ (r : Reached). SameSum first before y name s end_state t r) (sym (next_goes others w (w_faulted ∙ z))) (right_half_read z)

  claim_halves : (cuts : ℕ) → Claim cuts → (items : List ℤ) → nat_le (length items) most ≡ false → length items ≤ suc cuts → length items < 2 ^ 63
      → (first : Bool) (before : List ℤ) (l : ℕ) (y name : Name) (args : List Arg) (at : Store) (s t : State) → HaveNumbers at args vs → NoOther b t.store
      → s.faulted ≡ false → t.faulted ≡ false
      → KeepsLimits (added s (helper_call l y name args items s)) → KeepsLimits (added t (calls_through first (parts_within (suc cuts) most items) before t).state)
      → SameSum first before y name s (helper_call l y name args items s) t (calls_through first (parts_within (suc cuts) most items) before t)
  unfolding Claim
  claim_halves cuts rec items long fits small first before l y name args at s t have none sf tf ks kt =
      let more : most < length items = leb-false (length items) most long in
      let enough : 17 ≤ length items = omega (arith, big, more) in
      let ll = left_length items enough in
      let rl = right_length items in
      let less = half_less (length items) enough in
      let some = half_some (length items) enough in
      let lefts : List ℤ = left_half items in
      let rights : List ℤ = right_half items in
      let r = helper_runs l y name args items s ks in
      let start : State = entry name items r.0 s in
      let n : ℤ = pos (length items) in
      let h : ℤ = pos (half_of (length items)) in
      let p : State = before_par line items start in
      let a : Body = alone line (left_call sum k) in
      let a' : Body = alone line (right_call sum k) in
      let named : Name → Bool = names_in a in
      let assigned : Name → Bool = assigns_in a in
      let forked : State = exec c (run c) line (both_calls sum k line) p in
      let u1 : helper_call l y name args items s ≡ helper_end y name args (sum_added (unless_cut forked)) =
      r.1 ∙ ap (λ (z : State). helper_end y name args z) (body_of_halves c sum f most k line given items start sf long enough small) in
      -- what stands before the Fork
      let e1 : State = begun line start in
      let s1 : Silent s e1 = silent_begun line s start (silent_same s start refl) in
      let e2 : State = begun line (set_integer count_name n e1) in
      let s2 : Silent s e2 = silent_begun line s (set_integer count_name n e1) (silent_stored s e1 (set_integer count_name n e1).store s1) in
      let e3 : State = before_test line items start in
      let s3 : Silent s e3 = silent_begun line s (set_integer sum_of_all (pos 0) e2) (silent_stored s e2 (set_integer sum_of_all (pos 0) e2).store s2) in
      let e4 : State = begun line e3 in
      let s4 : Silent s e4 = silent_begun line s e3 s3 in
      let e5 : State = begun line (set_integer half_name h e4) in
      let s5 : Silent s e5 = silent_begun line s (set_integer half_name h e4) (silent_stored s e4 (set_integer half_name h e4).store s4) in
      let e6 : State = before_split line items start in
      let s6 : Silent s e6 = silent_begun line s (set_integer sum_of_rest (pos 0) e5) (silent_stored s e5 (set_integer sum_of_rest (pos 0) e5).store s5) in
      let s7 : Silent s p = silent_begun line s (record e6 { store = p.store }) (silent_stored s e6 p.store s6) in
      let has : HasFurther p.store.integers =
      beside_further sum_of_rest (λ ds. refl) k (pos 0) (updated half_name h (updated sum_of_all (pos 0) (updated count_name n given)))
      ∙ beside_further half_name (λ ds. refl) k h (updated sum_of_all (pos 0) (updated count_name n given))
      ∙ beside_further sum_of_all (λ ds. refl) k (pos 0) (updated count_name n given)
      ∙ beside_further count_name (λ ds. refl) k n given ∙ given_has in
      -- limits
      let joining : State → State = λ z. helper_end y name args (sum_added (unless_cut z)) in
      let told : Longer forked (joining forked) =
      longer_trans forked (unless_cut forked) (joining forked)
      (longer forked (unless_cut forked) (unless_faulted_tells one_again forked (on_store_told (rejoin_block block_name left_name right_name) forked)))
      (longer_trans (unless_cut forked) (sum_added (unless_cut forked)) (joining forked)
      (longer (unless_cut forked) (sum_added (unless_cut forked)) (statements_told c (alone line add_rest) (unless_cut forked)))
      (longer (sum_added (unless_cut forked)) (joining forked) (end_told y name args (sum_added (unless_cut forked))))) in
      let forked_longer : Longer p forked = longer p forked (statement_told c line (both_calls sum k line) p) in
      let ks1 : KeepsLimits (added s (joining forked)) = subst (λ (z : State). KeepsLimits (added s z)) u1 ks in
      let kp = limits_split s p (joining forked) (silent_longer s p s7) (longer_trans p forked (joining forked) forked_longer told) ks1 in
      let kf = limits_split p forked (joining forked) forked_longer told kp.1 in
      -- the two calls
      let child : State = left_begins named p in
      let d : State = helper_call line sum_of_all left_name (further_arguments k) lefts child in
      let d_is : exec_all c (run c) a (child_of c named p) ≡ d =
      only_statement c line (left_call sum k) (child_of c named p) refl
      ∙ call_opens_on c line (integer sum_of_all) sum left_name (further_arguments k) helper lent_block integer_params_of vs child is_sum refl (further_have child.store has) in
      let parent : State = right_begins named d p in
      let right_named : names_in a right_name ≡ false = right_not_named sum k line in
      let left_block : Held = record { name = left_name; items = lefts } in
      let right_block : Held = record { name = right_name; items = rights } in
      let child_holds : those_named named p.store.blocks ≡ left_block ∷ [] = ap (λ z. left_block ∷ (if z then right_block ∷ [] else [])) right_named in
      let parent_holds : those_not_named named p.store.blocks ≡ right_block ∷ [] = ap (λ z. if z then [] else right_block ∷ []) right_named in
      let e : State = helper_call line sum_of_rest right_name (further_arguments k) rights parent in
      let e_is : exec_all c (run c) a' (parent_of named (child_ended d).items p) ≡ e =
      only_statement c line (right_call sum k) (parent_of named (child_ended d).items p) sf
      ∙ call_opens_on c line (integer sum_of_rest) sum right_name (further_arguments k) helper lent_block integer_params_of vs parent is_sum refl (further_have parent.store has)
      ∙ ap (λ (hs : List Held). helper_call line sum_of_rest right_name (further_arguments k) (block_of hs right_name) parent) parent_holds in
      let forked_is : forked ≡ both_joined assigned p d e =
      par_done c line a a' p kf.0
      ∙ ap (λ (z : State). joined assigned (suc p.forks) (child_ended z) (exec_all c (run c) a' (parent_of named (child_ended z).items p))) d_is
      ∙ ap (λ (z : State). joined assigned (suc p.forks) (child_ended d) z) e_is in
      let u : helper_call l y name args items s ≡ joining (both_joined assigned p d e) = u1 ∙ ap joining forked_is in
      -- the plain calls
      let left_parts : List (List ℤ) = parts_within cuts most lefts in
      let right_parts : List (List ℤ) = parts_within cuts most rights in
      let others : List ℤ → State → Reached = calls_through false right_parts in
      let w : Reached = calls_through first left_parts before t in
      let some_part = first_part cuts most lefts in
      let cut : calls_through first (parts_within (suc cuts) most items) before t ≡ next others w =
      ap (λ (ps : List (List ℤ)). calls_through first ps before t) (two_halves cuts most items more ∙ ap (λ (ps : List (List ℤ)). ps ++ right_parts) some_part.2)
      ∙ through_both c at_line f x b vs first some_part.0 some_part.1 right_parts before t
      ∙ ap (λ (ps : List (List ℤ)). next others (calls_through first ps before t)) (sym some_part.2) in
      subst (λ (z : State). SameSum first before y name s z t (calls_through first (parts_within (suc cuts) most items) before t)) (sym u)
      (subst (λ (z : Reached). SameSum first before y name s (joining (both_joined assigned p d e)) t z) (sym cut)
      (halves_so first before y name args at named assigned lefts rights others s t p d e w have none tf sf refl s7 child_holds parent_holds (λ f1 f2. (refl, refl))
      (call_told c line (integer sum_of_all) (lend left_name ∷ further_arguments k) helper (block_passed left_name lefts block_name (param_names integer_params_of) vs child.store) child)
      (call_told c line (integer sum_of_rest) (lend right_name ∷ further_arguments k) helper (block_passed right_name rights block_name (param_names integer_params_of) vs parent.store) parent)
      (through_told c at_line f x b vs first left_parts before t) (through_told c at_line f x b vs false right_parts w.become w.state)
      (λ k1 k2. rec lefts (omega (arith, ll, less, fits)) (omega (arith, ll, less, small)) first before line sum_of_all left_name (further_arguments k) child.store child t (further_have child.store has) none refl tf k1 k2)
      (λ wf nw k1 k2. rec rights (omega (arith, rl, some, enough, fits)) (omega (arith, rl, small)) false w.become line sum_of_rest right_name (further_arguments k) parent.store parent w.state (further_have parent.store has) nw sf wf k1 k2)
      (subst (λ (z : State). KeepsLimits (added s z)) u ks) (subst (λ (z : Reached). KeepsLimits (added t z.state)) cut kt)))

  claim_short : (cuts : ℕ) (items : List ℤ) → nat_le (length items) most ≡ true
      → (first : Bool) (before : List ℤ) (l : ℕ) (y name : Name) (args : List Arg) (at : Store) (s t : State) → HaveNumbers at args vs → NoOther b t.store
      → s.faulted ≡ false → t.faulted ≡ false
      → KeepsLimits (added s (helper_call l y name args items s)) → KeepsLimits (added t (calls_through first (parts_within cuts most items) before t).state)
      → SameSum first before y name s (helper_call l y name args items s) t (calls_through first (parts_within cuts most items) before t)
  claim_short cuts items short first before l y name args at s t have none sf tf ks kt =
      let one : parts_within cuts most items ≡ items ∷ [] = one_part cuts most items (leb-true (length items) most short) in
      subst (λ (ps : List (List ℤ)). SameSum first before y name s (helper_call l y name args items s) t (calls_through first ps before t)) (sym one)
      (claim_part first before items l y name args at s t short have none sf tf ks
      (subst (λ (ps : List (List ℤ)). KeepsLimits (added t (calls_through first ps before t).state)) one kt))

  all_claims : (cuts : ℕ) → Claim cuts
  unfolding Claim
  all_claims zero items fits small first before l y name args at s t have none sf tf ks kt =
      claim_short zero items (le-leb (length items) most (omega (arith, fits))) first before l y name args at s t have none sf tf ks kt
  all_claims (suc cuts) items fits small first before l y name args at s t have none sf tf ks kt =
      by (nat_le (length items) most) refl (all_claims cuts)
    where
      by : (z : Bool) → nat_le (length items) most ≡ z → Claim cuts
          → SameSum first before y name s (helper_call l y name args items s) t (calls_through first (parts_within (suc cuts) most items) before t)
      by true short rec = claim_short (suc cuts) items short first before l y name args at s t have none sf tf ks kt
      by false long rec = claim_halves cuts rec items long fits small first before l y name args at s t have none sf tf ks kt

  -- the call of a helper on a block, and the plain calls on its parts
  pub loop_of_parts : (items : List ℤ) → length items < 2 ^ 63 → (y name : Name) (l : ℕ) (args : List Arg) (at : Store) (s t : State) → HaveNumbers at args vs → NoOther b t.store
      → s.faulted ≡ false → t.faulted ≡ false
      → KeepsLimits (added s (helper_call l y name args items s)) → KeepsLimits (added t (calls_through true (parts_within (length items) most items) [] t).state)
      → SameSum true [] y name s (helper_call l y name args items s) t (calls_through true (parts_within (length items) most items) [] t)
  unfolding Claim
  loop_of_parts items small y name l args at s t have none sf tf ks kt =
      all_claims (length items) items (omega arith) small true [] l y name args at s t have none sf tf ks kt
