-- The call of a helper comes to what the calls of the plain loop come to.
use Rattle.std.specs.Prelude.{◌≡◌, ℕ, zero, suc, ◌-◌, ◌/◌, ◌<◌, ◌≤◌, ◌^◌, ◌||◌, Bool, true, false, List, [], ◌∷◌, map, length, drop, ℤ, pos, Ok, Some, refl}
use Rattle.std.specs.Int.{w64, int_wrapping_add, int_wrapping_sub}
use Rattle.std.proofs.Common.{sym, ◌∙◌, ap, arith, subst, length-append}
use Rattle.par_tree.specs.Tree
use Rattle.par_tree.specs.Tree.{Name, Expr, num, var, equal, above, Arg, Stmt, call_stmt, par_stmt, Body, Func, integer}
use Rattle.par_tree.specs.Names.{param_names}
use Rattle.par_ownership.specs.Ownership.{function_of, hands_back}
use Rattle.depth_first_run.specs.Stores.{Store, no_integers, updated, with_integer}
use Rattle.depth_first_run.specs.Values.{value, chained, operated, compared}
use Rattle.depth_first_run.specs.States.{Setting, State, Item, began, unless_faulted, child_of, parent_of, taken_integers, joined}
use Rattle.depth_first_run.specs.Calls.{lent_back, entered, with_answer, returned}
use Rattle.depth_first_run.specs.Run.{set_integer, names_in, assigns_in, open_call, exec, exec_all, run}
use Rattle.depth_first_run.proofs.Fixed.{run_fixed}
use Rattle.loop_laws.specs.Outcomes.{added, KeepsLimits}
use Rattle.loop_laws.proofs.Concluding.{same_answer}
use Rattle.loop_laws.specs.HelperTrees.{pass_on, further_name, further_names, further_arguments, low_name, count_name, sum_of_all, half_name, sum_of_rest, alone, sum_with, difference, add_rest, numbers_body, numbers_helper}
use Rattle.loop_laws.specs.PlainLoop.{constant, add_calls, sum_calls, number_of_round}
use Rattle.loop_laws.proofs.Faulting.{call_end_told, Tells, unless_faulted_tells, call_told, statements_told, statement_told}
use Rattle.loop_laws.proofs.Readings.{ReadTheSame, read_by_marks, Longer, longer, longer_trans, limits_split}
use Rattle.loop_laws.proofs.Wrapping.{number_of_round_is, rest_is, not_one, above_one}
use Rattle.loop_laws.proofs.Arguments.{HaveNumbers, put, numbers_passed, nothing_lent, constants_have, passed_on_have, AllDiffer, put_read, integer_params}
use Rattle.loop_laws.proofs.Bodies.{skipped_none, skipped_all, only_statement, statement_skipped, assign_done, call_runs, call_opens, helper_ends, HasParameters, beside_sum, beside_half, beside_rest, begun, behind_first, body_of_one, body_of_none, before_par, first_half, second_half, body_of_more}
use Rattle.std.proofs.lemmas.Bool.{or_left, or_right}
use Rattle.loop_laws.proofs.TwoRuns.{both_faulted, read_at, no_fault, mark_unread, Silent, silent_same, silent_item, Marked, marked_silent, marked_same, marked_more, silent_longer, silent_added, silent_before, silent_behind}
use Rattle.loop_laws.proofs.Branches.{child_begins, child_ended, parent_begins, both_joined, end_of_child, par_done, joint_silent, joint_faulted, joint_store, branches_keep, child_read, parent_read, branches_read}
use Rattle.loop_laws.proofs.PlainLoops.{calls, after, taken_up, one_call, taken_up_items, taken_up_store, after_both, calls_cut, add_calls_told, calls_told}

-- ---- small facts

-- the answer of a call that is read back, and a store to which nothing was lent
answer_read : (y : Name) (v : ℤ) (r other s : Store) → r ≡ with_integer sum_of_all v other → with_integer y (r.integers sum_of_all) s ≡ with_integer y v s
answer_read y v r other s e = ap (λ (st : Store). with_integer y (st.integers sum_of_all) s) e

pub own_store : (x : Name) (v : ℤ) (r other s : Store) → r ≡ with_integer x v other → other ≡ s → r ≡ with_integer x v s
own_store x v r other s e same = e ∙ ap (λ (st : Store). with_integer x v st) same

-- the values of a sum and of a difference of two integers
pub sum_value : (s : Store) (a b : Name) (v w : ℤ) → s.integers a ≡ v → s.integers b ≡ w → value s (sum_with (var a) (var b)) ≡ Ok (int_wrapping_add w64 v w)
unfolding value chained operated
sum_value s a b v w e f = λ i. Ok (int_wrapping_add w64 (e i) (f i))

difference_value : (s : Store) (a b : Name) (v w : ℤ) → s.integers a ≡ v → s.integers b ≡ w → value s (difference (var a) (var b)) ≡ Ok (int_wrapping_sub w64 v w)
unfolding value chained operated
difference_value s a b v w e f = λ i. Ok (int_wrapping_sub w64 (e i) (f i))

pub further_length : (k : ℕ) → length (further_names k) ≡ k
further_length zero = refl
further_length (suc k) = let l = length-append (further_names k) (further_name (suc k) ∷ []) in let r = further_length k in omega (arith, l, r)

head_of : ℤ → List ℤ → ℤ
head_of v [] = v
head_of v (w ∷ ws) = w

tail_of : List ℤ → List ℤ
tail_of [] = []
tail_of (w ∷ ws) = ws

same_head : (v w : ℤ) (vs ws : List ℤ) → v ∷ vs ≡ w ∷ ws → v ≡ w
unfolding head_of
same_head v w vs ws e = ap (head_of v) e

same_tail : (v w : ℤ) (vs ws : List ℤ) → v ∷ vs ≡ w ∷ ws → vs ≡ ws
unfolding tail_of
same_tail v w vs ws e = ap tail_of e

module _ (c : Setting) (sum f : Name) (k line at_line : ℕ) (x : Name) (vs : List ℤ) (g : Func)
    (is_f : function_of c.program f ≡ Some g) (number_back : hands_back g.ret ≡ false) (is_sum : function_of c.program sum ≡ Some (numbers_helper sum f k line))
    (many : length vs ≡ k) (differ : AllDiffer (low_name ∷ count_name ∷ further_names k)) where
  abbrev helper : Func
  helper = numbers_helper sum f k line

  -- the call of the helper with these numbers
  abbrev helper_call : ℕ → Name → List Arg → (lo n : ℤ) → State → State
  helper_call l y args lo n s = open_call c (run c) l (integer y) args helper (numbers_passed (param_names helper.params) (lo ∷ n ∷ vs) s.store) s

  abbrev helper_end : Name → List Arg → State → State
  helper_end y args s = unless_faulted (with_answer helper.ret (returned helper.params args (integer y))) s

  end_told : (y : Name) (args : List Arg) (s : State) → Tells s (helper_end y args s)
  end_told y args s = call_end_told helper args (integer y) s

  -- the state in which the body of a helper begins
  record Begins (lo n : ℤ) (s e : State) : Type 0 where
    pub faulted : e.faulted ≡ false
    pub parameters : HasParameters k lo n vs e.store.integers
    pub callers : e.callers ≡ s.store ∷ s.callers
    pub items : e.items ≡ s.items
    pub blocks : e.store.blocks ≡ []

  -- the end of a helper whose body came to r
  record Ends (y : Name) (s r u : State) : Type 0 where
    pub items : u.items ≡ r.items
    pub faulted : u.faulted ≡ r.faulted
    pub left : r.faulted ≡ false → (u.store ≡ with_integer y (r.store.integers sum_of_all) s.store) × (u.callers ≡ s.callers)

  ends_so : (y : Name) (args : List Arg) (at : Store) (ws : List ℤ) (s r : State) → HaveNumbers at args ws
      → (r.faulted ≡ false → r.callers ≡ s.store ∷ s.callers) → Ends y s r (helper_end y args r)
  ends_so y args at ws s r have callers = by r.faulted refl
    where
      by : (t : Bool) → r.faulted ≡ t → Ends y s r (helper_end y args r)
      by true e =
          let same = skipped_all (with_answer helper.ret (returned helper.params args (integer y))) r e in
          record { items = ap (λ (u : State). u.items) same; faulted = ap (λ (u : State). u.faulted) same; left = λ g. no_fault r.faulted e g }
      by false e =
          let same = helper_ends sum f k line y args at ws s.store s.callers r e (callers e) have in
          record { items = ap (λ (u : State). u.items) same; faulted = ap (λ (u : State). u.faulted) same; left = λ g. (ap (λ (u : State). u.store) same, ap (λ (u : State). u.callers) same) }

  parameters_had : (lo n : ℤ) → HasParameters k lo n vs (put (param_names helper.params) (lo ∷ n ∷ vs) no_integers)
  parameters_had lo n =
      let names : List Name = low_name ∷ count_name ∷ further_names k in
      let l = further_length k in
      let r = put_read names (lo ∷ n ∷ vs) no_integers differ (omega (arith, many, l)) in
      let at : (y : Name) → Name → ℤ = λ y. put (param_names helper.params) (lo ∷ n ∷ vs) no_integers in
      let integers : Name → ℤ = put names (lo ∷ n ∷ vs) no_integers in
      let rest : integers count_name ∷ map integers (further_names k) ≡ n ∷ vs = same_tail (integers low_name) lo (integers count_name ∷ map integers (further_names k)) (n ∷ vs) r in
      subst (λ (qs : List Name). HasParameters k lo n vs (put qs (lo ∷ n ∷ vs) no_integers)) (sym (integer_params names))
      (record {
        low = same_head (integers low_name) lo (integers count_name ∷ map integers (further_names k)) (n ∷ vs) r;
        count = same_head (integers count_name) n (map integers (further_names k)) vs rest;
        further = same_tail (integers count_name) n (map integers (further_names k)) vs rest;
      })

  -- a call of the helper that meets no limit runs its body
  helper_runs : (l : ℕ) (y : Name) (args : List Arg) (lo n : ℤ) (s : State) → s.faulted ≡ false
      → KeepsLimits (added s (helper_call l y args lo n s))
      → (e : State) × Begins lo n s e × (helper_call l y args lo n s ≡ helper_end y args (exec_all c (run c) (numbers_body sum f k line) e))
  helper_runs l y args lo n s e0 kept =
      let h = numbers_passed (param_names helper.params) (lo ∷ n ∷ vs) s.store in
      let r = call_runs c l (integer y) args helper h s kept in
      let e : State = entered h (record s { turns = r.0 }) in (
        e,
        record { faulted = e0; parameters = parameters_had lo n; callers = refl; items = refl; blocks = refl },
        r.1 ∙ ap (λ t. helper_end y args t) (run_fixed c helper.body e),
      )

  -- ---- what both come to

  pub record SameSum (b : Bool) (y : Name) (s u t w : State) : Type 0 where
    pub reading : ReadTheSame (added s u) (added t w)
    pub left : u.faulted ≡ false → (v : ℤ) × (u.store ≡ with_integer y v s.store) × (w.store ≡ with_integer x (after x b t.store v) t.store) × (u.callers ≡ s.callers)

  Claim : ℕ → Type 0
  Claim m = (b : Bool) (lo : ℤ) (l : ℕ) (y : Name) (args : List Arg) (at : Store) (s t : State) → HaveNumbers at args (lo ∷ pos m ∷ vs) → s.faulted ≡ false → t.faulted ≡ false
      → KeepsLimits (added s (helper_call l y args lo (pos m) s)) → KeepsLimits (added t (calls c at_line f x vs b lo m t))
      → SameSum b y s (helper_call l y args lo (pos m) s) t (calls c at_line f x vs b lo m t)

  -- ---- one number

  own_arguments : (s : Store) (lo n : ℤ) → HasParameters k lo n vs s.integers → HaveNumbers s (pass_on low_name ∷ further_arguments k) (lo ∷ vs)
  unfolding HaveNumbers value
  own_arguments s lo n h =
      ((λ i. Ok (h.low i)), subst (λ ws. HaveNumbers s (further_arguments k) ws) h.further (passed_on_have s (further_names k)))

  -- the call of the function in a helper, and in the plain loop
  abbrev call_within : ℤ → State → State
  call_within lo s =
      open_call c (run c) line (integer sum_of_all) (pass_on low_name ∷ further_arguments k) g (numbers_passed (param_names g.params) (lo ∷ vs) s.store) s

  abbrev call_alone : ℤ → State → State
  call_alone lo s = open_call c (run c) at_line (integer x) (map constant (lo ∷ vs)) g (numbers_passed (param_names g.params) (lo ∷ vs) s.store) s

  one_so : (b : Bool) (lo n : ℤ) (y : Name) (args : List Arg) (at : Store) (ws : List ℤ) (s t p : State) → HaveNumbers at args ws → t.faulted ≡ false
      → p.faulted ≡ false → p.callers ≡ s.store ∷ s.callers → Silent s p → HasParameters k lo n vs p.store.integers
      → KeepsLimits (added s (helper_end y args (call_within lo p))) → KeepsLimits (added t (taken_up x b t.store (call_alone lo t)))
      → SameSum b y s (helper_end y args (call_within lo p)) t (taken_up x b t.store (call_alone lo t))
  one_so b lo n y args at ws s t p have tf pf waits l h ks kt =
      let o : State = call_within lo p in
      let o' : State = call_alone lo t in
      let u : State = helper_end y args o in
      let told : Tells p o = call_told c line (integer sum_of_all) (pass_on low_name ∷ further_arguments k) g (numbers_passed (param_names g.params) (lo ∷ vs) p.store) p in
      let o_u : Longer o u = longer o u (end_told y args o) in
      let k1 = limits_split s p u (silent_longer s p l) (longer_trans p o u (longer p o told) o_u) ks in
      let k2 = limits_split p o u (longer p o told) o_u k1.1 in
      let same = taken_up_items x b t.store o' in
      let k3 : KeepsLimits (added t o') = subst (λ (is : List Item). KeepsLimits (drop (length t.items) is)) same.0 kt in
      let a = same_answer c line at_line sum_of_all x (pass_on low_name ∷ further_arguments k) (map constant (lo ∷ vs)) g
      (numbers_passed (param_names g.params) (lo ∷ vs) p.store) (numbers_passed (param_names g.params) (lo ∷ vs) t.store) p t refl number_back pf tf k2.0 k3 in
      let ends : Ends y s o u = ends_so y args at ws s o have (λ z. (a.left z).4.callers ∙ waits) in
      record {
        reading = read_at (added s u) (added s u) (added t (taken_up x b t.store o')) (added t o') refl (ap (λ (is : List Item). drop (length t.items) is) same.0)
            (silent_before s p u (added t o') l (longer_trans p o u (longer p o told) o_u)
            (silent_behind p o u (added t o') (longer p o told) (silent_same o u ends.items) (read_by_marks (added p o) (added t o') a.told)));
        left = λ z.
            let of : o.faulted ≡ false = sym ends.faulted ∙ z in
            let q = a.left of in
            let e = ends.left of in (
              q.0,
              e.0 ∙ answer_read y q.0 o.store (lent_back g.params (pass_on low_name ∷ further_arguments k) q.1 p.store) s.store q.2,
              taken_up_store x b t.store q.0 o' (sym a.faulted ∙ of)
                  (own_store x q.0 o'.store (lent_back g.params (map constant (lo ∷ vs)) q.1 t.store) t.store q.3 (nothing_lent t.store g.params (map constant (lo ∷ vs)) (lo ∷ vs) q.1 t.store (constants_have t.store (lo ∷ vs)))),
              e.1,
            );
      }

  -- a helper of one number: what it comes to, and the state in which it calls the function
  pub record OneRun (y : Name) (args : List Arg) (lo : ℤ) (s u p : State) : Type 0 where
    pub faulted : p.faulted ≡ false
    pub callers : p.callers ≡ s.store ∷ s.callers
    pub marked : Marked s p
    pub parameters : HasParameters k lo (pos 1) vs p.store.integers
    pub is : u ≡ helper_end y args (call_within lo p)

  pub one_run : (lo : ℤ) (l : ℕ) (y : Name) (args : List Arg) (s : State) → s.faulted ≡ false → KeepsLimits (added s (helper_call l y args lo (pos 1) s))
      → (p : State) × OneRun y args lo s (helper_call l y args lo (pos 1) s) p
  one_run lo l y args s sf ks =
      let r = helper_runs l y args lo (pos 1) s sf ks in
      let e : State = r.0 in
      let p : State = begun line (behind_first line e) in
      let h : HasParameters k lo (pos 1) vs p.store.integers = beside_sum k (pos 0) lo (pos 1) vs e.store.integers r.1.parameters in
      let m1 : Marked s (begun line e) = marked_more line s e (begun line e) refl (marked_same s e r.1.items) in
      let m2 : Marked s (behind_first line e) = marked_more line s (begun line e) (behind_first line e) refl m1 in (
        p,
        record {
          faulted = r.1.faulted;
          callers = r.1.callers;
          marked = marked_more line s (behind_first line e) p refl m2;
          parameters = h;
          is = r.2 ∙ ap (λ (z : State). helper_end y args z) (body_of_one c sum f k line lo vs e r.1.faulted r.1.parameters
              ∙ call_opens c line (integer sum_of_all) f (pass_on low_name ∷ further_arguments k) g (lo ∷ vs) p is_f (own_arguments p.store lo (pos 1) h));
        },
      )

  claim_one : Claim 1
  unfolding Claim
  claim_one b lo l y args at s t have sf tf ks kt =
      let r = one_run lo l y args s sf ks in
      let p : State = r.0 in
      let w : calls c at_line f x vs b lo 1 t ≡ taken_up x b t.store (call_alone lo t) =
      one_call c at_line f x vs b lo t
      ∙ ap (λ (z : State). taken_up x b t.store z) (call_opens c at_line (integer x) f (map constant (lo ∷ vs)) g (lo ∷ vs) t is_f (constants_have t.store (lo ∷ vs))) in
      subst (λ (z : State). SameSum b y s z t (calls c at_line f x vs b lo 1 t)) (sym r.1.is)
      (subst (λ (z : State). SameSum b y s (helper_end y args (call_within lo p)) t z) (sym w)
      (one_so b lo (pos 1) y args at (lo ∷ pos 1 ∷ vs) s t p have tf r.1.faulted r.1.callers (marked_silent s p r.1.marked) r.1.parameters
      (subst (λ (z : State). KeepsLimits (added s z)) r.1.is ks) (subst (λ (z : State). KeepsLimits (added t z)) w kt)))

  -- ---- both halves

  -- the child and its parent, and what follows the Join
  abbrev first_begins : (Name → Bool) → State → State
  first_begins named p = child_begins c line named p

  abbrev second_begins : (Name → Bool) → State → State → State
  second_begins named d p = parent_begins line named d p

  abbrev sum_added : State → State
  sum_added s = exec_all c (run c) (alone line add_rest) s

  -- what the Join takes of two integers
  abbrev Takes : (Name → Bool) → Type 0
  Takes assigned = (a b : Name → ℤ) → (taken_integers assigned a b sum_of_all ≡ a sum_of_all) × (taken_integers assigned a b sum_of_rest ≡ b sum_of_rest)

  module _ (b : Bool) (y : Name) (args : List Arg) (at : Store) (ws : List ℤ) (named assigned : Name → Bool) (others : State → State) (s t p d q w : State)
      (have : HaveNumbers at args ws) (tf : t.faulted ≡ false) (pf : p.faulted ≡ false) (waits : p.callers ≡ s.store ∷ s.callers) (l : Silent s p) (takes : Takes assigned)
      (told_d : Tells (first_begins named p) d) (told_q : Tells (second_begins named d p) q) (told_w : Tells t w) (told_others : Tells w (others w))
      (first : KeepsLimits (added (first_begins named p) d) → KeepsLimits (added t w) → SameSum b sum_of_all (first_begins named p) d t w)
      (second : w.faulted ≡ false → KeepsLimits (added (second_begins named d p) q) → KeepsLimits (added w (others w)) → SameSum false sum_of_rest (second_begins named d p) q w (others w)) where
    abbrev child : State
    child = first_begins named p

    abbrev parent : State
    parent = second_begins named d p

    abbrev joint : State
    joint = both_joined assigned p d q

    abbrev end_state : State
    end_state = helper_end y args (sum_added joint)

    to_joint : Silent q joint
    to_joint = joint_silent assigned p d q

    joint_end : Longer joint end_state
    joint_end = longer_trans joint (sum_added joint) end_state (longer joint (sum_added joint) (statements_told c (alone line add_rest) joint)) (longer (sum_added joint) end_state (end_told y args (sum_added joint)))

    -- a fault of a half ends the call
    ended_by : joint.faulted ≡ true → end_state ≡ joint
    ended_by e =
        let skip = statement_skipped c line add_rest joint e in
        ap (λ (z : State). helper_end y args z) skip ∙ skipped_all (with_answer helper.ret (returned helper.params args (integer y))) joint e

    module _ (ks : KeepsLimits (added s end_state)) (kt : KeepsLimits (added t (unless_faulted others w))) where
      kept_branches : KeepsLimits (added child d) × KeepsLimits (added parent q)
      kept_branches = branches_keep c line named assigned s p d q end_state l told_d told_q joint_end ks

      kept_w : KeepsLimits (added t w)
      kept_w = (limits_split t w (unless_faulted others w) (longer t w told_w) (longer w (unless_faulted others w) (unless_faulted_tells others w told_others)) kt).0

      sum_first : SameSum b sum_of_all child d t w
      sum_first = first kept_branches.0 kept_w

      w_faulted : w.faulted ≡ d.faulted
      w_faulted = sym (both_faulted child t d w told_d told_w refl tf sum_first.reading)

      -- the first half faulted
      first_over : d.faulted ≡ true → SameSum b y s end_state t (unless_faulted others w)
      first_over e =
          let j : joint.faulted ≡ true = joint_faulted assigned p d q ∙ or_right q.faulted d.faulted e in
          let u = ended_by j in
          subst (λ (z : State). SameSum b y s end_state t z) (sym (skipped_all others w (w_faulted ∙ e)))
          (record {
            reading = child_read c line named assigned s p d q end_state l told_d told_q joint_end e (added t w) sum_first.reading;
            left = λ z. no_fault end_state.faulted (ap (λ (v : State). v.faulted) u ∙ j) z;
          })

      module _ (df : d.faulted ≡ false) where
        going : unless_faulted others w ≡ others w
        going = skipped_none others w (w_faulted ∙ df)

        kept_others : KeepsLimits (added w (others w))
        kept_others = (limits_split t w (others w) (longer t w told_w) (longer w (others w) told_others) (subst (λ (z : State). KeepsLimits (added t z)) going kt)).1

        sum_second : SameSum false sum_of_rest parent q w (others w)
        sum_second = second (w_faulted ∙ df) kept_branches.1 kept_others

        -- what is read of both halves
        whole_read : ReadTheSame (added parent end_state) (added w (others w)) → ReadTheSame (added s end_state) (added t (others w))
        whole_read r =
            branches_read c line named assigned s p d q end_state l told_d told_q joint_end t w (others w) (longer t w told_w) (longer w (others w) told_others) sum_first.reading r

        -- the second half faulted
        second_over : q.faulted ≡ true → SameSum b y s end_state t (others w)
        second_over e =
            let j : joint.faulted ≡ true = joint_faulted assigned p d q ∙ or_left q.faulted d.faulted e in
            let u = ended_by j in
            record {
              reading = whole_read (parent_read c line named assigned s p d q end_state l told_d told_q joint_end pf e (added w (others w)) sum_second.reading);
              left = λ z. no_fault end_state.faulted (ap (λ (v : State). v.faulted) u ∙ j) z;
            }

        -- neither did
        both_done : q.faulted ≡ false → SameSum b y s end_state t (others w)
        both_done qf =
            let one = sum_first.left df in
            let two = sum_second.left qf in
            let j : joint.faulted ≡ false = joint_faulted assigned p d q ∙ (λ i. qf i || df i) in
            let taken = joint_store assigned p d q qf df in
            let own : Name → ℤ = q.store.integers in
            let all_is : joint.store.integers sum_of_all ≡ one.0 =
            ap (λ (st : Store). st.integers sum_of_all) taken.0 ∙ (takes (child_ended d).store.integers own).0
            ∙ ap (λ (st : Store). st.integers sum_of_all) ((end_of_child d).1 ∙ one.1) in
            let rest_is : joint.store.integers sum_of_rest ≡ two.0 =
            ap (λ (st : Store). st.integers sum_of_rest) taken.0 ∙ (takes (child_ended d).store.integers own).1
            ∙ ap (λ (st : Store). st.integers sum_of_rest) two.1 in
            let v : ℤ = int_wrapping_add w64 one.0 two.0 in
            let summed : sum_added joint ≡ set_integer sum_of_all v (begun line joint) =
            only_statement c line add_rest joint j
            ∙ assign_done c line sum_of_all (sum_with (var sum_of_all) (var sum_of_rest)) v (begun line joint) (sum_value joint.store sum_of_all sum_of_rest one.0 two.0 all_is rest_is) in
            let callers : (sum_added joint).callers ≡ s.store ∷ s.callers = ap (λ (z : State). z.callers) summed ∙ taken.1 ∙ two.3 ∙ waits in
            let ends : Ends y s (sum_added joint) end_state = ends_so y args at ws s (sum_added joint) have (λ z. callers) in
            let e = ends.left (ap (λ (z : State). z.faulted) summed ∙ j) in
            let silent : Silent q end_state =
            silent_item q joint end_state (began line) (mark_unread line) (ends.items ∙ ap (λ (z : State). z.items) summed) to_joint in
            record {
              reading = whole_read (silent_behind parent q end_state (added w (others w)) (longer parent q told_q) silent sum_second.reading);
              left = λ z. (
                v,
                e.0 ∙ ap (λ (r : State). with_integer y (r.store.integers sum_of_all) s.store) summed,
                two.2 ∙ after_both x b t.store one.0 two.0 w.store one.2,
                e.1,
              );
            }

        second_half_read : SameSum b y s end_state t (others w)
        second_half_read = by q.faulted refl
          where
            by : (r : Bool) → q.faulted ≡ r → SameSum b y s end_state t (others w)
            by true e = second_over e
            by false e = both_done e

      halves_so : SameSum b y s end_state t (unless_faulted others w)
      halves_so = by d.faulted refl
        where
          by : (r : Bool) → d.faulted ≡ r → SameSum b y s end_state t (unless_faulted others w)
          by true e = first_over e
          by false e = subst (λ (z : State). SameSum b y s end_state t z) (sym (going e)) (second_half_read e)

  first_arguments : (s : Store) (lo n h : ℤ) → HasParameters k lo n vs s.integers → s.integers half_name ≡ h
      → HaveNumbers s (pass_on low_name ∷ pass_on half_name ∷ further_arguments k) (lo ∷ h ∷ vs)
  unfolding HaveNumbers value
  first_arguments s lo n h has half =
      ((λ i. Ok (has.low i)), ((λ i. Ok (half i)), subst (λ ws. HaveNumbers s (further_arguments k) ws) has.further (passed_on_have s (further_names k))))

  second_arguments : (s : Store) (lo n h : ℤ) → HasParameters k lo n vs s.integers → s.integers half_name ≡ h
      → HaveNumbers s (Tree.value (sum_with (var low_name) (var half_name)) ∷ Tree.value (difference (var count_name) (var half_name)) ∷ further_arguments k)
      (int_wrapping_add w64 lo h ∷ int_wrapping_sub w64 n h ∷ vs)
  unfolding HaveNumbers
  second_arguments s lo n h has half = (
    sum_value s low_name half_name lo h has.low half,
    (difference_value s count_name half_name n h has.count half, subst (λ ws. HaveNumbers s (further_arguments k) ws) has.further (passed_on_have s (further_names k))),
  )

  abbrev first_branch : Body
  first_branch = alone line (first_half sum k)

  abbrev second_branch : Body
  second_branch = alone line (second_half sum k)

  abbrev arguments_of_first : List Arg
  arguments_of_first = pass_on low_name ∷ pass_on half_name ∷ further_arguments k

  abbrev arguments_of_second : List Arg
  arguments_of_second = Tree.value (sum_with (var low_name) (var half_name)) ∷ Tree.value (difference (var count_name) (var half_name)) ∷ further_arguments k

  -- what the two halves of j + 2 numbers come to
  abbrev first_child : State → State
  first_child p = first_begins (names_in first_branch) p

  abbrev first_done : ℤ → ℕ → State → State
  first_done lo j p = helper_call line sum_of_all arguments_of_first lo (pos (suc (j / 2))) (first_child p)

  abbrev second_parent : ℤ → ℕ → State → State
  second_parent lo j p = second_begins (names_in first_branch) (first_done lo j p) p

  abbrev second_done : ℤ → ℕ → State → State
  second_done lo j p = helper_call line sum_of_rest arguments_of_second (number_of_round lo (suc (j / 2))) (pos (suc (suc j) - suc (j / 2))) (second_parent lo j p)

  abbrev halves_joined : ℤ → ℕ → State → State
  halves_joined lo j p = both_joined (assigns_in first_branch) p (first_done lo j p) (second_done lo j p)

  -- a helper of j + 2 numbers: what it comes to, and the state in which it forks
  pub record Halved (y : Name) (args : List Arg) (lo : ℤ) (j : ℕ) (s u p : State) : Type 0 where
    pub faulted : p.faulted ≡ false
    pub callers : p.callers ≡ s.store ∷ s.callers
    pub blocks : p.store.blocks ≡ []
    pub marked : Marked s p
    pub first : HaveNumbers (first_child p).store arguments_of_first (lo ∷ pos (suc (j / 2)) ∷ vs)
    pub second : HaveNumbers (second_parent lo j p).store arguments_of_second (number_of_round lo (suc (j / 2)) ∷ pos (suc (suc j) - suc (j / 2)) ∷ vs)
    pub child : exec_all c (run c) first_branch (child_of c (names_in first_branch) p) ≡ first_done lo j p
    pub is : u ≡ helper_end y args (sum_added (halves_joined lo j p))

  pub halved : (j : ℕ) → suc (suc j) < 2 ^ 63 → (lo : ℤ) (l : ℕ) (y : Name) (args : List Arg) (s : State) → s.faulted ≡ false
      → KeepsLimits (added s (helper_call l y args lo (pos (suc (suc j))) s)) → (p : State) × Halved y args lo j s (helper_call l y args lo (pos (suc (suc j))) s) p
  halved j small lo l y args s sf ks =
      let m : ℕ = suc (suc j) in
      let half : ℕ = suc (j / 2) in
      let rest : ℕ = m - half in
      let r = helper_runs l y args lo (pos m) s sf ks in
      let e : State = r.0 in
      let p : State = before_par line (pos half) e in
      let named : Name → Bool = names_in first_branch in
      let forked : State = exec c (run c) line (par_stmt first_branch second_branch) p in
      let u1 : helper_call l y args lo (pos m) s ≡ helper_end y args (sum_added forked) =
      r.2 ∙ ap (λ (z : State). helper_end y args z) (body_of_more c sum f k line m e r.1.faulted r.1.parameters.count small (not_one m (omega arith)) (above_one m (omega arith))
      ∙ ap (λ i. sum_added (exec c (run c) line (par_stmt first_branch second_branch) (before_par line (pos i) e))) (omega arith)) in
      let m1 : Marked s (begun line e) = marked_more line s e (begun line e) refl (marked_same s e r.1.items) in
      let m2 : Marked s (behind_first line e) = marked_more line s (begun line e) (behind_first line e) refl m1 in
      let e4 : State = begun line (behind_first line e) in
      let m3 : Marked s e4 = marked_more line s (behind_first line e) e4 refl m2 in
      let m4 : Marked s (begun line e4) = marked_more line s e4 (begun line e4) refl m3 in
      let e6 : State = begun line (set_integer half_name (pos half) (begun line e4)) in
      let m5 : Marked s e6 = marked_more line s (begun line e4) e6 refl m4 in
      let m6 : Marked s p = marked_more line s e6 p refl m5 in
      let told : Longer forked (helper_end y args (sum_added forked)) =
      longer_trans forked (sum_added forked) (helper_end y args (sum_added forked)) (longer forked (sum_added forked) (statements_told c (alone line add_rest) forked))
      (longer (sum_added forked) (helper_end y args (sum_added forked)) (end_told y args (sum_added forked))) in
      let forked_longer : Longer p forked = longer p forked (statement_told c line (par_stmt first_branch second_branch) p) in
      let ks1 : KeepsLimits (added s (helper_end y args (sum_added forked))) = subst (λ (z : State). KeepsLimits (added s z)) u1 ks in
      let kp = limits_split s p (helper_end y args (sum_added forked)) (silent_longer s p (marked_silent s p m6)) (longer_trans p forked (helper_end y args (sum_added forked)) forked_longer told) ks1 in
      let kf = limits_split p forked (helper_end y args (sum_added forked)) forked_longer told kp.1 in
      let has : HasParameters k lo (pos m) vs p.store.integers =
      beside_rest k (pos 0) lo (pos m) vs (updated half_name (pos half) (updated sum_of_all (pos 0) e.store.integers))
      (beside_half k (pos half) lo (pos m) vs (updated sum_of_all (pos 0) e.store.integers) (beside_sum k (pos 0) lo (pos m) vs e.store.integers r.1.parameters)) in
      let child : State = first_child p in
      let have1 : HaveNumbers child.store arguments_of_first (lo ∷ pos half ∷ vs) = first_arguments child.store lo (pos m) (pos half) has refl in
      let d : State = first_done lo j p in
      let d_is : exec_all c (run c) first_branch (child_of c named p) ≡ d =
      only_statement c line (first_half sum k) (child_of c named p) refl
      ∙ call_opens c line (integer sum_of_all) sum arguments_of_first helper (lo ∷ pos half ∷ vs) child is_sum have1 in
      let parent : State = second_parent lo j p in
      let low_is : int_wrapping_add w64 lo (pos half) ≡ number_of_round lo half = sym (number_of_round_is (j / 2) lo) in
      let count_is : int_wrapping_sub w64 (pos m) (pos half) ≡ pos rest = rest_is m half small (omega arith) in
      let have2 : HaveNumbers parent.store arguments_of_second (number_of_round lo half ∷ pos rest ∷ vs) =
      subst (λ (ws : List ℤ). HaveNumbers parent.store arguments_of_second ws) (λ i. low_is i ∷ count_is i ∷ vs) (second_arguments parent.store lo (pos m) (pos half) has refl) in
      let q : State = second_done lo j p in
      let q_is : exec_all c (run c) second_branch (parent_of named (child_ended d).items p) ≡ q =
      only_statement c line (second_half sum k) (parent_of named (child_ended d).items p) r.1.faulted
      ∙ call_opens c line (integer sum_of_rest) sum arguments_of_second helper (number_of_round lo half ∷ pos rest ∷ vs) parent is_sum have2 in
      let forked_is : forked ≡ halves_joined lo j p =
      par_done c line first_branch second_branch p kf.0
      ∙ ap (λ (z : State). joined (assigns_in first_branch) (suc p.forks) (child_ended z) (exec_all c (run c) second_branch (parent_of named (child_ended z).items p))) d_is
      ∙ ap (λ (z : State). joined (assigns_in first_branch) (suc p.forks) (child_ended d) z) q_is in (
        p,
        record {
          faulted = r.1.faulted;
          callers = r.1.callers;
          blocks = r.1.blocks;
          marked = m6;
          first = have1;
          second = have2;
          child = d_is;
          is = u1 ∙ ap (λ (z : State). helper_end y args (sum_added z)) forked_is;
        },
      )

  claim_more : (j : ℕ) → suc (suc j) < 2 ^ 63 → ((m : ℕ) → m < suc (suc j) → 1 ≤ m → Claim m) → Claim (suc (suc j))
  unfolding Claim calls
  claim_more j small rec b lo l y args at s t have sf tf ks kt =
      let m : ℕ = suc (suc j) in
      let half : ℕ = suc (j / 2) in
      let rest : ℕ = m - half in
      let r = halved j small lo l y args s sf ks in
      let p : State = r.0 in
      let d : State = first_done lo j p in
      let q : State = second_done lo j p in
      let others : State → State = add_calls c at_line f x vs (number_of_round lo half) rest in
      let w : State = calls c at_line f x vs b lo half t in
      let cut : calls c at_line f x vs b lo m t ≡ unless_faulted others w = calls_cut c at_line f x vs b (j / 2) rest m lo t (omega arith) in
      subst (λ (z : State). SameSum b y s z t (calls c at_line f x vs b lo m t)) (sym r.1.is)
      (subst (λ (z : State). SameSum b y s (helper_end y args (sum_added (halves_joined lo j p))) t z) (sym cut)
      (halves_so b y args at (lo ∷ pos m ∷ vs) (names_in first_branch) (assigns_in first_branch) others s t p d q w have tf r.1.faulted r.1.callers (marked_silent s p r.1.marked) (λ f1 f2. (refl, refl))
      (call_told c line (integer sum_of_all) arguments_of_first helper (numbers_passed (param_names helper.params) (lo ∷ pos half ∷ vs) (first_child p).store) (first_child p))
      (call_told c line (integer sum_of_rest) arguments_of_second helper (numbers_passed (param_names helper.params) (number_of_round lo half ∷ pos rest ∷ vs) (second_parent lo j p).store) (second_parent lo j p))
      (calls_told c at_line f x vs b half lo t) (add_calls_told c at_line f x vs rest (number_of_round lo half) w)
      (λ k1 k2. rec half (omega arith) (omega arith) b lo line sum_of_all arguments_of_first (first_child p).store (first_child p) t r.1.first refl tf k1 k2)
      (λ wf k1 k2. rec rest (omega arith) (omega arith) false (number_of_round lo half) line sum_of_rest arguments_of_second (second_parent lo j p).store (second_parent lo j p) w r.1.second r.1.faulted wf k1 k2)
      (subst (λ (z : State). KeepsLimits (added s z)) r.1.is ks) (subst (λ (z : State). KeepsLimits (added t z)) cut kt)))

  all_claims : (bound m : ℕ) → m ≤ bound → 1 ≤ m → m < 2 ^ 63 → Claim m
  all_claims zero m le some small = absurd (omega (arith, le, some))
  all_claims (suc bound) zero le some small = absurd (omega (arith, some))
  all_claims (suc bound) (suc zero) le some small = claim_one
  all_claims (suc bound) (suc (suc j)) le some small =
      claim_more j small (λ m less one. all_claims bound m (omega (arith, le, less)) one (omega (arith, less, small)))

  -- the call of a helper for one number or more, and the plain loop
  pub loop_of_some : (n : ℕ) → 1 ≤ n → n < 2 ^ 63 → (lo : ℤ) (y : Name) (l : ℕ) (args : List Arg) (at : Store) (s t : State) → HaveNumbers at args (lo ∷ pos n ∷ vs) → s.faulted ≡ false → t.faulted ≡ false
      → KeepsLimits (added s (helper_call l y args lo (pos n) s)) → KeepsLimits (added t (sum_calls c at_line f x vs lo n t))
      → SameSum true y s (helper_call l y args lo (pos n) s) t (sum_calls c at_line f x vs lo n t)
  unfolding Claim calls
  loop_of_some n some small lo y l args at s t have sf tf ks kt = all_claims n n (omega arith) some small true lo l y args at s t have sf tf ks kt

  -- the call of a helper for no number
  pub loop_of_none : (n lo : ℤ) (y : Name) (l : ℕ) (args : List Arg) (at : Store) (s : State) → HaveNumbers at args (lo ∷ n ∷ vs) → s.faulted ≡ false
      → compared equal n (pos 1) ≡ Ok (pos 0) → compared above n (pos 1) ≡ Ok (pos 0)
      → KeepsLimits (added s (helper_call l y args lo n s))
      → ReadTheSame (added s (helper_call l y args lo n s)) [] × ((helper_call l y args lo n s).faulted ≡ false) × ((helper_call l y args lo n s).store ≡ with_integer y (pos 0) s.store)
  loop_of_none n lo y l args at s have sf other few ks =
      let r = helper_runs l y args lo n s sf ks in
      let e : State = r.0 in
      let p : State = begun line (behind_first line e) in
      let u : helper_call l y args lo n s ≡ helper_end y args p =
      r.2 ∙ ap (λ (z : State). helper_end y args z) (body_of_none c sum f k line n e r.1.faulted r.1.parameters.count other few) in
      let m1 : Marked s (begun line e) = marked_more line s e (begun line e) refl (marked_same s e r.1.items) in
      let m2 : Marked s (behind_first line e) = marked_more line s (begun line e) (behind_first line e) refl m1 in
      let m3 : Marked s p = marked_more line s (behind_first line e) p refl m2 in
      let ends : Ends y s p (helper_end y args p) = ends_so y args at (lo ∷ n ∷ vs) s p have (λ z. r.1.callers) in
      let whole : Silent s (helper_end y args p) = (m3.0, ends.items ∙ m3.1, m3.2) in
      subst (λ (z : State). ReadTheSame (added s z) [] × (z.faulted ≡ false) × (z.store ≡ with_integer y (pos 0) s.store)) (sym u)
      ((silent_added s (helper_end y args p) whole, ends.faulted ∙ r.1.faulted, (ends.left r.1.faulted).0))
