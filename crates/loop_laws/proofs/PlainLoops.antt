-- The calls of a plain loop: cut in two, and what they add.
use Rattle.std.specs.Prelude.{◌≡◌, ℕ, zero, suc, ◌+◌, Bool, true, false, List, [], ◌∷◌, map, if◌then◌else◌, ℤ, pos, refl}
use Rattle.std.specs.Int.{w64, int_wrapping_add}
use Rattle.std.specs.Str.{bytes_eq}
use Rattle.std.proofs.Common.{sym, ◌∙◌, ap, arith, append-nil}
use Rattle.par_tree.specs.Tree.{Name, call_stmt, integer}
use Rattle.depth_first_run.specs.Stores.{Store, with_integer}
use Rattle.depth_first_run.specs.States.{Setting, State, skip_if, unless_faulted}
use Rattle.depth_first_run.specs.Run.{set_integer}
use Rattle.loop_laws.specs.PlainLoop.{constant, call_for, add_to, add_call, next_number, add_calls, sum_calls, number_of_round}
use Rattle.loop_laws.proofs.Faulting.{Tells, quiet_tells, tells_same, tells_trans, unless_faulted_tells, statement_told}
use Rattle.loop_laws.proofs.Wrapping.{sums_regroup}
use Rattle.ownership_laws.proofs.Counting.{name_same}
use Rattle.loop_laws.proofs.Bodies.{skipped_none, skipped_all}

-- ---- stores

-- what is written twice has its last number
pub written_twice : (x : Name) (a b : ℤ) (s : Store) → with_integer x b (with_integer x a s) ≡ with_integer x b s
written_twice x a b s = λ i. record { integers = λ y. same (bytes_eq x y) (s.integers y) i; blocks = s.blocks }
  where
    same : (t : Bool) (v : ℤ) → (if t then b else (if t then a else v)) ≡ (if t then b else v)
    same true v = refl
    same false v = refl

pub read_back : (x : Name) (v : ℤ) (s : Store) → (with_integer x v s).integers x ≡ v
read_back x v s = ap (λ t. if t then v else s.integers x) (name_same x)

-- ---- the first call, and the others

-- whether the sum begins with the first answer, or is added to what x was
unfoldable pub calls : Setting → ℕ → (f x : Name) → List ℤ → Bool → ℤ → ℕ → State → State
calls c line f x vs true lo n s = sum_calls c line f x vs lo n s
calls c line f x vs false lo n s = add_calls c line f x vs lo n s

unfoldable pub after : Name → Bool → Store → ℤ → ℤ
after x true s v = v
after x false s v = int_wrapping_add w64 (s.integers x) v

-- the end of the first call
unfoldable pub taken_up : Name → Bool → Store → State → State
taken_up x true before s = s
taken_up x false before s = unless_faulted (add_to x (before.integers x)) s

pub calls_begin : (c : Setting) (line : ℕ) (f x : Name) (vs : List ℤ) (b : Bool) (lo : ℤ) (n : ℕ) (s : State)
    → calls c line f x vs b lo (suc n) s ≡ unless_faulted (add_calls c line f x vs (next_number lo) n) (taken_up x b s.store (call_for c line f x (lo ∷ vs) s))
unfolding calls taken_up
calls_begin c line f x vs true lo n s = refl
calls_begin c line f x vs false lo n s = refl

no_more : (c : Setting) (line : ℕ) (f x : Name) (vs : List ℤ) (lo : ℤ) (s : State) → unless_faulted (add_calls c line f x vs lo zero) s ≡ s
unfolding unless_faulted
no_more c line f x vs lo s = by s.faulted
  where
    by : (t : Bool) → skip_if t (add_calls c line f x vs lo zero) s ≡ s
    by true = refl
    by false = refl

pub one_call : (c : Setting) (line : ℕ) (f x : Name) (vs : List ℤ) (b : Bool) (lo : ℤ) (s : State)
    → calls c line f x vs b lo 1 s ≡ taken_up x b s.store (call_for c line f x (lo ∷ vs) s)
one_call c line f x vs b lo s =
    calls_begin c line f x vs b lo zero s ∙ no_more c line f x vs (next_number lo) (taken_up x b s.store (call_for c line f x (lo ∷ vs) s))

pub taken_up_items : (x : Name) (b : Bool) (before : Store) (s : State) → ((taken_up x b before s).items ≡ s.items) × ((taken_up x b before s).faulted ≡ s.faulted)
unfolding taken_up unless_faulted
taken_up_items x true before s = (refl, refl)
taken_up_items x false before s = by s.faulted refl
  where
    by : (t : Bool) → s.faulted ≡ t → ((skip_if t (add_to x (before.integers x)) s).items ≡ s.items) × ((skip_if t (add_to x (before.integers x)) s).faulted ≡ s.faulted)
    by true e = (refl, refl)
    by false e = (refl, refl)

pub taken_up_store : (x : Name) (b : Bool) (before : Store) (v : ℤ) (s : State) → s.faulted ≡ false → s.store ≡ with_integer x v before
    → (taken_up x b before s).store ≡ with_integer x (after x b before v) before
unfolding taken_up after
taken_up_store x true before v s f e = e
taken_up_store x false before v s f e =
    ap (λ (t : State). t.store) (skipped_none (add_to x (before.integers x)) s f)
    ∙ ap (λ (st : Store). with_integer x (int_wrapping_add w64 (before.integers x) (st.integers x)) st) e
    ∙ ap (λ w. with_integer x (int_wrapping_add w64 (before.integers x) w) (with_integer x v before)) (read_back x v before)
    ∙ written_twice x v (int_wrapping_add w64 (before.integers x) v) before

-- what a sum comes to that is cut in two
pub after_both : (x : Name) (b : Bool) (before : Store) (v w : ℤ) (s : Store) → s ≡ with_integer x (after x b before v) before
    → with_integer x (after x false s w) s ≡ with_integer x (after x b before (int_wrapping_add w64 v w)) before
unfolding after
after_both x b before v w s e =
    ap (λ (st : Store). with_integer x (int_wrapping_add w64 (st.integers x) w) st) e
    ∙ ap (λ u. with_integer x (int_wrapping_add w64 u w) (with_integer x (after x b before v) before)) (read_back x (after x b before v) before)
    ∙ written_twice x (after x b before v) (int_wrapping_add w64 (after x b before v) w) before
    ∙ ap (λ u. with_integer x u before) (grouped b)
  where
    grouped : (t : Bool) → int_wrapping_add w64 (after x t before v) w ≡ after x t before (int_wrapping_add w64 v w)
    grouped true = refl
    grouped false = sums_regroup (before.integers x) v w

-- ---- cut in two

-- a sum of counts, by its first part
unfoldable pub together : ℕ → ℕ → ℕ
together zero n = n
together (suc m) n = suc (together m n)

pub together_is : (m n : ℕ) → together m n ≡ m + n
unfolding together
together_is zero n = omega arith
together_is (suc m) n = let r = together_is m n in omega (arith, r)

module _ (c : Setting) (line : ℕ) (f x : Name) (vs : List ℤ) where
  more_cut : (m n : ℕ) (lo : ℤ) (s : State) → s.faulted ≡ false
      → add_calls c line f x vs lo (together m n) s ≡ unless_faulted (add_calls c line f x vs (number_of_round lo m) n) (add_calls c line f x vs lo m s)
  unfolding number_of_round together
  more_cut zero n lo s e = sym (skipped_none (add_calls c line f x vs lo n) s e)
  more_cut (suc m) n lo s e =
      let u : State = add_call c line f x (lo ∷ vs) s in
      by u u.faulted refl (more_cut m n (next_number lo) u)
    where
      by : (u : State) (t : Bool) → u.faulted ≡ t
          → (u.faulted ≡ false → add_calls c line f x vs (next_number lo) (together m n) u ≡ unless_faulted (add_calls c line f x vs (number_of_round (next_number lo) m) n) (add_calls c line f x vs (next_number lo) m u))
          → unless_faulted (add_calls c line f x vs (next_number lo) (together m n)) u ≡ unless_faulted (add_calls c line f x vs (number_of_round (next_number lo) m) n) (unless_faulted (add_calls c line f x vs (next_number lo) m) u)
      by u true is k =
          skipped_all (add_calls c line f x vs (next_number lo) (together m n)) u is
          ∙ sym (skipped_all (add_calls c line f x vs (number_of_round (next_number lo) m) n) u is)
          ∙ ap (λ v. unless_faulted (add_calls c line f x vs (number_of_round (next_number lo) m) n) v) (sym (skipped_all (add_calls c line f x vs (next_number lo) m) u is))
      by u false is k =
          skipped_none (add_calls c line f x vs (next_number lo) (together m n)) u is ∙ k is
          ∙ ap (λ v. unless_faulted (add_calls c line f x vs (number_of_round (next_number lo) m) n) v) (sym (skipped_none (add_calls c line f x vs (next_number lo) m) u is))

  -- so many calls, one at least, and then others
  calls_cut_so : (b : Bool) (m n : ℕ) (lo : ℤ) (s : State)
      → calls c line f x vs b lo (suc (together m n)) s ≡ unless_faulted (add_calls c line f x vs (number_of_round lo (suc m)) n) (calls c line f x vs b lo (suc m) s)
  unfolding number_of_round together
  calls_cut_so b m n lo s =
      let u : State = taken_up x b s.store (call_for c line f x (lo ∷ vs) s) in
      calls_begin c line f x vs b lo (together m n) s ∙ by u u.faulted refl
      ∙ ap (λ v. unless_faulted (add_calls c line f x vs (number_of_round (next_number lo) m) n) v) (sym (calls_begin c line f x vs b lo m s))
    where
      by : (u : State) (t : Bool) → u.faulted ≡ t
          → unless_faulted (add_calls c line f x vs (next_number lo) (together m n)) u ≡ unless_faulted (add_calls c line f x vs (number_of_round (next_number lo) m) n) (unless_faulted (add_calls c line f x vs (next_number lo) m) u)
      by u true is =
          skipped_all (add_calls c line f x vs (next_number lo) (together m n)) u is
          ∙ sym (skipped_all (add_calls c line f x vs (number_of_round (next_number lo) m) n) u is)
          ∙ ap (λ v. unless_faulted (add_calls c line f x vs (number_of_round (next_number lo) m) n) v) (sym (skipped_all (add_calls c line f x vs (next_number lo) m) u is))
      by u false is =
          skipped_none (add_calls c line f x vs (next_number lo) (together m n)) u is ∙ more_cut m n (next_number lo) u is
          ∙ ap (λ v. unless_faulted (add_calls c line f x vs (number_of_round (next_number lo) m) n) v) (sym (skipped_none (add_calls c line f x vs (next_number lo) m) u is))

  pub calls_cut : (b : Bool) (m n all : ℕ) (lo : ℤ) (s : State) → all ≡ suc m + n
      → calls c line f x vs b lo all s ≡ unless_faulted (add_calls c line f x vs (number_of_round lo (suc m)) n) (calls c line f x vs b lo (suc m) s)
  calls_cut b m n all lo s e =
      ap (λ i. calls c line f x vs b lo i s) (let r = together_is m n in omega (arith, e, r)) ∙ calls_cut_so b m n lo s

  -- ---- what they tell

  add_call_told : (ws : List ℤ) (s : State) → Tells s (add_call c line f x ws s)
  add_call_told ws s =
      let u : State = call_for c line f x ws s in
      tells_trans s u (add_call c line f x ws s) (statement_told c line (call_stmt (integer x) f (map constant ws)) s)
      (unless_faulted_tells (add_to x (s.store.integers x)) u (stored u (add_to x (s.store.integers x) u).store))
    where
      stored : (u : State) (st : Store) → Tells u (record u { store = st })
      stored u st = quiet_tells u (record u { store = st }) [] refl refl (sym (append-nil u.items))

  pub add_calls_told : (n : ℕ) (lo : ℤ) (s : State) → Tells s (add_calls c line f x vs lo n s)
  add_calls_told zero lo s = tells_same s
  add_calls_told (suc n) lo s =
      let u : State = add_call c line f x (lo ∷ vs) s in
      tells_trans s u (unless_faulted (add_calls c line f x vs (next_number lo) n) u) (add_call_told (lo ∷ vs) s)
      (unless_faulted_tells (add_calls c line f x vs (next_number lo) n) u (add_calls_told n (next_number lo) u))

  pub calls_told : (b : Bool) (n : ℕ) (lo : ℤ) (s : State) → Tells s (calls c line f x vs b lo n s)
  unfolding calls
  calls_told false n lo s = add_calls_told n lo s
  calls_told true zero lo s = quiet_tells s (set_integer x (pos 0) s) [] refl refl (sym (append-nil s.items))
  calls_told true (suc n) lo s =
      let u : State = call_for c line f x (lo ∷ vs) s in
      tells_trans s u (unless_faulted (add_calls c line f x vs (next_number lo) n) u) (statement_told c line (call_stmt (integer x) f (map constant (lo ∷ vs))) s)
      (unless_faulted_tells (add_calls c line f x vs (next_number lo) n) u (add_calls_told n (next_number lo) u))
