-- A loop whose sum begins with 0.
use Rattle.std.specs.Prelude.{◌≡◌, ℕ, zero, suc, ◌≤◌, false, List, ◌∷◌, map, length, drop, ℤ, pos, FitsSigned, Some, refl}
use Rattle.std.specs.Int.{w64, int_wrapping_add}
use Rattle.std.proofs.Common.{sym, ◌∙◌, ap, arith, subst}
use Rattle.par_tree.specs.Tree.{Name, integer, Func, call_stmt}
use Rattle.par_tree.specs.Names.{param_names}
use Rattle.par_ownership.specs.Ownership.{function_of, hands_back}
use Rattle.depth_first_run.specs.Stores.{Store, Held, with_integer}
use Rattle.depth_first_run.specs.States.{Setting, State, Item, unless_faulted}
use Rattle.depth_first_run.specs.Calls.{lent_back}
use Rattle.depth_first_run.specs.Run.{set_integer, open_call, run}
use Rattle.loop_laws.specs.Outcomes.{added, KeepsLimits}
use Rattle.loop_laws.proofs.Concluding.{same_answer}
use Rattle.loop_laws.specs.PlainLoop.{constant, call_for, add_call, next_number, add_calls, sum_calls}
use Rattle.loop_laws.specs.NumberLoopLaws.{SumsMayBeginAtZero}
use Rattle.loop_laws.proofs.Faulting.{unless_faulted_tells, statement_told}
use Rattle.loop_laws.proofs.Readings.{ReadTheSame, read_by_marks, Longer, longer, longer_by, limits_split}
use Rattle.loop_laws.proofs.Wrapping.{nothing_added}
use Rattle.loop_laws.proofs.Arguments.{numbers_passed, nothing_lent, constants_have}
use Rattle.loop_laws.proofs.Bodies.{call_opens}
use Rattle.loop_laws.proofs.PlainLoops.{written_twice, read_back, after, taken_up, taken_up_items, taken_up_store, add_calls_told}
use Rattle.loop_laws.proofs.TwoRuns.{read_at, silent_same, both_silent, SameRuns, same_runs_on}
use Rattle.loop_laws.proofs.Halving.{own_store}

module _ (c : Setting) (line : ℕ) (f x : Name) (g : Func) (is_f : function_of c.program f ≡ Some g) (number_back : hands_back g.ret ≡ false) where
  abbrev calls_f : List ℤ → State → State
  calls_f ws s = call_for c line f x ws s

  -- two calls for the same numbers
  record SameCall (ws : List ℤ) (s t : State) : Type 0 where
    pub reading : ReadTheSame (added s (calls_f ws s)) (added t (calls_f ws t))
    pub faulted : (calls_f ws s).faulted ≡ (calls_f ws t).faulted
    pub left : (calls_f ws s).faulted ≡ false → (v : ℤ) × ((calls_f ws s).store ≡ with_integer x v s.store) × ((calls_f ws t).store ≡ with_integer x v t.store)

  abbrev opened : List ℤ → State → State
  opened ws s = open_call c (run c) line (integer x) (map constant ws) g (numbers_passed (param_names g.params) ws s.store) s

  opened_is : (ws : List ℤ) (s : State) → calls_f ws s ≡ opened ws s
  opened_is ws s = call_opens c line (integer x) f (map constant ws) g ws s is_f (constants_have s.store ws)

  same_call : (ws : List ℤ) (s t : State) → s.faulted ≡ false → t.faulted ≡ false → KeepsLimits (added s (calls_f ws s)) → KeepsLimits (added t (calls_f ws t)) → SameCall ws s t
  same_call ws s t sf tf ks kt =
      let p = opened_is ws s in
      let q = opened_is ws t in
      let a = same_answer c line line x x (map constant ws) (map constant ws) g (numbers_passed (param_names g.params) ws s.store) (numbers_passed (param_names g.params) ws t.store) s t refl number_back sf tf
      (subst (λ (z : State). KeepsLimits (added s z)) p ks) (subst (λ (z : State). KeepsLimits (added t z)) q kt) in
      let lent : (r : State) (bs : List Held) → lent_back g.params (map constant ws) bs r.store ≡ r.store = λ r bs. nothing_lent r.store g.params (map constant ws) ws bs r.store (constants_have r.store ws) in
      record {
        reading = read_at (added s (calls_f ws s)) (added s (opened ws s)) (added t (calls_f ws t)) (added t (opened ws t)) (ap (λ (z : State). added s z) p) (ap (λ (z : State). added t z) q)
            (read_by_marks (added s (opened ws s)) (added t (opened ws t)) a.told);
        faulted = ap (λ (z : State). z.faulted) p ∙ a.faulted ∙ sym (ap (λ (z : State). z.faulted) q);
        left = λ z.
            let l = a.left (sym (ap (λ (w : State). w.faulted) p) ∙ z) in (
              l.0,
              ap (λ (w : State). w.store) p ∙ own_store x l.0 (opened ws s).store (lent_back g.params (map constant ws) l.1 s.store) s.store l.2 (lent s l.1),
              ap (λ (w : State). w.store) q ∙ own_store x l.0 (opened ws t).store (lent_back g.params (map constant ws) l.1 t.store) t.store l.3 (lent t l.1),
            );
      }

  call_longer : (ws : List ℤ) (s : State) → Longer s (calls_f ws s)
  call_longer ws s = longer s (calls_f ws s) (statement_told c line (call_stmt (integer x) f (map constant ws)) s)

  adds_longer : (vs : List ℤ) (lo : ℤ) (m : ℕ) (u : State) → Longer u (add_calls c line f x vs lo m u)
  adds_longer vs lo m u = longer u (add_calls c line f x vs lo m u) (add_calls_told c line f x vs m lo u)

  others_longer : (vs : List ℤ) (lo : ℤ) (m : ℕ) (u : State) → Longer u (unless_faulted (add_calls c line f x vs lo m) u)
  others_longer vs lo m u =
      longer u (unless_faulted (add_calls c line f x vs lo m) u) (unless_faulted_tells (add_calls c line f x vs lo m) u (add_calls_told c line f x vs m lo u))

  call_items : (ws : List ℤ) (s : State) → ((add_call c line f x ws s).items ≡ (calls_f ws s).items) × ((add_call c line f x ws s).faulted ≡ (calls_f ws s).faulted)
  unfolding taken_up
  call_items ws s = taken_up_items x false s.store (calls_f ws s)

  call_store : (ws : List ℤ) (v : ℤ) (s : State) → (calls_f ws s).faulted ≡ false → (calls_f ws s).store ≡ with_integer x v s.store
      → (add_call c line f x ws s).store ≡ with_integer x (int_wrapping_add w64 (s.store.integers x) v) s.store
  unfolding taken_up after
  call_store ws v s e is = taken_up_store x false s.store v (calls_f ws s) e is

  call_added : (ws : List ℤ) (s : State) → added s (add_call c line f x ws s) ≡ added s (calls_f ws s)
  call_added ws s = ap (λ (is : List Item). drop (length s.items) is) (call_items ws s).0

  add_longer : (ws : List ℤ) (s : State) → Longer s (add_call c line f x ws s)
  add_longer ws s = let l = call_longer ws s in longer_by s (add_call c line f x ws s) l.new ((call_items ws s).0 ∙ l.items)

  -- two calls whose answers are added
  same_add : (ws : List ℤ) (s t : State) → s.faulted ≡ false → t.faulted ≡ false → s.store ≡ t.store → KeepsLimits (added s (add_call c line f x ws s)) → KeepsLimits (added t (add_call c line f x ws t))
      → SameRuns s (add_call c line f x ws s) t (add_call c line f x ws t)
  same_add ws s t sf tf same ks kt =
      let w = same_call ws s t sf tf (subst (λ (is : List Item). KeepsLimits is) (call_added ws s) ks) (subst (λ (is : List Item). KeepsLimits is) (call_added ws t) kt) in
      record {
        reading = read_at (added s (add_call c line f x ws s)) (added s (calls_f ws s)) (added t (add_call c line f x ws t)) (added t (calls_f ws t)) (call_added ws s) (call_added ws t) w.reading;
        faulted = (call_items ws s).1 ∙ w.faulted ∙ sym (call_items ws t).1;
        left = λ z.
            let e : (calls_f ws s).faulted ≡ false = sym (call_items ws s).1 ∙ z in
            let l = w.left e in
            call_store ws l.0 s e l.1 ∙ ap (λ (st : Store). with_integer x (int_wrapping_add w64 (st.integers x) l.0) st) same
            ∙ sym (call_store ws l.0 t (sym w.faulted ∙ e) l.2);
      }

  same_adds : (vs : List ℤ) (m : ℕ) (lo : ℤ) (s t : State) → s.faulted ≡ false → t.faulted ≡ false → s.store ≡ t.store
      → KeepsLimits (added s (add_calls c line f x vs lo m s)) → KeepsLimits (added t (add_calls c line f x vs lo m t)) → SameRuns s (add_calls c line f x vs lo m s) t (add_calls c line f x vs lo m t)
  same_adds vs zero lo s t sf tf same ks kt = record {
    reading = both_silent s t s t (silent_same s s refl) (silent_same t t refl);
    faulted = sf ∙ sym tf;
    left = λ z. same;
  }
  same_adds vs (suc m) lo s t sf tf same ks kt =
      let u : State = add_call c line f x (lo ∷ vs) s in
      let v : State = add_call c line f x (lo ∷ vs) t in
      let others : State → State = add_calls c line f x vs (next_number lo) m in
      let k = limits_split s u (unless_faulted (add_calls c line f x vs (next_number lo) m) u) (add_longer (lo ∷ vs) s) (others_longer vs (next_number lo) m u) ks in
      let k' = limits_split t v (unless_faulted (add_calls c line f x vs (next_number lo) m) v) (add_longer (lo ∷ vs) t) (others_longer vs (next_number lo) m v) kt in
      same_runs_on others others s t u v (add_longer (lo ∷ vs) s) (add_longer (lo ∷ vs) t) (adds_longer vs (next_number lo) m u) (adds_longer vs (next_number lo) m v) (same_add (lo ∷ vs) s t sf tf same k.0 k'.0)
      (λ uf vf e ku kv. same_adds vs m (next_number lo) u v uf vf e ku kv) ks kt

  -- the first answer, added to 0
  same_first : (ws : List ℤ) (s : State) → s.faulted ≡ false → FitsSigned w64 ((calls_f ws s).store.integers x)
      → KeepsLimits (added s (add_call c line f x ws (set_integer x (pos 0) s))) → KeepsLimits (added s (calls_f ws s))
      → SameRuns (set_integer x (pos 0) s) (add_call c line f x ws (set_integer x (pos 0) s)) s (calls_f ws s)
  same_first ws s sf fits ks kt =
      let t : State = set_integer x (pos 0) s in
      let w = same_call ws t s sf sf (subst (λ (is : List Item). KeepsLimits is) (call_added ws t) ks) kt in
      record {
        reading = read_at (added t (add_call c line f x ws t)) (added t (calls_f ws t)) (added s (calls_f ws s)) (added s (calls_f ws s)) (call_added ws t) refl w.reading;
        faulted = (call_items ws t).1 ∙ w.faulted;
        left = λ z.
            let e : (calls_f ws t).faulted ≡ false = sym (call_items ws t).1 ∙ z in
            let l = w.left e in
            let small : FitsSigned w64 l.0 = subst (λ v. FitsSigned w64 v) (ap (λ (st : Store). st.integers x) l.2 ∙ read_back x l.0 s.store) fits in
            call_store ws l.0 t e l.1
            ∙ ap (λ v. with_integer x v t.store) (ap (λ v. int_wrapping_add w64 v l.0) (read_back x (pos 0) s.store) ∙ nothing_added l.0 small)
            ∙ written_twice x (pos 0) l.0 s.store ∙ sym l.2;
      }

  sums_same : (vs : List ℤ) (n : ℕ) (lo : ℤ) (s : State) → s.faulted ≡ false → (1 ≤ n → FitsSigned w64 ((calls_f (lo ∷ vs) s).store.integers x))
      → KeepsLimits (added s (add_calls c line f x vs lo n (set_integer x (pos 0) s))) → KeepsLimits (added s (sum_calls c line f x vs lo n s))
      → SameRuns (set_integer x (pos 0) s) (add_calls c line f x vs lo n (set_integer x (pos 0) s)) s (sum_calls c line f x vs lo n s)
  sums_same vs zero lo s sf fits ks kt = record {
    reading = record { lines = refl; fault = refl };
    faulted = refl;
    left = λ z. refl;
  }
  sums_same vs (suc n) lo s sf fits ks kt =
      let t : State = set_integer x (pos 0) s in
      let u : State = add_call c line f x (lo ∷ vs) t in
      let v : State = calls_f (lo ∷ vs) s in
      let others : State → State = add_calls c line f x vs (next_number lo) n in
      let k = limits_split t u (unless_faulted (add_calls c line f x vs (next_number lo) n) u) (add_longer (lo ∷ vs) t) (others_longer vs (next_number lo) n u) ks in
      let k' = limits_split s v (unless_faulted (add_calls c line f x vs (next_number lo) n) v) (call_longer (lo ∷ vs) s) (others_longer vs (next_number lo) n v) kt in
      same_runs_on others others t s u v (add_longer (lo ∷ vs) t) (call_longer (lo ∷ vs) s) (adds_longer vs (next_number lo) n u) (adds_longer vs (next_number lo) n v) (same_first (lo ∷ vs) s sf (fits (omega arith)) k.0 k'.0)
      (λ uf vf e ku kv. same_adds vs n (next_number lo) u v uf vf e ku kv) ks kt

pub sums_begin : SumsMayBeginAtZero
sums_begin c line f x g is_f number_back vs lo n s sf fits ks kt =
    let w = sums_same c line f x g is_f number_back vs n lo s sf fits ks kt in
    record { lines = w.reading.lines; fault = w.reading.fault; faulted = w.faulted; store = w.left }
