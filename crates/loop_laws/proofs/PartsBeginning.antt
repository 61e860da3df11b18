-- A loop over parts whose sum begins with 0.
use Rattle.std.specs.Prelude.{◌≡◌, ℕ, false, List, [], ◌∷◌, ◌++◌, map, length, drop, ℤ, pos, FitsSigned, Some, refl}
use Rattle.std.specs.Int.{w64, int_wrapping_add}
use Rattle.std.proofs.Common.{sym, ◌∙◌, ap, arith, subst}
use Rattle.par_tree.specs.Tree.{Name, Param, integer, lend, Func}
use Rattle.par_tree.specs.Names.{param_names}
use Rattle.par_ownership.specs.Ownership.{function_of, hands_back}
use Rattle.depth_first_run.specs.Stores.{Store, Held, with_integer, block_of, without, with_block, drop_block, hold_block}
use Rattle.depth_first_run.specs.States.{Setting, State, Item, unless_faulted}
use Rattle.depth_first_run.specs.Calls.{lent_back}
use Rattle.depth_first_run.specs.Run.{on_store, set_integer, open_call, run}
use Rattle.loop_laws.specs.Outcomes.{added, KeepsLimits}
use Rattle.loop_laws.proofs.Concluding.{same_answer}
use Rattle.loop_laws.specs.PlainLoop.{constant, MeansTheSame}
use Rattle.loop_laws.proofs.Faulting.{Tells, tells_trans, unless_faulted_tells}
use Rattle.loop_laws.proofs.Readings.{ReadTheSame, read_by_marks, Longer, longer, limits_split}
use Rattle.loop_laws.proofs.Wrapping.{nothing_added}
use Rattle.loop_laws.proofs.Arguments.{constants_have}
use Rattle.loop_laws.proofs.PlainLoops.{written_twice, read_back, after, taken_up, taken_up_items, taken_up_store}
use Rattle.loop_laws.proofs.TwoRuns.{read_at, Silent, silent_same, both_silent, SameRuns, same_runs_on}
use Rattle.loop_laws.specs.PartsLoop.{hold_again, call_on, add_call_on, behind_part, add_calls_on, sum_calls_on}
use Rattle.loop_laws.specs.PartLoopLaws.{SumsOfPartsMayBeginAtZero}
use Rattle.loop_laws.proofs.Blocks.{block_passed, block_lent, call_opens_on}
use Rattle.loop_laws.proofs.Through.{on_store_told, call_on_told, part_told}

module _ (c : Setting) (line : ℕ) (f x b : Name) (vs : List ℤ) (g : Func) (q : Param) (qs : List Param)
    (is_f : function_of c.program f ≡ Some g) (lends : g.params ≡ q ∷ qs) (number_back : hands_back g.ret ≡ false) where
  abbrev called : List ℤ → State → State
  called part s = call_on c line f x b vs part s

  abbrev added_call : List ℤ → State → State
  added_call part s = add_call_on c line f x b vs part s

  abbrev others : List (List ℤ) → List ℤ → State → State
  others parts m s = add_calls_on c line f x b vs parts m s

  abbrev behind : List (List ℤ) → List ℤ → State → State
  behind parts m s = unless_faulted (behind_part b m (add_calls_on c line f x b vs parts)) s

  -- what the caller keeps while f has the part
  abbrev kept_store : List ℤ → Store → Store
  kept_store part st = drop_block b (hold_again b part st)

  -- two calls on the same part
  record SameCall (part : List ℤ) (s t : State) : Type 0 where
    pub reading : ReadTheSame (added s (called part s)) (added t (called part t))
    pub faulted : (called part s).faulted ≡ (called part t).faulted
    pub left : (called part s).faulted ≡ false
        → (v : ℤ) × (result : List ℤ)
        × ((called part s).store ≡ with_integer x v (hold_block b result (kept_store part s.store)))
        × ((called part t).store ≡ with_integer x v (hold_block b result (kept_store part t.store)))

  abbrev numbers_of_part : List ℤ → List Held → List ℤ
  numbers_of_part part hs = block_of (with_block (without hs b) b part) b

  abbrev opened : List ℤ → List ℤ → State → State
  opened part items s =
      open_call c (run c) line (integer x) (lend b ∷ map constant vs) g (block_passed b items q.name (param_names qs) vs (hold_again b part s.store)) (on_store (hold_again b part) s)

  opened_is : (part : List ℤ) (s : State) → called part s ≡ opened part (numbers_of_part part s.store.blocks) s
  opened_is part s = call_opens_on c line (integer x) f b (map constant vs) g q qs vs (on_store (hold_again b part) s) is_f lends (constants_have (hold_again b part s.store) vs)

  came_back : (s : State) (hs : List Held) (caller : Store) → lent_back g.params (lend b ∷ map constant vs) hs caller ≡ hold_block b (block_of hs q.name) caller
  came_back s hs caller =
      ap (λ ps. lent_back ps (lend b ∷ map constant vs) hs caller) lends ∙ block_lent s.store q qs b (map constant vs) vs hs caller (constants_have s.store vs)

  same_call : (part : List ℤ) (s t : State) → s.store.blocks ≡ t.store.blocks → s.faulted ≡ false → t.faulted ≡ false
      → KeepsLimits (added s (called part s)) → KeepsLimits (added t (called part t)) → SameCall part s t
  same_call part s t same sf tf ks kt =
      let items : List ℤ = numbers_of_part part s.store.blocks in
      let p : called part s ≡ opened part items s = opened_is part s in
      let r : called part t ≡ opened part items t =
      opened_is part t ∙ ap (λ (hs : List Held). opened part (numbers_of_part part hs) t) (sym same) in
      let s' : State = on_store (hold_again b part) s in
      let t' : State = on_store (hold_again b part) t in
      let a = same_answer c line line x x (lend b ∷ map constant vs) (lend b ∷ map constant vs) g
      (block_passed b items q.name (param_names qs) vs s'.store) (block_passed b items q.name (param_names qs) vs t'.store) s' t' refl number_back sf tf
      (subst (λ (z : State). KeepsLimits (added s z)) p ks) (subst (λ (z : State). KeepsLimits (added t z)) r kt) in
      record {
        reading = read_at (added s (called part s)) (added s (opened part items s)) (added t (called part t)) (added t (opened part items t)) (ap (λ (z : State). added s z) p) (ap (λ (z : State). added t z) r)
            (read_by_marks (added s (opened part items s)) (added t (opened part items t)) a.told);
        faulted = ap (λ (z : State). z.faulted) p ∙ a.faulted ∙ sym (ap (λ (z : State). z.faulted) r);
        left = λ z.
            let l = a.left (sym (ap (λ (w : State). w.faulted) p) ∙ z) in (
              l.0,
              block_of l.1 q.name,
              ap (λ (w : State). w.store) p ∙ l.2 ∙ ap (λ (st : Store). with_integer x l.0 st) (came_back s l.1 (kept_store part s.store)),
              ap (λ (w : State). w.store) r ∙ l.3 ∙ ap (λ (st : Store). with_integer x l.0 st) (came_back t l.1 (kept_store part t.store)),
            );
      }

  -- ---- what is added to a sum

  call_items : (part : List ℤ) (s : State) → ((added_call part s).items ≡ (called part s).items) × ((added_call part s).faulted ≡ (called part s).faulted)
  unfolding taken_up
  call_items part s = taken_up_items x false s.store (called part s)

  call_added : (part : List ℤ) (s : State) → added s (added_call part s) ≡ added s (called part s)
  call_added part s = ap (λ (is : List Item). drop (length s.items) is) (call_items part s).0

  call_store : (part : List ℤ) (v : ℤ) (result : List ℤ) (s : State) → (called part s).faulted ≡ false
      → (called part s).store ≡ with_integer x v (hold_block b result (kept_store part s.store))
      → (added_call part s).store ≡ with_integer x (int_wrapping_add w64 (s.store.integers x) v) (hold_block b result (kept_store part s.store))
  unfolding taken_up after
  call_store part v result s e is = taken_up_store x false (hold_block b result (kept_store part s.store)) v (called part s) e is

  add_told : (part : List ℤ) (s : State) → Tells s (added_call part s)
  unfolding taken_up
  add_told part s = part_told c line f x b vs false part s

  others_told : (parts : List (List ℤ)) (m : List ℤ) (s : State) → Tells s (others parts m s)
  unfolding add_calls_on
  others_told [] m s = on_store_told (hold_again b m) s
  others_told (part ∷ parts) m s =
      let u : State = added_call part s in
      tells_trans s u (behind parts m u) (add_told part s)
      (unless_faulted_tells (behind_part b m (add_calls_on c line f x b vs parts)) u (others_told parts (m ++ block_of u.store.blocks b) u))

  behind_told : (parts : List (List ℤ)) (m : List ℤ) (u : State) → Tells u (behind parts m u)
  behind_told parts m u =
      unless_faulted_tells (behind_part b m (add_calls_on c line f x b vs parts)) u (others_told parts (m ++ block_of u.store.blocks b) u)

  -- a way that goes on with the other parts
  goes_on : (parts : List (List ℤ)) (m : List ℤ) (s t u v : State) → Longer s u → Longer t v → SameRuns s u t v
      → ((n : List ℤ) → u.faulted ≡ false → v.faulted ≡ false → u.store ≡ v.store → KeepsLimits (added u (others parts n u)) → KeepsLimits (added v (others parts n v))
      → SameRuns u (others parts n u) v (others parts n v))
      → KeepsLimits (added s (behind parts m u)) → KeepsLimits (added t (behind parts m v)) → SameRuns s (behind parts m u) t (behind parts m v)
  goes_on parts m s t u v su tv w rest ks kt =
      let n : List ℤ = m ++ block_of u.store.blocks b in
      let n' : List ℤ = m ++ block_of v.store.blocks b in
      let more : State → State = behind_part b m (add_calls_on c line f x b vs parts) in
      same_runs_on more more s t u v su tv (longer u (others parts n u) (others_told parts n u)) (longer v (others parts n' v) (others_told parts n' v)) w
      (λ uf vf same ku kv.
      let e : n' ≡ n = ap (λ (st : Store). m ++ block_of st.blocks b) (sym same) in
      subst (λ (l : List ℤ). SameRuns u (others parts n u) v (others parts l v)) (sym e)
      (rest n uf vf same ku (subst (λ (l : List ℤ). KeepsLimits (added v (others parts l v))) e kv)))
      ks kt

  -- two calls whose answers are added
  same_add : (part : List ℤ) (s t : State) → s.faulted ≡ false → t.faulted ≡ false → s.store ≡ t.store
      → KeepsLimits (added s (added_call part s)) → KeepsLimits (added t (added_call part t)) → SameRuns s (added_call part s) t (added_call part t)
  same_add part s t sf tf same ks kt =
      let w = same_call part s t (ap (λ (st : Store). st.blocks) same) sf tf
      (subst (λ (is : List Item). KeepsLimits is) (call_added part s) ks) (subst (λ (is : List Item). KeepsLimits is) (call_added part t) kt) in
      record {
        reading = read_at (added s (added_call part s)) (added s (called part s)) (added t (added_call part t)) (added t (called part t)) (call_added part s) (call_added part t) w.reading;
        faulted = (call_items part s).1 ∙ w.faulted ∙ sym (call_items part t).1;
        left = λ z.
            let e : (called part s).faulted ≡ false = sym (call_items part s).1 ∙ z in
            let l = w.left e in
            call_store part l.0 l.1 s e l.2
            ∙ ap (λ (st : Store). with_integer x (int_wrapping_add w64 (st.integers x) l.0) (hold_block b l.1 (kept_store part st))) same
            ∙ sym (call_store part l.0 l.1 t (sym w.faulted ∙ e) l.3);
      }

  same_adds : (parts : List (List ℤ)) (m : List ℤ) (s t : State) → s.faulted ≡ false → t.faulted ≡ false → s.store ≡ t.store
      → KeepsLimits (added s (others parts m s)) → KeepsLimits (added t (others parts m t)) → SameRuns s (others parts m s) t (others parts m t)
  unfolding add_calls_on
  same_adds [] m s t sf tf same ks kt =
      let ls : Silent s (others [] m s) = silent_same s (others [] m s) refl in
      let lt : Silent t (others [] m t) = silent_same t (others [] m t) refl in
      record {
        reading = both_silent s t (others [] m s) (others [] m t) ls lt;
        faulted = sf ∙ sym tf;
        left = λ z. ap (λ (st : Store). hold_again b m st) same;
      }
  same_adds (part ∷ parts) m s t sf tf same ks kt =
      let u : State = added_call part s in
      let v : State = added_call part t in
      let su : Longer s u = longer s u (add_told part s) in
      let tv : Longer t v = longer t v (add_told part t) in
      let k = limits_split s u (behind parts m u) su (longer u (behind parts m u) (behind_told parts m u)) ks in
      let k' = limits_split t v (behind parts m v) tv (longer v (behind parts m v) (behind_told parts m v)) kt in
      goes_on parts m s t u v su tv (same_add part s t sf tf same k.0 k'.0) (λ n uf vf e ku kv. same_adds parts n u v uf vf e ku kv) ks kt

  -- the first answer, added to 0
  same_first : (part : List ℤ) (s : State) → s.faulted ≡ false → FitsSigned w64 ((called part s).store.integers x)
      → KeepsLimits (added s (added_call part (set_integer x (pos 0) s))) → KeepsLimits (added s (called part s))
      → SameRuns (set_integer x (pos 0) s) (added_call part (set_integer x (pos 0) s)) s (called part s)
  same_first part s sf fits ks kt =
      let t : State = set_integer x (pos 0) s in
      let w = same_call part t s refl sf sf (subst (λ (is : List Item). KeepsLimits is) (call_added part t) ks) kt in
      record {
        reading = read_at (added t (added_call part t)) (added t (called part t)) (added s (called part s)) (added s (called part s)) (call_added part t) refl w.reading;
        faulted = (call_items part t).1 ∙ w.faulted;
        left = λ z.
            let e : (called part t).faulted ≡ false = sym (call_items part t).1 ∙ z in
            let l = w.left e in
            let own : Store = hold_block b l.1 (kept_store part s.store) in
            let small : FitsSigned w64 l.0 = subst (λ v. FitsSigned w64 v) (ap (λ (st : Store). st.integers x) l.3 ∙ read_back x l.0 own) fits in
            call_store part l.0 l.1 t e l.2
            ∙ ap (λ v. with_integer x v (with_integer x (pos 0) own)) (ap (λ v. int_wrapping_add w64 v l.0) (read_back x (pos 0) s.store) ∙ nothing_added l.0 small)
            ∙ written_twice x (pos 0) l.0 own ∙ sym l.3;
      }

  sums_same : (part : List ℤ) (parts : List (List ℤ)) (s : State) → s.faulted ≡ false → FitsSigned w64 ((called part s).store.integers x)
      → KeepsLimits (added s (others (part ∷ parts) [] (set_integer x (pos 0) s))) → KeepsLimits (added s (sum_calls_on c line f x b vs (part ∷ parts) s))
      → SameRuns (set_integer x (pos 0) s) (others (part ∷ parts) [] (set_integer x (pos 0) s)) s (sum_calls_on c line f x b vs (part ∷ parts) s)
  unfolding add_calls_on
  sums_same part parts s sf fits ks kt =
      let t : State = set_integer x (pos 0) s in
      let u : State = added_call part t in
      let v : State = called part s in
      let tu : Longer t u = longer t u (add_told part t) in
      let sv : Longer s v = longer s v (call_on_told c line f x b vs part s) in
      let k = limits_split t u (behind parts [] u) tu (longer u (behind parts [] u) (behind_told parts [] u)) ks in
      let k' = limits_split s v (behind parts [] v) sv (longer v (behind parts [] v) (behind_told parts [] v)) kt in
      goes_on parts [] t s u v tu sv (same_first part s sf fits k.0 k'.0) (λ n uf vf e ku kv. same_adds parts n u v uf vf e ku kv) ks kt

pub sums_begin : SumsOfPartsMayBeginAtZero
sums_begin c line f x b g is_f some number_back vs part parts s sf fits ks kt = by g.params refl
  where
    by : (ps : List Param) → g.params ≡ ps
        → MeansTheSame s (add_calls_on c line f x b vs (part ∷ parts) [] (set_integer x (pos 0) s)) (sum_calls_on c line f x b vs (part ∷ parts) s)
    by [] e = absurd (let none : length g.params ≡ 0 = ap (λ (ps : List Param). length ps) e in omega (arith, some, none))
    by (q ∷ qs) e =
        let w = sums_same c line f x b vs g q qs is_f e number_back part parts s sf fits ks kt in
        record { lines = w.reading.lines; fault = w.reading.fault; faulted = w.faulted; store = w.left }
