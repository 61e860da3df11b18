-- What stands in the rows of a thread where a call ends, and where `main` ends.
use Rattle.std.proofs.Common.{◌≡◌, ℕ, ◌+◌, ◌≤◌, Bool, true, false, List, [], ◌∷◌, length, Option, Some, None, refl, sym, ap, ◌∙◌, subst, arith}
use Rattle.std.specs.Prelude.{slice_get, map}
use Rattle.std.proofs.Math.Logic.{∥∥₁_elim}
use Rattle.std.proofs.lemmas.List.{nil_from_length}
use Rattle.par_tree.specs.Tree.{Name, Func, Target, Arg, Param, Ret}
use Rattle.par_tree.specs.Names.{param_names}
use Rattle.par_ownership.specs.Ownership.{takes_answer, hands_back, Ownership}
use Rattle.thread_state.specs.Passed.Stores.{Store}
use Rattle.thread_state.specs.Passed.States.{Setting, State}
use Rattle.thread_state.specs.Passed.Middle as middles
use Rattle.thread_state.specs.Passed.Middle.{answers, answers_main}
use Rattle.node_table.specs.Names.{slot_names, name_at}
use Rattle.node_table.specs.Reading.{FitsArgs, FitsSlots, FitsTarget, FitsRet, slots_read, args_read, target_read, ret_read, IsReturn, FitsRetValue, ret_value_read}
use Rattle.node_table.specs.Table as tables
use Rattle.node_table.specs.Table.{Table, Kind, Function, let_node, assign_node, put_node, alloc_node, free_node, if_node, while_node, call_node, print_node, both_node, split_node}
use Rattle.thread_points.specs.Points.{IsAt}
use Rattle.ownership_laws.specs.Counts.{hit, count}
use Rattle.ownership_laws.proofs.Counting.{hit_same, none_counted}
use Rattle.ownership_laws.specs.Holdings.{lent_under, given_back_under, answered_under, handed_out, EndsCall}
use Rattle.ownership_laws.proofs.Reading.{one_each, call_ends, main_end}
use Rattle.ownership_laws.proofs.Taking.{calls_take}
use Rattle.thread_stack.specs.declared.frame.Frame.TheVariants.{Answers, AnswersMain}
use Rattle.thread_stack.specs.Frames.{IsFunctionOf, IsAnswerOf}
use Rattle.thread_stack.specs.Lists.{kind_at}
use Rattle.thread_state.specs.Passed.Rows.{Entry, blocks_at}
use Rattle.thread_state.specs.Passed.Agreement.{ShowsStore}
use Rattle.thread_state.specs.Passed.SlotStoreCalls.{lent_params, lent_slots}
use Rattle.thread_state.proofs.Passed.Agreement.{row_length}
use Rattle.thread_state.specs.Rows.{ShowStores, Holds}
use Rattle.thread_state.specs.States.{own_row, rows_of}
use Rattle.thread_state.specs.Calls.{CanGoBack, CanEnd, CanEndMain, HandsItsOwn, HandsNoBlock, TakesNumber, TakesBlock, TakesAnswer, TakesValue}
use Rattle.thread_state.specs.declared.state.ThreadState.{ThreadState}
use Rattle.thread_run.specs.Stands.{InState}
use Rattle.thread_run.specs.declared.run.ThreadRun.{ThreadRun}
use Rattle.thread_run.specs.Calling.{IsThere, CanEndFunction, CanEndAt, CanEndMainBy}
use Rattle.thread_run.specs.Stepping.{KnowingAt, IsKnownAt}
use Rattle.thread_run.proofs.Knowing.{At, at_frame, slot_count, shown, goes_on}
use Rattle.thread_run.proofs.OneProof.{can_end_one, can_end_main_one}
use Rattle.thread_run.proofs.Returning.{Ended, ended}
use Rattle.thread_run.proofs.SlotLists.{hits, once_hits, apart_hits, each_has, each_none}

some_same : {A : Type 0} (x y : A) → Some x ≡ Some y → x ≡ y
some_same x y e = cc

same_head : (x y : Name) (xs ys : List Name) → x ∷ xs ≡ y ∷ ys → x ≡ y
same_head x y xs ys e = cc

same_tail : (x y : Name) (xs ys : List Name) → x ∷ xs ≡ y ∷ ys → xs ≡ ys
same_tail x y xs ys e = cc

-- ---- what was lent

lent_hits : (gn hn : List Name) (qs : List ℕ) (ps : List Param) (xs : List tables.Arg) (y : Name) → slots_read gn qs ≡ param_names ps → hits (slots_read gn (lent_params qs xs)) y ≡ lent_under ps (args_read hn xs) y
lent_hits gn hn [] [] xs y e = refl
lent_hits gn hn [] (p ∷ ps) xs y e = let never : ⊥ = cc in absurd never
lent_hits gn hn (q ∷ qs) [] xs y e = let never : ⊥ = cc in absurd never
lent_hits gn hn (q ∷ qs) (p ∷ ps) [] y e = refl
lent_hits gn hn (q ∷ qs) (p ∷ ps) (tables.value x ∷ xs) y e = lent_hits gn hn qs ps xs y (same_tail (name_at gn q) p.name (slots_read gn qs) (param_names ps) e)
lent_hits gn hn (q ∷ qs) (p ∷ ps) (tables.lend s ∷ xs) y e =
    let rest = lent_hits gn hn qs ps xs y (same_tail (name_at gn q) p.name (slots_read gn qs) (param_names ps) e) in
    let first : hit (name_at gn q) y ≡ hit p.name y = ap (λ (x : Name). hit x y) (same_head (name_at gn q) p.name (slots_read gn qs) (param_names ps) e) in omega (arith, rest, first)
lent_hits gn hn (q ∷ qs) (p ∷ ps) (tables.give s ∷ xs) y e = lent_hits gn hn qs ps xs y (same_tail (name_at gn q) p.name (slots_read gn qs) (param_names ps) e)

back_hits : (hn : List Name) (qs : List ℕ) (xs : List tables.Arg) (y : Name) → hits (slots_read hn (lent_slots qs xs)) y ≤ given_back_under (args_read hn xs) y
back_hits hn [] xs y = omega arith
back_hits hn (q ∷ qs) [] y = omega arith
back_hits hn (q ∷ qs) (tables.value x ∷ xs) y = back_hits hn qs xs y
back_hits hn (q ∷ qs) (tables.lend s ∷ xs) y = let rest = back_hits hn qs xs y in omega (arith, rest)
back_hits hn (q ∷ qs) (tables.give s ∷ xs) y = back_hits hn qs xs y

params_fit : (n : ℕ) (qs : List ℕ) (xs : List tables.Arg) → FitsSlots n qs → FitsSlots n (lent_params qs xs)
params_fit n [] xs h = tt
params_fit n (q ∷ qs) [] h = tt
params_fit n (q ∷ qs) (tables.value x ∷ xs) h = params_fit n qs xs h.1
params_fit n (q ∷ qs) (tables.lend s ∷ xs) h = (h.0, params_fit n qs xs h.1)
params_fit n (q ∷ qs) (tables.give s ∷ xs) h = params_fit n qs xs h.1

slots_fit : (n : ℕ) (qs : List ℕ) (xs : List tables.Arg) → FitsArgs n xs → FitsSlots n (lent_slots qs xs)
slots_fit n [] xs h = tt
slots_fit n (q ∷ qs) [] h = tt
slots_fit n (q ∷ qs) (tables.value x ∷ xs) h = slots_fit n qs xs h.1
slots_fit n (q ∷ qs) (tables.lend s ∷ xs) h = (h.0, slots_fit n qs xs h.1)
slots_fit n (q ∷ qs) (tables.give s ∷ xs) h = slots_fit n qs xs h.1

-- ---- the rows

module _ (gn hn : List Name) (own row : List Entry) (store caller : Store) (params : List ℕ) (ps : List Param) (from : List tables.Arg) (to : tables.Target) (ret : Option tables.Ret)
    (mine : ShowsStore gn own store) (theirs : ShowsStore hn row caller) (named : slots_read gn params ≡ param_names ps) (p_fit : FitsSlots (length gn) params) (a_fit : FitsArgs (length hn) from)
    (t_fit : FitsTarget (length hn) to) (r_fit : FitsRet (length gn) ret) (takes : takes_answer (target_read hn to) (hands_back (ret_read gn ret)) ≡ true)
    (holds : (x : Name) → count store.blocks x ≡ lent_under ps (args_read hn from) x + handed_out (ret_read gn ret) x) (one : (x : Name) → count store.blocks x ≤ 1)
    (meets : (x : Name) → count caller.blocks x + (given_back_under (args_read hn from) x + answered_under (target_read hn to) x) ≤ 1) where
  long_own : length own ≡ length gn
  long_own = row_length gn own store mine

  long_row : length row ≡ length hn
  long_row = row_length hn row caller theirs

  goes_back : CanGoBack own row params from
  goes_back = record {
    params_fit = subst (λ (i : ℕ). FitsSlots i params) (sym long_own) p_fit;
    args_fit = subst (λ (i : ℕ). FitsArgs i from) (sym long_row) a_fit;
    params_once = once_hits gn (lent_params params from) (λ y. let e = lent_hits gn hn params ps from y named in let h = holds y in let o = one y in omega (arith, e, h, o));
    slots_once = once_hits hn (lent_slots params from) (λ y. let b = back_hits hn params from y in let m = meets y in omega (arith, b, m));
    there = each_has gn own store mine (lent_params params from) (params_fit (length gn) params from p_fit)
        (λ y le. let e = lent_hits gn hn params ps from y named in let h = holds y in let o = one y in omega (arith, e, h, o, le));
    none = each_none hn row caller theirs (lent_slots params from) (slots_fit (length hn) params from a_fit) (λ y le. let b = back_hits hn params from y in let m = meets y in omega (arith, b, m, le));
  }

  number_goes : (x : tables.Target) → FitsTarget (length hn) x → TakesNumber row x
  number_goes tables.unused h = tt
  number_goes (tables.integer s) h = omega (arith, h, long_row)
  number_goes (tables.block s) h = tt

  block_goes : (x : tables.Target) → FitsTarget (length hn) x → takes_answer (target_read hn x) true ≡ true
      → ((y : Name) → count caller.blocks y + (given_back_under (args_read hn from) y + answered_under (target_read hn x) y) ≤ 1) → TakesBlock row (lent_slots params from) x
  block_goes tables.unused h t m = let never : ⊥ = cc in absurd never
  block_goes (tables.integer s) h t m = let never : ⊥ = cc in absurd never
  block_goes (tables.block s) h t m =
      let x : Name = name_at hn s in
      let k = m x in let s1 = hit_same x in let b = back_hits hn params from x in
      let none : count caller.blocks x ≡ 0 = omega (arith, k, s1) in
      let apart : hits (slots_read hn (lent_slots params from)) x ≡ 0 = omega (arith, k, s1, b) in (
        omega (arith, h, long_row),
        nil_from_length (blocks_at row s) (slot_count hn row caller s x theirs (record { reads = refl; below = h }) ∙ none),
        apart_hits hn s (lent_slots params from) apart,
      )

  answer_goes : (r : Option tables.Ret) → FitsRet (length gn) r → takes_answer (target_read hn to) (hands_back (ret_read gn r)) ≡ true
      → ((x : Name) → count store.blocks x ≡ lent_under ps (args_read hn from) x + handed_out (ret_read gn r) x) → TakesAnswer own row (lent_params params from) (lent_slots params from) to r
  answer_goes None fit t h = number_goes to t_fit
  answer_goes (Some r) fit t h = by r.value fit t h
    where
      by : (v : tables.RetValue) → FitsRetValue (length gn) v → takes_answer (target_read hn to) (hands_back (Some (record { line = r.line; value = ret_value_read gn v }))) ≡ true
          → ((x : Name) → count store.blocks x ≡ lent_under ps (args_read hn from) x + handed_out (Some (record { line = r.line; value = ret_value_read gn v })) x)
          → HandsItsOwn own (lent_params params from) v × TakesValue row (lent_slots params from) to v
      by (tables.gives e) fit t h = (tt, number_goes to t_fit)
      by (tables.hands s) fit t h =
          let x : Name = name_at gn s in
          let k = h x in let s1 = hit_same x in let o = one x in let e = lent_hits gn hn params ps from x named in
          let has : count store.blocks x ≡ 1 = omega (arith, k, s1, o) in
          let apart : hits (slots_read gn (lent_params params from)) x ≡ 0 = omega (arith, k, s1, o, e) in (
            (
              omega (arith, fit, long_own),
              slot_count gn own store s x mine (record { reads = refl; below = fit }) ∙ has,
              apart_hits gn s (lent_params params from) apart,
            ),
            block_goes to t_fit t meets,
          )

  pub ends_here : (rows : List (List Entry)) → CanEnd (own ∷ row ∷ rows) params from to ret
  ends_here rows = (goes_back, answer_goes ret r_fit takes holds)

-- ---- a call

going_holds : (b : Bool) (contexts : List (List Name)) (rows : List (List Entry)) (store : Store) (callers : List Store) → b ≡ false → Holds b contexts rows store callers → ShowStores contexts rows (store ∷ callers)
going_holds true contexts rows store callers e h = let never : ⊥ = cc in absurd never
going_holds false contexts rows store callers e h = h

module _ (t : Table) (n : ℕ) (caller : Option ℕ) (u : ThreadState) (to : tables.Target) (func : ℕ) (from : List tables.Arg) (code : Function) (there : kind_at t n ≡ Some (call_node to func from)) (function : slice_get t.funcs func ≡ Some code)
    (going : u.faulted ≡ false) where
  can_end : (c : Setting) → Ownership c.program → (g h : Func) (gs : List Func) (f : middles.Frame) (own : List middles.Frame) (s : State) → IsAt c (f ∷ own) s → InState (g ∷ h ∷ gs) u s → IsAnswerOf c.program t (g ∷ h ∷ gs) n caller f
      → CanEnd (rows_of u) code.params from to code.ret
  can_end c owned g h gs f own s point state frame =
      let e = ended c.program t g h gs n caller func to from code f frame there function in
      let at : IsAt c (answers g.ret g.params e.args e.target ∷ own) s = subst (λ (x : middles.Frame). IsAt c (x ∷ own) s) e.is point in
      let on : s.faulted ≡ false = sym state.faulted ∙ going in
      let ends : EndsCall g.ret g.params e.args e.target s = call_ends c owned g.ret g.params e.args e.target own s at on in
      let takes = calls_take c owned g.ret g.params e.args e.target own s at in
      let one = (one_each c owned (answers g.ret g.params e.args e.target ∷ own) s at).0 in
      let gn = slot_names g in
      let hn = slot_names h in
      let holds : (x : Name) → count s.store.blocks x ≡ lent_under g.params (args_read hn from) x + handed_out (ret_read gn code.ret) x =
      λ x. ends.holds x ∙ ap (λ (as_ : List Arg). lent_under g.params as_ x + handed_out g.ret x) (sym e.passed.0) ∙ ap (λ (r : Option Ret). lent_under g.params (args_read hn from) x + handed_out r x) (sym e.ret.0) in
      let meets : (x : Name) → count ends.caller.blocks x + (given_back_under (args_read hn from) x + answered_under (target_read hn to) x) ≤ 1 =
      λ x. subst (λ (as_ : List Arg). count ends.caller.blocks x + (given_back_under as_ x + answered_under (target_read hn to) x) ≤ 1) (sym e.passed.0)
      (subst (λ (y : Target). count ends.caller.blocks x + (given_back_under e.args x + answered_under y x) ≤ 1) (sym e.to_target.0) (ends.meets_none x)) in
      let taken : takes_answer (target_read hn to) (hands_back (ret_read gn code.ret)) ≡ true =
      ap (λ (y : Target). takes_answer y (hands_back (ret_read gn code.ret))) e.to_target.0 ∙ ap (λ (r : Option Ret). takes_answer e.target (hands_back r)) e.ret.0 ∙ takes in
      by (rows_of u) (s.callers) (going_holds u.faulted (gn ∷ hn ∷ map slot_names gs) (rows_of u) s.store s.callers going state.holds) ends.waits e holds meets taken one
    where
      by : (rows : List (List Entry)) (callers : List Store) → ShowStores (slot_names g ∷ slot_names h ∷ map slot_names gs) rows (s.store ∷ callers) → {st : Store} {older : List Store} → callers ≡ st ∷ older
          → (e : Ended c.program t g h gs n caller func to from code f)
          → ((x : Name) → count s.store.blocks x ≡ lent_under g.params (args_read (slot_names h) from) x + handed_out (ret_read (slot_names g) code.ret) x)
          → ((x : Name) → count st.blocks x + (given_back_under (args_read (slot_names h) from) x + answered_under (target_read (slot_names h) to) x) ≤ 1)
          → takes_answer (target_read (slot_names h) to) (hands_back (ret_read (slot_names g) code.ret)) ≡ true → ((x : Name) → count s.store.blocks x ≤ 1) → CanEnd rows code.params from to code.ret
      by [] callers k w e holds meets taken one = absurd k
      by (own_ ∷ []) [] k w e holds meets taken one = absurd k.1
      by (own_ ∷ []) (y ∷ ys) k w e holds meets taken one = absurd k.1
      by (own_ ∷ row ∷ rows) [] k w e holds meets taken one = absurd k.1
      by (own_ ∷ row ∷ rows) (y ∷ ys) k w e holds meets taken one =
          let same = first_same y _ ys _ w in
          ends_here (slot_names g) (slot_names h) own_ row s.store _ code.params g.params from to code.ret k.0 (subst (λ (z : Store). ShowsStore (slot_names h) row z) same k.1.0) e.params.0 e.params.1 e.passed.1 e.to_target.1 e.ret.1
          taken holds one meets rows
        where
          first_same : (y z : Store) (ys zs : List Store) → y ∷ ys ≡ z ∷ zs → y ≡ z
          first_same y z ys zs e = cc

abbrev func_in : Option Kind → ℕ
func_in (Some (call_node to func from)) = func
func_in other = 0

func_same : (x y : Kind) → Some x ≡ Some y → func_in (Some x) ≡ func_in (Some y)
func_same x y e = ap func_in e

-- a thread in which a call ends has a caller
open_call : (t : Table) (k : ℕ) (run : ThreadRun) (n : ℕ) (caller : Option ℕ) (m : KnowingAt t k run (Answers n caller)) (P : Type 0)
    → ((g h : Func) (gs : List Func) (f : middles.Frame) (own : List middles.Frame) → IsAt m.setting (f ∷ own) m.at → InState (g ∷ h ∷ gs) run.state m.at → IsAnswerOf m.setting.program t (g ∷ h ∷ gs) n caller f → P) → P
open_call t k run n caller m P next = go (at_frame t k run (Answers n caller) m)
  where
    by : (g : Func) (gs : List Func) (f : middles.Frame) (own : List middles.Frame) → IsAt m.setting (f ∷ own) m.at → InState (g ∷ gs) run.state m.at → IsAnswerOf m.setting.program t (g ∷ gs) n caller f → P
    by g [] f own point state frame = absurd frame
    by g (h ∷ gs) f own point state frame = next g h gs f own point state frame

    go : At t k run (Answers n caller) m → P
    go a = by a.runs a.waiting a.next a.own a.point a.state a.frame

pub can_end_at : (t : Table) (k : ℕ) (run : ThreadRun) (n : ℕ) (caller : Option ℕ) → IsKnownAt t k run (Answers n caller) → run.state.faulted ≡ false → CanEndAt t (rows_of run.state) (kind_at t n)
can_end_at t k run n caller known going = by (kind_at t n) refl
  where
    no_call : (o : Option Kind) → kind_at t n ≡ o → ((to : tables.Target) (func : ℕ) (from : List tables.Arg) → o ≡ Some (call_node to func from) → ⊥) → ⊥
    no_call o e none = ∥∥₁_elim known (λ x y. absurd x) (λ m. open_call t k run n caller m ⊥ (λ g h gs f own point state frame. none frame.3.to frame.3.func frame.3.from (sym e ∙ frame.3.there)))

    functions : (to : tables.Target) (func : ℕ) (from : List tables.Arg) → kind_at t n ≡ Some (call_node to func from) → (o : Option Function) → slice_get t.funcs func ≡ o → CanEndFunction (rows_of run.state) to from o
    functions to func from e None f =
        ∥∥₁_elim known (λ x y. absurd x) (λ m. open_call t k run n caller m ⊥ (λ g h gs x own point state frame.
        (let same : func ≡ frame.3.func = func_same (call_node to func from) (call_node frame.3.to frame.3.func frame.3.from) (sym e ∙ frame.3.there) in
        let there = frame.3.function.there in
        let some : None ≡ Some frame.3.function.code = sym f ∙ ap (λ (i : ℕ). slice_get t.funcs i) same ∙ there in
        let never : ⊥ = cc in never)))
    functions to func from e (Some code) f =
        ∥∥₁_elim known (can_end_one (rows_of run.state) code.params from to code.ret) (λ m. open_call t k run n caller m (CanEnd (rows_of run.state) code.params from to code.ret) (λ g h gs x own point state frame.
        can_end t n caller run.state to func from code e f going m.setting m.of_table.owned g h gs x own m.at point state frame))

    by : (o : Option Kind) → kind_at t n ≡ o → CanEndAt t (rows_of run.state) o
    by None e = no_call None e (λ to func from s. (let never : ⊥ = cc in never))
    by (Some (let_node s x)) e = no_call (Some (let_node s x)) e (λ to func from s. (let never : ⊥ = cc in never))
    by (Some (assign_node s x)) e = no_call (Some (assign_node s x)) e (λ to func from s. (let never : ⊥ = cc in never))
    by (Some (put_node s x y)) e = no_call (Some (put_node s x y)) e (λ to func from s. (let never : ⊥ = cc in never))
    by (Some (alloc_node s x)) e = no_call (Some (alloc_node s x)) e (λ to func from s. (let never : ⊥ = cc in never))
    by (Some (free_node s)) e = no_call (Some (free_node s)) e (λ to func from s. (let never : ⊥ = cc in never))
    by (Some (if_node x a b)) e = no_call (Some (if_node x a b)) e (λ to func from s. (let never : ⊥ = cc in never))
    by (Some (while_node x a)) e = no_call (Some (while_node x a)) e (λ to func from s. (let never : ⊥ = cc in never))
    by (Some (call_node to func from)) e = functions to func from e (slice_get t.funcs func) refl
    by (Some (print_node x)) e = no_call (Some (print_node x)) e (λ to func from s. (let never : ⊥ = cc in never))
    by (Some (both_node a b blocks assigned)) e = no_call (Some (both_node a b blocks assigned)) e (λ to func from s. (let never : ⊥ = cc in never))
    by (Some (split_node s x l r body)) e = no_call (Some (split_node s x l r body)) e (λ to func from s. (let never : ⊥ = cc in never))

-- ---- `main`

module _ (t : Table) (k : ℕ) (run : ThreadRun) where
  main_of : (m : KnowingAt t k run AnswersMain) → IsFunctionOf m.setting.program t t.main (at_frame t k run AnswersMain m).runs
  main_of m = (at_frame t k run AnswersMain m).frame.1

  pub main_there : IsKnownAt t k run AnswersMain → IsThere (slice_get t.funcs t.main)
  main_there known = by (slice_get t.funcs t.main) refl
    where
      by : (o : Option Function) → slice_get t.funcs t.main ≡ o → IsThere o
      by None e = ∥∥₁_elim known (λ x y. absurd x) (λ m. (let there = (main_of m).there in let never : ⊥ = cc in never))
      by (Some f) e = tt

  ends_main : (code : Function) → slice_get t.funcs t.main ≡ Some code → run.state.faulted ≡ false → (m : KnowingAt t k run AnswersMain) → CanEndMain (own_row run.state) code.ret
  ends_main code function going m =
      let a = at_frame t k run AnswersMain m in
      let f = main_of m in
      let same : f.code ≡ code = some_same f.code code (sym f.there ∙ function) in
      let read : IsReturn (slot_names a.runs) code.ret a.runs.ret = subst (λ (x : Function). IsReturn (slot_names a.runs) x.ret a.runs.ret) same f.is.ret in
      let point : IsAt m.setting (answers_main a.runs.ret ∷ a.own) m.at = subst (λ (x : middles.Frame). IsAt m.setting (x ∷ a.own) m.at) a.frame.0 a.point in
      let none = main_end m.setting m.of_table.owned a.runs.ret a.own m.at point (goes_on t k run AnswersMain m a going) in
      by (slot_names a.runs) (own_row run.state) m.at.store (shown t k run AnswersMain m a going) none code.ret read.1
    where
      value : (names : List Name) (row : List Entry) (store : Store) → ShowsStore names row store → store.blocks ≡ [] → (v : tables.RetValue) → FitsRetValue (length names) v → HandsNoBlock row v
      value names row store shows none (tables.gives e) fit = tt
      value names row store shows none (tables.hands s) fit =
          let long = row_length names row store shows in (
            omega (arith, fit, long),
            nil_from_length (blocks_at row s) (slot_count names row store s (name_at names s) shows (record { reads = refl; below = fit }) ∙ ap (λ hs. count hs (name_at names s)) none ∙ none_counted (name_at names s)),
          )

      by : (names : List Name) (row : List Entry) (store : Store) → ShowsStore names row store → store.blocks ≡ [] → (r : Option tables.Ret) → FitsRet (length names) r → CanEndMain row r
      by names row store shows none None fit = tt
      by names row store shows none (Some r) fit = value names row store shows none r.value fit

  pub main_can_end : IsKnownAt t k run AnswersMain → run.state.faulted ≡ false → CanEndMainBy (own_row run.state) (slice_get t.funcs t.main)
  main_can_end known going = by (slice_get t.funcs t.main) refl
    where
      by : (o : Option Function) → slice_get t.funcs t.main ≡ o → CanEndMainBy (own_row run.state) o
      by None e = ∥∥₁_elim known (λ x y. absurd x) (λ m. (let there = (main_of m).there in let never : ⊥ = cc in never))
      by (Some code) e = ∥∥₁_elim known (can_end_main_one (own_row run.state) code.ret) (λ m. ends_main code e going m)
