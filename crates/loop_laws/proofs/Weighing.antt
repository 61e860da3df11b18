-- What an accepted program takes and gives back: the words that a run holds more are those by which its actions live.
use Rattle.std.specs.Prelude.{◌≡◌, ℕ, zero, suc, ◌+◌, nat_lt, Bool, true, false, List, [], ◌∷◌, ◌++◌, ℤ, pos, ◌+ℤ◌, Ok, Err, Option, Some, None, refl}
use Rattle.std.specs.List.{list_all}
use Rattle.std.proofs.Common.{sym, ◌∙◌, ap, arith, subst, append-nil}
use Rattle.std.proofs.lemmas.Int.{ints}
use Rattle.dag_order.specs.declared.fault.FaultKind.{FaultKind}
use Rattle.depth_first_list.specs.Actions.{live_words}
use Rattle.par_tree.specs.Tree.{Name, Arg, value, Target, integer, Param, ParamKind, num, Body, Func, Ret, RetValue, gives, hands}
use Rattle.par_ownership.specs.Environment.{Environment, is_released}
use Rattle.par_ownership.specs.Ownership.{Ownership, OwnsAll, OwnsReturn, OwnsFunction, Passes, PassesOne, function_of, hands_back}
use Rattle.depth_first_run.specs.Stores.{Store, held_words, stored_words}
use Rattle.depth_first_run.specs.Values.{Outcome}
use Rattle.depth_first_run.specs.Values as values
use Rattle.depth_first_run.specs.States.{Setting, State, with_fault, unless_faulted, with_number, with_turns, with_turn, under_limit, with_depth, holdings}
use Rattle.depth_first_run.specs.Calls.{Passing, entered, Answer, number, returned, with_answer, with_return, as_number}
use Rattle.depth_first_run.specs.Run.{run_callee, open_call, run, actions_of}
use Rattle.depth_first_run.proofs.Keeping.{Keeps, with_depth_keeps, with_turn_keeps, keeps_trans, keeps_more, fewer, unless_faulted_keeps, answering_keeps, returned_keeps}
use Rattle.ownership_laws.specs.Laws.{HoldsFor}
use Rattle.ownership_laws.specs.Counts.{count, held_in, lent_in, held_entry, lent_entry_of}
use Rattle.ownership_laws.proofs.Counting.{none_held, none_counted, empty_found}
use Rattle.ownership_laws.proofs.Environments.{released_held, lent_back_in}
use Rattle.ownership_laws.proofs.Tame.{follows_all}
use Rattle.ownership_laws.proofs.Moves.{Way, stopped, went, Ran, live, live_more, unless_running, unless_stopped}
use Rattle.ownership_laws.proofs.Passing.{params_held, function_owned, taken_as, lent_as}
use Rattle.ownership_laws.proofs.Statements.{Agrees}
use Rattle.ownership_laws.proofs.Owned.{ran_run}
use Rattle.loop_laws.specs.Outcomes.{added, TakesIntegers}
use Rattle.loop_laws.proofs.Lists.{added_all}
use Rattle.loop_laws.proofs.Runs.{runs_grow}
use Rattle.loop_laws.proofs.Answering.{called, returned_is}

-- the actions of a state rise by those that are added
risen : (s t : State) → Keeps s t → live t.items ≡ live s.items +ℤ live (added s t)
risen s t k = ap live (added_all s t k) ∙ live_more s.items (added s t)

pub changed_by_weights : (c : Setting) → Ownership c.program → (b : Body) (env after : Environment) (s : State) → OwnsAll c.program b env after
    → s.faulted ≡ false → HoldsFor b env s → pos (holdings (run c b s)) ≡ pos (holdings s) +ℤ live_words (actions_of (added s (run c b s)))
unfolding Agrees
changed_by_weights c o b env after s owns running holds =
    let t : State = run c b s in
    let r : Ran env after s t = ran_run c o.functions b env after s owns running holds in
    plain (holdings t) (holdings s) (live s.items) (live t.items) (live (added s t)) r.exact.same (risen s t (runs_grow c b s))
  where
    plain : (n m : ℕ) (x y z : ℤ) → (pos n +ℤ x) ≡ (pos m +ℤ y) → y ≡ x +ℤ z → pos n ≡ pos m +ℤ z
    plain n m x y z e f = omega (arith, ints)

-- ---- calls that pass integers

-- arguments that parameters of integers take: zeros
zeros : List Param → List Arg
zeros [] = []
zeros (q ∷ qs) = value (num (pos 0)) ∷ zeros qs

zeros_pass : (before : List Arg) (qs : List Param) → TakesIntegers qs → Passes [] before qs (zeros qs)
unfolding zeros
zeros_pass before [] t = tt
zeros_pass before (q ∷ qs) t = (subst (λ (k : ParamKind). PassesOne [] before k (value (num (pos 0)))) (sym t.0) tt, zeros_pass (before ++ value (num (pos 0)) ∷ []) qs t.1)

zeros_take_none : (qs : List Param) (y : Name) → (taken_as qs (zeros qs) y ≡ 0) × (lent_as qs (zeros qs) y ≡ 0)
unfolding zeros taken_as lent_as
zeros_take_none [] y = (refl, refl)
zeros_take_none (q ∷ qs) y = zeros_take_none qs y

-- the first environment of such a function has no block
start_holds_none : (c : Setting) (g : Func) (owns : OwnsFunction c.program g) → TakesIntegers g.params → (y : Name) → (held_in owns.0 y ≡ 0) × (lent_in owns.0 y ≡ 0)
start_holds_none c g owns takes y =
    let p = params_held g.line [] [] g.params (zeros g.params) [] owns.0 y owns.1 (zeros_pass [] g.params takes) in
    let none = zeros_take_none g.params y in
    let e = empty_found held_entry y in let d = empty_found lent_entry_of y in
    (first (held_in owns.0 y) (held_in [] y) (taken_as g.params (zeros g.params) y) p.0 e none.0, first (lent_in owns.0 y) (lent_in [] y) (lent_as g.params (zeros g.params) y) p.1 d none.1)
  where
    first : (n m k : ℕ) → n ≡ m + k → m ≡ 0 → k ≡ 0 → n ≡ 0
    first n m k a b c = omega (arith, a, b, c)

-- the environment behind the body, where the function answers an integer
last_released : (c : Setting) (r : Option Ret) (end after : Environment) → hands_back r ≡ false → OwnsReturn r end after → list_all is_released after ≡ true → list_all is_released end ≡ true
last_released c None end after plain owns released = subst (λ (v : Environment). list_all is_released v ≡ true) owns released
last_released c (Some r) end after plain owns released = by r.line r.value plain owns
  where
    by : (line : ℕ) (v : RetValue) → hands_back (Some (record { line = line; value = v })) ≡ false → OwnsReturn (Some (record { line = line; value = v })) end after → list_all is_released end ≡ true
    by line (gives e) plain own = subst (λ (v : Environment). list_all is_released v ≡ true) own.1 released
    by line (hands b) plain own = let never : ⊥ = cc in absurd never

-- no more words are in use behind the body than before it
body_even : (c : Setting) → Ownership c.program → (g : Func) → OwnsFunction c.program g → TakesIntegers g.params → hands_back g.ret ≡ false
    → (h : Passing) (m : ℕ) (s : State) → h.callee.blocks ≡ [] → s.faulted ≡ false → State.faulted (run c g.body (called h m s)) ≡ false
    → (State.callers (run c g.body (called h m s)) ≡ h.caller ∷ s.callers) × (live (State.items (run c g.body (called h m s))) ≡ live s.items)
unfolding Agrees
body_even c o g owns takes plain h m s none running ends =
    let u : State = called h m s in
    let v : State = run c g.body u in
    let nothing : (y : Name) → count h.callee.blocks y ≡ 0 = λ y. ap (λ hs. count hs y) none ∙ none_counted y in
    let r : Ran owns.0 owns.2.0 u v =
    ran_run c o.functions g.body owns.0 owns.2.0 u owns.2.1 running (λ y n. nothing y ∙ sym (start_holds_none c g owns takes y).0) in
    by v ends r.way r.exact.same nothing
  where
    by : (v : State) → v.faulted ≡ false → Way owns.0 owns.2.0 (called h m s) v → (pos (holdings v) +ℤ live s.items) ≡ (pos (holdings (called h m s)) +ℤ live v.items)
        → ((y : Name) → count h.callee.blocks y ≡ 0) → (v.callers ≡ h.caller ∷ s.callers) × (live v.items ≡ live s.items)
    by v ends (stopped p) e nothing = absurd (let ended = p.faulted in cc)
    by v ends (went w) e nothing =
        let rel = last_released c g.ret owns.2.0 owns.2.2.0 plain owns.2.2.1 owns.2.2.2 in
        let empty : v.store.blocks ≡ [] = none_held v.store.blocks (λ y.
        let a = w.counts y in let b = nothing y in
        let st = start_holds_none c g owns takes y in let st0 = st.0 in let st1 = st.1 in
        let r = released_held owns.2.0 y rel in
        let l = lent_back_in owns.0 owns.2.0 y (follows_all c.program g.body owns.0 owns.2.0 owns.2.1) in omega (arith, a, b, st0, st1, r, l)) in
        let same : holdings v ≡ holdings (called h m s) =
        ap (λ hs. held_words hs + stored_words v.callers) empty ∙ ap (λ cs. 0 + stored_words cs) w.callers
        ∙ ap (λ hs. held_words hs + stored_words (h.caller ∷ s.callers)) (sym none) in
        (w.callers, even (holdings v) (holdings (called h m s)) (live s.items) (live v.items) same e)
      where
        even : (n m : ℕ) (x y : ℤ) → n ≡ m → (pos n +ℤ x) ≡ (pos m +ℤ y) → y ≡ x
        even n m x y e f = omega (arith, ints, e)

-- what a state that no fault ended has, and one that a fault ended need not have
Even : State → State → Type 0
Even s t = t.faulted ≡ false → live t.items ≡ live s.items

even_fault : (s v : State) (kind : FaultKind) (line : ℕ) → Even s (with_fault kind line v)
unfolding Even with_fault
even_fault s v kind line = λ ends. absurd (let no = ends in cc)

even_returned : (x : Target) (a : Answer) (params : List Param) (args : List Arg) (h : Passing) (s v : State) (st : Store) → v.callers ≡ h.caller ∷ s.callers
    → live v.items ≡ live s.items → Even s (returned params args x a (record v { store = st }))
unfolding Even
even_returned x a params args h s v st calls e = λ ends.
    ap (λ w. live (State.items w)) (returned_is x a params args h s (record v { store = st }) calls) ∙ e

even_settled : (line : ℕ) (o : Outcome) (x : Target) (params : List Param) (args : List Arg) (h : Passing) (s v : State) → v.callers ≡ h.caller ∷ s.callers
    → live v.items ≡ live s.items → Even s (with_number line o (as_number (returned params args x)) v)
unfolding with_number
even_settled line (Ok z) x params args h s v calls e = even_returned x (number z) params args h s v v.store calls e
even_settled line (Err kind) x params args h s v calls e = even_fault s v kind line

even_answer : (r : Option Ret) (x : Target) (params : List Param) (args : List Arg) (h : Passing) (s v : State) → v.callers ≡ h.caller ∷ s.callers
    → live v.items ≡ live s.items → Even s (with_answer r (returned params args x) v)
unfolding with_answer
even_answer None x params args h s v calls e = even_returned x (number (pos 0)) params args h s v v.store calls e
even_answer (Some r) x params args h s v calls e = by r.line r.value
  where
    by : (line : ℕ) (w : RetValue) → Even s (with_return line w (returned params args x) v)
    by line (gives e') = even_settled line (values.value v.store e') x params args h s v calls e
    by line (hands b) = even_returned x _ params args h s v _ calls e

even_at : (s t u : State) → u ≡ t → Even s t → Even s u
even_at s t u e k = subst (λ w. Even s w) (sym e) k

even_callee : (c : Setting) → Ownership c.program → (x : Target) (args : List Arg) (g : Func) → OwnsFunction c.program g → TakesIntegers g.params → hands_back g.ret ≡ false
    → (h : Passing) (m : ℕ) (s : State) → h.callee.blocks ≡ [] → s.faulted ≡ false → Even s (run_callee (run c) x args g h (record s { turns = m }))
unfolding Even
even_callee c o x args g owns takes plain h m s none running = by v.faulted refl
  where
    v : State
    v = run c g.body (called h m s)

    f : State → State
    f = with_answer g.ret (returned g.params args x)

    by : (b : Bool) → v.faulted ≡ b → Even s (unless_faulted f v)
    by true e = even_at s v (unless_faulted f v) (unless_stopped f v e) (λ ends. absurd (let no = e in cc))
    by false e =
        let k = body_even c o g owns takes plain h m s none running e in
        even_at s (f v) (unless_faulted f v) (unless_running f v e) (even_answer g.ret x g.params args h s v k.0 k.1)

even_turns : (n line : ℕ) (f : State → State) (s : State) → ((m : ℕ) → Even s (f (record s { turns = m }))) → Even s (with_turns n line f s)
even_turns zero line f s k = even_fault s s _ line
even_turns (suc m) line f s k = k m

even_turn : (line : ℕ) (f : State → State) (s : State) → ((m : ℕ) → Even s (f (record s { turns = m }))) → Even s (with_turn line f s)
unfolding with_turn
even_turn line f s k = even_turns s.turns line f s k

even_limit : (b : Bool) (line : ℕ) (f : State → State) (s : State) → Even s (f s) → Even s (under_limit b line f s)
even_limit true line f s k = k
even_limit false line f s k = even_fault s s _ line

even_depth : (n most line : ℕ) (f : State → State) (s : State) → Even s (f s) → Even s (with_depth n most line f s)
unfolding with_depth
even_depth n most line f s k = even_limit (nat_lt n most) line f s k

-- a call only adds items
callee_grows : (c : Setting) (x : Target) (args : List Arg) (g : Func) (h : Passing) (s : State) → Keeps s (run_callee (run c) x args g h s)
callee_grows c x args g h s =
    let u : State = entered h s in
    let v : State = run c g.body u in
    let f : State → State = with_answer g.ret (returned g.params args x) in
    keeps_trans s u (unless_faulted f v) (keeps_more s u [] refl refl (sym (append-nil s.items)))
    (keeps_trans u v (unless_faulted f v) (runs_grow c g.body u)
    (unless_faulted_keeps f v (answering_keeps g.ret (returned g.params args x) v (λ a st. returned_keeps g.params args x a (record v { store = st })))))

call_grows : (c : Setting) (line : ℕ) (x : Target) (args : List Arg) (g : Func) (h : Passing) (s : State) → Keeps s (open_call c (run c) line x args g h s)
call_grows c line x args g h s =
    with_depth_keeps s.calls c.most_calls line (with_turn line (run_callee (run c) x args g h)) s
    (with_turn_keeps line (run_callee (run c) x args g h) s (λ left is.
    let u : State = record s { turns = left } in
    keeps_trans s u (run_callee (run c) x args g h u) (fewer s left is) (callee_grows c x args g h u)))

pub all_given_back : (c : Setting) → Ownership c.program → (line : ℕ) (f x : Name) (args : List Arg) (g : Func) (h : Passing) (s : State)
    → function_of c.program f ≡ Some g → TakesIntegers g.params → hands_back g.ret ≡ false → h.callee.blocks ≡ [] → s.faulted ≡ false
    → State.faulted (open_call c (run c) line (integer x) args g h s) ≡ false
    → live_words (actions_of (added s (open_call c (run c) line (integer x) args g h s))) ≡ pos 0
unfolding Even
all_given_back c o line f x args g h s is takes plain none running ends =
    let owns : OwnsFunction c.program g = function_owned c.program c.program f g is o.functions in
    let t : State = open_call c (run c) line (integer x) args g h s in
    let even : Even s t =
    even_depth s.calls c.most_calls line (with_turn line (run_callee (run c) (integer x) args g h)) s
    (even_turn line (run_callee (run c) (integer x) args g h) s (λ m. even_callee c o (integer x) args g owns takes plain h m s none running)) in
    nothing_more (live s.items) (live t.items) (live (added s t)) (even ends) (risen s t (call_grows c line (integer x) args g h s))
  where
    nothing_more : (a b z : ℤ) → b ≡ a → b ≡ a +ℤ z → z ≡ pos 0
    nothing_more a b z e f = omega (arith, ints)
