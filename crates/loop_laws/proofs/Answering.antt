-- Two calls of a function that pass the same: both bodies come to the same, and then both callers go on.
use Rattle.std.specs.Prelude.{◌≡◌, ℕ, suc, pred, ◌+◌, true, false, List, [], ◌∷◌, ℤ, pos, ◌+ℤ◌, Ok, Err, Option, Some, None, refl}
use Rattle.std.proofs.Common.{sym, ◌∙◌, ap, arith, subst}
use Rattle.std.proofs.lemmas.Int.{ints}
use Rattle.dag_order.specs.declared.fault.FaultKind.{FaultKind}
use Rattle.par_tree.specs.Tree.{Target, Arg, Param, Func, Ret, RetValue, gives, hands, Body}
use Rattle.par_ownership.specs.Ownership.{hands_back}
use Rattle.depth_first_run.specs.Stores.{Store, Held, nothing, held_words, stored_words, block_of, drop_block}
use Rattle.depth_first_run.specs.Values.{Outcome, value}
use Rattle.depth_first_run.specs.States.{Setting, State, with_fault, unless_faulted, with_number, with_turn}
use Rattle.depth_first_run.specs.Calls.{Passing, entered, lent_back, Answer, number, items, answered, end_call, returned, with_answer, with_return, as_number}
use Rattle.depth_first_run.specs.Run.{run_callee, open_call}
use Rattle.depth_first_run.proofs.Keeping.{Keeps, unless_faulted_keeps, faulting_keeps, answering_keeps, returned_keeps}
use Rattle.ownership_laws.proofs.Moves.{live, unless_stopped, unless_running}
use Rattle.loop_laws.specs.Outcomes.{added, KeepsLimits, ComesBack}
use Rattle.loop_laws.proofs.Lists.{limits_front, Alike, added_more}
use Rattle.loop_laws.proofs.Ways.{Stopped, Went, Way, stopped, went, Like, Same, then_stopped, then_alike, fault_alike, fault_stops, Unlimited, unlimited_turn, unlimited_depth}

-- ---- how two calls end

-- a fault ended both
pub record Failed (h h' : Passing) (s s' t t' : State) : Type 0 where
  pub left : s'.faulted ≡ true
  pub right : t'.faulted ≡ true
  pub left_store : s'.store ≡ nothing
  pub right_store : t'.store ≡ nothing
  pub left_callers : s'.callers ≡ []
  pub right_callers : t'.callers ≡ []
  pub rises : (pos (held_words h.caller.blocks + stored_words s.callers) +ℤ live (added s s'))
      ≡ (pos (held_words h'.caller.blocks + stored_words t.callers) +ℤ live (added t t'))

-- both answer the same
pub record Answered (ret : Option Ret) (params : List Param) (x y : Target) (args args' : List Arg) (h h' : Passing) (s s' t t' : State) : Type 0 where
  pub left : s'.faulted ≡ false
  pub right : t'.faulted ≡ false
  pub answer : Answer
  pub blocks : List Held
  pub plain : hands_back ret ≡ false → (v : ℤ) × (answer ≡ number v)
  pub left_store : s'.store ≡ answered x answer (lent_back params args blocks h.caller)
  pub right_store : t'.store ≡ answered y answer (lent_back params args' blocks h'.caller)
  pub left_back : ComesBack s s'
  pub right_back : ComesBack t t'
  pub rises : live (added s s') ≡ live (added t t')

pub data CallWay (ret : Option Ret) (params : List Param) (x y : Target) (args args' : List Arg) (h h' : Passing) (s s' t t' : State) : Type 0 where
  failed : Failed h h' s s' t t' → CallWay ret params x y args args' h h' s s' t t'
  answers : Answered ret params x y args args' h h' s s' t t' → CallWay ret params x y args args' h h' s s' t t'

pub record CallLike (ret : Option Ret) (params : List Param) (x y : Target) (args args' : List Arg) (h h' : Passing) (s t s' t' : State) : Type 0 where
  pub alike : Alike (added s s') (added t t')
  pub way : CallWay ret params x y args args' h h' s s' t t'

-- ---- the end of a call

-- the caller goes on
abbrev pub back_at : Target → Answer → List Param → List Arg → Passing → State → State → State
back_at x a params args h s v = record v { store = answered x a (lent_back params args v.store.blocks h.caller); callers = s.callers; calls = pred v.calls }

pub returned_is : (x : Target) (a : Answer) (params : List Param) (args : List Arg) (h : Passing) (s v : State) → v.callers ≡ h.caller ∷ s.callers
    → returned params args x a v ≡ back_at x a params args h s v
unfolding returned
returned_is x a params args h s v e = ap (λ cs. end_call cs params args x a v) e

-- a thread as it begins a call
abbrev pub called : Passing → ℕ → State → State
called h n s = entered h (record s { turns = n })

module _ (ret : Option Ret) (params : List Param) (x y : Target) (args args' : List Arg) (h h' : Passing) (m n : ℕ) (s t : State) where
  -- both answer
  answered_at : (v v' : State) (st st' : Store) (a a' : Answer) → Went (called h m s) v (called h' n t) v' → Alike (added (called h m s) v) (added (called h' n t) v')
      → a ≡ a' → st ≡ st' → (hands_back ret ≡ false → (z : ℤ) × (a ≡ number z))
      → CallLike ret params x y args args' h h' s t (returned params args x a (record v { store = st })) (returned params args' y a' (record v' { store = st' }))
  answered_at v v' st st' a a' w k e f plain =
      let u : State = record v { store = st } in
      let u' : State = record v' { store = st' } in
      let r : State = back_at x a params args h s u in
      let r' : State = back_at y a' params args' h' t u' in
      let is : CallLike ret params x y args args' h h' s t r r' = record {
        alike = record { told = k.told; highest = k.highest };
        way = answers (record {
          left = w.left;
          right = w.right;
          answer = a;
          blocks = st.blocks;
          plain = plain;
          left_store = refl;
          right_store = ap (λ b. answered y b (lent_back params args' st'.blocks h'.caller)) (sym e)
              ∙ ap (λ (q : Store). answered y a (lent_back params args' q.blocks h'.caller)) (sym f);
          left_back = record { label = w.left_back.label; callers = refl; calls = ap pred w.left_back.calls };
          right_back = record { label = w.right_back.label; callers = refl; calls = ap pred w.right_back.calls };
          rises = w.rises;
        });
      } in
      subst (λ q. CallLike ret params x y args args' h h' s t q (returned params args' y a' u')) (sym (returned_is x a params args h s u w.left_back.callers))
      (subst (λ q. CallLike ret params x y args args' h h' s t r q) (sym (returned_is y a' params args' h' t u' w.right_back.callers)) is)

  -- a fault comes in place of the answer of both
  failed_at : (kind : FaultKind) (line : ℕ) (v v' : State) → Keeps (called h m s) v → Keeps (called h' n t) v'
      → Went (called h m s) v (called h' n t) v' → Alike (added (called h m s) v) (added (called h' n t) v')
      → CallLike ret params x y args args' h h' s t (with_fault kind line v) (with_fault kind line v')
  failed_at kind line v v' kl kr w k =
      let l = added_more (called h m s) v (with_fault kind line v) kl (faulting_keeps kind line v) in
      let r = added_more (called h' n t) v' (with_fault kind line v') kr (faulting_keeps kind line v') in
      let a = then_alike (called h m s) v (with_fault kind line v) (called h' n t) v' (with_fault kind line v') l r k w.rises (fault_alike kind line v v') in
      let p = then_stopped (called h m s) v (with_fault kind line v) (called h' n t) v' (with_fault kind line v') l r w (fault_stops kind line v v' w.store) in
      record {
        alike = record { told = a.told; highest = a.highest };
        way = failed (record {
          left = p.left;
          right = p.right;
          left_store = p.left_store;
          right_store = p.right_store;
          left_callers = p.left_callers;
          right_callers = p.right_callers;
          rises = p.rises;
        });
      }

  -- behind the body of both
  number_at : (line : ℕ) (o o' : Outcome) (v v' : State) → o ≡ o' → Keeps (called h m s) v → Keeps (called h' n t) v'
      → Went (called h m s) v (called h' n t) v' → Alike (added (called h m s) v) (added (called h' n t) v')
      → CallLike ret params x y args args' h h' s t (with_number line o (as_number (returned params args x)) v) (with_number line o' (as_number (returned params args' y)) v')
  unfolding with_number
  number_at line o o' v v' e kl kr w k =
      subst (λ p. CallLike ret params x y args args' h h' s t (with_number line o (as_number (returned params args x)) v) (with_number line p (as_number (returned params args' y)) v')) e (by o)
    where
      by : (o : Outcome) → CallLike ret params x y args args' h h' s t (with_number line o (as_number (returned params args x)) v) (with_number line o (as_number (returned params args' y)) v')
      by (Ok z) = answered_at v v' v.store v'.store (number z) (number z) w k refl w.store (λ no. (z, refl))
      by (Err kind) = failed_at kind line v v' kl kr w k

  value_at : (line : ℕ) (r : RetValue) (v v' : State) → Keeps (called h m s) v → Keeps (called h' n t) v'
      → Went (called h m s) v (called h' n t) v' → Alike (added (called h m s) v) (added (called h' n t) v') → hands_back ret ≡ hands_back (Some (record { line = line; value = r }))
      → CallLike ret params x y args args' h h' s t (with_return line r (returned params args x) v) (with_return line r (returned params args' y) v')
  value_at line (gives e) v v' kl kr w k is =
      number_at line (value v.store e) (value v'.store e) v v' (ap (λ (st : Store). value st e) w.store) kl kr w k
  value_at line (hands b) v v' kl kr w k is =
      answered_at v v' (drop_block b v.store) (drop_block b v'.store) (items (block_of v.store.blocks b)) (items (block_of v'.store.blocks b)) w k
      (ap (λ (st : Store). items (block_of st.blocks b)) w.store) (ap (drop_block b) w.store)
      (λ no. absurd (let yes_it_is = is in cc))

  return_at : (r : Option Ret) (v v' : State) → r ≡ ret → Keeps (called h m s) v → Keeps (called h' n t) v'
      → Went (called h m s) v (called h' n t) v' → Alike (added (called h m s) v) (added (called h' n t) v')
      → CallLike ret params x y args args' h h' s t (with_answer r (returned params args x) v) (with_answer r (returned params args' y) v')
  unfolding with_answer
  return_at None v v' is kl kr w k = answered_at v v' v.store v'.store (number (pos 0)) (number (pos 0)) w k refl w.store (λ no. (pos 0, refl))
  return_at (Some r) v v' is kl kr w k = value_at r.line r.value v v' kl kr w k (ap hands_back (sym is))

  -- a fault ended both bodies
  stopped_in : (v v' : State) → Stopped (called h m s) v (called h' n t) v' → Alike (added (called h m s) v) (added (called h' n t) v')
      → CallLike ret params x y args args' h h' s t v v'
  stopped_in v v' p k = record {
    alike = record { told = k.told; highest = k.highest };
    way = failed (record {
      left = p.left;
      right = p.right;
      left_store = p.left_store;
      right_store = p.right_store;
      left_callers = p.left_callers;
      right_callers = p.right_callers;
      rises = p.rises;
    });
  }

-- the body of a function in both, and the end of the call
pub same_callee : (more : Body → State → State) (x y : Target) (args args' : List Arg) (g : Func) (h h' : Passing) (m n : ℕ) (s t : State)
    → ((u : State) → Keeps u (more g.body u)) → Same (called h m s) (more g.body (called h m s)) (called h' n t) (more g.body (called h' n t))
    → Unlimited (CallLike g.ret g.params x y args args' h h' s t) s (run_callee more x args g h (record s { turns = m }))
    t (run_callee more y args' g h' (record t { turns = n }))
same_callee more x y args args' g h h' m n s t keeps same = λ kl kr.
    let f : State → State = with_answer g.ret (returned g.params args x) in
    let f' : State → State = with_answer g.ret (returned g.params args' y) in
    let u : State = called h m s in
    let u' : State = called h' n t in
    let v : State = more g.body u in
    let v' : State = more g.body u' in
    let l = added_more u v (unless_faulted f v) (keeps u)
    (unless_faulted_keeps f v (answering_keeps g.ret (returned g.params args x) v (λ a st. returned_keeps g.params args x a (record v { store = st })))) in
    let r = added_more u' v' (unless_faulted f' v') (keeps u')
    (unless_faulted_keeps f' v' (answering_keeps g.ret (returned g.params args' y) v' (λ a st. returned_keeps g.params args' y a (record v' { store = st })))) in
    let k : Like u v u' v' = same
    (limits_front (added u v) (added v (unless_faulted f v)) (subst KeepsLimits l kl))
    (limits_front (added u' v') (added v' (unless_faulted f' v')) (subst KeepsLimits r kr)) in
    by v v' (keeps u) (keeps u') k.way k.alike
  where
    by : (v v' : State) → Keeps (called h m s) v → Keeps (called h' n t) v' → Way (called h m s) v (called h' n t) v' → Alike (added (called h m s) v) (added (called h' n t) v')
        → CallLike g.ret g.params x y args args' h h' s t (unless_faulted (with_answer g.ret (returned g.params args x)) v) (unless_faulted (with_answer g.ret (returned g.params args' y)) v')
    by v v' a b (stopped p) k =
        let f : State → State = with_answer g.ret (returned g.params args x) in
        let f' : State → State = with_answer g.ret (returned g.params args' y) in
        subst (λ w. CallLike g.ret g.params x y args args' h h' s t w (unless_faulted f' v')) (sym (unless_stopped f v p.left))
        (subst (λ w. CallLike g.ret g.params x y args args' h h' s t v w) (sym (unless_stopped f' v' p.right))
        (stopped_in g.ret g.params x y args args' h h' m n s t v v' p k))
    by v v' a b (went p) k =
        let f : State → State = with_answer g.ret (returned g.params args x) in
        let f' : State → State = with_answer g.ret (returned g.params args' y) in
        subst (λ w. CallLike g.ret g.params x y args args' h h' s t w (unless_faulted f' v')) (sym (unless_running f v p.left))
        (subst (λ w. CallLike g.ret g.params x y args args' h h' s t (f v) w) (sym (unless_running f' v' p.right))
        (return_at g.ret g.params x y args args' h h' m n s t g.ret v v' refl a b p k))

-- A call whose arguments are passed.
pub same_open_call : (c : Setting) (more : Body → State → State) (line line' : ℕ) (x y : Target) (args args' : List Arg) (g : Func) (h h' : Passing) (s t : State)
    → ((u : State) → Keeps u (more g.body u))
    → ((m n : ℕ) → s.turns ≡ suc m → Same (called h m s) (more g.body (called h m s)) (called h' n t) (more g.body (called h' n t)))
    → Unlimited (CallLike g.ret g.params x y args args' h h' s t) s (open_call c more line x args g h s) t (open_call c more line' y args' g h' t)
same_open_call c more line line' x y args args' g h h' s t keeps same =
    let P : State → State → Type 0 = CallLike g.ret g.params x y args args' h h' s t in
    unlimited_depth P s.calls t.calls c.most_calls line line'
    (with_turn line (run_callee more x args g h)) (with_turn line' (run_callee more y args' g h')) s t
    (λ below. unlimited_turn P line line' (run_callee more x args g h) (run_callee more y args' g h') s t
    (λ m n is. same_callee more x y args args' g h h' m n s t keeps (same m n is)))

-- calls with the same arguments of callers that hold the same
pub call_likes : (ret : Option Ret) (params : List Param) (x : Target) (args : List Arg) (h : Passing) (s t s' t' : State)
    → CallLike ret params x x args args h h s t s' t' → Like s s' t t'
call_likes ret params x args h s t s' t' k = record { alike = k.alike; way = by k.way }
  where
    less : (a m n : ℕ) (y z : ℤ) → (pos (a + m) +ℤ y) ≡ (pos (a + n) +ℤ z) → (pos m +ℤ y) ≡ (pos n +ℤ z)
    less a m n y z e = omega (arith, ints)

    by : CallWay ret params x x args args h h s s' t t' → Way s s' t t'
    by (failed p) = stopped (record {
      left = p.left;
      right = p.right;
      left_store = p.left_store;
      right_store = p.right_store;
      left_callers = p.left_callers;
      right_callers = p.right_callers;
      rises = less (held_words h.caller.blocks) (stored_words s.callers) (stored_words t.callers) (live (added s s')) (live (added t t')) p.rises;
    })
    by (answers p) = went (record {
      left = p.left;
      right = p.right;
      store = p.left_store ∙ sym p.right_store;
      left_back = p.left_back;
      right_back = p.right_back;
      rises = p.rises;
    })
