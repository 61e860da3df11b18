-- A step that does no action keeps the words of its thread.
use Rattle.std.specs.Prelude.{◌≡◌, ℕ, zero, suc, ◌+◌, ◌/◌, ◌≤◌, nat_lt, nat_le, Bool, true, false, List, [], ◌∷◌, length, slice_set, ℤ, pos, Result, Ok, Err, Option, Some, None, refl}
use Rattle.std.proofs.Common.{sym, ap, arith, subst, length-set}
use Rattle.thread_points.specs.Passed.FaultKind.{FaultKind}
use Rattle.depth_first_run.specs.Passed.Shapes.{leaf, forked}
use Rattle.depth_first_run.specs.Passed.Tree.{Name, Expr, Target, unused, integer, block, Arg, value, lend, give, Param, Stmt, let_stmt, assign_stmt, put_stmt, alloc_stmt, free_stmt, if_stmt, while_stmt, call_stmt, print_stmt, par_stmt, split_stmt, Body, done, step, Func, Ret, RetValue, gives, hands}
use Rattle.depth_first_run.specs.Passed.Ownership.{Ownership, function_of, takes_answer, hands_back}
use Rattle.depth_first_run.specs.Stores
use Rattle.depth_first_run.specs.Stores.{Store, Held, block_of, block_words, held_words, stored_words, without, drop_block, hold_block}
use Rattle.depth_first_run.specs.Values as values
use Rattle.depth_first_run.specs.Values.{Outcome, is_true}
use Rattle.depth_first_run.specs.States
use Rattle.depth_first_run.specs.States.{Setting, State, with_item, with_action, with_fault, with_number, unless_faulted, skip_if, holdings}
use Rattle.depth_first_run.specs.Calls.{Passing, all_passed, entered, Answer, number, items, lent_back, answered, end_call, returned, with_answer, with_return, as_number}
use Rattle.depth_first_run.specs.Run.{cut_of, size_of, on_store, set_integer, put_in_place, put_number, put_value, print_number, free_block, cut_block, rejoin_block, ignore_answer}
use Rattle.depth_first_run.specs.Middle
use Rattle.depth_first_run.specs.Middle.{statements, tree, Frame, does, answers, rejoins, answers_main, allocates, awaits, joins, allocated, Middle, middle, step_with_number, step_alloc_within, step_alloc_words, step_alloc, before_all, step_branch, step_if, step_turn, step_round, step_while, step_body, step_open_call, step_call_with, step_call, step_par, step_cut, step_statement, step_first, step_frame}
use Rattle.depth_first_run.proofs.Words.{both_words, PassesWords, passed_words, passes_same, answer_words, without_words, with_words, replaced_words}
use Rattle.thread_points.specs.Points.{Each, IsPlain, IsAt, step_of}
use Rattle.ownership_laws.specs.Counts.{count}
use Rattle.ownership_laws.proofs.Counting.{none_held}
use Rattle.ownership_laws.proofs.Passing.{without_less}
use Rattle.ownership_laws.proofs.Statements.{cut_exact, rejoin_exact}
use Rattle.ownership_laws.specs.Holdings.{lent_under, handed_by, EndsCall, EndsSplit}
use Rattle.ownership_laws.proofs.Ending.{cut_is}
use Rattle.ownership_laws.proofs.Reading.{call_ends, main_end, split_end}
use Rattle.ownership_laws.proofs.Taking.{calls_take}
use Rattle.depth_first_run.specs.Passed.Actions.{Deed as DeedOf}

-- a step to m, which puts plain frames and does no action, keeps the words, and ends the work of its thread by no fault
abbrev Keeps : State → Middle → Type 0
Keeps s m = Each IsPlain m.frames → m.state.done ≡ s.done → (m.state.faulted ≡ s.faulted) × (holdings m.state ≡ holdings s)

keeps_quiet : (s : State) (fs : List Frame) (t : State) → t.faulted ≡ s.faulted → holdings t ≡ holdings s → Keeps s (middle fs t)
keeps_quiet s fs t f h = λ plain same. (f, h)

keeps_acting : (s : State) (fs : List Frame) (t : State) → t.done ≡ suc s.done → Keeps s (middle fs t)
keeps_acting s fs t more = λ plain same. absurd (omega (arith, more, same))

keeps_fault : (kind : FaultKind) (line : ℕ) (fs : List Frame) (s : State) → Keeps s (middle fs (with_fault kind line s))
unfolding with_fault with_action
keeps_fault kind line fs s = keeps_acting s fs (with_fault kind line s) refl

keeps_settled : (line : ℕ) (o : Outcome) (f : ℤ → List Frame → State → Middle) (fs : List Frame) (s : State) → ((v : ℤ) → Keeps s (f v fs s)) → Keeps s (step_with_number line o f fs s)
keeps_settled line (Ok v) f fs s k = k v
keeps_settled line (Err kind) f fs s k = keeps_fault kind line fs s

keeps_number : (line : ℕ) (o : Outcome) (f : ℤ → State → State) (fs : List Frame) (s : State) → ((v : ℤ) → Keeps s (middle fs (f v s))) → Keeps s (middle fs (with_number line o f s))
unfolding with_number
keeps_number line (Ok v) f fs s k = k v
keeps_number line (Err kind) f fs s k = keeps_fault kind line fs s

-- ---- statements

keeps_putting : (line : ℕ) (b : Name) (v : ℤ) (o : Option ℕ) (fs : List Frame) (s : State) → Keeps s (middle fs (put_in_place line b v o s))
keeps_putting line b v None fs s = keeps_fault _ line fs s
keeps_putting line b v (Some i) fs s =
    let xs : List ℤ = slice_set (block_of s.store.blocks b) i v in
    let w = replaced_words s.store.blocks b xs (length-set (block_of s.store.blocks b) i v) in
    keeps_quiet s fs (put_in_place line b v (Some i) s) refl (omega (arith, w))

keeps_putting_value : (line : ℕ) (b : Name) (e : Expr) (i : ℤ) (fs : List Frame) (s : State) → Keeps s (middle fs (put_value line b e i s))
keeps_putting_value line b e i fs s = keeps_number line (values.value s.store e) (put_number line b i) fs s (λ v. keeps_putting line b v _ fs s)

keeps_allocated : (b : Bool) (c : Setting) (x : Name) (n : ℕ) (fs : List Frame) (s : State) → Keeps s (step_alloc_within b c x n fs s)
unfolding with_action
keeps_allocated true c x n fs s = keeps_acting s fs (allocated x n s) refl
keeps_allocated false c x n fs s = λ plain same. (refl, refl)

keeps_allocating : (c : Setting) (line : ℕ) (x : Name) (o : Option ℕ) (fs : List Frame) (s : State) → Keeps s (step_alloc_words c line x o fs s)
keeps_allocating c line x None fs s = keeps_fault _ line fs s
keeps_allocating c line x (Some n) fs s = keeps_allocated (nat_le (block_words n) c.quota) c x n fs s

keeps_freeing : (b : Name) (fs : List Frame) (s : State) → Keeps s (middle fs (free_block b s))
unfolding with_action
keeps_freeing b fs s = keeps_acting s fs (free_block b s) refl

keeps_branch : (t : Bool) (a b : Body) (fs : List Frame) (s : State) → Keeps s (step_branch t a b fs s)
keeps_branch true a b fs s = keeps_quiet s (before_all a fs) s refl refl
keeps_branch false a b fs s = keeps_quiet s (before_all b fs) s refl refl

keeps_turning : (n line : ℕ) (ahead fs : List Frame) (s : State) → Keeps s (step_turn n line ahead fs s)
keeps_turning zero line ahead fs s = keeps_fault _ line fs s
keeps_turning (suc left) line ahead fs s = keeps_quiet s ahead (record s { turns = left }) refl refl

keeps_round : (b : Bool) (line : ℕ) (e : Expr) (a : Body) (fs : List Frame) (s : State) → Keeps s (step_round b line e a fs s)
keeps_round true line e a fs s = keeps_turning s.turns line (before_all a (before_all (step line (while_stmt e a) done) fs)) fs s
keeps_round false line e a fs s = keeps_quiet s fs s refl refl

-- a call moves blocks from its caller to its function
keeps_body : (n line : ℕ) (t : Target) (args : List Arg) (g : Func) (h : Passing) (fs : List Frame) (s : State) → both_words h ≡ held_words s.store.blocks → Keeps s (step_body n line t args g h fs s)
keeps_body zero line t args g h fs s w = keeps_fault _ line fs s
keeps_body (suc left) line t args g h fs s w =
    keeps_quiet s (before_all g.body (answers g.ret g.params args t ∷ fs)) (entered h (record s { turns = left })) refl (omega (arith, w))

keeps_opening : (b : Bool) (line : ℕ) (t : Target) (args : List Arg) (g : Func) (h : Passing) (fs : List Frame) (s : State) → both_words h ≡ held_words s.store.blocks → Keeps s (step_open_call b line t args g h fs s)
keeps_opening true line t args g h fs s w = keeps_body s.turns line t args g h fs s w
keeps_opening false line t args g h fs s w = keeps_fault _ line fs s

keeps_calling_with : (c : Setting) (line : ℕ) (t : Target) (args : List Arg) (g : Func) (r : Result Passing FaultKind) (fs : List Frame) (s : State) → PassesWords (held_words s.store.blocks) r
    → Keeps s (step_call_with c line t args g r fs s)
unfolding PassesWords
keeps_calling_with c line t args g (Ok h) fs s w = keeps_opening (nat_lt s.calls c.most_calls) line t args g h fs s w
keeps_calling_with c line t args g (Err kind) fs s w = keeps_fault kind line fs s

keeps_calling : (c : Setting) (line : ℕ) (t : Target) (args : List Arg) (o : Option Func) (fs : List Frame) (s : State) → Keeps s (step_call c line t args o fs s)
keeps_calling c line t args None fs s = keeps_quiet s fs s refl refl
keeps_calling c line t args (Some g) fs s =
    keeps_calling_with c line t args g (all_passed s.store g.params args) fs s
    (passes_same (omega arith) (all_passed s.store g.params args) (passed_words s.store g.params args (record { callee = Stores.nothing; caller = s.store })))

keeps_both : (v : Bool) (c : Setting) (line : ℕ) (a b : Body) (fs : List Frame) (s : State) → Keeps s (step_par v c line a b fs s)
keeps_both true c line a b fs s = λ plain same. absurd plain.1.0
keeps_both false c line a b fs s = keeps_fault _ line fs s

keeps_cutting : (line : ℕ) (b l r : Name) (a : Body) (v : ℤ) (o : Option ℕ) (fs : List Frame) (s : State) → cut_of (block_of s.store.blocks b) v ≡ o → Keeps s (step_cut line b l r a o fs s)
keeps_cutting line b l r a v None fs s is = keeps_fault _ line fs s
keeps_cutting line b l r a v (Some at) fs s is =
    let k = cut_is (block_of s.store.blocks b) v at is in
    let w = cut_exact b l r at (at / 16) s.store k.1 k.0 in
    keeps_quiet s (before_all a (rejoins b l r ∷ fs)) (on_store (cut_block b l r at) s) refl (omega (arith, w))

keeps_statement : (c : Setting) (line : ℕ) (stmt : Stmt) (fs : List Frame) (s : State) → Keeps s (step_statement c line stmt fs s)
keeps_statement c line (let_stmt x e) fs s = keeps_number line (values.value s.store e) (set_integer x) fs s (λ v. keeps_quiet s fs (set_integer x v s) refl refl)
keeps_statement c line (assign_stmt x e) fs s = keeps_number line (values.value s.store e) (set_integer x) fs s (λ v. keeps_quiet s fs (set_integer x v s) refl refl)
keeps_statement c line (put_stmt b i e) fs s = keeps_number line (values.value s.store i) (put_value line b e) fs s (λ v. keeps_putting_value line b e v fs s)
keeps_statement c line (alloc_stmt b e) fs s = keeps_settled line (values.value s.store e) (step_alloc c line b) fs s (λ v. keeps_allocating c line b (size_of v) fs s)
keeps_statement c line (free_stmt b) fs s = keeps_freeing b fs s
keeps_statement c line (if_stmt e a b) fs s = keeps_settled line (values.value s.store e) (step_if a b) fs s (λ v. keeps_branch (is_true v) a b fs s)
keeps_statement c line (while_stmt e a) fs s = keeps_settled line (values.value s.store e) (step_while line e a) fs s (λ v. keeps_round (is_true v) line e a fs s)
keeps_statement c line (call_stmt t f args) fs s = keeps_calling c line t args (function_of c.program f) fs s
keeps_statement c line (print_stmt e) fs s = keeps_number line (values.value s.store e) print_number fs s (λ v. keeps_quiet s fs (print_number v s) refl refl)
keeps_statement c line (par_stmt a b) fs s = keeps_both (nat_lt (length s.label) c.most_forks) c line a b fs s
keeps_statement c line (split_stmt b e l r a) fs s =
    keeps_settled line (values.value s.store e) (Middle.step_split line b l r a) fs s (λ v. keeps_cutting line b l r a v (cut_of (block_of s.store.blocks b) v) fs s refl)

keeps_first : (v : Bool) (c : Setting) (line : ℕ) (stmt : Stmt) (rest : Body) (fs : List Frame) (s : State) → Keeps s (step_first v c line stmt rest fs s)
keeps_first true c line stmt rest fs s = keeps_quiet s fs s refl refl
keeps_first false c line stmt rest fs s = keeps_statement c line stmt (before_all rest fs) (with_item (States.began line) s)

-- ---- the end of a call

-- a function that has nothing but what was lent to it gives all of it back
back_words : (params : List Param) (args : List Arg) (hs : List Held) (caller : Store) → ((x : Name) → count hs x ≤ lent_under params args x)
    → held_words (lent_back params args hs caller).blocks ≡ held_words hs + held_words caller.blocks
unfolding lent_back
back_words [] args hs caller few = let z : held_words hs ≡ 0 = ap held_words (none_held hs (λ y. let l = few y in omega (arith, l))) in omega (arith, z)
back_words (q ∷ qs) [] hs caller few = let z : held_words hs ≡ 0 = ap held_words (none_held hs (λ y. let l = few y in omega (arith, l))) in omega (arith, z)
back_words (q ∷ qs) (value e ∷ args) hs caller few = back_words qs args hs caller few
back_words (q ∷ qs) (lend b ∷ args) hs caller few =
    let r = back_words qs args (without hs q.name) (hold_block b (block_of hs q.name) caller) (λ y. without_less hs q.name y (lent_under qs args y) (few y)) in
    let w = with_words caller.blocks b (block_of hs q.name) in let d = without_words hs q.name in omega (arith, r, w, d)
back_words (q ∷ qs) (give b ∷ args) hs caller few = back_words qs args hs caller few

-- a target takes an answer
abbrev TakesAnswer : Target → Answer → Type 0
TakesAnswer unused (number v) = Unit {0}
TakesAnswer unused (items xs) = ⊥
TakesAnswer (integer x) (number v) = Unit {0}
TakesAnswer (integer x) (items xs) = ⊥
TakesAnswer (block b) (number v) = Unit {0}
TakesAnswer (block b) (items xs) = Unit {0}

takes_number : (t : Target) (v : ℤ) → TakesAnswer t (number v)
takes_number unused v = tt
takes_number (integer x) v = tt
takes_number (block b) v = tt

takes_items : (t : Target) (xs : List ℤ) → takes_answer t true ≡ true → TakesAnswer t (items xs)
takes_items unused xs e = let never : ⊥ = cc in absurd never
takes_items (integer x) xs e = let never : ⊥ = cc in absurd never
takes_items (block b) xs e = tt

answer_kept : (t : Target) (a : Answer) (s : Store) → TakesAnswer t a → held_words (answered t a s).blocks ≡ held_words s.blocks + answer_words a
answer_kept unused (number v) s k = omega arith
answer_kept unused (items xs) s k = absurd k
answer_kept (integer y) (number v) s k = omega arith
answer_kept (integer y) (items xs) s k = absurd k
answer_kept (block b) (number v) s k = omega arith
answer_kept (block b) (items xs) s k = with_words s.blocks b xs

returned_words : (params : List Param) (args : List Arg) (t : Target) (a : Answer) (s : State) (caller : Store) (older : List Store) → s.callers ≡ caller ∷ older
    → ((x : Name) → count s.store.blocks x ≤ lent_under params args x) → TakesAnswer t a
    → (State.faulted (returned params args t a s) ≡ s.faulted) × (holdings (returned params args t a s) ≡ holdings s + answer_words a)
unfolding returned
returned_words params args t a s caller older waits few k =
    let back : Store = lent_back params args s.store.blocks caller in
    let b = back_words params args s.store.blocks caller few in
    let w = answer_kept t a back k in
    let c : stored_words s.callers ≡ held_words caller.blocks + stored_words older = ap stored_words waits in
    let here : (State.faulted (end_call (caller ∷ older) params args t a s) ≡ s.faulted) × (holdings (end_call (caller ∷ older) params args t a s) ≡ holdings s + answer_words a) =
    (refl, omega (arith, b, w, c)) in
    subst (λ (cs : List Store). (State.faulted (end_call cs params args t a s) ≡ s.faulted) × (holdings (end_call cs params args t a s) ≡ holdings s + answer_words a)) (sym waits) here

keeps_answering : (ret : Option Ret) (params : List Param) (args : List Arg) (t : Target) (s : State) → EndsCall ret params args t s → takes_answer t (hands_back ret) ≡ true
    → Keeps s (middle [] (with_answer ret (returned params args t) s))
unfolding with_answer
keeps_answering None params args t s e takes =
    let r = returned_words params args t (number (pos 0)) s e.caller e.older e.waits (λ x. let h = e.holds x in omega (arith, h)) (takes_number t (pos 0)) in
    let w = r.1 in keeps_quiet s [] (returned params args t (number (pos 0)) s) r.0 (omega (arith, w))
keeps_answering (Some ret) params args t s e takes = by ret.value e.holds takes
  where
    by : (v : RetValue) → ((x : Name) → count s.store.blocks x ≡ lent_under params args x + handed_by v x) → takes_answer t (hands_back (Some (record { line = ret.line; value = v }))) ≡ true
        → Keeps s (middle [] (with_return ret.line v (returned params args t) s))
    by (gives x) holds takes =
        keeps_number ret.line (values.value s.store x) (as_number (returned params args t)) [] s (λ v.
        (let r = returned_words params args t (number v) s e.caller e.older e.waits (λ y. let h = holds y in omega (arith, h)) (takes_number t v) in
        let w = r.1 in keeps_quiet s [] (returned params args t (number v) s) r.0 (omega (arith, w))))
    by (hands b) holds takes =
        let xs : List ℤ = block_of s.store.blocks b in
        let u : State = record s { store = drop_block b s.store } in
        let d = without_words s.store.blocks b in
        let r = returned_words params args t (items xs) u e.caller e.older e.waits
        (λ y. without_less s.store.blocks b y (lent_under params args y) (let h = holds y in omega (arith, h))) (takes_items t xs takes) in
        let w = r.1 in keeps_quiet s [] (returned params args t (items xs) u) r.0 (omega (arith, w, d))

-- ---- the end of `main`

keeps_ending : (ret : Option Ret) (s : State) → s.store.blocks ≡ [] → Keeps s (middle [] (with_answer ret ignore_answer s))
unfolding with_answer
keeps_ending None s none = keeps_quiet s [] s refl refl
keeps_ending (Some ret) s none = by ret.value
  where
    by : (v : RetValue) → Keeps s (middle [] (with_return ret.line v ignore_answer s))
    by (gives x) = keeps_number ret.line (values.value s.store x) (as_number ignore_answer) [] s (λ v. keeps_quiet s [] s refl refl)
    by (hands b) =
        let u : State = record s { store = drop_block b s.store } in
        let before : held_words s.store.blocks ≡ 0 = ap held_words none in
        let d = without_words s.store.blocks b in
        keeps_quiet s [] u refl (omega (arith, before, d))

-- ---- a step

-- a frame that a thread skips behind a fault
keeps_unless : (f : State → State) (s : State) → (s.faulted ≡ false → Keeps s (middle [] (f s))) → Keeps s (middle [] (unless_faulted f s))
unfolding unless_faulted
keeps_unless f s k = by s.faulted refl
  where
    by : (b : Bool) → s.faulted ≡ b → Keeps s (middle [] (skip_if b f s))
    by true e = keeps_quiet s [] s refl refl
    by false e = k e

keeps_allocation : (b : Name) (n : ℕ) (s : State) → Keeps s (middle [] (allocated b n s))
unfolding with_action
keeps_allocation b n s = keeps_acting s [] (allocated b n s) refl

keeps_dummy : (s : State) (deed : DeedOf) (words : ℕ) → Keeps s (middle [] (with_action deed words s))
unfolding with_action
keeps_dummy s deed words = keeps_acting s [] (with_action deed words s) refl

quiet_step : (c : Setting) → Ownership c.program → (f : Frame) (own : List Frame) (s : State) → IsAt c (f ∷ own) s → IsPlain f → Keeps s (step_of c f s)
quiet_step c o (does (statements done)) own s at plain = keeps_quiet s [] s refl refl
quiet_step c o (does (statements (step line stmt rest))) own s at plain = keeps_first s.faulted c line stmt rest [] s
quiet_step c o (does (tree leaf)) own s at plain = keeps_dummy s _ 0
quiet_step c o (does (tree (forked child mine))) own s at plain = λ puts same. absurd puts.1.0
quiet_step c o (answers ret params args t) own s at plain =
    keeps_unless (with_answer ret (returned params args t)) s
    (λ going. keeps_answering ret params args t s (call_ends c o ret params args t own s at going) (calls_take c o ret params args t own s at))
quiet_step c o (rejoins b l r) own s at plain =
    keeps_unless (on_store (rejoin_block b l r)) s (λ going.
    (let k : EndsSplit b l r s = (split_end c o b l r own s at going).0 in
    let w = rejoin_exact b l r k.pieces s.store k.whole in
    keeps_quiet s [] (on_store (rejoin_block b l r) s) refl (omega (arith, w))))
quiet_step c o (answers_main ret) own s at plain = keeps_unless (with_answer ret ignore_answer) s (λ going. keeps_ending ret s (main_end c o ret own s at going))
quiet_step c o (allocates b n) own s at plain = keeps_allocation b n s
quiet_step c o (awaits named assigned mine parent) own s at plain = absurd plain
quiet_step c o (joins assigned child d) own s at plain = absurd plain

pub quiet_keeps : (c : Setting) → Ownership c.program → (f : Frame) (own : List Frame) (s : State) → IsAt c (f ∷ own) s → IsPlain f → Each IsPlain (step_of c f s).frames
    → State.done (step_of c f s).state ≡ s.done → (State.faulted (step_of c f s).state ≡ s.faulted) × (holdings (step_of c f s).state ≡ holdings s)
quiet_keeps c o f own s at plain puts same = quiet_step c o f own s at plain puts same
