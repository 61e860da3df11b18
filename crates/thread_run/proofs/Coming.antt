-- What a step comes to, from the parts of its statement.
use Rattle.std.proofs.Common.{◌≡◌, ℕ, zero, suc, ◌<◌, ◌≤◌, Bool, true, false, List, ◌∷◌, ◌++◌, length, ℤ, Result, Ok, Err, Option, Some, None, refl, sym, ◌∙◌, ap, subst, arith}
use Rattle.std.specs.Prelude.{nat_lt, ◌*◌}
use Rattle.std.specs.Int.{div_ceil}
use Rattle.std.specs.Prelude.{map, MatchResult}
use Rattle.node_table.specs.Names.{slot_names}
use Rattle.thread_state.specs.Effects.{Faults}
use Rattle.thread_state.specs.Cuts.{cut_in_place, cut_or_fault}
use Rattle.std.specs.declared.alloc.AllocError.{AllocError}
use Rattle.thread_stack.specs.declared.frame.Frame.TheVariants.{Rejoins}
use Rattle.thread_run.specs.Dones.{settled_done}
use Rattle.std.proofs.lemmas.Bool.{lt-ltb, le-ltb, le-leb, lt-leb}
use Rattle.dag_order.specs.declared.fault.FaultKind.{FaultKind}
use Rattle.dag_order.specs.declared.fault.FaultKind.TheVariants as faults
use Rattle.depth_first_list.specs.Shapes.{Shape}
use Rattle.depth_first_list.specs.Runs.{tree_for}
use Rattle.par_tree.specs.Tree.{Name, Program, Func, Expr, Body}
use Rattle.thread_state.specs.Passed.Stores.{block_of, block_words}
use Rattle.thread_state.specs.Passed.Values.{Outcome, value, place_in}
use Rattle.thread_state.specs.Passed.States.{Setting, State, Item, with_number, with_fault, with_turn, with_turns}
use Rattle.thread_state.specs.Passed.Run.{names_in, assigns_in, size_of, unchanged, put_value, put_number, put_in_place}
use Rattle.thread_state.specs.Passed.Middle as middles
use Rattle.thread_state.specs.Passed.Middle.{Middle, middle, statements, does, tree, allocates, allocated, step_with_number, step_fork, step_par, step_alloc, step_alloc_words, step_alloc_within, step_turn, step_cut, rejoins, before_all}
use Rattle.node_table.specs.Table.{Table, Kind}
use Rattle.thread_stack.specs.declared.frame.Frame.{Frame}
use Rattle.thread_stack.specs.Frames.{AreFrames, AreStatements, IsParNode, frames_shown}
use Rattle.thread_stack.specs.Lists.{kind_at, left_of, right_of}
use Rattle.thread_state.specs.States.{IsState}
use Rattle.thread_state.specs.declared.state.ThreadState.{ThreadState}
use Rattle.thread_run.specs.Stands.{Stands, InState}
use Rattle.thread_run.specs.Dones.{Comes}
use Rattle.thread_run.specs.declared.ready.Ready.TheVariants.{Fault}
use Rattle.thread_run.specs.declared.done.Done.{Done}
use Rattle.thread_run.specs.declared.done.Done.TheVariants.{Silent, Acts}

-- a point that is the same
pub at_point : (c : Setting) (t : Table) (gs : List Func) (u : ThreadState) (xs : List Frame) (fs : List middles.Frame) (s : State) (m n : Middle) (d : Done)
    → m ≡ n → Comes c t gs u xs fs s m d → Comes c t gs u xs fs s n d
at_point c t gs u xs fs s m n d same h = subst (λ (x : Middle). Comes c t gs u xs fs s x d) same h

-- a fault
pub faulted : (t : Table) (k : ℕ) (c : Setting) (g : Func) (gs : List Func) (u : ThreadState) (xs : List Frame) (fs : List middles.Frame) (s : State) (kind : FaultKind) (line : ℕ) (m : Middle) (d : Done)
    → d ≡ Acts (Fault (record { kind = kind; line = line })) → Stands t k c g gs u xs fs s → middle fs (with_fault kind line s) ≡ m → Comes c t (g ∷ gs) u xs fs s m d
faulted t k c g gs u xs fs s kind line m d is at same =
    subst (λ (x : Done). Comes c t (g ∷ gs) u xs fs s m x) (sym is)
    (at_point c t (g ∷ gs) u xs fs s (middle fs (with_fault kind line s)) m (Acts (Fault (record { kind = kind; line = line }))) same (at.state, (at.frames, refl)))

-- what follows a number, or its fault
pub number_is : (line : ℕ) (v : ℤ) (o : Outcome) (f : ℤ → List middles.Frame → State → Middle) (fs : List middles.Frame) (s : State) → Ok v ≡ o
    → f v fs s ≡ step_with_number line o f fs s
number_is line v o f fs s e = ap (λ (x : Outcome). step_with_number line x f fs s) e

pub fault_is : (line : ℕ) (kind : FaultKind) (o : Outcome) (f : ℤ → List middles.Frame → State → Middle) (fs : List middles.Frame) (s : State) → Err kind ≡ o
    → middle fs (with_fault kind line s) ≡ step_with_number line o f fs s
fault_is line kind o f fs s e = ap (λ (x : Outcome). step_with_number line x f fs s) e

-- a state alone
pub state_number_is : (line : ℕ) (v : ℤ) (o : Outcome) (f : ℤ → State → State) (fs : List middles.Frame) (s : State) → Ok v ≡ o
    → middle fs (f v s) ≡ middle fs (with_number line o f s)
unfolding with_number
state_number_is line v o f fs s e = ap (λ (x : Outcome). middle fs (with_number line x f s)) e

pub state_fault_is : (line : ℕ) (kind : FaultKind) (o : Outcome) (f : ℤ → State → State) (fs : List middles.Frame) (s : State) → Err kind ≡ o
    → middle fs (with_fault kind line s) ≡ middle fs (with_number line o f s)
unfolding with_number
state_fault_is line kind o f fs s e = ap (λ (x : Outcome). middle fs (with_number line x f s)) e

-- a `par` within the limit, and beyond it
pub forks_now : (c : Setting) (line : ℕ) (a b : Body) (fs : List middles.Frame) (s : State) → length s.label < c.most_forks
    → step_fork c (names_in a) (assigns_in a) (statements a) (statements b) fs s ≡ step_par (nat_lt (length s.label) c.most_forks) c line a b fs s
forks_now c line a b fs s within = ap (λ (t : Bool). step_par t c line a b fs s) (sym (lt-ltb (length s.label) c.most_forks within))

pub forks_never : (c : Setting) (line : ℕ) (a b : Body) (fs : List middles.Frame) (s : State) → c.most_forks ≤ length s.label
    → middle fs (with_fault faults.Depth line s) ≡ step_par (nat_lt (length s.label) c.most_forks) c line a b fs s
forks_never c line a b fs s beyond = ap (λ (t : Bool). step_par t c line a b fs s) (sym (le-ltb (length s.label) c.most_forks beyond))

-- an allocation
pub no_size : (c : Setting) (line : ℕ) (b : Name) (v : ℤ) (fs : List middles.Frame) (s : State) → None ≡ size_of v → middle fs (with_fault faults.Size line s) ≡ step_alloc c line b v fs s
no_size c line b v fs s e = ap (λ (o : Option ℕ). step_alloc_words c line b o fs s) e

pub allocated_now : (c : Setting) (line : ℕ) (b : Name) (n : ℕ) (fs : List middles.Frame) (s : State) → block_words n ≤ c.quota
    → middle fs (allocated b n s) ≡ step_alloc_words c line b (Some n) fs s
allocated_now c line b n fs s few = ap (λ (w : Bool). step_alloc_within w c b n fs s) (sym (le-leb (block_words n) c.quota few))

pub allocated_later : (c : Setting) (line : ℕ) (b : Name) (n : ℕ) (shape : Shape) (fs : List middles.Frame) (s : State) → c.quota < block_words n → shape ≡ tree_for c.quota (block_words n)
    → middle (does (tree shape) ∷ allocates b n ∷ fs) s ≡ step_alloc_words c line b (Some n) fs s
allocated_later c line b n shape fs s many same =
    ap (λ (x : Shape). middle (does (tree x) ∷ allocates b n ∷ fs) s) same
    ∙ ap (λ (w : Bool). step_alloc_within w c b n fs s) (sym (lt-leb (block_words n) c.quota many))

-- pieces of 16 words
pub whole_words : (n pieces : ℕ) → pieces ≡ div_ceil n 16 → pieces * 16 ≡ block_words n
unfolding block_words
whole_words n pieces e = let f = ap (λ (x : ℕ). 16 * x) e in omega (arith, f)

-- what is written down is not kept in the state of a thread
pub items_aside : (contexts : List (List Name)) (u : ThreadState) (s : State) (items : List Item) → IsState contexts u s → IsState contexts u (record s { items = items })
items_aside contexts u s items is = record {
  label = is.label;
  done = is.done;
  forks = is.forks;
  faulted = is.faulted;
  calls = is.calls;
  turns = is.turns;
  holds = is.holds;
}

-- frames that come first
pub goes_first : (p : Program) (t : Table) (g : Func) (gs : List Func) (o : Option Frame) (xs : List Frame) (fs : List middles.Frame) → AreFrames p t (g ∷ gs) (frames_shown o ++ xs) fs
    → AreFrames p t (g ∷ gs) (frames_shown o ++ (frames_shown None ++ xs)) fs
goes_first p t g gs o xs fs h = h

-- the branches of a `par`, as lists
pub left_branch : (p : Program) (t : Table) (names : List Name) (n : ℕ) (a b : Body) → IsParNode p t names n a b → AreStatements p t names (left_of (kind_at t n)) a
left_branch p t names n a b h = subst (λ (k : Option Kind). AreStatements p t names (left_of k) a) (sym h.there) h.first

pub right_branch : (p : Program) (t : Table) (names : List Name) (n : ℕ) (a b : Body) → IsParNode p t names n a b → AreStatements p t names (right_of (kind_at t n)) b
right_branch p t names n a b h = subst (λ (k : Option Kind). AreStatements p t names (right_of k) b) (sym h.there) h.second

pub short_words : (n pieces : ℕ) → pieces ≡ div_ceil n 16 → n ≤ 1048576 → pieces * 16 ≤ 1048576
short_words n pieces e small = omega (arith, e, small)

-- ---- statements that change the thread

-- a thread that goes on is in no state that a fault leaves
pub never_faulted : (contexts : List (List Name)) (u : ThreadState) (kind : FaultKind) (line : ℕ) (s : State) → u.faulted ≡ false → IsState contexts u (with_fault kind line s) → ⊥
unfolding with_fault
never_faulted contexts u kind line s going is = let e = is.faulted in cc

-- what a number was settled to: the thread is in the state behind it, so it is a number, and what follows it
pub settled_silent : (c : Setting) (t : Table) (g : Func) (gs : List Func) (u : ThreadState) (xs : List Frame) (fs : List middles.Frame) (line : ℕ) (o : Outcome) (f : ℤ → State → State) (s : State)
    → AreFrames c.program t (g ∷ gs) xs fs → u.faulted ≡ false
    → ((v : ℤ) → IsState (map slot_names (g ∷ gs)) u (f v s) → State.items (f v s) ≡ s.items)
    → IsState (map slot_names (g ∷ gs)) u (with_number line o f s)
    → Comes c t (g ∷ gs) u xs fs s (middle fs (with_number line o f s)) (Silent None None)
unfolding with_number
settled_silent c t g gs u xs fs line (Ok v) f s frames going same is = (frames, is, same v is)
settled_silent c t g gs u xs fs line (Err kind) f s frames going same is = absurd (never_faulted (map slot_names (g ∷ gs)) u kind line s going is)

-- a number is put in a block, so the place is in the block
pub put_items : (contexts : List (List Name)) (u : ThreadState) (line : ℕ) (b : Name) (e : Expr) (i : ℤ) (s : State) → u.faulted ≡ false
    → IsState contexts u (put_value line b e i s) → State.items (put_value line b e i s) ≡ s.items
unfolding with_number
put_items contexts u line b e i s going is = go (value s.store e) is
  where
    at : (v : ℤ) (place : Option ℕ) → IsState contexts u (put_in_place line b v place s) → State.items (put_in_place line b v place s) ≡ s.items
    at v (Some n) is = refl
    at v None is = absurd (never_faulted contexts u faults.Index line s going is)

    go : (o : Outcome) → IsState contexts u (with_number line o (put_number line b i) s) → State.items (with_number line o (put_number line b i) s) ≡ s.items
    go (Ok v) is = at v (place_in (block_of s.store.blocks b) i) is
    go (Err kind) is = absurd (never_faulted contexts u kind line s going is)

-- a statement without frames, where it was done and where it was not
pub settled_comes : (t : Table) (k : ℕ) (c : Setting) (g : Func) (gs : List Func) (old u : ThreadState) (xs : List Frame) (fs : List middles.Frame) (line : ℕ) (f : State → State) (s : State) (r : Result (Unit {0}) FaultKind)
    → Stands t k c g gs old xs fs s
    → (IsState (map slot_names (g ∷ gs)) u (f s) → Comes c t (g ∷ gs) u xs fs s (middle fs (f s)) (Silent None None))
    → MatchResult r (λ _. IsState (map slot_names (g ∷ gs)) u (f s)) (Faults (map slot_names (g ∷ gs)) line u f s)
    → Comes c t (g ∷ gs) u xs fs s (middle fs (f s)) (settled_done line r)
settled_comes t k c g gs old u xs fs line f s (Ok done) at silent is = silent is
settled_comes t k c g gs old u xs fs line f s (Err kind) at silent is = (is.0, (at.frames, is.1))

-- the rounds of a loop
pub one_turn : (line : ℕ) (ahead fs : List middles.Frame) (s : State) (left : ℕ) → s.turns ≡ suc left → middle ahead (record s { turns = left }) ≡ step_turn s.turns line ahead fs s
one_turn line ahead fs s left some = ap (λ (n : ℕ). step_turn n line ahead fs s) (sym some)

pub turned : (contexts : List (List Name)) (u : ThreadState) (line left : ℕ) (s : State) → s.turns ≡ suc left → IsState contexts u (with_turn line unchanged s) → IsState contexts u (record s { turns = left })
unfolding with_turn
turned contexts u line left s some is = subst (λ (n : ℕ). IsState contexts u (with_turns n line unchanged s)) some is

pub turn_fails : (line : ℕ) (kind : FaultKind) (ahead fs : List middles.Frame) (s : State) → s.faulted ≡ false → with_turn line unchanged s ≡ with_fault kind line s
    → middle fs (with_fault kind line s) ≡ step_turn s.turns line ahead fs s
unfolding with_turn with_fault
turn_fails line kind ahead fs s going is = go s.turns is
  where
    go : (n : ℕ) → with_turns n line unchanged s ≡ with_fault kind line s → middle fs (with_fault kind line s) ≡ step_turn n line ahead fs s
    go zero e = ap (middle fs) (sym e)
    go (suc n) e = let is_on : s.faulted ≡ true = ap (λ (x : State). x.faulted) e in let never : ⊥ = cc in absurd never

-- a block that is cut, and one that cannot be
pub cut_comes : (c : Setting) (t : Table) (g : Func) (gs : List Func) (u : ThreadState) (xs : List Frame) (fs : List middles.Frame) (line : ℕ) (b l r : Name) (a : Body) (place : Option ℕ) (s : State) (first : Option Frame) (n : ℕ)
    → u.faulted ≡ false → AreFrames c.program t (g ∷ gs) (frames_shown first ++ (Rejoins n ∷ xs)) (before_all a (rejoins b l r ∷ fs))
    → IsState (map slot_names (g ∷ gs)) u (cut_in_place line b l r place s)
    → Comes c t (g ∷ gs) u xs fs s (step_cut line b l r a place fs s) (Silent first (Some (Rejoins n)))
cut_comes c t g gs u xs fs line b l r a (Some at) s first n going frames is = (frames, is, refl)
cut_comes c t g gs u xs fs line b l r a None s first n going frames is = absurd (never_faulted (map slot_names (g ∷ gs)) u faults.Split line s going is)

pub cut_fails : (contexts : List (List Name)) (u : ThreadState) (fs : List middles.Frame) (line : ℕ) (kind : FaultKind) (b l r : Name) (a : Body) (place : Option ℕ) (s : State)
    → u.faulted ≡ false → IsState contexts u s → cut_in_place line b l r place s ≡ with_fault kind line s
    → middle fs (with_fault kind line s) ≡ step_cut line b l r a place fs s
unfolding with_fault
cut_fails contexts u fs line kind b l r a None s going is e = ap (middle fs) (sym e)
cut_fails contexts u fs line kind b l r a (Some at) s going is e =
    let same = is.faulted in
    let is_on : s.faulted ≡ true = ap (λ (x : State). x.faulted) e in
    let never : ⊥ = cc in absurd never

pub cut_named : (contexts : List (List Name)) (u : ThreadState) (line : ℕ) (b l r x y z : Name) (v at : ℤ) (s : State) → v ≡ at → x ≡ b → y ≡ l → z ≡ r
    → IsState contexts u (cut_or_fault line x y z v s) → IsState contexts u (cut_or_fault line b l r at s)
cut_named contexts u line b l r x y z v at s o p q w is =
    subst (λ (n : Name). IsState contexts u (cut_or_fault line n l r at s)) p
    (subst (λ (n : Name). IsState contexts u (cut_or_fault line x n r at s)) q
    (subst (λ (n : Name). IsState contexts u (cut_or_fault line x y n at s)) w
    (subst (λ (i : ℤ). IsState contexts u (cut_or_fault line x y z i s)) o is)))

pub cut_named_fault : (kind : FaultKind) (line : ℕ) (b l r x y z : Name) (v at : ℤ) (s : State) → v ≡ at → x ≡ b → y ≡ l → z ≡ r
    → cut_or_fault line x y z v s ≡ with_fault kind line s → cut_or_fault line b l r at s ≡ with_fault kind line s
cut_named_fault kind line b l r x y z v at s o p q w is =
    subst (λ (n : Name). cut_or_fault line n l r at s ≡ with_fault kind line s) p
    (subst (λ (n : Name). cut_or_fault line x n r at s ≡ with_fault kind line s) q
    (subst (λ (n : Name). cut_or_fault line x y n at s ≡ with_fault kind line s) w
    (subst (λ (i : ℤ). cut_or_fault line x y z i s ≡ with_fault kind line s) o is)))

-- a point that is the same, where there may be not enough memory
pub result_at_point : (c : Setting) (t : Table) (gs : List Func) (u : ThreadState) (xs : List Frame) (fs : List middles.Frame) (s : State) (m n : Middle) (r : Result Done AllocError)
    → m ≡ n → MatchResult r (λ d. Comes c t gs u xs fs s m d) (λ _. InState gs u s) → MatchResult r (λ d. Comes c t gs u xs fs s n d) (λ _. InState gs u s)
result_at_point c t gs u xs fs s m n r same h = subst (λ (x : Middle). MatchResult r (λ d. Comes c t gs u xs fs s x d) (λ _. InState gs u s)) same h
