-- What a call does to the state that a thread is in.
use Rattle.std.proofs.Common.{◌≡◌, ℕ, suc, ◌+◌, ◌-◌, Bool, false, List, ◌∷◌, ℤ, Result, Ok, Err, MatchResult, refl, sym, ap, ◌∙◌, subst, arith}
use Rattle.dag_order.specs.declared.fault.FaultKind.{FaultKind}
use Rattle.dag_order.specs.declared.fault.FaultKind.TheVariants as faults
use Rattle.depth_first_run.specs.Passed.Actions.{Deed}
use Rattle.depth_first_run.specs.Passed.Tree.{Name}
use Rattle.std.specs.Prelude.{slice_set}
use Rattle.std.proofs.Common.{◌<◌, length}
use Rattle.std.proofs.lemmas.List.{length-map}
use Rattle.std.proofs.Common.{Option, Some, None}
use Rattle.std.specs.Result.{IsErrAnd}
use Rattle.depth_first_run.specs.Passed.Tree.{Expr}
use Rattle.depth_first_run.specs.Stores.{Store, block_of, write_block, with_integer}
use Rattle.depth_first_run.specs.Values.{Outcome, value}
use Rattle.depth_first_run.specs.States.{State, with_action, with_fault, with_number, with_turn, with_turns}
use Rattle.depth_first_run.specs.Run.{on_store, set_integer, put_value, put_number, put_in_place, unchanged}
use Rattle.slot_store.specs.Effects.{Puts}
use Rattle.slot_store.specs.Rows.{Entry}
use Rattle.slot_store.specs.Agreement.{ShowsStore, entry_of}
use Rattle.thread_state.specs.Rows.{Holds, waiting_rows}
use Rattle.thread_state.specs.States.{IsState, own_row, rows_of}
use Rattle.thread_state.specs.declared.state.ThreadState.{ThreadState}
use Rattle.thread_state.proofs.Holding.{own_shows, own_changed}

-- two threads that differ in their own rows alone
pub record Alike (t u : ThreadState) : Type 0 where
  pub label : u.label ≡ t.label
  pub done : u.done ≡ t.done
  pub forks : u.forks ≡ t.forks
  pub faulted : u.faulted ≡ t.faulted
  pub callers : u.callers.items ≡ t.callers.items
  pub calls : u.calls ≡ t.calls
  pub turns : u.turns ≡ t.turns

-- the second has done an action more
pub record Acting (t u : ThreadState) : Type 0 where
  pub label : u.label ≡ t.label
  pub done : u.done ≡ t.done + 1
  pub forks : u.forks ≡ t.forks
  pub faulted : u.faulted ≡ t.faulted
  pub callers : u.callers.items ≡ t.callers.items
  pub calls : u.calls ≡ t.calls
  pub turns : u.turns ≡ t.turns

-- the row of the function that runs, by its names
pub own_store : (contexts : List (List Name)) (names : List Name) (t : ThreadState) (s : State) → t.faulted ≡ false →
    IsState (names ∷ contexts) t s → ShowsStore names (own_row t) s.store
own_store contexts names t s e is = own_shows t.faulted names contexts (own_row t) (waiting_rows t.callers.items) s.store s.callers e is.holds

-- its store changes
pub is_stored : (contexts : List (List Name)) (names : List Name) (t u : ThreadState) (s : State) (f : Store → Store) → Alike t u →
    t.faulted ≡ false → IsState (names ∷ contexts) t s → ShowsStore names (own_row u) (f s.store) → IsState (names ∷ contexts) u (on_store f s)
is_stored contexts names t u s f same e is shows = record {
  label = same.label ∙ is.label;
  done = same.done ∙ is.done;
  forks = same.forks ∙ is.forks;
  faulted = same.faulted ∙ is.faulted;
  calls = same.calls ∙ is.calls;
  turns = same.turns ∙ is.turns;
  holds =
      subst (λ (b : Bool). Holds b (names ∷ contexts) (rows_of u) (f s.store) s.callers) (sym same.faulted)
      (subst (λ cs. Holds t.faulted (names ∷ contexts) (own_row u ∷ waiting_rows cs) (f s.store) s.callers) (sym same.callers)
      (own_changed t.faulted names contexts (own_row t) (own_row u) (waiting_rows t.callers.items) s.store (f s.store) s.callers e is.holds shows));
}

-- an action that changes nothing but the count
pub is_counted : (contexts : List (List Name)) (t u : ThreadState) (s : State) (deed : Deed) (words : ℕ) → u.label ≡ t.label →
    u.done ≡ t.done + 1 → u.forks ≡ t.forks → u.faulted ≡ t.faulted → u.calls ≡ t.calls → u.turns ≡ t.turns → rows_of u ≡ rows_of t →
    IsState contexts t s → IsState contexts u (with_action deed words s)
unfolding with_action
is_counted contexts t u s deed words label done forks faulted calls turns rows is = record {
  label = label ∙ is.label;
  done = let e = is.done in omega (arith, e, done);
  forks = forks ∙ is.forks;
  faulted = faulted ∙ is.faulted;
  calls = calls ∙ is.calls;
  turns = turns ∙ is.turns;
  holds =
      subst (λ (b : Bool). Holds b contexts (rows_of u) s.store s.callers) (sym faulted)
      (subst (λ (rs : List (List Entry)). Holds t.faulted contexts rs s.store s.callers) (sym rows) is.holds);
}

-- what follows a number
pub settled_ok : (line : ℕ) (v : ℤ) (o : Outcome) (f : ℤ → State → State) (s : State) → Ok v ≡ o → with_number line o f s ≡ f v s
unfolding with_number
settled_ok line v o f s e = ap (λ (x : Outcome). with_number line x f s) (sym e)

pub settled_err : (line : ℕ) (kind : FaultKind) (o : Outcome) (f : ℤ → State → State) (s : State) → Err kind ≡ o →
    with_number line o f s ≡ with_fault kind line s
unfolding with_number
settled_err line kind o f s e = ap (λ (x : Outcome). with_number line x f s) (sym e)

-- the turns of a thread
pub no_turn : (line n : ℕ) (f : State → State) (s : State) → n ≡ s.turns → n ≡ 0 → with_turn line f s ≡ with_fault faults.Turns line s
unfolding with_turn
no_turn line n f s e none = ap (λ k. with_turns k line f s) (sym e ∙ none)

pub next_turn : (line n : ℕ) (f : State → State) (s : State) → s.turns ≡ suc n → with_turn line f s ≡ f (record s { turns = n })
unfolding with_turn
next_turn line n f s e = ap (λ k. with_turns k line f s) e

pub is_turned : (contexts : List (List Name)) (t u : ThreadState) (s : State) (line : ℕ) → (t.turns ≡ 0 → ⊥) → u.label ≡ t.label →
    u.done ≡ t.done → u.forks ≡ t.forks → u.faulted ≡ t.faulted → u.calls ≡ t.calls → u.turns ≡ t.turns - 1 → rows_of u ≡ rows_of t →
    IsState contexts t s → IsState contexts u (with_turn line unchanged s)
is_turned contexts t u s line some label done forks faulted calls turns rows is =
    let left : s.turns ≡ suc u.turns = let e = is.turns in omega (arith, e, turns) in
    subst (λ (v : State). IsState contexts u v) (sym (next_turn line u.turns unchanged s left)) (record {
      label = label ∙ is.label;
      done = done ∙ is.done;
      forks = forks ∙ is.forks;
      faulted = faulted ∙ is.faulted;
      calls = calls ∙ is.calls;
      turns = refl;
      holds =
          subst (λ (b : Bool). Holds b contexts (rows_of u) s.store s.callers) (sym faulted)
          (subst (λ (rs : List (List Entry)). Holds t.faulted contexts rs s.store s.callers) (sym rows) is.holds);
    })

-- an exit by `?`
pub err_exit : {T E : Type 0} (Q : T → Type 0) (P : E → Type 0) (r : Result T E) (e : E) → IsErrAnd r (λ y. y ≡ e) → P e → MatchResult r Q P
err_exit Q P (Ok x) e h p = absurd h
err_exit Q P (Err y) e h p = subst P (sym h) p

-- a state that is the same
pub at_same : (contexts : List (List Name)) (u : ThreadState) (s v : State) → s ≡ v → IsState contexts u s → IsState contexts u v
at_same contexts u s v e is = subst (λ (x : State). IsState contexts u x) e is

-- an integer is set
pub is_set : (contexts : List (List Name)) (names : List Name) (t u : ThreadState) (s : State) (line : ℕ) (x : Name) (v : ℤ) (e : Expr) →
    Alike t u → t.faulted ≡ false → IsState (names ∷ contexts) t s → Ok v ≡ value s.store e →
    ShowsStore names (own_row u) (with_integer x v s.store) →
    IsState (names ∷ contexts) u (with_number line (value s.store e) (set_integer x) s)
is_set contexts names t u s line x v e same f is number shows =
    at_same (names ∷ contexts) u (set_integer x v s) (with_number line (value s.store e) (set_integer x) s)
    (sym (settled_ok line v (value s.store e) (set_integer x) s number))
    (is_stored contexts names t u s (with_integer x v) same f is shows)

-- a number is put in a block, or its place is outside
pub put_is : (line : ℕ) (b : Name) (i v : ℤ) (first second : Expr) (s : State) → Ok i ≡ value s.store first → Ok v ≡ value s.store second →
    with_number line (value s.store first) (put_value line b second) s ≡ put_number line b i v s
put_is line b i v first second s index number =
    settled_ok line i (value s.store first) (put_value line b second) s index
    ∙ settled_ok line v (value s.store second) (put_number line b i) s number

pub is_put : (contexts : List (List Name)) (names : List Name) (t u : ThreadState) (s : State) (line : ℕ) (b : Name) (v : ℤ) (place : Option ℕ) →
    Alike t u → t.faulted ≡ false → IsState (names ∷ contexts) t s → Puts names b v place s.store (Ok tt) (own_row u) →
    IsState (names ∷ contexts) u (put_in_place line b v place s)
is_put contexts names t u s line b v None same f is puts = let never : ⊥ = let e = puts.0 in cc in absurd never
is_put contexts names t u s line b v (Some i) same f is puts =
    is_stored contexts names t u s (write_block b (slice_set (block_of s.store.blocks b) i v)) same f is puts.1

pub put_faults : (contexts : List (List Name)) (names : List Name) (t u : ThreadState) (s : State) (line : ℕ) (b : Name) (v : ℤ) (place : Option ℕ)
    (kind : FaultKind) → Alike t u → t.faulted ≡ false → IsState (names ∷ contexts) t s → Puts names b v place s.store (Err kind) (own_row u) →
    IsState (names ∷ contexts) u s × (put_in_place line b v place s ≡ with_fault kind line s)
put_faults contexts names t u s line b v None kind same f is puts =
    let e : kind ≡ faults.Index = let x = puts.0 in cc in
    (is_stored contexts names t u s (λ st. st) same f is puts.1, ap (λ (k : FaultKind). with_fault k line s) (sym e))
put_faults contexts names t u s line b v (Some i) kind same f is puts = let never : ⊥ = let e = puts.0 in cc in absurd never

-- an action that changes the thread's own row
pub is_acting : (contexts : List (List Name)) (names : List Name) (t u : ThreadState) (s : State) (f : Store → Store) (deed : Deed) (words : ℕ) →
    Acting t u → t.faulted ≡ false → IsState (names ∷ contexts) t s → ShowsStore names (own_row u) (f s.store) →
    IsState (names ∷ contexts) u (on_store f (with_action deed words s))
unfolding with_action
is_acting contexts names t u s f deed words acts e is shows = record {
  label = acts.label ∙ is.label;
  done = let d = is.done in let n = acts.done in omega (arith, d, n);
  forks = acts.forks ∙ is.forks;
  faulted = acts.faulted ∙ is.faulted;
  calls = acts.calls ∙ is.calls;
  turns = acts.turns ∙ is.turns;
  holds =
      subst (λ (b : Bool). Holds b (names ∷ contexts) (rows_of u) (f s.store) s.callers) (sym acts.faulted)
      (subst (λ cs. Holds t.faulted (names ∷ contexts) (own_row u ∷ waiting_rows cs) (f s.store) s.callers) (sym acts.callers)
      (own_changed t.faulted names contexts (own_row t) (own_row u) (waiting_rows t.callers.items) s.store (f s.store) s.callers e is.holds shows));
}

-- a slot of the row is one of its names
pub own_below : (contexts : List (List Name)) (names : List Name) (t : ThreadState) (s : State) (slot : ℕ) → t.faulted ≡ false →
    IsState (names ∷ contexts) t s → slot < length (own_row t) → slot < length names
own_below contexts names t s slot e is within =
    let shows = own_store contexts names t s e is in
    let same : length (own_row t) ≡ length names = ap length shows.slots ∙ length-map names (entry_of s.store) in
    omega (arith, same, within)
