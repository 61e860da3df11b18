-- A call that begins, and a call that meets a limit.
use Rattle.std.proofs.Common.{◌≡◌, ◌⊎◌, inl, inr, ℕ, suc, ◌+◌, ◌<◌, ◌≤◌, nat_lt, Bool, true, false, List, [], ◌∷◌, ◌++◌, map, Result, Ok, Err, refl, sym, ap, ◌∙◌, subst, arith, rules}
use Rattle.std.specs.Prelude.{reverse}
use Rattle.std.proofs.lemmas.List.{reverse-append, map-append}
use Rattle.dag_order.specs.declared.fault.FaultKind.{FaultKind}
use Rattle.dag_order.specs.declared.fault.FaultKind.TheVariants as faults
use Rattle.depth_first_run.specs.Passed.Tree.{Name}
use Rattle.depth_first_run.specs.States.{Setting, State, with_fault, with_turn, with_depth, under_limit}
use Rattle.depth_first_run.specs.Calls.{Passing, entered}
use Rattle.slot_store.specs.Rows.{Entry}
use Rattle.slot_store.specs.Shown.{slots_shown}
use Rattle.slot_store.specs.Agreement.{ShowsStore}
use Rattle.slot_store.specs.declared.slots.Slots.{Slots}
use Rattle.thread_state.specs.Rows.{waiting_rows, ShowStores, Holds}
use Rattle.thread_state.specs.States.{IsState, rows_of}
use Rattle.thread_state.specs.Calls.{begun, Refuses}
use Rattle.thread_state.specs.declared.state.ThreadState.{ThreadState}
use Rattle.thread_state.proofs.Holding.{going, goes_on}
use Rattle.thread_state.proofs.Steps.{at_same, no_turn, next_turn}

-- a row that begins to wait is the innermost
pub one_waits : (callers : List Slots) (row : Slots) → waiting_rows (callers ++ row ∷ []) ≡ slots_shown row ∷ waiting_rows callers
one_waits callers row =
    ap reverse (map-append slots_shown callers (row ∷ [])) ∙ reverse-append (map slots_shown callers) (slots_shown row ∷ [])

-- the limits
below : (n m : ℕ) → n < m → nat_lt n m ≡ true
below n m lt = cases (nat_lt n m) refl
  where
    cases : (b : Bool) → nat_lt n m ≡ b → nat_lt n m ≡ true
    cases true e = e
    cases false e = let ge : m ≤ n = search rules in absurd (omega (arith, ge, lt))

above : (n m : ℕ) → m ≤ n → nat_lt n m ≡ false
above n m ge = cases (nat_lt n m) refl
  where
    cases : (b : Bool) → nat_lt n m ≡ b → nat_lt n m ≡ false
    cases false e = e
    cases true e = let lt : n < m = search rules in absurd (omega (arith, ge, lt))

room_left : (n m line : ℕ) (f : State → State) (s : State) → n < m → with_depth n m line f s ≡ f s
unfolding with_depth
room_left n m line f s lt = ap (λ (b : Bool). under_limit b line f s) (below n m lt)

too_deep : (n m line : ℕ) (f : State → State) (s : State) → m ≤ n → with_depth n m line f s ≡ with_fault faults.Depth line s
unfolding with_depth
too_deep n m line f s ge = ap (λ (b : Bool). under_limit b line f s) (above n m ge)

-- a call that meets a limit
abbrev pub MeetsLimit : (calls turns : ℕ) → FaultKind → Type 0
MeetsLimit calls turns kind =
    ((kind ≡ faults.Depth) × (10000 ≤ calls)) ⊎ ((kind ≡ faults.Turns) × (calls < 10000) × (turns ≡ 0))

refused_ok : (c : Setting) (line : ℕ) (h : Passing) (limit : FaultKind) (s : State) → c.most_calls ≡ 10000 → MeetsLimit s.calls s.turns limit →
    begun c line (Ok h) s ≡ with_fault limit line s
refused_ok c line h limit s most (inl (depth, deep)) =
    too_deep s.calls c.most_calls line (with_turn line (entered h)) s (omega (arith, most, deep))
    ∙ ap (λ (k : FaultKind). with_fault k line s) (sym depth)
refused_ok c line h limit s most (inr (turns, room, none)) =
    room_left s.calls c.most_calls line (with_turn line (entered h)) s (omega (arith, most, room))
    ∙ no_turn line s.turns (entered h) s refl none
    ∙ ap (λ (k : FaultKind). with_fault k line s) (sym turns)

pub refused_is : (c : Setting) (line : ℕ) (r : Result Passing FaultKind) (limit kind : FaultKind) (s : State) → c.most_calls ≡ 10000 →
    MeetsLimit s.calls s.turns limit → Refuses limit kind r → begun c line r s ≡ with_fault kind line s
refused_is c line (Ok h) limit kind s most meets same =
    refused_ok c line h limit s most meets ∙ ap (λ (k : FaultKind). with_fault k line s) (sym same)
refused_is c line (Err fault) limit kind s most meets same = ap (λ (k : FaultKind). with_fault k line s) (sym same)

-- the same limits, of the thread
pub meets_so : (calls turns more fewer : ℕ) (kind : FaultKind) → calls ≡ more → turns ≡ fewer → MeetsLimit calls turns kind → MeetsLimit more fewer kind
meets_so calls turns more fewer kind e f (inl (depth, deep)) = inl (depth, omega (arith, e, deep))
meets_so calls turns more fewer kind e f (inr (left, room, none)) = inr (left, omega (arith, e, room), sym f ∙ none)

-- a function begins
begun_is : (c : Setting) (line left : ℕ) (h : Passing) (s : State) → c.most_calls ≡ 10000 → s.calls < 10000 → s.turns ≡ suc left →
    begun c line (Ok h) s ≡ entered h (record s { turns = left })
begun_is c line left h s most room turns =
    room_left s.calls c.most_calls line (with_turn line (entered h)) s (omega (arith, most, room))
    ∙ next_turn line left (entered h) s turns

pub is_entered : (contexts : List (List Name)) (names callee_names : List Name) (t u : ThreadState) (c : Setting) (line : ℕ)
    (r : Result Passing FaultKind) (h : Passing) (s : State) (row caller : List Entry) → c.most_calls ≡ 10000 → t.faulted ≡ false →
    t.calls < 10000 → u.label ≡ t.label → u.done ≡ t.done → u.forks ≡ t.forks → u.faulted ≡ t.faulted → u.calls ≡ t.calls + 1 →
    u.turns + 1 ≡ t.turns → rows_of u ≡ row ∷ caller ∷ waiting_rows t.callers.items → ShowsStore callee_names row h.callee →
    ShowsStore names caller h.caller → r ≡ Ok h → IsState (names ∷ contexts) t s → IsState (callee_names ∷ names ∷ contexts) u (begun c line r s)
is_entered contexts names callee_names t u c line r h s row caller most e room label done forks faulted calls turns rows shows shows_caller passes is =
    let left : s.turns ≡ suc u.turns = let f = is.turns in omega (arith, f, turns) in
    let same : begun c line r s ≡ entered h (record s { turns = u.turns }) =
    ap (λ (x : Result Passing FaultKind). begun c line x s) passes
    ∙ begun_is c line u.turns h s most (let f = is.calls in omega (arith, f, room)) left in
    let older = (going t.faulted (names ∷ contexts) (rows_of t) s.store s.callers e is.holds).1 in
    at_same (callee_names ∷ names ∷ contexts) u (entered h (record s { turns = u.turns })) (begun c line r s) (sym same) (record {
      label = label ∙ is.label;
      done = done ∙ is.done;
      forks = forks ∙ is.forks;
      faulted = faulted ∙ is.faulted;
      calls = let f = is.calls in omega (arith, f, calls);
      turns = refl;
      holds = goes_on u.faulted (callee_names ∷ names ∷ contexts) (rows_of u) h.callee (h.caller ∷ s.callers) (faulted ∙ e)
          (subst (λ rs. ShowStores (callee_names ∷ names ∷ contexts) rs (h.callee ∷ h.caller ∷ s.callers)) (sym rows) (shows, (shows_caller, older)));
    })

-- a thread whose rows show the same is where it was
pub is_same : (contexts : List (List Name)) (t u : ThreadState) (s : State) → u.label ≡ t.label → u.done ≡ t.done → u.forks ≡ t.forks →
    u.faulted ≡ t.faulted → u.calls ≡ t.calls → u.turns ≡ t.turns → rows_of u ≡ rows_of t → IsState contexts t s → IsState contexts u s
is_same contexts t u s label done forks faulted calls turns rows is = record {
  label = label ∙ is.label;
  done = done ∙ is.done;
  forks = forks ∙ is.forks;
  faulted = faulted ∙ is.faulted;
  calls = calls ∙ is.calls;
  turns = turns ∙ is.turns;
  holds =
      subst (λ (b : Bool). Holds b contexts (rows_of u) s.store s.callers) (sym faulted)
      (subst (λ (rs : List (List Entry)). Holds t.faulted contexts rs s.store s.callers) (sym rows) is.holds);
}
