-- What a Join does to the state that a thread is in.
use Rattle.std.proofs.Common.{◌≡◌, ℕ, ◌+◌, Bool, true, false, List, [], ◌∷◌, ◌++◌, refl, sym, ap, ◌∙◌, arith, append-nil}
use Rattle.depth_first_run.specs.Passed.Tree.{Name}
use Rattle.depth_first_run.specs.Passed.Actions as actions
use Rattle.depth_first_run.specs.Stores.{Store, Held, nothing, held_words, stored_words}
use Rattle.depth_first_run.specs.States.{State, holdings, with_action, joined, with_result, given_back, emptied}
use Rattle.depth_first_run.specs.Run.{on_store, no_name}
use Rattle.slot_store.specs.Rows.{Entry}
use Rattle.slot_store.specs.Agreement.{ShowsStore, blocks_under}
use Rattle.depth_first_run.specs.Branches.{joined_store}
use Rattle.slot_store.proofs.Names.{is_itself}
use Rattle.thread_state.specs.Rows.{waiting_rows, Holds}
use Rattle.thread_state.specs.States.{IsState, own_row, rows_of, words_held}
use Rattle.thread_state.specs.declared.state.ThreadState.{ThreadState}
use Rattle.thread_state.proofs.Holding.{ends}
use Rattle.thread_state.proofs.Held.{holdings_are}
use Rattle.depth_first_run.specs.Passed.Names.{is_among}
use Rattle.depth_first_run.specs.Passed.Actions.{Deed}
use Rattle.thread_state.proofs.Steps.{Acting, at_same, is_counted, is_acting, own_store}

-- a thread that ended has no caller that waits
none_waits : (b : Bool) (names : List Name) (rows : List (List Entry)) (store : Store) (callers : List Store) →
    Holds b (names ∷ []) rows store callers → callers ≡ []
none_waits true names rows store callers h = h.2
none_waits false names [] store callers h = absurd h
none_waits false names (row ∷ []) store [] h = refl
none_waits false names (row ∷ []) store (more ∷ callers) h = absurd h.1
none_waits false names (row ∷ more ∷ rows) store callers h = absurd h.1

-- the words that it brings
pub brought_are : (names : List Name) (child : ThreadState) (d : State) → IsState (names ∷ []) child d → words_held child ≡ held_words d.store.blocks
brought_are names child d is =
    let all = holdings_are (names ∷ []) child d is in
    let none = none_waits child.faulted names (rows_of child) d.store d.callers is.holds in
    let rest : stored_words d.callers ≡ 0 = ap stored_words none in
    omega (arith, all, rest)

-- the three ways of a Join
into_faulted : (assigns : Name → Bool) (ordinal : ℕ) (d s : State) → s.faulted ≡ true →
    joined assigns ordinal d s ≡ with_action (actions.joins ordinal) (held_words d.store.blocks) s
unfolding joined
into_faulted assigns ordinal d s e =
    ap (λ (b : Bool). with_result b d.faulted assigns d (with_action (actions.joins ordinal) (given_back b d.faulted d s) s)) e

of_faulted : (assigns : Name → Bool) (ordinal : ℕ) (d s : State) → s.faulted ≡ false → d.faulted ≡ true →
    joined assigns ordinal d s ≡ emptied (with_action (actions.joins ordinal) (holdings s) s)
unfolding joined
of_faulted assigns ordinal d s e f =
    ap (λ (b : Bool). with_result b d.faulted assigns d (with_action (actions.joins ordinal) (given_back b d.faulted d s) s)) e
    ∙ ap (λ (b : Bool). with_result false b assigns d (with_action (actions.joins ordinal) (given_back false b d s) s)) f

of_going : (assigns : Name → Bool) (ordinal : ℕ) (d s : State) → s.faulted ≡ false → d.faulted ≡ false →
    joined assigns ordinal d s ≡ on_store (joined_store assigns d.store) (with_action (actions.joins ordinal) 0 s)
unfolding joined
of_going assigns ordinal d s e f =
    ap (λ (b : Bool). with_result b d.faulted assigns d (with_action (actions.joins ordinal) (given_back b d.faulted d s) s)) e
    ∙ ap (λ (b : Bool). with_result false b assigns d (with_action (actions.joins ordinal) (given_back false b d s) s)) f

-- a thread whose child a fault ended gives all back
is_emptied : (contexts : List (List Name)) (t u : ThreadState) (s : State) (ordinal words : ℕ) → u.label ≡ t.label →
    u.done ≡ t.done + 1 → u.forks ≡ t.forks → u.faulted ≡ true → u.calls ≡ t.calls → u.turns ≡ t.turns → own_row u ≡ [] →
    u.callers.items ≡ [] → IsState contexts t s → IsState contexts u (emptied (with_action (actions.joins ordinal) words s))
unfolding with_action
is_emptied contexts t u s ordinal words label done forks faulted calls turns row callers is = record {
  label = label ∙ is.label;
  done = let e = is.done in omega (arith, e, done);
  forks = forks ∙ is.forks;
  faulted = faulted;
  calls = calls ∙ is.calls;
  turns = turns ∙ is.turns;
  holds = ends u.faulted contexts (rows_of u) nothing [] faulted
      (ap (λ xs. xs ∷ waiting_rows u.callers.items) row ∙ ap (λ cs. [] ∷ waiting_rows cs) callers) refl refl;
}

pub joins_of_faulted : (contexts : List (List Name)) (names : List Name) (t u child : ThreadState) (s d : State) (assigns : Name → Bool)
    (ordinal : ℕ) → t.faulted ≡ false → child.faulted ≡ true → IsState (names ∷ []) child d → u.label ≡ t.label → u.done ≡ t.done + 1 →
    u.forks ≡ t.forks → u.faulted ≡ true → u.calls ≡ t.calls → u.turns ≡ t.turns → own_row u ≡ [] → u.callers.items ≡ [] →
    IsState contexts t s → IsState contexts u (joined assigns ordinal d s)
joins_of_faulted contexts names t u child s d assigns ordinal e f of_child label done forks faulted calls turns row callers is =
    let same = of_faulted assigns ordinal d s (sym is.faulted ∙ e) (sym of_child.faulted ∙ f) in
    at_same contexts u _ (joined assigns ordinal d s) (sym same)
    (is_emptied contexts t u s ordinal (holdings s) label done forks faulted calls turns row callers is)

pub joins_into_faulted : (contexts : List (List Name)) (t u : ThreadState) (s d : State) (assigns : Name → Bool) (ordinal : ℕ) →
    t.faulted ≡ true → Acting t u → own_row u ≡ own_row t → IsState contexts t s → IsState contexts u (joined assigns ordinal d s)
joins_into_faulted contexts t u s d assigns ordinal e acts row is =
    let same = into_faulted assigns ordinal d s (sym is.faulted ∙ e) in
    let rows : rows_of u ≡ rows_of t = ap (λ xs. xs ∷ waiting_rows u.callers.items) row ∙ ap (λ cs. own_row t ∷ waiting_rows cs) acts.callers in
    at_same contexts u _ (joined assigns ordinal d s) (sym same)
    (is_counted contexts t u s (actions.joins ordinal) (held_words d.store.blocks) acts.label acts.done acts.forks acts.faulted acts.calls acts.turns rows is)

pub joins_going : (contexts : List (List Name)) (names : List Name) (t u child : ThreadState) (s d : State) (assigns : Name → Bool)
    (ordinal : ℕ) → t.faulted ≡ false → child.faulted ≡ false → IsState (names ∷ []) child d → Acting t u → IsState (names ∷ contexts) t s →
    ShowsStore names (own_row u) (joined_store assigns d.store s.store) → IsState (names ∷ contexts) u (joined assigns ordinal d s)
joins_going contexts names t u child s d assigns ordinal e f of_child acts is shows =
    let same = of_going assigns ordinal d s (sym is.faulted ∙ e) (sym of_child.faulted ∙ f) in
    at_same (names ∷ contexts) u _ (joined assigns ordinal d s) (sym same)
    (is_acting contexts names t u s (joined_store assigns d.store) (actions.joins ordinal) 0 acts e is shows)

-- a store that is the same
stays_so : (deed : Deed) (words : ℕ) (s : State) (f : Store → Store) → f s.store ≡ s.store → on_store f (with_action deed words s) ≡ with_action deed words s
unfolding with_action
stays_so deed words s f e = ap (λ (st : Store). record (with_action deed words s) { store = st }) e

-- a row without slots shows no block
no_blocks : (blocks : List Held) → ((x : Name) → is_among x [] ≡ false → blocks_under blocks x ≡ []) → blocks ≡ []
no_blocks [] known = refl
no_blocks (h ∷ hs) known =
    let some : blocks_under (h ∷ hs) h.name ≡ h.items ∷ blocks_under hs h.name = rw (is_itself h.name) refl in
    let none : h.items ∷ blocks_under hs h.name ≡ [] = sym some ∙ known h.name refl in
    let never : ⊥ = cc in absurd never

pub joins_dummies : (contexts : List (List Name)) (t u child : ThreadState) (s d : State) (ordinal : ℕ) → t.faulted ≡ false →
    child.faulted ≡ false → IsState ([] ∷ []) child d → Acting t u → own_row u ≡ own_row t → IsState contexts t s →
    IsState contexts u (joined no_name ordinal d s)
joins_dummies contexts t u child s d ordinal e f of_child acts row is =
    let same = of_going no_name ordinal d s (sym is.faulted ∙ e) (sym of_child.faulted ∙ f) in
    let none : d.store.blocks ≡ [] = no_blocks d.store.blocks (own_store [] [] child d f of_child).known in
    let rows : rows_of u ≡ rows_of t = ap (λ xs. xs ∷ waiting_rows u.callers.items) row ∙ ap (λ cs. own_row t ∷ waiting_rows cs) acts.callers in
    let kept : joined_store no_name d.store s.store ≡ s.store =
    ap (λ (hs : List Held). record s.store { blocks = s.store.blocks ++ hs }) none
    ∙ ap (λ (hs : List Held). record s.store { blocks = hs }) (append-nil s.store.blocks) in
    let v = with_action (actions.joins ordinal) 0 s in
    let back : on_store (joined_store no_name d.store) v ≡ v = stays_so (actions.joins ordinal) 0 s (joined_store no_name d.store) kept in
    at_same contexts u v (joined no_name ordinal d s) (sym back ∙ sym same)
    (is_counted contexts t u s (actions.joins ordinal) 0 acts.label acts.done acts.forks acts.faulted acts.calls acts.turns rows is)
