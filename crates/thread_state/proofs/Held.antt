-- The words that a thread holds are those of its state.
use Rattle.std.proofs.Common.{◌≡◌, ℕ, ◌+◌, Bool, true, false, List, [], ◌∷◌, ◌++◌, map, refl, sym, ap, ◌∙◌, arith}
use Rattle.std.specs.Prelude.{reverse}
use Rattle.std.proofs.lemmas.List.{reverse-append}
use Rattle.dag_order.specs.declared.fault.FaultKind.{FaultKind}
use Rattle.depth_first_run.specs.Passed.Tree.{Name}
use Rattle.depth_first_run.specs.Stores.{Store, nothing, held_words, stored_words}
use Rattle.depth_first_run.specs.States.{State, holdings, with_action, with_fault}
use Rattle.slot_store.specs.Rows.{Entry}
use Rattle.slot_store.specs.Shown.{slots_shown}
use Rattle.slot_store.proofs.Holdings.{words_are}
use Rattle.thread_state.specs.Rows.{waiting_rows, all_words, ShowStores, Holds}
use Rattle.thread_state.specs.States.{IsState, own_row, rows_of, words_held}
use Rattle.thread_state.specs.declared.state.ThreadState.{ThreadState}
use Rattle.thread_state.proofs.Holding.{ends}

-- words in any order
all_append : (xs ys : List (List Entry)) → all_words (xs ++ ys) ≡ all_words xs + all_words ys
all_append [] ys = omega arith
all_append (x ∷ xs) ys = let rest = all_append xs ys in omega (arith, rest)

all_reversed : (xs : List (List Entry)) → all_words (reverse xs) ≡ all_words xs
all_reversed [] = refl
all_reversed (x ∷ xs) =
    let rest = all_reversed xs in
    let last = all_append (reverse xs) (x ∷ []) in
    let turned = ap all_words (reverse-append (x ∷ []) xs) in
    omega (arith, rest, last, turned)

-- the words of rows that show stores
shown_words : (contexts : List (List Name)) (rows : List (List Entry)) (stores : List Store) → ShowStores contexts rows stores →
    all_words rows ≡ stored_words stores
shown_words [] [] [] h = refl
shown_words [] [] (store ∷ stores) h = absurd h
shown_words [] (row ∷ rows) stores h = absurd h
shown_words (names ∷ contexts) [] stores h = absurd h
shown_words (names ∷ contexts) (row ∷ rows) [] h = absurd h
shown_words (names ∷ contexts) (row ∷ rows) (store ∷ stores) h =
    let first = words_are names row store h.0 in
    let rest = shown_words contexts rows stores h.1 in
    omega (arith, first, rest)

rows_words : (b : Bool) (contexts : List (List Name)) (rows : List (List Entry)) (store : Store) (callers : List Store) →
    Holds b contexts rows store callers → all_words rows ≡ held_words store.blocks + stored_words callers
rows_words false contexts rows store callers h = shown_words contexts rows (store ∷ callers) h
rows_words true contexts rows store callers h =
    ap all_words h.0 ∙ sym (ap (λ (st : Store). held_words st.blocks + stored_words callers) h.1 ∙ ap (λ cs. 0 + stored_words cs) h.2)

pub holdings_are : (contexts : List (List Name)) (t : ThreadState) (s : State) → IsState contexts t s → words_held t ≡ holdings s
holdings_are contexts t s is =
    let waiting : all_words (waiting_rows t.callers.items) ≡ all_words (map slots_shown t.callers.items) = all_reversed (map slots_shown t.callers.items) in
    let rows : all_words (rows_of t) ≡ holdings s = rows_words t.faulted contexts (rows_of t) s.store s.callers is.holds in
    omega (arith, waiting, rows)

-- the action of a fault
pub is_fault : (contexts : List (List Name)) (t u : ThreadState) (s : State) (kind : FaultKind) (line : ℕ) → u.label ≡ t.label →
    u.done ≡ t.done + 1 → u.forks ≡ t.forks → u.faulted ≡ true → u.calls ≡ t.calls → u.turns ≡ t.turns → own_row u ≡ [] →
    u.callers.items ≡ [] → IsState contexts t s → IsState contexts u (with_fault kind line s)
unfolding with_fault with_action
is_fault contexts t u s kind line label done forks faulted calls turns row callers is = record {
  label = label ∙ is.label;
  done = let e = is.done in omega (arith, e, done);
  forks = forks ∙ is.forks;
  faulted = faulted;
  calls = calls ∙ is.calls;
  turns = turns ∙ is.turns;
  holds = ends u.faulted contexts (rows_of u) nothing [] faulted
      (ap (λ xs. xs ∷ waiting_rows u.callers.items) row ∙ ap (λ cs. [] ∷ waiting_rows cs) callers) refl refl;
}
