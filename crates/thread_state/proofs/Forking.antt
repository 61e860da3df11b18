-- What a Fork gives to a child, and what it leaves to its parent.
use Rattle.std.proofs.Common.{◌≡◌, ℕ, suc, ◌+◌, Bool, false, List, [], ◌∷◌, refl, sym, ap, ◌∙◌, subst, arith}
use Rattle.dag_order.specs.LabelOrder.{fork_of}
use Rattle.depth_first_run.specs.Passed.Tree.{Name}
use Rattle.depth_first_run.specs.Stores.{Store, Held, those_named, those_not_named}
use Rattle.depth_first_run.specs.States.{Setting, State, Item, child_of, parent_of}
use Rattle.depth_first_run.specs.Run.{no_name}
use Rattle.slot_store.specs.Rows.{Entry}
use Rattle.slot_store.specs.Agreement.{ShowsStore, blocks_under}
use Rattle.depth_first_run.specs.Branches.{child_store}
use Rattle.thread_state.specs.Rows.{waiting_rows, ShowStores, Holds}
use Rattle.thread_state.specs.States.{IsState, own_row, rows_of}
use Rattle.thread_state.specs.declared.state.ThreadState.{ThreadState}
use Rattle.thread_state.proofs.Holding.{goes_on}

-- a child that begins
pub is_child : (contexts : List (List Name)) (names : List Name) (t u : ThreadState) (c : Setting) (passes : Name → Bool) (s : State) →
    u.label ≡ fork_of t.label (suc t.forks) → u.done ≡ 0 → u.forks ≡ 0 → u.faulted ≡ false → u.calls ≡ t.calls → u.turns ≡ c.most_turns →
    u.callers.items ≡ [] → IsState contexts t s → ShowsStore names (own_row u) (child_store passes s.store) →
    IsState (names ∷ []) u (child_of c passes s)
is_child contexts names t u c passes s label done forks faulted calls turns callers is shows = record {
  label = label ∙ ap (λ (l : List ℕ). fork_of l (suc t.forks)) is.label ∙ ap (λ n. fork_of s.label (suc n)) is.forks;
  done = done;
  forks = forks;
  faulted = faulted;
  calls = calls ∙ is.calls;
  turns = turns;
  holds = goes_on u.faulted (names ∷ []) (rows_of u) (child_store passes s.store) [] faulted
      (subst (λ cs. ShowStores (names ∷ []) (own_row u ∷ waiting_rows cs) (child_store passes s.store ∷ [])) (sym callers) (shows, tt));
}

-- a child of a tree of dummies takes no block
none_named : (hs : List Held) → those_named no_name hs ≡ []
none_named [] = refl
none_named (h ∷ hs) = none_named hs

all_others : (hs : List Held) → those_not_named no_name hs ≡ hs
all_others [] = refl
all_others (h ∷ hs) = ap (λ rest. h ∷ rest) (all_others hs)

pub shows_no_slot : (s : Store) → ShowsStore [] [] (child_store no_name s)
shows_no_slot s = record {
  distinct = λ i j il jl e. absurd (omega (arith, il));
  slots = refl;
  known = λ x e. ap (λ (hs : List Held). blocks_under hs x) (none_named s.blocks);
}

-- its parent keeps all
pub is_parent : (contexts : List (List Name)) (t u : ThreadState) (s : State) (items : List Item) → u.label ≡ t.label → u.done ≡ t.done + 1 →
    u.forks ≡ t.forks + 1 → u.faulted ≡ t.faulted → u.calls ≡ t.calls → u.turns ≡ t.turns → rows_of u ≡ rows_of t → IsState contexts t s →
    IsState contexts u (parent_of no_name items s)
is_parent contexts t u s items label done forks faulted calls turns rows is =
    let kept = all_others s.store.blocks in record {
      label = label ∙ is.label;
      done = let e = is.done in omega (arith, e, done);
      forks = let e = is.forks in omega (arith, e, forks);
      faulted = faulted ∙ is.faulted;
      calls = calls ∙ is.calls;
      turns = turns ∙ is.turns;
      holds =
          subst (λ (hs : List Held). Holds u.faulted contexts (rows_of u) (record s.store { blocks = hs }) s.callers) (sym kept)
          (subst (λ (b : Bool). Holds b contexts (rows_of u) s.store s.callers) (sym faulted)
          (subst (λ (rs : List (List Entry)). Holds t.faulted contexts rs s.store s.callers) (sym rows) is.holds));
    }
