-- A Join: the child that ended anywhere is the one that is joined.
use Rattle.std.proofs.Common.{◌≡◌, ℕ, zero, suc, ◌+◌, ◌<◌, ◌≤◌, Bool, true, false, List, [], ◌∷◌, ◌++◌, map, filter, length, Option, Some, None, Vec, refl, sym, ◌∙◌, ap, subst, arith, append_assoc, inl, inr}
use Rattle.std.specs.Prelude.{reverse}
use Rattle.std.specs.Str.{bytes_eq}
use Rattle.std.proofs.Math.Logic.{∥∥₁_elim, ∥∥₁_map}
use Rattle.std.proofs.lemmas.Bool.{cases_lt}
use denote.Struct.Props.{props}
use mathlib.Core.List.{reverse-append}
use Rattle.std.specs.declared.alloc.Global.{Global}
use Rattle.dag_order.specs.LabelOrder.{fork_of}
use Rattle.block_arena.specs.declared.record_block.RecordBlock.{RecordBlock}
use Rattle.depth_first_list.specs.Actions as actions
use Rattle.depth_first_list.specs.Actions.{record_words}
use Rattle.thread_run.specs.Passed.Tree.{Name, Func, Program}
use Rattle.thread_run.specs.Passed.Ownership.{Ownership}
use Rattle.thread_state.specs.Passed.Stores.{Store, Held, held_words, stored_words}
use Rattle.thread_state.specs.Passed.States.{Setting, State, Item, next_action, with_action, joined, with_result, given_back, ended, holdings}
use Rattle.thread_state.specs.Passed.Middle.{Frame, joins}
use Rattle.thread_state.proofs.Passed.Words.{held_append}
use Rattle.node_table.specs.Table.{Table}
use Rattle.node_table.specs.Names.{slot_names, name_at}
use Rattle.node_table.specs.Reading.{AreSlots, FitsSlots}
use Rattle.thread_state.specs.Passed.Rows.{Entry, blocks_at}
use Rattle.thread_state.specs.Passed.Agreement.{ShowsStore, blocks_under}
use Rattle.thread_state.proofs.Passed.Agreement.{entry_is, row_length}
use Rattle.thread_run.specs.Passed.Counts.{hit, count}
use Rattle.thread_run.proofs.Passed.Reading.{join_meets_none}
use Rattle.thread_stack.specs.declared.branch.Branch.{Branch}
use Rattle.thread_stack.specs.declared.branch.Branch.TheVariants.{Par, Dummies}
use Rattle.thread_stack.specs.declared.frame.Frame.TheVariants.{Joins}
use Rattle.thread_stack.specs.Frames.{AreFrames, IsJoinOf, RunsIn, no_function}
use Rattle.thread_run.specs.Passed.Points.{words_at_end}
use Rattle.thread_run.specs.Passed.Laws.{join_words, joined_part}
use Rattle.thread_run.specs.Passed.Threads as threads
use Rattle.thread_run.specs.Passed.Threads.{IsThread, open_children}
use Rattle.thread_run.proofs.Passed.Alone.{joined_label}
use Rattle.thread_run.proofs.Passed.Telling.{thread_joins}
use Rattle.thread_output.specs.Telling.{Tells}
use Rattle.thread_output.specs.declared.told.Told.{Told}
use Rattle.thread_state.specs.States.{IsState, own_row, rows_of, words_held}
use Rattle.thread_state.specs.Joins.{released, CanTakeIn}
use Rattle.thread_state.specs.declared.state.ThreadState.{ThreadState}
use Rattle.thread_state.proofs.Holding as holding
use Rattle.thread_state.proofs.Held.{holdings_are}
use Rattle.thread_state.proofs.Joining.{brought_are}
use Rattle.thread_state.proofs.Steps.{own_store}
use Rattle.thread_run.specs.Stands.{InState}
use Rattle.thread_run.specs.Functions.{forked_in, frames_of, functions_of}
use Rattle.thread_run.specs.declared.ready.Ready.TheVariants as ready
use Rattle.thread_run.specs.Going.{IsBefore}
use Rattle.thread_run.specs.declared.run.ThreadRun.{ThreadRun}
use Rattle.thread_frames.proofs.Sets.{fits_had}
use Rattle.thread_frames.specs.Views.{brought, all_brought, recorded}
use Rattle.thread_frames.specs.Joining.{JoinsState, CanJoin}
use Rattle.thread_frames.specs.Slots.{assigned_slots, assigned_of}
use Rattle.thread_frames.specs.Points.{At, AreChildren, IsChild, IsDelivered, IsEndOf, function_of_child}
use Rattle.thread_frames.specs.declared.ended.Ended.{Ended}
use Rattle.thread_frames.specs.declared.open_child.OpenChild.{OpenChild}
use Rattle.thread_frames.specs.declared.prepared.Prepared.TheVariants.{Nothing, Join}
use Rattle.thread_frames.proofs.Acting.{quiet_behind}
use Rattle.thread_frames.proofs.Listing.{JoinFrame, join_frame, released_is}

-- ---- what a Join leaves of the counts and of the words

kept_done : (a b : Bool) (assigned : Name → Bool) (d v : State) → State.done (with_result a b assigned d v) ≡ v.done
kept_done true b assigned d v = refl
kept_done false true assigned d v = refl
kept_done false false assigned d v = refl

kept_forks : (a b : Bool) (assigned : Name → Bool) (d v : State) → State.forks (with_result a b assigned d v) ≡ v.forks
kept_forks true b assigned d v = refl
kept_forks false true assigned d v = refl
kept_forks false false assigned d v = refl

joined_done : (assigned : Name → Bool) (child : ℕ) (d s : State) → State.done (joined assigned child d s) ≡ suc s.done
unfolding joined with_action
joined_done assigned child d s = kept_done s.faulted d.faulted assigned d (with_action (actions.joins child) (given_back s.faulted d.faulted d s) s)

joined_forks : (assigned : Name → Bool) (child : ℕ) (d s : State) → State.forks (joined assigned child d s) ≡ s.forks
unfolding joined with_action
joined_forks assigned child d s = kept_forks s.faulted d.faulted assigned d (with_action (actions.joins child) (given_back s.faulted d.faulted d s) s)

result_words : (a b : Bool) (assigned : Name → Bool) (d s v : State) → (b ≡ true → held_words d.store.blocks ≡ 0) → v.store ≡ s.store → v.callers ≡ s.callers
    → holdings (with_result a b assigned d v) + given_back a b d s ≡ holdings s + held_words d.store.blocks
result_words true b assigned d s v none e f = let n = ap (λ (st : Store). held_words st.blocks) e in let m = ap stored_words f in omega (arith, n, m)
result_words false true assigned d s v none e f = let z = none refl in omega (arith, z)
result_words false false assigned d s v none e f =
    let n = ap (λ (st : Store). held_words st.blocks) e in
    let m = ap stored_words f in
    let both = held_append v.store.blocks d.store.blocks in
    omega (arith, n, m, both)

none_held : (names : List Name) (u : ThreadState) (d : State) → IsState (names ∷ []) u d → d.faulted ≡ true → held_words d.store.blocks ≡ 0
none_held names u d is e =
    ap (λ (st : Store). held_words st.blocks) (holding.ended u.faulted (names ∷ []) (rows_of u) d.store d.callers (is.faulted ∙ e) is.holds).1

joined_words : (names : List Name) (u : ThreadState) (assigned : Name → Bool) (child : ℕ) (d s : State) → IsState (names ∷ []) u d
    → holdings (joined assigned child d s) + given_back s.faulted d.faulted d s ≡ holdings s + held_words d.store.blocks
unfolding joined with_action
joined_words names u assigned child d s is =
    result_words s.faulted d.faulted assigned d s (with_action (actions.joins child) (given_back s.faulted d.faulted d s) s) (none_held names u d is) refl refl

-- ---- which functions

some_same : {A : Type 0} (x y : A) → Some x ≡ Some y → x ≡ y
some_same x y e = cc

same_function : (p : Program) (t : Table) (func : Option ℕ) (g h : Func) (gs hs : List Func) → RunsIn p t func (g ∷ gs) → RunsIn p t func (h ∷ hs) → h ≡ g
same_function p t None g h gs hs a b = b ∙ sym a
same_function p t (Some n) g h gs hs a b = some_same h g (sym b.of_program ∙ a.of_program)

first_of_two : {A : Type 0} (x y : A) (xs ys : List A) → x ∷ xs ≡ y ∷ ys → x ≡ y
first_of_two x y xs ys e = cc

rest_of_two : {A : Type 0} (x y : A) (xs ys : List A) → x ∷ xs ≡ y ∷ ys → xs ≡ ys
rest_of_two x y xs ys e = cc

-- ---- the newest child

pub record Popped (c : Setting) (t : Table) (label : List ℕ) (o : threads.OpenChild) (os : List threads.OpenChild) (older : List (List Item)) (x : OpenChild)
    (xs : List OpenChild) : Type 0 where
  pub before : List Item
  pub olders : List (List Item)
  pub older_is : older ≡ before ∷ olders
  pub first : IsChild c t label o before x
  pub rest : AreChildren c t label os olders xs

popped : (c : Setting) (t : Table) (label : List ℕ) (o : threads.OpenChild) (os : List threads.OpenChild) (older : List (List Item)) (x : OpenChild)
    (xs : List OpenChild) → AreChildren c t label (o ∷ os) older (x ∷ xs) → Popped c t label o os older x xs
popped c t label o os [] x xs h = absurd h
popped c t label o os (before ∷ olders) x xs h = record { before = before; olders = olders; older_is = refl; first = h.0; rest = h.1 }

-- ---- the rows

counted : (hs : List Held) (x : Name) → length (blocks_under hs x) ≡ count hs x
unfolding count hit
counted [] x = refl
counted (h ∷ hs) x = go (bytes_eq h.name x) refl (counted hs x)
  where
    go : (b : Bool) → bytes_eq h.name x ≡ b → length (blocks_under hs x) ≡ count hs x → length (blocks_under (h ∷ hs) x) ≡ count (h ∷ hs) x
    go true e rest = rw e (omega (arith, rest))
    go false e rest = rw e (omega (arith, rest))

no_slot : (row : List Entry) (s : ℕ) → length row ≤ s → blocks_at row s ≡ []
no_slot [] s h = refl
no_slot (e ∷ row) zero h = let never : ⊥ = omega (arith, h) in absurd never
no_slot (e ∷ row) (suc s) h = no_slot row s (omega (arith, h))

row_count : (names : List Name) (row : List Entry) (store : Store) → ShowsStore names row store → (s : ℕ) → s < length names
    → length (blocks_at row s) ≡ count store.blocks (name_at names s)
row_count names row store shows s below =
    ap (λ (e : Entry). length e.blocks) (entry_is names row store shows s below) ∙ counted store.blocks (name_at names s)

rows_apart : (names : List Name) (own child : List Entry) (st kid : Store) → ShowsStore names own st → ShowsStore names child kid
    → ((x : Name) → count st.blocks x + count kid.blocks x ≤ 1) → (s : ℕ) → length (blocks_at own s) + length (blocks_at child s) ≤ 1
rows_apart names own child st kid shows brings apart s =
    elim (cases_lt s (length names)) [
      | inl below ↦
          let a = row_count names own st shows s below in
          let b = row_count names child kid brings s below in
          let one = apart (name_at names s) in
          omega (arith, a, b, one)
      | inr above ↦
          let m = row_length names own st shows in
          let n = row_length names child kid brings in
          let a = ap length (no_slot own s (omega (arith, above, m))) in
          let b = ap length (no_slot child s (omega (arith, above, n))) in
          omega (arith, a, b)
    ]

pub takes_in : (names : List Name) (contexts : List (List Name)) (own child : ThreadState) (slots : List ℕ) (s d : State) → own.faulted ≡ false → child.faulted ≡ false
    → IsState (names ∷ contexts) own s → IsState (names ∷ []) child d → FitsSlots (length names) slots
    → ((x : Name) → count s.store.blocks x + count d.store.blocks x ≤ 1) → CanTakeIn (own_row own) (own_row child) slots
takes_in names contexts own child slots s d e f is is_child fits apart =
    let shows = own_store contexts names own s e is in
    let brings = own_store [] names child d f is_child in
    let m = row_length names (own_row own) s.store shows in
    let n = row_length names (own_row child) d.store brings in
    record {
      count = n ∙ sym m;
      within = subst (λ (k : ℕ). FitsSlots k slots) (sym m) fits;
      apart = rows_apart names (own_row own) (own_row child) s.store d.store shows brings apart;
    }

-- ---- a Join that comes next, and whose child is there

-- what is known of the states behind a Join
pub record Joined (u after child : ThreadState) : Type 0 where
  pub label : after.label ≡ u.label
  pub done : after.done ≡ u.done + 1
  pub forks : after.forks ≡ u.forks
  pub words : words_held after + released u child ≡ words_held u + words_held child

pub joined_had : (u after child : ThreadState) → ∥ Joined u after child ∥₁ → Joined u after child
joined_had u after child h = record {
  label = ∥∥₁_elim h (search props) (λ x. x.label);
  done = ∥∥₁_elim h (search props) (λ x. x.done);
  forks = ∥∥₁_elim h (search props) (λ x. x.forks);
  words = ∥∥₁_elim h (search props) (λ x. x.words);
}

-- the row of a child of a branch, and what its Join leaves
joins_as : (c : Setting) (t : Table) (branch : Branch) (g h : Func) (gs : List Func) (func kid : Option ℕ) (u after child : ThreadState) (slots : List ℕ) (s d : State)
    (assigned : Name → Bool) (ordinal : ℕ) → RunsIn c.program t func (g ∷ gs) → forked_in branch func ≡ kid → RunsIn c.program t kid (h ∷ [])
    → IsJoinOf c.program t (slot_names g) branch assigned → slots ≡ assigned_slots t branch → JoinsState branch slots u after child
    → InState (g ∷ gs) u s → InState (h ∷ []) child d → InState (g ∷ gs) after (joined assigned ordinal d s)
joins_as c t (Par n) g h gs func kid u after child slots s d assigned ordinal runs same kid_runs join_of e taking is is_child =
    let one : h ≡ g = same_function c.program t func g h gs [] runs (subst (λ (f : Option ℕ). RunsIn c.program t f (h ∷ [])) (sym same) kid_runs) in
    let node = join_of.3 in
    let slots_are : AreSlots (slot_names g) slots (filter assigned (slot_names g)) =
    subst (λ (xs : List ℕ). AreSlots (slot_names g) xs (filter assigned (slot_names g))) (sym (e ∙ ap assigned_of node.there))
    (subst (λ (f : Name → Bool). AreSlots (slot_names g) node.assigned (filter f (slot_names g))) (sym join_of.2) node.assigns) in
    taking (map slot_names gs) (slot_names g) assigned ordinal d s (subst (λ (f : Func). InState (f ∷ []) child d) one is_child) slots_are is
joins_as c t Dummies g h gs func kid u after child slots s d assigned ordinal runs same kid_runs join_of e taking is is_child =
    let none : h ≡ no_function = subst (λ (f : Option ℕ). RunsIn c.program t f (h ∷ [])) (sym same) kid_runs in
    subst (λ (f : Name → Bool). InState (g ∷ gs) after (joined f ordinal d s)) (sym join_of)
    (taking (map slot_names (g ∷ gs)) ordinal d s (subst (λ (f : Func). InState (f ∷ []) child d) none is_child) is)

can_join : (c : Setting) (t : Table) (branch : Branch) (g h : Func) (gs : List Func) (func kid : Option ℕ) (u child : ThreadState) (slots : List ℕ) (s d : State)
    (assigned : Name → Bool) → RunsIn c.program t func (g ∷ gs) → forked_in branch func ≡ kid → RunsIn c.program t kid (h ∷ [])
    → IsJoinOf c.program t (slot_names g) branch assigned → slots ≡ assigned_slots t branch → InState (g ∷ gs) u s → InState (h ∷ []) child d
    → u.faulted ≡ false → child.faulted ≡ false → ((x : Name) → count s.store.blocks x + count d.store.blocks x ≤ 1) → CanJoin branch slots u child
can_join c t (Par n) g h gs func kid u child slots s d assigned runs same kid_runs join_of e is is_child f k apart =
    let one : h ≡ g = same_function c.program t func g h gs [] runs (subst (λ (x : Option ℕ). RunsIn c.program t x (h ∷ [])) (sym same) kid_runs) in
    let node = join_of.3 in
    let fits : FitsSlots (length (slot_names g)) slots =
    subst (λ (xs : List ℕ). FitsSlots (length (slot_names g)) xs) (sym (e ∙ ap assigned_of node.there)) node.assigns.1 in
    takes_in (slot_names g) (map slot_names gs) u child slots s d f k is (subst (λ (x : Func). InState (x ∷ []) child d) one is_child) fits apart
can_join c t Dummies g h gs func kid u child slots s d assigned runs same kid_runs join_of e is is_child f k apart = tt

module _ (c : Setting) (t : Table) (func : Option ℕ) (run : ThreadRun) (others : List OpenChild) (x : OpenChild) (e : Ended) (block : Option RecordBlock) (branch : Branch)
    (slots : List ℕ) (there : x.ended ≡ Some e) (g : Func) (gs : List Func) (own : List Frame) (s : State) (part : List Item) (older : List (List Item))
    (owned : Ownership c.program) (th : IsThread c own s (part ∷ older)) (runs : RunsIn c.program t run.func (g ∷ gs))
    (frames : AreFrames c.program t (g ∷ gs) (Joins branch ∷ frames_of run) own) (is : InState (g ∷ gs) run.state s) (tells : Tells run.told part)
    (kids : AreChildren c t s.label (open_children own) older (reverse (others ++ x ∷ [])))
    (in_them : forked_in branch run.func ∷ functions_of run.func (frames_of run) ≡ map function_of_child (reverse (others ++ x ∷ [])) ++ func ∷ [])
    (recorded_is : recorded block ≡ words_at_end s.label) (slots_are : slots ≡ assigned_slots t branch) where
  abbrev frame : JoinFrame c.program t (g ∷ gs) branch (frames_of run) own
  frame = join_frame c.program t (g ∷ gs) branch (frames_of run) own frames

  abbrev newest_open : threads.OpenChild
  newest_open = record { ordinal = frame.child; outcome = frame.outcome }

  turned_kids : reverse (others ++ x ∷ []) ≡ x ∷ reverse others
  turned_kids = reverse-append others (x ∷ [])

  abbrev pop : Popped c t s.label newest_open (open_children frame.rest) older x (reverse others)
  pop = popped c t s.label newest_open (open_children frame.rest) older x (reverse others)
      (subst (λ xs. AreChildren c t s.label (newest_open ∷ open_children frame.rest) older xs) turned_kids
      (subst (λ os. AreChildren c t s.label os older (reverse (others ++ x ∷ []))) (ap open_children frame.own_is) kids))

  abbrev result : IsEndOf c t (fork_of s.label frame.child) x.func e
  result = subst (λ (o : Option Ended). IsDelivered c t (fork_of s.label frame.child) x.func o) there pop.first.result

  abbrev at_join : IsThread c (joins frame.assigned frame.child frame.outcome ∷ frame.rest) s (part ∷ pop.before ∷ pop.olders)
  at_join = subst (λ (xs : List (List Item)). IsThread c (joins frame.assigned frame.child frame.outcome ∷ frame.rest) s (part ∷ xs)) pop.older_is
      (subst (λ (fs : List Frame). IsThread c fs s (part ∷ older)) frame.own_is th)

  abbrev end_item : Item
  end_item = next_action actions.ends record_words result.last

  abbrev join_item : Item
  join_item = next_action (actions.joins frame.child) (join_words frame.outcome s) s

  abbrev both : (frame.outcome ≡ ended record_words result.last)
      × IsThread c frame.rest (joined frame.assigned frame.child frame.outcome s) (joined_part pop.before result.items end_item part join_item ∷ pop.olders)
  both = thread_joins c frame.assigned frame.child frame.outcome frame.rest s result.last part pop.before result.items pop.olders at_join result.thread result.labelled

  child_state : InState (result.function ∷ []) e.state frame.outcome
  child_state = subst (λ (y : State). InState (result.function ∷ []) e.state y) (sym both.0) result.state

  same_kid : forked_in branch run.func ≡ x.func
  same_kid = first_of_two (forked_in branch run.func) x.func (functions_of run.func (frames_of run)) (map function_of_child (reverse others) ++ func ∷ [])
      (in_them ∙ ap (λ ys. map function_of_child ys ++ func ∷ []) turned_kids)

  joinable : run.state.faulted ≡ false → e.state.faulted ≡ false → CanJoin branch slots run.state e.state
  joinable f k =
      can_join c t branch g result.function gs run.func x.func run.state e.state slots s frame.outcome frame.assigned runs same_kid result.runs frame.join_of slots_are is child_state f k
      (join_meets_none c owned frame.assigned frame.child frame.outcome frame.rest s at_join.at_point (sym is.faulted ∙ f) (sym child_state.faulted ∙ k))

  state_after : (after : ThreadState) → JoinsState branch slots run.state after e.state → InState (g ∷ gs) after (joined frame.assigned frame.child frame.outcome s)
  state_after after taking =
      joins_as c t branch g result.function gs run.func x.func run.state after e.state slots s frame.outcome frame.assigned frame.child runs same_kid result.runs frame.join_of slots_are
      taking is child_state

  counts_after : (after : ThreadState) → JoinsState branch slots run.state after e.state → Joined run.state after e.state
  counts_after after taking =
      let h = state_after after taking in
      let contexts : List (List Name) = map slot_names (g ∷ gs) in
      let own_words = holdings_are contexts run.state s is in
      let after_words = holdings_are contexts after _ h in
      let child_words = brought_are (slot_names result.function) e.state frame.outcome child_state in
      let given = released_is contexts (slot_names result.function) run.state e.state s frame.outcome is child_state in
      let all = joined_words (slot_names result.function) e.state frame.assigned frame.child frame.outcome s child_state in
      record {
        label = h.label ∙ joined_label frame.assigned frame.child frame.outcome s ∙ sym is.label;
        done = let a = h.done in let b = joined_done frame.assigned frame.child frame.outcome s in let d = is.done in omega (arith, a, b, d);
        forks = h.forks ∙ joined_forks frame.assigned frame.child frame.outcome s ∙ sym is.forks;
        words = omega (arith, own_words, after_words, child_words, given, all);
      }

  point_after : (after : ThreadState) (told : Told) → JoinsState branch slots run.state after e.state
      → ((front of_child own_part : List Item) → Tells x.before front → Tells e.told of_child → Tells run.told own_part → Tells told (front ++ (of_child ++ own_part)))
      → At c t func (record run { state = after; told = told }) others block Nothing
  point_after after told taking taking_told =
      let label = joined_label frame.assigned frame.child frame.outcome s in
      let regrouped : (result.items ++ end_item ∷ []) ++ (part ++ join_item ∷ []) ≡ result.items ++ end_item ∷ (part ++ join_item ∷ []) =
      append_assoc result.items (end_item ∷ []) (part ++ join_item ∷ []) in
      record {
        functions = g ∷ gs;
        own = frame.rest;
        at = joined frame.assigned frame.child frame.outcome s;
        part = joined_part pop.before result.items end_item part join_item;
        older = pop.olders;
        point = both.1;
        stands = record {
          runs = runs;
          frames = frame.behind;
          state = state_after after taking;
          tells = subst (λ (xs : List Item). Tells told (pop.before ++ xs)) regrouped
              (taking_told pop.before (result.items ++ end_item ∷ []) (part ++ join_item ∷ []) pop.first.tells
              (quiet_behind e.told result.items (end_item ∷ []) result.tells refl refl) (quiet_behind run.told part (join_item ∷ []) tells refl refl));
        };
        children = subst (λ (l : List ℕ). AreChildren c t l (open_children frame.rest) pop.olders (reverse others)) (sym label) pop.rest;
        run_in =
            rest_of_two (forked_in branch run.func) x.func (functions_of run.func (frames_of run)) (map function_of_child (reverse others) ++ func ∷ [])
            (in_them ∙ ap (λ ys. map function_of_child ys ++ func ∷ []) turned_kids);
        record_block = recorded_is ∙ ap words_at_end (sym label);
      }

-- ---- the same of a thread that is at its point

by_functions : {P : Type 0} (c : Setting) (t : Table) (run : ThreadRun) (branch : Branch) (gs : List Func) (own : List Frame) (s : State) (part : List Item)
    → IsBefore c t gs run (ready.Join branch) own s part
    → ((g : Func) (rest : List Func) → RunsIn c.program t run.func (g ∷ rest) → AreFrames c.program t (g ∷ rest) (Joins branch ∷ frames_of run) own
    → InState (g ∷ rest) run.state s → Tells run.told part → P) → P
by_functions c t run branch [] own s part b f = absurd b.next.runs
by_functions c t run branch (g ∷ gs) own s part b f = f g gs b.next.runs b.next.frames b.state b.tells

module _ (c : Setting) (t : Table) (func : Option ℕ) (run : ThreadRun) (others : List OpenChild) (x : OpenChild) (e : Ended) (block : Option RecordBlock) (branch : Branch)
    (assigned : Vec ℕ Global) (slots : List ℕ) (there : x.ended ≡ Some e) (same : slots ≡ assigned.items) (owned : Ownership c.program)
    (a : At c t func run (others ++ x ∷ []) block (Join branch assigned)) where
  pub can_take : run.state.faulted ≡ false → e.state.faulted ≡ false → CanJoin branch slots run.state e.state
  can_take f k = by_functions c t run branch a.functions a.own a.at a.part a.stands.0 (λ g gs runs frames is tells.
      joinable c t func run others x e block branch slots there g gs a.own a.at a.part a.older owned a.point runs frames is tells a.children a.run_in a.record_block
      (same ∙ a.stands.1) f k)

  pub joined_counts : (after : ThreadState) → JoinsState branch slots run.state after e.state → Joined run.state after e.state
  joined_counts after taking = by_functions c t run branch a.functions a.own a.at a.part a.stands.0 (λ g gs runs frames is tells.
      counts_after c t func run others x e block branch slots there g gs a.own a.at a.part a.older owned a.point runs frames is tells a.children a.run_in a.record_block
      (same ∙ a.stands.1) after taking)

  pub joined_at : (after : ThreadState) (told : Told) → JoinsState branch slots run.state after e.state
      → ((front of_child own_part : List Item) → Tells x.before front → Tells e.told of_child → Tells run.told own_part → Tells told (front ++ (of_child ++ own_part)))
      → At c t func (record run { state = after; told = told }) others block Nothing
  joined_at after told taking taking_told = by_functions c t run branch a.functions a.own a.at a.part a.stands.0 (λ g gs runs frames is tells.
      point_after c t func run others x e block branch slots there g gs a.own a.at a.part a.older owned a.point runs frames is tells a.children a.run_in a.record_block
      (same ∙ a.stands.1) after told taking taking_told)

-- a row that can be taken in is known to be so
pub can_had : (branch : Branch) (slots : List ℕ) (u v : ThreadState) → ∥ CanJoin branch slots u v ∥₁ → CanJoin branch slots u v
can_had (Par n) slots u v h = record {
  count = ∥∥₁_elim h (search props) (λ x. x.count);
  within = fits_had (length (own_row u)) slots (∥∥₁_map h (λ x. x.within));
  apart = λ s. ∥∥₁_elim h (search props) (λ x. x.apart s);
}
can_had Dummies slots u v h = tt

-- the words of open children, with that of the last one
pub brought_last : (others : List OpenChild) (x : OpenChild) → all_brought (others ++ x ∷ []) ≡ all_brought others + brought x.ended
brought_last [] x = omega arith
brought_last (y ∷ others) x = let rest = brought_last others x in omega (arith, rest)
