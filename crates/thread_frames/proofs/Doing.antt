-- Each action that a thread does alone.
use Rattle.std.proofs.Common.{◌≡◌, ℕ, ◌+◌, ◌<◌, length, replicate, pos, false, Option, List, [], ◌∷◌, map, refl, sym, ◌∙◌, ap, subst, arith}
use denote.Struct.Props.{props}
use Rattle.block_arena.specs.declared.record_block.RecordBlock.{RecordBlock}
use Rattle.depth_first_list.specs.Actions as actions
use Rattle.depth_first_list.specs.Actions.{Deed}
use Rattle.thread_run.specs.Passed.Tree.{Name, Func, Program}
use Rattle.thread_run.specs.Passed.Ownership.{Ownership}
use Rattle.thread_state.specs.Passed.States.{Setting, State, with_action, holdings}
use Rattle.thread_state.specs.Passed.Run.{free_block}
use Rattle.thread_state.specs.Passed.Stores.{block_of, block_words}
use Rattle.thread_state.specs.Passed.Middle.{Frame, step_frame, allocated}
use Rattle.thread_state.proofs.Passed.Words.{with_words, without_words}
use Rattle.block_arena.specs.Size.{pieces_for, words_taken}
use Rattle.thread_state.specs.Passed.Rows.{Entry, HasBlock, HasNone, blocks_at, items_at, words_of, first_of}
use Rattle.thread_state.specs.Passed.Agreement.{blocks_under}
use Rattle.thread_state.proofs.Passed.Agreement.{entry_is, row_length}
use Rattle.thread_state.proofs.Passed.Held.{block_under}
use lib.ListN.{length-replicate}
use Rattle.node_table.specs.Table.{Table}
use Rattle.node_table.specs.Names.{slot_names, name_at, IsSlot}
use Rattle.thread_stack.specs.Frames.{names_now, RunsIn}
use Rattle.thread_run.specs.Passed.Points.{IsAt, marked}
use Rattle.thread_state.specs.Effects.{Goes}
use Rattle.thread_state.specs.States.{IsState, own_row, words_held}
use Rattle.thread_state.specs.declared.state.ThreadState.{ThreadState}
use Rattle.thread_state.proofs.Held.{holdings_are}
use Rattle.thread_state.proofs.Steps.{own_store}
use Rattle.thread_state.proofs.Totals.{block_taken, words_are}
use Rattle.thread_state.specs.Settings.{IsSettingOf}
use Rattle.thread_run.specs.Stands.{InState}
use Rattle.thread_run.specs.Dones.{IsAlloc as IsHeld, IsRelease as IsGiven}
use Rattle.thread_run.specs.declared.ready.Ready.TheVariants as ready
use Rattle.thread_run.specs.Going.{ActsBy}
use Rattle.thread_run.specs.declared.run.ThreadRun.{ThreadRun}
use Rattle.thread_frames.specs.Views.{told_as}
use Rattle.thread_frames.specs.Points.{At, IsThreadAt, IsPlaced}
use Rattle.thread_frames.specs.Actions.{IsDummy, IsAlloc, IsRelease}
use Rattle.thread_frames.specs.declared.open_child.OpenChild.{OpenChild}
use Rattle.thread_frames.specs.declared.prepared.Prepared.{Prepared}
use Rattle.thread_frames.specs.declared.prepared.Prepared.TheVariants.{Nothing, Fork, Join, Alloc, Release, Dummy, Fault, End}
use Rattle.thread_frames.specs.declared.thread.Thread.{Thread}
use Rattle.thread_frames.proofs.Placed.{placed_gives}
use Rattle.thread_frames.proofs.Acting.{Counts, counts, marked_state, acted_at, still_running}

-- what is known of a thread behind an action: its point, its counts, and its words
pub record Acted (c : Setting) (t : Table) (func : Option ℕ) (run : ThreadRun) (children : List OpenChild) (block : Option RecordBlock) (u : ThreadState)
    (asked given : ℕ) : Type 0 where
  pub at : At c t func (record run { state = u }) children block Nothing
  pub counts : Counts u run.state
  pub words : words_held u + given ≡ words_held run.state + asked

-- the counts of a thread that was somewhere
pub acted_counts : (before : Thread) (u : ThreadState) → IsPlaced before
    → ((t : Table) (k : ℕ) (c : Setting) → IsSettingOf t k c → IsThreadAt c t before → Counts u before.run.state)
    → Counts u before.run.state
acted_counts before u placed f = record {
  label = placed_gives before (search props) placed (λ t k c is a. (f t k c is a).label);
  done = placed_gives before (search props) placed (λ t k c is a. (f t k c is a).done);
  forks = placed_gives before (search props) placed (λ t k c is a. (f t k c is a).forks);
}

-- what an allocation and a release need of the slots
pub record CanHold (u : ThreadState) (slot len words shell : ℕ) : Type 0 where
  pub going : u.faulted ≡ false
  pub within : slot < length (own_row u)
  pub none : HasNone (own_row u) slot
  pub room : shell ≡ pieces_for len
  pub told : words ≡ words_taken len

pub record CanGive (u : ThreadState) (slot words : ℕ) : Type 0 where
  pub going : u.faulted ≡ false
  pub within : slot < length (own_row u)
  pub has : HasBlock (own_row u) slot
  pub taken : words_of (blocks_at (own_row u) slot) ≡ words

-- ---- a Dummy

pub is_dummy : (children : List OpenChild) (p : Prepared) → IsDummy (told_as children p) → p ≡ Dummy
is_dummy children Nothing h = absurd h
is_dummy children (Fork forking room) h = absurd h
is_dummy children (Join branch assigned) h = absurd h
is_dummy children (Alloc slot len words shell) h = absurd h
is_dummy children (Release slot words) h = absurd h
is_dummy children Dummy h = refl
is_dummy children (Fault fault) h = absurd h
is_dummy children End h = absurd h

dummy_done : (c : Setting) (t : Table) (func : Option ℕ) (run : ThreadRun) (children : List OpenChild) (block : Option RecordBlock) (u : ThreadState)
    → ((contexts : List (List Name)) (deed : Deed) (words : ℕ) → Goes contexts contexts run.state u (with_action deed words))
    → At c t func run children block Dummy → Acted c t func run children block u 0 0
unfolding with_action
dummy_done c t func run children block u goes a =
    let by = a.stands.next in
    let s = a.at in
    let m = step_frame c by.next by.rest s in
    let does = by.acts.1 in
    let contexts : List (List Name) = map slot_names a.functions in
    let state : InState a.functions u m.state =
    subst (λ (x : State). IsState contexts u x) (sym does) (goes contexts actions.dummy 0 (marked by.next s) (marked_state a.functions run.state by.next s a.stands.state)) in
    let before = holdings_are contexts run.state s a.stands.state in
    let after = holdings_are contexts u m.state state in
    let same : holdings m.state ≡ holdings s = ap holdings does in
    record {
      at = acted_at c t func run children block a.functions a.own s a.part a.older ready.Dummy actions.dummy 0 u by by.acts.0 a.point a.stands.tells a.children a.run_in a.record_block
          (ap State.label does) (ap State.items does) state;
      counts = counts contexts contexts u run.state s m.state a.stands.state state (ap State.label does) (ap State.done does) (ap State.forks does);
      words = omega (arith, before, after, same);
    }

pub dummy_at : (c : Setting) (t : Table) (func : Option ℕ) (run : ThreadRun) (children : List OpenChild) (block : Option RecordBlock) (p : Prepared) (u : ThreadState)
    → p ≡ Dummy → ((contexts : List (List Name)) (deed : Deed) (words : ℕ) → Goes contexts contexts run.state u (with_action deed words))
    → At c t func run children block p → Acted c t func run children block u 0 0
dummy_at c t func run children block p u is goes a = dummy_done c t func run children block u goes (subst (λ (q : Prepared). At c t func run children block q) is a)

-- ---- an allocation

pub is_alloc : (children : List OpenChild) (p : Prepared) → IsAlloc (told_as children p)
    → (slot : ℕ) × (len : ℕ) × (words : ℕ) × (shell : ℕ) × (p ≡ Alloc slot len words shell)
is_alloc children Nothing h = absurd h
is_alloc children (Fork forking room) h = absurd h
is_alloc children (Join branch assigned) h = absurd h
is_alloc children (Alloc slot len words shell) h = (slot, len, words, shell, refl)
is_alloc children (Release slot words) h = absurd h
is_alloc children Dummy h = absurd h
is_alloc children (Fault fault) h = absurd h
is_alloc children End h = absurd h

-- ---- the slots of the function that runs

-- a slot of a thread that no fault has ended is in its row
pub slot_within : (p : Program) (t : Table) (func : Option ℕ) (gs : List Func) (u : ThreadState) (s : State) (slot : ℕ) (x : Name)
    → RunsIn p t func gs → s.faulted ≡ false → InState gs u s → IsSlot (names_now gs) slot x → slot < length (own_row u)
slot_within p t func [] u s slot x runs going is named = absurd runs
slot_within p t func (g ∷ gs) u s slot x runs going is named =
    let shows = own_store (map slot_names gs) (slot_names g) u s (is.faulted ∙ going) is in
    let long = row_length (slot_names g) (own_row u) s.store shows in
    let below = named.below in
    omega (arith, long, below)

-- its block takes the words that it takes in the store
pub slot_words : (p : Program) (t : Table) (func : Option ℕ) (gs : List Func) (u : ThreadState) (s : State) (slot : ℕ) (x : Name)
    → RunsIn p t func gs → s.faulted ≡ false → InState gs u s → IsSlot (names_now gs) slot x → HasBlock (own_row u) slot
    → words_of (blocks_at (own_row u) slot) ≡ block_words (length (block_of s.store.blocks x))
slot_words p t func [] u s slot x runs going is named has = absurd runs
slot_words p t func (g ∷ gs) u s slot x runs going is named has =
    let shows = own_store (map slot_names gs) (slot_names g) u s (is.faulted ∙ going) is in
    let entry = entry_is (slot_names g) (own_row u) s.store shows slot named.below in
    let items : items_at (own_row u) slot ≡ block_of s.store.blocks x =
    ap (λ (e : Entry). first_of e.blocks) entry
    ∙ ap (λ (y : Name). first_of (blocks_under s.store.blocks y)) named.reads
    ∙ sym (block_under s.store.blocks x) in
    block_taken (own_row u) slot has ∙ sym (words_are (length (block_of s.store.blocks x)) _ (ap (λ xs. words_taken (length xs)) (sym items)))

-- an action on the block of a slot is one on the block of its name
pub slot_state : (p : Program) (t : Table) (func : Option ℕ) (gs : List Func) (u v : ThreadState) (s : State) (slot : ℕ) (x : Name) (f : Name → State → State)
    → RunsIn p t func gs → InState gs u s → IsSlot (names_now gs) slot x
    → ((contexts : List (List Name)) (names : List Name) → Goes (names ∷ contexts) (names ∷ contexts) u v (f (name_at names slot)))
    → InState gs v (f x s)
slot_state p t func [] u v s slot x f runs is named goes = absurd runs
slot_state p t func (g ∷ gs) u v s slot x f runs is named goes =
    subst (λ (y : Name). InState (g ∷ gs) v (f y s)) named.reads (goes (map slot_names gs) (slot_names g) s is)

-- ---- an allocation

module _ (c : Setting) (t : Table) (func : Option ℕ) (run : ThreadRun) (children : List OpenChild) (block : Option RecordBlock) (slot len words shell : ℕ)
    (owned : Ownership c.program) (a : At c t func run children block (Alloc slot len words shell)) where
  abbrev alloc_by : ActsBy c t a.functions run (ready.Alloc slot len shell) a.own a.at
  alloc_by = a.stands.0.next

  abbrev alloc_after : State
  alloc_after = (step_frame c alloc_by.next alloc_by.rest a.at).state

  alloc_is : IsHeld a.functions run.state slot len (marked alloc_by.next a.at) alloc_after
  alloc_is = alloc_by.acts.1

  alloc_going : a.at.faulted ≡ false
  unfolding with_action
  alloc_going =
      still_running c owned alloc_by.next alloc_by.rest a.at (subst (λ (o : List Frame). IsAt c o a.at) alloc_by.own_is a.point.at_point) alloc_by.plain
      (ap State.done alloc_is.does)

  alloc_marked : InState a.functions run.state (marked alloc_by.next a.at)
  alloc_marked = marked_state a.functions run.state alloc_by.next a.at a.stands.0.state

  pub can_hold : CanHold run.state slot len words shell
  can_hold = record {
    going = a.stands.0.state.faulted ∙ alloc_going;
    within = slot_within c.program t run.func a.functions run.state a.at slot alloc_is.block alloc_by.runs alloc_going a.stands.0.state alloc_is.named;
    none = alloc_is.none (a.stands.0.state.faulted ∙ alloc_going);
    room = alloc_by.acts.2;
    told = a.stands.1;
  }

  pub alloc_done : (u : ThreadState)
      → ((contexts : List (List Name)) (names : List Name) → Goes (names ∷ contexts) (names ∷ contexts) run.state u (allocated (name_at names slot) len))
      → Acted c t func run children block u words 0
  unfolding with_action
  alloc_done u goes =
      let s = a.at in
      let by = alloc_by in
      let does : alloc_after ≡ allocated alloc_is.block len (marked by.next s) = alloc_is.does in
      let contexts : List (List Name) = map slot_names a.functions in
      let state : InState a.functions u alloc_after =
      subst (λ (x : State). IsState contexts u x) (sym does)
      (slot_state c.program t run.func a.functions run.state u (marked by.next s) slot alloc_is.block (λ x. allocated x len) by.runs alloc_marked alloc_is.named goes) in
      let before = holdings_are contexts run.state s a.stands.0.state in
      let after = holdings_are contexts u alloc_after state in
      let held = with_words s.store.blocks alloc_is.block (replicate len (pos 0)) in
      let more : block_words (length (replicate len (pos 0))) ≡ words = ap block_words (length-replicate len (pos 0)) ∙ words_are len _ refl ∙ sym a.stands.1 in
      let same = ap holdings does in
      record {
        at = acted_at c t func run children block a.functions a.own s a.part a.older (ready.Alloc slot len shell) actions.allocates (block_words len) u by by.acts.0 a.point
            a.stands.0.tells a.children a.run_in a.record_block (ap State.label does) (ap State.items does) state;
        counts = counts contexts contexts u run.state s alloc_after a.stands.0.state state (ap State.label does) (ap State.done does) (ap State.forks does);
        words = omega (arith, before, after, same, held, more);
      }

-- ---- a release

pub is_release : (children : List OpenChild) (p : Prepared) → IsRelease (told_as children p) → (slot : ℕ) × (words : ℕ) × (p ≡ Release slot words)
is_release children Nothing h = absurd h
is_release children (Fork forking room) h = absurd h
is_release children (Join branch assigned) h = absurd h
is_release children (Alloc slot len words shell) h = absurd h
is_release children (Release slot words) h = (slot, words, refl)
is_release children Dummy h = absurd h
is_release children (Fault fault) h = absurd h
is_release children End h = absurd h

module _ (c : Setting) (t : Table) (func : Option ℕ) (run : ThreadRun) (children : List OpenChild) (block : Option RecordBlock) (slot words : ℕ)
    (a : At c t func run children block (Release slot words)) where
  abbrev release_by : ActsBy c t a.functions run (ready.Release slot words) a.own a.at
  release_by = a.stands.next

  abbrev release_after : State
  release_after = (step_frame c release_by.next release_by.rest a.at).state

  release_is : IsGiven a.functions run.state slot words (marked release_by.next a.at) release_after
  release_is = release_by.acts.1

  release_marked : InState a.functions run.state (marked release_by.next a.at)
  release_marked = marked_state a.functions run.state release_by.next a.at a.stands.state

  pub can_give : CanGive run.state slot words
  can_give =
      let going : a.at.faulted ≡ false = sym a.stands.state.faulted ∙ release_is.going in
      record {
        going = release_is.going;
        within = slot_within c.program t run.func a.functions run.state a.at slot release_is.block release_by.runs going a.stands.state release_is.named;
        has = release_is.has;
        taken = slot_words c.program t run.func a.functions run.state a.at slot release_is.block release_by.runs going a.stands.state release_is.named release_is.has
            ∙ sym release_is.counted;
      }

  pub release_done : (u : ThreadState)
      → ((contexts : List (List Name)) (names : List Name) → Goes (names ∷ contexts) (names ∷ contexts) run.state u (free_block (name_at names slot)))
      → Acted c t func run children block u 0 words
  unfolding with_action
  release_done u goes =
      let s = a.at in
      let by = release_by in
      let b = release_is.block in
      let does : release_after ≡ free_block b (marked by.next s) = release_is.does in
      let contexts : List (List Name) = map slot_names a.functions in
      let state : InState a.functions u release_after =
      subst (λ (x : State). IsState contexts u x) (sym does)
      (slot_state c.program t run.func a.functions run.state u (marked by.next s) slot b (λ x. free_block x) by.runs release_marked release_is.named goes) in
      let before = holdings_are contexts run.state s a.stands.state in
      let after = holdings_are contexts u release_after state in
      let held = without_words s.store.blocks b in
      let less = release_is.counted in
      let same = ap holdings does in
      record {
        at = acted_at c t func run children block a.functions a.own s a.part a.older (ready.Release slot words) actions.releases (block_words (length (block_of s.store.blocks b))) u by
            by.acts.0 a.point a.stands.tells a.children a.run_in a.record_block (ap State.label does) (ap State.items does) state;
        counts = counts contexts contexts u run.state s release_after a.stands.state state (ap State.label does) (ap State.done does) (ap State.forks does);
        words = omega (arith, before, after, same, held, less);
      }
