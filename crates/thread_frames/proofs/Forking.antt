-- A Fork: the points of the child and of its parent.
use Rattle.std.proofs.Common.{◌≡◌, ℕ, suc, ◌+◌, Bool, false, List, [], ◌∷◌, ◌++◌, map, filter, length, Option, Some, None, Vec, refl, sym, ◌∙◌, ap, subst, arith, inl, inr}
use Rattle.std.specs.Prelude.{reverse, ◌⊎◌}
use Rattle.std.proofs.Math.Logic.{∥∥₁_elim}
use denote.Struct.Props.{props}
use mathlib.Core.List.{reverse-append}
use Rattle.std.specs.declared.alloc.Global.{Global}
use Rattle.dag_order.specs.LabelOrder.{fork_of}
use Rattle.block_arena.specs.declared.record_block.RecordBlock.{RecordBlock}
use Rattle.language_limits.specs.declared.TheConstants.{MOST_TURNS}
use Rattle.depth_first_list.specs.Actions as actions
use Rattle.depth_first_list.specs.Actions.{record_words}
use Rattle.thread_run.specs.Passed.Tree.{Name, Func, Program}
use Rattle.thread_run.specs.Passed.Ownership.{Ownership}
use Rattle.thread_state.specs.Passed.States.{Setting, State, Item, child_of, parent_of, next_action}
use Rattle.thread_state.specs.Passed.Middle.{Part, Frame, does, awaits, joins, step_fork, step_frame}
use Rattle.thread_state.proofs.Passed.Words.{parted_words}
use Rattle.node_table.specs.Table.{Table}
use Rattle.node_table.specs.Names.{slot_names}
use Rattle.node_table.specs.Reading.{AreSlots, FitsSlots}
use Rattle.thread_state.proofs.Passed.Agreement.{row_length}
use Rattle.thread_stack.specs.declared.branch.Branch.{Branch}
use Rattle.thread_stack.specs.declared.branch.Branch.TheVariants.{Par, Dummies}
use Rattle.thread_stack.specs.declared.frame.Frame.{Frame as OwnFrame}
use Rattle.thread_stack.specs.declared.frame.Frame.TheVariants.{Statements, Again, Tree as DummyTree, Answers, Rejoins, AnswersMain, Allocates, Joins}
use Rattle.thread_stack.specs.Frames.{IsFrame, AreFrames, functions_behind, RunsIn, no_function}
use Rattle.thread_run.specs.Passed.Points.{Each, IsPlain, marked, step_of, StepsAlone, StepForks, child_start, child_end, parent_start, parent_frames, words_at_end}
use Rattle.thread_run.specs.Passed.Laws.{fork_items}
use Rattle.thread_run.specs.Passed.Threads.{IsThread, open_children}
use Rattle.thread_run.proofs.Passed.Putting.{ahead_of, frame_put}
use Rattle.thread_run.proofs.Passed.Walking.{plain_own}
use Rattle.thread_run.proofs.Passed.Alone.{alone_or_forks}
use Rattle.thread_run.proofs.Passed.Telling.{thread_forks}
use Rattle.thread_output.specs.Telling.{Tells}
use Rattle.thread_output.specs.declared.told.Told.{Told}
use Rattle.thread_state.specs.States.{own_row, words_held}
use Rattle.thread_state.specs.declared.state.ThreadState.{ThreadState}
use Rattle.thread_state.proofs.Held.{holdings_are}
use Rattle.thread_state.proofs.Steps.{own_store}
use Rattle.thread_run.specs.Stands.{InState}
use Rattle.thread_run.specs.Dones.{IsForkBy, IsTakenBy, IsWorkOf}
use Rattle.thread_run.specs.declared.ready.Forking.{Forking}
use Rattle.thread_run.specs.declared.ready.Ready.TheVariants as ready
use Rattle.thread_run.specs.Functions.{forked_in, frames_of, functions_of}
use Rattle.thread_run.specs.Going.{ActsBy, IsBefore}
use Rattle.thread_run.specs.declared.run.ThreadRun.{ThreadRun}
use Rattle.thread_frames.specs.Views.{told_as, recorded, brought, all_brought}
use Rattle.thread_frames.specs.Actions.{IsFork}
use Rattle.thread_frames.specs.Forking.{ForksState}
use Rattle.thread_frames.specs.Slots.{taken_slots, blocks_of}
use Rattle.thread_frames.specs.Points.{At, AreChildren, IsDelivered, function_of_child}
use Rattle.thread_frames.specs.declared.ended.Ended.{Ended}
use Rattle.thread_frames.specs.declared.child_room.ChildRoom.{ChildRoom}
use Rattle.thread_frames.specs.declared.open_child.OpenChild.{OpenChild}
use Rattle.thread_frames.specs.declared.prepared.Prepared.{Prepared}
use Rattle.thread_frames.specs.declared.prepared.Prepared.TheVariants.{Nothing, Fork, Join, Alloc, Release, Dummy, Fault, End}
use Rattle.thread_frames.proofs.Acting.{longer, open_plain, open_behind, quiet_behind, mark_no_fault, mark_no_line, marked_state, runs_on}

-- ---- frames of statements and of trees

abbrev IsPartFrame : OwnFrame → Type 0
IsPartFrame (Statements list next) = Unit {0}
IsPartFrame (Again n) = Unit {0}
IsPartFrame (DummyTree shape) = Unit {0}
IsPartFrame (Answers n caller) = ⊥
IsPartFrame (Rejoins n) = ⊥
IsPartFrame AnswersMain = ⊥
IsPartFrame (Allocates slot len) = ⊥
IsPartFrame (Joins branch) = ⊥

part_frame : (p : Program) (t : Table) (g : Func) (gs : List Func) (x : OwnFrame) (w : Part) → IsFrame p t (g ∷ gs) x (does w) → IsPartFrame x
part_frame p t g gs (Statements list next) w h = tt
part_frame p t g gs (Again n) w h = tt
part_frame p t g gs (DummyTree shape) w h = tt
part_frame p t g [] (Answers n caller) w h = h
part_frame p t g (h ∷ gs) (Answers n caller) w k = let e = k.2 in let never : ⊥ = cc in never
part_frame p t g gs (Rejoins n) w h = let e = h.3 in let never : ⊥ = cc in never
part_frame p t g gs AnswersMain w h = let e = h.0 in let never : ⊥ = cc in never
part_frame p t g gs (Allocates slot len) w h = let e = h.1 in let never : ⊥ = cc in never
part_frame p t g gs (Joins branch) w h = let e = h.3 in let never : ⊥ = cc in never

part_behind : (x : OwnFrame) (gs : List Func) → IsPartFrame x → functions_behind x gs ≡ gs
part_behind (Statements list next) gs h = refl
part_behind (Again n) gs h = refl
part_behind (DummyTree shape) gs h = refl
part_behind (Answers n caller) gs h = absurd h
part_behind (Rejoins n) gs h = absurd h
part_behind AnswersMain gs h = absurd h
part_behind (Allocates slot len) gs h = absurd h
part_behind (Joins branch) gs h = absurd h

part_functions : (func : Option ℕ) (x : OwnFrame) (xs : List OwnFrame) → IsPartFrame x → functions_of func (x ∷ xs) ≡ functions_of func xs
part_functions func (Statements list next) xs h = refl
part_functions func (Again n) xs h = refl
part_functions func (DummyTree shape) xs h = refl
part_functions func (Answers n caller) xs h = absurd h
part_functions func (Rejoins n) xs h = absurd h
part_functions func AnswersMain xs h = absurd h
part_functions func (Allocates slot len) xs h = absurd h
part_functions func (Joins branch) xs h = absurd h

-- ---- the child

-- the function in which the child of a branch runs
abbrev child_function : Branch → Func → Func
child_function (Par n) g = g
child_function Dummies g = no_function

child_frames : (p : Program) (t : Table) (branch : Branch) (g : Func) (gs : List Func) (x : OwnFrame) (w : Part) → IsWorkOf branch x → IsPartFrame x
    → IsFrame p t (g ∷ gs) x (does w) → AreFrames p t (child_function branch g ∷ []) (x ∷ []) (does w ∷ [])
child_frames p t (Par n) g gs (Statements list next) w k h f = (f, tt)
child_frames p t (Par n) g gs (Again m) w k h f = (f, tt)
child_frames p t (Par n) g gs (DummyTree shape) w k h f = (f, tt)
child_frames p t (Par n) g gs (Answers m caller) w k h f = absurd h
child_frames p t (Par n) g gs (Rejoins m) w k h f = absurd h
child_frames p t (Par n) g gs AnswersMain w k h f = absurd h
child_frames p t (Par n) g gs (Allocates slot len) w k h f = absurd h
child_frames p t (Par n) g gs (Joins branch) w k h f = absurd h
child_frames p t Dummies g gs (Statements list next) w k h f = absurd k
child_frames p t Dummies g gs (Again m) w k h f = absurd k
child_frames p t Dummies g gs (DummyTree shape) w k h f = (f, tt)
child_frames p t Dummies g gs (Answers m caller) w k h f = absurd h
child_frames p t Dummies g gs (Rejoins m) w k h f = absurd h
child_frames p t Dummies g gs AnswersMain w k h f = absurd h
child_frames p t Dummies g gs (Allocates slot len) w k h f = absurd h
child_frames p t Dummies g gs (Joins branch) w k h f = absurd h

child_runs : (p : Program) (t : Table) (branch : Branch) (func : Option ℕ) (g : Func) (gs : List Func) → RunsIn p t func (g ∷ gs)
    → RunsIn p t (forked_in branch func) (child_function branch g ∷ [])
child_runs p t (Par n) None g gs h = h
child_runs p t (Par n) (Some m) g gs h = h
child_runs p t Dummies func g gs h = refl

-- the slots whose blocks a branch takes
taken_are : (c : Setting) (t : Table) (n : ℕ) (g : Func) (gs : List Func) (named : Name → Bool) (slots : List ℕ) → IsTakenBy c t (g ∷ gs) (Par n) named
    → slots ≡ taken_slots t (Par n) → AreSlots (slot_names g) slots (filter named (slot_names g))
taken_are c t n g gs named slots taken e =
    let node = taken.3 in
    let blocks : slots ≡ node.blocks = e ∙ ap blocks_of node.there in
    subst (λ (xs : List ℕ). AreSlots (slot_names g) xs (filter named (slot_names g))) (sym blocks)
    (subst (λ (f : Name → Bool). AreSlots (slot_names g) node.blocks (filter f (slot_names g))) (sym taken.2) node.takes)

fork_fits : (c : Setting) (t : Table) (branch : Branch) (g : Func) (gs : List Func) (u : ThreadState) (s : State) (named : Name → Bool) (slots : List ℕ)
    → IsTakenBy c t (g ∷ gs) branch named → slots ≡ taken_slots t branch → s.faulted ≡ false → InState (g ∷ gs) u s → FitsSlots (length (own_row u)) slots
fork_fits c t (Par n) g gs u s named slots taken e going is =
    let shows = own_store (map slot_names gs) (slot_names g) u s (is.faulted ∙ going) is in
    subst (λ (k : ℕ). FitsSlots k slots) (sym (row_length (slot_names g) (own_row u) s.store shows)) (taken_are c t n g gs named slots taken e).1
fork_fits c t Dummies g gs u s named slots taken e going is = subst (λ (xs : List ℕ). FitsSlots (length (own_row u)) xs) (sym e) tt

abbrev ForkedStates : Setting → (branch : Branch) → Func → List Func → (named : Name → Bool) → List Item → State → (after child : ThreadState) → Type 0
ForkedStates c branch g gs named items s after child =
    InState (child_function branch g ∷ []) child (child_of c named s) × InState (g ∷ gs) after (parent_of named items s)

forked_states : (c : Setting) (t : Table) (branch : Branch) (g : Func) (gs : List Func) (u after child : ThreadState) (s : State) (named : Name → Bool) (items : List Item)
    (slots : List ℕ) → IsTakenBy c t (g ∷ gs) branch named → slots ≡ taken_slots t branch → c.most_turns ≡ MOST_TURNS → InState (g ∷ gs) u s
    → ForksState branch slots u after child → ForkedStates c branch g gs named items s after child
forked_states c t (Par n) g gs u after child s named items slots taken e turns is forks =
    forks c (map slot_names gs) (slot_names g) named items s turns (taken_are c t n g gs named slots taken e) is
forked_states c t Dummies g gs u after child s named items slots taken e turns is forks =
    subst (λ (f : Name → Bool). ForkedStates c Dummies g gs f items s after child) (sym taken) (forks c (map slot_names (g ∷ gs)) items s turns is)

-- ---- the step

first_part : (w v : Part) (x y : Frame) (fs gs : List Frame) → does w ∷ x ∷ fs ≡ does v ∷ y ∷ gs → w ≡ v
first_part w v x y fs gs e = cc

second_frame : (w v : Part) (x y : Frame) (fs gs : List Frame) → does w ∷ x ∷ fs ≡ does v ∷ y ∷ gs → x ≡ y
second_frame w v x y fs gs e = cc

frames_behind : (w v : Part) (x y : Frame) (fs gs : List Frame) → does w ∷ x ∷ fs ≡ does v ∷ y ∷ gs → fs ≡ gs
frames_behind w v x y fs gs e = cc

awaits_named : (n m a b : Name → Bool) (p q : Part) (s u : State) → awaits n a p s ≡ awaits m b q u → n ≡ m
awaits_named n m a b p q s u e = cc

awaits_assigned : (n m a b : Name → Bool) (p q : Part) (s u : State) → awaits n a p s ≡ awaits m b q u → a ≡ b
awaits_assigned n m a b p q s u e = cc

awaits_part : (n m a b : Name → Bool) (p q : Part) (s u : State) → awaits n a p s ≡ awaits m b q u → p ≡ q
awaits_part n m a b p q s u e = cc

pub record ForkStep (c : Setting) (f : Frame) (rest : List Frame) (s : State) (named assigned : Name → Bool) (work mine : Part) (behind : List Frame) : Type 0 where
  pub later : List Frame
  pub forked : step_of c f s ≡ step_fork c named assigned work mine later (marked f s)
  pub plain : Each IsPlain later
  pub behind_is : behind ≡ later ++ rest

pub fork_step : (c : Setting) (f : Frame) (rest : List Frame) (s : State) (named assigned : Name → Bool) (work mine : Part) (behind : List Frame) → IsPlain f
    → step_frame c f rest s ≡ step_fork c named assigned work mine behind (marked f s) → ForkStep c f rest s named assigned work mine behind
fork_step c f rest s named assigned work mine behind plain forks = by (alone_or_forks c f s (plain_own f plain))
  where
    put : step_frame c f rest s ≡ ahead_of (step_of c f s) rest
    put = frame_put c f rest s

    by : StepsAlone c f s ⊎ StepForks c f s → ForkStep c f rest s named assigned work mine behind
    by (inl k) = absurd (longer s.label (suc s.forks) (sym (ap (λ m. m.state.label) forks) ∙ ap (λ m. m.state.label) put ∙ k.same_label))
    by (inr k) =
        let e : does work ∷ awaits named assigned mine (marked f s) ∷ behind ≡ does k.work ∷ awaits k.named k.assigned k.mine (marked f s) ∷ (k.later ++ rest) =
        sym (ap (λ m. m.frames) forks) ∙ ap (λ m. m.frames) put ∙ ap (λ m. m.frames ++ rest) k.forked in
        let x = awaits named assigned mine (marked f s) in
        let y = awaits k.named k.assigned k.mine (marked f s) in
        let waits : x ≡ y = second_frame work k.work x y behind (k.later ++ rest) e in
        let w : k.work ≡ work = sym (first_part work k.work x y behind (k.later ++ rest) e) in
        let n : k.named ≡ named = sym (awaits_named named k.named assigned k.assigned mine k.mine (marked f s) (marked f s) waits) in
        let a : k.assigned ≡ assigned = sym (awaits_assigned named k.named assigned k.assigned mine k.mine (marked f s) (marked f s) waits) in
        let m : k.mine ≡ mine = sym (awaits_part named k.named assigned k.assigned mine k.mine (marked f s) (marked f s) waits) in
        record {
          later = k.later;
          forked = k.forked ∙ (λ i. step_fork c (n i) (a i) (w i) (m i) k.later (marked f s));
          plain = k.plain;
          behind_is = frames_behind work k.work x y behind (k.later ++ rest) e;
        }

-- ---- both threads

fork_label_words : (l : List ℕ) (n : ℕ) → words_at_end (fork_of l n) ≡ record_words
fork_label_words [] n = refl
fork_label_words (x ∷ l) n = refl

-- what is known of the states behind a Fork
pub record States (u after child : ThreadState) : Type 0 where
  pub label : after.label ≡ u.label
  pub done : after.done ≡ u.done + 1
  pub forks : after.forks ≡ u.forks + 1
  pub child_label : child.label ≡ fork_of u.label (u.forks + 1)
  pub child_done : child.done ≡ 0
  pub words : words_held after + words_held child ≡ words_held u

pub states_had : (u after child : ThreadState) → ∥ States u after child ∥₁ → States u after child
states_had u after child h = record {
  label = ∥∥₁_elim h (search props) (λ x. x.label);
  done = ∥∥₁_elim h (search props) (λ x. x.done);
  forks = ∥∥₁_elim h (search props) (λ x. x.forks);
  child_label = ∥∥₁_elim h (search props) (λ x. x.child_label);
  child_done = ∥∥₁_elim h (search props) (λ x. x.child_done);
  words = ∥∥₁_elim h (search props) (λ x. x.words);
}

module _ (c : Setting) (t : Table) (func : Option ℕ) (run : ThreadRun) (children : List OpenChild) (block : Option RecordBlock) (forking : Forking) (g : Func)
    (gs : List Func) (own : List Frame) (s : State) (part : List Item) (older : List (List Item)) (owned : Ownership c.program) (turns : c.most_turns ≡ MOST_TURNS)
    (th : IsThread c own s (part ∷ older)) (by : ActsBy c t (g ∷ gs) run (ready.Fork forking) own s) (is : InState (g ∷ gs) run.state s) (tells : Tells run.told part)
    (kids : AreChildren c t s.label (open_children own) older (reverse children))
    (in_them : functions_of run.func (frames_of run) ≡ map function_of_child (reverse children) ++ func ∷ [])
    (recorded_is : recorded block ≡ words_at_end s.label) where
  abbrev fork : IsForkBy c t (g ∷ gs) (frames_of run) by.behind (marked by.next s) (step_frame c by.next by.rest s) forking
  fork = by.acts

  abbrev forked_step : ForkStep c by.next by.rest s fork.named fork.assigned fork.work fork.mine by.behind
  forked_step = fork_step c by.next by.rest s fork.named fork.assigned fork.work fork.mine by.behind by.plain fork.forks

  abbrev forks_by : StepForks c by.next s
  forks_by = record {
    named = fork.named;
    assigned = fork.assigned;
    work = fork.work;
    mine = fork.mine;
    later = forked_step.later;
    forked = forked_step.forked;
    plain = forked_step.plain;
  }

  abbrev there : IsThread c (by.next ∷ by.rest) s (part ∷ older)
  there = subst (λ (o : List Frame). IsThread c o s (part ∷ older)) by.own_is th

  abbrev both : IsThread c (does fork.work ∷ []) (child_start c by.next s forks_by) ([] ∷ [])
      × IsThread c (parent_frames c by.next s forks_by ++ by.rest) (parent_start c by.next s forks_by) ([] ∷ (part ++ fork_items by.next s) ∷ older)
  both = thread_forks c by.next by.rest s part older there by.plain forks_by

  fork_going : s.faulted ≡ false
  fork_going = runs_on c owned by.next by.rest s there.at_point by.plain
      (λ same. longer s.label (suc s.forks) (sym (ap (λ m. m.state.label) fork.forks) ∙ ap State.label same))

  fits : (slots : List ℕ) → slots ≡ taken_slots t forking.branch → FitsSlots (length (own_row run.state)) slots
  fits slots e = fork_fits c t forking.branch g gs run.state s fork.named slots fork.taken e fork_going is

  states : (slots : List ℕ) (after child : ThreadState) → slots ≡ taken_slots t forking.branch → ForksState forking.branch slots run.state after child
      → ForkedStates c forking.branch g gs fork.named (child_end c by.next s forks_by).items (marked by.next s) after child
  states slots after child e forks =
      forked_states c t forking.branch g gs run.state after child (marked by.next s) fork.named (child_end c by.next s forks_by).items slots fork.taken e turns
      (marked_state (g ∷ gs) run.state by.next s is) forks

  counted : (slots : List ℕ) (after child : ThreadState) → slots ≡ taken_slots t forking.branch → ForksState forking.branch slots run.state after child
      → States run.state after child
  counted slots after child e forks =
      let h = states slots after child e forks in
      let n = is.forks in
      let more : suc s.forks ≡ run.state.forks + 1 = omega (arith, n) in
      let own_words = holdings_are (map slot_names (g ∷ gs)) run.state s is in
      let after_words = holdings_are (map slot_names (g ∷ gs)) after _ h.1 in
      let child_words = holdings_are (map slot_names (child_function forking.branch g ∷ [])) child _ h.0 in
      let parts = parted_words fork.named s.store.blocks in
      record {
        label = h.1.label ∙ sym is.label;
        done = let a = h.1.done in let b = is.done in omega (arith, a, b);
        forks = let a = h.1.forks in omega (arith, a, n);
        child_label = h.0.label ∙ ap (λ l. fork_of l (suc s.forks)) (sym is.label) ∙ ap (fork_of run.state.label) more;
        child_done = h.0.done;
        words = omega (arith, own_words, after_words, child_words, parts);
      }

  child_is : (slots : List ℕ) (after child : ThreadState) (fs : Vec OwnFrame Global) (told : Told) (new : RecordBlock) → slots ≡ taken_slots t forking.branch
      → ForksState forking.branch slots run.state after child → fs.items ≡ forking.work ∷ [] → Tells told []
      → At c t (forked_in forking.branch run.func) (record { func = forked_in forking.branch run.func; state = child; frames = fs; told = told }) [] (Some new) Nothing
  child_is slots after child fs told new e forks items nothing =
      let h = states slots after child e forks in
      let p = part_frame c.program t g gs forking.work fork.work fork.of_child in
      let xs : reverse fs.items ≡ forking.work ∷ [] = ap reverse items in
      record {
        functions = child_function forking.branch g ∷ [];
        own = does fork.work ∷ [];
        at = child_start c by.next s forks_by;
        part = [];
        older = [];
        point = both.0;
        stands = record {
          runs = child_runs c.program t forking.branch run.func g gs by.runs;
          frames = subst (λ (ys : List OwnFrame). AreFrames c.program t (child_function forking.branch g ∷ []) ys (does fork.work ∷ [])) (sym xs)
              (child_frames c.program t forking.branch g gs forking.work fork.work fork.work_of p fork.of_child);
          state = h.0;
          tells = nothing;
        };
        children = tt;
        run_in = ap (functions_of (forked_in forking.branch run.func)) xs ∙ part_functions (forked_in forking.branch run.func) forking.work [] p;
        record_block = sym (fork_label_words s.label (suc s.forks));
      }

  parent_is : (slots : List ℕ) (after child : ThreadState) (fs : Vec OwnFrame Global) (told : Told) (x : OpenChild) → slots ≡ taken_slots t forking.branch
      → ForksState forking.branch slots run.state after child → fs.items ≡ (run.frames.items ++ Joins forking.branch ∷ []) ++ forking.own ∷ [] → Tells told []
      → x.ordinal ≡ after.forks → x.func ≡ forked_in forking.branch run.func → x.before ≡ run.told → x.ended ≡ None
      → At c t func (record { func = run.func; state = after; frames = fs; told = told }) (children ++ x ∷ []) block Nothing
  parent_is slots after child fs told x e forks items nothing ordinal func_is before_is none =
      let h = states slots after child e forks in
      let p = part_frame c.program t g gs forking.own fork.mine fork.of_parent in
      let xs : reverse fs.items ≡ forking.own ∷ Joins forking.branch ∷ frames_of run =
      ap reverse items ∙ reverse-append (run.frames.items ++ Joins forking.branch ∷ []) (forking.own ∷ [])
      ∙ ap (λ ys. forking.own ∷ ys) (reverse-append run.frames.items (Joins forking.branch ∷ [])) in
      let ks : reverse (children ++ x ∷ []) ≡ x ∷ reverse children = reverse-append children (x ∷ []) in
      let d = child_end c by.next s forks_by in
      let left : open_children (forked_step.later ++ by.rest) ≡ open_children own =
      open_behind forked_step.later by.rest forked_step.plain ∙ sym (open_plain by.next by.rest by.plain) ∙ sym (ap open_children by.own_is) in
      let behind : AreFrames c.program t (g ∷ gs) (frames_of run) (forked_step.later ++ by.rest) =
      subst (λ (fs : List Frame). AreFrames c.program t (g ∷ gs) (frames_of run) fs) forked_step.behind_is fork.behind in
      let act : Item = next_action (actions.forks (suc s.forks)) record_words s in
      let told_before : Tells x.before (part ++ fork_items by.next s) =
      subst (λ (y : Told). Tells y (part ++ fork_items by.next s)) (sym before_is)
      (quiet_behind run.told part (fork_items by.next s) tells (mark_no_fault by.next (act ∷ [])) (mark_no_line by.next (act ∷ []))) in
      record {
        functions = g ∷ gs;
        own = parent_frames c by.next s forks_by ++ by.rest;
        at = parent_start c by.next s forks_by;
        part = [];
        older = (part ++ fork_items by.next s) ∷ older;
        point = both.1;
        stands = record {
          runs = by.runs;
          frames = subst (λ (ys : List OwnFrame). AreFrames c.program t (g ∷ gs) ys (parent_frames c by.next s forks_by ++ by.rest)) (sym xs) (
            fork.of_parent,
            subst (λ (hs : List Func). AreFrames c.program t hs (Joins forking.branch ∷ frames_of run) (joins fork.assigned (suc s.forks) d ∷ (forked_step.later ++ by.rest)))
                (sym (part_behind forking.own (g ∷ gs) p)) ((fork.assigned, suc s.forks, d, refl, fork.joined), behind),
          );
          state = h.1;
          tells = nothing;
        };
        children = subst (λ ys. AreChildren c t s.label (record { ordinal = suc s.forks; outcome = d } ∷ open_children (forked_step.later ++ by.rest)) ((part ++ fork_items by.next s) ∷ older) ys)
            (sym ks) (
              record {
                ordinal = ordinal ∙ h.1.forks;
                tells = told_before;
                result = subst (λ (o : Option Ended). IsDelivered c t (fork_of s.label (suc s.forks)) x.func o) (sym none) tt;
              },
              subst (λ os. AreChildren c t s.label os older (reverse children)) (sym left) kids,
            );
        run_in =
            ap (functions_of run.func) xs
            ∙ part_functions run.func forking.own (Joins forking.branch ∷ frames_of run) p
            ∙ ap (λ fs. forked_in forking.branch run.func ∷ fs) in_them
            ∙ ap (λ (f : Option ℕ). f ∷ (map function_of_child (reverse children) ++ func ∷ [])) (sym func_is)
            ∙ ap (λ ys. map function_of_child ys ++ func ∷ []) (sym ks);
        record_block = recorded_is;
      }

-- ---- the same of a thread that is at its point

by_functions : {P : Type 0} (c : Setting) (t : Table) (run : ThreadRun) (forking : Forking) (gs : List Func) (own : List Frame) (s : State) (part : List Item)
    → IsBefore c t gs run (ready.Fork forking) own s part
    → ((g : Func) (rest : List Func) → ActsBy c t (g ∷ rest) run (ready.Fork forking) own s → InState (g ∷ rest) run.state s → Tells run.told part → P) → P
by_functions c t run forking [] own s part b f = absurd b.next.runs
by_functions c t run forking (g ∷ gs) own s part b f = f g gs b.next b.state b.tells

pub is_fork : (children : List OpenChild) (p : Prepared) → IsFork (told_as children p) → (forking : Forking) × (room : ChildRoom) × (p ≡ Fork forking room)
is_fork children Nothing h = absurd h
is_fork children (Fork forking room) h = (forking, room, refl)
is_fork children (Join branch assigned) h = absurd h
is_fork children (Alloc slot len words shell) h = absurd h
is_fork children (Release slot words) h = absurd h
is_fork children Dummy h = absurd h
is_fork children (Fault fault) h = absurd h
is_fork children End h = absurd h

module _ (c : Setting) (t : Table) (func : Option ℕ) (run : ThreadRun) (children : List OpenChild) (block : Option RecordBlock) (forking : Forking) (room : ChildRoom)
    (owned : Ownership c.program) (turns : c.most_turns ≡ MOST_TURNS) (a : At c t func run children block (Fork forking room)) where
  pub running : run.state.faulted ≡ false
  running = by_functions c t run forking a.functions a.own a.at a.part a.stands.0 (λ g gs by is tells.
      is.faulted ∙ fork_going c t func run children block forking g gs a.own a.at a.part a.older owned turns a.point by is tells a.children a.run_in a.record_block)

  pub slots_fit : (slots : List ℕ) → slots ≡ room.named.items → FitsSlots (length (own_row run.state)) slots
  slots_fit slots e = by_functions c t run forking a.functions a.own a.at a.part a.stands.0 (λ g gs by is tells.
      fits c t func run children block forking g gs a.own a.at a.part a.older owned turns a.point by is tells a.children a.run_in a.record_block slots (e ∙ a.stands.1))

  pub states_of : (slots : List ℕ) (after child : ThreadState) → slots ≡ room.named.items → ForksState forking.branch slots run.state after child → States run.state after child
  states_of slots after child e forks = by_functions c t run forking a.functions a.own a.at a.part a.stands.0 (λ g gs by is tells.
      counted c t func run children block forking g gs a.own a.at a.part a.older owned turns a.point by is tells a.children a.run_in a.record_block slots after child
      (e ∙ a.stands.1) forks)

  pub child_at : (slots : List ℕ) (after child : ThreadState) (fs : Vec OwnFrame Global) (told : Told) (new : RecordBlock) → slots ≡ room.named.items
      → ForksState forking.branch slots run.state after child → fs.items ≡ forking.work ∷ [] → Tells told []
      → At c t (forked_in forking.branch run.func) (record { func = forked_in forking.branch run.func; state = child; frames = fs; told = told }) [] (Some new) Nothing
  child_at slots after child fs told new e forks items nothing = by_functions c t run forking a.functions a.own a.at a.part a.stands.0 (λ g gs by is tells.
      child_is c t func run children block forking g gs a.own a.at a.part a.older owned turns a.point by is tells a.children a.run_in a.record_block slots after child fs told new
      (e ∙ a.stands.1) forks items nothing)

  pub parent_at : (slots : List ℕ) (after child : ThreadState) (fs : Vec OwnFrame Global) (told : Told) (x : OpenChild) → slots ≡ room.named.items
      → ForksState forking.branch slots run.state after child → fs.items ≡ (run.frames.items ++ Joins forking.branch ∷ []) ++ forking.own ∷ [] → Tells told []
      → x.ordinal ≡ after.forks → x.func ≡ forked_in forking.branch run.func → x.before ≡ run.told → x.ended ≡ None
      → At c t func (record { func = run.func; state = after; frames = fs; told = told }) (children ++ x ∷ []) block Nothing
  parent_at slots after child fs told x e forks items nothing ordinal func_is before_is none =
      by_functions c t run forking a.functions a.own a.at a.part a.stands.0 (λ g gs by is tells.
      parent_is c t func run children block forking g gs a.own a.at a.part a.older owned turns a.point by is tells a.children a.run_in a.record_block slots after child fs told x
      (e ∙ a.stands.1) forks items nothing ordinal func_is before_is none)

-- the words of open children, with one more that has brought nothing
pub brought_more : (children : List OpenChild) (x : OpenChild) → x.ended ≡ None → all_brought (children ++ x ∷ []) ≡ all_brought children
brought_more [] x none = let no = ap brought none in omega (arith, no)
brought_more (y ∷ children) x none = let rest = brought_more children x none in omega (arith, rest)
