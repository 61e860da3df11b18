-- An action that a thread does alone.
use Rattle.std.proofs.Common.{◌≡◌, ℕ, suc, ◌+◌, Bool, true, false, List, [], ◌∷◌, ◌++◌, length, map, Option, Some, None, refl, sym, ◌∙◌, ap, subst, arith, append_assoc, append-nil, inl, inr}
use Rattle.std.specs.Prelude.{reverse, ◌⊎◌, ℤ}
use Rattle.std.proofs.lemmas.List.{length-append}
use Rattle.dag_order.specs.LabelOrder.{fork_of}
use Rattle.dag_order.specs.declared.fault.FaultAt.{FaultAt}
use Rattle.block_arena.specs.declared.record_block.RecordBlock.{RecordBlock}
use Rattle.depth_first_list.specs.Actions.{Deed}
use Rattle.thread_run.specs.Passed.Tree.{Name, Func, done, step}
use Rattle.thread_run.specs.Passed.Ownership.{Ownership}
use Rattle.thread_state.specs.Passed.States.{Setting, State, Item, next_action, skip_if, unless_faulted}
use Rattle.thread_state.specs.Passed.DepthFirstRunCalls.{with_answer, returned}
use Rattle.thread_state.specs.Passed.Run.{lines_of, first_fault, on_store, rejoin_block, ignore_answer}
use Rattle.thread_run.specs.Passed.Holdings.{IsOfAllocation}
use Rattle.thread_run.proofs.Passed.Skipping.{runs_without_fault}
use Rattle.thread_state.specs.Passed.Middle.{Frame, does, statements, tree, answers, rejoins, answers_main, allocates, awaits, joins, Middle, step_frame, step_first}
use Rattle.node_table.specs.Table.{Table}
use Rattle.node_table.specs.Names.{slot_names}
use Rattle.thread_run.specs.Passed.Points.{Each, IsOwn, IsAt, IsPlain, mark_of, marked, step_of, StepsAlone, StepForks, words_at_end}
use Rattle.thread_run.specs.Passed.Threads.{IsThread, open_children}
use Rattle.thread_run.proofs.Passed.Putting.{ahead_of, frame_put}
use Rattle.thread_run.proofs.Passed.Walking.{plain_own}
use Rattle.thread_run.proofs.Passed.Alone.{alone_or_forks}
use Rattle.thread_run.proofs.Passed.Telling.{thread_steps}
use Rattle.thread_stack.specs.Frames.{AreFrames, RunsIn}
use Rattle.thread_output.specs.Joining.{lines_before}
use Rattle.thread_run.specs.Passed.Laws.{earlier_fault}
use Rattle.thread_output.specs.Telling.{Tells, AreLines}
use Rattle.thread_output.specs.declared.told.Told.{Told}
use Rattle.thread_output.proofs.Both.{faults, lines}
use Rattle.thread_state.specs.States.{IsState}
use Rattle.thread_state.specs.declared.state.ThreadState.{ThreadState}
use Rattle.thread_run.specs.Stands.{InState}
use Rattle.thread_run.specs.declared.ready.Ready.{Ready}
use Rattle.thread_run.proofs.Coming.{items_aside}
use Rattle.thread_run.specs.Functions.{frames_of, functions_of}
use Rattle.thread_run.specs.Going.{ActsBy}
use Rattle.thread_run.specs.declared.run.ThreadRun.{ThreadRun}
use Rattle.thread_frames.specs.Views.{recorded}
use Rattle.thread_frames.specs.Points.{At, AreChildren, function_of_child}
use Rattle.thread_frames.specs.declared.open_child.OpenChild.{OpenChild}
use Rattle.thread_frames.specs.declared.prepared.Prepared.TheVariants.{Nothing}

-- ---- frames and labels

-- only a Join is the frame of an open child
pub open_plain : (f : Frame) (fs : List Frame) → IsPlain f → open_children (f ∷ fs) ≡ open_children fs
open_plain (does part) fs p = refl
open_plain (answers ret params args t) fs p = refl
open_plain (rejoins b l r) fs p = refl
open_plain (answers_main ret) fs p = refl
open_plain (allocates b n) fs p = refl
open_plain (awaits named assigned own parent) fs p = absurd p
open_plain (joins assigned child d) fs p = absurd p

pub open_behind : (fs gs : List Frame) → Each IsPlain fs → open_children (fs ++ gs) ≡ open_children gs
open_behind [] gs p = refl
open_behind (f ∷ fs) gs p = open_plain f (fs ++ gs) p.0 ∙ open_behind fs gs p.1

-- the label of a child is none of its parent
pub longer : (l : List ℕ) (x : ℕ) → fork_of l x ≡ l → ⊥
longer l x e = let n = ap length e in let m = length-append l (x ∷ []) in omega (arith, n, m)

pub alone : (c : Setting) (f : Frame) (s : State) → IsOwn f → (step_of c f s).state.label ≡ s.label → StepsAlone c f s
alone c f s o e = by (alone_or_forks c f s o)
  where
    by : StepsAlone c f s ⊎ StepForks c f s → StepsAlone c f s
    by (inl k) = k
    by (inr k) = absurd (longer s.label (suc s.forks) (sym (ap (λ m. m.state.label) k.forked) ∙ e))

-- a step that keeps the label of its thread
abbrev pub Steps : Setting → List Item → List (List Item) → List Frame → Middle → Type 0
Steps c part older own m = IsThread c m.frames m.state (part ∷ older) × (open_children m.frames ≡ open_children own)

pub stepped : (c : Setting) (f : Frame) (own : List Frame) (s : State) (part : List Item) (older : List (List Item)) (new : List Item)
    → IsThread c (f ∷ own) s (part ∷ older) → IsPlain f → (step_frame c f own s).state.label ≡ s.label
    → (step_frame c f own s).state.items ≡ s.items ++ new
    → Steps c (part ++ new) older (f ∷ own) (step_frame c f own s)
stepped c f own s part older new th plain label grown =
    let put : step_frame c f own s ≡ ahead_of (step_of c f s) own = frame_put c f own s in
    let k : StepsAlone c f s = alone c f s (plain_own f plain) (sym (ap (λ m. m.state.label) put) ∙ label) in
    subst (λ m. Steps c (part ++ new) older (f ∷ own) m) (sym put) (
      thread_steps c f own s part older new th plain k.plain (sym (ap (λ m. m.state.items) put) ∙ grown),
      open_behind (step_of c f s).frames own k.plain ∙ sym (open_plain f own plain),
    )

-- ---- what is told

no_later_fault : (f : Option FaultAt) → earlier_fault f None ≡ f
no_later_fault None = refl
no_later_fault (Some fault) = refl

no_later_line : (f : Option FaultAt) (vs : List ℤ) → lines_before f vs [] ≡ vs
no_later_line None vs = append-nil vs
no_later_line (Some fault) vs = refl

-- items that tell nothing
pub quiet_behind : (told : Told) (items new : List Item) → Tells told items → first_fault new ≡ None → lines_of new ≡ [] → Tells told (items ++ new)
quiet_behind told items new h none no_line = record {
  fault = h.fault ∙ sym (faults items new ∙ ap (earlier_fault (first_fault items)) none ∙ no_later_fault (first_fault items));
  lines =
      let same : lines_of (items ++ new) ≡ lines_of items =
      lines items new ∙ ap (lines_before (first_fault items) (lines_of items)) no_line ∙ no_later_line (first_fault items) (lines_of items) in
      subst (λ (vs : List ℤ). AreLines told.lines vs) (sym same) h.lines;
}

pub mark_no_fault : (f : Frame) (xs : List Item) → first_fault (mark_of f ++ xs) ≡ first_fault xs
mark_no_fault (does (statements done)) xs = refl
mark_no_fault (does (statements (step line stmt rest))) xs = refl
mark_no_fault (does (tree shape)) xs = refl
mark_no_fault (answers ret params args t) xs = refl
mark_no_fault (rejoins b l r) xs = refl
mark_no_fault (answers_main ret) xs = refl
mark_no_fault (allocates b n) xs = refl
mark_no_fault (awaits named assigned own parent) xs = refl
mark_no_fault (joins assigned child d) xs = refl

pub mark_no_line : (f : Frame) (xs : List Item) → lines_of (mark_of f ++ xs) ≡ lines_of xs
mark_no_line (does (statements done)) xs = refl
mark_no_line (does (statements (step line stmt rest))) xs = refl
mark_no_line (does (tree shape)) xs = refl
mark_no_line (answers ret params args t) xs = refl
mark_no_line (rejoins b l r) xs = refl
mark_no_line (answers_main ret) xs = refl
mark_no_line (allocates b n) xs = refl
mark_no_line (awaits named assigned own parent) xs = refl
mark_no_line (joins assigned child d) xs = refl

-- ---- the action

-- the mark of a statement is aside
pub marked_state : (gs : List Func) (u : ThreadState) (f : Frame) (s : State) → InState gs u s → InState gs u (marked f s)
marked_state gs u f s is = items_aside (map slot_names gs) u s (s.items ++ mark_of f) is

-- what an action leaves of the label and the counts of a thread
pub record Counts (u v : ThreadState) : Type 0 where
  pub label : u.label ≡ v.label
  pub done : u.done ≡ v.done + 1
  pub forks : u.forks ≡ v.forks

pub counts : (contexts next : List (List Name)) (u v : ThreadState) (s after : State) → IsState contexts v s → IsState next u after
    → after.label ≡ s.label → after.done ≡ suc s.done → after.forks ≡ s.forks → Counts u v
counts contexts next u v s after is to label counted forks = record {
  label = to.label ∙ label ∙ sym is.label;
  done = let a = to.done in let b = is.done in omega (arith, a, b, counted);
  forks = to.forks ∙ forks ∙ sym is.forks;
}

-- a step of a thread that keeps its label leads to its next point
pub moved_at : (c : Setting) (t : Table) (func : Option ℕ) (run : ThreadRun) (children : List OpenChild) (block : Option RecordBlock) (gs : List Func)
    (next : Frame) (rest own : List Frame) (s : State) (part : List Item) (older : List (List Item)) (new : List Item) (u : ThreadState) (told : Told)
    → own ≡ next ∷ rest
    → IsPlain next
    → RunsIn c.program t run.func gs
    → AreFrames c.program t gs (frames_of run) (step_frame c next rest s).frames
    → IsThread c own s (part ∷ older)
    → Tells told (part ++ new)
    → AreChildren c t s.label (open_children own) older (reverse children)
    → functions_of run.func (frames_of run) ≡ map function_of_child (reverse children) ++ func ∷ []
    → recorded block ≡ words_at_end s.label
    → (step_frame c next rest s).state.label ≡ s.label
    → (step_frame c next rest s).state.items ≡ s.items ++ new
    → InState gs u (step_frame c next rest s).state
    → At c t func (record run { state = u; told = told }) children block Nothing
moved_at c t func run children block gs next rest own s part older new u told own_is plain runs frames th tells kids in_them recorded_is label grown state =
    let m = step_frame c next rest s in
    let moved : Steps c (part ++ new) older (next ∷ rest) m =
    stepped c next rest s part older new (subst (λ (o : List Frame). IsThread c o s (part ∷ older)) own_is th) plain label grown in
    let same : open_children m.frames ≡ open_children own = moved.1 ∙ sym (ap open_children own_is) in
    record {
      functions = gs;
      own = m.frames;
      at = m.state;
      part = part ++ new;
      older = older;
      point = moved.0;
      stands = record { runs = runs; frames = frames; state = state; tells = tells };
      children =
          subst (λ (l : List ℕ). AreChildren c t l (open_children m.frames) older (reverse children)) (sym label)
          (subst (λ os. AreChildren c t s.label os older (reverse children)) (sym same) kids);
      run_in = in_them;
      record_block = recorded_is ∙ ap words_at_end (sym label);
    }

-- a thread that stands before an action comes to its next point by it
pub acted_at : (c : Setting) (t : Table) (func : Option ℕ) (run : ThreadRun) (children : List OpenChild) (block : Option RecordBlock) (gs : List Func)
    (own : List Frame) (s : State) (part : List Item) (older : List (List Item)) (ready : Ready) (deed : Deed) (words : ℕ) (u : ThreadState)
    → (by : ActsBy c t gs run ready own s)
    → AreFrames c.program t gs (frames_of run) (step_frame c by.next by.rest s).frames
    → IsThread c own s (part ∷ older)
    → Tells run.told part
    → AreChildren c t s.label (open_children own) older (reverse children)
    → functions_of run.func (frames_of run) ≡ map function_of_child (reverse children) ++ func ∷ []
    → recorded block ≡ words_at_end s.label
    → (step_frame c by.next by.rest s).state.label ≡ s.label
    → (step_frame c by.next by.rest s).state.items ≡ (s.items ++ mark_of by.next) ++ next_action deed words s ∷ []
    → InState gs u (step_frame c by.next by.rest s).state
    → At c t func (record run { state = u }) children block Nothing
acted_at c t func run children block gs own s part older ready deed words u by frames th tells kids in_them recorded_is label items state =
    let new : List Item = mark_of by.next ++ next_action deed words s ∷ [] in
    moved_at c t func run children block gs by.next by.rest own s part older new u run.told by.own_is by.plain by.runs frames th
    (quiet_behind run.told part new tells (mark_no_fault by.next (next_action deed words s ∷ [])) (mark_no_line by.next (next_action deed words s ∷ [])))
    kids in_them recorded_is label (items ∙ append_assoc s.items (mark_of by.next) (next_action deed words s ∷ [])) state

-- ---- a thread that no fault has ended

-- one that a fault has ended skips its frames, but for those of an allocation
skips : (c : Setting) (f : Frame) (own : List Frame) (s : State) → IsPlain f → s.faulted ≡ true
    → IsOfAllocation f ⊎ ((step_frame c f own s).state ≡ s)
unfolding unless_faulted
skips c (does (statements done)) own s p e = inr refl
skips c (does (statements (step line stmt rest))) own s p e = inr (ap (λ (b : Bool). (step_first b c line stmt rest own s).state) e)
skips c (does (tree shape)) own s p e = inl tt
skips c (answers ret params args t) own s p e = inr (ap (λ (b : Bool). skip_if b (with_answer ret (returned params args t)) s) e)
skips c (rejoins b l r) own s p e = inr (ap (λ (x : Bool). skip_if x (on_store (rejoin_block b l r)) s) e)
skips c (answers_main ret) own s p e = inr (ap (λ (b : Bool). skip_if b (with_answer ret ignore_answer) s) e)
skips c (allocates b n) own s p e = inl tt
skips c (awaits named assigned mine parent) own s p e = absurd p
skips c (joins assigned child d) own s p e = absurd p

pub runs_on : (c : Setting) → Ownership c.program → (f : Frame) (own : List Frame) (s : State) → IsAt c (f ∷ own) s → IsPlain f
    → ((step_frame c f own s).state ≡ s → ⊥) → s.faulted ≡ false
runs_on c owned f own s at plain moves = go s.faulted refl
  where
    go : (b : Bool) → s.faulted ≡ b → b ≡ false
    go false e = refl
    go true e = elim (skips c f own s plain e) [
      | inl of ↦ let never : s.faulted ≡ false = runs_without_fault c owned f own s at of in cc
      | inr same ↦ absurd (moves same)
    ]

one_more : (n : ℕ) → n ≡ suc n → ⊥
one_more n e = omega (arith, e)

pub still_running : (c : Setting) → Ownership c.program → (f : Frame) (own : List Frame) (s : State) → IsAt c (f ∷ own) s → IsPlain f
    → State.done (step_frame c f own s).state ≡ suc s.done → s.faulted ≡ false
still_running c owned f own s at plain more = runs_on c owned f own s at plain (λ same. one_more s.done (sym (ap State.done same) ∙ more))
