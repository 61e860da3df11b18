-- The way of a thread to its next action.
use Rattle.std.proofs.Common.{◌≡◌, ℕ, List, ◌∷◌, Option, None, refl, sym, ◌∙◌, ap, subst}
use Rattle.std.specs.Prelude.{reverse, Vec}
use Rattle.std.proofs.Math.Logic.{∥∥₁_elim, ∥∥₁_map, ∥∥₁_prop}
use Rattle.std.specs.declared.alloc.Global.{Global}
use Rattle.block_arena.specs.declared.record_block.RecordBlock.{RecordBlock}
use Rattle.thread_run.specs.Passed.Tree.{Func}
use Rattle.thread_state.specs.Passed.States.{Setting, State, Item}
use Rattle.thread_state.specs.Passed.Middle as middles
use Rattle.thread_state.specs.Passed.Middle.{step_frame}
use Rattle.node_table.specs.Table.{Table}
use Rattle.thread_run.specs.Passed.Points.{marked, words_at_end}
use Rattle.thread_run.specs.Passed.Threads.{open_children}
use Rattle.thread_stack.specs.declared.frame.Frame.{Frame}
use Rattle.thread_stack.specs.Frames.{AreFrames}
use Rattle.thread_run.specs.Dones.{IsAction}
use Rattle.thread_run.specs.declared.ready.Ready.{Ready}
use Rattle.thread_run.specs.declared.ready.Ready.TheVariants as ready
use Rattle.thread_run.specs.Functions.{functions_of, frames_of, frames_before}
use Rattle.thread_run.specs.Going.{IsNext, ActsBy, IsBefore, IsKnown, Comes}
use Rattle.thread_run.specs.Stepping.{GoesOn}
use Rattle.thread_run.specs.declared.run.ThreadRun.{ThreadRun}
use Rattle.thread_frames.specs.Views.{told_as}
use Rattle.thread_frames.specs.Points.{At, Stands, AreChildren, IsAtPoint, frames_left}
use Rattle.thread_frames.specs.Preparing.{Prepares}
use Rattle.thread_frames.specs.declared.open_child.OpenChild.{OpenChild}
use Rattle.thread_frames.specs.declared.prepared.Prepared.{Prepared}
use Rattle.thread_frames.specs.declared.prepared.Prepared.TheVariants.{Nothing, Fork, Join, Alloc, Release, Dummy, Fault, End}
use Rattle.thread_frames.specs.declared.thread.Thread.{Thread}
use Rattle.thread_frames.proofs.Placed.{prepared_as}

-- nothing is prepared
pub is_nothing : (children : List OpenChild) (p : Prepared) → told_as children p ≡ None → p ≡ Nothing
is_nothing children Nothing e = refl
is_nothing children (Fork forking room) e = let never : ⊥ = cc in absurd never
is_nothing children (Join branch assigned) e = let never : ⊥ = cc in absurd never
is_nothing children (Alloc slot len words shell) e = let never : ⊥ = cc in absurd never
is_nothing children (Release slot words) e = let never : ⊥ = cc in absurd never
is_nothing children Dummy e = let never : ⊥ = cc in absurd never
is_nothing children (Fault fault) e = let never : ⊥ = cc in absurd never
is_nothing children End e = let never : ⊥ = cc in absurd never

-- a thread that is at its point goes on in the run of some program
pub known : (t : Table) (k : ℕ) (thread : Thread) → thread.prepared ≡ Nothing → IsAtPoint t k thread → IsKnown t k thread.run
known t k thread is p =
    ∥∥₁_elim p.of_program ∥∥₁_prop (λ y. ∥∥₁_map (p.at y.0 y.1) (λ x.
    (let a : At y.0 t thread.func thread.run thread.children.items thread.record_block Nothing =
    prepared_as y.0 t thread.func thread.run thread.children.items thread.record_block Nothing thread.prepared (sym is) x in
    record {
      setting = y.0;
      of_table = y.1;
      functions = a.functions;
      own = a.own;
      at = a.at;
      part = a.part;
      older = a.older;
      thread = a.point;
      going = a.stands;
    })))

-- the room of a list of frames is of no account
module _ (c : Setting) (t : Table) (gs : List Func) (run : ThreadRun) (fs : Vec Frame Global) (own : List middles.Frame) (s : State)
    (same : fs.items ≡ run.frames.items) where
  abbrev roomy : ThreadRun
  roomy = record run { frames = fs }

  same_frames : frames_of run ≡ reverse fs.items
  same_frames = ap reverse (sym same)

  acts_roomy : (ready : Ready) → ActsBy c t gs run ready own s → ActsBy c t gs roomy ready own s
  acts_roomy ready by = record {
    next = by.next;
    rest = by.rest;
    own_is = by.own_is;
    plain = by.plain;
    runs = by.runs;
    behind = by.behind;
    acts = subst (λ (xs : List Frame). IsAction c t gs run.state xs by.behind (marked by.next s) (step_frame c by.next by.rest s) ready) same_frames by.acts;
  }

  next_roomy : (ready : Ready) → IsNext c t gs run ready own s → IsNext c t gs roomy ready own s
  next_roomy (ready.Fork forking) by = acts_roomy (ready.Fork forking) by
  next_roomy (ready.Join branch) by = record {
    runs = by.runs;
    frames = subst (λ (xs : List Frame). AreFrames c.program t gs (Frame.Joins branch ∷ xs) own) same_frames by.frames;
  }
  next_roomy (ready.Alloc slot len shell) by = acts_roomy (ready.Alloc slot len shell) by
  next_roomy (ready.Release slot words) by = acts_roomy (ready.Release slot words) by
  next_roomy ready.Dummy by = acts_roomy ready.Dummy by
  next_roomy (ready.Fault fault) by = record {
    next = by.next;
    rest = by.rest;
    own_is = by.own_is;
    plain = by.plain;
    functions = by.functions;
    runs = by.runs;
    frames = subst (λ (xs : List Frame). AreFrames c.program t by.functions xs (middles.Middle.frames (step_frame c by.next by.rest s))) same_frames by.frames;
    comes = by.comes;
  }
  next_roomy ready.End by = record {
    runs = by.runs;
    frames = subst (λ (xs : List Frame). AreFrames c.program t gs xs own) same_frames by.frames;
    none_left = by.none_left;
  }

  pub before_roomy : (ready : Ready) (part : List Item) → IsBefore c t gs run ready own s part → IsBefore c t gs roomy ready own s part
  before_roomy ready part b = record { next = next_roomy ready b.next; state = b.state; tells = b.tells }

-- what is prepared, where the thread stands before the action
prepared_stands : (c : Setting) (t : Table) (gs : List Func) (run : ThreadRun) (own : List middles.Frame) (s : State) (part : List Item) (ready : Ready) (p : Prepared)
    → Prepares t run.state ready p → IsBefore c t gs run ready own s part → Stands c t gs run p own s part
prepared_stands c t gs run own s part (ready.Fork forking) p h b =
    subst (λ (q : Prepared). Stands c t gs run q own s part) (sym h.1) (b, h.3, h.2)
prepared_stands c t gs run own s part (ready.Join branch) p h b = subst (λ (q : Prepared). Stands c t gs run q own s part) (sym h.1) (b, h.2)
prepared_stands c t gs run own s part (ready.Alloc slot len shell) p h b = subst (λ (q : Prepared). Stands c t gs run q own s part) (sym h.1) (b, h.2)
prepared_stands c t gs run own s part (ready.Release slot words) p h b = subst (λ (q : Prepared). Stands c t gs run q own s part) (sym h) b
prepared_stands c t gs run own s part ready.Dummy p h b = subst (λ (q : Prepared). Stands c t gs run q own s part) (sym h) b
prepared_stands c t gs run own s part (ready.Fault fault) p h b = subst (λ (q : Prepared). Stands c t gs run q own s part) (sym h) b
prepared_stands c t gs run own s part ready.End p h b = subst (λ (q : Prepared). Stands c t gs run q own s part) (sym h) b

-- a Join that comes next is the frame of its child
prepared_frames : (t : Table) (run : ThreadRun) (ready : Ready) (p : Prepared) (xs : List Frame) → Prepares t run.state ready p → frames_left p xs ≡ frames_before ready xs
prepared_frames t run (ready.Fork forking) p xs h = ap (λ q. frames_left q xs) h.1
prepared_frames t run (ready.Join branch) p xs h = ap (λ q. frames_left q xs) h.1
prepared_frames t run (ready.Alloc slot len shell) p xs h = ap (λ q. frames_left q xs) h.1
prepared_frames t run (ready.Release slot words) p xs h = ap (λ q. frames_left q xs) h
prepared_frames t run ready.Dummy p xs h = ap (λ q. frames_left q xs) h
prepared_frames t run (ready.Fault fault) p xs h = ap (λ q. frames_left q xs) h
prepared_frames t run ready.End p xs h = ap (λ q. frames_left q xs) h

-- a thread that has come to its next action stands before it
pub came : (c : Setting) (t : Table) (func : Option ℕ) (run after : ThreadRun) (fs : Vec Frame Global) (children more : List OpenChild) (block : Option RecordBlock)
    (ready : Ready) (p : Prepared) (a : At c t func run children block Nothing)
    → Comes c t a.own a.older after ready → Prepares t after.state ready p
    → functions_of after.func (frames_before ready (frames_of after)) ≡ functions_of run.func (frames_of run)
    → after.state.label ≡ run.state.label → fs.items ≡ after.frames.items → more ≡ children
    → At c t func (record after { frames = fs }) more block p
came c t func run after fs children more block ready p a to h functions label same same_children =
    let labelled : to.at.label ≡ a.at.label = sym to.before.state.label ∙ label ∙ a.stands.state.label in
    let xs : reverse fs.items ≡ frames_of after = ap reverse same in
    subst (λ (kids : List OpenChild). At c t func (record after { frames = fs }) kids block p) (sym same_children) (record {
      functions = to.functions;
      own = to.frames;
      at = to.at;
      part = to.part;
      older = a.older;
      point = to.thread;
      stands = prepared_stands c t to.functions (record after { frames = fs }) to.frames to.at to.part ready p h
          (before_roomy c t to.functions after fs to.frames to.at same ready to.part to.before);
      children =
          subst (λ (l : List ℕ). AreChildren c t l (open_children to.frames) a.older (reverse children)) (sym labelled)
          (subst (λ os. AreChildren c t a.at.label os a.older (reverse children)) (sym to.children) a.children);
      run_in =
          ap (functions_of after.func) (prepared_frames t after ready p (reverse fs.items) h ∙ ap (frames_before ready) xs)
          ∙ functions
          ∙ a.run_in;
      record_block = a.record_block ∙ ap words_at_end (sym labelled);
    })

-- a thread that has gone on without an action has nothing prepared
pub gone : (c : Setting) (t : Table) (func : Option ℕ) (run after : ThreadRun) (children : List OpenChild) (block : Option RecordBlock)
    (a : At c t func run children block Nothing) → GoesOn c t a.own a.older after
    → functions_of after.func (frames_of after) ≡ functions_of run.func (frames_of run) → after.state.label ≡ run.state.label
    → At c t func after children block Nothing
gone c t func run after children block a to functions label =
    let labelled : to.at.label ≡ a.at.label = sym to.going.state.label ∙ label ∙ a.stands.state.label in
    record {
      functions = to.functions;
      own = to.frames;
      at = to.at;
      part = to.part;
      older = a.older;
      point = to.thread;
      stands = to.going;
      children =
          subst (λ (l : List ℕ). AreChildren c t l (open_children to.frames) a.older (reverse children)) (sym labelled)
          (subst (λ os. AreChildren c t a.at.label os a.older (reverse children)) (sym to.children) a.children);
      run_in = functions ∙ a.run_in;
      record_block = a.record_block ∙ ap words_at_end (sym labelled);
    }
