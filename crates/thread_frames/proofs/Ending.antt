-- The End of a thread.
use Rattle.std.proofs.Common.{◌≡◌, ℕ, ◌+◌, List, [], ◌∷◌, ◌++◌, map, Option, refl, sym, ◌∙◌, ap, subst, arith}
use Rattle.std.specs.Prelude.{reverse}
use mathlib.Core.List.{reverse-reverse}
use Rattle.block_arena.specs.declared.record_block.RecordBlock.{RecordBlock}
use Rattle.depth_first_list.specs.Actions as actions
use Rattle.depth_first_list.specs.Actions.{Deed, record_words}
use Rattle.thread_run.specs.Passed.Tree.{Name, Func, Program}
use Rattle.thread_state.specs.Passed.States.{Setting, State, Item, with_action, ended}
use Rattle.thread_state.specs.Passed.Middle as middles
use Rattle.node_table.specs.Table.{Table}
use Rattle.node_table.specs.Names.{slot_names}
use Rattle.thread_run.specs.Passed.Points.{words_at_end}
use Rattle.thread_run.specs.Passed.Threads as threads
use Rattle.thread_run.specs.Passed.Threads.{IsThread, open_children}
use Rattle.thread_stack.specs.declared.frame.Frame.{Frame}
use Rattle.thread_stack.specs.Frames.{AreFrames, IsOne, RunsIn}
use Rattle.thread_output.specs.Telling.{Tells}
use Rattle.thread_state.specs.Effects.{Goes}
use Rattle.thread_state.specs.States.{words_held}
use Rattle.thread_state.specs.declared.state.ThreadState.{ThreadState}
use Rattle.thread_state.proofs.Held.{holdings_are}
use Rattle.thread_run.specs.Stands.{InState}
use Rattle.thread_run.specs.Functions.{frames_of, functions_of}
use Rattle.thread_run.specs.declared.run.ThreadRun.{ThreadRun}
use Rattle.thread_frames.specs.Views.{told_as, recorded, all_brought, ended_label}
use Rattle.thread_frames.specs.Actions.{IsEnd}
use Rattle.thread_frames.specs.Points.{At, AreChildren, IsEndOf, function_of_child}
use Rattle.thread_frames.specs.declared.ended.Ended.{Ended}
use Rattle.thread_frames.specs.declared.open_child.OpenChild.{OpenChild}
use Rattle.thread_frames.specs.declared.prepared.Prepared.{Prepared}
use Rattle.thread_frames.specs.declared.prepared.Prepared.TheVariants.{Nothing, Fork, Join, Alloc, Release, Dummy, Fault, End}

pub is_end : (children : List OpenChild) (p : Prepared) → IsEnd (told_as children p) → p ≡ End
is_end children Nothing h = absurd h
is_end children (Fork forking room) h = absurd h
is_end children (Join branch assigned) h = absurd h
is_end children (Alloc slot len words shell) h = absurd h
is_end children (Release slot words) h = absurd h
is_end children Dummy h = absurd h
is_end children (Fault fault) h = absurd h
is_end children End h = refl

-- without open frames no child is open, and one function is left
no_frames : (p : Program) (t : Table) (gs : List Func) (xs : List Frame) → AreFrames p t gs xs [] → (xs ≡ []) × IsOne gs
no_frames p t gs [] h = (refl, h)
no_frames p t gs (x ∷ xs) h = absurd h

no_children : (c : Setting) (t : Table) (label : List ℕ) (older : List (List Item)) (kids : List OpenChild) → AreChildren c t label [] older kids
    → (older ≡ []) × (kids ≡ [])
no_children c t label [] [] h = (refl, refl)
no_children c t label [] (x ∷ xs) h = absurd h
no_children c t label (before ∷ older) kids h = absurd h

first_same : {A : Type 0} (x y : A) → x ∷ [] ≡ y ∷ [] → x ≡ y
first_same x y e = cc

-- what is known of a thread whose End comes next
pub record EndsHere (c : Setting) (t : Table) (func : Option ℕ) (run : ThreadRun) (children : List OpenChild) (functions : List Func) (s : State) (part : List Item)
    : Type 0 where
  pub point : IsThread c [] s (part ∷ [])
  pub none_open : children ≡ []
  pub same_func : run.func ≡ func
  pub one : IsOne functions
  pub runs : RunsIn c.program t func functions

pub ends_here : (c : Setting) (t : Table) (func : Option ℕ) (run : ThreadRun) (children : List OpenChild) (block : Option RecordBlock)
    (a : At c t func run children block End) → EndsHere c t func run children a.functions a.at a.part
ends_here c t func run children block a =
    let none = a.stands.next.none_left in
    let f = no_frames c.program t a.functions (frames_of run) (subst (λ (o : List middles.Frame). AreFrames c.program t a.functions (frames_of run) o) none a.stands.next.frames) in
    let k = no_children c t a.at.label a.older (reverse children)
    (subst (λ (os : List threads.OpenChild). AreChildren c t a.at.label os a.older (reverse children)) (ap open_children none) a.children) in
    let closed : children ≡ [] = sym (reverse-reverse children) ∙ ap reverse k.1 in
    let same : run.func ≡ func =
    first_same run.func func (sym (ap (functions_of run.func) f.0) ∙ a.run_in ∙ ap (λ xs. map function_of_child xs ++ func ∷ []) k.1) in
    record {
      point =
          subst (λ (xs : List (List Item)). IsThread c [] a.at (a.part ∷ xs)) k.0
          (subst (λ (o : List middles.Frame). IsThread c o a.at (a.part ∷ a.older)) none a.point);
      none_open = closed;
      same_func = same;
      one = f.1;
      runs = subst (λ (x : Option ℕ). RunsIn c.program t x a.functions) same a.stands.next.runs;
    }

-- a state that has gone on by an action, and is taken out of its place
pub taken_out : (before after taken : ThreadState) → taken ≡ after
    → ((contexts : List (List Name)) (deed : Deed) (words : ℕ) → Goes contexts contexts before after (with_action deed words))
    → (contexts : List (List Name)) (deed : Deed) (words : ℕ) → Goes contexts contexts before taken (with_action deed words)
taken_out before after taken same goes contexts deed words =
    subst (λ (u : ThreadState). Goes contexts contexts before u (with_action deed words)) (sym same) (goes contexts deed words)

-- its state behind the End
ended_state : (c : Setting) (t : Table) (func : Option ℕ) (run : ThreadRun) (children : List OpenChild) (block : Option RecordBlock) (u : ThreadState)
    → ((contexts : List (List Name)) (deed : Deed) (words : ℕ) → Goes contexts contexts run.state u (with_action deed words))
    → (a : At c t func run children block End) → InState a.functions u (ended record_words a.at)
unfolding ended
ended_state c t func run children block u goes a = goes (map slot_names a.functions) actions.ends record_words a.at a.stands.state

pub ended_label_is : (c : Setting) (t : Table) (func : Option ℕ) (run : ThreadRun) (children : List OpenChild) (block : Option RecordBlock) (u : ThreadState)
    → ((contexts : List (List Name)) (deed : Deed) (words : ℕ) → Goes contexts contexts run.state u (with_action deed words))
    → (a : At c t func run children block End) → (u.label ≡ a.at.label) × (words_held u ≡ words_held run.state)
unfolding ended with_action
ended_label_is c t func run children block u goes a =
    let is = ended_state c t func run children block u goes a in
    let after = holdings_are (map slot_names a.functions) u (ended record_words a.at) is in
    let before = holdings_are (map slot_names a.functions) run.state a.at a.stands.state in
    (is.label, after ∙ sym before)

-- the words that it leaves to its parent, and those of its record block
pub words_left : (c : Setting) (t : Table) (func : Option ℕ) (run : ThreadRun) (children : List OpenChild) (block : Option RecordBlock) (u : ThreadState)
    → ((contexts : List (List Name)) (deed : Deed) (words : ℕ) → Goes contexts contexts run.state u (with_action deed words))
    → (a : At c t func run children block End)
    → words_held u + words_at_end run.state.label ≡ words_held run.state + recorded block + all_brought children
words_left c t func run children block u goes a =
    let same = (ended_label_is c t func run children block u goes a).1 in
    let none = ap all_brought (ends_here c t func run children block a).none_open in
    let block_is = a.record_block ∙ ap words_at_end (sym a.stands.state.label) in
    omega (arith, same, none, block_is)

one_function : (c : Setting) (t : Table) (func : Option ℕ) (functions : List Func) (s : State) (part : List Item) (result : Ended) → IsOne functions
    → result.func ≡ func → RunsIn c.program t func functions → IsThread c [] s (part ∷ []) → InState functions result.state (ended record_words s)
    → Tells result.told part → result.state.label ≡ s.label → IsEndOf c t (ended_label result) result.func result
one_function c t func [] s part result one same runs th is tells label = absurd one
one_function c t func (g ∷ h ∷ gs) s part result one same runs th is tells label = absurd one
one_function c t func (g ∷ []) s part result one same runs th is tells label = record {
  function = g;
  last = s;
  items = part;
  thread = th;
  labelled = sym label;
  same_func = refl;
  runs = subst (λ (x : Option ℕ). RunsIn c.program t x (g ∷ [])) (sym same) runs;
  state = is;
  tells = tells;
}

pub end_result : (c : Setting) (t : Table) (func : Option ℕ) (run : ThreadRun) (children : List OpenChild) (block : Option RecordBlock) (result : Ended)
    → result.func ≡ func → result.told ≡ run.told
    → ((contexts : List (List Name)) (deed : Deed) (words : ℕ) → Goes contexts contexts run.state result.state (with_action deed words))
    → At c t func run children block End → IsEndOf c t (ended_label result) result.func result
end_result c t func run children block result same told goes a =
    let e = ends_here c t func run children block a in
    one_function c t func a.functions a.at a.part result e.one same e.runs e.point (ended_state c t func run children block result.state goes a)
    (subst (λ x. Tells x a.part) (sym told) a.stands.tells) (ended_label_is c t func run children block result.state goes a).0
