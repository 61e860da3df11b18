-- The next action of a thread is the action of the list with its label and index.
use Rattle.std.proofs.Common.{◌≡◌, ℕ, suc, Bool, true, false, List, [], ◌∷◌, ◌++◌, map, length, Option, Some, None, Vec, refl, sym, ◌∙◌, ap, subst, append_assoc}
use Rattle.std.specs.Prelude.{reverse}
use Rattle.std.proofs.Math.Logic.{∥∥₁_elim}
use mathlib.Core.HLevel.{⊥_prop}
use Rattle.std.specs.declared.alloc.Global.{Global}
use Rattle.dag_order.specs.LabelOrder.{fork_of}
use Rattle.depth_first_list.specs.Actions as actions
use Rattle.depth_first_list.specs.Actions.{Action, Deed, record_words}
use Rattle.thread_run.specs.Passed.Tree.{Name, Func, Program}
use mathlib.Core.List.{reverse-reverse, reverse-append}
use Rattle.thread_state.specs.Passed.Stores.{block_words, block_of}
use Rattle.thread_state.specs.Passed.States.{Setting, State, Item, failed, next_action, with_action, with_fault, holdings, given_back, ended, acted}
use Rattle.thread_state.specs.Passed.Run.{actions_of, whole}
use Rattle.thread_state.proofs.Passed.Stepping.{beginning_comes}
use Rattle.thread_state.proofs.Passed.Nearing.{items_grow}
use Rattle.thread_run.proofs.Passed.Reaching.{points_come}
use Rattle.thread_frames.proofs.Acting.{stepped}
use Rattle.thread_state.specs.Passed.Middle.{Frame, joins, finished, step_frame}
use Rattle.node_table.specs.Table.{Table}
use Rattle.node_table.specs.Names.{slot_names}
use Rattle.thread_run.specs.Passed.Points.{after_steps, IsAt, ActsNext, mark_of, place_of, words_at_end}
use Rattle.thread_run.specs.Passed.Laws.{join_words}
use Rattle.thread_run.specs.Passed.Threads as threads
use Rattle.thread_run.specs.Passed.Threads.{IsThread, open_children}
use Rattle.thread_run.proofs.Passed.Putting.{frame_put}
use Rattle.thread_run.proofs.Passed.Placing.{acts_next, end_next, mark_is_quiet}
use Rattle.thread_run.proofs.Passed.Telling.{join_next, thread_joins}
use Rattle.thread_stack.specs.Frames.{AreFrames, IsJoinOf, names_now}
use Rattle.thread_stack.specs.declared.branch.Branch.{Branch}
use Rattle.thread_stack.specs.declared.frame.Frame.{Frame as OwnFrame}
use Rattle.thread_stack.specs.declared.frame.Frame.TheVariants.{Joins}
use Rattle.thread_run.specs.Stands.{InState}
use Rattle.thread_run.specs.Functions.{frames_of}
use Rattle.block_arena.specs.declared.record_block.RecordBlock.{RecordBlock}
use Rattle.thread_run.specs.declared.run.ThreadRun.{ThreadRun}
use Rattle.thread_state.specs.States.{IsState, words_held}
use Rattle.thread_state.specs.Joins.{words_by, released}
use Rattle.thread_state.specs.declared.state.ThreadState.{ThreadState}
use Rattle.thread_state.proofs.Held.{holdings_are}
use Rattle.thread_state.proofs.Joining.{brought_are}
use Rattle.thread_state.proofs.Totals.{words_are}
use Rattle.std.specs.Option.{option_map}
use Rattle.thread_frames.proofs.Places.{newest_shown}
use Rattle.thread_frames.specs.Views.{Child, next_of, child_shown, children_of, newest, id_of, ordinal_of, result_of, told_as, label_of, done_of}
use Rattle.thread_frames.specs.Points.{IsAtPoint, At, AreChildren, IsChild, IsDelivered}
use Rattle.thread_frames.specs.Actions.{IsIdOf, JoinsNewest, IsOfTheList, deed_of, TellsWords, TellsJoin, TellsFault}
use Rattle.thread_frames.specs.declared.ended.Ended.{Ended}
use Rattle.thread_frames.specs.declared.next.Next.{Next}
use Rattle.thread_frames.specs.declared.next.Next.TheVariants as next
use Rattle.thread_frames.specs.declared.open_child.OpenChild.{OpenChild}
use Rattle.thread_frames.specs.declared.prepared.Prepared.{Prepared}
use Rattle.thread_frames.specs.declared.prepared.Prepared.TheVariants.{Nothing, Fork, Join, Alloc, Release, Dummy, Fault, End}
use Rattle.thread_frames.specs.declared.thread.Thread.{Thread}

-- the action of this deed and these words
abbrev pub act : Deed → ℕ → State → Action
act deed words s = record { label = s.label; index = s.done; deed = deed; words = words }

-- a step that leaves an action, and what is none behind it
pub listed : (c : Setting) (f : Frame) (own : List Frame) (s : State) (deed : Deed) (words : ℕ) (more : List Item) → IsAt c (f ∷ own) s
    → (step_frame c f own s).state.items ≡ (s.items ++ mark_of f) ++ next_action deed words s ∷ more → actions_of more ≡ []
    → ActsNext c s (act deed words s)
listed c f own s deed words more at grown none =
    acts_next c f own s at (mark_of f ++ next_action deed words s ∷ more) (act deed words s)
    (sym (ap (λ m. m.state.items) (frame_put c f own s)) ∙ grown ∙ append_assoc s.items (mark_of f) (next_action deed words s ∷ more))
    (mark_is_quiet f (next_action deed words s ∷ more) ∙ ap (λ as_. act deed words s ∷ as_) none)

-- from the place of a point to what is said of a thread
of_next : (c : Setting) (thread : Thread) (answer : Next) (s : State) (deed : Deed) (words : ℕ) → ActsNext c s (act deed words s)
    → label_of thread ≡ s.label → done_of thread ≡ s.done → deed ≡ deed_of thread answer → TellsWords thread answer words → TellsFault c thread answer
    → IsOfTheList c thread answer
of_next c thread answer s deed words h label index is tells fault_told = record {
  place = place_of s;
  inside = h.0;
  labelled = ap (λ a. a.label) h.1 ∙ sym label;
  index = ap (λ a. a.index) h.1 ∙ sym index;
  deed = ap (λ a. a.deed) h.1 ∙ is;
  words = subst (λ (n : ℕ). TellsWords thread answer n) (sym (ap (λ a. a.words) h.1)) tells;
  fault = fault_told;
}

-- ---- the fault of a run

-- the whole run goes on behind each point
whole_behind : (c : Setting) (own : List Frame) (s : State) → IsAt c own s → (later : List Item) × (State.items (whole c) ≡ s.items ++ later)
unfolding ended with_action
whole_behind c own s at =
    let m = after_steps c at.steps in
    let e : State = finished c m in
    let grown = items_grow c m in
    let last : Item = next_action actions.ends 0 e in (
      grown.0 ++ last ∷ [],
      ap (λ x. State.items x) (beginning_comes c ∙ ap (ended 0) (sym (points_come c at.steps)))
          ∙ ap (λ is. is ++ last ∷ []) grown.1
          ∙ append_assoc m.state.items grown.0 (last ∷ [])
          ∙ ap (λ x. x.state.items ++ (grown.0 ++ last ∷ [])) at.there,
    )

-- a step that leaves a fault behind an action
fault_listed : (c : Setting) (own : List Frame) (s : State) (front : List Item) (a f : Item) → IsAt c own s → s.items ≡ front ++ a ∷ f ∷ []
    → (behind : List Item) × (State.items (whole c) ≡ front ++ a ∷ f ∷ behind)
fault_listed c own s front a f at e =
    let w = whole_behind c own s at in
    (w.0, w.1 ∙ ap (λ is. is ++ w.0) e ∙ append_assoc front (a ∷ f ∷ []) w.0)

-- ---- the newest open child

pub newest_of : {A : Type 0} (xs : List A) (x : A) → newest (xs ++ x ∷ []) ≡ Some x
newest_of [] x = refl
newest_of (y ∷ []) x = refl
newest_of (y ∷ z ∷ xs) x = newest_of (z ∷ xs) x

pub newest_reversed : {A : Type 0} (xs : List A) (x : A) (more : List A) → reverse xs ≡ x ∷ more → newest xs ≡ Some x
newest_reversed xs x more e =
    ap newest (sym (reverse-reverse xs) ∙ ap reverse e ∙ reverse-append (x ∷ []) more) ∙ newest_of (reverse more) x

-- the frames of a thread whose next action is a Join
pub record JoinFrame (p : Program) (t : Table) (gs : List Func) (branch : Branch) (xs : List OwnFrame) (own : List Frame) : Type 0 where
  pub assigned : Name → Bool
  pub child : ℕ
  pub outcome : State
  pub rest : List Frame
  pub own_is : own ≡ joins assigned child outcome ∷ rest
  pub join_of : IsJoinOf p t (names_now gs) branch assigned
  pub behind : AreFrames p t gs xs rest

pub join_frame : (p : Program) (t : Table) (gs : List Func) (branch : Branch) (xs : List OwnFrame) (own : List Frame)
    → AreFrames p t gs (Joins branch ∷ xs) own → JoinFrame p t gs branch xs own
join_frame p t gs branch xs [] h = absurd h
join_frame p t gs branch xs (f ∷ fs) h = record {
  assigned = h.0.0;
  child = h.0.1;
  outcome = h.0.2;
  rest = fs;
  own_is = ap (λ x. x ∷ fs) h.0.3;
  join_of = h.0.4;
  behind = h.1;
}

-- the newest of some open children
pub record FirstChild (c : Setting) (t : Table) (label : List ℕ) (o : threads.OpenChild) (os : List threads.OpenChild) (older : List (List Item)) (kids : List OpenChild)
    : Type 0 where
  pub before : List Item
  pub olders : List (List Item)
  pub child : OpenChild
  pub others : List OpenChild
  pub older_is : older ≡ before ∷ olders
  pub kids_are : kids ≡ child ∷ others
  pub first : IsChild c t label o before child
  pub rest : AreChildren c t label os olders others

pub first_child : (c : Setting) (t : Table) (label : List ℕ) (o : threads.OpenChild) (os : List threads.OpenChild) (older : List (List Item)) (kids : List OpenChild)
    → AreChildren c t label (o ∷ os) older kids → FirstChild c t label o os older kids
first_child c t label o os [] kids h = absurd h
first_child c t label o os (before ∷ olders) [] h = absurd h
first_child c t label o os (before ∷ olders) (x ∷ xs) h = record {
  before = before;
  olders = olders;
  child = x;
  others = xs;
  older_is = refl;
  kids_are = refl;
  first = h.0;
  rest = h.1;
}

-- ---- the words of a Join

released_by_cases : (contexts : List (List Name)) (names : List Name) (own child : ThreadState) (s d : State) → IsState contexts own s → IsState (names ∷ []) child d
    → (a b : Bool) → given_back a b d s ≡ words_by a b (words_held own) (words_held child)
released_by_cases contexts names own child s d is is_child true b = sym (brought_are names child d is_child)
released_by_cases contexts names own child s d is is_child false true = sym (holdings_are contexts own s is)
released_by_cases contexts names own child s d is is_child false false = refl

pub released_is : (contexts : List (List Name)) (names : List Name) (own child : ThreadState) (s d : State) → IsState contexts own s → IsState (names ∷ []) child d
    → given_back s.faulted d.faulted d s ≡ released own child
released_is contexts names own child s d is is_child =
    released_by_cases contexts names own child s d is is_child s.faulted d.faulted
    ∙ ap (λ (b : Bool). words_by b d.faulted (words_held own) (words_held child)) (sym is.faulted)
    ∙ ap (λ (b : Bool). words_by own.faulted b (words_held own) (words_held child)) (sym is_child.faulted)

join_told : (c : Setting) (t : Table) (thread : Thread) (gs : List Func) (assigned : Name → Bool) (child : ℕ) (d : State) (rest : List Frame) (s : State)
    (part before : List Item) (olders : List (List Item)) (func : Option ℕ) (o : Option Ended)
    → IsThread c (joins assigned child d ∷ rest) s (part ∷ before ∷ olders) → InState gs thread.run.state s → IsDelivered c t (fork_of s.label child) func o
    → TellsJoin thread o (join_words d s)
join_told c t thread gs assigned child d rest s part before olders func None th is h = tt
join_told c t thread gs assigned child d rest s part before olders func (Some e) th is h =
    let outcome : d ≡ ended record_words h.last = (thread_joins c assigned child d rest s h.last part before h.items olders th h.thread h.labelled).0 in
    released_is (map slot_names gs) (slot_names h.function) thread.run.state e.state s d is
    (subst (λ (x : State). IsState (slot_names h.function ∷ []) e.state x) (sym outcome) h.state)

-- ---- each action

some_same : {A : Type 0} (x y : A) → Some x ≡ Some y → x ≡ y
some_same x y e = cc

answered : (c : Setting) (thread : Thread) (x answer : Next) → Some x ≡ Some answer → IsOfTheList c thread x → IsOfTheList c thread answer
answered c thread x answer e h = subst (λ (n : Next). IsOfTheList c thread n) (some_same x answer e) h

pub of_list : (c : Setting) (t : Table) (thread : Thread) (p : Prepared) (answer : Next)
    → At c t thread.func thread.run thread.children.items thread.record_block p → told_as thread.children.items p ≡ Some answer → IsOfTheList c thread answer
unfolding with_action with_fault
of_list c t thread Nothing answer a e = let never : ⊥ = cc in absurd never
of_list c t thread (Fork forking room) answer a e =
    let by = a.stands.0.next in
    let s = a.at in
    let is = a.stands.0.state in
    answered c thread next.Fork answer e (of_next c thread next.Fork s (actions.forks (suc s.forks)) record_words
    (listed c by.next by.rest s (actions.forks (suc s.forks)) record_words [] (subst (λ (o : List Frame). IsAt c o s) by.own_is a.point.at_point) (ap (λ m. m.state.items) by.acts.forks) refl)
    is.label is.done (ap (λ n. actions.forks (suc n)) (sym is.forks)) refl tt)
of_list c t thread (Join branch assigned) answer a e =
    let b = a.stands.0 in
    let s = a.at in
    let f = join_frame c.program t a.functions branch (frames_of thread.run) a.own b.next.frames in
    let o : threads.OpenChild = record { ordinal = f.child; outcome = f.outcome } in
    let kids : AreChildren c t s.label (o ∷ open_children f.rest) a.older (reverse thread.children.items) =
    subst (λ os. AreChildren c t s.label os a.older (reverse thread.children.items)) (ap open_children f.own_is) a.children in
    let k = first_child c t s.label o (open_children f.rest) a.older (reverse thread.children.items) kids in
    let newest_is : newest thread.children.items ≡ Some k.child = newest_reversed thread.children.items k.child k.others k.kids_are in
    let th : IsThread c (joins f.assigned f.child f.outcome ∷ f.rest) s (a.part ∷ k.before ∷ k.olders) =
    subst (λ (xs : List (List Item)). IsThread c (joins f.assigned f.child f.outcome ∷ f.rest) s (a.part ∷ xs)) k.older_is
    (subst (λ (fs : List Frame). IsThread c fs s (a.part ∷ a.older)) f.own_is a.point) in
    answered c thread (next.Join (id_of (newest thread.children.items))) answer e
    (of_next c thread (next.Join (id_of (newest thread.children.items))) s (actions.joins f.child) (join_words f.outcome s)
    (join_next c f.assigned f.child f.outcome f.rest s th.at_point)
    b.state.label b.state.done (ap actions.joins (sym k.first.ordinal ∙ sym (ap ordinal_of (newest_shown thread.children.items ∙ ap (λ (x : Option OpenChild). option_map child_shown x) newest_is))))
    (subst (λ (x : Option OpenChild). TellsJoin thread (result_of x) (join_words f.outcome s)) (sym newest_is)
    (join_told c t thread a.functions f.assigned f.child f.outcome f.rest s a.part k.before k.olders k.child.func k.child.ended th b.state k.first.result)) tt)
of_list c t thread (Alloc slot len words shell) answer a e =
    let by = a.stands.0.next in
    let s = a.at in
    let is = a.stands.0.state in
    answered c thread (next.Alloc words) answer e (of_next c thread (next.Alloc words) s actions.allocates (block_words len)
    (listed c by.next by.rest s actions.allocates (block_words len) [] (subst (λ (o : List Frame). IsAt c o s) by.own_is a.point.at_point) (ap State.items by.acts.1.does) refl)
    is.label is.done refl (words_are len _ refl ∙ sym a.stands.1) tt)
of_list c t thread (Release slot words) answer a e =
    let by = a.stands.next in
    let s = a.at in
    let is = a.stands.state in
    let r = by.acts.1 in
    answered c thread (next.Release words) answer e (of_next c thread (next.Release words) s actions.releases (block_words (length (block_of s.store.blocks r.block)))
    (listed c by.next by.rest s actions.releases (block_words (length (block_of s.store.blocks r.block))) [] (subst (λ (o : List Frame). IsAt c o s) by.own_is a.point.at_point)
    (ap State.items r.does) refl)
    is.label is.done refl (sym r.counted) tt)
of_list c t thread Dummy answer a e =
    let by = a.stands.next in
    let s = a.at in
    let is = a.stands.state in
    answered c thread next.Dummy answer e (of_next c thread next.Dummy s actions.dummy 0
    (listed c by.next by.rest s actions.dummy 0 [] (subst (λ (o : List Frame). IsAt c o s) by.own_is a.point.at_point) (ap State.items by.acts.1) refl)
    is.label is.done refl refl tt)
of_list c t thread (Fault fault) answer a e =
    let by = a.stands.next in
    let s = a.at in
    let is = a.stands.state in
    let m = step_frame c by.next by.rest s in
    let there : IsThread c (by.next ∷ by.rest) s (a.part ∷ a.older) = subst (λ (o : List Frame). IsThread c o s (a.part ∷ a.older)) by.own_is a.point in
    let did : Item = next_action actions.faults (holdings s) s in
    let grown : m.state.items ≡ (s.items ++ mark_of by.next) ++ did ∷ failed fault ∷ [] =
    ap State.items by.comes ∙ append_assoc (s.items ++ mark_of by.next) (did ∷ []) (failed fault ∷ []) in
    let moved = stepped c by.next by.rest s a.part a.older (mark_of by.next ++ did ∷ failed fault ∷ []) there by.plain (ap State.label by.comes)
    (grown ∙ append_assoc s.items (mark_of by.next) (did ∷ failed fault ∷ [])) in
    let stands_there = fault_listed c m.frames m.state (s.items ++ mark_of by.next) did (failed fault) moved.0.at_point grown in
    answered c thread (next.Fault fault) answer e (of_next c thread (next.Fault fault) s actions.faults (holdings s)
    (listed c by.next by.rest s actions.faults (holdings s) (failed fault ∷ []) there.at_point grown refl)
    is.label is.done refl (sym (holdings_are (map slot_names a.functions) thread.run.state s is)) (
      s.items ++ mark_of by.next,
      holdings s,
      stands_there.0,
      stands_there.1
          ∙ (λ i. (s.items ++ mark_of by.next) ++ acted (record { label = sym is.label i; index = sym is.done i; deed = actions.faults; words = holdings s }) ∷ failed fault ∷ stands_there.0),
    ))
of_list c t thread End answer a e =
    let b = a.stands in
    let s = a.at in
    answered c thread next.End answer e (of_next c thread next.End s actions.ends (words_at_end s.label)
    (end_next c s (subst (λ (o : List Frame). IsAt c o s) b.next.none_left a.point.at_point))
    b.state.label b.state.done refl (ap words_at_end (sym b.state.label)) tt)

-- ---- a Join is that of the newest open child

is_open : (c : Setting) (t : Table) (func : Option ℕ) (run : ThreadRun) (children : List OpenChild) (block : Option RecordBlock) (branch : Branch) (assigned : Vec ℕ Global)
    → At c t func run children block (Join branch assigned) → newest children ≡ None → ⊥
is_open c t func run children block branch assigned a none =
    let s = a.at in
    let f = join_frame c.program t a.functions branch (frames_of run) a.own a.stands.0.next.frames in
    let o : threads.OpenChild = record { ordinal = f.child; outcome = f.outcome } in
    let kids : AreChildren c t s.label (o ∷ open_children f.rest) a.older (reverse children) =
    subst (λ os. AreChildren c t s.label os a.older (reverse children)) (ap open_children f.own_is) a.children in
    let k = first_child c t s.label o (open_children f.rest) a.older (reverse children) kids in
    let some = newest_reversed children k.child k.others k.kids_are in
    let never : ⊥ = cc in never

id_shown : (o : Option OpenChild) → (o ≡ None → ⊥) → IsIdOf (id_of o) (option_map child_shown o)
id_shown None some = some refl
id_shown (Some x) some = refl

newest_of_next : (children : List OpenChild) (p : Prepared) (answer : Next) → told_as children p ≡ Some answer
    → ((branch : Branch) (assigned : Vec ℕ Global) → p ≡ Join branch assigned → newest children ≡ None → ⊥) → JoinsNewest answer (map child_shown children)
newest_of_next children Nothing answer e some = let never : ⊥ = cc in absurd never
newest_of_next children (Fork forking room) answer e some = subst (λ (n : Next). JoinsNewest n (map child_shown children)) (some_same next.Fork answer e) tt
newest_of_next children (Join branch assigned) answer e some =
    subst (λ (n : Next). JoinsNewest n (map child_shown children)) (some_same (next.Join (id_of (newest children))) answer e)
    (subst (λ (o : Option Child). IsIdOf (id_of (newest children)) o) (sym (newest_shown children)) (id_shown (newest children) (some branch assigned refl)))
newest_of_next children (Alloc slot len words shell) answer e some =
    subst (λ (n : Next). JoinsNewest n (map child_shown children)) (some_same (next.Alloc words) answer e) tt
newest_of_next children (Release slot words) answer e some =
    subst (λ (n : Next). JoinsNewest n (map child_shown children)) (some_same (next.Release words) answer e) tt
newest_of_next children Dummy answer e some = subst (λ (n : Next). JoinsNewest n (map child_shown children)) (some_same next.Dummy answer e) tt
newest_of_next children (Fault fault) answer e some =
    subst (λ (n : Next). JoinsNewest n (map child_shown children)) (some_same (next.Fault fault) answer e) tt
newest_of_next children End answer e some = subst (λ (n : Next). JoinsNewest n (map child_shown children)) (some_same next.End answer e) tt

pub joins_newest : (t : Table) (k : ℕ) (thread : Thread) (answer : Next) → IsAtPoint t k thread → next_of thread ≡ Some answer → JoinsNewest answer (children_of thread)
joins_newest t k thread answer at e =
    newest_of_next thread.children.items thread.prepared answer e (λ branch assigned is none.
    ∥∥₁_elim at.of_program ⊥_prop (λ y. ∥∥₁_elim (at.at y.0 y.1) ⊥_prop (λ a.
    is_open y.0 t thread.func thread.run thread.children.items thread.record_block branch assigned
    (subst (λ (p : Prepared). At y.0 t thread.func thread.run thread.children.items thread.record_block p) is a) none)))
