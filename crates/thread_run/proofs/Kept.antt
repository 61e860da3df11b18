-- The functions of the open children of a thread are kept by a step that opens no call and closes none.
use Rattle.std.proofs.Common.{◌≡◌, ℕ, zero, suc, ◌+◌, List, [], ◌∷◌, ◌++◌, length, Result, Ok, Err, Option, Some, None, refl, sym, ◌∙◌, ap, subst, arith, append_assoc}
use Rattle.std.specs.Prelude.{Bool, map, IfOk, OnOk}
use Rattle.std.specs.declared.alloc.AllocError.{AllocError}
use Rattle.std.proofs.Math.Logic.{∥∥₁_elim}
use denote.Struct.Props.{props}
use Rattle.par_tree.specs.Tree.{Program, Func, Body, done, step}
use Rattle.thread_state.specs.Passed.States.{Setting, State, began, with_item}
use Rattle.thread_state.specs.Passed.Middle as middles
use Rattle.thread_state.specs.Passed.Middle.{does, statements, answers, rejoins, answers_main, allocates, Middle, before_all, step_frame, step_first, step_statement}
use Rattle.node_table.specs.Names.{slot_names}
use Rattle.node_table.specs.Table.{Table}
use Rattle.thread_points.specs.Points.{marked}
use Rattle.thread_points.specs.Threads.{open_children}
use Rattle.thread_stack.specs.declared.frame.Frame.{Frame}
use Rattle.thread_stack.specs.declared.frame.Frame.TheVariants.{Statements, Again, Tree as DummyTree, Answers, Rejoins, AnswersMain, Allocates, Joins}
use Rattle.thread_stack.specs.Frames.{AreFrames, frames_shown, IsOne}
use Rattle.thread_state.specs.declared.state.ThreadState.{ThreadState}
use Rattle.thread_run.specs.Steps.{ActsNext}
use Rattle.thread_run.specs.Dones.{IsAction, Comes}
use Rattle.thread_run.specs.Meanings.{Meaning}
use Rattle.thread_run.proofs.Coming.{items_aside}
use Rattle.thread_run.specs.declared.ready.Ready.{Ready}
use Rattle.thread_run.specs.declared.ready.Ready.TheVariants.{Fork, Join, Alloc, Release, Dummy, Fault, End}
use Rattle.thread_run.specs.declared.done.Done.{Done}
use Rattle.thread_run.specs.declared.done.Done.TheVariants.{Silent, Prints, Acts}
use Rattle.thread_run.specs.declared.run.ThreadRun.{ThreadRun}
use Rattle.thread_run.specs.Functions.{functions_of, frames_of, frames_before}
use Rattle.thread_run.specs.Stepping.{frames_with, ready_of, Meeting, IsMet, KnowingAt, IsKnownAt, frames_left, KeepsFunctions}
use Rattle.thread_run.proofs.Threads.{children_same}
use Rattle.thread_run.proofs.Following.{LeadsAt}

-- how many calls end in some frames, and how many children are joined
abbrev ends_in : List Frame → ℕ
ends_in [] = 0
ends_in (Statements list next ∷ xs) = ends_in xs
ends_in (Again n ∷ xs) = ends_in xs
ends_in (DummyTree shape ∷ xs) = ends_in xs
ends_in (Answers n caller ∷ xs) = 1 + ends_in xs
ends_in (Rejoins n ∷ xs) = ends_in xs
ends_in (AnswersMain ∷ xs) = ends_in xs
ends_in (Allocates slot len ∷ xs) = ends_in xs
ends_in (Joins branch ∷ xs) = ends_in xs

abbrev joins_in : List Frame → ℕ
joins_in [] = 0
joins_in (Statements list next ∷ xs) = joins_in xs
joins_in (Again n ∷ xs) = joins_in xs
joins_in (DummyTree shape ∷ xs) = joins_in xs
joins_in (Answers n caller ∷ xs) = joins_in xs
joins_in (Rejoins n ∷ xs) = joins_in xs
joins_in (AnswersMain ∷ xs) = joins_in xs
joins_in (Allocates slot len ∷ xs) = joins_in xs
joins_in (Joins branch ∷ xs) = 1 + joins_in xs

ends_more : (xs ys : List Frame) → ends_in (xs ++ ys) ≡ ends_in xs + ends_in ys
ends_more [] ys = omega arith
ends_more (Statements list next ∷ xs) ys = ends_more xs ys
ends_more (Again n ∷ xs) ys = ends_more xs ys
ends_more (DummyTree shape ∷ xs) ys = ends_more xs ys
ends_more (Answers n caller ∷ xs) ys = let r = ends_more xs ys in omega (arith, r)
ends_more (Rejoins n ∷ xs) ys = ends_more xs ys
ends_more (AnswersMain ∷ xs) ys = ends_more xs ys
ends_more (Allocates slot len ∷ xs) ys = ends_more xs ys
ends_more (Joins branch ∷ xs) ys = ends_more xs ys

joins_more : (xs ys : List Frame) → joins_in (xs ++ ys) ≡ joins_in xs + joins_in ys
joins_more [] ys = omega arith
joins_more (Statements list next ∷ xs) ys = joins_more xs ys
joins_more (Again n ∷ xs) ys = joins_more xs ys
joins_more (DummyTree shape ∷ xs) ys = joins_more xs ys
joins_more (Answers n caller ∷ xs) ys = joins_more xs ys
joins_more (Rejoins n ∷ xs) ys = joins_more xs ys
joins_more (AnswersMain ∷ xs) ys = joins_more xs ys
joins_more (Allocates slot len ∷ xs) ys = joins_more xs ys
joins_more (Joins branch ∷ xs) ys = let r = joins_more xs ys in omega (arith, r)

-- each open call ends once, but the outermost
one_open : (gs : List Func) → IsOne gs → length gs ≡ 1
one_open [] h = absurd h
one_open (g ∷ []) h = refl
one_open (g ∷ h ∷ gs) k = absurd k

ends_open : (p : Program) (t : Table) (gs : List Func) (xs : List Frame) (fs : List middles.Frame) → AreFrames p t gs xs fs → length gs ≡ 1 + ends_in xs
ends_open p t gs [] [] h = one_open gs h
ends_open p t gs [] (f ∷ fs) h = absurd h
ends_open p t gs (x ∷ xs) [] h = absurd h
ends_open p t gs (Statements list next ∷ xs) (f ∷ fs) h = ends_open p t gs xs fs h.1
ends_open p t gs (Again n ∷ xs) (f ∷ fs) h = ends_open p t gs xs fs h.1
ends_open p t gs (DummyTree shape ∷ xs) (f ∷ fs) h = ends_open p t gs xs fs h.1
ends_open p t [] (Answers n caller ∷ xs) (f ∷ fs) h = absurd h.0
ends_open p t (g ∷ gs) (Answers n caller ∷ xs) (f ∷ fs) h = let r = ends_open p t gs xs fs h.1 in omega (arith, r)
ends_open p t gs (Rejoins n ∷ xs) (f ∷ fs) h = ends_open p t gs xs fs h.1
ends_open p t gs (AnswersMain ∷ xs) (f ∷ fs) h = ends_open p t gs xs fs h.1
ends_open p t gs (Allocates slot len ∷ xs) (f ∷ fs) h = ends_open p t gs xs fs h.1
ends_open p t gs (Joins branch ∷ xs) (f ∷ fs) h = ends_open p t gs xs fs h.1

-- each open child is joined once
none_more : (f : middles.Frame) (g : middles.Frame) (fs : List middles.Frame) (n : ℕ) → f ≡ g → n ≡ length (open_children fs) → length (open_children (g ∷ fs)) ≡ length (open_children fs) → n ≡ length (open_children (f ∷ fs))
none_more f g fs n e same quiet = same ∙ sym quiet ∙ ap (λ (x : middles.Frame). length (open_children (x ∷ fs))) (sym e)

joins_open : (p : Program) (t : Table) (gs : List Func) (xs : List Frame) (fs : List middles.Frame) → AreFrames p t gs xs fs → joins_in xs ≡ length (open_children fs)
joins_open p t gs [] [] h = refl
joins_open p t gs [] (f ∷ fs) h = absurd h
joins_open p t gs (x ∷ xs) [] h = absurd h
joins_open p t gs (Statements list next ∷ xs) (f ∷ fs) h = none_more f (does (statements h.0.0)) fs (joins_in xs) h.0.1 (joins_open p t gs xs fs h.1) refl
joins_open p t gs (Again n ∷ xs) (f ∷ fs) h = none_more f (does (statements h.0.0)) fs (joins_in xs) h.0.1 (joins_open p t gs xs fs h.1) refl
joins_open p t gs (DummyTree shape ∷ xs) (f ∷ fs) h = none_more f _ fs (joins_in xs) h.0 (joins_open p t gs xs fs h.1) refl
joins_open p t [] (Answers n caller ∷ xs) (f ∷ fs) h = absurd h.0
joins_open p t (g ∷ []) (Answers n caller ∷ xs) (f ∷ fs) h = absurd h.0
joins_open p t (g ∷ k ∷ gs) (Answers n caller ∷ xs) (f ∷ fs) h = none_more f (answers g.ret g.params h.0.0 h.0.1) fs (joins_in xs) h.0.2 (joins_open p t (k ∷ gs) xs fs h.1) refl
joins_open p t gs (Rejoins n ∷ xs) (f ∷ fs) h = none_more f (rejoins h.0.0 h.0.1 h.0.2) fs (joins_in xs) h.0.3 (joins_open p t gs xs fs h.1) refl
joins_open p t [] (AnswersMain ∷ xs) (f ∷ fs) h = absurd h.0
joins_open p t (g ∷ gs) (AnswersMain ∷ xs) (f ∷ fs) h = none_more f (answers_main g.ret) fs (joins_in xs) h.0.0 (joins_open p t (g ∷ gs) xs fs h.1) refl
joins_open p t gs (Allocates slot len ∷ xs) (f ∷ fs) h = none_more f (allocates h.0.0 len) fs (joins_in xs) h.0.1 (joins_open p t gs xs fs h.1) refl
joins_open p t gs (Joins branch ∷ xs) (f ∷ fs) h =
    let r = joins_open p t gs xs fs h.1 in
    let e : length (open_children (f ∷ fs)) ≡ 1 + length (open_children fs) = ap (λ (x : middles.Frame). length (open_children (x ∷ fs))) h.0.3 ∙ omega arith in
    omega (arith, r, e)

-- frames with neither tell no function
skipped : (func : Option ℕ) (ys xs : List Frame) → ends_in ys ≡ 0 → joins_in ys ≡ 0 → functions_of func (ys ++ xs) ≡ functions_of func xs
skipped func [] xs e j = refl
skipped func (Statements list next ∷ ys) xs e j = skipped func ys xs e j
skipped func (Again n ∷ ys) xs e j = skipped func ys xs e j
skipped func (DummyTree shape ∷ ys) xs e j = skipped func ys xs e j
skipped func (Answers n caller ∷ ys) xs e j = absurd (omega (arith, e))
skipped func (Rejoins n ∷ ys) xs e j = skipped func ys xs e j
skipped func (AnswersMain ∷ ys) xs e j = skipped func ys xs e j
skipped func (Allocates slot len ∷ ys) xs e j = skipped func ys xs e j
skipped func (Joins branch ∷ ys) xs e j = absurd (omega (arith, j))

-- so what is put before frames with the same functions and as many open children tells none
same_functions : (p : Program) (t : Table) (gs : List Func) (func : Option ℕ) (ys xs : List Frame) (es fs : List middles.Frame) → AreFrames p t gs (ys ++ xs) es → AreFrames p t gs xs fs
    → open_children es ≡ open_children fs → functions_of func (ys ++ xs) ≡ functions_of func xs
same_functions p t gs func ys xs es fs all behind children =
    let a = ends_open p t gs (ys ++ xs) es all in let b = ends_open p t gs xs fs behind in let c = ends_more ys xs in
    let d = joins_open p t gs (ys ++ xs) es all in let e = joins_open p t gs xs fs behind in let f = joins_more ys xs in
    let g : length (open_children es) ≡ length (open_children fs) = ap (λ os. length os) children in
    skipped func ys xs (omega (arith, a, b, c)) (omega (arith, d, e, f, g))

-- ---- one step

-- lists of numbers and none, told as numbers: so they are the same in one way at most
numbered : Option ℕ → ℕ
numbered None = 0
numbered (Some n) = suc n

back : ℕ → Option ℕ
back zero = None
back (suc n) = Some n

back_again : (xs : List (Option ℕ)) → map back (map numbered xs) ≡ xs
unfolding back numbered
back_again [] = refl
back_again (None ∷ xs) = ap (λ (ys : List (Option ℕ)). None ∷ ys) (back_again xs)
back_again (Some n ∷ xs) = ap (λ (ys : List (Option ℕ)). Some n ∷ ys) (back_again xs)

same_lists : (xs ys : List (Option ℕ)) → map numbered xs ≡ map numbered ys → xs ≡ ys
same_lists xs ys e = sym (back_again xs) ∙ ap (map back) e ∙ back_again ys

-- no statement and no frame but a Join of its own comes to one
frames_stay : (c : Setting) (t : Table) (gs : List Func) (u : ThreadState) (ys : List Frame) (fs : List middles.Frame) (s : State) (m : Middle) (ready : Ready) → IsAction c t gs u ys fs s m ready → (func : Option ℕ) (xs : List Frame)
    → functions_of func (frames_before ready xs) ≡ functions_of func xs
frames_stay c t gs u ys fs s m (Fork x) h func xs = refl
frames_stay c t gs u ys fs s m (Join branch) h func xs = absurd h
frames_stay c t gs u ys fs s m (Alloc slot len shell) h func xs = refl
frames_stay c t gs u ys fs s m (Release slot words) h func xs = refl
frames_stay c t gs u ys fs s m Dummy h func xs = refl
frames_stay c t gs u ys fs s m (Fault x) h func xs = refl
frames_stay c t gs u ys fs s m End h func xs = absurd h

pub acts_functions : (t : Table) (k : ℕ) (run : ThreadRun) (x : Frame) (ready : Ready) → IsKnownAt t k run x → ((func : Option ℕ) (xs : List Frame) → functions_of func (x ∷ xs) ≡ functions_of func xs) → ActsNext t k run.state x ready
    → KeepsFunctions run x (Ok (Some ready)) run
acts_functions t k run x ready known none comes =
    same_lists (functions_of run.func (frames_before ready (frames_of run))) (functions_of run.func (x ∷ frames_of run))
    (∥∥₁_elim known (search props) (λ m. ap (map numbered) (by m m.own m.frames)))
  where
    by : (m : KnowingAt t k run x) → (own : List middles.Frame) → AreFrames m.setting.program t m.functions (x ∷ frames_of run) own → functions_of run.func (frames_before ready (frames_of run)) ≡ functions_of run.func (x ∷ frames_of run)
    by m [] frames = absurd frames
    by m (f ∷ fs) frames =
        let h = comes m.setting m.functions f (frames_of run) fs m.at m.of_table frames.0 frames.1 m.state in
        frames_stay m.setting t m.functions run.state (frames_of run) h.0 (marked f m.at) (step_frame m.setting f fs m.at) ready h.1 run.func (frames_of run) ∙ sym (none run.func (frames_of run))

-- ---- one statement

-- what is left behind it has no child of its own
later_children : (b : Body) (fs : List middles.Frame) → open_children (before_all b fs) ≡ open_children fs
later_children done fs = refl
later_children (step line stmt rest) fs = refl

-- the open children behind a statement
statement_children : (t : Table) (k n : ℕ) (u : ThreadState) (m : Meaning t k n u)
    → open_children (step_statement m.setting m.line m.stmt (before_all m.later m.own) (with_item (began m.line) m.at)).frames ≡ open_children (before_all m.later m.own)
statement_children t k n u m =
    let f : middles.Frame = does (statements (step m.line m.stmt m.later)) in
    ap (λ (b : Bool). open_children (step_first b m.setting m.line m.stmt m.later m.own m.at).frames) (sym m.going)
    ∙ children_same m.setting f m.own m.at m.point.all_own.0 ∙ sym (later_children m.later m.own)

pub follow_functions : (t : Table) (k n : ℕ) (before after : ThreadRun) (u : ThreadState) (d : Done) (result : Result (Option Ready) AllocError)
    → IsMet t k before n → LeadsAt t k n before.state (Ok d) u → after.func ≡ before.func → IfOk result (λ o. o ≡ ready_of d) → OnOk result (frames_of after ≡ frames_with d (frames_of before))
    → IfOk result (λ o. functions_of after.func (frames_left o (frames_of after)) ≡ functions_of before.func (frames_of before))
follow_functions t k n before after u d (Err e) met leads same_func answer left = tt
follow_functions t k n before after u d (Ok o) met leads same_func answer left =
    ap (λ (r : Option Ready). functions_of after.func (frames_left r (frames_of after))) answer
    ∙ ap (λ (ys : List Frame). functions_of after.func (frames_left (ready_of d) ys)) left
    ∙ ap (λ (i : Option ℕ). functions_of i (frames_left (ready_of d) (frames_with d (frames_of before)))) same_func
    ∙ same_lists (functions_of before.func (frames_left (ready_of d) (frames_with d (frames_of before)))) (functions_of before.func (frames_of before))
    (∥∥₁_elim met (search props) (λ m. ap (map numbered) (by m)))
  where
    kept : (m : Meeting t k n before) (x : Done)
        → Comes m.meaning.setting t (m.meaning.runs ∷ m.meaning.waiting) u (frames_of before) (before_all m.meaning.later m.meaning.own) (with_item (began m.meaning.line) m.meaning.at)
        (step_statement m.meaning.setting m.meaning.line m.meaning.stmt (before_all m.meaning.later m.meaning.own) (with_item (began m.meaning.line) m.meaning.at)) x
        → functions_of before.func (frames_left (ready_of x) (frames_with x (frames_of before))) ≡ functions_of before.func (frames_of before)
    kept m (Silent first next) h =
        let p = m.meaning in
        let gs : List Func = p.runs ∷ p.waiting in
        let fs : List middles.Frame = before_all p.later p.own in
        let es : List middles.Frame = (step_statement p.setting p.line p.stmt fs (with_item (began p.line) p.at)).frames in
        let both : List Frame = frames_shown first ++ frames_shown next in
        let all : both ++ frames_of before ≡ frames_shown first ++ (frames_shown next ++ frames_of before) = append_assoc (frames_shown first) (frames_shown next) (frames_of before) in
        ap (λ (ys : List Frame). functions_of before.func ys) (sym all)
        ∙ same_functions p.setting.program t gs before.func both (frames_of before) es fs (subst (λ (ys : List Frame). AreFrames p.setting.program t gs ys es) (sym all) h.0) m.frames (statement_children t k n before.state p)
    kept m (Prints v) h = refl
    kept m (Acts ready) h =
        let p = m.meaning in
        let fs : List middles.Frame = before_all p.later p.own in
        let w : State = with_item (began p.line) p.at in
        frames_stay p.setting t (p.runs ∷ p.waiting) u (frames_of before) fs w (step_statement p.setting p.line p.stmt fs w) ready h.1 before.func (frames_of before)

    by : (m : Meeting t k n before) → functions_of before.func (frames_left (ready_of d) (frames_with d (frames_of before))) ≡ functions_of before.func (frames_of before)
    by m =
        let p = m.meaning in
        kept m d (leads p.setting p.runs p.line p.stmt p.node p.waiting (frames_of before) (before_all p.later p.own) (with_item (began p.line) p.at)
        (record { setting = p.of_table; frames = m.frames; state = items_aside (map slot_names (p.runs ∷ p.waiting)) before.state p.at (State.items (with_item (began p.line) p.at)) p.in_state }))
