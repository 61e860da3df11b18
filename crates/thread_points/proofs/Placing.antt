-- The action that a thread does next is the action of the list at the place of its point.
use Rattle.std.specs.Prelude.{◌≡◌, Bool, ℕ, zero, suc, ◌+◌, ◌<◌, ◌≤◌, ◌⊎◌, List, [], ◌∷◌, ◌++◌, length, refl}
use Rattle.std.proofs.Common.{sym, ◌∙◌, ap, arith, subst, inl, inr, append_assoc, append-nil, length-append}
use Rattle.std.proofs.lemmas.List.{append_cancel_left}
use Rattle.std.proofs.Math.Seq.{get_or-append_seam}
use Rattle.dag_order.specs.LabelOrder.{fork_of}
use Rattle.depth_first_run.specs.Passed.Actions as actions
use Rattle.depth_first_run.specs.Passed.Actions.{Action, Deed, record_words}
use Rattle.depth_first_run.specs.Passed.Runs.{start, end_at, IsDepthFirst}
use Rattle.depth_first_run.specs.Passed.Facts.{action_at, label_at, index_at, deed_at, words_at}
use Rattle.depth_first_run.proofs.Passed.Weights.{root_end_is_weightless, child_ends_give_back}
use Rattle.depth_first_run.specs.Passed.Tree.{Name, done, step}
use Rattle.depth_first_run.specs.States.{Setting, State, Item, next_action, with_action, parent_of, ended}
use Rattle.depth_first_run.specs.Run.{whole, actions_of, list_of}
use Rattle.depth_first_run.specs.Middle.{Part, statements, tree, Frame, does, answers, rejoins, answers_main, allocates, awaits, joins, finish, middle, finished, advance, to_come}
use Rattle.depth_first_run.proofs.Stepping.{beginning_comes}
use Rattle.depth_first_run.proofs.Nearing.{items_grow}
use Rattle.depth_first_run.proofs.Built.{whole_is_depth_first}
use Rattle.depth_first_run.proofs.Covered.{actions_append}
use Rattle.thread_points.specs.Points.{after_steps, AreParents, IsAt, step_of, IsNextOf, mark_of, StepsAlone, StepForks, place_of, ActsNext, words_at_end, end_of}
use Rattle.thread_points.proofs.Reaching.{points_come}
use Rattle.thread_points.proofs.Walking.{next_point, own_step, step_nears, all_plain_own}
use Rattle.thread_points.proofs.Alone.{alone_or_forks}

-- ---- the items of a point come first in those of the whole run

whole_behind : (c : Setting) (n : ℕ) → (later : List Item) × (State.items (whole c) ≡ (after_steps c n).state.items ++ later)
unfolding ended with_action
whole_behind c n =
    let e : State = finished c (after_steps c n) in
    let grown = items_grow c (after_steps c n) in
    let last : Item = next_action actions.ends 0 e in (
      grown.0 ++ last ∷ [],
      ap (λ s. State.items s) (beginning_comes c ∙ ap (ended 0) (sym (points_come c n))) ∙ ap (λ is. is ++ last ∷ []) grown.1
          ∙ append_assoc (after_steps c n).state.items grown.0 (last ∷ []),
    )

-- an action with its place, counted in a list of items that begins the whole one
pub record Placed (c : Setting) (place : ℕ) (a : Action) : Type 0 where
  pub inside : place < length (list_of c)
  pub is : action_at (list_of c) place ≡ a

placed_between : (c : Setting) (front new later : List Item) (a : Action) → State.items (whole c) ≡ (front ++ new) ++ later → actions_of new ≡ a ∷ []
    → Placed c (length (actions_of front)) a
placed_between c front new later a whole_is one =
    let xs : List Action = actions_of front in let ys : List Action = actions_of later in
    let all : list_of c ≡ xs ++ a ∷ ys =
    ap actions_of whole_is ∙ actions_append (front ++ new) later ∙ ap (λ l. l ++ ys) (actions_append front new ∙ ap (λ l. xs ++ l) one)
    ∙ append_assoc xs (a ∷ []) ys in
    let size : length (list_of c) ≡ length xs + suc (length ys) = ap length all ∙ length-append xs (a ∷ ys) in
    record {
      inside = omega (arith, size);
      is = ap (λ l. action_at l (length xs)) all ∙ get_or-append_seam xs a ys (end_at [] start 0);
    }

-- the action that a step leaves
pub placed_step : (c : Setting) (n : ℕ) (front new : List Item) (a : Action) → (after_steps c (suc n)).state.items ≡ front ++ new → actions_of new ≡ a ∷ []
    → Placed c (length (actions_of front)) a
placed_step c n front new a grown one =
    let b = whole_behind c (suc n) in placed_between c front new b.0 a (b.1 ∙ ap (λ is. is ++ b.0) grown) one

-- ---- a step of an own frame

-- a fork's action
abbrev pub fork_action : State → Action
fork_action s = record { label = s.label; index = s.done; deed = actions.forks (suc s.forks); words = record_words }

pub mark_is_quiet : (f : Frame) (xs : List Item) → actions_of (mark_of f ++ xs) ≡ actions_of xs
mark_is_quiet (does (statements done)) xs = refl
mark_is_quiet (does (statements (step line stmt rest))) xs = refl
mark_is_quiet (does (tree shape)) xs = refl
mark_is_quiet (answers ret params args t) xs = refl
mark_is_quiet (rejoins b l r) xs = refl
mark_is_quiet (answers_main ret) xs = refl
mark_is_quiet (allocates b n) xs = refl
mark_is_quiet (awaits named assigned own parent) xs = refl
mark_is_quiet (joins assigned child d) xs = refl

-- what a step that forks leaves
abbrev pub forked_items : Frame → State → List Item
forked_items f s = mark_of f ++ next_action (actions.forks (suc s.forks)) record_words s ∷ []

pub forked_grown : (c : Setting) (f : Frame) (s : State) (k : StepForks c f s) → (step_of c f s).state.items ≡ s.items ++ forked_items f s
forked_grown c f s k =
    ap (λ m. m.state.items) k.forked ∙ append_assoc s.items (mark_of f) (next_action (actions.forks (suc s.forks)) record_words s ∷ [])

pub forked_acts : (f : Frame) (s : State) → actions_of (forked_items f s) ≡ fork_action s ∷ []
forked_acts f s = mark_is_quiet f (next_action (actions.forks (suc s.forks)) record_words s ∷ [])

-- the action is the thread's next one
same_one : (a b : Action) → a ∷ [] ≡ b ∷ [] → a ≡ b
same_one a b e = ap (λ l. action_at l 0) e

next_one : (s : State) (a : Action) (l : List Action) → l ≡ a ∷ [] → IsNextOf s l → (a.label ≡ s.label) × (a.index ≡ s.done)
next_one s a l e p = subst (IsNextOf s) e p

acting_own : (c : Setting) (f : Frame) (s : State) → StepsAlone c f s ⊎ StepForks c f s → (new : List Item) (a : Action) → (step_of c f s).state.items ≡ s.items ++ new
    → actions_of new ≡ a ∷ [] → (a.label ≡ s.label) × (a.index ≡ s.done)
acting_own c f s (inl k) new a grown one =
    let same : k.new ≡ new = append_cancel_left s.items k.new new (sym k.grown ∙ grown) in
    next_one s a (actions_of k.new) (ap actions_of same ∙ one) k.next
acting_own c f s (inr k) new a grown one =
    let same : forked_items f s ≡ new = append_cancel_left s.items (forked_items f s) new (sym (forked_grown c f s k) ∙ grown) in
    let is : fork_action s ≡ a = same_one (fork_action s) a (sym (forked_acts f s) ∙ ap actions_of same ∙ one) in
    (sym (ap (λ x. x.label) is), sym (ap (λ x. x.index) is))

pub acts_next : (c : Setting) (f : Frame) (own : List Frame) (s : State) → IsAt c (f ∷ own) s → (new : List Item) (a : Action)
    → (step_of c f s).state.items ≡ s.items ++ new → actions_of new ≡ a ∷ [] → ActsNext c s a
acts_next c f own s at new a grown one =
    let p : Placed c (place_of s) a =
    placed_step c at.steps s.items new a (ap (λ m. m.state.items) (next_point c at.steps f own at.parents s at.there) ∙ grown) one in
    let own_is = acting_own c f s (alone_or_forks c f s at.all_own.0) new a grown one in
    (p.inside, p.is, own_is.0, own_is.1)

-- ---- an End

run_is_depth_first : (c : Setting) → IsDepthFirst c.quota (list_of c)
run_is_depth_first c = whole_is_depth_first c

-- a label that is not empty is that of a fork
abbrev IsForkLabel : List ℕ → Type 0
IsForkLabel label = (parent : List ℕ) × (child : ℕ) × (label ≡ fork_of parent child)

fork_label : (x : ℕ) (l : List ℕ) → IsForkLabel (x ∷ l)
fork_label x [] = ([], x, refl)
fork_label x (y ∷ l) = let r = fork_label y l in (x ∷ r.0, r.1, ap (λ l. x ∷ l) r.2)

-- the words of an End are those of its label
pub end_words : (c : Setting) (place : ℕ) (label : List ℕ) → place < length (list_of c) → deed_at (list_of c) place ≡ actions.ends → label_at (list_of c) place ≡ label
    → words_at (list_of c) place ≡ words_at_end label
end_words c place [] lt e l = (root_end_is_weightless c.quota (list_of c) (run_is_depth_first c) place lt e l).0
end_words c place (x ∷ label) lt e l =
    let r = fork_label x label in (child_ends_give_back c.quota (list_of c) (run_is_depth_first c) place r.1 r.0 lt e (l ∙ r.2)).0

-- what a thread does when it has no frame left, with some words
abbrev pub end_with : ℕ → State → Action
end_with words s = record { label = s.label; index = s.done; deed = actions.ends; words = words }

-- what stands below the frames of a child gives the End, and its parent goes on
pub child_ends : (c : Setting) (n : ℕ) (named assigned : Name → Bool) (own : Part) (parent : State) (fs : List Frame) (s : State)
    → after_steps c n ≡ middle (awaits named assigned own parent ∷ fs) s
    → after_steps c (suc n) ≡ middle (does own ∷ joins assigned (suc parent.forks) (ended record_words s) ∷ fs) (parent_of named (State.items (ended record_words s)) parent)
unfolding after_steps advance
child_ends c n named assigned own parent fs s e = ap (advance c) e

pub child_placed : (c : Setting) (n : ℕ) (named assigned : Name → Bool) (own : Part) (parent : State) (fs : List Frame) (s : State)
    → after_steps c n ≡ middle (awaits named assigned own parent ∷ fs) s → Placed c (place_of s) (end_with record_words s)
unfolding ended with_action
child_placed c n named assigned own parent fs s e =
    placed_step c n s.items (next_action actions.ends record_words s ∷ []) (end_with record_words s) (ap (λ m. m.state.items) (child_ends c n named assigned own parent fs s e)) refl

pub root_ends : (c : Setting) (n : ℕ) (s : State) → after_steps c n ≡ middle [] s → whole c ≡ ended 0 s
unfolding finish
root_ends c n s e = beginning_comes c ∙ ap (ended 0) (sym (points_come c n) ∙ ap (finished c) e)

pub root_placed : (c : Setting) (n : ℕ) (s : State) → after_steps c n ≡ middle [] s → Placed c (place_of s) (end_with 0 s)
unfolding ended with_action
root_placed c n s e =
    let last : Item = next_action actions.ends 0 s in
    placed_between c s.items (last ∷ []) [] (end_with 0 s) (ap (λ t. State.items t) (root_ends c n s e) ∙ sym (append-nil (s.items ++ last ∷ []))) refl

parents_placed : (c : Setting) (n : ℕ) (parents : List Frame) (s : State) → AreParents parents → after_steps c n ≡ middle parents s → (words : ℕ) × Placed c (place_of s) (end_with words s)
parents_placed c n [] s g e = (0, root_placed c n s e)
parents_placed c n (does part ∷ fs) s g e = absurd (g tt)
parents_placed c n (answers ret params args t ∷ fs) s g e = absurd (g tt)
parents_placed c n (rejoins b l r ∷ fs) s g e = absurd (g tt)
parents_placed c n (answers_main ret ∷ fs) s g e = absurd (g tt)
parents_placed c n (allocates b m ∷ fs) s g e = absurd (g tt)
parents_placed c n (awaits named assigned own parent ∷ fs) s g e = (record_words, child_placed c n named assigned own parent fs s e)
parents_placed c n (joins assigned child d ∷ fs) s g e = absurd (g tt)

pub end_next : (c : Setting) (s : State) → IsAt c [] s → ActsNext c s (end_of s)
end_next c s at =
    let r = parents_placed c at.steps at.parents s at.are_parents at.there in
    let p : Placed c (place_of s) (end_with r.0 s) = r.1 in
    let words : r.0 ≡ words_at_end s.label =
    sym (ap (λ a. a.words) p.is) ∙ end_words c (place_of s) s.label p.inside (ap (λ a. a.deed) p.is) (ap (λ a. a.label) p.is) in
    (p.inside, p.is ∙ ap (λ w. end_with w s) words, refl, refl)

-- ---- the next action of a thread, at any point

abbrev pub NextAt : Setting → State → Type 0
NextAt c s = (place_of s < length (list_of c)) × (label_at (list_of c) (place_of s) ≡ s.label) × (index_at (list_of c) (place_of s) ≡ s.done)

next_of : (c : Setting) (s : State) (a : Action) → ActsNext c s a → NextAt c s
next_of c s a k = (k.0, ap (λ x. x.label) k.1 ∙ k.2, ap (λ x. x.index) k.1 ∙ k.3)

-- a step without an action
next_quiet : (c : Setting) (s t : State) → place_of t ≡ place_of s → t.label ≡ s.label → t.done ≡ s.done → NextAt c t → NextAt c s
next_quiet c s t p l d k =
    let inside = k.0 in
    (omega (arith, p, inside), ap (λ n. label_at (list_of c) n) (sym p) ∙ k.1 ∙ l, ap (λ n. index_at (list_of c) n) (sym p) ∙ k.2 ∙ d)

pub place_behind : (s t : State) (new : List Item) → t.items ≡ s.items ++ new → place_of t ≡ place_of s + length (actions_of new)
place_behind s t new e = ap (λ is. length (actions_of is)) e ∙ ap length (actions_append s.items new) ∙ length-append (actions_of s.items) (actions_of new)

next_alone : (c : Setting) (f : Frame) (own : List Frame) (s : State) → IsAt c (f ∷ own) s → (k : StepsAlone c f s) → (l : List Action) → actions_of k.new ≡ l
    → (IsAt c ((step_of c f s).frames ++ own) (step_of c f s).state → NextAt c (step_of c f s).state) → NextAt c s
next_alone c f own s at k [] e more =
    let t : State = (step_of c f s).state in
    let none : length (actions_of k.new) ≡ 0 = ap length e in
    let p = place_behind s t k.new k.grown in let d = k.counted in
    next_quiet c s t (omega (arith, p, none)) k.same_label (omega (arith, d, none)) (more (own_step c f own s at (all_plain_own (step_of c f s).frames k.plain)))
next_alone c f own s at k (a ∷ []) e more = next_of c s a (acts_next c f own s at k.new a k.grown e)
next_alone c f own s at k (a ∷ b ∷ l) e more = absurd (subst (IsNextOf s) e k.next)

next_within : (c : Setting) (fuel : ℕ) (own : List Frame) (s : State) → to_come c (middle own s) ≤ fuel → IsAt c own s → NextAt c s
next_within c zero [] s le at = next_of c s (end_of s) (end_next c s at)
next_within c zero (f ∷ own) s le at = let less = step_nears c f own s in absurd (omega (arith, less, le))
next_within c (suc fuel) [] s le at = next_of c s (end_of s) (end_next c s at)
next_within c (suc fuel) (f ∷ own) s le at = by (alone_or_forks c f s at.all_own.0) (next_within c fuel ((step_of c f s).frames ++ own) (step_of c f s).state (let less = step_nears c f own s in omega (arith, less, le)))
  where
    by : StepsAlone c f s ⊎ StepForks c f s → (IsAt c ((step_of c f s).frames ++ own) (step_of c f s).state → NextAt c (step_of c f s).state) → NextAt c s
    by (inl k) more = next_alone c f own s at k (actions_of k.new) refl more
    by (inr k) more = next_of c s (fork_action s) (acts_next c f own s at (forked_items f s) (fork_action s) (forked_grown c f s k) (forked_acts f s))

pub next_at : (c : Setting) (own : List Frame) (s : State) → IsAt c own s → NextAt c s
next_at c own s at = next_within c (to_come c (middle own s)) own s (omega arith) at
