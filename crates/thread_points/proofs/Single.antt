-- Of each label there is one beginning and one end, since an action stands once in the list.
use Rattle.std.specs.Prelude.{◌≡◌, Bool, ℕ, zero, suc, ◌+◌, ◌<◌, ◌≤◌, ◌⊎◌, List, [], ◌∷◌, ◌++◌, length, refl}
use Rattle.std.proofs.Common.{sym, ◌∙◌, ap, arith, subst, inl, inr, length-append}
use Rattle.std.proofs.lemmas.Bool.{cases_order, cases_eq}
use Rattle.dag_order.specs.LabelOrder.{fork_of}
use Rattle.depth_first_run.specs.Passed.Actions as actions
use Rattle.depth_first_run.specs.Passed.Actions.{Action, Deed, record_words}
use Rattle.depth_first_run.specs.Passed.Facts.{label_at, deed_at, words_at}
use Rattle.depth_first_run.proofs.Passed.ThreadLaws.{end_is_last, forked_once}
use Rattle.depth_first_run.specs.Passed.Tree.{Name}
use Rattle.depth_first_run.specs.States.{Setting, State, Item, next_action, ended, with_action}
use Rattle.depth_first_run.specs.Run.{actions_of, whole, list_of}
use Rattle.depth_first_run.specs.Middle.{Part, Frame, does, answers, rejoins, answers_main, allocates, awaits, joins, finish, Middle, middle, finished, advance}
use Rattle.depth_first_run.proofs.Built.{whole_is_depth_first}
use Rattle.depth_first_run.proofs.OneAction.{next_action_comes}
use Rattle.thread_points.specs.Points.{after_steps, AreParents, IsAt, StepForks, child_start, place_of}
use Rattle.thread_points.specs.Threads.{Begins, of_root, of_child}
use Rattle.thread_points.proofs.Reaching.{points_come}
use Rattle.thread_points.proofs.Walking.{next_point, forked_point}
use Rattle.thread_points.proofs.Placing.{Placed, place_behind, placed_step, root_ends, end_words, fork_action, forked_items, forked_grown, forked_acts, end_with, child_ends, child_placed, root_placed}

-- ---- actions are counted along the points

counted : Setting → ℕ → ℕ
counted c n = place_of (after_steps c n).state

counted_step : (c : Setting) (n : ℕ) → counted c n ≤ counted c (suc n)
unfolding counted after_steps
counted_step c n =
    let m : Middle = after_steps c n in
    let k = next_action_comes c m in
    let p = place_behind m.state (advance c m).state k.0 k.3 in omega (arith, p)

counted_rises : (c : Setting) (n m : ℕ) → n ≤ m → counted c n ≤ counted c m
counted_rises c n zero le = let e : n ≡ zero = omega (arith, le) in let same : counted c n ≡ counted c zero = ap (counted c) e in omega (arith, same)
counted_rises c n (suc m) le = by (counted_rises c n m) (cases_eq n (suc m))
  where
    by : (n ≤ m → counted c n ≤ counted c m) → (n ≡ suc m) ⊎ (n ≡ suc m → ⊥) → counted c n ≤ counted c (suc m)
    by more (inl e) = let same : counted c n ≡ counted c (suc m) = ap (counted c) e in omega (arith, same)
    by more (inr ne) = let r = more (omega (arith, le, ne)) in let s = counted_step c m in omega (arith, r, s)

-- a step that acts after so many actions
record Acts (c : Setting) (n place : ℕ) : Type 0 where
  before : counted c n ≡ place
  behind : counted c (suc n) ≡ suc place

-- is one step
acts_before : (c : Setting) (n m place : ℕ) → Acts c n place → Acts c m place → n < m → ⊥
acts_before c n m place p q lt =
    let rises = counted_rises c (suc n) m lt in let a = p.behind in let b = q.before in absurd (omega (arith, rises, a, b))

acts_once : (c : Setting) (n m place : ℕ) → Acts c n place → Acts c m place → n ≡ m
acts_once c n m place p q =
    elim (cases_order n m) [
      | inl e ↦ e
      | inr r ↦ elim r [ inl lt ↦ absurd (acts_before c n m place p q lt) | inr gt ↦ absurd (acts_before c m n place q p gt) ]
    ]

acts_moved : (c : Setting) (n place other : ℕ) → place ≡ other → Acts c n place → Acts c n other
acts_moved c n place other e p = subst (Acts c n) e p

acts_behind : (c : Setting) (n : ℕ) (s : State) (new : List Item) (a : Action) → (after_steps c n).state ≡ s → (after_steps c (suc n)).state.items ≡ s.items ++ new
    → actions_of new ≡ a ∷ [] → Acts c n (place_of s)
unfolding counted
acts_behind c n s new a here grown one =
    let p = place_behind s (after_steps c (suc n)).state new grown in
    let n1 : length (actions_of new) ≡ 1 = ap length one in
    record { before = ap place_of here; behind = omega (arith, p, n1) }

-- ---- one end

child_end_acts : (c : Setting) (n : ℕ) (named assigned : Name → Bool) (own : Part) (parent : State) (fs : List Frame) (s : State)
    → after_steps c n ≡ middle (awaits named assigned own parent ∷ fs) s → Acts c n (place_of s)
unfolding ended with_action
child_end_acts c n named assigned own parent fs s e =
    acts_behind c n s (next_action actions.ends record_words s ∷ []) (end_with record_words s) (ap (λ m. m.state) e)
    (ap (λ m. m.state.items) (child_ends c n named assigned own parent fs s e)) refl

-- the Ends of one label stand at one place
ends_together : (c : Setting) (s t : State) (v w : ℕ) → s.label ≡ t.label → Placed c (place_of s) (end_with v s) → Placed c (place_of t) (end_with w t) → place_of s ≡ place_of t
ends_together c s t v w l p q =
    let label : label_at (list_of c) (place_of s) ≡ label_at (list_of c) (place_of t) = ap (λ a. a.label) p.is ∙ l ∙ sym (ap (λ a. a.label) q.is) in
    let here = end_is_last c.quota (list_of c) (whole_is_depth_first c) (place_of s) (place_of t) p.inside q.inside label (ap (λ a. a.deed) q.is) in
    let there = end_is_last c.quota (list_of c) (whole_is_depth_first c) (place_of t) (place_of s) q.inside p.inside (sym label) (ap (λ a. a.deed) p.is) in
    omega (arith, here, there)

-- and have the same words
ends_alike : (c : Setting) (s t : State) (v w : ℕ) → s.label ≡ t.label → Placed c (place_of s) (end_with v s) → Placed c (place_of t) (end_with w t) → v ≡ w
ends_alike c s t v w l p q =
    sym (ap (λ a. a.words) p.is) ∙ ap (λ n. words_at (list_of c) n) (ends_together c s t v w l p q) ∙ ap (λ a. a.words) q.is

-- what a thread is at its end: nothing is left of the run, or its parent awaits it
data Ends (c : Setting) (s : State) : Type 0 where
  ends_all : (n : ℕ) → after_steps c n ≡ middle [] s → Ends c s
  ends_child : (n : ℕ) (named assigned : Name → Bool) (own : Part) (parent : State) (fs : List Frame)
      → after_steps c n ≡ middle (awaits named assigned own parent ∷ fs) s → Ends c s

ends_on : (c : Setting) (n : ℕ) (parents : List Frame) (s : State) → AreParents parents → after_steps c n ≡ middle parents s → Ends c s
ends_on c n [] s g e = ends_all n e
ends_on c n (does part ∷ fs) s g e = absurd (g tt)
ends_on c n (answers ret params args t ∷ fs) s g e = absurd (g tt)
ends_on c n (rejoins b l r ∷ fs) s g e = absurd (g tt)
ends_on c n (answers_main ret ∷ fs) s g e = absurd (g tt)
ends_on c n (allocates b m ∷ fs) s g e = absurd (g tt)
ends_on c n (awaits named assigned own parent ∷ fs) s g e = ends_child n named assigned own parent fs e
ends_on c n (joins assigned child d ∷ fs) s g e = absurd (g tt)

ends_same : (c : Setting) (s t : State) → s.label ≡ t.label → Ends c s → Ends c t → s ≡ t
unfolding finish
ends_same c s t l (ends_all n e) (ends_all m d) =
    sym (ap (finished c) e) ∙ points_come c n ∙ sym (points_come c m) ∙ ap (finished c) d
ends_same c s t l (ends_all n e) (ends_child m named assigned own parent fs d) =
    let words = ends_alike c s t 0 record_words l (root_placed c n s e) (child_placed c m named assigned own parent fs t d) in absurd (omega (arith, words))
ends_same c s t l (ends_child n named assigned own parent fs e) (ends_all m d) =
    let words = ends_alike c s t record_words 0 l (child_placed c n named assigned own parent fs s e) (root_placed c m t d) in absurd (omega (arith, words))
ends_same c s t l (ends_child n named assigned own parent fs e) (ends_child m named' assigned' own' parent' fs' d) =
    let place = ends_together c s t record_words record_words l (child_placed c n named assigned own parent fs s e) (child_placed c m named' assigned' own' parent' fs' t d) in
    let same : n ≡ m =
    acts_once c n m (place_of t) (acts_moved c n (place_of s) (place_of t) place (child_end_acts c n named assigned own parent fs s e))
    (child_end_acts c m named' assigned' own' parent' fs' t d) in
    ap (λ k. k.state) (sym e ∙ ap (after_steps c) same ∙ d)

pub one_end : (c : Setting) (s t : State) → IsAt c [] s → IsAt c [] t → s.label ≡ t.label → s ≡ t
one_end c s t p q l = ends_same c s t l (ends_on c p.steps p.parents s p.are_parents p.there) (ends_on c q.steps q.parents t q.are_parents q.there)

-- ---- one beginning

-- the label of a fork tells its parent's and its ordinal
no_fork : (parent : List ℕ) (child : ℕ) → [] ≡ fork_of parent child → ⊥
no_fork parent child e =
    let size : 0 ≡ length parent + 1 = ap length e ∙ length-append parent (child ∷ []) in absurd (omega (arith, size))

-- what stands before the last ordinal, and the last ordinal
front : List ℕ → List ℕ
front [] = []
front (x ∷ []) = []
front (x ∷ y ∷ l) = x ∷ front (y ∷ l)

back : List ℕ → ℕ
back [] = 0
back (x ∷ []) = x
back (x ∷ y ∷ l) = back (y ∷ l)

front_of : (parent : List ℕ) (child : ℕ) → front (fork_of parent child) ≡ parent
unfolding front
front_of [] child = refl
front_of (x ∷ []) child = refl
front_of (x ∷ y ∷ l) child = ap (λ l. x ∷ l) (front_of (y ∷ l) child)

back_of : (parent : List ℕ) (child : ℕ) → back (fork_of parent child) ≡ child
unfolding back
back_of [] child = refl
back_of (x ∷ []) child = refl
back_of (x ∷ y ∷ l) child = back_of (y ∷ l) child

pub same_parent : (p q : List ℕ) (i j : ℕ) → fork_of p i ≡ fork_of q j → p ≡ q
same_parent p q i j e = sym (front_of p i) ∙ ap front e ∙ front_of q j

pub same_ordinal : (p q : List ℕ) (i j : ℕ) → fork_of p i ≡ fork_of q j → i ≡ j
same_ordinal p q i j e = sym (back_of p i) ∙ ap back e ∙ back_of q j

fork_acts : (c : Setting) (f : Frame) (own : List Frame) (s : State) (at : IsAt c (f ∷ own) s) → StepForks c f s → Acts c at.steps (place_of s)
fork_acts c f own s at k =
    acts_behind c at.steps s (forked_items f s) (fork_action s) (ap (λ m. m.state) at.there)
    (ap (λ m. m.state.items) (next_point c at.steps f own at.parents s at.there) ∙ forked_grown c f s k) (forked_acts f s)

fork_placed : (c : Setting) (f : Frame) (own : List Frame) (s : State) (at : IsAt c (f ∷ own) s) → StepForks c f s → Placed c (place_of s) (fork_action s)
fork_placed c f own s at k =
    placed_step c at.steps s.items (forked_items f s) (fork_action s)
    (ap (λ m. m.state.items) (next_point c at.steps f own at.parents s at.there) ∙ forked_grown c f s k) (forked_acts f s)

-- the first frame alone
first_frame : List Frame → List Frame
first_frame [] = []
first_frame (f ∷ fs) = f ∷ []

forks_same : (c : Setting) (f g : Frame) (own other : List Frame) (s t : State) (p : IsAt c (f ∷ own) s) (q : IsAt c (g ∷ other) t) (j : StepForks c f s) (k : StepForks c g t)
    → fork_of s.label (suc s.forks) ≡ fork_of t.label (suc t.forks) → ((does j.work ∷ []) ≡ (does k.work ∷ [])) × (child_start c f s j ≡ child_start c g t k)
unfolding first_frame
forks_same c f g own other s t p q j k e =
    let x = fork_placed c f own s p j in let y = fork_placed c g other t q k in
    let label : label_at (list_of c) (place_of s) ≡ label_at (list_of c) (place_of t) =
    ap (λ a. a.label) x.is ∙ same_parent s.label t.label (suc s.forks) (suc t.forks) e ∙ sym (ap (λ a. a.label) y.is) in
    let deed : deed_at (list_of c) (place_of t) ≡ actions.forks (suc s.forks) =
    ap (λ a. a.deed) y.is ∙ ap actions.forks (sym (same_ordinal s.label t.label (suc s.forks) (suc t.forks) e)) in
    let place : place_of s ≡ place_of t =
    forked_once c.quota (list_of c) (whole_is_depth_first c) (place_of s) (place_of t) (suc s.forks) x.inside y.inside label (ap (λ a. a.deed) x.is) deed in
    let same : p.steps ≡ q.steps =
    acts_once c p.steps q.steps (place_of t) (acts_moved c p.steps (place_of s) (place_of t) place (fork_acts c f own s p j)) (fork_acts c g other t q k) in
    let all = sym (forked_point c f own s p j) ∙ ap (λ n. after_steps c (suc n)) same ∙ forked_point c g other t q k in
    (ap (λ m. first_frame m.frames) all, ap (λ m. m.state) all)

pub one_beginning : (c : Setting) (own other : List Frame) (s t : State) → Begins c own s → Begins c other t → s.label ≡ t.label → (own ≡ other) × (s ≡ t)
one_beginning c own other s t of_root of_root l = (refl, refl)
one_beginning c own other s t of_root (of_child f fs u at k) l = absurd (no_fork u.label (suc u.forks) l)
one_beginning c own other s t (of_child f fs u at k) of_root l = absurd (no_fork u.label (suc u.forks) (sym l))
one_beginning c own other s t (of_child f fs u at k) (of_child g gs v q j) l = forks_same c f g fs gs u v at q k j l

-- ---- the root's end

pub root_is_whole : (c : Setting) (s : State) → IsAt c [] s → s.label ≡ [] → whole c ≡ ended 0 s
root_is_whole c s at l = by (ends_on c at.steps at.parents s at.are_parents at.there)
  where
    by : Ends c s → whole c ≡ ended 0 s
    by (ends_all n e) = root_ends c n s e
    by (ends_child n named assigned own parent fs e) =
        let p = child_placed c n named assigned own parent fs s e in
        let words = sym (ap (λ a. a.words) p.is) ∙ end_words c (place_of s) [] p.inside (ap (λ a. a.deed) p.is) (ap (λ a. a.label) p.is ∙ l) in
        absurd (omega (arith, words))
