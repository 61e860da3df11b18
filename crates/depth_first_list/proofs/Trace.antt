-- The run of a thread along the places of a list: its own actions one by one, and the places of its children in
-- between. `A i` is the action at place i.
use Rattle.std.proofs.Common.{◌≡◌, ℕ, suc, ◌+◌, List, [], ◌∷◌, ◌++◌, length, refl, sym, subst, arith, length-append}
use Rattle.dag_order.specs.LabelOrder.{fork_of}
use Rattle.depth_first_list.specs.Shapes.{Shape, leaf, forked}
use Rattle.depth_first_list.specs.Actions.{Deed, forks, joins, allocates, releases, dummy, faults, ends, Action, record_words}
use Rattle.depth_first_list.specs.Runs.{Point, start, next_child, action_at_point, after_action, after_fork, after_join, end_at, after_tree, tree_run, tree_for, IsPlain, Runs, rests, goes_on, acts, forks_a_child, joins_the_newest, allocates_behind_a_tree}

-- neither a Fork nor a Join nor an End
abbrev pub IsQuiet : Deed → Type 0
IsQuiet (forks child) = ⊥
IsQuiet (joins child) = ⊥
IsQuiet allocates = Unit {0}
IsQuiet releases = Unit {0}
IsQuiet dummy = Unit {0}
IsQuiet faults = Unit {0}
IsQuiet ends = ⊥

-- from place s and point p to place t and point q
pub data Trace (A : ℕ → Action) : List ℕ → ℕ → Point → ℕ → Point → Type 0 where
  stays : (a : List ℕ) (s : ℕ) (p : Point) → Trace A a s p s p
  quiet : (a : List ℕ) (s : ℕ) (p : Point) (deed : Deed) (words : ℕ) (t : ℕ) (q : Point)
      → A s ≡ action_at_point a p deed words → IsQuiet deed → Trace A a (suc s) (after_action p) t q → Trace A a s p t q
  forking : (a : List ℕ) (s : ℕ) (p : Point) (e : ℕ) (c : Point) (t : ℕ) (q : Point)
      → A s ≡ action_at_point a p (forks (next_child p)) record_words
      → Trace A (fork_of a (next_child p)) (suc s) start e c → c.open_children ≡ [] → A e ≡ end_at (fork_of a (next_child p)) c record_words
      → Trace A a (suc e) (after_fork p) t q → Trace A a s p t q
  joining : (a : List ℕ) (s : ℕ) (p : Point) (child : ℕ) (older : List ℕ) (words : ℕ) (t : ℕ) (q : Point)
      → p.open_children ≡ child ∷ older → A s ≡ action_at_point a p (joins child) words
      → Trace A a (suc s) (after_join p older) t q → Trace A a s p t q

-- the list stands at the places from s on
abbrev pub Sits : (ℕ → Action) → ℕ → List Action → Type 0
Sits A s [] = Unit {0}
Sits A s (x ∷ l) = (A s ≡ x) × Sits A (suc s) l

pub sits_front : (A : ℕ → Action) (s : ℕ) (xs ys : List Action) → Sits A s (xs ++ ys) → Sits A s xs
sits_front A s [] ys h = tt
sits_front A s (x ∷ xs) ys h = (h.0, sits_front A (suc s) xs ys h.1)

pub sits_back : (A : ℕ → Action) (s t : ℕ) (xs ys : List Action) → t ≡ s + length xs → Sits A s (xs ++ ys) → Sits A t ys
sits_back A s t [] ys e h = let same : t ≡ s = omega arith in subst (λ m. Sits A m ys) (sym same) h
sits_back A s t (x ∷ xs) ys e h = sits_back A (suc s) t xs ys (omega arith) h.1

-- a tree of dummies
tree_keeps_open : (shape : Shape) (p : Point) → (after_tree p shape).open_children ≡ p.open_children
tree_keeps_open leaf p = refl
tree_keeps_open (forked child own) p = refl

pub tree_traced : (A : ℕ → Action) (shape : Shape) (a : List ℕ) (p : Point) (s t u : ℕ) (r : Point) → t ≡ s + length (tree_run a p shape)
    → Sits A s (tree_run a p shape) → Trace A a t (after_tree p shape) u r → Trace A a s p u r
tree_traced A leaf a p s t u r e sits rest =
    let next : t ≡ suc s = omega arith in
    quiet a s p dummy 0 u r sits.0 tt (subst (λ m. Trace A a m (after_action p) u r) next rest)
tree_traced A (forked child own) a p s t u r e sits rest =
    let kid : List ℕ = fork_of a (next_child p) in
    let below : List Action = tree_run kid start child in
    let mine : List Action = tree_run a (after_fork p) own in
    let join : List Action = action_at_point a (after_tree (after_fork p) own) (joins (next_child p)) 0 ∷ [] in
    let last : Action = end_at kid (after_tree start child) record_words in
    let end : ℕ = suc s + length below in
    let j : ℕ = suc end + length mine in
    let front : Sits A (suc s) below = sits_front A (suc s) below (last ∷ (mine ++ join)) sits.1 in
    let back : Sits A end (last ∷ (mine ++ join)) = sits_back A (suc s) end below (last ∷ (mine ++ join)) refl sits.1 in
    let own_front : Sits A (suc end) mine = sits_front A (suc end) mine join back.1 in
    let own_back : Sits A j join = sits_back A (suc end) j mine join refl back.1 in
    let both = length-append below (last ∷ (mine ++ join)) in
    let more = length-append mine join in
    let next : t ≡ suc j = omega (arith, both, more) in
    forking a s p end (after_tree start child) u r sits.0
    (tree_traced A child kid start (suc s) end end (after_tree start child) refl front (stays kid end (after_tree start child)))
    (tree_keeps_open child start) back.0
    (tree_traced A own a (after_fork p) (suc end) j u r refl own_front
    (joining a j (after_tree (after_fork p) own) (next_child p) p.open_children 0 u r (tree_keeps_open own (after_fork p)) own_back.0
    (subst (λ m. Trace A a m (after_tree p (forked child own)) u r) next rest)))

-- what a thread does by itself is quiet
plain_is_quiet : (k : ℕ) (deed : Deed) (words : ℕ) → IsPlain k deed words → IsQuiet deed
plain_is_quiet k (forks child) words h = absurd h
plain_is_quiet k (joins child) words h = absurd h
plain_is_quiet k allocates words h = tt
plain_is_quiet k releases words h = tt
plain_is_quiet k dummy words h = absurd h
plain_is_quiet k faults words h = tt
plain_is_quiet k ends words h = absurd h

-- the run of a thread, where its actions stand from place s on, and what follows from place t on
pub traced : (A : ℕ → Action) (k : ℕ) (a : List ℕ) (p : Point) (l : List Action) (q : Point) → Runs k a p l q
    → (s t u : ℕ) (r : Point) → t ≡ s + length l → Sits A s l → Trace A a t q u r → Trace A a s p u r
traced A k a p l q (rests label point) s t u r e sits rest =
    let same : t ≡ s = omega arith in subst (λ m. Trace A label m point u r) same rest
traced A k a p l q (goes_on label p' m q' front back one two) s t u r e sits rest =
    let both = length-append front back in
    let middle : ℕ = s + length front in
    traced A k label p' front m one s middle u r refl (sits_front A s front back sits)
    (traced A k label m back q' two middle t u r (omega (arith, both)) (sits_back A s middle front back refl sits) rest)
traced A k a p l q (acts label p' deed words plain) s t u r e sits rest =
    let next : t ≡ suc s = omega arith in
    quiet label s p' deed words u r sits.0 (plain_is_quiet k deed words plain) (subst (λ m. Trace A label m (after_action p') u r) next rest)
traced A k a p l q (forks_a_child label p' c below run joined) s t u r e sits rest =
    let kid : List ℕ = fork_of label (next_child p') in
    let end : ℕ = suc s + length below in
    let both = length-append below (end_at kid c record_words ∷ []) in
    let next : t ≡ suc end = omega (arith, both) in
    let back : Sits A end (end_at kid c record_words ∷ []) = sits_back A (suc s) end below (end_at kid c record_words ∷ []) refl sits.1 in
    forking label s p' end c u r sits.0
    (traced A k kid start below c run (suc s) end end c refl (sits_front A (suc s) below (end_at kid c record_words ∷ []) sits.1) (stays kid end c))
    joined back.0 (subst (λ m. Trace A label m (after_fork p') u r) next rest)
traced A k a p l q (joins_the_newest label p' child older words is) s t u r e sits rest =
    let next : t ≡ suc s = omega arith in
    joining label s p' child older words u r is sits.0 (subst (λ m. Trace A label m (after_join p' older) u r) next rest)
traced A k a p l q (allocates_behind_a_tree label p' words large) s t u r e sits rest =
    large_traced (tree_for k words) e sits rest
  where
    large_traced : (shape : Shape) → t ≡ s + length (tree_run label p' shape ++ action_at_point label (after_tree p' shape) allocates words ∷ [])
        → Sits A s (tree_run label p' shape ++ action_at_point label (after_tree p' shape) allocates words ∷ [])
        → Trace A label t (after_action (after_tree p' shape)) u r → Trace A label s p' u r
    large_traced shape e sits rest =
        let tree : List Action = tree_run label p' shape in
        let alloc : List Action = action_at_point label (after_tree p' shape) allocates words ∷ [] in
        let end : ℕ = s + length tree in
        let both = length-append tree alloc in
        let next : t ≡ suc end = omega (arith, both) in
        let back : Sits A end alloc = sits_back A s end tree alloc refl sits in
        tree_traced A shape label p' s end u r refl (sits_front A s tree alloc sits)
        (quiet label end (after_tree p' shape) allocates words u r back.0 tt (subst (λ m. Trace A label m (after_action (after_tree p' shape)) u r) next rest))
