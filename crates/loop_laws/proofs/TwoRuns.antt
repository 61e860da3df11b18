-- Any two runs: what is read of one behind another, runs of which nothing is read, and two that come to the same.
use Rattle.std.specs.Prelude.{◌≡◌, ℕ, Bool, true, false, List, [], ◌∷◌, ◌++◌, refl}
use Rattle.std.proofs.Common.{sym, ◌∙◌, ap, subst, append_assoc, append-nil}
use Rattle.depth_first_list.specs.Actions.{Action, Deed}
use Rattle.depth_first_run.specs.States.{State, Item, began, next_action, unless_faulted}
use Rattle.depth_first_run.specs.Run.{lines_of, first_fault, actions_of}
use Rattle.depth_first_run.proofs.Covered.{actions_append}
use Rattle.loop_laws.specs.Outcomes.{added, KeepsLimits}
use Rattle.loop_laws.proofs.Lists.{added_is}
use Rattle.loop_laws.specs.PlainLoop.{MeansTheSame}
use Rattle.loop_laws.proofs.Faulting.{Tells, has_fault}
use Rattle.loop_laws.proofs.Readings.{ReadTheSame, read_append, read_front, read_trans, read_faults, Longer, longer_by, added_split, limits_split, faulted_is}
use Rattle.loop_laws.proofs.Bodies.{skipped_none, skipped_all, begun}

-- ---- one behind the other

-- the same is read of lists that are the same as two of which it is
pub read_at : (xs xs' ys ys' : List Item) → xs ≡ xs' → ys ≡ ys' → ReadTheSame xs' ys' → ReadTheSame xs ys
read_at xs xs' ys ys' e e' r = record { lines = ap lines_of e ∙ r.lines ∙ sym (ap lines_of e'); fault = ap first_fault e ∙ r.fault ∙ sym (ap first_fault e') }

pub both_read : (s t u s' t' u' : State) → Longer s t → Longer t u → Longer s' t' → Longer t' u' → ReadTheSame (added s t) (added s' t') → ReadTheSame (added t u) (added t' u')
    → ReadTheSame (added s u) (added s' u')
both_read s t u s' t' u' l m l' m' r r' =
    read_at (added s u) (added s t ++ added t u) (added s' u') (added s' t' ++ added t' u') (added_split s t u l m) (added_split s' t' u' l' m')
    (read_append (added s t) (added s' t') (added t u) (added t' u') r r')

-- behind a fault nothing more is read
pub fault_behind : (s t u : State) (ys : List Item) → Longer s t → Longer t u → has_fault (added s t) ≡ true → ReadTheSame (added s t) ys → ReadTheSame (added s u) ys
fault_behind s t u ys l m e r =
    read_at (added s u) (added s t ++ added t u) ys ys (added_split s t u l m) refl (read_trans (added s t ++ added t u) (added s t) ys (read_front (added s t) (added t u) e) r)

-- two runs of which the same is read fault both or neither
pub both_faulted : (s t u v : State) → Tells s u → Tells t v → s.faulted ≡ false → t.faulted ≡ false → ReadTheSame (added s u) (added t v) → u.faulted ≡ v.faulted
both_faulted s t u v su tv sf tf r = faulted_is s u su sf ∙ read_faults (added s u) (added t v) r ∙ sym (faulted_is t v tv tf)

-- no thread has faulted and has not
pub no_fault : {A : Type 0} (b : Bool) → b ≡ true → b ≡ false → A
no_fault b e f = let no : true ≡ false = sym e ∙ f in let never : ⊥ = cc in absurd never

-- ---- the actions of one behind the other

pub actions_are : (s t : State) (new : List Item) → t.items ≡ s.items ++ new → actions_of (added s t) ≡ actions_of new
actions_are s t new e = ap actions_of (added_is s t new e)

pub actions_split : (s t u : State) → Longer s t → Longer t u → actions_of (added s u) ≡ actions_of (added s t) ++ actions_of (added t u)
actions_split s t u l m = ap actions_of (added_split s t u l m) ∙ actions_append (added s t) (added t u)

-- nothing is done in the first, or in the second
pub quiet_front : (s t u : State) → Longer s t → Longer t u → actions_of (added s t) ≡ [] → actions_of (added s u) ≡ actions_of (added t u)
quiet_front s t u l m e = actions_split s t u l m ∙ ap (λ (xs : List Action). xs ++ actions_of (added t u)) e

pub quiet_back : (s t u : State) → Longer s t → Longer t u → actions_of (added t u) ≡ [] → actions_of (added s u) ≡ actions_of (added s t)
quiet_back s t u l m e = actions_split s t u l m ∙ ap (λ (xs : List Action). actions_of (added s t) ++ xs) e ∙ append-nil (actions_of (added s t))

-- ---- runs of which nothing is read

pub mark_unread : (line : ℕ) → ReadTheSame (began line ∷ []) []
mark_unread line = record { lines = refl; fault = refl }

pub action_unread : (deed : Deed) (words : ℕ) (s : State) → ReadTheSame (next_action deed words s ∷ []) []
action_unread deed words s = record { lines = refl; fault = refl }

-- more items, of which nothing is read
abbrev pub Silent : State → State → Type 0
Silent s t = (new : List Item) × (t.items ≡ s.items ++ new) × ReadTheSame new []

pub silent_same : (s t : State) → t.items ≡ s.items → Silent s t
silent_same s t e = ([], e ∙ sym (append-nil s.items), record { lines = refl; fault = refl })

pub silent_item : (s t u : State) (i : Item) → ReadTheSame (i ∷ []) [] → u.items ≡ t.items ++ i ∷ [] → Silent s t → Silent s u
silent_item s t u i r e l =
    (l.0 ++ i ∷ [], e ∙ ap (λ (is : List Item). is ++ i ∷ []) l.1 ∙ append_assoc s.items l.0 (i ∷ []), read_append l.0 [] (i ∷ []) [] l.2 r)

pub silent_begun : (line : ℕ) (s t : State) → Silent s t → Silent s (begun line t)
silent_begun line s t l = silent_item s t (begun line t) (began line) (mark_unread line) refl l

-- more marks of statements that begin
abbrev pub Marked : State → State → Type 0
Marked s t = (new : List Item) × (t.items ≡ s.items ++ new) × ReadTheSame new [] × (actions_of new ≡ [])

pub marked_silent : (s t : State) → Marked s t → Silent s t
marked_silent s t m = (m.0, m.1, m.2)

pub marked_same : (s t : State) → t.items ≡ s.items → Marked s t
marked_same s t e = ([], e ∙ sym (append-nil s.items), record { lines = refl; fault = refl }, refl)

pub marked_more : (line : ℕ) (s t u : State) → u.items ≡ t.items ++ began line ∷ [] → Marked s t → Marked s u
marked_more line s t u e m = (
  m.0 ++ began line ∷ [],
  e ∙ ap (λ (is : List Item). is ++ began line ∷ []) m.1 ∙ append_assoc s.items m.0 (began line ∷ []),
  read_append m.0 [] (began line ∷ []) [] m.2 (mark_unread line),
  actions_append m.0 (began line ∷ []) ∙ ap (λ (xs : List Action). xs ++ []) m.3,
)

pub silent_longer : (s t : State) → Silent s t → Longer s t
silent_longer s t l = longer_by s t l.0 l.1

pub silent_added : (s t : State) → Silent s t → ReadTheSame (added s t) []
silent_added s t l = read_at (added s t) l.0 [] [] (added_is s t l.0 l.1) refl l.2

-- of neither of two runs anything is read
pub both_silent : (s t u v : State) → Silent s u → Silent t v → ReadTheSame (added s u) (added t v)
both_silent s t u v l m =
    let r = silent_added s u l in let r' = silent_added t v m in record { lines = r.lines ∙ sym r'.lines; fault = r.fault ∙ sym r'.fault }

-- nothing is read before a run, or behind it
pub silent_before : (s t u : State) (ys : List Item) → Silent s t → Longer t u → ReadTheSame (added t u) ys → ReadTheSame (added s u) ys
silent_before s t u ys l m r =
    read_at (added s u) (added s t ++ added t u) ys ys (added_split s t u (silent_longer s t l) m) refl (read_append (added s t) [] (added t u) ys (silent_added s t l) r)

pub silent_behind : (s t u : State) (ys : List Item) → Longer s t → Silent t u → ReadTheSame (added s t) ys → ReadTheSame (added s u) ys
silent_behind s t u ys l m r =
    read_at (added s u) (added s t ++ added t u) ys (ys ++ []) (added_split s t u l (silent_longer t u m)) (sym (append-nil ys)) (read_append (added s t) ys (added t u) [] r (silent_added t u m))

-- ---- runs that come to the same

-- from s to u and from t to v: the same is read, a fault ends both or none, and where none does the same store is left
pub record SameRuns (s u t v : State) : Type 0 where
  pub reading : ReadTheSame (added s u) (added t v)
  pub faulted : u.faulted ≡ v.faulted
  pub left : u.faulted ≡ false → u.store ≡ v.store

-- two runs that come to the same go on, where no fault ended them: they still come to the same where what follows does
pub same_runs_on : (f g : State → State) (s t u v : State) → Longer s u → Longer t v → Longer u (f u) → Longer v (g v) → SameRuns s u t v
    → (u.faulted ≡ false → v.faulted ≡ false → u.store ≡ v.store → KeepsLimits (added u (f u)) → KeepsLimits (added v (g v)) → SameRuns u (f u) v (g v))
    → KeepsLimits (added s (unless_faulted f u)) → KeepsLimits (added t (unless_faulted g v)) → SameRuns s (unless_faulted f u) t (unless_faulted g v)
same_runs_on f g s t u v su tv uf vg w rest ks kt = by u.faulted refl
  where
    at : (u' v' : State) → unless_faulted f u ≡ u' → unless_faulted g v ≡ v' → SameRuns s u' t v' → SameRuns s (unless_faulted f u) t (unless_faulted g v)
    at u' v' p q same = subst (λ (z : State). SameRuns s z t (unless_faulted g v)) (sym p) (subst (λ (z : State). SameRuns s u' t z) (sym q) same)

    by : (b : Bool) → u.faulted ≡ b → SameRuns s (unless_faulted f u) t (unless_faulted g v)
    by true e = at u v (skipped_all f u e) (skipped_all g v (sym w.faulted ∙ e)) w
    by false e =
        let e' : v.faulted ≡ false = sym w.faulted ∙ e in
        let p = skipped_none f u e in
        let q = skipped_none g v e' in
        let k = limits_split s u (f u) su uf (subst (λ (z : State). KeepsLimits (added s z)) p ks) in
        let k' = limits_split t v (g v) tv vg (subst (λ (z : State). KeepsLimits (added t z)) q kt) in
        let r = rest e e' (w.left e) k.1 k'.1 in
        at (f u) (g v) p q
        (record {
          reading = both_read s u (f u) t v (g v) su uf tv vg w.reading r.reading;
          faulted = r.faulted;
          left = r.left;
        })

-- one state means the same as itself, and states that are the same as two that mean the same do
pub one_meaning : (s t u v : State) → t ≡ v → u ≡ v → MeansTheSame s t u
one_meaning s t u v p q =
    let e : t ≡ u = p ∙ sym q in
    record {
      lines = ap (λ (z : State). lines_of (added s z)) e;
      fault = ap (λ (z : State). first_fault (added s z)) e;
      faulted = ap (λ (z : State). z.faulted) e;
      store = λ z. ap (λ (w : State). w.store) e;
    }

pub means_at : (s t u t' u' : State) → t ≡ t' → u ≡ u' → MeansTheSame s t' u' → MeansTheSame s t u
means_at s t u t' u' p q m =
    subst (λ (z : State). MeansTheSame s z u) (sym p) (subst (λ (z : State). MeansTheSame s t' z) (sym q) m)
