-- The own actions of one thread along the places of a list. Between two of them stand only actions of a child.
use Rattle.std.proofs.Common.{◌≡◌, ℕ, suc, ◌≤◌, ◌<◌, List, [], ◌∷◌, ◌++◌, ◌⊎◌, inl, inr, length, refl, sym, subst, ap, ◌∙◌, arith, length-append}
use Rattle.std.proofs.lemmas.List.{append_assoc}
use Rattle.std.proofs.lemmas.Bool.{cases_order, cases_lt}
use Rattle.dag_order.specs.LabelOrder.{fork_of}
use Rattle.depth_first_list.specs.Actions.{Deed, forks, joins, Action, record_words}
use Rattle.depth_first_list.specs.Runs.{Point, start, next_child, action_at_point, after_action, after_fork, after_join, end_at}
use Rattle.depth_first_list.proofs.Trace.{IsQuiet, Trace, stays, quiet, forking, joining}

-- the whole run of a thread, as of a child, at the places up to its End at e, with the words of its record block
pub record Child (A : ℕ → Action) (kid : List ℕ) (s e : ℕ) : Type 0 where
  pub last : Point
  pub held : ℕ
  pub trace : Trace A kid s start e last
  pub joined : last.open_children ≡ []
  pub end : A e ≡ end_at kid last held

-- what an own action at place s does between the points p and r; the next own place is at least u
pub data Does (A : ℕ → Action) (a : List ℕ) (s : ℕ) (p : Point) (u : ℕ) (r : Point) : Type 0 where
  acts : (deed : Deed) → (A s).deed ≡ deed → IsQuiet deed → r.forks_done ≡ p.forks_done → r.open_children ≡ p.open_children → Does A a s p u r
  forks_one : (e : ℕ) → (A s).deed ≡ forks (next_child p) → u ≡ suc e → Child A (fork_of a (next_child p)) (suc s) e
      → r.forks_done ≡ next_child p → r.open_children ≡ next_child p ∷ p.open_children → Does A a s p u r
  joins_one : (child : ℕ) (older : List ℕ) → (A s).deed ≡ joins child → p.open_children ≡ child ∷ older
      → r.forks_done ≡ p.forks_done → r.open_children ≡ older → Does A a s p u r

-- a label of a child that is forked between two points, or of a thread that stems from it
pub record IsBelow (a : List ℕ) (few many : ℕ) (label : List ℕ) : Type 0 where
  pub child : ℕ
  pub rest : List ℕ
  pub from : few < child
  pub up_to : child ≤ many
  pub is : label ≡ a ++ child ∷ rest

pub record Step (A : ℕ → Action) (a : List ℕ) (s : ℕ) (p : Point) (u : ℕ) (r : Point) : Type 0 where
  pub label_is : (A s).label ≡ a
  pub index_is : (A s).index ≡ p.done
  pub later : s < u
  pub counted : r.done ≡ suc p.done
  pub more_forks : p.forks_done ≤ r.forks_done
  pub between : (i : ℕ) → s < i → i < u → IsBelow a p.forks_done r.forks_done (A i).label
  pub does : Does A a s p u r

pub data Steps (A : ℕ → Action) (a : List ℕ) : ℕ → Point → ℕ → Point → Type 0 where
  none : (s : ℕ) (p : Point) → Steps A a s p s p
  more : (s : ℕ) (p : Point) (u : ℕ) (r : Point) (t : ℕ) (q : Point) → Step A a s p u r → Steps A a u r t q → Steps A a s p t q

-- a thread's label does not go on behind itself
pub not_below : (a : List ℕ) (few many : ℕ) → IsBelow a few many a → ⊥
not_below a few many h =
    let long = length-append a (h.child ∷ h.rest) in
    let same : length a ≡ length (a ++ h.child ∷ h.rest) = ap (λ l. length l) h.is in
    omega (arith, long, same)

pub label_not_below : (a label : List ℕ) (few many : ℕ) → label ≡ a → IsBelow a few many label → ⊥
label_not_below a label few many e h = not_below a few many (subst (λ m. IsBelow a few many m) e h)

-- the point only goes on
pub record GoesOn (s : ℕ) (p : Point) (t : ℕ) (q : Point) : Type 0 where
  pub place : s ≤ t
  pub done : p.done ≤ q.done
  pub forks_done : p.forks_done ≤ q.forks_done

pub goes_on : (A : ℕ → Action) (a : List ℕ) (s : ℕ) (p : Point) (t : ℕ) (q : Point) → Steps A a s p t q → GoesOn s p t q
goes_on A a s p t q (none s' p') = record { place = omega arith; done = omega arith; forks_done = omega arith }
goes_on A a s p t q (more s' p' u r t' q' step rest) =
    let h : GoesOn u r t' q' = goes_on A a u r t' q' rest in
    let lt = step.later in let c = step.counted in let f = step.more_forks in
    let p0 = h.place in let d0 = h.done in let f0 = h.forks_done in
    record { place = omega arith; done = omega arith; forks_done = omega arith }

-- where a place from s on stands: it is s, or behind it and before u, or from u on
pub where_is : (s u i : ℕ) → s ≤ i → (i ≡ s) ⊎ (((s < i) × (i < u)) ⊎ (u ≤ i))
where_is s u i le =
    elim (cases_order i s) [
      | inl e ↦ inl e
      | inr r ↦ elim r [
        | inl lt ↦ absurd (omega arith)
        | inr gt ↦ elim (cases_lt i u) [ inl lt ↦ inr (inl (gt, lt)) | inr ge ↦ inr (inr ge) ]
      ]
    ]

-- an own action between two points
pub record IsOwn (a : List ℕ) (p q : Point) (x : Action) : Type 0 where
  pub label_is : x.label ≡ a
  pub from : p.done ≤ x.index
  pub up_to : x.index < q.done

-- each place is an own one, or one of a child
pub each_place : (A : ℕ → Action) (a : List ℕ) (s : ℕ) (p : Point) (t : ℕ) (q : Point) → Steps A a s p t q
    → (i : ℕ) → s ≤ i → i < t → IsOwn a p q (A i) ⊎ IsBelow a p.forks_done q.forks_done (A i).label
each_place A a s p t q (none s' p') i le lt = absurd (omega arith)
each_place A a s p t q (more s' p' u r t' q' step rest) i le lt =
    let on : GoesOn u r t' q' = goes_on A a u r t' q' rest in
    let c = step.counted in let f = step.more_forks in let d0 = on.done in let f0 = on.forks_done in let ix = step.index_is in
    elim (where_is s' u i le) [
      | inl e ↦ inl (subst (λ m. IsOwn a p' q' (A m)) (sym e) (record { label_is = step.label_is; from = omega arith; up_to = omega arith }))
      | inr w ↦ elim w [
        | inl gap ↦ let b = step.between i gap.0 gap.1 in let b0 = b.from in let b1 = b.up_to in
            inr (record { child = b.child; rest = b.rest; from = b0; up_to = omega arith; is = b.is })
        | inr ge ↦ elim (each_place A a u r t' q' rest i ge lt) [
          | inl own ↦ let o0 = own.from in let o1 = own.up_to in inl (record { label_is = own.label_is; from = omega arith; up_to = o1 })
          | inr b ↦ let b0 = b.from in let b1 = b.up_to in inr (record { child = b.child; rest = b.rest; from = omega arith; up_to = b1; is = b.is })
        ]
      ]
    ]

-- a child's own actions and those of its children are all below the parent
pub of_child : (a : List ℕ) (few many child : ℕ) (p q : Point) (x : Action) → few < child → child ≤ many
    → IsOwn (fork_of a child) p q x ⊎ IsBelow (fork_of a child) p.forks_done q.forks_done x.label → IsBelow a few many x.label
of_child a few many child p q x lt le h = elim h [
  | inl own ↦ record { child = child; rest = []; from = lt; up_to = le; is = own.label_is }
  | inr b ↦ record { child = child; rest = b.child ∷ b.rest; from = lt; up_to = le; is = b.is ∙ append_assoc a (child ∷ []) (b.child ∷ b.rest) }
]

-- the steps of a trace
pub steps : (A : ℕ → Action) (a : List ℕ) (s : ℕ) (p : Point) (t : ℕ) (q : Point) → Trace A a s p t q → Steps A a s p t q
steps A a s p t q (stays a' s' p') = none s' p'
steps A a s p t q (quiet a' s' p' deed words t' q' is silent rest) =
    more s' p' (suc s') (after_action p') t' q'
    (record {
      label_is = ap (λ x. x.label) is;
      index_is = ap (λ x. x.index) is;
      later = omega arith;
      counted = refl;
      more_forks = omega arith;
      between = λ i lo hi. absurd (omega arith);
      does = acts deed (ap (λ x. x.deed) is) silent refl refl;
    })
    (steps A a' (suc s') (after_action p') t' q' rest)
steps A a s p t q (forking a' s' p' e c t' q' is child joined end rest) =
    more s' p' (suc e) (after_fork p') t' q'
    (forked_step A a' s' p' e c is child joined end (steps A (fork_of a' (next_child p')) (suc s') start e c child))
    (steps A a' (suc e) (after_fork p') t' q' rest)
  where
    forked_step : (A : ℕ → Action) (a : List ℕ) (s : ℕ) (p : Point) (e : ℕ) (c : Point)
        → A s ≡ action_at_point a p (forks (next_child p)) record_words
        → Trace A (fork_of a (next_child p)) (suc s) start e c → c.open_children ≡ [] → A e ≡ end_at (fork_of a (next_child p)) c record_words
        → Steps A (fork_of a (next_child p)) (suc s) start e c → Step A a s p (suc e) (after_fork p)
    forked_step A a s p e c is child joined end below =
        let on : GoesOn (suc s) start e c = goes_on A (fork_of a (next_child p)) (suc s) start e c below in
        let place = on.place in
        record {
          label_is = ap (λ x. x.label) is;
          index_is = ap (λ x. x.index) is;
          later = omega arith;
          counted = refl;
          more_forks = omega arith;
          between = λ i lo hi. elim (cases_lt i e) [
            | inl lt ↦ of_child a p.forks_done (next_child p) (next_child p) start c (A i) (omega arith) (omega arith)
                (each_place A (fork_of a (next_child p)) (suc s) start e c below i (omega arith) lt)
            | inr ge ↦ let at_end : i ≡ e = omega arith in
                record { child = next_child p; rest = []; from = omega arith; up_to = omega arith; is = ap (λ m. (A m).label) at_end ∙ ap (λ x. x.label) end }
          ];
          does = forks_one e (ap (λ x. x.deed) is) refl (record { last = c; held = record_words; trace = child; joined = joined; end = end }) refl refl;
        }
steps A a s p t q (joining a' s' p' child older words t' q' open_is is rest) =
    more s' p' (suc s') (after_join p' older) t' q'
    (record {
      label_is = ap (λ x. x.label) is;
      index_is = ap (λ x. x.index) is;
      later = omega arith;
      counted = refl;
      more_forks = omega arith;
      between = λ i lo hi. absurd (omega arith);
      does = joins_one child older (ap (λ x. x.deed) is) open_is refl refl;
    })
    (steps A a' (suc s') (after_join p' older) t' q' rest)
