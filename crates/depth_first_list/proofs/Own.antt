-- What holds of the own actions of one thread along the places of a list.
use Rattle.std.proofs.Common.{◌≡◌, ℕ, suc, ◌≤◌, ◌<◌, List, ◌∷◌, ◌++◌, ◌⊎◌, inl, inr, length, get_or, sym, subst, ap, ◌∙◌, arith, length-append}
use Rattle.std.proofs.lemmas.List.{append_cancel_left}
use Rattle.std.proofs.lemmas.Bool.{cases_eq}
use Rattle.dag_order.specs.LabelOrder.{fork_of}
use Rattle.depth_first_list.specs.Actions.{Deed, forks, joins, ends, Action}
use Rattle.depth_first_list.specs.Runs.{Point, next_child}
use Rattle.depth_first_list.proofs.Trace.{IsQuiet}
use Rattle.depth_first_list.proofs.Steps.{Child, Does, acts, forks_one, joins_one, IsBelow, Step, Steps, none, more, label_not_below, GoesOn, goes_on, where_is, each_place}

-- what a deed says of the step
pub record ForksHere (A : ℕ → Action) (a : List ℕ) (s : ℕ) (p : Point) (u : ℕ) (r : Point) (k : ℕ) : Type 0 where
  pub ordinal : k ≡ next_child p
  pub e : ℕ
  pub next : u ≡ suc e
  pub child : Child A (fork_of a k) (suc s) e
  pub forks_done : r.forks_done ≡ k
  pub open_children : r.open_children ≡ k ∷ p.open_children

pub record JoinsHere (p r : Point) (c : ℕ) : Type 0 where
  pub older : List ℕ
  pub was : p.open_children ≡ c ∷ older
  pub is : r.open_children ≡ older
  pub forks_done : r.forks_done ≡ p.forks_done

quiet_forks : (d : Deed) (k : ℕ) → IsQuiet d → d ≡ forks k → ⊥
quiet_forks d k q e = subst IsQuiet e q

quiet_joins : (d : Deed) (k : ℕ) → IsQuiet d → d ≡ joins k → ⊥
quiet_joins d k q e = subst IsQuiet e q

quiet_ends : (d : Deed) → IsQuiet d → d ≡ ends → ⊥
quiet_ends d q e = subst IsQuiet e q

pub one_fork : (j k : ℕ) → forks j ≡ forks k → j ≡ k
one_fork j k e = cc

one_join : (j k : ℕ) → joins j ≡ joins k → j ≡ k
one_join j k e = cc

forks_no_join : (j k : ℕ) → forks j ≡ joins k → ⊥
forks_no_join j k e = cc

forks_no_end : (j : ℕ) → forks j ≡ ends → ⊥
forks_no_end j e = cc

joins_no_end : (j : ℕ) → joins j ≡ ends → ⊥
joins_no_end j e = cc

pub fork_here : (A : ℕ → Action) (a : List ℕ) (s : ℕ) (p : Point) (u : ℕ) (r : Point) → Does A a s p u r → (k : ℕ) → (A s).deed ≡ forks k → ForksHere A a s p u r k
fork_here A a s p u r (acts deed is silent f o) k e = absurd (quiet_forks deed k silent (sym is ∙ e))
fork_here A a s p u r (forks_one end is next child f o) k e =
    let same : k ≡ next_child p = one_fork k (next_child p) (sym e ∙ is) in
    record {
      ordinal = same;
      e = end;
      next = next;
      child = subst (λ m. Child A (fork_of a m) (suc s) end) (sym same) child;
      forks_done = f ∙ sym same;
      open_children = o ∙ ap (λ m. m ∷ p.open_children) (sym same);
    }
fork_here A a s p u r (joins_one child older is was f o) k e = absurd (forks_no_join k child (sym e ∙ is))

pub join_here : (A : ℕ → Action) (a : List ℕ) (s : ℕ) (p : Point) (u : ℕ) (r : Point) → Does A a s p u r → (k : ℕ) → (A s).deed ≡ joins k → JoinsHere p r k
join_here A a s p u r (acts deed is silent f o) k e = absurd (quiet_joins deed k silent (sym is ∙ e))
join_here A a s p u r (forks_one end is next child f o) k e = absurd (forks_no_join (next_child p) k (sym is ∙ e))
join_here A a s p u r (joins_one child older is was f o) k e =
    let same : child ≡ k = one_join child k (sym is ∙ e) in
    record { older = older; was = was ∙ ap (λ m. m ∷ older) same; is = o; forks_done = f }

pub no_end_here : (A : ℕ → Action) (a : List ℕ) (s : ℕ) (p : Point) (u : ℕ) (r : Point) → Does A a s p u r → (A s).deed ≡ ends → ⊥
no_end_here A a s p u r (acts deed is silent f o) e = quiet_ends deed silent (sym is ∙ e)
no_end_here A a s p u r (forks_one end is next child f o) e = forks_no_end (next_child p) (sym is ∙ e)
no_end_here A a s p u r (joins_one child older is was f o) e = joins_no_end child (sym is ∙ e)

-- an own place from s on is s or stands from u on
pub own_where : (A : ℕ → Action) (a : List ℕ) (s : ℕ) (p : Point) (u : ℕ) (r : Point) → Step A a s p u r → (i : ℕ) → s ≤ i → (A i).label ≡ a → (i ≡ s) ⊎ (u ≤ i)
own_where A a s p u r step i le mine = elim (where_is s u i le) [
  | inl e ↦ inl e
  | inr w ↦ elim w [ inl gap ↦ absurd (label_not_below a (A i).label p.forks_done r.forks_done mine (step.between i gap.0 gap.1)) | inr ge ↦ inr ge ]
]

-- each index between the two points has a place
pub record IndexFound (A : ℕ → Action) (a : List ℕ) (s t n : ℕ) : Type 0 where
  pub i : ℕ
  pub from : s ≤ i
  pub up_to : i < t
  pub label_is : (A i).label ≡ a
  pub index_is : (A i).index ≡ n

pub index_found : (A : ℕ → Action) (a : List ℕ) (s : ℕ) (p : Point) (t : ℕ) (q : Point) → Steps A a s p t q
    → (n : ℕ) → p.done ≤ n → n < q.done → IndexFound A a s t n
index_found A a s p t q (none s' p') n lo hi = absurd (omega arith)
index_found A a s p t q (more s' p' u r t' q' step rest) n lo hi =
    let on : GoesOn u r t' q' = goes_on A a u r t' q' rest in
    let c = step.counted in let l = step.later in let place = on.place in
    elim (cases_eq n p'.done) [
      | inl e ↦ record { i = s'; from = omega arith; up_to = omega arith; label_is = step.label_is; index_is = step.index_is ∙ sym e }
      | inr ne ↦ let h : IndexFound A a u t' n = index_found A a u r t' q' rest n (omega arith) hi in
          let h0 = h.from in let h1 = h.up_to in
          record { i = h.i; from = omega arith; up_to = h1; label_is = h.label_is; index_is = h.index_is }
    ]

-- the index of a place in the rest is at least the rest's first one
index_from : (A : ℕ → Action) (a : List ℕ) (s : ℕ) (p : Point) (t : ℕ) (q : Point) → Steps A a s p t q
    → (i : ℕ) → s ≤ i → i < t → (A i).label ≡ a → p.done ≤ (A i).index
index_from A a s p t q run i le lt mine = elim (each_place A a s p t q run i le lt) [
  | inl own ↦ own.from
  | inr b ↦ absurd (label_not_below a (A i).label p.forks_done q.forks_done mine b)
]

-- indices rise
pub index_rises : (A : ℕ → Action) (a : List ℕ) (s : ℕ) (p : Point) (t : ℕ) (q : Point) → Steps A a s p t q
    → (i j : ℕ) → s ≤ i → i < j → j < t → (A i).label ≡ a → (A j).label ≡ a → (A i).index < (A j).index
index_rises A a s p t q (none s' p') i j le lt hi mine yours = absurd (omega arith)
index_rises A a s p t q (more s' p' u r t' q' step rest) i j le lt hi mine yours =
    elim (own_where A a s' p' u r step i le mine) [
      | inl here ↦ elim (own_where A a s' p' u r step j (omega arith) yours) [
        | inl same ↦ absurd (omega arith)
        | inr ge ↦ let big : r.done ≤ (A j).index = index_from A a u r t' q' rest j ge hi yours in
            let c = step.counted in let first : (A i).index ≡ p'.done = ap (λ m. (A m).index) here ∙ step.index_is in omega arith
      ]
      | inr ge ↦ index_rises A a u r t' q' rest i j ge lt hi mine yours
    ]

-- the ordinal of a fork is that of one done between the two points
pub record Between (few many k : ℕ) : Type 0 where
  pub from : few < k
  pub up_to : k ≤ many

pub fork_between : (A : ℕ → Action) (a : List ℕ) (s : ℕ) (p : Point) (t : ℕ) (q : Point) → Steps A a s p t q
    → (f k : ℕ) → s ≤ f → f < t → (A f).label ≡ a → (A f).deed ≡ forks k → Between p.forks_done q.forks_done k
fork_between A a s p t q (none s' p') f k le lt mine deed = absurd (omega arith)
fork_between A a s p t q (more s' p' u r t' q' step rest) f k le lt mine deed =
    elim (own_where A a s' p' u r step f le mine) [
      | inl here ↦ let h : ForksHere A a s' p' u r k = fork_here A a s' p' u r step.does k (sym (ap (λ m. (A m).deed) here) ∙ deed) in
          let on : GoesOn u r t' q' = goes_on A a u r t' q' rest in
          let o = h.ordinal in let g = h.forks_done in let m = on.forks_done in record { from = omega arith; up_to = omega arith }
      | inr ge ↦ let h : Between r.forks_done q'.forks_done k = fork_between A a u r t' q' rest f k ge lt mine deed in
          let m = step.more_forks in let h0 = h.from in let h1 = h.up_to in record { from = omega arith; up_to = h1 }
    ]

-- a later fork has the greater ordinal
pub forks_rise : (A : ℕ → Action) (a : List ℕ) (s : ℕ) (p : Point) (t : ℕ) (q : Point) → Steps A a s p t q
    → (f g j k : ℕ) → s ≤ f → f < g → g < t → (A f).label ≡ a → (A f).deed ≡ forks j → (A g).label ≡ a → (A g).deed ≡ forks k → j < k
forks_rise A a s p t q (none s' p') f g j k le lt hi fl fd gl gd = absurd (omega arith)
forks_rise A a s p t q (more s' p' u r t' q' step rest) f g j k le lt hi fl fd gl gd =
    elim (own_where A a s' p' u r step f le fl) [
      | inl here ↦ let h : ForksHere A a s' p' u r j = fork_here A a s' p' u r step.does j (sym (ap (λ m. (A m).deed) here) ∙ fd) in
          elim (own_where A a s' p' u r step g (omega arith) gl) [
            | inl same ↦ absurd (omega arith)
            | inr ge ↦ let b : Between r.forks_done q'.forks_done k = fork_between A a u r t' q' rest g k ge hi gl gd in
                let b0 = b.from in let e = h.forks_done in omega arith
          ]
      | inr ge ↦ forks_rise A a u r t' q' rest f g j k ge lt hi fl fd gl gd
    ]

-- a place of an own action with this deed
pub record Found (A : ℕ → Action) (a : List ℕ) (s t : ℕ) (deed : Deed) : Type 0 where
  pub i : ℕ
  pub from : s ≤ i
  pub up_to : i < t
  pub label_is : (A i).label ≡ a
  pub deed_is : (A i).deed ≡ deed

pub found_later : (A : ℕ → Action) (a : List ℕ) (s u t : ℕ) (deed : Deed) → s ≤ u → Found A a u t deed → Found A a s t deed
found_later A a s u t deed le h = let h0 = h.from in record { i = h.i; from = omega arith; up_to = h.up_to; label_is = h.label_is; deed_is = h.deed_is }

-- each ordinal between the two points has a fork
fork_found_by : (A : ℕ → Action) (a : List ℕ) (s : ℕ) (p : Point) (u : ℕ) (r : Point) (t k : ℕ) → (A s).label ≡ a → s < t → p.forks_done < k
    → (r.forks_done < k → Found A a s t (forks k)) → Does A a s p u r → Found A a s t (forks k)
fork_found_by A a s p u r t k mine lt lo later (acts deed is silent f o) = later (omega arith)
fork_found_by A a s p u r t k mine lt lo later (joins_one child older is was f o) = later (omega arith)
fork_found_by A a s p u r t k mine lt lo later (forks_one end is next child f o) = elim (cases_eq k (next_child p)) [
  | inl same ↦ record { i = s; from = omega arith; up_to = lt; label_is = mine; deed_is = is ∙ ap (λ m. forks m) (sym same) }
  | inr ne ↦ later (omega arith)
]

pub fork_found : (A : ℕ → Action) (a : List ℕ) (s : ℕ) (p : Point) (t : ℕ) (q : Point) → Steps A a s p t q
    → (k : ℕ) → p.forks_done < k → k ≤ q.forks_done → Found A a s t (forks k)
fork_found A a s p t q (none s' p') k lo hi = absurd (omega arith)
fork_found A a s p t q (more s' p' u r t' q' step rest) k lo hi =
    let on : GoesOn u r t' q' = goes_on A a u r t' q' rest in let place = on.place in
    let l = step.later in
    fork_found_by A a s' p' u r t' k step.label_is (omega arith) lo
    (λ below. found_later A a s' u t' (forks k) (omega arith) (fork_found A a u r t' q' rest k below hi)) step.does

-- behind a fork stands the child's run, and nowhere else stands anything of the child
pub record ChildBlock (A : ℕ → Action) (a : List ℕ) (s f t k : ℕ) : Type 0 where
  pub e : ℕ
  pub up_to : e < t
  pub child : Child A (fork_of a k) (suc f) e
  pub only : (i : ℕ) (rest : List ℕ) → s ≤ i → i < t → (A i).label ≡ a ++ k ∷ rest → (f < i) × (i ≤ e)

-- a label of one child is no label of another
pub one_child : (a : List ℕ) (few many k : ℕ) (rest label : List ℕ) → label ≡ a ++ k ∷ rest → IsBelow a few many label → Between few many k
one_child a few many k rest label e b =
    let same : k ∷ rest ≡ b.child ∷ b.rest = append_cancel_left a (k ∷ rest) (b.child ∷ b.rest) (sym e ∙ b.is) in
    let ordinal : k ≡ b.child = ap (λ l. get_or l 0 0) same in
    let b0 = b.from in let b1 = b.up_to in record { from = omega arith; up_to = omega arith }

-- a label that goes on behind the thread's is not the thread's
pub not_own : (a label rest : List ℕ) (k : ℕ) → label ≡ a → label ≡ a ++ k ∷ rest → ⊥
not_own a label rest k mine below =
    let long = length-append a (k ∷ rest) in
    let same : length a ≡ length (a ++ k ∷ rest) = ap (λ l. length l) (sym mine ∙ below) in
    omega (arith, long, same)

pub child_block : (A : ℕ → Action) (a : List ℕ) (s : ℕ) (p : Point) (t : ℕ) (q : Point) → Steps A a s p t q
    → (f k : ℕ) → s ≤ f → f < t → (A f).label ≡ a → (A f).deed ≡ forks k → ChildBlock A a s f t k
child_block A a s p t q (none s' p') f k le lt mine deed = absurd (omega arith)
child_block A a s p t q (more s' p' u r t' q' step rest) f k le lt mine deed =
    elim (own_where A a s' p' u r step f le mine) [
      | inl here ↦ let h : ForksHere A a s' p' u r k = fork_here A a s' p' u r step.does k (sym (ap (λ m. (A m).deed) here) ∙ deed) in
          let on : GoesOn u r t' q' = goes_on A a u r t' q' rest in let place = on.place in let n = h.next in let count = h.forks_done in
          record {
            e = h.e;
            up_to = omega arith;
            child = subst (λ m. Child A (fork_of a k) (suc m) h.e) (sym here) h.child;
            only = λ i below lo hi is. elim (where_is s' u i lo) [
              | inl own ↦ absurd (not_own a (A i).label below k (ap (λ m. (A m).label) own ∙ step.label_is) is)
              | inr w ↦ elim w [
                | inl gap ↦ let g0 = gap.0 in let g1 = gap.1 in (omega arith, omega arith)
                | inr ge ↦ elim (each_place A a u r t' q' rest i ge hi) [
                  | inl own ↦ absurd (not_own a (A i).label below k own.label_is is)
                  | inr b ↦ let z : Between r.forks_done q'.forks_done k = one_child a r.forks_done q'.forks_done k below (A i).label is b in
                      let z0 = z.from in absurd (omega arith)
                ]
              ]
            ];
          }
      | inr ge ↦ let h : ChildBlock A a u f t' k = child_block A a u r t' q' rest f k ge lt mine deed in
          let z : Between r.forks_done q'.forks_done k = fork_between A a u r t' q' rest f k ge lt mine deed in let z0 = z.from in
          record {
            e = h.e;
            up_to = h.up_to;
            child = h.child;
            only = λ i below lo hi is. elim (where_is s' u i lo) [
              | inl own ↦ absurd (not_own a (A i).label below k (ap (λ m. (A m).label) own ∙ step.label_is) is)
              | inr w ↦ elim w [
                | inl gap ↦ let y : Between p'.forks_done r.forks_done k = one_child a p'.forks_done r.forks_done k below (A i).label is (step.between i gap.0 gap.1) in
                    let y1 = y.up_to in absurd (omega arith)
                | inr on ↦ h.only i below on hi is
              ]
            ];
          }
    ]

-- none of these is an End
pub no_end : (A : ℕ → Action) (a : List ℕ) (s : ℕ) (p : Point) (t : ℕ) (q : Point) → Steps A a s p t q
    → (i : ℕ) → s ≤ i → i < t → (A i).label ≡ a → (A i).deed ≡ ends → ⊥
no_end A a s p t q (none s' p') i le lt mine deed = omega arith
no_end A a s p t q (more s' p' u r t' q' step rest) i le lt mine deed =
    elim (own_where A a s' p' u r step i le mine) [
      | inl here ↦ no_end_here A a s' p' u r step.does (sym (ap (λ m. (A m).deed) here) ∙ deed)
      | inr ge ↦ no_end A a u r t' q' rest i ge lt mine deed
    ]
