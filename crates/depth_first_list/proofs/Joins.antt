-- How a thread joins its children: the newest open one first, and each once.
use Rattle.std.proofs.Common.{◌≡◌, ℕ, suc, ◌≤◌, ◌<◌, List, [], ◌∷◌, ◌⊎◌, inl, inr, refl, sym, subst, ap, ◌∙◌, arith}
use Rattle.depth_first_list.specs.Actions.{forks, joins, Action}
use Rattle.depth_first_list.specs.Runs.{Point, next_child}
use Rattle.depth_first_list.proofs.Steps.{Does, acts, forks_one, joins_one, Steps, none, more, GoesOn, goes_on}
use Rattle.depth_first_list.proofs.Own.{ForksHere, JoinsHere, fork_here, join_here, own_where, Found, found_later}

abbrev pub IsIn : ℕ → List ℕ → Type 0
IsIn c [] = ⊥
IsIn c (x ∷ l) = (c ≡ x) ⊎ IsIn c l

-- the ordinals fall, and all are below a bound
abbrev pub Falls : List ℕ → ℕ → Type 0
Falls [] bound = Unit {0}
Falls (c ∷ l) bound = (c < bound) × Falls l c

falls_below : (l : List ℕ) (bound above : ℕ) → bound ≤ above → Falls l bound → Falls l above
falls_below [] bound above le h = tt
falls_below (c ∷ l) bound above le h = let lt = h.0 in (omega arith, h.1)

in_falling : (l : List ℕ) (bound c : ℕ) → Falls l bound → IsIn c l → c < bound
in_falling [] bound c h m = absurd m
in_falling (x ∷ l) bound c h m = let lt = h.0 in elim m [ inl e ↦ omega arith | inr r ↦ let below : c < x = in_falling l x c h.1 r in omega arith ]

-- the open children of a point: the newest first, and none that is not forked
abbrev pub IsStack : Point → Type 0
IsStack p = Falls p.open_children (next_child p)

pub stack_kept : (A : ℕ → Action) (a : List ℕ) (s : ℕ) (p : Point) (u : ℕ) (r : Point) → Does A a s p u r → IsStack p → IsStack r
stack_kept A a s p u r (acts deed is silent f o) h =
    subst (λ l. Falls l (next_child r)) (sym o) (falls_below p.open_children (next_child p) (next_child r) (omega arith) h)
stack_kept A a s p u r (forks_one end is next child f o) h =
    let on_top : Falls (next_child p ∷ p.open_children) (next_child r) = (omega arith, h) in
    subst (λ l. Falls l (next_child r)) (sym o) on_top
stack_kept A a s p u r (joins_one child older is was f o) h =
    let both : Falls (child ∷ older) (next_child p) = subst (λ l. Falls l (next_child p)) was h in
    let lt = both.0 in
    subst (λ l. Falls l (next_child r)) (sym o) (falls_below older child (next_child r) (omega arith) both.1)

-- a child that is joined was open, or is forked before
pub joins_forked : (A : ℕ → Action) (a : List ℕ) (s : ℕ) (p : Point) (t : ℕ) (q : Point) → Steps A a s p t q
    → (j c : ℕ) → s ≤ j → j < t → (A j).label ≡ a → (A j).deed ≡ joins c → IsIn c p.open_children ⊎ Found A a s j (forks c)
joins_forked A a s p t q (none s' p') j c le lt mine deed = absurd (omega arith)
joins_forked A a s p t q (more s' p' u r t' q' step rest) j c le lt mine deed =
    elim (own_where A a s' p' u r step j le mine) [
      | inl here ↦ let h : JoinsHere p' r c = join_here A a s' p' u r step.does c (sym (ap (λ m. (A m).deed) here) ∙ deed) in
          inl (subst (λ l. IsIn c l) (sym h.was) (inl refl))
      | inr ge ↦ let l = step.later in
          opened A a s' p' u r j c step.label_is (omega arith) step.does (joins_forked A a u r t' q' rest j c ge lt mine deed) (omega arith)
    ]
  where
    opened : (A : ℕ → Action) (a : List ℕ) (s : ℕ) (p : Point) (u : ℕ) (r : Point) (j c : ℕ) → (A s).label ≡ a → s < j → Does A a s p u r
        → IsIn c r.open_children ⊎ Found A a u j (forks c) → s ≤ u → IsIn c p.open_children ⊎ Found A a s j (forks c)
    opened A a s p u r j c mine lt (acts deed is silent f o) h le =
        elim h [ inl m ↦ inl (subst (λ l. IsIn c l) o m) | inr g ↦ inr (found_later A a s u j (forks c) le g) ]
    opened A a s p u r j c mine lt (forks_one end is next child f o) h le =
        elim h [
          | inl m ↦ let top : IsIn c (next_child p ∷ p.open_children) = subst (λ l. IsIn c l) o m in
              elim top [
                | inl same ↦ inr (record { i = s; from = omega arith; up_to = lt; label_is = mine; deed_is = is ∙ ap (λ m. forks m) (sym same) })
                | inr below ↦ inl below
              ]
          | inr g ↦ inr (found_later A a s u j (forks c) le g)
        ]
    opened A a s p u r j c mine lt (joins_one child older is was f o) h le =
        elim h [
          | inl m ↦ inl (subst (λ l. IsIn c l) (sym was) (inr (subst (λ l. IsIn c l) o m)))
          | inr g ↦ inr (found_later A a s u j (forks c) le g)
        ]

-- what one action does to an open child: it stays open, or is joined
stays_open : (A : ℕ → Action) (a : List ℕ) (s : ℕ) (p : Point) (u : ℕ) (r : Point) (c : ℕ) → Does A a s p u r → IsIn c p.open_children
    → IsIn c r.open_children ⊎ ((A s).deed ≡ joins c)
stays_open A a s p u r c (acts deed is silent f o) m = inl (subst (λ l. IsIn c l) (sym o) m)
stays_open A a s p u r c (forks_one end is next child f o) m = inl (subst (λ l. IsIn c l) (sym o) (inr m))
stays_open A a s p u r c (joins_one child older is was f o) m =
    let top : IsIn c (child ∷ older) = subst (λ l. IsIn c l) was m in
    elim top [ inl same ↦ inr (is ∙ ap (λ n. joins n) (sym same)) | inr below ↦ inl (subst (λ l. IsIn c l) (sym o) below) ]

-- an open child stays open or is joined
pub open_joined : (A : ℕ → Action) (a : List ℕ) (s : ℕ) (p : Point) (t : ℕ) (q : Point) → Steps A a s p t q
    → (c : ℕ) → IsIn c p.open_children → IsIn c q.open_children ⊎ Found A a s t (joins c)
open_joined A a s p t q (none s' p') c m = inl m
open_joined A a s p t q (more s' p' u r t' q' step rest) c m =
    let on : GoesOn u r t' q' = goes_on A a u r t' q' rest in let place = on.place in let l = step.later in
    elim (stays_open A a s' p' u r c step.does m) [
      | inl still ↦ elim (open_joined A a u r t' q' rest c still) [
        | inl end ↦ inl end
        | inr g ↦ inr (found_later A a s' u t' (joins c) (omega arith) g)
      ]
      | inr here ↦ inr (record { i = s'; from = omega arith; up_to = omega arith; label_is = step.label_is; deed_is = here })
    ]

-- so is a child that is forked
pub forked_joined : (A : ℕ → Action) (a : List ℕ) (s : ℕ) (p : Point) (t : ℕ) (q : Point) → Steps A a s p t q
    → (f c : ℕ) → s ≤ f → f < t → (A f).label ≡ a → (A f).deed ≡ forks c → IsIn c q.open_children ⊎ Found A a (suc f) t (joins c)
forked_joined A a s p t q (none s' p') f c le lt mine deed = absurd (omega arith)
forked_joined A a s p t q (more s' p' u r t' q' step rest) f c le lt mine deed =
    elim (own_where A a s' p' u r step f le mine) [
      | inl here ↦ let h : ForksHere A a s' p' u r c = fork_here A a s' p' u r step.does c (sym (ap (λ m. (A m).deed) here) ∙ deed) in
          let l = step.later in
          elim (open_joined A a u r t' q' rest c (subst (λ l. IsIn c l) (sym h.open_children) (inl refl))) [
            | inl end ↦ inl end
            | inr g ↦ inr (found_later A a (suc f) u t' (joins c) (omega arith) g)
          ]
      | inr ge ↦ forked_joined A a u r t' q' rest f c ge lt mine deed
    ]

-- a child that is not open, and no later one, is not joined any more
not_reopened : (A : ℕ → Action) (a : List ℕ) (s : ℕ) (p : Point) (u : ℕ) (r : Point) (c : ℕ) → Does A a s p u r
    → c < next_child p → (IsIn c p.open_children → ⊥) → (c < next_child r) × (IsIn c r.open_children → ⊥)
not_reopened A a s p u r c (acts deed is silent f o) lt out = (omega arith, λ m. out (subst (λ l. IsIn c l) o m))
not_reopened A a s p u r c (forks_one end is next child f o) lt out =
    (omega arith, λ m. let top : IsIn c (next_child p ∷ p.open_children) = subst (λ l. IsIn c l) o m in elim top [ inl same ↦ omega arith | inr below ↦ out below ])
not_reopened A a s p u r c (joins_one child older is was f o) lt out =
    (omega arith, λ m. out (subst (λ l. IsIn c l) (sym was) (inr (subst (λ l. IsIn c l) o m))))

never_joined : (A : ℕ → Action) (a : List ℕ) (s : ℕ) (p : Point) (t : ℕ) (q : Point) → Steps A a s p t q
    → (c : ℕ) → c < next_child p → (IsIn c p.open_children → ⊥) → (j : ℕ) → s ≤ j → j < t → (A j).label ≡ a → (A j).deed ≡ joins c → ⊥
never_joined A a s p t q (none s' p') c below out j le lt mine deed = omega arith
never_joined A a s p t q (more s' p' u r t' q' step rest) c below out j le lt mine deed =
    elim (own_where A a s' p' u r step j le mine) [
      | inl here ↦ let h : JoinsHere p' r c = join_here A a s' p' u r step.does c (sym (ap (λ m. (A m).deed) here) ∙ deed) in
          out (subst (λ l. IsIn c l) (sym h.was) (inl refl))
      | inr ge ↦ let next : (c < next_child r) × (IsIn c r.open_children → ⊥) = not_reopened A a s' p' u r c step.does below out in
          never_joined A a u r t' q' rest c next.0 next.1 j ge lt mine deed
    ]

-- no child is joined twice
pub joined_once : (A : ℕ → Action) (a : List ℕ) (s : ℕ) (p : Point) (t : ℕ) (q : Point) → Steps A a s p t q → IsStack p
    → (i j c : ℕ) → s ≤ i → i < j → j < t → (A i).label ≡ a → (A i).deed ≡ joins c → (A j).label ≡ a → (A j).deed ≡ joins c → ⊥
joined_once A a s p t q (none s' p') stack i j c le lt hi il id jl jd = omega arith
joined_once A a s p t q (more s' p' u r t' q' step rest) stack i j c le lt hi il id jl jd =
    elim (own_where A a s' p' u r step i le il) [
      | inl here ↦ let h : JoinsHere p' r c = join_here A a s' p' u r step.does c (sym (ap (λ m. (A m).deed) here) ∙ id) in
          let both : Falls (c ∷ h.older) (next_child p') = subst (λ l. Falls l (next_child p')) h.was stack in
          let bound = both.0 in let same = h.forks_done in
          elim (own_where A a s' p' u r step j (omega arith) jl) [
            | inl twice ↦ omega arith
            | inr ge ↦ never_joined A a u r t' q' rest c (omega arith)
                (λ m. let in_older : IsIn c h.older = subst (λ l. IsIn c l) h.is m in let lower : c < c = in_falling h.older c c both.1 in_older in omega arith)
                j ge hi jl jd
          ]
      | inr ge ↦ joined_once A a u r t' q' rest (stack_kept A a s' p' u r step.does stack) i j c ge lt hi il id jl jd
    ]

-- an open child that is newer than one that is joined is joined before it
pub newer_joined : (A : ℕ → Action) (a : List ℕ) (s : ℕ) (p : Point) (t : ℕ) (q : Point) → Steps A a s p t q → IsStack p
    → (j c d : ℕ) → c < d → IsIn d p.open_children → s ≤ j → j < t → (A j).label ≡ a → (A j).deed ≡ joins c → Found A a s j (joins d)
newer_joined A a s p t q (none s' p') stack j c d newer m le lt mine deed = absurd (omega arith)
newer_joined A a s p t q (more s' p' u r t' q' step rest) stack j c d newer m le lt mine deed =
    elim (own_where A a s' p' u r step j le mine) [
      | inl here ↦ let h : JoinsHere p' r c = join_here A a s' p' u r step.does c (sym (ap (λ m. (A m).deed) here) ∙ deed) in
          let both : Falls (c ∷ h.older) (next_child p') = subst (λ l. Falls l (next_child p')) h.was stack in
          let where_d : IsIn d (c ∷ h.older) = subst (λ l. IsIn d l) h.was m in
          elim where_d [ inl same ↦ absurd (omega arith) | inr old ↦ let lower : d < c = in_falling h.older c d both.1 old in absurd (omega arith) ]
      | inr ge ↦ let l = step.later in
          elim (stays_open A a s' p' u r d step.does m) [
            | inl still ↦ found_later A a s' u j (joins d) (omega arith)
                (newer_joined A a u r t' q' rest (stack_kept A a s' p' u r step.does stack) j c d newer still ge lt mine deed)
            | inr now ↦ record { i = s'; from = omega arith; up_to = omega arith; label_is = step.label_is; deed_is = now }
          ]
    ]

-- so is one that is forked later
pub later_joined : (A : ℕ → Action) (a : List ℕ) (s : ℕ) (p : Point) (t : ℕ) (q : Point) → Steps A a s p t q → IsStack p
    → (g j c d : ℕ) → c < d → s ≤ g → g < j → j < t → (A g).label ≡ a → (A g).deed ≡ forks d → (A j).label ≡ a → (A j).deed ≡ joins c → Found A a (suc g) j (joins d)
later_joined A a s p t q (none s' p') stack g j c d newer le lt hi gl gd jl jd = absurd (omega arith)
later_joined A a s p t q (more s' p' u r t' q' step rest) stack g j c d newer le lt hi gl gd jl jd =
    elim (own_where A a s' p' u r step g le gl) [
      | inl here ↦ let h : ForksHere A a s' p' u r d = fork_here A a s' p' u r step.does d (sym (ap (λ m. (A m).deed) here) ∙ gd) in
          let l = step.later in
          elim (own_where A a s' p' u r step j (omega arith) jl) [
            | inl same ↦ absurd (omega arith)
            | inr ge ↦ found_later A a (suc g) u j (joins d) (omega arith)
                (newer_joined A a u r t' q' rest (stack_kept A a s' p' u r step.does stack) j c d newer
                (subst (λ l. IsIn d l) (sym h.open_children) (inl refl)) ge hi jl jd)
          ]
      | inr ge ↦ later_joined A a u r t' q' rest (stack_kept A a s' p' u r step.does stack) g j c d newer ge lt hi gl gd jl jd
    ]
