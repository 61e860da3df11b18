-- What stands at each next place of a depth-first list.
use Rattle.std.proofs.Common.{◌≡◌, ℕ, suc, ◌≤◌, ◌<◌, List, [], inl, inr, length, refl, sym, subst, ap, ◌∙◌, arith}
use Rattle.std.proofs.lemmas.Bool.{cases_lt}
use Rattle.dag_order.specs.LabelOrder.{fork_of}
use Rattle.depth_first_list.specs.Actions.{Deed, forks, joins, allocates, releases, dummy, faults, ends, Action}
use Rattle.depth_first_list.specs.Runs.{Point, start, next_child, end_at, IsDepthFirst}
use Rattle.depth_first_list.specs.Facts.{action_at, label_at, index_at, deed_at}
use Rattle.depth_first_list.specs.Laws.{IsAlone, HasAction, NextPlaces, EndIsLast}
use Rattle.depth_first_list.proofs.Trace.{IsQuiet}
use Rattle.depth_first_list.proofs.Steps.{Child, IsBelow, Steps, none, more, Step, Does, acts, forks_one, joins_one, where_is, label_not_below, GoesOn, goes_on}
use Rattle.depth_first_list.proofs.Own.{one_fork}
use Rattle.depth_first_list.proofs.Whole.{own_steps, RootWhole, root_whole, own_inside, not_the_end, forks_do_not_end, HasWhole, own_whole}
use Rattle.depth_first_list.proofs.ThreadLaws.{first_action, end_is_last}

-- the step of a thread at one of its places, and its action at the next one of them
record Stepped (A : ℕ → Action) (a : List ℕ) (i t : ℕ) : Type 0 where
  p : Point
  u : ℕ
  r : Point
  step : Step A a i p u r
  within : u ≤ t
  label_is : (A u).label ≡ a
  index_is : (A u).index ≡ suc (A i).index

step_at : (A : ℕ → Action) (a : List ℕ) (s : ℕ) (p : Point) (t : ℕ) (q : Point) (words : ℕ) → Steps A a s p t q → A t ≡ end_at a q words
    → (i : ℕ) → s ≤ i → i < t → (A i).label ≡ a → Stepped A a i t
step_at A a s p t q words (none s' p') end i from to mine = absurd (omega arith)
step_at A a s p t q words (more s' p' u r t' q' step rest) end i from to mine = elim (where_is s' u i from) [
  | inl same ↦ subst (λ m. Stepped A a m t') (sym same) here
  | inr w ↦ elim w [
    | inl gap ↦ absurd (label_not_below a (A i).label p'.forks_done r.forks_done mine (step.between i gap.0 gap.1))
    | inr ge ↦ step_at A a u r t' q' words rest end i ge to mine
  ]
]
  where
    here : Stepped A a s' t'
    here =
        let first = first_action A a u r t' q' words rest end in
        let on : GoesOn u r t' q' = goes_on A a u r t' q' rest in
        let place = on.place in let number = first.1 in let counted = step.counted in let index = step.index_is in
        record { p = p'; u = u; r = r; step = step; within = place; label_is = first.0; index_is = omega (arith, number, counted, index) }

-- the step of the thread that acts at a place
stepped : (k : ℕ) (l : List Action) → IsDepthFirst k l → (i : ℕ) → i < length l → (h : HasWhole l (label_at l i)) → i < h.e → Stepped (action_at l) (label_at l i) i h.e
stepped k l run i inside h before =
    let there = own_inside l (label_at l i) h.s h.e h.whole i inside refl in
    step_at (action_at l) (label_at l i) h.s start h.e h.whole.child.last h.whole.child.held (own_steps l (label_at l i) h.s h.e h.whole) h.whole.child.end i there.0 before refl

alone_does_not_end : (deed : Deed) → IsAlone deed → deed ≡ ends → ⊥
alone_does_not_end deed alone e = subst IsAlone e alone

-- behind an action of its own the thread goes on at once
directly : (A : ℕ → Action) (a : List ℕ) (i : ℕ) (p : Point) (u : ℕ) (r : Point) → Step A a i p u r → IsAlone (A i).deed → u ≡ suc i
directly A a i p u r step alone = elim (cases_lt (suc i) u) [
  | inl gap ↦ absurd (nothing_between step.does (step.between (suc i) (omega arith) gap))
  | inr ge ↦ let later = step.later in omega (arith, later, ge)
]
  where
    nothing_between : Does A a i p u r → IsBelow a p.forks_done r.forks_done (A (suc i)).label → ⊥
    nothing_between (acts deed is quiet same children) b = let from = b.from in let up = b.up_to in omega (arith, from, up, same)
    nothing_between (forks_one e is at child same children) b = subst IsAlone is alone
    nothing_between (joins_one child older is was same children) b = let from = b.from in let up = b.up_to in omega (arith, from, up, same)

goes_on_alone : (k : ℕ) (l : List Action) → IsDepthFirst k l → (i : ℕ) → i < length l → IsAlone (deed_at l i) → HasAction l (suc i) (label_at l i) (suc (index_at l i))
goes_on_alone k l run i inside alone =
    let h : HasWhole l (label_at l i) = own_whole k l run i inside in
    let there = own_inside l (label_at l i) h.s h.e h.whole i inside refl in
    let before : i < h.e = not_the_end l (label_at l i) h.s h.e h.whole i (deed_at l i) (alone_does_not_end (deed_at l i) alone) refl there.1 in
    let z : Stepped (action_at l) (label_at l i) i h.e = stepped k l run i inside h before in
    let next : z.u ≡ suc i = directly (action_at l) (label_at l i) i z.p z.u z.r z.step alone in
    let within = z.within in let e_in = h.whole.inside in
    (omega (arith, next, within, e_in), ap (λ m. label_at l m) (sym next) ∙ z.label_is, ap (λ m. index_at l m) (sym next) ∙ z.index_is)

-- the End of the child of a Fork stands directly before the next action of the thread that forked it
returns_behind : (l : List Action) (a : List ℕ) (f : ℕ) (p : Point) (u : ℕ) (r : Point) (child : ℕ) → Step (action_at l) a f p u r → deed_at l f ≡ forks child → EndIsLast l
    → u < length l → (e : ℕ) → e < length l → label_at l e ≡ fork_of a child → deed_at l e ≡ ends → u ≡ suc e
returns_behind l a f p u r child step deed last inside e e_in label is = by_deed step.does
  where
    by_deed : Does (action_at l) a f p u r → u ≡ suc e
    by_deed (acts d at quiet same children) = absurd (subst IsQuiet (sym at ∙ deed) quiet)
    by_deed (joins_one c older at was same children) = absurd (no_join c child (sym at ∙ deed))
      where
        no_join : (a b : ℕ) → joins a ≡ forks b → ⊥
        no_join a b x = cc
    by_deed (forks_one end at behind below same children) =
        let one : next_child p ≡ child = one_fork (next_child p) child (sym at ∙ deed) in
        let its : label_at l end ≡ label_at l e = ap (λ x. x.label) below.end ∙ ap (fork_of a) one ∙ sym label in
        let ends_there : deed_at l end ≡ ends = ap (λ x. x.deed) below.end in
        let end_in : end < length l = omega (arith, behind, inside) in
        let one_way = last end e end_in e_in its is in
        let other_way = last e end e_in end_in (sym its) ends_there in omega (arith, one_way, other_way, behind)

returns_to_parent : (k : ℕ) (l : List Action) → IsDepthFirst k l → (f child e : ℕ) → f < length l → deed_at l f ≡ forks child → e < length l
    → label_at l e ≡ fork_of (label_at l f) child → deed_at l e ≡ ends → HasAction l (suc e) (label_at l f) (suc (index_at l f))
returns_to_parent k l run f child e inside deed e_in label is =
    let h : HasWhole l (label_at l f) = own_whole k l run f inside in
    let there = own_inside l (label_at l f) h.s h.e h.whole f inside refl in
    let before : f < h.e = not_the_end l (label_at l f) h.s h.e h.whole f (forks child) (forks_do_not_end child) deed there.1 in
    let z : Stepped (action_at l) (label_at l f) f h.e = stepped k l run f inside h before in
    let within = z.within in let h_in = h.whole.inside in
    let u_in : z.u < length l = omega (arith, within, h_in) in
    let next : z.u ≡ suc e = returns_behind l (label_at l f) f z.p z.u z.r child z.step deed (end_is_last k l run) u_in e e_in label is in
    (omega (arith, next, u_in), ap (λ m. label_at l m) (sym next) ∙ z.label_is, ap (λ m. index_at l m) (sym next) ∙ z.index_is)

root_begins : (k : ℕ) (l : List Action) → IsDepthFirst k l → HasAction l 0 [] 0
root_begins k l run =
    let root : RootWhole l = root_whole k l run in
    let w = root.whole in let size = root.size in
    let first = first_action (action_at l) [] 0 start root.e w.child.last w.child.held (own_steps l [] 0 root.e w) w.child.end in
    (omega (arith, size), first.0, first.1)

pub next_places : (k : ℕ) (l : List Action) → IsDepthFirst k l → NextPlaces l
next_places k l run = record { begins = root_begins k l run; goes_on = goes_on_alone k l run; returns = returns_to_parent k l run }
