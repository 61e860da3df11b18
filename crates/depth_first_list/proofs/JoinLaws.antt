-- The facts of depth-first lists that speak of Joins.
use Rattle.std.proofs.Common.{◌≡◌, ℕ, suc, ◌≤◌, ◌<◌, List, [], inl, inr, length, refl, sym, subst, ap, ◌∙◌, arith}
use Rattle.std.proofs.lemmas.Bool.{cases_order}
use Rattle.dag_order.specs.LabelOrder.{fork_of}
use Rattle.depth_first_list.specs.Actions.{Deed, forks, joins, ends, Action}
use Rattle.depth_first_list.specs.Runs.{start, IsDepthFirst}
use Rattle.depth_first_list.specs.Facts.{action_at, label_at, deed_at, StemsFrom}
use Rattle.depth_first_list.specs.Laws.{ForksAreInOrder, JoinStandsBehindChild, JoinsTheNewest, EachChildIsJoined, JoinedOnce}
use Rattle.depth_first_list.proofs.Own.{Found}
use Rattle.depth_first_list.proofs.Joins.{IsIn, joins_forked, forked_joined, joined_once, later_joined}
use Rattle.depth_first_list.proofs.Whole.{Whole, own_steps, own_inside, stems_itself, not_the_end, forks_do_not_end, joins_do_not_end, HasWhole, own_whole, end_label, end_deed}
use Rattle.depth_first_list.proofs.ThreadLaws.{child_at, child_stands_before_parent, forks_are_in_order}

-- a place that is no End stands before the End of its thread
own_place : (l : List Action) (label : List ℕ) (s e : ℕ) → Whole l label s e → (i : ℕ) (deed : Deed) → (deed ≡ ends → ⊥)
    → i < length l → label_at l i ≡ label → deed_at l i ≡ deed → (s ≤ i) × (i < e)
own_place l label s e w i deed other inside mine is =
    let there : (s ≤ i) × (i ≤ e) = own_inside l label s e w i inside mine in
    (there.0, not_the_end l label s e w i deed other is there.1)

pub join_stands_behind_child : (k : ℕ) (l : List Action) → IsDepthFirst k l → JoinStandsBehindChild l
join_stands_behind_child k l run j child inside deed =
    let h : HasWhole l (label_at l j) = own_whole k l run j inside in
    let w = h.whole in
    let place : (h.s ≤ j) × (j < h.e) = own_place l (label_at l j) h.s h.e w j (joins child) (joins_do_not_end child) inside refl deed in
    elim (joins_forked (action_at l) (label_at l j) h.s start h.e w.child.last (own_steps l (label_at l j) h.s h.e w) j child place.0 place.1 refl deed) [
      | inl never ↦ absurd never
      | inr f ↦ let f_up = f.up_to in
          let c = child_at k l run f.i child (omega arith) f.deed_is in
          let label : List ℕ = fork_of (label_at l f.i) child in
          let e_label : label_at l c.2.e ≡ label = end_label l label (suc f.i) c.2.e c.2.whole in
          let e_in = c.2.whole.inside in
          let before : c.2.e < j = child_stands_before_parent k l run f.i c.2.e j child e_in inside f_up f.deed_is (sym f.label_is)
          (subst (λ m. StemsFrom label m) (sym e_label) (stems_itself label)) in
          (f.i, c.2.e, c.2.later, before, f.label_is, f.deed_is, e_label ∙ ap (λ m. fork_of m child) f.label_is, end_deed l label (suc f.i) c.2.e c.2.whole)
    ]

pub joins_the_newest_law : (k : ℕ) (l : List Action) → IsDepthFirst k l → JoinsTheNewest l
joins_the_newest_law k l run f g j child later inside fg gj jd fl fd gl gd =
    let order : ForksAreInOrder l = forks_are_in_order k l run in
    let newer : child < later = order.rising f g child later (omega arith) fg (fl ∙ sym gl) fd gd in
    let h : HasWhole l (label_at l j) = own_whole k l run j inside in
    let w = h.whole in
    let at_j : (h.s ≤ j) × (j < h.e) = own_place l (label_at l j) h.s h.e w j (joins child) (joins_do_not_end child) inside refl jd in
    let at_g : (h.s ≤ g) × (g < h.e) = own_place l (label_at l j) h.s h.e w g (forks later) (forks_do_not_end later) (omega arith) gl gd in
    let found : Found (action_at l) (label_at l j) (suc g) j (joins later) =
    later_joined (action_at l) (label_at l j) h.s start h.e w.child.last (own_steps l (label_at l j) h.s h.e w) tt g j child later newer at_g.0 gj at_j.1 gl gd refl jd in
    (found.i, found.from, found.up_to, found.label_is, found.deed_is)

pub each_child_is_joined : (k : ℕ) (l : List Action) → IsDepthFirst k l → EachChildIsJoined l
each_child_is_joined k l run f child inside deed =
    let h : HasWhole l (label_at l f) = own_whole k l run f inside in
    let w = h.whole in let e_in = w.inside in
    let place : (h.s ≤ f) × (f < h.e) = own_place l (label_at l f) h.s h.e w f (forks child) (forks_do_not_end child) inside refl deed in
    elim (forked_joined (action_at l) (label_at l f) h.s start h.e w.child.last (own_steps l (label_at l f) h.s h.e w) f child place.0 place.1 refl deed) [
      | inl still ↦ let never : IsIn child [] = subst (λ o. IsIn child o) w.child.joined still in absurd never
      | inr j ↦ let up = j.up_to in (j.i, j.from, omega arith, j.label_is, j.deed_is)
    ]

pub joined_once_law : (k : ℕ) (l : List Action) → IsDepthFirst k l → JoinedOnce l
joined_once_law k l run i j child i_in j_in same id jd =
    elim (cases_order i j) [
      | inl e ↦ e
      | inr r ↦ elim r [ inl lt ↦ absurd (twice i j lt i_in j_in same id jd) | inr gt ↦ absurd (twice j i gt j_in i_in (sym same) jd id) ]
    ]
  where
    twice : (i j : ℕ) → i < j → i < length l → j < length l → label_at l i ≡ label_at l j → deed_at l i ≡ joins child → deed_at l j ≡ joins child → ⊥
    twice i j lt i_in j_in same id jd =
        let h : HasWhole l (label_at l j) = own_whole k l run j j_in in
        let w = h.whole in
        let at_i : (h.s ≤ i) × (i < h.e) = own_place l (label_at l j) h.s h.e w i (joins child) (joins_do_not_end child) i_in same id in
        let at_j : (h.s ≤ j) × (j < h.e) = own_place l (label_at l j) h.s h.e w j (joins child) (joins_do_not_end child) j_in refl jd in
        joined_once (action_at l) (label_at l j) h.s start h.e w.child.last (own_steps l (label_at l j) h.s h.e w) tt i j child at_i.0 lt at_j.1 same id refl jd
