-- The facts of depth-first lists that speak of names, forks and Ends.
use Rattle.std.proofs.Common.{◌≡◌, ◌↔◌, ℕ, zero, suc, ◌≤◌, ◌<◌, List, [], ◌∷◌, ◌++◌, inl, inr, length, refl, sym, subst, ap, ◌∙◌, arith}
use Rattle.std.proofs.lemmas.Bool.{cases_order, cases_lt, cases_eq}
use Rattle.dag_order.specs.LabelOrder.{fork_of}
use Rattle.depth_first_list.specs.Actions.{forks, Action}
use Rattle.depth_first_list.specs.Runs.{Point, start, end_at, IsDepthFirst}
use Rattle.depth_first_list.specs.Facts.{action_at, label_at, index_at, deed_at, StemsFrom}
use Rattle.depth_first_list.specs.Laws.{RootEnds, NamesDiffer, IndexRises, NoIndexIsSkipped, IndexIsWithin, OrdinalIsWithin, ForkStandsBefore, ChildBeginsBehindFork, ChildStandsTogether, ChildStandsBeforeParent, ForksAreInOrder, ForkedOnce, EachThreadEnds, EndIsLast}
use Rattle.depth_first_list.proofs.Steps.{Steps, none, more, label_not_below}
use Rattle.depth_first_list.proofs.Own.{IndexFound, index_found, index_rises, Between, fork_between, forks_rise, Found, fork_found, no_end, not_own, one_fork}
use Rattle.depth_first_list.proofs.Whole.{Whole, own_steps, RootWhole, root_whole, whole_place, end_label, end_deed, own_inside, stems_of_fork, stems_further, stems_itself, not_the_end, forks_do_not_end, ChildWhole, child_whole, fork_of_child, HasWhole, thread_whole, own_whole}

pub root_ends : (k : ℕ) (l : List Action) → IsDepthFirst k l → RootEnds l
root_ends k l run =
    let root : RootWhole l = root_whole k l run in
    (root.e, root.size, end_label l [] 0 root.e root.whole, end_deed l [] 0 root.e root.whole)

pub index_rises_law : (k : ℕ) (l : List Action) → IsDepthFirst k l → IndexRises l
index_rises_law k l run i j j_in lt same =
    let h : HasWhole l (label_at l j) = own_whole k l run j j_in in
    let w = h.whole in
    let at_i : (h.s ≤ i) × (i ≤ h.e) = own_inside l (label_at l j) h.s h.e w i (omega arith) same in
    let at_j : (h.s ≤ j) × (j ≤ h.e) = own_inside l (label_at l j) h.s h.e w j j_in refl in
    let j_up = at_j.1 in
    elim (cases_eq j h.e) [
      | inl last ↦ elim (whole_place l (label_at l j) h.s h.e w i at_i.0 (omega arith)) [
        | inl own ↦ let up = own.up_to in
            let end : index_at l j ≡ w.child.last.done = ap (λ m. index_at l m) last ∙ ap (λ x. x.index) w.child.end in omega arith
        | inr b ↦ absurd (label_not_below (label_at l j) (label_at l i) 0 w.child.last.forks_done same b)
      ]
      | inr ne ↦ index_rises (action_at l) (label_at l j) h.s start h.e w.child.last (own_steps l (label_at l j) h.s h.e w) i j at_i.0 lt (omega arith) same refl
    ]

pub names_differ : (k : ℕ) (l : List Action) → IsDepthFirst k l → NamesDiffer l
names_differ k l run i j i_in j_in label index =
    elim (cases_order i j) [
      | inl same ↦ same
      | inr r ↦ elim r [
        | inl lt ↦ let h : index_at l i < index_at l j = index_rises_law k l run i j j_in lt label in absurd (omega arith)
        | inr gt ↦ let h : index_at l j < index_at l i = index_rises_law k l run j i i_in gt (sym label) in absurd (omega arith)
      ]
    ]

pub no_index_is_skipped : (k : ℕ) (l : List Action) → IsDepthFirst k l → NoIndexIsSkipped l
no_index_is_skipped k l run j n j_in lt =
    let h : HasWhole l (label_at l j) = own_whole k l run j j_in in
    let w = h.whole in
    let at_j : (h.s ≤ j) × (j ≤ h.e) = own_inside l (label_at l j) h.s h.e w j j_in refl in
    let j_up = at_j.1 in
    let below : n < w.child.last.done = elim (cases_eq j h.e) [
      | inl last ↦ let end : index_at l j ≡ w.child.last.done = ap (λ m. index_at l m) last ∙ ap (λ x. x.index) w.child.end in omega arith
      | inr ne ↦ elim (whole_place l (label_at l j) h.s h.e w j at_j.0 (omega arith)) [
        | inl own ↦ let up = own.up_to in omega arith
        | inr b ↦ absurd (label_not_below (label_at l j) (label_at l j) 0 w.child.last.forks_done refl b)
      ]
    ] in
    let f : IndexFound (action_at l) (label_at l j) h.s h.e n =
    index_found (action_at l) (label_at l j) h.s start h.e w.child.last (own_steps l (label_at l j) h.s h.e w) n (omega arith) below in
    let e_in = w.inside in let f_up = f.up_to in let number : index_at l f.i ≡ n = f.index_is in
    elim (cases_order f.i j) [
      | inl same ↦ let i_index : index_at l f.i ≡ index_at l j = ap (λ m. index_at l m) same in absurd (omega arith)
      | inr r ↦ elim r [
        | inl first ↦ (f.i, first, f.label_is, f.index_is)
        | inr gt ↦ let rises : index_at l j < index_at l f.i = index_rises_law k l run j f.i (omega arith) gt (sym f.label_is) in absurd (omega arith)
      ]
    ]

pub index_is_within : (k : ℕ) (l : List Action) → IsDepthFirst k l → IndexIsWithin l
index_is_within k l run i inside = go (index_at l i) i inside refl
  where
    go : (n i : ℕ) → i < length l → index_at l i ≡ n → n ≤ i
    go zero i inside is = omega arith
    go (suc n) i inside is =
        let before = no_index_is_skipped k l run i n inside (omega arith) in
        let less : before.0 < i = before.1 in
        let rest : n ≤ before.0 = go n before.0 (omega arith) before.3 in omega arith

pub fork_stands_before : (k : ℕ) (l : List Action) → IsDepthFirst k l → ForkStandsBefore l
fork_stands_before k l run i child parent below inside is =
    let h : HasWhole l parent = thread_whole k l run i parent (child ∷ below) inside is in
    let w = h.whole in
    let f : Found (action_at l) parent h.s h.e (forks child) = fork_of_child l parent h.s h.e w i child below inside is in
    let f_up = f.up_to in let e_in = w.inside in
    let c : ChildWhole l (fork_of parent child) f.i h.e = child_whole l parent h.s h.e w f.i child (omega arith) f.label_is f.deed_is in
    let there : (suc f.i ≤ i) × (i ≤ c.e) = c.whole.only i inside (stems_of_fork parent (label_at l i) below child is) in
    (f.i, there.0, f.label_is, f.deed_is)

-- the run of a child, by its Fork
pub child_at : (k : ℕ) (l : List Action) → IsDepthFirst k l → (f child : ℕ) → f < length l → deed_at l f ≡ forks child
    → (above : ℕ) × (above < length l) × ChildWhole l (fork_of (label_at l f) child) f above
child_at k l run f child inside deed =
    let h : HasWhole l (label_at l f) = own_whole k l run f inside in
    (h.e, h.whole.inside, child_whole l (label_at l f) h.s h.e h.whole f child inside refl deed)

pub first_action : (A : ℕ → Action) (a : List ℕ) (s : ℕ) (p : Point) (t : ℕ) (q : Point) (words : ℕ) → Steps A a s p t q → A t ≡ end_at a q words
    → ((A s).label ≡ a) × ((A s).index ≡ p.done)
first_action A a s p t q words (none s' p') end = (ap (λ x. x.label) end, ap (λ x. x.index) end)
first_action A a s p t q words (more s' p' u r t' q' step rest) end = (step.label_is, step.index_is)

pub child_begins_behind_fork : (k : ℕ) (l : List Action) → IsDepthFirst k l → ChildBeginsBehindFork l
child_begins_behind_fork k l run f child inside deed =
    let at_f = child_at k l run f child inside deed in
    let c = at_f.2 in let w = c.whole in let up = c.later in let e_in = w.inside in
    let label : List ℕ = fork_of (label_at l f) child in
    let first : (label_at l (suc f) ≡ label) × (index_at l (suc f) ≡ 0) =
    first_action (action_at l) label (suc f) start c.e w.child.last w.child.held (own_steps l label (suc f) c.e w) w.child.end in
    (omega arith, first.0, first.1)

-- the places of a thread's run are those of the thread and of those that stem from it
together_by : (l : List Action) (label : List ℕ) (s e : ℕ) → Whole l label s e → (i : ℕ) → s ≤ i → i ≤ e → StemsFrom label (label_at l i)
together_by l label s e w i lo hi = elim (cases_eq i e) [
  | inl last ↦ subst (λ m. StemsFrom label m) (sym (ap (λ m. label_at l m) last ∙ end_label l label s e w)) (stems_itself label)
  | inr ne ↦ elim (whole_place l label s e w i lo (omega arith)) [
    | inl own ↦ subst (λ m. StemsFrom label m) (sym own.label_is) (stems_itself label)
    | inr b ↦ (b.child ∷ b.rest, b.is)
  ]
]

together : (l : List Action) (label : List ℕ) (f above : ℕ) (c : ChildWhole l label f above) (i : ℕ) → i < length l
    → StemsFrom label (label_at l i) ↔ ((f < i) × (i ≤ c.e))
together l label f above c i inside = (λ stems. c.whole.only i inside stems, λ there. together_by l label (suc f) c.e c.whole i there.0 there.1)

pub child_stands_together : (k : ℕ) (l : List Action) → IsDepthFirst k l → ChildStandsTogether l
child_stands_together k l run f child inside deed =
    let at_f = child_at k l run f child inside deed in
    let c = at_f.2 in let w = c.whole in
    let label : List ℕ = fork_of (label_at l f) child in (
      c.e,
      c.later,
      w.inside,
      end_label l label (suc f) c.e w,
      end_deed l label (suc f) c.e w,
      together l label f at_f.0 c,
    )

pub child_stands_before_parent : (k : ℕ) (l : List Action) → IsDepthFirst k l → ChildStandsBeforeParent l
child_stands_before_parent k l run f i j child i_in j_in lt deed same stems =
    let at_f = child_at k l run f child (omega arith) deed in
    let c = at_f.2 in
    let there : (suc f ≤ i) × (i ≤ c.e) = c.whole.only i i_in stems in
    let up = there.1 in
    elim (cases_lt c.e j) [
      | inl after ↦ omega arith
      | inr le ↦ let all : StemsFrom (fork_of (label_at l f) child) (label_at l j) ↔ ((f < j) × (j ≤ c.e)) = together l (fork_of (label_at l f) child) f at_f.0 c j j_in in
          let own : (rest : List ℕ) × (label_at l j ≡ label_at l f ++ child ∷ rest) = stems_further (label_at l f) (label_at l j) child (all.1 (lt, le)) in
          absurd (not_own (label_at l f) (label_at l j) own.0 child same own.1)
    ]

pub forks_are_in_order : (k : ℕ) (l : List Action) → IsDepthFirst k l → ForksAreInOrder l
forks_are_in_order k l run = record { from_one = from_one; rising = rising; none_skipped = none_skipped }
  where
    fork_place : (f child : ℕ) (label : List ℕ) (s e : ℕ) → Whole l label s e → f < length l → label_at l f ≡ label → deed_at l f ≡ forks child → (s ≤ f) × (f < e)
    fork_place f child label s e w inside mine deed =
        let there : (s ≤ f) × (f ≤ e) = own_inside l label s e w f inside mine in
        (there.0, not_the_end l label s e w f (forks child) (forks_do_not_end child) deed there.1)

    from_one : (f child : ℕ) → f < length l → deed_at l f ≡ forks child → 0 < child
    from_one f child inside deed =
        let h : HasWhole l (label_at l f) = own_whole k l run f inside in
        let w = h.whole in
        let place : (h.s ≤ f) × (f < h.e) = fork_place f child (label_at l f) h.s h.e w inside refl deed in
        let b : Between 0 w.child.last.forks_done child =
        fork_between (action_at l) (label_at l f) h.s start h.e w.child.last (own_steps l (label_at l f) h.s h.e w) f child place.0 place.1 refl deed in
        b.from

    rising : (f g child later : ℕ) → g < length l → f < g → label_at l f ≡ label_at l g → deed_at l f ≡ forks child → deed_at l g ≡ forks later → child < later
    rising f g child later g_in lt same fd gd =
        let h : HasWhole l (label_at l g) = own_whole k l run g g_in in
        let w = h.whole in
        let at_f : (h.s ≤ f) × (f < h.e) = fork_place f child (label_at l g) h.s h.e w (omega arith) same fd in
        let at_g : (h.s ≤ g) × (g < h.e) = fork_place g later (label_at l g) h.s h.e w g_in refl gd in
        forks_rise (action_at l) (label_at l g) h.s start h.e w.child.last (own_steps l (label_at l g) h.s h.e w) f g child later at_f.0 lt at_g.1 same fd refl gd

    none_skipped : (g child later : ℕ) → g < length l → deed_at l g ≡ forks later → 0 < child → child < later
        → (f : ℕ) × (f < g) × (label_at l f ≡ label_at l g) × (deed_at l f ≡ forks child)
    none_skipped g child later g_in gd some less =
        let h : HasWhole l (label_at l g) = own_whole k l run g g_in in
        let w = h.whole in
        let at_g : (h.s ≤ g) × (g < h.e) = fork_place g later (label_at l g) h.s h.e w g_in refl gd in
        let own = own_steps l (label_at l g) h.s h.e w in
        let b : Between 0 w.child.last.forks_done later =
        fork_between (action_at l) (label_at l g) h.s start h.e w.child.last own g later at_g.0 at_g.1 refl gd in
        let up = b.up_to in
        let f : Found (action_at l) (label_at l g) h.s h.e (forks child) =
        fork_found (action_at l) (label_at l g) h.s start h.e w.child.last own child some (omega arith) in
        let f_up = f.up_to in let e_in = w.inside in
        elim (cases_order f.i g) [
          | inl same ↦ let twice : child ≡ later = one_fork child later (sym f.deed_is ∙ ap (λ m. deed_at l m) same ∙ gd) in absurd (omega arith)
          | inr r ↦ elim r [
            | inl lt ↦ (f.i, lt, f.label_is, f.deed_is)
            | inr gt ↦ let back : later < child = rising g f.i later child (omega arith) gt (sym f.label_is) gd f.deed_is in absurd (omega arith)
          ]
        ]

pub ordinal_is_within : (k : ℕ) (l : List Action) → IsDepthFirst k l → OrdinalIsWithin l
ordinal_is_within k l run f child inside deed = go child f inside deed
  where
    order : ForksAreInOrder l
    order = forks_are_in_order k l run

    go : (n f : ℕ) → f < length l → deed_at l f ≡ forks n → n ≤ suc f
    go zero f inside is = omega arith
    go (suc n) f inside is = elim (cases_lt 0 n) [
      | inr below ↦ omega arith
      | inl some ↦ let before = order.none_skipped f n (suc n) inside is some (omega arith) in
          let less : before.0 < f = before.1 in
          let rest : n ≤ suc before.0 = go n before.0 (omega arith) before.3 in omega arith
    ]

pub forked_once : (k : ℕ) (l : List Action) → IsDepthFirst k l → ForkedOnce l
forked_once k l run f g child f_in g_in same fd gd =
    let order : ForksAreInOrder l = forks_are_in_order k l run in
    elim (cases_order f g) [
      | inl e ↦ e
      | inr r ↦ elim r [
        | inl lt ↦ let less : child < child = order.rising f g child child g_in lt same fd gd in absurd (omega arith)
        | inr gt ↦ let less : child < child = order.rising g f child child f_in gt (sym same) gd fd in absurd (omega arith)
      ]
    ]

pub each_thread_ends : (k : ℕ) (l : List Action) → IsDepthFirst k l → EachThreadEnds l
each_thread_ends k l run i inside =
    let h : HasWhole l (label_at l i) = own_whole k l run i inside in
    let there : (h.s ≤ i) × (i ≤ h.e) = own_inside l (label_at l i) h.s h.e h.whole i inside refl in
    (h.e, there.1, h.whole.inside, end_label l (label_at l i) h.s h.e h.whole, end_deed l (label_at l i) h.s h.e h.whole)

pub end_is_last : (k : ℕ) (l : List Action) → IsDepthFirst k l → EndIsLast l
end_is_last k l run i e i_in e_in same deed =
    let h : HasWhole l (label_at l e) = own_whole k l run e e_in in
    let w = h.whole in
    let at_i : (h.s ≤ i) × (i ≤ h.e) = own_inside l (label_at l e) h.s h.e w i i_in same in
    let at_e : (h.s ≤ e) × (e ≤ h.e) = own_inside l (label_at l e) h.s h.e w e e_in refl in
    let i_up = at_i.1 in let e_up = at_e.1 in
    elim (cases_eq e h.e) [
      | inl last ↦ omega arith
      | inr ne ↦ absurd (no_end (action_at l) (label_at l e) h.s start h.e w.child.last (own_steps l (label_at l e) h.s h.e w) e at_e.0 (omega arith) refl deed)
    ]
