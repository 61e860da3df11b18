-- The facts of depth-first lists that speak of large allocations and their dummies.
use Rattle.std.proofs.Common.{◌≡◌, ℕ, suc, ◌+◌, ◌-◌, ◌*◌, ◌≤◌, ◌<◌, List, [], ◌∷◌, ◌++◌, inl, inr, length, refl, sym, subst, ap, ◌∙◌, arith, length-append}
use Rattle.std.proofs.lemmas.Bool.{cases_order, cases_lt, cases_eq}
use Rattle.dag_order.specs.LabelOrder.{fork_of}
use Rattle.depth_first_list.specs.Quotas.{dummies_of}
use Rattle.depth_first_list.proofs.QuotaLaws.{dummies_cover}
use Rattle.depth_first_list.specs.Shapes.{Shape, leaves, shape_of}
use Rattle.depth_first_list.proofs.ShapeLaws.{leaves_of_shape, shape_of_is_shape}
use Rattle.depth_first_list.specs.Actions.{Deed, forks, joins, allocates, releases, dummy, faults, ends, Action, record_words}
use Rattle.depth_first_list.specs.Runs.{Point, start, next_child, action_at_point, end_at, after_tree, tree_run, tree_for, IsPlain, Runs, rests, goes_on, acts, forks_a_child, joins_the_newest, allocates_behind_a_tree, IsDepthFirst}
use Rattle.depth_first_list.specs.Facts.{action_at, label_at, deed_at, StemsFrom}
use Rattle.depth_first_list.specs.Laws.{IsLarge, leaves_at, IsInTreeOf, dummies_from, IsOfTree, TreeStandsBefore, TreesStandBefore, DummiesAreOfTrees, TreesAreApart, TreesAreDoneFirst}
use Rattle.depth_first_list.proofs.Trace.{Sits, sits_front, sits_back}
use Rattle.depth_first_list.proofs.Whole.{sits_itself}
use Rattle.depth_first_list.proofs.Trees.{tree_length, some_leaves, tree_dummies, every_place, IsTreeAction, tree_actions, tree_done, Treed, treed_nothing, treed_both, IsPlainPlace, treed_plain}

-- a large Alloc wants a dummy
wants_some : (words k : ℕ) → 0 < k → k < words → 0 < dummies_of words k
wants_some words k some large =
    elim (cases_lt 0 (dummies_of words k)) [
      | inl lt ↦ lt
      | inr none ↦ let cover : words ≤ k * dummies_of words k = dummies_cover words k some large in
          let zero_is : dummies_of words k ≡ 0 = omega arith in
          let nothing : words ≤ k * 0 = subst (λ d. words ≤ k * d) zero_is cover in absurd (omega arith)
    ]

pub leaves_for : (k words : ℕ) → 0 < k → k < words → leaves (tree_for k words) ≡ dummies_of words k
leaves_for k words some large =
    leaves_of_shape (dummies_of words k) (shape_of (dummies_of words k)) (shape_of_is_shape (dummies_of words k) (wants_some words k some large))

-- the deed at a place of a tree is no allocation
no_alloc : (d : Deed) → IsOfTree d → d ≡ allocates → ⊥
no_alloc d is e = subst IsOfTree e is

-- a tree that stands directly before its Alloc, the place e
pub record IsTreeAt (k : ℕ) (l : List Action) (label : List ℕ) (p : Point) (words : ℕ) (shape : Shape) (s e : ℕ) : Type 0 where
  pub large : k < words
  pub counted : leaves shape ≡ dummies_of words k
  pub sits : Sits (action_at l) s (tree_run label p shape)
  pub size : e ≡ s + length (tree_run label p shape)
  pub inside : e < length l
  pub alloc : action_at l e ≡ action_at_point label (after_tree p shape) allocates words

alloc_leaves : (k : ℕ) (l : List Action) (label : List ℕ) (p : Point) (words : ℕ) (shape : Shape) (s e : ℕ) → IsTreeAt k l label p words shape s e → leaves_at k l e ≡ leaves shape
alloc_leaves k l label p words shape s e t = ap (λ (x : Action). dummies_of x.words k) t.alloc ∙ sym t.counted

alloc_large : (k : ℕ) (l : List Action) (label : List ℕ) (p : Point) (words : ℕ) (shape : Shape) (s e : ℕ) → IsTreeAt k l label p words shape s e → IsLarge k l e
alloc_large k l label p words shape s e t = (t.inside, ap (λ (x : Action). x.deed) t.alloc, subst (λ (x : Action). k < x.words) (sym t.alloc) t.large)

tree_place : (k : ℕ) (l : List Action) (label : List ℕ) (p : Point) (words : ℕ) (shape : Shape) (s e : ℕ) → IsTreeAt k l label p words shape s e
    → (i : ℕ) → s ≤ i → i < e → IsTreeAction label (action_at l i)
tree_place k l label p words shape s e t i lo hi =
    let size = t.size in
    every_place (action_at l) (λ x. IsTreeAction label x) (tree_run label p shape) s t.sits (tree_actions shape label p) i lo (omega arith)

tree_stands : (k : ℕ) (l : List Action) (label : List ℕ) (p : Point) (words : ℕ) (shape : Shape) (s e : ℕ) → IsTreeAt k l label p words shape s e → TreeStandsBefore k l e
tree_stands k l label p words shape s e t =
    let long = tree_length shape label p in
    let some = some_leaves shape in
    let size = t.size in
    let wants : leaves_at k l e ≡ leaves shape = alloc_leaves k l label p words shape s e t in
    let span : e - s ≡ length (tree_run label p shape) = omega arith in
    let mine : label_at l e ≡ label = ap (λ (x : Action). x.label) t.alloc in
    record {
      first = s;
      size = omega (arith, long, wants);
      begins_before = omega (arith, long, some);
      dummies = ap (λ n. dummies_from l s n) span ∙ tree_dummies l shape label p s t.sits ∙ sym wants;
      of_tree = λ i lo hi. let h : IsTreeAction label (action_at l i) = tree_place k l label p words shape s e t i lo hi in h.deed;
      below = λ i lo hi. let h : IsTreeAction label (action_at l i) = tree_place k l label p words shape s e t i lo hi in
          subst (λ a. StemsFrom a (label_at l i)) (sym mine) h.below;
    }

-- among these places the only allocation is the last one
the_alloc : (k : ℕ) (l : List Action) (label : List ℕ) (p : Point) (words : ℕ) (shape : Shape) (s e : ℕ) → IsTreeAt k l label p words shape s e
    → (a : ℕ) → s ≤ a → a < suc e → deed_at l a ≡ allocates → a ≡ e
the_alloc k l label p words shape s e t a lo hi is =
    elim (cases_eq a e) [
      | inl same ↦ same
      | inr ne ↦ let h : IsTreeAction label (action_at l a) = tree_place k l label p words shape s e t a lo (omega arith) in absurd (no_alloc (deed_at l a) h.deed is)
    ]

alloc_no_dummy : (d : Deed) → d ≡ allocates → d ≡ dummy → ⊥
alloc_no_dummy d e f = let both : allocates ≡ dummy = sym e ∙ f in cc

pub treed_large : (k : ℕ) (l : List Action) (label : List ℕ) (p : Point) (words : ℕ) (shape : Shape) (s e : ℕ) → IsTreeAt k l label p words shape s e
    → Treed k l s (suc e)
treed_large k l label p words shape s e t =
    let long = tree_length shape label p in
    let size = t.size in
    let wants : leaves_at k l e ≡ leaves shape = alloc_leaves k l label p words shape s e t in
    let e_large : IsLarge k l e = alloc_large k l label p words shape s e t in
    record {
      trees = λ a lo hi is. subst (λ m. TreeStandsBefore k l m) (sym (the_alloc k l label p words shape s e t a lo hi is.1)) (tree_stands k l label p words shape s e t);
      dummies = λ i lo hi is. elim (cases_eq i e) [
        | inl same ↦ absurd (alloc_no_dummy (deed_at l e) e_large.1 (ap (λ m. deed_at l m) (sym same) ∙ is))
        | inr ne ↦ (e, omega arith, e_large, (omega arith, omega (arith, long, wants)))
      ];
      done_first = λ done closed a i lo hi is in_tree did.
          let same : a ≡ e = the_alloc k l label p words shape s e t a lo hi is.1 in
          let want_a : leaves_at k l a ≡ leaves shape = ap (λ m. leaves_at k l m) same ∙ wants in
          let low = in_tree.1 in let high = in_tree.0 in
          tree_done l done closed shape label p s t.sits a (omega arith) is.0
          (ap (λ m. label_at l m) same ∙ ap (λ (x : Action). x.label) t.alloc) did i (omega (arith, long)) (omega arith);
    }

plain_place : (k : ℕ) (label : List ℕ) (p : Point) (deed : Deed) (words : ℕ) → IsPlain k deed words → IsPlainPlace k (action_at_point label p deed words)
plain_place k label p (forks child) words h = absurd h
plain_place k label p (joins child) words h = absurd h
plain_place k label p allocates words h = record { not_large = λ e big. omega arith; no_dummy = λ e. let no : ⊥ = cc in no }
plain_place k label p releases words h = record { not_large = λ e big. let no : ⊥ = cc in no; no_dummy = λ e. let no : ⊥ = cc in no }
plain_place k label p dummy words h = absurd h
plain_place k label p faults words h = record { not_large = λ e big. let no : ⊥ = cc in no; no_dummy = λ e. let no : ⊥ = cc in no }
plain_place k label p ends words h = absurd h

fork_place : (k : ℕ) (label : List ℕ) (p : Point) (child words : ℕ) → IsPlainPlace k (action_at_point label p (forks child) words)
fork_place k label p child words = record { not_large = λ e big. let no : ⊥ = cc in no; no_dummy = λ e. let no : ⊥ = cc in no }

join_place : (k : ℕ) (label : List ℕ) (p : Point) (child words : ℕ) → IsPlainPlace k (action_at_point label p (joins child) words)
join_place k label p child words = record { not_large = λ e big. let no : ⊥ = cc in no; no_dummy = λ e. let no : ⊥ = cc in no }

end_place : (k : ℕ) (label : List ℕ) (p : Point) (words : ℕ) → IsPlainPlace k (end_at label p words)
end_place k label p words = record { not_large = λ e big. let no : ⊥ = cc in no; no_dummy = λ e. let no : ⊥ = cc in no }

-- the places of a run have their trees
pub treed : (k : ℕ) (l : List Action) → 0 < k → (a : List ℕ) (p : Point) (m : List Action) (q : Point) → Runs k a p m q
    → (s t : ℕ) → t ≡ s + length m → t ≤ length l → Sits (action_at l) s m → Treed k l s t
treed k l some a p m q (rests label point) s t e up sits = treed_nothing k l s t (omega arith)
treed k l some a p m q (goes_on label p' mid q' front back one two) s t e up sits =
    let both = length-append front back in
    let middle : ℕ = s + length front in
    treed_both k l s middle t (omega (arith, both))
    (treed k l some label p' front mid one s middle refl (omega (arith, both)) (sits_front (action_at l) s front back sits))
    (treed k l some label mid back q' two middle t (omega (arith, both)) up (sits_back (action_at l) s middle front back refl sits))
treed k l some a p m q (acts label p' deed words plain) s t e up sits =
    treed_plain k l s t (action_at_point label p' deed words) (omega arith) sits.0 (plain_place k label p' deed words plain)
treed k l some a p m q (forks_a_child label p' c below run joined) s t e up sits =
    let kid : List ℕ = fork_of label (next_child p') in
    let end : ℕ = suc s + length below in
    let both = length-append below (end_at kid c record_words ∷ []) in
    let back : Sits (action_at l) end (end_at kid c record_words ∷ []) = sits_back (action_at l) (suc s) end below (end_at kid c record_words ∷ []) refl sits.1 in
    treed_both k l s (suc s) t (omega (arith, both))
    (treed_plain k l s (suc s) (action_at_point label p' (forks (next_child p')) record_words) refl sits.0 (fork_place k label p' (next_child p') record_words))
    (treed_both k l (suc s) end t (omega (arith, both))
    (treed k l some kid start below c run (suc s) end refl (omega (arith, both)) (sits_front (action_at l) (suc s) below (end_at kid c record_words ∷ []) sits.1))
    (treed_plain k l end t (end_at kid c record_words) (omega (arith, both)) back.0 (end_place k kid c record_words)))
treed k l some a p m q (joins_the_newest label p' child older words is) s t e up sits =
    treed_plain k l s t (action_at_point label p' (joins child) words) (omega arith) sits.0 (join_place k label p' child words)
treed k l some a p m q (allocates_behind_a_tree label p' words large) s t e up sits =
    by_shape (tree_for k words) (leaves_for k words some large) e sits
  where
    by_shape : (shape : Shape) → leaves shape ≡ dummies_of words k
        → t ≡ s + length (tree_run label p' shape ++ action_at_point label (after_tree p' shape) allocates words ∷ [])
        → Sits (action_at l) s (tree_run label p' shape ++ action_at_point label (after_tree p' shape) allocates words ∷ []) → Treed k l s t
    by_shape shape counted e sits =
        let tree : List Action = tree_run label p' shape in
        let alloc : List Action = action_at_point label (after_tree p' shape) allocates words ∷ [] in
        let end : ℕ = s + length tree in
        let both = length-append tree alloc in
        let next : t ≡ suc end = omega (arith, both) in
        let back : Sits (action_at l) end alloc = sits_back (action_at l) s end tree alloc refl sits in
        let all : Treed k l s (suc end) = treed_large k l label p' words shape s end (record {
          large = large;
          counted = counted;
          sits = sits_front (action_at l) s tree alloc sits;
          size = refl;
          inside = omega arith;
          alloc = back.0;
        }) in
        subst (λ n. Treed k l s n) (sym next) all

pub treed_list : (k : ℕ) (l : List Action) → 0 < k → IsDepthFirst k l → Treed k l 0 (length l)
treed_list k l some run =
    let end : List Action = end_at [] run.last 0 ∷ [] in
    let e : ℕ = length run.below in
    let both = length-append run.below end in
    let long : length l ≡ length (run.below ++ end) = ap (λ m. length m) run.is in
    let sits : Sits (action_at l) 0 (run.below ++ end) = subst (λ m. Sits (action_at l) 0 m) run.is (sits_itself l) in
    let back : Sits (action_at l) e end = sits_back (action_at l) 0 e run.below end (omega arith) sits in
    treed_both k l 0 e (length l) (omega (arith, both, long))
    (treed k l some [] start run.below run.last run.runs 0 e (omega arith) (omega (arith, both, long)) (sits_front (action_at l) 0 run.below end sits))
    (treed_plain k l e (length l) (end_at [] run.last 0) (omega (arith, both, long)) back.0 (end_place k [] run.last 0))

pub trees_stand_before : (k : ℕ) (l : List Action) → 0 < k → IsDepthFirst k l → TreesStandBefore k l
trees_stand_before k l some run a is =
    let h : Treed k l 0 (length l) = treed_list k l some run in h.trees a (omega arith) is.0 is

pub dummies_are_of_trees : (k : ℕ) (l : List Action) → 0 < k → IsDepthFirst k l → DummiesAreOfTrees k l
dummies_are_of_trees k l some run i inside is =
    let h : Treed k l 0 (length l) = treed_list k l some run in
    let found : (a : ℕ) × (a < length l) × IsLarge k l a × IsInTreeOf k l a i = h.dummies i (omega arith) inside is in
    (found.0, found.2, found.3)

pub trees_are_done_first : (k : ℕ) (l : List Action) → 0 < k → IsDepthFirst k l → TreesAreDoneFirst k l
trees_are_done_first k l some run done closed a i is tree did =
    let h : Treed k l 0 (length l) = treed_list k l some run in h.done_first done closed a i (omega arith) is.0 is tree did

pub trees_are_apart : (k : ℕ) (l : List Action) → 0 < k → IsDepthFirst k l → TreesAreApart k l
trees_are_apart k l some run a b i a_large b_large in_a in_b =
    elim (cases_order a b) [
      | inl same ↦ same
      | inr r ↦ elim r [ inl lt ↦ absurd (apart a b i lt a_large b_large in_a in_b) | inr gt ↦ absurd (apart b a i gt b_large a_large in_b in_a) ]
    ]
  where
    apart : (a b i : ℕ) → a < b → IsLarge k l a → IsLarge k l b → IsInTreeOf k l a i → IsInTreeOf k l b i → ⊥
    apart a b i lt a_large b_large in_a in_b =
        let h : TreeStandsBefore k l b = trees_stand_before k l some run b b_large in
        let size = h.size in let low = in_b.1 in let high = in_a.0 in
        no_alloc (deed_at l a) (h.of_tree a (omega arith) lt) a_large.1
