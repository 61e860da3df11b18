-- The trees of dummies that stand before large allocations.
use Rattle.std.proofs.Common.{◌≡◌, ℕ, zero, suc, ◌+◌, ◌*◌, ◌≤◌, ◌<◌, List, [], ◌∷◌, ◌++◌, inl, inr, length, map, cond, refl, sym, subst, ap, ◌∙◌, arith, length-append}
use Rattle.std.proofs.lemmas.List.{append_assoc, append-nil, map-append}
use Rattle.std.proofs.lemmas.Bool.{cases_lt, cases_eq}
use Rattle.dag_order.specs.LabelOrder.{fork_of}
use Rattle.dag_order.specs.declared.kind.Kind.TheVariants.{Fork, Join, End}
use Rattle.depth_first_list.specs.Shapes.{Shape, leaf, forked, actions, leaves, is_dummy}
use Rattle.depth_first_list.specs.Actions.{Deed, forks, joins, allocates, dummy, ends, Action, record_words, kind_of, action_kind}
use Rattle.depth_first_list.specs.Runs.{Point, start, next_child, action_at_point, after_fork, end_at, after_tree, tree_run}
use Rattle.depth_first_list.specs.Facts.{action_at, label_at, deed_at, words_at, StemsFrom, IsDone}
use Rattle.depth_first_list.specs.Laws.{IsLarge, IsInTreeOf, dummies_from, IsOfTree, TreeStandsBefore, TreeRunsAsShaped}
use Rattle.depth_first_list.proofs.Trace.{Sits, sits_front, sits_back}

-- a tree of n leaves has 4n - 3 actions
pub tree_length : (shape : Shape) (a : List ℕ) (p : Point) → length (tree_run a p shape) + 3 ≡ 4 * leaves shape
tree_length leaf a p = refl
tree_length (forked child own) a p =
    let kid : List ℕ = fork_of a (next_child p) in
    let below : List Action = tree_run kid start child in
    let mine : List Action = tree_run a (after_fork p) own in
    let join : List Action = action_at_point a (after_tree (after_fork p) own) (joins (next_child p)) 0 ∷ [] in
    let last : Action = end_at kid (after_tree start child) record_words in
    let c = tree_length child kid start in let o = tree_length own a (after_fork p) in
    let both = length-append below (last ∷ (mine ++ join)) in let more = length-append mine join in
    omega (arith, c, o, both, more)

pub some_leaves : (shape : Shape) → 0 < leaves shape
some_leaves leaf = omega arith
some_leaves (forked child own) = let c = some_leaves child in omega arith

-- dummies of neighbouring places add up
dummies_add : (l : List Action) (i j m n : ℕ) → j ≡ i + m → dummies_from l i (m + n) ≡ dummies_from l i m + dummies_from l j n
dummies_add l i j zero n e =
    let same : j ≡ i = omega arith in let none : 0 + n ≡ n = omega arith in
    ap (λ t. dummies_from l i t) none ∙ ap (λ t. dummies_from l t n) (sym same) ∙ plus_zero (dummies_from l j n)
  where
    plus_zero : (t : ℕ) → t ≡ 0 + t
    plus_zero t = omega arith
dummies_add l i j (suc m) n e =
    let rest = dummies_add l (suc i) j m n (omega arith) in
    let next : suc m + n ≡ suc (m + n) = omega arith in
    ap (λ t. dummies_from l i t) next
    ∙ ap (λ t. cond (is_dummy (kind_of (deed_at l i))) 1 0 + t) rest
    ∙ plus_assoc (cond (is_dummy (kind_of (deed_at l i))) 1 0) (dummies_from l (suc i) m) (dummies_from l j n)
  where
    plus_assoc : (a b c : ℕ) → a + (b + c) ≡ a + b + c
    plus_assoc a b c = omega arith

-- one place
one_dummy : (l : List Action) (i : ℕ) (x : Action) → action_at l i ≡ x → dummies_from l i 1 ≡ cond (is_dummy (kind_of x.deed)) 1 0
one_dummy l i x e = plus_none (cond (is_dummy (kind_of (deed_at l i))) 1 0) ∙ ap (λ (y : Action). cond (is_dummy (kind_of y.deed)) 1 0) e
  where
    plus_none : (t : ℕ) → t + 0 ≡ t
    plus_none t = omega arith

-- a tree that stands at the places from s on has its dummies there
pub tree_dummies : (l : List Action) (shape : Shape) (a : List ℕ) (p : Point) (s : ℕ) → Sits (action_at l) s (tree_run a p shape)
    → dummies_from l s (length (tree_run a p shape)) ≡ leaves shape
tree_dummies l leaf a p s sits = one_dummy l s (action_at_point a p dummy 0) sits.0
tree_dummies l (forked child own) a p s sits =
    let kid : List ℕ = fork_of a (next_child p) in
    let below : List Action = tree_run kid start child in
    let mine : List Action = tree_run a (after_fork p) own in
    let join : List Action = action_at_point a (after_tree (after_fork p) own) (joins (next_child p)) 0 ∷ [] in
    let last : Action = end_at kid (after_tree start child) record_words in
    let end : ℕ = suc s + length below in
    let j : ℕ = suc end + length mine in
    let back : Sits (action_at l) end (last ∷ (mine ++ join)) = sits_back (action_at l) (suc s) end below (last ∷ (mine ++ join)) refl sits.1 in
    let own_back : Sits (action_at l) j join = sits_back (action_at l) (suc end) j mine join refl back.1 in
    let in_child : dummies_from l (suc s) (length below) ≡ leaves child =
    tree_dummies l child kid start (suc s) (sits_front (action_at l) (suc s) below (last ∷ (mine ++ join)) sits.1) in
    let in_own : dummies_from l (suc end) (length mine) ≡ leaves own =
    tree_dummies l own a (after_fork p) (suc end) (sits_front (action_at l) (suc end) mine join back.1) in
    let at_fork : dummies_from l s 1 ≡ 0 = one_dummy l s (action_at_point a p (forks (next_child p)) record_words) sits.0 in
    let at_end : dummies_from l end 1 ≡ 0 = one_dummy l end last back.0 in
    let at_join : dummies_from l j 1 ≡ 0 = one_dummy l j (action_at_point a (after_tree (after_fork p) own) (joins (next_child p)) 0) own_back.0 in
    let both = length-append below (last ∷ (mine ++ join)) in let more = length-append mine join in
    let size : length (tree_run a p (forked child own)) ≡ 1 + (length below + (1 + (length mine + 1))) = omega (arith, both, more) in
    let all : dummies_from l s (1 + (length below + (1 + (length mine + 1)))) ≡ leaves child + leaves own =
    let d1 = dummies_add l s (suc s) 1 (length below + (1 + (length mine + 1))) (omega arith) in
    let d2 = dummies_add l (suc s) end (length below) (1 + (length mine + 1)) refl in
    let d3 = dummies_add l end (suc end) 1 (length mine + 1) (omega arith) in
    let d4 = dummies_add l (suc end) j (length mine) 1 refl in
    five (dummies_from l s 1) (dummies_from l (suc s) (length below)) (dummies_from l end 1) (dummies_from l (suc end) (length mine)) (dummies_from l j 1) at_fork in_child at_end in_own at_join d1 d2 d3 d4 in
    ap (λ t. dummies_from l s t) size ∙ all
  where
    five : (a b c d e : ℕ) {x y z w u v : ℕ} → a ≡ 0 → b ≡ x → c ≡ 0 → d ≡ y → e ≡ 0 → z ≡ a + w → w ≡ b + u → u ≡ c + v → v ≡ d + e → z ≡ x + y
    five a b c d e pa pb pc pd pe h1 h2 h3 h4 = omega arith

-- a fact of each action of a list
abbrev pub Every : (Action → Type 0) → List Action → Type 0
Every P [] = Unit {0}
Every P (x ∷ l) = P x × Every P l

pub every_append : (P : Action → Type 0) (xs ys : List Action) → Every P xs → Every P ys → Every P (xs ++ ys)
every_append P [] ys h k = k
every_append P (x ∷ xs) ys h k = (h.0, every_append P xs ys h.1 k)

every_weaker : (P Q : Action → Type 0) → ((x : Action) → P x → Q x) → (xs : List Action) → Every P xs → Every Q xs
every_weaker P Q f [] h = tt
every_weaker P Q f (x ∷ xs) h = (f x h.0, every_weaker P Q f xs h.1)

pub every_place : (A : ℕ → Action) (P : Action → Type 0) (l : List Action) (s : ℕ) → Sits A s l → Every P l → (i : ℕ) → s ≤ i → i < s + length l → P (A i)
every_place A P [] s sits h i lo hi = absurd (omega arith)
every_place A P (x ∷ l) s sits h i lo hi =
    elim (cases_eq i s) [
      | inl e ↦ subst (λ y. P y) (sym (ap (λ m. A m) e ∙ sits.0)) h.0
      | inr ne ↦ every_place A P l (suc s) sits.1 h.1 i (omega arith) (omega arith)
    ]

-- what each action of a tree is: of the thread or of one that stems from it, and no allocation
pub record IsTreeAction (a : List ℕ) (x : Action) : Type 0 where
  pub deed : IsOfTree x.deed
  pub below : StemsFrom a x.label

from_child : (a : List ℕ) (k : ℕ) (x : Action) → IsTreeAction (fork_of a k) x → IsTreeAction a x
from_child a k x h = record { deed = h.deed; below = (k ∷ h.below.0, h.below.1 ∙ append_assoc a (k ∷ []) h.below.0) }

own_action : (a : List ℕ) (p : Point) (deed : Deed) (words : ℕ) → IsOfTree deed → IsTreeAction a (action_at_point a p deed words)
own_action a p deed words is = record { deed = is; below = ([], sym (append-nil a)) }

pub tree_actions : (shape : Shape) (a : List ℕ) (p : Point) → Every (λ x. IsTreeAction a x) (tree_run a p shape)
tree_actions leaf a p = (own_action a p dummy 0 tt, tt)
tree_actions (forked child own) a p =
    let k : ℕ = next_child p in
    let kid : List ℕ = fork_of a k in
    let join : List Action = action_at_point a (after_tree (after_fork p) own) (joins k) 0 ∷ [] in (
      own_action a p (forks k) record_words tt,
      every_append (λ x. IsTreeAction a x) (tree_run kid start child) (end_at kid (after_tree start child) record_words ∷ (tree_run a (after_fork p) own ++ join))
          (every_weaker (λ x. IsTreeAction kid x) (λ x. IsTreeAction a x) (λ x. from_child a k x) (tree_run kid start child) (tree_actions child kid start)) (
            from_child a k (end_at kid (after_tree start child) record_words) (own_action kid (after_tree start child) ends record_words tt),
            every_append (λ x. IsTreeAction a x) (tree_run a (after_fork p) own) join (tree_actions own a (after_fork p))
                (own_action a (after_tree (after_fork p) own) (joins k) 0 tt, tt),
          ),
    )

-- where a later action of the thread is done, the whole tree is
pub tree_done : (l : List Action) (done : ℕ → ℕ) → IsDone l done → (shape : Shape) (a : List ℕ) (p : Point) (s : ℕ)
    → Sits (action_at l) s (tree_run a p shape)
    → (j : ℕ) → s + length (tree_run a p shape) ≤ j → j < length l → label_at l j ≡ a → 0 < done j
    → (i : ℕ) → s ≤ i → i < s + length (tree_run a p shape) → 0 < done i
tree_done l done closed leaf a p s sits j le inside mine did i lo hi =
    closed.earlier i j (omega arith) inside (ap (λ m. label_at l m) here ∙ ap (λ x. x.label) sits.0 ∙ sym mine) did
  where
    here : i ≡ s
    here = omega arith
tree_done l done closed (forked child own) a p s sits j le inside mine did i lo hi =
    let k : ℕ = next_child p in
    let kid : List ℕ = fork_of a k in
    let below : List Action = tree_run kid start child in
    let rest : List Action = tree_run a (after_fork p) own in
    let join : List Action = action_at_point a (after_tree (after_fork p) own) (joins k) 0 ∷ [] in
    let last : Action = end_at kid (after_tree start child) record_words in
    let end : ℕ = suc s + length below in
    let n : ℕ = suc end + length rest in
    let back : Sits (action_at l) end (last ∷ (rest ++ join)) = sits_back (action_at l) (suc s) end below (last ∷ (rest ++ join)) refl sits.1 in
    let own_back : Sits (action_at l) n join = sits_back (action_at l) (suc end) n rest join refl back.1 in
    let both = length-append below (last ∷ (rest ++ join)) in let more = length-append rest join in
    let n_label : label_at l n ≡ a = ap (λ x. x.label) own_back.0 in
    let n_done : 0 < done n = closed.earlier n j (omega (arith, both, more)) inside (n_label ∙ sym mine) did in
    let e_label : label_at l end ≡ kid = ap (λ x. x.label) back.0 in
    let e_done : 0 < done end = closed.child_ended end n k (omega (arith, both, more)) (omega (arith, both, more)) (ap (λ x. x.deed) own_back.0)
    (e_label ∙ ap (λ t. fork_of t k) (sym n_label)) (ap (λ x. x.deed) back.0) n_done in
    elim (cases_eq i s) [
      | inl at_fork ↦ closed.earlier i j (omega (arith, both, more)) inside (ap (λ m. label_at l m) at_fork ∙ ap (λ x. x.label) sits.0 ∙ sym mine) did
      | inr behind ↦ elim (cases_lt i end) [
        | inl in_child ↦ tree_done l done closed child kid start (suc s) (sits_front (action_at l) (suc s) below (last ∷ (rest ++ join)) sits.1)
            end (omega arith) (omega (arith, both, more)) e_label e_done i (omega arith) in_child
        | inr from_end ↦ elim (cases_eq i end) [
          | inl at_end ↦ subst (λ m. 0 < done m) (sym at_end) e_done
          | inr past ↦ elim (cases_lt i n) [
            | inl in_own ↦ tree_done l done closed own a (after_fork p) (suc end) (sits_front (action_at l) (suc end) rest join back.1)
                n (omega arith) (omega (arith, both, more)) n_label n_done i (omega arith) in_own
            | inr at_join ↦ let same : i ≡ n = omega (arith, both, more) in subst (λ m. 0 < done m) (sym same) n_done
          ]
        ]
      ]
    ]

-- what is known of the trees in the places from s to t
pub record Treed (k : ℕ) (l : List Action) (s t : ℕ) : Type 0 where
  pub trees : (a : ℕ) → s ≤ a → a < t → IsLarge k l a → TreeStandsBefore k l a
  pub dummies : (i : ℕ) → s ≤ i → i < t → deed_at l i ≡ dummy → (a : ℕ) × (a < t) × IsLarge k l a × IsInTreeOf k l a i
  pub done_first : (done : ℕ → ℕ) → IsDone l done → (a i : ℕ) → s ≤ a → a < t → IsLarge k l a → IsInTreeOf k l a i → 0 < done a → 0 < done i

pub treed_nothing : (k : ℕ) (l : List Action) (s t : ℕ) → t ≡ s → Treed k l s t
treed_nothing k l s t e = record {
  trees = λ a lo hi large. absurd (omega arith);
  dummies = λ i lo hi is. absurd (omega arith);
  done_first = λ done closed a i lo hi large tree did. absurd (omega arith);
}

pub treed_both : (k : ℕ) (l : List Action) (s m t : ℕ) → m ≤ t → Treed k l s m → Treed k l m t → Treed k l s t
treed_both k l s m t le one two = record {
  trees = λ a lo hi large. elim (cases_lt a m) [ inl lt ↦ one.trees a lo lt large | inr ge ↦ two.trees a ge hi large ];
  dummies = λ i lo hi is. elim (cases_lt i m) [
    | inl lt ↦ let h : (a : ℕ) × (a < m) × IsLarge k l a × IsInTreeOf k l a i = one.dummies i lo lt is in let up = h.1 in (h.0, omega arith, h.2, h.3)
    | inr ge ↦ two.dummies i ge hi is
  ];
  done_first = λ done closed a i lo hi large tree did. elim (cases_lt a m) [
    | inl lt ↦ one.done_first done closed a i lo lt large tree did
    | inr ge ↦ two.done_first done closed a i ge hi large tree did
  ];
}

-- an action that is no large Alloc and no Dummy
pub record IsPlainPlace (k : ℕ) (x : Action) : Type 0 where
  pub not_large : x.deed ≡ allocates → k < x.words → ⊥
  pub no_dummy : x.deed ≡ dummy → ⊥

pub treed_plain : (k : ℕ) (l : List Action) (s t : ℕ) (x : Action) → t ≡ suc s → action_at l s ≡ x → IsPlainPlace k x → Treed k l s t
treed_plain k l s t x next is plain = record {
  trees = λ a lo hi large. absurd (never a (omega arith) large.1 large.2);
  dummies = λ i lo hi deed. absurd (no_dummy i (omega arith) deed);
  done_first = λ done closed a i lo hi large tree did. absurd (never a (omega arith) large.1 large.2);
}
  where
    never : (a : ℕ) → a ≡ s → deed_at l a ≡ allocates → k < words_at l a → ⊥
    never a same deed big = plain.not_large (sym (ap (λ (y : Action). y.deed) (ap (λ m. action_at l m) same ∙ is)) ∙ deed)
        (subst (λ (y : Action). k < y.words) (ap (λ m. action_at l m) same ∙ is) big)

    no_dummy : (i : ℕ) → i ≡ s → deed_at l i ≡ dummy → ⊥
    no_dummy i same deed = plain.no_dummy (sym (ap (λ (y : Action). y.deed) (ap (λ m. action_at l m) same ∙ is)) ∙ deed)

-- the kinds of a tree's actions
pub tree_kinds : TreeRunsAsShaped
tree_kinds leaf a p = refl
tree_kinds (forked child own) a p =
    let k : ℕ = next_child p in
    let kid : List ℕ = fork_of a k in
    let below : List Action = tree_run kid start child in
    let mine : List Action = tree_run a (after_fork p) own in
    let join : List Action = action_at_point a (after_tree (after_fork p) own) (joins k) 0 ∷ [] in
    let last : Action = end_at kid (after_tree start child) record_words in
    let front = map-append action_kind below (last ∷ (mine ++ join)) in
    let back = map-append action_kind mine join in
    ap (λ l. Fork ∷ l) (front
    ∙ ap (λ l. l ++ (End ∷ map action_kind (mine ++ join))) (tree_kinds child kid start)
    ∙ ap (λ l. actions child ++ (End ∷ l)) (back ∙ ap (λ l. l ++ (Join ∷ [])) (tree_kinds own a (after_fork p))))
