-- The laws of the way from a thread over its parents.
use Rattle.std.specs.Prelude.{◌≡◌, ℕ, zero, suc, List, [], ◌∷◌, ◌++◌, reverse, Option, None, Some, refl, slice_get, ◌+◌, ◌⊎◌, IsSome, is_some, length}
use Rattle.std.proofs.Common.{sym, ◌∙◌, ap, subst, inl, inr, arith}
use Rattle.std.proofs.lemmas.List.{reverse-reverse, reverse-append}
use Rattle.dag_order.specs.LabelOrder.{fork_of}
use Rattle.dag_order.specs.declared.thread_id.ThreadId.{ThreadId}
use Rattle.dag_order.specs.declared.birth.Birth.{Birth}
use Rattle.dag_order.specs.Births.{root, birth_in, birth_of, ParentComesFirst, ParentsComeFirst, MayFollow, Leads, HasLabel, StopsAt}

-- the way goes on by the birth of the thread that it came to
pub leads_on : (periods : List (List Birth)) (id : ThreadId) (way : List ℕ) (top : ThreadId) (birth : Birth)
    → Leads periods id way top → birth_of periods top ≡ Some birth → Leads periods id (way ++ birth.ordinal ∷ []) birth.parent
leads_on periods id [] top birth same is = (birth, ap (λ t. birth_of periods t) same ∙ is, refl, refl)
leads_on periods id (ordinal ∷ above) top birth way is =
    (way.0, way.1, way.2, leads_on periods way.0.parent above top birth way.3 is)

-- a way that ends at a thread without birth is the only such way
pub one_way : (periods : List (List Birth)) (id : ThreadId) (way other : List ℕ) (top end : ThreadId)
    → Leads periods id way top → birth_of periods top ≡ None → Leads periods id other end → birth_of periods end ≡ None
    → (way ≡ other) × (top ≡ end)
one_way periods id [] [] top end p none q none' = (refl, sym p ∙ q)
one_way periods id [] (y ∷ other) top end p none q none' =
    let clash : Some q.0 ≡ None = sym q.1 ∙ (ap (λ t. birth_of periods t) p ∙ none) in cc
one_way periods id (x ∷ way) [] top end p none q none' =
    let clash : Some p.0 ≡ None = sym p.1 ∙ (ap (λ t. birth_of periods t) q ∙ none') in cc
one_way periods id (x ∷ way) (y ∷ other) top end p none q none' =
    let same : p.0 ≡ q.0 = cc in
    let rest : Leads periods q.0.parent way top = let P : Birth → Type 0 = λ b. Leads periods b.parent way top in subst P same p.3 in
    let both : (way ≡ other) × (top ≡ end) = one_way periods q.0.parent way other top end rest none q.3 none' in
    let front : x ≡ y = sym p.2 ∙ (ap (λ b. b.ordinal) same ∙ q.2) in
    (cc, both.1)

-- the way over the parents stops at one thread at most
pub one_stop : (periods : List (List Birth)) (id unknown other : ThreadId) → StopsAt periods id unknown → StopsAt periods id other → unknown ≡ other
one_stop periods id unknown other p q = (one_way periods id p.0 q.0 unknown other p.1 p.2 q.1 q.2).1

-- a thread has one label at most
pub one_label : (periods : List (List Birth)) (id : ThreadId) (label other : List ℕ) → HasLabel periods id label → HasLabel periods id other → label ≡ other
one_label periods id label other p q =
    sym (reverse-reverse label) ∙ (ap (λ l. reverse l) (one_way periods id (reverse label) (reverse other) root root p refl q refl).0 ∙ reverse-reverse other)

-- where the way stops, there is no label
pub label_or_stop : (periods : List (List Birth)) (id unknown : ThreadId) (label : List ℕ) → HasLabel periods id label → StopsAt periods id unknown → ⊥
label_or_stop periods id unknown label p q =
    q.3 (sym (one_way periods id (reverse label) q.0 root unknown p refl q.1 q.2).1)

-- the label of a forked thread is that of its parent with the fork's ordinal behind it
pub label_of_fork : (periods : List (List Birth)) (id : ThreadId) (birth : Birth) (label : List ℕ)
    → birth_of periods id ≡ Some birth → HasLabel periods birth.parent label → HasLabel periods id (fork_of label birth.ordinal)
label_of_fork periods id birth label is above =
    let P : List ℕ → Type 0 = λ way. Leads periods id way root in
    subst P (sym (reverse-append label (birth.ordinal ∷ []))) (birth, is, refl, above)

-- what was born is known for ever
pub birth_stays : (periods later : List (List Birth)) (id : ThreadId) (birth : Birth) → birth_of periods id ≡ Some birth → birth_of (periods ++ later) id ≡ Some birth
birth_stays periods later id birth is = birth_in_stays periods later id.period id.nth birth is
  where
    birth_in_stays : (periods later : List (List Birth)) (period nth : ℕ) (birth : Birth) → birth_in periods period nth ≡ Some birth → birth_in (periods ++ later) period nth ≡ Some birth
    birth_in_stays periods later zero nth birth is = is
    birth_in_stays [] later (suc before) nth birth is = cc
    birth_in_stays (births ∷ periods) later (suc zero) nth birth is = is
    birth_in_stays (births ∷ periods) later (suc (suc before)) nth birth is = birth_in_stays periods later (suc before) nth birth is

-- and so is the way over the parents
pub way_stays : (periods later : List (List Birth)) (id : ThreadId) (way : List ℕ) (top : ThreadId) → Leads periods id way top → Leads (periods ++ later) id way top
way_stays periods later id [] top same = same
way_stays periods later id (ordinal ∷ above) top way =
    (way.0, birth_stays periods later id way.0 way.1, way.2, way_stays periods later way.0.parent above top way.3)

-- and the label
pub label_stays : (periods later : List (List Birth)) (id : ThreadId) (label : List ℕ) → HasLabel periods id label → HasLabel (periods ++ later) id label
label_stays periods later id label way = way_stays periods later id (reverse label) root way

-- a birth of the next period, or one that was known before
birth_of_more : (periods : List (List Birth)) (births : List Birth) (period nth : ℕ) (birth : Birth) → birth_in (periods ++ births ∷ []) period nth ≡ Some birth
    → (birth_in periods period nth ≡ Some birth) ⊎ ((period ≡ length periods + 1) × (slice_get births nth ≡ Some birth))
birth_of_more periods births zero nth birth is = inl is
birth_of_more [] births (suc zero) nth birth is = inr (refl, is)
birth_of_more [] births (suc (suc more)) nth birth is = cc
birth_of_more (first ∷ periods) births (suc zero) nth birth is = inl is
birth_of_more (first ∷ periods) births (suc (suc before)) nth birth is =
    elim (birth_of_more periods births (suc before) nth birth is) [ inl old ↦ inl old | inr new ↦ inr (omega (arith, new.0), new.1) ]

-- so a thread that had a birth still has one
pub born_stays : (periods later : List (List Birth)) (id : ThreadId) → IsSome (birth_of periods id) → IsSome (birth_of (periods ++ later) id)
born_stays periods later id born = go (birth_of periods id) refl born
  where
    go : (o : Option Birth) → birth_of periods id ≡ o → IsSome o → IsSome (birth_of (periods ++ later) id)
    go None is some = cc
    go (Some birth) is some = ap (λ o. is_some o) (birth_stays periods later id birth is)

-- where births may follow, each parent still comes first
pub births_follow : (periods : List (List Birth)) (births : List Birth) → ParentsComeFirst periods → MayFollow periods births → ParentsComeFirst (periods ++ births ∷ [])
births_follow periods births first follow id birth is =
    elim (birth_of_more periods births id.period id.nth birth is) [
      | inl old ↦ elim (first id birth old) [
        | inl top ↦ inl top
        | inr born ↦ inr (born.0, born_stays periods (births ∷ []) birth.parent born.1)
      ]
      | inr new ↦ let P : ThreadId → Type 0 = λ t. ParentComesFirst (periods ++ births ∷ []) t birth in
          subst P (λ i. record { period = sym new.0 i; nth = id.nth }) (follow id.nth birth new.1)
    ]
