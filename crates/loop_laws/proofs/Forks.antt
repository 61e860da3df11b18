-- A Fork in both: the children come to the same, since each begins without callers, and so do the parents' own parts.
use Rattle.std.specs.Prelude.{◌≡◌, ℕ, suc, ◌+◌, Bool, true, false, List, [], ◌∷◌, ◌++◌, ℤ, pos, neg_ℤ, ◌+ℤ◌, ◌≤ℤ◌, refl}
use Rattle.std.proofs.Common.{sym, ◌∙◌, ap, arith, subst, append_assoc}
use Rattle.std.proofs.lemmas.Int.{ints}
use Rattle.depth_first_list.specs.Shapes.{Shape, leaf, forked}
use Rattle.depth_first_list.specs.Actions as actions
use Rattle.depth_first_list.specs.Actions.{record_words}
use Rattle.par_tree.specs.Tree.{Name}
use Rattle.depth_first_run.specs.Stores.{Store, held_words, stored_words, those_named, those_not_named}
use Rattle.depth_first_run.specs.States.{Setting, State, Item, acted, with_action, child_of, parent_of, ended, given_back, taken_integers, with_result, joined, own_part_then_join, fork_join, next_action, holdings}
use Rattle.depth_first_run.specs.Run.{no_name, run_tree}
use Rattle.depth_first_run.proofs.Keeping.{Keeps, running_tree_keeps}
use Rattle.ownership_laws.proofs.Moves.{live, live_more}
use Rattle.loop_laws.specs.Outcomes.{marks_of, added, KeepsLimits}
use Rattle.loop_laws.proofs.Lists.{limits_front, limits_back, top, Alike, alike_append, alike_giving, live_both, added_is, added_all}
use Rattle.loop_laws.proofs.Ways.{Way, stopped, went, Like, Same, Begins, same_acting}

-- ---- a child that has ended joins its parent

-- the parent behind its own part, where the flags say whether a fault ended it, and its child
after_join : (parent child : Bool) → (Name → Bool) → ℕ → State → State → State
after_join p k assigned kid e q = with_result p k assigned e (with_action (actions.joins kid) (given_back p k e q) q)

join_of : (parent child : Bool) → ℕ → State → State → Item
join_of p k kid e q = next_action (actions.joins kid) (given_back p k e q) q

joined_is : (p k : Bool) (assigned : Name → Bool) (kid : ℕ) (e q : State) → q.faulted ≡ p → e.faulted ≡ k
    → joined assigned kid (ended record_words e) q ≡ after_join p k assigned kid (ended record_words e) q
unfolding joined after_join ended with_action
joined_is p k assigned kid e q f g =
    ap (λ b. with_result b e.faulted assigned (ended record_words e) (with_action (actions.joins kid) (given_back b e.faulted (ended record_words e) q) q)) f
    ∙ ap (λ b. with_result p b assigned (ended record_words e) (with_action (actions.joins kid) (given_back p b (ended record_words e) q) q)) g

join_items : (p k : Bool) (assigned : Name → Bool) (kid : ℕ) (e q : State) → State.items (after_join p k assigned kid e q) ≡ q.items ++ join_of p k kid e q ∷ []
unfolding after_join join_of with_action
join_items true k assigned kid e q = refl
join_items false true assigned kid e q = refl
join_items false false assigned kid e q = refl

-- ---- what a Fork adds

-- what stands before the own part
before_own : Setting → (Name → Bool) → State → State → List Item
before_own c named s e = (next_action (actions.forks (suc s.forks)) record_words s ∷ added (child_of c named s) e) ++ next_action actions.ends record_words e ∷ []

own_start : (Name → Bool) → State → State → State
own_start named s e = parent_of named (ended record_words e).items s

fork_adds : (c : Setting) (named assigned : Name → Bool) (s e q : State) (p k : Bool) → Keeps (child_of c named s) e → Keeps (own_start named s e) q
    → State.items (after_join p k assigned (suc s.forks) (ended record_words e) q)
    ≡ s.items ++ (before_own c named s e ++ (added (own_start named s e) q ++ join_of p k (suc s.forks) (ended record_words e) q ∷ []))
unfolding before_own own_start ended with_action
fork_adds c named assigned s e q p k ke kq =
    let fork : Item = next_action (actions.forks (suc s.forks)) record_words s in
    let end : Item = next_action actions.ends record_words e in
    let join : Item = join_of p k (suc s.forks) (ended record_words e) q in
    let child : List Item = added (child_of c named s) e in
    let own : List Item = added (own_start named s e) q in
    let e_items : e.items ≡ s.items ++ (fork ∷ child) =
    added_all (child_of c named s) e ke ∙ append_assoc s.items (fork ∷ []) child in
    let ended_items : e.items ++ end ∷ [] ≡ s.items ++ ((fork ∷ child) ++ end ∷ []) =
    ap (λ items. items ++ end ∷ []) e_items ∙ append_assoc s.items (fork ∷ child) (end ∷ []) in
    let q_items : q.items ≡ s.items ++ (((fork ∷ child) ++ end ∷ []) ++ own) =
    added_all (own_start named s e) q kq ∙ ap (λ items. items ++ own) ended_items ∙ append_assoc s.items ((fork ∷ child) ++ end ∷ []) own in
    join_items p k assigned (suc s.forks) (ended record_words e) q
    ∙ ap (λ items. items ++ join ∷ []) q_items
    ∙ append_assoc s.items (((fork ∷ child) ++ end ∷ []) ++ own) (join ∷ [])
    ∙ ap (λ items. s.items ++ items) (append_assoc ((fork ∷ child) ++ end ∷ []) own (join ∷ []))

-- ---- the children

-- a child has no callers, so its words rise by the same however it ends
child_rises : (s s' t t' : State) → s.callers ≡ [] → t.callers ≡ [] → Way s s' t t' → live (added s s') ≡ live (added t t')
child_rises s s' t t' a b (went m) = m.rises
child_rises s s' t t' a b (stopped m) =
    plain (stored_words s.callers) (stored_words t.callers) (live (added s s')) (live (added t t')) (ap stored_words a) (ap stored_words b) m.rises
  where
    plain : (m n : ℕ) (x y : ℤ) → m ≡ 0 → n ≡ 0 → (pos m +ℤ x) ≡ (pos n +ℤ y) → x ≡ y
    plain m n x y p q e = omega (arith, ints, p, q)

-- what a child brings is the same
child_store : (s s' t t' : State) → Way s s' t t' → s'.store ≡ t'.store
child_store s s' t t' (went m) = m.store
child_store s s' t t' (stopped m) = m.left_store ∙ sym m.right_store

before_alike : (c : Setting) (named : Name → Bool) (s t e e' : State) → Like (child_of c named s) e (child_of c named t) e'
    → Alike (before_own c named s e) (before_own c named t e') × (live (before_own c named s e) ≡ live (before_own c named t e'))
unfolding before_own
before_alike c named s t e e' k =
    let fork : Item = next_action (actions.forks (suc s.forks)) record_words s in
    let fork' : Item = next_action (actions.forks (suc t.forks)) record_words t in
    let end : Item = next_action actions.ends record_words e in
    let end' : Item = next_action actions.ends record_words e' in
    let child : List Item = added (child_of c named s) e in
    let child' : List Item = added (child_of c named t) e' in
    let rises : live child ≡ live child' = child_rises (child_of c named s) e (child_of c named t) e' refl refl k.way in
    let two : Alike ((fork ∷ []) ++ child) ((fork' ∷ []) ++ child') =
    alike_append (fork ∷ []) child (fork' ∷ []) child' (record { told = refl; highest = refl }) refl k.alike in
    let two_rise : live ((fork ∷ []) ++ child) ≡ live ((fork' ∷ []) ++ child') = live_both (fork ∷ []) child (fork' ∷ []) child' refl rises in (
      alike_append (fork ∷ child) (end ∷ []) (fork' ∷ child') (end' ∷ []) two two_rise (record { told = refl; highest = refl }),
      live_both (fork ∷ child) (end ∷ []) (fork' ∷ child') (end' ∷ []) two_rise refl,
    )

-- ---- the whole Fork

gives_nothing_more : (n : ℕ) → neg_ℤ (pos n) ≤ℤ pos 0
gives_nothing_more n = omega (arith, ints)

-- the lists of both, where the own parts are told the same
fork_alike : (c : Setting) (named : Name → Bool) (s t e e' q q' : State) (p k p' k' : Bool)
    → Alike (before_own c named s e) (before_own c named t e') × (live (before_own c named s e) ≡ live (before_own c named t e'))
    → Alike (added (own_start named s e) q) (added (own_start named t e') q')
    → Alike (before_own c named s e ++ (added (own_start named s e) q ++ join_of p k (suc s.forks) (ended record_words e) q ∷ []))
    (before_own c named t e' ++ (added (own_start named t e') q' ++ join_of p' k' (suc t.forks) (ended record_words e') q' ∷ []))
unfolding join_of
fork_alike c named s t e e' q q' p k p' k' b own =
    let join : actions.Action = record { label = q.label; index = q.done; deed = actions.joins (suc s.forks); words = given_back p k (ended record_words e) q } in
    let join' : actions.Action = record { label = q'.label; index = q'.done; deed = actions.joins (suc t.forks); words = given_back p' k' (ended record_words e') q' } in
    alike_append (before_own c named s e) (added (own_start named s e) q ++ acted join ∷ []) (before_own c named t e') (added (own_start named t e') q' ++ acted join' ∷ [])
    b.0 b.1
    (alike_giving (added (own_start named s e) q) (added (own_start named t e') q') join join'
    (gives_nothing_more (given_back p k (ended record_words e) q)) (gives_nothing_more (given_back p' k' (ended record_words e') q')) own)

-- by how much the words live in the whole Fork
fork_rise : (c : Setting) (named : Name → Bool) (s e q : State) (p k : Bool)
    → live (before_own c named s e ++ (added (own_start named s e) q ++ join_of p k (suc s.forks) (ended record_words e) q ∷ []))
    ≡ live (before_own c named s e) +ℤ (live (added (own_start named s e) q) +ℤ neg_ℤ (pos (given_back p k (ended record_words e) q)))
unfolding join_of
fork_rise c named s e q p k =
    let before : List Item = before_own c named s e in
    let own : List Item = added (own_start named s e) q in
    let join : Item = next_action (actions.joins (suc s.forks)) (given_back p k (ended record_words e) q) q in
    live_more before (own ++ join ∷ [])
    ∙ ap (λ z. live before +ℤ z) (live_more own (join ∷ []) ∙ ap (λ z. live own +ℤ z) (alone (neg_ℤ (pos (given_back p k (ended record_words e) q)))))
  where
    alone : (z : ℤ) → (z +ℤ pos 0) ≡ z
    alone z = omega (arith, ints)

-- the words that both give back at the Join
given_held : (e e' : State) → e.store ≡ e'.store → held_words e.store.blocks ≡ held_words e'.store.blocks
given_held e e' same = ap (λ (st : Store). held_words st.blocks) same

-- what both have behind the Join, by how the own parts and the children ended
way_behind : (c : Setting) (named assigned : Name → Bool) (s t e e' q q' : State)
    → Keeps (child_of c named s) e → Keeps (own_start named s e) q → Keeps (child_of c named t) e' → Keeps (own_start named t e') q'
    → live (before_own c named s e) ≡ live (before_own c named t e')
    → Way (own_start named s e) q (own_start named t e') q' → Way (child_of c named s) e (child_of c named t) e'
    → Way s (joined assigned (suc s.forks) (ended record_words e) q) t (joined assigned (suc t.forks) (ended record_words e') q')
unfolding own_start after_join ended with_action
way_behind c named assigned s t e e' q q' ke kq ke' kq' before own child = by own child
  where
    -- the result by the flags, and by how much the words live to it
    risen : (p k : Bool) (s e q : State) → Keeps (child_of c named s) e → Keeps (own_start named s e) q
        → live (added s (after_join p k assigned (suc s.forks) (ended record_words e) q))
        ≡ live (before_own c named s e) +ℤ (live (added (own_start named s e) q) +ℤ neg_ℤ (pos (given_back p k (ended record_words e) q)))
    risen p k s e q ke kq =
        ap live (added_is s (after_join p k assigned (suc s.forks) (ended record_words e) q)
        (before_own c named s e ++ (added (own_start named s e) q ++ join_of p k (suc s.forks) (ended record_words e) q ∷ []))
        (fork_adds c named assigned s e q p k ke kq))
        ∙ fork_rise c named s e q p k

    moved : (p k p' k' : Bool) → q.faulted ≡ p → e.faulted ≡ k → q'.faulted ≡ p' → e'.faulted ≡ k'
        → Way s (after_join p k assigned (suc s.forks) (ended record_words e) q) t (after_join p' k' assigned (suc t.forks) (ended record_words e') q')
        → Way s (joined assigned (suc s.forks) (ended record_words e) q) t (joined assigned (suc t.forks) (ended record_words e') q')
    moved p k p' k' a b a' b' w =
        subst (λ r. Way s r t (joined assigned (suc t.forks) (ended record_words e') q')) (sym (joined_is p k assigned (suc s.forks) e q a b))
        (subst (λ r. Way s (after_join p k assigned (suc s.forks) (ended record_words e) q) t r) (sym (joined_is p' k' assigned (suc t.forks) e' q' a' b')) w)

    -- a fault ended the own part
    own_stopped : (h n : ℕ) (a b o a' o' : ℤ) (m k : ℕ) → a ≡ b +ℤ (o +ℤ neg_ℤ (pos m)) → a' ≡ b +ℤ (o' +ℤ neg_ℤ (pos k)) → m ≡ k
        → (pos h +ℤ o) ≡ (pos n +ℤ o') → (pos h +ℤ a) ≡ (pos n +ℤ a')
    own_stopped h n a b o a' o' m k p q same e = omega (arith, ints, same)

    -- a fault ended the child
    child_stopped : (h n : ℕ) (a b o a' : ℤ) (m k x y : ℕ) → a ≡ b +ℤ (o +ℤ neg_ℤ (pos (m + x))) → a' ≡ b +ℤ (o +ℤ neg_ℤ (pos (k + y))) → m ≡ k → x ≡ h → y ≡ n
        → (pos h +ℤ a) ≡ (pos n +ℤ a')
    child_stopped h n a b o a' m k x y p q same i j = omega (arith, ints, same, i, j)

    by : Way (own_start named s e) q (own_start named t e') q' → Way (child_of c named s) e (child_of c named t) e'
        → Way s (joined assigned (suc s.forks) (ended record_words e) q) t (joined assigned (suc t.forks) (ended record_words e') q')
    by (stopped m) child =
        moved true e.faulted true e'.faulted m.left refl m.right refl
        (stopped (record {
          left = m.left;
          right = m.right;
          left_store = m.left_store;
          right_store = m.right_store;
          left_callers = m.left_callers;
          right_callers = m.right_callers;
          rises = own_stopped (stored_words s.callers) (stored_words t.callers)
              (live (added s (after_join true e.faulted assigned (suc s.forks) (ended record_words e) q)))
              (live (before_own c named s e)) (live (added (own_start named s e) q))
              (live (added t (after_join true e'.faulted assigned (suc t.forks) (ended record_words e') q')))
              (live (added (own_start named t e') q')) (held_words e.store.blocks) (held_words e'.store.blocks)
              (risen true e.faulted s e q ke kq)
              (risen true e'.faulted t e' q' ke' kq' ∙ ap (λ z. z +ℤ (live (added (own_start named t e') q') +ℤ neg_ℤ (pos (held_words e'.store.blocks)))) (sym before))
              (given_held e e' (child_store (child_of c named s) e (child_of c named t) e' child)) m.rises;
        }))
    by (went m) (stopped n) =
        moved false true false true m.left n.left m.right n.right
        (stopped (record {
          left = refl;
          right = refl;
          left_store = refl;
          right_store = refl;
          left_callers = refl;
          right_callers = refl;
          rises = child_stopped (stored_words s.callers) (stored_words t.callers)
              (live (added s (after_join false true assigned (suc s.forks) (ended record_words e) q)))
              (live (before_own c named s e)) (live (added (own_start named s e) q))
              (live (added t (after_join false true assigned (suc t.forks) (ended record_words e') q')))
              (held_words q.store.blocks) (held_words q'.store.blocks) (stored_words q.callers) (stored_words q'.callers)
              (risen false true s e q ke kq)
              (risen false true t e' q' ke' kq'
              ∙ ap (λ z. z +ℤ (live (added (own_start named t e') q') +ℤ neg_ℤ (pos (holdings q')))) (sym before)
              ∙ ap (λ z. live (before_own c named s e) +ℤ (z +ℤ neg_ℤ (pos (holdings q')))) (sym m.rises))
              (given_held q q' m.store) (ap stored_words m.left_back.callers) (ap stored_words m.right_back.callers);
        }))
    by (went m) (went n) =
        moved false false false false m.left n.left m.right n.right
        (went (record {
          left = m.left;
          right = m.right;
          store = λ i. record {
            integers = taken_integers assigned (n.store i).integers (m.store i).integers;
            blocks = (m.store i).blocks ++ (n.store i).blocks;
          };
          left_back = record { label = m.left_back.label; callers = m.left_back.callers; calls = m.left_back.calls };
          right_back = record { label = m.right_back.label; callers = m.right_back.callers; calls = m.right_back.calls };
          rises = risen false false s e q ke kq
              ∙ ap (λ z. z +ℤ (live (added (own_start named s e) q) +ℤ neg_ℤ (pos 0))) before
              ∙ ap (λ z. live (before_own c named t e') +ℤ (z +ℤ neg_ℤ (pos 0))) m.rises
              ∙ sym (risen false false t e' q' ke' kq');
        }))

-- the limits that the whole Fork keeps its child and its own part keep
fork_limits : (c : Setting) (named : Name → Bool) (s e q : State) (join : Item) → KeepsLimits (before_own c named s e ++ (added (own_start named s e) q ++ join ∷ []))
    → KeepsLimits (added (child_of c named s) e) × KeepsLimits (added (own_start named s e) q)
unfolding before_own
fork_limits c named s e q join k =
    let fork : Item = next_action (actions.forks (suc s.forks)) record_words s in
    let end : Item = next_action actions.ends record_words e in
    let own : List Item = added (own_start named s e) q in
    let front : KeepsLimits (before_own c named s e) = limits_front (before_own c named s e) (own ++ join ∷ []) k in
    let child : KeepsLimits (fork ∷ added (child_of c named s) e) = limits_front (fork ∷ added (child_of c named s) e) (end ∷ []) front in
    let back : KeepsLimits (own ++ join ∷ []) = limits_back (before_own c named s e) (own ++ join ∷ []) k in
    (child, limits_front own (join ∷ []) back)

pub child_begins : (c : Setting) (named : Name → Bool) (s t : State) → Begins s t → Begins (child_of c named s) (child_of c named t)
child_begins c named s t b = record {
  store = ap (λ (st : Store). let r : Store = record { integers = st.integers; blocks = those_named named st.blocks } in r) b.store;
  left = refl;
  right = refl;
}

pub parent_begins : (named : Name → Bool) (items items' : List Item) (s t : State) → Begins s t → Begins (parent_of named items s) (parent_of named items' t)
parent_begins named items items' s t b = record {
  store = ap (λ (st : Store). let r : Store = record { integers = st.integers; blocks = those_not_named named st.blocks } in r) b.store;
  left = b.left;
  right = b.right;
}

-- A Fork: the children come to the same, and the own parts behind them.
pub same_fork : (c : Setting) (named assigned : Name → Bool) (work own : State → State) (s t : State)
    → ((u : State) → Keeps u (work u)) → ((u : State) → Keeps u (own u))
    → Same (child_of c named s) (work (child_of c named s)) (child_of c named t) (work (child_of c named t))
    → ((items items' : List Item) → Same (parent_of named items s) (own (parent_of named items s)) (parent_of named items' t) (own (parent_of named items' t)))
    → Same s (fork_join c named assigned work own s) t (fork_join c named assigned work own t)
unfolding fork_join own_part_then_join own_start
same_fork c named assigned work own s t kw ko child parent = λ kl kr.
    let e : State = work (child_of c named s) in
    let e' : State = work (child_of c named t) in
    let p : State = own_start named s e in
    let p' : State = own_start named t e' in
    let q : State = own p in
    let q' : State = own p' in
    let r : State = joined assigned (suc s.forks) (ended record_words e) q in
    let r' : State = joined assigned (suc t.forks) (ended record_words e') q' in
    let join : Item = join_of q.faulted e.faulted (suc s.forks) (ended record_words e) q in
    let join' : Item = join_of q'.faulted e'.faulted (suc t.forks) (ended record_words e') q' in
    let l : added s r ≡ before_own c named s e ++ (added p q ++ join ∷ []) =
    added_is s r (before_own c named s e ++ (added p q ++ join ∷ []))
    (ap State.items (joined_is q.faulted e.faulted assigned (suc s.forks) e q refl refl)
    ∙ fork_adds c named assigned s e q q.faulted e.faulted (kw (child_of c named s)) (ko p)) in
    let l' : added t r' ≡ before_own c named t e' ++ (added p' q' ++ join' ∷ []) =
    added_is t r' (before_own c named t e' ++ (added p' q' ++ join' ∷ []))
    (ap State.items (joined_is q'.faulted e'.faulted assigned (suc t.forks) e' q' refl refl)
    ∙ fork_adds c named assigned t e' q' q'.faulted e'.faulted (kw (child_of c named t)) (ko p')) in
    let k = fork_limits c named s e q join (subst KeepsLimits l kl) in
    let k' = fork_limits c named t e' q' join' (subst KeepsLimits l' kr) in
    let one : Like (child_of c named s) e (child_of c named t) e' = child k.0 k'.0 in
    let two : Like p q p' q' = parent (ended record_words e).items (ended record_words e').items k.1 k'.1 in
    let before = before_alike c named s t e e' one in
    let all = fork_alike c named s t e e' q q' q.faulted e.faulted q'.faulted e'.faulted before two.alike in
    record {
      alike = record { told = ap marks_of l ∙ all.told ∙ sym (ap marks_of l'); highest = ap top l ∙ all.highest ∙ sym (ap top l') };
      way = way_behind c named assigned s t e e' q q' (kw (child_of c named s)) (ko p) (kw (child_of c named t)) (ko p') before.1 two.way one.way;
    }

-- ---- trees of dummies

pub same_tree : (c : Setting) (shape : Shape) (s t : State) → Begins s t → Same s (run_tree c shape s) t (run_tree c shape t)
unfolding run_tree with_action
same_tree c leaf s t b = same_acting actions.dummy 0 0 s t s.store t.store b refl b.store
same_tree c (forked child own) s t b =
    same_fork c no_name no_name (run_tree c child) (run_tree c own) s t (running_tree_keeps c child) (running_tree_keeps c own)
    (same_tree c child (child_of c no_name s) (child_of c no_name t) (child_begins c no_name s t b))
    (λ items items'. same_tree c own (parent_of no_name items s) (parent_of no_name items' t) (parent_begins no_name items items' s t b))

-- no fault comes in a tree
pub tree_runs : (c : Setting) (shape : Shape) (s : State) → s.faulted ≡ false → State.faulted (run_tree c shape s) ≡ false
unfolding run_tree fork_join own_part_then_join with_action after_join own_start
tree_runs c leaf s f = f
tree_runs c (forked child own) s f =
    let e : State = run_tree c child (child_of c no_name s) in
    let q : State = run_tree c own (own_start no_name s e) in
    let fe = tree_runs c child (child_of c no_name s) refl in
    let fq = tree_runs c own (own_start no_name s e) f in
    ap State.faulted (joined_is false false no_name (suc s.forks) e q fq fe) ∙ fq
