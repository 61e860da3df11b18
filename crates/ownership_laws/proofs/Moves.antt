-- What a thread holds behind a part of its run, beside what it held before: the blocks of each name change as the
-- environments say, a block that is held on both sides keeps its length, and the live words rise by what is held more.
use Rattle.std.specs.Prelude.{◌≡◌, ℕ, zero, suc, ◌+◌, ◌≤◌, nat_lt, Bool, true, false, List, [], ◌∷◌, ◌++◌, ℤ, pos, neg_ℤ, ◌+ℤ◌, Ok, Err, refl}
use Rattle.std.proofs.Common.{sym, ◌∙◌, ap, arith, subst, append_assoc}
use Rattle.std.proofs.lemmas.Int.{ints}
use Rattle.thread_points.specs.Passed.FaultKind.{FaultKind}
use Rattle.depth_first_run.specs.Passed.Shapes.{Shape, leaf, forked}
use Rattle.depth_first_run.specs.Passed.Actions as actions
use Rattle.depth_first_run.specs.Passed.Actions.{Action, Deed, weight_of, live_words, record_words}
use Rattle.depth_first_run.specs.Passed.Tree.{Name}
use Rattle.depth_first_run.specs.Passed.Environment.{Environment}
use Rattle.depth_first_run.specs.Stores.{held_words, stored_words}
use Rattle.depth_first_run.specs.Values.{Outcome}
use Rattle.depth_first_run.specs.States
use Rattle.depth_first_run.specs.States.{Setting, State, Item, with_item, with_action, with_fault, skip_if, unless_faulted, with_number, with_turns, with_turn, under_limit, with_depth, child_of, parent_of, ended, given_back, with_result, joined, own_part_then_join, fork_join, next_action, holdings}
use Rattle.depth_first_run.specs.Run.{no_name, run_tree, actions_of, branch}
use Rattle.depth_first_run.proofs.Words.{parted_words, held_append}
use Rattle.depth_first_run.proofs.Covered.{live_append, actions_append, taking_items}
use Rattle.ownership_laws.specs.Counts.{count, held_in, seen_in}
use Rattle.ownership_laws.proofs.Counting.{count_append, count_parted}
use Rattle.ownership_laws.proofs.Environments.{Follows, seen_follows}
use Rattle.ownership_laws.specs.Holdings.{AreShort}
use Rattle.ownership_laws.proofs.Sizes.{size, size_append, size_parted}
use Rattle.ownership_laws.proofs.Short.{short_append, short_parted}

-- ---- words

abbrev pub live : List Item → ℤ
live items = live_words (actions_of items)

pub live_more : (is js : List Item) → live (is ++ js) ≡ live is +ℤ live js
live_more is js = ap live_words (actions_append is js) ∙ live_append (actions_of is) (actions_of js)

-- what is held more is what the live words rose by
pub record Exact (s t : State) : Type 0 where
  pub same : (pos (holdings t) +ℤ live s.items) ≡ (pos (holdings s) +ℤ live t.items)

pub exact_same : (s : State) → Exact s s
exact_same s = record { same = refl }

pub exact_trans : (s t u : State) → Exact s t → Exact t u → Exact s u
exact_trans s t u p q = record { same = by (pos (holdings s)) (pos (holdings t)) (pos (holdings u)) (live s.items) (live t.items) (live u.items) p.same q.same }
  where
    by : (a b c x y z : ℤ) → (b +ℤ x) ≡ (a +ℤ y) → (c +ℤ y) ≡ (b +ℤ z) → (c +ℤ x) ≡ (a +ℤ z)
    by a b c x y z e f = omega (arith, ints)

pub exact_act : (s t : State) (new : List Item) (w : ℤ) → t.items ≡ s.items ++ new → live new ≡ w → pos (holdings t) ≡ pos (holdings s) +ℤ w → Exact s t
exact_act s t new w i l h = record { same = by (pos (holdings s)) (pos (holdings t)) (live s.items) (live t.items) (live new) w (ap live i ∙ live_more s.items new) l h }
  where
    by : (a b x y z w : ℤ) → y ≡ x +ℤ z → z ≡ w → b ≡ a +ℤ w → (b +ℤ x) ≡ (a +ℤ y)
    by a b x y z w e f g = omega (arith, ints)

pub exact_quiet : (s t : State) → t.items ≡ s.items → holdings t ≡ holdings s → Exact s t
exact_quiet s t i h = record { same = by (holdings s) (holdings t) (live s.items) (live t.items) (ap live i) h }
  where
    by : (a b : ℕ) (x y : ℤ) → y ≡ x → b ≡ a → (pos b +ℤ x) ≡ (pos a +ℤ y)
    by a b x y e f = omega (arith, ints, e, f)

plus_nothing : (n : ℕ) → pos n ≡ pos n +ℤ pos 0
plus_nothing n = omega (arith, ints)

-- an item that weighs nothing
pub exact_light : (s t : State) (item : Item) → t.items ≡ s.items ++ item ∷ [] → live (item ∷ []) ≡ pos 0 → holdings t ≡ holdings s → Exact s t
exact_light s t item i l h = exact_act s t (item ∷ []) (pos 0) i l (ap pos h ∙ plus_nothing (holdings s))

pub exact_fault : (kind : FaultKind) (line : ℕ) (s : State) → Exact s (with_fault kind line s)
unfolding with_fault with_action
exact_fault kind line s =
    let words : ℕ = holdings s in
    let mark : Item = States.failed (record { kind = kind; line = line }) in
    exact_act s (with_fault kind line s) (next_action actions.faults words s ∷ mark ∷ []) (neg_ℤ (pos words))
    (append_assoc s.items (next_action actions.faults words s ∷ []) (mark ∷ [])) (nothing_more (neg_ℤ (pos words))) (gone words)
  where
    nothing_more : (z : ℤ) → (z +ℤ pos 0) ≡ z
    nothing_more z = omega (arith, ints)

    gone : (n : ℕ) → pos (0 + 0) ≡ pos n +ℤ neg_ℤ (pos n)
    gone n = omega (arith, ints)

-- ---- what is held

-- a fault ended the thread
pub record Stopped (t : State) : Type 0 where
  pub faulted : t.faulted ≡ true
  pub empty : t.store.blocks ≡ []
  pub alone : t.callers ≡ []

-- it goes on with what the environments say
pub record Moved (env after : Environment) (s t : State) : Type 0 where
  pub running : t.faulted ≡ false
  pub callers : t.callers ≡ s.callers
  pub counts : (x : Name) → count t.store.blocks x + held_in env x ≡ count s.store.blocks x + held_in after x
  pub sizes : (x : Name) → seen_in env x ≡ 1 → held_in after x ≡ 1 → size t.store.blocks x ≡ size s.store.blocks x
  pub short : AreShort s.store.blocks → AreShort t.store.blocks

pub data Way (env after : Environment) (s t : State) : Type 0 where
  stopped : Stopped t → Way env after s t
  went : Moved env after s t → Way env after s t

pub record Ran (env after : Environment) (s t : State) : Type 0 where
  pub exact : Exact s t
  pub way : Way env after s t

pub stops : (kind : FaultKind) (line : ℕ) (s : State) → Stopped (with_fault kind line s)
unfolding with_fault with_action
stops kind line s = record { faulted = refl; empty = refl; alone = refl }

pub ran_fault : (env after : Environment) (kind : FaultKind) (line : ℕ) (s : State) → Ran env after s (with_fault kind line s)
ran_fault env after kind line s = record { exact = exact_fault kind line s; way = stopped (stops kind line s) }

pub moved_same : (env : Environment) (s : State) → s.faulted ≡ false → Moved env env s s
moved_same env s f = record { running = f; callers = refl; counts = λ x. refl; sizes = λ x a b. refl; short = λ p. p }

-- a visible block is not held behind a part where it was not held before it
abbrev pub Falls : Environment → Environment → Type 0
Falls env after = (x : Name) → seen_in env x ≡ 1 → held_in after x ≤ held_in env x

pub falls_same : (env : Environment) → Falls env env
falls_same env = λ x s. omega arith

pub held_between : (env mid : Environment) (x : Name) (n : ℕ) → held_in mid x ≤ 1 → n ≤ held_in mid x → n ≡ 1 → held_in mid x ≡ 1
held_between env mid x n a b e = omega (arith, a, b, e)

pub moved_trans : (env mid after : Environment) (s t u : State) → Follows env mid → Falls mid after → ((x : Name) → held_in mid x ≤ 1) → Moved env mid s t → Moved mid after t u → Moved env after s u
moved_trans env mid after s t u f l one p q = record {
  running = q.running;
  callers = q.callers ∙ p.callers;
  counts = λ x. let a = p.counts x in let b = q.counts x in omega (arith, a, b);
  sizes = λ x v h.
      let w = seen_follows env mid x f v in
      q.sizes x w h ∙ p.sizes x v (held_between env mid x (held_in after x) (one x) (l x w) h);
  short = λ k. q.short (p.short k);
}

pub way_trans : (env mid after : Environment) (s t u : State) → Follows env mid → Falls mid after → ((x : Name) → held_in mid x ≤ 1) → Moved env mid s t → Way mid after t u → Way env after s u
way_trans env mid after s t u f l one p (stopped k) = stopped k
way_trans env mid after s t u f l one p (went m) = went (moved_trans env mid after s t u f l one p m)

-- another state before with the same store, and another environment behind that holds the same
pub moved_from : (env after : Environment) (s u t : State) → u.callers ≡ s.callers → u.store.blocks ≡ s.store.blocks → Moved env after u t → Moved env after s t
moved_from env after s u t c b m = record {
  running = m.running;
  callers = m.callers ∙ c;
  counts = λ x. m.counts x ∙ ap (λ hs. count hs x + held_in after x) b;
  sizes = λ x v h. m.sizes x v h ∙ ap (λ hs. size hs x) b;
  short = λ k. m.short (subst AreShort (sym b) k);
}

way_from : (env after : Environment) (s u t : State) → u.callers ≡ s.callers → u.store.blocks ≡ s.store.blocks → Way env after u t → Way env after s t
way_from env after s u t c b (stopped k) = stopped k
way_from env after s u t c b (went m) = went (moved_from env after s u t c b m)

pub ran_from : (env after : Environment) (s u t : State) → Exact s u → u.callers ≡ s.callers → u.store.blocks ≡ s.store.blocks → Ran env after u t → Ran env after s t
ran_from env after s u t e c b r = record { exact = exact_trans s u t e r.exact; way = way_from env after s u t c b r.way }

moved_to : (env after other : Environment) (s t : State) → ((x : Name) → held_in other x ≡ held_in after x) → Moved env after s t → Moved env other s t
moved_to env after other s t e m = record {
  running = m.running;
  callers = m.callers;
  counts = λ x. let a = m.counts x in let b = e x in omega (arith, a, b);
  sizes = λ x v h. m.sizes x v (sym (e x) ∙ h);
  short = m.short;
}

way_to : (env after other : Environment) (s t : State) → ((x : Name) → held_in other x ≡ held_in after x) → Way env after s t → Way env other s t
way_to env after other s t e (stopped k) = stopped k
way_to env after other s t e (went m) = went (moved_to env after other s t e m)

pub ran_to : (env after other : Environment) (s t : State) → ((x : Name) → held_in other x ≡ held_in after x) → Ran env after s t → Ran env other s t
ran_to env after other s t e r = record { exact = r.exact; way = way_to env after other s t e r.way }

-- ---- the combinators

pub unless_stopped : (f : State → State) (t : State) → t.faulted ≡ true → unless_faulted f t ≡ t
unfolding unless_faulted
unless_stopped f t e = ap (λ b. skip_if b f t) e

pub unless_running : (f : State → State) (t : State) → t.faulted ≡ false → unless_faulted f t ≡ f t
unfolding unless_faulted
unless_running f t e = ap (λ b. skip_if b f t) e

-- what follows where no fault ended the thread, and nothing else
pub ran_unless : (env mid after : Environment) (s t : State) (f : State → State) → Ran env mid s t → (Moved env mid s t → Exact s (f t) × Way env after s (f t)) → Ran env after s (unless_faulted f t)
ran_unless env mid after s t f r next = by r.way
  where
    by : Way env mid s t → Ran env after s (unless_faulted f t)
    by (stopped k) = subst (λ u. Ran env after s u) (sym (unless_stopped f t k.faulted)) (record { exact = r.exact; way = stopped k })
    by (went m) = subst (λ u. Ran env after s u) (sym (unless_running f t m.running)) (let n = next m in record { exact = n.0; way = n.1 })

pub ran_settled : (env after : Environment) (line : ℕ) (o : Outcome) (f : ℤ → State → State) (s : State) → ((v : ℤ) → Ran env after s (f v s)) → Ran env after s (with_number line o f s)
unfolding with_number
ran_settled env after line (Ok v) f s k = k v
ran_settled env after line (Err kind) f s k = ran_fault env after kind line s

ran_turning : (env after : Environment) (n line : ℕ) (f : State → State) (s : State) → n ≡ s.turns
    → ((left : ℕ) → s.turns ≡ suc left → Ran env after (record s { turns = left }) (f (record s { turns = left }))) → Ran env after s (with_turns n line f s)
ran_turning env after zero line f s e k = ran_fault env after _ line s
ran_turning env after (suc left) line f s e k =
    let t : State = record s { turns = left } in ran_from env after s t (f t) (exact_quiet s t refl refl) refl refl (k left (sym e))

pub ran_with_turn : (env after : Environment) (line : ℕ) (f : State → State) (s : State)
    → ((left : ℕ) → s.turns ≡ suc left → Ran env after (record s { turns = left }) (f (record s { turns = left }))) → Ran env after s (with_turn line f s)
unfolding with_turn
ran_with_turn env after line f s k = ran_turning env after s.turns line f s refl k

ran_limiting : (env after : Environment) (b : Bool) (line : ℕ) (f : State → State) (s : State) → (b ≡ true → Ran env after s (f s)) → Ran env after s (under_limit b line f s)
ran_limiting env after true line f s k = k refl
ran_limiting env after false line f s k = ran_fault env after _ line s

pub ran_with_depth : (env after : Environment) (depth most line : ℕ) (f : State → State) (s : State) → (nat_lt depth most ≡ true → Ran env after s (f s)) → Ran env after s (with_depth depth most line f s)
unfolding with_depth
ran_with_depth env after depth most line f s k = ran_limiting env after (nat_lt depth most) line f s k

pub ran_branching : (env after : Environment) (b : Bool) (f g : State → State) (s : State) → Ran env after s (f s) → Ran env after s (g s) → Ran env after s (branch f g b s)
ran_branching env after true f g s p q = p
ran_branching env after false f g s p q = q

-- ---- a Fork

-- what the child leaves and what the parent leaves make up what the thread has
abbrev pub MakeUp : (env left right after : Environment) → Type 0
MakeUp env left right after = (x : Name) → held_in left x + held_in right x ≡ held_in env x + held_in after x

abbrev pub HeldInBoth : (env left right after : Environment) → Type 0
HeldInBoth env left right after = (x : Name) → seen_in env x ≡ 1 → held_in after x ≡ 1 → (held_in left x ≡ 1) × (held_in right x ≡ 1)

-- a thread behind its part, with a child that has ended
after_join : (p q : Bool) (assigned : Name → Bool) (kid : ℕ) (d t : State) → State
after_join p q assigned kid d t = with_result p q assigned d (with_action (actions.joins kid) (given_back p q d t) t)

join_exact : (c : Setting) (named : Name → Bool) (s e q r : State) (words : ℕ)
    → Exact (child_of c named s) e → Exact (parent_of named (ended record_words e).items s) q
    → live r.items ≡ live q.items +ℤ neg_ℤ (pos words) → holdings r + words ≡ holdings q + holdings e → Exact s r
unfolding ended with_action
join_exact c named s e q r words w o l h =
    let k : State = child_of c named s in
    let p : State = parent_of named (ended record_words e).items s in
    let parted = parted_words named s.store.blocks in
    let split_is : holdings k + holdings p ≡ holdings s = omega (arith, parted) in
    let lk : live k.items ≡ live s.items +ℤ (pos 16 +ℤ pos 0) = live_more s.items (next_action (actions.forks (suc s.forks)) record_words s ∷ []) in
    let lp : live p.items ≡ live e.items +ℤ (neg_ℤ (pos 16) +ℤ pos 0) = live_more e.items (next_action actions.ends record_words e ∷ []) in
    record {
      same = by (holdings s) (holdings k) (holdings p) (holdings e) (holdings q) (holdings r) words (live s.items) (live k.items) (live p.items) (live e.items) (live q.items) (live r.items)
          split_is lk lp w.same o.same l h;
    }
  where
    by : (s k p e q r words : ℕ) (ls lk lp le lq lr : ℤ) → k + p ≡ s → lk ≡ ls +ℤ (pos 16 +ℤ pos 0) → lp ≡ le +ℤ (neg_ℤ (pos 16) +ℤ pos 0)
        → (pos e +ℤ lk) ≡ (pos k +ℤ le) → (pos q +ℤ lp) ≡ (pos p +ℤ lq) → lr ≡ lq +ℤ neg_ℤ (pos words) → r + words ≡ q + e → (pos r +ℤ ls) ≡ (pos s +ℤ lr)
    by s k p e q r words ls lk lp le lq lr a b c d f g h = omega (arith, ints, a, h)

join_live : (p q : Bool) (assigned : Name → Bool) (kid : ℕ) (d t : State) → live (State.items (after_join p q assigned kid d t)) ≡ live t.items +ℤ neg_ℤ (pos (given_back p q d t))
unfolding after_join with_action
join_live p q assigned kid d t =
    ap live (taking_items p q assigned d (with_action (actions.joins kid) (given_back p q d t) t)) ∙ live_more t.items (next_action (actions.joins kid) (given_back p q d t) t ∷ [])
    ∙ by (live t.items) (given_back p q d t)
  where
    by : (z : ℤ) (n : ℕ) → (z +ℤ (neg_ℤ (pos n) +ℤ pos 0)) ≡ z +ℤ neg_ℤ (pos n)
    by z n = omega (arith, ints)

no_words : (t : State) → Stopped t → holdings t ≡ 0
no_words t k = ap (λ hs. held_words hs + stored_words t.callers) k.empty ∙ ap (λ cs. 0 + stored_words cs) k.alone

-- the store of a child is all that it holds
own_words : (t : State) → t.callers ≡ [] → holdings t ≡ held_words t.store.blocks
own_words t e = let z : stored_words t.callers ≡ 0 = ap stored_words e in omega (arith, z)

both_went : (c : Setting) (named assigned : Name → Bool) (env left right after : Environment) (s e q : State)
    → Exact (child_of c named s) e → Exact (parent_of named (ended record_words e).items s) q → Moved env left (child_of c named s) e → Moved env right (parent_of named (ended record_words e).items s) q
    → MakeUp env left right after → HeldInBoth env left right after
    → Exact s (after_join false false assigned (suc s.forks) (ended record_words e) q) × Moved env after s (after_join false false assigned (suc s.forks) (ended record_words e) q)
unfolding after_join ended with_action
both_went c named assigned env left right after s e q we wq me mq sum both =
    let d : State = ended record_words e in
    let r : State = after_join false false assigned (suc s.forks) d q in
    let words = held_append q.store.blocks e.store.blocks in
    let alone = own_words e me.callers in (
      join_exact c named s e q r 0 we wq (join_live false false assigned (suc s.forks) d q) (omega (arith, words, alone)),
      record {
        running = mq.running;
        callers = mq.callers;
        counts = λ x.
            let a = count_append q.store.blocks e.store.blocks x in let b = count_parted named s.store.blocks x in
            let ce = me.counts x in let cq = mq.counts x in let m = sum x in omega (arith, a, b, ce, cq, m);
        sizes = λ x v h.
            let two = both x v h in
            let a = size_append q.store.blocks e.store.blocks x in let b = size_parted named s.store.blocks x in
            let ce = me.sizes x v two.0 in let cq = mq.sizes x v two.1 in omega (arith, a, b, ce, cq);
        short = λ k. let parts = short_parted named s.store.blocks k in short_append q.store.blocks e.store.blocks (mq.short parts.1) (me.short parts.0);
      },
    )

true_or_false : {P : Type 0} (b : Bool) → b ≡ true → b ≡ false → P
true_or_false true t f = let never : ⊥ = cc in absurd never
true_or_false false t f = let never : ⊥ = cc in absurd never

child_alone : (c : Setting) (named : Name → Bool) (env left : Environment) (s e : State) → Way env left (child_of c named s) e → e.callers ≡ []
child_alone c named env left s e (stopped k) = k.alone
child_alone c named env left s e (went m) = m.callers

join_ran : (c : Setting) (named assigned : Name → Bool) (env left right after : Environment) (s e q : State)
    → Exact (child_of c named s) e → Exact (parent_of named (ended record_words e).items s) q → Way env left (child_of c named s) e → Way env right (parent_of named (ended record_words e).items s) q
    → MakeUp env left right after → HeldInBoth env left right after
    → (x : Bool) → q.faulted ≡ x → (y : Bool) → e.faulted ≡ y
    → Ran env after s (after_join x y assigned (suc s.forks) (ended record_words e) q)
unfolding after_join ended with_action
join_ran c named assigned env left right after s e q we wq ve (went mq) sum both true f y g = true_or_false q.faulted f mq.running
join_ran c named assigned env left right after s e q we wq ve (stopped k) sum both true f y g =
    let d : State = ended record_words e in
    let r : State = after_join true y assigned (suc s.forks) d q in
    let alone = own_words e (child_alone c named env left s e ve) in
    record {
      exact = join_exact c named s e q r (held_words e.store.blocks) we wq (join_live true y assigned (suc s.forks) d q) (omega (arith, alone));
      way = stopped (record { faulted = k.faulted; empty = k.empty; alone = k.alone });
    }
join_ran c named assigned env left right after s e q we wq ve (stopped k) sum both false f y g = true_or_false q.faulted k.faulted f
join_ran c named assigned env left right after s e q we wq (went me) (went mq) sum both false f true g = true_or_false e.faulted g me.running
join_ran c named assigned env left right after s e q we wq (stopped k) (went mq) sum both false f true g =
    let d : State = ended record_words e in
    let r : State = after_join false true assigned (suc s.forks) d q in
    let none = no_words e k in
    record {
      exact = join_exact c named s e q r (holdings q) we wq (join_live false true assigned (suc s.forks) d q) (omega (arith, none));
      way = stopped (record { faulted = refl; empty = refl; alone = refl });
    }
join_ran c named assigned env left right after s e q we wq (stopped k) (went mq) sum both false f false g = true_or_false e.faulted k.faulted g
join_ran c named assigned env left right after s e q we wq (went me) (went mq) sum both false f false g =
    let r = both_went c named assigned env left right after s e q we wq me mq sum both in record { exact = r.0; way = went r.1 }

pub ran_forking : (c : Setting) (named assigned : Name → Bool) (env left right after : Environment) (work own : State → State) (s : State)
    → Ran env left (child_of c named s) (work (child_of c named s))
    → ((items : List Item) → Ran env right (parent_of named items s) (own (parent_of named items s)))
    → MakeUp env left right after → HeldInBoth env left right after
    → Ran env after s (fork_join c named assigned work own s)
unfolding fork_join own_part_then_join joined ended with_action after_join
ran_forking c named assigned env left right after work own s w o sum both =
    let e : State = work (child_of c named s) in
    let d : State = ended record_words e in
    let p = o d.items in
    let q : State = own (parent_of named d.items s) in
    join_ran c named assigned env left right after s e q w.exact p.exact w.way p.way sum both q.faulted refl e.faulted refl

-- a tree of dummies changes nothing that is held, and never faults
pub tree_went : (c : Setting) (shape : Shape) (env : Environment) (s : State) → s.faulted ≡ false → Exact s (run_tree c shape s) × Moved env env s (run_tree c shape s)
unfolding run_tree fork_join own_part_then_join joined ended with_action after_join
tree_went c leaf env s f = (
  exact_light s (run_tree c leaf s) (next_action actions.dummy 0 s) refl refl refl,
  record { running = f; callers = refl; counts = λ x. refl; sizes = λ x a b. refl; short = λ p. p },
)
tree_went c (forked child own) env s f =
    let k : State = child_of c no_name s in
    let w = tree_went c child env k refl in
    let e : State = run_tree c child k in
    let d : State = ended record_words e in
    let p : State = parent_of no_name d.items s in
    let o = tree_went c own env p f in
    let q : State = run_tree c own p in
    let r = both_went c no_name no_name env env env env s e q w.0 o.0 w.1 o.1 (λ x. refl) (λ x a b. (b, b)) in
    let same : fork_join c no_name no_name (run_tree c child) (run_tree c own) s ≡ after_join false false no_name (suc s.forks) d q =
    ap (λ t. after_join t e.faulted no_name (suc s.forks) d q) (o.1).running ∙ ap (λ t. after_join false t no_name (suc s.forks) d q) (w.1).running in
    subst (λ t. Exact s t × Moved env env s t) (sym same) r
