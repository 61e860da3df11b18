-- A run that keeps the rules leaves of each name one block at most, and none that is too long, if this was so before.
use Rattle.std.specs.Prelude.{◌≡◌, ℕ, ◌+◌, ◌≤◌, Bool, true, false, [], ◌⊎◌, refl}
use Rattle.std.proofs.Common.{inl, inr, sym, ◌∙◌, ap, arith, subst}
use Rattle.depth_first_run.specs.Passed.Shapes.{Shape}
use Rattle.depth_first_run.specs.Passed.Tree.{Name, Body}
use Rattle.depth_first_run.specs.Passed.Names.{names_in_body}
use Rattle.depth_first_run.specs.Passed.Environment.{Environment}
use Rattle.depth_first_run.specs.Passed.Ownership.{OwnsAll, OwnsFunctions}
use Rattle.depth_first_run.specs.Stores.{Store}
use Rattle.depth_first_run.specs.States.{Setting, State}
use Rattle.depth_first_run.specs.Run.{run, run_tree}
use Rattle.depth_first_run.proofs.Fixed.{run_fixed}
use Rattle.thread_points.specs.Points.{Each}
use Rattle.ownership_laws.specs.Counts.{hit, count, held_in}
use Rattle.ownership_laws.proofs.Counting.{by_names, hit_same, hit_other, none_counted}
use Rattle.ownership_laws.proofs.Environments.{held_at_most_one}
use Rattle.ownership_laws.proofs.Tame.{tame_all}
use Rattle.ownership_laws.proofs.Moves.{Moved, Way, stopped, went, tree_went}
use Rattle.ownership_laws.proofs.Statements.{Agrees}
use Rattle.ownership_laws.proofs.Owned.{all_stopped, ran_run}
use Rattle.ownership_laws.proofs.Fitting.{FitsBody, body_over, body_fits}
use Rattle.ownership_laws.specs.Holdings.{OneEach, AreShort, NoneTooLong}

-- of each name one block at most, and no block that is too long
abbrev pub IsSingle : Store → Type 0
IsSingle st = OneEach st × NoneTooLong st

-- what a thread can reach, and what its callers keep
abbrev pub Single : State → Type 0
Single s = IsSingle s.store × Each IsSingle s.callers

pub single_empty : (t : State) → t.store.blocks ≡ [] → t.callers ≡ [] → Single t
single_empty t blocks callers =
    ((λ x. let z : count t.store.blocks x ≡ 0 = ap (λ hs. count hs x) blocks ∙ none_counted x in omega (arith, z), subst AreShort (sym blocks) tt), subst (λ cs. Each IsSingle cs) (sym callers) tt)

-- the same blocks and callers
pub single_same : (s t : State) → ((x : Name) → count t.store.blocks x ≡ count s.store.blocks x) → (AreShort s.store.blocks → AreShort t.store.blocks) → t.callers ≡ s.callers → Single s → Single t
single_same s t counts short callers p = ((λ x. let c = counts x in let o = p.0.0 x in omega (arith, c, o), short p.0.1), subst (λ cs. Each IsSingle cs) (sym callers) p.1)

-- a block put where none is
pub put_one : (f : Name → ℕ) (b : Name) → f b ≡ 0 → ((x : Name) → f x ≤ 1) → (x : Name) → f x + hit b x ≤ 1
put_one f b none one x =
    by_names (λ (b : Name) (x : Name). f b ≡ 0 → f x ≤ 1 → f x + hit b x ≤ 1) b x
    (λ y z o. let h = hit_same y in omega (arith, h, z)) (λ d z o. let h = hit_other b x d in omega (arith, h, o)) none (one x)

-- behind a part of a run: a name has as many blocks as the environment says, or as many as before
single_moved : (env after : Environment) (s t : State) → Moved env after s t → ((x : Name) → (count s.store.blocks x ≡ held_in env x) ⊎ (held_in after x ≡ held_in env x)) → Single s → Single t
single_moved env after s t m known p = ((λ x. by x (known x), m.short p.0.1), subst (λ cs. Each IsSingle cs) (sym m.callers) p.1)
  where
    by : (x : Name) → (count s.store.blocks x ≡ held_in env x) ⊎ (held_in after x ≡ held_in env x) → count t.store.blocks x ≤ 1
    by x (inl e) = let c = m.counts x in let o = held_at_most_one after x in omega (arith, c, e, o)
    by x (inr e) = let c = m.counts x in let o = p.0.0 x in omega (arith, c, e, o)

single_way : (c : Setting) (b : Body) (env after : Environment) (s t : State) → OwnsAll c.program b env after → Agrees (λ x. names_in_body x b) env s.store → Way env after s t → Single s → Single t
unfolding Agrees
single_way c b env after s t owns agrees (stopped k) p = single_empty t k.empty k.alone
single_way c b env after s t owns agrees (went m) p = single_moved env after s t m (λ x. by x (names_in_body x b) refl) p
  where
    by : (x : Name) → (v : Bool) → names_in_body x b ≡ v → (count s.store.blocks x ≡ held_in env x) ⊎ (held_in after x ≡ held_in env x)
    by x true n = inl (agrees x n)
    by x false n = inr ((tame_all c.program b env after x owns).kept n)

-- a thread that a fault ended does nothing
run_stopped : (c : Setting) (b : Body) (s : State) → s.faulted ≡ true → run c b s ≡ s
run_stopped c b s f = run_fixed c b s ∙ all_stopped c b s f

single_over : (c : Setting) (b : Body) (s : State) → s.faulted ≡ true → Single s → Single (run c b s)
single_over c b s f p = subst Single (sym (run_stopped c b s f)) p

pub single_run : (c : Setting) → OwnsFunctions c.program c.program → (b : Body) (s : State) → FitsBody c b s → Single s → Single (run c b s)
single_run c all b s (body_over k) p = single_over c b s k p
single_run c all b s (body_fits env after owns agrees) p = by s.faulted refl
  where
    by : (v : Bool) → s.faulted ≡ v → Single (run c b s)
    by true e = single_over c b s e p
    by false e = single_way c b env after s (run c b s) owns agrees (ran_run c all b env after s owns e agrees).way p

-- a tree of dummies leaves the store as it is
pub single_tree : (c : Setting) (shape : Shape) (s : State) → s.faulted ≡ false → Single s → Single (run_tree c shape s)
single_tree c shape s f p =
    let m : Moved [] [] s (run_tree c shape s) = (tree_went c shape [] s f).1 in
    single_same s (run_tree c shape s) (λ x. let n = m.counts x in omega (arith, n)) m.short m.callers p
