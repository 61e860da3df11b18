-- The two branches of a `par`: how the child begins, how its parent goes on, and what is left behind the Join.
use Rattle.std.specs.Prelude.{◌≡◌, ℕ, suc, ◌||◌, Bool, true, false, List, [], ◌∷◌, ◌++◌, length, refl}
use Rattle.std.proofs.Common.{sym, ◌∙◌, ap}
use Rattle.depth_first_list.specs.Actions as actions
use Rattle.depth_first_list.specs.Actions.{record_words}
use Rattle.par_tree.specs.Tree.{Name, par_stmt, Body}
use Rattle.depth_first_run.specs.States.{Setting, State, Item, began, next_action, with_action, child_of, parent_of, ended, given_back, taken_integers, with_result, joined, own_part_then_join, fork_join}
use Rattle.depth_first_run.specs.Run.{names_in, assigns_in, exec, exec_all, run}
use Rattle.loop_laws.specs.Outcomes.{added, KeepsLimits}
use Rattle.loop_laws.proofs.Faulting.{Tells, joined_items, joined_faulted}
use Rattle.loop_laws.proofs.Readings.{ReadTheSame, Longer, longer, longer_trans, limits_split, faulted_is}
use Rattle.loop_laws.proofs.Bodies.{depth_kept, begun}
use Rattle.loop_laws.proofs.TwoRuns.{mark_unread, action_unread, Silent, silent_same, silent_item, silent_begun, silent_longer, silent_before, both_read, fault_behind}

abbrev pub child_begins : Setting → ℕ → (Name → Bool) → State → State
child_begins c line named p = begun line (child_of c named p)

abbrev pub child_ended : State → State
child_ended d = ended record_words d

abbrev pub parent_begins : ℕ → (Name → Bool) → State → State → State
parent_begins line named d p = begun line (parent_of named (child_ended d).items p)

abbrev pub both_joined : (Name → Bool) → State → State → State → State
both_joined assigned p d q = joined assigned (suc p.forks) (child_ended d) q

pub end_of_child : (d : State) → ((child_ended d).faulted ≡ d.faulted) × ((child_ended d).store ≡ d.store) × ((child_ended d).items ≡ d.items ++ next_action actions.ends record_words d ∷ [])
unfolding ended with_action
end_of_child d = (refl, refl, refl)

-- a `par` that meets no limit
pub par_done : (c : Setting) (line : ℕ) (a b : Body) (p : State) → KeepsLimits (added p (exec c (run c) line (par_stmt a b) p))
    → exec c (run c) line (par_stmt a b) p
    ≡ joined (assigns_in a) (suc p.forks) (child_ended (exec_all c (run c) a (child_of c (names_in a) p)))
    (exec_all c (run c) b (parent_of (names_in a) (child_ended (exec_all c (run c) a (child_of c (names_in a) p))).items p))
unfolding exec fork_join own_part_then_join
par_done c line a b p kept = depth_kept (length p.label) c.most_forks line (fork_join c (names_in a) (assigns_in a) (exec_all c (run c) a) (exec_all c (run c) b)) p kept

-- nothing is read of the Fork, of the child's end and of the Join
pub child_silent : (c : Setting) (line : ℕ) (named : Name → Bool) (s p : State) → Silent s p → Silent s (child_begins c line named p)
child_silent c line named s p l =
    silent_begun line s (child_of c named p)
    (silent_item s p (child_of c named p) (next_action (actions.forks (suc p.forks)) record_words p) (action_unread (actions.forks (suc p.forks)) record_words p) refl l)

pub parent_silent : (line : ℕ) (named : Name → Bool) (p d : State) → Silent d (parent_begins line named d p)
parent_silent line named p d =
    silent_item d (child_ended d) (parent_begins line named d p) (began line) (mark_unread line) refl
    (silent_item d d (child_ended d) (next_action actions.ends record_words d) (action_unread actions.ends record_words d) (end_of_child d).2 (silent_same d d refl))

pub joint_silent : (assigned : Name → Bool) (p d q : State) → Silent q (both_joined assigned p d q)
joint_silent assigned p d q =
    let words : ℕ = given_back q.faulted (child_ended d).faulted (child_ended d) q in
    silent_item q q (both_joined assigned p d q) (next_action (actions.joins (suc p.forks)) words q) (action_unread (actions.joins (suc p.forks)) words q)
    (joined_items assigned (suc p.forks) (child_ended d) q) (silent_same q q refl)

pub joint_faulted : (assigned : Name → Bool) (p d q : State) → (both_joined assigned p d q).faulted ≡ (q.faulted || d.faulted)
joint_faulted assigned p d q = joined_faulted assigned (suc p.forks) (child_ended d) q ∙ ap (λ t. q.faulted || t) (end_of_child d).0

-- what is left behind a Join that no fault ended
joined_store : (assigned : Name → Bool) (child : ℕ) (d s : State) → s.faulted ≡ false → d.faulted ≡ false
    → ((joined assigned child d s).store ≡ record { integers = taken_integers assigned d.store.integers s.store.integers; blocks = s.store.blocks ++ d.store.blocks })
    × ((joined assigned child d s).callers ≡ s.callers)
unfolding joined with_action
joined_store assigned child d s f g =
    let t : State = with_action (actions.joins child) (given_back s.faulted d.faulted d s) s in (
      ap (λ b. (with_result b d.faulted assigned d t).store) f ∙ ap (λ b. (with_result false b assigned d t).store) g,
      ap (λ b. (with_result b d.faulted assigned d t).callers) f ∙ ap (λ b. (with_result false b assigned d t).callers) g,
    )

pub joint_store : (assigned : Name → Bool) (p d q : State) → q.faulted ≡ false → d.faulted ≡ false
    → ((both_joined assigned p d q).store
    ≡ record { integers = taken_integers assigned (child_ended d).store.integers q.store.integers; blocks = q.store.blocks ++ (child_ended d).store.blocks })
    × ((both_joined assigned p d q).callers ≡ q.callers)
joint_store assigned p d q f g = joined_store assigned (suc p.forks) (child_ended d) q f ((end_of_child d).0 ∙ g)

-- a run from s, which forks in p, where the child comes to d, its parent to q, and what follows the Join to u
module _ (c : Setting) (line : ℕ) (named assigned : Name → Bool) (s p d q u : State) (l : Silent s p)
    (told_d : Tells (child_begins c line named p) d) (told_q : Tells (parent_begins line named d p) q) (rest : Longer (both_joined assigned p d q) u) where
  abbrev child : State
  child = child_begins c line named p

  abbrev parent : State
  parent = parent_begins line named d p

  q_end : Longer q u
  q_end = longer_trans q (both_joined assigned p d q) u (silent_longer q (both_joined assigned p d q) (joint_silent assigned p d q)) rest

  parent_end : Longer parent u
  parent_end = longer_trans parent q u (longer parent q told_q) q_end

  d_end : Longer d u
  d_end = longer_trans d parent u (silent_longer d parent (parent_silent line named p d)) parent_end

  child_end : Longer child u
  child_end = longer_trans child d u (longer child d told_d) d_end

  -- the limits that the run keeps are kept by both branches
  pub branches_keep : KeepsLimits (added s u) → KeepsLimits (added child d) × KeepsLimits (added parent q)
  branches_keep ks =
      let k1 = limits_split s child u (silent_longer s child (child_silent c line named s p l)) child_end ks in
      let k2 = limits_split child d u (longer child d told_d) d_end k1.1 in
      let k3 = limits_split d parent u (silent_longer d parent (parent_silent line named p d)) parent_end k2.1 in
      let k4 = limits_split parent q u (longer parent q told_q) q_end k3.1 in
      (k2.0, k4.0)

  -- what is read of the run where the child faults
  pub child_read : d.faulted ≡ true → (ys : List Item) → ReadTheSame (added child d) ys → ReadTheSame (added s u) ys
  child_read e ys r =
      silent_before s child u ys (child_silent c line named s p l) child_end
      (fault_behind child d u ys (longer child d told_d) d_end (sym (faulted_is child d told_d refl) ∙ e) r)

  -- what is read from its parent on, where this one faults
  pub parent_read : p.faulted ≡ false → q.faulted ≡ true → (ys : List Item) → ReadTheSame (added parent q) ys → ReadTheSame (added parent u) ys
  parent_read pf e ys r = fault_behind parent q u ys (longer parent q told_q) q_end (sym (faulted_is parent q told_q pf) ∙ e) r

  -- what is read of the run, beside one from t by way of w to z
  pub branches_read : (t w z : State) → Longer t w → Longer w z → ReadTheSame (added child d) (added t w) → ReadTheSame (added parent u) (added w z)
      → ReadTheSame (added s u) (added t z)
  branches_read t w z m n r r' =
      silent_before s child u (added t z) (child_silent c line named s p l) child_end
      (both_read child d u t w z (longer child d told_d) d_end m n r (silent_before d parent u (added w z) (parent_silent line named p d) parent_end r'))
