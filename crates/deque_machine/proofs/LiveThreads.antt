-- What is known of live threads.
use Rattle.std.proofs.Common.{◌≡◌, ◌≢◌, ℕ, suc, ◌≤◌, ◌<◌, List, ◌∷◌, ◌++◌, length, inl, inr, sym, ap, subst, ◌∙◌, arith}
use Rattle.std.proofs.lemmas.Bool.{cases_order}
use Rattle.dag_order.specs.LabelOrder.{fork_of, StemsFromForkOn}
use Rattle.depth_first_run.specs.Passed.Actions.{Deed, forks, joins, ends, Action}
use Rattle.depth_first_run.specs.Passed.Runs.{IsDepthFirst}
use Rattle.depth_first_run.specs.Passed.Facts.{label_at, deed_at, StemsFrom, IsDone, IsLive, IsNext}
use Rattle.depth_first_run.specs.Passed.Laws.{ForksAreInOrder}
use Rattle.depth_first_run.proofs.Passed.ThreadLaws.{fork_stands_before, forked_once, forks_are_in_order}
use Rattle.depth_first_run.proofs.Passed.LiveLaws.{parents_are_live, joins_the_last_live}
use Rattle.depth_first_run.proofs.Passed.JoinLaws.{join_stands_behind_child}
use Rattle.deque_machine.proofs.Labels.{stems_from_fork, above_a_fork, one_parent}

-- a Join is no End, and no Fork
IsJoin : Deed → Type 0
IsJoin (joins child) = Unit {0}
IsJoin other = ⊥

pub join_is_no_end : (child : ℕ) → joins child ≢ ends
unfolding IsJoin
join_is_no_end child is = subst IsJoin is tt

pub join_is_no_fork : (child c : ℕ) → joins child ≢ forks c
unfolding IsJoin
join_is_no_fork child c is = subst IsJoin is tt

module _ (k : ℕ) (l : List Action) (run : IsDepthFirst k l) (done : ℕ → ℕ) (closed : IsDone l done) where
  -- a thread that a live one stems from is live
  pub stem_is_live : (thread x : List ℕ) → StemsFrom thread x → IsLive l done x → IsLive l done thread
  stem_is_live thread x stems live = parents_are_live k l run done closed thread stems.0 (subst (IsLive l done) stems.1 live)

  -- what a thread did is before its next action
  pub done_is_before : (thread : List ℕ) (n i : ℕ) → IsNext l done thread n → i < length l → label_at l i ≡ thread → 0 < done i → i < n
  done_is_before thread n i next i_in mine did = let none = next.missing in elim (cases_order i n) [
    | inl same ↦ let alike : done i ≡ done n = ap done same in absurd (omega arith)
    | inr r ↦ elim r [
      | inl lt ↦ lt
      | inr gt ↦ let twice = closed.earlier n i gt i_in (next.by ∙ sym mine) did in absurd (omega arith)
    ]
  ]

  -- the Fork of a live thread, and of what it stems from, is done
  pub fork_is_done : (thread parent below : List ℕ) (child : ℕ) → IsLive l done thread → thread ≡ parent ++ child ∷ below
      → (f : ℕ) × (f < length l) × (label_at l f ≡ parent) × (deed_at l f ≡ forks child) × (0 < done f)
  fork_is_done thread parent below child live is =
      let f = fork_stands_before k l run live.acts.0 child parent below live.acts.1 (live.acts.2 ∙ is) in
      let f_before : f.0 < live.acts.0 = f.1 in let a_in = live.acts.1 in
      let f_in : f.0 < length l = omega arith in
      let P : List ℕ → Type 0 = λ t. StemsFrom (fork_of t child) thread in (
        f.0,
        f_in,
        f.2,
        f.3,
        live.forked f.0 child f_in f.3 (subst P (sym f.2)
            (subst (λ t. StemsFrom (fork_of parent child) t) (sym is) (stems_from_fork parent below child))),
      )

  -- where the next action of a thread is a Fork, nothing that stems from this fork or a later one is live
  pub none_at_fork : (thread : List ℕ) (n child : ℕ) → IsNext l done thread n → deed_at l n ≡ forks child
      → (x : List ℕ) → IsLive l done x → ¬ StemsFromForkOn thread child x
  none_at_fork thread n child next deed x live on =
      let f = fork_is_done x thread on.1 on.0 live on.3 in
      let before : f.0 < n = done_is_before thread n f.0 next f.1 f.2 f.4 in
      let least : child ≤ on.0 = on.2 in
      let order : ForksAreInOrder l = forks_are_in_order k l run in
      let less : on.0 < child = order.rising f.0 n on.0 child next.inside before (f.2 ∙ sym next.by) f.3 deed in absurd (omega arith)

  -- where it is the Join of a child, nothing that stems from a later fork is live
  pub none_at_join : (thread : List ℕ) (n child : ℕ) → IsNext l done thread n → deed_at l n ≡ joins child
      → (x : List ℕ) → IsLive l done x → ¬ StemsFromForkOn thread (suc child) x
  none_at_join thread n child next deed x live on =
      joins_the_last_live k l run done closed thread n child on.0 on.1 next deed on.2 (subst (IsLive l done) on.3 live)

  -- where the next action of a live thread is the Join of a child that was not seen to end, the child is live
  pub child_live_at_join : (thread : List ℕ) (n child : ℕ) → IsLive l done thread → IsNext l done thread n → deed_at l n ≡ joins child
      → ((e : ℕ) → e < length l → label_at l e ≡ fork_of thread child → deed_at l e ≡ ends → done e ≡ 0) → IsLive l done (fork_of thread child)
  child_live_at_join thread n child live next deed none =
      let h = join_stands_behind_child k l run n child next.inside deed in
      let f_end : h.0 < h.1 = h.2 in let e_join : h.1 < n = h.3 in let n_in = next.inside in
      let f_in : h.0 < length l = omega arith in
      let f_label : label_at l h.0 ≡ thread = h.4 ∙ next.by in
      let e_label : label_at l h.1 ≡ fork_of thread child = h.6 ∙ ap (λ t. fork_of t child) next.by in
      let did : 0 < done h.0 = next.earlier h.0 (omega arith) f_label in record {
        acts = (h.1, omega arith, e_label);
        forked = λ g c g_in g_deed stems. elim (above_a_fork (fork_of (label_at l g) c) thread child stems) [
          | inr above ↦ live.forked g c g_in g_deed above
          | inl same ↦ let one : (label_at l g ≡ thread) × (c ≡ child) = one_parent (label_at l g) thread c child same in
              let here : g ≡ h.0 = forked_once k l run g h.0 child g_in f_in (one.0 ∙ sym f_label) (g_deed ∙ ap forks one.1) h.5 in
              subst (λ t. 0 < done t) (sym here) did
        ];
        goes_on = none;
      }

  -- a thread has one next action
  pub one_next : (thread : List ℕ) (n m : ℕ) → IsNext l done thread n → IsNext l done thread m → n ≡ m
  one_next thread n m a b = let x = a.missing in let y = b.missing in elim (cases_order n m) [
    | inl same ↦ same
    | inr r ↦ elim r [
      | inl lt ↦ let did = b.earlier n lt a.by in absurd (omega arith)
      | inr gt ↦ let did = a.earlier m gt b.by in absurd (omega arith)
    ]
  ]
