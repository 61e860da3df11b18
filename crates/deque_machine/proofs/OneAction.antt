-- Which threads are live, and what comes next, behind one action more.
use Rattle.std.proofs.Common.{◌≡◌, ◌≢◌, ℕ, suc, ◌+◌, ◌≤◌, ◌<◌, ◌⊎◌, List, [], ◌∷◌, ◌++◌, length, inl, inr, refl, sym, ap, subst, ◌∙◌, arith, append_assoc, append-nil}
use Rattle.std.proofs.lemmas.Bool.{cases_lt}
use Rattle.dag_order.specs.LabelOrder.{fork_of}
use Rattle.depth_first_run.specs.Passed.Actions.{Deed, forks, ends, Action}
use Rattle.depth_first_run.specs.Passed.Runs.{IsDepthFirst}
use Rattle.depth_first_run.specs.Passed.Facts.{label_at, deed_at, StemsFrom, IsDone, IsLive, IsNext}
use Rattle.depth_first_run.proofs.Passed.ThreadLaws.{fork_stands_before, forked_once, child_begins_behind_fork, child_stands_together}
use Rattle.depth_first_run.proofs.Passed.Own.{one_fork}
use Rattle.deque_machine.specs.Lists.{one_if_same}
use Rattle.deque_machine.proofs.Lists.{one_cases}
use Rattle.deque_machine.proofs.Labels.{one_parent, fork_is_longer, above_a_fork, below_a_thread, stems_from_fork}

-- an End is no Fork
pub end_is_no_fork : (child : ℕ) → ends ≢ forks child
end_is_no_fork child is = subst IsEnd is tt
  where
    IsEnd : Deed → Type 0
    IsEnd ends = Unit {0}
    IsEnd other = ⊥

-- with `place` done once more, and the rest as before
module _ (l : List Action) (done after : ℕ → ℕ) (place : ℕ) (more : (i : ℕ) → after i ≡ done i + one_if_same i place) where
  pub still_done : (i : ℕ) → 0 < done i → 0 < after i
  still_done i did = let m = more i in omega arith

  pub was_done : (i : ℕ) → 0 < after i → i ≢ place → 0 < done i
  was_done i did other = let m = more i in elim (one_cases i place) [
    | inl here ↦ absurd (other here.0)
    | inr apart ↦ let none = apart.1 in omega arith
  ]

  pub now_done : 0 < after place
  now_done = let m = more place in elim (one_cases place place) [ inl here ↦ let one = here.1 in omega arith | inr apart ↦ absurd (apart.0 refl) ]

  pub was_missing : (i : ℕ) → after i ≡ 0 → done i ≡ 0
  was_missing i none = let m = more i in omega arith

  pub still_missing : (i : ℕ) → done i ≡ 0 → i ≢ place → after i ≡ 0
  still_missing i none other = let m = more i in elim (one_cases i place) [
    | inl here ↦ absurd (other here.0)
    | inr apart ↦ let nothing = apart.1 in omega arith
  ]

  -- who was live is, but for the thread that ends
  pub stays_live : (thread : List ℕ) → IsLive l done thread → (deed_at l place ≡ ends → label_at l place ≢ thread) → IsLive l after thread
  stays_live thread live other = record {
    acts = live.acts;
    forked = λ f child f_in deed stems. still_done f (live.forked f child f_in deed stems);
    goes_on = λ e e_in mine end. still_missing e (live.goes_on e e_in mine end)
        (λ here. other (ap (λ t. deed_at l t) (sym here) ∙ end) (ap (λ t. label_at l t) (sym here) ∙ mine));
  }

  -- who is live was, but for a thread that was forked
  pub was_live : (thread : List ℕ) → IsLive l after thread → ((child : ℕ) → deed_at l place ≡ forks child → ¬ StemsFrom (fork_of (label_at l place) child) thread)
      → IsLive l done thread
  was_live thread live other = record {
    acts = live.acts;
    forked = λ f child f_in deed stems. was_done f (live.forked f child f_in deed stems)
        (λ here. other child (ap (λ t. deed_at l t) (sym here) ∙ deed) (subst (λ t. StemsFrom (fork_of (label_at l t) child) thread) here stems));
    goes_on = λ e e_in mine end. was_missing e (live.goes_on e e_in mine end);
  }

  -- the thread that ended is live no more
  pub ended_is_not_live : place < length l → deed_at l place ≡ ends → ¬ IsLive l after (label_at l place)
  ended_is_not_live inside end live = let none = live.goes_on place inside refl end in let did = now_done in absurd (omega arith)

  -- what comes next of another thread
  pub stays_next : (thread : List ℕ) (n : ℕ) → IsNext l done thread n → label_at l place ≢ thread → IsNext l after thread n
  stays_next thread n next other = record {
    inside = next.inside;
    by = next.by;
    missing = still_missing n next.missing (λ here. other (ap (λ t. label_at l t) (sym here) ∙ next.by));
    earlier = λ i lt mine. still_done i (next.earlier i lt mine);
  }

  -- the child of a Fork
  module _ (k : ℕ) (run : IsDepthFirst k l) (closed : IsDone l done) (inside : place < length l) (missing : done place ≡ 0)
      (child : ℕ) (deed : deed_at l place ≡ forks child) where
    the_child : List ℕ
    the_child = fork_of (label_at l place) child

    -- nothing of the child or of what stems from it was done before
    pub nothing_before : (i : ℕ) → i < length l → StemsFrom (fork_of (label_at l place) child) (label_at l i) → done i ≡ 0
    nothing_before i i_in stems =
        let f = fork_stands_before k l run i child (label_at l place) stems.0 i_in (stems.1 ∙ append_assoc (label_at l place) (child ∷ []) stems.0) in
        let f_before : f.0 < i = f.1 in
        let here : f.0 ≡ place = forked_once k l run f.0 place child (omega arith) inside f.2 f.3 deed in
        elim (cases_lt 0 (done i)) [
          | inr none ↦ omega arith
          | inl did ↦ let twice = closed.forked place i child (omega arith) i_in deed stems did in absurd (omega arith)
        ]

    -- the child is live
    pub child_is_live : IsLive l done (label_at l place) → IsLive l after (fork_of (label_at l place) child)
    child_is_live live =
        let first = child_begins_behind_fork k l run place child inside deed in record {
          acts = (suc place, first.0, first.1);
          forked = λ f c f_in f_deed stems. elim (above_a_fork (fork_of (label_at l f) c) (label_at l place) child stems) [
            | inl same ↦ let one : (label_at l f ≡ label_at l place) × (c ≡ child) = one_parent (label_at l f) (label_at l place) c child same in
                let here : f ≡ place = forked_once k l run f place child f_in inside one.0 (f_deed ∙ ap forks one.1) deed in
                subst (λ t. 0 < after t) (sym here) now_done
            | inr above ↦ still_done f (live.forked f c f_in f_deed above)
          ];
          goes_on = λ e e_in mine end. still_missing e (nothing_before e e_in ([], mine ∙ sym (append-nil (fork_of (label_at l place) child))))
              (λ here. end_is_no_fork child (sym end ∙ ap (λ t. deed_at l t) here ∙ deed));
        }

    -- who is live was, or is the child
    pub was_live_or_child : (thread : List ℕ) → IsLive l after thread → IsLive l done thread ⊎ (thread ≡ fork_of (label_at l place) child)
    was_live_or_child thread live =
        elim (stems_or_not thread live.acts) [
          | inr apart ↦ inl (was_live thread live (λ c c_deed. subst (λ t. ¬ StemsFrom (fork_of (label_at l place) t) thread) (one_fork child c (sym deed ∙ c_deed)) apart))
          | inl stems ↦ elim (below_a_thread (fork_of (label_at l place) child) thread stems) [
            | inl same ↦ inr same
            | inr further ↦ inl (absurd (too_early thread live further.0 further.1 further.2))
          ]
        ]
      where
        stems_or_not : (thread : List ℕ) → (i : ℕ) × (i < length l) × (label_at l i ≡ thread)
            → StemsFrom (fork_of (label_at l place) child) thread ⊎ (¬ StemsFrom (fork_of (label_at l place) child) thread)
        stems_or_not thread acts =
            let block = child_stands_together k l run place child inside deed in
            let at_i = block.5 acts.0 acts.1 in
            let P : List ℕ → Type 0 = λ t. StemsFrom (fork_of (label_at l place) child) t in
            elim (cases_lt place acts.0) [
              | inr low ↦ inr (λ stems. let there : (place < acts.0) × (acts.0 ≤ block.0) = at_i.0 (subst P (sym acts.2) stems) in let lt = there.0 in absurd (omega arith))
              | inl lt ↦ elim (cases_lt block.0 acts.0) [
                | inl high ↦ inr (λ stems. let there : (place < acts.0) × (acts.0 ≤ block.0) = at_i.0 (subst P (sym acts.2) stems) in let le = there.1 in absurd (omega arith))
                | inr le ↦ inl (subst P acts.2 (at_i.1 (lt, le)))
              ]
            ]

        too_early : (thread : List ℕ) → IsLive l after thread → (c : ℕ) (below : List ℕ) → thread ≡ fork_of (label_at l place) child ++ c ∷ below → ⊥
        too_early thread live c below is =
            let f = fork_stands_before k l run live.acts.0 c (fork_of (label_at l place) child) below live.acts.1 (live.acts.2 ∙ is) in
            let f_before : f.0 < live.acts.0 = f.1 in let a_in = live.acts.1 in
            let stems : StemsFrom (fork_of (label_at l f.0) c) thread = subst (λ t. StemsFrom (fork_of t c) thread) (sym f.2)
            (subst (λ t. StemsFrom (fork_of (fork_of (label_at l place) child) c) t) (sym is) (stems_from_fork (fork_of (label_at l place) child) below c)) in
            let did = live.forked f.0 c (omega arith) f.3 stems in
            let none = nothing_before f.0 (omega arith) ([], f.2 ∙ sym (append-nil (fork_of (label_at l place) child))) in
            let here : f.0 ≢ place = λ e. fork_is_longer (label_at l place) child (sym f.2 ∙ ap (λ t. label_at l t) e) in
            let before = was_done f.0 did here in absurd (omega arith)
