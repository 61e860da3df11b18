-- Where the live threads are, behind each kind of event: in the deques, as one list of labels, or among the waiting.
use Rattle.std.proofs.Common.{◌≡◌, ◌≢◌, ℕ, ◌+◌, ◌⊎◌, List, [], ◌∷◌, ◌++◌, inl, inr, refl, sym, ap, subst, ◌∙◌, arith}
use Rattle.dag_order.specs.LabelOrder.{fork_of, Before}
use Rattle.dag_order.specs.LabelLaws.{extension_is_before, before_further, left_of_a_fork, right_of_a_fork, right_of_an_ended_fork}
use Rattle.depth_first_run.specs.Passed.Actions.{forks, ends, Action}
use Rattle.depth_first_run.specs.Passed.Runs.{IsDepthFirst}
use Rattle.depth_first_run.specs.Passed.Facts.{label_at, deed_at, IsDone, IsLive, IsNext}
use Rattle.deque_machine.specs.Lists.{Among, Each, Differ, one_if_same}
use Rattle.deque_machine.proofs.Lists.{each_map, each_from, each_among, each_without, each_at, each_join, each_left, each_right, among_here, among_wider, among_middle, among_left, among_right, differ_without, differ_at}
use Rattle.deque_machine.specs.Moments.{Waiting, waiting_threads, Rises}
use Rattle.deque_machine.specs.LawfulOrder.{Waits}
use Rattle.deque_machine.proofs.Labels.{one_parent, fork_is_longer, rises_without, rises_with, left_is_before, right_is_behind, stands_once}
use Rattle.deque_machine.proofs.OneAction.{end_is_no_fork, stays_live, was_live, was_live_or_child, child_is_live, ended_is_not_live, stays_next}
use Rattle.deque_machine.proofs.LiveThreads.{none_at_fork, none_at_join}

pub record Placed (l : List Action) (done : ℕ → ℕ) (threads : List (List ℕ)) (waiting : List Waiting) : Type 0 where
  pub rises : Rises threads
  pub waits : Each (Waits l done) waiting
  pub apart : Each (λ thread. ¬ Among thread threads) (waiting_threads waiting)
  pub all_placed : (thread : List ℕ) → IsLive l done thread → Among thread threads ⊎ Among thread (waiting_threads waiting)
  pub all_live : Each (IsLive l done) threads
  pub wait_once : Differ (waiting_threads waiting)

pub waiting_append : (xs ys : List Waiting) → waiting_threads (xs ++ ys) ≡ waiting_threads xs ++ waiting_threads ys
waiting_append [] ys = refl
waiting_append (x ∷ xs) ys = ap (λ t. x.thread ∷ t) (waiting_append xs ys)

pub waits_among : (w : Waiting) (xs : List Waiting) → Among w xs → Among w.thread (waiting_threads xs)
waits_among w [] there = absurd there
waits_among w (x ∷ xs) there = elim there [ inl same ↦ inl (ap (λ t. t.thread) same) | inr later ↦ inr (waits_among w xs later) ]

-- a thread of the deques does not wait
pub in_deque_waits_not : (l : List Action) (done : ℕ → ℕ) (threads : List (List ℕ)) (waiting : List Waiting) → Placed l done threads waiting
    → (t : List ℕ) (w : Waiting) → Among t threads → Among w waiting → t ≢ w.thread
in_deque_waits_not l done threads waiting p t w in_deque there same =
    each_among (λ thread. ¬ Among thread threads) w.thread (waiting_threads waiting) p.apart (waits_among w waiting there) (subst (λ u. Among u threads) same in_deque)

module _ (l : List Action) (done after : ℕ → ℕ) (place : ℕ) (more : (i : ℕ) → after i ≡ done i + one_if_same i place) where
  -- who waits still waits, behind an action of another thread that is no End of the child
  pub still_waits : (w : Waiting) → Waits l done w → label_at l place ≢ w.thread → (deed_at l place ≡ ends → label_at l place ≢ fork_of w.thread w.child)
      → Waits l after w
  still_waits w waits other child = record {
    live = stays_live l done after place more w.thread waits.live (λ end. other);
    place = waits.place;
    next = stays_next l done after place more w.thread waits.place waits.next other;
    joins_it = waits.joins_it;
    child_live = stays_live l done after place more (fork_of w.thread w.child) waits.child_live child;
  }

  -- an action that is no Fork and no End
  pub placed_plain : (threads : List (List ℕ)) (waiting : List Waiting) → Placed l done threads waiting → Among (label_at l place) threads
      → ((child : ℕ) → deed_at l place ≢ forks child) → deed_at l place ≢ ends → Placed l after threads waiting
  placed_plain threads waiting p there no_fork no_end = record {
    rises = p.rises;
    waits = each_map (Waits l done) (Waits l after) waiting
        (λ w among waits. still_waits w waits (in_deque_waits_not l done threads waiting p (label_at l place) w there among) (λ end. absurd (no_end end))) p.waits;
    apart = p.apart;
    all_placed = λ thread live. p.all_placed thread (was_live l done after place more thread live (λ child deed. absurd (no_fork child deed)));
    all_live = each_map (IsLive l done) (IsLive l after) threads (λ t among live. stays_live l done after place more t live (λ end. absurd (no_end end))) p.all_live;
    wait_once = p.wait_once;
  }

  -- a Fork puts the child directly before its parent
  module _ (k : ℕ) (run : IsDepthFirst k l) (closed : IsDone l done) where
    pub placed_fork : (a b : List (List ℕ)) (waiting : List Waiting) (child : ℕ) → IsNext l done (label_at l place) place → deed_at l place ≡ forks child
        → Placed l done (a ++ label_at l place ∷ b) waiting → Placed l after (a ++ fork_of (label_at l place) child ∷ label_at l place ∷ b) waiting
    placed_fork a b waiting child next deed p =
        let t : List ℕ = label_at l place in
        let c : List ℕ = fork_of (label_at l place) child in
        let threads : List (List ℕ) = a ++ label_at l place ∷ b in
        let no_end : deed_at l place ≢ ends = λ end. fork_is_no_end child (sym deed ∙ end) in
        let t_live : IsLive l done (label_at l place) = each_at (IsLive l done) a (label_at l place) b p.all_live in
        let was : (x : List ℕ) → IsLive l after x → IsLive l done x ⊎ (x ≡ fork_of (label_at l place) child) =
        was_live_or_child l done after place more k run closed next.inside next.missing child deed in
        let child_dead : ¬ IsLive l done (fork_of (label_at l place) child) = λ live.
        none_at_fork k l run done closed (label_at l place) place child next deed (fork_of (label_at l place) child) live (child, [], omega arith, refl) in
        record {
          rises = rises_with a c (t ∷ b) p.rises
              (each_from (λ x. Before x c) a (λ x among. elim (left_of_a_fork x t child (each_among (λ x. Before x t) x a (left_is_before a t b p.rises) among)) [
                | inl before ↦ before
                | inr on ↦ absurd (none_at_fork k l run done closed t place child next deed x (each_among (IsLive l done) x (a ++ t ∷ b) p.all_live (among_left x a (t ∷ b) among)) on)
              ]))
              (extension_is_before t child [], each_map (Before t) (Before c) b (λ x among before. right_of_a_fork x t child before) (right_is_behind a t b p.rises));
          waits = each_map (Waits l done) (Waits l after) waiting
              (λ w among waits. still_waits w waits (in_deque_waits_not l done threads waiting p t w (among_here t a b) among) (λ end. absurd (no_end end))) p.waits;
          apart = each_from (λ thread. ¬ Among thread (a ++ c ∷ t ∷ b)) (waiting_threads waiting) (λ x among there.
              elim (among_middle x a c (t ∷ b) there) [
                | inr old ↦ each_among (λ thread. ¬ Among thread threads) x (waiting_threads waiting) p.apart among old
                | inl same ↦ child_dead (subst (IsLive l done) same (waiting_is_live waiting p.waits x among))
              ]);
          all_placed = λ x live. elim (was x live) [
            | inr same ↦ inl (subst (λ u. Among u (a ++ c ∷ t ∷ b)) (sym same) (among_here c a (t ∷ b)))
            | inl before ↦ elim (p.all_placed x before) [
              | inl there ↦ inl (among_wider x a c (t ∷ b) there)
              | inr waits ↦ inr waits
            ]
          ];
          all_live =
              let kept : Each (IsLive l after) threads = each_map (IsLive l done) (IsLive l after) threads (λ x among live. stays_live l done after place more x live (λ end. absurd (no_end end))) p.all_live in
              each_join (IsLive l after) a (c ∷ t ∷ b) (each_left (IsLive l after) a (t ∷ b) kept)
              (child_is_live l done after place more k run closed next.inside next.missing child deed t_live, each_right (IsLive l after) a (t ∷ b) kept);
          wait_once = p.wait_once;
        }
      where
        fork_is_no_end : (child : ℕ) → forks child ≢ ends
        fork_is_no_end child is = end_is_no_fork child (sym is)

        waiting_is_live : (ws : List Waiting) → Each (Waits l done) ws → (x : List ℕ) → Among x (waiting_threads ws) → IsLive l done x
        waiting_is_live [] all x there = absurd there
        waiting_is_live (w ∷ ws) all x there = elim there [ inl same ↦ subst (IsLive l done) (sym same) (all.0).live | inr later ↦ waiting_is_live ws all.1 x later ]

    -- an End takes its thread away, where nobody waits for it
    pub placed_end : (a b : List (List ℕ)) (waiting : List Waiting) → IsNext l done (label_at l place) place → deed_at l place ≡ ends
        → Each (λ w. label_at l place ≢ fork_of w.thread w.child) waiting
        → Placed l done (a ++ label_at l place ∷ b) waiting → Placed l after (a ++ b) waiting
    placed_end a b waiting next end unwaited p =
        let t : List ℕ = label_at l place in
        let threads : List (List ℕ) = a ++ label_at l place ∷ b in
        let gone : ¬ IsLive l after (label_at l place) = ended_is_not_live l done after place more next.inside end in
        record {
          rises = rises_without a t b p.rises;
          waits = each_from (Waits l after) waiting (λ w among. still_waits w (each_among (Waits l done) w waiting p.waits among)
              (in_deque_waits_not l done threads waiting p t w (among_here t a b) among)
              (λ e. each_among (λ w. label_at l place ≢ fork_of w.thread w.child) w waiting unwaited among));
          apart = each_map (λ thread. ¬ Among thread threads) (λ thread. ¬ Among thread (a ++ b)) (waiting_threads waiting) (λ x among out there. out (among_wider x a t b there)) p.apart;
          all_placed = λ x live. elim (p.all_placed x (was_live l done after place more x live (λ child deed. absurd (end_is_no_fork child (sym end ∙ deed))))) [
            | inr waits ↦ inr waits
            | inl there ↦ elim (among_middle x a t b there) [ inr old ↦ inl old | inl same ↦ absurd (gone (subst (IsLive l after) same live)) ]
          ];
          all_live = each_from (IsLive l after) (a ++ b) (λ x among. stays_live l done after place more x (each_among (IsLive l done) x threads p.all_live (among_wider x a t b among))
              (λ e same. stands_once a t b p.rises (subst (λ u. Among u (a ++ b)) (sym same) among)));
          wait_once = p.wait_once;
        }

    -- an End puts the parent that waits for it in its place
    pub placed_wake : (a b : List (List ℕ)) (before later : List Waiting) (w : Waiting) → IsNext l done (label_at l place) place → deed_at l place ≡ ends
        → label_at l place ≡ fork_of w.thread w.child
        → Placed l done (a ++ label_at l place ∷ b) (before ++ w ∷ later) → Placed l after (a ++ w.thread ∷ b) (before ++ later)
    placed_wake a b before later w next end is p =
        let t : List ℕ = label_at l place in
        let threads : List (List ℕ) = a ++ label_at l place ∷ b in
        let gone : ¬ IsLive l after (label_at l place) = ended_is_not_live l done after place more next.inside end in
        let own : Waits l done w = each_at (Waits l done) before w later p.waits in
        let out : ¬ Among w.thread threads = each_among (λ thread. ¬ Among thread threads) w.thread (waiting_threads (before ++ w ∷ later)) p.apart
        (waits_among w (before ++ w ∷ later) (among_here w before later)) in
        let cut : waiting_threads (before ++ w ∷ later) ≡ waiting_threads before ++ w.thread ∷ waiting_threads later = waiting_append before (w ∷ later) in
        let left_over : waiting_threads (before ++ later) ≡ waiting_threads before ++ waiting_threads later = waiting_append before later in
        let once : ¬ Among w.thread (waiting_threads before ++ waiting_threads later) =
        differ_at (waiting_threads before) w.thread (waiting_threads later) (subst Differ cut p.wait_once) in
        let wider : (x : List ℕ) → Among x (waiting_threads (before ++ later)) → Among x (waiting_threads (before ++ w ∷ later)) = λ x among.
        subst (λ u. Among x u) (sym cut) (among_wider x (waiting_threads before) w.thread (waiting_threads later) (subst (λ u. Among x u) left_over among)) in
        let kept_live : (x : List ℕ) → Among x (a ++ b) → IsLive l after x = λ x among.
        stays_live l done after place more x (each_among (IsLive l done) x threads p.all_live (among_wider x a t b among))
        (λ e same. stands_once a t b p.rises (subst (λ u. Among u (a ++ b)) (sym same) among)) in
        let up : Before t w.thread = subst (λ u. Before u w.thread) (sym is) (extension_is_before w.thread w.child []) in
        record {
          rises = rises_with a w.thread b (rises_without a t b p.rises)
              (each_map (λ x. Before x t) (λ x. Before x w.thread) a (λ x among left. before_further x t w.thread left up) (left_is_before a t b p.rises))
              (each_from (Before w.thread) b (λ x among.
              let behind : Before (fork_of w.thread w.child) x = subst (λ u. Before u x) is (each_among (Before t) x b (right_is_behind a t b p.rises) among) in
              let x_live : IsLive l done x = each_among (IsLive l done) x threads p.all_live (among_wider x a t b (among_right x a b among)) in
              elim (right_of_an_ended_fork x w.thread w.child behind) [
                | inl same ↦ absurd (out (subst (λ u. Among u threads) same (among_wider x a t b (among_right x a b among))))
                | inr r ↦ elim r [
                  | inl right ↦ right
                  | inr on ↦ absurd (none_at_join k l run done closed w.thread own.place w.child own.next own.joins_it x x_live on)
                ]
              ]));
          waits = each_from (Waits l after) (before ++ later) (λ v among.
              let in_all : Among v (before ++ w ∷ later) = among_wider v before w later among in
              still_waits v (each_among (Waits l done) v (before ++ w ∷ later) p.waits in_all)
              (in_deque_waits_not l done threads (before ++ w ∷ later) p t v (among_here t a b) in_all)
              (λ e same. once (subst (λ u. Among u (waiting_threads before ++ waiting_threads later)) (sym (one_parent w.thread v.thread w.child v.child (sym is ∙ same)).0)
              (subst (λ u. Among v.thread u) left_over (waits_among v (before ++ later) among)))));
          apart = each_from (λ thread. ¬ Among thread (a ++ w.thread ∷ b)) (waiting_threads (before ++ later)) (λ x among there.
              elim (among_middle x a w.thread b there) [
                | inl same ↦ once (subst (λ u. Among u (waiting_threads before ++ waiting_threads later)) same (subst (λ u. Among x u) left_over among))
                | inr old ↦ each_among (λ thread. ¬ Among thread threads) x (waiting_threads (before ++ w ∷ later)) p.apart (wider x among) (among_wider x a t b old)
              ]);
          all_placed = λ x live. elim (p.all_placed x (was_live l done after place more x live (λ child deed. absurd (end_is_no_fork child (sym end ∙ deed))))) [
            | inl there ↦ elim (among_middle x a t b there) [
              | inr old ↦ inl (among_wider x a w.thread b old)
              | inl same ↦ absurd (gone (subst (IsLive l after) same live))
            ]
            | inr waits ↦ elim (among_middle x (waiting_threads before) w.thread (waiting_threads later) (subst (λ u. Among x u) cut waits)) [
              | inl same ↦ inl (subst (λ u. Among u (a ++ w.thread ∷ b)) (sym same) (among_here w.thread a b))
              | inr old ↦ inr (subst (λ u. Among x u) (sym left_over) old)
            ]
          ];
          all_live = each_from (IsLive l after) (a ++ w.thread ∷ b) (λ x among. elim (among_middle x a w.thread b among) [
            | inr old ↦ kept_live x old
            | inl same ↦ subst (IsLive l after) (sym same) (stays_live l done after place more w.thread own.live
                (λ e same. fork_is_longer w.thread w.child (sym is ∙ same)))
          ]);
          wait_once = subst Differ (sym left_over) (differ_without (waiting_threads before) w.thread (waiting_threads later) (subst Differ cut p.wait_once));
        }

-- a thread that has to wait leaves the deques
pub placed_suspend : (l : List Action) (done : ℕ → ℕ) (a b : List (List ℕ)) (waiting : List Waiting) (w : Waiting) → Waits l done w
    → Placed l done (a ++ w.thread ∷ b) waiting → Placed l done (a ++ b) (w ∷ waiting)
placed_suspend l done a b waiting w own p = record {
  rises = rises_without a w.thread b p.rises;
  waits = (own, p.waits);
  apart = (
    stands_once a w.thread b p.rises,
    each_map (λ thread. ¬ Among thread (a ++ w.thread ∷ b)) (λ thread. ¬ Among thread (a ++ b)) (waiting_threads waiting)
        (λ x among out there. out (among_wider x a w.thread b there)) p.apart,
  );
  all_placed = λ x live. elim (p.all_placed x live) [
    | inr waits ↦ inr (inr waits)
    | inl there ↦ elim (among_middle x a w.thread b there) [ inl same ↦ inr (inl same) | inr old ↦ inl old ]
  ];
  all_live = each_without (IsLive l done) a w.thread b p.all_live;
  wait_once = (λ there. each_among (λ thread. ¬ Among thread (a ++ w.thread ∷ b)) w.thread (waiting_threads waiting) p.apart there (among_here w.thread a b), p.wait_once);
}
