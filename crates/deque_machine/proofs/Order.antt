-- Each event keeps the order.
use Rattle.std.proofs.Common.{◌≡◌, ◌≢◌, ℕ, ◌+◌, ◌≤◌, ◌⊎◌, List, [], ◌∷◌, ◌++◌, inl, inr, refl, sym, ap, subst, ◌∙◌, arith, append_assoc}
use Rattle.std.specs.Prelude.{Option, None, Some}
use Rattle.dag_order.specs.LabelOrder.{fork_of}
use Rattle.depth_first_run.specs.Passed.Actions.{forks, ends, Action}
use Rattle.depth_first_run.specs.Passed.Runs.{IsDepthFirst}
use Rattle.depth_first_run.specs.Passed.Facts.{label_at, deed_at, IsDone, IsLive, IsNext}
use Rattle.deque_machine.specs.Lists.{Among, Each, one_if_same}
use Rattle.deque_machine.proofs.Lists.{total_append, each_map, each_from, each_among, each_at, each_change, each_join, each_left, each_right, among_here, among_left, among_right, cons_is_not_nil, one_cases}
use Rattle.deque_machine.specs.Moments.{Deque, Waiting, threads_in, waiting_threads, owned_by, with_id, one_if_owned, one_if_id, one_if_worker}
use Rattle.deque_machine.specs.LawfulOrder.{Waits, Stacked, ChildrenAbove, OrderOf}
use Rattle.deque_machine.proofs.Labels.{one_parent, fork_is_longer, stands_once}
use Rattle.deque_machine.proofs.OneAction.{end_is_no_fork, was_live, was_live_or_child, ended_is_not_live}
use Rattle.deque_machine.proofs.LiveThreads.{none_at_fork}
use Rattle.deque_machine.proofs.Placed.{Placed, placed_plain, placed_fork, placed_end, placed_wake, placed_suspend, waits_among}
use Rattle.deque_machine.proofs.Shapes.{Shaped, shaped_of, placed_of, order_from, shaped_change, shaped_without, shaped_same, threads_append, child_on_top, parent_on_top, stacked_front, children_front}

-- a deque
abbrev pub deque_of : ℕ → Option ℕ → List (List ℕ) → Deque
deque_of id owner threads = record { id = id; owner = owner; threads = threads }

pub none_counts_nothing : (worker : ℕ) (owner : Option ℕ) → one_if_worker worker None ≤ one_if_worker worker owner
none_counts_nothing worker owner = omega arith

-- another owner of a deque, or none
pub owner_changes : (l : List Action) (done : ℕ → ℕ) (left right : List Deque) (id : ℕ) (owner : Option ℕ) (threads : List (List ℕ)) (waiting : List Waiting)
    → OrderOf l done (left ++ deque_of id owner threads ∷ right) waiting → OrderOf l done (left ++ deque_of id None threads ∷ right) waiting
owner_changes l done left right id owner threads waiting o =
    let d : Deque = deque_of id owner threads in let e : Deque = deque_of id None threads in
    let p : Placed l done (threads_in (left ++ d ∷ right)) waiting = placed_of l done (left ++ d ∷ right) waiting o in
    let s : Shaped l done (left ++ d ∷ right) = shaped_of l done (left ++ d ∷ right) waiting o in
    let same : threads_in (left ++ d ∷ right) ≡ threads_in (left ++ e ∷ right) = threads_append left (d ∷ right) ∙ sym (threads_append left (e ∷ right)) in
    order_from l done (left ++ e ∷ right) waiting (subst (λ t. Placed l done t waiting) same p)
    (shaped_change l done done left right d e s refl (λ worker. none_counts_nothing worker owner)
    (each_at (λ deque. Stacked deque.threads) left d right s.stacked)
    (each_at (λ deque. ChildrenAbove l done None deque.threads) left d right s.children_above)
    (each_at (λ deque. deque.threads ≢ []) left d right s.none_empty) (λ t among child live. live))

-- with the same done, a new owner
pub owner_comes : (l : List Action) (done : ℕ → ℕ) (left right : List Deque) (id worker : ℕ) (threads : List (List ℕ)) (waiting : List Waiting)
    → owned_by worker (left ++ deque_of id None threads ∷ right) ≡ 0
    → OrderOf l done (left ++ deque_of id None threads ∷ right) waiting → OrderOf l done (left ++ deque_of id (Some worker) threads ∷ right) waiting
owner_comes l done left right id worker threads waiting idle o =
    let d : Deque = deque_of id None threads in let e : Deque = deque_of id (Some worker) threads in
    let p : Placed l done (threads_in (left ++ d ∷ right)) waiting = placed_of l done (left ++ d ∷ right) waiting o in
    let same : threads_in (left ++ d ∷ right) ≡ threads_in (left ++ e ∷ right) = threads_append left (d ∷ right) ∙ sym (threads_append left (e ∷ right)) in
    order_from l done (left ++ e ∷ right) waiting (subst (λ t. Placed l done t waiting) same p) (record {
      stacked = each_change (λ deque. Stacked deque.threads) left d e right o.stacked (each_at (λ deque. Stacked deque.threads) left d right o.stacked);
      children_above = each_change (λ deque. ChildrenAbove l done None deque.threads) left d e right o.children_above
          (each_at (λ deque. ChildrenAbove l done None deque.threads) left d right o.children_above);
      none_empty = each_change (λ deque. deque.threads ≢ []) left d e right o.none_empty (each_at (λ deque. deque.threads ≢ []) left d right o.none_empty);
      ids_differ = λ i. let most = o.ids_differ i in
          let before = total_append (one_if_id i) left (d ∷ right) in let behind = total_append (one_if_id i) left (e ∷ right) in omega (arith, most, before, behind);
      owns_one = λ w. let most = o.owns_one w in
          let before = total_append (one_if_owned w) left (d ∷ right) in let behind = total_append (one_if_owned w) left (e ∷ right) in
          let before_own = total_append (one_if_owned worker) left (d ∷ right) in
          elim (one_cases w worker) [
            | inl here ↦ let one = here.1 in let none : owned_by w (left ++ d ∷ right) ≡ 0 = ap (λ t. owned_by t (left ++ d ∷ right)) here.0 ∙ idle in omega (arith, before, behind, none, one)
            | inr other ↦ let none = other.1 in omega (arith, most, before, behind, none)
          ];
    })

-- a steal that leaves the victim its other threads
pub deque_comes : (l : List Action) (done : ℕ → ℕ) (left right : List Deque) (victim : Deque) (first : List ℕ) (others : List (List ℕ)) (bottom : List ℕ) (id worker : ℕ)
    (waiting : List Waiting) → victim.threads ≡ first ∷ (others ++ bottom ∷ []) → with_id id (left ++ victim ∷ right) ≡ 0 → owned_by worker (left ++ victim ∷ right) ≡ 0
    → OrderOf l done (left ++ victim ∷ right) waiting
    → OrderOf l done (left ++ deque_of victim.id victim.owner (first ∷ others) ∷ deque_of id (Some worker) (bottom ∷ []) ∷ right) waiting
deque_comes l done left right victim first others bottom id worker waiting is new_id idle o =
    let e : Deque = deque_of victim.id victim.owner (first ∷ others) in let n : Deque = deque_of id (Some worker) (bottom ∷ []) in
    let p : Placed l done (threads_in (left ++ victim ∷ right)) waiting = placed_of l done (left ++ victim ∷ right) waiting o in
    let same : threads_in (left ++ victim ∷ right) ≡ threads_in (left ++ e ∷ n ∷ right) =
    threads_append left (victim ∷ right) ∙ ap (λ t. threads_in left ++ (t ++ threads_in right)) is
    ∙ ap (λ t. threads_in left ++ first ∷ t) (append_assoc others (bottom ∷ []) (threads_in right)) ∙ sym (threads_append left (e ∷ n ∷ right)) in
    let S : Deque → Type 0 = λ deque. Stacked deque.threads in
    let C : Deque → Type 0 = λ deque. ChildrenAbove l done None deque.threads in
    let N : Deque → Type 0 = λ deque. deque.threads ≢ [] in
    order_from l done (left ++ e ∷ n ∷ right) waiting (subst (λ t. Placed l done t waiting) same p) (record {
      stacked = each_join S left (e ∷ n ∷ right) (each_left S left (victim ∷ right) o.stacked)
          (stacked_front (first ∷ others) bottom (subst Stacked is (each_at S left victim right o.stacked)), (tt, (each_right S left (victim ∷ right) o.stacked).1));
      children_above = each_join C left (e ∷ n ∷ right) (each_left C left (victim ∷ right) o.children_above) (
        children_front l done None (first ∷ others) bottom (subst (ChildrenAbove l done None) is (each_at C left victim right o.children_above)),
        (tt, (each_right C left (victim ∷ right) o.children_above).1),
      );
      none_empty = each_join N left (e ∷ n ∷ right) (each_left N left (victim ∷ right) o.none_empty)
          ((λ none. cons_is_not_nil first others none), ((λ none. cons_is_not_nil bottom [] none), (each_right N left (victim ∷ right) o.none_empty).1));
      ids_differ = λ i. let most = o.ids_differ i in
          let before = total_append (one_if_id i) left (victim ∷ right) in let behind = total_append (one_if_id i) left (e ∷ n ∷ right) in
          elim (one_cases i id) [
            | inl here ↦ let one = here.1 in let none : with_id i (left ++ victim ∷ right) ≡ 0 = ap (λ t. with_id t (left ++ victim ∷ right)) here.0 ∙ new_id in omega (arith, before, behind, none, one)
            | inr other ↦ let none = other.1 in omega (arith, most, before, behind, none)
          ];
      owns_one = λ w. let most = o.owns_one w in
          let before = total_append (one_if_owned w) left (victim ∷ right) in let behind = total_append (one_if_owned w) left (e ∷ n ∷ right) in
          elim (one_cases w worker) [
            | inl here ↦ let one = here.1 in let none : owned_by w (left ++ victim ∷ right) ≡ 0 = ap (λ t. owned_by t (left ++ victim ∷ right)) here.0 ∙ idle in omega (arith, before, behind, none, one)
            | inr other ↦ let none = other.1 in omega (arith, most, before, behind, none)
          ];
    })

-- a thread that has to wait, alone in its deque
pub deque_suspends : (l : List Action) (done : ℕ → ℕ) (left right : List Deque) (id : ℕ) (owner : Option ℕ) (waiting : List Waiting) (w : Waiting) → Waits l done w
    → OrderOf l done (left ++ deque_of id owner (w.thread ∷ []) ∷ right) waiting → OrderOf l done (left ++ right) (w ∷ waiting)
deque_suspends l done left right id owner waiting w own o =
    let d : Deque = deque_of id owner (w.thread ∷ []) in
    let p : Placed l done (threads_in (left ++ d ∷ right)) waiting = placed_of l done (left ++ d ∷ right) waiting o in
    let s : Shaped l done (left ++ d ∷ right) = shaped_of l done (left ++ d ∷ right) waiting o in
    let q : Placed l done (threads_in left ++ threads_in right) (w ∷ waiting) = placed_suspend l done (threads_in left) (threads_in right) waiting w own
    (subst (λ t. Placed l done t waiting) (threads_append left (d ∷ right)) p) in
    order_from l done (left ++ right) (w ∷ waiting) (subst (λ t. Placed l done t (w ∷ waiting)) (sym (threads_append left right)) q)
    (shaped_without l done done left right d s (λ t child live. live))

-- one action of the top thread of a deque
module _ (k : ℕ) (l : List Action) (run : IsDepthFirst k l) (done after : ℕ → ℕ) (place : ℕ) (more : (i : ℕ) → after i ≡ done i + one_if_same i place) (closed : IsDone l done)
    (left right : List Deque) (id worker : ℕ) (waiting : List Waiting) (top : List ℕ) (next : IsNext l done top place) where
  own_next : IsNext l done (label_at l place) place
  own_next = subst (λ t. IsNext l done t place) (sym next.by) next

  pub order_plain : (under : List (List ℕ)) → ((child : ℕ) → deed_at l place ≢ forks child) → deed_at l place ≢ ends
      → OrderOf l done (left ++ deque_of id (Some worker) (top ∷ under) ∷ right) waiting
      → OrderOf l after (left ++ deque_of id (Some worker) (top ∷ under) ∷ right) waiting
  order_plain under no_fork no_end o =
      let d : Deque = deque_of id (Some worker) (top ∷ under) in
      let p : Placed l done (threads_in (left ++ d ∷ right)) waiting = placed_of l done (left ++ d ∷ right) waiting o in
      let s : Shaped l done (left ++ d ∷ right) = shaped_of l done (left ++ d ∷ right) waiting o in
      let there : Among (label_at l place) (threads_in (left ++ d ∷ right)) = subst (λ t. Among t (threads_in (left ++ d ∷ right))) (sym next.by)
      (subst (λ t. Among top t) (sym (threads_append left (d ∷ right))) (among_here top (threads_in left) (under ++ threads_in right))) in
      order_from l after (left ++ d ∷ right) waiting
      (placed_plain l done after place more (threads_in (left ++ d ∷ right)) waiting p there no_fork no_end)
      (shaped_same l done after (left ++ d ∷ right) s (λ t live. was_live l done after place more t live (λ child deed. absurd (no_fork child deed))))

  pub order_fork : (under : List (List ℕ)) (child : ℕ) → deed_at l place ≡ forks child
      → OrderOf l done (left ++ deque_of id (Some worker) (top ∷ under) ∷ right) waiting
      → OrderOf l after (left ++ deque_of id (Some worker) (fork_of top child ∷ top ∷ under) ∷ right) waiting
  order_fork under child deed o =
      let d : Deque = deque_of id (Some worker) (top ∷ under) in let e : Deque = deque_of id (Some worker) (fork_of top child ∷ top ∷ under) in
      let a : List (List ℕ) = threads_in left in let b : List (List ℕ) = under ++ threads_in right in
      let s : Shaped l done (left ++ d ∷ right) = shaped_of l done (left ++ d ∷ right) waiting o in
      let p : Placed l done (a ++ top ∷ b) waiting = subst (λ t. Placed l done t waiting) (threads_append left (d ∷ right)) (placed_of l done (left ++ d ∷ right) waiting o) in
      let was : (x : List ℕ) → IsLive l after x → IsLive l done x ⊎ (x ≡ fork_of (label_at l place) child) =
      was_live_or_child l done after place more k run closed next.inside next.missing child deed in
      let q : Placed l after (a ++ fork_of top child ∷ top ∷ b) waiting = subst (λ t. Placed l after (a ++ fork_of t child ∷ t ∷ b) waiting) next.by
      (placed_fork l done after place more k run closed a b waiting child own_next deed (subst (λ t. Placed l done (a ++ t ∷ b) waiting) (sym next.by) p)) in
      let once : ¬ Among top (a ++ b) = stands_once a top b p.rises in
      let before : (u : List ℕ) → u ≢ top → (c : ℕ) → IsLive l after (fork_of u c) → IsLive l done (fork_of u c) = λ u other c live. elim (was (fork_of u c) live) [
        | inl old ↦ old
        | inr same ↦ absurd (other ((one_parent u (label_at l place) c child same).0 ∙ next.by))
      ] in
      let not_top : (u : List ℕ) → Among u (a ++ b) → u ≢ top = λ u among same. once (subst (λ t. Among t (a ++ b)) same among) in
      order_from l after (left ++ e ∷ right) waiting (subst (λ t. Placed l after t waiting) (sym (threads_append left (e ∷ right))) q)
      (shaped_change l done after left right d e s refl (λ w. omega arith)
      ((child, refl), each_at (λ deque. Stacked deque.threads) left d right s.stacked)
      (child_on_top l done after (fork_of top child) top under
      (λ c live. before (fork_of top child) (λ same. fork_is_longer top child same) c live)
      (λ c live. none_at_fork k l run done closed top place child next deed (fork_of (fork_of top child) c) live (child, c ∷ [], omega arith, append_assoc top (child ∷ []) (c ∷ [])))
      (λ c live. elim (was (fork_of top c) live) [ inl old ↦ inl old | inr same ↦ inr (same ∙ ap (λ t. fork_of t child) next.by) ])
      (λ u among c live. before u (not_top u (among_right u a b (among_left u under (threads_in right) among))) c live)
      (each_at (λ deque. ChildrenAbove l done None deque.threads) left d right s.children_above))
      (λ none. cons_is_not_nil (fork_of top child) (top ∷ under) none)
      (λ t among c live. before t (not_top t (elim among [
        | inl there ↦ among_left t a b there
        | inr there ↦ among_right t a b (among_right t under (threads_in right) there)
      ])) c live))

  module _ (end : deed_at l place ≡ ends) where
    before_end : (x : List ℕ) → IsLive l after x → IsLive l done x
    before_end x live = was_live l done after place more x live (λ child deed. absurd (end_is_no_fork child (sym end ∙ deed)))

    gone : ¬ IsLive l after top
    gone live = ended_is_not_live l done after place more next.inside end (subst (IsLive l after) (sym next.by) live)

    -- the thread out of the deques
    without_top : (under : List (List ℕ)) → Each (λ w. top ≢ fork_of w.thread w.child) waiting
        → OrderOf l done (left ++ deque_of id (Some worker) (top ∷ under) ∷ right) waiting → Placed l after (threads_in left ++ (under ++ threads_in right)) waiting
    without_top under unwaited o =
        let d : Deque = deque_of id (Some worker) (top ∷ under) in
        let a : List (List ℕ) = threads_in left in let b : List (List ℕ) = under ++ threads_in right in
        let p : Placed l done (a ++ top ∷ b) waiting = subst (λ t. Placed l done t waiting) (threads_append left (d ∷ right)) (placed_of l done (left ++ d ∷ right) waiting o) in
        placed_end l done after place more k run closed a b waiting own_next end
        (each_map (λ w. top ≢ fork_of w.thread w.child) (λ w. label_at l place ≢ fork_of w.thread w.child) waiting (λ w among other same. other (sym next.by ∙ same)) unwaited)
        (subst (λ t. Placed l done (a ++ t ∷ b) waiting) (sym next.by) p)

    pub order_end_above : (child : ℕ) (parent : List ℕ) (below : List (List ℕ)) → top ≡ fork_of parent child
        → OrderOf l done (left ++ deque_of id (Some worker) (top ∷ parent ∷ below) ∷ right) waiting
        → OrderOf l after (left ++ deque_of id (Some worker) (parent ∷ below) ∷ right) waiting
    order_end_above child parent below is o =
        let d : Deque = deque_of id (Some worker) (top ∷ parent ∷ below) in let e : Deque = deque_of id (Some worker) (parent ∷ below) in
        let s : Shaped l done (left ++ d ∷ right) = shaped_of l done (left ++ d ∷ right) waiting o in
        let there : Among parent (threads_in (left ++ d ∷ right)) = subst (λ t. Among parent t) (sym (threads_append left (d ∷ right)))
        (among_right parent (threads_in left) (top ∷ parent ∷ (below ++ threads_in right)) (inr (inl refl))) in
        let unwaited : Each (λ w. top ≢ fork_of w.thread w.child) waiting = each_from (λ w. top ≢ fork_of w.thread w.child) waiting (λ w among same.
        each_among (λ thread. ¬ Among thread (threads_in (left ++ d ∷ right))) w.thread (waiting_threads waiting) o.apart (waits_among w waiting among)
        (subst (λ t. Among t (threads_in (left ++ d ∷ right))) (one_parent parent w.thread child w.child (sym is ∙ same)).0 there)) in
        order_from l after (left ++ e ∷ right) waiting (subst (λ t. Placed l after t waiting) (sym (threads_append left (e ∷ right))) (without_top (parent ∷ below) unwaited o))
        (shaped_change l done after left right d e s refl (λ w. omega arith)
        (each_at (λ deque. Stacked deque.threads) left d right s.stacked).1
        (parent_on_top l done after top parent below before_end gone (each_at (λ deque. ChildrenAbove l done None deque.threads) left d right s.children_above))
        (λ none. cons_is_not_nil parent below none) (λ t among c live. before_end (fork_of t c) live))

    pub order_end_leaves : Each (λ w. top ≢ fork_of w.thread w.child) waiting
        → OrderOf l done (left ++ deque_of id (Some worker) (top ∷ []) ∷ right) waiting → OrderOf l after (left ++ right) waiting
    order_end_leaves unwaited o =
        let d : Deque = deque_of id (Some worker) (top ∷ []) in
        let s : Shaped l done (left ++ d ∷ right) = shaped_of l done (left ++ d ∷ right) waiting o in
        order_from l after (left ++ right) waiting (subst (λ t. Placed l after t waiting) (sym (threads_append left right)) (without_top [] unwaited o))
        (shaped_without l done after left right d s (λ t c live. before_end (fork_of t c) live))

    pub order_end_wakes : (before later : List Waiting) (w : Waiting) → waiting ≡ before ++ w ∷ later → top ≡ fork_of w.thread w.child
        → OrderOf l done (left ++ deque_of id (Some worker) (top ∷ []) ∷ right) waiting
        → OrderOf l after (left ++ deque_of id (Some worker) (w.thread ∷ []) ∷ right) (before ++ later)
    order_end_wakes before later w cut is o =
        let d : Deque = deque_of id (Some worker) (top ∷ []) in let e : Deque = deque_of id (Some worker) (w.thread ∷ []) in
        let a : List (List ℕ) = threads_in left in let b : List (List ℕ) = threads_in right in
        let s : Shaped l done (left ++ d ∷ right) = shaped_of l done (left ++ d ∷ right) waiting o in
        let p : Placed l done (a ++ top ∷ b) (before ++ w ∷ later) = subst (λ v. Placed l done (a ++ top ∷ b) v) cut
        (subst (λ t. Placed l done t waiting) (threads_append left (d ∷ right)) (placed_of l done (left ++ d ∷ right) waiting o)) in
        order_from l after (left ++ e ∷ right) (before ++ later) (subst (λ t. Placed l after t (before ++ later)) (sym (threads_append left (e ∷ right)))
        (placed_wake l done after place more k run closed a b before later w own_next end (next.by ∙ is) (subst (λ t. Placed l done (a ++ t ∷ b) (before ++ w ∷ later)) (sym next.by) p)))
        (shaped_change l done after left right d e s refl (λ w. omega arith) tt tt (λ none. cons_is_not_nil w.thread [] none) (λ t among c live. before_end (fork_of t c) live))
