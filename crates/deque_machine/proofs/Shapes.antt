-- The shape of each deque, behind each kind of event.
use Rattle.std.proofs.Common.{◌≡◌, ◌≢◌, ℕ, ◌≤◌, ◌⊎◌, List, [], ◌∷◌, ◌++◌, inl, inr, refl, sym, ap, subst, ◌∙◌, arith, append_assoc}
use Rattle.std.specs.Prelude.{Option, None, Some, is_some, unwrap_or, cond, nat_eq}
use Rattle.std.proofs.Common.{true≢false}
use Rattle.dag_order.specs.LabelOrder.{fork_of}
use Rattle.depth_first_run.specs.Passed.Actions.{Action}
use Rattle.depth_first_run.specs.Passed.Facts.{IsLive}
use Rattle.deque_machine.specs.Lists.{Among, Each}
use Rattle.deque_machine.proofs.Lists.{total_append, each_map, each_change, each_without, each_join, each_left, each_right, among_left, among_right}
use Rattle.deque_machine.specs.Moments.{Deque, Waiting, threads_in, owned_by, with_id, one_if_owned, one_if_id}
use Rattle.deque_machine.specs.LawfulOrder.{Stacked, ChildrenAbove, OrderOf}
use Rattle.deque_machine.proofs.Placed.{Placed}

pub threads_append : (xs ys : List Deque) → threads_in (xs ++ ys) ≡ threads_in xs ++ threads_in ys
threads_append [] ys = refl
threads_append (x ∷ xs) ys = ap (λ t. x.threads ++ t) (threads_append xs ys) ∙ sym (append_assoc x.threads (threads_in xs) (threads_in ys))

pub in_threads : (u : List ℕ) (d : Deque) (ds : List Deque) → Among d ds → Among u d.threads → Among u (threads_in ds)
in_threads u d [] there inside = absurd there
in_threads u d (x ∷ ds) there inside = elim there [
  | inl same ↦ among_left u x.threads (threads_in ds) (subst (λ t. Among u t.threads) same inside)
  | inr later ↦ among_right u x.threads (threads_in ds) (in_threads u d ds later inside)
]

-- what the deques are, apart from who is live
pub record Shaped (l : List Action) (done : ℕ → ℕ) (deques : List Deque) : Type 0 where
  pub stacked : Each (λ deque. Stacked deque.threads) deques
  pub children_above : Each (λ deque. ChildrenAbove l done None deque.threads) deques
  pub none_empty : Each (λ deque. deque.threads ≢ []) deques
  pub ids_differ : (id : ℕ) → with_id id deques ≤ 1
  pub owns_one : (worker : ℕ) → owned_by worker deques ≤ 1

pub shaped_of : (l : List Action) (done : ℕ → ℕ) (deques : List Deque) (waiting : List Waiting) → OrderOf l done deques waiting → Shaped l done deques
shaped_of l done deques waiting o =
    record { stacked = o.stacked; children_above = o.children_above; none_empty = o.none_empty; ids_differ = o.ids_differ; owns_one = o.owns_one }

pub placed_of : (l : List Action) (done : ℕ → ℕ) (deques : List Deque) (waiting : List Waiting) → OrderOf l done deques waiting → Placed l done (threads_in deques) waiting
placed_of l done deques waiting o =
    record { rises = o.rises; waits = o.waits; apart = o.apart; all_placed = o.all_placed; all_live = o.all_live; wait_once = o.wait_once }

pub order_from : (l : List Action) (done : ℕ → ℕ) (deques : List Deque) (waiting : List Waiting) → Placed l done (threads_in deques) waiting → Shaped l done deques
    → OrderOf l done deques waiting
order_from l done deques waiting p s = record {
  rises = p.rises;
  stacked = s.stacked;
  children_above = s.children_above;
  waits = p.waits;
  apart = p.apart;
  all_placed = p.all_placed;
  all_live = p.all_live;
  wait_once = p.wait_once;
  none_empty = s.none_empty;
  ids_differ = s.ids_differ;
  owns_one = s.owns_one;
}

-- no new live children of these threads
pub children_kept : (l : List Action) (done after : ℕ → ℕ) (above : Option (List ℕ)) (threads : List (List ℕ))
    → ((t : List ℕ) → Among t threads → (child : ℕ) → IsLive l after (fork_of t child) → IsLive l done (fork_of t child))
    → ChildrenAbove l done above threads → ChildrenAbove l after above threads
children_kept l done after above [] was all = tt
children_kept l done after above (t ∷ []) was all = tt
children_kept l done after above (t ∷ parent ∷ below) was all =
    (λ child live. all.0 child (was t (inl refl) child live), children_kept l done after (Some t) (parent ∷ below) (λ u among. was u (inr among)) all.1)

-- of a list of deques
pub all_children_kept : (l : List Action) (done after : ℕ → ℕ) (deques : List Deque)
    → ((t : List ℕ) → Among t (threads_in deques) → (child : ℕ) → IsLive l after (fork_of t child) → IsLive l done (fork_of t child))
    → Each (λ deque. ChildrenAbove l done None deque.threads) deques → Each (λ deque. ChildrenAbove l after None deque.threads) deques
all_children_kept l done after deques was all =
    each_map (λ deque. ChildrenAbove l done None deque.threads) (λ deque. ChildrenAbove l after None deque.threads) deques
    (λ d among. children_kept l done after None d.threads (λ t inside. was t (in_threads t d deques among inside))) all

-- another deque in the place of one, with the same id and no owner or the same one
pub shaped_change : (l : List Action) (done after : ℕ → ℕ) (left right : List Deque) (d e : Deque) → Shaped l done (left ++ d ∷ right)
    → e.id ≡ d.id → ((worker : ℕ) → one_if_owned worker e ≤ one_if_owned worker d)
    → Stacked e.threads → ChildrenAbove l after None e.threads → e.threads ≢ []
    → ((t : List ℕ) → Among t (threads_in left) ⊎ Among t (threads_in right) → (child : ℕ) → IsLive l after (fork_of t child) → IsLive l done (fork_of t child))
    → Shaped l after (left ++ e ∷ right)
shaped_change l done after left right d e s same_id owner stacked children filled was = record {
  stacked = each_change (λ deque. Stacked deque.threads) left d e right s.stacked stacked;
  children_above =
      let C : Deque → Type 0 = λ deque. ChildrenAbove l done None deque.threads in
      let D : Deque → Type 0 = λ deque. ChildrenAbove l after None deque.threads in
      each_join D left (e ∷ right)
      (all_children_kept l done after left (λ t among. was t (inl among)) (each_left C left (d ∷ right) s.children_above))
      (children, all_children_kept l done after right (λ t among. was t (inr among)) (each_right C left (d ∷ right) s.children_above).1);
  none_empty = each_change (λ deque. deque.threads ≢ []) left d e right s.none_empty filled;
  ids_differ = λ id. let most = s.ids_differ id in
      let before = total_append (one_if_id id) left (d ∷ right) in let behind = total_append (one_if_id id) left (e ∷ right) in
      let same : one_if_id id e ≡ one_if_id id d = ap (λ t. cond (nat_eq id t) 1 0) same_id in omega (arith, most, before, behind, same);
  owns_one = λ worker. let most = s.owns_one worker in
      let before = total_append (one_if_owned worker) left (d ∷ right) in let behind = total_append (one_if_owned worker) left (e ∷ right) in
      let no_more = owner worker in omega (arith, most, before, behind, no_more);
}

-- one deque less
pub shaped_without : (l : List Action) (done after : ℕ → ℕ) (left right : List Deque) (d : Deque) → Shaped l done (left ++ d ∷ right)
    → ((t : List ℕ) → (child : ℕ) → IsLive l after (fork_of t child) → IsLive l done (fork_of t child)) → Shaped l after (left ++ right)
shaped_without l done after left right d s was = record {
  stacked = each_without (λ deque. Stacked deque.threads) left d right s.stacked;
  children_above = all_children_kept l done after (left ++ right) (λ t among. was t) (each_without (λ deque. ChildrenAbove l done None deque.threads) left d right s.children_above);
  none_empty = each_without (λ deque. deque.threads ≢ []) left d right s.none_empty;
  ids_differ = λ id. let most = s.ids_differ id in
      let before = total_append (one_if_id id) left (d ∷ right) in let behind = total_append (one_if_id id) left right in omega (arith, most, before, behind);
  owns_one = λ worker. let most = s.owns_one worker in
      let before = total_append (one_if_owned worker) left (d ∷ right) in let behind = total_append (one_if_owned worker) left right in omega (arith, most, before, behind);
}

-- the same deques, where nobody new is live
pub shaped_same : (l : List Action) (done after : ℕ → ℕ) (deques : List Deque) → Shaped l done deques
    → ((t : List ℕ) → IsLive l after t → IsLive l done t) → Shaped l after deques
shaped_same l done after deques s was = record {
  stacked = s.stacked;
  children_above = all_children_kept l done after deques (λ t among child. was (fork_of t child)) s.children_above;
  none_empty = s.none_empty;
  ids_differ = s.ids_differ;
  owns_one = s.owns_one;
}

some_is_not_none : (t : List ℕ) → ¬ (None ≡ Some t)
some_is_not_none t is = true≢false (sym (ap is_some is))

one_thread : (t u : List ℕ) → Some t ≡ Some u → t ≡ u
one_thread t u is = ap (λ o. unwrap_or o t) is

-- a child on top of its parent, which had no live child above it
pub child_on_top : (l : List Action) (done after : ℕ → ℕ) (c t : List ℕ) (under : List (List ℕ))
    → ((child : ℕ) → IsLive l after (fork_of c child) → IsLive l done (fork_of c child)) → ((child : ℕ) → ¬ IsLive l done (fork_of c child))
    → ((child : ℕ) → IsLive l after (fork_of t child) → IsLive l done (fork_of t child) ⊎ (fork_of t child ≡ c))
    → ((u : List ℕ) → Among u under → (child : ℕ) → IsLive l after (fork_of u child) → IsLive l done (fork_of u child))
    → ChildrenAbove l done None (t ∷ under) → ChildrenAbove l after None (c ∷ t ∷ under)
child_on_top l done after c t [] own none parent others all = (λ child live. absurd (none child (own child live)), tt)
child_on_top l done after c t (u ∷ below) own none parent others all = (
  λ child live. absurd (none child (own child live)),
  (
    λ child live. elim (parent child live) [
      | inl before ↦ absurd (some_is_not_none (fork_of t child) (all.0 child before))
      | inr same ↦ ap Some (sym same)
    ],
    children_kept l done after (Some t) (u ∷ below) others all.1,
  ),
)

-- a thread that ended is gone from above its parent
pub parent_on_top : (l : List Action) (done after : ℕ → ℕ) (t parent : List ℕ) (below : List (List ℕ))
    → ((x : List ℕ) → IsLive l after x → IsLive l done x) → ¬ IsLive l after t
    → ChildrenAbove l done None (t ∷ parent ∷ below) → ChildrenAbove l after None (parent ∷ below)
parent_on_top l done after t parent [] was gone all = tt
parent_on_top l done after t parent (u ∷ below) was gone all = (
  λ child live. absurd (gone (subst (IsLive l after) (sym (one_thread t (fork_of parent child) ((all.1).0 child (was (fork_of parent child) live)))) live)),
  children_kept l done after (Some parent) (u ∷ below) (λ x among child. was (fork_of x child)) (all.1).1,
)

-- the front of a deque, and its bottom thread by itself
pub stacked_front : (front : List (List ℕ)) (bottom : List ℕ) → Stacked (front ++ bottom ∷ []) → Stacked front
stacked_front [] bottom all = tt
stacked_front (t ∷ []) bottom all = tt
stacked_front (t ∷ u ∷ front) bottom all = (all.0, stacked_front (u ∷ front) bottom all.1)

pub children_front : (l : List Action) (done : ℕ → ℕ) (above : Option (List ℕ)) (front : List (List ℕ)) (bottom : List ℕ)
    → ChildrenAbove l done above (front ++ bottom ∷ []) → ChildrenAbove l done above front
children_front l done above [] bottom all = tt
children_front l done above (t ∷ []) bottom all = tt
children_front l done above (t ∷ u ∷ front) bottom all = (all.0, children_front l done (Some t) (u ∷ front) bottom all.1)
