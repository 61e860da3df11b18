-- The calls of a thread on the parts.
use Rattle.std.proofs.Common.{◌≡◌, ℕ, suc, ◌+◌, Bool, true, false, List, [], ◌∷◌, ◌++◌, map, reverse, inl, inr, refl, sym, ap, subst, ◌∙◌, arith, append_assoc, true≢false}
use Rattle.std.specs.Prelude.{Some, nat_eq, ◌&&◌}
use Rattle.std.proofs.lemmas.Bool.{cases_eq}
use Rattle.std.proofs.lemmas.List.{map-append, reverse-append}
use Rattle.dag_order.specs.declared.thread_id.ThreadId.{ThreadId}
use Rattle.moment_shown.specs.Events as events
use Rattle.thread_frames.specs.Actions as frames
use Rattle.thread_frames.specs.Actions.{is_there}
use Rattle.thread_frames.specs.Children.{IsAwaited, IsResultFor, with_delivered, delivered_if, either_of, same_id}
use Rattle.thread_frames.specs.Views.{Child, children_of, label_of, done_of, forks_of, newest}
use Rattle.thread_frames.specs.declared.ended.Ended.{Ended}
use Rattle.thread_frames.specs.declared.thread.Thread.{Thread}
use Rattle.thread_frames.specs.Shown.{child_shown, thread_shown}
use Rattle.thread_frames.specs.Laws.{NextActionsStand, ActionsAreActed, ForksAreForked, JoinsAreJoined, DeliveriesHandOver}

pub next_actions_stand : NextActionsStand
next_actions_stand c x next is = record { inside = is.inside; by = is.labelled; index = is.index; does = is.deed }

one_more : (n : ℕ) → n + 1 ≡ suc n
one_more n = omega arith

acted : (before after : Thread) → frames.IsSame before after → done_of after ≡ done_of before + 1 → events.HasActed (thread_shown before) (thread_shown after)
acted before after same done = record {
  same_id = same.id;
  same_parent = same.parent;
  same_label = same.label;
  same_func = same.func;
  one_more = done ∙ one_more _;
}

pub actions_are_acted : ActionsAreActed
actions_are_acted before after acts =
    (acted before after acts.same acts.done, ap (λ cs. map child_shown (reverse cs)) acts.children)

-- what comes last stands first
turned : (cs : List Child) (c : Child) → map child_shown (reverse (cs ++ c ∷ [])) ≡ child_shown c ∷ map child_shown (reverse cs)
turned cs c = ap (map child_shown) (reverse-append cs (c ∷ []))

pub forks_are_forked : ForksAreForked
forks_are_forked id before after child forks = (
  acted before after forks.same forks.done,
  ap (λ cs. map child_shown (reverse cs)) forks.children ∙ turned (children_of before) _
      ∙ ap (λ i. record { id = i; ordinal = forks_of before + 1; func = child.func; delivered = false } ∷ map child_shown (reverse (children_of before))) (sym forks.child_id)
      ∙ ap (λ n. record { id = child.id; ordinal = n; func = child.func; delivered = false } ∷ map child_shown (reverse (children_of before))) (one_more _),
  ap (λ cs. map child_shown (reverse cs)) forks.child_children,
  forks.child_label ∙ ap (Rattle.dag_order.specs.LabelOrder.fork_of (label_of before)) (one_more _),
)

pub newest_last : (cs : List Child) (c : Child) → newest (cs ++ c ∷ []) ≡ Some c
newest_last [] c = refl
newest_last (a ∷ []) c = refl
newest_last (a ∷ b ∷ cs) c = newest_last (b ∷ cs) c

pub joins_are_joined : JoinsAreJoined
joins_are_joined words before after joined there = (
  acted before after joined.same joined.done,
  ap (λ cs. map child_shown (reverse cs)) joined.children ∙ turned (children_of after) joined.joined,
  ap is_there (sym (newest_last (children_of after) joined.joined)) ∙ ap (λ cs. is_there (newest cs)) (sym joined.children) ∙ there,
)

-- the child of an id, with those before and behind it
record CutChild (ended : Ended) (children : List Child) : Type 0 where
  front : List Child
  child : Child
  back : List Child
  are : children ≡ front ++ child ∷ back
  its_id : child.id ≡ ended.id
  delivered : with_delivered ended.id children ≡ front ++ record child { delivered = true } ∷ back

same_ids : (a b : ThreadId) → same_id a b ≡ true → a ≡ b
same_ids a b same = elim (cases_eq a.period b.period) [
  | inl p ↦ elim (cases_eq a.nth b.nth) [
    | inl n ↦ ap (λ t. record { period = t; nth = a.nth }) p ∙ ap (λ t. record { period = b.period; nth = t }) n
    | inr other ↦ absurd (true≢false (sym same ∙ ap (λ t. nat_eq a.period b.period && t) (Rattle.std.proofs.lemmas.Bool.ne_eqb a.nth b.nth other) ∙ both_false (nat_eq a.period b.period)))
  ]
  | inr other ↦ absurd (true≢false (sym same ∙ ap (λ t. t && nat_eq a.nth b.nth) (Rattle.std.proofs.lemmas.Bool.ne_eqb a.period b.period other)))
]
  where
    both_false : (b : Bool) → (b && false) ≡ false
    both_false true = refl
    both_false false = refl

cut_child : (label : List ℕ) (ended : Ended) (children : List Child) → IsAwaited label ended children → CutChild ended children
cut_child label ended [] awaited = absurd awaited
cut_child label ended (x ∷ xs) awaited = by_id (λ there. cut_child label ended xs there) (same_id x.id ended.id) refl awaited
  where
    by_id : (IsAwaited label ended xs → CutChild ended xs) → (b : Bool) → same_id x.id ended.id ≡ b
        → either_of (same_id x.id ended.id) (IsResultFor label ended x) (IsAwaited label ended xs) → CutChild ended (x ∷ xs)
    by_id further true is here = record {
      front = [];
      child = x;
      back = xs;
      are = refl;
      its_id = same_ids x.id ended.id is;
      delivered = ap (λ b. delivered_if b x xs (with_delivered ended.id xs)) is;
    }
    by_id further false is there =
        let rest = further (subst (λ b. either_of b (IsResultFor label ended x) (IsAwaited label ended xs)) is there) in
        record {
          front = x ∷ rest.front;
          child = rest.child;
          back = rest.back;
          are = ap (λ t. x ∷ t) rest.are;
          its_id = rest.its_id;
          delivered = ap (λ b. delivered_if b x xs (with_delivered ended.id xs)) is ∙ ap (λ t. x ∷ t) rest.delivered;
        }

-- a list with one in the middle, turned round
turned_middle : (front : List Child) (c : Child) (back : List Child) → map child_shown (reverse (front ++ c ∷ back)) ≡ map child_shown (reverse back) ++ child_shown c ∷ map child_shown (reverse front)
turned_middle front c back =
    ap (λ cs. map child_shown (reverse cs)) (sym (append_assoc front (c ∷ []) back))
    ∙ ap (map child_shown) (reverse-append (front ++ c ∷ []) back)
    ∙ map-append child_shown (reverse back) (reverse (front ++ c ∷ []))
    ∙ ap (λ t. map child_shown (reverse back) ++ t) (turned front c)

pub deliveries_hand_over : DeliveriesHandOver
deliveries_hand_over before after ended awaited given =
    let cut = cut_child (label_of before) ended (children_of before) awaited in (
      map child_shown (reverse cut.back),
      map child_shown (reverse cut.front),
      child_shown cut.child,
      ap (λ cs. map child_shown (reverse cs)) cut.are ∙ turned_middle cut.front cut.child cut.back,
      cut.its_id,
      ap (λ cs. map child_shown (reverse cs)) (given ∙ cut.delivered) ∙ turned_middle cut.front (record cut.child { delivered = true }) cut.back,
    )
