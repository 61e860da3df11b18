-- The result of a thread comes to its parent, which is on top of the lane without it.
use Rattle.std.proofs.Common.{◌≡◌, List, ◌∷◌, sym, ap, subst, ◌∙◌}
use Rattle.std.proofs.lemmas.Option.{same_Some}
use Rattle.std.specs.Prelude.{Some, slice_get, drop}
use Rattle.hall_parts.specs.HallNames.{IsAwaited, children_of, label_of, Ended, Thread, thread_shown, result_shown}
use Rattle.thread_frames.proofs.Threads.{deliveries_hand_over}
use Rattle.thread_actions.specs.Results.{IsGiven}
use Rattle.hall_slots.specs.Passed.Writing.{IsHanded}

-- a thread that was given a result was handed it
pub given_is_handed : (ended : Ended) (parent now : Thread) → IsAwaited (label_of parent) ended (children_of parent) → IsGiven ended parent now
    → IsHanded (thread_shown parent) (result_shown ended) (thread_shown now)
given_is_handed ended parent now awaited given =
    let handed = deliveries_hand_over parent now ended awaited given.children in
    record {
      front = handed.0;
      back = handed.1;
      child = handed.2;
      children_were = handed.3;
      child_is = handed.4;
      same_id = given.same.id;
      same_parent = given.same.parent;
      same_label = given.same.label;
      same_func = given.same.func;
      same_done = given.done;
      children = handed.5;
      words = given.words;
    }

pub given_top : (ended : Ended) (were under now : List Thread) (popped after : Thread) (parent : Thread) (below : List Thread) → were ≡ parent ∷ below
    → Some popped ≡ slice_get were 0 → under ≡ drop 1 were → now ≡ after ∷ under
    → (awaits : (p : Thread) × (b : List Thread) × (were ≡ p ∷ b) × IsAwaited (label_of p) ended (children_of p)) → IsGiven ended popped after
    → (x : Thread) × (now ≡ x ∷ below) × IsGiven ended parent x × IsHanded (thread_shown parent) (result_shown ended) (thread_shown x)
given_top ended were under now popped after parent below is item rest put awaits given =
    let popped_is : popped ≡ parent = same_Some popped parent (item ∙ ap (λ xs. slice_get xs 0) is) in
    let first : awaits.0 ≡ parent = same_Some awaits.0 parent (ap (λ xs. slice_get xs 0) (sym awaits.2 ∙ is)) in
    let gives = subst (λ x. IsGiven ended x after) popped_is given in (
      after,
      put ∙ ap (λ u. after ∷ u) (rest ∙ ap (drop 1) is),
      gives,
      given_is_handed ended parent after (subst (λ x. IsAwaited (label_of x) ended (children_of x)) first awaits.3) gives,
    )
