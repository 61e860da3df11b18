-- Which places are next after an action.
use Rattle.std.proofs.Common.{◌≡◌, ℕ, suc, ◌+◌, ◌<◌, List, [], ◌∷◌, ◌++◌, map, inl, inr, refl, sym, ap, subst, ◌∙◌, arith, append_assoc, append-nil}
use Rattle.std.proofs.lemmas.List.{map-append}
use Rattle.std.proofs.lemmas.Bool.{cases_lt, cases_eq}
use Rattle.dag_order.specs.LabelOrder.{fork_of}
use Rattle.depth_first_list.specs.Actions.{forks, Action}
use Rattle.depth_first_list.specs.Runs.{IsDepthFirst}
use Rattle.depth_first_list.specs.Facts.{label_at, index_at, deed_at, IsDone, StemsFrom}
use Rattle.depth_first_list.proofs.ThreadLaws.{index_rises_law, child_begins_behind_fork}
use Rattle.deque_machine.specs.Lists.{Among, Each, one_if_same}
use Rattle.deque_machine.proofs.Lists.{each_left, each_right, each_map, among_left, among_right}
use Rattle.deque_list.specs.Deques.{Deque}
use Rattle.deque_machine.specs.Moments.{threads_in, Rises}
use Rattle.deque_machine.proofs.Labels.{stands_once}
use Rattle.deque_machine.proofs.OneAction.{still_done, now_done, still_missing, stays_next}
use Rattle.trail_check.specs.PlaceLaws.{GoesOnAt}
use Rattle.trail_check.specs.Places.{deque_shown, places_in, IsNextHere}
use Rattle.trail_check.proofs.CutLists.{among_map}

pub places_append : (xs ys : List (Deque ℕ)) → places_in (xs ++ ys) ≡ places_in xs ++ places_in ys
places_append [] ys = refl
places_append (x ∷ xs) ys = ap (λ t. x.items ++ t) (places_append xs ys) ∙ sym (append_assoc x.items (places_in xs) (places_in ys))

-- the labels at the places in the deques are the machine's threads
pub labels_in : (l : List Action) (ds : List (Deque ℕ)) → map (label_at l) (places_in ds) ≡ threads_in (map (deque_shown l) ds)
labels_in l [] = refl
labels_in l (d ∷ ds) = map-append (label_at l) d.items (places_in ds) ∙ ap (λ t. map (label_at l) d.items ++ t) (labels_in l ds)

-- a deque in the middle of a list
pub places_middle : (left right : List (Deque ℕ)) (d : Deque ℕ) → places_in (left ++ d ∷ right) ≡ places_in left ++ (d.items ++ places_in right)
places_middle left right d = places_append left (d ∷ right)

module _ (l : List Action) (done after : ℕ → ℕ) (place : ℕ) (more : (i : ℕ) → after i ≡ done i + one_if_same i place) where
  -- the thread that acted stood once, so what is next of the others stays
  pub others_stay : (before behind : List ℕ) → Rises (map (label_at l) (before ++ place ∷ behind)) → Each (IsNextHere l done) (before ++ place ∷ behind)
      → Each (IsNextHere l after) before × Each (IsNextHere l after) behind
  others_stay before behind rises each =
      let once : ¬ Among (label_at l place) (map (label_at l) before ++ map (label_at l) behind) =
      stands_once (map (label_at l) before) (label_at l place) (map (label_at l) behind)
      (subst Rises (map-append (label_at l) before (place ∷ behind)) rises) in (
        each_map (IsNextHere l done) (IsNextHere l after) before
            (λ i there next. stays_next l done after place more (label_at l i) i next
            (λ same. once (among_left (label_at l place) (map (label_at l) before) (map (label_at l) behind)
            (subst (λ t. Among t (map (label_at l) before)) (sym same) (among_map (label_at l) i before there)))))
            (each_left (IsNextHere l done) before (place ∷ behind) each),
        each_map (IsNextHere l done) (IsNextHere l after) behind
            (λ i there next. stays_next l done after place more (label_at l i) i next
            (λ same. once (among_right (label_at l place) (map (label_at l) before) (map (label_at l) behind)
            (subst (λ t. Among t (map (label_at l) behind)) (sym same) (among_map (label_at l) i behind there)))))
            (each_right (IsNextHere l done) before (place ∷ behind) each).1,
      )

  module _ (k : ℕ) (run : IsDepthFirst k l) (closed : IsDone l done) (next : IsNextHere l done place) where
    -- the thread goes on at its next place
    pub goes_on : (n : ℕ) → place < n → GoesOnAt l place n → IsNextHere l after n
    goes_on n lt on = record {
      inside = on.inside;
      by = refl;
      missing = still_missing l done after place more n
          (elim (cases_lt 0 (done n)) [
            | inr none ↦ omega (arith, none)
            | inl did ↦ let before = closed.earlier place n lt on.inside (sym on.same_thread) did in let missing = next.missing in absurd (omega (arith, before, missing))
          ])
          (λ same. omega (arith, lt, same));
      earlier = λ i below mine. elim (cases_lt i place) [
        | inl low ↦ still_done l done after place more i (next.earlier i low (mine ∙ on.same_thread))
        | inr high ↦ elim (cases_eq i place) [
          | inl here ↦ subst (λ t. 0 < after t) (sym here) (now_done l done after place more)
          | inr other ↦
              let up : index_at l place < index_at l i = index_rises_law k l run place i (let inside = on.inside in omega (arith, below, inside)) (omega (arith, high, other)) (sym (mine ∙ on.same_thread)) in
              let down : index_at l i < index_at l n = index_rises_law k l run i n on.inside below mine in
              let is = on.next_index in absurd (omega (arith, up, down, is))
        ]
      ];
    }

    -- a child that was forked begins
    pub begins : (child : ℕ) → deed_at l place ≡ forks child → IsNextHere l after (suc place)
    begins child deed =
        let first = child_begins_behind_fork k l run place child next.inside deed in
        let stems : StemsFrom (fork_of (label_at l place) child) (label_at l (suc place)) = ([], first.1 ∙ sym (append-nil (fork_of (label_at l place) child))) in record {
          inside = first.0;
          by = refl;
          missing = still_missing l done after place more (suc place)
              (elim (cases_lt 0 (done (suc place))) [
                | inr none ↦ omega (arith, none)
                | inl did ↦ let before = closed.forked place (suc place) child (omega arith) first.0 deed stems did in
                    let missing = next.missing in absurd (omega (arith, before, missing))
              ])
              (λ same. omega (arith, same));
          earlier = λ i below mine.
              let up = index_rises_law k l run i (suc place) first.0 below mine in let zero_index = first.2 in absurd (omega (arith, up, zero_index));
        }

-- the same is done, so the same is next
pub same_next : (l : List Action) (done after : ℕ → ℕ) → ((i : ℕ) → after i ≡ done i) → (n : ℕ) → IsNextHere l done n → IsNextHere l after n
same_next l done after same n next = record {
  inside = next.inside;
  by = next.by;
  missing = same n ∙ next.missing;
  earlier = λ i lt mine. let e = same i in let did = next.earlier i lt mine in omega (arith, e, did);
}

pub all_same_next : (l : List Action) (done after : ℕ → ℕ) → ((i : ℕ) → after i ≡ done i) → (ns : List ℕ) → Each (IsNextHere l done) ns → Each (IsNextHere l after) ns
all_same_next l done after same ns each = each_map (IsNextHere l done) (IsNextHere l after) ns (λ n there next. same_next l done after same n next) each
