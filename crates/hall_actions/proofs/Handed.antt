-- A thread to which the kept result of its child was handed over, before the Join of it.
use Rattle.std.proofs.Common.{◌≡◌, ◌<◌, List, [], ◌∷◌, ◌++◌, map, reverse, refl, sym, ap, ◌∙◌, subst, true≢false}
use Rattle.std.proofs.lemmas.List.{reverse-append, map-append}
use Rattle.std.proofs.Math.Logic.{∥∥₁_map}
use Rattle.std.proofs.lemmas.Option.{same_Some}
use Rattle.std.specs.Prelude.{Bool, true, false, Some}
use Rattle.containers.specs.declared.bounded_list.BoundedList.{BoundedList}
use Rattle.dag_order.specs.declared.birth.Birth.{Birth}
use Rattle.deque_list.specs.Lanes.{LaneView}
use Rattle.language_limits.specs.declared.TheConstants.{GREATEST_COUNT}
use Rattle.hall_slots.specs.Passed.Period.{Period}
use Rattle.hall_parts.specs.HallNames.{Each, ListSlot, HallKey, table_of, quota_of, ThreadId, child_shown, IsJoin, is_there, IsOnlyNewest, delivered_if}
use Rattle.hall_parts.specs.HallNames.{same_id, with_delivered, IsAtPoint, IsResult, Child, children_of, newest, next_of, Ended, Thread, Kept}
use Rattle.hall_slots.specs.Passed.Writing.{IsHanded}
use Rattle.hall_slots.proofs.Passed.DequeMachineLists.{each_join, each_right}
use Rattle.thread_frames.specs.Passed.Parts as shown
use Rattle.thread_frames.proofs.Found.{same_with_itself}
use Rattle.thread_frames.specs.declared.next.Next.TheVariants as nexts
use Rattle.thread_frames.proofs.Listing.{of_list}
use Rattle.hall_parts.specs.Passed.ThreadActionsResults.{HasCome}
use Rattle.hall_parts.specs.EventParts.{IsNext}
use Rattle.hall_parts.specs.Here.{MayDo}
use Rattle.hall_parts.specs.ListCalls.{IsHandedThere}
use Rattle.hall_actions.specs.Kept.{CanJoinKept}

-- if the newest child alone has the id, it has the result once that is delivered
newest_later : (x : Child) (b : Bool) (y : Child) (ys rest : List Child) → newest (x ∷ delivered_if b y ys rest) ≡ newest (delivered_if b y ys rest)
newest_later x true y ys rest = refl
newest_later x false y ys rest = refl

pub newest_is_given : (id : ThreadId) (xs : List Child) → IsOnlyNewest id xs → is_there (newest (with_delivered id xs)) ≡ true
newest_is_given id [] only = absurd only
newest_is_given id (x ∷ []) only = ap (λ b. is_there (newest (delivered_if b x [] []))) only
newest_is_given id (x ∷ y ∷ ys) only =
    ap (λ b. is_there (newest (delivered_if b x (y ∷ ys) (with_delivered id (y ∷ ys))))) only.0
    ∙ ap is_there (newest_later x (same_id y.id id) y ys (with_delivered id ys)) ∙ newest_is_given id (y ∷ ys) only.1

-- a child other than the newest has another id
abbrev IsOther : ThreadId → shown.Child → Type 0
IsOther id x = same_id x.id id ≡ false

shown_later : (x : Child) (xs : List Child) → map child_shown (reverse (x ∷ xs)) ≡ map child_shown (reverse xs) ++ child_shown x ∷ []
shown_later x xs = ap (map child_shown) (reverse-append (x ∷ []) xs) ∙ map-append child_shown (reverse xs) (x ∷ [])

-- the children as they are shown are the newest one and others
pub record Newest (id : ThreadId) (xs : List Child) : Type 0 where
  pub first : shown.Child
  pub others : List shown.Child
  pub are : map child_shown (reverse xs) ≡ first ∷ others
  pub differ : Each (IsOther id) others

newest_first : (id : ThreadId) (xs : List Child) → IsOnlyNewest id xs → Newest id xs
newest_first id [] only = absurd only
newest_first id (x ∷ []) only = record { first = child_shown x; others = []; are = refl; differ = tt }
newest_first id (x ∷ y ∷ ys) only = let later = newest_first id (y ∷ ys) only.1 in record {
  first = later.first;
  others = later.others ++ child_shown x ∷ [];
  are = shown_later x (y ∷ ys) ∙ ap (λ xs. xs ++ child_shown x ∷ []) later.are;
  differ = each_join (IsOther id) later.others (child_shown x ∷ []) later.differ (only.0, tt);
}

-- so one that has the id comes first
comes_first : (id : ThreadId) (first : shown.Child) (others front back : List shown.Child) (child : shown.Child) → Each (IsOther id) others
    → first ∷ others ≡ front ++ child ∷ back → child.id ≡ id → front ≡ []
comes_first id first others [] back child differ are is = refl
comes_first id first others (x ∷ front) back child differ are is =
    let those = subst (Each (IsOther id)) (ap rest_of are) differ in
    absurd (true≢false (sym (ap (λ i. same_id i id) is ∙ same_with_itself id) ∙ (each_right (IsOther id) front (child ∷ back) those).0))
  where
    rest_of : List shown.Child → List shown.Child
    rest_of [] = []
    rest_of (y ∷ ys) = ys

module _ (key : HallKey) (list : ListSlot) (top : Thread) (child : ThreadId) (j : CanJoinKept key list top child) (results : Kept Ended) (handed : Thread)
    (come : HasCome list.part.results results top handed child) where
  same_result : come.ended ≡ j.ended
  same_result = same_Some come.ended j.ended (sym come.kept ∙ j.kept)

  pub its_next : next_of handed ≡ Some (nexts.Join child)
  its_next = come.given.next ∙ j.next

  pub is_join : IsJoin (next_of handed)
  is_join = subst IsJoin (sym its_next) tt

  pub has_result : is_there (newest (children_of handed)) ≡ true
  has_result = ap (λ cs. is_there (newest cs)) come.given.children
      ∙ newest_is_given come.ended.id (children_of top) (subst (λ (i : ThreadId). IsOnlyNewest i (children_of top)) (sym (ap (λ (e : Ended). e.id) same_result ∙ j.its_id)) j.only)

  module _ (point : IsAtPoint (table_of key) (quota_of key) top) where
    pub its_point : IsAtPoint (table_of key) (quota_of key) handed
    its_point = come.given.point (table_of key) (quota_of key) point (subst (IsResult (table_of key) (quota_of key)) (sym same_result) j.result)

    pub is_listed : IsNext key handed (nexts.Join child)
    is_listed = λ c of. ∥∥₁_map (its_point.at c of) (λ a. of_list c (table_of key) handed handed.prepared (nexts.Join child) a its_next)

-- the child whose result was handed over is the newest one
pub is_newest : (key : HallKey) (list : ListSlot) (top : Thread) (child : ThreadId) → CanJoinKept key list top child → (after : ListSlot) (handed : Thread)
    → (come : IsHandedThere list after top handed child) → IsHanded.front come.handed ≡ []
is_newest key list top child j after handed come =
    let its_id = ap (λ (e : Ended). e.id) (same_Some come.ended j.ended (sym come.kept ∙ j.kept)) ∙ j.its_id in
    let newest = newest_first child (children_of top) j.only in
    comes_first child newest.first newest.others come.handed.front come.handed.back come.handed.child newest.differ
    (sym newest.are ∙ come.handed.children_were) (come.handed.child_is ∙ its_id)

-- so it may do its Join, as it might do an action before
pub may_join : (key : HallKey) (list : ListSlot) (top : Thread) (child : ThreadId) (joins : CanJoinKept key list top child) (results : Kept Ended) (now : Thread)
    → HasCome list.part.results results top now child → IsAtPoint (table_of key) (quota_of key) top
    → (under : LaneView Thread) (running : Period) (first : BoundedList Birth) → MayDo 1 0 top under running first → MayDo 1 0 now under running first
may_join key list top child joins results now come point under running first may = record {
  placed = ∣ (table_of key, quota_of key, its_point key list top child joins results now come point) ∣₁;
  count = subst (λ n. n < GREATEST_COUNT) (sym come.given.done) may.count;
  room = may.room;
  none = may.none;
  fits = may.fits;
}
