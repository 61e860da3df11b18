-- What a theft is on the parts.
use Rattle.std.proofs.Common.{◌≡◌, ◌≢◌, ℕ, suc, ◌+◌, ◌-◌, ◌<◌, Bool, Option, List, [], ◌∷◌, ◌++◌, length, map, take, drop, refl, sym, ap, subst, ◌∙◌, arith, true}
use Rattle.std.specs.Prelude.{None, Some, slice_get, slice_set, insert, nat_lt, ◌↔◌}
use Rattle.deque_list.specs.declared.insert_refused.InsertRefused.{InsertRefused}
use Rattle.deque_list.specs.declared.insert_refused.InsertRefused.TheVariants as refusals
use Rattle.std.proofs.lemmas.List.{map-append, length-append, length-map}
use Rattle.std.proofs.lemmas.Option.{slice_get-map, same_Some}
use Rattle.std.specs.Option.{option_map}
use Rattle.open_periods.specs.Passed.BoundedList.{entries}
use Rattle.deque_list.specs.declared.deque_id.DequeId.{DequeId}
use Rattle.deque_list.specs.Ids.{IsLive}
use Rattle.deque_list.specs.Deques.{Deque, DequeAt, deque_ids}
use Rattle.deque_list.specs.DequeLists.{ListView, SameRoom}
use Rattle.open_periods.specs.Passed.Lists.{Each}
use Rattle.open_periods.proofs.Passed.Lists.{each_from}
use Rattle.open_periods.specs.declared.period.Period.{Period as OpenPeriod}
use Rattle.open_periods.specs.Periods.{Adds, open_shown}
use Rattle.open_periods.proofs.Sorting.{get_middle}
use Rattle.open_periods.specs.declared.table.PeriodTable.{PeriodTable}
use Rattle.open_periods.specs.Tables.{periods_of}
use Rattle.open_periods.proofs.Lists.{place_of_among}
use Rattle.moment_shown.specs.Parts as parts
use Rattle.moment_shown.specs.Events.{Begins, Steals, steals_beside, takes_over}
use Rattle.list_changes.specs.Shown.{deque_shown, parts_of, deque_with, Holds, Becomes, IsCut}
use Rattle.list_changes.specs.Events.{StoleBeside, TookOver}
use Rattle.list_changes.proofs.Putting.{set_middle}

module _ {X : Type 0} where
  pub take_left : (xs ys : List X) → take (length xs) (xs ++ ys) ≡ xs
  take_left [] ys = refl
  take_left (x ∷ xs) ys = ap (λ t. x ∷ t) (take_left xs ys)

  pub drop_left : (xs ys : List X) → drop (length xs) (xs ++ ys) ≡ ys
  drop_left [] ys = refl
  drop_left (x ∷ xs) ys = drop_left xs ys

  -- the last place of a list with one at its end
  pub last_place : (xs : List X) (x : X) → length (xs ++ x ∷ []) - 1 ≡ length xs
  last_place xs x = let n = length-append xs (x ∷ []) in omega (arith, n)

  insert_next : (left : List X) (x y : X) (right : List X) → insert (left ++ x ∷ right) (suc (length left)) y ≡ left ++ x ∷ y ∷ right
  insert_next [] x y right = refl
  insert_next (z ∷ left) x y right = ap (λ t. z ∷ t) (insert_next left x y right)

  pub insert_behind : (left : List X) (x y : X) (right : List X) → insert (left ++ x ∷ right) (length left + 1) y ≡ left ++ x ∷ y ∷ right
  insert_behind left x y right = ap (λ n. insert (left ++ x ∷ right) n y) (one_more (length left)) ∙ insert_next left x y right
    where
      one_more : (n : ℕ) → n + 1 ≡ suc n
      one_more n = omega arith

module _ {T : Type 0} {list : ListView T} {id : DequeId} {owner : Option ℕ} {items : List T} (holds : Holds list id owner items) where
  abbrev pub held : Deque T
  held = record { id = id; owner = owner; items = items }

  pub rank_of : DequeAt list.deques id (length holds.left) held
  rank_of = (ap (λ ds. slice_get ds (length holds.left)) holds.deques_are ∙ get_middle holds.left held holds.right, refl)

  pub is_live : IsLive (deque_ids list.deques) id
  is_live = (length holds.left, slice_get-map (λ d. Deque.id d) list.deques (length holds.left) ∙ ap (option_map (λ d. Deque.id d)) rank_of.0)

-- a deque gives its bottom item away, and a deque with this item comes to the right of it
module _ {T : Type 0} {before : ListView T} {victim : DequeId} (owner : Option ℕ) (first : T) (others : List T) (bottom : T)
    (holds : Holds before victim owner (first ∷ (others ++ bottom ∷ []))) where
  abbrev kept : Deque T
  kept = deque_with victim owner (first ∷ others)

  bottom_is : (taken : T) → ((rank : ℕ) (deque : Deque T) → DequeAt before.deques victim rank deque → Some taken ≡ slice_get deque.items (length deque.items - 1)) → taken ≡ bottom
  bottom_is taken item = same_Some taken bottom (item (length holds.left) (held holds) (rank_of holds)
      ∙ ap (slice_get (first ∷ (others ++ bottom ∷ []))) (last_place (first ∷ others) bottom) ∙ get_middle (first ∷ others) bottom [])

  without_bottom : (mid : ListView T)
      → ((rank : ℕ) (deque : Deque T) → DequeAt before.deques victim rank deque → mid.deques ≡ slice_set before.deques rank (record deque { items = take (length deque.items - 1) deque.items }))
      → mid.deques ≡ holds.left ++ kept ∷ holds.right
  without_bottom mid cut = cut (length holds.left) (held holds) (rank_of holds)
      ∙ ap (λ ds. slice_set ds (length holds.left) (deque_with victim owner (take (length (first ∷ (others ++ bottom ∷ [])) - 1) (first ∷ (others ++ bottom ∷ []))))) holds.deques_are
      ∙ set_middle holds.left (held holds) (deque_with victim owner (take (length (first ∷ (others ++ bottom ∷ [])) - 1) (first ∷ (others ++ bottom ∷ [])))) holds.right
      ∙ ap (λ is. holds.left ++ deque_with victim owner is ∷ holds.right)
      (ap (λ n. take n (first ∷ (others ++ bottom ∷ []))) (last_place (first ∷ others) bottom) ∙ take_left (first ∷ others) (bottom ∷ []))

  pub put_beside : (worker : ℕ) (mid next : ListView T) (taken : T) (new : DequeId)
      → ((rank : ℕ) (deque : Deque T) → DequeAt before.deques victim rank deque → Some taken ≡ slice_get deque.items (length deque.items - 1))
      → ((rank : ℕ) (deque : Deque T) → DequeAt before.deques victim rank deque → mid.deques ≡ slice_set before.deques rank (record deque { items = take (length deque.items - 1) deque.items }))
      → ((rank : ℕ) (deque : Deque T) → DequeAt mid.deques victim rank deque → next.deques ≡ insert mid.deques (rank + 1) (record { id = new; owner = Some worker; items = taken ∷ [] }))
      → next.most ≡ before.most
      → IsCut holds next (deque_with victim owner (first ∷ others)) (deque_with new (Some worker) (bottom ∷ []))
  put_beside worker mid next taken new item cut put most =
      let middle = without_bottom mid cut in
      record {
        deques = put (length holds.left) kept (ap (λ ds. slice_get ds (length holds.left)) middle ∙ get_middle holds.left kept holds.right, refl)
            ∙ ap (λ ds. insert ds (length holds.left + 1) (deque_with new (Some worker) (taken ∷ []))) middle
            ∙ insert_behind holds.left kept (deque_with new (Some worker) (taken ∷ [])) holds.right
            ∙ ap (λ t. holds.left ++ kept ∷ deque_with new (Some worker) (t ∷ []) ∷ holds.right) (bottom_is taken item);
        most = most;
      }

-- a deque has an owner from now on
pub owned : {T : Type 0} {before : ListView T} {victim : DequeId} (worker : ℕ) (next : ListView T) (thread : T)
    → ((rank : ℕ) (deque : Deque T) → DequeAt before.deques victim rank deque → next.deques ≡ slice_set before.deques rank (record deque { owner = Some worker }))
    → SameRoom before next → (holds : Holds before victim None (thread ∷ [])) → Becomes holds next (deque_with victim (Some worker) (thread ∷ []) ∷ [])
owned {T} {before} {victim} worker next thread take rest holds = record {
  deques = take (length holds.left) (held holds) (rank_of holds)
      ∙ ap (λ ds. slice_set ds (length holds.left) (deque_with victim (Some worker) (thread ∷ []))) holds.deques_are
      ∙ set_middle holds.left (held holds) (deque_with victim (Some worker) (thread ∷ [])) holds.right;
  most = rest.most;
  spare = rest.spare;
}

-- with room for one more deque no refusal comes
pub never_refused : {T : Type 0} (list : ListView T) (refused : InsertRefused) → list.spare ≡ 1 → length list.deques < list.most
    → ((deques : ℕ) → (refused ≡ refusals.Full deques) ↔ ((length list.deques ≡ list.most) × (deques ≡ list.most)))
    → (list.spare ≡ 1 → ¬ (refused ≡ refusals.OutOfMemory)) → ⊥
never_refused list (refusals.Full deques) room few full prepared = let at = (full deques).0 refl in let most = at.0 in absurd (omega (arith, few, most))
never_refused list refusals.OutOfMemory room few full prepared = prepared room refl

-- no deque has a free id
pub nobody_has : {T : Type 0} (deques : List (Deque T)) (id : DequeId) → ¬ IsLive (deque_ids deques) id → Each (λ d. Deque.id d ≢ id) deques
nobody_has deques id free = each_from (λ d. Deque.id d ≢ id) deques (λ d there same.
    let place = place_of_among d deques there in
    free (place.0, slice_get-map (λ e. Deque.id e) deques place.0 ∙ ap (option_map (λ e. Deque.id e)) place.1 ∙ ap Some same))

module _ {T : Type 0} (shown : T → parts.Thread) where
  -- what holds of the owners and ids of all deques holds of those that are shown
  pub owners_shown : (worker : ℕ) (deques : List (Deque T)) → Each (λ d. Deque.owner d ≢ Some worker) deques → Each (λ d. parts.Deque.owner d ≢ Some worker) (map (deque_shown shown) deques)
  owners_shown worker [] all = tt
  owners_shown worker (d ∷ deques) all = (all.0, owners_shown worker deques all.1)

  pub ids_shown : (id : DequeId) (deques : List (Deque T)) → Each (λ d. Deque.id d ≢ id) deques → Each (λ d. parts.Deque.id d ≢ id.0) (map (deque_shown shown) deques)
  ids_shown id [] all = tt
  ids_shown id (d ∷ deques) all = (λ same. all.0 (ap (λ n. record { 0 = n }) same), ids_shown id deques all.1)

begins_as : (worker : ℕ) (parts_before : parts.Parts) (period : OpenPeriod) (table after : PeriodTable) (ahead : Bool) → parts_before.periods ≡ periods_of table
    → Adds (periods_of table) (open_shown worker period) (periods_of after) → period.number ≡ table.begun + 1 → period.ahead ≡ ahead → period.used ≡ 0
    → entries period.book ≡ [] → entries period.births ≡ [] → Begins parts_before worker ahead table.begun (periods_of after)
begins_as worker parts_before period table after ahead are adds number marked unused none born = record {
  new = open_shown worker period;
  adds = subst (λ ps. Adds ps (open_shown worker period) (periods_of after)) (sym are) adds;
  numbered = let n = number in omega (arith, n);
  owner = refl;
  marked = marked;
  unused = unused;
  ran_nothing = none;
  bore_none = born;
}

module _ {T : Type 0} (worker : ℕ) (victim : DequeId) (before : ListView T) (table : PeriodTable) (next : ListView T) (after : PeriodTable) (period : OpenPeriod)
    (adds : Adds (periods_of table) (open_shown worker period) (periods_of after)) (number : period.number ≡ table.begun + 1) (unused : period.used ≡ 0)
    (none : entries period.book ≡ []) (born : entries period.births ≡ []) where
  pub stole_beside : (new : DequeId) → period.ahead ≡ true
      → ((owner : Option ℕ) (first : T) (others : List T) (bottom : T) (holds : Holds before victim owner (first ∷ (others ++ bottom ∷ [])))
      → IsCut holds next (deque_with victim owner (first ∷ others)) (deque_with new (Some worker) (bottom ∷ [])))
      → (¬ IsLive (deque_ids before.deques) new)
      → StoleBeside worker victim before table next after new
  stole_beside new marked become free owner first others bottom holds shown waiting results workers below unowned reach =
      subst (λ n. Steals workers table.begun (parts_of shown waiting results before table) worker n new.0 (parts_of shown waiting results next after)) many
      (subst (λ ds. Steals workers table.begun (parts_of shown waiting results before table) worker (length left) new.0
      (record { deques = ds; waiting = waiting; results = results; periods = periods_of after })) (sym shown_next)
      (steals_beside left right (deque_shown shown (held holds)) (shown first) (map shown others) (shown bottom) new.0 (periods_of after) below
      (owners_shown shown worker before.deques unowned) (subst (λ n. n < workers) (sym many) reach) shown_before
      (ap (λ t. shown first ∷ t) (map-append shown others (bottom ∷ [])))
      (ids_shown shown new before.deques (nobody_has before.deques new free))
      (begins_as worker (parts_of shown waiting results before table) period table after true refl adds number marked unused none born)))
    where
      left : List parts.Deque
      left = map (deque_shown shown) holds.left

      right : List parts.Deque
      right = map (deque_shown shown) holds.right

      many : length left ≡ length holds.left
      many = length-map holds.left (deque_shown shown)

      remaining : Deque T
      remaining = deque_with victim owner (first ∷ others)

      thiefs : Deque T
      thiefs = deque_with new (Some worker) (bottom ∷ [])

      shown_before : map (deque_shown shown) before.deques ≡ left ++ deque_shown shown (held holds) ∷ right
      shown_before = ap (map (deque_shown shown)) holds.deques_are ∙ map-append (deque_shown shown) holds.left (held holds ∷ holds.right)

      shown_next : map (deque_shown shown) next.deques ≡ left ++ deque_shown shown remaining ∷ deque_shown shown thiefs ∷ right
      shown_next = ap (map (deque_shown shown)) (become owner first others bottom holds).deques ∙ map-append (deque_shown shown) holds.left (remaining ∷ thiefs ∷ holds.right)

  pub took_over : ((thread : T) (holds : Holds before victim None (thread ∷ [])) → Becomes holds next (deque_with victim (Some worker) (thread ∷ []) ∷ []))
      → TookOver worker victim before table next after period.ahead
  took_over become thread holds ahead shown waiting results workers below unowned reach =
      subst (λ n. Steals workers table.begun (parts_of shown waiting results before table) worker n victim.0 (parts_of shown waiting results next after)) many
      (subst (λ ds. Steals workers table.begun (parts_of shown waiting results before table) worker (length left) victim.0
      (record { deques = ds; waiting = waiting; results = results; periods = periods_of after })) (sym shown_next)
      (takes_over left right (shown thread) victim.0 (periods_of after) below (owners_shown shown worker before.deques unowned) (subst (λ n. n < workers) (sym many) reach) shown_before
      (begins_as worker (parts_of shown waiting results before table) period table after (nat_lt 0 (length left)) refl adds number (ahead ∙ ap (nat_lt 0) (sym many)) unused none born)))
    where
      left : List parts.Deque
      left = map (deque_shown shown) holds.left

      right : List parts.Deque
      right = map (deque_shown shown) holds.right

      many : length left ≡ length holds.left
      many = length-map holds.left (deque_shown shown)

      mine : Deque T
      mine = deque_with victim (Some worker) (thread ∷ [])

      shown_before : map (deque_shown shown) before.deques ≡ left ++ deque_shown shown (held holds) ∷ right
      shown_before = ap (map (deque_shown shown)) holds.deques_are ∙ map-append (deque_shown shown) holds.left (held holds ∷ holds.right)

      shown_next : map (deque_shown shown) next.deques ≡ left ++ deque_shown shown mine ∷ right
      shown_next = ap (map (deque_shown shown)) (become thread holds).deques ∙ map-append (deque_shown shown) holds.left (mine ∷ holds.right)
