-- The deque at a place.
use Rattle.std.proofs.Common.{◌≡◌, ◌≢◌, ℕ, ◌≤◌, ◌<◌, List, [], ◌∷◌, ◌++◌, length, map, true, false, inl, inr, refl, sym, ap, subst, ◌∙◌, arith, true≢false}
use Rattle.std.specs.Prelude.{Option, None, Some, slice_get, is_some}
use Rattle.std.specs.Option.{option_map}
use Rattle.std.proofs.lemmas.Option.{slice_get-map, same_Some}
use Rattle.std.proofs.lemmas.List.{length-map}
use Rattle.depth_first_list.specs.Facts.{label_at}
use Rattle.deque_machine.specs.Lists.{Each}
use Rattle.deque_machine.proofs.Lists.{by_end, each_at}
use Rattle.deque_list.specs.declared.deque_id.DequeId.{DequeId}
use Rattle.deque_list.specs.declared.insert_refused.InsertRefused.{InsertRefused}
use Rattle.deque_list.specs.declared.insert_refused.InsertRefused.TheVariants.{Full, OutOfMemory}
use Rattle.deque_list.specs.declared.place.Place.{Place}
use Rattle.deque_list.specs.Ids.{IsLive}
use Rattle.deque_list.specs.Deques.{Deque, DequeAt, place_of, deque_ids}
use Rattle.deque_machine.specs.Moments as machine
use Rattle.deque_machine.specs.Moments.{Moment, owned_by}
use Rattle.deque_machine.specs.Machine.{Setting}
use Rattle.deque_machine.specs.Play.{Limits}
use Rattle.deque_machine.specs.Runs.{Pair}
use Rattle.deque_machine.proofs.Progress.{cut_place}
use Rattle.trail_check.specs.declared.checker.Checker.{Checker}
use Rattle.trail_check.specs.Holds.{Holds, deque_with}
use Rattle.trail_check.specs.Places.{deque_shown}
use Rattle.trail_check.specs.Standing.{StandsFor}
use Rattle.trail_check.specs.Steps.{CanSteal}
use Rattle.trail_check.proofs.Stealing.{deques_are}

-- what is told of a place
pub record IsThere (ds : List (Deque ℕ)) (place : ℕ) (told : Place) : Type 0 where
  pub deque : Deque ℕ
  pub is : slice_get ds place ≡ Some deque
  pub id : deque.id ≡ told.id
  pub owner : deque.owner ≡ told.owner

pub there : (ds : List (Deque ℕ)) (place : ℕ) (told : Place) → Some told ≡ option_map place_of (slice_get ds place) → IsThere ds place told
there ds place told is = by_deque (slice_get ds place) refl is
  where
    by_deque : (o : Option (Deque ℕ)) → slice_get ds place ≡ o → Some told ≡ option_map place_of o → IsThere ds place told
    by_deque None at is = absurd (true≢false (ap is_some is))
    by_deque (Some d) at is =
        let same : place_of d ≡ told = same_Some (place_of d) told (sym is) in record { deque = d; is = at; id = ap (λ t. t.id) same; owner = ap (λ t. t.owner) same }

pub nothing_there : (ds : List (Deque ℕ)) (place : ℕ) → None ≡ option_map place_of (slice_get ds place) → slice_get ds place ≡ None
nothing_there ds place is = by_deque (slice_get ds place) is
  where
    by_deque : (o : Option (Deque ℕ)) → None ≡ option_map place_of o → o ≡ None
    by_deque None is = refl
    by_deque (Some d) is = absurd (true≢false (sym (ap is_some is)))

pub there_live : (ds : List (Deque ℕ)) (place : ℕ) (told : Place) → IsThere ds place told → IsLive (deque_ids ds) told.id
there_live ds place told t = (place, slice_get-map (λ d. Deque.id d) ds place ∙ ap (option_map (λ d. Deque.id d)) t.is ∙ ap Some t.id)

pub there_at : (ds : List (Deque ℕ)) (place : ℕ) (told : Place) (t : IsThere ds place told) → DequeAt ds told.id place t.deque
there_at ds place told t = (t.is, t.id)

-- so it may be stolen from
abbrev pub can_steal : (s : Setting) (m : Moment) (c : Checker) (worker place : ℕ) (told : Place) → worker < s.workers → place < s.workers → owned_by worker m.deques ≡ 0
    → IsThere c.deques.deques place told → CanSteal s m c worker place told.id
can_steal s m c worker place told is_worker near idle t = record {
  is_worker = is_worker;
  near = near;
  idle = idle;
  owner = t.deque.owner;
  items = t.deque.items;
  holds = record {
    left = (cut_place c.deques.deques place t.deque t.is).0;
    right = (cut_place c.deques.deques place t.deque t.is).1;
    deques_are = (cut_place c.deques.deques place t.deque t.is).2
        ∙ ap (λ i. (cut_place c.deques.deques place t.deque t.is).0 ++ record { id = i; owner = t.deque.owner; items = t.deque.items } ∷ (cut_place c.deques.deques place t.deque t.is).1) t.id;
  };
  at = (cut_place c.deques.deques place t.deque t.is).3;
}

-- a list of two or more has a first and a last
pub two_threads : (items : List ℕ) → 2 ≤ length items → (first : ℕ) × (others : List ℕ) × (bottom : ℕ) × (items ≡ first ∷ (others ++ bottom ∷ []))
two_threads [] two = absurd (omega (arith, two))
two_threads (first ∷ rest) two = elim (by_end rest) [
  | inl none ↦ let size : length rest ≡ 0 = ap length none in absurd (omega (arith, two, size))
  | inr parts ↦ (first, parts.0, parts.1, ap (λ t. first ∷ t) parts.2)
]

abbrev pub holds_items : (ds : List (Deque ℕ)) (id : DequeId) (owner : Option ℕ) (items : List ℕ) (h : Holds ds id owner items) (same : List ℕ) → items ≡ same → Holds ds id owner same
holds_items ds id owner items h same is = record { left = h.left; right = h.right; deques_are = h.deques_are ∙ ap (λ t. h.left ++ deque_with id owner t ∷ h.right) is }

abbrev pub unowned_holds : (ds : List (Deque ℕ)) (id : DequeId) (owner : Option ℕ) (items : List ℕ) (h : Holds ds id owner items) → owner ≡ None → (same : List ℕ) → items ≡ same → Holds ds id None same
unowned_holds ds id owner items h none same is = record { left = h.left; right = h.right; deques_are = h.deques_are ∙ (λ i. h.left ++ deque_with id (none i) (is i) ∷ h.right) }

-- a deque with fewer than two threads has one
module _ (s : Setting) (limits : Limits) (run : List Pair) (m : Moment) (c : Checker) (stands : StandsFor s limits run m c) (worker place : ℕ) (victim : DequeId)
    (can : CanSteal s m c worker place victim) where
  pub one_thread : length can.items < 2 → (thread : ℕ) × (can.items ≡ thread ∷ [])
  one_thread few = by_items can.items refl few
    where
      some_items : map (label_at s.list) can.items ≢ []
      some_items = each_at (λ d. d.threads ≢ []) (map (deque_shown s.list) can.holds.left) (machine.deque_of victim.0 can.owner (map (label_at s.list) can.items)) (map (deque_shown s.list) can.holds.right)
          (subst (λ t. Each (λ d. d.threads ≢ []) t) (deques_are s limits run m c stands worker place victim can) ((stands.lawful).order).none_empty)

      by_items : (items : List ℕ) → can.items ≡ items → length items < 2 → (thread : ℕ) × (can.items ≡ thread ∷ [])
      by_items [] is few = absurd (some_items (ap (map (label_at s.list)) is))
      by_items (thread ∷ []) is few = (thread, is)
      by_items (thread ∷ next ∷ more) is few = absurd (omega (arith, few))

module _ {X : Type 0} where
  pub is_there : (o : Option X) → true ≡ is_some o → (x : X) × (o ≡ Some x)
  is_there None is = absurd (true≢false is)
  is_there (Some x) is = (x, refl)

  pub is_absent : (o : Option X) → false ≡ is_some o → o ≡ None
  is_absent None is = refl
  is_absent (Some x) is = absurd (true≢false (sym is))

-- as many deques have as many ids
IsFull : InsertRefused → Type 0
IsFull (Full deques) = Unit {0}
IsFull OutOfMemory = ⊥

-- a full list of deques is told as such
pub not_memory : (deques : ℕ) → Full deques ≡ OutOfMemory → ⊥
unfolding IsFull
not_memory deques is = subst IsFull is tt

pub as_many : (xs ys : List (Deque ℕ)) → deque_ids xs ≡ deque_ids ys → length xs ≡ length ys
as_many xs ys same = sym (length-map xs (λ d. Deque.id d)) ∙ ap length same ∙ length-map ys (λ d. Deque.id d)
