-- What a list of deques tells of the moment that it shows.
use Rattle.std.proofs.Common.{◌≡◌, ◌≢◌, ℕ, zero, suc, ◌≤◌, ◌<◌, ◌⊎◌, List, [], ◌∷◌, length, map, inl, inr, refl, sym, ap, subst, ◌∙◌, arith, true≢false}
use Rattle.std.specs.Prelude.{Option, None, Some, is_some, slice_get, min}
use Rattle.std.proofs.lemmas.List.{length-map}
use Rattle.std.proofs.lemmas.Option.{same_Some}
use Rattle.open_periods.specs.Passed.DequeId.{DequeId}
use Rattle.open_periods.specs.Passed.Ids.{IsLive, deque_id}
use Rattle.open_periods.specs.Passed.Deques as lists
use Rattle.open_periods.specs.Passed.Deques.{deque_ids}
use Rattle.open_periods.proofs.Passed.DequeLaws.{mapped_at, same_id}
use Rattle.open_periods.specs.Passed.Lists.{Each}
use Rattle.open_periods.proofs.Passed.Lists.{one_same, one_cases}
use Rattle.open_periods.specs.Passed.Moments as machine
use Rattle.open_periods.specs.Passed.Moments.{Moment, owned_by, with_id, one_if_worker}
use Rattle.open_periods.specs.Passed.Play.{IsFirst, IsReady, reach}
use Rattle.play_rules.specs.Choices.{IsReadyAt, reach_of}
use Rattle.moment_shown.specs.Parts as parts
use Rattle.list_changes.specs.Shown.{deque_shown}
use Rattle.moment_laws.specs.Readiness.{AreDeques, ReadyIsShown, FirstIsShown, SomeReadyIsShown, IdsAreShown, OwnersAreShown}

-- what stands in a list stands mapped in the mapped list
at_mapped : {X Y : Type 0} (f : X → Y) (xs : List X) (rank : ℕ) (x : X) → slice_get xs rank ≡ Some x → slice_get (map f xs) rank ≡ Some (f x)
at_mapped f [] rank x is = absurd (true≢false (sym (ap is_some is)))
at_mapped f (y ∷ xs) zero x is = ap (λ t. Some (f t)) (same_Some y x is)
at_mapped f (y ∷ xs) (suc rank) x is = at_mapped f xs rank x is

-- who passes may be told by what passes as well
first_moved : (n k word : ℕ) (P Q : ℕ → Type 0) (x : ℕ) → n ≡ k → ((i : ℕ) → P i → Q i) → ((i : ℕ) → Q i → P i) → IsFirst n word P x → IsFirst k word Q x
first_moved n k word P Q x same up down first = subst (λ t. IsFirst t word Q x) same (record {
  turns = first.turns;
  few = first.few;
  is = first.is;
  passes = up x first.passes;
  none_before = λ e before passes. first.none_before e before (down _ passes);
})

-- who is not the owner owns nothing
none_owned : (worker : ℕ) (owner : Option ℕ) → owner ≢ Some worker → one_if_worker worker owner ≡ 0
none_owned worker None other = refl
none_owned worker (Some w) other = elim (one_cases worker w) [ inl here ↦ absurd (other (ap Some (sym here.0))) | inr apart ↦ apart.1 ]

-- the number of an id
number_of : DequeId → ℕ
number_of id = id.0

module _ {T : Type 0} (shown : T → parts.Thread) where
  abbrev shown_as : lists.Deque T → machine.Deque
  shown_as d = parts.deque_shown (deque_shown shown d)

  abbrev all_shown : List (lists.Deque T) → List machine.Deque
  all_shown deques = map parts.deque_shown (map (deque_shown shown) deques)

  as_many : (d : lists.Deque T) → length (shown_as d).threads ≡ length d.items
  as_many d = length-map (map shown d.items) parts.label_of ∙ length-map d.items shown

  up : (d : lists.Deque T) → lists.IsReady d → ((shown_as d).owner ≡ None) ⊎ (2 ≤ length (shown_as d).threads)
  up d ready = elim ready [ inl none ↦ inl none | inr many ↦ let same = as_many d in inr (omega (arith, many, same)) ]

  down : (d : lists.Deque T) → ((shown_as d).owner ≡ None) ⊎ (2 ≤ length (shown_as d).threads) → lists.IsReady d
  down d ready = elim ready [ inl none ↦ inl none | inr many ↦ let same = as_many d in inr (omega (arith, many, same)) ]

  module _ (deques : List (lists.Deque T)) (m : Moment) (are : AreDeques shown deques m) where
    ready_up : (place : ℕ) → IsReadyAt deques place → IsReady m place
    ready_up place ready = (
      shown_as ready.0,
      ap (λ ds. slice_get ds place) are ∙ at_mapped parts.deque_shown (map (deque_shown shown) deques) place (deque_shown shown ready.0) (at_mapped (deque_shown shown) deques place ready.0 ready.1),
      up ready.0 ready.2,
    )

    ready_down : (place : ℕ) → IsReady m place → IsReadyAt deques place
    ready_down place ready =
        let outer = mapped_at parts.deque_shown (map (deque_shown shown) deques) place ready.0 (ap (λ ds. slice_get ds place) (sym are) ∙ ready.1) in
        let inner = mapped_at (deque_shown shown) deques place outer.0 outer.1 in
        (inner.0, inner.1, down inner.0 (subst (λ d. (machine.Deque.owner d ≡ None) ⊎ (2 ≤ length (machine.Deque.threads d))) (outer.2 ∙ ap parts.deque_shown inner.2) ready.2))

    same_reach : (workers : ℕ) → reach_of workers deques ≡ min workers (length m.deques)
    same_reach workers = ap (min workers) (sym (ap length are ∙ length-map (map (deque_shown shown) deques) parts.deque_shown ∙ length-map deques (deque_shown shown)))

  -- the ids
  no_such_id : (deques : List (lists.Deque T)) (id : DequeId) → ¬ IsLive (deque_ids deques) id → with_id id.0 (all_shown deques) ≡ 0
  no_such_id [] id none = refl
  no_such_id (d ∷ deques) id none =
      let rest = no_such_id deques id (λ live. none (suc live.0, live.1)) in
      elim (one_cases id.0 d.id.0) [
        | inl here ↦ absurd (none (0, ap Some (same_id d.id id (sym here.0))))
        | inr other ↦ let apart = other.1 in omega (arith, rest, apart)
      ]

  such_an_id : (deques : List (lists.Deque T)) (id : DequeId) (rank : ℕ) → slice_get (deque_ids deques) rank ≡ Some id → 0 < with_id id.0 (all_shown deques)
  unfolding number_of
  such_an_id [] id rank is = absurd (true≢false (sym (ap is_some is)))
  such_an_id (d ∷ deques) id zero is =
      let same : d.id ≡ id = same_Some d.id id is in let one = one_same id.0 d.id.0 (ap number_of (sym same)) in omega (arith, one)
  such_an_id (d ∷ deques) id (suc rank) is = let rest = such_an_id deques id rank is in omega (arith, rest)

  -- the owners
  owns_none : (worker : ℕ) (deques : List (lists.Deque T)) → owned_by worker (all_shown deques) ≡ 0 → Each (λ d. lists.Deque.owner d ≢ Some worker) deques
  owns_none worker [] none = tt
  owns_none worker (d ∷ deques) none = (
    λ is. let here : one_if_worker worker d.owner ≡ one_if_worker worker (Some worker) = ap (one_if_worker worker) is in let one = one_same worker worker refl in absurd (omega (arith, none, here, one)),
    owns_none worker deques (omega (arith, none)),
  )

  none_owns : (worker : ℕ) (deques : List (lists.Deque T)) → Each (λ d. lists.Deque.owner d ≢ Some worker) deques → owned_by worker (all_shown deques) ≡ 0
  none_owns worker [] all = refl
  none_owns worker (d ∷ deques) all = let here = none_owned worker d.owner all.0 in let rest = none_owns worker deques all.1 in omega (arith, here, rest)

module _ {T : Type 0} where
  pub ready_is_shown : ReadyIsShown T
  ready_is_shown shown deques m place are = (ready_up shown deques m are place, ready_down shown deques m are place)

  pub first_is_shown : FirstIsShown T
  first_is_shown s shown deques m word place are first =
      first_moved (reach_of s.workers deques) (reach s m) word (IsReadyAt deques) (IsReady m) place (same_reach shown deques m are s.workers) (ready_up shown deques m are) (ready_down shown deques m are) first

  pub some_ready_is_shown : SomeReadyIsShown T
  some_ready_is_shown s shown deques m are = (
    λ some. (some.0, subst (λ n. some.0 < n) (same_reach shown deques m are s.workers) some.1, ready_up shown deques m are some.0 some.2),
    λ some. (some.0, subst (λ n. some.0 < n) (sym (same_reach shown deques m are s.workers)) some.1, ready_down shown deques m are some.0 some.2),
  )

  pub ids_are_shown : IdsAreShown T
  ids_are_shown shown deques m id are free = (
    ap (with_id id.0) are ∙ no_such_id shown deques id free.0,
    λ i below. let live = free.1 i below in subst (λ ds. 0 < with_id i ds) (sym are) (such_an_id shown deques (deque_id i) live.0 live.1),
  )

  pub owners_are_shown : OwnersAreShown T
  owners_are_shown shown deques m worker are = (
    λ none. owns_none shown worker deques (ap (owned_by worker) (sym are) ∙ none),
    λ all. ap (owned_by worker) are ∙ none_owns shown worker deques all,
  )
