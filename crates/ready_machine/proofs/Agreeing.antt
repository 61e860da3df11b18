-- At a lawful ready list the two machines agree on who can move and on what is wanted. A steal with the word 0 takes the leftmost ready
-- entry.
use Rattle.std.proofs.Common.{◌≡◌, ℕ, suc, ◌+◌, ◌%◌, ◌<◌, ◌⊎◌, List, [], ◌∷◌, ◌++◌, length, inl, inr, refl, sym, ap, subst, ◌∙◌, arith, length-append, true≢false}
use Rattle.std.specs.Prelude.{Option, None, Some, is_some, slice_get, unwrap_or}
use Rattle.std.proofs.lemmas.Bool.{cases_lt}
use Rattle.std.proofs.Math.Nat.{mod-eq_of_lt}
use Rattle.deque_machine.specs.Lists.{Among, Each}
use Rattle.deque_machine.proofs.Lists.{total_append, each_at, each_among, each_from, among_here, one_same}
use Rattle.deque_machine.specs.Moments.{Deque, Moment, deque_of, owned_by, one_if_owned}
use Rattle.deque_machine.specs.Machine.{Setting, Event, steals, does, suspends, gives_up, Owns}
use Rattle.deque_machine.specs.Play.{IsFirst, IsReady, CanMove, reach, Stays, Wants, a_theft, a_give_up, a_wait, an_action}
use Rattle.deque_machine.proofs.Progress.{cut_place}
use Rattle.ready_machine.specs.Entries.{entry, IsEntry, IsRun, IsLeftmostReady, IsReadyList}
use Rattle.ready_machine.specs.ReadyPlay.{CanGo, WantsReady, a_take, of_its_entry}
use Rattle.ready_machine.specs.Laws.{MoversAgree, WantsAgree}
use Rattle.ready_machine.proofs.Sharing.{in_reach}
use Rattle.ready_machine.proofs.Cuts.{get_middle, get_before, place_before}

-- an entry that nobody runs
ready_entry : (d : Deque) (thread : List ℕ) → d.owner ≡ None → d.threads ≡ thread ∷ [] → d ≡ entry d.id None thread
ready_entry d thread owner threads = λ i. record { id = d.id; owner = owner i; threads = threads i }

-- the leftmost ready entry, or all are run
pub leftmost_or_none : (ds : List Deque) → Each IsEntry ds
    → ((left right : List Deque) × (id : ℕ) × (thread : List ℕ) × IsLeftmostReady ds left id thread right) ⊎ Each IsRun ds
leftmost_or_none [] all = inr tt
leftmost_or_none (d ∷ ds) all = by_owner d.owner refl (leftmost_or_none ds all.1)
  where
    by_owner : (owner : Option ℕ) → d.owner ≡ owner
        → ((left right : List Deque) × (id : ℕ) × (thread : List ℕ) × IsLeftmostReady ds left id thread right) ⊎ Each IsRun ds
        → ((left right : List Deque) × (id : ℕ) × (thread : List ℕ) × IsLeftmostReady (d ∷ ds) left id thread right) ⊎ Each IsRun (d ∷ ds)
    by_owner None o rest = inl (
      [],
      ds,
      d.id,
      (all.0).0,
      record { deques_are = ap (λ t. t ∷ ds) (ready_entry d (all.0).0 o (all.0).1); left_are_run = tt },
    )
    by_owner (Some w) o rest =
        let run : IsRun d = λ none. true≢false (ap is_some (sym o ∙ none)) in
        elim rest [
          | inl cut ↦ inl (
            d ∷ cut.0,
            cut.1,
            cut.2,
            cut.3,
            record { deques_are = ap (λ t. d ∷ t) (cut.4).deques_are; left_are_run = (run, (cut.4).left_are_run) },
          )
          | inr all_run ↦ inr (run, all_run)
        ]

-- who owns a deque is counted
pub owner_is_busy : (m : Moment) (worker : ℕ) (o : Owns m worker) → 0 < owned_by worker m.deques
owner_is_busy m worker o =
    let d : Deque = deque_of o.id (Some worker) (o.top ∷ o.under) in
    let cut : owned_by worker m.deques ≡ owned_by worker (o.left ++ d ∷ o.right) = ap (owned_by worker) o.deques_are in
    let sum = total_append (one_if_owned worker) o.left (d ∷ o.right) in
    let own : one_if_owned worker d ≡ 1 = one_same worker worker refl in omega (arith, cut, sum, own)

-- the ready entry does not stay where it is taken
pub never_stays : (id : ℕ) (thread : List ℕ) → ¬ Stays (entry id None thread)
never_stays id thread stays = elim stays [ inl owned ↦ owned refl | inr many ↦ absurd (omega arith) ]

module _ (s : Setting) (m : Moment) (ready : IsReadyList s m) where
  -- where the machine of deques finds a thread to steal, the entry is ready
  found_ready : (place : ℕ) → IsReady m place
      → (left right : List Deque) × (id : ℕ) × (thread : List ℕ) × (m.deques ≡ left ++ entry id None thread ∷ right) × (length left ≡ place)
  found_ready place found =
      let d : Deque = found.0 in
      let cut = cut_place m.deques place d found.1 in
      let is : IsEntry d = each_at IsEntry cut.0 d cut.1 (subst (λ t. Each IsEntry t) cut.2 ready.entries) in
      elim found.2 [
        | inl none ↦ (cut.0, cut.1, d.id, is.0, cut.2 ∙ ap (λ t. cut.0 ++ t ∷ cut.1) (ready_entry d is.0 none is.1), cut.3)
        | inr many ↦ let one : length d.threads ≡ 1 = ap length is.1 in absurd (omega (arith, one, many))
      ]

  ready_at : (left right : List Deque) (id : ℕ) (thread : List ℕ) → m.deques ≡ left ++ entry id None thread ∷ right
      → IsReady m (length left)
  ready_at left right id thread are =
      (entry id None thread, ap (λ t. slice_get t (length left)) are ∙ get_middle left (entry id None thread) right, inl refl)

  -- the leftmost ready entry is in reach of an idle worker
  near : (worker : ℕ) → worker < s.workers → owned_by worker m.deques ≡ 0 → (left right : List Deque) (id : ℕ) (thread : List ℕ)
      → IsLeftmostReady m.deques left id thread right → length left < reach s m
  near worker below idle left right id thread at =
      let few = in_reach s m ready.lawful worker below idle left (entry id None thread ∷ right) at.deques_are at.left_are_run in
      let size : length m.deques ≡ length left + suc (length right) = ap length at.deques_are
      ∙ length-append left (entry id None thread ∷ right) in
      omega (arith, few, size)

  pub can_go : (worker : ℕ) → CanMove s m worker → CanGo m worker
  can_go worker can = elim can [
    | inl owns ↦ inl owns
    | inr found ↦
        let at = found_ready found.0 found.2 in
        inr (
          entry at.2 None at.3,
          subst (λ t. Among (entry at.2 None at.3) t) (sym at.4) (among_here
              (entry at.2 None at.3) at.0 at.1),
          refl,
        )
  ]

  pub can_move : (worker : ℕ) → worker < s.workers → CanGo m worker → CanMove s m worker
  can_move worker below can = elim (cases_lt 0 (owned_by worker m.deques)) [
    | inl owns ↦ inl owns
    | inr none ↦ elim can [
      | inl owns ↦ absurd (omega (arith, none, owns))
      | inr some ↦ elim (leftmost_or_none m.deques ready.entries) [
        | inr all_run ↦ absurd (each_among IsRun some.0 m.deques all_run some.1 some.2)
        | inl cut ↦ inr (
          length cut.0,
          near worker below (omega (arith, none)) cut.0 cut.1 cut.2 cut.3 cut.4,
          ready_at cut.0 cut.1 cut.2 cut.3 (cut.4).deques_are,
        )
      ]
    ]
  ]

  -- the first place from 0 on that is ready is that of the leftmost ready entry
  place_itself : (n e : ℕ) → e < n → (0 + e) % n ≡ e
  place_itself n e lt = let same : 0 + e ≡ e = omega arith in ap (λ t. t % n) same ∙ mod-eq_of_lt lt

  first_is_leftmost : (place : ℕ) → IsFirst (reach s m) 0 (IsReady m) place → (left right : List Deque) (id : ℕ) (thread : List ℕ)
      → m.deques ≡ left ++ entry id None thread ∷ right → length left ≡ place → IsLeftmostReady m.deques left id thread right
  first_is_leftmost place first left right id thread are size =
      let few = first.few in
      let turns : place ≡ first.turns = first.is ∙ place_itself (reach s m) first.turns first.few in
      record {
        deques_are = are;
        left_are_run = each_from IsRun left (λ d there none.
            let found = place_before left (entry id None thread ∷ right) d there in
            let lt = found.1 in
            let near : found.0 < reach s m = omega (arith, lt, size, turns, few) in
            first.none_before found.0 (omega (arith, lt, size, turns)) (subst (IsReady m) (sym (place_itself (reach s m) found.0 near))
            (d, ap (λ t. slice_get t found.0) are ∙ found.2, inl none)));
      }

  leftmost_is_first : (worker : ℕ) → worker < s.workers → owned_by worker m.deques ≡ 0
      → (left right : List Deque) (id : ℕ) (thread : List ℕ)
      → IsLeftmostReady m.deques left id thread right → IsFirst (reach s m) 0 (IsReady m) (length left)
  leftmost_is_first worker below idle left right id thread at =
      let few : length left < reach s m = near worker below idle left right id thread at in
      record {
        turns = length left;
        few = few;
        is = sym (place_itself (reach s m) (length left) few);
        passes = ready_at left right id thread at.deques_are;
        none_before = λ e lt found.
            let here : IsReady m e = subst (IsReady m) (place_itself (reach s m) e (omega (arith, lt, few))) found in
            let cut = found_ready e here in
            let there : Among (entry cut.2 None cut.3) left = get_before left (entry id None thread ∷ right) e (entry cut.2 None cut.3) lt
            (ap (λ t. slice_get t e) (sym at.deques_are)
            ∙ subst (λ n. slice_get m.deques n ≡ Some (entry cut.2 None cut.3)) cut.5
            (ap (λ t. slice_get t (length cut.0)) cut.4 ∙ get_middle cut.0 (entry cut.2 None cut.3) cut.1)) in
            each_among IsRun (entry cut.2 None cut.3) left at.left_are_run there refl;
      }

  pub wants_ready : (worker : ℕ) (event : Event) → Wants s m worker 0 event → WantsReady s m worker event
  wants_ready worker event (a_theft place id idle first named) =
      let cut = found_ready place first.passes in
      let d : Deque = entry cut.2 None cut.3 in
      let here : slice_get m.deques place ≡ Some d = subst (λ n. slice_get m.deques n ≡ Some (entry cut.2 None cut.3)) cut.5
      (ap (λ t. slice_get t (length cut.0)) cut.4 ∙ get_middle cut.0 (entry cut.2 None cut.3) cut.1) in
      let same : named.0 ≡ d = ap (λ o. unwrap_or o d) (sym named.1 ∙ here) in
      elim named.2 [
        | inr new ↦ absurd (never_stays cut.2 cut.3 (subst Stays same new.0))
        | inl taken ↦
            let its : id ≡ cut.2 = taken.1 ∙ ap (λ d. d.id) same in
            subst (λ n. WantsReady s m worker (steals place n)) (sym its)
            (subst (λ n. WantsReady s m worker (steals n cut.2)) cut.5
            (a_take cut.0 cut.1 cut.2 cut.3 idle (first_is_leftmost place first cut.0 cut.1 cut.2 cut.3 cut.4 cut.5)))
      ]
  wants_ready worker event (a_give_up forced) = of_its_entry gives_up (owner_is_busy m worker forced.owner) (a_give_up forced)
  wants_ready worker event (a_wait o place child at none) = of_its_entry suspends (owner_is_busy m worker o) (a_wait o place child at none)
  wants_ready worker event (an_action o place next has fits) = of_its_entry (does place) (owner_is_busy m worker o)
      (an_action o place next has fits)

  pub wants_with_deques : (worker : ℕ) → worker < s.workers → (event : Event) → WantsReady s m worker event → Wants s m worker 0 event
  wants_with_deques worker below event (a_take left right id thread idle at) =
      a_theft (length left) id idle (leftmost_is_first worker below idle left right id thread at) (
        entry id None thread,
        ap (λ t. slice_get t (length left)) at.deques_are ∙ get_middle left (entry id None thread) right,
        inl (never_stays id thread, refl),
      )
  wants_with_deques worker below event (of_its_entry event' some wants) = wants

pub movers_agree : (s : Setting) → MoversAgree s
movers_agree s m worker ready below = (can_go s m ready worker, can_move s m ready worker below)

pub wants_agree : (s : Setting) → WantsAgree s
wants_agree s m worker event ready below = (wants_ready s m ready worker event, wants_with_deques s m ready worker below event)
