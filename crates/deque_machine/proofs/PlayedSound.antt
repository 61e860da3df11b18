-- What the computed play answers is the play.
use Rattle.std.proofs.Common.{◌≡◌, ℕ, zero, suc, ◌+◌, ◌%◌, ◌≤◌, ◌<◌, ◌⊎◌, List, [], ◌∷◌, length, inl, inr, refl, sym, ap, subst, ◌∙◌, arith, cond, not, ◌&&◌, ◌||◌, nat_eq, nat_lt, nat_le, Bool, true, false, true≢false, ℤ, pos, negsuc, ◌+ℤ◌, ◌<ℤ◌}
use Rattle.std.specs.Prelude.{Option, None, Some, slice_get, unwrap_or}
use Rattle.std.proofs.lemmas.Bool.{cases_lt, cases_eq, cases_Bool, eqb-true, eq-eqb, ltb-true, ltb-false, lt-ltb, leb-true, leb-false, le-leb, and_parts, and_from, or_cases, or_left, or_right}
use Rattle.std.proofs.lemmas.Int.{ints}
use Rattle.dag_order.specs.LabelOrder.{fork_of}
use Rattle.depth_first_run.specs.Passed.Actions.{Deed, forks, joins, allocates, releases, dummy, faults, ends}
use Rattle.depth_first_run.specs.Passed.Runs.{IsDepthFirst}
use Rattle.depth_first_run.specs.Passed.Facts.{action_at, deed_at, words_at, IsNext}
use Rattle.deque_machine.specs.Books.{booked, charge_at, charged}
use Rattle.deque_machine.specs.Moments.{Deque, Moment, opening, done_at, live_at, owned_by, with_id}
use Rattle.deque_machine.specs.Machine.{Setting, Event, steals, does, suspends, gives_up, Owns, HasEnded}
use Rattle.deque_machine.specs.Runs.{Pair}
use Rattle.deque_machine.specs.Play.{Limits, Stop, arena_full, steps_spent, deques_full, finished, stopped, IsFirst, IsReady, Stays, reach, CanMove, Wants, a_theft, a_give_up, a_wait, an_action, Fills, Meets, no_deque, no_words, no_steps, Turn, words_taken, words_drawn, Plays, is_over, is_stopped, goes_on}
use Rattle.deque_machine.specs.Tests.{next_from, ended_by}
use Rattle.deque_machine.specs.Step.{Hand, hand_of, step}
use Rattle.deque_machine.specs.Played.{first_passing, any_below, no_owner, deque_ready, deque_stays, is_ready, can_move, least_id, steals_into, theft_of, theft_at, wanted_by, wanted_at, wanted_of, wanted, exceeds, fills, stop_at, stop_of, Played, played_more, played_behind, played_unless, played_with, played_by, play}
use Rattle.deque_machine.specs.StepLaws.{PlayedIsPlay}
use Rattle.deque_machine.proofs.TestLaws.{ended_by_is, ended_by_finds, next_from_is}
use Rattle.deque_machine.proofs.KeptOrder.{own_alloc, own_release, own_dummy, own_fault, fork_is_no_join, end_is_no_join}
use Rattle.deque_machine.proofs.StepSound.{none_is_not_some, HandFacts, hand_facts, owns_from, step_sound}

-- a test that says just what is meant
record Says (test : Bool) (P : Type 0) : Type 0 where
  holds : test ≡ true → P
  found : P → test ≡ true

refused : (test : Bool) (P : Type 0) → Says test P → test ≡ false → ¬ P
refused test P says is p = true≢false (sym (says.found p) ∙ is)

first_is : (passes : ℕ → Bool) (Passes : ℕ → Type 0) → ((x : ℕ) → Says (passes x) (Passes x)) → (n word : ℕ) (left turns x : ℕ) → turns + left ≡ n
    → ((e : ℕ) → e < turns → ¬ Passes ((word + e) % n)) → first_passing passes n word turns left ≡ Some x → IsFirst n word Passes x
first_is passes Passes says n word zero turns x at none is = absurd (none_is_not_some x is)
first_is passes Passes says n word (suc left) turns x at none is = elim (cases_Bool (passes ((word + turns) % n))) [
  | inl here ↦
      let same : (word + turns) % n ≡ x = ap (λ o. unwrap_or o x) (ap (λ b. cond b (Some ((word + turns) % n)) (first_passing passes n word (suc turns) left)) (sym here) ∙ is) in
      record { turns = turns; few = omega arith; is = sym same; passes = subst Passes same ((says ((word + turns) % n)).holds here); none_before = none }
  | inr not_here ↦ first_is passes Passes says n word left (suc turns) x (omega arith)
      (λ e lt. elim (cases_eq e turns) [
        | inl same ↦ subst (λ t. ¬ Passes ((word + t) % n)) (sym same) (refused (passes ((word + turns) % n)) (Passes ((word + turns) % n)) (says ((word + turns) % n)) not_here)
        | inr other ↦ none e (omega arith)
      ]) (ap (λ b. cond b (Some ((word + turns) % n)) (first_passing passes n word (suc turns) left)) (sym not_here) ∙ is)
]

any_says : (passes : ℕ → Bool) (Passes : ℕ → Type 0) → ((x : ℕ) → Says (passes x) (Passes x)) → (n : ℕ) → Says (any_below passes n) ((x : ℕ) × (x < n) × Passes x)
any_says passes Passes says zero = record { holds = λ is. absurd (true≢false (sym is)); found = λ p. absurd (let lt = p.1 in omega arith) }
any_says passes Passes says (suc n) = record {
  holds = λ is. elim (or_cases (passes n) (any_below passes n) is) [
    | inl here ↦ (n, omega arith, (says n).holds here)
    | inr rest ↦ let p = (any_says passes Passes says n).holds rest in (p.0, (let lt = p.1 in omega arith), p.2)
  ];
  found = λ p. elim (cases_eq p.0 n) [
    | inl same ↦ or_left (passes n) (any_below passes n) ((says n).found (subst Passes same p.2))
    | inr other ↦ or_right (passes n) (any_below passes n) ((any_says passes Passes says n).found (p.0, (let lt = p.1 in omega arith), p.2))
  ];
}

owner_says : (owner : Option ℕ) → Says (no_owner owner) (owner ≡ None)
owner_says None = record { holds = λ is. refl; found = λ is. refl }
owner_says (Some w) = record { holds = λ is. absurd (true≢false (sym is)); found = λ is. absurd (none_is_not_some w (sym is)) }

many_says : (n m : ℕ) → Says (nat_le n m) (n ≤ m)
many_says n m = record { holds = leb-true n m; found = le-leb n m }

or_says : (a b : Bool) (P Q : Type 0) → Says a P → Says b Q → Says (a || b) (P ⊎ Q)
or_says a b P Q p q = record {
  holds = λ is. elim (or_cases a b is) [ inl x ↦ inl (p.holds x) | inr y ↦ inr (q.holds y) ];
  found = λ r. elim r [ inl x ↦ or_left a b (p.found x) | inr y ↦ or_right a b (q.found y) ];
}

not_says : (a : Bool) (P : Type 0) → Says a P → Says (not a) (¬ P)
not_says true P p = record { holds = λ is. absurd (true≢false (sym is)); found = λ none. absurd (none (p.holds refl)) }
not_says false P p = record { holds = λ is x. true≢false (sym (p.found x)); found = λ none. refl }

stays_says : (d : Deque) → Says (deque_stays d) (Stays d)
stays_says d = or_says (not (no_owner d.owner)) (nat_le 2 (length d.threads)) (¬ (d.owner ≡ None)) (2 ≤ length d.threads)
    (not_says (no_owner d.owner) (d.owner ≡ None) (owner_says d.owner)) (many_says 2 (length d.threads))

ready_says : (m : Moment) (place : ℕ) → Says (is_ready m place) (IsReady m place)
ready_says m place = by_deque (slice_get m.deques place) refl
  where
    by_deque : (o : Option Deque) → slice_get m.deques place ≡ o → Says (deque_ready o) (IsReady m place)
    by_deque None is = record { holds = λ t. absurd (true≢false (sym t)); found = λ r. absurd (none_is_not_some r.0 (sym is ∙ r.1)) }
    by_deque (Some d) is =
        let own = or_says (no_owner d.owner) (nat_le 2 (length d.threads)) (d.owner ≡ None) (2 ≤ length d.threads) (owner_says d.owner) (many_says 2 (length d.threads)) in
        record {
          holds = λ t. (d, is, own.holds t);
          found = λ r. own.found (subst (λ e. (e.owner ≡ None) ⊎ (2 ≤ length e.threads)) (ap (λ u. unwrap_or u d) (sym r.1 ∙ is)) r.2);
        }

can_says : (s : Setting) (m : Moment) (worker : ℕ) → Says (can_move s m worker) (CanMove s m worker)
can_says s m worker = or_says (nat_lt 0 (owned_by worker m.deques)) (any_below (is_ready m) (reach s m)) (0 < owned_by worker m.deques) ((place : ℕ) × (place < reach s m) × IsReady m place)
    (record { holds = ltb-true 0 (owned_by worker m.deques); found = lt-ltb 0 (owned_by worker m.deques) }) (any_says (is_ready m) (IsReady m) (ready_says m) (reach s m))

ended_says : (s : Setting) (m : Moment) (thread : List ℕ) → Says (ended_by s.list (done_at m) thread (length s.list)) (HasEnded s m thread)
ended_says s m thread = record {
  holds = ended_by_is s.list (done_at m) thread (length s.list);
  found = λ has. ended_by_finds s.list (done_at m) thread (length s.list) has.0 has.1 has.2 has.3 has.4;
}

least_is : (ds : List Deque) (turns id x : ℕ) → ((i : ℕ) → i < id → 0 < with_id i ds) → least_id ds id turns ≡ Some x → (with_id x ds ≡ 0) × ((i : ℕ) → i < x → 0 < with_id i ds)
least_is ds zero id x had is = absurd (none_is_not_some x is)
least_is ds (suc turns) id x had is = elim (cases_Bool (nat_eq (with_id id ds) 0)) [
  | inl free ↦
      let same : id ≡ x = ap (λ o. unwrap_or o x) (ap (λ b. cond b (Some id) (least_id ds (suc id) turns)) (sym free) ∙ is) in
      (ap (λ t. with_id t ds) (sym same) ∙ eqb-true (with_id id ds) 0 free, λ i lt. had i (omega arith))
  | inr taken ↦ least_is ds turns (suc id) x (λ i lt. elim (cases_eq i id) [
    | inl same ↦ subst (λ t. 0 < with_id t ds) (sym same) (elim (cases_lt 0 (with_id id ds)) [
      | inl some ↦ some
      | inr none ↦ absurd (true≢false (sym (eq-eqb (with_id id ds) 0 (omega arith)) ∙ taken))
    ])
    | inr other ↦ had i (omega arith)
  ]) (ap (λ b. cond b (Some id) (least_id ds (suc id) turns)) (sym taken) ∙ is)
]

same_event : (a b : Event) → Some a ≡ Some b → a ≡ b
same_event a b is = ap (λ o. unwrap_or o a) is

-- what is computed to be wanted is wanted
module _ (s : Setting) (m : Moment) (worker word : ℕ) where
  theft_sound : (event : Event) → owned_by worker m.deques ≡ 0 → (o : Option ℕ) → first_passing (is_ready m) (reach s m) word 0 (reach s m) ≡ o → theft_at m o ≡ Some event → Wants s m worker word event
  theft_sound event idle None first is = absurd (none_is_not_some event is)
  theft_sound event idle (Some place) first is = by_deque (slice_get m.deques place) refl is
    where
      is_first : IsFirst (reach s m) word (IsReady m) place
      is_first = first_is (is_ready m) (IsReady m) (ready_says m) (reach s m) word (reach s m) 0 place (omega arith) (λ e lt. absurd (omega arith)) first

      by_id : (d : Deque) → slice_get m.deques place ≡ Some d → Stays d → (o : Option ℕ) → least_id m.deques 0 (suc (length m.deques)) ≡ o → steals_into place o ≡ Some event → Wants s m worker word event
      by_id d there stays None least is = absurd (none_is_not_some event is)
      by_id d there stays (Some id) least is =
          let free = least_is m.deques (suc (length m.deques)) 0 id (λ i lt. absurd (omega arith)) least in
          subst (Wants s m worker word) (same_event (steals place id) event is) (a_theft place id idle is_first (d, there, inr (stays, free.0, free.1)))

      by_deque : (o : Option Deque) → slice_get m.deques place ≡ o → theft_of m place o ≡ Some event → Wants s m worker word event
      by_deque None there is = absurd (none_is_not_some event is)
      by_deque (Some d) there is = elim (cases_Bool (deque_stays d)) [
        | inl stays ↦ by_id d there ((stays_says d).holds stays) (least_id m.deques 0 (suc (length m.deques))) refl
            (ap (λ b. cond b (steals_into place (least_id m.deques 0 (suc (length m.deques)))) (Some (steals place d.id))) (sym stays) ∙ is)
        | inr not ↦ subst (Wants s m worker word)
            (same_event (steals place d.id) event (ap (λ b. cond b (steals_into place (least_id m.deques 0 (suc (length m.deques)))) (Some (steals place d.id))) (sym not) ∙ is))
            (a_theft place d.id idle is_first (d, there, inl (refused (deque_stays d) (Stays d) (stays_says d) not, refl)))
      ]

  owner_sound : (event : Event) (h : Hand) → HandFacts m worker h → (o : Option ℕ) → next_from s.list (done_at m) h.top 0 (length s.list) ≡ o → wanted_at s m h o ≡ Some event → Wants s m worker word event
  owner_sound event h f None found is = absurd (none_is_not_some event is)
  owner_sound event h f (Some place) found is =
      let o : Owns m worker = owns_from m worker h f in
      let next : IsNext s.list (done_at m) h.top place = next_from_is s.list (done_at m) h.top (length s.list) 0 place found in
      subst (Wants s m worker word) (same_event _ event is) (by_room (nat_lt s.quota (charged s.quota s.list ((h.books).here).ran + charge_at s.quota s.list place)) refl next)
    where
      by_deed : IsNext s.list (done_at m) h.top place → charged s.quota s.list ((h.books).here).ran + charge_at s.quota s.list place ≤ s.quota → (deed : Deed) → deed_at s.list place ≡ deed
          → Wants s m worker word (wanted_by s m h place deed)
      by_deed next fits (joins child) is = by_end (ended_by s.list (done_at m) (fork_of h.top child) (length s.list)) refl
        where
          one_join : (a b : ℕ) → joins a ≡ joins b → a ≡ b
          one_join a b e = cc

          by_end : (ended : Bool) → ended_by s.list (done_at m) (fork_of h.top child) (length s.list) ≡ ended → Wants s m worker word (cond ended (does place) suspends)
          by_end true e = an_action (owns_from m worker h f) place next
              (λ c c_is. subst (λ t. HasEnded s m (fork_of h.top t)) (one_join child c (sym is ∙ c_is)) ((ended_says s m (fork_of h.top child)).holds e)) fits
          by_end false e = a_wait (owns_from m worker h f) place child (record { next = next; deed_is = is })
              (refused (ended_by s.list (done_at m) (fork_of h.top child) (length s.list)) (HasEnded s m (fork_of h.top child)) (ended_says s m (fork_of h.top child)) e)
      by_deed next fits (forks child) is = an_action (owns_from m worker h f) place next (λ c c_is. absurd (fork_is_no_join child c (sym is ∙ c_is))) fits
      by_deed next fits allocates is = an_action (owns_from m worker h f) place next (λ c c_is. absurd (own_alloc.no_join c (sym is ∙ c_is))) fits
      by_deed next fits releases is = an_action (owns_from m worker h f) place next (λ c c_is. absurd (own_release.no_join c (sym is ∙ c_is))) fits
      by_deed next fits dummy is = an_action (owns_from m worker h f) place next (λ c c_is. absurd (own_dummy.no_join c (sym is ∙ c_is))) fits
      by_deed next fits faults is = an_action (owns_from m worker h f) place next (λ c c_is. absurd (own_fault.no_join c (sym is ∙ c_is))) fits
      by_deed next fits ends is = an_action (owns_from m worker h f) place next (λ c c_is. absurd (end_is_no_join c (sym is ∙ c_is))) fits

      by_room : (full : Bool) → nat_lt s.quota (charged s.quota s.list ((h.books).here).ran + charge_at s.quota s.list place) ≡ full → IsNext s.list (done_at m) h.top place
          → Wants s m worker word (cond full gives_up (wanted_by s m h place (deed_at s.list place)))
      by_room true full next = a_give_up (record {
        owner = owns_from m worker h f;
        place = place;
        next = next;
        no_room = ltb-true s.quota (charged s.quota s.list ((h.books).here).ran + charge_at s.quota s.list place) full;
      })
      by_room false fits next = by_deed next (ltb-false s.quota (charged s.quota s.list ((h.books).here).ran + charge_at s.quota s.list place) fits) (deed_at s.list place) refl

  wanted_sound : (event : Event) → wanted s m worker word ≡ Some event → Wants s m worker word event
  wanted_sound event is = elim (cases_Bool (nat_eq (owned_by worker m.deques) 0)) [
    | inl idle ↦ theft_sound event (eqb-true (owned_by worker m.deques) 0 idle) (first_passing (is_ready m) (reach s m) word 0 (reach s m)) refl
        (ap (λ b. cond b (theft_at m (first_passing (is_ready m) (reach s m) word 0 (reach s m))) (wanted_of s m (hand_of m worker))) (sym idle) ∙ is)
    | inr owns ↦ by_hand event (hand_of m worker) refl
        (ap (λ b. cond b (theft_at m (first_passing (is_ready m) (reach s m) word 0 (reach s m))) (wanted_of s m (hand_of m worker))) (sym owns) ∙ is)
  ]
    where
      by_hand : (event : Event) (o : Option Hand) → hand_of m worker ≡ o → wanted_of s m o ≡ Some event → Wants s m worker word event
      by_hand event None hand is = absurd (none_is_not_some event is)
      by_hand event (Some h) hand is = owner_sound event h (hand_facts m worker h hand) (next_from s.list (done_at m) h.top 0 (length s.list)) refl is

exceeds_says : (capacity : ℕ) (z : ℤ) → Says (exceeds capacity z) (pos capacity <ℤ z)
exceeds_says capacity (pos n) = record { holds = λ is. let lt = ltb-true capacity n is in omega (arith, ints, lt); found = λ lt. lt-ltb capacity n (omega (arith, ints, lt)) }
exceeds_says capacity (negsuc n) = record { holds = λ is. absurd (true≢false (sym is)); found = λ lt. absurd (omega (arith, ints, lt)) }

and_says : (a b : Bool) (P Q : Type 0) → Says a P → Says b Q → Says (a && b) (P × Q)
and_says a b P Q p q = record {
  holds = λ is. let both = and_parts a b is in (p.holds both.0, q.holds both.1);
  found = λ r. and_from a b (p.found r.0) (q.found r.1);
}

fills_says : (s : Setting) (limits : Limits) (m : Moment) (place : ℕ) → Says (fills s limits m place) (Fills s limits m place)
fills_says s limits m place =
    and_says (nat_lt 0 (words_taken (action_at s.list place))) (exceeds limits.capacity (live_at s.list m +ℤ pos (words_at s.list place)))
    (0 < words_taken (action_at s.list place)) (pos limits.capacity <ℤ (live_at s.list m +ℤ pos (words_at s.list place)))
    (record { holds = ltb-true 0 (words_taken (action_at s.list place)); found = lt-ltb 0 (words_taken (action_at s.list place)) })
    (exceeds_says limits.capacity (live_at s.list m +ℤ pos (words_at s.list place)))

same_stop : (a b : Stop) → Some a ≡ Some b → a ≡ b
same_stop a b is = ap (λ o. unwrap_or o a) is

-- the stop that is computed is met, and where none is computed, none is
module _ (s : Setting) (limits : Limits) (m : Moment) where
  stop_at_says : (place id : ℕ) (o : Option Deque) → slice_get m.deques place ≡ o
      → ((stop : Stop) → stop_at limits m o ≡ Some stop → Meets s limits m (steals place id) stop) × (stop_at limits m o ≡ None → (stop : Stop) → ¬ Meets s limits m (steals place id) stop)
  stop_at_says place id None there = ((λ stop is. absurd (none_is_not_some stop is)), (λ is stop meets. no_such stop meets))
    where
      no_such : (stop : Stop) → Meets s limits m (steals place id) stop → ⊥
      no_such stop (no_deque p i d at stays many) = none_is_not_some d (sym there ∙ at)
  stop_at_says place id (Some d) there = by_test (deque_stays d && nat_le limits.deques (length m.deques)) refl
    where
      says : Says (deque_stays d && nat_le limits.deques (length m.deques)) (Stays d × (limits.deques ≤ length m.deques))
      says = and_says (deque_stays d) (nat_le limits.deques (length m.deques)) (Stays d) (limits.deques ≤ length m.deques) (stays_says d) (many_says limits.deques (length m.deques))

      no_such : ¬ (Stays d × (limits.deques ≤ length m.deques)) → (stop : Stop) → Meets s limits m (steals place id) stop → ⊥
      no_such none stop (no_deque p i e at stays many) = none (subst Stays (ap (λ u. unwrap_or u d) (sym at ∙ there)) stays, many)

      by_test : (test : Bool) → (deque_stays d && nat_le limits.deques (length m.deques)) ≡ test
          → ((stop : Stop) → cond test (Some (deques_full limits.deques)) None ≡ Some stop → Meets s limits m (steals place id) stop)
          × (cond test (Some (deques_full limits.deques)) None ≡ None → (stop : Stop) → ¬ Meets s limits m (steals place id) stop)
      by_test true is = (
        (λ stop some. let both = says.holds is in subst (Meets s limits m (steals place id)) (same_stop (deques_full limits.deques) stop some) (no_deque place id d there both.0 both.1)),
        (λ none. absurd (none_is_not_some (deques_full limits.deques) (sym none))),
      )
      by_test false is = (
        (λ stop some. absurd (none_is_not_some stop some)),
        (λ none stop meets. no_such (refused (deque_stays d && nat_le limits.deques (length m.deques)) (Stays d × (limits.deques ≤ length m.deques)) says is) stop meets),
      )

  stop_of_says : (event : Event) → ((stop : Stop) → stop_of s limits m event ≡ Some stop → Meets s limits m event stop) × (stop_of s limits m event ≡ None → (stop : Stop) → ¬ Meets s limits m event stop)
  stop_of_says (steals place id) = stop_at_says place id (slice_get m.deques place) refl
  stop_of_says suspends = ((λ stop is. absurd (none_is_not_some stop is)), (λ is stop meets. no_such stop meets))
    where
      no_such : (stop : Stop) → Meets s limits m suspends stop → ⊥
      no_such stop meets = elim meets [ ]
  stop_of_says gives_up = ((λ stop is. absurd (none_is_not_some stop is)), (λ is stop meets. no_such stop meets))
    where
      no_such : (stop : Stop) → Meets s limits m gives_up stop → ⊥
      no_such stop meets = elim meets [ ]
  stop_of_says (does place) = by_fills (fills s limits m place) refl
    where
      no_such : ¬ Fills s limits m place → ¬ (limits.actions ≤ length (booked m.books)) → (stop : Stop) → Meets s limits m (does place) stop → ⊥
      no_such room few stop (no_words p full) = room full
      no_such room few stop (no_steps p r many) = few many

      by_steps : ¬ Fills s limits m place → (test : Bool) → nat_le limits.actions (length (booked m.books)) ≡ test
          → ((stop : Stop) → cond test (Some (steps_spent limits.actions)) None ≡ Some stop → Meets s limits m (does place) stop)
          × (cond test (Some (steps_spent limits.actions)) None ≡ None → (stop : Stop) → ¬ Meets s limits m (does place) stop)
      by_steps room true is = (
        (λ stop some. subst (Meets s limits m (does place)) (same_stop (steps_spent limits.actions) stop some) (no_steps place room (leb-true limits.actions (length (booked m.books)) is))),
        (λ none. absurd (none_is_not_some (steps_spent limits.actions) (sym none))),
      )
      by_steps room false is = (
        (λ stop some. absurd (none_is_not_some stop some)),
        (λ none stop meets. no_such room (λ many. let few = leb-false limits.actions (length (booked m.books)) is in absurd (omega arith)) stop meets),
      )

      by_fills : (test : Bool) → fills s limits m place ≡ test
          → ((stop : Stop) → cond test (Some (arena_full (live_at s.list m) (words_at s.list place))) (cond (nat_le limits.actions (length (booked m.books))) (Some (steps_spent limits.actions)) None) ≡ Some stop
          → Meets s limits m (does place) stop)
          × (cond test (Some (arena_full (live_at s.list m) (words_at s.list place))) (cond (nat_le limits.actions (length (booked m.books))) (Some (steps_spent limits.actions)) None) ≡ None
          → (stop : Stop) → ¬ Meets s limits m (does place) stop)
      by_fills true is = (
        (λ stop some. subst (Meets s limits m (does place)) (same_stop (arena_full (live_at s.list m) (words_at s.list place)) stop some) (no_words place ((fills_says s limits m place).holds is))),
        (λ none. absurd (none_is_not_some (arena_full (live_at s.list m) (words_at s.list place)) (sym none))),
      )
      by_fills false is = by_steps (refused (fills s limits m place) (Fills s limits m place) (fills_says s limits m place) is) (nat_le limits.actions (length (booked m.books))) refl

module _ (s : Setting) (limits : Limits) (words : ℕ → ℕ) where
  -- what is played from a moment on
  IsPlayed : ℕ → Moment → Played → Type 0
  IsPlayed n m p = Plays s limits words n m p.run p.last p.ending

  same_played : (a b : Played) → Some a ≡ Some b → a ≡ b
  same_played a b is = ap (λ o. unwrap_or o a) is

  played_sound : (turns n : ℕ) (m : Moment) (p : Played) → play s limits words turns n m ≡ Some p → IsPlayed n m p
  unfolding IsPlayed
  played_sound zero n m p is = absurd (none_is_not_some p is)
  played_sound (suc turns) n m p is =
      by_end (ended_by s.list (done_at m) [] (length s.list)) refl (λ k x q. played_sound turns k x q) is
    where
      More : Type 0
      More = (k : ℕ) (x : Moment) (q : Played) → play s limits words turns k x ≡ Some q → Plays s limits words k x q.run q.last q.ending

      by_rest : (pair : Pair) (next : Moment) → More → Turn s words n m pair → ((stop : Stop) → ¬ Meets s limits m pair.event stop) → step s m pair.worker pair.event ≡ Some next
          → (o : Option Played) → play s limits words turns (n + words_drawn m pair.worker) next ≡ o → played_more pair o ≡ Some p → Plays s limits words n m p.run p.last p.ending
      by_rest pair next more turn none stepped None rest is = absurd (none_is_not_some p is)
      by_rest pair next more turn none stepped (Some q) rest is =
          subst (λ r. Plays s limits words n m r.run r.last r.ending) (same_played (record { run = pair ∷ q.run; last = q.last; ending = q.ending }) p is)
          (goes_on n m next q.last pair q.run q.ending turn none (step_sound s m pair.worker pair.event next stepped) (more (n + words_drawn m pair.worker) next q rest))

      by_step : (pair : Pair) → More → Turn s words n m pair → ((stop : Stop) → ¬ Meets s limits m pair.event stop) → (o : Option Moment) → step s m pair.worker pair.event ≡ o
          → played_behind (play s limits words turns) (n + words_drawn m pair.worker) pair o ≡ Some p → Plays s limits words n m p.run p.last p.ending
      by_step pair more turn none None stepped is = absurd (none_is_not_some p is)
      by_step pair more turn none (Some next) stepped is = by_rest pair next more turn none stepped (play s limits words turns (n + words_drawn m pair.worker) next) refl is

      by_stop : (pair : Pair) → More → Turn s words n m pair → (o : Option Stop) → stop_of s limits m pair.event ≡ o
          → played_unless (play s limits words turns) s m n pair o ≡ Some p → Plays s limits words n m p.run p.last p.ending
      by_stop pair more turn (Some stop) met is =
          subst (λ r. Plays s limits words n m r.run r.last r.ending) (same_played (record { run = []; last = m; ending = stopped stop }) p is)
          (is_stopped n m pair stop turn ((stop_of_says s limits m pair.event).0 stop met))
      by_stop pair more turn None met is = by_step pair more turn ((stop_of_says s limits m pair.event).1 met) (step s m pair.worker pair.event) refl is

      by_event : (worker : ℕ) → More → ¬ HasEnded s m [] → IsFirst s.workers (words n) (CanMove s m) worker → (o : Option Event) → wanted s m worker (words (suc n)) ≡ o
          → played_with (play s limits words turns) s limits m n worker o ≡ Some p → Plays s limits words n m p.run p.last p.ending
      by_event worker more not_over first None wants is = absurd (none_is_not_some p is)
      by_event worker more not_over first (Some event) wants is =
          by_stop (record { worker = worker; event = event }) more (record { not_over = not_over; first = first; wants = wanted_sound s m worker (words (suc n)) event wants })
          (stop_of s limits m event) refl is

      by_worker : More → ¬ HasEnded s m [] → (o : Option ℕ) → first_passing (can_move s m) s.workers (words n) 0 s.workers ≡ o
          → played_by (play s limits words turns) s limits words m n o ≡ Some p → Plays s limits words n m p.run p.last p.ending
      by_worker more not_over None first is = absurd (none_is_not_some p is)
      by_worker more not_over (Some worker) first is =
          by_event worker more not_over
          (first_is (can_move s m) (CanMove s m) (can_says s m) s.workers (words n) s.workers 0 worker (omega arith) (λ e lt. absurd (omega arith)) first)
          (wanted s m worker (words (suc n))) refl is

      by_end : (ended : Bool) → ended_by s.list (done_at m) [] (length s.list) ≡ ended → More
          → cond ended (Some (record { run = []; last = m; ending = finished })) (played_by (play s limits words turns) s limits words m n (first_passing (can_move s m) s.workers (words n) 0 s.workers)) ≡ Some p
          → Plays s limits words n m p.run p.last p.ending
      by_end true e more is =
          subst (λ r. Plays s limits words n m r.run r.last r.ending) (same_played (record { run = []; last = m; ending = finished }) p is) (is_over n m ((ended_says s m []).holds e))
      by_end false e more is =
          by_worker more (refused (ended_by s.list (done_at m) [] (length s.list)) (HasEnded s m []) (ended_says s m []) e)
          (first_passing (can_move s m) s.workers (words n) 0 s.workers) refl is

pub played_is_play : (s : Setting) → 0 < s.quota → IsDepthFirst s.quota s.list → PlayedIsPlay s
unfolding IsPlayed
played_is_play s some list limits words turns played is = played_sound s limits words turns 0 opening played is
