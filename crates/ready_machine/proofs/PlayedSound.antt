-- What the computed play of a ready list answers is the play.
use Rattle.std.proofs.Common.{◌≡◌, ℕ, zero, suc, ◌+◌, ◌%◌, ◌≤◌, ◌<◌, ◌⊎◌, List, [], ◌∷◌, ◌++◌, length, inl, inr, refl, sym, ap, subst, ◌∙◌, arith, append_assoc, length-append, cond, ◌||◌, nat_eq, nat_lt, nat_le, Bool, true, false, true≢false, ℤ, pos, negsuc, ◌+ℤ◌, ◌<ℤ◌}
use Rattle.std.specs.Prelude.{Option, None, Some, unwrap_or}
use Rattle.std.proofs.lemmas.Bool.{cases_eq, cases_Bool, eqb-true, ltb-true, ltb-false, lt-ltb, leb-true, leb-false, and_parts, and_from, or_cases, or_left, or_right}
use Rattle.std.proofs.lemmas.Int.{ints}
use Rattle.dag_order.specs.LabelOrder.{fork_of}
use Rattle.depth_first_list.specs.Actions.{Deed, forks, joins, allocates, releases, dummy, faults, ends}
use Rattle.depth_first_list.specs.Runs.{IsDepthFirst}
use Rattle.depth_first_list.specs.Facts.{action_at, deed_at, words_at, IsNext}
use Rattle.deque_machine.specs.Lists.{Among, Each}
use Rattle.deque_machine.proofs.Lists.{each_join}
use Rattle.deque_machine.specs.Books.{booked, charge_at, charged}
use Rattle.deque_machine.specs.Moments.{Deque, Moment, opening, done_at, live_at, owned_by}
use Rattle.deque_machine.specs.Machine.{Setting, Event, steals, does, suspends, gives_up, HasEnded}
use Rattle.deque_machine.specs.Runs.{Pair}
use Rattle.deque_machine.specs.Play.{Limits, Stop, arena_full, steps_spent, finished, stopped, IsFirst, Wants, a_give_up, a_wait, an_action, Fills, Meets, no_words, no_steps, words_taken}
use Rattle.deque_machine.proofs.KeptOrder.{own_alloc, own_release, own_dummy, own_fault, fork_is_no_join, end_is_no_join}
use Rattle.deque_machine.specs.Tests.{next_from, ended_by}
use Rattle.deque_machine.specs.Step.{Hand, hand_of}
use Rattle.deque_machine.specs.Played.{first_passing, no_owner, wanted_by, wanted_at, wanted_of, exceeds, fills, Played, played_more, played_behind}
use Rattle.deque_machine.proofs.TestLaws.{ended_by_is, ended_by_finds, next_from_is}
use Rattle.deque_machine.proofs.StepSound.{none_is_not_some, HandFacts, hand_facts, owns_from}
use Rattle.ready_machine.specs.Entries.{entry, IsEntry, IsRun, IsReadyList}
use Rattle.ready_machine.specs.ReadyMachine.{MayReady}
use Rattle.ready_machine.specs.ReadyPlay.{SomeReady, CanGo, WantsReady, a_take, of_its_entry, ReadyTurn, ReadyPlays, is_over, is_stopped, goes_on}
use Rattle.ready_machine.proofs.Sharing.{kept_ready, opening_is_ready}
use Rattle.ready_machine.proofs.Agreeing.{owner_is_busy}
use Rattle.ready_machine.proofs.Playing.{takes_meet_no_stop}
use Rattle.ready_machine.specs.Step.{ready_step}
use Rattle.ready_machine.specs.Played.{any_ready, can_go, take_from, wants_of, stop_of, played_unless, played_with, played_by, ready_play}
use Rattle.ready_machine.specs.ReplayLaws.{ReadyPlayedIsPlay}
use Rattle.ready_machine.proofs.Replaying.{ready_step_sound}

-- a test that says just what is meant
record Says (test : Bool) (P : Type 0) : Type 0 where
  holds : test ≡ true → P
  found : P → test ≡ true

refused : (test : Bool) (P : Type 0) → Says test P → test ≡ false → ¬ P
refused test P says is p = true≢false (sym (says.found p) ∙ is)

first_is : (passes : ℕ → Bool) (Passes : ℕ → Type 0) → ((x : ℕ) → Says (passes x) (Passes x)) → (n word : ℕ) (left turns x : ℕ)
    → turns + left ≡ n
    → ((e : ℕ) → e < turns → ¬ Passes ((word + e) % n)) → first_passing passes n word turns left ≡ Some x → IsFirst n word Passes x
first_is passes Passes says n word zero turns x at none is = absurd (none_is_not_some x is)
first_is passes Passes says n word (suc left) turns x at none is = elim (cases_Bool (passes ((word + turns) % n))) [
  | inl here ↦
      let same : (word + turns) % n ≡ x = ap (λ o. unwrap_or o x)
      (ap (λ b. cond b (Some ((word + turns) % n)) (first_passing passes n word (suc turns) left)) (sym here) ∙ is) in
      record {
        turns = turns;
        few = omega (arith, at);
        is = sym same;
        passes = subst Passes same ((says
            ((word + turns) % n)).holds here);
        none_before = none;
      }
  | inr not_here ↦ first_is passes Passes says n word left (suc turns) x (omega (arith, at))
      (λ e lt. elim (cases_eq e turns) [
        | inl same ↦ subst (λ t. ¬ Passes ((word + t) % n)) (sym same)
            (refused (passes ((word + turns) % n)) (Passes ((word + turns) % n)) (says ((word + turns) % n)) not_here)
        | inr other ↦ none e (omega (arith, lt, other))
      ]) (ap (λ b. cond b (Some ((word + turns) % n)) (first_passing passes n word (suc turns) left)) (sym not_here) ∙ is)
]

owner_says : (owner : Option ℕ) → Says (no_owner owner) (owner ≡ None)
owner_says None = record { holds = λ is. refl; found = λ is. refl }
owner_says (Some w) = record { holds = λ is. absurd (true≢false (sym is)); found = λ is. absurd (none_is_not_some w (sym is)) }

or_says : (a b : Bool) (P Q : Type 0) → Says a P → Says b Q → Says (a || b) (P ⊎ Q)
or_says a b P Q p q = record {
  holds = λ is. elim (or_cases a b is) [ inl x ↦ inl (p.holds x) | inr y ↦ inr (q.holds y) ];
  found = λ r. elim r [ inl x ↦ or_left a b (p.found x) | inr y ↦ or_right a b (q.found y) ];
}

any_says : (ds : List Deque) → Says (any_ready ds) ((d : Deque) × Among d ds × (d.owner ≡ None))
any_says [] = record { holds = λ is. absurd (true≢false (sym is)); found = λ some. absurd some.1 }
any_says (d ∷ ds) = record {
  holds = λ is. elim (or_cases (no_owner d.owner) (any_ready ds) is) [
    | inl here ↦ (d, inl refl, (owner_says d.owner).holds here)
    | inr later ↦ let some = (any_says ds).holds later in (some.0, inr some.1, some.2)
  ];
  found = λ some. elim some.1 [
    | inl same ↦ or_left (no_owner d.owner) (any_ready ds) ((owner_says d.owner).found (ap (λ e. e.owner) (sym same) ∙ some.2))
    | inr later ↦ or_right (no_owner d.owner) (any_ready ds) ((any_says ds).found (some.0, later, some.2))
  ];
}

can_says : (m : Moment) (worker : ℕ) → Says (can_go m worker) (CanGo m worker)
can_says m worker = or_says (nat_lt 0 (owned_by worker m.deques)) (any_ready m.deques) (0 < owned_by worker m.deques) (SomeReady m)
    (record { holds = ltb-true 0 (owned_by worker m.deques); found = lt-ltb 0 (owned_by worker m.deques) }) (any_says m.deques)

ended_says : (s : Setting) (m : Moment) (thread : List ℕ) → Says (ended_by s.list (done_at m) thread (length s.list)) (HasEnded s m thread)
ended_says s m thread = record {
  holds = ended_by_is s.list (done_at m) thread (length s.list);
  found = λ has. ended_by_finds s.list (done_at m) thread (length s.list) has.0 has.1 has.2 has.3 has.4;
}

same_event : (a b : Event) → Some a ≡ Some b → a ≡ b
same_event a b is = ap (λ o. unwrap_or o a) is

-- what is computed to be wanted is wanted
module _ (s : Setting) (m : Moment) (ready : IsReadyList s m) (worker : ℕ) where
  take_sound : owned_by worker m.deques ≡ 0 → (left ds : List Deque) (event : Event) → m.deques ≡ left ++ ds → Each IsRun left
      → Each IsEntry ds
      → take_from (length left) ds ≡ Some event → WantsReady s m worker event
  take_sound idle left [] event are run entries is = absurd (none_is_not_some event is)
  take_sound idle left (d ∷ ds) event are run entries is = elim (cases_Bool (no_owner d.owner)) [
    | inl none ↦
        let free : d.owner ≡ None = (owner_says d.owner).holds none in
        let whole : d ≡ entry d.id None (entries.0).0 = λ i. record { id = d.id; owner = free i; threads = (entries.0).1 i } in
        subst (WantsReady s m worker)
        (same_event (steals (length left) d.id) event (ap (λ b. cond b (Some (steals (length left) d.id)) (take_from (suc
        (length left)) ds)) (sym none) ∙ is))
        (a_take left ds d.id (entries.0).0 idle (record { deques_are = are ∙ ap (λ t. left ++ t ∷ ds) whole; left_are_run = run }))
    | inr owned ↦
        take_sound idle (left ++ d ∷ []) ds event (are ∙ sym (append_assoc left (d ∷ []) ds))
        (each_join IsRun left (d ∷ []) run (
          (λ none. refused (no_owner d.owner) (d.owner ≡ None)
              (owner_says d.owner) owned none),
          tt,
        )) entries.1
        (ap (λ n. take_from n ds) (length-append left (d ∷ []) ∙ plus_one (length left))
        ∙ ap (λ b. cond b (Some (steals (length left) d.id)) (take_from (suc (length left)) ds)) (sym owned) ∙ is)
  ]
    where
      plus_one : (n : ℕ) → n + 1 ≡ suc n
      plus_one n = omega arith

  owner_sound : (event : Event) (h : Hand) → HandFacts m worker h → (o : Option ℕ)
      → next_from s.list (done_at m) h.top 0 (length s.list) ≡ o
      → wanted_at s m h o ≡ Some event → Wants s m worker 0 event
  owner_sound event h f None found is = absurd (none_is_not_some event is)
  owner_sound event h f (Some place) found is =
      let next : IsNext s.list (done_at m) h.top place = next_from_is s.list (done_at m) h.top (length s.list) 0 place found in
      subst (Wants s m worker 0) (same_event _ event is)
      (by_room (nat_lt s.quota (charged s.quota s.list ((h.books).here).ran + charge_at s.quota s.list place)) refl next)
    where
      by_deed : IsNext s.list (done_at m) h.top place → charged s.quota s.list
          ((h.books).here).ran + charge_at s.quota s.list place ≤ s.quota
          → (deed : Deed) → deed_at s.list place ≡ deed → Wants s m worker 0 (wanted_by s m h place deed)
      by_deed next fits (joins child) is = by_end (ended_by s.list (done_at m) (fork_of h.top child) (length s.list)) refl
        where
          one_join : (a b : ℕ) → joins a ≡ joins b → a ≡ b
          one_join a b e = cc

          by_end : (ended : Bool) → ended_by s.list (done_at m) (fork_of h.top child) (length s.list) ≡ ended
              → Wants s m worker 0 (cond ended (does place) suspends)
          by_end true e = an_action (owns_from m worker h f) place next
              (λ c c_is. subst (λ t. HasEnded s m (fork_of h.top t)) (one_join child c (sym is
              ∙ c_is)) ((ended_says s m (fork_of h.top child)).holds e)) fits
          by_end false e = a_wait (owns_from m worker h f) place child (record { next = next; deed_is = is })
              (refused (ended_by s.list (done_at m) (fork_of h.top child) (length s.list)) (HasEnded s m (fork_of h.top child))
              (ended_says s m (fork_of h.top child)) e)
      by_deed next fits (forks child) is = an_action (owns_from m worker h f) place next (λ c c_is. absurd (fork_is_no_join child c
          (sym is ∙ c_is))) fits
      by_deed next fits allocates is = an_action (owns_from m worker h f) place next (λ c c_is. absurd (own_alloc.no_join c (sym is
          ∙ c_is))) fits
      by_deed next fits releases is = an_action (owns_from m worker h f) place next (λ c c_is. absurd (own_release.no_join c (sym is
          ∙ c_is))) fits
      by_deed next fits dummy is = an_action (owns_from m worker h f) place next (λ c c_is. absurd (own_dummy.no_join c (sym is
          ∙ c_is))) fits
      by_deed next fits faults is = an_action (owns_from m worker h f) place next (λ c c_is. absurd (own_fault.no_join c (sym is
          ∙ c_is))) fits
      by_deed next fits ends is = an_action (owns_from m worker h f) place next (λ c c_is. absurd (end_is_no_join c (sym is ∙ c_is))) fits

      by_room : (full : Bool) → nat_lt s.quota (charged s.quota s.list ((h.books).here).ran + charge_at s.quota s.list place) ≡ full
          → IsNext s.list (done_at m) h.top place → Wants s m worker 0 (cond full gives_up (wanted_by s m h place (deed_at s.list place)))
      by_room true full next = a_give_up (record {
        owner = owns_from m worker h f;
        place = place;
        next = next;
        no_room = ltb-true s.quota (charged s.quota s.list ((h.books).here).ran + charge_at s.quota s.list place) full;
      })
      by_room false fits next =
          by_deed next (ltb-false s.quota (charged s.quota s.list ((h.books).here).ran + charge_at s.quota s.list place) fits)
          (deed_at s.list place) refl

  wants_sound : (event : Event) → wants_of s m worker ≡ Some event → WantsReady s m worker event
  wants_sound event is = elim (cases_Bool (nat_eq (owned_by worker m.deques) 0)) [
    | inl idle ↦ take_sound (eqb-true (owned_by worker m.deques) 0 idle) [] m.deques event refl tt ready.entries
        (ap (λ b. cond b (take_from 0 m.deques) (wanted_of s m (hand_of m worker))) (sym idle) ∙ is)
    | inr owns ↦ by_hand event (hand_of m worker) refl (ap (λ b. cond b (take_from 0 m.deques) (wanted_of s m (hand_of m worker)))
        (sym owns) ∙ is)
  ]
    where
      by_hand : (event : Event) (o : Option Hand) → hand_of m worker ≡ o → wanted_of s m o ≡ Some event → WantsReady s m worker event
      by_hand event None hand is = absurd (none_is_not_some event is)
      by_hand event (Some h) hand is =
          let f = hand_facts m worker h hand in
          of_its_entry event (owner_is_busy m worker (owns_from m worker h f))
          (owner_sound event h f (next_from s.list (done_at m) h.top 0 (length s.list)) refl is)

exceeds_says : (capacity : ℕ) (z : ℤ) → Says (exceeds capacity z) (pos capacity <ℤ z)
exceeds_says capacity (pos n) = record {
  holds = λ is. let lt = ltb-true capacity n is in omega (arith, ints, lt);
  found = λ lt. lt-ltb capacity n (omega (arith, ints, lt));
}
exceeds_says capacity (negsuc n) = record { holds = λ is. absurd (true≢false (sym is)); found = λ lt. absurd (omega (arith, ints, lt)) }

fills_says : (s : Setting) (limits : Limits) (m : Moment) (place : ℕ) → Says (fills s limits m place) (Fills s limits m place)
fills_says s limits m place =
    let takes : Bool = nat_lt 0 (words_taken (action_at s.list place)) in
    let above : Bool = exceeds limits.capacity (live_at s.list m +ℤ pos (words_at s.list place)) in
    let says = exceeds_says limits.capacity (live_at s.list m +ℤ pos (words_at s.list place)) in
    record {
      holds = λ is. let both = and_parts takes above is in (ltb-true 0 (words_taken (action_at s.list place)) both.0, says.holds both.1);
      found = λ r. and_from takes above (lt-ltb 0 (words_taken (action_at s.list place)) r.0) (says.found r.1);
    }

same_stop : (a b : Stop) → Some a ≡ Some b → a ≡ b
same_stop a b is = ap (λ o. unwrap_or o a) is

-- the stop that is computed of an event that is wanted is met, and where none is computed, none is
module _ (s : Setting) (limits : Limits) (m : Moment) where
  StopSays : Event → Type 0
  StopSays event = ((stop : Stop) → stop_of s limits m event ≡ Some stop → Meets s limits m event stop)
      × (stop_of s limits m event ≡ None → (stop : Stop) → ¬ Meets s limits m event stop)

  stop_says : (worker : ℕ) (event : Event) → WantsReady s m worker event → StopSays event
  unfolding StopSays
  stop_says worker (steals place id) wants =
      ((λ stop is. absurd (none_is_not_some stop is)), (λ is stop meets. takes_meet_no_stop s limits m worker place id wants stop meets))
  stop_says worker suspends wants = ((λ stop is. absurd (none_is_not_some stop is)), (λ is stop meets. no_such stop meets))
    where
      no_such : (stop : Stop) → Meets s limits m suspends stop → ⊥
      no_such stop meets = elim meets [ ]
  stop_says worker gives_up wants = ((λ stop is. absurd (none_is_not_some stop is)), (λ is stop meets. no_such stop meets))
    where
      no_such : (stop : Stop) → Meets s limits m gives_up stop → ⊥
      no_such stop meets = elim meets [ ]
  stop_says worker (does place) wants = by_fills (fills s limits m place) refl
    where
      no_such : ¬ Fills s limits m place → ¬ (limits.actions ≤ length (booked m.books)) → (stop : Stop)
          → Meets s limits m (does place) stop → ⊥
      no_such room few stop (no_words p full) = room full
      no_such room few stop (no_steps p r many) = few many

      by_steps : ¬ Fills s limits m place → (test : Bool) → nat_le limits.actions (length (booked m.books)) ≡ test
          → ((stop : Stop) → cond test (Some (steps_spent limits.actions)) None ≡ Some stop → Meets s limits m (does place) stop)
          × (cond test (Some (steps_spent limits.actions)) None ≡ None → (stop : Stop) → ¬ Meets s limits m (does place) stop)
      by_steps room true is = (
        (λ stop some. subst (Meets s limits m (does place)) (same_stop (steps_spent limits.actions) stop some)
            (no_steps place room (leb-true limits.actions (length (booked m.books)) is))),
        (λ none. absurd (none_is_not_some (steps_spent limits.actions) (sym none))),
      )
      by_steps room false is = (
        (λ stop some. absurd (none_is_not_some stop some)),
        (λ none stop meets. no_such room (λ many. let few = leb-false limits.actions (length (booked m.books)) is in absurd (omega
            (arith, many, few))) stop meets),
      )

      by_fills : (test : Bool) → fills s limits m place ≡ test
          → ((stop : Stop) → cond test (Some (arena_full (live_at s.list m) (words_at s.list place)))
          (cond (nat_le limits.actions (length (booked m.books))) (Some (steps_spent limits.actions)) None) ≡ Some stop
          → Meets s limits m (does place) stop)
          × (cond test (Some (arena_full (live_at s.list m) (words_at s.list place)))
          (cond (nat_le limits.actions (length (booked m.books))) (Some (steps_spent limits.actions)) None) ≡ None
          → (stop : Stop) → ¬ Meets s limits m (does place) stop)
      by_fills true is = (
        (λ stop some. subst (Meets s limits m (does place)) (same_stop (arena_full (live_at s.list m) (words_at s.list place)) stop some)
            (no_words place ((fills_says s limits m place).holds is))),
        (λ none. absurd (none_is_not_some (arena_full (live_at s.list m) (words_at s.list place)) (sym none))),
      )
      by_fills false is = by_steps (refused (fills s limits m place) (Fills s limits m place) (fills_says s limits m place) is)
          (nat_le limits.actions (length (booked m.books))) refl

module _ (s : Setting) (list : IsDepthFirst s.quota s.list) (limits : Limits) (words : ℕ → ℕ) where
  same_played : (a b : Played) → Some a ≡ Some b → a ≡ b
  same_played a b is = ap (λ o. unwrap_or o a) is

  -- a turn that was found, and what follows it
  module _ (n : ℕ) (m : Moment) (ready : IsReadyList s m) (p : Played) (turns : ℕ)
      (more : (x : Moment) (q : Played) → IsReadyList s x → ready_play s limits words turns (suc n) x ≡ Some q
      → ReadyPlays s limits words (suc n) x q.run q.last q.ending) where
    by_rest : (pair : Pair) (next : Moment) → ReadyTurn s words n m pair → ((stop : Stop) → ¬ Meets s limits m pair.event stop)
        → MayReady s m pair.worker pair.event next → (o : Option Played) → ready_play s limits words turns (suc n) next ≡ o
        → played_more pair o ≡ Some p → ReadyPlays s limits words n m p.run p.last p.ending
    by_rest pair next turn none may None rest is = absurd (none_is_not_some p is)
    by_rest pair next turn none may (Some q) rest is =
        subst (λ r. ReadyPlays s limits words n m r.run r.last r.ending)
        (same_played (record { run = pair ∷ q.run; last = q.last; ending = q.ending }) p is)
        (goes_on n m next q.last pair q.run q.ending turn none may
        (more next q (kept_ready s list m ready pair.worker pair.event next may) rest))

    by_step : (pair : Pair) → ReadyTurn s words n m pair → ((stop : Stop) → ¬ Meets s limits m pair.event stop) → (o : Option Moment)
        → ready_step s m pair.worker pair.event ≡ o → played_behind (ready_play s limits words turns) (suc n) pair o ≡ Some p
        → ReadyPlays s limits words n m p.run p.last p.ending
    by_step pair turn none None stepped is = absurd (none_is_not_some p is)
    by_step pair turn none (Some next) stepped is =
        by_rest pair next turn none (ready_step_sound s list m ready pair.worker pair.event next stepped)
        (ready_play s limits words turns (suc n) next) refl is

    by_stop : (pair : Pair) → ReadyTurn s words n m pair → (o : Option Stop) → stop_of s limits m pair.event ≡ o
        → played_unless (ready_play s limits words turns) s m n pair o ≡ Some p → ReadyPlays s limits words n m p.run p.last p.ending
    unfolding StopSays
    by_stop pair turn (Some stop) met is =
        subst (λ r. ReadyPlays s limits words n m r.run r.last r.ending) (same_played
        (record { run = []; last = m; ending = stopped stop }) p is)
        (is_stopped n m pair stop turn ((stop_says s limits m pair.worker pair.event turn.wants).0 stop met))
    by_stop pair turn None met is =
        by_step pair turn ((stop_says s limits m pair.worker pair.event turn.wants).1 met) (ready_step s m pair.worker pair.event) refl is

    by_event : (worker : ℕ) → ¬ HasEnded s m [] → IsFirst s.workers (words n) (CanGo m) worker → (o : Option Event)
        → wants_of s m worker ≡ o
        → played_with (ready_play s limits words turns) s limits m n worker o ≡ Some p → ReadyPlays s limits words n m p.run p.last p.ending
    by_event worker not_over first None wants is = absurd (none_is_not_some p is)
    by_event worker not_over first (Some event) wants is =
        by_stop (record { worker = worker; event = event })
        (record { not_over = not_over; first = first; wants = wants_sound s m ready worker event wants }) (stop_of s limits m event) refl is

    by_worker : ¬ HasEnded s m [] → (o : Option ℕ) → first_passing (can_go m) s.workers (words n) 0 s.workers ≡ o
        → played_by (ready_play s limits words turns) s limits m n o ≡ Some p → ReadyPlays s limits words n m p.run p.last p.ending
    by_worker not_over None first is = absurd (none_is_not_some p is)
    by_worker not_over (Some worker) first is =
        by_event worker not_over
        (first_is (can_go m) (CanGo m) (can_says m) s.workers (words n) s.workers 0 worker (omega arith) (λ e lt. absurd (omega
        (arith, lt))) first)
        (wants_of s m worker) refl is

    by_end : (ended : Bool) → ended_by s.list (done_at m) [] (length s.list) ≡ ended
        → cond ended (Some (record { run = []; last = m; ending = finished }))
        (played_by (ready_play s limits words turns) s limits m n (first_passing (can_go m) s.workers (words n) 0 s.workers)) ≡ Some p
        → ReadyPlays s limits words n m p.run p.last p.ending
    by_end true e is =
        subst (λ r. ReadyPlays s limits words n m r.run r.last r.ending) (same_played
        (record { run = []; last = m; ending = finished }) p is)
        (is_over n m ((ended_says s m []).holds e))
    by_end false e is =
        by_worker (refused (ended_by s.list (done_at m) [] (length s.list)) (HasEnded s m []) (ended_says s m []) e)
        (first_passing (can_go m) s.workers (words n) 0 s.workers) refl is

  played_sound : (turns n : ℕ) (m : Moment) (p : Played) → IsReadyList s m → ready_play s limits words turns n m ≡ Some p
      → ReadyPlays s limits words n m p.run p.last p.ending
  played_sound zero n m p ready is = absurd (none_is_not_some p is)
  played_sound (suc turns) n m p ready is =
      by_end n m ready p turns (λ x q next rest. played_sound turns (suc n) x q next rest) (ended_by s.list (done_at m) []
      (length s.list)) refl is

pub played_is_play : (s : Setting) → 0 < s.quota → IsDepthFirst s.quota s.list → ReadyPlayedIsPlay s
played_is_play s some list limits words turns played is =
    played_sound s list limits words turns 0 opening played (opening_is_ready s list) is
