-- Where the threads are after an event.
use Rattle.std.proofs.Common.{◌≡◌, ◌↔◌, ℕ, ◌<◌, Bool, true, false, List, ◌∷◌, ◌++◌, length, map, get_or, set, inl, inr, refl, sym, ap, subst, ◌∙◌, arith, true≢false}
use Rattle.std.specs.Prelude.{Option, None}
use Rattle.std.proofs.lemmas.Bool.{cases_eq}
use Rattle.std.proofs.lemmas.List.{map-append}
use Rattle.depth_first_list.specs.Actions.{joins, Action}
use Rattle.depth_first_list.specs.Runs.{IsDepthFirst}
use Rattle.depth_first_list.specs.Facts.{label_at, deed_at}
use Rattle.depth_first_list.proofs.JoinLaws.{joined_once_law}
use Rattle.deque_machine.specs.Lists.{Among, Each, Differ}
use Rattle.deque_machine.proofs.Lists.{each_join, among_middle, among_wider, differ_at}
use Rattle.deque_list.specs.Deques.{Deque}
use Rattle.deque_machine.specs.Moments.{Waiting, Moment, done_at, waiting_threads}
use Rattle.deque_machine.specs.Machine.{Setting, Event, May}
use Rattle.deque_machine.proofs.Placed.{waiting_append, waits_among}
use Rattle.trail_check.proofs.GrowingLists.{get_set_here, get_set_other, length_set}
use Rattle.trail_check.specs.declared.seat.Seat.{Seat}
use Rattle.trail_check.specs.Places.{deque_shown, places_in, IsNextHere, WaitsAt, SeatIs, PlacesAre}
use Rattle.trail_check.proofs.Others.{others}
use Rattle.trail_check.proofs.Nexts.{places_append}

-- deques in the middle of others
pub shown_middle : (l : List Action) (left these right : List (Deque ℕ))
    → map (deque_shown l) (left ++ (these ++ right)) ≡ map (deque_shown l) left ++ (map (deque_shown l) these ++ map (deque_shown l) right)
shown_middle l left these right =
    map-append (deque_shown l) left (these ++ right) ∙ ap (λ t. map (deque_shown l) left ++ t) (map-append (deque_shown l) these right)

-- what holds at all places in the deques
pub each_place : (P : ℕ → Type 0) (left these right : List (Deque ℕ)) → Each P (places_in left) → Each P (places_in these) → Each P (places_in right)
    → Each P (places_in (left ++ (these ++ right)))
each_place P left these right a b c =
    subst (λ t. Each P t) (sym (places_append left (these ++ right) ∙ ap (λ t. places_in left ++ t) (places_append these right)))
    (each_join P (places_in left) (places_in these ++ places_in right) a (each_join P (places_in these) (places_in right) b c))

-- the threads that wait, as the bits say
pub record WaitsAre (l : List Action) (waiting : List Waiting) (waits : List Bool) : Type 0 where
  pub size : length waits ≡ length l
  pub are : (place : ℕ) → place < length l → (get_or waits place false ≡ true) ↔ WaitsAt l waiting place

-- after an event of a worker that changes the deques here, with these in the place of one, and the worker's seat
pub placed : (s : Setting) (m after : Moment) (worker : ℕ) (event : Event) (may : May s m worker event after) (deques : List (Deque ℕ)) (seats : List (Option Seat)) (waits : List Bool)
    → PlacesAre s m deques seats waits
    → (left these right : List (Deque ℕ)) (next : List (Deque ℕ)) → next ≡ left ++ (these ++ right)
    → after.deques ≡ map (deque_shown s.list) left ++ (map (deque_shown s.list) these ++ map (deque_shown s.list) right)
    → Each (IsNextHere s.list (done_at after)) (places_in left) → Each (IsNextHere s.list (done_at after)) (places_in these) → Each (IsNextHere s.list (done_at after)) (places_in right)
    → worker < length seats → (seat : Option Seat) (seats' : List (Option Seat)) → seats' ≡ set seats worker seat → SeatIs s after worker seat
    → (waits' : List Bool) → WaitsAre s.list after.waiting waits' → PlacesAre s after next seats' waits'
placed s m after worker event may deques seats waits places left these right next next_is deques_are left_next these_next right_next seated seat seats' seats_is mine waits' waits_are = record {
  deques_are = deques_are ∙ sym (shown_middle s.list left these right) ∙ ap (map (deque_shown s.list)) (sym next_is);
  next = subst (λ t. Each (IsNextHere s.list (done_at after)) (places_in t)) (sym next_is)
      (each_place (IsNextHere s.list (done_at after)) left these right left_next these_next right_next);
  seats_size = ap length seats_is ∙ length_set seats seat worker ∙ places.seats_size;
  seats_are = λ v. elim (cases_eq v worker) [
    | inl here ↦ subst (λ t. SeatIs s after v t) (sym (ap (λ t. get_or t v None) seats_is ∙ ap (λ n. get_or (set seats worker seat) n None) here ∙ get_set_here seats seat None worker seated))
        (subst (λ n. SeatIs s after n seat) (sym here) mine)
    | inr other ↦ subst (λ t. SeatIs s after v t) (sym (ap (λ t. get_or t v None) seats_is ∙ get_set_other seats seat None worker v other))
        (others s worker v other m event after may (get_or seats v None) (places.seats_are v))
  ];
  waits_size = waits_are.size;
  waits_are = waits_are.are;
}

-- nobody begins or ends to wait
pub waits_stay : (s : Setting) (m : Moment) (deques : List (Deque ℕ)) (seats : List (Option Seat)) (waits : List Bool) → PlacesAre s m deques seats waits
    → WaitsAre s.list m.waiting waits
waits_stay s m deques seats waits places = record { size = places.waits_size; are = places.waits_are }

module _ (l : List Action) (k : ℕ) (run : IsDepthFirst k l) (waiting : List Waiting) (waits : List Bool) (are : WaitsAre l waiting waits) where
  -- who waits with this Join waits at no other place
  one_place : (w : Waiting) (i j : ℕ) → i < length l → j < length l → label_at l i ≡ w.thread → deed_at l i ≡ joins w.child → label_at l j ≡ w.thread → deed_at l j ≡ joins w.child
      → i ≡ j
  one_place w i j i_in j_in i_by i_joins j_by j_joins = joined_once_law k l run i j w.child i_in j_in (i_by ∙ sym j_by) i_joins j_joins

  -- a thread begins to wait at a place
  pub one_waits : (place : ℕ) (w : Waiting) → place < length l → label_at l place ≡ w.thread → deed_at l place ≡ joins w.child → WaitsAre l (w ∷ waiting) (set waits place true)
  one_waits place w inside by joined = record {
    size = length_set waits true place ∙ are.size;
    are = λ i i_in. elim (cases_eq i place) [
      | inl here ↦ (
        λ bit. (w, inl refl, ap (label_at l) here ∙ by, ap (deed_at l) here ∙ joined),
        λ at. ap (λ n. get_or (set waits place true) n false) here ∙ get_set_here waits true false place (let size = are.size in omega (arith, size, inside)),
      )
      | inr other ↦ (
        λ bit. let at = (are.are i i_in).0 (sym (get_set_other waits true false place i other) ∙ bit) in (at.0, inr at.1, at.2, at.3),
        λ at. get_set_other waits true false place i other ∙ by_who i i_in other at.0 at.1 at.2 at.3,
      )
    ];
  }
    where
      by_who : (i : ℕ) → i < length l → ¬ (i ≡ place) → (v : Waiting) → Among v (w ∷ waiting) → label_at l i ≡ v.thread → deed_at l i ≡ joins v.child → get_or waits i false ≡ true
      by_who i i_in other v there i_by i_joins = elim there [
        | inr before ↦ (are.are i i_in).1 (v, before, i_by, i_joins)
        | inl same ↦ absurd (other (one_place w i place i_in inside (i_by ∙ ap (λ t. t.thread) same) (i_joins ∙ ap (λ t. joins t.child) same) by joined))
      ]

  -- the thread that waited at a place goes on
  pub one_goes_on : (place : ℕ) (before later : List Waiting) (w : Waiting) → waiting ≡ before ++ w ∷ later → Differ (waiting_threads waiting) → place < length l
      → label_at l place ≡ w.thread → deed_at l place ≡ joins w.child → WaitsAre l (before ++ later) (set waits place false)
  one_goes_on place before later w cut differ inside by joined = record {
    size = length_set waits false place ∙ are.size;
    are = λ i i_in. elim (cases_eq i place) [
      | inl here ↦ (
        λ bit. absurd (true≢false (sym bit ∙ ap (λ n. get_or (set waits place false) n false) here ∙ get_set_here waits false false place (let size = are.size in omega (arith, size, inside)))),
        λ at. absurd (gone at.0 at.1 (sym at.2 ∙ ap (label_at l) here ∙ by)),
      )
      | inr other ↦ (
        λ bit. let at = (are.are i i_in).0 (sym (get_set_other waits false false place i other) ∙ bit) in
            (at.0, still i i_in other at.0 at.1 at.2 at.3, at.2, at.3),
        λ at. get_set_other waits false false place i other
            ∙ (are.are i i_in).1 (at.0, subst (λ t. Among at.0 t) (sym cut) (among_wider at.0 before w later at.1), at.2, at.3),
      )
    ];
  }
    where
      gone : (v : Waiting) → Among v (before ++ later) → v.thread ≡ w.thread → ⊥
      gone v there same =
          differ_at (waiting_threads before) w.thread (waiting_threads later)
          (subst Differ (ap waiting_threads cut ∙ waiting_append before (w ∷ later)) differ)
          (subst (λ t. Among t (waiting_threads before ++ waiting_threads later)) same
          (subst (λ t. Among v.thread t) (waiting_append before later) (waits_among v (before ++ later) there)))

      still : (i : ℕ) → i < length l → ¬ (i ≡ place) → (v : Waiting) → Among v waiting → label_at l i ≡ v.thread → deed_at l i ≡ joins v.child → Among v (before ++ later)
      still i i_in other v there i_by i_joins = elim (among_middle v before w later (subst (λ t. Among v t) cut there)) [
        | inr beside ↦ beside
        | inl same ↦ absurd (other (one_place w i place i_in inside (i_by ∙ ap (λ t. t.thread) same) (i_joins ∙ ap (λ t. joins t.child) same) by joined))
      ]
