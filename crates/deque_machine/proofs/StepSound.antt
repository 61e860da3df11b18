-- What the computed machine answers is a case of the machine.
use Rattle.std.proofs.Common.{◌≡◌, ◌≢◌, ℕ, ◌+◌, ◌<◌, Bool, true, false, cond, not, ◌&&◌, nat_eq, nat_lt, nat_le, true≢false, List, [], ◌∷◌, ◌++◌, length, refl, sym, ap, subst, ◌∙◌}
use Rattle.std.specs.Prelude.{Option, None, Some, is_some, unwrap_or}
use Rattle.std.proofs.lemmas.Bool.{eqb-true, ltb-true, leb-true, leb-false, and_parts}
use Rattle.std.proofs.lemmas.List.{nil_from_length}
use Rattle.dag_order.specs.LabelOrder.{fork_of}
use Rattle.depth_first_run.specs.Passed.Actions.{Deed, forks, joins, allocates, releases, dummy, faults, ends, record_words}
use Rattle.depth_first_run.specs.Passed.Facts.{deed_at, words_at, IsNext}
use Rattle.deque_machine.specs.Books.{Book, charged}
use Rattle.deque_machine.proofs.Lists.{each_map}
use Rattle.deque_machine.specs.Moments.{Deque, Waiting, Moment, done_at, owned_by, with_id}
use Rattle.deque_machine.specs.Machine.{Setting, Event, steals, does, suspends, gives_up, Owns, IsAtTop, HasEnded, IsIdle, new_book, May, steals_beside, takes_over, forks_child, joins_child, allocates_within, allocates_above, releases_words, meets_fault, runs_dummy, ends_above_parent, ends_and_wakes, ends_and_leaves, suspends_top, gives_deque_up}
use Rattle.deque_machine.specs.Tests.{is_next, next_from, ended_by, Cut, cut_first, cut_at, front_of, last_of, is_fork_of, is_owner, owns_it, open_for_it, waits_for}
use Rattle.deque_machine.specs.Step.{Hand, hand_with, hand_by, hand_of, deques_put, books_put, books_shut, moment_of, where_true, ended_alone, ended_over, act_by, suspend_by, suspend_at, steal_from, steal_by, does_by, suspends_by, gives_up_by, step}
use Rattle.deque_machine.proofs.TestLaws.{same_label_is, is_same_label, is_next_is, next_from_is, ended_by_is, ended_by_finds, cut_first_is, cut_first_passes, none_first, cut_at_is, front_and_last, is_fork_of_is}

pub none_is_not_some : {X : Type 0} (x : X) → ¬ (None ≡ Some x)
none_is_not_some x is = true≢false (sym (ap is_some is))

pub same_moment : (a b : Moment) → Some a ≡ Some b → a ≡ b
same_moment a b is = ap (λ o. unwrap_or o a) is

pub passed : (b : Bool) (m after : Moment) → where_true b m ≡ Some after → (b ≡ true) × (m ≡ after)
passed true m after is = (refl, same_moment m after is)
passed false m after is = absurd (none_is_not_some after is)

pub gate : (b : Bool) (o : Option Moment) (after : Moment) → cond b o None ≡ Some after → (b ≡ true) × (o ≡ Some after)
gate true o after is = (refl, is)
gate false o after is = absurd (none_is_not_some after is)

owner_is : (w : ℕ) (o : Option ℕ) → is_owner w o ≡ true → o ≡ Some w
owner_is w None is = absurd (true≢false (sym is))
owner_is w (Some v) is = ap Some (sym (eqb-true w v is))

-- what a hand says of the moment
pub record HandFacts (m : Moment) (worker : ℕ) (h : Hand) : Type 0 where
  pub deques_are : m.deques ≡ (h.deques).left ++ record { id = ((h.deques).here).id; owner = Some worker; threads = h.top ∷ h.under } ∷ (h.deques).right
  pub books_are : m.books ≡ (h.books).left ++ (h.books).here ∷ (h.books).right
  pub open_for_it : ((h.books).here).owner ≡ Some worker

abbrev pub owns_from : (m : Moment) (worker : ℕ) (h : Hand) → HandFacts m worker h → Owns m worker
owns_from m worker h f = record {
  left = (h.deques).left;
  id = ((h.deques).here).id;
  top = h.top;
  under = h.under;
  right = (h.deques).right;
  older = (h.books).left;
  book = (h.books).here;
  newer = (h.books).right;
  deques_are = f.deques_are;
  books_are = f.books_are;
  open_for_it = f.open_for_it;
}

same_hand : (g h : Hand) → Some g ≡ Some h → g ≡ h
same_hand g h is = ap (λ o. unwrap_or o g) is

pub hand_facts : (m : Moment) (worker : ℕ) (h : Hand) → hand_of m worker ≡ Some h → HandFacts m worker h
hand_facts m worker h is = by_cuts (cut_first (owns_it worker) m.deques) (cut_first (open_for_it worker) m.books) refl refl is
  where
    by_threads : (c : Cut Deque) (b : Cut Book) (threads : List (List ℕ)) → cut_first (owns_it worker) m.deques ≡ Some c → cut_first (open_for_it worker) m.books ≡ Some b
        → (c.here).threads ≡ threads → hand_with c b threads ≡ Some h → HandFacts m worker h
    by_threads c b [] ds bs threads is = absurd (none_is_not_some h is)
    by_threads c b (top ∷ under) ds bs threads is =
        let owner : (c.here).owner ≡ Some worker = owner_is worker (c.here).owner (cut_first_passes (owns_it worker) m.deques c ds) in
        let whole : c.here ≡ record { id = (c.here).id; owner = Some worker; threads = top ∷ under } = λ i. record { id = (c.here).id; owner = owner i; threads = threads i } in
        subst (HandFacts m worker) (same_hand (record { deques = c; top = top; under = under; books = b }) h is) (record {
          deques_are = cut_first_is (owns_it worker) m.deques c ds ∙ ap (λ t. c.left ++ t ∷ c.right) whole;
          books_are = cut_first_is (open_for_it worker) m.books b bs;
          open_for_it = owner_is worker (b.here).owner (cut_first_passes (open_for_it worker) m.books b bs);
        })

    by_cuts : (c : Option (Cut Deque)) (b : Option (Cut Book)) → cut_first (owns_it worker) m.deques ≡ c → cut_first (open_for_it worker) m.books ≡ b → hand_by c b ≡ Some h → HandFacts m worker h
    by_cuts None b ds bs is = absurd (none_is_not_some h is)
    by_cuts (Some c) None ds bs is = absurd (none_is_not_some h is)
    by_cuts (Some c) (Some b) ds bs is = by_threads c b (c.here).threads ds bs refl is

module _ (s : Setting) (m : Moment) (worker : ℕ) where
  -- an answer is the moment behind a case
  to : (event : Event) (a after : Moment) → a ≡ after → May s m worker event a → May s m worker event after
  to event a after same may = subst (May s m worker event) same may

  has_ended : (thread : List ℕ) → ended_by s.list (done_at m) thread (length s.list) ≡ true → HasEnded s m thread
  has_ended thread is = ended_by_is s.list (done_at m) thread (length s.list) is

  module _ (h : Hand) (f : HandFacts m worker h) where
    alone_sound : (place : ℕ) (after : Moment) → IsAtTop s m h.top place ends → h.under ≡ [] → (w : Option (Cut Waiting)) → cut_first (waits_for h.top) m.waiting ≡ w
        → ended_alone m h worker place w ≡ Some after → May s m worker (does place) after
    alone_sound place after at alone None found is =
        to (does place) (moment_of ((h.deques).left ++ (h.deques).right) m.waiting (books_put h None place)) after (same_moment _ after is)
        (ends_and_leaves (owns_from m worker h f) place at alone
        (each_map (λ w. waits_for h.top w ≡ false) (λ w. h.top ≢ fork_of w.thread w.child) m.waiting
        (λ w among other same. true≢false (sym (is_same_label h.top (fork_of w.thread w.child) same) ∙ other)) (none_first (waits_for h.top) m.waiting found)))
    alone_sound place after at alone (Some w) found is =
        to (does place) (moment_of (deques_put h (Some worker) ((w.here).thread ∷ [])) (w.left ++ w.right) (books_put h (Some worker) place)) after (same_moment _ after is)
        (ends_and_wakes (owns_from m worker h f) place w.left w.right w.here at alone (cut_first_is (waits_for h.top) m.waiting w found)
        (same_label_is h.top (fork_of (w.here).thread (w.here).child) (cut_first_passes (waits_for h.top) m.waiting w found)))

    over_sound : (place : ℕ) (after : Moment) → IsAtTop s m h.top place ends → (under : List (List ℕ)) → h.under ≡ under
        → ended_over m h worker place under ≡ Some after → May s m worker (does place) after
    over_sound place after at [] alone is = alone_sound place after at alone (cut_first (waits_for h.top) m.waiting) refl is
    over_sound place after at (parent ∷ below) under is =
        let p = passed (is_fork_of parent h.top) (moment_of (deques_put h (Some worker) (parent ∷ below)) m.waiting (books_put h (Some worker) place)) after is in
        let child = is_fork_of_is parent h.top p.0 in
        to (does place) (moment_of (deques_put h (Some worker) h.under) m.waiting (books_put h (Some worker) place)) after
        (ap (λ t. moment_of (deques_put h (Some worker) t) m.waiting (books_put h (Some worker) place)) under ∙ p.1)
        (ends_above_parent (owns_from m worker h f) place child.0 parent below at under child.1)

    act_sound : (place : ℕ) (after : Moment) → IsNext s.list (done_at m) h.top place → (deed : Deed) → deed_at s.list place ≡ deed
        → act_by s m h worker place deed ≡ Some after → May s m worker (does place) after
    act_sound place after next (forks child) deed is =
        let p = passed (nat_le (charged s.quota s.list ((h.books).here).ran + record_words) s.quota)
        (moment_of (deques_put h (Some worker) (fork_of h.top child ∷ h.top ∷ h.under)) m.waiting (books_put h (Some worker) place)) after is in
        to (does place) (moment_of (deques_put h (Some worker) (fork_of h.top child ∷ h.top ∷ h.under)) m.waiting (books_put h (Some worker) place)) after p.1
        (forks_child (owns_from m worker h f) place child (record { next = next; deed_is = deed }) (leb-true (charged s.quota s.list ((h.books).here).ran + record_words) s.quota p.0))
    act_sound place after next (joins child) deed is =
        let p = passed (ended_by s.list (done_at m) (fork_of h.top child) (length s.list)) (moment_of m.deques m.waiting (books_put h (Some worker) place)) after is in
        to (does place) (moment_of m.deques m.waiting (books_put h (Some worker) place)) after p.1
        (joins_child (owns_from m worker h f) place child (record { next = next; deed_is = deed }) (has_ended (fork_of h.top child) p.0))
    act_sound place after next allocates deed is =
        let p = passed (cond (nat_le (words_at s.list place) s.quota) (nat_le (charged s.quota s.list ((h.books).here).ran + words_at s.list place) s.quota) true)
        (moment_of m.deques m.waiting (books_put h (Some worker) place)) after is in
        to (does place) (moment_of m.deques m.waiting (books_put h (Some worker) place)) after p.1 (by_size (nat_le (words_at s.list place) s.quota) refl p.0)
      where
        by_size : (small : Bool) → nat_le (words_at s.list place) s.quota ≡ small
            → cond small (nat_le (charged s.quota s.list ((h.books).here).ran + words_at s.list place) s.quota) true ≡ true
            → May s m worker (does place) (moment_of m.deques m.waiting (books_put h (Some worker) place))
        by_size true small fits = allocates_within (owns_from m worker h f) place (record { next = next; deed_is = deed }) (leb-true (words_at s.list place) s.quota small)
            (leb-true (charged s.quota s.list ((h.books).here).ran + words_at s.list place) s.quota fits)
        by_size false large fits = allocates_above (owns_from m worker h f) place (record { next = next; deed_is = deed }) (leb-false (words_at s.list place) s.quota large)
    act_sound place after next releases deed is =
        to (does place) (moment_of m.deques m.waiting (books_put h (Some worker) place)) after (same_moment _ after is)
        (releases_words (owns_from m worker h f) place (record { next = next; deed_is = deed }))
    act_sound place after next dummy deed is =
        to (does place) (moment_of (deques_put h None (h.top ∷ h.under)) m.waiting (books_put h None place)) after (same_moment _ after is)
        (runs_dummy (owns_from m worker h f) place (record { next = next; deed_is = deed }))
    act_sound place after next faults deed is =
        to (does place) (moment_of m.deques m.waiting (books_put h (Some worker) place)) after (same_moment _ after is)
        (meets_fault (owns_from m worker h f) place (record { next = next; deed_is = deed }))
    act_sound place after next ends deed is = over_sound place after (record { next = next; deed_is = deed }) h.under refl is

    suspend_sound : (place : ℕ) (after : Moment) → IsNext s.list (done_at m) h.top place → (deed : Deed) → deed_at s.list place ≡ deed
        → suspend_by s m h deed ≡ Some after → May s m worker suspends after
    suspend_sound place after next (forks child) deed is = absurd (none_is_not_some after is)
    suspend_sound place after next allocates deed is = absurd (none_is_not_some after is)
    suspend_sound place after next releases deed is = absurd (none_is_not_some after is)
    suspend_sound place after next dummy deed is = absurd (none_is_not_some after is)
    suspend_sound place after next faults deed is = absurd (none_is_not_some after is)
    suspend_sound place after next ends deed is = absurd (none_is_not_some after is)
    suspend_sound place after next (joins child) deed is =
        let ended : Bool = ended_by s.list (done_at m) (fork_of h.top child) (length s.list) in
        let p = passed (not (ended_by s.list (done_at m) (fork_of h.top child) (length s.list)) && nat_eq (length h.under) 0)
        (moment_of ((h.deques).left ++ (h.deques).right) (record { thread = h.top; child = child } ∷ m.waiting) (books_shut h)) after is in
        let q = and_parts (not (ended_by s.list (done_at m) (fork_of h.top child) (length s.list))) (nat_eq (length h.under) 0) p.0 in
        to suspends (moment_of ((h.deques).left ++ (h.deques).right) (record { thread = h.top; child = child } ∷ m.waiting) (books_shut h)) after p.1
        (suspends_top (owns_from m worker h f) place child (record { next = next; deed_is = deed })
        (λ has. true≢false (sym q.0 ∙ ap not (ended_by_finds s.list (done_at m) (fork_of h.top child) (length s.list) has.0 has.1 has.2 has.3 has.4)))
        (nil_from_length h.under (eqb-true (length h.under) 0 q.1)))

  beside_sound : (place id : ℕ) (after : Moment) → IsIdle s m worker → place < s.workers → (c : Cut Deque) → m.deques ≡ c.left ++ c.here ∷ c.right → length c.left ≡ place
      → (first second : List ℕ) (more : List (List ℕ)) → (c.here).threads ≡ first ∷ second ∷ more
      → where_true (nat_eq (with_id id m.deques) 0) (moment_of (c.left ++ record { id = (c.here).id; owner = (c.here).owner; threads = first ∷ front_of second more }
      ∷ record { id = id; owner = Some worker; threads = last_of second more ∷ [] } ∷ c.right) m.waiting (m.books ++ new_book worker true ∷ [])) ≡ Some after
      → May s m worker (steals place id) after
  beside_sound place id after idle reach c cut at first second more t is =
      let new : Moment = moment_of (c.left ++ record { id = (c.here).id; owner = (c.here).owner; threads = first ∷ front_of second more }
      ∷ record { id = id; owner = Some worker; threads = last_of second more ∷ [] } ∷ c.right) m.waiting (m.books ++ new_book worker true ∷ []) in
      let p = passed (nat_eq (with_id id m.deques) 0) new after is in
      subst (λ e. May s m worker e after) (ap (λ n. steals n id) at)
      (to (steals (length c.left) id) new after p.1
      (steals_beside c.left c.right c.here first (front_of second more) (last_of second more) id idle (subst (λ n. n < s.workers) (sym at) reach) cut
      (t ∙ ap (λ u. first ∷ u) (front_and_last second more)) (eqb-true (with_id id m.deques) 0 p.0)))

  steal_sound : (place id : ℕ) (after : Moment) → IsIdle s m worker → place < s.workers → (c : Cut Deque) → m.deques ≡ c.left ++ c.here ∷ c.right → length c.left ≡ place
      → (owner : Option ℕ) (threads : List (List ℕ)) → (c.here).owner ≡ owner → (c.here).threads ≡ threads → steal_from m worker id c owner threads ≡ Some after
      → May s m worker (steals place id) after
  steal_sound place id after idle reach c cut at owner [] o t is = absurd (none_is_not_some after is)
  steal_sound place id after idle reach c cut at None (thread ∷ []) o t is =
      let new : Moment = moment_of (c.left ++ record { id = (c.here).id; owner = Some worker; threads = thread ∷ [] } ∷ c.right) m.waiting (m.books ++ new_book worker (nat_lt 0 (length c.left)) ∷ []) in
      let p = passed (nat_eq id (c.here).id) new after is in
      let whole : c.here ≡ record { id = (c.here).id; owner = None; threads = thread ∷ [] } = λ i. record { id = (c.here).id; owner = o i; threads = t i } in
      subst (λ e. May s m worker e after) (ap (λ n. steals n id) at)
      (subst (λ n. May s m worker (steals (length c.left) n) after) (sym (eqb-true id (c.here).id p.0))
      (to (steals (length c.left) (c.here).id) new after p.1
      (takes_over c.left c.right thread (c.here).id idle (subst (λ n. n < s.workers) (sym at) reach) (cut ∙ ap (λ d. c.left ++ d ∷ c.right) whole))))
  steal_sound place id after idle reach c cut at (Some other) (thread ∷ []) o t is = absurd (none_is_not_some after is)
  steal_sound place id after idle reach c cut at None (first ∷ second ∷ more) o t is = beside_sound place id after idle reach c cut at first second more t is
  steal_sound place id after idle reach c cut at (Some other) (first ∷ second ∷ more) o t is = beside_sound place id after idle reach c cut at first second more t is

  pub step_sound : (event : Event) (after : Moment) → step s m worker event ≡ Some after → May s m worker event after
  step_sound (steals place id) after is =
      let g = gate (nat_lt worker s.workers && (nat_eq (owned_by worker m.deques) 0 && nat_lt place s.workers)) (steal_by m worker id (cut_at place m.deques)) after is in
      let a = and_parts (nat_lt worker s.workers) (nat_eq (owned_by worker m.deques) 0 && nat_lt place s.workers) g.0 in
      let b = and_parts (nat_eq (owned_by worker m.deques) 0) (nat_lt place s.workers) a.1 in
      by_cut place id after (record { is_worker = ltb-true worker s.workers a.0; owns_none = eqb-true (owned_by worker m.deques) 0 b.0 }) (ltb-true place s.workers b.1)
      (cut_at place m.deques) refl g.1
    where
      by_cut : (place id : ℕ) (after : Moment) → IsIdle s m worker → place < s.workers → (c : Option (Cut Deque)) → cut_at place m.deques ≡ c → steal_by m worker id c ≡ Some after
          → May s m worker (steals place id) after
      by_cut place id after idle reach None cut is = absurd (none_is_not_some after is)
      by_cut place id after idle reach (Some c) cut is =
          let p = cut_at_is place m.deques c cut in steal_sound place id after idle reach c p.0 p.1 (c.here).owner (c.here).threads refl refl is
  step_sound (does place) after is = by_hand place after (hand_of m worker) refl is
    where
      by_hand : (place : ℕ) (after : Moment) (o : Option Hand) → hand_of m worker ≡ o → does_by s m worker place o ≡ Some after → May s m worker (does place) after
      by_hand place after None hand is = absurd (none_is_not_some after is)
      by_hand place after (Some h) hand is =
          let g = gate (is_next s.list (done_at m) h.top place) (act_by s m h worker place (deed_at s.list place)) after is in
          act_sound h (hand_facts m worker h hand) place after (is_next_is s.list (done_at m) h.top place g.0) (deed_at s.list place) refl g.1
  step_sound suspends after is = by_hand after (hand_of m worker) refl is
    where
      by_next : (after : Moment) (h : Hand) → HandFacts m worker h → (o : Option ℕ) → next_from s.list (done_at m) h.top 0 (length s.list) ≡ o → suspend_at s m h o ≡ Some after
          → May s m worker suspends after
      by_next after h f None next is = absurd (none_is_not_some after is)
      by_next after h f (Some place) next is =
          suspend_sound h f place after (next_from_is s.list (done_at m) h.top (length s.list) 0 place next) (deed_at s.list place) refl is

      by_hand : (after : Moment) (o : Option Hand) → hand_of m worker ≡ o → suspends_by s m o ≡ Some after → May s m worker suspends after
      by_hand after None hand is = absurd (none_is_not_some after is)
      by_hand after (Some h) hand is = by_next after h (hand_facts m worker h hand) (next_from s.list (done_at m) h.top 0 (length s.list)) refl is
  step_sound gives_up after is = by_hand after (hand_of m worker) refl is
    where
      by_hand : (after : Moment) (o : Option Hand) → hand_of m worker ≡ o → gives_up_by m o ≡ Some after → May s m worker gives_up after
      by_hand after None hand is = absurd (none_is_not_some after is)
      by_hand after (Some h) hand is =
          to gives_up (moment_of (deques_put h None (h.top ∷ h.under)) m.waiting (books_shut h)) after (same_moment _ after is) (gives_deque_up (owns_from m worker h (hand_facts m worker h hand)))
