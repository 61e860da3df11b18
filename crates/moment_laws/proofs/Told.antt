-- What an event that may come has with it.
use Rattle.std.proofs.Common.{◌≡◌, ℕ, ◌+◌, ◌≤◌, ◌<◌, List, [], ◌∷◌, ◌++◌, length, map, refl, sym, ap, subst, ◌∙◌, arith, length-append, nat_lt, ℤ, pos, ◌+ℤ◌, cond}
use Rattle.std.specs.Prelude.{Bool, true, false, nat_le, Option, None, Some}
use Rattle.std.proofs.lemmas.Int.{ints}
use Rattle.open_periods.specs.Passed.LabelOrder.{fork_of}
use Rattle.open_periods.specs.Passed.Actions.{Deed, forks, joins, allocates, releases, dummy, faults, ends, Action, live_words}
use Rattle.open_periods.specs.Passed.DepthFirstListRuns.{IsDepthFirst}
use Rattle.open_periods.specs.Passed.Facts.{action_at, deed_at, words_at, weight_at, IsNext}
use Rattle.open_periods.specs.Passed.Lists.{Each, total}
use Rattle.open_periods.specs.Passed.Books.{booked, charge, charge_at, charged, book_of}
use Rattle.open_periods.specs.Passed.Lawful.{IsWithin}
use Rattle.open_periods.proofs.Passed.Lists.{each_at}
use Rattle.open_periods.proofs.Passed.Keeping.{closed_same, begun_same}
use Rattle.open_periods.proofs.Passed.DequeMachineWhole.{total_ones}
use Rattle.open_periods.specs.Passed.Moments.{Deque, Waiting, Moment, done_at, live_at}
use Rattle.open_periods.specs.Passed.Machine.{Setting, Event, steals, does, suspends, gives_up, Owns, IsAtTop, HasEnded, books_with, books_closed, new_book, May, steals_beside, takes_over, forks_child, joins_child, allocates_within, allocates_above, releases_words, meets_fault, runs_dummy, ends_above_parent, ends_and_wakes, ends_and_leaves, suspends_top, gives_deque_up}
use Rattle.open_periods.specs.Passed.Play.{an_action, a_wait}
use Rattle.open_periods.proofs.Passed.KeptOrder.{own_alloc, own_release, own_fault, own_dummy, fork_is_no_join, end_is_no_join}
use Rattle.open_periods.proofs.Passed.Sizes.{booked_more}
use Rattle.open_periods.proofs.Passed.Reached.{event_writes}
use Rattle.moment_shown.proofs.Shown.{used_is}
use Rattle.moment_shown.proofs.Placing.{own, next_at_top}
use Rattle.moment_laws.specs.Steps.{AddsNone, ActionsAreAdded, OthersAddNone}
use Rattle.moment_laws.specs.Wanted.{ComingIsWanted, WaitIsWanted, GiveUpIsForced}

-- what an action has with it: the worker's deque and book, the next action of its top thread, and the quota that covers it
pub record Acted (s : Setting) (m : Moment) (worker place : ℕ) (after : Moment) : Type 0 where
  pub owns : Owns m worker
  pub owner : Option ℕ
  pub next : IsNext s.list (done_at m) owns.top place
  pub books : after.books ≡ books_with owns owner place
  pub child_ended : (child : ℕ) → deed_at s.list place ≡ joins child → HasEnded s m (fork_of owns.top child)
  pub fits : charged s.quota s.list owns.book.ran ≤ s.quota → charged s.quota s.list owns.book.ran + charge_at s.quota s.list place ≤ s.quota

-- what another event has with it: the same stands in the books, and so many periods began
pub record Quiet (m after : Moment) (begun : ℕ) : Type 0 where
  pub same : booked after.books ≡ booked m.books
  pub more : length after.books ≡ length m.books + begun

-- and a wait: a Join whose child has not ended
pub record Waited (s : Setting) (m : Moment) (worker : ℕ) (after : Moment) : Type 0 where
  pub quiet : Quiet m after 0
  pub owns : Owns m worker
  pub place : ℕ
  pub child : ℕ
  pub top : IsAtTop s m owns.top place (joins child)
  pub not_ended : ¬ HasEnded s m (fork_of owns.top child)

abbrev pub Tells : Setting → Moment → ℕ → Event → Moment → Type 0
Tells s m worker (steals place id) after = Quiet m after 1
Tells s m worker (does place) after = Acted s m worker place after
Tells s m worker suspends after = Waited s m worker after
Tells s m worker gives_up after = Quiet m after 0

-- a Join is of one child
one_join : (j k : ℕ) → joins j ≡ joins k → j ≡ k
one_join j k same = cc

module _ (s : Setting) (m : Moment) (worker : ℕ) where
  -- an action of the worker's top thread
  acts : (o : Owns m worker) (owner : Option ℕ) (place : ℕ) (deed : Deed) (deques : List Deque) (waiting : List Waiting) → IsAtTop s m o.top place deed
      → ((child : ℕ) → deed ≡ joins child → HasEnded s m (fork_of o.top child))
      → (charged s.quota s.list o.book.ran ≤ s.quota → charged s.quota s.list o.book.ran + charge s.quota deed (words_at s.list place) ≤ s.quota)
      → Acted s m worker place (record { deques = deques; waiting = waiting; books = books_with o owner place })
  acts o owner place deed deques waiting top ended fits = record {
    owns = o;
    owner = owner;
    next = top.next;
    books = refl;
    child_ended = λ child is. ended child (sym top.deed_is ∙ is);
    fits = λ within. subst (λ d. charged s.quota s.list o.book.ran + charge s.quota d (words_at s.list place) ≤ s.quota) (sym top.deed_is) (fits within);
  }

  -- an action that takes nothing of the quota
  acts_free : (o : Owns m worker) (owner : Option ℕ) (place : ℕ) (deed : Deed) (deques : List Deque) (waiting : List Waiting) → IsAtTop s m o.top place deed
      → ((child : ℕ) → deed ≡ joins child → HasEnded s m (fork_of o.top child)) → charge s.quota deed (words_at s.list place) ≡ 0
      → Acted s m worker place (record { deques = deques; waiting = waiting; books = books_with o owner place })
  acts_free o owner place deed deques waiting top ended free = acts o owner place deed deques waiting top ended (λ within. omega (arith, within, free))

  -- the worker's period ends, and a new one begins
  closes : (o : Owns m worker) (deques : List Deque) (waiting : List Waiting) → Quiet m (record { deques = deques; waiting = waiting; books = books_closed o }) 0
  closes o deques waiting = record {
    same = closed_same o.older o.newer o.book None ∙ ap booked (sym o.books_are);
    more =
        let now = length-append o.older (book_of o.book None o.book.ran ∷ o.newer) in let was = length-append o.older (o.book ∷ o.newer) in
        let cut : length m.books ≡ length (o.older ++ o.book ∷ o.newer) = ap length o.books_are in omega (arith, now, was, cut);
  }

  begins : (deques : List Deque) (ahead : Bool) → Quiet m (record { deques = deques; waiting = m.waiting; books = m.books ++ new_book worker ahead ∷ [] }) 1
  begins deques ahead = record { same = begun_same m.books (new_book worker ahead) refl; more = length-append m.books (new_book worker ahead ∷ []) }

  -- an Alloc takes its words where the quota covers them, and else nothing
  alloc_above : (words : ℕ) → s.quota < words → charge s.quota allocates words ≡ 0
  alloc_above words large = ap (λ b. cond b words 0) (not_within words s.quota large)
    where
      not_within : (a b : ℕ) → b < a → nat_le a b ≡ false
      not_within a b lt = grind arith

  alloc_most : (words taken : ℕ) → taken + words ≤ s.quota → taken + charge s.quota allocates words ≤ s.quota
  alloc_most words taken fits = by_test (nat_le words s.quota)
    where
      by_test : (b : Bool) → taken + cond b words 0 ≤ s.quota
      by_test true = fits
      by_test false = omega (arith, fits)

  -- each event has its own with it
  pub tells : (event : Event) (after : Moment) → May s m worker event after → Tells s m worker event after
  tells event after (steals_beside left right victim first others bottom id idle reach deques_are threads_are new_id) = begins after.deques true
  tells event after (takes_over left right thread id idle reach deques_are) = begins after.deques (nat_lt 0 (length left))
  tells event after (forks_child o place child top fits) = acts o (Some worker) place (forks child) after.deques after.waiting top (λ c is. absurd (fork_is_no_join child c is)) (λ within. fits)
  tells event after (joins_child o place child top has) =
      acts_free o (Some worker) place (joins child) after.deques after.waiting top (λ c is. subst (λ n. HasEnded s m (fork_of o.top n)) (one_join child c is) has) refl
  tells event after (allocates_within o place top small fits) =
      acts o (Some worker) place allocates after.deques after.waiting top (λ c is. absurd (own_alloc.no_join c is)) (λ within. alloc_most (words_at s.list place) (charged s.quota s.list o.book.ran) fits)
  tells event after (allocates_above o place top large) =
      acts_free o (Some worker) place allocates after.deques after.waiting top (λ c is. absurd (own_alloc.no_join c is)) (alloc_above (words_at s.list place) large)
  tells event after (releases_words o place top) = acts_free o (Some worker) place releases after.deques after.waiting top (λ c is. absurd (own_release.no_join c is)) refl
  tells event after (meets_fault o place top) = acts_free o (Some worker) place faults after.deques after.waiting top (λ c is. absurd (own_fault.no_join c is)) refl
  tells event after (runs_dummy o place top) = acts_free o None place dummy after.deques after.waiting top (λ c is. absurd (own_dummy.no_join c is)) refl
  tells event after (ends_above_parent o place child parent below top under_is top_is) =
      acts_free o (Some worker) place ends after.deques after.waiting top (λ c is. absurd (end_is_no_join c is)) refl
  tells event after (ends_and_wakes o place before later parent top under_is waiting_is top_is) =
      acts_free o (Some worker) place ends after.deques after.waiting top (λ c is. absurd (end_is_no_join c is)) refl
  tells event after (ends_and_leaves o place top under_is unwaited) = acts_free o None place ends after.deques after.waiting top (λ c is. absurd (end_is_no_join c is)) refl
  tells event after (suspends_top o place child top not_ended under_is) = record {
    quiet = closes o after.deques after.waiting;
    owns = o;
    place = place;
    child = child;
    top = top;
    not_ended = not_ended;
  }
  tells event after (gives_deque_up o) = closes o after.deques after.waiting

-- a weight alone
weighs : (x y w : ℤ) → x ≡ y +ℤ (w +ℤ pos 0) → x ≡ y +ℤ w
weighs x y w e = omega (arith, ints, e)

pub actions_are_added : (s : Setting) → ActionsAreAdded s
actions_are_added s m after worker place may =
    let a : Acted s m worker place after = tells s m worker (does place) after may in
    record {
      booked =
          let now : length (booked after.books) ≡ length (booked (books_with a.owns a.owner place)) = ap (λ b. length (booked b)) a.books in
          let was : length (booked m.books) ≡ length (booked (a.owns.older ++ a.owns.book ∷ a.owns.newer)) = ap (λ b. length (booked b)) a.owns.books_are in
          let more : total (λ i. 1) (booked (books_with a.owns a.owner place)) ≡ total (λ i. 1) (booked (a.owns.older ++ a.owns.book ∷ a.owns.newer)) + 1 =
          booked_more (λ i. 1) a.owns.older a.owns.newer a.owns.book a.owner place in
          let p = total_ones (booked (books_with a.owns a.owner place)) in let q = total_ones (booked (a.owns.older ++ a.owns.book ∷ a.owns.newer)) in
          omega (arith, now, was, more, p, q);
      books =
          let now : length after.books ≡ length (books_with a.owns a.owner place) = ap length a.books in
          let was : length m.books ≡ length (a.owns.older ++ a.owns.book ∷ a.owns.newer) = ap length a.owns.books_are in
          let x = length-append a.owns.older (book_of a.owns.book a.owner (a.owns.book.ran ++ place ∷ []) ∷ a.owns.newer) in
          let y = length-append a.owns.older (a.owns.book ∷ a.owns.newer) in omega (arith, now, was, x, y);
      live = weighs (live_at s.list after) (live_at s.list m) (weight_at s.list place) (event_writes s m worker (does place) after may).live;
    }

adds_none : (l : List Action) (m after : Moment) (begun : ℕ) → Quiet m after begun → AddsNone l m after begun
adds_none l m after begun q = record { booked = ap length q.same; books = q.more; live = ap (λ places. live_words (map (action_at l) places)) q.same }

pub others_add_none : (s : Setting) → OthersAddNone s
others_add_none s m after worker = (
  λ may. adds_none s.list m after 0 (tells s m worker suspends after may).quiet,
  λ may. adds_none s.list m after 0 (tells s m worker gives_up after may),
  λ place id may. adds_none s.list m after 1 (tells s m worker (steals place id) after may),
)

pub coming_is_wanted : (s : Setting) → ComingIsWanted s
coming_is_wanted s m after worker word place lawful may =
    let a : Acted s m worker place after = tells s m worker (does place) after may in
    an_action a.owns place a.next a.child_ended (a.fits (each_at (IsWithin s.quota s.list) a.owns.older a.owns.book a.owns.newer
    (subst (Each (IsWithin s.quota s.list)) a.owns.books_are lawful.periods.lawful.within)))

pub wait_is_wanted : (s : Setting) → WaitIsWanted s
wait_is_wanted s m after worker word may =
    let w : Waited s m worker after = tells s m worker suspends after may in a_wait w.owns w.place w.child w.top w.not_ended

pub give_up_is_forced : (s : Setting) → 0 < s.quota → IsDepthFirst s.quota s.list → GiveUpIsForced s
give_up_is_forced s some run m parts worker place deed lawful shows o is_next full = record {
  owner = own s run m lawful parts shows worker o;
  place = place;
  next = next_at_top s run m lawful parts shows worker o place deed is_next;
  no_room = subst (λ used. s.quota < used + charge_at s.quota s.list place) (used_is s.quota s.list parts m shows worker o) full;
}
