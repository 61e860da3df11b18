-- Each case of the machine keeps lawful order and the books lawful.
use Rattle.std.proofs.Common.{◌≡◌, ◌≢◌, ℕ, ◌+◌, ◌≤◌, ◌<◌, List, [], ◌∷◌, ◌++◌, length, inl, inr, refl, sym, ap, subst, ◌∙◌, arith, cond, nat_lt, true}
use Rattle.std.specs.Prelude.{Option, None, Some}
use Rattle.std.proofs.lemmas.Bool.{cases_lt, le-leb, lt-leb}
use Rattle.dag_order.specs.LabelOrder.{fork_of}
use Rattle.depth_first_run.specs.Passed.Actions.{Deed, forks, joins, allocates, releases, dummy, faults, ends}
use Rattle.depth_first_run.specs.Passed.Runs.{IsDepthFirst}
use Rattle.depth_first_run.specs.Passed.Facts.{label_at, deed_at, words_at, IsLive, IsNext}
use Rattle.depth_first_run.proofs.Passed.ThreadLaws.{end_is_last}
use Rattle.deque_machine.specs.Lists.{Each, times}
use Rattle.deque_machine.specs.Books.{Book, booked, done_in, charge, charge_at, charged}
use Rattle.deque_machine.specs.Lawful.{LawfulBooks}
use Rattle.deque_machine.proofs.Lists.{each_at}
use Rattle.deque_machine.proofs.Keeping.{done_more, closed_same, begun_same, running_keeps, closing_keeps, beginning_keeps}
use Rattle.deque_machine.specs.Moments.{Deque, Moment, threads_in, done_at, owned_by, with_id}
use Rattle.deque_machine.specs.Machine.{Setting, Event, Owns, books_with, books_closed, IsAtTop, HasEnded, new_book, May, steals_beside, takes_over, forks_child, joins_child, allocates_within, allocates_above, releases_words, meets_fault, runs_dummy, ends_above_parent, ends_and_wakes, ends_and_leaves, suspends_top, gives_deque_up}
use Rattle.deque_machine.specs.LawfulOrder.{Waits, OrderOf, LawfulOrder}
use Rattle.deque_machine.proofs.Order.{deque_of, owner_changes, owner_comes, deque_comes, deque_suspends, order_plain, order_fork, order_end_above, order_end_leaves, order_end_wakes}
use Rattle.deque_machine.proofs.LiveThreads.{join_is_no_end, join_is_no_fork, child_live_at_join}
use Rattle.deque_machine.proofs.Shapes.{threads_append}

-- which deed it is
IsAlloc : Deed → Type 0
IsAlloc allocates = Unit {0}
IsAlloc other = ⊥

IsRelease : Deed → Type 0
IsRelease releases = Unit {0}
IsRelease other = ⊥

IsFault : Deed → Type 0
IsFault faults = Unit {0}
IsFault other = ⊥

IsDummy : Deed → Type 0
IsDummy dummy = Unit {0}
IsDummy other = ⊥

IsFork : Deed → Type 0
IsFork (forks child) = Unit {0}
IsFork other = ⊥

IsEnd : Deed → Type 0
IsEnd ends = Unit {0}
IsEnd other = ⊥

-- a deed that is no Fork, no End and no Join
pub record IsOwn (deed : Deed) : Type 0 where
  pub no_fork : (child : ℕ) → deed ≢ forks child
  pub no_end : deed ≢ ends
  pub no_join : (child : ℕ) → deed ≢ joins child

pub own_alloc : IsOwn allocates
unfolding IsAlloc
own_alloc = record { no_fork = λ c e. subst IsAlloc e tt; no_end = λ e. subst IsAlloc e tt; no_join = λ c e. subst IsAlloc e tt }

pub own_release : IsOwn releases
unfolding IsRelease
own_release = record { no_fork = λ c e. subst IsRelease e tt; no_end = λ e. subst IsRelease e tt; no_join = λ c e. subst IsRelease e tt }

pub own_fault : IsOwn faults
unfolding IsFault
own_fault = record { no_fork = λ c e. subst IsFault e tt; no_end = λ e. subst IsFault e tt; no_join = λ c e. subst IsFault e tt }

pub own_dummy : IsOwn dummy
unfolding IsDummy
own_dummy = record { no_fork = λ c e. subst IsDummy e tt; no_end = λ e. subst IsDummy e tt; no_join = λ c e. subst IsDummy e tt }

pub fork_is_no_join : (child c : ℕ) → forks child ≢ joins c
unfolding IsFork
fork_is_no_join child c e = subst IsFork e tt

pub end_is_no_join : (c : ℕ) → ends ≢ joins c
unfolding IsEnd
end_is_no_join c e = subst IsEnd e tt

pub no_dummy_alloc : allocates ≢ dummy
unfolding IsAlloc
no_dummy_alloc e = subst IsAlloc e tt

pub no_dummy_release : releases ≢ dummy
unfolding IsRelease
no_dummy_release e = subst IsRelease e tt

pub no_dummy_fault : faults ≢ dummy
unfolding IsFault
no_dummy_fault e = subst IsFault e tt

pub no_dummy_fork : (c : ℕ) → forks c ≢ dummy
unfolding IsFork
no_dummy_fork c e = subst IsFork e tt

pub no_dummy_end : ends ≢ dummy
unfolding IsEnd
no_dummy_end e = subst IsEnd e tt

pub no_dummy_join : (c : ℕ) → joins c ≢ dummy
unfolding IsDummy
no_dummy_join c e = subst IsDummy (sym e) tt

-- what is known at a moment, with the worker's deque and book cut out
module _ (s : Setting) (run : IsDepthFirst s.quota s.list) (m : Moment) (order : LawfulOrder s.list m) (lawful : LawfulBooks s.quota s.list m.books) where
  module _ (worker : ℕ) (o : Owns m worker) where
    cut_deques : List Deque
    cut_deques = o.left ++ deque_of o.id (Some worker) (o.top ∷ o.under) ∷ o.right

    pub cut_order : OrderOf s.list (done_in (o.older ++ o.book ∷ o.newer)) (o.left ++ deque_of o.id (Some worker) (o.top ∷ o.under) ∷ o.right) m.waiting
    cut_order = subst (λ t. OrderOf s.list (done_in t) (o.left ++ deque_of o.id (Some worker) (o.top ∷ o.under) ∷ o.right) m.waiting) o.books_are
        (subst (λ t. OrderOf s.list (done_in m.books) t m.waiting) o.deques_are order)

    pub cut_lawful : LawfulBooks s.quota s.list (o.older ++ o.book ∷ o.newer)
    cut_lawful = subst (LawfulBooks s.quota s.list) o.books_are lawful

    pub cut_next : (place : ℕ) → IsNext s.list (done_at m) o.top place → IsNext s.list (done_in (o.older ++ o.book ∷ o.newer)) o.top place
    cut_next place next = subst (λ t. IsNext s.list (done_in t) o.top place) o.books_are next

    top_live : IsLive s.list (done_in (o.older ++ o.book ∷ o.newer)) o.top
    top_live = each_at (IsLive s.list (done_in (o.older ++ o.book ∷ o.newer))) (threads_in o.left) o.top (o.under ++ threads_in o.right)
        (subst (λ t. Each (IsLive s.list (done_in (o.older ++ o.book ∷ o.newer))) t) (threads_append o.left (deque_of o.id (Some worker) (o.top ∷ o.under) ∷ o.right)) cut_order.all_live)

    -- the books, behind an action
    pub books_keep : (place : ℕ) (owner : Option ℕ) → IsNext s.list (done_at m) o.top place
        → ((child e : ℕ) → deed_at s.list place ≡ joins child → e < length s.list → label_at s.list e ≡ fork_of o.top child → deed_at s.list e ≡ ends → 0 < done_at m e)
        → charged s.quota s.list o.book.ran + charge_at s.quota s.list place ≤ s.quota
        → (deed_at s.list place ≡ dummy → owner ≡ None)
        → LawfulBooks s.quota s.list (books_with o owner place)
    books_keep place owner next child_ended quota closes =
        running_keeps s.quota s.list o.older o.newer o.book worker place owner o.open_for_it cut_lawful (record {
          live = subst (IsLive s.list (done_in (o.older ++ o.book ∷ o.newer))) (sym next.by) top_live;
          next = subst (λ t. IsNext s.list (done_in (o.older ++ o.book ∷ o.newer)) t place) (sym next.by) (cut_next place next);
          child_ended = λ child e joined e_in mine end. subst (λ t. 0 < done_in t e) o.books_are (child_ended child e joined e_in (mine ∙ ap (λ t. fork_of t child) next.by) end);
          quota = quota;
          closes = closes;
        })

    pub books_close : LawfulBooks s.quota s.list (books_closed o)
    books_close = closing_keeps s.quota s.list o.older o.newer o.book cut_lawful

    -- an own action leaves the deques as they are
    pub plain_keeps : (place : ℕ) (owner : Option ℕ) → IsNext s.list (done_at m) o.top place → ((child : ℕ) → deed_at s.list place ≢ forks child) → deed_at s.list place ≢ ends
        → OrderOf s.list (done_in (books_with o owner place)) (o.left ++ deque_of o.id (Some worker) (o.top ∷ o.under) ∷ o.right) m.waiting
    plain_keeps place owner next no_fork no_end =
        order_plain s.quota s.list run (done_in (o.older ++ o.book ∷ o.newer)) (done_in (books_with o owner place)) place
        (λ i. done_more o.older o.newer o.book owner place i) cut_lawful.first_actions o.left o.right o.id worker m.waiting o.top (cut_next place next) o.under no_fork no_end cut_order

    pub plain_keeps_all : (place : ℕ) (owner : Option ℕ) → IsNext s.list (done_at m) o.top place → ((child : ℕ) → deed_at s.list place ≢ forks child) → deed_at s.list place ≢ ends
        → OrderOf s.list (done_in (books_with o owner place)) m.deques m.waiting
    plain_keeps_all place owner next no_fork no_end =
        subst (λ t. OrderOf s.list (done_in (books_with o owner place)) t m.waiting) (sym o.deques_are) (plain_keeps place owner next no_fork no_end)

    -- with nothing more done
    pub closed_order : OrderOf s.list (done_in (books_closed o)) (o.left ++ deque_of o.id (Some worker) (o.top ∷ o.under) ∷ o.right) m.waiting
    closed_order = subst (λ t. OrderOf s.list (λ i. times i t) (o.left ++ deque_of o.id (Some worker) (o.top ∷ o.under) ∷ o.right) m.waiting)
        (sym (closed_same o.older o.newer o.book None)) cut_order

    -- what a deed that is no Fork and no small Alloc takes of the quota
    no_charge : (place : ℕ) → charge_at s.quota s.list place ≡ 0 → charged s.quota s.list o.book.ran + charge_at s.quota s.list place ≤ s.quota
    no_charge place none = let most : charged s.quota s.list o.book.ran ≤ s.quota = each_at (λ book. charged s.quota s.list book.ran ≤ s.quota) o.older o.book o.newer cut_lawful.within in omega (arith, most, none)

    no_join_ends : (place : ℕ) (deed : Deed) → deed_at s.list place ≡ deed → ((child : ℕ) → deed ≢ joins child)
        → (child e : ℕ) → deed_at s.list place ≡ joins child → e < length s.list → label_at s.list e ≡ fork_of o.top child → deed_at s.list e ≡ ends → 0 < done_at m e
    no_join_ends place deed is no_join child e joined e_in mine end = absurd (no_join child (sym is ∙ joined))

    charge_is : (place : ℕ) (deed : Deed) → deed_at s.list place ≡ deed → charge_at s.quota s.list place ≡ charge s.quota deed (words_at s.list place)
    charge_is place deed is = ap (λ d. charge s.quota d (words_at s.list place)) is

    -- a child that was seen to have ended has only one End
    ended_is_done : (child : ℕ) → HasEnded s m (fork_of o.top child) → (c e : ℕ) (place : ℕ) → deed_at s.list place ≡ joins child → deed_at s.list place ≡ joins c
        → e < length s.list → label_at s.list e ≡ fork_of o.top c → deed_at s.list e ≡ ends → 0 < done_at m e
    ended_is_done child has c e place deed joined e_in mine end =
        let same : child ≡ c = one_join child c (sym deed ∙ joined) in
        let labels : label_at s.list e ≡ label_at s.list has.0 = mine ∙ ap (fork_of o.top) (sym same) ∙ sym has.2 in
        let up : e ≤ has.0 = end_is_last s.quota s.list run e has.0 e_in has.1 labels has.3 in
        let down : has.0 ≤ e = end_is_last s.quota s.list run has.0 e has.1 e_in (sym labels) end in
        let here : e ≡ has.0 = omega arith in subst (λ t. 0 < done_at m t) (sym here) has.4
      where
        one_join : (a b : ℕ) → joins a ≡ joins b → a ≡ b
        one_join a b e = cc

    -- who suspends waits
    pub suspended : (place child : ℕ) → IsAtTop s m o.top place (joins child) → ¬ HasEnded s m (fork_of o.top child)
        → Waits s.list (done_at m) (record { thread = o.top; child = child })
    suspended place child at not_ended =
        let live : IsLive s.list (done_at m) o.top = subst (λ t. IsLive s.list (done_in t) o.top) (sym o.books_are) top_live in record {
          live = live;
          place = place;
          next = at.next;
          joins_it = at.deed_is;
          child_live = child_live_at_join s.quota s.list run (done_at m) lawful.first_actions o.top place child live at.next at.deed_is
              (λ e e_in mine end. elim (cases_lt 0 (done_at m e)) [ inl did ↦ absurd (not_ended (e, e_in, mine, end, did)) | inr none ↦ omega arith ]);
        }

  -- a thief's case
  idle_order : (deques : List Deque) (books : List Book) → booked books ≡ booked m.books → OrderOf s.list (done_at m) deques m.waiting → OrderOf s.list (done_in books) deques m.waiting
  idle_order deques books same ord = subst (λ t. OrderOf s.list (λ i. times i t) deques m.waiting) (sym same) ord

  at_end : (worker : ℕ) (o : Owns m worker) (place : ℕ) (owner : Option ℕ) → IsAtTop s m o.top place ends → LawfulBooks s.quota s.list (books_with o owner place)
  at_end worker o place owner at = books_keep worker o place owner at.next (no_join_ends worker o place ends at.deed_is end_is_no_join)
      (no_charge worker o place (charge_is worker o place ends at.deed_is)) (λ e. absurd (no_dummy_end (sym at.deed_is ∙ e)))

  pub kept_order : (worker : ℕ) (event : Event) (after : Moment) → May s m worker event after → LawfulOrder s.list after
  kept_order worker event after (steals_beside left right victim first others bottom id idle reach deques_are threads_are new_id) =
      idle_order (left ++ deque_of victim.id victim.owner (first ∷ others) ∷ deque_of id (Some worker) (bottom ∷ []) ∷ right) (m.books ++ new_book worker true ∷ [])
      (begun_same m.books (new_book worker true) refl)
      (deque_comes s.list (done_at m) left right victim first others bottom id worker m.waiting threads_are
      (subst (λ t. with_id id t ≡ 0) deques_are new_id) (subst (λ t. owned_by worker t ≡ 0) deques_are idle.owns_none)
      (subst (λ t. OrderOf s.list (done_at m) t m.waiting) deques_are order))
  kept_order worker event after (takes_over left right thread id idle reach deques_are) =
      idle_order (left ++ deque_of id (Some worker) (thread ∷ []) ∷ right) (m.books ++ new_book worker (nat_lt 0 (length left)) ∷ [])
      (begun_same m.books (new_book worker (nat_lt 0 (length left))) refl)
      (owner_comes s.list (done_at m) left right id worker (thread ∷ []) m.waiting (subst (λ t. owned_by worker t ≡ 0) deques_are idle.owns_none)
      (subst (λ t. OrderOf s.list (done_at m) t m.waiting) deques_are order))
  kept_order worker event after (forks_child o place child at fits) =
      order_fork s.quota s.list run (done_in (o.older ++ o.book ∷ o.newer)) (done_in (books_with o (Some worker) place)) place
      (λ i. done_more o.older o.newer o.book (Some worker) place i) (cut_lawful worker o).first_actions o.left o.right o.id worker m.waiting o.top (cut_next worker o place at.next)
      o.under child at.deed_is (cut_order worker o)
  kept_order worker event after (joins_child o place child at has) =
      plain_keeps_all worker o place (Some worker) at.next (λ c e. join_is_no_fork child c (sym at.deed_is ∙ e)) (λ e. join_is_no_end child (sym at.deed_is ∙ e))
  kept_order worker event after (allocates_within o place at small fits) =
      plain_keeps_all worker o place (Some worker) at.next (λ c e. own_alloc.no_fork c (sym at.deed_is ∙ e)) (λ e. own_alloc.no_end (sym at.deed_is ∙ e))
  kept_order worker event after (allocates_above o place at large) =
      plain_keeps_all worker o place (Some worker) at.next (λ c e. own_alloc.no_fork c (sym at.deed_is ∙ e)) (λ e. own_alloc.no_end (sym at.deed_is ∙ e))
  kept_order worker event after (releases_words o place at) =
      plain_keeps_all worker o place (Some worker) at.next (λ c e. own_release.no_fork c (sym at.deed_is ∙ e)) (λ e. own_release.no_end (sym at.deed_is ∙ e))
  kept_order worker event after (meets_fault o place at) =
      plain_keeps_all worker o place (Some worker) at.next (λ c e. own_fault.no_fork c (sym at.deed_is ∙ e)) (λ e. own_fault.no_end (sym at.deed_is ∙ e))
  kept_order worker event after (runs_dummy o place at) =
      owner_changes s.list (done_in (books_with o None place)) o.left o.right o.id (Some worker) (o.top ∷ o.under) m.waiting
      (plain_keeps worker o place None at.next (λ c e. own_dummy.no_fork c (sym at.deed_is ∙ e)) (λ e. own_dummy.no_end (sym at.deed_is ∙ e)))
  kept_order worker event after (ends_above_parent o place child parent below at under_is top_is) =
      subst (λ t. OrderOf s.list (done_in (books_with o (Some worker) place)) (o.left ++ deque_of o.id (Some worker) t ∷ o.right) m.waiting) (sym under_is)
      (order_end_above s.quota s.list run (done_in (o.older ++ o.book ∷ o.newer)) (done_in (books_with o (Some worker) place)) place
      (λ i. done_more o.older o.newer o.book (Some worker) place i) (cut_lawful worker o).first_actions o.left o.right o.id worker m.waiting o.top (cut_next worker o place at.next)
      at.deed_is child parent below top_is
      (subst (λ t. OrderOf s.list (done_in (o.older ++ o.book ∷ o.newer)) (o.left ++ deque_of o.id (Some worker) (o.top ∷ t) ∷ o.right) m.waiting) under_is (cut_order worker o)))
  kept_order worker event after (ends_and_wakes o place before later parent at under_is waiting_is top_is) =
      order_end_wakes s.quota s.list run (done_in (o.older ++ o.book ∷ o.newer)) (done_in (books_with o (Some worker) place)) place
      (λ i. done_more o.older o.newer o.book (Some worker) place i) (cut_lawful worker o).first_actions o.left o.right o.id worker m.waiting o.top (cut_next worker o place at.next)
      at.deed_is before later parent waiting_is top_is
      (subst (λ t. OrderOf s.list (done_in (o.older ++ o.book ∷ o.newer)) (o.left ++ deque_of o.id (Some worker) (o.top ∷ t) ∷ o.right) m.waiting) under_is (cut_order worker o))
  kept_order worker event after (ends_and_leaves o place at under_is unwaited) =
      order_end_leaves s.quota s.list run (done_in (o.older ++ o.book ∷ o.newer)) (done_in (books_with o None place)) place
      (λ i. done_more o.older o.newer o.book None place i) (cut_lawful worker o).first_actions o.left o.right o.id worker m.waiting o.top (cut_next worker o place at.next)
      at.deed_is unwaited
      (subst (λ t. OrderOf s.list (done_in (o.older ++ o.book ∷ o.newer)) (o.left ++ deque_of o.id (Some worker) (o.top ∷ t) ∷ o.right) m.waiting) under_is (cut_order worker o))
  kept_order worker event after (suspends_top o place child at not_ended under_is) =
      let cut : OrderOf s.list (done_in (books_closed o)) (o.left ++ deque_of o.id (Some worker) (o.top ∷ []) ∷ o.right) m.waiting =
      subst (λ t. OrderOf s.list (done_in (books_closed o)) (o.left ++ deque_of o.id (Some worker) (o.top ∷ t) ∷ o.right) m.waiting) under_is (closed_order worker o) in
      deque_suspends s.list (done_in (books_closed o)) o.left o.right o.id (Some worker) m.waiting (record { thread = o.top; child = child })
      (subst (λ t. Waits s.list (λ i. times i t) (record { thread = o.top; child = child })) (sym (closed_same o.older o.newer o.book None))
      (subst (λ t. Waits s.list (done_in t) (record { thread = o.top; child = child })) o.books_are (suspended worker o place child at not_ended)))
      cut
  kept_order worker event after (gives_deque_up o) =
      owner_changes s.list (done_in (books_closed o)) o.left o.right o.id (Some worker) (o.top ∷ o.under) m.waiting (closed_order worker o)

  -- and the books lawful
  pub kept_books : (worker : ℕ) (event : Event) (after : Moment) → May s m worker event after → LawfulBooks s.quota s.list after.books
  kept_books worker event after (steals_beside left right victim first others bottom id idle reach deques_are threads_are new_id) =
      beginning_keeps s.quota s.list m.books (new_book worker true) refl lawful
  kept_books worker event after (takes_over left right thread id idle reach deques_are) =
      beginning_keeps s.quota s.list m.books (new_book worker (nat_lt 0 (length left))) refl lawful
  kept_books worker event after (forks_child o place child at fits) =
      books_keep worker o place (Some worker) at.next (no_join_ends worker o place (forks child) at.deed_is (fork_is_no_join child))
      (let c = charge_is worker o place (forks child) at.deed_is in omega (arith, c, fits)) (λ e. absurd (no_dummy_fork child (sym at.deed_is ∙ e)))
  kept_books worker event after (joins_child o place child at has) =
      books_keep worker o place (Some worker) at.next (λ c e joined. ended_is_done worker o child has c e place at.deed_is joined)
      (no_charge worker o place (charge_is worker o place (joins child) at.deed_is)) (λ e. absurd (no_dummy_join child (sym at.deed_is ∙ e)))
  kept_books worker event after (allocates_within o place at small fits) =
      books_keep worker o place (Some worker) at.next (no_join_ends worker o place allocates at.deed_is own_alloc.no_join)
      (let c : charge_at s.quota s.list place ≡ words_at s.list place = charge_is worker o place allocates at.deed_is ∙ ap (λ b. cond b (words_at s.list place) 0) (le-leb (words_at s.list place) s.quota small) in
      omega (arith, c, fits)) (λ e. absurd (no_dummy_alloc (sym at.deed_is ∙ e)))
  kept_books worker event after (allocates_above o place at large) =
      books_keep worker o place (Some worker) at.next (no_join_ends worker o place allocates at.deed_is own_alloc.no_join)
      (no_charge worker o place (charge_is worker o place allocates at.deed_is ∙ ap (λ b. cond b (words_at s.list place) 0) (lt-leb (words_at s.list place) s.quota large)))
      (λ e. absurd (no_dummy_alloc (sym at.deed_is ∙ e)))
  kept_books worker event after (releases_words o place at) =
      books_keep worker o place (Some worker) at.next (no_join_ends worker o place releases at.deed_is own_release.no_join)
      (no_charge worker o place (charge_is worker o place releases at.deed_is)) (λ e. absurd (no_dummy_release (sym at.deed_is ∙ e)))
  kept_books worker event after (meets_fault o place at) =
      books_keep worker o place (Some worker) at.next (no_join_ends worker o place faults at.deed_is own_fault.no_join)
      (no_charge worker o place (charge_is worker o place faults at.deed_is)) (λ e. absurd (no_dummy_fault (sym at.deed_is ∙ e)))
  kept_books worker event after (runs_dummy o place at) =
      books_keep worker o place None at.next (no_join_ends worker o place dummy at.deed_is own_dummy.no_join)
      (no_charge worker o place (charge_is worker o place dummy at.deed_is)) (λ e. refl)
  kept_books worker event after (ends_above_parent o place child parent below at under_is top_is) = at_end worker o place (Some worker) at
  kept_books worker event after (ends_and_wakes o place before later parent at under_is waiting_is top_is) = at_end worker o place (Some worker) at
  kept_books worker event after (ends_and_leaves o place at under_is unwaited) = at_end worker o place None at
  kept_books worker event after (suspends_top o place child at not_ended under_is) = books_close worker o
  kept_books worker event after (gives_deque_up o) = books_close worker o
