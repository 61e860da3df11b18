-- An event of a worker leaves the deques and the books of all others as they are.
use Rattle.std.proofs.Common.{◌≡◌, ◌≢◌, ℕ, List, [], ◌∷◌, ◌++◌, length, refl, sym, ap, subst, ◌∙◌, arith, true≢false, Bool, nat_lt, true}
use Rattle.std.specs.Prelude.{Option, None, Some, is_some}
use Rattle.deque_machine.specs.Lists.{Each}
use Rattle.deque_machine.specs.Books.{Book, book_of, one_more}
use Rattle.deque_machine.proofs.Lists.{each_change, each_without, each_join, each_left, each_right, total_append, one_other}
use Rattle.deque_machine.specs.Moments.{Deque, Moment, deque_of, owned_by, one_if_owned}
use Rattle.deque_machine.specs.Machine.{Setting, Event, Owns, new_book, May, steals_beside, takes_over, forks_child, joins_child, allocates_within, allocates_above, releases_words, meets_fault, runs_dummy, ends_above_parent, ends_and_wakes, ends_and_leaves, suspends_top, gives_deque_up}
use Rattle.deque_machine.proofs.Counts.{same_worker}
use Rattle.trail_check.specs.declared.seat.Seat.{Seat}
use Rattle.trail_check.specs.Places.{HasId, HasUsed, SeatIs}

none_is_no_worker : (v : ℕ) → ¬ (None ≡ Some v)
none_is_no_worker v is = true≢false (sym (ap is_some is))

module _ (s : Setting) (worker v : ℕ) (other : v ≢ worker) where
  -- whoever the worker's deques and books are, they are not the other's
  not_others : Some worker ≡ Some v → ⊥
  not_others is = other (sym (same_worker worker v is))

  mine_counts : (id : ℕ) (threads : List (List ℕ)) → one_if_owned v (deque_of id (Some worker) threads) ≡ 0
  mine_counts id threads = one_other v worker other

  -- what the other has of some deques, it has of others
  record DequesKeep (ds es : List Deque) : Type 0 where
    pub counts : owned_by v es ≡ owned_by v ds
    pub ids : (id : ℕ) → Each (HasId v id) ds → Each (HasId v id) es

  same_deques : (ds : List Deque) → DequesKeep ds ds
  same_deques ds = record { counts = refl; ids = λ id each. each }

  cut_first : (xs ds es : List Deque) → xs ≡ ds → DequesKeep ds es → DequesKeep xs es
  cut_first xs ds es are keeps = subst (λ t. DequesKeep t es) (sym are) keeps

  one_changed : (left right : List Deque) (d e : Deque) → one_if_owned v e ≡ one_if_owned v d → ((id : ℕ) → HasId v id d → HasId v id e)
      → DequesKeep (left ++ d ∷ right) (left ++ e ∷ right)
  one_changed left right d e count id_kept = record {
    counts = let a = total_append (one_if_owned v) left (d ∷ right) in let b = total_append (one_if_owned v) left (e ∷ right) in omega (arith, a, b, count);
    ids = λ id each. each_change (HasId v id) left d e right each (id_kept id (each_middle id left right each));
  }
    where
      each_middle : (id : ℕ) (left right : List Deque) → Each (HasId v id) (left ++ d ∷ right) → HasId v id d
      each_middle id left right each = (each_right (HasId v id) left (d ∷ right) each).0

  one_gone : (left right : List Deque) (d : Deque) → one_if_owned v d ≡ 0 → DequesKeep (left ++ d ∷ right) (left ++ right)
  one_gone left right d count = record {
    counts = let a = total_append (one_if_owned v) left (d ∷ right) in let b = total_append (one_if_owned v) left right in omega (arith, a, b, count);
    ids = λ id each. each_without (HasId v id) left d right each;
  }

  one_beside : (left right : List Deque) (d e new : Deque) → one_if_owned v e ≡ one_if_owned v d → ((id : ℕ) → HasId v id d → HasId v id e)
      → one_if_owned v new ≡ 0 → ((id : ℕ) → HasId v id new) → DequesKeep (left ++ d ∷ right) (left ++ e ∷ new ∷ right)
  one_beside left right d e new count id_kept none new_id = record {
    counts = let a = total_append (one_if_owned v) left (d ∷ right) in let b = total_append (one_if_owned v) left (e ∷ new ∷ right) in omega (arith, a, b, count, none);
    ids = λ id each. let rest = each_right (HasId v id) left (d ∷ right) each in
        each_join (HasId v id) left (e ∷ new ∷ right) (each_left (HasId v id) left (d ∷ right) each) (id_kept id rest.0, (new_id id, rest.1));
  }

  -- and so of books
  BooksKeep : List Book → List Book → Type 0
  BooksKeep bs cs = (used : ℕ) → Each (HasUsed s v used) bs → Each (HasUsed s v used) cs

  book_changed : (xs older newer : List Book) (book next : Book) → xs ≡ older ++ book ∷ newer → ¬ (next.owner ≡ Some v) → BooksKeep xs (older ++ next ∷ newer)
  unfolding BooksKeep
  book_changed xs older newer book next are apart =
      λ used each. each_change (HasUsed s v used) older book next newer (subst (λ t. Each (HasUsed s v used) t) are each) (λ is. absurd (apart is))

  book_begun : (xs : List Book) (ahead : Bool) → BooksKeep xs (xs ++ new_book worker ahead ∷ [])
  unfolding BooksKeep
  book_begun xs ahead = λ used each. each_join (HasUsed s v used) xs (new_book worker ahead ∷ []) each ((λ is. absurd (not_others is)), tt)

  seat_keeps : (m after : Moment) → DequesKeep m.deques after.deques → BooksKeep m.books after.books → (seat : Option Seat) → SeatIs s m v seat → SeatIs s after v seat
  unfolding BooksKeep
  seat_keeps m after deques books None is = deques.counts ∙ is
  seat_keeps m after deques books (Some seat) is = record {
    owns_one = deques.counts ∙ is.owns_one;
    deque = deques.ids seat.deque.0 is.deque;
    used = books seat.used is.used;
  }

  module _ (m : Moment) where
    -- the worker's deque has other threads, or no owner
    stays : (o : Owns m worker) (threads : List (List ℕ)) → DequesKeep m.deques (o.left ++ deque_of o.id (Some worker) threads ∷ o.right)
    stays o threads =
        cut_first m.deques (o.left ++ deque_of o.id (Some worker) (o.top ∷ o.under) ∷ o.right) (o.left ++ deque_of o.id (Some worker) threads ∷ o.right) o.deques_are
        (one_changed o.left o.right (deque_of o.id (Some worker) (o.top ∷ o.under)) (deque_of o.id (Some worker) threads) refl (λ id had is. absurd (not_others is)))

    unowned : (o : Owns m worker) (threads : List (List ℕ)) → DequesKeep m.deques (o.left ++ deque_of o.id None threads ∷ o.right)
    unowned o threads =
        cut_first m.deques (o.left ++ deque_of o.id (Some worker) (o.top ∷ o.under) ∷ o.right) (o.left ++ deque_of o.id None threads ∷ o.right) o.deques_are
        (one_changed o.left o.right (deque_of o.id (Some worker) (o.top ∷ o.under)) (deque_of o.id None threads) (sym (mine_counts o.id (o.top ∷ o.under)))
        (λ id had is. absurd (none_is_no_worker v is)))

    gone : (o : Owns m worker) → DequesKeep m.deques (o.left ++ o.right)
    gone o =
        cut_first m.deques (o.left ++ deque_of o.id (Some worker) (o.top ∷ o.under) ∷ o.right) (o.left ++ o.right) o.deques_are
        (one_gone o.left o.right (deque_of o.id (Some worker) (o.top ∷ o.under)) (mine_counts o.id (o.top ∷ o.under)))

    booked_on : (o : Owns m worker) (place : ℕ) → BooksKeep m.books (one_more o.older o.book o.newer (Some worker) place)
    booked_on o place = book_changed m.books o.older o.newer o.book (book_of o.book (Some worker) (o.book.ran ++ place ∷ [])) o.books_are not_others

    booked_last : (o : Owns m worker) (place : ℕ) → BooksKeep m.books (one_more o.older o.book o.newer None place)
    booked_last o place = book_changed m.books o.older o.newer o.book (book_of o.book None (o.book.ran ++ place ∷ [])) o.books_are (none_is_no_worker v)

    closed : (o : Owns m worker) → BooksKeep m.books (o.older ++ book_of o.book None o.book.ran ∷ o.newer)
    closed o = book_changed m.books o.older o.newer o.book (book_of o.book None o.book.ran) o.books_are (none_is_no_worker v)

    pub others : (event : Event) (after : Moment) → May s m worker event after → (seat : Option Seat) → SeatIs s m v seat → SeatIs s after v seat
    others event after (steals_beside left right victim first more bottom id idle near deques_are threads_are new_id) =
        seat_keeps m after
        (cut_first m.deques (left ++ victim ∷ right) (left ++ deque_of victim.id victim.owner (first ∷ more) ∷ deque_of id (Some worker) (bottom ∷ []) ∷ right) deques_are
        (one_beside left right victim (deque_of victim.id victim.owner (first ∷ more)) (deque_of id (Some worker) (bottom ∷ [])) refl (λ i had. had)
        (mine_counts id (bottom ∷ [])) (λ i is. absurd (not_others is))))
        (book_begun m.books true)
    others event after (takes_over left right thread id idle near deques_are) =
        seat_keeps m after
        (cut_first m.deques (left ++ deque_of id None (thread ∷ []) ∷ right) (left ++ deque_of id (Some worker) (thread ∷ []) ∷ right) deques_are
        (one_changed left right (deque_of id None (thread ∷ [])) (deque_of id (Some worker) (thread ∷ [])) (mine_counts id (thread ∷ [])) (λ i had is. absurd (not_others is))))
        (book_begun m.books (nat_lt 0 (length left)))
    others event after (forks_child o place child at fits) = seat_keeps m after (stays o _) (booked_on o place)
    others event after (joins_child o place child at has) = seat_keeps m after (same_deques m.deques) (booked_on o place)
    others event after (allocates_within o place at small fits) = seat_keeps m after (same_deques m.deques) (booked_on o place)
    others event after (allocates_above o place at large) = seat_keeps m after (same_deques m.deques) (booked_on o place)
    others event after (releases_words o place at) = seat_keeps m after (same_deques m.deques) (booked_on o place)
    others event after (meets_fault o place at) = seat_keeps m after (same_deques m.deques) (booked_on o place)
    others event after (runs_dummy o place at) = seat_keeps m after (unowned o (o.top ∷ o.under)) (booked_last o place)
    others event after (ends_above_parent o place child parent below at under_is top_is) = seat_keeps m after (stays o o.under) (booked_on o place)
    others event after (ends_and_wakes o place before later parent at under_is waiting_is top_is) =
        seat_keeps m after (stays o (parent.thread ∷ [])) (booked_on o place)
    others event after (ends_and_leaves o place at under_is unwaited) = seat_keeps m after (gone o) (booked_last o place)
    others event after (suspends_top o place child at none under_is) = seat_keeps m after (gone o) (closed o)
    others event after (gives_deque_up o) = seat_keeps m after (unowned o (o.top ∷ o.under)) (closed o)
