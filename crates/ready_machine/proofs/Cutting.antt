-- A deque of two threads that is cut in two, the lower one without an owner, keeps a moment lawful.
use Rattle.std.proofs.Common.{◌≡◌, ℕ, List, [], ◌∷◌, ◌++◌, inl, inr, refl, sym, ap, subst, ◌∙◌, arith, append_assoc, false}
use Rattle.std.proofs.lemmas.Bool.{cases_lt}
use Rattle.std.proofs.lemmas.Option.{none-some}
use Rattle.std.specs.Prelude.{None, Some}
use Rattle.depth_first_list.specs.Actions.{Action}
use Rattle.deque_machine.specs.Lists.{Each}
use Rattle.deque_machine.specs.Books.{Book}
use Rattle.deque_machine.proofs.Lists.{total_append, each_map, each_at, each_join, each_left, each_right}
use Rattle.deque_machine.specs.Moments.{Deque, Waiting, Moment, moment_of, deque_of, done_at, owned_by, with_id, one_if_owned}
use Rattle.deque_machine.specs.Machine.{Setting}
use Rattle.deque_machine.specs.LawfulOrder.{OrderOf, IsRootOrBorn, OwnedBorn, OwnsFirst, IsLawful}
use Rattle.deque_machine.proofs.Order.{owner_changes, deque_comes}
use Rattle.ready_machine.specs.Entries.{entry}

-- the deques before and after the cut
abbrev pub joined : (left right : List Deque) (id worker : ℕ) (upper lower : List ℕ) → List Deque
joined left right id worker upper lower = left ++ deque_of id (Some worker) (upper ∷ lower ∷ []) ∷ right

abbrev pub parted : (left right : List Deque) (id worker new : ℕ) (upper lower : List ℕ) → List Deque
parted left right id worker new upper lower = left ++ entry id (Some worker) upper ∷ entry new None lower ∷ right

module _ (left right : List Deque) (id worker new : ℕ) (upper lower : List ℕ) where
  -- each worker owns as many
  owned_as_before : (w : ℕ) → owned_by w (parted left right id worker new upper lower) ≡ owned_by w
      (joined left right id worker upper lower)
  owned_as_before w =
      let before = total_append (one_if_owned w) left (deque_of id (Some worker) (upper ∷ lower ∷ []) ∷ right) in
      let after = total_append (one_if_owned w) left (entry id (Some worker) upper ∷ entry new None lower ∷ right) in omega
      (arith, before, after)

  -- the order is that after a steal of the lower thread by a worker that then gives it up
  parted_order : (l : List Action) (done : ℕ → ℕ) (waiting : List Waiting) (other : ℕ)
      → with_id new (joined left right id worker upper lower) ≡ 0
      → owned_by other (joined left right id worker upper lower) ≡ 0 → OrderOf l done (joined left right id worker upper lower) waiting
      → OrderOf l done (parted left right id worker new upper lower) waiting
  parted_order l done waiting other free idle order =
      let stolen : OrderOf l done (left ++ entry id (Some worker) upper ∷ entry new (Some other) lower ∷ right) waiting =
      deque_comes l done left right (deque_of id (Some worker)
      (upper ∷ lower ∷ [])) upper [] lower new other waiting refl free idle order in
      subst (λ t. OrderOf l done t waiting) (append_assoc left (entry id (Some worker) upper ∷ []) (entry new None lower ∷ right))
      (owner_changes l done (left ++ entry id (Some worker) upper ∷ []) right new (Some other) (lower ∷ []) waiting
      (subst (λ t. OrderOf l done t waiting)
      (sym (append_assoc left (entry id (Some worker) upper ∷ []) (entry new (Some other) lower ∷ right))) stolen))

  -- what is said of the threads of each worker's deque
  of_the_parts : (w : ℕ) (P : List ℕ → Type 0)
      → Each (λ d. d.owner ≡ Some w → Each P d.threads) (joined left right id worker upper lower)
      → Each (λ d. d.owner ≡ Some w → Each P d.threads) (parted left right id worker new upper lower)
  of_the_parts w P all =
      let O : Deque → Type 0 = λ d. d.owner ≡ Some w → Each P d.threads in
      let both : Deque = deque_of id (Some worker) (upper ∷ lower ∷ []) in
      each_join O left (entry id (Some worker) upper ∷ entry new None lower ∷ right) (each_left O left (both ∷ right) all) (
        (λ owned. ((each_at O left both right all owned).0, tt)),
        ((λ owned. absurd (none-some w owned)), (each_right O left (both ∷ right) all).1),
      )

  parted_born : (l : List Action) (before : List ℕ) (books : List Book) → OwnedBorn l (joined left right id worker upper lower) before books
      → OwnedBorn l (parted left right id worker new upper lower) before books
  parted_born l before [] born = tt
  parted_born l before (book ∷ newer) born = (
    (λ w owned. of_the_parts w (IsRootOrBorn l (before ++ book.ran)) (born.0 w owned)),
    parted_born l (before ++ book.ran) newer born.1,
  )

owns_first : (left right : List Deque) (id worker new w : ℕ) (upper lower : List ℕ) → OwnsFirst w (joined left right id worker upper lower)
    → OwnsFirst w (parted left right id worker new upper lower)
owns_first [] right id worker new w upper lower first = first
owns_first (d ∷ left) right id worker new w upper lower first = first

-- a worker that owns nothing
nobody : (s : Setting) (m : Moment) → IsLawful s m → owned_by s.workers m.deques ≡ 0
nobody s m lawful = elim (cases_lt 0 (owned_by s.workers m.deques)) [
  | inl some ↦ let below = lawful.owners_below s.workers some in absurd (omega (arith, below))
  | inr none ↦ omega (arith, none)
]

pub parted_is_lawful : (s : Setting) (m : Moment) (left right : List Deque) (id worker new : ℕ) (upper lower : List ℕ)
    → m.deques ≡ joined left right id worker upper lower → with_id new m.deques ≡ 0 → IsLawful s m
    → IsLawful s (moment_of (parted left right id worker new upper lower) m.waiting m.books)
parted_is_lawful s m left right id worker new upper lower are free lawful =
    let same : (w : ℕ) → owned_by w (parted left right id worker new upper lower) ≡ owned_by w m.deques =
    λ w. owned_as_before left right id worker new upper lower w ∙ ap (owned_by w) (sym are) in
    record {
      order = parted_order left right id worker new upper lower s.list (done_at m) m.waiting s.workers (subst (λ t. with_id new t
          ≡ 0) are free)
          (subst (λ t. owned_by s.workers t ≡ 0) are (nobody s m lawful)) (subst (λ t. OrderOf s.list
          (done_at m) t m.waiting) are lawful.order);
      periods = record {
        lawful = (lawful.periods).lawful;
        one_each = λ w. (lawful.periods).one_each w ∙ sym (same w);
        births = record {
          parents_first = ((lawful.periods).births).parents_first;
          owned_born = parted_born left right id worker new upper lower s.list [] m.books
              (subst (λ t. OwnedBorn s.list t [] m.books) are ((lawful.periods).births).owned_born);
        };
      };
      begun = record {
        ahead_marked = (lawful.begun).ahead_marked;
        unmarked_first = λ w. each_map (λ book. book.owner ≡ Some w → book.ahead ≡ false → OwnsFirst w m.deques)
            (λ book. book.owner ≡ Some w → book.ahead ≡ false → OwnsFirst w (parted left right id worker new upper lower)) m.books
            (λ book there first owned unmarked. owns_first left right id worker new w upper lower
            (subst (λ t. OwnsFirst w t) are (first owned unmarked))) ((lawful.begun).unmarked_first w);
      };
      owners_below = λ w some. lawful.owners_below w (let e = same w in omega (arith, e, some));
    }
