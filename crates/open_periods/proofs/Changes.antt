-- What becomes of the books where a period begins, runs an action, or is closed.
use Rattle.std.proofs.Common.{◌≡◌, ℕ, zero, suc, ◌+◌, ◌<◌, ◌⊎◌, ◌≢◌, List, [], ◌∷◌, ◌++◌, length, inl, inr, refl, sym, ap, subst, ◌∙◌, arith, append-nil, append_assoc, true≢false}
use Rattle.std.specs.Prelude.{None}
use Rattle.std.proofs.lemmas.Option.{none-some}
use Rattle.dag_order.specs.declared.thread_id.ThreadId.{ThreadId}
use Rattle.dag_order.specs.declared.action_id.ActionId.{ActionId}
use Rattle.depth_first_list.specs.Actions.{Action}
use Rattle.depth_first_list.specs.Facts.{deed_at}
use Rattle.deque_machine.specs.Books.{Book, charged, charge_at, book_of}
use Rattle.deque_machine.proofs.Lists.{total_append}
use Rattle.open_periods.specs.Periods.{Period, InOrder, Replaces}
use Rattle.open_periods.specs.Names.{HasLabel, IsNamed, AreNamed, births_by, births_among}
use Rattle.open_periods.specs.Telling.{IsBook, AreBooks, Tell}
use Rattle.open_periods.specs.Laws.{NoneTell, EachHasItsBook, BeginningIsTold, RunningIsTold, ClosingIsTold}
use Rattle.open_periods.proofs.Sorting.{Place, place_of, cut_at, added, replaced}
use Rattle.open_periods.proofs.Labels.{labels_stay, labels_stay_at_a_beginning}

pub none_tell : (k : ℕ) (l : List Action) → NoneTell k l
none_tell k l = record { sorted = []; in_order = record { placed = tt; all = λ n p is. absurd (none-some p is) }; are_books = tt }

-- labels that stay keep names
Stay : List Period → List Period → Type 0
Stay periods next = (id : ThreadId) (label : List ℕ) → HasLabel periods id label → HasLabel next id label

named_still : (l : List Action) (periods next : List Period) (stay : Stay periods next) (id : ActionId) (place : ℕ) → IsNamed l periods id place → IsNamed l next id place
unfolding Stay
named_still l periods next stay id place is = record { inside = is.inside; by = stay id.by _ is.by; index = is.index }

all_named_still : (l : List Action) (periods next : List Period) (stay : Stay periods next) (ids : List ActionId) (places : List ℕ) → AreNamed l periods ids places → AreNamed l next ids places
all_named_still l periods next stay [] [] are = tt
all_named_still l periods next stay [] (place ∷ places) are = are
all_named_still l periods next stay (id ∷ ids) [] are = are
all_named_still l periods next stay (id ∷ ids) (place ∷ places) are =
    (named_still l periods next stay id place are.0, all_named_still l periods next stay ids places are.1)

one_named_more : (l : List Action) (periods : List Period) (ids : List ActionId) (places : List ℕ) (id : ActionId) (place : ℕ) → AreNamed l periods ids places → IsNamed l periods id place
    → AreNamed l periods (ids ++ id ∷ []) (places ++ place ∷ [])
one_named_more l periods [] [] id place are is = (is, tt)
one_named_more l periods [] (p ∷ places) id place are is = absurd are
one_named_more l periods (i ∷ ids) [] id place are is = absurd are
one_named_more l periods (i ∷ ids) (p ∷ places) id place are is = (are.0, one_named_more l periods ids places id place are.1 is)

-- an action more has its birth after the others
births_more : (l : List Action) (periods : List Period) (ids : List ActionId) (places : List ℕ) (id : ActionId) (place : ℕ) → AreNamed l periods ids places
    → births_among l (ids ++ id ∷ []) (places ++ place ∷ []) ≡ births_among l ids places ++ births_by id.by (deed_at l place)
births_more l periods [] [] id place are = append-nil (births_by id.by (deed_at l place))
births_more l periods [] (p ∷ places) id place are = absurd are
births_more l periods (i ∷ ids) [] id place are = absurd are
births_more l periods (i ∷ ids) (p ∷ places) id place are =
    ap (λ t. births_by i.by (deed_at l p) ++ t) (births_more l periods ids places id place are.1)
    ∙ sym (append_assoc (births_by i.by (deed_at l p)) (births_among l ids places) (births_by id.by (deed_at l place)))

book_still : (k : ℕ) (l : List Action) (periods next : List Period) (stay : Stay periods next) (p : Period) (book : Book) → IsBook k l periods p book → IsBook k l next p book
book_still k l periods next stay p book is = record {
  ahead = is.ahead;
  owner = is.owner;
  ran = all_named_still l periods next stay p.ran book.ran is.ran;
  born = is.born;
  used = is.used;
}

books_still : (k : ℕ) (l : List Action) (periods next : List Period) (stay : Stay periods next) (ps : List Period) (books : List Book) → AreBooks k l periods ps books → AreBooks k l next ps books
books_still k l periods next stay [] [] are = tt
books_still k l periods next stay [] (book ∷ books) are = are
books_still k l periods next stay (p ∷ ps) [] are = are
books_still k l periods next stay (p ∷ ps) (book ∷ books) are =
    (book_still k l periods next stay p book are.0, books_still k l periods next stay ps books are.1)

as_many : (k : ℕ) (l : List Action) (periods ps : List Period) (books : List Book) → AreBooks k l periods ps books → length ps ≡ length books
as_many k l periods [] [] are = refl
as_many k l periods [] (book ∷ books) are = absurd are
as_many k l periods (p ∷ ps) [] are = absurd are
as_many k l periods (p ∷ ps) (book ∷ books) are = ap suc (as_many k l periods ps books are.1)

-- the book of a period in the middle
cut_of : (k : ℕ) (l : List Action) (periods left : List Period) (p : Period) (right : List Period) (books : List Book) → AreBooks k l periods (left ++ p ∷ right) books
    → (older : List Book) × (book : Book) × (newer : List Book) × (books ≡ older ++ book ∷ newer) × (length older ≡ length left) × IsBook k l periods p book
cut_of k l periods [] p right [] are = absurd are
cut_of k l periods [] p right (book ∷ books) are = ([], book, books, refl, refl, are.0)
cut_of k l periods (q ∷ left) p right [] are = absurd are
cut_of k l periods (q ∷ left) p right (book ∷ books) are =
    let rest = cut_of k l periods left p right books are.1 in (book ∷ rest.0, rest.1, rest.2, ap (λ t. book ∷ t) rest.3, ap suc rest.4, rest.5)

pub each_has_its_book : (k : ℕ) (l : List Action) → EachHasItsBook k l
unfolding Place
each_has_its_book k l periods books p t there =
    let known = place_of t.in_order p there in let cut = cut_at t.sorted known.0 p known.2 in
    let found = cut_of k l periods cut.0 p cut.1 books (subst (λ ps. AreBooks k l periods ps books) cut.2 t.are_books) in
    record {
      older = found.0;
      book = found.1;
      newer = found.2;
      books_are = found.3;
      numbered = known.1 ∙ ap suc (sym cut.3) ∙ ap suc (sym found.4);
      is_book = found.5;
    }

-- a book behind the others
one_book_more : (k : ℕ) (l : List Action) (periods ps : List Period) (books : List Book) (p : Period) (book : Book) → AreBooks k l periods ps books → IsBook k l periods p book
    → AreBooks k l periods (ps ++ p ∷ []) (books ++ book ∷ [])
one_book_more k l periods [] [] p book are is = (is, tt)
one_book_more k l periods [] (b ∷ books) p book are is = absurd are
one_book_more k l periods (q ∷ ps) [] p book are is = absurd are
one_book_more k l periods (q ∷ ps) (b ∷ books) p book are is = (are.0, one_book_more k l periods ps books p book are.1 is)

pub beginning_is_told : (k : ℕ) (l : List Action) → BeginningIsTold k l
unfolding Stay
beginning_is_told k l periods next books new t adds number empty none_born unused =
    let stay : Stay periods next = λ id label has. labels_stay_at_a_beginning periods next new id label adds has in
    let many : length t.sorted ≡ length books = as_many k l periods t.sorted books t.are_books in
    record {
      sorted = t.sorted ++ new ∷ [];
      in_order = added periods next t.sorted new t.in_order adds (number ∙ ap suc (sym many));
      are_books = one_book_more k l next t.sorted books new _ (books_still k l periods next stay t.sorted books t.are_books) (record {
        ahead = refl;
        owner = refl;
        ran = subst (λ ids. AreNamed l next ids []) (sym empty) tt;
        born = none_born ∙ sym (ap (λ ids. births_among l ids []) empty);
        used = λ worker owner. unused;
      });
    }

-- another book in the place of that of a period
changed_book : (k : ℕ) (l : List Action) (periods left right : List Period) (old new : Period) (older newer : List Book) (book after : Book) → length older ≡ length left
    → AreBooks k l periods (left ++ old ∷ right) (older ++ book ∷ newer) → IsBook k l periods new after
    → AreBooks k l periods (left ++ new ∷ right) (older ++ after ∷ newer)
changed_book k l periods [] right old new [] newer book after many are is = (is, are.1)
changed_book k l periods [] right old new (b ∷ older) newer book after many are is = absurd (omega (arith, many))
changed_book k l periods (q ∷ left) right old new [] newer book after many are is = absurd (omega (arith, many))
changed_book k l periods (q ∷ left) right old new (b ∷ older) newer book after many are is =
    (are.0, changed_book k l periods left right old new older newer book after (omega (arith, many)) are.1 is)

-- and the book that stood there
old_book : (k : ℕ) (l : List Action) (periods left right : List Period) (old : Period) (older newer : List Book) (book : Book) → length older ≡ length left
    → AreBooks k l periods (left ++ old ∷ right) (older ++ book ∷ newer) → IsBook k l periods old book
old_book k l periods [] right old [] newer book many are = are.0
old_book k l periods [] right old (b ∷ older) newer book many are = absurd (omega (arith, many))
old_book k l periods (q ∷ left) right old [] newer book many are = absurd (omega (arith, many))
old_book k l periods (q ∷ left) right old (b ∷ older) newer book many are = old_book k l periods left right old older newer book (omega (arith, many)) are.1

-- the books, where the one of a changed period is another one
told_changed : (k : ℕ) (l : List Action) (periods next : List Period) (older newer : List Book) (book after : Book) (old new : Period)
    → Tell k l periods (older ++ book ∷ newer) → Replaces periods old new next → old.number ≡ suc (length older) → Stay periods next
    → (IsBook k l periods old book → IsBook k l next new after)
    → Tell k l next (older ++ after ∷ newer)
unfolding Place
told_changed k l periods next older newer book after old new t change number stay becomes =
    let known = place_of t.in_order old change.was_there in let cut = cut_at t.sorted known.0 old known.2 in
    let many : length older ≡ length cut.0 = let a = known.1 in let b = cut.3 in omega (arith, number, a, b) in
    let are : AreBooks k l periods (cut.0 ++ old ∷ cut.1) (older ++ book ∷ newer) = subst (λ ps. AreBooks k l periods ps (older ++ book ∷ newer)) cut.2 t.are_books in
    record {
      sorted = cut.0 ++ new ∷ cut.1;
      in_order = replaced periods next cut.0 cut.1 old new (subst (λ ps. InOrder periods ps) cut.2 t.in_order) change (known.1 ∙ ap suc (sym cut.3));
      are_books = changed_book k l next cut.0 cut.1 old new older newer book after many
          (books_still k l periods next stay (cut.0 ++ old ∷ cut.1) (older ++ book ∷ newer) are)
          (becomes (old_book k l periods cut.0 cut.1 old older newer book many are));
    }

pub running_is_told : (k : ℕ) (l : List Action) → RunningIsTold k l
unfolding Stay
running_is_told k l periods next older newer book old new id place t change number runs =
    let stay : Stay periods next = λ i label has. labels_stay k l periods next (older ++ book ∷ newer) old new (births_by id.by (deed_at l place)) i label t change runs.births has in
    told_changed k l periods next older newer book (book_of book new.owner (book.ran ++ place ∷ [])) old new t change number stay (λ was. record {
      ahead = was.ahead ∙ sym runs.same_ahead;
      owner = refl;
      ran = subst (λ ids. AreNamed l next ids (book.ran ++ place ∷ [])) (sym runs.ran)
          (one_named_more l next old.ran book.ran id place (all_named_still l periods next stay old.ran book.ran was.ran) (named_still l periods next stay id place runs.named));
      born = runs.births ∙ ap (λ births. births ++ births_by id.by (deed_at l place)) was.born
          ∙ sym (births_more l periods old.ran book.ran id place was.ran) ∙ sym (ap (λ ids. births_among l ids (book.ran ++ place ∷ [])) runs.ran);
      used = λ worker owner. runs.used worker owner ∙ ap (λ n. n + charge_at k l place) (was.used runs.was_open.0 runs.was_open.1)
          ∙ sym (charged_more book.ran);
    })
  where
    charged_more : (ran : List ℕ) → charged k l (ran ++ place ∷ []) ≡ charged k l ran + charge_at k l place
    charged_more ran = let more = total_append (charge_at k l) ran (place ∷ []) in omega (arith, more)

pub closing_is_told : (k : ℕ) (l : List Action) → ClosingIsTold k l
unfolding Stay
closing_is_told k l periods next older newer book old new t change number closes =
    let born : new.born ≡ old.born ++ [] = closes.same_born ∙ sym (append-nil old.born) in
    let stay : Stay periods next = λ i label has. labels_stay k l periods next (older ++ book ∷ newer) old new [] i label t change born has in
    told_changed k l periods next older newer book (book_of book None book.ran) old new t change number stay (λ was. record {
      ahead = was.ahead ∙ sym closes.same_ahead;
      owner = sym closes.is_closed;
      ran = subst (λ ids. AreNamed l next ids book.ran) (sym closes.same_ran) (all_named_still l periods next stay old.ran book.ran was.ran);
      born = closes.same_born ∙ was.born ∙ sym (ap (λ ids. births_among l ids book.ran) closes.same_ran);
      used = λ worker owner. absurd (none-some worker (sym closes.is_closed ∙ owner));
    })
