-- What a worker's seat says of its deque and its book, and the other way round.
use Rattle.std.proofs.Common.{◌≡◌, ◌≢◌, ℕ, List, [], ◌∷◌, ◌++◌, map, refl, sym, ap, subst, ◌∙◌, arith}
use Rattle.std.specs.Prelude.{None, Some}
use Rattle.std.proofs.lemmas.List.{map-append}
use Rattle.depth_first_list.specs.Actions.{Action}
use Rattle.depth_first_list.specs.Facts.{label_at}
use Rattle.deque_machine.specs.Lists.{Each, one_if_same}
use Rattle.deque_machine.specs.Books.{Book, charged}
use Rattle.deque_machine.proofs.Lists.{each_at, each_map, each_join, total_append, one_same}
use Rattle.deque_list.specs.declared.deque_id.DequeId.{DequeId}
use Rattle.deque_list.specs.Deques.{Deque}
use Rattle.deque_machine.specs.Moments as machine
use Rattle.deque_machine.specs.Moments.{Moment, deque_of, owned_by, open_for, one_if_owned, one_if_worker}
use Rattle.deque_machine.specs.Machine.{Setting, Owns}
use Rattle.deque_machine.specs.LawfulOrder.{IsLawful}
use Rattle.deque_machine.proofs.Counts.{no_other_open}
use Rattle.deque_machine.proofs.Movers.{cut_owned, cut_open}
use Rattle.trail_check.specs.declared.seat.Seat.{Seat}
use Rattle.trail_check.specs.Holds.{deque_with}
use Rattle.trail_check.specs.Hands.{Hand}
use Rattle.trail_check.specs.Places.{deque_shown, HasId, HasUsed, Sits}
use Rattle.trail_check.proofs.CutLists.{map_cut}

-- the worker's own deque counts
one_is_mine : (worker id : ℕ) (threads : List (List ℕ)) → one_if_owned worker (deque_of id (Some worker) threads) ≡ 1
one_is_mine worker id threads = one_same worker worker refl

-- who owns none of some deques
none_mine : (worker id : ℕ) (ds : List machine.Deque) → owned_by worker ds ≡ 0 → Each (HasId worker id) ds
none_mine worker id [] none = tt
none_mine worker id (d ∷ ds) none = (
  λ is. let one : one_if_owned worker d ≡ one_if_same worker worker = ap (one_if_worker worker) is in let o = one_same worker worker refl in absurd (omega (arith, one, o, none)),
  none_mine worker id ds (omega arith),
)

-- how many deques a worker owns of those beside its own
pub none_beside : (s : Setting) (m : Moment) (worker : ℕ) → IsLawful s m → (o : Owns m worker)
    → (owned_by worker o.left ≡ 0) × (owned_by worker o.right ≡ 0) × (owned_by worker m.deques ≡ 1)
none_beside s m worker lawful o =
    let most = (lawful.order).owns_one worker in
    let cut : owned_by worker m.deques ≡ owned_by worker (o.left ++ deque_of o.id (Some worker) (o.top ∷ o.under) ∷ o.right) = ap (owned_by worker) o.deques_are in
    let sum = total_append (one_if_owned worker) o.left (deque_of o.id (Some worker) (o.top ∷ o.under) ∷ o.right) in
    let one = one_is_mine worker o.id (o.top ∷ o.under) in
    (omega (arith, most, cut, sum, one), omega (arith, most, cut, sum, one), omega (arith, most, cut, sum, one))

-- who owns a deque sits at it
pub sits_of : (s : Setting) (m : Moment) (worker : ℕ) → IsLawful s m → (o : Owns m worker) (seat : Seat) → o.id ≡ seat.deque.0
    → charged s.quota s.list o.book.ran ≡ seat.used → Sits s m worker seat
sits_of s m worker lawful o seat id used =
    let beside = none_beside s m worker lawful o in
    let each = (lawful.periods).one_each worker in
    let apart = no_other_open worker o.older o.newer o.book o.open_for_it
    (let books : open_for worker m.books ≡ open_for worker (o.older ++ o.book ∷ o.newer) = ap (open_for worker) o.books_are in
    let one = beside.2 in omega (arith, each, books, one)) in record {
      owns_one = beside.2;
      deque = subst (λ ds. Each (HasId worker seat.deque.0) ds) (sym o.deques_are)
          (each_join (HasId worker seat.deque.0) o.left (deque_of o.id (Some worker) (o.top ∷ o.under) ∷ o.right) (none_mine worker seat.deque.0 o.left beside.0)
          (λ mine. id, none_mine worker seat.deque.0 o.right beside.1));
      used = subst (λ bs. Each (HasUsed s worker seat.used) bs) (sym o.books_are)
          (each_join (HasUsed s worker seat.used) o.older (o.book ∷ o.newer)
          (each_map (λ b. b.owner ≢ Some worker) (HasUsed s worker seat.used) o.older (λ b among other is. absurd (other is)) apart.0)
          (λ mine. used, each_map (λ b. b.owner ≢ Some worker) (HasUsed s worker seat.used) o.newer (λ b among other is. absurd (other is)) apart.1));
    }

-- a worker whose deque has no owner from now on, or left the list, owns none
pub left_unowned : (s : Setting) (m : Moment) (worker : ℕ) → IsLawful s m → (o : Owns m worker) (threads : List (List ℕ))
    → owned_by worker (o.left ++ deque_of o.id None threads ∷ o.right) ≡ 0
left_unowned s m worker lawful o threads =
    let beside = none_beside s m worker lawful o in
    let sum = total_append (one_if_owned worker) o.left (deque_of o.id None threads ∷ o.right) in
    let a = beside.0 in let b = beside.1 in omega (arith, sum, a, b)

pub left_out : (s : Setting) (m : Moment) (worker : ℕ) → IsLawful s m → (o : Owns m worker) → owned_by worker (o.left ++ o.right) ≡ 0
left_out s m worker lawful o =
    let beside = none_beside s m worker lawful o in
    let sum = total_append (one_if_owned worker) o.left o.right in
    let a = beside.0 in let b = beside.1 in omega (arith, sum, a, b)

-- the worker's hand is what the machine says that it owns
abbrev pub owned : (l : List Action) (m : Moment) (deques : List (Deque ℕ)) → m.deques ≡ map (deque_shown l) deques → (worker : ℕ) (id : DequeId) (place : ℕ)
    → Hand m deques worker id place → Owns m worker
owned l m deques are worker id place h = record {
  left = map (deque_shown l) (h.holds).left;
  id = id.0;
  top = label_at l place;
  under = map (label_at l) h.under;
  right = map (deque_shown l) (h.holds).right;
  older = h.older;
  book = h.book;
  newer = h.newer;
  deques_are = are ∙ ap (map (deque_shown l)) (h.holds).deques_are
      ∙ map-append (deque_shown l) (h.holds).left (deque_with id (Some worker) (place ∷ h.under) ∷ (h.holds).right);
  books_are = h.books_are;
  open_for_it = h.open_for_it;
}

-- what a worker with a seat has
pub record Seated (s : Setting) (m : Moment) (deques : List (Deque ℕ)) (worker : ℕ) (seat : Seat) : Type 0 where
  pub place : ℕ
  pub hand : Hand m deques worker seat.deque place
  pub used : charged s.quota s.list hand.book.ran ≡ seat.used

pub seated : (s : Setting) (m : Moment) (deques : List (Deque ℕ)) (worker : ℕ) (seat : Seat) → IsLawful s m → m.deques ≡ map (deque_shown s.list) deques
    → Sits s m worker seat → Seated s m deques worker seat
seated s m deques worker seat lawful are sits =
    let one = sits.owns_one in let each = (lawful.periods).one_each worker in
    let d = cut_owned worker m.deques (omega (arith, one)) in
    let b = cut_open worker m.books (omega (arith, one, each)) in
    let cut = map_cut (deque_shown s.list) deques d.0 d.2 d.1 (sym are ∙ d.3) in
    let here : Deque ℕ = cut.here in
    let owner : here.owner ≡ Some worker = ap (λ t. t.owner) cut.here_is ∙ d.4 in
    let id : here.id.0 ≡ seat.deque.0 = ap (λ t. t.id) cut.here_is ∙ each_at (HasId worker seat.deque.0) d.0 d.2 d.1 (subst (λ t. Each (HasId worker seat.deque.0) t) d.3 sits.deque) d.4 in
    let some : map (label_at s.list) here.items ≢ [] = λ none. each_at (λ t. t.threads ≢ []) d.0 d.2 d.1 (subst (λ t. Each (λ u. u.threads ≢ []) t) d.3 (lawful.order).none_empty) (sym (ap (λ t. t.threads) cut.here_is) ∙ none) in
    by_items here owner id here.items refl some cut.before cut.after cut.is b.0 b.1 b.2 b.3 b.4
    (each_at (HasUsed s worker seat.used) b.0 b.2 b.1 (subst (λ t. Each (HasUsed s worker seat.used) t) b.3 sits.used) b.4)
  where
    by_items : (here : Deque ℕ) → here.owner ≡ Some worker → here.id.0 ≡ seat.deque.0 → (items : List ℕ) → here.items ≡ items → map (label_at s.list) items ≢ []
        → (left right : List (Deque ℕ)) → deques ≡ left ++ here ∷ right → (older newer : List Book) (book : Book) → m.books ≡ older ++ book ∷ newer
        → book.owner ≡ Some worker → charged s.quota s.list book.ran ≡ seat.used → Seated s m deques worker seat
    by_items here owner id [] items some left right is older newer book books opened used = absurd (some refl)
    by_items here owner id (place ∷ under) items some left right is older newer book books opened used = record {
      place = place;
      hand = record {
        under = under;
        holds = record {
          left = left;
          right = right;
          deques_are = is ∙ ap (λ t. left ++ t ∷ right) (λ i. record { id = record { 0 = id i }; owner = owner i; items = items i });
        };
        older = older;
        book = book;
        newer = newer;
        books_are = books;
        open_for_it = opened;
      };
      used = used;
    }

-- the threads of a deque, if it is the worker's
abbrev pub HasThreads : ℕ → List (List ℕ) → machine.Deque → Type 0
HasThreads worker threads d = d.owner ≡ Some worker → d.threads ≡ threads

none_has : (worker : ℕ) (threads : List (List ℕ)) (ds : List machine.Deque) → owned_by worker ds ≡ 0 → Each (HasThreads worker threads) ds
none_has worker threads [] none = tt
none_has worker threads (d ∷ ds) none = (
  λ is. let one : one_if_owned worker d ≡ one_if_same worker worker = ap (one_if_worker worker) is in let o = one_same worker worker refl in absurd (omega (arith, one, o, none)),
  none_has worker threads ds (omega arith),
)

-- a worker has one deque
pub one_hand : (s : Setting) (m : Moment) (worker : ℕ) → IsLawful s m → (o p : Owns m worker) → p.top ∷ p.under ≡ o.top ∷ o.under
one_hand s m worker lawful o p =
    let beside = none_beside s m worker lawful o in
    let all : Each (HasThreads worker (o.top ∷ o.under)) m.deques = subst (λ ds. Each (HasThreads worker (o.top ∷ o.under)) ds) (sym o.deques_are)
    (each_join (HasThreads worker (o.top ∷ o.under)) o.left (deque_of o.id (Some worker) (o.top ∷ o.under) ∷ o.right) (none_has worker (o.top ∷ o.under) o.left beside.0)
    (λ mine. refl, none_has worker (o.top ∷ o.under) o.right beside.1)) in
    each_at (HasThreads worker (o.top ∷ o.under)) p.left (deque_of p.id (Some worker) (p.top ∷ p.under)) p.right
    (subst (λ ds. Each (HasThreads worker (o.top ∷ o.under)) ds) p.deques_are all) refl
