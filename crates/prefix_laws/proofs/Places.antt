-- Elements of lists at their places.
use Rattle.std.proofs.Common.{◌≡◌, ℕ, zero, suc, ◌+◌, ◌<◌, length, arith, List, [], ◌∷◌, ◌++◌, map, take, inl, inr, refl, sym, ap, subst, ◌∙◌}
use Rattle.std.specs.Prelude.{Some, slice_get}
use Rattle.std.proofs.lemmas.List.{take_more, map-append}
use Rattle.std.proofs.lemmas.Option.{same_Some, none-some, slice_get_within, get_or_from_slice_get}
use Rattle.std.proofs.Common.{true, nat_eq}
use Rattle.std.specs.Prelude.{◌&&◌, not}
use Rattle.std.proofs.lemmas.Bool.{false≢true}
use Rattle.dag_order.specs.declared.thread_id.ThreadId.{ThreadId}
use Rattle.dag_order.specs.Births.{root}
use denote.Ref.{Bor}
use Rattle.std.specs.Option.{option_map}
use Rattle.std.specs.Prelude.{get_or}
use Rattle.std.proofs.lemmas.Option.{slice_get-map, slice_get_read}
use Rattle.containers.specs.declared.bounded_list.BoundedList.{BoundedList}
use Rattle.containers.specs.BoundedList.{entries}
use Rattle.dag_order.specs.declared.action_id.ActionId.{ActionId}
use Rattle.prefix_laws.specs.Listing.{books_behind}
use Rattle.deque_list.specs.declared.deque_id.DequeId.{DequeId}
use Rattle.deque_list.specs.Deques.{Deque, DequeAt, deque_ids}
use Rattle.deque_machine.specs.Lists.{Among, Each}

module _ {X : Type 0} where
  pub among_of_place : (xs : List X) (i : ℕ) (x : X) → slice_get xs i ≡ Some x → Among x xs
  among_of_place [] i x is = absurd (none-some x is)
  among_of_place (y ∷ xs) zero x is = inl (sym (same_Some y x is))
  among_of_place (y ∷ xs) (suc i) x is = inr (among_of_place xs i x is)

  pub each_place : (P : X → Type 0) (xs : List X) (i : ℕ) (x : X) → Each P xs → slice_get xs i ≡ Some x → P x
  each_place P [] i x all is = absurd (none-some x is)
  each_place P (y ∷ xs) zero x all is = subst P (same_Some y x is) all.0
  each_place P (y ∷ xs) (suc i) x all is = each_place P xs i x all.1 is

  pub take_one_more : (xs : List X) (i : ℕ) (x : X) → slice_get xs i ≡ Some x → take (i + 1) xs ≡ take i xs ++ x ∷ []
  take_one_more xs i x is =
      take_more xs i x (slice_get_within xs i x is) ∙ ap (λ y. take i xs ++ y ∷ []) (get_or_from_slice_get xs i x x is)

  pub place_there : (xs : List X) (i : ℕ) → i < length xs → (x : X) × (slice_get xs i ≡ Some x)
  place_there [] i below = absurd (omega (arith, below))
  place_there (y ∷ xs) zero below = (y, refl)
  place_there (y ∷ xs) (suc i) below = place_there xs i (omega (arith, below))

-- two lists that show the same, with one element more
pub mapped_more : {A B X : Type 0} (f : A → B) (g : X → B) (xs : List X) (i : ℕ) (x : X) (rs : List A) (r : A) → slice_get xs i ≡ Some x
    → map f rs ≡ map g (take i xs) → f r ≡ g x → map f (rs ++ r ∷ []) ≡ map g (take (i + 1) xs)
mapped_more f g xs i x rs r is so same =
    map-append f rs (r ∷ []) ∙ ap (λ ys. ys ++ f r ∷ []) so ∙ ap (λ y. map g (take i xs) ++ y ∷ []) same
    ∙ sym (ap (map g) (take_one_more xs i x is) ∙ map-append g (take i xs) (x ∷ []))

-- the deque that has an id at a rank
pub deque_at_rank : {T : Type 0} (deques : List (Deque T)) (rank : ℕ) (id : DequeId) → slice_get (deque_ids deques) rank ≡ Some id
    → (deque : Deque T) × DequeAt deques id rank deque
deque_at_rank [] rank id is = absurd (none-some id is)
deque_at_rank (d ∷ deques) zero id is = (d, (refl, same_Some (Deque.id d) id is))
deque_at_rank (d ∷ deques) (suc rank) id is = deque_at_rank deques rank id is

-- a thread that is not the root
pub not_the_root : (id : ThreadId) → true ≡ not (nat_eq id.period 0 && nat_eq id.nth 0) → id ≡ root → ⊥
not_the_root id test same = false≢true (sym (test ∙ ap (λ (t : ThreadId). not (nat_eq t.period 0 && nat_eq t.nth 0)) same))

-- a book that is lent
pub book_at : (books : List (Bor (BoundedList ActionId))) (i : ℕ) (r : Bor (BoundedList ActionId)) → i < length books → r ≡ get_or books i r
    → slice_get (books_behind books) i ≡ Some (entries r.now)
book_at books i r below is =
    slice_get-map (λ (q : Bor (BoundedList ActionId)). entries q.now) books i
    ∙ ap (option_map (λ (q : Bor (BoundedList ActionId)). entries q.now)) (slice_get_read books (length books) i r refl below is)
