-- The names of actions at their places.
use Rattle.std.proofs.Common.{◌≡◌, ℕ, zero, suc, ◌+◌, ◌<◌, length, List, [], ◌∷◌, ◌++◌, map, take, refl, sym, ap, subst, ◌∙◌}
use Rattle.std.specs.Prelude.{Some, slice_get}
use Rattle.std.specs.List.{AllZip}
use Rattle.std.specs.Option.{option_map}
use Rattle.std.proofs.Math.Logic.{∥∥₁_map}
use Rattle.std.proofs.lemmas.List.{map-append, length-map}
use Rattle.std.proofs.lemmas.Option.{same_Some, none-some, slice_get-map, slice_get-get_or, slice_get_within}
use Rattle.dag_order.specs.declared.action_id.ActionId.{ActionId}
use Rattle.dag_order.specs.declared.birth.Birth.{Birth}
use Rattle.dag_order.specs.Births.{HasLabel}
use Rattle.dag_order.proofs.BirthLaws.{one_label}
use Rattle.depth_first_list.specs.Actions.{Action}
use Rattle.depth_first_list.specs.Runs.{end_at, start}
use Rattle.depth_first_list.specs.Facts.{action_at, label_at}
use Rattle.depth_first_list.specs.Laws.{NamesDiffer}
use Rattle.deque_machine.specs.Books.{Book}
use Rattle.deque_machine.specs.Lists.{Each}
use Rattle.open_periods.specs.Periods.{Period}
use Rattle.open_periods.specs.Names.{IsNamed, AreNamed}
use Rattle.open_periods.specs.Telling.{Tell, AreBooks}
use Rattle.open_periods.proofs.Labels.{labels_are_by_births}
use Rattle.prefix_laws.specs.declared.names.Name.{Name}
use Rattle.prefix_laws.specs.Listing.{born_in, ran_in}
use Rattle.prefix_laws.specs.Naming.{name_shown, IsPlaced, ArePlaced, IsKnown}
use Rattle.prefix_laws.specs.Prefixes.{ran_of}
use Rattle.prefix_laws.proofs.Places.{take_one_more}

module _ {A B : Type 0} (R : A → B → Type 0) where
  -- what stands beside an element
  pub zip_at : (xs : List A) (ys : List B) (i : ℕ) (y : B) → AllZip R xs ys → slice_get ys i ≡ Some y → (x : A) × (slice_get xs i ≡ Some x) × R x y
  zip_at [] [] i y all is = absurd (none-some y is)
  zip_at [] (z ∷ ys) i y all is = absurd all
  zip_at (x ∷ xs) [] i y all is = absurd all
  zip_at (x ∷ xs) (z ∷ ys) zero y all is = (x, refl, subst (R x) (same_Some z y is) all.0)
  zip_at (x ∷ xs) (z ∷ ys) (suc i) y all is = zip_at xs ys i y all.1 is

  pub zip_push : (xs : List A) (ys : List B) (x : A) (y : B) → AllZip R xs ys → R x y → AllZip R (xs ++ x ∷ []) (ys ++ y ∷ [])
  zip_push [] [] x y all one = (one, tt)
  zip_push [] (z ∷ ys) x y all one = absurd all
  zip_push (w ∷ xs) [] x y all one = absurd all
  zip_push (w ∷ xs) (z ∷ ys) x y all one = (all.0, zip_push xs ys x y all.1 one)

  -- the first elements, with one more
  pub zip_more : (xs : List A) (ys more : List B) (i : ℕ) (x : A) (y : B) → slice_get xs i ≡ Some x → AllZip R (take i xs) ys → R x y
      → more ≡ ys ++ y ∷ [] → AllZip R (take (i + 1) xs) more
  zip_more xs ys more i x y is all one grown =
      subst (AllZip R (take (i + 1) xs)) (sym grown) (subst (λ ws. AllZip R ws (ys ++ y ∷ [])) (sym (take_one_more xs i x is)) (zip_push (take i xs) ys x y all one))

pub names_more : (names : List Name) (name : Name) (actions : List Action) (i : ℕ) (a : Action) → slice_get actions i ≡ Some a
    → names ≡ map name_shown (take i actions) → name ≡ name_shown a → names ++ name ∷ [] ≡ map name_shown (take (i + 1) actions)
names_more names name actions i a is so same =
    ap (λ ns. ns ++ name ∷ []) so ∙ ap (λ n. map name_shown (take i actions) ++ n ∷ []) same
    ∙ sym (ap (map name_shown) (take_one_more actions i a is) ∙ map-append name_shown (take i actions) (a ∷ []))

-- a name that has a label by these births is that of an action with this label
pub same_name : (births : List (List Birth)) (id : ActionId) (name : Name) (label : List ℕ) (index : ℕ) → HasLabel births id.by name.label → name.index ≡ id.index
    → HasLabel births id.by label → id.index ≡ index → name ≡ record { label = label; index = index }
same_name births id name label index has same other index_is =
    let labels : name.label ≡ label = one_label births id.by name.label label has other in
    let indexes : name.index ≡ index = same ∙ index_is in
    λ i. record { label = labels i; index = indexes i }

-- where it is known that it stands among the names, its own name stands there
pub as_known : (births : List (List Birth)) (names : List Name) (id : ActionId) (name : Name) → HasLabel births id.by name.label → name.index ≡ id.index
    → IsKnown births names id → ∥ ((place : ℕ) × (slice_get names place ≡ Some name)) ∥₁
as_known births names id name has same known = ∥∥₁_map known (λ k.
    (k.0, k.1.there ∙ ap Some (sym (same_name births id name k.1.label id.index has same k.1.by refl))))

pub placed_as : (births : List (List Birth)) (names : List Name) (id : ActionId) (name : Name) (place : ℕ) → HasLabel births id.by name.label → name.index ≡ id.index
    → slice_get names place ≡ Some name → IsPlaced births names id place
placed_as births names id name place has same there = record {
  label = name.label;
  by = has;
  there = there ∙ ap Some (same_name births id name name.label id.index has same has refl);
}

-- the name of an action of the list
name_there : (l : List Action) (place : ℕ) → place < length l → slice_get (map name_shown l) place ≡ Some (name_shown (action_at l place))
name_there l place below = slice_get-map name_shown l place ∙ ap (option_map name_shown) (slice_get-get_or l place (end_at [] start 0) below)

name_at : (l : List Action) (place : ℕ) (name : Name) → slice_get (map name_shown l) place ≡ Some name → (place < length l) × (name ≡ name_shown (action_at l place))
name_at l place name is =
    let below = subst (λ n. place < n) (length-map l name_shown) (slice_get_within (map name_shown l) place name is) in
    (below, same_Some name (name_shown (action_at l place)) (sym is ∙ name_there l place below))

module _ (k : ℕ) (l : List Action) (periods : List Period) (books : List Book) (tell : Tell k l periods books) where
  abbrev births : List (List Birth)
  births = map born_in tell.sorted

  label_is : (id : ActionId) (place : ℕ) → IsNamed l periods id place → HasLabel births id.by (label_at l place)
  label_is id place named = labels_are_by_births k l periods books id.by (label_at l place) tell named.by

  -- an action stands at its place among the names
  pub placed : (id : ActionId) (place : ℕ) → IsNamed l periods id place → IsPlaced births (map name_shown l) id place
  placed id place named = record {
    label = label_at l place;
    by = label_is id place named;
    there = name_there l place named.inside ∙ ap Some (λ i. record { label = label_at l place; index = named.index i });
  }

  -- and at no other
  same_place : NamesDiffer l → (id : ActionId) (place other : ℕ) → IsNamed l periods id place → IsPlaced births (map name_shown l) id other → other ≡ place
  same_place differ id place other named p =
      let found = name_at l other (record { label = p.label; index = id.index }) p.there in
      differ other place found.0 named.inside
      (ap (λ (n : Name). n.label) (sym found.1) ∙ one_label births id.by p.label (label_at l place) p.by (label_is id place named))
      (ap (λ (n : Name). n.index) (sym found.1) ∙ sym named.index)

  same_places : NamesDiffer l → (ids : List ActionId) (places others : List ℕ) → AreNamed l periods ids places → ArePlaced births (map name_shown l) ids others
      → others ≡ places
  same_places differ [] [] [] named placed_so = refl
  same_places differ [] [] (y ∷ ys) named placed_so = absurd placed_so
  same_places differ [] (x ∷ xs) others named placed_so = absurd named
  same_places differ (id ∷ ids) [] others named placed_so = absurd named
  same_places differ (id ∷ ids) (x ∷ xs) [] named placed_so = absurd placed_so
  same_places differ (id ∷ ids) (x ∷ xs) (y ∷ ys) named placed_so =
      ap (λ n. n ∷ ys) (same_place differ id x y named.0 placed_so.0) ∙ ap (λ ns. x ∷ ns) (same_places differ ids xs ys named.1 placed_so.1)

  books_same : NamesDiffer l → (ps : List Period) (bs : List Book) (all : List (List ℕ)) → AreBooks k l periods ps bs
      → AllZip (ArePlaced births (map name_shown l)) (map ran_in ps) all → all ≡ map ran_of bs
  books_same differ [] [] [] are so = refl
  books_same differ [] [] (x ∷ all) are so = absurd so
  books_same differ [] (b ∷ bs) all are so = absurd are
  books_same differ (p ∷ ps) [] all are so = absurd are
  books_same differ (p ∷ ps) (b ∷ bs) [] are so = absurd so
  books_same differ (p ∷ ps) (b ∷ bs) (x ∷ all) are so =
      ap (λ ns. ns ∷ all) (same_places differ p.ran b.ran x are.0.ran so.0) ∙ ap (λ bs. b.ran ∷ bs) (books_same differ ps bs all are.1 so.1)

  -- so the places of what the periods ran are the books
  pub places_are : NamesDiffer l → (all : List (List ℕ)) → AllZip (ArePlaced births (map name_shown l)) (map ran_in tell.sorted) all → all ≡ map ran_of books
  places_are differ all so = books_same differ tell.sorted books all tell.are_books so

  ids_known : (ids : List ActionId) (places : List ℕ) → AreNamed l periods ids places → Each (IsKnown births (map name_shown l)) ids
  ids_known [] places named = tt
  ids_known (id ∷ ids) [] named = absurd named
  ids_known (id ∷ ids) (place ∷ places) named = (∣ (place, placed id place named.0) ∣₁, ids_known ids places named.1)

  books_known : (ps : List Period) (bs : List Book) → AreBooks k l periods ps bs → Each (Each (IsKnown births (map name_shown l))) (map ran_in ps)
  books_known [] bs are = tt
  books_known (p ∷ ps) [] are = absurd are
  books_known (p ∷ ps) (b ∷ bs) are = (ids_known p.ran b.ran are.0.ran, books_known ps bs are.1)

  pub all_known : Each (Each (IsKnown births (map name_shown l))) (map ran_in tell.sorted)
  all_known = books_known tell.sorted books tell.are_books
