-- The slots of a branch are those whose names pass; so parts of a row are parts of the store that it shows.
use Rattle.std.proofs.Common.{◌≡◌, ℕ, zero, suc, ◌<◌, Bool, true, false, ◌||◌, nat_eq, List, [], ◌∷◌, ◌++◌, length, filter, ℤ, refl, sym, ap, ◌∙◌, subst, arith, rules, ext_get_or}
use Rattle.std.specs.Prelude.{if◌then◌else◌}
use Rattle.std.specs.Str.{bytes_eq}
use Rattle.std.proofs.lemmas.List.{length-map}
use Rattle.depth_first_run.specs.Passed.Tree.{Name}
use Rattle.depth_first_run.specs.Passed.Names.{is_among}
use Rattle.node_table.specs.Names.{name_at}
use Rattle.node_table.specs.Reading.{AreSlots, FitsSlots, slots_read}
use Rattle.depth_first_run.specs.Stores.{Store, those_named, those_not_named}
use Rattle.depth_first_run.specs.States.{taken_integers}
use Rattle.slot_store.specs.Rows.{Entry, blank, entry_at, integer_at, blocks_at}
use Rattle.slot_store.specs.Agreement.{blocks_under, entry_of, row_of, AreDistinct, ShowsStore}
use Rattle.slot_store.specs.Forks.{is_in, Parts, with_integers_of, joined_blocks}
use Rattle.depth_first_run.specs.Branches.{child_store, parent_store, joined_store}
use Rattle.slot_store.proofs.Names.{same_name, is_itself}
use Rattle.slot_store.proofs.Held.{under_append, under_named, under_not_named}
use Rattle.slot_store.proofs.Agreement.{entry_named, row_length, entry_is}

abbrev EachNamed : (Name → Bool) → List Name → Type 0
EachNamed named [] = Unit {0}
EachNamed named (x ∷ xs) = (named x ≡ true) × EachNamed named xs

each_filtered : (named : Name → Bool) (names : List Name) → EachNamed named (filter named names)
each_filtered named [] = tt
each_filtered named (x ∷ xs) = cases (named x) refl (each_filtered named xs)
  where
    cases : (t : Bool) → named x ≡ t → EachNamed named (filter named xs) → EachNamed named (filter named (x ∷ xs))
    cases true e told = rw e (e, told)
    cases false e told = rw e told

-- a slot in the list has a name that passes
in_passes : (named : Name → Bool) (names : List Name) (slots : List ℕ) (i : ℕ) → EachNamed named (slots_read names slots) →
    is_in i slots ≡ true → named (name_at names i) ≡ true
in_passes named names [] i each inside = let never : ⊥ = cc in absurd never
in_passes named names (s ∷ rest) i each inside = cases (nat_eq s i) refl (in_passes named names rest i each.1)
  where
    cases : (t : Bool) → nat_eq s i ≡ t → (is_in i rest ≡ true → named (name_at names i) ≡ true) → named (name_at names i) ≡ true
    cases true e told = let same : s ≡ i = search rules in ap (λ j. named (name_at names j)) (sym same) ∙ each.0
    cases false e told = told (rw e at inside)

-- a name that passes is among those that do
among_filtered : (named : Name → Bool) (names : List Name) (i : ℕ) → i < length names → named (name_at names i) ≡ true →
    is_among (name_at names i) (filter named names) ≡ true
among_filtered named [] i within passes = absurd (omega arith)
among_filtered named (x ∷ xs) zero within passes = rw passes (or_first (bytes_eq x x) (is_among x (filter named xs)) (is_itself x))
  where
    or_first : (a b : Bool) → a ≡ true → (a || b) ≡ true
    or_first a b e = rw e refl
among_filtered named (x ∷ xs) (suc i) within passes = cases (named x) refl (among_filtered named xs i (omega arith) passes)
  where
    or_last : (a b : Bool) → b ≡ true → (a || b) ≡ true
    or_last true b e = refl
    or_last false b e = e

    cases : (t : Bool) → named x ≡ t → is_among (name_at xs i) (filter named xs) ≡ true →
        is_among (name_at xs i) (filter named (x ∷ xs)) ≡ true
    cases true e told = rw e (or_last (bytes_eq x (name_at xs i)) (is_among (name_at xs i) (filter named xs)) told)
    cases false e told = rw e told

-- a slot whose name is read is in the list
in_read : (names : List Name) (slots : List ℕ) (i : ℕ) → AreDistinct names → i < length names → FitsSlots (length names) slots →
    is_among (name_at names i) (slots_read names slots) ≡ true → is_in i slots ≡ true
in_read names [] i distinct within fits among = let never : ⊥ = cc in absurd never
in_read names (s ∷ rest) i distinct within fits among =
    cases (bytes_eq (name_at names s) (name_at names i)) refl (in_read names rest i distinct within fits.1)
  where
    or_last : (a b : Bool) → b ≡ true → (a || b) ≡ true
    or_last true b e = refl
    or_last false b e = e

    cases : (t : Bool) → bytes_eq (name_at names s) (name_at names i) ≡ t →
        (is_among (name_at names i) (slots_read names rest) ≡ true → is_in i rest ≡ true) → is_in i (s ∷ rest) ≡ true
    cases true e told =
        let same : s ≡ i = distinct s i fits.0 within (same_name (name_at names s) (name_at names i) e) in
        let here : nat_eq s i ≡ true = search rules in
        rw here refl
    cases false e told = or_last (nat_eq s i) (is_in i rest) (told (rw e at among))

pub in_named : (named : Name → Bool) (names : List Name) (slots : List ℕ) (i : ℕ) → AreDistinct names → i < length names →
    AreSlots names slots (filter named names) → is_in i slots ≡ named (name_at names i)
in_named named names slots i distinct within are = cases (named (name_at names i)) refl (is_in i slots) refl
  where
    cases : (t : Bool) → named (name_at names i) ≡ t → (q : Bool) → is_in i slots ≡ q → is_in i slots ≡ named (name_at names i)
    cases true e q inside =
        in_read names slots i distinct within are.1
        (ap (λ xs. is_among (name_at names i) xs) are.0 ∙ among_filtered named names i within e) ∙ sym e
    cases false e true inside =
        let passes = in_passes named names slots i (subst (EachNamed named) (sym are.0) (each_filtered named names)) inside in
        let never : ⊥ = cc in absurd never
    cases false e false inside = inside ∙ sym e

-- a row that has at each slot what the store has under its name
pub shows_each : (names : List Name) (row : List Entry) (store : Store) → AreDistinct names → length row ≡ length names →
    ((i : ℕ) → i < length names → entry_at row i ≡ entry_of store (name_at names i)) →
    ((x : Name) → is_among x names ≡ false → blocks_under store.blocks x ≡ []) → ShowsStore names row store
shows_each names row store distinct count each known = record {
  distinct = distinct;
  slots = ext_get_or blank row (row_of names store) (count ∙ sym (length-map names (entry_of store)))
      (λ i within.
      let below : i < length names = omega (arith, within, count) in
      each i below ∙ sym (entry_named names store i below));
  known = known;
}

module _ (names : List Name) (row : List Entry) (store : Store) (named : Name → Bool) (slots : List ℕ)
    (shows : ShowsStore names row store) (are : AreSlots names slots (filter named names)) where
  pub child_shows : (child kept : List Entry) → Parts slots row child kept → ShowsStore names child (child_store named store)
  child_shows child kept parts =
      shows_each names child (child_store named store) shows.distinct (parts.child_count ∙ row_length names row store shows)
      (λ i below.
      let x = name_at names i in
      let entry = entry_is names row store shows i below in
      let blocks : (if is_in i slots then blocks_at row i else []) ≡ blocks_under (those_named named store.blocks) x =
      ap (λ b. if b then blocks_at row i else []) (in_named named names slots i shows.distinct below are)
      ∙ ap (λ (e : Entry). if named x then e.blocks else []) entry
      ∙ sym (under_named named store.blocks x) in
      parts.child_has i ∙ λ k. record { integer = ap Entry.integer entry k; blocks = blocks k })
      (λ x e. under_named named store.blocks x ∙ none_left (named x) (blocks_under store.blocks x) (shows.known x e))
    where
      none_left : (t : Bool) (bs : List (List ℤ)) → bs ≡ [] → (if t then bs else []) ≡ []
      none_left true bs e = e
      none_left false bs e = refl

  pub parent_shows : (child kept : List Entry) → Parts slots row child kept → ShowsStore names kept (parent_store named store)
  parent_shows child kept parts =
      shows_each names kept (parent_store named store) shows.distinct (parts.kept_count ∙ row_length names row store shows)
      (λ i below.
      let x = name_at names i in
      let entry = entry_is names row store shows i below in
      let blocks : (if is_in i slots then [] else blocks_at row i) ≡ blocks_under (those_not_named named store.blocks) x =
      ap (λ b. if b then [] else blocks_at row i) (in_named named names slots i shows.distinct below are)
      ∙ ap (λ (e : Entry). if named x then [] else e.blocks) entry
      ∙ sym (under_not_named named store.blocks x) in
      parts.parent_has i ∙ λ k. record { integer = ap Entry.integer entry k; blocks = blocks k })
      (λ x e. under_not_named named store.blocks x ∙ none_left (named x) (blocks_under store.blocks x) (shows.known x e))
    where
      none_left : (t : Bool) (bs : List (List ℤ)) → bs ≡ [] → (if t then [] else bs) ≡ []
      none_left true bs e = refl
      none_left false bs e = e

chosen_integer : (t : Bool) → (assigned : Name → Bool) (x : Name) (child own : Store) → assigned x ≡ t →
    (if t then child.integers x else own.integers x) ≡ taken_integers assigned child.integers own.integers x
chosen_integer true assigned x child own e = rw e refl
chosen_integer false assigned x child own e = rw e refl

pub joined_shows : (names : List Name) (row child_row between new : List Entry) (own child : Store) (assigned : Name → Bool) (slots : List ℕ) →
    ShowsStore names row own → ShowsStore names child_row child → AreSlots names slots (filter assigned names) →
    length between ≡ length row → ((i : ℕ) → entry_at between i ≡ with_integers_of row child_row slots i) →
    length new ≡ length between → ((i : ℕ) → entry_at new i ≡ joined_blocks between child_row i) →
    ShowsStore names new (joined_store assigned child own)
joined_shows names row child_row between new own child assigned slots shows theirs are count has new_count new_has =
    shows_each names new (joined_store assigned child own) shows.distinct (new_count ∙ count ∙ row_length names row own shows)
    (λ i below.
    let x = name_at names i in
    let mine = entry_is names row own shows i below in
    let other = entry_is names child_row child theirs i below in
    let integer : integer_at between i ≡ taken_integers assigned child.integers own.integers x =
    ap Entry.integer (has i)
    ∙ ap (λ b. if b then integer_at child_row i else integer_at row i) (in_named assigned names slots i shows.distinct below are)
    ∙ ap (λ (e : Entry). if assigned x then e.integer else integer_at row i) other
    ∙ ap (λ (e : Entry). if assigned x then child.integers x else e.integer) mine
    ∙ chosen_integer (assigned x) assigned x child own refl in
    let blocks : blocks_at between i ++ blocks_at child_row i ≡ blocks_under (own.blocks ++ child.blocks) x =
    ap (λ (e : Entry). e.blocks ++ blocks_at child_row i) (has i)
    ∙ ap (λ (e : Entry). e.blocks ++ blocks_at child_row i) mine
    ∙ ap (λ (e : Entry). blocks_under own.blocks x ++ e.blocks) other
    ∙ sym (under_append own.blocks child.blocks x) in
    new_has i ∙ λ k. record { integer = integer k; blocks = blocks k })
    (λ x e.
    under_append own.blocks child.blocks x ∙ ap (λ bs. bs ++ blocks_under child.blocks x) (shows.known x e) ∙ ap (λ bs. [] ++ bs) (theirs.known x e))
