-- What one change of a slot is in the store that the row shows.
use Rattle.std.proofs.Common.{◌≡◌, ℕ, zero, suc, ◌<◌, false, List, [], ◌∷◌, ◌++◌, length, set, replicate, ℤ, refl, sym, ap, ◌∙◌, arith, append-nil}
use Rattle.std.specs.Prelude.{if◌then◌else◌}
use Rattle.std.specs.Str.{bytes_eq}
use Rattle.std.proofs.lemmas.List.{length-map}
use Rattle.depth_first_run.specs.Passed.Tree.{Name}
use Rattle.node_table.specs.Names.{name_at}
use Rattle.depth_first_run.specs.Stores.{Store, Held, nothing, block_of, with_integer, hold_block, drop_block, write_block}
use Rattle.slot_store.specs.Rows.{Entry, blank, entry_at, integer_at, blocks_at, items_at, first_of, with_integer_at, with_blocks_at, HasNone}
use Rattle.slot_store.specs.Agreement.{blocks_under, entry_of, row_of, AreDistinct, ShowsStore}
use Rattle.slot_store.proofs.Names.{is_itself, not_of_slot, rest_distinct, head_differs, differs_head}
use Rattle.slot_store.proofs.Held.{under_append, block_under, without_this, without_other, replaced_this, replaced_other, rest_of, first_replaced}

-- what is read
pub entry_named : (names : List Name) (store : Store) (s : ℕ) → s < length names → entry_at (row_of names store) s ≡ entry_of store (name_at names s)
entry_named [] store s within = absurd (omega arith)
entry_named (x ∷ xs) store zero within = refl
entry_named (x ∷ xs) store (suc s) within = entry_named xs store s (omega arith)

-- stores that are the same under the names of all slots
pub rows_same : (names : List Name) (store new : Store) →
    ((j : ℕ) → j < length names → entry_of new (name_at names j) ≡ entry_of store (name_at names j)) → row_of names new ≡ row_of names store
rows_same [] store new same = refl
rows_same (x ∷ xs) store new same =
    let first : entry_of new x ≡ entry_of store x = same zero (omega arith) in
    let rest = rows_same xs store new (λ j within. same (suc j) (omega arith)) in
    λ k. first k ∷ rest k

row_updated : (names : List Name) (s : ℕ) (store new : Store) → AreDistinct names → s < length names →
    ((x : Name) → bytes_eq (name_at names s) x ≡ false → entry_of new x ≡ entry_of store x) →
    row_of names new ≡ set (row_of names store) s (entry_of new (name_at names s))
row_updated [] s store new d within other = absurd (omega arith)
row_updated (x ∷ xs) zero store new d within other =
    ap (λ (row : List Entry). entry_of new x ∷ row) (rows_same xs store new (λ j below. other (name_at xs j) (head_differs x xs d j below)))
row_updated (x ∷ xs) (suc s) store new d within other =
    let below : s < length xs = omega arith in
    let first = other x (differs_head x xs d s below) in
    let rest = row_updated xs s store new (rest_distinct x xs d) below other in
    λ k. first k ∷ rest k

-- a row has as many slots as there are names
pub row_length : (names : List Name) (row : List Entry) (store : Store) → ShowsStore names row store → length row ≡ length names
row_length names row store shows = ap length shows.slots ∙ length-map names (entry_of store)

-- a slot of the row has a name
pub is_named : (names : List Name) (row : List Entry) (store : Store) (shows : ShowsStore names row store) (s : ℕ) → s < length row → s < length names
is_named names row store shows s within = omega (arith, within, row_length names row store shows)

module _ (names : List Name) (row : List Entry) (store : Store) (shows : ShowsStore names row store) (s : ℕ) (below : s < length names) where
  pub entry_is : entry_at row s ≡ entry_of store (name_at names s)
  entry_is = ap (λ (r : List Entry). entry_at r s) shows.slots ∙ entry_named names store s below

  pub integer_is : integer_at row s ≡ store.integers (name_at names s)
  integer_is = ap Entry.integer entry_is

  pub blocks_are : blocks_at row s ≡ blocks_under store.blocks (name_at names s)
  blocks_are = ap Entry.blocks entry_is

  pub items_are : items_at row s ≡ block_of store.blocks (name_at names s)
  items_are = ap first_of blocks_are ∙ sym (block_under store.blocks (name_at names s))

  -- one slot has something else
  pub shows_update : (new : Store) (e : Entry) →
      ((x : Name) → bytes_eq (name_at names s) x ≡ false → entry_of new x ≡ entry_of store x) → entry_of new (name_at names s) ≡ e →
      ShowsStore names (set row s e) new
  shows_update new e other this = record {
    distinct = shows.distinct;
    slots = ap (λ (r : List Entry). set r s e) shows.slots
        ∙ ap (λ (e : Entry). set (row_of names store) s e) (sym this)
        ∙ sym (row_updated names s store new shows.distinct below other);
    known = λ x h. ap Entry.blocks (other x (not_of_slot names s x below h)) ∙ shows.known x h;
  }

  pub shows_integer : (v : ℤ) → ShowsStore names (with_integer_at row s v) (with_integer (name_at names s) v store)
  shows_integer v =
      let b = name_at names s in
      shows_update (with_integer b v store) (record (entry_at row s) { integer = v })
      (λ x other. rw other refl)
      (λ k. record {
        integer = (ap (λ t. if t then v else store.integers b) (is_itself b)) k;
        blocks = sym blocks_are k;
      })

  pub shows_hold : (items : List ℤ) → HasNone row s → ShowsStore names (with_blocks_at row s (items ∷ [])) (hold_block (name_at names s) items store)
  shows_hold items none =
      let b = name_at names s in
      let one : List Held = record { name = b; items = items } ∷ [] in
      let elsewhere : (x : Name) → bytes_eq b x ≡ false → blocks_under store.blocks x ++ blocks_under one x ≡ blocks_under store.blocks x =
      λ x other. rw other (append-nil (blocks_under store.blocks x)) in
      let before : blocks_under store.blocks b ≡ [] = sym blocks_are ∙ none in
      let here : blocks_under store.blocks b ++ blocks_under one b ≡ items ∷ [] = rw (is_itself b, before) refl in
      shows_update (hold_block b items store) (record (entry_at row s) { blocks = items ∷ [] })
      (λ x other. λ k. record {
        integer = store.integers x;
        blocks = (under_append store.blocks one x ∙ elsewhere x other) k;
      })
      (λ k. record {
        integer = sym integer_is k;
        blocks = (under_append store.blocks one b ∙ here) k;
      })

  pub shows_drop : (items : List ℤ) → blocks_at row s ≡ items ∷ [] → ShowsStore names (with_blocks_at row s []) (drop_block (name_at names s) store)
  shows_drop items one =
      let b = name_at names s in
      shows_update (drop_block b store) (record (entry_at row s) { blocks = [] })
      (λ x other. λ k. record { integer = store.integers x; blocks = without_other b x other store.blocks k })
      (λ k. record {
        integer = sym integer_is k;
        blocks = (without_this store.blocks b ∙ ap rest_of (sym blocks_are ∙ one)) k;
      })

  pub shows_write : (old items : List ℤ) → blocks_at row s ≡ old ∷ [] →
      ShowsStore names (with_blocks_at row s (items ∷ [])) (write_block (name_at names s) items store)
  shows_write old items one =
      let b = name_at names s in
      shows_update (write_block b items store) (record (entry_at row s) { blocks = items ∷ [] })
      (λ x other. λ k. record { integer = store.integers x; blocks = replaced_other b x other store.blocks items k })
      (λ k. record {
        integer = sym integer_is k;
        blocks = (replaced_this store.blocks b items ∙ ap (first_replaced items) (sym blocks_are ∙ one)) k;
      })

-- a row with nothing shows the store that has nothing
row_of_nothing : (names : List Name) → replicate (length names) blank ≡ row_of names nothing
row_of_nothing [] = refl
row_of_nothing (x ∷ xs) = ap (λ (row : List Entry). blank ∷ row) (row_of_nothing xs)

pub shows_nothing : (names : List Name) (count : ℕ) → AreDistinct names → length names ≡ count → ShowsStore names (replicate count blank) nothing
shows_nothing names count distinct is = record {
  distinct = distinct;
  slots = ap (λ n. replicate n blank) (sym is) ∙ row_of_nothing names;
  known = λ x h. refl;
}
