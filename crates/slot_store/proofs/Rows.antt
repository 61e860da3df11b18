-- A row as the list of slots in memory.
use Rattle.std.proofs.Common.{◌≡◌, ℕ, zero, suc, ◌<◌, ◌≤◌, List, [], ◌∷◌, length, get_or, set, ℤ, Option, Some, None, Result, Ok, Err, IsErr, OnOk, refl, sym, ap, ◌∙◌, arith, get_or-set_other, get_or-set_same, set-set}
use Rattle.std.proofs.lemmas.List.{map-set, set-get_or}
use Rattle.block_arena.specs.Content.{Content}
use Rattle.slot_store.specs.Rows.{Entry, blank, entry_at, blocks_at, items_at, first_of, with_integer_at, with_blocks_at}
use Rattle.slot_store.specs.Shown.{blocks_shown, slot_shown, row_shown}
use Rattle.slot_store.specs.declared.slot.Slot.{Slot}

pub entry_read : (slots : List Slot) (i : ℕ) (x : Slot) → i < length (row_shown slots) → x ≡ get_or slots i x → entry_at (row_shown slots) i ≡ slot_shown x
entry_read [] i x within is = absurd (omega arith)
entry_read (y ∷ ys) zero x within is = ap slot_shown (sym is)
entry_read (y ∷ ys) (suc i) x within is = entry_read ys i x (omega arith) is

pub integer_written : (slots : List Slot) (i : ℕ) (old new : Slot) (v : ℤ) → i < length (row_shown slots) → old ≡ get_or slots i old →
    new.integer ≡ v → new.block ≡ old.block → row_shown (set slots i new) ≡ with_integer_at (row_shown slots) i v
integer_written slots i old new v within is integer block =
    map-set slot_shown slots i new
    ∙ ap (λ (e : Entry). set (row_shown slots) i e) (λ k. record {
      integer = integer k;
      blocks = (ap blocks_shown block ∙ sym (ap Entry.blocks (entry_read slots i old within is))) k;
    })

pub block_written : (slots : List Slot) (i : ℕ) (old new : Slot) (blocks : List (List ℤ)) → i < length (row_shown slots) → old ≡ get_or slots i old →
    new.integer ≡ old.integer → blocks_shown new.block ≡ blocks → row_shown (set slots i new) ≡ with_blocks_at (row_shown slots) i blocks
block_written slots i old new blocks within is integer block =
    map-set slot_shown slots i new
    ∙ ap (λ (e : Entry). set (row_shown slots) i e) (λ k. record {
      integer = (integer ∙ sym (ap Entry.integer (entry_read slots i old within is))) k;
      blocks = block k;
    })

-- a call that can't be refused is done
pub done : {E : Type 0} (r : Result (Unit {0}) E) (P : Type 0) → (IsErr r → ⊥) → OnOk r P → P
done (Ok v) P never p = p
done (Err e) P never p = absurd (never refl)

-- a slot with a number in its block has one block
pub one_block : (row : List Entry) (s place : ℕ) → place < length (items_at row s) → length (blocks_at row s) ≤ 1 → blocks_at row s ≡ items_at row s ∷ []
one_block row s place within most = cases (blocks_at row s) within most
  where
    cases : (bs : List (List ℤ)) → place < length (first_of bs) → length bs ≤ 1 → bs ≡ first_of bs ∷ []
    cases [] l m = absurd (omega arith)
    cases (b ∷ []) l m = refl
    cases (b ∷ d ∷ rest) l m = absurd (omega arith)

pub has_block : (row : List Entry) (s : ℕ) → length (blocks_at row s) ≡ 1 → blocks_at row s ≡ items_at row s ∷ []
has_block row s one = cases (blocks_at row s) one
  where
    cases : (bs : List (List ℤ)) → length bs ≡ 1 → bs ≡ first_of bs ∷ []
    cases [] m = absurd (omega arith)
    cases (b ∷ []) m = refl
    cases (b ∷ d ∷ rest) m = absurd (omega arith)

-- a slot in memory has one block at most
pub block_or_none : (slots : List Slot) (s : ℕ) → length (blocks_at (row_shown slots) s) ≤ 1
block_or_none [] s = omega arith
block_or_none (x ∷ xs) zero = cases x.block
  where
    cases : (b : Option Content) → length (blocks_shown b) ≤ 1
    cases None = omega arith
    cases (Some b) = omega arith
block_or_none (x ∷ xs) (suc s) = block_or_none xs s

-- the other slots stay
pub other_entry : (row : List Entry) (s j : ℕ) (e : Entry) → (j ≡ s → ⊥) → entry_at (set row s e) j ≡ entry_at row j
other_entry row s j e differ = get_or-set_other row s j e blank differ

pub same_entry : (row : List Entry) (s : ℕ) (e : Entry) → s < length row → entry_at (set row s e) s ≡ e
same_entry row s e within = get_or-set_same row s e blank within

-- a block that is put back
pub put_back : (row : List Entry) (s : ℕ) (between : List (List ℤ)) → s < length row → with_blocks_at (with_blocks_at row s between) s (blocks_at row s) ≡ row
put_back row s between within =
    let e = entry_at row s in
    let first : Entry = record e { blocks = between } in
    set-set row s first _
    ∙ ap (λ (x : Entry). set row s (record x { blocks = e.blocks })) (same_entry row s first within)
    ∙ set-get_or row s blank

-- behind the last slot there is no block
pub past_end : (slots : List Slot) (s : ℕ) → length slots ≤ s → length (blocks_at (row_shown slots) s) ≡ 0
past_end [] s past = refl
past_end (x ∷ xs) zero past = absurd (omega arith)
past_end (x ∷ xs) (suc s) past = past_end xs s (omega arith)
