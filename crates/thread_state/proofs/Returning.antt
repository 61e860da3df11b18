-- The answer of a call and the blocks that it lent go to its caller in either order.
use Rattle.std.proofs.Common.{◌≡◌, ℕ, ◌<◌, Bool, true, false, nat_eq, List, [], ◌∷◌, ◌++◌, length, ℤ, refl, sym, ap, ◌∙◌, arith, rules, append_assoc, append-nil}
use Rattle.std.specs.Str.{bytes_eq}
use Rattle.depth_first_run.specs.Passed.Tree
use Rattle.depth_first_run.specs.Passed.Tree.{Name, Param, Arg}
use Rattle.node_table.specs.Names.{name_at}
use Rattle.node_table.specs.Reading.{args_read, FitsArgs}
use Rattle.node_table.specs.Table
use Rattle.depth_first_run.specs.Stores.{Store, Held, block_of, without, hold_block, with_integer, updated}
use Rattle.depth_first_run.specs.Calls.{lent_back}
use Rattle.slot_store.specs.Rows.{Entry, entry_at, blocks_at, with_integer_at}
use Rattle.slot_store.specs.Agreement.{blocks_under, entry_of, AreDistinct, ShowsStore}
use Rattle.slot_store.specs.Forks.{is_in}
use Rattle.slot_store.specs.Calls.{lent_slots, EachHasNone}
use Rattle.slot_store.proofs.Names.{neither, slots_differ, same_name}
use Rattle.slot_store.proofs.Held.{under_append}
use Rattle.slot_store.proofs.Moving.{differs}
use Rattle.slot_store.proofs.Rows.{same_entry, other_entry}
use Rattle.slot_store.proofs.Agreement.{rows_same}

-- what comes back under a name
brought : List Param → List Arg → List Held → Name → List (List ℤ)
brought [] args theirs x = []
brought (q ∷ qs) [] theirs x = []
brought (q ∷ qs) (Tree.value e ∷ args) theirs x = brought qs args theirs x
brought (q ∷ qs) (Tree.lend b ∷ args) theirs x =
    blocks_under (record { name = b; items = block_of theirs q.name } ∷ []) x ++ brought qs args (without theirs q.name) x
brought (q ∷ qs) (Tree.give b ∷ args) theirs x = brought qs args theirs x

lent_adds : (qs : List Param) (args : List Arg) (theirs : List Held) (own : Store) (x : Name) →
    blocks_under (lent_back qs args theirs own).blocks x ≡ blocks_under own.blocks x ++ brought qs args theirs x
unfolding lent_back brought
lent_adds [] args theirs own x = sym (append-nil (blocks_under own.blocks x))
lent_adds (q ∷ qs) [] theirs own x = sym (append-nil (blocks_under own.blocks x))
lent_adds (q ∷ qs) (Tree.value e ∷ args) theirs own x = lent_adds qs args theirs own x
lent_adds (q ∷ qs) (Tree.lend b ∷ args) theirs own x =
    let h : Held = record { name = b; items = block_of theirs q.name } in
    lent_adds qs args (without theirs q.name) (hold_block b (block_of theirs q.name) own) x
    ∙ ap (λ xs. xs ++ brought qs args (without theirs q.name) x) (under_append own.blocks (h ∷ []) x)
    ∙ append_assoc (blocks_under own.blocks x) (blocks_under (h ∷ []) x) (brought qs args (without theirs q.name) x)
lent_adds (q ∷ qs) (Tree.give b ∷ args) theirs own x = lent_adds qs args theirs own x

lent_integers : (qs : List Param) (args : List Arg) (theirs : List Held) (own : Store) →
    (lent_back qs args theirs own).integers ≡ own.integers
unfolding lent_back
lent_integers [] args theirs own = refl
lent_integers (q ∷ qs) [] theirs own = refl
lent_integers (q ∷ qs) (Tree.value e ∷ args) theirs own = lent_integers qs args theirs own
lent_integers (q ∷ qs) (Tree.lend b ∷ args) theirs own =
    lent_integers qs args (without theirs q.name) (hold_block b (block_of theirs q.name) own)
lent_integers (q ∷ qs) (Tree.give b ∷ args) theirs own = lent_integers qs args theirs own

-- nothing comes back to a slot that lent nothing
none_back : (names : List Name) (slot : ℕ) → AreDistinct names → slot < length names → (params : List ℕ) (args : List Table.Arg) (qs : List Param)
    (theirs : List Held) → FitsArgs (length names) args → length qs ≡ length params → is_in slot (lent_slots params args) ≡ false →
    brought qs (args_read names args) theirs (name_at names slot) ≡ []
unfolding brought
none_back names slot distinct within params args [] theirs fits count out = refl
none_back names slot distinct within params [] (q ∷ qs) theirs fits count out = refl
none_back names slot distinct within [] (a ∷ args) (q ∷ qs) theirs fits count out = let never : ⊥ = omega (arith, count) in absurd never
none_back names slot distinct within (p ∷ ps) (Table.value e ∷ args) (q ∷ qs) theirs fits count out =
    none_back names slot distinct within ps args qs theirs fits.1 (omega (arith, count)) out
none_back names slot distinct within (p ∷ ps) (Table.lend s ∷ args) (q ∷ qs) theirs fits count out =
    let parts = neither (nat_eq s slot) (is_in slot (lent_slots ps args)) out in
    let other = slots_differ names s slot distinct fits.0 within (differs slot s parts.0) in
    let rest = none_back names slot distinct within ps args qs (without theirs q.name) fits.1 (omega (arith, count)) parts.1 in
    rw other rest
none_back names slot distinct within (p ∷ ps) (Table.give s ∷ args) (q ∷ qs) theirs fits count out =
    none_back names slot distinct within ps args qs theirs fits.1 (omega (arith, count)) out

-- an integer may be set before or behind
integer_agrees : (qs : List Param) (args : List Arg) (theirs : List Held) (own : Store) (y : Name) (v : ℤ) (x : Name) →
    entry_of (with_integer y v (lent_back qs args theirs own)) x ≡ entry_of (lent_back qs args theirs (with_integer y v own)) x
integer_agrees qs args theirs own y v x =
    let blocks = lent_adds qs args theirs own x ∙ sym (lent_adds qs args theirs (with_integer y v own) x) in
    let first = ap (λ (f : Name → ℤ). updated y v f x) (lent_integers qs args theirs own) in
    let second = ap (λ (f : Name → ℤ). f x) (lent_integers qs args theirs (with_integer y v own)) in
    let integers = first ∙ sym second in
    λ k. record { integer = integers k; blocks = blocks k }

-- a block too, where none comes back under its name
swapped : (xs here back : List (List ℤ)) (same : Bool) → (same ≡ true → back ≡ []) → (same ≡ false → here ≡ []) → (xs ++ back) ++ here ≡ (xs ++ here) ++ back
swapped xs here back true none other =
    let e = none refl in
    ap (λ ys. (xs ++ ys) ++ here) e ∙ ap (λ ys. ys ++ here) (append-nil xs) ∙ sym (append-nil (xs ++ here)) ∙ ap (λ ys. (xs ++ here) ++ ys) (sym e)
swapped xs here back false none other =
    let e = other refl in
    ap (λ ys. (xs ++ back) ++ ys) e ∙ append-nil (xs ++ back) ∙ sym (ap (λ ys. ys ++ back) (ap (λ ys. xs ++ ys) e ∙ append-nil xs))

alone : (h : Held) (x : Name) → bytes_eq h.name x ≡ false → blocks_under (h ∷ []) x ≡ []
alone h x other = rw other refl

block_agrees : (qs : List Param) (args : List Arg) (theirs : List Held) (own : Store) (b : Name) (items : List ℤ) →
    brought qs args theirs b ≡ [] → (x : Name) →
    entry_of (hold_block b items (lent_back qs args theirs own)) x ≡ entry_of (lent_back qs args theirs (hold_block b items own)) x
block_agrees qs args theirs own b items none x =
    let h : Held = record { name = b; items = items } in
    let back = brought qs args theirs x in
    let here = blocks_under (h ∷ []) x in
    let left = under_append (lent_back qs args theirs own).blocks (h ∷ []) x ∙ ap (λ ys. ys ++ here) (lent_adds qs args theirs own x) in
    let right = lent_adds qs args theirs (hold_block b items own) x ∙ ap (λ ys. ys ++ back) (under_append own.blocks (h ∷ []) x) in
    let between = swapped (blocks_under own.blocks x) here back (bytes_eq b x)
    (λ same. ap (λ (y : Name). brought qs args theirs y) (sym (same_name b x same)) ∙ none) (λ other. alone h x other) in
    let blocks = left ∙ between ∙ sym right in
    let integers = ap (λ (f : Name → ℤ). f x) (lent_integers qs args theirs own ∙ sym (lent_integers qs args theirs (hold_block b items own))) in
    λ k. record { integer = integers k; blocks = blocks k }

-- a row shows what agrees with what it shows
pub shows_other : (names : List Name) (row : List Entry) (store other : Store) → ShowsStore names row store →
    ((x : Name) → entry_of other x ≡ entry_of store x) → ShowsStore names row other
shows_other names row store other shows same = record {
  distinct = shows.distinct;
  slots = shows.slots ∙ sym (rows_same names store other (λ j below. same (name_at names j)));
  known = λ x h. ap Entry.blocks (same x) ∙ shows.known x h;
}

pub integer_swaps : (names : List Name) (row : List Entry) (qs : List Param) (args : List Arg) (theirs : List Held) (own : Store) (y : Name) (v : ℤ) →
    ShowsStore names row (lent_back qs args theirs (with_integer y v own)) → ShowsStore names row (with_integer y v (lent_back qs args theirs own))
integer_swaps names row qs args theirs own y v shows = shows_other names row _ _ shows (integer_agrees qs args theirs own y v)

pub block_swaps : (names : List Name) (row : List Entry) (params : List ℕ) (args : List Table.Arg) (qs : List Param) (values : List Arg)
    (theirs : List Held) (own : Store) (slot : ℕ) (items : List ℤ) → AreDistinct names → slot < length names → FitsArgs (length names) args →
    args_read names args ≡ values → length qs ≡ length params → is_in slot (lent_slots params args) ≡ false →
    ShowsStore names row (lent_back qs values theirs (hold_block (name_at names slot) items own)) →
    ShowsStore names row (hold_block (name_at names slot) items (lent_back qs values theirs own))
block_swaps names row params args qs values theirs own slot items distinct within fits read count out shows =
    let none = none_back names slot distinct within params args qs theirs fits count out in
    let none_here = sym (ap (λ (vs : List Arg). brought qs vs theirs (name_at names slot)) read) ∙ none in
    shows_other names row _ _ shows (block_agrees qs values theirs own (name_at names slot) items none_here)

-- the slots that have no block still have none
pub still_none : (row : List Entry) (s : ℕ) (v : ℤ) (slots : List ℕ) → s < length row → EachHasNone row slots → EachHasNone (with_integer_at row s v) slots
still_none row s v [] within each = tt
still_none row s v (t ∷ ts) within each = (cases (nat_eq t s) refl, still_none row s v ts within each.1)
  where
    cases : (b : Bool) → nat_eq t s ≡ b → blocks_at (with_integer_at row s v) t ≡ []
    cases true e =
        let same : t ≡ s = search rules in
        ap (λ n. blocks_at (with_integer_at row s v) n) same ∙ ap Entry.blocks (same_entry row s (record (entry_at row s) { integer = v }) within)
        ∙ ap (λ n. blocks_at row n) (sym same) ∙ each.0
    cases false e = ap Entry.blocks (other_entry row s t (record (entry_at row s) { integer = v }) (differs s t e)) ∙ each.0

-- a block that is not held
pub without_none : (hs : List Held) (b : Name) → blocks_under hs b ≡ [] → without hs b ≡ hs
without_none [] b none = refl
without_none (h ∷ hs) b none = cases (bytes_eq h.name b) refl (λ n. without_none hs b n)
  where
    cases : (t : Bool) → bytes_eq h.name b ≡ t → (blocks_under hs b ≡ [] → without hs b ≡ hs) → without (h ∷ hs) b ≡ h ∷ hs
    cases true e told =
        let some : blocks_under (h ∷ hs) b ≡ h.items ∷ blocks_under hs b = rw e refl in
        let never : ⊥ = let x = sym some ∙ none in cc in absurd never
    cases false e told =
        let rest : blocks_under hs b ≡ [] = sym (let some : blocks_under (h ∷ hs) b ≡ blocks_under hs b = rw e refl in some) ∙ none in
        let kept : without (h ∷ hs) b ≡ h ∷ without hs b = rw e refl in
        kept ∙ ap (λ xs. h ∷ xs) (told rest)
