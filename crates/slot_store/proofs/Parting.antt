-- The slots that are moved one by one.
use Rattle.std.proofs.Common.{◌≡◌, ℕ, zero, suc, ◌+◌, ◌<◌, ◌≤◌, Bool, true, false, ◌||◌, nat_eq, nat_lt, List, [], ◌∷◌, ◌++◌, length, map, get_or, ℤ, refl, sym, ap, ◌∙◌, subst, arith, rules, length-set, append-nil}
use Rattle.std.specs.Prelude.{if◌then◌else◌}
use Rattle.std.proofs.lemmas.List.{length-map, get_or_past}
use Rattle.node_table.specs.Reading.{FitsSlots}
use Rattle.slot_store.specs.Rows.{Entry, blank, entry_at, integer_at, blocks_at, with_integer_at, with_blocks_at, without_block}
use Rattle.slot_store.specs.Forks.{is_in, Parts, child_entry, kept_entry, with_integers_of, joined_blocks, or_own}
use Rattle.slot_store.proofs.Rows.{other_entry, same_entry}

pub fits_at : (n : ℕ) (slots : List ℕ) (i d : ℕ) → FitsSlots n slots → i < length slots → get_or slots i d < n
fits_at n [] i d fits within = absurd (omega arith)
fits_at n (s ∷ rest) zero d fits within = fits.0
fits_at n (s ∷ rest) (suc i) d fits within = fits_at n rest i d fits.1 (omega arith)

-- one slot more
pub in_next : (j : ℕ) (slots : List ℕ) (s : ℕ) → is_in j (slots ++ s ∷ []) ≡ (is_in j slots || nat_eq s j)
in_next j [] s = cases (nat_eq s j)
  where
    cases : (t : Bool) → (t || false) ≡ (false || t)
    cases true = refl
    cases false = refl
in_next j (t ∷ ts) s = ap (λ b. nat_eq t j || b) (in_next j ts s) ∙ grouped (nat_eq t j) (is_in j ts) (nat_eq s j)
  where
    grouped : (a b c : Bool) → (a || (b || c)) ≡ (a || b || c)
    grouped true b c = refl
    grouped false b c = refl

or_true : (b : Bool) → (b || true) ≡ true
or_true true = refl
or_true false = refl

or_false : (b : Bool) → (b || false) ≡ b
or_false true = refl
or_false false = refl

eq_self : (s : ℕ) → nat_eq s s ≡ true
eq_self s = search rules

pub in_now : (slots : List ℕ) (s : ℕ) → is_in s (slots ++ s ∷ []) ≡ true
in_now slots s = in_next s slots s ∙ ap (λ b. is_in s slots || b) (eq_self s) ∙ or_true (is_in s slots)

pub in_other : (j : ℕ) (slots : List ℕ) (s : ℕ) → (j ≡ s → ⊥) → is_in j (slots ++ s ∷ []) ≡ is_in j slots
in_other j slots s differ = in_next j slots s ∙ ap (λ b. is_in j slots || b) apart ∙ or_false (is_in j slots)
  where
    apart : nat_eq s j ≡ false
    apart = cases (nat_eq s j) refl
      where
        cases : (t : Bool) → nat_eq s j ≡ t → nat_eq s j ≡ false
        cases true e = let same : s ≡ j = search rules in absurd (differ (sym same))
        cases false e = e

pub same_or_other : (j s : ℕ) (P : Type 0) → (j ≡ s → P) → ((j ≡ s → ⊥) → P) → P
same_or_other j s P same other = cases (nat_eq j s) refl
  where
    cases : (t : Bool) → nat_eq j s ≡ t → P
    cases true e = let is : j ≡ s = search rules in same is
    cases false e = other (λ is. let yes : nat_eq j s ≡ true = ap (λ k. nat_eq k s) is ∙ eq_self s in let never : ⊥ = cc in never)

bare_entry : (row : List Entry) (s : ℕ) → entry_at (map without_block row) s ≡ child_entry row [] s
bare_entry [] s = refl
bare_entry (e ∷ row) zero = refl
bare_entry (e ∷ row) (suc s) = bare_entry row s

pub parts_start : (row child : List Entry) → child ≡ map without_block row → Parts [] row child row
parts_start row child is = record {
  child_count = ap length is ∙ length-map row without_block;
  kept_count = refl;
  child_has = λ s. ap (λ (r : List Entry). entry_at r s) is ∙ bare_entry row s;
  parent_has = λ s. refl;
}

chosen : (t : Bool) (bs : List (List ℤ)) → or_own (if t then [] else bs) (if t then bs else []) ≡ bs
chosen true bs = refl
chosen false [] = refl
chosen false (b ∷ bs) = refl

module _ (slots : List ℕ) (s : ℕ) (row child kept : List Entry) (parts : Parts slots row child kept) (within : s < length row) where
  moved : List (List ℤ)
  moved = or_own (blocks_at kept s) (blocks_at child s)

  moved_is : moved ≡ blocks_at row s
  unfolding moved
  moved_is =
      ap (λ (e : Entry). or_own e.blocks (blocks_at child s)) (parts.parent_has s)
      ∙ ap (λ (e : Entry). or_own (Entry.blocks (kept_entry row slots s)) e.blocks) (parts.child_has s)
      ∙ chosen (is_in s slots) (blocks_at row s)

  child_next : (j : ℕ) → entry_at (with_blocks_at child s moved) j ≡ child_entry row (slots ++ s ∷ []) j
  child_next j = same_or_other j s _ (λ is. subst (λ j. entry_at (with_blocks_at child s moved) j ≡ child_entry row (slots ++ s ∷ []) j) (sym is) here) there
    where
      here : entry_at (with_blocks_at child s moved) s ≡ child_entry row (slots ++ s ∷ []) s
      here =
          let inside : s < length child = omega (arith, parts.child_count) in
          same_entry child s (record (entry_at child s) { blocks = moved }) inside
          ∙ λ k. record {
            integer = ap Entry.integer (parts.child_has s) k;
            blocks = (moved_is ∙ ap (λ b. if b then blocks_at row s else []) (sym (in_now slots s))) k;
          }

      there : (j ≡ s → ⊥) → entry_at (with_blocks_at child s moved) j ≡ child_entry row (slots ++ s ∷ []) j
      there differ =
          other_entry child s j (record (entry_at child s) { blocks = moved }) differ ∙ parts.child_has j
          ∙ λ k. record { integer = integer_at row j; blocks = ap (λ b. if b then blocks_at row j else []) (sym (in_other j slots s differ)) k }

  kept_next : (j : ℕ) → entry_at (with_blocks_at kept s []) j ≡ kept_entry row (slots ++ s ∷ []) j
  kept_next j = same_or_other j s _ (λ is. subst (λ j. entry_at (with_blocks_at kept s []) j ≡ kept_entry row (slots ++ s ∷ []) j) (sym is) here) there
    where
      here : entry_at (with_blocks_at kept s []) s ≡ kept_entry row (slots ++ s ∷ []) s
      here =
          let inside : s < length kept = omega (arith, parts.kept_count) in
          same_entry kept s (record (entry_at kept s) { blocks = [] }) inside
          ∙ λ k. record {
            integer = ap Entry.integer (parts.parent_has s) k;
            blocks = ap (λ b. if b then [] else blocks_at row s) (sym (in_now slots s)) k;
          }

      there : (j ≡ s → ⊥) → entry_at (with_blocks_at kept s []) j ≡ kept_entry row (slots ++ s ∷ []) j
      there differ =
          other_entry kept s j (record (entry_at kept s) { blocks = [] }) differ ∙ parts.parent_has j
          ∙ λ k. record { integer = integer_at row j; blocks = ap (λ b. if b then [] else blocks_at row j) (sym (in_other j slots s differ)) k }

  pub parts_next : (child_new kept_new : List Entry) → child_new ≡ with_blocks_at child s (or_own (blocks_at kept s) (blocks_at child s)) →
      kept_new ≡ with_blocks_at kept s [] → Parts (slots ++ s ∷ []) row child_new kept_new
  unfolding moved
  parts_next child_new kept_new child_is kept_is = record {
    child_count = ap length child_is ∙ length-set child s _ ∙ parts.child_count;
    kept_count = ap length kept_is ∙ length-set kept s _ ∙ parts.kept_count;
    child_has = λ j. ap (λ (r : List Entry). entry_at r j) child_is ∙ child_next j;
    parent_has = λ j. ap (λ (r : List Entry). entry_at r j) kept_is ∙ kept_next j;
  }

-- the integers that a child brings back, one by one
pub integers_next : (own child now new : List Entry) (slots : List ℕ) (s : ℕ) → s < length now →
    ((j : ℕ) → entry_at now j ≡ with_integers_of own child slots j) → new ≡ with_integer_at now s (integer_at child s) →
    (j : ℕ) → entry_at new j ≡ with_integers_of own child (slots ++ s ∷ []) j
integers_next own child now new slots s within has is j =
    ap (λ (r : List Entry). entry_at r j) is
    ∙ same_or_other j s _ (λ same. subst (λ j. entry_at (with_integer_at now s (integer_at child s)) j ≡ with_integers_of own child (slots ++ s ∷ []) j) (sym same) here) there
  where
    here : entry_at (with_integer_at now s (integer_at child s)) s ≡ with_integers_of own child (slots ++ s ∷ []) s
    here =
        same_entry now s (record (entry_at now s) { integer = integer_at child s }) within
        ∙ λ k. record {
          integer = ap (λ b. if b then integer_at child s else integer_at own s) (sym (in_now slots s)) k;
          blocks = ap Entry.blocks (has s) k;
        }

    there : (j ≡ s → ⊥) → entry_at (with_integer_at now s (integer_at child s)) j ≡ with_integers_of own child (slots ++ s ∷ []) j
    there differ =
        other_entry now s j (record (entry_at now s) { integer = integer_at child s }) differ ∙ has j
        ∙ λ k. record {
          integer = ap (λ b. if b then integer_at child j else integer_at own j) (sym (in_other j slots s differ)) k;
          blocks = blocks_at own j;
        }

-- the blocks of the first n slots are brought back
abbrev pub joined_first : List Entry → List Entry → ℕ → ℕ → Entry
joined_first own child n s = record {
  integer = integer_at own s;
  blocks = if nat_lt s n then blocks_at own s ++ blocks_at child s else blocks_at own s;
}

abbrev pub left_first : List Entry → ℕ → ℕ → List (List ℤ)
left_first child n s = if nat_lt s n then [] else blocks_at child s

one_of_both : (own child : List (List ℤ)) → length own + length child ≤ 1 → or_own child own ≡ own ++ child
one_of_both own [] most = sym (append-nil own)
one_of_both [] (b ∷ bs) most = refl
one_of_both (a ∷ as_) (b ∷ bs) most = absurd (omega arith)

before_next : (j n : ℕ) → (j ≡ n → ⊥) → nat_lt j (n + 1) ≡ nat_lt j n
before_next j n differ = cases (nat_lt j n) refl
  where
    cases : (t : Bool) → nat_lt j n ≡ t → nat_lt j (n + 1) ≡ nat_lt j n
    cases true e =
        let below : j < n = search rules in
        let more : nat_lt j (n + 1) ≡ true = search rules in
        more ∙ sym e
    cases false e =
        let past : n ≤ j = search rules in
        let more : nat_lt j (n + 1) ≡ false = cases_more (nat_lt j (n + 1)) refl past in
        more ∙ sym e
      where
        cases_more : (t : Bool) → nat_lt j (n + 1) ≡ t → n ≤ j → nat_lt j (n + 1) ≡ false
        cases_more true e past = let under : j < n + 1 = search rules in absurd (differ (omega arith))
        cases_more false e past = e

is_before : (n : ℕ) → nat_lt n (n + 1) ≡ true
is_before n = let below : n < n + 1 = omega arith in search rules

not_before : (n : ℕ) → nat_lt n n ≡ false
not_before n = let past : n ≤ n = omega arith in search rules

module _ (own child now left : List Entry) (n : ℕ) (within : n < length now) (within_left : n < length left)
    (most : length (blocks_at own n) + length (blocks_at child n) ≤ 1)
    (has : (j : ℕ) → entry_at now j ≡ joined_first own child n j) (keeps : (j : ℕ) → blocks_at left j ≡ left_first child n j) where
  come : List (List ℤ)
  come = or_own (blocks_at left n) (blocks_at now n)

  come_is : come ≡ blocks_at own n ++ blocks_at child n
  unfolding come
  come_is =
      ap (λ bs. or_own bs (blocks_at now n)) (keeps n ∙ ap (λ b. if b then [] else blocks_at child n) (not_before n))
      ∙ ap (λ (bs : List (List ℤ)). or_own (blocks_at child n) bs)
      (ap Entry.blocks (has n) ∙ ap (λ b. if b then blocks_at own n ++ blocks_at child n else blocks_at own n) (not_before n))
      ∙ one_of_both (blocks_at own n) (blocks_at child n) most

  pub blocks_next : (new : List Entry) → new ≡ with_blocks_at now n (or_own (blocks_at left n) (blocks_at now n)) → (j : ℕ) →
      entry_at new j ≡ joined_first own child (n + 1) j
  unfolding come
  blocks_next new is j =
      ap (λ (r : List Entry). entry_at r j) is
      ∙ same_or_other j n _ (λ same. subst (λ j. entry_at (with_blocks_at now n come) j ≡ joined_first own child (n + 1) j) (sym same) here) there
    where
      here : entry_at (with_blocks_at now n come) n ≡ joined_first own child (n + 1) n
      here =
          same_entry now n (record (entry_at now n) { blocks = come }) within
          ∙ λ k. record {
            integer = ap Entry.integer (has n) k;
            blocks = (come_is ∙ ap (λ b. if b then blocks_at own n ++ blocks_at child n else blocks_at own n) (sym (is_before n))) k;
          }

      there : (j ≡ n → ⊥) → entry_at (with_blocks_at now n come) j ≡ joined_first own child (n + 1) j
      there differ =
          other_entry now n j (record (entry_at now n) { blocks = come }) differ ∙ has j
          ∙ λ k. record {
            integer = integer_at own j;
            blocks = ap (λ b. if b then blocks_at own j ++ blocks_at child j else blocks_at own j) (sym (before_next j n differ)) k;
          }

  pub left_next : (new : List Entry) → new ≡ with_blocks_at left n [] → (j : ℕ) → blocks_at new j ≡ left_first child (n + 1) j
  left_next new is j =
      ap (λ (r : List Entry). blocks_at r j) is
      ∙ same_or_other j n _ (λ same. subst (λ j. blocks_at (with_blocks_at left n []) j ≡ left_first child (n + 1) j) (sym same) here) there
    where
      here : blocks_at (with_blocks_at left n []) n ≡ left_first child (n + 1) n
      here =
          ap Entry.blocks (same_entry left n (record (entry_at left n) { blocks = [] }) within_left)
          ∙ ap (λ b. if b then [] else blocks_at child n) (sym (is_before n))

      there : (j ≡ n → ⊥) → blocks_at (with_blocks_at left n []) j ≡ left_first child (n + 1) j
      there differ =
          ap Entry.blocks (other_entry left n j (record (entry_at left n) { blocks = [] }) differ) ∙ keeps j
          ∙ ap (λ b. if b then [] else blocks_at child j) (sym (before_next j n differ))

-- all blocks are brought back
pub blocks_all : (own child now : List Entry) (n : ℕ) → length child ≡ length own → length own ≤ n →
    ((j : ℕ) → entry_at now j ≡ joined_first own child n j) → (j : ℕ) → entry_at now j ≡ joined_blocks own child j
blocks_all own child now n count past has j = has j ∙ λ k. record { integer = integer_at own j; blocks = cases (nat_lt j n) refl k }
  where
    cases : (t : Bool) → nat_lt j n ≡ t →
        (if nat_lt j n then blocks_at own j ++ blocks_at child j else blocks_at own j) ≡ blocks_at own j ++ blocks_at child j
    cases true e = rw e refl
    cases false e =
        let beyond : n ≤ j = search rules in
        let none : blocks_at child j ≡ [] = ap Entry.blocks (get_or_past child j blank (omega (arith, count))) in
        rw (e, none) (sym (append-nil (blocks_at own j)))

pub below_or_past : (s n : ℕ) (P : Type 0) → (s < n → P) → (n ≤ s → P) → P
below_or_past s n P below past = cases (nat_lt s n) refl
  where
    cases : (t : Bool) → nat_lt s n ≡ t → P
    cases true e = below (search rules)
    cases false e = past (search rules)
