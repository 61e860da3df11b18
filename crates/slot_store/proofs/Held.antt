-- What is held under a name, behind each change of a store.
use Rattle.std.proofs.Common.{◌≡◌, Bool, true, false, List, [], ◌∷◌, ◌++◌, ℤ, refl, sym, ap, ◌∙◌}
use Rattle.std.specs.Prelude.{if◌then◌else◌}
use Rattle.std.specs.Str.{bytes_eq}
use Rattle.depth_first_run.specs.Passed.Tree.{Name}
use Rattle.depth_first_run.specs.Stores.{Held, block_of, without, replaced, those_named, those_not_named}
use Rattle.slot_store.specs.Rows.{first_of}
use Rattle.slot_store.specs.Agreement.{blocks_under}
use Rattle.slot_store.proofs.Names.{same_name}

-- all but the first one
abbrev pub rest_of : List (List ℤ) → List (List ℤ)
rest_of [] = []
rest_of (items ∷ rest) = rest

pub under_append : (hs others : List Held) (x : Name) → blocks_under (hs ++ others) x ≡ blocks_under hs x ++ blocks_under others x
under_append [] others x = refl
under_append (h ∷ hs) others x = cases (bytes_eq h.name x) refl (under_append hs others x)
  where
    cases : (t : Bool) → bytes_eq h.name x ≡ t → blocks_under (hs ++ others) x ≡ blocks_under hs x ++ blocks_under others x →
        blocks_under (h ∷ hs ++ others) x ≡ blocks_under (h ∷ hs) x ++ blocks_under others x
    cases true e told = rw e (ap (λ bs. h.items ∷ bs) told)
    cases false e told = rw e told

pub block_under : (hs : List Held) (b : Name) → block_of hs b ≡ first_of (blocks_under hs b)
block_under [] b = refl
block_under (h ∷ hs) b = cases (bytes_eq h.name b) refl (block_under hs b)
  where
    cases : (t : Bool) → bytes_eq h.name b ≡ t → block_of hs b ≡ first_of (blocks_under hs b) →
        block_of (h ∷ hs) b ≡ first_of (blocks_under (h ∷ hs) b)
    cases true e told = rw e refl
    cases false e told = rw e told

pub without_this : (hs : List Held) (b : Name) → blocks_under (without hs b) b ≡ rest_of (blocks_under hs b)
without_this [] b = refl
without_this (h ∷ hs) b = cases (bytes_eq h.name b) refl (without_this hs b)
  where
    cases : (t : Bool) → bytes_eq h.name b ≡ t → blocks_under (without hs b) b ≡ rest_of (blocks_under hs b) →
        blocks_under (without (h ∷ hs) b) b ≡ rest_of (blocks_under (h ∷ hs) b)
    cases true e told = rw e refl
    cases false e told = rw e (rw e told)

-- a name that is another than b
module _ (b x : Name) (other : bytes_eq b x ≡ false) where
  not_both : (n : Name) → bytes_eq n b ≡ true → bytes_eq n x ≡ false
  not_both n e = ap (λ y. bytes_eq y x) (same_name n b e) ∙ other

  pub without_other : (hs : List Held) → blocks_under (without hs b) x ≡ blocks_under hs x
  without_other [] = refl
  without_other (h ∷ hs) = without_case h hs (bytes_eq h.name b) refl (without_other hs)
    where
      without_case : (h : Held) (hs : List Held) (t : Bool) → bytes_eq h.name b ≡ t →
          blocks_under (without hs b) x ≡ blocks_under hs x → blocks_under (without (h ∷ hs) b) x ≡ blocks_under (h ∷ hs) x
      without_case h hs true e told = rw (e, not_both h.name e) refl
      without_case h hs false e told = rw e (ap (λ bs. if bytes_eq h.name x then h.items ∷ bs else bs) told)

  pub replaced_other : (hs : List Held) (items : List ℤ) → blocks_under (replaced hs b items) x ≡ blocks_under hs x
  replaced_other [] items = refl
  replaced_other (h ∷ hs) items = replaced_case h hs (bytes_eq h.name b) refl (replaced_other hs items)
    where
      replaced_case : (h : Held) (hs : List Held) (t : Bool) → bytes_eq h.name b ≡ t →
          blocks_under (replaced hs b items) x ≡ blocks_under hs x → blocks_under (replaced (h ∷ hs) b items) x ≡ blocks_under (h ∷ hs) x
      replaced_case h hs true e told = rw (e, not_both h.name e) refl
      replaced_case h hs false e told = rw e (ap (λ bs. if bytes_eq h.name x then h.items ∷ bs else bs) told)

-- the block of a name has other numbers, where there is one
abbrev pub first_replaced : List ℤ → List (List ℤ) → List (List ℤ)
first_replaced items [] = []
first_replaced items (old ∷ rest) = items ∷ rest

pub replaced_this : (hs : List Held) (b : Name) (items : List ℤ) → blocks_under (replaced hs b items) b ≡ first_replaced items (blocks_under hs b)
replaced_this [] b items = refl
replaced_this (h ∷ hs) b items = cases (bytes_eq h.name b) refl (replaced_this hs b items)
  where
    cases : (t : Bool) → bytes_eq h.name b ≡ t → blocks_under (replaced hs b items) b ≡ first_replaced items (blocks_under hs b) →
        blocks_under (replaced (h ∷ hs) b items) b ≡ first_replaced items (blocks_under (h ∷ hs) b)
    cases true e told = rw e (rw e refl)
    cases false e told = rw e (rw e told)

-- the blocks whose names pass, and the others
pub under_named : (named : Name → Bool) (hs : List Held) (x : Name) →
    blocks_under (those_named named hs) x ≡ (if named x then blocks_under hs x else [])
under_named named [] x = cases (named x)
  where
    cases : (t : Bool) → ◌≡◌ {A = List (List ℤ)} [] (if t then [] else [])
    cases true = refl
    cases false = refl
under_named named (h ∷ hs) x = cases (named h.name) refl (bytes_eq h.name x) refl (under_named named hs x)
  where
    cases : (t : Bool) → named h.name ≡ t → (q : Bool) → bytes_eq h.name x ≡ q →
        blocks_under (those_named named hs) x ≡ (if named x then blocks_under hs x else []) →
        blocks_under (those_named named (h ∷ hs)) x ≡ (if named x then blocks_under (h ∷ hs) x else [])
    cases true e true same told =
        let passes : named x ≡ true = ap named (sym (same_name h.name x same)) ∙ e in
        rw (e, same, passes) (ap (λ bs. h.items ∷ bs) (rw passes at told))
    cases true e false same told = rw (e, same) told
    cases false e true same told =
        let fails : named x ≡ false = ap named (sym (same_name h.name x same)) ∙ e in
        rw (e, fails) (rw fails at told)
    cases false e false same told = rw (e, same) told

pub under_not_named : (named : Name → Bool) (hs : List Held) (x : Name) →
    blocks_under (those_not_named named hs) x ≡ (if named x then [] else blocks_under hs x)
under_not_named named [] x = cases (named x)
  where
    cases : (t : Bool) → ◌≡◌ {A = List (List ℤ)} [] (if t then [] else [])
    cases true = refl
    cases false = refl
under_not_named named (h ∷ hs) x = cases (named h.name) refl (bytes_eq h.name x) refl (under_not_named named hs x)
  where
    cases : (t : Bool) → named h.name ≡ t → (q : Bool) → bytes_eq h.name x ≡ q →
        blocks_under (those_not_named named hs) x ≡ (if named x then [] else blocks_under hs x) →
        blocks_under (those_not_named named (h ∷ hs)) x ≡ (if named x then [] else blocks_under (h ∷ hs) x)
    cases true e true same told =
        let passes : named x ≡ true = ap named (sym (same_name h.name x same)) ∙ e in
        rw (e, passes) (rw passes at told)
    cases true e false same told = rw (e, same) told
    cases false e true same told =
        let fails : named x ≡ false = ap named (sym (same_name h.name x same)) ∙ e in
        rw (e, same, fails) (ap (λ bs. h.items ∷ bs) (rw fails at told))
    cases false e false same told = rw (e, same) told
