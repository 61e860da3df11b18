-- The words of all slots are those of the store that they show.
use Rattle.std.proofs.Common.{◌≡◌, ℕ, ◌+◌, ◌-◌, ◌<◌, ◌||◌, zero, suc, Bool, true, false, List, [], ◌∷◌, length, refl, sym, ap, ◌∙◌, arith}
use Rattle.std.specs.Str.{bytes_eq}
use Rattle.depth_first_run.specs.Passed.Tree.{Name}
use Rattle.depth_first_run.specs.Passed.Names.{is_among}
use Rattle.node_table.specs.Names.{name_at}
use Rattle.block_arena.specs.Region.{Region, region_of, with_given}
use Rattle.depth_first_run.specs.Stores.{Store, Held, block_words, held_words}
use Rattle.slot_store.specs.Rows.{Entry, words_of, row_words}
use Rattle.slot_store.specs.Agreement.{blocks_under, row_of, AreDistinct, ShowsStore}
use Rattle.slot_store.proofs.Names.{same_name, is_itself, other_way, rest_distinct, head_differs}

pub given_more : (p : Region) (a b : ℕ) → with_given (with_given p a) b ≡ with_given p (a + b)
given_more p a b =
    let left : p.live - a - b ≡ p.live - (a + b) = omega arith in
    ap (λ n. region_of p.capacity n p.high) left

pub given_none : (p : Region) → with_given p 0 ≡ p
given_none p =
    let left : p.live - 0 ≡ p.live = omega arith in
    ap (λ n. region_of p.capacity n p.high) left

-- the words of what is held under some names
words_under : List Name → List Held → ℕ
words_under [] hs = 0
words_under (x ∷ xs) hs = words_of (blocks_under hs x) + words_under xs hs

row_is : (names : List Name) (store : Store) → row_words (row_of names store) ≡ words_under names store.blocks
unfolding words_under
row_is [] store = refl
row_is (x ∷ xs) store = ap (λ n. words_of (blocks_under store.blocks x) + n) (row_is xs store)

nothing_under : (names : List Name) → words_under names [] ≡ 0
unfolding words_under
nothing_under [] = refl
nothing_under (x ∷ xs) = let rest = nothing_under xs in omega (arith, rest)

-- a block of another name adds nothing
added_other : (h : Held) (hs : List Held) (names : List Name) → ((j : ℕ) → j < length names → bytes_eq h.name (name_at names j) ≡ false) →
    words_under names (h ∷ hs) ≡ words_under names hs
unfolding words_under
added_other h hs [] other = refl
added_other h hs (x ∷ xs) other =
    let first : bytes_eq h.name x ≡ false = other zero (omega arith) in
    let rest = added_other h hs xs (λ j below. other (suc j) (omega arith)) in
    let here : words_of (blocks_under (h ∷ hs) x) ≡ words_of (blocks_under hs x) = rw first refl in
    omega (arith, here, rest)

or_rest : (a b : Bool) → a ≡ false → (a || b) ≡ true → b ≡ true
or_rest a b none some = rw none at some

-- a block of one of the names adds its words
added : (h : Held) (hs : List Held) (names : List Name) → AreDistinct names → is_among h.name names ≡ true →
    words_under names (h ∷ hs) ≡ block_words (length h.items) + words_under names hs
unfolding words_under
added h hs [] distinct among = let never : ⊥ = cc in absurd never
added h hs (x ∷ xs) distinct among = cases (bytes_eq h.name x) refl (added h hs xs (rest_distinct x xs distinct))
  where
    cases : (t : Bool) → bytes_eq h.name x ≡ t →
        (is_among h.name xs ≡ true → words_under xs (h ∷ hs) ≡ block_words (length h.items) + words_under xs hs) →
        words_under (x ∷ xs) (h ∷ hs) ≡ block_words (length h.items) + words_under (x ∷ xs) hs
    cases true e told =
        let here : words_of (blocks_under (h ∷ hs) x) ≡ block_words (length h.items) + words_of (blocks_under hs x) = rw e refl in
        let same = same_name h.name x e in
        let rest = added_other h hs xs (λ j below. ap (λ y. bytes_eq y (name_at xs j)) same ∙ head_differs x xs distinct j below) in
        omega (arith, here, rest)
    cases false e told =
        let here : words_of (blocks_under (h ∷ hs) x) ≡ words_of (blocks_under hs x) = rw e refl in
        let rest = told (or_rest (bytes_eq x h.name) (is_among h.name xs) (other_way h.name x e) among) in
        omega (arith, here, rest)

-- what is held under a name, with one block less
module _ (names : List Name) (h : Held) (hs : List Held) (known : (x : Name) → is_among x names ≡ false → blocks_under (h ∷ hs) x ≡ []) where
  is_known : is_among h.name names ≡ true
  is_known = cases (is_among h.name names) refl
    where
      cases : (t : Bool) → is_among h.name names ≡ t → is_among h.name names ≡ true
      cases true e = e
      cases false e =
          let some : blocks_under (h ∷ hs) h.name ≡ h.items ∷ blocks_under hs h.name = rw (is_itself h.name) refl in
          let none : h.items ∷ blocks_under hs h.name ≡ [] = sym some ∙ known h.name e in
          let never : ⊥ = cc in absurd never

  rest_known : (x : Name) → is_among x names ≡ false → blocks_under hs x ≡ []
  rest_known x e = cases (bytes_eq h.name x) refl
    where
      cases : (t : Bool) → bytes_eq h.name x ≡ t → blocks_under hs x ≡ []
      cases true same =
          let some : blocks_under (h ∷ hs) x ≡ h.items ∷ blocks_under hs x = rw same refl in
          let none : h.items ∷ blocks_under hs x ≡ [] = sym some ∙ known x e in
          let never : ⊥ = cc in absurd never
      cases false other =
          let same : blocks_under (h ∷ hs) x ≡ blocks_under hs x = rw other refl in
          sym same ∙ known x e

all_under : (names : List Name) (hs : List Held) → AreDistinct names → ((x : Name) → is_among x names ≡ false → blocks_under hs x ≡ []) →
    words_under names hs ≡ held_words hs
all_under names [] distinct known = nothing_under names
all_under names (h ∷ hs) distinct known =
    added h hs names distinct (is_known names h hs known)
    ∙ ap (λ n. block_words (length h.items) + n) (all_under names hs distinct (rest_known names h hs known))

pub words_are : (names : List Name) (row : List Entry) (store : Store) → ShowsStore names row store → row_words row ≡ held_words store.blocks
words_are names row store shows =
    ap row_words shows.slots ∙ row_is names store ∙ all_under names store.blocks shows.distinct shows.known
