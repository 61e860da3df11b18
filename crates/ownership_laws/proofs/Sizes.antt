-- The numbers that are held under a name, all its blocks together: sizes add up as counts do, and of one block the size
-- is its length.
use Rattle.std.specs.Prelude.{◌≡◌, ℕ, ◌+◌, ◌≤◌, Bool, true, false, if◌then◌else◌, List, [], ◌∷◌, ◌++◌, length, ℤ, refl}
use Rattle.std.specs.Str.{bytes_eq}
use Rattle.std.proofs.Common.{ap, arith, subst}
use Rattle.depth_first_run.specs.Passed.Tree.{Name}
use Rattle.depth_first_run.specs.Stores.{Held, block_of, without, replaced, with_block, those_named, those_not_named}
use Rattle.ownership_laws.specs.Counts.{count}
use Rattle.ownership_laws.proofs.Counting.{name_same, same_name, hit_true}

-- the number where the names are the same
unfoldable pub weigh : Name → Name → ℕ → ℕ
weigh a b n = if bytes_eq a b then n else 0

unfoldable pub size : List Held → Name → ℕ
size [] x = 0
size (h ∷ hs) x = weigh h.name x (length h.items) + size hs x

pub weigh_same : (a : Name) (n : ℕ) → weigh a a n ≡ n
unfolding weigh
weigh_same a n = ap (λ t. if t then n else 0) (name_same a)

pub weigh_other : (a b : Name) (n : ℕ) → bytes_eq a b ≡ false → weigh a b n ≡ 0
unfolding weigh
weigh_other a b n e = ap (λ t. if t then n else 0) e

zero_or_zero : (t : Bool) → ◌≡◌ {A = ℕ} (if t then 0 else 0) 0
zero_or_zero true = refl
zero_or_zero false = refl

weigh_zero : (a b : Name) → weigh a b 0 ≡ 0
unfolding weigh
weigh_zero a b = zero_or_zero (bytes_eq a b)

pub size_append : (hs gs : List Held) (x : Name) → size (hs ++ gs) x ≡ size hs x + size gs x
unfolding size
size_append [] gs x = omega arith
size_append (h ∷ hs) gs x = let r = size_append hs gs x in omega (arith, r)

pub size_with : (hs : List Held) (b : Name) (xs : List ℤ) (x : Name) → size (with_block hs b xs) x ≡ size hs x + weigh b x (length xs)
unfolding size
size_with hs b xs x = let r = size_append hs (record { name = b; items = xs } ∷ []) x in omega (arith, r)

pub size_without : (hs : List Held) (b x : Name) → size (without hs b) x + weigh b x (length (block_of hs b)) ≡ size hs x
unfolding size
size_without [] b x = let z = weigh_zero b x in omega (arith, z)
size_without (h ∷ hs) b x = by (size_without hs b x) (bytes_eq h.name b) refl
  where
    by : size (without hs b) x + weigh b x (length (block_of hs b)) ≡ size hs x → (t : Bool) → bytes_eq h.name b ≡ t
        → size (if t then hs else h ∷ without hs b) x + weigh b x (length (if t then h.items else block_of hs b)) ≡ weigh h.name x (length h.items) + size hs x
    by r true e = let n : weigh h.name x (length h.items) ≡ weigh b x (length h.items) = ap (λ (a : Name). weigh a x (length h.items)) (same_name h.name b e) in omega (arith, n)
    by r false e = omega (arith, r)

pub size_replaced : (hs : List Held) (b : Name) (xs : List ℤ) (x : Name) → length xs ≡ length (block_of hs b) → size (replaced hs b xs) x ≡ size hs x
unfolding size
size_replaced [] b xs x e = refl
size_replaced (h ∷ hs) b xs x e = by (size_replaced hs b xs x) (bytes_eq h.name b) e
  where
    by : (length xs ≡ length (block_of hs b) → size (replaced hs b xs) x ≡ size hs x) → (t : Bool) → length xs ≡ length (if t then h.items else block_of hs b)
        → size (if t then record { name = h.name; items = xs } ∷ hs else h ∷ replaced hs b xs) x ≡ size (h ∷ hs) x
    by r true l = ap (λ n. weigh h.name x n + size hs x) l
    by r false l = ap (λ n. weigh h.name x (length h.items) + n) (r l)

pub size_parted : (named : Name → Bool) (hs : List Held) (x : Name) → size (those_named named hs) x + size (those_not_named named hs) x ≡ size hs x
unfolding size
size_parted named [] x = refl
size_parted named (h ∷ hs) x = by (size_parted named hs x) (named h.name)
  where
    by : size (those_named named hs) x + size (those_not_named named hs) x ≡ size hs x → (t : Bool)
        → size (if t then h ∷ those_named named hs else those_named named hs) x + size (if t then those_not_named named hs else h ∷ those_not_named named hs) x ≡ weigh h.name x (length h.items) + size hs x
    by r true = omega (arith, r)
    by r false = omega (arith, r)

pub size_none : (hs : List Held) (x : Name) → count hs x ≡ 0 → size hs x ≡ 0
unfolding size count
size_none [] x c = refl
size_none (h ∷ hs) x c = by (size_none hs x) (bytes_eq h.name x) refl
  where
    by : (count hs x ≡ 0 → size hs x ≡ 0) → (t : Bool) → bytes_eq h.name x ≡ t → weigh h.name x (length h.items) + size hs x ≡ 0
    by r true e = let o = hit_true h.name x e in absurd (omega (arith, o, c))
    by r false e = let z = weigh_other h.name x (length h.items) e in let d = r (omega (arith, c)) in omega (arith, z, d)

-- of at most one block of a name, the size is its length
pub size_one : (hs : List Held) (b : Name) → count hs b ≤ 1 → size hs b ≡ length (block_of hs b)
unfolding size count
size_one [] b c = refl
size_one (h ∷ hs) b c = by (size_one hs b) (size_none hs b) (bytes_eq h.name b) refl
  where
    by : (count hs b ≤ 1 → size hs b ≡ length (block_of hs b)) → (count hs b ≡ 0 → size hs b ≡ 0) → (t : Bool) → bytes_eq h.name b ≡ t
        → weigh h.name b (length h.items) + size hs b ≡ length (if t then h.items else block_of hs b)
    by r n true e =
        let o = hit_true h.name b e in let z = n (omega (arith, o, c)) in
        let w : weigh h.name b (length h.items) ≡ length h.items = subst (λ (a : Name). weigh h.name a (length h.items) ≡ length h.items) (same_name h.name b e) (weigh_same h.name (length h.items)) in
        omega (arith, w, z)
    by r n false e = let z = weigh_other h.name b (length h.items) e in let q = r (omega (arith, c)) in omega (arith, z, q)
