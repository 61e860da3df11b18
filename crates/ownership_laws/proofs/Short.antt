-- Blocks that have no more numbers than a block may have: what a run does to the blocks of a thread leaves them so.
use Rattle.std.specs.Prelude.{◌≡◌, ℕ, ◌+◌, ◌≤◌, nat_le, Bool, true, false, if◌then◌else◌, List, [], ◌∷◌, ◌++◌, length, take, drop, ℤ, pos, negsuc, Result, Ok, Err, Option, Some, None, refl}
use Rattle.std.specs.Str.{bytes_eq}
use Rattle.std.proofs.Common.{ap, arith, subst, length-append}
use Rattle.std.proofs.lemmas.List.{length-take, length-drop}
use borrow.Author.Tests.{leb-true}
use Rattle.language_limits.specs.declared.TheConstants.{LONGEST_BLOCK}
use Rattle.thread_points.specs.Passed.FaultKind.{FaultKind}
use Rattle.depth_first_run.specs.Passed.Tree.{Name, Arg, value, lend, give, Param, Target, unused, integer, block}
use Rattle.depth_first_run.specs.Stores.{Store, Held, block_of, without, replaced, with_block, drop_block, hold_block, those_named, those_not_named}
use Rattle.depth_first_run.specs.Values as values
use Rattle.depth_first_run.specs.Calls.{Passing, pass_integer, pass_block, pass_value, passed, lent_back, Answer, number, items, answered}
use Rattle.depth_first_run.specs.Run.{size_of, cut_block, rejoin_block}
use Rattle.ownership_laws.specs.Holdings.{AreShort}

-- ---- what single changes leave

pub short_append : (hs gs : List Held) → AreShort hs → AreShort gs → AreShort (hs ++ gs)
short_append [] gs p q = q
short_append (h ∷ hs) gs p q = (p.0, short_append hs gs p.1 q)

pub short_with : (hs : List Held) (b : Name) (xs : List ℤ) → AreShort hs → length xs ≤ LONGEST_BLOCK → AreShort (with_block hs b xs)
short_with hs b xs p few = short_append hs (record { name = b; items = xs } ∷ []) p (few, tt)

pub short_block : (hs : List Held) (b : Name) → AreShort hs → length (block_of hs b) ≤ LONGEST_BLOCK
short_block [] b p = omega arith
short_block (h ∷ hs) b p = by p.0 (short_block hs b p.1) (bytes_eq h.name b)
  where
    by : length h.items ≤ LONGEST_BLOCK → length (block_of hs b) ≤ LONGEST_BLOCK → (t : Bool) → length (if t then h.items else block_of hs b) ≤ LONGEST_BLOCK
    by first rest true = first
    by first rest false = rest

pub short_without : (hs : List Held) (b : Name) → AreShort hs → AreShort (without hs b)
short_without [] b p = p
short_without (h ∷ hs) b p = by p.0 p.1 (short_without hs b p.1) (bytes_eq h.name b)
  where
    by : length h.items ≤ LONGEST_BLOCK → AreShort hs → AreShort (without hs b) → (t : Bool) → AreShort (if t then hs else h ∷ without hs b)
    by first all rest true = all
    by first all rest false = (first, rest)

pub short_replaced : (hs : List Held) (b : Name) (xs : List ℤ) → AreShort hs → length xs ≤ LONGEST_BLOCK → AreShort (replaced hs b xs)
short_replaced [] b xs p few = p
short_replaced (h ∷ hs) b xs p few = by p.0 p.1 (short_replaced hs b xs p.1 few) (bytes_eq h.name b)
  where
    by : length h.items ≤ LONGEST_BLOCK → AreShort hs → AreShort (replaced hs b xs) → (t : Bool) → AreShort (if t then record { name = h.name; items = xs } ∷ hs else h ∷ replaced hs b xs)
    by first all rest true = (few, all)
    by first all rest false = (first, rest)

pub short_parted : (named : Name → Bool) (hs : List Held) → AreShort hs → AreShort (those_named named hs) × AreShort (those_not_named named hs)
short_parted named [] p = (tt, tt)
short_parted named (h ∷ hs) p = let rest = short_parted named hs p.1 in by p.0 rest.0 rest.1 (named h.name)
  where
    by : length h.items ≤ LONGEST_BLOCK → AreShort (those_named named hs) → AreShort (those_not_named named hs) → (t : Bool)
        → AreShort (if t then h ∷ those_named named hs else those_named named hs) × AreShort (if t then those_not_named named hs else h ∷ those_not_named named hs)
    by first mine theirs true = ((first, mine), theirs)
    by first mine theirs false = (mine, (first, theirs))

-- ---- a new block, and a `split`

or_zero : Option ℕ → ℕ
or_zero None = 0
or_zero (Some n) = n

pub size_within : (v : ℤ) (n : ℕ) → size_of v ≡ Some n → n ≤ LONGEST_BLOCK
unfolding or_zero
size_within (negsuc m) n e = let never : ⊥ = cc in absurd never
size_within (pos m) n e = by (nat_le m LONGEST_BLOCK) refl e
  where
    by : (t : Bool) → nat_le m LONGEST_BLOCK ≡ t → (let r : Option ℕ = if t then Some m else None in r) ≡ Some n → n ≤ LONGEST_BLOCK
    by true le k = subst (λ i. i ≤ LONGEST_BLOCK) (ap or_zero k) (leb-true m LONGEST_BLOCK le)
    by false le k = let never : ⊥ = cc in absurd never

pub short_cut : (b l r : Name) (at : ℕ) (s : Store) → AreShort s.blocks → AreShort (cut_block b l r at s).blocks
short_cut b l r at s p =
    let xs : List ℤ = block_of s.blocks b in
    let few = short_block s.blocks b p in
    let front = length-take at xs in let back = length-drop at xs in
    let rest : List Held = without s.blocks b in
    short_with (with_block rest l (take at xs)) r (drop at xs)
    (short_with rest l (take at xs) (short_without s.blocks b p) (omega (arith, few, front))) (omega (arith, few, back))

pub short_rejoin : (b l r : Name) (s : Store) → AreShort s.blocks → length (block_of s.blocks l) + length (block_of (drop_block l s).blocks r) ≤ LONGEST_BLOCK
    → AreShort (rejoin_block b l r s).blocks
short_rejoin b l r s p few =
    let xs : List ℤ = block_of s.blocks l in
    let ys : List ℤ = block_of (drop_block l s).blocks r in
    let both = length-append xs ys in
    short_with (without (without s.blocks l) r) b (xs ++ ys) (short_without (without s.blocks l) r (short_without s.blocks l p)) (omega (arith, few, both))

-- ---- a call

-- what a call passes, if no argument faults
unfoldable pub PassesShort : Result Passing FaultKind → Type 0
PassesShort (Ok h) = AreShort h.caller.blocks × AreShort h.callee.blocks
PassesShort (Err kind) = Unit {0}

short_value : (q : Name) (o : values.Outcome) (h : Passing) (rest : Passing → Result Passing FaultKind) → ((v : ℤ) → PassesShort (rest (pass_integer q v h))) → PassesShort (pass_value q o h rest)
unfolding PassesShort
short_value q (Ok v) h rest k = k v
short_value q (Err kind) h rest k = tt

pub passed_short : (s : Store) (qs : List Param) (args : List Arg) (h : Passing) → AreShort h.caller.blocks → AreShort h.callee.blocks → PassesShort (passed s qs args h)
unfolding passed PassesShort
passed_short s [] args h p c = (p, c)
passed_short s (q ∷ qs) [] h p c = (p, c)
passed_short s (q ∷ qs) (value e ∷ args) h p c = short_value q.name (values.value s e) h (passed s qs args) (λ v. passed_short s qs args (pass_integer q.name v h) p c)
passed_short s (q ∷ qs) (lend b ∷ args) h p c =
    passed_short s qs args (pass_block q.name b h) (short_without h.caller.blocks b p) (short_with h.callee.blocks q.name (block_of h.caller.blocks b) c (short_block h.caller.blocks b p))
passed_short s (q ∷ qs) (give b ∷ args) h p c =
    passed_short s qs args (pass_block q.name b h) (short_without h.caller.blocks b p) (short_with h.callee.blocks q.name (block_of h.caller.blocks b) c (short_block h.caller.blocks b p))

pub short_back : (qs : List Param) (args : List Arg) (callee : List Held) (caller : Store) → AreShort callee → AreShort caller.blocks → AreShort (lent_back qs args callee caller).blocks
unfolding lent_back
short_back [] args callee caller c p = p
short_back (q ∷ qs) [] callee caller c p = p
short_back (q ∷ qs) (value e ∷ args) callee caller c p = short_back qs args callee caller c p
short_back (q ∷ qs) (lend b ∷ args) callee caller c p =
    short_back qs args (without callee q.name) (hold_block b (block_of callee q.name) caller) (short_without callee q.name c)
    (short_with caller.blocks b (block_of callee q.name) p (short_block callee q.name c))
short_back (q ∷ qs) (give b ∷ args) callee caller c p = short_back qs args callee caller c p

-- an answer, which may be a block
abbrev pub IsShort : Answer → Type 0
IsShort (number v) = Unit {0}
IsShort (items xs) = length xs ≤ LONGEST_BLOCK

pub short_answered : (t : Target) (a : Answer) (s : Store) → IsShort a → AreShort s.blocks → AreShort (answered t a s).blocks
short_answered unused a s few p = p
short_answered (integer x) (number v) s few p = p
short_answered (integer x) (items xs) s few p = p
short_answered (block b) (number v) s few p = p
short_answered (block b) (items xs) s few p = short_with s.blocks b xs p few
