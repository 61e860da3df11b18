-- How the words that a store holds change with what it holds.
use Rattle.std.specs.Prelude.{◌≡◌, ℕ, ◌+◌, ◌*◌, ◌-◌, ◌≤◌, ◌<◌, Bool, true, false, if◌then◌else◌, List, [], ◌∷◌, ◌++◌, length, ℤ, Result, Ok, Err, refl}
use Rattle.std.specs.Int.{div_ceil}
use Rattle.std.specs.Str.{bytes_eq}
use Rattle.std.proofs.Common.{◌∙◌, ap, arith}
use Rattle.std.proofs.lemmas.Grind.{div_ceil_times}
use Rattle.depth_first_list.specs.Passed.FaultKind.{FaultKind}
use Rattle.par_tree.specs.Tree.{Name, Arg, value, lend, give, Param, Target, unused, integer, block}
use Rattle.depth_first_run.specs.Stores.{Store, Held, block_of, without, replaced, with_block, hold_block, those_named, those_not_named, block_words, held_words}
use Rattle.depth_first_run.specs.Values as values
use Rattle.depth_first_run.specs.Calls.{Passing, pass_integer, pass_block, pass_value, passed, lent_back, Answer, number, items, answered}

-- the words of a block are its numbers, rounded up to whole pieces
pub words_bounds : (n : ℕ) → (n ≤ block_words n) × (block_words n < n + 16)
unfolding block_words
words_bounds n = let t = div_ceil_times n 16 (omega arith) in (omega (arith, t), omega (arith, t))

pub words_whole : (n : ℕ) → (p : ℕ) × (block_words n ≡ 16 * p)
unfolding block_words
words_whole n = (div_ceil n 16, refl)

-- two parts have at most the words of the whole, where the first is whole pieces
pub cut_words : (n at q : ℕ) → at ≡ 16 * q → at ≤ n → block_words at + block_words (n - at) ≤ block_words n
cut_words n at q whole le =
    let a = words_bounds at in let b = words_bounds (n - at) in let c = words_bounds n in
    let x = words_whole at in let y = words_whole (n - at) in let z = words_whole n in
    let x1 = x.1 in let y1 = y.1 in let z1 = z.1 in
    omega (arith, whole, le, a, b, c, x1, y1, z1)

-- and the whole has at most the words of its parts
pub joined_words : (n m : ℕ) → block_words (n + m) ≤ block_words n + block_words m
joined_words n m =
    let a = words_bounds n in let b = words_bounds m in let c = words_bounds (n + m) in
    let x = words_whole n in let y = words_whole m in let z = words_whole (n + m) in
    let x1 = x.1 in let y1 = y.1 in let z1 = z.1 in
    omega (arith, a, b, c, x1, y1, z1)

pub no_words_for_none : block_words 0 ≡ 0
unfolding block_words
no_words_for_none = refl

pub without_words : (hs : List Held) (b : Name) → held_words hs ≡ block_words (length (block_of hs b)) + held_words (without hs b)
without_words [] b = let z = no_words_for_none in omega (arith, z)
without_words (h ∷ hs) b = by (without_words hs b) (bytes_eq h.name b)
  where
    by : held_words hs ≡ block_words (length (block_of hs b)) + held_words (without hs b) → (t : Bool) → held_words (h ∷ hs) ≡ block_words (length (if t then h.items else block_of hs b)) + held_words (if t then hs else h ∷ without hs b)
    by r true = refl
    by r false = omega (arith, r)

pub held_append : (hs gs : List Held) → held_words (hs ++ gs) ≡ held_words hs + held_words gs
held_append [] gs = omega arith
held_append (h ∷ hs) gs = let r = held_append hs gs in omega (arith, r)

pub with_words : (hs : List Held) (b : Name) (xs : List ℤ) → held_words (with_block hs b xs) ≡ held_words hs + block_words (length xs)
with_words hs b xs = let r = held_append hs (record { name = b; items = xs } ∷ []) in omega (arith, r)

pub replaced_words : (hs : List Held) (b : Name) (xs : List ℤ) → length xs ≡ length (block_of hs b) → held_words (replaced hs b xs) ≡ held_words hs
replaced_words [] b xs e = refl
replaced_words (h ∷ hs) b xs e = by (replaced_words hs b xs) (bytes_eq h.name b) e
  where
    by : (length xs ≡ length (block_of hs b) → held_words (replaced hs b xs) ≡ held_words hs) → (t : Bool) → length xs ≡ length (if t then h.items else block_of hs b)
        → held_words (if t then record { name = h.name; items = xs } ∷ hs else h ∷ replaced hs b xs) ≡ held_words (h ∷ hs)
    by r true l = ap (λ n. block_words n + held_words hs) l
    by r false l = ap (λ n. block_words (length h.items) + n) (r l)

pub parted_words : (named : Name → Bool) (hs : List Held) → held_words (those_named named hs) + held_words (those_not_named named hs) ≡ held_words hs
parted_words named [] = refl
parted_words named (h ∷ hs) = by (parted_words named hs) (named h.name)
  where
    by : held_words (those_named named hs) + held_words (those_not_named named hs) ≡ held_words hs → (t : Bool) → held_words (if t then h ∷ those_named named hs else those_named named hs)
        + held_words (if t then those_not_named named hs else h ∷ those_not_named named hs) ≡ held_words (h ∷ hs)
    by r true = omega (arith, r)
    by r false = omega (arith, r)

-- what a call passes is neither more nor less
abbrev pub both_words : Passing → ℕ
both_words h = held_words h.callee.blocks + held_words h.caller.blocks

unfoldable pub PassesWords : ℕ → Result Passing FaultKind → Type 0
PassesWords n (Ok h) = both_words h ≡ n
PassesWords n (Err kind) = Unit {0}

passing_block_words : (q b : Name) (h : Passing) → both_words (pass_block q b h) ≡ both_words h
passing_block_words q b h =
    let w = with_words h.callee.blocks q (block_of h.caller.blocks b) in let d = without_words h.caller.blocks b in omega (arith, w, d)

pub passes_same : {n m : ℕ} → n ≡ m → (r : Result Passing FaultKind) → PassesWords n r → PassesWords m r
unfolding PassesWords
passes_same e (Ok k) p = p ∙ e
passes_same e (Err kind) p = tt

passes_value : (n : ℕ) (q : Name) (o : values.Outcome) (h : Passing) (rest : Passing → Result Passing FaultKind)
    → ((g : Passing) → both_words g ≡ both_words h → PassesWords n (rest g)) → PassesWords n (pass_value q o h rest)
unfolding PassesWords
passes_value n q (Ok v) h rest p = p (pass_integer q v h) refl
passes_value n q (Err kind) h rest p = tt

pub passed_words : (s : Store) (qs : List Param) (args : List Arg) (h : Passing) → PassesWords (both_words h) (passed s qs args h)
unfolding passed PassesWords
passed_words s [] args h = refl
passed_words s (q ∷ qs) [] h = refl
passed_words s (q ∷ qs) (value e ∷ args) h =
    passes_value (both_words h) q.name (values.value s e) h (passed s qs args)
    (λ g same. passes_same same (passed s qs args g) (passed_words s qs args g))
passed_words s (q ∷ qs) (lend b ∷ args) h =
    let g : Passing = pass_block q.name b h in passes_same (passing_block_words q.name b h) (passed s qs args g) (passed_words s qs args g)
passed_words s (q ∷ qs) (give b ∷ args) h =
    let g : Passing = pass_block q.name b h in passes_same (passing_block_words q.name b h) (passed s qs args g) (passed_words s qs args g)

pub passed_ok : (n : ℕ) (h : Passing) → PassesWords n (Ok h) → both_words h ≡ n
unfolding PassesWords
passed_ok n h p = p

-- and what comes back is no more than was there
pub lent_back_words : (qs : List Param) (args : List Arg) (callee : List Held) (caller : Store)
    → held_words (lent_back qs args callee caller).blocks ≤ held_words callee + held_words caller.blocks
unfolding lent_back
lent_back_words [] args callee caller = omega arith
lent_back_words (q ∷ qs) [] callee caller = omega arith
lent_back_words (q ∷ qs) (value e ∷ args) callee caller = lent_back_words qs args callee caller
lent_back_words (q ∷ qs) (lend b ∷ args) callee caller =
    let r = lent_back_words qs args (without callee q.name) (hold_block b (block_of callee q.name) caller) in
    let w = with_words caller.blocks b (block_of callee q.name) in let d = without_words callee q.name in omega (arith, r, w, d)
lent_back_words (q ∷ qs) (give b ∷ args) callee caller = lent_back_words qs args callee caller

-- the words of an answer
abbrev pub answer_words : Answer → ℕ
answer_words (number v) = 0
answer_words (items xs) = block_words (length xs)

pub answered_words : (t : Target) (a : Answer) (s : Store) → held_words (answered t a s).blocks ≤ held_words s.blocks + answer_words a
answered_words unused a s = omega arith
answered_words (integer x) (number v) s = omega arith
answered_words (integer x) (items xs) s = omega arith
answered_words (block b) (number v) s = omega arith
answered_words (block b) (items xs) s = let w = with_words s.blocks b xs in omega (arith, w)
