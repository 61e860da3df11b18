-- How many places the code of statements has, and why there is none.
use Rattle.std.proofs.Common.{◌≡◌, ℕ, ◌+◌, ◌≤◌, List, ◌∷◌, ◌++◌, length, Result, Ok, Err, sym, ap, ◌∙◌, subst, arith, length-append}
use Rattle.std.specs.Prelude.{IsErrAnd}
use Rattle.node_table.specs.Table.{Expr}
use Rattle.thread_stack.specs.declared.frame.Frame.{Frame}
use Rattle.thread_stack.specs.declared.frame.Frame.TheVariants.{Again}
use Rattle.thread_stack.specs.declared.list_of.ListOf.TheVariants.{Then, Other, Round}
use Rattle.flat_expressions.specs.Codes.{test_of}
use Rattle.flat_statements.specs.Flat.{unless, rounds}
use Rattle.flat_code.specs.Made.{Placed, Making, tested, test_length, list_made, arm_end, other_at, arms_made, if_made, while_made}
use Rattle.flat_code.specs.Refused.{IfTooLong}
use Rattle.flat_code.specs.declared.lower_fail.LowerFail.{LowerFail}
use Rattle.flat_code.specs.declared.lower_fail.LowerFail.TheVariants.{OutOfMemory, TooLong}
use Rattle.flat_code.proofs.MadeCode.{tested_length}

-- a refusal that is handed on
pub if_too_long : {T : Type 0} (r : Result T LowerFail) (P Q : Type 0) → (P → Q) → IfTooLong r P → IfTooLong r Q
if_too_long (Ok x) P Q f h = tt
if_too_long (Err OutOfMemory) P Q f h = tt
if_too_long (Err TooLong) P Q f h = f h

pub handed_on : {U : Type 0} (r : Result U LowerFail) (e : LowerFail) (P Q : Type 0) → IsErrAnd r (λ y. y ≡ e) → (P → Q) → IfTooLong {T = U} (Err e) P
    → IfTooLong r Q
handed_on (Ok x) e P Q is f h = absurd is
handed_on {U} (Err y) e P Q is f h = if_too_long {T = U} (Err y) P Q f (subst (λ (z : LowerFail). IfTooLong {T = U} (Err z) P) (sym is) h)

module _ (M : Making) (place n : ℕ) (e : Expr) (k : ℕ) (here xs : List Frame) where
  abbrev start : ℕ
  start = place + test_length e k

  module _ (a b : List ℕ) where
    abbrev first : List Placed
    first = list_made M a (Then n) 0 xs start

    if_length : length (if_made M place n e k a b here xs) ≡ test_length e k + length (arms_made M n xs b start first)
    if_length =
        let test = tested e k here (unless (test_of e k) (other_at start first b)) in
        length-append test (arms_made M n xs b start first)
        ∙ ap (λ (m : ℕ). m + length (arms_made M n xs b start first)) (tested_length e k here (unless (test_of e k) (other_at start first b)))

    pub test_in_if : (most : ℕ) → most ≤ start → most ≤ place + length (if_made M place n e k a b here xs)
    test_in_if most h = let all = if_length in omega (arith, all, h)

    pub first_in_if : (most s : ℕ) → s ≡ start → most ≤ s + length (list_made M a (Then n) 0 xs s) → most ≤ place + length (if_made M place n e k a b here xs)
    first_in_if most s is h =
        let one : most ≤ start + length first = subst (λ (m : ℕ). most ≤ m + length (list_made M a (Then n) 0 xs m)) is h in
        let all = if_length in
        let second = list_made M b (Other n) 0 xs (other_at start first b) in
        let arms = length-append first (arm_end b xs (other_at start first b + length second) ++ second) in
        omega (arith, one, all, arms)

    pub arms_in_if : (most s : ℕ) (ps : List Placed) → s ≡ start → ps ≡ list_made M a (Then n) 0 xs s → most ≤ s + length (arms_made M n xs b s ps)
        → most ≤ place + length (if_made M place n e k a b here xs)
    arms_in_if most s ps is made h =
        let one : most ≤ s + length (arms_made M n xs b s (list_made M a (Then n) 0 xs s)) =
        subst (λ (qs : List Placed). most ≤ s + length (arms_made M n xs b s qs)) made h in
        let two : most ≤ start + length (arms_made M n xs b start first) =
        subst (λ (m : ℕ). most ≤ m + length (arms_made M n xs b m (list_made M a (Then n) 0 xs m))) is one in
        let all = if_length in
        omega (arith, two, all)

  module _ (a : List ℕ) where
    abbrev inside : List Placed
    inside = list_made M a (Round n) 0 (Again n ∷ xs) start

    while_length : length (while_made M place n e k a here xs) ≡ test_length e k + length inside + test_length e k
    while_length =
        let test = rounds (test_of e k) start (start + length inside + test_length e k) in
        let one = tested_length e k here test in
        let two = tested_length e k (Again n ∷ xs) test in
        let whole = length-append (tested e k here test) (inside ++ tested e k (Again n ∷ xs) test) in
        let rest = length-append inside (tested e k (Again n ∷ xs) test) in
        omega (arith, one, two, whole, rest)

    pub test_in_while : (most : ℕ) → most ≤ start → most ≤ place + length (while_made M place n e k a here xs)
    test_in_while most h = let all = while_length in omega (arith, all, h)

    same_inside : (s : ℕ) (ys : List Frame) → s ≡ start → ys ≡ Again n ∷ xs → list_made M a (Round n) 0 ys s ≡ inside
    same_inside s ys is frames =
        ap (λ (zs : List Frame). list_made M a (Round n) 0 zs s) frames ∙ ap (λ (m : ℕ). list_made M a (Round n) 0 (Again n ∷ xs) m) is

    pub inside_in_while : (most s : ℕ) (ys : List Frame) → s ≡ start → ys ≡ Again n ∷ xs → most ≤ s + length (list_made M a (Round n) 0 ys s)
        → most ≤ place + length (while_made M place n e k a here xs)
    inside_in_while most s ys is frames h =
        let same = ap (λ (ps : List Placed). length ps) (same_inside s ys is frames) in
        let all = while_length in
        omega (arith, h, same, all, is)

    pub end_in_while : (most s : ℕ) (ys : List Frame) (ps : List Placed) → s ≡ start → ys ≡ Again n ∷ xs → ps ≡ list_made M a (Round n) 0 ys s
        → most ≤ s + length ps + test_length e k → most ≤ place + length (while_made M place n e k a here xs)
    end_in_while most s ys ps is frames made h =
        let same = ap (λ (qs : List Placed). length qs) (made ∙ same_inside s ys is frames) in
        let all = while_length in
        omega (arith, h, same, all, is)
