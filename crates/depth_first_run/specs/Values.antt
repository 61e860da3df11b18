-- What an expression gives: a number of 64 bits, or the fault that comes in its place. Operands are evaluated
-- from left to right, and a chain goes operator by operator.
use Rattle.std.specs.Prelude.{ℕ, Bool, true, false, not, if◌then◌else◌, List, length, ℤ, pos, negsuc, int_lt, int_le, int_rem, nat_eq, nat_le, Option, Some, None, Result, Ok, Err, slice_get}
use Rattle.std.specs.Int.{w64, int_wrapping_add, int_wrapping_sub, int_wrapping_mul, int_wrapping_div, int_wrapping_neg}
use Rattle.std.specs.Ordering.{int_eq}
use Rattle.depth_first_list.specs.Passed.FaultKind.{FaultKind}
use Rattle.depth_first_list.specs.Passed.FaultKindVariants as faults
use Rattle.par_tree.specs.Tree.{Expr, num, var, get, len_of, neg, chain, cmp, Links, last, link, ChainOp, plus, minus, times, over, modulo, Comparison, equal, unequal, below, at_most, above, at_least}
use Rattle.depth_first_run.specs.Stores.{Store, block_of}

-- a number, or a fault
abbrev pub Outcome : Type 0
Outcome = Result ℤ FaultKind

-- what follows a number
abbrev pub and_then : Outcome → (ℤ → Outcome) → Outcome
and_then (Ok v) next = next v
and_then (Err kind) next = Err kind

-- what follows two numbers
abbrev pub and_both : Outcome → Outcome → (ℤ → ℤ → Outcome) → Outcome
and_both (Ok x) right next = and_then right (next x)
and_both (Err kind) right next = Err kind

-- a condition holds where its number is not 0
abbrev pub is_zero : ℤ → Bool
is_zero (pos n) = nat_eq n 0
is_zero (negsuc n) = false

abbrev pub is_true : ℤ → Bool
is_true v = not (is_zero v)

-- the number of a place in a block, from 0, where the block has the place
abbrev pub place_in : List ℤ → ℤ → Option ℕ
place_in items (pos n) = if nat_le (length items) n then None else Some n
place_in items (negsuc n) = None

-- the number that stands at a place
abbrev pub or_index_fault : Option ℤ → Outcome
or_index_fault (Some v) = Ok v
or_index_fault None = Err faults.Index

abbrev pub number_at : List ℤ → ℤ → Outcome
number_at items (pos n) = or_index_fault (slice_get items n)
number_at items (negsuc n) = Err faults.Index

-- a division, where the divisor is zero or not
abbrev pub divided : Bool → ℤ → Outcome
divided true quotient = Err faults.Divide
divided false quotient = Ok quotient

-- an operator on its two operands: results wrap, `/` rounds towards zero, `%` has the sign of the left side
unfoldable pub operated : ChainOp → ℤ → ℤ → Outcome
operated plus x y = Ok (int_wrapping_add w64 x y)
operated minus x y = Ok (int_wrapping_sub w64 x y)
operated times x y = Ok (int_wrapping_mul w64 x y)
operated over x y = divided (is_zero y) (int_wrapping_div w64 x y)
operated modulo x y = divided (is_zero y) (int_rem x y)

abbrev pub negated : ℤ → Outcome
negated v = Ok (int_wrapping_neg w64 v)

abbrev pub holds : Comparison → ℤ → ℤ → Bool
holds equal x y = int_eq x y
holds unequal x y = not (int_eq x y)
holds below x y = int_lt x y
holds at_most x y = int_le x y
holds above x y = int_lt y x
holds at_least x y = int_le y x

-- a comparison is 1 or 0
abbrev pub truth : Bool → ℤ
truth true = pos 1
truth false = pos 0

unfoldable pub compared : Comparison → ℤ → ℤ → Outcome
compared op x y = Ok (truth (holds op x y))

-- an expression over a store, and the rest of a chain behind the number of its front
unfoldable mutual
  pub value : Store → Expr → Outcome
  value s (num n) = Ok n
  value s (var x) = Ok (s.integers x)
  value s (get b e) = and_then (value s e) (number_at (block_of s.blocks b))
  value s (len_of b) = Ok (pos (length (block_of s.blocks b)))
  value s (neg e) = and_then (value s e) negated
  value s (chain e ls) = and_then (value s e) (chained s ls)
  value s (cmp op l r) = and_both (value s l) (value s r) (compared op)

  pub chained : Store → Links → ℤ → Outcome
  chained s last v = Ok v
  chained s (link op e ls) v = and_then (and_then (value s e) (operated op v)) (chained s ls)
