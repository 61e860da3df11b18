-- The number of an expression over a row of slots, and what statements without names do to a row.
use Rattle.std.specs.Prelude.{ℕ, List, length, ℤ, pos, Result, Ok, Err}
use Rattle.dag_order.specs.declared.fault.FaultKind.{FaultKind}
use Rattle.slot_store.specs.Passed.Values.{Outcome, and_then, and_both, operated, negated, compared, number_at, place_in}
use Rattle.slot_store.specs.Passed.Table.{Expr, num, var, get, len_of, neg, chain, cmp, Links, last, link}
use Rattle.slot_store.specs.Rows.{Entry, integer_at, items_at}
use Rattle.flat_expressions.specs.Acts.{left_in, written_in}

-- An expression, and the rest of a chain after the number of its front: the integer of a slot is a variable's, and its block that of a
-- name. It is the value of the depth-first run, read off a row.
abbrev mutual
  pub value_in : List Entry → Expr → Outcome
  value_in row (num n) = Ok n
  value_in row (var s) = Ok (integer_at row s)
  value_in row (get s i) = and_then (value_in row i) (number_at (items_at row s))
  value_in row (len_of s) = Ok (pos (length (items_at row s)))
  value_in row (neg e) = and_then (value_in row e) negated
  value_in row (chain e ls) = and_then (value_in row e) (chained_in row ls)
  value_in row (cmp op l r) = and_both (value_in row l) (value_in row r) (compared op)

  pub chained_in : List Entry → Links → ℤ → Outcome
  chained_in row last v = Ok v
  chained_in row (link op e ls) v = and_then (and_then (value_in row e) (operated op v)) (chained_in row ls)

-- `let x = e` and `x = e` of the slot s
abbrev pub set_by : ℕ → Expr → List Entry → Result (List Entry) FaultKind
set_by s e row = left_in s row (value_in row e)

-- `b[i] = e`: the index first, then the number, and then the place
abbrev pub put_with : ℕ → List Entry → Outcome → Outcome → Result (List Entry) FaultKind
put_with b row (Ok i) (Ok v) = written_in b row v (place_in (items_at row b) i)
put_with b row (Ok i) (Err kind) = Err kind
put_with b row (Err kind) right = Err kind

abbrev pub put_by : ℕ → Expr → Expr → List Entry → Result (List Entry) FaultKind
put_by b i e row = put_with b row (value_in row i) (value_in row e)
