-- Worked examples: the code of an expression, and what it gives.
use Rattle.std.proofs.Common.{◌≡◌, [], ◌∷◌, ℤ, pos, Ok, refl}
use Rattle.dag_order.specs.declared.fault.FaultKind.TheVariants as faults
use Rattle.par_tree.specs.Tree.{plus, times, over, below}
use Rattle.slot_store.specs.Passed.Values.{operated}
use Rattle.slot_store.specs.Passed.Table.{Expr, num, var, get, chain, cmp, last, link}
use Rattle.slot_store.specs.Rows.{Entry, blank}
use Rattle.flat_expressions.specs.Acts.{at_slot, literal, element_to, operate_to, ends, fails, straight, compares}
use Rattle.flat_expressions.specs.Values.{value_in}
use Rattle.flat_expressions.specs.Codes.{code_of, put_code, before_test, test_of}

-- (x * 7 + i) % 1000, where x is the slot 0, i the slot 1, and the first temporary slot is 3; a bracket is an operand
abbrev rounds : Expr
rounds = chain (chain (chain (var 0) (link times (num (pos 7)) last)) (link plus (var 1) last)) (link over (num (pos 1000)) last)

-- the number goes to slot 0, which is written by the last act alone
rounds_code : code_of rounds 0 3
    ≡ operate_to times 3 (at_slot 0) (literal (pos 7)) ∷ operate_to plus 3 (at_slot 3) (at_slot 1) ∷ operate_to over 0 (at_slot 3) (literal (pos 1000)) ∷ []
rounds_code = refl

abbrev entry : ℤ → Entry
entry v = record { integer = v; blocks = [] }

-- x = 2 and i = 5000: (2 * 7 + 5000) / 1000 is 5
rounds_run : straight (code_of rounds 0 3) (entry (pos 2) ∷ entry (pos 5000) ∷ blank ∷ blank ∷ [])
    ≡ ends (entry (pos 5) ∷ entry (pos 5000) ∷ blank ∷ entry (pos 5014) ∷ [])
unfolding operated
rounds_run = refl

rounds_value : value_in (entry (pos 2) ∷ entry (pos 5000) ∷ blank ∷ blank ∷ []) rounds ≡ Ok (pos 5)
unfolding operated
rounds_value = refl

-- 1 / x where x is 0, and then b[1 / x] = 3: a fault, and the row is as it was
faulty : straight (put_code 1 (chain (num (pos 1)) (link over (var 0) last)) (num (pos 3)) 2) (blank ∷ blank ∷ blank ∷ [])
    ≡ fails faults.Divide (blank ∷ blank ∷ blank ∷ [])
unfolding operated
faulty = refl

-- b[i + 1] < x, where b is the slot 2: the element is left in the first temporary slot, and the test compares it
element_test : before_test (cmp below (get 2 (chain (var 1) (link plus (num (pos 1)) last))) (var 0)) 3
    ≡ operate_to plus 3 (at_slot 1) (literal (pos 1)) ∷ element_to 3 2 (at_slot 3) ∷ []
element_test = refl

element_compares : test_of (cmp below (get 2 (chain (var 1) (link plus (num (pos 1)) last))) (var 0)) 3 ≡ compares below (at_slot 3) (at_slot 0)
element_compares = refl
