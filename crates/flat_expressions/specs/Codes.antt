-- The straight code of an expression. It leaves intermediate numbers in temporary slots from k on, which are after the function's own
-- slots, and its last act alone writes the slot that the number goes to. A number or a slot that is an operand is read in place.
use Rattle.std.specs.Prelude.{ℕ, suc, ◌<◌, List, [], ◌∷◌, ◌++◌}
use Rattle.slot_store.specs.Passed.Table.{Expr, num, var, get, len_of, neg, chain, cmp, Links, last, link}
use Rattle.flat_expressions.specs.Acts.{Operand, at_slot, literal, Act, move_to, length_to, element_to, negate_to, operate_to, compare_to, write_at, Test, is_set, compares}

-- where an operand is: itself, if it is a number or a slot; else in the temporary slot k
abbrev pub operand_of : Expr → ℕ → Operand
operand_of (num n) k = literal n
operand_of (var s) k = at_slot s
operand_of (get s i) k = at_slot k
operand_of (len_of s) k = at_slot k
operand_of (neg e) k = at_slot k
operand_of (chain e ls) k = at_slot k
operand_of (cmp op l r) k = at_slot k

-- and the code that brings it there
abbrev pub brought : Expr → List Act → List Act
brought (num n) acts = []
brought (var s) acts = []
brought (get s i) acts = acts
brought (len_of s) acts = acts
brought (neg e) acts = acts
brought (chain e ls) acts = acts
brought (cmp op l r) acts = acts

-- the slot of a chain's number so far: the one that it goes to after the last link, else the temporary slot k
abbrev pub slot_behind : Links → (d k : ℕ) → ℕ
slot_behind last d k = d
slot_behind (link op e ls) d k = k

abbrev pub more_links : Links → List Act → List Act
more_links last acts = []
more_links (link op e ls) acts = acts

-- the code that leaves the number of an expression in the slot d, and that of the rest of a chain, whose front is the operand a
abbrev mutual
  pub code_of : Expr → (d k : ℕ) → List Act
  code_of (num n) d k = move_to d (literal n) ∷ []
  code_of (var s) d k = move_to d (at_slot s) ∷ []
  code_of (get s i) d k = brought i (code_of i k k) ++ element_to d s (operand_of i k) ∷ []
  code_of (len_of s) d k = length_to d s ∷ []
  code_of (neg e) d k = brought e (code_of e k k) ++ negate_to d (operand_of e k) ∷ []
  code_of (chain e ls) d k = brought e (code_of e k k) ++ links_code ls d k (operand_of e k)
  code_of (cmp op l r) d k =
      brought l (code_of l k k) ++ (brought r (code_of r (suc k) (suc k)) ++ compare_to op d (operand_of l k) (operand_of r (suc k)) ∷ [])

  pub links_code : Links → (d k : ℕ) → Operand → List Act
  links_code last d k a = move_to d a ∷ []
  links_code (link op e ls) d k a =
      brought e (code_of e (suc k) (suc k))
      ++ operate_to op (slot_behind ls d k) a (operand_of e (suc k)) ∷ more_links ls (links_code ls d k (at_slot k))

abbrev pub operand_code : Expr → ℕ → List Act
operand_code e k = brought e (code_of e k k)

-- `b[i] = e`
abbrev pub put_code : (b : ℕ) → Expr → Expr → ℕ → List Act
put_code b i e k = operand_code i k ++ (operand_code e (suc k) ++ write_at b (operand_of i k) (operand_of e (suc k)) ∷ [])

-- A condition: what comes before its test, and the test. A comparison is made by the test itself.
abbrev pub before_test : Expr → ℕ → List Act
before_test (num n) k = []
before_test (var s) k = []
before_test (get s i) k = code_of (get s i) k k
before_test (len_of s) k = code_of (len_of s) k k
before_test (neg e) k = code_of (neg e) k k
before_test (chain e ls) k = code_of (chain e ls) k k
before_test (cmp op l r) k = operand_code l k ++ operand_code r (suc k)

abbrev pub test_of : Expr → ℕ → Test
test_of (num n) k = is_set (literal n)
test_of (var s) k = is_set (at_slot s)
test_of (get s i) k = is_set (at_slot k)
test_of (len_of s) k = is_set (at_slot k)
test_of (neg e) k = is_set (at_slot k)
test_of (chain e ls) k = is_set (at_slot k)
test_of (cmp op l r) k = compares op (operand_of l k) (operand_of r (suc k))

-- the temporary slots of the code of an expression, of which the first is k, are below `size`
abbrev mutual
  pub HasRoom : (size : ℕ) → Expr → ℕ → Type 0
  HasRoom size (num n) k = Unit {0}
  HasRoom size (var s) k = Unit {0}
  HasRoom size (get s i) k = (k < size) × HasRoom size i k
  HasRoom size (len_of s) k = Unit {0}
  HasRoom size (neg e) k = (k < size) × HasRoom size e k
  HasRoom size (chain e ls) k = (k < size) × HasRoom size e k × HaveRoom size ls k
  HasRoom size (cmp op l r) k = (suc k < size) × HasRoom size l k × HasRoom size r (suc k)

  pub HaveRoom : (size : ℕ) → Links → ℕ → Type 0
  HaveRoom size last k = Unit {0}
  HaveRoom size (link op e ls) k = (suc k < size) × HasRoom size e (suc k) × HaveRoom size ls k
