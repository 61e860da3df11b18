-- The straight code of an expression leaves its number.
use Rattle.std.proofs.Common.{◌≡◌, ℕ, suc, ◌<◌, ◌≤◌, List, [], ◌∷◌, ◌++◌, length, ℤ, pos, Result, Ok, Err, refl, sym, ap, ◌∙◌, subst, arith}
use Rattle.dag_order.specs.declared.fault.FaultKind.{FaultKind}
use Rattle.par_tree.specs.Tree.{ChainOp, Comparison}
use Rattle.slot_store.specs.Passed.Values.{Outcome, and_then, and_both, operated, negated, compared, number_at}
use Rattle.slot_store.specs.Passed.Table.{Expr, num, var, get, len_of, neg, chain, cmp, Links, last, link}
use Rattle.slot_store.specs.Passed.Reading.{FitsExpr, FitsLinks}
use Rattle.slot_store.specs.Rows.{Entry, integer_at, items_at, with_integer_at}
use Rattle.flat_expressions.specs.Acts.{Operand, at_slot, operand_in, Act, element_to, negate_to, operate_to, compare_to, left_in, act_on, Ran, ends, fails, next_act, straight}
use Rattle.flat_expressions.specs.Values.{value_in, chained_in}
use Rattle.flat_expressions.specs.Codes.{operand_of, slot_behind, more_links, code_of, links_code, operand_code, HasRoom, HaveRoom}
use Rattle.flat_expressions.specs.Meanings.{SameBelow, Leaves}
use Rattle.flat_expressions.proofs.Rows.{same_self, same_trans, same_less, value_same, chained_same, items_same, set_left, left_leaves, left_from, leaves_from, last_act, IsBelow, operand_same}

-- ---- one code after another

abbrev pub then_run : Ran → List Act → Ran
then_run (ends row) acts = straight acts row
then_run (fails kind row) acts = fails kind row

append_next : (r : Result (List Entry) FaultKind) (row : List Entry) (xs ys : List Act)
    → ((new : List Entry) → straight (xs ++ ys) new ≡ then_run (straight xs new) ys)
    → next_act r row (straight (xs ++ ys)) ≡ then_run (next_act r row (straight xs)) ys
append_next (Ok new) row xs ys rest = rest new
append_next (Err kind) row xs ys rest = refl

pub straight_append : (xs ys : List Act) (row : List Entry) → straight (xs ++ ys) row ≡ then_run (straight xs row) ys
straight_append [] ys row = refl
straight_append (x ∷ xs) ys row = append_next (act_on x row) row xs ys (straight_append xs ys)

-- ---- what the code of an operand gives: its number is where the operand is, and below k nothing is changed

abbrev pub Brings : (k : ℕ) → (before : List Entry) → Operand → Outcome → Ran → Type 0
Brings k before a (Ok v) (ends after) = SameBelow k before after × (operand_in after a ≡ v)
Brings k before a (Ok v) (fails kind after) = ⊥
Brings k before a (Err kind) (ends after) = ⊥
Brings k before a (Err kind) (fails other after) = (other ≡ kind) × SameBelow k before after

brings_of : (k : ℕ) (row : List Entry) (o : Outcome) (x : Ran) → Leaves k k row o x → Brings k row (at_slot k) o x
brings_of k row (Ok v) (ends after) h =
    (record { long = h.long; same = λ s below. h.others s below (λ e. absurd (omega (arith, below, e))) }, h.number)
brings_of k row (Ok v) (fails kind after) h = absurd h
brings_of k row (Err kind) (ends after) h = absurd h
brings_of k row (Err kind) (fails other after) h = h

-- ---- the claims

abbrev pub Claim : Expr → Type 0
Claim e =
    (n size d k : ℕ) (row : List Entry) → length row ≡ size → n ≤ k → FitsExpr n e → HasRoom size e k → d < size
    → Leaves k d row (value_in row e) (straight (code_of e d k) row)

abbrev LinksClaim : Links → Type 0
LinksClaim ls =
    (n size d k : ℕ) (row : List Entry) (a : Operand) (v : ℤ) → length row ≡ size → n ≤ k → FitsLinks n ls → HaveRoom size ls k → k < size → d < size
    → IsBelow (suc k) a → operand_in row a ≡ v
    → Leaves k d row (chained_in row ls v) (straight (links_code ls d k a) row)

pub operand_below : (n k : ℕ) (e : Expr) → n ≤ k → FitsExpr n e → IsBelow (suc k) (operand_of e k)
operand_below n k (num v) less fits = tt
operand_below n k (var s) less fits = omega (arith, less, fits)
operand_below n k (get s i) less fits = omega arith
operand_below n k (len_of s) less fits = omega arith
operand_below n k (neg e) less fits = omega arith
operand_below n k (chain e ls) less fits = omega arith
operand_below n k (cmp op l r) less fits = omega arith

pub operand_brings : (e : Expr) → Claim e → (n size k : ℕ) (row : List Entry) → length row ≡ size → n ≤ k → FitsExpr n e → HasRoom size e k → k < size
    → Brings k row (operand_of e k) (value_in row e) (straight (operand_code e k) row)
operand_brings (num v) claim n size k row long less fits room here = (same_self k row, refl)
operand_brings (var s) claim n size k row long less fits room here = (same_self k row, refl)
operand_brings (get s i) claim n size k row long less fits room here =
    brings_of k row (value_in row (get s i)) (straight (code_of (get s i) k k) row) (claim n size k k row long less fits room here)
operand_brings (len_of s) claim n size k row long less fits room here =
    brings_of k row (value_in row (len_of s)) (straight (code_of (len_of s) k k) row) (claim n size k k row long less fits room here)
operand_brings (neg e) claim n size k row long less fits room here =
    brings_of k row (value_in row (neg e)) (straight (code_of (neg e) k k) row) (claim n size k k row long less fits room here)
operand_brings (chain e ls) claim n size k row long less fits room here =
    brings_of k row (value_in row (chain e ls)) (straight (code_of (chain e ls) k k) row) (claim n size k k row long less fits room here)
operand_brings (cmp op l r) claim n size k row long less fits room here =
    brings_of k row (value_in row (cmp op l r)) (straight (code_of (cmp op l r) k k) row) (claim n size k k row long less fits room here)

-- ---- an operand, and then what it is for

module _ (j k d : ℕ) (row : List Entry) (a : Operand) (acts : List Act) (less : k ≤ j) where
  bind : (o : Outcome) (x : Ran) (next : ℤ → Outcome) → Brings j row a o x
      → ((v : ℤ) (after : List Entry) → SameBelow j row after → operand_in after a ≡ v → Leaves k d row (next v) (straight acts after))
      → Leaves k d row (and_then o next) (then_run x acts)
  bind (Ok v) (ends after) next h rest = rest v after h.0 h.1
  bind (Ok v) (fails kind after) next h rest = absurd h
  bind (Err kind) (ends after) next h rest = absurd h
  bind (Err kind) (fails other after) next h rest = (h.0, same_less k j row after less h.1)

  bind_first : (o right : Outcome) (x : Ran) (next : ℤ → ℤ → Outcome) → Brings j row a o x
      → ((v : ℤ) (after : List Entry) → SameBelow j row after → operand_in after a ≡ v
      → Leaves k d row (and_then right (next v)) (straight acts after))
      → Leaves k d row (and_both o right next) (then_run x acts)
  bind_first (Ok v) right (ends after) next h rest = rest v after h.0 h.1
  bind_first (Ok v) right (fails kind after) next h rest = absurd h
  bind_first (Err kind) right (ends after) next h rest = absurd h
  bind_first (Err kind) right (fails other after) next h rest = (h.0, same_less k j row after less h.1)

  bind_link : (o : Outcome) (x : Ran) (next more : ℤ → Outcome) → Brings j row a o x
      → ((v : ℤ) (after : List Entry) → SameBelow j row after → operand_in after a ≡ v
      → Leaves k d row (and_then (next v) more) (straight acts after))
      → Leaves k d row (and_then (and_then o next) more) (then_run x acts)
  bind_link (Ok v) (ends after) next more h rest = rest v after h.0 h.1
  bind_link (Ok v) (fails kind after) next more h rest = absurd h
  bind_link (Err kind) (ends after) next more h rest = absurd h
  bind_link (Err kind) (fails other after) next more h rest = (h.0, same_less k j row after less h.1)

-- code that begins with that of an operand
behind_operand : (k d : ℕ) (row : List Entry) (o : Outcome) (xs ys : List Act) → Leaves k d row o (then_run (straight xs row) ys)
    → Leaves k d row o (straight (xs ++ ys) row)
behind_operand k d row o xs ys h = subst (λ (x : Ran). Leaves k d row o x) (sym (straight_append xs ys row)) h

-- ---- the rest of a chain, after an operator

module _ (n size d k : ℕ) (row after : List Entry) (long : length row ≡ size) (less : n ≤ k) (here : k < size) (to : d < size)
    (same : SameBelow (suc k) row after) where
  long_after : length after ≡ size
  long_after = same.long ∙ long

  below : SameBelow k row after
  below = same_less k (suc k) row after (omega arith) same

  put_below : (v : ℤ) → SameBelow k row (with_integer_at after k v)
  put_below v =
      let put = set_left k k v after (omega (arith, here, long_after)) in
      same_trans k row after (with_integer_at after k v) below
      (record { long = put.long; same = λ s lower. put.others s lower (λ e. absurd (omega (arith, lower, e))) })

  link_step : (ls : Links) → LinksClaim ls → FitsLinks n ls → HaveRoom size ls k → (o : Outcome)
      → Leaves k d row (and_then o (chained_in row ls)) (next_act (left_in (slot_behind ls d k) after o) after
      (straight (more_links ls (links_code ls d k (at_slot k)))))
  link_step ls claim fits room (Err kind) = (refl, below)
  link_step last claim fits room (Ok v) =
      left_from k d row after (with_integer_at after d v) v below (set_left k d v after (omega (arith, to, long_after)))
  link_step (link op e rest) claim fits room (Ok v) =
      let put = set_left k k v after (omega (arith, here, long_after)) in
      let ls = link op e rest in
      let new = with_integer_at after k v in
      let ran = straight (links_code ls d k (at_slot k)) new in
      let put_same = put_below v in
      subst (λ (o : Outcome). Leaves k d row o ran) (chained_same n row new (λ j low. put_same.same j (omega (arith, less, low))) ls fits v)
      (leaves_from k d row new (chained_in new ls v) ran (put_below v)
      (claim n size d k new (at_slot k) v (put.long ∙ long_after) less fits room here to (omega arith) put.number))

-- ---- each form with operands, by what is claimed of its parts

chained_from : (ls : Links) → LinksClaim ls → (n size d k : ℕ) (row after : List Entry) (a : Operand) (v : ℤ) → length row ≡ size → n ≤ k → FitsLinks n ls
    → HaveRoom size ls k → k < size → d < size → IsBelow (suc k) a → SameBelow k row after → operand_in after a ≡ v
    → Leaves k d row (chained_in row ls v) (straight (links_code ls d k a) after)
chained_from ls claim n size d k row after a v long less fits room here to low same is =
    let ran = straight (links_code ls d k a) after in
    subst (λ (o : Outcome). Leaves k d row o ran) (chained_same n row after (λ j low. same.same j (omega (arith, less, low))) ls fits v)
    (leaves_from k d row after (chained_in after ls v) ran same
    (claim n size d k after a v (same.long ∙ long) less fits room here to low is))

compared_from : (op : Comparison) (l r : Expr) → Claim l → Claim r → (n size d k : ℕ) (row : List Entry) → length row ≡ size → n ≤ k
    → FitsExpr n l → FitsExpr n r → suc k < size → HasRoom size l k → HasRoom size r (suc k) → d < size
    → Leaves k d row (value_in row (cmp op l r)) (straight (code_of (cmp op l r) d k) row)
compared_from op l r first second n size d k row long less fits_l fits_r here room_l room_r to =
    behind_operand k d row (value_in row (cmp op l r)) (operand_code l k) (operand_code r (suc k) ++ act ∷ [])
    (bind_first k k d row a (operand_code r (suc k) ++ act ∷ []) (omega arith) (value_in row l) (value_in row r) (straight (operand_code l k) row)
    (compared op) (operand_brings l first n size k row long less fits_l room_l (omega (arith, here))) right)
  where
    a : Operand
    a = operand_of l k

    b : Operand
    b = operand_of r (suc k)

    act : Act
    act = compare_to op d a b

    right : (v : ℤ) (after : List Entry) → SameBelow k row after → operand_in after a ≡ v
        → Leaves k d row (and_then (value_in row r) (compared op v)) (straight (operand_code r (suc k) ++ act ∷ []) after)
    right v after same is =
        let ran = straight (operand_code r (suc k) ++ act ∷ []) after in
        subst (λ (o : Outcome). Leaves k d row (and_then o (compared op v)) ran)
        (value_same n row after (λ j low. same.same j (omega (arith, less, low))) r fits_r)
        (leaves_from k d row after (and_then (value_in after r) (compared op v)) ran same
        (behind_operand k d after (and_then (value_in after r) (compared op v)) (operand_code r (suc k)) (act ∷ [])
        (bind (suc k) k d after b (act ∷ []) (omega arith) (value_in after r) (straight (operand_code r (suc k)) after) (compared op v)
        (operand_brings r second n size (suc k) after (same.long ∙ long) (omega (arith, less)) fits_r room_r here)
        (λ w end same2 is2. last_act k d after end (compared op v w) (compared op (operand_in end a) (operand_in end b))
        (same_less k (suc k) after end (omega arith) same2) (let e = same.long in omega (arith, long, to, e))
        (ap (λ (x : ℤ). compared op x (operand_in end b)) (operand_same (suc k) after end a same2 (operand_below n k l less fits_l) ∙ is)
        ∙ ap (λ (x : ℤ). compared op v x) is2)))))

linked_from : (op : ChainOp) (e : Expr) (ls : Links) → Claim e → LinksClaim ls → (n size d k : ℕ) (row : List Entry) (a : Operand) (v : ℤ)
    → length row ≡ size → n ≤ k → FitsExpr n e → FitsLinks n ls → suc k < size → HasRoom size e (suc k) → HaveRoom size ls k → k < size
    → d < size → IsBelow (suc k) a → operand_in row a ≡ v
    → Leaves k d row (chained_in row (link op e ls) v) (straight (links_code (link op e ls) d k a) row)
linked_from op e ls first rest n size d k row a v long less fits_e fits_ls next room_e room_ls here to low is =
    behind_operand k d row (chained_in row (link op e ls) v) (operand_code e (suc k)) acts
    (bind_link (suc k) k d row b acts (omega arith) (value_in row e) (straight (operand_code e (suc k)) row) (operated op v) (chained_in row ls)
    (operand_brings e first n size (suc k) row long (omega (arith, less)) fits_e room_e next)
    (λ w after same is2.
    let o : operated op (operand_in after a) (operand_in after b) ≡ operated op v w =
    ap (λ (x : ℤ). operated op x (operand_in after b)) (operand_same (suc k) row after a same low ∙ is) ∙ ap (λ (x : ℤ). operated op v x) is2 in
    subst (λ (x : Outcome). Leaves k d row (and_then (operated op v w) (chained_in row ls)) (next_act (left_in (slot_behind ls d k) after x) after
    (straight (more_links ls (links_code ls d k (at_slot k)))))) (sym o)
    (link_step n size d k row after long less here to same ls rest fits_ls room_ls (operated op v w))))
  where
    b : Operand
    b = operand_of e (suc k)

    acts : List Act
    acts = operate_to op (slot_behind ls d k) a b ∷ more_links ls (links_code ls d k (at_slot k))

-- ---- every expression

mutual
  pub code_leaves : (e : Expr) → Claim e
  code_leaves (num v) n size d k row long less fits room to = left_leaves k d row (Ok v) (omega (arith, long, to))
  code_leaves (var s) n size d k row long less fits room to = left_leaves k d row (Ok (integer_at row s)) (omega (arith, long, to))
  code_leaves (get s i) n size d k row long less fits room to =
      let a = operand_of i k in
      behind_operand k d row (value_in row (get s i)) (operand_code i k) (element_to d s a ∷ [])
      (bind k k d row a (element_to d s a ∷ []) (omega arith) (value_in row i) (straight (operand_code i k) row) (number_at (items_at row s))
      (operand_brings i (code_leaves i) n size k row long less fits.1 room.1 room.0)
      (λ v after same is. last_act k d row after (number_at (items_at row s) v) (number_at (items_at after s) (operand_in after a)) same
      (omega (arith, long, to))
      (ap (λ (w : ℤ). number_at (items_at after s) w) is
      ∙ ap (λ (xs : List ℤ). number_at xs v) (items_same n row after (λ j low. same.same j (omega (arith, less, low))) s fits.0))))
  code_leaves (len_of s) n size d k row long less fits room to =
      left_leaves k d row (Ok (pos (length (items_at row s)))) (omega (arith, long, to))
  code_leaves (neg e) n size d k row long less fits room to =
      let a = operand_of e k in
      behind_operand k d row (value_in row (neg e)) (operand_code e k) (negate_to d a ∷ [])
      (bind k k d row a (negate_to d a ∷ []) (omega arith) (value_in row e) (straight (operand_code e k) row) negated
      (operand_brings e (code_leaves e) n size k row long less fits room.1 room.0)
      (λ v after same is. last_act k d row after (negated v) (negated (operand_in after a)) same (omega (arith, long, to))
      (ap (λ (w : ℤ). negated w) is)))
  code_leaves (chain e ls) n size d k row long less fits room to =
      let a = operand_of e k in
      behind_operand k d row (value_in row (chain e ls)) (operand_code e k) (links_code ls d k a)
      (bind k k d row a (links_code ls d k a) (omega arith) (value_in row e) (straight (operand_code e k) row) (chained_in row ls)
      (operand_brings e (code_leaves e) n size k row long less fits.0 room.1 room.0)
      (λ v after same is. chained_from ls (links_leave ls) n size d k row after a v long less fits.1 room.2 room.0 to
      (operand_below n k e less fits.0) same is))
  code_leaves (cmp op l r) n size d k row long less fits room to =
      compared_from op l r (code_leaves l) (code_leaves r) n size d k row long less fits.0 fits.1 room.0 room.1 room.2 to

  links_leave : (ls : Links) → LinksClaim ls
  links_leave last n size d k row a v long less fits room here to low is =
      last_act k d row row (Ok v) (Ok (operand_in row a)) (same_self k row) (omega (arith, long, to)) (ap (λ (w : ℤ). Ok w) is)
  links_leave (link op e ls) n size d k row a v long less fits room here to low is =
      linked_from op e ls (code_leaves e) (links_leave ls) n size d k row a v long less fits.0 fits.1 room.0 room.1 room.2 here to low is
