-- Rows that are the same in front, and a number that is left in a row.
use Rattle.std.proofs.Common.{◌≡◌, ℕ, ◌<◌, ◌≤◌, List, [], length, ℤ, pos, Ok, Err, refl, ap, ◌∙◌, subst, arith, length-set}
use Rattle.slot_store.specs.Passed.Values.{Outcome, and_then, and_both, operated, negated, compared, number_at}
use Rattle.slot_store.specs.Passed.Table.{Expr, num, var, get, len_of, neg, chain, cmp, Links, last, link}
use Rattle.slot_store.specs.Passed.Reading.{FitsExpr, FitsLinks}
use Rattle.slot_store.specs.Rows.{Entry, entry_at, items_at, first_of, with_integer_at}
use Rattle.slot_store.proofs.Rows.{same_entry, other_entry}
use Rattle.flat_expressions.specs.Acts.{Operand, at_slot, literal, operand_in, left_in, Ran, ends, fails, next_act, straight}
use Rattle.flat_expressions.specs.Values.{value_in, chained_in}
use Rattle.flat_expressions.specs.Meanings.{SameBelow, Left, Leaves}

pub same_self : (k : ℕ) (row : List Entry) → SameBelow k row row
same_self k row = record { long = refl; same = λ s below. refl }

pub same_trans : (k : ℕ) (a b c : List Entry) → SameBelow k a b → SameBelow k b c → SameBelow k a c
same_trans k a b c p q = record { long = q.long ∙ p.long; same = λ s below. q.same s below ∙ p.same s below }

pub same_less : (j k : ℕ) (a b : List Entry) → j ≤ k → SameBelow k a b → SameBelow j a b
same_less j k a b less p = record { long = p.long; same = λ s below. p.same s (omega (arith, less, below)) }

-- an expression over slots below n has the same number in rows that are the same there
pub then_same : (o : Outcome) (f g : ℤ → Outcome) → ((v : ℤ) → f v ≡ g v) → and_then o f ≡ and_then o g
then_same (Ok v) f g same = same v
then_same (Err kind) f g same = refl

module _ (n : ℕ) (before after : List Entry) (same : (s : ℕ) → s < n → entry_at after s ≡ entry_at before s) where
  pub items_same : (s : ℕ) → s < n → items_at after s ≡ items_at before s
  items_same s below = ap (λ (x : Entry). first_of x.blocks) (same s below)

  mutual
    pub value_same : (e : Expr) → FitsExpr n e → value_in after e ≡ value_in before e
    value_same (num v) fits = refl
    value_same (var s) fits = ap (λ (x : Entry). Ok x.integer) (same s fits)
    value_same (get s i) fits =
        ap (λ (o : Outcome). and_then o (number_at (items_at after s))) (value_same i fits.1)
        ∙ ap (λ (xs : List ℤ). and_then (value_in before i) (number_at xs)) (items_same s fits.0)
    value_same (len_of s) fits = ap (λ (xs : List ℤ). Ok (pos (length xs))) (items_same s fits)
    value_same (neg e) fits = ap (λ (o : Outcome). and_then o negated) (value_same e fits)
    value_same (chain e ls) fits =
        ap (λ (o : Outcome). and_then o (chained_in after ls)) (value_same e fits.0)
        ∙ then_same (value_in before e) (chained_in after ls) (chained_in before ls) (λ v. chained_same ls fits.1 v)
    value_same (cmp op l r) fits =
        ap (λ (o : Outcome). and_both o (value_in after r) (compared op)) (value_same l fits.0)
        ∙ ap (λ (o : Outcome). and_both (value_in before l) o (compared op)) (value_same r fits.1)

    pub chained_same : (ls : Links) → FitsLinks n ls → (v : ℤ) → chained_in after ls v ≡ chained_in before ls v
    chained_same last fits v = refl
    chained_same (link op e ls) fits v =
        ap (λ (o : Outcome). and_then (and_then o (operated op v)) (chained_in after ls)) (value_same e fits.0)
        ∙ then_same (and_then (value_in before e) (operated op v)) (chained_in after ls) (chained_in before ls) (λ w. chained_same ls fits.1 w)

-- ---- a number that is left in a slot

pub set_left : (k d : ℕ) (v : ℤ) (row : List Entry) → d < length row → Left k d v row (with_integer_at row d v)
set_left k d v row within = record {
  long = length-set row d (record (entry_at row d) { integer = v });
  number = ap Entry.integer (same_entry row d (record (entry_at row d) { integer = v }) within);
  blocks = λ below. ap Entry.blocks (same_entry row d (record (entry_at row d) { integer = v }) within);
  others = λ s below differ. other_entry row d s (record (entry_at row d) { integer = v }) differ;
}

pub left_leaves : (k d : ℕ) (row : List Entry) (o : Outcome) → d < length row → Leaves k d row o (next_act (left_in d row o) row (straight []))
left_leaves k d row (Ok v) within = set_left k d v row within
left_leaves k d row (Err kind) within = (refl, same_self k row)

-- what is left in a row that is the same below k as another is left in that one
pub left_from : (k d : ℕ) (row mid after : List Entry) (v : ℤ) → SameBelow k row mid → Left k d v mid after → Left k d v row after
left_from k d row mid after v same h = record {
  long = h.long ∙ same.long;
  number = h.number;
  blocks = λ below. h.blocks below ∙ ap Entry.blocks (same.same d below);
  others = λ s below differ. h.others s below differ ∙ same.same s below;
}

pub leaves_from : (k d : ℕ) (row mid : List Entry) (o : Outcome) (x : Ran) → SameBelow k row mid → Leaves k d mid o x → Leaves k d row o x
leaves_from k d row mid (Ok v) (ends after) same h = left_from k d row mid after v same h
leaves_from k d row mid (Ok v) (fails kind after) same h = absurd h
leaves_from k d row mid (Err kind) (ends after) same h = absurd h
leaves_from k d row mid (Err kind) (fails other after) same h = (h.0, same_trans k row mid after same h.1)

-- the last act of code
pub last_act : (k d : ℕ) (row after : List Entry) (o now : Outcome) → SameBelow k row after → d < length row → now ≡ o
    → Leaves k d row o (next_act (left_in d after now) after (straight []))
last_act k d row after o now same within e =
    subst (λ (x : Outcome). Leaves k d row x (next_act (left_in d after now) after (straight []))) e
    (leaves_from k d row after now (next_act (left_in d after now) after (straight [])) same
    (left_leaves k d after now (let long = same.long in omega (arith, within, long))))

-- ---- operands

-- an operand is no slot from k on
abbrev pub IsBelow : ℕ → Operand → Type 0
IsBelow k (at_slot s) = s < k
IsBelow k (literal v) = Unit {0}

pub operand_same : (k : ℕ) (before after : List Entry) (a : Operand) → SameBelow k before after → IsBelow k a
    → operand_in after a ≡ operand_in before a
operand_same k before after (at_slot s) same below = ap Entry.integer (same.same s below)
operand_same k before after (literal v) same below = refl
