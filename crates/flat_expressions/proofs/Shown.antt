-- The number of an expression over a row is its value over the store that the row shows.
use Rattle.std.proofs.Common.{◌≡◌, List, length, ℤ, pos, Ok, refl, ap, ◌∙◌}
use Rattle.par_tree.specs.Tree.{Name}
use Rattle.slot_store.specs.Passed.Stores.{Store}
use Rattle.slot_store.specs.Passed.Values.{Outcome, and_then, and_both, operated, negated, compared, number_at, value, chained}
use Rattle.slot_store.specs.Passed.Table.{Expr, num, var, get, len_of, neg, chain, cmp, Links, last, link}
use Rattle.slot_store.specs.Passed.Reading.{expr_read, links_read, FitsExpr, FitsLinks}
use Rattle.slot_store.specs.Rows.{Entry, items_at}
use Rattle.slot_store.specs.Agreement.{ShowsStore}
use Rattle.slot_store.proofs.Agreement.{integer_is, items_are}
use Rattle.flat_expressions.specs.Values.{value_in, chained_in}
use Rattle.flat_expressions.proofs.Rows.{then_same}

module _ (names : List Name) (row : List Entry) (store : Store) (shows : ShowsStore names row store) where
  mutual
    unfolding value

    pub value_shown : (e : Expr) → FitsExpr (length names) e → value_in row e ≡ value store (expr_read names e)
    value_shown (num v) fits = refl
    value_shown (var s) fits = ap (λ (v : ℤ). Ok v) (integer_is names row store shows s fits)
    value_shown (get s i) fits =
        ap (λ (o : Outcome). and_then o (number_at (items_at row s))) (value_shown i fits.1)
        ∙ ap (λ (xs : List ℤ). and_then (value store (expr_read names i)) (number_at xs)) (items_are names row store shows s fits.0)
    value_shown (len_of s) fits = ap (λ (xs : List ℤ). Ok (pos (length xs))) (items_are names row store shows s fits)
    value_shown (neg e) fits = ap (λ (o : Outcome). and_then o negated) (value_shown e fits)
    value_shown (chain e ls) fits =
        ap (λ (o : Outcome). and_then o (chained_in row ls)) (value_shown e fits.0)
        ∙ then_same (value store (expr_read names e)) (chained_in row ls) (chained store (links_read names ls)) (λ v. chained_shown ls fits.1 v)
    value_shown (cmp op l r) fits =
        ap (λ (o : Outcome). and_both o (value_in row r) (compared op)) (value_shown l fits.0)
        ∙ ap (λ (o : Outcome). and_both (value store (expr_read names l)) o (compared op)) (value_shown r fits.1)

    pub chained_shown : (ls : Links) → FitsLinks (length names) ls → (v : ℤ) → chained_in row ls v ≡ chained store (links_read names ls) v
    chained_shown last fits v = refl
    chained_shown (link op e ls) fits v =
        ap (λ (o : Outcome). and_then (and_then o (operated op v)) (chained_in row ls)) (value_shown e fits.0)
        ∙ then_same (and_then (value store (expr_read names e)) (operated op v)) (chained_in row ls) (chained store (links_read names ls))
        (λ w. chained_shown ls fits.1 w)
