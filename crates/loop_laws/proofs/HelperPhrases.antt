-- The helpers of loops are read as their trees.
use Rattle.std.proofs.Common.{◌≡◌, ℕ, zero, suc, ◌^◌, ◌<◌, false, List, [], ◌∷◌, ◌++◌, map, refl, sym, ap, ◌∙◌, arith, append_assoc}
use Rattle.std.specs.Prelude.{pos, codes}
use Rattle.std.specs.List.{flat_map}
use Rattle.std.specs.Fmt.{decimal}
use Rattle.std.proofs.lemmas.List.{append-nil}
use Rattle.par_tree.specs.Tree.{Name, var}
use Rattle.par_text.specs.Grammar.{func_rule}
use Rattle.canonical_text.specs.Canonical.{behind_comma}
use Rattle.canonical_text.proofs.Claims.{Fits, same_fits}
use Rattle.canonical_text.proofs.Leaves.{IsName}
use Rattle.loop_expand.specs.Texts.{more_names, numbers_helper as numbers_text, parts_helper as parts_text}
use Rattle.loop_laws.specs.HelperTrees.{further_name, further_names, integer_param, pass_on, low_name, count_name, sum_of_all, half_name, sum_of_rest, block_name, left_name, right_name, numbers_helper, parts_helper}
use Rattle.loop_laws.proofs.Phrases.{Begins, same_says}
use Rattle.loop_laws.proofs.Expressions.{IsExpression, variable, IsNumberOf, number, zero_number, one_number, two_number, fifteen_number, sixteen_number, extent, group, no_factors, over_factor, times_factor, term_of, factor_alone, no_terms, plus_term, minus_term, sum_of, term_alone, sum_alone, compares, says_equal, says_at_most, says_above, factor_expression}
use Rattle.loop_laws.proofs.TreeLines.{func_on}
use Rattle.loop_laws.proofs.Statements.{statement, last_statement, braces, declares, assigns, takes_value, lends, AreMore, no_argument, argument, calls, chooses, chooses_once, forks, splits, AreParameters, takes_integer, takes_block, no_parameter, parameter, defines}
use Rattle.loop_laws.proofs.HelperNames.{further_is_name, low_is_name, count_is_name, sum_of_all_is_name, half_is_name, sum_of_rest_is_name, block_is_name, left_is_name, right_is_name}

-- further names

abbrev pub AreNames : List Name → Type 0
AreNames [] = Unit {0}
AreNames (x ∷ xs) = IsName x × AreNames xs

names-append : (xs ys : List Name) → AreNames xs → AreNames ys → AreNames (xs ++ ys)
names-append [] ys a b = b
names-append (x ∷ xs) ys a b = (a.0, names-append xs ys a.1 b)

pub further_are_names : (n : ℕ) → n < 2 ^ 64 → AreNames (further_names n)
further_are_names zero small = tt
further_are_names (suc n) small = names-append (further_names n) (further_name (suc n) ∷ []) (further_are_names n (omega arith)) (further_is_name (suc n) small, tt)

-- `, c1, .., ck`
abbrev pub behind_commas : List Name → List ℕ
behind_commas xs = flat_map behind_comma xs

commas-append : (xs ys : List Name) → behind_commas (xs ++ ys) ≡ behind_commas xs ++ behind_commas ys
commas-append [] ys = refl
commas-append (x ∷ xs) ys = ap (λ z. behind_comma x ++ z) (commas-append xs ys) ∙ sym (append_assoc (behind_comma x) (behind_commas xs) (behind_commas ys))

pub more_names-behind : (n : ℕ) → behind_commas (further_names n) ≡ more_names n
more_names-behind zero = refl
more_names-behind (suc n) =
    commas-append (further_names n) (further_name (suc n) ∷ [])
    ∙ ap (λ z. z ++ behind_commas (further_name (suc n) ∷ [])) (more_names-behind n)
    ∙ ap (λ z. more_names n ++ (codes ", c" ++ z)) (append-nil (decimal (suc n)))

begins_names : (xs : List Name) → Begins (λ t. behind_commas xs ++ t)
begins_names [] = λ rest c. c
begins_names (x ∷ xs) = λ rest c. (refl, refl)

one_more : (x : Name) (xs : List Name) (t : List ℕ) → codes ", " ++ (x ++ (behind_commas xs ++ t)) ≡ behind_commas (x ∷ xs) ++ t
one_more x xs t = ap (λ z. codes ", " ++ z) (sym (append_assoc x (behind_commas xs) t))

passes_on : {most n : ℕ} (xs : List Name) → AreNames xs → AreMore most n (map pass_on xs) (λ t. behind_commas xs ++ t)
passes_on [] h = no_argument
passes_on (x ∷ xs) h = same_says (one_more x xs) (argument (begins_names xs) (takes_value (factor_expression (variable x h.0))) (passes_on xs h.1))

takes_all : {most n : ℕ} (xs : List Name) → AreNames xs → AreParameters most n (map integer_param xs) (λ t. behind_commas xs ++ t)
takes_all [] h = no_parameter
takes_all (x ∷ xs) h = same_says (one_more x xs) (parameter (begins_names xs) (takes_integer x h.0) (takes_all xs h.1))

-- expressions

alone : {most n : ℕ} (x : Name) → IsName x → IsExpression most n (var x) (λ t. x ++ t)
alone x h = factor_expression (variable x h)

-- helpers

module _ {most line n : ℕ} (sum f : List ℕ) (k : ℕ) (sum_named : IsName sum) (f_named : IsName f) (others : AreNames (further_names k)) where
  numbers_fit : Fits most false (suc (suc (suc (suc (suc n))))) func_rule (λ y. func_on line y ≡ numbers_helper sum f k line) (numbers_text sum f (behind_commas (further_names k)))
  numbers_fit =
      (defines {line = line} sum sum_named (λ rest c. (refl, refl)) (takes_integer low_name low_is_name) (parameter (begins_names (further_names k)) (takes_integer count_name count_is_name) (takes_all (further_names k) others))
      (statement (λ rest c. (refl, refl)) (declares sum_of_all sum_of_all_is_name (factor_expression (number (codes "0") (pos 0) zero_number)))
      (last_statement (chooses (λ rest c. (refl, refl))
      (compares _ (codes "==") says_equal (term_alone (factor_alone (variable count_name count_is_name))) (term_alone (factor_alone (number (codes "1") (pos 1) one_number))))
      (braces (last_statement (calls sum_of_all f sum_of_all_is_name f_named (begins_names (further_names k)) (takes_value (alone low_name low_is_name)) (passes_on (further_names k) others))))
      (braces (last_statement (chooses_once
      (compares _ (codes ">") says_above (term_alone (factor_alone (variable count_name count_is_name))) (term_alone (factor_alone (number (codes "1") (pos 1) one_number))))
      (braces
      (statement (λ rest c. (refl, refl)) (declares half_name half_is_name (sum_alone (term_alone (term_of (λ rest c. (refl, refl)) (variable count_name count_is_name) (over_factor (λ rest c. c) (number (codes "2") (pos 2) two_number) no_factors)))))
      (statement (λ rest c. (refl, refl)) (declares sum_of_rest sum_of_rest_is_name (factor_expression (number (codes "0") (pos 0) zero_number)))
      (statement (λ rest c. (refl, refl))
      (forks
      (braces (last_statement (calls sum_of_all sum sum_of_all_is_name sum_named (λ rest c. (refl, refl)) (takes_value (alone low_name low_is_name)) (argument (begins_names (further_names k)) (takes_value (alone half_name half_is_name)) (passes_on (further_names k) others)))))
      (braces (last_statement (calls sum_of_rest sum sum_of_rest_is_name sum_named (λ rest c. (refl, refl))
      (takes_value (sum_alone (sum_of (λ rest c. (refl, refl)) (factor_alone (variable low_name low_is_name)) (plus_term (λ rest c. c) (factor_alone (variable half_name half_is_name)) no_terms))))
      (argument (begins_names (further_names k)) (takes_value (sum_alone (sum_of (λ rest c. (refl, refl)) (factor_alone (variable count_name count_is_name)) (minus_term (λ rest c. c) (factor_alone (variable half_name half_is_name)) no_terms)))) (passes_on (further_names k) others))))))
      (last_statement (assigns sum_of_all sum_of_all_is_name (sum_alone (sum_of (λ rest c. (refl, refl)) (factor_alone (variable sum_of_all sum_of_all_is_name)) (plus_term (λ rest c. c) (factor_alone (variable sum_of_rest sum_of_rest_is_name)) no_terms)))))))))))) (λ rest c. (refl, refl)))))
      (alone sum_of_all sum_of_all_is_name)).fits

  module _ (size : List ℕ) (words : ℕ) (sized : IsNumberOf (pos words) size) where
    parts_fit : Fits most false (suc (suc (suc (suc (suc n))))) func_rule (λ y. func_on line y ≡ parts_helper sum f words k line) (parts_text sum f size (behind_commas (further_names k)))
    parts_fit =
        (defines {line = line} sum sum_named (begins_names (further_names k)) (takes_block block_name block_is_name) (takes_all (further_names k) others)
        (statement (λ rest c. (refl, refl)) (declares count_name count_is_name (factor_expression (extent block_name block_is_name)))
        (statement (λ rest c. (refl, refl)) (declares sum_of_all sum_of_all_is_name (factor_expression (number (codes "0") (pos 0) zero_number)))
        (last_statement (chooses (λ rest c. (refl, refl))
        (compares _ (codes "<=") says_at_most (term_alone (factor_alone (variable count_name count_is_name))) (term_alone (factor_alone (number size (pos words) sized))))
        (braces (last_statement (calls sum_of_all f sum_of_all_is_name f_named (begins_names (further_names k)) (lends block_name block_is_name) (passes_on (further_names k) others))))
        (braces
        (statement (λ rest c. (refl, refl)) (declares half_name half_is_name
        (sum_alone (term_alone (term_of (λ rest c. (refl, refl))
        (group (sum_alone (sum_of (λ rest c. (refl, refl)) (term_of (λ rest c. (refl, refl)) (variable count_name count_is_name) (over_factor (λ rest c. c) (number (codes "2") (pos 2) two_number) no_factors)) (plus_term (λ rest c. c) (factor_alone (number (codes "15") (pos 15) fifteen_number)) no_terms))))
        (over_factor (λ rest c. (refl, refl)) (number (codes "16") (pos 16) sixteen_number) (times_factor (λ rest c. c) (number (codes "16") (pos 16) sixteen_number) no_factors))))))
        (statement (λ rest c. (refl, refl)) (declares sum_of_rest sum_of_rest_is_name (factor_expression (number (codes "0") (pos 0) zero_number)))
        (statement (λ rest c. (refl, refl))
        (splits block_name left_name right_name block_is_name left_is_name right_is_name (alone half_name half_is_name)
        (braces (last_statement (forks
        (braces (last_statement (calls sum_of_all sum sum_of_all_is_name sum_named (begins_names (further_names k)) (lends left_name left_is_name) (passes_on (further_names k) others))))
        (braces (last_statement (calls sum_of_rest sum sum_of_rest_is_name sum_named (begins_names (further_names k)) (lends right_name right_is_name) (passes_on (further_names k) others))))))))
        (last_statement (assigns sum_of_all sum_of_all_is_name (sum_alone (sum_of (λ rest c. (refl, refl)) (factor_alone (variable sum_of_all sum_of_all_is_name)) (plus_term (λ rest c. c) (factor_alone (variable sum_of_rest sum_of_rest_is_name)) no_terms)))))))))
        (λ rest c. (refl, refl))))))
        (alone sum_of_all sum_of_all_is_name)).fits

  pub numbers_read : Fits most false (suc (suc (suc (suc (suc n))))) func_rule (λ y. func_on line y ≡ numbers_helper sum f k line) (numbers_text sum f (more_names k))
  numbers_read = same_fits (ap (λ z. numbers_text sum f z) (more_names-behind k)) numbers_fit

  pub parts_read : (size : List ℕ) (words : ℕ) → IsNumberOf (pos words) size → Fits most false (suc (suc (suc (suc (suc n))))) func_rule (λ y. func_on line y ≡ parts_helper sum f words k line) (parts_text sum f size (more_names k))
  parts_read size words sized = same_fits (ap (λ z. parts_text sum f size z) (more_names-behind k)) (parts_fit size words sized)
