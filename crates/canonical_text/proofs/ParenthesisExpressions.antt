-- The `(` of the canonical text of an expression are at most as many as those of the tokens that it was read from.
use Rattle.std.proofs.Common.{◌≡◌, ℕ, zero, suc, ◌+◌, ◌-◌, ◌≤◌, Bool, true, false, List, [], ◌∷◌, ◌++◌, inl, inr, refl, sym, subst, arith}
use Rattle.std.specs.Prelude.{◌||◌, Option, Some, None, codes}
use Rattle.std.specs.Fmt.{signed_decimal}
use Rattle.std.proofs.lemmas.Bool.{or_left}
use Rattle.par_tree.specs.Tree.{Name, ChainOp, plus, minus, times, over, modulo, Comparison, equal, unequal, below, at_most, above, at_least, Expr, num, var, get, len_of, neg, chain, cmp, Links, last, link}
use Rattle.par_text.specs.Rule.{expression, factor, within}
use Rattle.par_text.specs.Form.{Form}
use Rattle.par_text.specs.Text.{Nested, nested_spelling, nested_meaning}
use Rattle.par_text.specs.Grammar.{named, chained, compared, index_rule, extent_rule, group_rule, sign_rule, number_rule, factor_rule, term_operator, term_link, term_links, term_rule, sum_operator, sum_link, sum_links, sum_rule, comparison, compared_rule, expr_rule}
use Rattle.canonical_text.specs.declared.place.Place.{Place}
use Rattle.canonical_text.specs.declared.place.Place.TheVariants.{Sum, Term, Factor}
use Rattle.canonical_text.specs.Canonical.{operator_text, comparison_text, operand_place, are_of_sum, is_sum, is_chain, is_comparison, parenthesised, expr_text, links_text, text_in}
use Rattle.canonical_text.proofs.Written.{spells, means_of}
use Rattle.canonical_text.proofs.Openings.{opened, opened-append, opened-parenthesised}
use Rattle.canonical_text.proofs.Weights.{weight, weight-append, Weighs, free, weigh_free, weigh_name, weigh_number, weigh_mapped, weigh_pair, weigh_second, weigh_first, weigh_either, weigh_nothing, weigh_nest}

-- the `(` of an expression in a place
abbrev pub opened_in : Place → Expr → ℕ
opened_in p e = opened (text_in p e)

abbrev pub opened_index : Option Expr → ℕ
opened_index None = 0
opened_index (Some i) = opened (expr_text i)

-- fewer parentheses are wanted in a wider place
fewer : (a b : Bool) (text : List ℕ) → (a ≡ true → b ≡ true) → opened (parenthesised a text) ≤ opened (parenthesised b text)
fewer true b text h = subst (λ (x : Bool). opened (parenthesised true text) ≤ opened (parenthesised x text)) (sym (h refl)) (omega arith)
fewer false true text h = let e = opened-append text (codes ")") in omega (arith, e)
fewer false false text h = omega arith

or_weaker : (a b c : Bool) → (b ≡ true → c ≡ true) → (a || b) ≡ true → (a || c) ≡ true
or_weaker true b c h e = refl
or_weaker false b c h e = h e

sums_are_chains : (e : Expr) → is_sum e ≡ true → is_chain e ≡ true
sums_are_chains (num n) h = h
sums_are_chains (var x) h = h
sums_are_chains (get b i) h = h
sums_are_chains (len_of b) h = h
sums_are_chains (neg e) h = h
sums_are_chains (chain e rest) h = refl
sums_are_chains (cmp op l r) h = h

pub term_in_factor : (e : Expr) → opened_in Term e ≤ opened_in Factor e
term_in_factor e = fewer _ _ (expr_text e) (or_weaker (is_comparison e) (is_sum e) (is_chain e) (sums_are_chains e))

pub sum_in_term : (e : Expr) → opened_in Sum e ≤ opened_in Term e
sum_in_term e = fewer _ _ (expr_text e) (or_left (is_comparison e) (is_sum e))

pub expression_in_sum : (e : Expr) → opened (expr_text e) ≤ opened_in Sum e
expression_in_sum e = fewer false (is_comparison e) (expr_text e) (λ h. absurd (never h))
  where
    never : false ≡ true → ⊥
    never e = cc

no_operator : (op : ChainOp) → opened (operator_text op) ≡ 0
no_operator plus = refl
no_operator minus = refl
no_operator times = refl
no_operator over = refl
no_operator modulo = refl

no_comparison : (op : Comparison) → opened (comparison_text op) ≡ 0
no_comparison equal = refl
no_comparison unequal = refl
no_comparison below = refl
no_comparison at_most = refl
no_comparison above = refl
no_comparison at_least = refl

-- the links of a term, or of a sum
abbrev LinksOf : Place → Links → Type 0
LinksOf p last = Unit {0}
LinksOf p (link op e rest) = (operand_place op ≡ p) × LinksOf p rest

opened_link : (p : Place) (op : ChainOp) (e : Expr) (rest : Links) → operand_place op ≡ p → opened (links_text (link op e rest)) ≤ opened_in p e + opened (links_text rest)
opened_link p op e rest h =
    subst (λ (q : Place). opened (links_text (link op e rest)) ≤ opened_in q e + opened (links_text rest)) h
    (let a = opened-append (operator_text op) (text_in (operand_place op) e ++ links_text rest) in
    let b = opened-append (text_in (operand_place op) e) (links_text rest) in
    let c = no_operator op in
    omega (arith, a, b, c))

no_sum : (op : ChainOp) (e : Expr) (rest : Links) → operand_place op ≡ Factor → are_of_sum (link op e rest) ≡ false
no_sum plus e rest h = cc
no_sum minus e rest h = cc
no_sum times e rest h = refl
no_sum over e rest h = refl
no_sum modulo e rest h = refl

opened_chain : (p : Place) (op : ChainOp) (e f : Expr) (rest : Links) → operand_place op ≡ p → opened (expr_text (chain e (link op f rest))) ≤ opened_in p e + opened (links_text (link op f rest))
opened_chain p op e f rest h =
    subst (λ (q : Place). opened (expr_text (chain e (link op f rest))) ≤ opened_in q e + opened (links_text (link op f rest))) h
    (let a = opened-append (text_in (operand_place op) e) (links_text (link op f rest)) in omega (arith, a))

-- a term of factors
term_of : (e : Expr) (ls : Links) → LinksOf Factor ls → opened_in Term (chained e ls) ≤ opened_in Factor e + opened (links_text ls)
term_of e last h = let a = term_in_factor e in omega (arith, a)
term_of e (link op f rest) h =
    subst (λ (b : Bool). opened (parenthesised b (expr_text (chain e (link op f rest)))) ≤ opened_in Factor e + opened (links_text (link op f rest))) (sym (no_sum op f rest h.0))
    (opened_chain Factor op e f rest h.0)

-- a sum of terms
sum_of : (e : Expr) (ls : Links) → LinksOf Term ls → opened_in Sum (chained e ls) ≤ opened_in Term e + opened (links_text ls)
sum_of e last h = let a = sum_in_term e in omega (arith, a)
sum_of e (link op f rest) h = opened_chain Term op e f rest h.0

-- what is known of the forms of expressions and factors that stand inside
pub record Inside (size : ℕ) : Type 0 where
  pub expressions : (depth : ℕ) (d : Nested size expression) → opened (expr_text (nested_meaning size expression d)) ≤ weight (nested_spelling size depth expression d)
  pub factors : (depth : ℕ) (d : Nested size factor) → opened_in Factor (nested_meaning size factor d) ≤ weight (nested_spelling size depth factor d)

module _ {size : ℕ} (inside : Inside size) where
  pub weigh_expression : {X : Type 0} {f : Expr → X} {c : X → ℕ} → ((e : Expr) → c (f e) ≤ opened (expr_text e)) → Weighs size (within expression f) c
  weigh_expression h = record {
    weighs = λ depth d. let a = h (nested_meaning size expression d) in let b = inside.expressions depth d in omega (arith, a, b);
  }

  pub weigh_index : Weighs size index_rule opened_index
  unfolding index_rule
  weigh_index = weigh_either (weigh_nest {ca = opened_index} (λ x. omega arith) (weigh_first (weigh_expression (λ e. omega arith)))) (weigh_nothing (omega arith))

  named_opens : (b : Name) (i : Option Expr) → opened_in Factor (named b i) ≤ opened b + opened_index i
  named_opens b None = omega arith
  named_opens b (Some i) =
      let a = opened-append b (codes "[" ++ (expr_text i ++ codes "]")) in
      let c = opened-append (expr_text i) (codes "]") in
      omega (arith, a, c)

  len_opens : (b : Name) → opened_in Factor (len_of b) ≤ 1 + opened b
  len_opens b = let a = opened-append b (codes ")") in omega (arith, a)

  weigh_extent : Weighs size extent_rule (opened_in Factor)
  unfolding extent_rule
  weigh_extent =
      weigh_second (weigh_nest {ca = λ e. opened_in Factor e - 1} (λ e. omega arith)
      (weigh_first (weigh_mapped {ca = opened} (λ b. let a = len_opens b in omega (arith, a)) weigh_name)))

  weigh_group : Weighs size group_rule (opened_in Factor)
  unfolding group_rule
  weigh_group =
      weigh_nest {ca = λ e. opened (expr_text e)} (λ e. opened-parenthesised (is_comparison e || is_chain e) (expr_text e))
      (weigh_first (weigh_expression (λ e. omega arith)))

  weigh_sign : Weighs size sign_rule (opened_in Factor)
  unfolding sign_rule
  weigh_sign = weigh_nest {ca = opened_in Factor} (λ e. omega arith) (record { weighs = λ depth d. inside.factors depth d })

  weigh_factor : Weighs size factor_rule (opened_in Factor)
  unfolding factor_rule number_rule
  weigh_factor =
      weigh_either (weigh_pair named_opens weigh_name weigh_index)
      (weigh_either weigh_extent
      (weigh_either weigh_group
      (weigh_either weigh_sign
      (weigh_mapped {ca = λ t. opened (signed_decimal t.value)} (λ t. omega arith) weigh_number))))

  -- links

  term_operator_is : (d : Form (Nested size) term_operator) → operand_place (means_of size term_operator d) ≡ Factor
  unfolding term_operator
  term_operator_is (inl d) = refl
  term_operator_is (inr (inl d)) = refl
  term_operator_is (inr (inr d)) = refl

  sum_operator_is : (d : Form (Nested size) sum_operator) → operand_place (means_of size sum_operator d) ≡ Term
  unfolding sum_operator
  sum_operator_is (inl d) = refl
  sum_operator_is (inr d) = refl

  term_links_weigh : (depth : ℕ) (ds : Form (Nested size) term_links) → LinksOf Factor (means_of size term_links ds) × (opened (links_text (means_of size term_links ds)) ≤ weight (spells size depth term_links ds))
  unfolding term_links term_link
  term_links_weigh depth [] = (tt, omega arith)
  term_links_weigh depth (d ∷ ds) =
      let rest = term_links_weigh depth ds in
      let is = term_operator_is d.0 in
      let first = weigh_factor.weighs depth d.1 in
      let one = opened_link Factor (means_of size term_operator d.0) (means_of size factor_rule d.1) (means_of size term_links ds) is in
      let both = weight-append (spells size depth term_link d) (spells size depth term_links ds) in
      let pair = weight-append (spells size depth term_operator d.0) (spells size depth factor_rule d.1) in
      ((is, rest.0), omega (arith, rest.1, first, one, both, pair))

  weigh_term : Weighs size term_rule (opened_in Term)
  unfolding term_rule
  weigh_term = record {
    weighs = λ depth d.
        let first = weigh_factor.weighs depth d.0 in
        let rest = term_links_weigh depth d.1 in
        let all = term_of (means_of size factor_rule d.0) (means_of size term_links d.1) rest.0 in
        let both = weight-append (spells size depth factor_rule d.0) (spells size depth term_links d.1) in
        omega (arith, first, rest.1, all, both);
  }

  sum_links_weigh : (depth : ℕ) (ds : Form (Nested size) sum_links) → LinksOf Term (means_of size sum_links ds) × (opened (links_text (means_of size sum_links ds)) ≤ weight (spells size depth sum_links ds))
  unfolding sum_links sum_link
  sum_links_weigh depth [] = (tt, omega arith)
  sum_links_weigh depth (d ∷ ds) =
      let rest = sum_links_weigh depth ds in
      let is = sum_operator_is d.0 in
      let first = weigh_term.weighs depth d.1 in
      let one = opened_link Term (means_of size sum_operator d.0) (means_of size term_rule d.1) (means_of size sum_links ds) is in
      let both = weight-append (spells size depth sum_link d) (spells size depth sum_links ds) in
      let pair = weight-append (spells size depth sum_operator d.0) (spells size depth term_rule d.1) in
      ((is, rest.0), omega (arith, rest.1, first, one, both, pair))

  pub weigh_sum : Weighs size sum_rule (opened_in Sum)
  unfolding sum_rule
  weigh_sum = record {
    weighs = λ depth d.
        let first = weigh_term.weighs depth d.0 in
        let rest = sum_links_weigh depth d.1 in
        let all = sum_of (means_of size term_rule d.0) (means_of size sum_links d.1) rest.0 in
        let both = weight-append (spells size depth term_rule d.0) (spells size depth sum_links d.1) in
        omega (arith, first, rest.1, all, both);
  }

  abbrev opened_compared : Option (Comparison × Expr) → ℕ
  opened_compared None = 0
  opened_compared (Some c) = opened_in Sum c.1

  compared_opens : (e : Expr) (c : Option (Comparison × Expr)) → opened (expr_text (compared e c)) ≤ opened_in Sum e + opened_compared c
  compared_opens e None = let a = expression_in_sum e in omega (arith, a)
  compared_opens e (Some c) =
      let a = opened-append (text_in Sum e) (comparison_text c.0 ++ text_in Sum c.1) in
      let b = opened-append (comparison_text c.0) (text_in Sum c.1) in
      let n = no_comparison c.0 in
      omega (arith, a, b, n)

  weigh_compared : Weighs size compared_rule opened_compared
  unfolding compared_rule
  weigh_compared = weigh_either (weigh_pair {ca = free} {cb = opened_in Sum} (λ x y. omega arith) (weigh_free comparison) weigh_sum) (weigh_nothing (omega arith))

  pub weigh_expr : Weighs size expr_rule (λ e. opened (expr_text e))
  unfolding expr_rule
  weigh_expr = weigh_pair compared_opens weigh_sum weigh_compared

pub all_inside : (size : ℕ) → Inside size
all_inside zero = record { expressions = λ depth d. absurd d; factors = λ depth d. absurd d }
all_inside (suc size) = record {
  expressions = λ depth d. (weigh_expr (all_inside size)).weighs depth d;
  factors = λ depth d. (weigh_factor (all_inside size)).weighs depth d;
}
