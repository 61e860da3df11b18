-- An expression is read in each place, between parentheses where it needs them.
use Rattle.std.proofs.Common.{◌≡◌, ℕ, suc, ◌+◌, ◌≤◌, Bool, true, false, cond, List, [], ◌∷◌, ◌++◌, refl, ap, ◌∙◌, arith}
use Rattle.std.specs.Prelude.{Option, None}
use Rattle.std.proofs.lemmas.List.{append-nil}
use Rattle.par_tree.specs.Tree.{ChainOp, plus, minus, times, over, modulo, Comparison, Expr, num, var, get, len_of, neg, chain, cmp, Links, last, link}
use Rattle.par_text.specs.Rule.{Rule, expression}
use Rattle.par_text.specs.Grammar.{chained, compared, factor_rule, group_rule, term_links, term_rule, sum_links, sum_rule, compared_rule, expr_rule}
use Rattle.canonical_text.specs.declared.place.Place.{Place}
use Rattle.canonical_text.specs.declared.place.Place.TheVariants.{Expression, Sum, Term, Factor}
use Rattle.canonical_text.specs.Canonical.{needs_parentheses, parenthesised, expr_text, text_in}
use Rattle.canonical_text.proofs.Claims.{Fits, pair_fits, before_fits, first_fits, second_fits, nothing_fits, none_fits, same_fits, roomier, nest_fits, within_fits}
use Rattle.canonical_text.proofs.Symbols.{opens-LeftParen, reads-RightParen}

abbrev pub place_rule : Place → Rule Expr
place_rule Expression = expr_rule
place_rule Sum = sum_rule
place_rule Term = term_rule
place_rule Factor = factor_rule

-- how tight a place is
abbrev pub level : Place → ℕ
level Expression = 0
level Sum = 1
level Term = 2
level Factor = 3

abbrev pub Reads : ℕ → ℕ → Place → Expr → List ℕ → Type 0
Reads most n p e u = Fits most false n (place_rule p) (λ y. y ≡ e) u

-- an operand alone is a chain without links, and a sum alone is an expression

factor_to_term : {most n : ℕ} {e : Expr} {u : List ℕ} → Reads most n Factor e u → Reads most n Term e u
unfolding term_rule term_links
factor_to_term {u = u} w = same_fits (append-nil u) (pair_fits chained (λ rest h. h) (λ x y p q. ap (λ (l : Links). chained x l) q ∙ p) w (none_fits {R = λ y. y ≡ last} refl))

term_to_sum : {most n : ℕ} {e : Expr} {u : List ℕ} → Reads most n Term e u → Reads most n Sum e u
unfolding sum_rule sum_links
term_to_sum {u = u} w = same_fits (append-nil u) (pair_fits chained (λ rest h. h) (λ x y p q. ap (λ (l : Links). chained x l) q ∙ p) w (none_fits {R = λ y. y ≡ last} refl))

sum_to_expression : {most n : ℕ} {e : Expr} {u : List ℕ} → Reads most n Sum e u → Reads most n Expression e u
unfolding expr_rule compared_rule
sum_to_expression {u = u} w = same_fits (append-nil u) (pair_fits compared (λ rest h. h) (λ x y p q. ap (λ (o : Option (Comparison × Expr)). compared x o) q ∙ p) w (second_fits (nothing_fits {R = λ y. y ≡ None} refl)))

pub up : {most n : ℕ} {e : Expr} {u : List ℕ} (p q : Place) → level q ≤ level p → Reads most n p e u → Reads most n q e u
up Factor Factor le w = w
up Factor Term le w = factor_to_term w
up Factor Sum le w = term_to_sum (factor_to_term w)
up Factor Expression le w = sum_to_expression (term_to_sum (factor_to_term w))
up Term Factor le w = absurd (omega arith)
up Term Term le w = w
up Term Sum le w = term_to_sum w
up Term Expression le w = sum_to_expression (term_to_sum w)
up Sum Factor le w = absurd (omega arith)
up Sum Term le w = absurd (omega arith)
up Sum Sum le w = w
up Sum Expression le w = sum_to_expression w
up Expression Factor le w = absurd (omega arith)
up Expression Term le w = absurd (omega arith)
up Expression Sum le w = absurd (omega arith)
up Expression Expression le w = w

-- the tightest place where an expression stands without parentheses

abbrev pub chain_place : ChainOp → Place
chain_place plus = Sum
chain_place minus = Sum
chain_place times = Term
chain_place over = Term
chain_place modulo = Term

abbrev pub links_place : Links → Place
links_place last = Factor
links_place (link op e rest) = chain_place op

abbrev pub own_place : Expr → Place
own_place (chain e rest) = links_place rest
own_place (cmp op l r) = Expression
own_place _ = Factor

abbrev pub Own : ℕ → ℕ → Expr → Type 0
Own most n e = Reads most n (own_place e) e (expr_text e)

level_most : (p : Place) → level p ≤ 3
level_most Expression = omega arith
level_most Sum = omega arith
level_most Term = omega arith
level_most Factor = omega arith

never : true ≡ false → ⊥
never e = cc

bare : (p : Place) (e : Expr) → needs_parentheses p e ≡ false → level p ≤ level (own_place e)
bare p (num z) h = level_most p
bare p (var x) h = level_most p
bare p (get b i) h = level_most p
bare p (len_of b) h = level_most p
bare p (neg e) h = level_most p
bare Expression (chain e rest) h = omega arith
bare p (chain e last) h = level_most p
bare Factor (chain e (link op f rest)) h = absurd (never h)
bare Sum (chain e (link plus f rest)) h = omega arith
bare Sum (chain e (link minus f rest)) h = omega arith
bare Sum (chain e (link times f rest)) h = omega arith
bare Sum (chain e (link over f rest)) h = omega arith
bare Sum (chain e (link modulo f rest)) h = omega arith
bare Term (chain e (link plus f rest)) h = absurd (never h)
bare Term (chain e (link minus f rest)) h = absurd (never h)
bare Term (chain e (link times f rest)) h = omega arith
bare Term (chain e (link over f rest)) h = omega arith
bare Term (chain e (link modulo f rest)) h = omega arith
bare Expression (cmp op l r) h = omega arith
bare Sum (cmp op l r) h = absurd (never h)
bare Term (cmp op l r) h = absurd (never h)
bare Factor (cmp op l r) h = absurd (never h)

-- an expression between parentheses is a factor
grouped : {most n : ℕ} {e : Expr} {u : List ℕ} → Reads most n Expression e u → Reads most (suc n) Factor e (40 ∷ (u ++ 41 ∷ []))
unfolding factor_rule group_rule
grouped w =
    second_fits (second_fits (first_fits
    (nest_fits opens-LeftParen.lexeme opens-LeftParen.form opens-LeftParen.whole opens-LeftParen.allowed
    (before_fits (λ rest h. (refl, refl)) (within_fits {s = expression} (λ e. e) (λ x h. h) w) reads-RightParen))))

-- how many parentheses stand around an expression in a place
abbrev pub parens : Place → Expr → ℕ
parens p e = cond (needs_parentheses p e) 1 0

-- The canonical text of an expression in a place is read as it, where so many constructs may open.
pub record Claim (most : ℕ) (p : Place) (n : ℕ) (e : Expr) : Type 0 where
  pub room : ℕ
  pub enough : room + parens p e ≤ n
  pub own : Own most room e

pub in_place : {most n : ℕ} (p : Place) (e : Expr) → Claim most p n e → Reads most n p e (text_in p e)
in_place {most} {n} p e c = go (needs_parentheses p e) refl c.enough
  where
    go : (b : Bool) → needs_parentheses p e ≡ b → c.room + cond b 1 0 ≤ n → Reads most n p e (parenthesised b (expr_text e))
    go true is le = up Factor p (level_most p) (roomier n (omega arith) (grouped (up (own_place e) Expression (omega arith) c.own)))
    go false is le = roomier n (omega arith) (up (own_place e) p (bare p e is) c.own)

-- in a looser place no more parentheses are needed

sum_is_chain : (e : Expr) → cond (needs_parentheses Term e) 1 0 ≤ cond (needs_parentheses Factor e) 1 0
sum_is_chain (num z) = omega arith
sum_is_chain (var x) = omega arith
sum_is_chain (get b i) = omega arith
sum_is_chain (len_of b) = omega arith
sum_is_chain (neg e) = omega arith
sum_is_chain (chain e last) = omega arith
sum_is_chain (chain e (link plus f rest)) = omega arith
sum_is_chain (chain e (link minus f rest)) = omega arith
sum_is_chain (chain e (link times f rest)) = omega arith
sum_is_chain (chain e (link over f rest)) = omega arith
sum_is_chain (chain e (link modulo f rest)) = omega arith
sum_is_chain (cmp op l r) = omega arith

comparison_is_needed : (e : Expr) → cond (needs_parentheses Sum e) 1 0 ≤ cond (needs_parentheses Term e) 1 0
comparison_is_needed (num z) = omega arith
comparison_is_needed (var x) = omega arith
comparison_is_needed (get b i) = omega arith
comparison_is_needed (len_of b) = omega arith
comparison_is_needed (neg e) = omega arith
comparison_is_needed (chain e rest) = omega arith
comparison_is_needed (cmp op l r) = omega arith

pub looser_term : {most n : ℕ} {e : Expr} → Claim most Factor n e → Claim most Term n e
looser_term {e = e} c = record { room = c.room; enough = let h = sum_is_chain e in omega (arith, h, c.enough); own = c.own }

pub looser_sum : {most n : ℕ} {e : Expr} → Claim most Term n e → Claim most Sum n e
looser_sum {e = e} c = record { room = c.room; enough = let h = comparison_is_needed e in omega (arith, h, c.enough); own = c.own }

pub looser_expression : {most n : ℕ} {e : Expr} → Claim most Sum n e → Claim most Expression n e
looser_expression {e = e} c = record { room = c.room; enough = omega (arith, c.enough); own = c.own }

one_pair : (b : Bool) → cond b 1 0 ≤ 1
one_pair true = omega arith
one_pair false = omega arith

-- between parentheses all expressions are factors
pub closed_factor : {most n : ℕ} {e : Expr} → Claim most Expression n e → Claim most Factor (suc n) e
closed_factor {e = e} c = record { room = c.room; enough = let h = one_pair (needs_parentheses Factor e) in omega (arith, h, c.enough); own = c.own }

-- an expression that is a factor of itself
pub factor_claim : {most n : ℕ} {e : Expr} → parens Factor e ≡ 0 → Own most n e → Claim most Factor n e
factor_claim {n = n} h own = record { room = n; enough = omega (arith, h); own = own }
