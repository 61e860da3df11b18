-- Expressions as phrases.
use Rattle.std.proofs.Common.{◌≡◌, ℕ, suc, false, List, [], ◌∷◌, ◌++◌, refl, ap, ◌∙◌}
use Rattle.std.specs.Prelude.{ℤ, pos, Some, None, codes}
use Rattle.par_tree.specs.Tree.{plus, minus, times, over, Comparison, equal, at_most, above, Expr, num, var, len_of, cmp, Links, last, link}
use Rattle.par_text.specs.declared.kind.Kind.TheVariants as k
use Rattle.par_text.specs.Rule.{expression}
use Rattle.par_text.specs.Lexing.{form_of, value_from, value_of}
use Rattle.par_text.specs.Grammar.{named, number_of, index_rule, extent_rule, group_rule, number_rule, factor_rule, chained, linked, term_operator, term_link, term_links, term_rule, sum_operator, sum_link, sum_links, sum_rule, comparison, compared, compared_rule, expr_rule}
use Rattle.canonical_text.proofs.Lexemes.{word-whole}
use Rattle.canonical_text.proofs.Claims.{mapped_fits, token_fits}
use Rattle.canonical_text.proofs.Leaves.{IsToken, IsName, name_fits}
use Rattle.canonical_text.proofs.Symbols.{opens-LeftParen, reads-Len, reads-RightParen, reads-Plus, reads-Minus, reads-Star, reads-Slash, reads-EqualEqual, reads-Greater, reads-LessEqual}
use Rattle.loop_laws.proofs.Phrases.{Says, Begins, leaf, pair_says, then_says, before_says, mapped_says, first_says, second_says, nothing_says, none_says, more_says, spaced, nest_says, within_says}

-- the phrase is this expression, at one of the levels of the grammar
abbrev pub IsFactor : ℕ → ℕ → Expr → (List ℕ → List ℕ) → Type 0
IsFactor most n e f = Says most false n factor_rule (λ y. y ≡ e) f

abbrev pub IsTerm : ℕ → ℕ → Expr → (List ℕ → List ℕ) → Type 0
IsTerm most n e f = Says most false n term_rule (λ y. y ≡ e) f

abbrev pub IsSum : ℕ → ℕ → Expr → (List ℕ → List ℕ) → Type 0
IsSum most n e f = Says most false n sum_rule (λ y. y ≡ e) f

abbrev pub IsExpression : ℕ → ℕ → Expr → (List ℕ → List ℕ) → Type 0
IsExpression most n e f = Says most false n expr_rule (λ y. y ≡ e) f

-- factors

pub variable : {most n : ℕ} (x : List ℕ) → IsName x → IsFactor most n (var x) (λ t. x ++ t)
unfolding factor_rule index_rule
variable x h = first_says (pair_says {Q = λ o. o ≡ None} named (λ rest c. c) (λ y o p q. ap (λ z. named y z) q ∙ ap var p) (leaf x (name_fits x h)) (second_says (nothing_says refl)))

abbrev pub IsNumberOf : ℤ → List ℕ → Type 0
IsNumberOf z ds = IsToken k.Number ds × (value_of ds ≡ z)

pub number : {most n : ℕ} (ds : List ℕ) (z : ℤ) → IsNumberOf z ds → IsFactor most n (num z) (λ t. ds ++ t)
unfolding factor_rule number_rule
number [] z h = absurd h.0
number (c ∷ cs) z h =
    second_says (second_says (second_says (second_says
    (leaf (c ∷ cs) (mapped_fits number_of (λ t p. ap num (p.1 ∙ h.1)) (token_fits h.0.0 h.0.1.0 h.0.1.1.0 h.0.1.1.1))))))

-- the numbers of the helpers
pub zero_number : IsNumberOf (pos 0) (codes "0")
unfolding form_of value_from
zero_number = ((refl, (refl, (word-whole (codes "0") (refl, tt), (refl, tt)))), refl)

pub one_number : IsNumberOf (pos 1) (codes "1")
unfolding form_of value_from
one_number = ((refl, (refl, (word-whole (codes "1") (refl, tt), (refl, tt)))), refl)

pub two_number : IsNumberOf (pos 2) (codes "2")
unfolding form_of value_from
two_number = ((refl, (refl, (word-whole (codes "2") (refl, tt), (refl, tt)))), refl)

pub fifteen_number : IsNumberOf (pos 15) (codes "15")
unfolding form_of value_from
fifteen_number = ((refl, (refl, (word-whole (codes "15") (refl, (refl, tt)), (refl, (refl, tt))))), refl)

pub sixteen_number : IsNumberOf (pos 16) (codes "16")
unfolding form_of value_from
sixteen_number = ((refl, (refl, (word-whole (codes "16") (refl, (refl, tt)), (refl, (refl, tt))))), refl)

-- `len(b)`
pub extent : {most n : ℕ} (b : List ℕ) → IsName b → IsFactor most (suc n) (len_of b) (λ t. codes "len(" ++ (b ++ (41 ∷ t)))
unfolding factor_rule extent_rule
extent b h =
    second_says (first_says (then_says (λ rest c. (refl, refl)) (leaf (codes "len") reads-Len)
    (nest_says opens-LeftParen (before_says (λ rest c. (refl, refl)) (mapped_says len_of (λ y q. ap len_of q) (leaf b (name_fits b h))) (leaf (codes ")") reads-RightParen)))))

-- `(e)`
pub group : {most n : ℕ} {e : Expr} {f : List ℕ → List ℕ} → IsExpression most n e f → IsFactor most (suc n) e (λ t. 40 ∷ f (41 ∷ t))
unfolding factor_rule group_rule
group p =
    second_says (second_says (first_says
    (nest_says opens-LeftParen (before_says (λ rest c. (refl, refl)) (within_says {s = expression} (λ e. e) (λ y q. q) p) (leaf (codes ")") reads-RightParen)))))

-- terms

pub no_factors : {most n : ℕ} → Says most false n term_links (λ y. y ≡ last) (λ t. t)
unfolding term_links
no_factors = none_says refl

pub over_factor : {most n : ℕ} {e : Expr} {l : Links} {f g : List ℕ → List ℕ} → Begins g → IsFactor most n e f → Says most false n term_links (λ y. y ≡ l) g → Says most false n term_links (λ y. y ≡ link over e l) (λ t. codes " / " ++ f (g t))
unfolding term_links term_link term_operator
over_factor {e = e} {l = l} begins p q =
    more_says begins (λ x y a b. ap (λ z. linked x z) b ∙ ap (λ z. linked z l) a)
    (pair_says {P = λ y. y ≡ over} (λ x y. (x, y)) (λ rest c. (refl, refl)) (λ x y a b. ap (λ z. (x, z)) b ∙ ap (λ z. (z, e)) a) (spaced (second_says (first_says (mapped_says (λ _. over) (λ x h. refl) (leaf (codes "/") reads-Slash))))) (spaced p))
    q

pub times_factor : {most n : ℕ} {e : Expr} {l : Links} {f g : List ℕ → List ℕ} → Begins g → IsFactor most n e f → Says most false n term_links (λ y. y ≡ l) g → Says most false n term_links (λ y. y ≡ link times e l) (λ t. codes " * " ++ f (g t))
unfolding term_links term_link term_operator
times_factor {e = e} {l = l} begins p q =
    more_says begins (λ x y a b. ap (λ z. linked x z) b ∙ ap (λ z. linked z l) a)
    (pair_says {P = λ y. y ≡ times} (λ x y. (x, y)) (λ rest c. (refl, refl)) (λ x y a b. ap (λ z. (x, z)) b ∙ ap (λ z. (z, e)) a) (spaced (first_says (mapped_says (λ _. times) (λ x h. refl) (leaf (codes "*") reads-Star)))) (spaced p))
    q

pub term_of : {most n : ℕ} {e : Expr} {l : Links} {f g : List ℕ → List ℕ} → Begins g → IsFactor most n e f → Says most false n term_links (λ y. y ≡ l) g → IsTerm most n (chained e l) (λ t. f (g t))
unfolding term_rule
term_of {e = e} {l = l} begins p q = pair_says chained begins (λ x y a b. ap (λ z. chained x z) b ∙ ap (λ z. chained z l) a) p q

pub factor_alone : {most n : ℕ} {e : Expr} {f : List ℕ → List ℕ} → IsFactor most n e f → IsTerm most n e f
factor_alone p = term_of (λ rest c. c) p no_factors

-- sums

pub no_terms : {most n : ℕ} → Says most false n sum_links (λ y. y ≡ last) (λ t. t)
unfolding sum_links
no_terms = none_says refl

pub plus_term : {most n : ℕ} {e : Expr} {l : Links} {f g : List ℕ → List ℕ} → Begins g → IsTerm most n e f → Says most false n sum_links (λ y. y ≡ l) g → Says most false n sum_links (λ y. y ≡ link plus e l) (λ t. codes " + " ++ f (g t))
unfolding sum_links sum_link sum_operator
plus_term {e = e} {l = l} begins p q =
    more_says begins (λ x y a b. ap (λ z. linked x z) b ∙ ap (λ z. linked z l) a)
    (pair_says {P = λ y. y ≡ plus} (λ x y. (x, y)) (λ rest c. (refl, refl)) (λ x y a b. ap (λ z. (x, z)) b ∙ ap (λ z. (z, e)) a) (spaced (first_says (mapped_says (λ _. plus) (λ x h. refl) (leaf (codes "+") reads-Plus)))) (spaced p))
    q

pub minus_term : {most n : ℕ} {e : Expr} {l : Links} {f g : List ℕ → List ℕ} → Begins g → IsTerm most n e f → Says most false n sum_links (λ y. y ≡ l) g → Says most false n sum_links (λ y. y ≡ link minus e l) (λ t. codes " - " ++ f (g t))
unfolding sum_links sum_link sum_operator
minus_term {e = e} {l = l} begins p q =
    more_says begins (λ x y a b. ap (λ z. linked x z) b ∙ ap (λ z. linked z l) a)
    (pair_says {P = λ y. y ≡ minus} (λ x y. (x, y)) (λ rest c. (refl, refl)) (λ x y a b. ap (λ z. (x, z)) b ∙ ap (λ z. (z, e)) a) (spaced (second_says (mapped_says (λ _. minus) (λ x h. refl) (leaf (codes "-") reads-Minus)))) (spaced p))
    q

pub sum_of : {most n : ℕ} {e : Expr} {l : Links} {f g : List ℕ → List ℕ} → Begins g → IsTerm most n e f → Says most false n sum_links (λ y. y ≡ l) g → IsSum most n (chained e l) (λ t. f (g t))
unfolding sum_rule
sum_of {e = e} {l = l} begins p q = pair_says chained begins (λ x y a b. ap (λ z. chained x z) b ∙ ap (λ z. chained z l) a) p q

pub term_alone : {most n : ℕ} {e : Expr} {f : List ℕ → List ℕ} → IsTerm most n e f → IsSum most n e f
term_alone p = sum_of (λ rest c. c) p no_terms

-- expressions

pub sum_alone : {most n : ℕ} {e : Expr} {f : List ℕ → List ℕ} → IsSum most n e f → IsExpression most n e f
unfolding expr_rule compared_rule
sum_alone p = pair_says {Q = λ o. o ≡ None} compared (λ rest c. c) (λ x y a b. ap (λ z. compared x z) b ∙ a) p (second_says (nothing_says refl))

pub compares : {most n : ℕ} {a b : Expr} {f g : List ℕ → List ℕ} (op : Comparison) (w : List ℕ) → Says most false n comparison (λ y. y ≡ op) (λ t. w ++ t) → IsSum most n a f → IsSum most n b g → IsExpression most n (cmp op a b) (λ t. f (32 ∷ (w ++ (32 ∷ g t))))
unfolding expr_rule compared_rule
compares {b = b} op w o p q =
    pair_says {Q = λ y. y ≡ Some (op, b)} compared (λ rest c. (refl, refl)) (λ x y d e. ap (λ z. compared x z) e ∙ ap (λ z. cmp op z b) d) p
    (first_says (pair_says {P = λ y. y ≡ op} (λ c e. Some (c, e)) (λ rest c. (refl, refl)) (λ x y d e. ap (λ z. Some (x, z)) e ∙ ap (λ z. Some (z, b)) d) (spaced o) (spaced q)))

pub says_equal : {most n : ℕ} → Says most false n comparison (λ y. y ≡ equal) (λ t. codes "==" ++ t)
unfolding comparison
says_equal = first_says (mapped_says (λ _. equal) (λ x h. refl) (leaf (codes "==") reads-EqualEqual))

pub says_at_most : {most n : ℕ} → Says most false n comparison (λ y. y ≡ at_most) (λ t. codes "<=" ++ t)
unfolding comparison
says_at_most = second_says (second_says (second_says (first_says (mapped_says (λ _. at_most) (λ x h. refl) (leaf (codes "<=") reads-LessEqual)))))

pub says_above : {most n : ℕ} → Says most false n comparison (λ y. y ≡ above) (λ t. codes ">" ++ t)
unfolding comparison
says_above = second_says (second_says (second_says (second_says (first_says (mapped_says (λ _. above) (λ x h. refl) (leaf (codes ">") reads-Greater))))))

pub factor_expression : {most n : ℕ} {e : Expr} {f : List ℕ → List ℕ} → IsFactor most n e f → IsExpression most n e f
factor_expression p = sum_alone (term_alone (factor_alone p))
