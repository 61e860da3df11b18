-- The canonical text of an expression of a text is read as it.
use Rattle.std.proofs.Common.{◌≡◌, ℕ, suc, ◌+◌, ◌≤◌, Bool, true, false, cond, List, [], ◌∷◌, ◌++◌, refl, sym, ap, ◌∙◌, subst, arith}
use Rattle.std.specs.Prelude.{Option, Some, None, ℤ, pos, Ok, Err, nat_le, codes}
use Rattle.std.proofs.lemmas.List.{append-nil}
use Rattle.std.proofs.lemmas.Bool.{leb-true}
use Rattle.std.specs.List.{list_all}
use Rattle.par_tree.specs.Tree.{ChainOp, plus, minus, times, over, modulo, Comparison, equal, unequal, below, at_most, above, at_least, Expr, num, var, get, len_of, neg, cmp, Links, last, link}
use Rattle.par_text.specs.declared.kind.Kind.TheVariants as k
use Rattle.par_text.specs.declared.syntax_error.SyntaxKind.TheVariants.{BadToken, NumberTooLarge}
use Rattle.par_text.specs.Rule.{Token, expression, factor}
use Rattle.par_text.specs.Lexing.{is_digit, is_letter, value_of, value_from, greatest_number, form_of, of_digits, of_word, of_known, keyword_kind, symbol_kind}
use Rattle.par_text.specs.Text.{Nested, nested_spelling, nested_meaning}
use Rattle.par_text.specs.Grammar.{named, name, index_rule, extent_rule, group_rule, sign_rule, number_rule, factor_rule, chained, linked, term_operator, term_link, term_links, term_rule, sum_operator, sum_link, sum_links, sum_rule, comparison, compared, compared_rule, expr_rule}
use Rattle.canonical_text.specs.declared.place.Place.{Place}
use Rattle.canonical_text.specs.declared.place.Place.TheVariants.{Expression, Sum, Term, Factor}
use Rattle.canonical_text.specs.Canonical.{operand_place, links_text, text_in}
use Rattle.canonical_text.proofs.Lexemes.{gap-space}
use Rattle.canonical_text.proofs.Written.{Opens}
use Rattle.canonical_text.proofs.Claims.{Fits, mapped_fits, pair_fits, then_fits, before_fits, first_fits, second_fits, nothing_fits, none_fits, more_fits, same_fits, gaps_fit, nest_fits, within_fits}
use Rattle.canonical_text.proofs.Leaves.{IsToken, IsName, name_fits, IsNumber, number_fits}
use Rattle.canonical_text.proofs.Symbols.{opens-LeftParen, opens-LeftBracket, opens-Minus, reads-Len, reads-RightParen, reads-RightBracket, reads-Plus, reads-Minus, reads-Star, reads-Slash, reads-Percent, reads-EqualEqual, reads-NotEqual, reads-Less, reads-LessEqual, reads-Greater, reads-GreaterEqual}
use Rattle.canonical_text.proofs.Places.{Reads, Own, Claim, in_place, looser_term, looser_sum, looser_expression, closed_factor, factor_claim}
use Rattle.canonical_text.proofs.Sound.{Sound, TokenOf, Tells, tells_anything, tells_nothing, tells_token, tells_mapped, tells_pair, tells_then, tells_before, tells_either, tells_many, tells_nest, tells_within}

-- a construct opens, and something holds with the room inside
pub record Inside (n : ℕ) (P : ℕ → Type 0) : Type 0 where
  pub room : ℕ
  pub is : n ≡ suc room
  pub holds : P room

-- factors

variable_claim : {most n : ℕ} (x : List ℕ) → IsName x → Claim most Factor n (var x)
unfolding factor_rule index_rule
variable_claim x h =
    factor_claim refl (first_fits (same_fits (append-nil x)
    (pair_fits named (λ rest c. c) (λ y o p q. ap (λ i. named y i) q ∙ ap (λ z. var z) p) (name_fits x h) (second_fits (nothing_fits {R = λ o. o ≡ None} refl)))))

element_claim : {most n : ℕ} (b : List ℕ) (e : Expr) → IsName b → Inside n (λ m. Claim most Expression m e) → Claim most Factor n (get b e)
unfolding factor_rule index_rule
element_claim {most} {n} b e h inside =
    subst (λ (i : ℕ). Claim most Factor i (get b e)) (sym inside.is)
    (factor_claim refl (first_fits
    (pair_fits {Q = λ o. o ≡ Some e} named (λ rest c. (refl, refl)) (λ y o p q. ap (λ i. named y i) q ∙ ap (λ z. get z e) p) (name_fits b h)
    (first_fits (nest_fits opens-LeftBracket.lexeme opens-LeftBracket.form opens-LeftBracket.whole opens-LeftBracket.allowed
    (before_fits (λ rest c. (refl, refl)) (within_fits {s = expression} (λ x. Some x) (λ x q. ap (λ y. Some y) q) (in_place Expression e inside.holds)) reads-RightBracket))))))

extent_claim : {most n : ℕ} (b : List ℕ) → IsName b → Claim most Factor (suc n) (len_of b)
unfolding factor_rule extent_rule
extent_claim b h =
    factor_claim refl (second_fits (first_fits
    (then_fits (λ rest c. (refl, refl)) reads-Len
    (nest_fits opens-LeftParen.lexeme opens-LeftParen.form opens-LeftParen.whole opens-LeftParen.allowed
    (before_fits (λ rest c. (refl, refl)) (mapped_fits len_of (λ x q. ap (λ y. len_of y) q) (name_fits b h)) reads-RightParen)))))

negative_claim : {most n : ℕ} (e : Expr) → Claim most Factor n e → Claim most Factor (suc n) (neg e)
unfolding factor_rule sign_rule
negative_claim e c =
    factor_claim refl (second_fits (second_fits (second_fits (first_fits
    (nest_fits opens-Minus.lexeme opens-Minus.form opens-Minus.whole opens-Minus.allowed
    (within_fits {s = factor} neg (λ x q. ap (λ y. neg y) q) (in_place Factor e c)))))))

number_claim : {most n : ℕ} (z : ℤ) → IsNumber z → Claim most Factor n (num z)
unfolding factor_rule
number_claim z h = factor_claim refl (second_fits (second_fits (second_fits (second_fits (number_fits z h)))))

-- the number of a token
number_of_token : (t : Token) → TokenOf k.Number t → IsNumber t.value
unfolding form_of
number_of_token t h = go t.bytes h.0 h.1
  where
    ok_same : (b : Bool) → cond b (Ok k.Number) (Err NumberTooLarge) ≡ Ok k.Number → b ≡ true
    ok_same true e = refl
    ok_same false e = cc

    from_digits : (all : Bool) (v : ℕ) → cond all (cond (nat_le v greatest_number) (Ok k.Number) (Err NumberTooLarge)) (Err BadToken) ≡ Ok k.Number → v ≤ greatest_number
    from_digits true v e = leb-true v greatest_number (ok_same (nat_le v greatest_number) e)
    from_digits false v e = cc

    by_digit : (b : Bool) (c : ℕ) (cs : List ℕ) → cond b (of_digits (c ∷ cs)) (cond (is_letter c) (of_word (keyword_kind (c ∷ cs)) (c ∷ cs)) (of_known (symbol_kind (c ∷ cs)))) ≡ Ok k.Number → t.value ≡ cond b (pos (value_from 0 (c ∷ cs))) (pos 0) → IsNumber t.value
    by_digit true c cs form value = record { value = value_from 0 (c ∷ cs); is = value; small = from_digits (list_all is_digit (c ∷ cs)) (value_from 0 (c ∷ cs)) form }
    by_digit false c cs form value = record { value = 0; is = value; small = omega arith }

    go : (w : List ℕ) → IsToken k.Number w → t.value ≡ value_of w → IsNumber t.value
    go [] token value = absurd token
    go (c ∷ cs) token value = by_digit (is_digit c) c cs token.1.0 value

-- chains

abbrev pub LinksClaim : ℕ → Place → ℕ → Links → Type 0
LinksClaim most p n last = Unit {0}
LinksClaim most p n (link op e rest) = (operand_place op ≡ p) × (Claim most p n e × LinksClaim most p n rest)

links_open : (l : Links) → Opens (links_text l)
links_open last = λ rest c. c
links_open (link plus e rest) = λ r c. (refl, refl)
links_open (link minus e rest) = λ r c. (refl, refl)
links_open (link times e rest) = λ r c. (refl, refl)
links_open (link over e rest) = λ r c. (refl, refl)
links_open (link modulo e rest) = λ r c. (refl, refl)

abbrev pub space : List ℕ
space = 32 ∷ []

not_factor : Term ≡ Factor → ⊥
not_factor e = cc

not_term : Factor ≡ Term → ⊥
not_term e = cc

-- one more link in front of links
term_more : {most n : ℕ} (op : ChainOp) (e : Expr) (rest : Links) (w : List ℕ) → Fits most false n term_operator (λ y. y ≡ op) w → Claim most Factor n e → Fits most false n term_links (λ y. y ≡ rest) (links_text rest)
    → Fits most false n term_links (λ y. y ≡ link op e rest) (((space ++ w) ++ (space ++ text_in Factor e)) ++ links_text rest)
unfolding term_links term_link
term_more op e rest w o c l =
    more_fits (links_open rest) (λ x y p q. ap (λ z. linked x z) q ∙ ap (λ z. linked z rest) p)
    (pair_fits (λ x y. (x, y)) (λ r h. (refl, refl)) (λ x y p q. ap (λ z. (x, z)) q ∙ ap (λ z. (z, e)) p) (gaps_fit space (gap-space, tt) o) (gaps_fit space (gap-space, tt) (in_place Factor e c)))
    l

sum_more : {most n : ℕ} (op : ChainOp) (e : Expr) (rest : Links) (w : List ℕ) → Fits most false n sum_operator (λ y. y ≡ op) w → Claim most Term n e → Fits most false n sum_links (λ y. y ≡ rest) (links_text rest)
    → Fits most false n sum_links (λ y. y ≡ link op e rest) (((space ++ w) ++ (space ++ text_in Term e)) ++ links_text rest)
unfolding sum_links sum_link
sum_more op e rest w o c l =
    more_fits (links_open rest) (λ x y p q. ap (λ z. linked x z) q ∙ ap (λ z. linked z rest) p)
    (pair_fits (λ x y. (x, y)) (λ r h. (refl, refl)) (λ x y p q. ap (λ z. (x, z)) q ∙ ap (λ z. (z, e)) p) (gaps_fit space (gap-space, tt) o) (gaps_fit space (gap-space, tt) (in_place Term e c)))
    l

reads_times : {most n : ℕ} → Fits most false n term_operator (λ y. y ≡ times) (codes "*")
unfolding term_operator
reads_times = first_fits (mapped_fits (λ _. times) (λ x h. refl) reads-Star)

reads_over : {most n : ℕ} → Fits most false n term_operator (λ y. y ≡ over) (codes "/")
unfolding term_operator
reads_over = second_fits (first_fits (mapped_fits (λ _. over) (λ x h. refl) reads-Slash))

reads_modulo : {most n : ℕ} → Fits most false n term_operator (λ y. y ≡ modulo) (codes "%")
unfolding term_operator
reads_modulo = second_fits (second_fits (mapped_fits (λ _. modulo) (λ x h. refl) reads-Percent))

reads_plus : {most n : ℕ} → Fits most false n sum_operator (λ y. y ≡ plus) (codes "+")
unfolding sum_operator
reads_plus = first_fits (mapped_fits (λ _. plus) (λ x h. refl) reads-Plus)

reads_minus : {most n : ℕ} → Fits most false n sum_operator (λ y. y ≡ minus) (codes "-")
unfolding sum_operator
reads_minus = second_fits (mapped_fits (λ _. minus) (λ x h. refl) reads-Minus)

term_links_fit : {most n : ℕ} (l : Links) → LinksClaim most Factor n l → Fits most false n term_links (λ y. y ≡ l) (links_text l)
unfolding term_links
term_links_fit last h = none_fits refl
term_links_fit (link plus e rest) h = absurd (not_factor h.0)
term_links_fit (link minus e rest) h = absurd (not_factor h.0)
term_links_fit (link times e rest) h = term_more times e rest (codes "*") reads_times h.1.0 (term_links_fit rest h.1.1)
term_links_fit (link over e rest) h = term_more over e rest (codes "/") reads_over h.1.0 (term_links_fit rest h.1.1)
term_links_fit (link modulo e rest) h = term_more modulo e rest (codes "%") reads_modulo h.1.0 (term_links_fit rest h.1.1)

sum_links_fit : {most n : ℕ} (l : Links) → LinksClaim most Term n l → Fits most false n sum_links (λ y. y ≡ l) (links_text l)
unfolding sum_links
sum_links_fit last h = none_fits refl
sum_links_fit (link times e rest) h = absurd (not_term h.0)
sum_links_fit (link over e rest) h = absurd (not_term h.0)
sum_links_fit (link modulo e rest) h = absurd (not_term h.0)
sum_links_fit (link plus e rest) h = sum_more plus e rest (codes "+") reads_plus h.1.0 (sum_links_fit rest h.1.1)
sum_links_fit (link minus e rest) h = sum_more minus e rest (codes "-") reads_minus h.1.0 (sum_links_fit rest h.1.1)

term_chain : {most n : ℕ} (e : Expr) (l : Links) → Claim most Factor n e → LinksClaim most Factor n l → Reads most n Term (chained e l) (text_in Factor e ++ links_text l)
unfolding term_rule
term_chain e l c h = pair_fits chained (links_open l) (λ x y p q. ap (λ z. chained x z) q ∙ ap (λ z. chained z l) p) (in_place Factor e c) (term_links_fit l h)

sum_chain : {most n : ℕ} (e : Expr) (l : Links) → Claim most Term n e → LinksClaim most Term n l → Reads most n Sum (chained e l) (text_in Term e ++ links_text l)
unfolding sum_rule
sum_chain e l c h = pair_fits chained (links_open l) (λ x y p q. ap (λ z. chained x z) q ∙ ap (λ z. chained z l) p) (in_place Term e c) (sum_links_fit l h)

term_claim : {most n : ℕ} (e : Expr) (l : Links) → Claim most Factor n e → LinksClaim most Factor n l → Claim most Term n (chained e l)
term_claim e last c h = looser_term c
term_claim {n = n} e (link plus f rest) c h = absurd (not_factor h.0)
term_claim {n = n} e (link minus f rest) c h = absurd (not_factor h.0)
term_claim {n = n} e (link times f rest) c h = record { room = n; enough = omega arith; own = term_chain e (link times f rest) c h }
term_claim {n = n} e (link over f rest) c h = record { room = n; enough = omega arith; own = term_chain e (link over f rest) c h }
term_claim {n = n} e (link modulo f rest) c h = record { room = n; enough = omega arith; own = term_chain e (link modulo f rest) c h }

sum_claim : {most n : ℕ} (e : Expr) (l : Links) → Claim most Term n e → LinksClaim most Term n l → Claim most Sum n (chained e l)
sum_claim e last c h = looser_sum c
sum_claim {n = n} e (link times f rest) c h = absurd (not_term h.0)
sum_claim {n = n} e (link over f rest) c h = absurd (not_term h.0)
sum_claim {n = n} e (link modulo f rest) c h = absurd (not_term h.0)
sum_claim {n = n} e (link plus f rest) c h = record { room = n; enough = omega arith; own = sum_chain e (link plus f rest) c h }
sum_claim {n = n} e (link minus f rest) c h = record { room = n; enough = omega arith; own = sum_chain e (link minus f rest) c h }

-- comparisons

compare_text : {most n : ℕ} (op : Comparison) (l r : Expr) (w : List ℕ) → Fits most false n comparison (λ y. y ≡ op) w → Claim most Sum n l → Claim most Sum n r
    → Reads most n Expression (cmp op l r) (text_in Sum l ++ ((space ++ w) ++ (space ++ text_in Sum r)))
unfolding expr_rule compared_rule
compare_text op l r w o cl cr =
    pair_fits {Q = λ y. y ≡ Some (op, r)} compared (λ rest c. (refl, refl)) (λ x y p q. ap (λ z. compared x z) q ∙ ap (λ z. cmp op z r) p) (in_place Sum l cl)
    (first_fits (pair_fits (λ c e. Some (c, e)) (λ rest c. (refl, refl)) (λ x y p q. ap (λ z. Some (x, z)) q ∙ ap (λ z. Some (z, r)) p) (gaps_fit space (gap-space, tt) o) (gaps_fit space (gap-space, tt) (in_place Sum r cr))))

own_compare : {most n : ℕ} (op : Comparison) (l r : Expr) → Claim most Sum n l → Claim most Sum n r → Own most n (cmp op l r)
unfolding comparison
own_compare equal l r cl cr = compare_text equal l r (codes "==") (first_fits (mapped_fits (λ _. equal) (λ x h. refl) reads-EqualEqual)) cl cr
own_compare unequal l r cl cr = compare_text unequal l r (codes "!=") (second_fits (first_fits (mapped_fits (λ _. unequal) (λ x h. refl) reads-NotEqual))) cl cr
own_compare below l r cl cr = compare_text below l r (codes "<") (second_fits (second_fits (first_fits (mapped_fits (λ _. below) (λ x h. refl) reads-Less)))) cl cr
own_compare at_most l r cl cr = compare_text at_most l r (codes "<=") (second_fits (second_fits (second_fits (first_fits (mapped_fits (λ _. at_most) (λ x h. refl) reads-LessEqual))))) cl cr
own_compare above l r cl cr = compare_text above l r (codes ">") (second_fits (second_fits (second_fits (second_fits (first_fits (mapped_fits (λ _. above) (λ x h. refl) reads-Greater)))))) cl cr
own_compare at_least l r cl cr = compare_text at_least l r (codes ">=") (second_fits (second_fits (second_fits (second_fits (second_fits (mapped_fits (λ _. at_least) (λ x h. refl) reads-GreaterEqual)))))) cl cr

abbrev ComparedClaim : ℕ → ℕ → Option (Comparison × Expr) → Type 0
ComparedClaim most n None = Unit {0}
ComparedClaim most n (Some c) = Claim most Sum n c.1

compared_claim : {most n : ℕ} (e : Expr) (o : Option (Comparison × Expr)) → Claim most Sum n e → ComparedClaim most n o → Claim most Expression n (compared e o)
compared_claim e None c h = looser_expression c
compared_claim {n = n} e (Some (op, f)) c h = record { room = n; enough = omega arith; own = own_compare op e f c h }

-- what the forms of a text mean

abbrev pub IndexClaim : ℕ → ℕ → Option Expr → Type 0
IndexClaim most n None = Unit {0}
IndexClaim most n (Some e) = Inside n (λ m. Claim most Expression m e)

named_claim : {most n : ℕ} (x : List ℕ) (o : Option Expr) → IsName x → IndexClaim most n o → Claim most Factor n (named x o)
named_claim x None h i = variable_claim x h
named_claim x (Some e) h i = element_claim x e h i

pub tells_name : {most size depth : ℕ} → Tells most size depth name IsName
unfolding name
tells_name = tells_mapped (λ t h. h.0) tells_token

module _ {most size : ℕ}
    (of_expression : (depth n : ℕ) → depth + n ≡ most → (d : Nested size expression) → Sound most (nested_spelling size depth expression d) → Claim most Expression n (nested_meaning size expression d))
    (of_factor : (depth n : ℕ) → depth + n ≡ most → (d : Nested size factor) → Sound most (nested_spelling size depth factor d) → Claim most Factor n (nested_meaning size factor d))
    (depth n : ℕ) (room : depth + n ≡ most) where
  pub tells_index : Tells most size depth index_rule (IndexClaim most n)
  unfolding index_rule
  tells_index =
      tells_either (tells_nest n room (λ m is e. tells_before (tells_within (λ x h. record { room = m; is = is; holds = h }) (of_expression (depth + 1) m e)))) (tells_nothing tt)

  tells_extent : Tells most size depth extent_rule (Claim most Factor n)
  unfolding extent_rule
  tells_extent =
      tells_then (tells_nest n room (λ m is e. tells_before (tells_mapped (λ x h. subst (λ (i : ℕ). Claim most Factor i (len_of x)) (sym is) (extent_claim x h)) tells_name)))

  tells_group : Tells most size depth group_rule (Claim most Factor n)
  unfolding group_rule
  tells_group = tells_nest n room (λ m is e. tells_before (tells_within (λ x h. subst (λ (i : ℕ). Claim most Factor i x) (sym is) (closed_factor h)) (of_expression (depth + 1) m e)))

  tells_sign : Tells most size depth sign_rule (Claim most Factor n)
  unfolding sign_rule
  tells_sign = tells_nest n room (λ m is e. tells_within (λ x h. subst (λ (i : ℕ). Claim most Factor i (neg x)) (sym is) (negative_claim x h)) (of_factor (depth + 1) m e))

  tells_number : Tells most size depth number_rule (Claim most Factor n)
  unfolding number_rule
  tells_number = tells_mapped (λ t h. number_claim t.value (number_of_token t h)) tells_token

  pub tells_factor : Tells most size depth factor_rule (Claim most Factor n)
  unfolding factor_rule
  tells_factor = tells_either (tells_pair named_claim tells_name tells_index) (tells_either tells_extent (tells_either tells_group (tells_either tells_sign tells_number)))

  tells_term_operator : Tells most size depth term_operator (λ op. operand_place op ≡ Factor)
  unfolding term_operator
  tells_term_operator = tells_either (tells_mapped (λ x h. refl) tells_anything) (tells_either (tells_mapped (λ x h. refl) tells_anything) (tells_mapped (λ x h. refl) tells_anything))

  tells_term_links : Tells most size depth term_links (LinksClaim most Factor n)
  unfolding term_links term_link
  tells_term_links = tells_many {P = λ l. (operand_place l.0 ≡ Factor) × Claim most Factor n l.1} tt (λ l rest h g. (h.0, (h.1, g))) (tells_pair (λ op e h c. (h, c)) tells_term_operator tells_factor)

  tells_term : Tells most size depth term_rule (Claim most Term n)
  unfolding term_rule
  tells_term = tells_pair term_claim tells_factor tells_term_links

  tells_sum_operator : Tells most size depth sum_operator (λ op. operand_place op ≡ Term)
  unfolding sum_operator
  tells_sum_operator = tells_either (tells_mapped (λ x h. refl) tells_anything) (tells_mapped (λ x h. refl) tells_anything)

  tells_sum_links : Tells most size depth sum_links (LinksClaim most Term n)
  unfolding sum_links sum_link
  tells_sum_links = tells_many {P = λ l. (operand_place l.0 ≡ Term) × Claim most Term n l.1} tt (λ l rest h g. (h.0, (h.1, g))) (tells_pair (λ op e h c. (h, c)) tells_sum_operator tells_term)

  tells_sum : Tells most size depth sum_rule (Claim most Sum n)
  unfolding sum_rule
  tells_sum = tells_pair sum_claim tells_term tells_sum_links

  pub tells_expression : Tells most size depth expr_rule (Claim most Expression n)
  unfolding expr_rule compared_rule
  tells_expression = tells_pair compared_claim tells_sum (tells_either (tells_pair {P = λ c. Unit {0}} (λ c e h g. g) tells_anything tells_sum) (tells_nothing tt))
