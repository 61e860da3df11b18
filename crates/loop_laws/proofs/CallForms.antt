-- The form of a call whose words are those of a loop's call.
use Rattle.std.proofs.Common.{◌≡◌, ℕ, zero, suc, ◌+◌, true, false, List, [], ◌∷◌, ◌++◌, map, inl, inr, refl, sym, ap, ◌∙◌, append_assoc}
use Rattle.std.specs.Prelude.{None}
use Rattle.par_tree.specs.Tree.{Expr, chain, last, link, minus, integer, Arg, value, lend, Stmt, call_stmt}
use Rattle.par_text.specs.declared.kind.Kind.{Kind}
use Rattle.par_text.specs.declared.kind.Kind.TheVariants as k
use Rattle.par_text.specs.Kinds.{is}
use Rattle.par_text.specs.Rule.{Token, Nonterminal, expression, factor, statements, Rule, nothing, token, mapped, pair, either, many, nest, within}
use Rattle.par_text.specs.Form.{Marked, Form, OfKind, tokens_of}
use Rattle.par_text.specs.Text.{Nested, nested_spelling, nested_meaning}
use Rattle.par_text.specs.Grammar.{rule, name, index_rule, extent_rule, group_rule, sign_rule, number_rule, factor_rule, term_operator, term_link, term_links, term_rule, sum_operator, sum_link, sum_links, sum_rule, comparison, compared_rule, expr_rule, chained, linked, compared, arg_rule, next_arg, more_args, arg_list, args_rule, callee_rule, owning_call, plain_call, any_call}
use Rattle.par_text.proofs.Marks.{tokens_of-append}
use Rattle.par_text.proofs.KindLemmas.{is-self}
use Rattle.canonical_text.proofs.Written.{spells, means_of}
use Rattle.loop_laws.specs.HelperTrees.{difference}
use Rattle.loop_laws.specs.LoopCalls.{Word, word_of, IsExpression}
use Rattle.loop_laws.proofs.TokenWords.{word_for, use_word, assign_word, left_word, right_word, comma_word, minus_word, grouped}
use Rattle.loop_laws.proofs.Without.{false_true, Without, is_without, nested_without}
use Rattle.loop_laws.proofs.FoundCalls.{is_expression}
use Rattle.loop_laws.proofs.FlatWords.{open_behind, IsFlat, Stops, word_head, word_tail, cut_once, words_of_two, flat_expression, flat_argument, StartsOther}

abbrev pub spelled : {X : Type 0} (size depth : ℕ) (r : Rule X) → Form (Nested size) r → List Word
spelled size depth r d = map word_of (tokens_of (spells size depth r d))

-- a token is no other word

kinds_differ : (i j : Kind) → is i j ≡ false → i ≡ j → ⊥
kinds_differ i j e same = false_true (is i j) e (is-self i j (sym same))

other : (i : Kind) (t : OfKind i) (w : Word) (ts ws : List Word) → is i w.kind ≡ false → word_of t.0 ∷ ts ≡ w ∷ ws → ⊥
other i t w ts ws e same = kinds_differ i w.kind e (sym t.1 ∙ ap (λ (x : Word). x.kind) (word_head (word_of t.0) w ts ws same))

no_words : (w : Word) (ws : List Word) → w ∷ ws ≡ [] → ⊥
no_words w ws e = cc

stops_by : (i : Kind) (t : OfKind i) (ws : List Word) → Stops (word_for i [] ∷ ws) → Stops (word_of t.0 ∷ ws)
stops_by i t ws h = ap (λ j. open_behind j 0) t.1 ∙ h

bytes_same : (t : Token) (w : Word) (ts ws : List Word) → word_of t ∷ ts ≡ w ∷ ws → t.bytes ≡ w.bytes
bytes_same t w ts ws e = ap (λ (x : Word). x.bytes) (word_head (word_of t) w ts ws e)

-- the tokens of a form are the same at each depth

abbrev pub SameAt : ℕ → Type 0
SameAt size = (s : Nonterminal) (n m : ℕ) (d : Nested size s) → tokens_of (nested_spelling size n s d) ≡ tokens_of (nested_spelling size m s d)

module _ (size : ℕ) (inner : SameAt size) where
  same_two : (a b c d : List Marked) → tokens_of a ≡ tokens_of c → tokens_of b ≡ tokens_of d → tokens_of (a ++ b) ≡ tokens_of (c ++ d)
  same_two a b c d e h = tokens_of-append a b ∙ ap (λ ts. ts ++ tokens_of b) e ∙ ap (λ ts. tokens_of c ++ ts) h ∙ sym (tokens_of-append c d)

  same_at : {X : Type 0} (r : Rule X) (n m : ℕ) (d : Form (Nested size) r) → tokens_of (spells size n r d) ≡ tokens_of (spells size m r d)
  same_at (nothing x) n m d = refl
  same_at (token j) n m d = refl
  same_at (mapped f a) n m d = same_at a n m d
  same_at (pair f a b) n m d = same_two (spells size n a d.0) (spells size n b d.1) (spells size m a d.0) (spells size m b d.1) (same_at a n m d.0) (same_at b n m d.1)
  same_at (either ks a b) n m (inl d) = same_at a n m d
  same_at (either ks a b) n m (inr d) = same_at b n m d
  same_at (many ks f z a) n m [] = refl
  same_at (many ks f z a) n m (d ∷ ds) = same_two (spells size n a d) (spells size n (many ks f z a) ds) (spells size m a d) (spells size m (many ks f z a) ds) (same_at a n m d) (same_at (many ks f z a) n m ds)
  same_at (nest j a) n m d = ap (λ ts. d.0.0 ∷ ts) (same_at a (n + 1) (m + 1) d.1)
  same_at (within s f) n m d = inner s n m d

pub nested_same_at : (size : ℕ) → SameAt size
nested_same_at zero s n m d = absurd d
nested_same_at (suc size) s n m d = same_at size (nested_same_at size) (rule s) n m d

-- a nested expression is one of its words
inner_expression : (size depth : ℕ) (d : Nested size expression) (ws : List Word) → map word_of (tokens_of (nested_spelling size depth expression d)) ≡ ws → IsExpression ws (nested_meaning size expression d)
inner_expression zero depth d ws e = absurd d
inner_expression (suc size) depth d ws e = record { size = size; form = d; spelled = ap (map word_of) (nested_same_at (suc size) expression 0 depth d) ∙ e; means = refl }

-- parentheses

record Grouped (size : ℕ) (d : Form (Nested size) factor_rule) (inside behind rest : List Word) : Type 0 where
  expr : Expr
  is_ : IsExpression inside expr
  means : means_of size factor_rule d ≡ expr
  same : behind ≡ rest

-- `( E )` as a factor
grouped_factor : (size depth : ℕ) (d : Form (Nested size) factor_rule) (inside behind rest : List Word) → IsFlat inside → spelled size depth factor_rule d ++ behind ≡ left_word ∷ (inside ++ right_word ∷ rest) → Grouped size d inside behind rest
unfolding factor_rule index_rule extent_rule group_rule sign_rule number_rule name
grouped_factor size depth (inl d) inside behind rest flat e = absurd (other k.Name d.0 left_word _ _ refl e)
grouped_factor size depth (inr (inl d)) inside behind rest flat e = absurd (other k.Len d.0 left_word _ _ refl e)
grouped_factor size depth (inr (inr (inl d))) inside behind rest flat e =
    let inner : List Word = map word_of (tokens_of (nested_spelling size (depth + 1) expression d.1.0)) in
    let parts : inner ++ (word_of d.1.1.0 ∷ behind) ≡ inside ++ right_word ∷ rest =
    sym (append_assoc inner (word_of d.1.1.0 ∷ []) behind)
    ∙ ap (λ ws. ws ++ behind) (sym (words_of_two (nested_spelling size (depth + 1) expression d.1.0) (record { token = d.1.1.0; depth = depth + 1 } ∷ [])))
    ∙ word_tail (word_of d.0.0) left_word _ _ e in
    let cut = cut_once inner inside (word_of d.1.1.0 ∷ behind) (right_word ∷ rest) (flat_expression size (depth + 1) d.1.0) flat (stops_by k.RightParen d.1.1 behind refl) refl parts in
    record { expr = nested_meaning size expression d.1.0; is_ = inner_expression size (depth + 1) d.1.0 inside cut.0; means = refl; same = word_tail (word_of d.1.1.0) right_word behind rest cut.1 }
grouped_factor size depth (inr (inr (inr (inl d)))) inside behind rest flat e = absurd (other k.Minus d.0 left_word _ _ refl e)
grouped_factor size depth (inr (inr (inr (inr d)))) inside behind rest flat e = absurd (other k.Number d left_word _ _ refl e)

-- what begins with another word is not there

abbrev pub Avoids : Kind → List Word → Type 0
Avoids j [] = Unit {0}
Avoids j (w ∷ ws) = is j w.kind ≡ false

not_first : (i : Kind) (t : OfKind i) (ts target : List Word) → Avoids i target → word_of t.0 ∷ ts ≡ target → ⊥
not_first i t ts [] h e = no_words (word_of t.0) ts e
not_first i t ts (w ∷ ws) h e = other i t w ts ws h e

no_factors : (size depth : ℕ) (ds : Form (Nested size) term_links) (behind target : List Word) → Avoids k.Star target → Avoids k.Slash target → Avoids k.Percent target → spelled size depth term_links ds ++ behind ≡ target
    → (means_of size term_links ds ≡ last) × (behind ≡ target)
unfolding term_links term_link term_operator
no_factors size depth [] behind target a b c e = (refl, e)
no_factors size depth ((inl t, f) ∷ ds) behind target a b c e = absurd (not_first k.Star t _ target a e)
no_factors size depth ((inr (inl t), f) ∷ ds) behind target a b c e = absurd (not_first k.Slash t _ target b e)
no_factors size depth ((inr (inr t), f) ∷ ds) behind target a b c e = absurd (not_first k.Percent t _ target c e)

no_terms : (size depth : ℕ) (ds : Form (Nested size) sum_links) (behind target : List Word) → Avoids k.Plus target → Avoids k.Minus target → spelled size depth sum_links ds ++ behind ≡ target
    → (means_of size sum_links ds ≡ last) × (behind ≡ target)
unfolding sum_links sum_link sum_operator
no_terms size depth [] behind target a b e = (refl, e)
no_terms size depth ((inl t, f) ∷ ds) behind target a b e = absurd (not_first k.Plus t _ target a e)
no_terms size depth ((inr t, f) ∷ ds) behind target a b e = absurd (not_first k.Minus t _ target b e)

record NoneOf (target : List Word) : Type 0 where
  equal : Avoids k.EqualEqual target
  unequal : Avoids k.NotEqual target
  below : Avoids k.Less target
  at_most : Avoids k.LessEqual target
  above : Avoids k.Greater target
  at_least : Avoids k.GreaterEqual target

no_comparison : (size depth : ℕ) (d : Form (Nested size) compared_rule) (target : List Word) → NoneOf target → spelled size depth compared_rule d ≡ target
    → (means_of size compared_rule d ≡ None) × (target ≡ [])
unfolding compared_rule comparison
no_comparison size depth (inr d) target h e = (refl, sym e)
no_comparison size depth (inl (inl t, s)) target h e = absurd (not_first k.EqualEqual t _ target h.equal e)
no_comparison size depth (inl (inr (inl t), s)) target h e = absurd (not_first k.NotEqual t _ target h.unequal e)
no_comparison size depth (inl (inr (inr (inl t)), s)) target h e = absurd (not_first k.Less t _ target h.below e)
no_comparison size depth (inl (inr (inr (inr (inl t))), s)) target h e = absurd (not_first k.LessEqual t _ target h.at_most e)
no_comparison size depth (inl (inr (inr (inr (inr (inl t)))), s)) target h e = absurd (not_first k.Greater t _ target h.above e)
no_comparison size depth (inl (inr (inr (inr (inr (inr t)))), s)) target h e = absurd (not_first k.GreaterEqual t _ target h.at_least e)

nothing_follows : NoneOf []
nothing_follows = record { equal = tt; unequal = tt; below = tt; at_most = tt; above = tt; at_least = tt }

minus_follows : (ws : List Word) → NoneOf (minus_word ∷ ws)
minus_follows ws = record { equal = refl; unequal = refl; below = refl; at_most = refl; above = refl; at_least = refl }

-- `( E )`, and `( E ) - ( F )`

three_parts : (a b c d : List Word) → ((a ++ b) ++ c) ++ d ≡ a ++ (b ++ (c ++ d))
three_parts a b c d = append_assoc (a ++ b) c d ∙ append_assoc a b (c ++ d)

record IsGroup (size : ℕ) (d : Form (Nested size) expr_rule) (inside : List Word) : Type 0 where
  expr : Expr
  is_ : IsExpression inside expr
  means : means_of size expr_rule d ≡ expr

group_alone : (size depth : ℕ) (d : Form (Nested size) expr_rule) (inside : List Word) → IsFlat inside → spelled size depth expr_rule d ≡ grouped inside → IsGroup size d inside
unfolding expr_rule sum_rule term_rule
group_alone size depth d inside flat e =
    let factor_form = d.0.0.0 in
    let factors = d.0.0.1 in
    let terms = d.0.1 in
    let compared_form = d.1 in
    let a : List Word = spelled size depth factor_rule factor_form in
    let b : List Word = spelled size depth term_links factors in
    let c : List Word = spelled size depth sum_links terms in
    let f : List Word = spelled size depth compared_rule compared_form in
    let parts : spelled size depth expr_rule d ≡ ((a ++ b) ++ c) ++ f =
    words_of_two (spells size depth sum_rule d.0) (spells size depth compared_rule d.1)
    ∙ ap (λ ws. ws ++ f) (words_of_two (spells size depth term_rule d.0.0) (spells size depth sum_links d.0.1) ∙ ap (λ ws. ws ++ c) (words_of_two (spells size depth factor_rule d.0.0.0) (spells size depth term_links d.0.0.1))) in
    let g = grouped_factor size depth factor_form inside (b ++ (c ++ f)) [] flat (sym (three_parts a b c f) ∙ sym parts ∙ e) in
    let x = no_factors size depth factors (c ++ f) [] tt tt tt g.same in
    let y = no_terms size depth terms f [] tt tt x.1 in
    let z = no_comparison size depth compared_form [] nothing_follows y.1 in
    record {
      expr = g.expr;
      is_ = g.is_;
      means = ap (λ l. compared (chained (chained (means_of size factor_rule factor_form) l) (means_of size sum_links terms)) (means_of size compared_rule compared_form)) x.0
          ∙ ap (λ l. compared (chained (means_of size factor_rule factor_form) l) (means_of size compared_rule compared_form)) y.0
          ∙ ap (λ o. compared (means_of size factor_rule factor_form) o) z.0
          ∙ g.means;
    }

record IsDifference (size : ℕ) (d : Form (Nested size) expr_rule) (first second : List Word) : Type 0 where
  left : Expr
  right : Expr
  left_is : IsExpression first left
  right_is : IsExpression second right
  means : means_of size expr_rule d ≡ difference left right

record OneTerm (size : ℕ) (ds : Form (Nested size) sum_links) (inside behind : List Word) : Type 0 where
  expr : Expr
  is_ : IsExpression inside expr
  means : means_of size sum_links ds ≡ link minus expr last
  same : behind ≡ []

one_term : (size depth : ℕ) (ds : Form (Nested size) sum_links) (f : Form (Nested size) compared_rule) (inside : List Word) → IsFlat inside → spelled size depth sum_links ds ++ spelled size depth compared_rule f ≡ minus_word ∷ grouped inside
    → OneTerm size ds inside (spelled size depth compared_rule f)
unfolding sum_links sum_link sum_operator term_rule
one_term size depth [] f inside flat e = absurd (no_words minus_word (grouped inside) (no_comparison size depth f (minus_word ∷ grouped inside) (minus_follows (grouped inside)) e).1)
one_term size depth ((inl t, s) ∷ ds) f inside flat e = absurd (other k.Plus t minus_word _ _ refl e)
one_term size depth ((inr t, s) ∷ ds) f inside flat e =
    let a : List Word = spelled size depth factor_rule s.0 in
    let b : List Word = spelled size depth term_links s.1 in
    let c : List Word = spelled size depth sum_links ds in
    let g : List Word = spelled size depth compared_rule f in
    let parts : spelled size depth sum_links ((inr t, s) ∷ ds) ≡ word_of t.0 ∷ ((a ++ b) ++ c) =
    words_of_two (spells size depth sum_link (inr t, s)) (spells size depth sum_links ds)
    ∙ ap (λ ws. (word_of t.0 ∷ ws) ++ c) (words_of_two (spells size depth factor_rule s.0) (spells size depth term_links s.1)) in
    let rest : ((a ++ b) ++ c) ++ g ≡ grouped inside = word_tail (word_of t.0) minus_word _ _ (ap (λ ws. ws ++ g) (sym parts) ∙ e) in
    let h = grouped_factor size depth s.0 inside (b ++ (c ++ g)) [] flat (sym (three_parts a b c g) ∙ rest) in
    let x = no_factors size depth s.1 (c ++ g) [] tt tt tt h.same in
    let y = no_terms size depth ds g [] tt tt x.1 in
    record {
      expr = h.expr;
      is_ = h.is_;
      means = ap (λ l. linked (minus, chained (means_of size factor_rule s.0) l) (means_of size sum_links ds)) x.0
          ∙ ap (λ l. linked (minus, means_of size factor_rule s.0) l) y.0
          ∙ ap (λ v. link minus v last) h.means;
      same = y.1;
    }

group_minus : (size depth : ℕ) (d : Form (Nested size) expr_rule) (first second : List Word) → IsFlat first → IsFlat second → spelled size depth expr_rule d ≡ grouped first ++ (minus_word ∷ grouped second) → IsDifference size d first second
unfolding expr_rule sum_rule term_rule
group_minus size depth d first second flat1 flat2 e =
    let a : List Word = spelled size depth factor_rule d.0.0.0 in
    let b : List Word = spelled size depth term_links d.0.0.1 in
    let c : List Word = spelled size depth sum_links d.0.1 in
    let f : List Word = spelled size depth compared_rule d.1 in
    let target : List Word = minus_word ∷ grouped second in
    let parts : spelled size depth expr_rule d ≡ ((a ++ b) ++ c) ++ f =
    words_of_two (spells size depth sum_rule d.0) (spells size depth compared_rule d.1)
    ∙ ap (λ ws. ws ++ f) (words_of_two (spells size depth term_rule d.0.0) (spells size depth sum_links d.0.1) ∙ ap (λ ws. ws ++ c) (words_of_two (spells size depth factor_rule d.0.0.0) (spells size depth term_links d.0.0.1))) in
    let g = grouped_factor size depth d.0.0.0 first (b ++ (c ++ f)) target flat1 (sym (three_parts a b c f) ∙ sym parts ∙ e ∙ ap (λ ws. left_word ∷ ws) (append_assoc first (right_word ∷ []) target)) in
    let x = no_factors size depth d.0.0.1 (c ++ f) target refl refl refl g.same in
    let y = one_term size depth d.0.1 d.1 second flat2 x.1 in
    let z = no_comparison size depth d.1 [] nothing_follows y.same in
    record {
      left = g.expr;
      right = y.expr;
      left_is = g.is_;
      right_is = y.is_;
      means = ap (λ l. compared (chained (chained (means_of size factor_rule d.0.0.0) l) (means_of size sum_links d.0.1)) (means_of size compared_rule d.1)) x.0
          ∙ ap (λ l. compared (chained (means_of size factor_rule d.0.0.0) l) (means_of size compared_rule d.1)) y.means
          ∙ ap (λ o. compared (chain (means_of size factor_rule d.0.0.0) (link minus y.expr last)) o) z.0
          ∙ ap (λ v. chain v (link minus y.expr last)) g.means;
    }

-- arguments

pub record IsArgument (words : List Word) (x : Arg) : Type 0 where
  pub size : ℕ
  pub depth : ℕ
  pub form : Form (Nested size) arg_rule
  pub words_are : spelled size depth arg_rule form ≡ words
  pub means : means_of size arg_rule form ≡ x

starts_not : (i : Kind) (t : OfKind i) (ts target : List Word) → StartsOther i target → word_of t.0 ∷ ts ≡ target → ⊥
starts_not i t ts [] h e = h
starts_not i t ts (w ∷ ws) h e = other i t w ts ws h e

pub expression_argument : (words : List Word) (x : Arg) → StartsOther k.Use words → StartsOther k.Own words → IsArgument words x → (e : Expr) × IsExpression words e × (x ≡ value e)
unfolding arg_rule
expression_argument words x u o a = by_form a.form a.words_are a.means
  where
    by_form : (d : Form (Nested a.size) arg_rule) → spelled a.size a.depth arg_rule d ≡ words → means_of a.size arg_rule d ≡ x → (e : Expr) × IsExpression words e × (x ≡ value e)
    by_form (inl d) e m = absurd (starts_not k.Use d.0 _ words u e)
    by_form (inr (inl d)) e m = absurd (starts_not k.Own d.0 _ words o e)
    by_form (inr (inr d)) e m = (nested_meaning a.size expression d, inner_expression a.size a.depth d words e, sym m)

group_of_nested : (size depth : ℕ) (d : Nested size expression) (inside : List Word) → IsFlat inside → map word_of (tokens_of (nested_spelling size depth expression d)) ≡ grouped inside
    → (e : Expr) × IsExpression inside e × (nested_meaning size expression d ≡ e)
group_of_nested zero depth d inside flat e = absurd d
group_of_nested (suc size) depth d inside flat e = let g = group_alone size depth d inside flat e in (g.expr, g.is_, g.means)

difference_of_nested : (size depth : ℕ) (d : Nested size expression) (first second : List Word) → IsFlat first → IsFlat second → map word_of (tokens_of (nested_spelling size depth expression d)) ≡ grouped first ++ (minus_word ∷ grouped second)
    → (a : Expr) × (b : Expr) × IsExpression first a × IsExpression second b × (nested_meaning size expression d ≡ difference a b)
difference_of_nested zero depth d first second flat1 flat2 e = absurd d
difference_of_nested (suc size) depth d first second flat1 flat2 e = let g = group_minus size depth d first second flat1 flat2 e in (g.left, g.right, g.left_is, g.right_is, g.means)

pub group_argument : (inside : List Word) (x : Arg) → IsFlat inside → IsArgument (grouped inside) x → (e : Expr) × IsExpression inside e × (x ≡ value e)
unfolding arg_rule
group_argument inside x flat a = by_form a.form a.words_are a.means
  where
    by_form : (d : Form (Nested a.size) arg_rule) → spelled a.size a.depth arg_rule d ≡ grouped inside → means_of a.size arg_rule d ≡ x → (e : Expr) × IsExpression inside e × (x ≡ value e)
    by_form (inl d) e m = absurd (other k.Use d.0 left_word _ _ refl e)
    by_form (inr (inl d)) e m = absurd (other k.Own d.0 left_word _ _ refl e)
    by_form (inr (inr d)) e m = let g = group_of_nested a.size a.depth d inside flat e in (g.0, g.1, sym m ∙ ap value g.2)

pub difference_argument : (first second : List Word) (x : Arg) → IsFlat first → IsFlat second → IsArgument (grouped first ++ (minus_word ∷ grouped second)) x → (a : Expr) × (b : Expr) × IsExpression first a × IsExpression second b × (x ≡ value (difference a b))
unfolding arg_rule
difference_argument first second x flat1 flat2 a = by_form a.form a.words_are a.means
  where
    by_form : (d : Form (Nested a.size) arg_rule) → spelled a.size a.depth arg_rule d ≡ grouped first ++ (minus_word ∷ grouped second) → means_of a.size arg_rule d ≡ x → (p : Expr) × (q : Expr) × IsExpression first p × IsExpression second q × (x ≡ value (difference p q))
    by_form (inl d) e m = absurd (other k.Use d.0 left_word _ _ refl e)
    by_form (inr (inl d)) e m = absurd (other k.Own d.0 left_word _ _ refl e)
    by_form (inr (inr d)) e m = let g = difference_of_nested a.size a.depth d first second flat1 flat2 e in (g.0, g.1, g.2, g.3, sym m ∙ ap value g.4)

-- no expression begins with `use`
expressions_without_use : (s : Nonterminal) → is_expression s ≡ true → is_without k.Use is_expression (rule s) ≡ true
unfolding name index_rule extent_rule group_rule sign_rule number_rule factor_rule term_operator term_link term_links term_rule sum_operator sum_link sum_links sum_rule comparison compared_rule expr_rule
expressions_without_use expression h = refl
expressions_without_use factor h = refl
expressions_without_use statements h = cc

no_use_first : (ts : List Token) (w : Word) (ws : List Word) → Without k.Use ts → w.kind ≡ k.Use → map word_of ts ≡ w ∷ ws → ⊥
no_use_first [] w ws h i e = no_words w ws (sym e)
no_use_first (t ∷ ts) w ws h i e = false_true (is k.Use t.kind) h.0 (is-self k.Use t.kind (ap (λ (x : Word). x.kind) (word_head (word_of t) w (map word_of ts) ws e) ∙ i))

pub lent_argument : (b : List ℕ) (x : Arg) → IsArgument (use_word ∷ word_for k.Name b ∷ []) x → x ≡ lend b
unfolding arg_rule name
lent_argument b x a = by_form a.form a.words_are a.means
  where
    by_form : (d : Form (Nested a.size) arg_rule) → spelled a.size a.depth arg_rule d ≡ use_word ∷ word_for k.Name b ∷ [] → means_of a.size arg_rule d ≡ x → x ≡ lend b
    by_form (inl d) e m = sym m ∙ ap lend (bytes_same d.1.0 (word_for k.Name b) [] [] (word_tail (word_of d.0.0) use_word (word_of d.1.0 ∷ []) (word_for k.Name b ∷ []) e))
    by_form (inr (inl d)) e m = absurd (other k.Own d.0 use_word _ _ refl e)
    by_form (inr (inr d)) e m = absurd (no_use_first (tokens_of (nested_spelling a.size a.depth expression d)) use_word (word_for k.Name b ∷ []) (nested_without k.Use is_expression expressions_without_use a.size expression refl a.depth d) refl e)

-- lists of arguments

abbrev pub behind_commas : List (List Word) → List Word
behind_commas [] = []
behind_commas (a ∷ as_) = comma_word ∷ (a ++ behind_commas as_)

abbrev pub AreArgumentsOf : List (List Word) → List Arg → Type 0
AreArgumentsOf [] [] = Unit {0}
AreArgumentsOf [] (x ∷ xs) = ⊥
AreArgumentsOf (a ∷ as_) [] = ⊥
AreArgumentsOf (a ∷ as_) (x ∷ xs) = IsArgument a x × AreArgumentsOf as_ xs

abbrev pub AreFlat : List (List Word) → Type 0
AreFlat [] = Unit {0}
AreFlat (a ∷ as_) = IsFlat a × AreFlat as_

stops_commas : (as_ : List (List Word)) (rest : List Word) → Stops (behind_commas as_ ++ right_word ∷ rest)
stops_commas [] rest = refl
stops_commas (a ∷ as_) rest = refl

stops_more : (size depth : ℕ) (ds : Form (Nested size) more_args) (closing : OfKind k.RightParen) (rest : List Word) → Stops (spelled size depth more_args ds ++ word_of closing.0 ∷ rest)
unfolding more_args next_arg
stops_more size depth [] closing rest = stops_by k.RightParen closing rest refl
stops_more size depth (d ∷ ds) closing rest = ap (λ j. open_behind j 0) d.0.1

more_arguments : (size depth : ℕ) (ds : Form (Nested size) more_args) (as_ : List (List Word)) (closing : OfKind k.RightParen) (rest behind : List Word) → AreFlat as_ → spelled size depth more_args ds ++ word_of closing.0 ∷ rest ≡ behind_commas as_ ++ right_word ∷ behind
    → AreArgumentsOf as_ (means_of size more_args ds)
unfolding more_args next_arg
more_arguments size depth [] [] closing rest behind flat e = tt
more_arguments size depth [] (a ∷ as_) closing rest behind flat e = absurd (other k.RightParen closing comma_word _ _ refl e)
more_arguments size depth (d ∷ ds) [] closing rest behind flat e = absurd (other k.Comma d.0 right_word _ _ refl e)
more_arguments size depth (d ∷ ds) (a ∷ as_) closing rest behind flat e =
    let first : List Word = spelled size depth arg_rule d.1 in
    let others : List Word = spelled size depth more_args ds in
    let parts : spelled size depth more_args (d ∷ ds) ≡ word_of d.0.0 ∷ (first ++ others) = words_of_two (spells size depth next_arg d) (spells size depth more_args ds) in
    let left : first ++ (others ++ word_of closing.0 ∷ rest) ≡ a ++ (behind_commas as_ ++ right_word ∷ behind) =
    sym (append_assoc first others (word_of closing.0 ∷ rest))
    ∙ word_tail (word_of d.0.0) comma_word _ _ (ap (λ ws. ws ++ word_of closing.0 ∷ rest) (sym parts) ∙ e)
    ∙ append_assoc a (behind_commas as_) (right_word ∷ behind) in
    let cut = cut_once first a (others ++ word_of closing.0 ∷ rest) (behind_commas as_ ++ right_word ∷ behind) ((flat_argument size).flat depth d.1) flat.0 (stops_more size depth ds closing rest) (stops_commas as_ behind) left in
    (record { size = size; depth = depth; form = d.1; words_are = cut.0; means = refl }, more_arguments size depth ds as_ closing rest behind flat.1 cut.1)

all_arguments : (size depth : ℕ) (d : Form (Nested size) arg_list) (a : List Word) (as_ : List (List Word)) (closing : OfKind k.RightParen) (rest behind : List Word) → (a ≡ [] → ⊥) → IsFlat a → AreFlat as_
    → spelled size depth arg_list d ++ word_of closing.0 ∷ rest ≡ a ++ (behind_commas as_ ++ right_word ∷ behind) → AreArgumentsOf (a ∷ as_) (means_of size arg_list d)
unfolding arg_list
all_arguments size depth (inr d) a as_ closing rest behind some flat flats e =
    absurd (some (sym (cut_once [] a (word_of closing.0 ∷ rest) (behind_commas as_ ++ right_word ∷ behind) (λ n. refl) flat (stops_by k.RightParen closing rest refl) (stops_commas as_ behind) e).0))
all_arguments size depth (inl d) a as_ closing rest behind some flat flats e =
    let first : List Word = spelled size depth arg_rule d.0 in
    let others : List Word = spelled size depth more_args d.1 in
    let left : first ++ (others ++ word_of closing.0 ∷ rest) ≡ a ++ (behind_commas as_ ++ right_word ∷ behind) =
    sym (append_assoc first others (word_of closing.0 ∷ rest)) ∙ ap (λ ws. ws ++ word_of closing.0 ∷ rest) (sym (words_of_two (spells size depth arg_rule d.0) (spells size depth more_args d.1))) ∙ e in
    let cut = cut_once first a (others ++ word_of closing.0 ∷ rest) (behind_commas as_ ++ right_word ∷ behind) ((flat_argument size).flat depth d.0) flat (stops_more size depth d.1 closing rest) (stops_commas as_ behind) left in
    (record { size = size; depth = depth; form = d.0; words_are = cut.0; means = refl }, more_arguments size depth d.1 as_ closing rest behind flats cut.1)

-- calls

pub record IsCallOf (x f : List ℕ) (as_ : List (List Word)) (s : Stmt) : Type 0 where
  pub args : List Arg
  pub are : AreArgumentsOf as_ args
  pub is_ : s ≡ call_stmt (integer x) f args

call_inside : (size depth : ℕ) (d : Form (Nested size) args_rule) (a : List Word) (as_ : List (List Word)) (rest behind : List Word) → (a ≡ [] → ⊥) → IsFlat a → AreFlat as_
    → spelled size depth args_rule d ++ rest ≡ left_word ∷ (a ++ (behind_commas as_ ++ right_word ∷ behind)) → AreArgumentsOf (a ∷ as_) (means_of size args_rule d)
unfolding args_rule
call_inside size depth d a as_ rest behind some flat flats e =
    let list : List Word = spelled size (depth + 1) arg_list d.1.0 in
    all_arguments size (depth + 1) d.1.0 a as_ d.1.1 rest behind some flat flats
    (sym (append_assoc list (word_of d.1.1.0 ∷ []) rest)
    ∙ ap (λ ws. ws ++ rest) (sym (words_of_two (spells size (depth + 1) arg_list d.1.0) (record { token = d.1.1.0; depth = depth + 1 } ∷ [])))
    ∙ word_tail (word_of d.0.0) left_word _ _ e)

pub call_form : (size depth : ℕ) (d : Form (Nested size) any_call) (x f : List ℕ) (a : List Word) (as_ : List (List Word)) (rest behind : List Word) → (a ≡ [] → ⊥) → IsFlat a → AreFlat as_
    → spelled size depth any_call d ++ rest ≡ word_for k.Name x ∷ assign_word ∷ word_for k.Name f ∷ left_word ∷ (a ++ (behind_commas as_ ++ right_word ∷ behind)) → IsCallOf x f (a ∷ as_) (means_of size any_call d)
unfolding any_call owning_call plain_call callee_rule args_rule name
call_form size depth (inl d) x f a as_ rest behind some flat flats e = absurd (other k.Own d.0 (word_for k.Name x) _ _ refl e)
call_form size depth (inr (t, (inr c, args))) x f a as_ rest behind some flat flats e =
    absurd (other k.LeftParen args.0 assign_word _ _ refl (word_tail (word_of t.0) (word_for k.Name x) _ _ e))
call_form size depth (inr (t, (inl c, args))) x f a as_ rest behind some flat flats e =
    let tail1 = word_tail (word_of t.0) (word_for k.Name x) _ _ e in
    let tail2 = word_tail (word_of c.0.0) assign_word _ _ tail1 in
    let tail3 = word_tail (word_of c.1.0) (word_for k.Name f) _ _ tail2 in
    record {
      args = means_of size args_rule args;
      are = call_inside size depth args a as_ rest behind some flat flats tail3;
      is_ = ap (λ z. call_stmt (integer z) c.1.0.bytes (means_of size args_rule args)) (bytes_same t.0 (word_for k.Name x) _ _ e)
          ∙ ap (λ z. call_stmt (integer x) z (means_of size args_rule args)) (bytes_same c.1.0 (word_for k.Name f) _ _ tail2);
    }
