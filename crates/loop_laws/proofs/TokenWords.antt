-- Bytes that are these words, whatever stands behind them, and the words of the call of a loop.
use Rattle.std.proofs.Common.{◌≡◌, ℕ, List, [], ◌∷◌, ◌++◌, map, refl, sym, ap, ◌∙◌, subst, append_assoc}
use Rattle.std.specs.Prelude.{codes}
use Rattle.std.specs.List.{flat_map}
use Rattle.std.proofs.lemmas.List.{append-nil}
use Rattle.par_text.specs.declared.kind.Kind.{Kind}
use Rattle.par_text.specs.declared.kind.Kind.TheVariants as k
use Rattle.par_text.specs.Rule.{Token}
use Rattle.par_text.specs.Lexing.{pieces, lexed, token_from, piece_rest, form_of, keyword_kind, symbol_kind, value_of}
use Rattle.canonical_text.proofs.Lexemes.{Clear, with_tokens, with_tokens-append, one_token, no_token, gap-space, word-whole}
use Rattle.canonical_text.proofs.Leaves.{IsToken, IsName, comparing-whole}
use Rattle.par_lex.specs.declared.lexeme.Lexeme.{Lexeme}
use Rattle.loop_expand.specs.Loops.{Range, numbers, parts, Loop}
use Rattle.loop_expand.specs.Texts.{bytes_of, sum_name, spaced, run_text, range_text, others_text, callee_text}
use Rattle.loop_laws.specs.LoopCalls.{Word, word_of, word_at, run_words}
use Rattle.loop_laws.proofs.LoopTokens.{IsLexemeOf, AreLexemesOf, HasRuns, AreRunsOf, IsLoopOf}

-- the tokens of bytes, with others behind them
pub record Gives (at line : ℕ) (bytes behind : List ℕ) (ws : List Word) : Type 0 where
  pub tokens : List Token
  pub at_end : ℕ
  pub last_line : ℕ
  pub same : lexed (pieces 0 at line bytes) ≡ with_tokens tokens (lexed (pieces 0 at_end last_line behind))
  pub words : map word_of tokens ≡ ws

-- What is put in front of clear bytes is these words.
pub record AreWords (ws : List Word) (put : List ℕ → List ℕ) : Type 0 where
  pub gives : (at line : ℕ) (t : List ℕ) → Clear t → Gives at line (put t) t ws
  pub front : (t : List ℕ) → put t ≡ put [] ++ t

-- in front of clear bytes it begins with one
abbrev pub StaysClear : (List ℕ → List ℕ) → Type 0
StaysClear put = (t : List ℕ) → Clear t → Clear (put t)

abbrev pub word_for : Kind → List ℕ → Word
word_for j bs = record { kind = j; bytes = bs; value = value_of bs }

pub no_words : AreWords [] (λ t. t)
no_words = record { gives = λ at line t c. record { tokens = []; at_end = at; last_line = line; same = refl; words = refl }; front = λ t. refl }

pub one_word : (j : Kind) (bs : List ℕ) → IsToken j bs → AreWords (word_for j bs ∷ []) (λ t. bs ++ t)
one_word j [] h = absurd h
one_word j (c ∷ cs) h = record {
  gives = λ at line t clear.
      let o = one_token j c cs h.0 h.1.0 at line t (h.1.1.0 t clear) in
      record { tokens = token_from (record { bytes = c ∷ cs; at = at; line = line }) j ∷ []; at_end = o.at_end; last_line = o.last_line; same = o.same; words = refl };
  front = λ t. ap (λ z. z ++ t) (sym (append-nil (c ∷ cs)));
}

pub words-append : (ts us : List Token) → map word_of (ts ++ us) ≡ map word_of ts ++ map word_of us
words-append [] us = refl
words-append (t ∷ ts) us = ap (λ ws. word_of t ∷ ws) (words-append ts us)

pub then_words : {ws us : List Word} {f g : List ℕ → List ℕ} → StaysClear g → AreWords ws f → AreWords us g → AreWords (ws ++ us) (λ t. f (g t))
then_words {ws} {us} {f} {g} clear a b = record {
  gives = λ at line t c.
      let x = a.gives at line (g t) (clear t c) in
      let y = b.gives x.at_end x.last_line t c in
      record {
        tokens = x.tokens ++ y.tokens;
        at_end = y.at_end;
        last_line = y.last_line;
        same = x.same ∙ ap (λ l. with_tokens x.tokens l) y.same ∙ sym (with_tokens-append x.tokens y.tokens (lexed (pieces 0 y.at_end y.last_line t)));
        words = words-append x.tokens y.tokens ∙ ap (λ vs. vs ++ map word_of y.tokens) x.words ∙ ap (λ vs. ws ++ vs) y.words;
      };
  front = λ t. a.front (g t) ∙ ap (λ z. f [] ++ z) (b.front t) ∙ sym (append_assoc (f []) (g []) t) ∙ ap (λ z. z ++ t) (sym (a.front (g [])));
}

pub behind_space : {ws : List Word} {f : List ℕ → List ℕ} → AreWords ws f → AreWords ws (λ t. 32 ∷ f t)
behind_space {ws} {f} a = record {
  gives = λ at line t c.
      let o = no_token (32 ∷ []) (gap-space, tt) at line (f t) in
      let x = a.gives o.at_end o.last_line t c in
      record { tokens = x.tokens; at_end = x.at_end; last_line = x.last_line; same = o.same ∙ x.same; words = x.words };
  front = λ t. ap (λ z. 32 ∷ z) (a.front t);
}

pub same_words : {ws : List Word} {f g : List ℕ → List ℕ} → ((t : List ℕ) → f t ≡ g t) → AreWords ws f → AreWords ws g
same_words {ws} {f} {g} e a = record {
  gives = λ at line t c.
      let x = a.gives at line t c in
      record { tokens = x.tokens; at_end = x.at_end; last_line = x.last_line; same = ap (λ z. lexed (pieces 0 at line z)) (sym (e t)) ∙ x.same; words = x.words };
  front = λ t. sym (e t) ∙ a.front t ∙ ap (λ z. z ++ t) (e []);
}

-- as bytes of their own
pub closed : {ws : List Word} {f : List ℕ → List ℕ} → AreWords ws f → AreWords ws (λ t. f [] ++ t)
closed a = same_words a.front a

-- runs

lexeme_word : (text : List ℕ) (t : Lexeme) → IsLexemeOf text t → word_for t.kind (bytes_of text t) ≡ word_at text t
lexeme_word text t h = ap (λ v. record { kind = t.kind; bytes = bytes_of text t; value = v }) h.1

one_lexeme : (text : List ℕ) (t : Lexeme) → IsLexemeOf text t → AreWords (word_at text t ∷ []) (λ u. bytes_of text t ++ u)
one_lexeme text t h = subst (λ w. AreWords (w ∷ []) (λ u. bytes_of text t ++ u)) (lexeme_word text t h) (one_word t.kind (bytes_of text t) h.0)

spaced_clear : (text : List ℕ) (ts : List Lexeme) → StaysClear (λ u. flat_map (spaced text) ts ++ u)
spaced_clear text [] = λ u c. c
spaced_clear text (t ∷ ts) = λ u c. (refl, refl)

spaced_words : (text : List ℕ) (ts : List Lexeme) → AreLexemesOf text ts → AreWords (run_words text ts) (λ u. flat_map (spaced text) ts ++ u)
spaced_words text [] h = no_words
spaced_words text (t ∷ ts) h =
    same_words (λ u. ap (λ z. 32 ∷ z) (sym (append_assoc (bytes_of text t) (flat_map (spaced text) ts) u)))
    (then_words (spaced_clear text ts) (behind_space (one_lexeme text t h.0)) (spaced_words text ts h.1))

pub run_are_words : (text : List ℕ) (ts : List Lexeme) → AreLexemesOf text ts → AreWords (run_words text ts) (λ u. run_text text ts ++ u)
run_are_words text [] h = no_words
run_are_words text (t ∷ ts) h =
    same_words (λ u. sym (append_assoc (bytes_of text t) (flat_map (spaced text) ts) u))
    (then_words (spaced_clear text ts) (one_lexeme text t h.0) (spaced_words text ts h.1))

-- signs

is_call : IsToken k.Call (codes "call")
unfolding form_of keyword_kind symbol_kind
is_call = (refl, (refl, (word-whole (codes "call") (refl, (refl, (refl, (refl, tt)))), (refl, (refl, (refl, (refl, tt)))))))

is_use : IsToken k.Use (codes "use")
unfolding form_of keyword_kind symbol_kind
is_use = (refl, (refl, (word-whole (codes "use") (refl, (refl, (refl, tt))), (refl, (refl, (refl, tt))))))

is_assign : IsToken k.Assign (codes "=")
unfolding form_of keyword_kind symbol_kind piece_rest
is_assign = (refl, (refl, (comparing-whole 61 refl refl, (refl, tt))))

is_left : IsToken k.LeftParen (codes "(")
unfolding form_of keyword_kind symbol_kind piece_rest
is_left = (refl, (refl, ((λ rest c. refl), (refl, tt))))

is_right : IsToken k.RightParen (codes ")")
unfolding form_of keyword_kind symbol_kind piece_rest
is_right = (refl, (refl, ((λ rest c. refl), (refl, tt))))

is_comma : IsToken k.Comma (codes ",")
unfolding form_of keyword_kind symbol_kind piece_rest
is_comma = (refl, (refl, ((λ rest c. refl), (refl, tt))))

is_minus : IsToken k.Minus (codes "-")
unfolding form_of keyword_kind symbol_kind piece_rest
is_minus = (refl, (refl, ((λ rest c. refl), (refl, tt))))

abbrev pub call_word : Word
call_word = word_for k.Call (codes "call")

abbrev pub use_word : Word
use_word = word_for k.Use (codes "use")

abbrev pub assign_word : Word
assign_word = word_for k.Assign (codes "=")

abbrev pub left_word : Word
left_word = word_for k.LeftParen (codes "(")

abbrev pub right_word : Word
right_word = word_for k.RightParen (codes ")")

abbrev pub comma_word : Word
comma_word = word_for k.Comma (codes ",")

abbrev pub minus_word : Word
minus_word = word_for k.Minus (codes "-")

-- the call

-- `( E )`
abbrev pub grouped : List Word → List Word
grouped ws = left_word ∷ (ws ++ right_word ∷ [])

abbrev pub range_words : List ℕ → Range → List Word
range_words text (numbers low high) = grouped (run_words text low) ++ (comma_word ∷ (grouped (run_words text high) ++ (minus_word ∷ grouped (run_words text low))))
range_words text (parts block most) = use_word ∷ word_for k.Name (bytes_of text block) ∷ []

abbrev pub others_words : List ℕ → List (List Lexeme) → List Word
others_words text [] = []
others_words text (r ∷ rs) = comma_word ∷ (run_words text r ++ others_words text rs)

-- behind its `call`, up to before its `;`
abbrev pub rest_words : List ℕ → ℕ → Loop → List Word
rest_words text j l =
    word_for k.Name (bytes_of text l.target) ∷ assign_word ∷ word_for k.Name (sum_name j) ∷ left_word ∷ (range_words text l.range ++ (others_words text l.others ++ (right_word ∷ [])))

-- a parenthesis ends before whatever stands behind it
left_then : {ws : List Word} {f : List ℕ → List ℕ} → AreWords ws f → AreWords (left_word ∷ ws) (λ t. 40 ∷ f t)
unfolding form_of keyword_kind symbol_kind piece_rest
left_then {ws} {f} a = record {
  gives = λ at line t c.
      let o = one_token k.LeftParen 40 [] refl refl at line (f t) refl in
      let x = a.gives o.at_end o.last_line t c in
      let first : Token = token_from (record { bytes = 40 ∷ []; at = at; line = line }) k.LeftParen in
      record {
        tokens = first ∷ x.tokens;
        at_end = x.at_end;
        last_line = x.last_line;
        same = o.same ∙ ap (λ l. with_tokens (first ∷ []) l) x.same;
        words = ap (λ vs. left_word ∷ vs) x.words;
      };
  front = λ t. ap (λ z. 40 ∷ z) (a.front t);
}

grouped_words : (text : List ℕ) (ts : List Lexeme) → AreLexemesOf text ts → AreWords (grouped (run_words text ts)) (λ t. 40 ∷ (run_text text ts ++ (41 ∷ t)))
grouped_words text ts h = left_then (then_words (λ t c. (refl, refl)) (run_are_words text ts h) (one_word k.RightParen (codes ")") is_right))

range_are_words : (text : List ℕ) (r : Range) → HasRuns text r → AreWords (range_words text r) (λ t. range_text text r ++ t)
range_are_words text (numbers low high) h =
    closed (then_words (λ t c. (refl, refl)) (grouped_words text low h.0.0)
    (then_words (λ t c. (refl, refl)) (one_word k.Comma (codes ",") is_comma)
    (then_words (λ t c. (refl, refl)) (behind_space (grouped_words text high h.1.0))
    (behind_space (then_words (λ t c. (refl, refl)) (one_word k.Minus (codes "-") is_minus) (behind_space (grouped_words text low h.0.0)))))))
range_are_words text (parts block most) h =
    then_words (λ t c. (refl, refl)) (one_word k.Use (codes "use") is_use) (behind_space (one_word k.Name (bytes_of text block) h))

others_clear : (text : List ℕ) (rs : List (List Lexeme)) → StaysClear (λ t. others_text text rs ++ t)
others_clear text [] = λ t c. c
others_clear text (r ∷ rs) = λ t c. (refl, refl)

others_are_words : (text : List ℕ) (rs : List (List Lexeme)) → AreRunsOf text rs → AreWords (others_words text rs) (λ t. others_text text rs ++ t)
others_are_words text [] h = no_words
others_are_words text (r ∷ rs) h =
    same_words (λ t. ap (λ z. codes ", " ++ z) (sym (append_assoc (run_text text r) (others_text text rs) t)))
    (then_words (λ t c. (refl, refl)) (one_word k.Comma (codes ",") is_comma) (behind_space (then_words (others_clear text rs) (run_are_words text r h.0.0) (others_are_words text rs h.1))))

-- `call X = F`
callee_words : {us : List Word} {g : List ℕ → List ℕ} (x f : List ℕ) → IsName x → IsName f → StaysClear g → AreWords us g
    → AreWords (call_word ∷ word_for k.Name x ∷ assign_word ∷ word_for k.Name f ∷ us) (λ t. codes "call " ++ (x ++ (codes " = " ++ (f ++ g t))))
callee_words x f hx hf clear a =
    then_words (λ t c. (refl, refl)) (one_word k.Call (codes "call") is_call)
    (behind_space (then_words (λ t c. (refl, refl)) (one_word k.Name x hx)
    (behind_space (then_words (λ t c. (refl, refl)) (one_word k.Assign (codes "=") is_assign)
    (behind_space (then_words clear (one_word k.Name f hf) a))))))

-- the call of a loop, up to before its `;`
pub call_are_words : (text : List ℕ) (j : ℕ) (l : Loop) → IsName (sum_name j) → IsLoopOf text l
    → AreWords (call_word ∷ rest_words text j l) (λ t. callee_text text j l.target ++ (range_text text l.range ++ (others_text text l.others ++ (41 ∷ t))))
call_are_words text j l named h =
    let opening = callee_words (bytes_of text l.target) (sum_name j) h.target named (λ t c. (refl, refl)) (one_word k.LeftParen (codes "(") is_left) in
    same_words (λ t. opening.front (range_text text l.range ++ (others_text text l.others ++ (41 ∷ t))))
    (callee_words (bytes_of text l.target) (sum_name j) h.target named (λ t c. (refl, refl))
    (left_then (then_words (others_clear_then text l.others) (range_are_words text l.range h.runs)
    (then_words (λ t c. (refl, refl)) (others_are_words text l.others h.others) (one_word k.RightParen (codes ")") is_right)))))
  where
    others_clear_then : (text : List ℕ) (rs : List (List Lexeme)) → StaysClear (λ t. others_text text rs ++ (41 ∷ t))
    others_clear_then text [] = λ t c. (refl, refl)
    others_clear_then text (r ∷ rs) = λ t c. (refl, refl)
