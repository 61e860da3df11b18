-- In the text in which each loop is replaced, the call of a loop stands as tokens of its own.
use Rattle.std.proofs.Common.{◌≡◌, ℕ, zero, suc, ◌+◌, ◌-◌, ◌<◌, ◌≤◌, Bool, true, false, cond, List, [], ◌∷◌, ◌++◌, length, map, take, drop, Option, Some, None, Ok, Err, refl, sym, ap, ◌∙◌, subst, arith, append_assoc}
use Rattle.std.specs.Prelude.{◌==◌, ◌&&◌, ◌||◌, not, codes}
use Rattle.std.specs.List.{filter, list_all}
use Rattle.std.specs.Str.{bytes_eq}
use Rattle.std.proofs.lemmas.Bool.{eqb-true}
use Rattle.std.proofs.lemmas.List.{take-append-le, take-append-drop, drop-drop}
use Rattle.par_text.specs.declared.kind.Kind.{Kind}
use Rattle.par_text.specs.declared.kind.Kind.TheVariants as k
use Rattle.par_text.specs.declared.syntax_error.SyntaxKind.TheVariants.{BadToken, NumberTooLarge}
use Rattle.par_text.specs.Kinds.{is}
use Rattle.par_text.specs.Rule.{Token}
use Rattle.par_text.specs.Lexing.{Lexed, is_word, is_letter, is_digit, is_not_newline, takes_equal, begins_with_equal, run, piece_rest, line_after, pieces, form_of, kind_in, symbols, symbol_kind, keyword_kind, of_known, of_word, of_digits, token_from, with_piece, lexed}
use Rattle.par_text.proofs.KindLemmas.{both_true}
use Rattle.canonical_text.proofs.Lexemes.{IsGap, AreGaps, gap-newline, one_token, no_token, with_tokens}
use Rattle.canonical_text.proofs.Leaves.{IsToken, IsName}
use Rattle.loop_expand.specs.Loops.{Loop}
use Rattle.loop_expand.specs.Texts.{between, bytes_of, place_behind, sum_name, callee_text, range_text, others_text, call_text, is_line_feed, line_feeds}
use Rattle.loop_expand.specs.Expansion.{with_others, Apart, replacement}
use Rattle.loop_laws.specs.LoopCalls.{Word, word_of}
use Rattle.loop_laws.proofs.Joining.{in_front, place_after, lines_after, piece_in_front, same_tokens, BothHave, both_have}
use Rattle.loop_expand.proofs.TokenPlaces.{piece_rest_le}
use Rattle.loop_laws.proofs.Pieces.{walk, IsBoundary, walk-add}
use Rattle.loop_laws.proofs.LoopTokens.{IsLoopOf, AreLoopsOf, word_not_newline}
use Rattle.loop_laws.proofs.TokenWords.{call_word, rest_words, call_are_words}

-- the first byte is one of a word
abbrev pub StartsWord : List ℕ → Type 0
StartsWord [] = ⊥
StartsWord (c ∷ cs) = is_word c ≡ true

-- a byte of a word is no `=`

word_not_equal : (c : ℕ) → is_word c ≡ true → (c == 61) ≡ false
word_not_equal c h = by_test (c == 61) refl
  where
    never : false ≡ true → ⊥
    never e = cc

    by_test : (b : Bool) → (c == 61) ≡ b → b ≡ false
    by_test true e = absurd (never (ap is_word (sym (eqb-true c 61 e)) ∙ h))
    by_test false e = refl

-- a piece that ends before a word ends before every word

run_ends : (p : ℕ → Bool) → ((c : ℕ) → is_word c ≡ true → p c ≡ true) → (a d : List ℕ) → StartsWord d → run p (a ++ d) ≤ length a → (w : List ℕ) → StartsWord w → run p (a ++ w) ≡ run p a
run_ends p all [] [] start le w word = absurd start
run_ends p all [] (c ∷ d) start le w word = absurd (too_long (p c) (all c start) le)
  where
    too_long : (b : Bool) → b ≡ true → cond b (suc (run p d)) 0 ≤ 0 → ⊥
    too_long true e le = omega (arith, le)
    too_long false e le = cc
run_ends p all (c ∷ a) d start le w word = by_test (p c) (λ h. run_ends p all a d start h w word) le
  where
    by_test : (b : Bool) → (run p (a ++ d) ≤ length a → run p (a ++ w) ≡ run p a) → cond b (suc (run p (a ++ d))) 0 ≤ suc (length a) → cond b (suc (run p (a ++ w))) 0 ≡ cond b (suc (run p a)) 0
    by_test true more le = ap suc (more (omega (arith, le)))
    by_test false more le = refl

equal_ends : (a w : List ℕ) → StartsWord w → begins_with_equal (a ++ w) ≡ begins_with_equal a
equal_ends [] [] word = absurd word
equal_ends [] (c ∷ w) word = word_not_equal c word
equal_ends (c ∷ a) w word = refl

rest_ends : (c : ℕ) (a d w : List ℕ) → StartsWord d → StartsWord w → piece_rest c (a ++ d) ≤ length a → piece_rest c (a ++ w) ≡ piece_rest c a
unfolding piece_rest
rest_ends c a d w start word le = by_tests (is_word c) (c == 35) le
  where
    by_tests : (x y : Bool) → cond x (run is_word (a ++ d)) (cond y (run is_not_newline (a ++ d)) (cond (takes_equal c && begins_with_equal (a ++ d)) 1 0)) ≤ length a
        → cond x (run is_word (a ++ w)) (cond y (run is_not_newline (a ++ w)) (cond (takes_equal c && begins_with_equal (a ++ w)) 1 0)) ≡ cond x (run is_word a) (cond y (run is_not_newline a) (cond (takes_equal c && begins_with_equal a) 1 0))
    by_tests true y le = run_ends is_word (λ e h. h) a d start le w word
    by_tests false true le = run_ends is_not_newline word_not_newline a d start le w word
    by_tests false false le = ap (λ b. cond (takes_equal c && b) 1 0) (equal_ends a w word)

-- what a piece still has to come stands before the next boundary
skip_before : (skip : ℕ) (a d : List ℕ) → walk skip (length a) (a ++ d) ≡ 0 → skip ≤ length a
skip_before skip [] d e = omega (arith, e)
skip_before zero (c ∷ a) d e = omega arith
skip_before (suc skip) (c ∷ a) d e = let more = skip_before skip a d e in omega (arith, more)

-- the tokens of bytes up to a boundary before a word are the same before every word
pub joined_word : (skip at line : ℕ) (a d w : List ℕ) → StartsWord d → StartsWord w → walk skip (length a) (a ++ d) ≡ 0
    → lexed (pieces skip at line (a ++ w)) ≡ in_front (lexed (pieces skip at line a)) (lexed (pieces 0 (place_after at a) (lines_after line a) w))
unfolding pieces lexed
joined_word skip at line [] d w start word e = ap (λ s. lexed (pieces s at line w)) e
joined_word (suc skip) at line (c ∷ a) d w start word e = joined_word skip (at + 1) (line_after c line) a d w start word e
joined_word zero at line (c ∷ a) d w start word e =
    let same : piece_rest c (a ++ w) ≡ piece_rest c a = rest_ends c a d w start word (skip_before (piece_rest c (a ++ d)) a d e) in
    let whole : piece_rest c (a ++ d) ≡ piece_rest c a = rest_ends c a d d start start (skip_before (piece_rest c (a ++ d)) a d e) in
    let short : piece_rest c a ≤ length a = piece_rest_le c a in
    let rest : ℕ = piece_rest c a in
    let behind : Lexed = lexed (pieces 0 (place_after (at + 1) a) (lines_after (line_after c line) a) w) in
    ap (λ (n : ℕ). with_piece (record { bytes = c ∷ take n (a ++ w); at = at; line = line }) (lexed (pieces n (at + 1) (line_after c line) (a ++ w)))) same
    ∙ ap (λ (u : List ℕ). with_piece (record { bytes = c ∷ u; at = at; line = line }) (lexed (pieces rest (at + 1) (line_after c line) (a ++ w)))) (take-append-le rest a w short)
    ∙ ap (λ (l : Lexed). with_piece (record { bytes = c ∷ take rest a; at = at; line = line }) l) (joined_word rest (at + 1) (line_after c line) a d w start word (ap (λ s. walk s (length a) (a ++ d)) (sym whole) ∙ e))
    ∙ piece_in_front (record { bytes = c ∷ take rest a; at = at; line = line }) (lexed (pieces rest (at + 1) (line_after c line) a)) behind

-- `par` begins with a byte of a word

abbrev kind_passes : (Kind → Bool) → List ℕ × Kind → Bool
kind_passes p entry = p entry.1

passes_in : (p : Kind → Bool) (entries : List (List ℕ × Kind)) (w : List ℕ) (j : Kind) → list_all (kind_passes p) entries ≡ true → kind_in entries w ≡ Some j → p j ≡ true
passes_in p [] w j all e = cc
passes_in p (entry ∷ rest) w j all e = by_test (bytes_eq entry.0 w) (both_true (p entry.1) (list_all (kind_passes p) rest) all) (λ h g. passes_in p rest w j h g) e
  where
    by_test : (b : Bool) → (p entry.1 ≡ true) × (list_all (kind_passes p) rest ≡ true) → (list_all (kind_passes p) rest ≡ true → kind_in rest w ≡ Some j → p j ≡ true) → cond b (Some entry.1) (kind_in rest w) ≡ Some j → p j ≡ true
    by_test true h more e = ap p (let same : j ≡ entry.1 = cc in same) ∙ h.0
    by_test false h more e = more h.1 e

abbrev is_no_par : Kind → Bool
is_no_par j = not (is k.Par j)

symbol_no_par : (w : List ℕ) → of_known (symbol_kind w) ≡ Ok k.Par → ⊥
unfolding symbol_kind
symbol_no_par w e = by_kind (kind_in symbols w) refl e
  where
    never : false ≡ true → ⊥
    never e = cc

    by_kind : (o : Option Kind) → kind_in symbols w ≡ o → of_known o ≡ Ok k.Par → ⊥
    by_kind None h e = cc
    by_kind (Some j) h e = never (ap is_no_par (let same : k.Par ≡ j = cc in same) ∙ passes_in is_no_par symbols w j refl h)

digits_no_par : (w : List ℕ) → of_digits w ≡ Ok k.Par → ⊥
digits_no_par w e = by_tests (list_all is_digit w) (_) e
  where
    by_tests : (a b : Bool) → cond a (cond b (Ok k.Number) (Err NumberTooLarge)) (Err BadToken) ≡ Ok k.Par → ⊥
    by_tests true true e = cc
    by_tests true false e = cc
    by_tests false b e = cc

par_starts_word : (c : ℕ) (cs : List ℕ) → form_of (c ∷ cs) ≡ Ok k.Par → is_word c ≡ true
unfolding form_of
par_starts_word c cs e = by_tests (is_digit c) (is_letter c) refl refl e
  where
    by_tests : (a b : Bool) → is_digit c ≡ a → is_letter c ≡ b → cond a (of_digits (c ∷ cs)) (cond b (of_word (keyword_kind (c ∷ cs)) (c ∷ cs)) (of_known (symbol_kind (c ∷ cs)))) ≡ Ok k.Par → (is_letter c || is_digit c) ≡ true
    by_tests true b d l e = absurd (digits_no_par (c ∷ cs) e)
    by_tests false true d l e = ap (λ x. x || is_digit c) l
    by_tests false false d l e = absurd (symbol_no_par (c ∷ cs) e)

starts_taken : (n : ℕ) (d : List ℕ) → IsToken k.Par (take n d) → StartsWord d
starts_taken zero d h = absurd h
starts_taken (suc n) [] h = absurd h
starts_taken (suc n) (c ∷ d) h = par_starts_word c (take n d) h.1.0

pub opening_starts : (text : List ℕ) (l : Loop) → IsLoopOf text l → StartsWord (drop l.opening.at text)
opening_starts text l h = starts_taken l.opening.len (drop l.opening.at text) (subst (λ j. IsToken j (bytes_of text l.opening)) h.opening.1 h.opening.0.0)

-- line feeds are no tokens
feeds_are_gaps : (bytes : List ℕ) → AreGaps (filter is_line_feed bytes)
feeds_are_gaps [] = tt
feeds_are_gaps (c ∷ cs) = by_test (c == 10) refl (feeds_are_gaps cs)
  where
    by_test : (b : Bool) → (c == 10) ≡ b → AreGaps (filter is_line_feed cs) → AreGaps (cond b (c ∷ filter is_line_feed cs) (filter is_line_feed cs))
    by_test true e more = (subst IsGap (sym (eqb-true c 10 e)) gap-newline, more)
    by_test false e more = more

-- tokens among which a call stands, up to its `;`
pub record HasCall (ws : List Word) (ts : List Token) : Type 0 where
  pub front : List Token
  pub call : List Token
  pub closing : Token
  pub behind : List Token
  pub all : ts ≡ front ++ (call ++ (closing ∷ behind))
  pub words : map word_of call ≡ ws
  pub ends : closing.kind ≡ k.Semicolon

-- tokens that begin with a call, and behind its `;` have those of these bytes
record BeginsCall (ws : List Word) (rest : List ℕ) (ts : List Token) : Type 0 where
  call : List Token
  closing : Token
  behind : List Token
  all : ts ≡ call ++ (closing ∷ behind)
  words : map word_of call ≡ ws
  ends : closing.kind ≡ k.Semicolon
  at : ℕ
  line : ℕ
  lexes : lexed (pieces 0 at line rest) ≡ Ok behind

-- the tokens of bytes, of a call, and of what stands behind it
pub record Stands (at line : ℕ) (bytes : List ℕ) (ws : List Word) (rest : List ℕ) (ts : List Token) : Type 0 where
  pub front : List Token
  pub front_lexes : lexed (pieces 0 at line bytes) ≡ Ok front
  pub call : List Token
  pub closing : Token
  pub behind : List Token
  pub all : ts ≡ front ++ (call ++ (closing ∷ behind))
  pub words : map word_of call ≡ ws
  pub ends : closing.kind ≡ k.Semicolon
  pub next : ℕ
  pub next_line : ℕ
  pub lexes : lexed (pieces 0 next next_line rest) ≡ Ok behind

tokens_in_front : (tokens : List Token) (l : Lexed) (ts : List Token) → with_tokens tokens l ≡ Ok ts → (us : List Token) × (l ≡ Ok us) × (ts ≡ tokens ++ us)
tokens_in_front tokens l ts e =
    let both : BothHave (Ok tokens) l ts = both_have (Ok tokens) l ts e in
    (both.behind, both.behind_is, both.both ∙ ap (λ us. us ++ both.behind) (sym (same_tokens tokens both.front both.front_is)))

call_stands : (text : List ℕ) (j : ℕ) (l : Loop) → IsName (sum_name j) → IsLoopOf text l → (at line : ℕ) (rest : List ℕ) (ts : List Token)
    → lexed (pieces 0 at line (replacement text j l ++ rest)) ≡ Ok ts → BeginsCall (call_word ∷ rest_words text j l) rest ts
unfolding form_of symbol_kind keyword_kind piece_rest
call_stands text j l named h at line rest ts e =
    let callee : List ℕ = callee_text text j l.target in
    let range : List ℕ = range_text text l.range in
    let others : List ℕ = others_text text l.others in
    let behind : List ℕ = line_feeds text l ++ rest in
    let bytes : replacement text j l ++ rest ≡ callee ++ (range ++ (others ++ (41 ∷ 59 ∷ behind))) =
    append_assoc (call_text text j l) (line_feeds text l) rest
    ∙ append_assoc callee (range ++ (others ++ codes ");")) behind
    ∙ ap (λ z. callee ++ z) (append_assoc range (others ++ codes ");") behind ∙ ap (λ z. range ++ z) (append_assoc others (codes ");") behind)) in
    let g = (call_are_words text j l named h).gives at line (59 ∷ behind) (refl, refl) in
    let first = tokens_in_front g.tokens (lexed (pieces 0 g.at_end g.last_line (59 ∷ behind))) ts (sym g.same ∙ ap (λ z. lexed (pieces 0 at line z)) (sym bytes) ∙ e) in
    let o = one_token k.Semicolon 59 [] refl refl g.at_end g.last_line behind refl in
    let closing : Token = token_from (record { bytes = 59 ∷ []; at = g.at_end; line = g.last_line }) k.Semicolon in
    let second = tokens_in_front (closing ∷ []) (lexed (pieces 0 o.at_end o.last_line behind)) first.0 (sym o.same ∙ first.1) in
    let n = no_token (line_feeds text l) (feeds_are_gaps (between text l.opening.at (place_behind l.closing))) o.at_end o.last_line rest in
    record {
      call = g.tokens;
      closing = closing;
      behind = second.0;
      all = first.2 ∙ ap (λ us. g.tokens ++ us) second.2;
      words = g.words;
      ends = refl;
      at = n.at_end;
      line = n.last_line;
      lexes = sym n.same ∙ second.1;
    }

has_behind : (ws : List Word) (front ts : List Token) → HasCall ws ts → HasCall ws (front ++ ts)
has_behind ws front ts h = record { front = front ++ h.front; call = h.call; closing = h.closing; behind = h.behind; all = ap (λ us. front ++ us) h.all ∙ sym (append_assoc front h.front (h.call ++ (h.closing ∷ h.behind))); words = h.words; ends = h.ends }

taken_whole : (n : ℕ) (bytes : List ℕ) → StartsWord (drop n bytes) → length (take n bytes) ≡ n
taken_whole zero bytes start = refl
taken_whole (suc n) [] start = absurd start
taken_whole (suc n) (c ∷ bytes) start = ap suc (taken_whole n bytes start)

pub loop_stands : (text : List ℕ) (from j : ℕ) (l : Loop) → IsBoundary text from → from ≤ l.opening.at → IsName (sum_name j) → IsLoopOf text l → (at line : ℕ) (rest : List ℕ) (ts : List Token)
    → lexed (pieces 0 at line (between text from l.opening.at ++ (replacement text j l ++ rest))) ≡ Ok ts → Stands at line (between text from l.opening.at) (call_word ∷ rest_words text j l) rest ts
loop_stands text from j l starts le named h at line rest ts e =
    let n : ℕ = l.opening.at - from in
    let left : List ℕ = drop from text in
    let a : List ℕ = take n left in
    let w : List ℕ = replacement text j l ++ rest in
    let place : from + n ≡ l.opening.at = omega (arith, le) in
    let start : StartsWord (drop n left) = subst StartsWord (ap (λ m. drop m text) (sym place) ∙ sym (drop-drop n from text)) (opening_starts text l h) in
    let ends : walk 0 n left ≡ 0 = sym (walk-add 0 from n text ∙ ap (λ s. walk s n left) starts) ∙ ap (λ m. walk 0 m text) place ∙ h.opening.0.2 in
    let whole : walk 0 (length a) (a ++ drop n left) ≡ 0 = ap (λ m. walk 0 m (a ++ drop n left)) (taken_whole n left start) ∙ ap (λ u. walk 0 n u) (take-append-drop n left) ∙ ends in
    let both : BothHave (lexed (pieces 0 at line a)) (lexed (pieces 0 (place_after at a) (lines_after line a) w)) ts =
    both_have (lexed (pieces 0 at line a)) (lexed (pieces 0 (place_after at a) (lines_after line a) w)) ts (sym (joined_word 0 at line a (drop n left) w start refl whole) ∙ e) in
    let s = call_stands text j l named h (place_after at a) (lines_after line a) rest both.behind both.behind_is in
    record {
      front = both.front;
      front_lexes = both.front_is;
      call = s.call;
      closing = s.closing;
      behind = s.behind;
      all = both.both ∙ ap (λ us. both.front ++ us) s.all;
      words = s.words;
      ends = s.ends;
      next = s.at;
      next_line = s.line;
      lexes = s.lexes;
    }

pub each_call_stands : (text : List ℕ) (before : List Loop) (l : Loop) (behind : List Loop) (from j at line to count : ℕ) (ts : List Token) → IsBoundary text from → Apart from (before ++ l ∷ behind) to → AreLoopsOf text (before ++ l ∷ behind)
    → ((i : ℕ) → i < count → IsName (sum_name i)) → j + length before < count → lexed (pieces 0 at line (with_others (replacement text) text from j (before ++ l ∷ behind))) ≡ Ok ts → HasCall (call_word ∷ rest_words text (j + length before) l) ts
each_call_stands text [] l behind from j at line to count ts starts apart known named room e =
    let s = loop_stands text from j l starts apart.0 (named j (omega (arith, room))) known.0 at line (with_others (replacement text) text (place_behind l.closing) (j + 1) behind) ts e in
    subst (λ i. HasCall (call_word ∷ rest_words text i l) ts) (let same : j ≡ j + 0 = omega arith in same)
    (record { front = s.front; call = s.call; closing = s.closing; behind = s.behind; all = s.all; words = s.words; ends = s.ends })
each_call_stands text (m ∷ before) l behind from j at line to count ts starts apart known named room e =
    let rest : List ℕ = with_others (replacement text) text (place_behind m.closing) (j + 1) (before ++ l ∷ behind) in
    let s = loop_stands text from j m starts apart.0 (named j (omega (arith, room))) known.0 at line rest ts e in
    let more = each_call_stands text before l behind (place_behind m.closing) (j + 1) s.next s.next_line to count s.behind known.0.closing.3 apart.2 known.1 named (omega (arith, room)) s.lexes in
    let ws : List Word = call_word ∷ rest_words text (j + length (m ∷ before)) l in
    let here : HasCall ws s.behind = subst (λ i. HasCall (call_word ∷ rest_words text i l) s.behind) (let same : (j + 1) + length before ≡ j + suc (length before) = omega arith in same) more in
    subst (HasCall ws) (sym (s.all ∙ ap (λ us. s.front ++ us) (sym (append_assoc s.call (s.closing ∷ []) s.behind)) ∙ sym (append_assoc s.front (s.call ++ (s.closing ∷ [])) s.behind)))
    (has_behind ws (s.front ++ (s.call ++ (s.closing ∷ []))) s.behind here)
