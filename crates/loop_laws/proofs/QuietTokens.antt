-- No token of the text in which each loop is replaced has a name that no token of the text has, but in the call of its loop.
use Rattle.std.proofs.Common.{◌≡◌, ℕ, zero, suc, ◌+◌, ◌-◌, ◌^◌, ◌<◌, ◌≤◌, Bool, true, false, cond, List, [], ◌∷◌, ◌++◌, length, map, take, drop, Result, Ok, Err, refl, sym, ap, ◌∙◌, subst, arith}
use Rattle.std.specs.Prelude.{Option, Some, None}
use Rattle.std.specs.Fmt.{decimal}
use Rattle.std.proofs.lemmas.Fmt.{digits_value-decimal}
use Rattle.std.proofs.lemmas.List.{take-append-drop, drop-drop}
use Rattle.par_text.specs.declared.kind.Kind.{Kind}
use Rattle.par_text.specs.declared.kind.Kind.TheVariants as k
use Rattle.par_text.specs.declared.syntax_error.SyntaxKind.{SyntaxKind}
use Rattle.par_text.specs.Rule.{Token}
use Rattle.par_text.specs.Lexing.{Lexed, Piece, piece_rest, line_after, pieces, is_lexeme, form_of, value_of, value_from, token_from, with_token, with_form, with_piece, lexed}
use Rattle.canonical_text.proofs.Leaves.{IsName, numerals}
use Rattle.par_lex.specs.declared.lexeme.Lexeme.{Lexeme}
use Rattle.loop_expand.specs.Loops.{Range, numbers, parts, Loop, Element, sign, word, range_form, others_form, loop_form, BeginsLoop, AreLoops, no_token, no_call, one_loop}
use Rattle.loop_expand.specs.Texts.{between, bytes_of, place_behind, sum_name}
use Rattle.loop_expand.specs.Expansion.{with_others, Apart, replacement}
use Rattle.loop_laws.specs.LoopCalls.{Word, word_of, word_at, run_words}
use Rattle.loop_laws.proofs.Joining.{place_after, lines_after, BothHave, both_have, same_tokens}
use Rattle.loop_laws.proofs.Pieces.{walk, IsBoundary, walk-add}
use Rattle.loop_laws.proofs.LoopTokens.{AllOf, AreElementsOf, elements, elements_behind, IsLoopOf, AreLoopsOf}
use Rattle.loop_laws.proofs.TokenWords.{words-append, word_for, call_word, assign_word, left_word, right_word, comma_word, minus_word, use_word, grouped, range_words, others_words, rest_words}
use Rattle.loop_laws.proofs.CallPlaces.{StartsWord, joined_word, loop_stands, opening_starts}

-- a word is no name of these bytes
abbrev pub IsOther : List ℕ → Word → Type 0
IsOther b w = w.kind ≡ k.Name → w.bytes ≡ b → ⊥

abbrev pub AreOther : List ℕ → List Word → Type 0
AreOther b [] = Unit {0}
AreOther b (w ∷ ws) = IsOther b w × AreOther b ws

pub join_other : (b : List ℕ) (vs ws : List Word) → AreOther b vs → AreOther b ws → AreOther b (vs ++ ws)
join_other b [] ws h g = g
join_other b (v ∷ vs) ws h g = (h.0, join_other b vs ws h.1 g)

other_front : (b : List ℕ) (vs ws : List Word) → AreOther b (vs ++ ws) → AreOther b vs
other_front b [] ws h = tt
other_front b (v ∷ vs) ws h = (h.0, other_front b vs ws h.1)

-- the words of bytes are the same at each place and on each line

abbrev seen : Lexed → Option (List Word)
seen (Ok ts) = Some (map word_of ts)
seen (Err e) = None

abbrev behind_word : Word → Option (List Word) → Option (List Word)
behind_word w (Some ws) = Some (w ∷ ws)
behind_word w None = None

seen_token : (t : Token) (l : Lexed) → seen (with_token t l) ≡ behind_word (word_of t) (seen l)
seen_token t (Ok ts) = refl
seen_token t (Err e) = refl

abbrev seen_form : List ℕ → Result Kind SyntaxKind → Option (List Word) → Option (List Word)
seen_form bs (Ok j) o = behind_word (record { kind = j; bytes = bs; value = value_of bs }) o
seen_form bs (Err f) o = None

with_form_seen : (p : Piece) (form : Result Kind SyntaxKind) (l : Lexed) → seen (with_form p form l) ≡ seen_form p.bytes form (seen l)
with_form_seen p (Ok j) l = seen_token (token_from p j) l
with_form_seen p (Err f) l = refl

with_piece_seen : (p : Piece) (l : Lexed) → seen (with_piece p l) ≡ cond (is_lexeme p.bytes) (seen_form p.bytes (form_of p.bytes) (seen l)) (seen l)
unfolding with_piece
with_piece_seen p l = by_test (is_lexeme p.bytes)
  where
    by_test : (b : Bool) → seen (cond b (with_form p (form_of p.bytes) l) l) ≡ cond b (seen_form p.bytes (form_of p.bytes) (seen l)) (seen l)
    by_test true = with_form_seen p (form_of p.bytes) l
    by_test false = refl

seen_anywhere : (bs : List ℕ) (skip at line at2 line2 : ℕ) → seen (lexed (pieces skip at line bs)) ≡ seen (lexed (pieces skip at2 line2 bs))
unfolding pieces lexed
seen_anywhere [] skip at line at2 line2 = refl
seen_anywhere (c ∷ cs) (suc skip) at line at2 line2 = seen_anywhere cs skip (at + 1) (line_after c line) (at2 + 1) (line_after c line2)
seen_anywhere (c ∷ cs) zero at line at2 line2 =
    let bytes : List ℕ = c ∷ take (piece_rest c cs) cs in
    let rest : Lexed = lexed (pieces (piece_rest c cs) (at + 1) (line_after c line) cs) in
    let rest2 : Lexed = lexed (pieces (piece_rest c cs) (at2 + 1) (line_after c line2) cs) in
    with_piece_seen (record { bytes = bytes; at = at; line = line }) rest
    ∙ ap (λ o. cond (is_lexeme bytes) (seen_form bytes (form_of bytes) o) o) (seen_anywhere cs (piece_rest c cs) (at + 1) (line_after c line) (at2 + 1) (line_after c line2))
    ∙ sym (with_piece_seen (record { bytes = bytes; at = at2; line = line2 }) rest2)

abbrev words_or : List Word → Option (List Word) → List Word
words_or d None = d
words_or d (Some ws) = ws

words_anywhere : (bs : List ℕ) (at line at2 line2 : ℕ) (ts us : List Token) → lexed (pieces 0 at line bs) ≡ Ok ts → lexed (pieces 0 at2 line2 bs) ≡ Ok us → map word_of us ≡ map word_of ts
words_anywhere bs at line at2 line2 ts us e g = ap (words_or []) (sym (ap seen g) ∙ seen_anywhere bs 0 at2 line2 at line ∙ ap seen e)

-- what stands behind a boundary

record Other (b : List ℕ) (bs : List ℕ) : Type 0 where
  at : ℕ
  line : ℕ
  tokens : List Token
  lexes : lexed (pieces 0 at line bs) ≡ Ok tokens
  other : AreOther b (map word_of tokens)

token_tail : (b : List ℕ) (t : Token) (r : Lexed) (ts : List Token) → with_token t r ≡ Ok ts → AreOther b (map word_of ts) → (us : List Token) × (r ≡ Ok us) × AreOther b (map word_of us)
token_tail b t (Ok us) ts e h = (us, refl, (subst (λ vs. AreOther b (map word_of vs)) (sym (same_tokens (t ∷ us) ts e)) h).1)
token_tail b t (Err f) ts e h = cc

form_tail : (b : List ℕ) (p : Piece) (form : Result Kind SyntaxKind) (r : Lexed) (ts : List Token) → with_form p form r ≡ Ok ts → AreOther b (map word_of ts) → (us : List Token) × (r ≡ Ok us) × AreOther b (map word_of us)
form_tail b p (Ok j) r ts e h = token_tail b (token_from p j) r ts e h
form_tail b p (Err f) r ts e h = cc

piece_tail : (b : List ℕ) (p : Piece) (r : Lexed) (ts : List Token) → with_piece p r ≡ Ok ts → AreOther b (map word_of ts) → (us : List Token) × (r ≡ Ok us) × AreOther b (map word_of us)
unfolding with_piece
piece_tail b p r ts e h = by_test (is_lexeme p.bytes) e
  where
    by_test : (c : Bool) → cond c (with_form p (form_of p.bytes) r) r ≡ Ok ts → (us : List Token) × (r ≡ Ok us) × AreOther b (map word_of us)
    by_test true e = form_tail b p (form_of p.bytes) r ts e h
    by_test false e = (ts, e, h)

other_behind : (b : List ℕ) (n skip at line : ℕ) (cs : List ℕ) (ts : List Token) → lexed (pieces skip at line cs) ≡ Ok ts → walk skip n cs ≡ 0 → AreOther b (map word_of ts) → Other b (drop n cs)
unfolding pieces lexed
other_behind b zero skip at line cs ts e w h = record { at = at; line = line; tokens = ts; lexes = ap (λ s. lexed (pieces s at line cs)) (sym w) ∙ e; other = h }
other_behind b (suc n) skip at line [] ts e w h = record { at = 0; line = 0; tokens = []; lexes = refl; other = tt }
other_behind b (suc n) (suc skip) at line (c ∷ cs) ts e w h = other_behind b n skip (at + 1) (line_after c line) cs ts e w h
other_behind b (suc n) zero at line (c ∷ cs) ts e w h =
    let more = piece_tail b (record { bytes = c ∷ take (piece_rest c cs) cs; at = at; line = line }) (lexed (pieces (piece_rest c cs) (at + 1) (line_after c line) cs)) ts e h in
    other_behind b n (piece_rest c cs) (at + 1) (line_after c line) cs more.0 more.1 w more.2

-- the tokens of a text have no such name
pub record HasOther (b : List ℕ) (text : List ℕ) : Type 0 where
  pub tokens : List Token
  pub lexes : lexed (pieces 0 0 1 text) ≡ Ok tokens
  pub other : AreOther b (map word_of tokens)

-- nor have those of its end
end_other : (b text : List ℕ) (from at line : ℕ) (ts : List Token) → HasOther b text → IsBoundary text from → lexed (pieces 0 at line (drop from text)) ≡ Ok ts → AreOther b (map word_of ts)
end_other b text from at line ts h starts e =
    let o = other_behind b from 0 0 1 text h.tokens h.lexes starts h.other in
    subst (AreOther b) (sym (words_anywhere (drop from text) o.at o.line at line o.tokens ts o.lexes e)) o.other

taken_whole : (n : ℕ) (bytes : List ℕ) → StartsWord (drop n bytes) → length (take n bytes) ≡ n
taken_whole zero bytes start = refl
taken_whole (suc n) [] start = absurd start
taken_whole (suc n) (c ∷ bytes) start = ap suc (taken_whole n bytes start)

-- nor those up to a loop
pub middle_other : (b text : List ℕ) (from at line : ℕ) (l : Loop) (ts : List Token) → HasOther b text → IsBoundary text from → from ≤ l.opening.at → IsLoopOf text l → lexed (pieces 0 at line (between text from l.opening.at)) ≡ Ok ts → AreOther b (map word_of ts)
middle_other b text from at line l ts h starts le known e =
    let n : ℕ = l.opening.at - from in
    let left : List ℕ = drop from text in
    let a : List ℕ = take n left in
    let d : List ℕ = drop n left in
    let place : from + n ≡ l.opening.at = omega (arith, le) in
    let start : StartsWord d = subst StartsWord (ap (λ m. drop m text) (sym place) ∙ sym (drop-drop n from text)) (opening_starts text l known) in
    let ends : walk 0 n left ≡ 0 = sym (walk-add 0 from n text ∙ ap (λ s. walk s n left) starts) ∙ ap (λ m. walk 0 m text) place ∙ known.opening.0.2 in
    let whole : walk 0 (length a) (a ++ d) ≡ 0 = ap (λ m. walk 0 m (a ++ d)) (taken_whole n left start) ∙ ap (λ u. walk 0 n u) (take-append-drop n left) ∙ ends in
    let o = other_behind b from 0 0 1 text h.tokens h.lexes starts h.other in
    let both : BothHave (lexed (pieces 0 o.at o.line a)) (lexed (pieces 0 (place_after o.at a) (lines_after o.line a) d)) o.tokens =
    both_have (lexed (pieces 0 o.at o.line a)) (lexed (pieces 0 (place_after o.at a) (lines_after o.line a) d)) o.tokens
    (sym (joined_word 0 o.at o.line a d d start start whole) ∙ ap (λ u. lexed (pieces 0 o.at o.line u)) (take-append-drop n left) ∙ o.lexes) in
    let parts : map word_of o.tokens ≡ map word_of both.front ++ map word_of both.behind = ap (map word_of) both.both ∙ words-append both.front both.behind in
    subst (AreOther b) (sym (words_anywhere a o.at o.line at line both.front ts both.front_is e))
    (other_front b (map word_of both.front) (map word_of both.behind) (subst (AreOther b) parts o.other))

-- names of helpers differ

pub names_differ : (i j : ℕ) → i < 2 ^ 64 → j < 2 ^ 64 → sum_name i ≡ sum_name j → i ≡ j
names_differ i j a b e =
    let same : decimal i ≡ decimal j = ap (drop 5) e in
    sym (digits_value-decimal numerals i a) ∙ ap (value_from 0) same ∙ digits_value-decimal numerals j b

-- the words of a loop

abbrev pub IsOtherAt : List ℕ → List ℕ → Lexeme → Type 0
IsOtherAt b text t = IsOther b (word_at text t)

pub record IsOtherLoop (b text : List ℕ) (l : Loop) : Type 0 where
  pub target : IsOther b (word_for k.Name (bytes_of text l.target))
  pub range : AreOther b (range_words text l.range)
  pub others : AreOther b (others_words text l.others)

no_name : (b : List ℕ) (j : Kind) (bs : List ℕ) → (j ≡ k.Name → ⊥) → IsOther b (word_for j bs)
no_name b j bs h = λ e g. h e

pub assign_other : (b : List ℕ) → IsOther b assign_word
assign_other b = λ e g. cc

left_other : (b : List ℕ) → IsOther b left_word
left_other b = λ e g. cc

right_other : (b : List ℕ) → IsOther b right_word
right_other b = λ e g. cc

comma_other : (b : List ℕ) → IsOther b comma_word
comma_other b = λ e g. cc

minus_other : (b : List ℕ) → IsOther b minus_word
minus_other b = λ e g. cc

use_other : (b : List ℕ) → IsOther b use_word
use_other b = λ e g. cc

pub call_other : (b : List ℕ) → IsOther b call_word
call_other b = λ e g. cc

run_other : (b text : List ℕ) (ts : List Lexeme) → AllOf (IsOtherAt b text) ts → AreOther b (run_words text ts)
run_other b text [] h = tt
run_other b text (t ∷ ts) h = (h.0, run_other b text ts h.1)

grouped_other : (b : List ℕ) (ws : List Word) → AreOther b ws → AreOther b (grouped ws)
grouped_other b ws h = (left_other b, join_other b ws (right_word ∷ []) h (right_other b, tt))

range_other : (b text : List ℕ) (r : Range) (es : List Element) → AreElementsOf (IsOtherAt b text) (range_form r ++ es) → AreOther b (range_words text r)
range_other b text (numbers low high) es h =
    let first = grouped_other b (run_words text low) (run_other b text low h.0.0) in
    let second = grouped_other b (run_words text high) (run_other b text high h.1.1.0.0) in
    join_other b (grouped (run_words text low)) (comma_word ∷ (grouped (run_words text high) ++ (minus_word ∷ grouped (run_words text low)))) first
    (comma_other b, join_other b (grouped (run_words text high)) (minus_word ∷ grouped (run_words text low)) second (minus_other b, first))
range_other b text (parts block most) es h = (use_other b, ((λ e g. h.1.0.0 h.1.0.1 g), tt))

others_other : (b text : List ℕ) (rs : List (List Lexeme)) (es : List Element) → AreElementsOf (IsOtherAt b text) (others_form rs ++ es) → AreOther b (others_words text rs)
others_other b text [] es h = tt
others_other b text (r ∷ rs) es h = (comma_other b, join_other b (run_words text r) (others_words text rs) (run_other b text r h.1.0.0) (others_other b text rs es h.1.1))

pub other_loop : (b text : List ℕ) (l : Loop) (ts : List Lexeme) → AllOf (IsOtherAt b text) ts → BeginsLoop l ts → IsOtherLoop b text l
other_loop b text l ts h begins =
    let all = elements (IsOtherAt b text) (loop_form l) ts begins.0 h begins.1 in
    let in_range = all.1.1.1.1.1.1 in
    let in_others = elements_behind (IsOtherAt b text) (range_form l.range) (others_form l.others ++ (sign k.RightParen ∷ word k.Semicolon l.closing ∷ [])) in_range in
    record {
      target = λ e g. all.1.1.0.0 all.1.1.0.1 g;
      range = range_other b text l.range (others_form l.others ++ (sign k.RightParen ∷ word k.Semicolon l.closing ∷ [])) in_range;
      others = others_other b text l.others (sign k.RightParen ∷ word k.Semicolon l.closing ∷ []) in_others;
    }

abbrev pub AreOtherLoops : List ℕ → List ℕ → List Loop → Type 0
AreOtherLoops b text [] = Unit {0}
AreOtherLoops b text (l ∷ ls) = IsOtherLoop b text l × AreOtherLoops b text ls

pub other_loops : (b text : List ℕ) (ts : List Lexeme) (ls : List Loop) → AllOf (IsOtherAt b text) ts → AreLoops ts ls → AreOtherLoops b text ls
other_loops b text ts ls h no_token = tt
other_loops b text ts ls h (no_call t us ms e more) = other_loops b text us ms h.1 more
other_loops b text ts ls h (one_loop t us l ms begins more) = (other_loop b text l (t ∷ us) h begins, other_loops b text us ms h.1 more)

-- the words of a call behind its function
pub inside_other : (b text : List ℕ) (l : Loop) → IsOtherLoop b text l → AreOther b (left_word ∷ (range_words text l.range ++ (others_words text l.others ++ (right_word ∷ []))))
inside_other b text l h =
    (left_other b, join_other b (range_words text l.range) (others_words text l.others ++ (right_word ∷ [])) h.range (join_other b (others_words text l.others) (right_word ∷ []) h.others (right_other b, tt)))

-- the call of another loop
pub call_words_other : (b text : List ℕ) (j : ℕ) (l : Loop) → (sum_name j ≡ b → ⊥) → IsOtherLoop b text l → AreOther b (call_word ∷ rest_words text j l)
call_words_other b text j l other h = (call_other b, (h.target, (assign_other b, ((λ e g. other g), inside_other b text l h))))

pub closing_other : (b : List ℕ) (t : Token) → t.kind ≡ k.Semicolon → IsOther b (word_of t)
closing_other b t e = λ h g. never (sym e ∙ h)
  where
    never : k.Semicolon ≡ k.Name → ⊥
    never e = cc

-- the tokens of calls of other loops, and of what stands around them
pub calls_other : (b text : List ℕ) (ls : List Loop) (from j at line to count : ℕ) (ts : List Token) → HasOther b text → IsBoundary text from → Apart from ls to → AreLoopsOf text ls → AreOtherLoops b text ls
    → ((i : ℕ) → i < count → IsName (sum_name i)) → j + length ls ≤ count → ((i : ℕ) → j ≤ i → sum_name i ≡ b → i < count → ⊥) → lexed (pieces 0 at line (with_others (replacement text) text from j ls)) ≡ Ok ts → AreOther b (map word_of ts)
calls_other b text [] from j at line to count ts has starts apart known others named room differ e = end_other b text from at line ts has starts e
calls_other b text (m ∷ ls) from j at line to count ts has starts apart known others named room differ e =
    let s = loop_stands text from j m starts apart.0 (named j (omega (arith, room))) known.0 at line (with_others (replacement text) text (place_behind m.closing) (j + 1) ls) ts e in
    let front = middle_other b text from at line m s.front has starts apart.0 known.0 s.front_lexes in
    let call : AreOther b (map word_of s.call) = subst (AreOther b) (sym s.words) (call_words_other b text j m (λ g. differ j (omega arith) g (omega (arith, room))) others.0) in
    let rest = calls_other b text ls (place_behind m.closing) (j + 1) s.next s.next_line to count s.behind has known.0.closing.3 apart.2 known.1 others.1 named (omega (arith, room)) (λ i le g lt. differ i (omega (arith, le)) g lt) s.lexes in
    let parts : map word_of ts ≡ map word_of s.front ++ (map word_of s.call ++ (word_of s.closing ∷ map word_of s.behind)) =
    ap (map word_of) s.all ∙ words-append s.front (s.call ++ (s.closing ∷ s.behind)) ∙ ap (λ ws. map word_of s.front ++ ws) (words-append s.call (s.closing ∷ s.behind)) in
    subst (AreOther b) (sym parts) (join_other b (map word_of s.front) (map word_of s.call ++ (word_of s.closing ∷ map word_of s.behind)) front
    (join_other b (map word_of s.call) (word_of s.closing ∷ map word_of s.behind) call (closing_other b s.closing s.ends, rest)))
