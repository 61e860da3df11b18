-- The name of a loop's helper stands once among the tokens, in the call of this loop.
use Rattle.std.proofs.Common.{◌≡◌, ℕ, suc, ◌+◌, ◌^◌, ◌<◌, ◌≤◌, List, [], ◌∷◌, ◌++◌, length, map, Ok, inl, inr, refl, sym, ap, ◌∙◌, subst, arith, append_assoc, length-append}
use Rattle.par_text.specs.declared.kind.Kind.TheVariants as k
use Rattle.par_text.specs.Rule.{Token}
use Rattle.par_text.specs.Form.{Form, tokens_of}
use Rattle.par_text.specs.Text.{Nested}
use Rattle.par_text.specs.Grammar.{name, callee_rule, args_rule, owning_call, plain_call, any_call}
use Rattle.par_text.specs.Lexing.{pieces, lexed}
use Rattle.par_text.specs.Judging.{deepest}
use Rattle.canonical_text.proofs.Leaves.{IsName}
use Rattle.canonical_text.proofs.Written.{spells, means_of}
use Rattle.par_lex.specs.declared.lexeme.Lexeme.{Lexeme}
use Rattle.loop_expand.specs.Loops.{Loop}
use Rattle.loop_expand.specs.Texts.{bytes_of, place_behind, sum_name}
use Rattle.loop_expand.specs.Expansion.{Nowhere, IsTaken, lexeme_of, with_others, Apart, replacement, replaced}
use Rattle.loop_expand.proofs.LoopPlaces.{loops_apart}
use Rattle.loop_laws.specs.LoopCalls.{Word, word_of, IsCall, Calls}
use Rattle.loop_laws.specs.TreeLaws.{EachCallIsOfItsLoop}
use Rattle.loop_laws.proofs.Joining.{lexed_of_text}
use Rattle.loop_laws.proofs.Pieces.{Each, HasItsBytes, tokens_have_their_bytes, IsBoundary}
use Rattle.loop_laws.proofs.HelperNames.{sum_is_name}
use Rattle.loop_laws.proofs.Without.{head_same, tail_same}
use Rattle.loop_laws.proofs.LoopTokens.{AllOf, IsLoopOf, AreLoopsOf, lexemes_of_text, loops_of_text}
use Rattle.loop_laws.proofs.TokenWords.{words-append, word_for, call_word, assign_word, left_word, right_word, range_words, others_words, rest_words}
use Rattle.loop_laws.proofs.CallPlaces.{loop_stands}
use Rattle.loop_laws.proofs.FlatWords.{word_head, word_tail}
use Rattle.loop_laws.proofs.LoopCalls.{form_is_call, replaced_long}
use Rattle.loop_laws.proofs.EachCall.{each_in_program}
use Rattle.loop_laws.proofs.QuietTokens.{IsOther, AreOther, join_other, HasOther, middle_other, names_differ, IsOtherAt, IsOtherLoop, AreOtherLoops, other_loops, inside_other, call_words_other, call_other, assign_other, closing_other, calls_other}

-- the call of a loop, where no other token has the name of its helper

record CalledOnce (b : List ℕ) (ws : List Word) (ts : List Token) : Type 0 where
  front : List Token
  call : List Token
  closing : Token
  behind : List Token
  all : ts ≡ front ++ (call ++ (closing ∷ behind))
  words : map word_of call ≡ ws
  front_other : AreOther b (map word_of front)
  behind_other : AreOther b (map word_of (closing ∷ behind))

called_once : (text : List ℕ) (before : List Loop) (l : Loop) (behind : List Loop) (from j i at line to count : ℕ) (ts : List Token) → j + length before ≡ i → count ≤ 2 ^ 64 → HasOther (sum_name i) text → IsBoundary text from
    → Apart from (before ++ l ∷ behind) to → AreLoopsOf text (before ++ l ∷ behind) → AreOtherLoops (sum_name i) text (before ++ l ∷ behind) → ((n : ℕ) → n < count → IsName (sum_name n)) → j + length (before ++ l ∷ behind) ≤ count
    → lexed (pieces 0 at line (with_others (replacement text) text from j (before ++ l ∷ behind))) ≡ Ok ts → CalledOnce (sum_name i) (call_word ∷ rest_words text i l) ts
called_once text [] l behind from j i at line to count ts is_ small has starts apart known others named room e =
    let same : j ≡ i = omega (arith, is_) in
    let rest : List ℕ = with_others (replacement text) text (place_behind l.closing) (j + 1) behind in
    let s = loop_stands text from j l starts apart.0 (named j (omega (arith, room))) known.0 at line rest ts e in
    record {
      front = s.front;
      call = s.call;
      closing = s.closing;
      behind = s.behind;
      all = s.all;
      words = s.words ∙ ap (λ n. call_word ∷ rest_words text n l) same;
      front_other = middle_other (sum_name i) text from at line l s.front has starts apart.0 known.0 s.front_lexes;
      behind_other = (
        closing_other (sum_name i) s.closing s.ends,
        calls_other (sum_name i) text behind (place_behind l.closing) (j + 1) s.next s.next_line to count s.behind has known.0.closing.3 apart.2 known.1 others.1 named (omega (arith, room))
            (λ n le g lt. let e : n ≡ i = names_differ n i (omega (arith, lt, small)) (omega (arith, room, small, same)) g in omega (arith, e, le, same)) s.lexes,
      );
    }
called_once text (m ∷ before) l behind from j i at line to count ts is_ small has starts apart known others named room e =
    let rest : List ℕ = with_others (replacement text) text (place_behind m.closing) (j + 1) (before ++ l ∷ behind) in
    let many : length (before ++ l ∷ behind) ≡ length before + suc (length behind) = length-append before (l ∷ behind) in
    let s = loop_stands text from j m starts apart.0 (named j (omega (arith, room))) known.0 at line rest ts e in
    let more = called_once text before l behind (place_behind m.closing) (j + 1) i s.next s.next_line to count s.behind (omega (arith, is_)) small has known.0.closing.3 apart.2 known.1 others.1 named (omega (arith, room)) s.lexes in
    let differ : sum_name j ≡ sum_name i → ⊥ = λ g. let e : j ≡ i = names_differ j i (omega (arith, room, small)) (omega (arith, is_, room, small, many)) g in omega (arith, e, is_) in
    let call : AreOther (sum_name i) (map word_of s.call) = subst (AreOther (sum_name i)) (sym s.words) (call_words_other (sum_name i) text j m differ others.0) in
    let front : List Token = s.front ++ (s.call ++ (s.closing ∷ [])) in
    let words : map word_of (front ++ more.front) ≡ (map word_of s.front ++ (map word_of s.call ++ word_of s.closing ∷ [])) ++ map word_of more.front =
    words-append front more.front ∙ ap (λ ws. ws ++ map word_of more.front) (words-append s.front (s.call ++ (s.closing ∷ [])) ∙ ap (λ ws. map word_of s.front ++ ws) (words-append s.call (s.closing ∷ []))) in
    record {
      front = front ++ more.front;
      call = more.call;
      closing = more.closing;
      behind = more.behind;
      all = s.all ∙ ap (λ us. s.front ++ us) (sym (append_assoc s.call (s.closing ∷ []) s.behind)) ∙ sym (append_assoc s.front (s.call ++ (s.closing ∷ [])) s.behind)
          ∙ ap (λ us. front ++ us) more.all ∙ sym (append_assoc front more.front (more.call ++ (more.closing ∷ more.behind)));
      words = more.words;
      front_other = subst (AreOther (sum_name i)) (sym words)
          (join_other (sum_name i) (map word_of s.front ++ (map word_of s.call ++ word_of s.closing ∷ [])) (map word_of more.front)
          (join_other (sum_name i) (map word_of s.front) (map word_of s.call ++ word_of s.closing ∷ []) (middle_other (sum_name i) text from at line m s.front has starts apart.0 known.0 s.front_lexes)
          (join_other (sum_name i) (map word_of s.call) (word_of s.closing ∷ []) call (closing_other (sum_name i) s.closing s.ends, tt)))
          more.front_other);
      behind_other = more.behind_other;
    }

-- a token of this name stands at one place

record SamePlace (as_ bs us vs : List Token) (t u : Token) : Type 0 where
  front : as_ ≡ us
  here : t ≡ u
  behind : bs ≡ vs

no_other : (b : List ℕ) (ts : List Token) (t : Token) (us : List Token) → t.kind ≡ k.Name → t.bytes ≡ b → AreOther b (map word_of (ts ++ t ∷ us)) → ⊥
no_other b [] t us e g h = h.0 e g
no_other b (x ∷ ts) t us e g h = no_other b ts t us e g h.1

same_place : (b : List ℕ) (as_ bs us vs : List Token) (t u : Token) → t.kind ≡ k.Name → t.bytes ≡ b → AreOther b (map word_of us) → AreOther b (map word_of vs) → as_ ++ t ∷ bs ≡ us ++ u ∷ vs → SamePlace as_ bs us vs t u
same_place b [] bs [] vs t u named is_ before behind e = record { front = refl; here = head_same t u bs vs e; behind = tail_same t u bs vs e }
same_place b [] bs (x ∷ us) vs t u named is_ before behind e =
    let same : t ≡ x = head_same t x bs (us ++ u ∷ vs) e in
    absurd (before.0 (ap (λ (y : Token). y.kind) (sym same) ∙ named) (ap (λ (y : Token). y.bytes) (sym same) ∙ is_))
same_place b (x ∷ as_) bs [] vs t u named is_ before behind e = absurd (no_other b as_ t bs named is_ (subst (λ ts. AreOther b (map word_of ts)) (sym (tail_same x u (as_ ++ t ∷ bs) vs e)) behind))
same_place b (x ∷ as_) bs (y ∷ us) vs t u named is_ before behind e =
    let more = same_place b as_ bs us vs t u named is_ before.1 behind (tail_same x y (as_ ++ t ∷ bs) (us ++ u ∷ vs) e) in
    record { front = ap (λ z. z ∷ as_) (head_same x y (as_ ++ t ∷ bs) (us ++ u ∷ vs) e) ∙ ap (λ zs. y ∷ zs) more.front; here = more.here; behind = more.behind }

-- where the name of the function stands in a call

data Shape : List Token → Type 0 where
  at_once : Shape []
  answered : (x e : Token) → Shape (x ∷ e ∷ [])
  owned_answer : (o x e : Token) → o.kind ≡ k.Own → Shape (o ∷ x ∷ e ∷ [])

record CalleeAt (f : List ℕ) (ts : List Token) : Type 0 where
  front : List Token
  shape : Shape front
  callee : Token
  behind : List Token
  all : ts ≡ front ++ callee ∷ behind
  named : callee.kind ≡ k.Name
  is_ : callee.bytes ≡ f

callee_at : (size depth : ℕ) (d : Form (Nested size) any_call) (f : List ℕ) → Calls f (means_of size any_call d) → CalleeAt f (tokens_of (spells size depth any_call d))
unfolding any_call owning_call plain_call callee_rule name
callee_at size depth (inl (o, (x, (e, (c, args))))) f calls =
    record { front = o.0 ∷ x.0 ∷ e.0 ∷ []; shape = owned_answer o.0 x.0 e.0 o.1; callee = c.0; behind = tokens_of (spells size depth args_rule args); all = refl; named = c.1; is_ = calls }
callee_at size depth (inr (x, (inl (e, c), args))) f calls =
    record { front = x.0 ∷ e.0 ∷ []; shape = answered x.0 e.0; callee = c.0; behind = tokens_of (spells size depth args_rule args); all = refl; named = c.1; is_ = calls }
callee_at size depth (inr (x, (inr c, args))) f calls =
    record { front = []; shape = at_once; callee = x.0; behind = tokens_of (spells size depth args_rule args); all = refl; named = x.1; is_ = calls }

-- the last token

last_same : (us vs : List Token) (t u : Token) → us ++ t ∷ [] ≡ vs ++ u ∷ [] → (us ≡ vs) × (t ≡ u)
last_same [] [] t u e = (refl, head_same t u [] [] e)
last_same [] (v ∷ vs) t u e = absurd (no_nil vs (tail_same t v [] (vs ++ u ∷ []) e))
  where
    no_nil : (vs : List Token) → [] ≡ vs ++ u ∷ [] → ⊥
    no_nil [] e = cc
    no_nil (w ∷ ws) e = cc
last_same (x ∷ us) [] t u e = absurd (no_nil us (sym (tail_same x u (us ++ t ∷ []) [] e)))
  where
    no_nil : (vs : List Token) → [] ≡ vs ++ t ∷ [] → ⊥
    no_nil [] e = cc
    no_nil (w ∷ ws) e = cc
last_same (x ∷ us) (v ∷ vs) t u e =
    let more = last_same us vs t u (tail_same x v (us ++ t ∷ []) (vs ++ u ∷ []) e) in
    (ap (λ z. z ∷ us) (head_same x v (us ++ t ∷ []) (vs ++ u ∷ []) e) ∙ ap (λ zs. v ∷ zs) more.0, more.1)

last_three : (us vs : List Token) (a b c x y z : Token) → us ++ a ∷ b ∷ c ∷ [] ≡ vs ++ x ∷ y ∷ z ∷ [] → (a ≡ x) × (b ≡ y) × (c ≡ z)
last_three us vs a b c x y z e =
    let one = last_same (us ++ a ∷ b ∷ []) (vs ++ x ∷ y ∷ []) c z (append_assoc us (a ∷ b ∷ []) (c ∷ []) ∙ e ∙ sym (append_assoc vs (x ∷ y ∷ []) (z ∷ []))) in
    let two = last_same (us ++ a ∷ []) (vs ++ x ∷ []) b y (append_assoc us (a ∷ []) (b ∷ []) ∙ one.0 ∙ sym (append_assoc vs (x ∷ []) (y ∷ []))) in
    let three = last_same us vs a x two.0 in
    (three.1, two.1, one.1)

record FirstWord (ts : List Token) (w : Word) (ws : List Word) : Type 0 where
  token : Token
  rest : List Token
  all : ts ≡ token ∷ rest
  word : word_of token ≡ w
  words : map word_of rest ≡ ws

first_word : (ts : List Token) (w : Word) (ws : List Word) → map word_of ts ≡ w ∷ ws → FirstWord ts w ws
first_word [] w ws e = absurd (no_nil e)
  where
    no_nil : [] ≡ w ∷ ws → ⊥
    no_nil e = cc
first_word (t ∷ ts) w ws e = record { token = t; rest = ts; all = refl; word = word_head (word_of t) w (map word_of ts) ws e; words = word_tail (word_of t) w (map word_of ts) ws e }

kind_of : (t : Token) (w : Word) → word_of t ≡ w → t.kind ≡ w.kind
kind_of t w e = ap (λ (x : Word). x.kind) e

-- a call of the helper is the call of the loop
of_its_loop : (text : List ℕ) (j : ℕ) (l : Loop) (ts : List Token) → IsLoopOf text l → IsOtherLoop (sum_name j) text l → CalledOnce (sum_name j) (call_word ∷ rest_words text j l) ts
    → (size depth : ℕ) (front : List Token) (t : Token) (d : Form (Nested size) any_call) (last : Token) (others : List Token) → t.kind ≡ k.Call → last.kind ≡ k.Semicolon
    → front ++ t ∷ (tokens_of (spells size depth any_call d) ++ last ∷ others) ≡ ts → Calls (sum_name j) (means_of size any_call d) → IsCall text j l (means_of size any_call d)
of_its_loop text j l ts known other c size depth front t d last others is_call ends same calls =
    let b : List ℕ = sum_name j in
    let one = first_word c.call call_word (rest_words text j l) c.words in
    let inside : List Word = left_word ∷ (range_words text l.range ++ (others_words text l.others ++ (right_word ∷ []))) in
    let two = first_word one.rest (word_for k.Name (bytes_of text l.target)) (assign_word ∷ word_for k.Name b ∷ inside) one.words in
    let three = first_word two.rest assign_word (word_for k.Name b ∷ inside) two.words in
    let four = first_word three.rest (word_for k.Name b) inside three.words in
    let later : one.rest ≡ two.token ∷ three.token ∷ four.token ∷ four.rest = two.all ∙ ap (λ us. two.token ∷ us) (three.all ∙ ap (λ us. three.token ∷ us) four.all) in
    let call : c.call ≡ one.token ∷ two.token ∷ three.token ∷ four.token ∷ four.rest = one.all ∙ ap (λ us. one.token ∷ us) later in
    let behind : List Token = four.rest ++ (c.closing ∷ c.behind) in
    let before : List Token = one.token ∷ two.token ∷ three.token ∷ [] in
    let at = callee_at size depth d b calls in
    let whole : (front ++ t ∷ at.front) ++ at.callee ∷ (at.behind ++ last ∷ others) ≡ (c.front ++ before) ++ four.token ∷ behind =
    append_assoc front (t ∷ at.front) (at.callee ∷ (at.behind ++ last ∷ others))
    ∙ ap (λ us. front ++ t ∷ us) (sym (append_assoc at.front (at.callee ∷ at.behind) (last ∷ others)) ∙ ap (λ us. us ++ last ∷ others) (sym at.all))
    ∙ same ∙ c.all ∙ ap (λ us. c.front ++ (us ++ (c.closing ∷ c.behind))) call
    ∙ sym (append_assoc c.front before (four.token ∷ behind)) in
    let before_other : AreOther b (map word_of (c.front ++ before)) =
    subst (AreOther b) (sym (words-append c.front before))
    (join_other b (map word_of c.front) (map word_of before) c.front_other
    (subst (IsOther b) (sym one.word) (call_other b), (subst (IsOther b) (sym two.word) other.target, (subst (IsOther b) (sym three.word) (assign_other b), tt)))) in
    let behind_other : AreOther b (map word_of behind) =
    subst (AreOther b) (sym (words-append four.rest (c.closing ∷ c.behind)))
    (join_other b (map word_of four.rest) (map word_of (c.closing ∷ c.behind)) (subst (AreOther b) (sym four.words) (inside_other b text l other)) c.behind_other) in
    let place = same_place b (front ++ t ∷ at.front) (at.behind ++ last ∷ others) (c.front ++ before) behind at.callee four.token at.named at.is_ before_other behind_other whole in
    by_shape c.front c.closing c.behind one.token two.token three.token four.token four.rest (kind_of one.token call_word one.word) (kind_of three.token assign_word three.word)
    (ap (map word_of) (sym later) ∙ one.words)
    at.front at.callee at.behind at.shape at.all place.front place.here place.behind
  where
    own_call : (o c : Token) → o.kind ≡ k.Own → c.kind ≡ k.Call → o ≡ c → ⊥
    own_call o c a b e = never (sym a ∙ ap (λ (x : Token). x.kind) e ∙ b)
      where
        never : k.Own ≡ k.Call → ⊥
        never e = cc

    call_assign : (o c : Token) → o.kind ≡ k.Call → c.kind ≡ k.Assign → o ≡ c → ⊥
    call_assign o c a b e = never (sym a ∙ ap (λ (x : Token). x.kind) e ∙ b)
      where
        never : k.Call ≡ k.Assign → ⊥
        never e = cc

    by_shape : (first : List Token) (closing : Token) (later : List Token) (c0 x0 e0 f0 : Token) (inside : List Token) → c0.kind ≡ k.Call → e0.kind ≡ k.Assign → map word_of (x0 ∷ e0 ∷ f0 ∷ inside) ≡ rest_words text j l
        → (pre : List Token) (callee : Token) (behind : List Token) → Shape pre → tokens_of (spells size depth any_call d) ≡ pre ++ callee ∷ behind → front ++ t ∷ pre ≡ first ++ c0 ∷ x0 ∷ e0 ∷ [] → callee ≡ f0
        → behind ++ last ∷ others ≡ inside ++ (closing ∷ later) → IsCall text j l (means_of size any_call d)
    by_shape first closing later c0 x0 e0 f0 inside call assign words pre callee behind at_once all place here rest =
        absurd (call_assign t e0 is_call assign (last_same front (first ++ c0 ∷ x0 ∷ []) t e0 (place ∙ sym (append_assoc first (c0 ∷ x0 ∷ []) (e0 ∷ [])))).1)
    by_shape first closing later c0 x0 e0 f0 inside call assign words pre callee behind (answered x e) all place here rest =
        let same = last_three front first t x e c0 x0 e0 place in
        form_is_call text j l known (x0 ∷ e0 ∷ f0 ∷ inside) later closing words size depth d last others
        (ap (λ us. us ++ last ∷ others) all ∙ ap (λ z. z ∷ e ∷ callee ∷ (behind ++ last ∷ others)) same.1 ∙ ap (λ z. x0 ∷ z ∷ callee ∷ (behind ++ last ∷ others)) same.2 ∙ ap (λ z. x0 ∷ e0 ∷ z ∷ (behind ++ last ∷ others)) here
        ∙ ap (λ us. x0 ∷ e0 ∷ f0 ∷ us) rest)
    by_shape first closing later c0 x0 e0 f0 inside call assign words pre callee behind (owned_answer o x e own) all place here rest =
        absurd (own_call o c0 own call (last_three (front ++ t ∷ []) first o x e c0 x0 e0 (append_assoc front (t ∷ []) (o ∷ x ∷ e ∷ []) ∙ place)).0)

-- where no name is taken

not_taken : (text : List ℕ) (count j : ℕ) (ts : List Lexeme) → j < count → Nowhere (IsTaken text count) ts → AllOf (IsOtherAt (sum_name j) text) ts
not_taken text count j [] lt h = tt
not_taken text count j (t ∷ ts) lt h = ((λ e g. h.0 (e, j, lt, g)), not_taken text count j ts lt h.1)

words_other : (b text : List ℕ) (ts : List Token) → Each (HasItsBytes text) ts → AllOf (IsOtherAt b text) (map lexeme_of ts) → AreOther b (map word_of ts)
words_other b text [] bytes h = tt
words_other b text (t ∷ ts) bytes h = ((λ e g. h.0 e (bytes.0 ∙ g)), words_other b text ts bytes.1 h.1)

loop_at : (text b : List ℕ) (before : List Loop) (l : Loop) (behind : List Loop) → AreLoopsOf text (before ++ l ∷ behind) → AreOtherLoops b text (before ++ l ∷ behind) → IsLoopOf text l × IsOtherLoop b text l
loop_at text b [] l behind h g = (h.0, g.0)
loop_at text b (m ∷ before) l behind h g = loop_at text b before l behind h.1 g.1

pub each_call_is_of_its_loop : EachCallIsOfItsLoop
each_call_is_of_its_loop text ts before l behind p has loops free is_ =
    let ls : List Loop = before ++ l ∷ behind in
    let j : ℕ = length before in
    let count : length ls ≡ j + suc (length behind) = length-append before (l ∷ behind) in
    let known : AreLoopsOf text ls = loops_of_text text (map lexeme_of ts) ls (lexemes_of_text text ts has) loops in
    let other : AllOf (IsOtherAt (sum_name j) text) (map lexeme_of ts) = not_taken text (length ls) j (map lexeme_of ts) (omega (arith, count)) free in
    let others : AreOtherLoops (sum_name j) text ls = other_loops (sum_name j) text (map lexeme_of ts) ls other loops in
    let lexes = lexed_of_text (replaced text ls) is_.tokens is_.lexed in
    let long = replaced_long text 0 0 ls in
    let small : length ls ≤ 2 ^ 64 = omega (arith, long, lexes.0) in
    let named : (n : ℕ) → n < length ls → IsName (sum_name n) = λ n lt. sum_is_name n (let less : n < 2 ^ 64 = omega (arith, lt, long, lexes.0) in less) in
    let whole : HasOther (sum_name j) text = record { tokens = ts; lexes = (lexed_of_text text ts has).1; other = words_other (sum_name j) text ts (tokens_have_their_bytes text ts has) other } in
    let once = called_once text before l behind 0 0 j 0 1 (length text) (length ls) is_.tokens (let e : 0 + length before ≡ j = omega arith in e) small whole refl (loops_apart text ts ls has loops) known others named (omega arith) lexes.1 in
    let at = loop_at text (sum_name j) before l behind known others in
    each_in_program is_.tokens (sum_name j) (IsCall text j l) (λ size depth front t d last more call ends same. of_its_loop text j l is_.tokens at.0 at.1 once size depth front t d last more call ends same) deepest p is_.parsed
