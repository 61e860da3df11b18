-- The loops of a text stand one behind the other, and all other bytes stay.
use Rattle.std.proofs.Common.{◌≡◌, ℕ, ◌+◌, ◌-◌, ◌≤◌, Bool, true, false, List, [], ◌∷◌, ◌++◌, length, map, drop, Ok, refl, sym, ap, ◌∙◌, subst, arith, append_assoc}
use Rattle.std.specs.Prelude.{Some, None}
use Rattle.std.proofs.lemmas.Bool.{false≢true}
use Rattle.std.proofs.lemmas.List.{take-append-drop, drop-drop}
use Rattle.par_text.specs.declared.kind.Kind.{Kind}
use Rattle.par_text.specs.declared.kind.Kind.TheVariants.{Name, Number, LeftParen, RightParen, LeftBracket, Semicolon, Assign, Par, Call}
use Rattle.par_text.specs.Kinds.{is}
use Rattle.par_text.specs.Rule.{Token}
use Rattle.par_text.specs.Lexing.{text_tokens}
use Rattle.par_text.proofs.KindLemmas.{is-self, same_from_is}
use Rattle.par_lex.specs.declared.lexeme.Lexeme.{Lexeme}
use Rattle.loop_expand.specs.Runs.{is_plain, is_inner, closer, Nested, nothing, plain, bracketed}
use Rattle.loop_expand.specs.Loops.{Range, numbers, parts, Loop, Element, sign, word, size, run, StandsFirst, StandFirst, range_form, others_form, loop_form, BeginsLoop, AreLoops, no_token, no_call, one_loop}
use Rattle.loop_expand.specs.Texts.{between, place_behind}
use Rattle.loop_expand.specs.Expansion.{with_others, loop_bytes, lexeme_of, Apart}
use Rattle.loop_expand.proofs.Elements.{stand_cut}
use Rattle.loop_expand.proofs.TokenPlaces.{Ordered, ordered_behind, tokens_ordered}

-- no token is `par`

abbrev NoPar : List Lexeme → Type 0
NoPar [] = Unit {0}
NoPar (t ∷ ts) = (is Par t.kind ≡ false) × NoPar ts

join_no_par : (a b : List Lexeme) → NoPar a → NoPar b → NoPar (a ++ b)
join_no_par [] b x y = y
join_no_par (t ∷ a) b x y = (x.0, join_no_par a b x.1 y)

-- a kind that passes is no `par`, where `par` does not pass
no_par_passes : (p : Kind → Bool) (k : Kind) → p Par ≡ false → p k ≡ true → is Par k ≡ false
no_par_passes p k none ok = by_kind (is Par k) refl
  where
    by_kind : (b : Bool) → is Par k ≡ b → is Par k ≡ false
    by_kind false other = other
    by_kind true same = absurd (false≢true (sym none ∙ ap p (sym (same_from_is Par k same)) ∙ ok))

closes_no_par : (k : Kind) → closer k ≡ Some Par → ⊥
closes_no_par LeftParen e = cc
closes_no_par LeftBracket e = cc
closes_no_par _ e = cc

no_par_opens : (o c : Kind) → closer o ≡ Some c → (is Par o ≡ false) × (is Par c ≡ false)
no_par_opens o c opening = (by_open (is Par o) refl, by_close o opening (is Par c) refl)
  where
    by_open : (b : Bool) → is Par o ≡ b → is Par o ≡ false
    by_open false other = other
    by_open true same = let none : closer o ≡ None = ap closer (same_from_is Par o same) in cc

    by_close : (k : Kind) → closer k ≡ Some c → (b : Bool) → is Par c ≡ b → is Par c ≡ false
    by_close k h false other = other
    by_close k h true same = absurd (closes_no_par k (h ∙ ap (λ (j : Kind). Some j) (same_from_is Par c same)))

run_no_par : (p : Kind → Bool) (ts : List Lexeme) → p Par ≡ false → Nested p ts → NoPar ts
run_no_par p ts none (nothing q) = tt
run_no_par p ts none (plain q t us ok rest) = (no_par_passes p t.kind none ok, run_no_par p us none rest)
run_no_par p ts none (bracketed q o c inside after opening inner rest) =
    let kinds = no_par_opens o.kind c.kind opening in
    (kinds.0, join_no_par inside (c ∷ after) (run_no_par is_inner inside refl inner) (kinds.1, run_no_par p after none rest))

-- elements without `par`

abbrev IsQuiet : Element → Type 0
IsQuiet (sign k) = is Par k ≡ false
IsQuiet (word k t) = is Par k ≡ false
IsQuiet (size t) = Unit {0}
IsQuiet (run r) = Unit {0}

abbrev AreQuiet : List Element → Type 0
AreQuiet [] = Unit {0}
AreQuiet (e ∷ es) = IsQuiet e × AreQuiet es

join_quiet : (es fs : List Element) → AreQuiet es → AreQuiet fs → AreQuiet (es ++ fs)
join_quiet [] fs x y = y
join_quiet (e ∷ es) fs x y = (x.0, join_quiet es fs x.1 y)

range_quiet : (r : Range) → AreQuiet (range_form r)
range_quiet (numbers low high) = (tt, (refl, (tt, tt)))
range_quiet (parts block most) = (refl, (refl, (refl, (tt, tt))))

others_quiet : (rs : List (List Lexeme)) → AreQuiet (others_form rs)
others_quiet [] = tt
others_quiet (r ∷ rs) = (refl, (tt, others_quiet rs))

-- the tokens of elements, in front of those behind
record Own (ts behind : List Lexeme) : Type 0 where
  own : List Lexeme
  split : ts ≡ own ++ behind
  no_par : NoPar own

of_kind : (k : Kind) (t : Lexeme) → is Par k ≡ false → t.kind ≡ k → is Par t.kind ≡ false
of_kind k t other same = ap (λ (j : Kind). is Par j) same ∙ other

own_first : (e : Element) (ts behind : List Lexeme) → IsQuiet e → StandsFirst e ts behind → Own ts behind
own_first (sign k) ts behind quiet here = record { own = here.0 ∷ []; split = here.1; no_par = (of_kind k here.0 quiet here.2, tt) }
own_first (word k t) ts behind quiet here = record { own = t ∷ []; split = here.0; no_par = (of_kind k t quiet here.1, tt) }
own_first (size t) ts behind quiet here = record { own = t ∷ []; split = here.0; no_par = (of_kind Number t refl here.1, tt) }
own_first (run r) ts behind quiet here = record { own = r; split = here.0; no_par = run_no_par is_plain r refl here.1.1 }

own_all : (es : List Element) (ts behind : List Lexeme) → AreQuiet es → StandFirst es ts behind → Own ts behind
own_all [] ts behind quiet here = record { own = []; split = here; no_par = tt }
own_all (e ∷ es) ts behind quiet here =
    let first = own_first e ts here.0 quiet.0 here.1 in
    let more = own_all es here.0 behind quiet.1 here.2 in
    record {
      own = first.own ++ more.own;
      split = first.split ∙ ap (λ (l : List Lexeme). first.own ++ l) more.split ∙ sym (append_assoc first.own more.own behind);
      no_par = join_no_par first.own more.own first.no_par more.no_par;
    }

-- a loop up to its `;`
abbrev short_form : Loop → List Element
short_form l =
    sign Call ∷ word Name l.target ∷ sign Assign ∷ word Name l.function ∷ sign LeftParen ∷
    (range_form l.range ++ (others_form l.others ++ (sign RightParen ∷ [])))

short_quiet : (l : Loop) → AreQuiet (short_form l)
short_quiet l = (refl, (refl, (refl, (refl, (refl, join_quiet (range_form l.range) (others_form l.others ++ (sign RightParen ∷ [])) (range_quiet l.range) (join_quiet (others_form l.others) (sign RightParen ∷ []) (others_quiet l.others) (refl, tt)))))))

abbrev last_form : Loop → List Element
last_form l = word Semicolon l.closing ∷ []

form_split : (l : Loop) → loop_form l ≡ word Par l.opening ∷ (short_form l ++ last_form l)
form_split l =
    let inner : others_form l.others ++ (sign RightParen ∷ last_form l) ≡ (others_form l.others ++ (sign RightParen ∷ [])) ++ last_form l = sym (append_assoc (others_form l.others) (sign RightParen ∷ []) (last_form l)) in
    let whole : range_form l.range ++ (others_form l.others ++ (sign RightParen ∷ last_form l)) ≡ (range_form l.range ++ (others_form l.others ++ (sign RightParen ∷ []))) ++ last_form l =
    ap (λ (es : List Element). range_form l.range ++ es) inner ∙ sym (append_assoc (range_form l.range) (others_form l.others ++ (sign RightParen ∷ [])) (last_form l)) in
    ap (λ (es : List Element). word Par l.opening ∷ sign Call ∷ word Name l.target ∷ sign Assign ∷ word Name l.function ∷ sign LeftParen ∷ es) whole

-- the tokens of a loop: its `par`, others that are no `par`, and its `;`
record Whole (l : Loop) (ts : List Lexeme) : Type 0 where
  inside : List Lexeme
  behind : List Lexeme
  split : ts ≡ l.opening ∷ (inside ++ (l.closing ∷ behind))
  no_par : NoPar (inside ++ (l.closing ∷ []))
  begins : is Par l.opening.kind ≡ true

whole_of : (l : Loop) (ts : List Lexeme) → BeginsLoop l ts → Whole l ts
whole_of l ts here =
    let stands : StandFirst (word Par l.opening ∷ (short_form l ++ last_form l)) ts here.0 = subst (λ (es : List Element). StandFirst es ts here.0) (form_split l) here.1 in
    let cut = stand_cut (short_form l) (last_form l) stands.0 here.0 stands.2 in
    let short = own_all (short_form l) stands.0 cut.middle (short_quiet l) cut.front in
    let last = cut.back in
    record {
      inside = short.own;
      behind = here.0;
      split =
          stands.1.0
          ∙ ap (λ (r : List Lexeme). l.opening ∷ r) (short.split ∙ ap (λ (r : List Lexeme). short.own ++ r) (last.1.0 ∙ ap (λ (r : List Lexeme). l.closing ∷ r) last.2));
      no_par = join_no_par short.own (l.closing ∷ []) short.no_par (of_kind Semicolon l.closing refl last.1.1, tt);
      begins = is-self Par l.opening.kind stands.1.1;
    }

-- loops stand apart

tail_of : List Lexeme → List Lexeme
tail_of [] = []
tail_of (t ∷ ts) = ts

head_kind : Kind → List Lexeme → Kind
head_kind k [] = k
head_kind k (t ∷ ts) = t.kind

same_tail : (t u : Lexeme) (ts us : List Lexeme) → (t ∷ ts) ≡ u ∷ us → ts ≡ us
unfolding tail_of
same_tail t u ts us e = ap tail_of e

same_kind : (t u : Lexeme) (ts us : List Lexeme) → (t ∷ ts) ≡ u ∷ us → t.kind ≡ u.kind
unfolding head_kind
same_kind t u ts us e = ap (head_kind t.kind) e

same_place : (t u : Lexeme) (ts us : List Lexeme) → (t ∷ ts) ≡ u ∷ us → t.at ≡ u.at
same_place t u ts us e = ap (λ (l : List Lexeme). place_of t l) e
  where
    place_of : Lexeme → List Lexeme → ℕ
    place_of d [] = d.at
    place_of d (x ∷ xs) = x.at

apart_from : (a b : ℕ) (ls : List Loop) (to : ℕ) → a ≤ b → Apart b ls to → Apart a ls to
apart_from a b [] to le here = omega arith
apart_from a b (l ∷ ls) to le here = (omega (arith, here.0), here.1, here.2)

ordered_end : (from : ℕ) (ts : List Lexeme) (to : ℕ) → Ordered from ts to → from ≤ to
ordered_end from [] to here = here
ordered_end from (t ∷ ts) to here = let more = ordered_end (place_behind t) ts to here.1 in omega (arith, here.0, more)

-- so many tokens in front are of a loop that was told already
apart : (ts : List Lexeme) (ls : List Loop) → AreLoops ts ls → (front behind : List Lexeme) (from to : ℕ) → ts ≡ front ++ behind → NoPar front → Ordered from behind to → Apart from ls to
apart ts ls no_token front behind from to split quiet here = ordered_end from behind to here
apart ts ls (no_call t us ms other rest) [] behind from to split quiet here =
    let now : Ordered from (t ∷ us) to = subst (λ (l : List Lexeme). Ordered from l to) (sym split) here in
    apart_from from (place_behind t) ms to (omega (arith, now.0)) (apart us ms rest [] us (place_behind t) to refl tt now.1)
apart ts ls (no_call t us ms other rest) (f ∷ front) behind from to split quiet here =
    apart us ms rest front behind from to (same_tail t f us (front ++ behind) split) quiet.1 here
apart ts ls (one_loop t us l ms begins rest) [] behind from to split quiet here =
    let w = whole_of l (t ∷ us) begins in
    let now : Ordered from (l.opening ∷ (w.inside ++ (l.closing ∷ w.behind))) to = subst (λ (r : List Lexeme). Ordered from r to) (sym split ∙ w.split) here in
    let last = ordered_behind w.inside (l.closing ∷ w.behind) (place_behind l.opening) to now.1 in
    let flat : us ≡ (w.inside ++ (l.closing ∷ [])) ++ w.behind = same_tail t l.opening us (w.inside ++ (l.closing ∷ w.behind)) w.split ∙ sym (append_assoc w.inside (l.closing ∷ []) w.behind) in (
      now.0,
      omega (arith, last.least_le, last.stands.0),
      apart us ms rest (w.inside ++ (l.closing ∷ [])) w.behind (place_behind l.closing) to flat w.no_par last.stands.1,
    )
apart ts ls (one_loop t us l ms begins rest) (f ∷ front) behind from to split quiet here =
    let w = whole_of l (t ∷ us) begins in
    let par : is Par f.kind ≡ true = ap (λ (k : Kind). is Par k) (sym (same_kind t f us (front ++ behind) split) ∙ same_kind t l.opening us (w.inside ++ (l.closing ∷ w.behind)) w.split) ∙ w.begins in
    absurd (false≢true (sym quiet.0 ∙ par))

pub loops_apart : (text : List ℕ) (ts : List Token) (ls : List Loop) → text_tokens text ≡ Ok ts → AreLoops (map lexeme_of ts) ls → Apart 0 ls (length text)
loops_apart text ts ls tokens are = apart (map lexeme_of ts) ls are [] (map lexeme_of ts) 0 (length text) refl tt (tokens_ordered text ts tokens)

-- all other bytes stay

joined_at : (text : List ℕ) (from middle : ℕ) → from ≤ middle → between text from middle ++ drop middle text ≡ drop from text
joined_at text from middle le =
    ap (λ (r : List ℕ). between text from middle ++ r) (ap (λ (n : ℕ). drop n text) (let e : middle ≡ from + (middle - from) = omega arith in e) ∙ sym (drop-drop (middle - from) from text))
    ∙ take-append-drop (middle - from) (drop from text)

own_bytes : (text : List ℕ) (from j : ℕ) (ls : List Loop) (to : ℕ) → Apart from ls to → with_others (loop_bytes text) text from j ls ≡ drop from text
own_bytes text from j [] to here = refl
own_bytes text from j (l ∷ ls) to here =
    ap (λ (r : List ℕ). between text from l.opening.at ++ (loop_bytes text j l ++ r)) (own_bytes text (place_behind l.closing) (j + 1) ls to here.2)
    ∙ ap (λ (r : List ℕ). between text from l.opening.at ++ r) (joined_at text l.opening.at (place_behind l.closing) here.1)
    ∙ joined_at text from l.opening.at here.0

pub other_bytes_stay : (text : List ℕ) (ts : List Token) (ls : List Loop) → text_tokens text ≡ Ok ts → AreLoops (map lexeme_of ts) ls → with_others (loop_bytes text) text 0 0 ls ≡ text
other_bytes_stay text ts ls tokens are = own_bytes text 0 0 ls (length text) (loops_apart text ts ls tokens are) ∙ whole text
  where
    whole : (bytes : List ℕ) → drop 0 bytes ≡ bytes
    whole [] = refl
    whole (c ∷ cs) = refl
