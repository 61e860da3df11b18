-- What reading a whole list of tokens answers, and that a list of tokens has one answer.
use Rattle.std.proofs.Common.{◌≡◌, ℕ, suc, ◌+◌, ◌-◌, ◌<◌, ◌≤◌, Bool, true, false, cond, leb, List, [], ◌∷◌, ◌++◌, length, take, drop, Result, Ok, Err, inl, inr, ⊎_elim, refl, sym, ap, ◌∙◌, subst, arith, append_assoc, length-append}
use Rattle.std.proofs.lemmas.Bool.{le-leb, lt-leb, cases_lt}
use Rattle.std.proofs.lemmas.List.{append-nil, take_at, drop_at, length-map, take_all, take-append-drop, take-take, take-map}
use Rattle.par_tree.specs.Tree.{Program}
use Rattle.par_text.specs.declared.stop.Stop.{Stop}
use Rattle.par_text.specs.declared.stop.Stop.TheVariants.{Expected, TooDeep}
use Rattle.par_text.specs.Rule.{Token}
use Rattle.par_text.specs.Form.{Marked, token_of, tokens_of}
use Rattle.par_text.specs.Reading.{Answer}
use Rattle.par_text.specs.Parsing.{read, read_program, ended}
use Rattle.par_text.specs.Grammar.{program_rule}
use Rattle.par_text.specs.Text.{Shallow, ProgramForm, program_spelling, program_meaning, IsProgram, IsViable, HasBegun, NoneGoesOn, IsExpected, IsTooDeep}
use Rattle.par_text.proofs.Marks.{tokens_of-append, judge}
use Rattle.par_text.proofs.Local.{SameNext, Stuck, LocalAt}
use Rattle.par_text.proofs.Exact.{AtStop, Reached, ExactAt}
use Rattle.par_text.proofs.Lookahead.{can_be_empty}
use Rattle.par_text.proofs.Rooms.{program_local, program_exact, program_complete, program_follows}

-- marks that are not too deep decide nothing
judge-shallow : {X : Type 0} (most : ℕ) (x : X) (ms ns : List Marked) (rest : List Token) → Shallow most ms → judge most x (ms ++ ns) rest ≡ judge most x ns rest
judge-shallow most x [] ns rest h = refl
judge-shallow most x (m ∷ ms) ns rest h =
    ap (λ (b : Bool). cond b (judge most x (ms ++ ns) rest) (Err (TooDeep, length (m.token ∷ (tokens_of (ms ++ ns) ++ rest))))) (le-leb m.depth most h.0)
    ∙ judge-shallow most x ms ns rest h.1

judge-deep : {X : Type 0} (most : ℕ) (x : X) (m : Marked) (ms : List Marked) (rest : List Token) → most < m.depth → judge most x (m ∷ ms) rest ≡ Err (TooDeep, length (m.token ∷ (tokens_of ms ++ rest)))
judge-deep most x m ms rest h = ap (λ (b : Bool). cond b (judge most x ms rest) (Err (TooDeep, length (m.token ∷ (tokens_of ms ++ rest))))) (lt-leb m.depth most h)

-- what a judged form can give: its value, or a stop at one of its tokens
abbrev Judged : {X : Type 0} → X → List Marked → List Token → Answer X → Type 0
Judged x ms rest (Ok y) = (y.0 ≡ x) × (y.1 ≡ rest)
Judged x ms rest (Err f) = (f.0 ≡ TooDeep) × (f.1 ≤ length (tokens_of ms ++ rest))

judged : {X : Type 0} (most : ℕ) (x : X) (ms : List Marked) (rest : List Token) → Judged x ms rest (judge most x ms rest)
judged most x [] rest = (refl, refl)
judged {X} most x (m ∷ ms) rest = turn (leb m.depth most) (judge most x ms rest) (judged most x ms rest)
  where
    wider : (ans : Answer X) → Judged x ms rest ans → Judged x (m ∷ ms) rest ans
    wider (Ok y) h = h
    wider (Err f) h = (h.0, omega arith)

    turn : (b : Bool) (ans : Answer X) → Judged x ms rest ans → Judged x (m ∷ ms) rest (cond b ans (Err (TooDeep, length (m.token ∷ (tokens_of ms ++ rest)))))
    turn true ans h = wider ans h
    turn false ans h = (refl, omega arith)

-- reading the tokens of a whole form
form_read : (most size : ℕ) (form : ProgramForm size) (ts : List Token) → tokens_of (program_spelling size form) ≡ ts → read most program_rule ts ≡ judge most (program_meaning size form) (program_spelling size form) []
form_read most size form ts e =
    ap (λ (us : List Token). read most program_rule us) (sym e ∙ sym (append-nil (tokens_of (program_spelling size form))))
    ∙ program_complete size most form [] program_follows

form_judged : (most size : ℕ) (form : ProgramForm size) (ts : List Token) → tokens_of (program_spelling size form) ≡ ts → Judged (program_meaning size form) (program_spelling size form) [] (read most program_rule ts)
form_judged most size form ts e =
    subst (λ (ans : Answer Program). Judged (program_meaning size form) (program_spelling size form) [] ans) (sym (form_read most size form ts e)) (judged most (program_meaning size form) (program_spelling size form) [])

-- no form goes on where reading met a token that it did not expect
none_expected : (most size : ℕ) (form : ProgramForm size) (ts : List Token) (left : ℕ) → tokens_of (program_spelling size form) ≡ ts → read most program_rule ts ≡ Err (Expected, left) → ⊥
none_expected most size form ts left e h = never (subst (λ (ans : Answer Program). Judged (program_meaning size form) (program_spelling size form) [] ans) h (form_judged most size form ts e)).0
  where
    never : Expected ≡ TooDeep → ⊥
    never e = cc

none_left : (most size : ℕ) (form : ProgramForm size) (ts : List Token) (p : Program) (t : Token) (rest : List Token) → tokens_of (program_spelling size form) ≡ ts → read most program_rule ts ≡ Ok (p, t ∷ rest) → ⊥
none_left most size form ts p t rest e h = never (subst (λ (ans : Answer Program). Judged (program_meaning size form) (program_spelling size form) [] ans) h (form_judged most size form ts e)).1
  where
    never : t ∷ rest ≡ [] → ⊥
    never e = cc

-- places
abbrev pub place : List Token → ℕ → ℕ
place ts left = length ts - left

split_place : (ts front rest : List Token) (left : ℕ) → ts ≡ front ++ rest → length rest ≡ left → (place ts left ≡ length front) × (take (place ts left) ts ≡ front)
split_place ts front rest left split count =
    let at : place ts left ≡ length front = omega (arith, ap length split, length-append front rest) in
    (at, ap (λ (us : List Token). take (place ts left) us) split ∙ take_at front rest (place ts left) (sym at))

next_place : (ts front : List Token) (t : Token) (rest : List Token) (left : ℕ) → ts ≡ front ++ t ∷ rest → length (t ∷ rest) ≡ left → take (place ts left + 1) ts ≡ front ++ t ∷ []
next_place ts front t rest left split count =
    let at : place ts left ≡ length front = omega (arith, ap length split, length-append front (t ∷ rest)) in
    let one : length (front ++ t ∷ []) ≡ place ts left + 1 = omega (arith, length-append front (t ∷ [])) in
    ap (λ (us : List Token). take (place ts left + 1) us) (split ∙ sym (append_assoc front (t ∷ []) rest)) ∙ take_at (front ++ t ∷ []) rest (place ts left + 1) one

-- the relations that hold of what reading a program answers
abbrev pub SoundAnswer : ℕ → List Token → Result Program (Stop × ℕ) → Type 0
SoundAnswer most ts (Ok p) = IsProgram most ts p
SoundAnswer most ts (Err (Expected, left)) = (left ≤ length ts) × IsExpected most ts (place ts left)
SoundAnswer most ts (Err (TooDeep, left)) = (left ≤ length ts) × IsTooDeep most ts (place ts left)

begun_from : (most : ℕ) (ts : List Token) (s : Stop) (left : ℕ) (form : ProgramForm (suc most)) → Reached most (program_spelling (suc most) form) ts s left → HasBegun most (take (place ts left) ts)
begun_from most ts s left form r = record {
  size = suc most;
  form = form;
  front = r.front;
  back = r.back;
  spelled = r.spelled;
  tokens = sym (split_place ts (tokens_of r.front) r.rest left r.split r.count).1;
  shallow = r.shallow;
}

-- where a reader would stop at the same place in any list that goes on with the same kind
none_from : (most : ℕ) (ts : List Token) (left : ℕ) (front rest : List Token) → ts ≡ front ++ rest → length rest ≡ left
    → ((other : List Token) → SameNext rest other → (size : ℕ) (form : ProgramForm size) → tokens_of (program_spelling size form) ≡ front ++ other → ⊥)
    → NoneGoesOn ts (place ts left)
none_from most ts left front [] split count never =
    let at = split_place ts front [] left split count in
    inl (omega (arith, at.0, ap length split, length-append front []), λ size form e. never [] tt size form (e ∙ split))
none_from most ts left front (t ∷ rest) split count never =
    let at = split_place ts front (t ∷ rest) left split count in
    inr (omega (arith, at.0, ap length split, length-append front (t ∷ rest)), λ v. never (t ∷ v.more) refl v.size v.form (v.spelled ∙ ap (λ (us : List Token). us ++ v.more) (next_place ts front t rest left split count) ∙ append_assoc front (t ∷ []) v.more))

expected_sound : (most : ℕ) (ts : List Token) (left : ℕ) (form : ProgramForm (suc most)) → Reached most (program_spelling (suc most) form) ts Expected left → Stuck (read most program_rule) ts Expected left → (left ≤ length ts) × IsExpected most ts (place ts left)
expected_sound most ts left form r l = (
  omega (arith, ap length l.split, length-append l.front l.rest, l.count),
  record {
    begun = begun_from most ts Expected left form r;
    none = none_from most ts left l.front l.rest l.split l.count (λ other h size form e. none_expected most size form (l.front ++ other) (length other) e (l.again other h));
  },
)

deep_sound : (most : ℕ) (ts : List Token) (left : ℕ) (form : ProgramForm (suc most)) (front back : List Marked) (rest : List Token) → program_spelling (suc most) form ≡ front ++ back → ts ≡ tokens_of front ++ rest → Shallow most front → length rest ≡ left → AtStop most TooDeep back rest → (left ≤ length ts) × IsTooDeep most ts (place ts left)
deep_sound most ts left form front [] rest spelled split shallow count h = absurd h
deep_sound most ts left form front (m ∷ back) [] spelled split shallow count h = absurd h
deep_sound most ts left form front (m ∷ back) (t ∷ rest) spelled split shallow count h = (
  omega (arith, ap length split, length-append (tokens_of front) (t ∷ rest), count),
  record {
    size = suc most;
    form = form;
    front = front;
    deep = m;
    back = back;
    spelled = spelled;
    tokens = tokens_of-append front (m ∷ []) ∙ ap (λ (u : Token). tokens_of front ++ u ∷ []) h.0 ∙ sym (next_place ts (tokens_of front) t rest left split count);
    place = sym (length-map front token_of) ∙ sym (split_place ts (tokens_of front) (t ∷ rest) left split count).0;
    shallow = shallow;
    too_deep = h.1;
  },
)

answer_sound : (most : ℕ) (e : Bool) (ts : List Token) (ans : Answer Program) → ExactAt (program_spelling (suc most)) (program_meaning (suc most)) most ts ans → LocalAt e (read most program_rule) ts ans → SoundAnswer most ts (ended ans)
answer_sound most e ts (Ok (p, [])) found took = record { size = suc most; form = found.form; spelled = sym (append-nil (tokens_of (program_spelling (suc most) found.form))) ∙ sym found.split; means = found.means; shallow = found.shallow }
answer_sound most e ts (Ok (p, t ∷ rest)) found took = (
  omega (arith, ap length took.split, length-append took.front (t ∷ rest)),
  record {
    begun = record {
      size = suc most;
      form = found.form;
      front = program_spelling (suc most) found.form;
      back = [];
      spelled = sym (append-nil (program_spelling (suc most) found.form));
      tokens = sym (split_place ts (tokens_of (program_spelling (suc most) found.form)) (t ∷ rest) (length (t ∷ rest)) found.split refl).1;
      shallow = found.shallow;
    };
    none = none_from most ts (length (t ∷ rest)) took.front (t ∷ rest) took.split refl (λ other h size form e. left_over other h size form e);
  },
)
  where
    left_over : (other : List Token) → SameNext (t ∷ rest) other → (size : ℕ) (form : ProgramForm size) → tokens_of (program_spelling size form) ≡ took.front ++ other → ⊥
    left_over [] h size form e = absurd h
    left_over (u ∷ us) h size form e = none_left most size form (took.front ++ u ∷ us) p u us e (took.again (u ∷ us) h)
answer_sound most e ts (Err (Expected, left)) l s = expected_sound most ts left l.0 l.1 s
answer_sound most e ts (Err (TooDeep, left)) l s = deep_sound most ts left l.0 l.1.front l.1.back l.1.rest l.1.spelled l.1.split l.1.shallow l.1.count l.1.stop

pub read_program_sound : (most : ℕ) (ts : List Token) → SoundAnswer most ts (read_program most ts)
unfolding read_program
read_program_sound most ts = answer_sound most (can_be_empty program_rule) ts (read most program_rule ts) (program_exact most ts) (program_local most ts)

Shallow-front : (most : ℕ) (ms ns : List Marked) → Shallow most (ms ++ ns) → Shallow most ms
Shallow-front most [] ns h = tt
Shallow-front most (m ∷ ms) ns h = (h.0, Shallow-front most ms ns h.1)

pub viable_from : (most : ℕ) (ts : List Token) → HasBegun most ts → IsViable ts
viable_from most ts b = record {
  size = b.size;
  form = b.form;
  more = tokens_of b.back;
  spelled = ap tokens_of b.spelled ∙ tokens_of-append b.front b.back ∙ ap (λ (us : List Token). us ++ tokens_of b.back) b.tokens;
}

take_front : (i j : ℕ) (ts : List Token) → i ≤ j → take i ts ++ drop i (take j ts) ≡ take j ts
take_front i j ts le = ap (λ (us : List Token). us ++ drop i (take j ts)) (sym (take-take i j ts le)) ∙ take-append-drop i (take j ts)

viable_prefix : (i j : ℕ) (ts : List Token) → i ≤ j → IsViable (take j ts) → IsViable (take i ts)
viable_prefix i j ts le v = record {
  size = v.size;
  form = v.form;
  more = drop i (take j ts) ++ v.more;
  spelled = v.spelled ∙ ap (λ (us : List Token). us ++ v.more) (sym (take_front i j ts le)) ∙ append_assoc (take i ts) (drop i (take j ts)) v.more;
}

pub begun_prefix : (most i j : ℕ) (ts : List Token) → i ≤ j → HasBegun most (take j ts) → HasBegun most (take i ts)
begun_prefix most i j ts le b = record {
  size = b.size;
  form = b.form;
  front = take i b.front;
  back = drop i b.front ++ b.back;
  spelled = b.spelled ∙ ap (λ (ms : List Marked). ms ++ b.back) (sym (take-append-drop i b.front)) ∙ append_assoc (take i b.front) (drop i b.front) b.back;
  tokens = sym (take-map token_of i b.front) ∙ ap (λ (us : List Token). take i us) b.tokens ∙ take-take i j ts le;
  shallow = Shallow-front most (take i b.front) (drop i b.front) (subst (λ (ms : List Marked). Shallow most ms) (sym (take-append-drop i b.front)) b.shallow);
}

-- where a program goes on, its tokens are not refused as unexpected
pub goes_on : (ts : List Token) (i j : ℕ) → NoneGoesOn ts i → i < j → j ≤ length ts → IsViable (take j ts) → ⊥
goes_on ts i j (inl e) lt le v = absurd (omega arith)
goes_on ts i j (inr n) lt le v = n.1 (viable_prefix (i + 1) j ts (omega arith) v)

split_same : (a b c d : List Token) → a ++ b ≡ c ++ d → length b ≡ length d → (a ≡ c) × (b ≡ d)
split_same a b c d e h =
    let same : length a ≡ length c = omega (arith, ap length e, length-append a b, length-append c d) in
    let front : a ≡ c = sym (take_at a b (length a) refl) ∙ ap (λ (us : List Token). take (length a) us) e ∙ take_at c d (length a) (sym same) in
    let back : b ≡ d = sym (drop_at a b (length a) refl) ∙ ap (λ (us : List Token). drop (length a) us) e ∙ drop_at c d (length a) (sym same) in
    (front, back)

abbrev left_of : {X : Type 0} → Answer X → ℕ
left_of (Ok x) = 0
left_of (Err f) = f.1

abbrev stop_of : {X : Type 0} → Answer X → Stop
stop_of (Ok x) = Expected
stop_of (Err f) = f.0

abbrev value_or : {X : Type 0} → X → Answer X → X
value_or x (Ok y) = y.0
value_or x (Err f) = x

value_no_stop : {X : Type 0} (x : X × List Token) (f : Stop × ℕ) → Ok x ≡ Err f → ⊥
value_no_stop x f e = cc

stops_differ : {X : Type 0} (n m : ℕ) → ◌≡◌ {A = Answer X} (Err (Expected, n)) (Err (TooDeep, m)) → ⊥
stops_differ {X} n m e = never (ap (stop_of {X = X}) e)
  where
    never : Expected ≡ TooDeep → ⊥
    never h = cc

stop_count : {X : Type 0} (n m : ℕ) → ◌≡◌ {A = Answer X} (Err (TooDeep, n)) (Err (TooDeep, m)) → n ≡ m
stop_count {X} n m e = ap (left_of {X = X}) e

-- reading a list whose first tokens lead to one that is too deep
deep_read : (most i : ℕ) (ts : List Token) (d : IsTooDeep most ts i) (others : List Token) → read most program_rule (tokens_of d.front ++ d.deep.token ∷ others) ≡ Err (TooDeep, length (d.deep.token ∷ others))
deep_read most i ts d others = go (read most program_rule full) answer (program_local most full)
  where
    full : List Token
    full = tokens_of (program_spelling d.size d.form)

    full_is : tokens_of (program_spelling d.size d.form) ≡ tokens_of d.front ++ d.deep.token ∷ tokens_of d.back
    full_is = ap tokens_of d.spelled ∙ tokens_of-append d.front (d.deep ∷ d.back)

    answer : read most program_rule (tokens_of (program_spelling d.size d.form)) ≡ Err (TooDeep, length (d.deep.token ∷ (tokens_of d.back ++ [])))
    answer =
        form_read most d.size d.form (tokens_of (program_spelling d.size d.form)) refl
        ∙ ap (λ (ms : List Marked). judge most (program_meaning d.size d.form) ms []) d.spelled
        ∙ judge-shallow most (program_meaning d.size d.form) d.front (d.deep ∷ d.back) [] d.shallow
        ∙ judge-deep most (program_meaning d.size d.form) d.deep d.back [] d.too_deep

    stuck : (e : Bool) (left : ℕ) → left ≡ length (d.deep.token ∷ (tokens_of d.back ++ [])) → Stuck (read most program_rule) (tokens_of (program_spelling d.size d.form)) TooDeep left → read most program_rule (tokens_of d.front ++ d.deep.token ∷ others) ≡ Err (TooDeep, length (d.deep.token ∷ others))
    stuck e left count l =
        let same = split_same l.front l.rest (tokens_of d.front) (d.deep.token ∷ tokens_of d.back) (sym l.split ∙ full_is) (l.count ∙ count ∙ ap (λ (us : List Token). length (d.deep.token ∷ us)) (append-nil (tokens_of d.back))) in
        ap (λ (us : List Token). read most program_rule (us ++ d.deep.token ∷ others)) (sym same.0)
        ∙ l.again (d.deep.token ∷ others) (subst (λ (us : List Token). SameNext us (d.deep.token ∷ others)) (sym same.1) refl)

    go : (ans : Answer Program) → ans ≡ Err (TooDeep, length (d.deep.token ∷ (tokens_of d.back ++ []))) → LocalAt (can_be_empty program_rule) (read most program_rule) (tokens_of (program_spelling d.size d.form)) ans → read most program_rule (tokens_of d.front ++ d.deep.token ∷ others) ≡ Err (TooDeep, length (d.deep.token ∷ others))
    go (Ok x) e l = absurd (value_no_stop x (TooDeep, length (d.deep.token ∷ (tokens_of d.back ++ []))) e)
    go (Err (Expected, n)) e l = absurd (stops_differ {X = Program} n (length (d.deep.token ∷ (tokens_of d.back ++ []))) e)
    go (Err (TooDeep, n)) e l = stuck (can_be_empty program_rule) n (stop_count {X = Program} n (length (d.deep.token ∷ (tokens_of d.back ++ []))) e) l

-- a token that is too deep in one program is so in each that begins so
pub not_both : (most i : ℕ) (ts : List Token) → IsTooDeep most ts i → HasBegun most (take (i + 1) ts) → ⊥
not_both most i ts d b =
    let front_is : tokens_of b.front ≡ tokens_of d.front ++ d.deep.token ∷ [] = b.tokens ∙ sym d.tokens ∙ tokens_of-append d.front (d.deep ∷ []) in
    let full : tokens_of (program_spelling b.size b.form) ≡ tokens_of d.front ++ d.deep.token ∷ tokens_of b.back =
    ap tokens_of b.spelled ∙ tokens_of-append b.front b.back ∙ ap (λ (us : List Token). us ++ tokens_of b.back) front_is ∙ append_assoc (tokens_of d.front) (d.deep.token ∷ []) (tokens_of b.back) in
    let reading : judge most (program_meaning b.size b.form) b.back [] ≡ Err (TooDeep, length (d.deep.token ∷ tokens_of b.back)) =
    sym (judge-shallow most (program_meaning b.size b.form) b.front b.back [] b.shallow)
    ∙ ap (λ (ms : List Marked). judge most (program_meaning b.size b.form) ms []) (sym b.spelled)
    ∙ sym (form_read most b.size b.form (tokens_of d.front ++ d.deep.token ∷ tokens_of b.back) full)
    ∙ deep_read most i ts d (tokens_of b.back) in
    let bound = (subst (λ (ans : Answer Program). Judged (program_meaning b.size b.form) b.back [] ans) reading (judged most (program_meaning b.size b.form) b.back [])).1 in
    omega (arith, bound, length-append (tokens_of b.back) [])

-- a list of tokens has one answer
within : (ts : List Token) (i : ℕ) → NoneGoesOn ts i → i ≤ length ts
within ts i (inl h) = omega arith
within ts i (inr h) = omega arith

deep_within : (most i : ℕ) (ts : List Token) → IsTooDeep most ts i → i < length ts
deep_within most i ts d =
    let long : length (tokens_of (d.front ++ d.deep ∷ [])) ≡ i + 1 = length-map (d.front ++ d.deep ∷ []) token_of ∙ length-append d.front (d.deep ∷ []) ∙ omega (arith, d.place) in
    ⊎_elim (λ lt. lt) (λ le. absurd (omega (arith, long, ap length (d.tokens ∙ take_all (i + 1) ts (omega arith))))) (cases_lt i (length ts))

deep_viable : (most i : ℕ) (ts : List Token) → IsTooDeep most ts i → IsViable (take (i + 1) ts)
deep_viable most i ts d = record {
  size = d.size;
  form = d.form;
  more = tokens_of d.back;
  spelled = ap tokens_of (d.spelled ∙ sym (append_assoc d.front (d.deep ∷ []) d.back)) ∙ tokens_of-append (d.front ++ d.deep ∷ []) d.back ∙ ap (λ (us : List Token). us ++ tokens_of d.back) d.tokens;
}

pub deep_begun : (most i : ℕ) (ts : List Token) → IsTooDeep most ts i → HasBegun most (take i ts)
deep_begun most i ts d = record {
  size = d.size;
  form = d.form;
  front = d.front;
  back = d.deep ∷ d.back;
  spelled = d.spelled;
  tokens = front_tokens;
  shallow = d.shallow;
}
  where
    front_tokens : tokens_of d.front ≡ take i ts
    front_tokens =
        sym (take_at (tokens_of d.front) (d.deep.token ∷ []) i (length-map d.front token_of ∙ d.place))
        ∙ ap (λ (us : List Token). take i us) (sym (tokens_of-append d.front (d.deep ∷ [])) ∙ d.tokens)
        ∙ take-take i (i + 1) ts (omega arith)

pub program_begun : (most : ℕ) (ts : List Token) (p : Program) → IsProgram most ts p → HasBegun most (take (length ts) ts)
program_begun most ts p q = record {
  size = q.size;
  form = q.form;
  front = program_spelling q.size q.form;
  back = [];
  spelled = sym (append-nil (program_spelling q.size q.form));
  tokens = q.spelled ∙ sym (take_all (length ts) ts (omega arith));
  shallow = q.shallow;
}

pub expected_begun : (most : ℕ) (ts : List Token) (i : ℕ) → IsExpected most ts i → HasBegun most (take i ts)
expected_begun most ts i e = e.begun

pub program_and_expected : (most : ℕ) (ts : List Token) (p : Program) (i : ℕ) → IsProgram most ts p → IsExpected most ts i → ⊥
program_and_expected most ts p i q e = go e.none
  where
    go : NoneGoesOn ts i → ⊥
    go (inl h) = h.1 q.size q.form q.spelled
    go (inr h) = goes_on ts i (length ts) (inr h) h.0 (omega arith) (viable_from most (take (length ts) ts) (program_begun most ts p q))

pub program_and_deep : (most : ℕ) (ts : List Token) (p : Program) (i : ℕ) → IsProgram most ts p → IsTooDeep most ts i → ⊥
program_and_deep most ts p i q d = not_both most i ts d (begun_prefix most (i + 1) (length ts) ts (let lt = deep_within most i ts d in omega arith) (program_begun most ts p q))

pub expected_and_deep : (most : ℕ) (ts : List Token) (i j : ℕ) → IsExpected most ts i → IsTooDeep most ts j → ⊥
expected_and_deep most ts i j e d =
    let lt = deep_within most j ts d in
    ⊎_elim
    (λ (h : j < i). not_both most j ts d (begun_prefix most (j + 1) i ts (omega arith) e.begun))
    (λ (h : i ≤ j). goes_on ts i (j + 1) e.none (omega arith) (omega arith) (deep_viable most j ts d))
    (cases_lt j i)

expected_first : (most : ℕ) (ts : List Token) (i j : ℕ) → IsExpected most ts i → IsExpected most ts j → i < j → ⊥
expected_first most ts i j e f lt = goes_on ts i j e.none lt (within ts j f.none) (viable_from most (take j ts) f.begun)

deep_first : (most : ℕ) (ts : List Token) (i j : ℕ) → IsTooDeep most ts i → IsTooDeep most ts j → i < j → ⊥
deep_first most ts i j d f lt = not_both most i ts d (begun_prefix most (i + 1) j ts (omega arith) (deep_begun most j ts f))

one_place : (i j : ℕ) → (i < j → ⊥) → (j < i → ⊥) → i ≡ j
one_place i j h g = ⊎_elim (λ (lt : i < j). absurd (h lt)) (λ (le : j ≤ i). ⊎_elim (λ (lt : j < i). absurd (g lt)) (λ (ge : i ≤ j). omega arith) (cases_lt j i)) (cases_lt i j)

pub one_expected : (most : ℕ) (ts : List Token) (i j : ℕ) → IsExpected most ts i → IsExpected most ts j → i ≡ j
one_expected most ts i j e f = one_place i j (expected_first most ts i j e f) (expected_first most ts j i f e)

pub one_deep : (most : ℕ) (ts : List Token) (i j : ℕ) → IsTooDeep most ts i → IsTooDeep most ts j → i ≡ j
one_deep most ts i j d f = one_place i j (deep_first most ts i j d f) (deep_first most ts j i f d)

program_reads : (most : ℕ) (ts : List Token) (p : Program) → IsProgram most ts p → read most program_rule ts ≡ Ok (p, [])
program_reads most ts p q =
    form_read most q.size q.form ts q.spelled
    ∙ ap (λ (ms : List Marked). judge most (program_meaning q.size q.form) ms []) (sym (append-nil (program_spelling q.size q.form)))
    ∙ judge-shallow most (program_meaning q.size q.form) (program_spelling q.size q.form) [] [] q.shallow
    ∙ ap (λ (p : Program). Ok (p, [])) q.means

pub one_program : (most : ℕ) (ts : List Token) (p q : Program) → IsProgram most ts p → IsProgram most ts q → p ≡ q
one_program most ts p q h g = same p q (sym (program_reads most ts p h) ∙ program_reads most ts q g)
  where
    same : (p q : Program) → ◌≡◌ {A = Answer Program} (Ok (p, [])) (Ok (q, [])) → p ≡ q
    same p q e = ap (value_or p) e
