-- Bytes have one verdict, and what reading and counting give is it.
use Rattle.std.proofs.Common.{◌≡◌, ℕ, ◌+◌, ◌<◌, ◌≤◌, Bool, true, false, cond, List, [], ◌∷◌, length, take, Option, Some, None, Result, Ok, Err, IfSome, ◌⊎◌, inl, inr, refl, sym, ap, ◌∙◌, subst, arith}
use Rattle.std.proofs.lemmas.Bool.{ltb-true, ltb-false}
use Rattle.std.specs.Prelude.{nat_lt}
use Rattle.par_tree.specs.Tree.{Program}
use Rattle.par_text.specs.declared.syntax_error.SyntaxKind.{SyntaxKind}
use Rattle.par_text.specs.declared.syntax_error.SyntaxKind.TheVariants.{BadByte, BadToken, NumberTooLarge, Expected, TooDeep, TooLong, TooMany}
use Rattle.par_text.specs.declared.syntax_error.SyntaxError.{SyntaxError}
use Rattle.par_text.specs.Rule.{Token}
use Rattle.par_text.specs.Lexing.{Lexed, text_tokens}
use Rattle.par_text.specs.Counts.{Before, at_start, after, is_too_many, crowded, crowded_from}
use Rattle.par_text.specs.Text.{IsProgram, HasBegun, IsExpected, IsTooDeep}
use Rattle.par_text.specs.Judging.{deepest, IsText, place_of, NotCrowded, RefusesToken, IsRefused, kind_of, refused_at, earlier, Verdict, tree, refusal, Judges}
use Rattle.par_text.specs.declared.stop.Stop.{Stop}
use Rattle.par_text.specs.declared.stop.Stop.TheVariants as stops
use Rattle.par_text.specs.Parsing.{read_program}
use Rattle.par_text.proofs.Answers.{SoundAnswer, place, read_program_sound, deep_begun, program_begun, goes_on, not_both, viable_from, begun_prefix, program_and_expected, program_and_deep, expected_and_deep, one_expected, one_deep, one_program}

-- what is counted stands in the list
counted_within : (i : ℕ) (b : Before) (ts : List Token) → IfSome (crowded_from i b ts) (λ j. j < i + length ts)
unfolding crowded_from
counted_within i b [] = tt
counted_within i b (t ∷ ts) = turn (is_too_many (after b t.kind)) (crowded_from (i + 1) (after b t.kind) ts) (counted_within (i + 1) (after b t.kind) ts)
  where
    further : (o : Option ℕ) → IfSome o (λ j. j < (i + 1) + length ts) → IfSome o (λ j. j < i + length (t ∷ ts))
    further None h = tt
    further (Some j) h = omega arith

    turn : (c : Bool) (o : Option ℕ) → IfSome o (λ j. j < (i + 1) + length ts) → IfSome (cond c (Some i) o) (λ j. j < i + length (t ∷ ts))
    turn true o h = omega arith
    turn false o h = further o h

pub crowded_within : (ts : List Token) (j : ℕ) → crowded ts ≡ Some j → j < length ts
crowded_within ts j e =
    let h : j < 0 + length ts = subst (λ (o : Option ℕ). IfSome o (λ j. j < 0 + length ts)) e (counted_within 0 at_start ts) in
    omega arith

-- the three ways in which tokens are refused
record Unexpected (kind : SyntaxKind) (ts : List Token) (i : ℕ) : Type 0 where
  is : kind ≡ Expected
  holds : IsExpected deepest ts i
  counted : NotCrowded ts i

record Deep (kind : SyntaxKind) (ts : List Token) (i : ℕ) : Type 0 where
  is : kind ≡ TooDeep
  holds : IsTooDeep deepest ts i
  counted : NotCrowded ts i

record Many (kind : SyntaxKind) (ts : List Token) (i : ℕ) : Type 0 where
  is : kind ≡ TooMany
  counted : crowded ts ≡ Some i
  begun : HasBegun deepest (take (i + 1) ts)

abbrev Cause : SyntaxKind → List Token → ℕ → Type 0
Cause kind ts i = Unexpected kind ts i ⊎ (Deep kind ts i ⊎ Many kind ts i)

cause : (kind : SyntaxKind) (ts : List Token) (i : ℕ) → RefusesToken kind ts i → Cause kind ts i
cause Expected ts i h = inl (record { is = refl; holds = h.0; counted = h.1 })
cause TooDeep ts i h = inr (inl (record { is = refl; holds = h.0; counted = h.1 }))
cause TooMany ts i h = inr (inr (record { is = refl; counted = h.0; begun = h.1 }))
cause BadByte ts i h = absurd h
cause BadToken ts i h = absurd h
cause NumberTooLarge ts i h = absurd h
cause TooLong ts i h = absurd h

counted_later : (ts : List Token) (i j : ℕ) → NotCrowded ts i → crowded ts ≡ Some j → i ≤ j
counted_later ts i j h e = subst (λ (o : Option ℕ). IfSome o (λ j. i ≤ j)) e h

expected_and_many : (ts : List Token) (i j : ℕ) → IsExpected deepest ts i → NotCrowded ts i → crowded ts ≡ Some j → HasBegun deepest (take (j + 1) ts) → ⊥
expected_and_many ts i j e n c b =
    let le = counted_later ts i j n c in
    let lt = crowded_within ts j c in
    goes_on ts i (j + 1) e.none (omega arith) (omega arith) (viable_from deepest (take (j + 1) ts) b)

deep_and_many : (ts : List Token) (i j : ℕ) → IsTooDeep deepest ts i → NotCrowded ts i → crowded ts ≡ Some j → HasBegun deepest (take (j + 1) ts) → ⊥
deep_and_many ts i j d n c b =
    let le = counted_later ts i j n c in
    not_both deepest i ts d (begun_prefix deepest (i + 1) (j + 1) ts (omega arith) b)

same_some : (i j : ℕ) → ◌≡◌ {A = Option ℕ} (Some i) (Some j) → i ≡ j
same_some i j e = cc

none_some : (j : ℕ) → ◌≡◌ {A = Option ℕ} None (Some j) → ⊥
none_some j e = cc

abbrev Same : SyntaxKind → SyntaxKind → ℕ → ℕ → Type 0
Same f g i j = (f ≡ g) × (i ≡ j)

one_cause : (ts : List Token) (f g : SyntaxKind) (i j : ℕ) → Cause f ts i → Cause g ts j → Same f g i j
one_cause ts f g i j (inl a) (inl b) = (a.is ∙ sym b.is, one_expected deepest ts i j a.holds b.holds)
one_cause ts f g i j (inl a) (inr (inl b)) = absurd (expected_and_deep deepest ts i j a.holds b.holds)
one_cause ts f g i j (inl a) (inr (inr b)) = absurd (expected_and_many ts i j a.holds a.counted b.counted b.begun)
one_cause ts f g i j (inr (inl a)) (inl b) = absurd (expected_and_deep deepest ts j i b.holds a.holds)
one_cause ts f g i j (inr (inl a)) (inr (inl b)) = (a.is ∙ sym b.is, one_deep deepest ts i j a.holds b.holds)
one_cause ts f g i j (inr (inl a)) (inr (inr b)) = absurd (deep_and_many ts i j a.holds a.counted b.counted b.begun)
one_cause ts f g i j (inr (inr a)) (inl b) = absurd (expected_and_many ts j i b.holds b.counted a.counted a.begun)
one_cause ts f g i j (inr (inr a)) (inr (inl b)) = absurd (deep_and_many ts j i b.holds b.counted a.counted a.begun)
one_cause ts f g i j (inr (inr a)) (inr (inr b)) = (a.is ∙ sym b.is, same_some i j (sym a.counted ∙ b.counted))

no_cause : (ts : List Token) (p : Program) (f : SyntaxKind) (i : ℕ) → IsProgram deepest ts p → crowded ts ≡ None → Cause f ts i → ⊥
no_cause ts p f i h c (inl a) = program_and_expected deepest ts p i h a.holds
no_cause ts p f i h c (inr (inl a)) = program_and_deep deepest ts p i h a.holds
no_cause ts p f i h c (inr (inr a)) = none_some i (sym c ∙ a.counted)

ok_err : (ts : List Token) (e : SyntaxError) → ◌≡◌ {A = Lexed} (Ok ts) (Err e) → ⊥
ok_err ts e h = cc

same_ok : (ts us : List Token) → ◌≡◌ {A = Lexed} (Ok ts) (Ok us) → ts ≡ us
same_ok ts us h = cc

same_err : (e g : SyntaxError) → ◌≡◌ {A = Lexed} (Err e) (Err g) → e ≡ g
same_err e g h = cc

text_not_refused : (text : List ℕ) (p : Program) (e : SyntaxError) → IsText text p → IsRefused text e → ⊥
text_not_refused text p e t (inl h) = ok_err t.tokens e (sym t.lexed ∙ h)
text_not_refused text p e t (inr r) =
    let same = same_ok r.tokens t.tokens (sym r.lexed ∙ t.lexed) in
    no_cause t.tokens p e.kind r.index t.parsed t.counted (cause e.kind t.tokens r.index (subst (λ (ts : List Token). RefusesToken e.kind ts r.index) same r.refuses))

same_error : (e g : SyntaxError) → e.kind ≡ g.kind → e.at ≡ g.at → e ≡ g
same_error e g k a =
    let by_kind : e ≡ record { kind = g.kind; at = e.at } = ap (λ (f : SyntaxKind). record { kind = f; at = e.at }) k in
    let by_place : record { kind = g.kind; at = e.at } ≡ g = ap (λ (n : ℕ). record { kind = g.kind; at = n }) a in
    by_kind ∙ by_place

one_refusal : (text : List ℕ) (e g : SyntaxError) → IsRefused text e → IsRefused text g → e ≡ g
one_refusal text e g (inl a) (inl b) = same_err e g (sym a ∙ b)
one_refusal text e g (inl a) (inr b) = absurd (ok_err b.tokens e (sym b.lexed ∙ a))
one_refusal text e g (inr a) (inl b) = absurd (ok_err a.tokens g (sym a.lexed ∙ b))
one_refusal text e g (inr a) (inr b) =
    let same = same_ok b.tokens a.tokens (sym b.lexed ∙ a.lexed) in
    let both = one_cause a.tokens e.kind g.kind a.index b.index (cause e.kind a.tokens a.index a.refuses) (cause g.kind a.tokens b.index (subst (λ (ts : List Token). RefusesToken g.kind ts b.index) same b.refuses)) in
    same_error e g both.0 (a.place ∙ ap (λ (i : ℕ). place_of a.tokens i (length text)) both.1 ∙ ap (λ (ts : List Token). place_of ts b.index (length text)) (sym same) ∙ sym b.place)

pub one_verdict : (text : List ℕ) (v w : Verdict) → Judges text v → Judges text w → v ≡ w
one_verdict text (tree p) (tree q) a b =
    let same = same_ok b.tokens a.tokens (sym b.lexed ∙ a.lexed) in
    ap (λ (p : Program). tree p) (one_program deepest a.tokens p q a.parsed (subst (λ (ts : List Token). IsProgram deepest ts q) same b.parsed))
one_verdict text (tree p) (refusal e) a b = absurd (text_not_refused text p e a b)
one_verdict text (refusal e) (tree p) a b = absurd (text_not_refused text p e b a)
one_verdict text (refusal e) (refusal g) a b = ap (λ (e : SyntaxError). refusal e) (one_refusal text e g a b)

-- the verdict where reading and counting are known
abbrev pub settled : List ℕ → List Token → Result Program (Stop × ℕ) → Option ℕ → Verdict
settled text ts (Ok p) None = tree p
settled text ts (Ok p) (Some j) = refusal (refused_at ts TooMany j (length text))
settled text ts (Err f) o = refusal (earlier ts (kind_of f.0) (place ts f.1) o (length text))

refused_by : (text : List ℕ) (ts : List Token) (f : SyntaxKind) (i : ℕ) → text_tokens text ≡ Ok ts → RefusesToken f ts i → IsRefused text (refused_at ts f i (length text))
refused_by text ts f i e h = inr (record { tokens = ts; lexed = e; index = i; refuses = h; place = refl })

not_crowded : (ts : List Token) (o : Option ℕ) (i : ℕ) → crowded ts ≡ o → IfSome o (λ j. i ≤ j) → NotCrowded ts i
not_crowded ts o i e h = subst (λ (o : Option ℕ). IfSome o (λ j. i ≤ j)) (sym e) h

settle_stop : (text : List ℕ) (ts : List Token) (f : SyntaxKind) (i : ℕ) (o : Option ℕ) → text_tokens text ≡ Ok ts → crowded ts ≡ o → (NotCrowded ts i → RefusesToken f ts i) → HasBegun deepest (take i ts) → IsRefused text (earlier ts f i o (length text))
settle_stop text ts f i None e c refuses begun = refused_by text ts f i e (refuses (not_crowded ts None i c tt))
settle_stop text ts f i (Some j) e c refuses begun = turn (nat_lt j i) refl
  where
    turn : (b : Bool) → nat_lt j i ≡ b → IsRefused text (cond b (refused_at ts TooMany j (length text)) (refused_at ts f i (length text)))
    turn true h = refused_by text ts TooMany j e (c, begun_prefix deepest (j + 1) i ts (let lt = ltb-true j i h in omega arith) begun)
    turn false h = refused_by text ts f i e (refuses (not_crowded ts (Some j) i c (ltb-false j i h)))

settle_from : (text : List ℕ) (ts : List Token) (ans : Result Program (Stop × ℕ)) (o : Option ℕ) → text_tokens text ≡ Ok ts → crowded ts ≡ o → SoundAnswer deepest ts ans → Judges text (settled text ts ans o)
settle_from text ts (Ok p) None e c h = record { tokens = ts; lexed = e; parsed = h; counted = c }
settle_from text ts (Ok p) (Some j) e c h =
    refused_by text ts TooMany j e (c, begun_prefix deepest (j + 1) (length ts) ts (let lt = crowded_within ts j c in omega arith) (program_begun deepest ts p h))
settle_from text ts (Err (stops.Expected, left)) o e c h = settle_stop text ts Expected (place ts left) o e c (λ n. (h.1, n)) h.1.begun
settle_from text ts (Err (stops.TooDeep, left)) o e c h = settle_stop text ts TooDeep (place ts left) o e c (λ n. (h.1, n)) (deep_begun deepest (place ts left) ts h.1)

-- what reading and counting give is the verdict
pub settle : (text : List ℕ) (ts : List Token) (ans : Result Program (Stop × ℕ)) (o : Option ℕ) → text_tokens text ≡ Ok ts → read_program deepest ts ≡ ans → crowded ts ≡ o → Judges text (settled text ts ans o)
settle text ts ans o e r c = settle_from text ts ans o e c (subst (λ (ans : Result Program (Stop × ℕ)). SoundAnswer deepest ts ans) r (read_program_sound deepest ts))

-- no more tokens are left than there are
pub left_within : (ts : List Token) (s : Stop) (left : ℕ) → read_program deepest ts ≡ Err (s, left) → left ≤ length ts
left_within ts s left r = go s (subst (λ (ans : Result Program (Stop × ℕ)). SoundAnswer deepest ts ans) r (read_program_sound deepest ts))
  where
    go : (s : Stop) → SoundAnswer deepest ts (Err (s, left)) → left ≤ length ts
    go stops.Expected h = h.0
    go stops.TooDeep h = h.0

-- bytes have a verdict
pub has_verdict : (text : List ℕ) → (v : Verdict) × Judges text v
has_verdict text = go (text_tokens text) refl
  where
    go : (tokens : Lexed) → text_tokens text ≡ tokens → (v : Verdict) × Judges text v
    go (Err e) lexed = (refusal e, inl lexed)
    go (Ok ts) lexed =
        (settled text ts (read_program deepest ts) (crowded ts), settle text ts (read_program deepest ts) (crowded ts) lexed refl refl)
