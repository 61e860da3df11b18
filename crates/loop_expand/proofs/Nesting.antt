-- A run is what the count of its tokens finds, and the count finds each run.
use Rattle.std.proofs.Common.{◌≡◌, ℕ, zero, suc, ◌+◌, ◌<◌, Bool, true, false, cond, List, [], ◌∷◌, ◌++◌, length, take, drop, refl, sym, ap, ◌∙◌, subst, arith, append_assoc}
use Rattle.std.specs.Prelude.{Option, Some, None}
use Rattle.std.proofs.lemmas.List.{length-append, take-append-drop}
use Rattle.std.proofs.Math.Seq.{take-append_seam, drop-append_seam}
use Rattle.par_text.specs.declared.kind.Kind.{Kind}
use Rattle.par_text.specs.declared.kind.Kind.TheVariants.{LeftParen, LeftBracket, RightParen, RightBracket}
use Rattle.par_text.specs.Kinds.{is}
use Rattle.par_text.proofs.KindLemmas.{is-self, same_from_is}
use Rattle.par_lex.specs.declared.lexeme.Lexeme.{Lexeme}
use Rattle.loop_expand.specs.Runs.{is_plain, is_inner, closer, Nested, nothing, plain, bracketed, IsRun}
use Rattle.loop_expand.specs.Reading.{Turn, goes_on, ends, breaks, passes, closed, opened, turn, one_more, behind_turn, at_end, scan, cut_run, read_run}
use Rattle.loop_expand.proofs.Scans.{ahead, ahead-none}

-- the value of an option
value_or : {A : Type 0} → A → Option A → A
value_or d (Some x) = x
value_or d None = d

pub some_same : {A : Type 0} (a b : A) → Some a ≡ Some b → a ≡ b
unfolding value_or
some_same {A} a b e = ap (λ (o : Option A). value_or a o) e

-- kinds

-- An opening bracket passes nowhere, and its closing one passes nowhere and opens nothing.
record Opens (o c : Kind) : Type 0 where
  not_plain : is_plain o ≡ false
  not_inner : is_inner o ≡ false
  closing_not_inner : is_inner c ≡ false
  closing_not_plain : is_plain c ≡ false
  closing_opens_none : closer c ≡ None

opens : (o c : Kind) → closer o ≡ Some c → Opens o c
opens LeftParen c e = subst (λ (k : Kind). Opens LeftParen k) (some_same RightParen c e) (record { not_plain = refl; not_inner = refl; closing_not_inner = refl; closing_not_plain = refl; closing_opens_none = refl })
opens LeftBracket c e = subst (λ (k : Kind). Opens LeftBracket k) (some_same RightBracket c e) (record { not_plain = refl; not_inner = refl; closing_not_inner = refl; closing_not_plain = refl; closing_opens_none = refl })
opens _ c e = cc

opens_on : (cs : List Kind) (o c : Kind) → closer o ≡ Some c → turn cs o ≡ goes_on (c ∷ cs)
opens_on [] o c e =
    let facts = opens o c e in
    ap (λ (b : Bool). cond b (goes_on []) (opened (closer o) [] o)) facts.not_plain ∙ ap (λ (x : Option Kind). opened x [] o) e
opens_on (d ∷ ds) o c e =
    let facts = opens o c e in
    ap (λ (b : Bool). cond b (goes_on (d ∷ ds)) (opened (closer o) (d ∷ ds) o)) facts.not_inner ∙ ap (λ (x : Option Kind). opened x (d ∷ ds) o) e

closes_on : (cs : List Kind) (o c : Kind) → closer o ≡ Some c → turn (c ∷ cs) c ≡ goes_on cs
closes_on cs o c e =
    let facts = opens o c e in
    ap (λ (b : Bool). cond b (goes_on (c ∷ cs)) (opened (closer c) (c ∷ cs) c)) facts.closing_not_inner
    ∙ ap (λ (x : Option Kind). opened x (c ∷ cs) c) facts.closing_opens_none
    ∙ ap (λ (b : Bool). cond b (goes_on cs) breaks) (is-self c c refl)

passes_on : (cs : List Kind) (k : Kind) → passes cs k ≡ true → turn cs k ≡ goes_on cs
passes_on cs k e = ap (λ (b : Bool). cond b (goes_on cs) (opened (closer k) cs k)) e

-- each run is found

ahead_more : (n : ℕ) (o : Option ℕ) → one_more (ahead n o) ≡ ahead (suc n) o
ahead_more n (Some m) = ap (λ (k : ℕ). Some k) (let e : suc (n + m) ≡ suc n + m = omega arith in e)
ahead_more n None = refl

ahead_ahead : (n m : ℕ) (o : Option ℕ) → ahead n (ahead m o) ≡ ahead (n + m) o
ahead_ahead n m (Some k) = ap (λ (k : ℕ). Some k) (let e : n + (m + k) ≡ (n + m) + k = omega arith in e)
ahead_ahead n m None = refl

scan_goes : (t : Lexeme) (ts : List Lexeme) (cs next : List Kind) → turn cs t.kind ≡ goes_on next → scan (t ∷ ts) cs ≡ one_more (scan ts next)
unfolding scan
scan_goes t ts cs next is = ap (λ (u : Turn). behind_turn u (scan ts)) is

counted : (p : Kind → Bool) (ts : List Lexeme) → Nested p ts → (cs : List Kind) → ((k : Kind) → p k ≡ true → passes cs k ≡ true) → (behind : List Lexeme)
    → scan (ts ++ behind) cs ≡ ahead (length ts) (scan behind cs)
counted p [] (nothing q) cs pass behind = sym (ahead-none (scan behind cs))
counted p (t ∷ ts) (plain q u us ok rest) cs pass behind =
    scan_goes t (ts ++ behind) cs cs (passes_on cs t.kind (pass t.kind ok))
    ∙ ap one_more (counted p ts rest cs pass behind)
    ∙ ahead_more (length ts) (scan behind cs)
counted p ts (bracketed q o c inside after opening inner rest) cs pass behind =
    let flat : (o ∷ inside ++ c ∷ after) ++ behind ≡ o ∷ (inside ++ (c ∷ (after ++ behind))) = ap (λ (l : List Lexeme). o ∷ l) (append_assoc inside (c ∷ after) behind) in
    let long : length (o ∷ inside ++ c ∷ after) ≡ suc (length inside + suc (length after)) = ap suc (length-append inside (c ∷ after)) in
    ap (λ (l : List Lexeme). scan l cs) flat
    ∙ scan_goes o (inside ++ (c ∷ (after ++ behind))) cs (c.kind ∷ cs) (opens_on cs o.kind c.kind opening)
    ∙ ap one_more (counted is_inner inside inner (c.kind ∷ cs) (λ k e. e) (c ∷ (after ++ behind)))
    ∙ ahead_more (length inside) (scan (c ∷ (after ++ behind)) (c.kind ∷ cs))
    ∙ ap (λ (x : Option ℕ). ahead (suc (length inside)) x) (scan_goes c (after ++ behind) (c.kind ∷ cs) cs (closes_on cs o.kind c.kind opening) ∙ ap one_more (counted p after rest cs pass behind) ∙ ahead_more (length after) (scan behind cs))
    ∙ ahead_ahead (suc (length inside)) (suc (length after)) (scan behind cs)
    ∙ ap (λ (n : ℕ). ahead n (scan behind cs)) (let e : suc (length inside) + suc (length after) ≡ length (o ∷ inside ++ c ∷ after) = omega (arith, long) in e)

-- what can stand behind a run in a form: no token that the run could go on with
abbrev pub Stops : List Lexeme → Type 0
Stops [] = Unit {0}
Stops (t ∷ ts) = turn [] t.kind ≡ ends

stopped : (behind : List Lexeme) → Stops behind → scan behind [] ≡ Some 0
unfolding scan
stopped [] s = refl
stopped (t ∷ ts) s = ap (λ (u : Turn). behind_turn u (scan ts)) s

cut_at_length : (r behind : List Lexeme) → 0 < length r → cut_run (Some (length r)) (r ++ behind) ≡ Some (r, behind)
cut_at_length [] behind some = absurd (omega arith)
cut_at_length (t ∷ ts) behind some = λ i. Some (take-append_seam (t ∷ ts) behind i, drop-append_seam (t ∷ ts) behind i)

pub run_read : (r behind : List Lexeme) → IsRun r → Stops behind → read_run (r ++ behind) ≡ Some (r, behind)
unfolding read_run
run_read r behind run stop =
    let count : scan (r ++ behind) [] ≡ Some (length r) =
    counted is_plain r run.1 [] (λ k e. e) behind ∙ ap (λ (x : Option ℕ). ahead (length r) x) (stopped behind stop) ∙ ap (λ (n : ℕ). Some n) (let e : length r + 0 ≡ length r = omega arith in e) in
    ap (λ (x : Option ℕ). cut_run x (r ++ behind)) count ∙ cut_at_length r behind run.0

-- what is found is a run

-- Tokens that close these brackets, the innermost first, and are a run outside them.
abbrev Closes : List Kind → List Lexeme → Type 0
Closes [] ts = Nested is_plain ts
Closes (c ∷ cs) ts =
    (inside : List Lexeme) × (closing : Lexeme) × (behind : List Lexeme) × (ts ≡ inside ++ closing ∷ behind) × (closing.kind ≡ c) × Nested is_inner inside × Closes cs behind

passed : (cs : List Kind) (t : Lexeme) (ts : List Lexeme) → passes cs t.kind ≡ true → Closes cs ts → Closes cs (t ∷ ts)
passed [] t ts ok run = plain is_plain t ts ok run
passed (c ∷ cs) t ts ok run =
    (t ∷ run.0, run.1, run.2, ap (λ (l : List Lexeme). t ∷ l) run.3, run.4, plain is_inner t run.0 ok run.5, run.6)

bracket_passed : (cs : List Kind) (t closing : Lexeme) (inside behind : List Lexeme) → closer t.kind ≡ Some closing.kind → Nested is_inner inside → Closes cs behind → Closes cs (t ∷ inside ++ closing ∷ behind)
bracket_passed [] t closing inside behind opening inner run = bracketed is_plain t closing inside behind opening inner run
bracket_passed (c ∷ cs) t closing inside behind opening inner run = (
  t ∷ inside ++ closing ∷ run.0,
  run.1,
  run.2,
  ap (λ (l : List Lexeme). t ∷ inside ++ closing ∷ l) run.3 ∙ ap (λ (l : List Lexeme). t ∷ l) (sym (append_assoc inside (closing ∷ run.0) (run.1 ∷ run.2))),
  run.4,
  bracketed is_inner t closing inside run.0 opening inner run.5,
  run.6,
)

next_of : List Kind → Turn → List Kind
next_of cs (goes_on next) = next
next_of cs ends = cs
next_of cs breaks = cs

same_next : (a b : List Kind) → goes_on a ≡ goes_on b → a ≡ b
unfolding next_of
same_next a b e = ap (λ (u : Turn). next_of [] u) e

closed_back : (cs : List Kind) (t : Lexeme) (next : List Kind) (ts : List Lexeme) → closed cs t.kind ≡ goes_on next → Closes next ts → Closes cs (t ∷ ts)
closed_back [] t next ts e run = cc
closed_back (c ∷ cs) t next ts e run = by_kind (is c t.kind) refl e
  where
    by_kind : (b : Bool) → is c t.kind ≡ b → cond b (goes_on cs) breaks ≡ goes_on next → Closes (c ∷ cs) (t ∷ ts)
    by_kind true same h = ([], t, ts, refl, same_from_is c t.kind same, nothing is_inner, subst (λ (l : List Kind). Closes l ts) (sym (same_next cs next h)) run)
    by_kind false other h = cc

opened_back : (x : Option Kind) (cs : List Kind) (t : Lexeme) (next : List Kind) (ts : List Lexeme) → closer t.kind ≡ x → opened x cs t.kind ≡ goes_on next → Closes next ts → Closes cs (t ∷ ts)
opened_back None cs t next ts none e run = closed_back cs t next ts e run
opened_back (Some c) cs t next ts some e run =
    let inner : Closes (c ∷ cs) ts = subst (λ (l : List Kind). Closes l ts) (sym (same_next (c ∷ cs) next e)) run in
    subst (λ (l : List Lexeme). Closes cs (t ∷ l)) (sym inner.3) (bracket_passed cs t inner.1 inner.0 inner.2 (some ∙ ap (λ (k : Kind). Some k) (sym inner.4)) inner.5 inner.6)

turn_back : (cs : List Kind) (t : Lexeme) (next : List Kind) (ts : List Lexeme) → turn cs t.kind ≡ goes_on next → Closes next ts → Closes cs (t ∷ ts)
turn_back cs t next ts e run = by_test (passes cs t.kind) refl e
  where
    by_test : (b : Bool) → passes cs t.kind ≡ b → cond b (goes_on cs) (opened (closer t.kind) cs t.kind) ≡ goes_on next → Closes cs (t ∷ ts)
    by_test true ok h = passed cs t ts ok (subst (λ (l : List Kind). Closes l ts) (sym (same_next cs next h)) run)
    by_test false no_pass h = opened_back (closer t.kind) cs t next ts refl h run

-- a run ends where nothing is open
closed_ends : (cs : List Kind) (k : Kind) → closed cs k ≡ ends → Closes cs []
closed_ends [] k e = nothing is_plain
closed_ends (c ∷ cs) k e = by_kind (is c k) e
  where
    by_kind : (b : Bool) → cond b (goes_on cs) breaks ≡ ends → Closes (c ∷ cs) []
    by_kind true h = cc
    by_kind false h = cc

opened_ends : (x : Option Kind) (cs : List Kind) (k : Kind) → opened x cs k ≡ ends → Closes cs []
opened_ends None cs k e = closed_ends cs k e
opened_ends (Some c) cs k e = cc

turn_ends : (cs : List Kind) (k : Kind) → turn cs k ≡ ends → Closes cs []
turn_ends cs k e = by_test (passes cs k) e
  where
    by_test : (b : Bool) → cond b (goes_on cs) (opened (closer k) cs k) ≡ ends → Closes cs []
    by_test true h = cc
    by_test false h = opened_ends (closer k) cs k h

end_closes : (cs : List Kind) (n : ℕ) → at_end cs ≡ Some n → Closes cs []
end_closes [] n e = nothing is_plain
end_closes (c ∷ cs) n e = cc

take_none : (n : ℕ) → n ≡ 0 → (ts : List Lexeme) → take n ts ≡ []
take_none n e ts = ap (λ (m : ℕ). take m ts) e ∙ none ts
  where
    none : (ts : List Lexeme) → take 0 ts ≡ []
    none [] = refl
    none (t ∷ ts) = refl

take_empty : (n : ℕ) → (let none : List Lexeme = [] in take n none) ≡ []
take_empty zero = refl
take_empty (suc n) = refl

closes_front : (ts : List Lexeme) (cs : List Kind) (n : ℕ) → scan ts cs ≡ Some n → Closes cs (take n ts)
unfolding scan
closes_front [] cs n e = subst (λ (l : List Lexeme). Closes cs l) (sym (take_empty n)) (end_closes cs n e)
closes_front (t ∷ ts) cs n e = by_turn (turn cs t.kind) refl e (closes_front ts)
  where
    by_turn : (u : Turn) → turn cs t.kind ≡ u → behind_turn u (scan ts) ≡ Some n → ((cs : List Kind) (n : ℕ) → scan ts cs ≡ Some n → Closes cs (take n ts)) → Closes cs (take n (t ∷ ts))
    by_turn ends same_turn h more = subst (λ (l : List Lexeme). Closes cs l) (sym (take_none n (sym (some_same 0 n h)) (t ∷ ts))) (turn_ends cs t.kind same_turn)
    by_turn breaks same_turn h more = cc
    by_turn (goes_on next) same_turn h more = by_count (scan ts next) refl h
      where
        by_count : (x : Option ℕ) → scan ts next ≡ x → one_more x ≡ Some n → Closes cs (take n (t ∷ ts))
        by_count None same g = cc
        by_count (Some m) same g = subst (λ (k : ℕ). Closes cs (take k (t ∷ ts))) (some_same (suc m) n g) (turn_back cs t next (take m ts) same_turn (more next m same))

run_of_front : (n : ℕ) (ts : List Lexeme) → scan ts [] ≡ Some (suc n) → IsRun (take (suc n) ts)
unfolding scan
run_of_front n [] e = absurd (omega (arith, some_same 0 (suc n) e))
run_of_front n (t ∷ ts) e = (omega arith, closes_front (t ∷ ts) [] (suc n) e)

pub run_found : (ts r behind : List Lexeme) → read_run ts ≡ Some (r, behind) → (ts ≡ r ++ behind) × IsRun r
unfolding read_run
run_found ts r behind e = by_count (scan ts []) refl e
  where
    by_count : (x : Option ℕ) → scan ts [] ≡ x → cut_run x ts ≡ Some (r, behind) → (ts ≡ r ++ behind) × IsRun r
    by_count None is h = cc
    by_count (Some zero) is h = cc
    by_count (Some (suc n)) is h =
        let same = some_same (take (suc n) ts, drop (suc n) ts) (r, behind) h in
        let front : take (suc n) ts ≡ r = ap (λ (x : List Lexeme × List Lexeme). x.0) same in
        let back : drop (suc n) ts ≡ behind = ap (λ (x : List Lexeme × List Lexeme). x.1) same in
        (sym (take-append-drop (suc n) ts) ∙ (λ i. front i ++ back i), subst IsRun front (run_of_front n ts is))
