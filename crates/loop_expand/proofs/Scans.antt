-- The tokens of a run, counted from the left.
use Rattle.std.proofs.Common.{◌≡◌, ℕ, suc, ◌+◌, Bool, true, false, List, [], ◌∷◌, length, reverse, refl, sym, ap, ◌∙◌, subst, arith}
use Rattle.std.proofs.lemmas.List.{length-reverse}
use Rattle.std.specs.Prelude.{Option, Some, None}
use Rattle.par_text.specs.declared.kind.Kind.{Kind}
use Rattle.par_lex.specs.declared.lexeme.Lexeme.{Lexeme}
use Rattle.loop_expand.specs.Reading.{Turn, goes_on, ends, breaks, turn, behind_turn, at_end, one_more, scan}
use Rattle.loop_expand.specs.declared.read_fail.ReadFail.{ReadFail}
use Rattle.loop_expand.specs.declared.read_fail.ReadFail.TheVariants.{NoLoop, OutOfMemory}
use Rattle.loop_expand.specs.Gives.{Fails, TurnsTo, TurnFails}

-- so many tokens, and then as many as are counted
abbrev pub ahead : ℕ → Option ℕ → Option ℕ
ahead n (Some m) = Some (n + m)
ahead n None = None

ahead-one_more : (n : ℕ) (o : Option ℕ) → ahead n (one_more o) ≡ ahead (n + 1) o
ahead-one_more n (Some m) = ap (λ (k : ℕ). Some k) (let e : n + suc m ≡ (n + 1) + m = omega arith in e)
ahead-one_more n None = refl

pub ahead-none : (o : Option ℕ) → ahead 0 o ≡ o
ahead-none (Some m) = ap (λ (k : ℕ). Some k) (let e : 0 + m ≡ m = omega arith in e)
ahead-none None = refl

-- one token, by what it does to the run
pub scan_turn : (rest : List Lexeme) (t : Lexeme) (behind : List Lexeme) (open_now : List Kind) (u : Turn) → rest ≡ t ∷ behind → turn open_now t.kind ≡ u
    → scan rest open_now ≡ behind_turn u (scan behind)
unfolding scan
scan_turn rest t behind cs u split is = ap (λ (l : List Lexeme). scan l cs) split ∙ ap (λ (v : Turn). behind_turn v (scan behind)) is

pub scan_on : (n : ℕ) (rest : List Lexeme) (t : Lexeme) (behind : List Lexeme) (now next : List Kind) (total : Option ℕ) → rest ≡ t ∷ behind → turn now t.kind ≡ goes_on next
    → ahead n (scan rest now) ≡ total → ahead (n + 1) (scan behind next) ≡ total
scan_on n rest t behind now next total split is so_far =
    sym (ahead-one_more n (scan behind next)) ∙ ap (λ (o : Option ℕ). ahead n o) (sym (scan_turn rest t behind now (goes_on next) split is)) ∙ so_far

pub scan_ends : (n : ℕ) (rest : List Lexeme) (t : Lexeme) (behind : List Lexeme) (now : List Kind) (total : Option ℕ) → rest ≡ t ∷ behind → turn now t.kind ≡ ends
    → ahead n (scan rest now) ≡ total → total ≡ Some n
scan_ends n rest t behind now total split is so_far =
    sym so_far ∙ ap (λ (o : Option ℕ). ahead n o) (scan_turn rest t behind now ends split is) ∙ ap (λ (k : ℕ). Some k) (let e : n + 0 ≡ n = omega arith in e)

pub scan_breaks : (n : ℕ) (rest : List Lexeme) (t : Lexeme) (behind : List Lexeme) (now : List Kind) (total : Option ℕ) → rest ≡ t ∷ behind → turn now t.kind ≡ breaks
    → ahead n (scan rest now) ≡ total → total ≡ None
scan_breaks n rest t behind now total split is so_far =
    sym so_far ∙ ap (λ (o : Option ℕ). ahead n o) (scan_turn rest t behind now breaks split is)

scan_none : (rest : List Lexeme) (now : List Kind) → length rest ≡ 0 → scan rest now ≡ at_end now
unfolding scan
scan_none [] now e = refl
scan_none (t ∷ ts) now e = absurd (omega arith)

pub scan_done : (n : ℕ) (rest : List Lexeme) (now : List Kind) (total : Option ℕ) → length rest ≡ 0 → now ≡ [] → ahead n (scan rest now) ≡ total → total ≡ Some n
scan_done n rest now total empty none so_far =
    sym so_far ∙ ap (λ (o : Option ℕ). ahead n o) (scan_none rest now empty) ∙ ap (λ (cs : List Kind). ahead n (at_end cs)) none
    ∙ ap (λ (k : ℕ). Some k) (let e : n + 0 ≡ n = omega arith in e)

pub scan_cut : (n : ℕ) (rest : List Lexeme) (now : List Kind) (total : Option ℕ) → length rest ≡ 0 → (now ≡ [] → ⊥) → ahead n (scan rest now) ≡ total → total ≡ None
scan_cut n rest [] total empty some so_far = absurd (some refl)
scan_cut n rest (c ∷ cs) total empty some so_far = sym so_far ∙ ap (λ (o : Option ℕ). ahead n o) (scan_none rest (c ∷ cs) empty)

-- what the code's turn gives, in the run so far
pub turn_fails : (e : ReadFail) (n : ℕ) (rest : List Lexeme) (t : Lexeme) (behind : List Lexeme) (now : List Kind) (total : Option ℕ) → rest ≡ t ∷ behind → TurnFails e (turn now t.kind)
    → ahead n (scan rest now) ≡ total → Fails e total
turn_fails NoLoop n rest t behind now total split is so_far = scan_breaks n rest t behind now total split is so_far
turn_fails OutOfMemory n rest t behind now total split is so_far = tt

pub turn_ends : (on : Bool) (next : List Kind) (n : ℕ) (rest : List Lexeme) (t : Lexeme) (behind : List Lexeme) (now : List Kind) (total : Option ℕ) → on ≡ false → rest ≡ t ∷ behind
    → TurnsTo on next (turn now t.kind) → ahead n (scan rest now) ≡ total → total ≡ Some n
turn_ends on next n rest t behind now total off split is so_far =
    scan_ends n rest t behind now total split (subst (λ (b : Bool). TurnsTo b next (turn now t.kind)) off is) so_far

pub turn_on : (on : Bool) (next : List Kind) (n : ℕ) (rest : List Lexeme) (t : Lexeme) (behind : List Lexeme) (now : List Kind) (total : Option ℕ) → on ≡ true → rest ≡ t ∷ behind
    → TurnsTo on next (turn now t.kind) → ahead n (scan rest now) ≡ total → ahead (n + 1) (scan behind next) ≡ total
turn_on on next n rest t behind now total yes_on split is so_far =
    scan_on n rest t behind now next total split (subst (λ (b : Bool). TurnsTo b next (turn now t.kind)) yes_on is) so_far

pub no_brackets : (open_now : List Kind) → length open_now ≡ 0 → reverse open_now ≡ []
no_brackets [] e = refl
no_brackets (k ∷ ks) e = absurd (omega arith)

pub some_brackets : (open_now : List Kind) → (length open_now ≡ 0 → ⊥) → reverse open_now ≡ [] → ⊥
some_brackets ks some e = some (sym (length-reverse ks) ∙ ap (λ (l : List Kind). length l) e)
