-- How bytes are cut, and that they are cut in one way.
use Rattle.std.proofs.Common.{◌≡◌, ◌≢◌, ℕ, zero, suc, ◌+◌, ◌-◌, ◌<◌, Bool, true, false, List, [], ◌∷◌, ◌++◌, length, take, drop, get_or, ap, sym, ◌∙◌, refl, arith, length-append}
use Rattle.std.specs.Prelude.{nat_eq, not, ◌&&◌, Option, None, Some, MatchOption}
use Rattle.std.specs.Borrow.{Bor}
use Rattle.std.proofs.lemmas.Bool.Decides.{nat_tests}
use lib.Pointwise.{pointwise}
use Rattle.std.specs.Cmp.Lexicographic.{same_text, other_text}
use Rattle.std.proofs.Math.Seq.{take-append_seam, drop-cons, get_or-append_seam}
use Rattle.std.proofs.lemmas.List.{take-append-drop, get_or-take, length-take, take_all, length-drop}
use Rattle.byte_cuts.specs.Lacks.{Lacks}

-- the byte at a place stands between those before it and those behind it
pub cut_here :
    (bytes : List ℕ) (i byte : ℕ) → i < length bytes → get_or bytes i 0 ≡ byte →
    bytes ≡ take i bytes ++ byte ∷ take (length bytes - (i + 1)) (drop (i + 1) bytes)
cut_here bytes i byte within is =
    let next : suc i ≡ i + 1 = omega arith in
    let rest : drop i bytes ≡ byte ∷ drop (i + 1) bytes =
    drop-cons bytes i 0 within ∙ ap (λ (b : ℕ). b ∷ drop (suc i) bytes) is ∙ ap (λ (j : ℕ). byte ∷ drop j bytes) next in
    let all : take (length bytes - (i + 1)) (drop (i + 1) bytes) ≡ drop (i + 1) bytes =
    take_all (length bytes - (i + 1)) (drop (i + 1) bytes) (omega (arith, length-drop (i + 1) bytes)) in
    sym (take-append-drop i bytes) ∙ ap (λ (r : List ℕ). take i bytes ++ r) (rest ∙ ap (λ (r : List ℕ). byte ∷ r) (sym all))

-- what stands before the first one lacks it
pub lacks_before : (bytes : List ℕ) (i byte : ℕ) → i < length bytes → ((k : ℕ) → k < i → get_or bytes k 0 ≢ byte) → Lacks byte (take i bytes)
lacks_before bytes i byte within none k below e =
    let low : k < i = omega (arith, length-take i bytes) in
    none k low (sym (get_or-take i bytes k 0 low) ∙ e)

-- bytes that lack it are not cut
pub not_cut : (bytes : List ℕ) (byte : ℕ) → Lacks byte bytes → (front back : List ℕ) → ¬ (bytes ≡ front ++ byte ∷ back)
not_cut bytes byte lacks front back e =
    lacks (length front)
    (omega (arith, ap length e, length-append front (byte ∷ back)))
    (ap (λ (b : List ℕ). get_or b (length front) 0) e ∙ get_or-append_seam front byte back 0)

-- bytes are cut in one way at the first of a byte
pub cut_once :
    (byte : ℕ) (a b s t : List ℕ) → Lacks byte a → Lacks byte b → a ++ byte ∷ s ≡ b ++ byte ∷ t → (a ≡ b) × (s ≡ t)
cut_once byte [] [] s t lacks lacks' e = (refl, ap (λ (l : List ℕ). drop 1 l) e)
cut_once byte [] (y ∷ b) s t lacks lacks' e = absurd (lacks' 0 (omega arith) (sym (ap (λ (l : List ℕ). get_or l 0 0) e)))
cut_once byte (x ∷ a) [] s t lacks lacks' e = absurd (lacks 0 (omega arith) (ap (λ (l : List ℕ). get_or l 0 0) e))
cut_once byte (x ∷ a) (y ∷ b) s t lacks lacks' e =
    let first : x ≡ y = ap (λ (l : List ℕ). get_or l 0 0) e in
    let more = cut_once byte a b s t (λ k below. lacks (suc k) (omega arith)) (λ k below. lacks' (suc k) (omega arith)) (ap (λ (l : List ℕ). drop 1 l) e) in
    (ap (λ z. z ∷ a) first ∙ ap (λ (l : List ℕ). y ∷ l) more.0, more.1)

-- what lacks a byte
pub lacks_append : (byte : ℕ) (a b : List ℕ) → Lacks byte a → Lacks byte b → Lacks byte (a ++ b)
lacks_append byte [] b lacks lacks' k below e = lacks' k below e
lacks_append byte (x ∷ a) b lacks lacks' zero below e = lacks zero (omega arith) e
lacks_append byte (x ∷ a) b lacks lacks' (suc k) below e =
    lacks_append byte a b (λ j under. lacks (suc j) (omega arith)) lacks' k (omega arith) e

-- whether no byte of some is this one
abbrev pub lacks_it : ℕ → List ℕ → Bool
lacks_it byte [] = true
lacks_it byte (x ∷ xs) = not (nat_eq x byte) && lacks_it byte xs

pub lacks_from : (byte : ℕ) (bytes : List ℕ) → lacks_it byte bytes ≡ true → Lacks byte bytes
lacks_from byte [] all k below e = omega arith
lacks_from byte (x ∷ xs) all zero below e = grind (arith, nat_tests, all)
lacks_from byte (x ∷ xs) all (suc k) below e = lacks_from byte xs (grind (arith, nat_tests, all)) k (omega arith) e

-- what stands behind a front
pub behind_is :
    (bytes front : List ℕ) (o : Option (Bor (List ℕ))) →
    MatchOption o (pointwise nat_eq (take (length front) bytes) front ≡ false)
    (λ more. (pointwise nat_eq (take (length front) bytes) front ≡ true) × (more.now ≡ drop (length front) bytes) × (length more.now + length front ≡ length bytes)) →
    MatchOption o ((more : List ℕ) → ¬ (bytes ≡ front ++ more)) (λ more. bytes ≡ front ++ more.now)
behind_is bytes front None other =
    λ more e. other_text _ _ (sym other) (ap (λ (b : List ℕ). take (length front) b) e ∙ take-append_seam front more)
behind_is bytes front (Some more) told =
    sym (take-append-drop (length front) bytes)
    ∙ ap (λ (f : List ℕ). f ++ drop (length front) bytes) (same_text _ _ (sym told.0))
    ∙ ap (λ (m : List ℕ). front ++ m) (sym told.1)
