-- Which bytes write a number.
use Rattle.std.proofs.Common.{◌≡◌, ◌≢◌, ℕ, ℤ, pos, negsuc, zero, suc, ◌-ℤ◌, ◌<◌, ◌≤◌, ◌^◌, List, ◌∷◌, length, get_or, drop, ap, sym, ◌∙◌, refl, subst, arith}
use Rattle.std.specs.Prelude.{Option, Some, None, MatchOption, Result, Ok, Err, SomeIff}
use Rattle.std.specs.Result.{result_ok}
use Rattle.std.specs.Int.RustNames.{FitsSigned}
use Rattle.std.specs.Int.{w64}
use Rattle.std.specs.Fmt.{decimal, signed_decimal}
use Rattle.std.specs.Str.{IsUtf8}
use Rattle.std.specs.Str.Parse.{AllDigits, digits_value, ParsesUnsigned}
use Rattle.std.proofs.lemmas.Str.{IsUtf8-from_ascii}
use Rattle.std.proofs.lemmas.Str.Parse.{IsNumeralModel, numerals_by_value, tells_digits, not_in_digits, parse_plain}
use Rattle.std.proofs.lemmas.Fmt.{IsAscii-decimal, decimal_is_IsNumeral, decimal_digit, first_decimal, decimal-digits_value, parse-decimal, decimal_injective}
use Rattle.std.proofs.Math.IntN.{+ℤ_idl}
use Rattle.run_report.specs.Shown.{IsWord}
use Rattle.byte_cuts.specs.Lacks.{Lacks}

own : IsNumeralModel (AllDigits 10) (digits_value 10)
own = numerals_by_value (AllDigits 10) tells_digits

-- what is no text, is empty, begins with `+` or with a spare 0 is no number
pub no_text : (ds : List ℕ) → ¬ (IsUtf8 ds) → (n : ℕ) → n < 2 ^ 64 → ¬ (ds ≡ decimal n)
no_text ds none n small e = none (subst IsUtf8 (sym e) (IsUtf8-from_ascii (decimal n) (IsAscii-decimal n small)))

pub no_bytes : (ds : List ℕ) → length ds ≡ 0 → (n : ℕ) → n < 2 ^ 64 → ¬ (ds ≡ decimal n)
no_bytes ds empty n small e = omega (arith, ap length e, (decimal_is_IsNumeral n small).0.0)

-- a number has no byte that is no digit
pub no_other : (c : ℕ) → c < 48 → (n : ℕ) → n < 2 ^ 64 → Lacks c (decimal n)
no_other c low n small k within = not_in_digits own (decimal n) c (decimal_is_IsNumeral n small).0.1 (λ r. omega (arith, r)) k within

pub no_sign : (ds : List ℕ) (c : ℕ) → c < 48 → get_or ds 0 0 ≡ c → (n : ℕ) → n < 2 ^ 64 → ¬ (ds ≡ decimal n)
no_sign ds c low is n small e =
    no_other c low n small 0 (decimal_is_IsNumeral n small).0.0 (ap (λ (l : List ℕ). get_or l 0 0) (sym e) ∙ is)

pub no_spare : (ds : List ℕ) → get_or ds 0 0 ≡ 48 → 1 < length ds → (n : ℕ) → n < 2 ^ 64 → ¬ (ds ≡ decimal n)
no_spare ds first long zero small e = omega (arith, ap length (e ∙ decimal_digit 0 (omega arith)))
no_spare ds first long (suc n) small e =
    omega (arith, first, ap (λ (l : List ℕ). get_or l 0 0) e, first_decimal (suc n) (omega arith) small)

-- what is read of other bytes
pub read :
    {E : Type 0} (ds text : List ℕ) (r : Result ℕ E) (o : Option ℕ) → text ≡ ds → o ≡ result_ok r → ParsesUnsigned 64 10 text r →
    get_or ds 0 0 ≢ 43 → (get_or ds 0 0 ≡ 48 → length ds ≤ 1) → MatchOption o ((n : ℕ) → n < 2 ^ 64 → ¬ (ds ≡ decimal n)) (λ n. (ds ≡ decimal n) × (n < 2 ^ 64))
read {E} ds text (Err x) o same is told plus spare = subst (λ (o : Option ℕ). Told o) (sym is) none
  where
    Told : Option ℕ → Type 0
    Told o = MatchOption o ((n : ℕ) → n < 2 ^ 64 → ¬ (ds ≡ decimal n)) (λ n. (ds ≡ decimal n) × (n < 2 ^ 64))

    differ : (n : ℕ) → (let r : Result ℕ E = Err x in r ≡ Ok n) → ⊥
    differ n e = cc

    none : (n : ℕ) → n < 2 ^ 64 → ¬ (ds ≡ decimal n)
    none n small e = differ n (parse-decimal 64 n text (Err x) small small (same ∙ e) told)
read {E} ds text (Ok v) o same is told plus spare = subst (λ (o : Option ℕ). Told o) (sym is) some
  where
    Told : Option ℕ → Type 0
    Told o = MatchOption o ((n : ℕ) → n < 2 ^ 64 → ¬ (ds ≡ decimal n)) (λ n. (ds ≡ decimal n) × (n < 2 ^ 64))

    some : (ds ≡ decimal v) × (v < 2 ^ 64)
    some =
        let r : Result ℕ E = Ok v in
        let all = parse_plain own 64 ds r (subst (λ (b : List ℕ). ParsesUnsigned 64 10 b r) same told) plus in (
          sym (decimal-digits_value own ds all.0.0 all.0.1 (λ e. omega (arith, spare e, all.0.1)) all.0.2) ∙ ap decimal (sym all.1),
          subst (λ (w : ℕ). w < 2 ^ 64) (sym all.1) all.0.2,
        )

-- what begins with `-` is a negative number, or none
pub minus_is :
    (ds size : List ℕ) (z : ℤ) → IsWord z → ds ≡ 45 ∷ size → ds ≡ signed_decimal z →
    (n : ℕ) × ((z ≡ negsuc n) × ((size ≡ decimal (suc n)) × (n < 2 ^ 63)))
minus_is ds size (pos n) small begins e =
    absurd (no_sign ds 45 (omega arith) (ap (λ (l : List ℕ). get_or l 0 0) begins) n (omega arith) e)
minus_is ds size (negsuc n) small begins e = (n, (refl, (ap (λ (l : List ℕ). drop 1 l) (sym begins ∙ e), small)))

pub no_minus :
    (ds size : List ℕ) → ds ≡ 45 ∷ size → ((n : ℕ) → n < 2 ^ 64 → ¬ (size ≡ decimal n)) → (z : ℤ) → IsWord z → ¬ (ds ≡ signed_decimal z)
no_minus ds size begins none z small e =
    let is = minus_is ds size z small begins e in
    none (suc is.0) (omega (arith, is.1.1.1)) is.1.1.0

pub no_minus_zero :
    (ds size : List ℕ) (v : ℕ) → ds ≡ 45 ∷ size → size ≡ decimal v → v ≡ 0 → (z : ℤ) → IsWord z → ¬ (ds ≡ signed_decimal z)
no_minus_zero ds size v begins write none z small e =
    let is = minus_is ds size z small begins e in
    let same = decimal_injective v (suc is.0) (omega arith) (omega (arith, is.1.1.1)) (sym write ∙ is.1.1.0) in
    omega (arith, same)

below_zero : (m : ℕ) → pos 0 -ℤ pos (suc m) ≡ negsuc m
below_zero m = +ℤ_idl (negsuc m)

pub minus :
    (ds size : List ℕ) (v : ℕ) (o : Option ℤ) → ds ≡ 45 ∷ size → size ≡ decimal v → v ≢ 0 → v < 2 ^ 64 →
    SomeIff o (FitsSigned w64 (pos 0 -ℤ pos v)) (pos 0 -ℤ pos v) →
    MatchOption o ((z : ℤ) → IsWord z → ¬ (ds ≡ signed_decimal z)) (λ z. (ds ≡ signed_decimal z) × IsWord z)
minus ds size zero o begins write some small told = absurd (some refl)
minus ds size (suc m) None begins write some small told = λ z word e.
    let is = minus_is ds size z word begins e in
    let same : suc m ≡ suc is.0 = decimal_injective (suc m) (suc is.0) small (omega (arith, is.1.1.1)) (sym write ∙ is.1.1.0) in
    told (subst (FitsSigned w64) (sym (below_zero m)) (record { sfits = omega (arith, same, is.1.1.1) }))
minus ds size (suc m) (Some r) begins write some small told =
    let value : r ≡ negsuc m = told.1 ∙ below_zero m in
    let fits : FitsSigned w64 (negsuc m) = subst (FitsSigned w64) (below_zero m) told.0 in (
      begins ∙ ap (λ (l : List ℕ). 45 ∷ l) write ∙ ap signed_decimal (sym value),
      subst IsWord (sym value) fits.sfits,
    )

-- what does not begin with `-` is no negative number
pub plain_is :
    (ds : List ℕ) → ((more : List ℕ) → ¬ (ds ≡ 45 ∷ more)) → ((n : ℕ) → n < 2 ^ 63 → ¬ (ds ≡ decimal n)) →
    (z : ℤ) → IsWord z → ¬ (ds ≡ signed_decimal z)
plain_is ds bare none (pos n) small e = none n small e
plain_is ds bare none (negsuc n) small e = bare (decimal (suc n)) e

pub plain_large :
    (ds : List ℕ) (v : ℕ) → ((more : List ℕ) → ¬ (ds ≡ 45 ∷ more)) → ds ≡ decimal v → v < 2 ^ 64 → 2 ^ 63 ≤ v →
    (z : ℤ) → IsWord z → ¬ (ds ≡ signed_decimal z)
plain_large ds v bare write small large =
    plain_is ds bare (λ n low e. omega (arith, decimal_injective v n small (omega arith) (sym write ∙ e)))
