-- How bytes begin with the line of an event and with the last line, and that they do in one way.
use Rattle.std.proofs.Common.{◌≡◌, ℕ, ◌<◌, ◌^◌, List, [], ◌∷◌, ◌++◌, get_or, append_assoc, ap, sym, ◌∙◌, refl, arith}
use Rattle.std.specs.Prelude.{codes}
use Rattle.std.specs.Fmt.{decimal}
use Rattle.std.specs.Str.Parse.{AllDigits, digits_value}
use Rattle.std.proofs.lemmas.Str.Parse.{IsNumeralModel, numerals_by_value, tells_digits, not_in_digits}
use Rattle.std.proofs.lemmas.Fmt.{decimal_is_IsNumeral}
use Rattle.std.proofs.lemmas.List.{append_cancel_left}
use Rattle.byte_cuts.proofs.Cuts.{cut_once, lacks_from}
use Rattle.run_report.proofs.Digits.{no_other}
use Rattle.language_limits.specs.declared.TheConstants.{MOST_DEQUES}
use Rattle.trail_meaning.specs.Ranges.{FitsKind, FitsEvent, FitNumbers}
use Rattle.trail_meaning.specs.declared.trail_event.TrailEvent.{TrailEvent}
use Rattle.trail_meaning.specs.declared.trail_kind.TrailKind.{TrailKind}
use Rattle.trail_meaning.specs.declared.trail_kind.TrailKind.TheVariants.{Steal, Act, Suspend, GiveUp}
use Rattle.trail_meaning.specs.declared.trail_numbers.TrailNumbers.{TrailNumbers}
use Rattle.trail_text.specs.TrailText.{kind_words, event_line, end_line}
use Rattle.trail_text.specs.Lines.{number_then, NoNumber, NoneBelow, NoKind, NoEvent, NoEnd}
use Rattle.trail_text.proofs.Fronts.{number_once, then_more}

-- the words of a kind tell it
second_byte : (kind other : TrailKind) (x y : List ℕ) → kind_words kind ++ 10 ∷ x ≡ kind_words other ++ 10 ∷ y → get_or (kind_words kind ++ 10 ∷ x) 1 0 ≡ get_or (kind_words other ++ 10 ∷ y) 1 0
second_byte kind other x y e = ap (λ (l : List ℕ). get_or l 1 0) e

pub steal_is : (place : ℕ) (more : List ℕ) → kind_words (Steal place) ++ 10 ∷ more ≡ number_then (codes "steal ") place 10 more
steal_is place more = append_assoc (codes "steal ") (decimal place) (10 ∷ more)

pub kind_once :
    (kind other : TrailKind) (x y : List ℕ) → FitsKind kind → FitsKind other → kind_words kind ++ 10 ∷ x ≡ kind_words other ++ 10 ∷ y →
    (kind ≡ other) × (x ≡ y)
kind_once (Steal i) (Steal j) x y fits fits' e =
    let same = number_once (codes "steal ") 10 i j x y (omega arith) (omega (arith, fits)) (omega (arith, fits')) (sym (steal_is i x) ∙ e ∙ steal_is j y) in
    (ap (λ (n : ℕ). Steal n) same.0, same.1)
kind_once (Steal i) Act x y fits fits' e = absurd (omega (arith, second_byte (Steal i) Act x y e))
kind_once (Steal i) Suspend x y fits fits' e = absurd (omega (arith, second_byte (Steal i) Suspend x y e))
kind_once (Steal i) GiveUp x y fits fits' e = absurd (omega (arith, second_byte (Steal i) GiveUp x y e))
kind_once Act (Steal j) x y fits fits' e = absurd (omega (arith, second_byte Act (Steal j) x y e))
kind_once Act Act x y fits fits' e = (refl, append_cancel_left (codes "act\n") x y e)
kind_once Act Suspend x y fits fits' e = absurd (omega (arith, second_byte Act Suspend x y e))
kind_once Act GiveUp x y fits fits' e = absurd (omega (arith, second_byte Act GiveUp x y e))
kind_once Suspend (Steal j) x y fits fits' e = absurd (omega (arith, second_byte Suspend (Steal j) x y e))
kind_once Suspend Act x y fits fits' e = absurd (omega (arith, second_byte Suspend Act x y e))
kind_once Suspend Suspend x y fits fits' e = (refl, append_cancel_left (codes "suspend\n") x y e)
kind_once Suspend GiveUp x y fits fits' e = absurd (omega (arith, second_byte Suspend GiveUp x y e))
kind_once GiveUp (Steal j) x y fits fits' e = absurd (omega (arith, second_byte GiveUp (Steal j) x y e))
kind_once GiveUp Act x y fits fits' e = absurd (omega (arith, second_byte GiveUp Act x y e))
kind_once GiveUp Suspend x y fits fits' e = absurd (omega (arith, second_byte GiveUp Suspend x y e))
kind_once GiveUp GiveUp x y fits fits' e = (refl, append_cancel_left (codes "giveup\n") x y e)

-- no words of a kind
pub no_kind :
    (bytes : List ℕ) → ((more : List ℕ) → ¬ (bytes ≡ codes "act\n" ++ more)) → ((more : List ℕ) → ¬ (bytes ≡ codes "suspend\n" ++ more)) →
    ((more : List ℕ) → ¬ (bytes ≡ codes "giveup\n" ++ more)) → NoneBelow (codes "steal ") 10 MOST_DEQUES bytes → NoKind bytes
no_kind bytes act suspend give_up steal (Steal place) more fits e = steal place more fits (e ∙ steal_is place more)
no_kind bytes act suspend give_up steal Act more fits e = act more e
no_kind bytes act suspend give_up steal Suspend more fits e = suspend more e
no_kind bytes act suspend give_up steal GiveUp more fits e = give_up more e

-- the line of an event
pub event_is : (event : TrailEvent) (more : List ℕ) → event_line event ++ more ≡ number_then [] event.worker 32 (kind_words event.kind ++ 10 ∷ more)
event_is event more =
    append_assoc (decimal event.worker) (32 ∷ (kind_words event.kind ++ 10 ∷ [])) more
    ∙ ap (λ (t : List ℕ). decimal event.worker ++ 32 ∷ t) (append_assoc (kind_words event.kind) (10 ∷ []) more)

pub event_once :
    (p q : ℕ) (event other : TrailEvent) (x y : List ℕ) → p < 2 ^ 64 → q < 2 ^ 64 → FitsEvent p event → FitsEvent q other →
    event_line event ++ x ≡ event_line other ++ y → (event ≡ other) × (x ≡ y)
event_once p q event other x y short short' fits fits' e =
    let worker =
    number_once [] 32 event.worker other.worker (kind_words event.kind ++ 10 ∷ x) (kind_words other.kind ++ 10 ∷ y) (omega arith)
    (omega (arith, fits.0)) (omega (arith, fits'.0)) (sym (event_is event x) ∙ e ∙ event_is other y) in
    let kind = kind_once event.kind other.kind x y fits.1 fits'.1 worker.1 in
    (λ i. record { worker = worker.0 i; kind = kind.0 i }, kind.1)

pub no_kind_after :
    (p : ℕ) (bytes : List ℕ) (worker : ℕ) (after : List ℕ) → p < 2 ^ 64 → bytes ≡ number_then [] worker 32 after → worker < p → NoKind after →
    NoEvent p bytes
no_kind_after p bytes worker after short begins under none event more fits e =
    none event.kind more fits.1
    (number_once [] 32 worker event.worker after (kind_words event.kind ++ 10 ∷ more) (omega arith) (omega arith) (omega (arith, fits.0))
    (sym begins ∙ e ∙ event_is event more)).1

pub no_worker : (p : ℕ) (bytes : List ℕ) → NoneBelow [] 32 p bytes → NoEvent p bytes
no_worker p bytes none event more fits e = none event.worker (kind_words event.kind ++ 10 ∷ more) fits.0 (e ∙ event_is event more)

-- the last line, number by number
abbrev pub from_high : ℕ → List ℕ → List ℕ
from_high h more = number_then (codes "high ") h 10 more

abbrev pub from_ahead : ℕ → ℕ → List ℕ → List ℕ
from_ahead a h more = number_then (codes "ahead ") a 32 (from_high h more)

abbrev pub from_periods : TrailNumbers → List ℕ → List ℕ
from_periods n more = number_then (codes "end periods ") n.periods 32 (from_ahead n.ahead n.high more)

pub end_is : (n : TrailNumbers) (more : List ℕ) → end_line n ++ more ≡ from_periods n more
end_is n more =
    then_more (codes "end periods ") n.periods _ more _
    (then_more (codes " ahead ") n.ahead _ more _ (then_more (codes " high ") n.high (codes "\n") more (10 ∷ more) refl))

module _ (bytes : List ℕ) (periods : ℕ) (at_ahead : List ℕ) (e1 : bytes ≡ number_then (codes "end periods ") periods 32 at_ahead) (small : periods < 2 ^ 64) where
  periods_once :
      (n : TrailNumbers) (more : List ℕ) → FitNumbers n → bytes ≡ end_line n ++ more → (periods ≡ n.periods) × (at_ahead ≡ from_ahead n.ahead n.high more)
  periods_once n more fits e =
      number_once (codes "end periods ") 32 periods n.periods at_ahead (from_ahead n.ahead n.high more) (omega arith) small fits.0
      (sym e1 ∙ e ∙ end_is n more)

  pub no_ahead : NoNumber (codes "ahead ") 32 at_ahead → NoEnd bytes
  no_ahead none n more fits e = none n.ahead (from_high n.high more) fits.1 (periods_once n more fits e).1

  module _ (ahead : ℕ) (at_high : List ℕ) (e2 : at_ahead ≡ number_then (codes "ahead ") ahead 32 at_high) (small' : ahead < 2 ^ 64) where
    ahead_once : (n : TrailNumbers) (more : List ℕ) → FitNumbers n → bytes ≡ end_line n ++ more → (ahead ≡ n.ahead) × (at_high ≡ from_high n.high more)
    ahead_once n more fits e =
        number_once (codes "ahead ") 32 ahead n.ahead at_high (from_high n.high more) (omega arith) small' fits.1
        (sym e2 ∙ (periods_once n more fits e).1)

    pub no_high : NoNumber (codes "high ") 10 at_high → NoEnd bytes
    no_high none n more fits e = none n.high more fits.2 (ahead_once n more fits e).1

pub no_periods : (bytes : List ℕ) → NoNumber (codes "end periods ") 32 bytes → NoEnd bytes
no_periods bytes none n more fits e = none n.periods (from_ahead n.ahead n.high more) fits.0 (e ∙ end_is n more)

pub end_once :
    (n m : TrailNumbers) (x y : List ℕ) → FitNumbers n → FitNumbers m → end_line n ++ x ≡ end_line m ++ y → (n ≡ m) × (x ≡ y)
end_once n m x y fits fits' e =
    let begins : end_line n ++ x ≡ from_periods n x = end_is n x in
    let periods = periods_once (end_line n ++ x) n.periods (from_ahead n.ahead n.high x) begins fits.0 m y fits' e in
    let ahead = ahead_once (end_line n ++ x) n.periods (from_ahead n.ahead n.high x) begins fits.0 n.ahead (from_high n.high x) refl fits.1 m y fits' e in
    let high = number_once (codes "high ") 10 n.high m.high x y (omega arith) fits.2 fits'.2 ahead.1 in
    (λ i. record { periods = periods.0 i; ahead = ahead.0 i; high = high.0 i }, high.1)

-- the line of an event is not the last line: a number has no `e`
own : IsNumeralModel (AllDigits 10) (digits_value 10)
own = numerals_by_value (AllDigits 10) tells_digits

pub event_or_end :
    (p : ℕ) (event : TrailEvent) (n : TrailNumbers) (x y : List ℕ) → p < 2 ^ 64 → FitsEvent p event → FitNumbers n →
    event_line event ++ x ≡ end_line n ++ y → ⊥
event_or_end p event n x y short fits fits' e =
    let small : event.worker < 2 ^ 64 = omega (arith, fits.0) in
    let cut =
    cut_once 32 (decimal event.worker) (codes "end") (kind_words event.kind ++ 10 ∷ x) _ (no_other 32 (omega arith) event.worker small)
    (lacks_from 32 (codes "end") refl) (sym (event_is event x) ∙ e ∙ end_is n y) in
    let first : get_or (decimal event.worker) 0 0 ≡ 101 = ap (λ (l : List ℕ). get_or l 0 0) cut.0 in
    not_in_digits own (decimal event.worker) 101 (decimal_is_IsNumeral event.worker small).0.1 (λ r. omega (arith, r)) 0
    (decimal_is_IsNumeral event.worker small).0.0 first
