-- What follows the first lines of a report.
use Rattle.std.proofs.Common.{◌≡◌, ◌≢◌, ℕ, ℤ, pos, negsuc, suc, ◌⊎◌, inl, inr, List, [], ◌∷◌, ◌++◌, length, map, get_or, drop, append_assoc, ap, sym, ◌∙◌, refl, subst, arith, length-append}
use Rattle.std.specs.Prelude.{codes}
use Rattle.std.specs.Fmt.{decimal, signed_decimal}
use Rattle.byte_cuts.specs.Lacks.{Lacks}
use Rattle.run_report.specs.Shown.{ReportShown, InRange, IsWord, AreWords}
use Rattle.run_report.specs.Texts.{line, text_of, finish_words, counted, report_lines, report_text}
use Rattle.run_report.specs.Reading.{Begins, BreaksAt}
use Rattle.byte_cuts.proofs.Cuts.{cut_once, lacks_from}
use Rattle.run_report.proofs.Fronts.{lf_value, lf_finish, lf_counted, line_is}
use Rattle.run_report.proofs.Digits.{no_other}

-- `--` is no number
pub dashes : (n : ℤ) → IsWord n → signed_decimal n ≢ codes "--"
dashes (pos n) small e =
    no_other 45 (omega arith) n (omega arith) 0
    (omega (arith, ap length e)) (ap (λ (l : List ℕ). get_or l 0 0) e)
dashes (negsuc n) small e =
    let e' : decimal (suc n) ≡ 45 ∷ [] = ap (λ (l : List ℕ). drop 1 l) e in
    no_other 45 (omega arith) (suc n) (omega arith) 0
    (omega (arith, ap length e')) (ap (λ (l : List ℕ). get_or l 0 0) e')

-- what stands behind the numbers of a report
abbrev pub tail : ReportShown → List (List ℕ)
tail r =
    finish_words r.finish ∷ counted (codes "periods ") r.periods ∷ counted (codes "ahead ") r.ahead ∷ counted (codes "high ") r.high ∷ []

pub lines_are : (r : ReportShown) → report_lines r ≡ map signed_decimal r.lines ++ codes "--" ∷ tail r
lines_are r = append_assoc (map signed_decimal r.lines) (codes "--" ∷ finish_words r.finish ∷ []) _

head_is : {A : Type 0} (a b : A) (ps qs : List A) → a ∷ ps ≡ b ∷ qs → a ≡ b
head_is a b ps qs e = ap (λ (l : List _). get_or l 0 a) e

rest_is : {A : Type 0} (a b : A) (ps qs : List A) → a ∷ ps ≡ b ∷ qs → ps ≡ qs
rest_is a b ps qs e = ap (λ (l : List _). drop 1 l) e

-- behind numbers there is a number or `--`
pub after_values :
    (xs ys : List ℤ) (rest zs : List (List ℕ)) → AreWords xs → AreWords ys → map signed_decimal ys ++ codes "--" ∷ rest ≡ map signed_decimal xs ++ zs →
    (next : List ℕ) × ((more : List (List ℕ)) × ((zs ≡ next ∷ more) × ((next ≡ codes "--") ⊎ ((n : ℤ) × (IsWord n × (next ≡ signed_decimal n))))))
after_values [] [] rest zs ok ok' e = (codes "--", (rest, (sym e, inl refl)))
after_values [] (y ∷ ys) rest zs ok ok' e = (signed_decimal y, (map signed_decimal ys ++ codes "--" ∷ rest, (sym e, inr (y, (ok'.0, refl)))))
after_values (x ∷ xs) [] rest zs ok ok' e = absurd (dashes x ok.0 (sym (head_is _ _ _ _ e)))
after_values (x ∷ xs) (y ∷ ys) rest zs ok ok' e = after_values xs ys rest zs ok.1 ok'.1 (rest_is _ _ _ _ e)

-- behind `--` stands the same
pub after_dashes :
    (xs ys : List ℤ) (rest zs : List (List ℕ)) → AreWords xs → AreWords ys →
    map signed_decimal ys ++ codes "--" ∷ rest ≡ map signed_decimal xs ++ codes "--" ∷ zs → rest ≡ zs
after_dashes [] [] rest zs ok ok' e = rest_is _ _ _ _ e
after_dashes [] (y ∷ ys) rest zs ok ok' e = absurd (dashes y ok'.0 (head_is _ _ _ _ e))
after_dashes (x ∷ xs) [] rest zs ok ok' e = absurd (dashes x ok.0 (sym (head_is _ _ _ _ e)))
after_dashes (x ∷ xs) (y ∷ ys) rest zs ok ok' e = after_dashes xs ys rest zs ok.1 ok'.1 (rest_is _ _ _ _ e)

-- each line lacks the LF
abbrev AllLack : List (List ℕ) → Type 0
AllLack [] = Unit {0}
AllLack (l ∷ ls) = Lacks 10 l × AllLack ls

all_lack-append : (ps bs : List (List ℕ)) → AllLack ps → AllLack bs → AllLack (ps ++ bs)
all_lack-append [] bs lack lack' = lack'
all_lack-append (a ∷ ps) bs lack lack' = (lack.0, all_lack-append ps bs lack.1 lack')

all_lack_front : (ps bs : List (List ℕ)) → AllLack (ps ++ bs) → AllLack ps
all_lack_front [] bs lack = tt
all_lack_front (a ∷ ps) bs lack = (lack.0, all_lack_front ps bs lack.1)

values_lack : (xs : List ℤ) → AreWords xs → AllLack (map signed_decimal xs)
values_lack [] ok = tt
values_lack (x ∷ xs) ok = (lf_value x ok.0, values_lack xs ok.1)

report_lacks : (r : ReportShown) → InRange r → AllLack (report_lines r)
report_lacks r ok =
    subst AllLack (sym (lines_are r))
    (all_lack-append (map signed_decimal r.lines) (codes "--" ∷ tail r) (values_lack r.lines ok.lines) (
      lacks_from 10 (codes "--") refl,
      (
        lf_finish r.finish ok.finish,
        (
          lf_counted (codes "periods ") r.periods (lacks_from 10 (codes "periods ") refl) (omega (arith, ok.periods)),
          (
            lf_counted (codes "ahead ") r.ahead (lacks_from 10 (codes "ahead ") refl) (omega (arith, ok.ahead)),
            (
              lf_counted (codes "high ") r.high (lacks_from 10 (codes "high ") refl) ok.high,
              tt,
            ),
          ),
        ),
      ),
    ))

-- lines at the front of a text are the first lines of its lines
same_front :
    (xs ys : List (List ℕ)) (rest : List ℕ) → AllLack xs → AllLack ys → text_of xs ++ rest ≡ text_of ys →
    (zs : List (List ℕ)) × ((ys ≡ xs ++ zs) × (rest ≡ text_of zs))
same_front [] ys rest lack lack' e = (ys, (refl, e))
same_front (x ∷ xs) [] rest lack lack' e =
    absurd (omega (arith, ap length e, length-append (line x ++ text_of xs) rest, length-append (line x) (text_of xs), length-append x (10 ∷ [])))
same_front (x ∷ xs) (y ∷ ys) rest lack lack' e =
    let one : x ++ 10 ∷ (text_of xs ++ rest) ≡ y ++ 10 ∷ text_of ys =
    sym (line_is x (text_of xs ++ rest)) ∙ sym (append_assoc (line x) (text_of xs) rest) ∙ e ∙ line_is y (text_of ys) in
    let cut = cut_once 10 x y (text_of xs ++ rest) (text_of ys) lack.0 lack'.0 one in
    let more = same_front xs ys rest lack.1 lack'.1 cut.1 in
    (more.0, (ap (λ (l : List ℕ). l ∷ ys) (sym cut.0) ∙ ap (λ (ls : List (List ℕ)). x ∷ ls) more.1.0, more.1.1))

-- what is left of a text does not go on as these lines do
abbrev pub Stuck : List ℕ → List (List ℕ) → Type 0
Stuck rest [] = rest ≢ []
Stuck rest (z ∷ zs) = (more : List ℕ) → rest ≢ line z ++ more

-- where no report goes on, the text breaks
pub breaks_here :
    (text rest : List ℕ) (front : List (List ℕ)) → text ≡ text_of front ++ rest → Begins front →
    ((r : ReportShown) (zs : List (List ℕ)) → InRange r → report_lines r ≡ front ++ zs → Stuck rest zs) → BreaksAt text rest
breaks_here text rest front spelled begins stuck = record {
  front = front;
  spelled = spelled;
  begins = begins;
  breaks = λ next more e other.
      stuck other.0 (next ∷ other.1.1.0) other.1.0
      (other.1.1.1 ∙ append_assoc front (next ∷ []) other.1.1.0) more e;
  no_report = λ r ok e. none r ok e;
}
  where
    front_lacks : AllLack front
    front_lacks = all_lack_front front begins.1.1.0 (subst AllLack begins.1.1.1 (report_lacks begins.0 begins.1.0))

    ends : (zs : List (List ℕ)) → Stuck rest zs → rest ≡ text_of zs → ⊥
    ends [] stays e = stays e
    ends (z ∷ zs) stays e = stays (text_of zs) e

    none : (r : ReportShown) → InRange r → text ≡ report_text r → ⊥
    none r ok e =
        let same = same_front front (report_lines r) rest front_lacks (report_lacks r ok) (sym spelled ∙ e) in
        ends same.0 (stuck r same.0 ok same.1.0) same.1.1
