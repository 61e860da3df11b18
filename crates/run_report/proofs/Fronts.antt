-- With which line bytes begin.
use Rattle.std.proofs.Common.{◌≡◌, ℕ, ℤ, pos, negsuc, suc, ◌<◌, ◌≤◌, ◌^◌, List, [], ◌∷◌, ◌++◌, get_or, append_assoc, ap, sym, ◌∙◌, refl, subst, arith}
use Rattle.std.specs.Prelude.{codes}
use Rattle.std.specs.Fmt.{decimal, signed_decimal}
use Rattle.std.proofs.lemmas.List.{append_cancel_left}
use Rattle.std.proofs.lemmas.Fmt.{decimal_injective}
use Rattle.dag_order.specs.declared.finish.Finish.{Finish}
use Rattle.dag_order.specs.declared.finish.Finish.TheVariants.{Done, Faulted}
use Rattle.dag_order.specs.declared.fault.FaultAt.{FaultAt}
use Rattle.dag_order.specs.declared.fault.FaultKind.{FaultKind}
use Rattle.dag_order.specs.declared.fault.FaultKind.TheVariants.{Index, Divide, Size, Split, Depth, Turns}
use Rattle.byte_cuts.specs.Lacks.{Lacks}
use Rattle.run_report.specs.Lines.{NoValue, NoFinish, NoCounted}
use Rattle.run_report.specs.Shown.{IsWord, HasLine}
use Rattle.run_report.specs.Texts.{line, kind_word, finish_words, counted}
use Rattle.byte_cuts.proofs.Cuts.{cut_once, lacks_append, lacks_from}
use Rattle.run_report.proofs.Digits.{no_other}

-- the lines of a report have no LF
pub lf_value : (n : ℤ) → IsWord n → Lacks 10 (signed_decimal n)
lf_value (pos n) small = no_other 10 (omega arith) n (omega arith)
lf_value (negsuc n) small =
    lacks_append 10 (45 ∷ []) (decimal (suc n)) (lacks_from 10 (45 ∷ []) refl) (no_other 10 (omega arith) (suc n) (omega arith))

pub lf_kind : (kind : FaultKind) → Lacks 10 (kind_word kind)
lf_kind Index = lacks_from 10 (codes "Index") refl
lf_kind Divide = lacks_from 10 (codes "Divide") refl
lf_kind Size = lacks_from 10 (codes "Size") refl
lf_kind Split = lacks_from 10 (codes "Split") refl
lf_kind Depth = lacks_from 10 (codes "Depth") refl
lf_kind Turns = lacks_from 10 (codes "Turns") refl

pub blank_kind : (kind : FaultKind) → Lacks 32 (kind_word kind)
blank_kind Index = lacks_from 32 (codes "Index") refl
blank_kind Divide = lacks_from 32 (codes "Divide") refl
blank_kind Size = lacks_from 32 (codes "Size") refl
blank_kind Split = lacks_from 32 (codes "Split") refl
blank_kind Depth = lacks_from 32 (codes "Depth") refl
blank_kind Turns = lacks_from 32 (codes "Turns") refl

pub lf_finish : (f : Finish) → HasLine f → Lacks 10 (finish_words f)
lf_finish Done fits = lacks_from 10 (codes "end done") refl
lf_finish (Faulted at) fits =
    lacks_append 10 (codes "end fault ") (kind_word at.kind ++ codes " line " ++ decimal at.line) (lacks_from 10 (codes "end fault ") refl)
    (lacks_append 10 (kind_word at.kind ++ codes " line ") (decimal at.line)
    (lacks_append 10 (kind_word at.kind) (codes " line ") (lf_kind at.kind) (lacks_from 10 (codes " line ") refl))
    (no_other 10 (omega arith) at.line (omega arith)))

pub lf_counted : (name : List ℕ) (n : ℕ) → Lacks 10 name → n < 2 ^ 64 → Lacks 10 (counted name n)
lf_counted name n lacks small = lacks_append 10 name (decimal n) lacks (no_other 10 (omega arith) n small)

-- a line, and what stands behind it
pub line_is : (l more : List ℕ) → line l ++ more ≡ l ++ 10 ∷ more
line_is l more = append_assoc l (10 ∷ []) more

-- bytes that are cut at their first LF begin with one line
pub one_line :
    (bytes front after l more : List ℕ) → bytes ≡ front ++ 10 ∷ after → Lacks 10 front → Lacks 10 l → bytes ≡ line l ++ more → front ≡ l
one_line bytes front after l more cut lacks lacks' e =
    (cut_once 10 front l after more lacks lacks' (sym cut ∙ e ∙ line_is l more)).0

pub no_value :
    (bytes front after : List ℕ) → bytes ≡ front ++ 10 ∷ after → Lacks 10 front → ((n : ℤ) → IsWord n → ¬ (front ≡ signed_decimal n)) → NoValue bytes
no_value bytes front after cut lacks none n more word e =
    none n word (one_line bytes front after (signed_decimal n) more cut lacks (lf_value n word) e)

pub no_finish :
    (bytes front after : List ℕ) → bytes ≡ front ++ 10 ∷ after → Lacks 10 front → ((f : Finish) → HasLine f → ¬ (front ≡ finish_words f)) → NoFinish bytes
no_finish bytes front after cut lacks none f more fits e =
    none f fits (one_line bytes front after (finish_words f) more cut lacks (lf_finish f fits) e)

-- the number behind a name
counted_is : (name : List ℕ) (n : ℕ) (more : List ℕ) → line (counted name n) ++ more ≡ name ++ (decimal n ++ 10 ∷ more)
counted_is name n more = line_is (name ++ decimal n) more ∙ append_assoc name (decimal n) (10 ∷ more)

pub no_counted_cut :
    (name bytes digits : List ℕ) → bytes ≡ name ++ digits → ((front back : List ℕ) → ¬ (digits ≡ front ++ 10 ∷ back)) → NoCounted name (2 ^ 64) bytes
no_counted_cut name bytes digits begins none n more small e =
    none (decimal n) more (append_cancel_left name digits (decimal n ++ 10 ∷ more) (sym begins ∙ e ∙ counted_is name n more))

pub no_counted_number :
    (name bytes digits front after : List ℕ) → bytes ≡ name ++ digits → digits ≡ front ++ 10 ∷ after → Lacks 10 front →
    ((n : ℕ) → n < 2 ^ 64 → ¬ (front ≡ decimal n)) → NoCounted name (2 ^ 64) bytes
no_counted_number name bytes digits front after begins cut lacks none n more small e =
    let same : digits ≡ decimal n ++ 10 ∷ more = append_cancel_left name digits (decimal n ++ 10 ∷ more) (sym begins ∙ e ∙ counted_is name n more) in
    none n small (cut_once 10 front (decimal n) after more lacks (no_other 10 (omega arith) n small) (sym cut ∙ same)).0

pub no_counted_large :
    (name bytes : List ℕ) (v : ℕ) (after : List ℕ) → bytes ≡ line (counted name v) ++ after → v < 2 ^ 64 → 2 ^ 32 ≤ v → NoCounted name (2 ^ 32) bytes
no_counted_large name bytes v after begins small large n more low e =
    let same = append_cancel_left name (decimal v ++ 10 ∷ after) (decimal n ++ 10 ∷ more)
    (sym (counted_is name v after) ∙ sym begins ∙ e ∙ counted_is name n more) in
    let number = (cut_once 10 (decimal v) (decimal n) after more (no_other 10 (omega arith) v small) (no_other 10 (omega arith) n (omega arith)) same).0 in
    omega (arith, decimal_injective v n small (omega arith) number)

-- a finish line that tells of a fault
pub fault_is :
    (l fault word rest : List ℕ) (f : Finish) → l ≡ codes "end fault " ++ fault → fault ≡ word ++ 32 ∷ rest → Lacks 32 word →
    l ≡ finish_words f → (at : FaultAt) × ((f ≡ Faulted at) × ((word ≡ kind_word at.kind) × (rest ≡ codes "line " ++ decimal at.line)))
fault_is l fault word rest Done begins cut lacks e =
    let e' : codes "end fault " ++ fault ≡ codes "end done" = sym begins ∙ e in
    absurd (omega (arith, ap (λ (b : List ℕ). get_or b 4 0) e'))
fault_is l fault word rest (Faulted at) begins cut lacks e =
    let behind : fault ≡ kind_word at.kind ++ 32 ∷ (codes "line " ++ decimal at.line) =
    append_cancel_left (codes "end fault ") fault (kind_word at.kind ++ codes " line " ++ decimal at.line) (sym begins ∙ e)
    ∙ append_assoc (kind_word at.kind) (codes " line ") (decimal at.line) in
    let same = cut_once 32 word (kind_word at.kind) rest (codes "line " ++ decimal at.line) lacks (blank_kind at.kind) (sym cut ∙ behind) in
    (at, (refl, (same.0, same.1)))

module _ (l fault word rest : List ℕ) (begins : l ≡ codes "end fault " ++ fault) (cut : fault ≡ word ++ 32 ∷ rest) (lacks : Lacks 32 word) where
  pub no_kind : ((kind : FaultKind) → ¬ (word ≡ kind_word kind)) → (f : Finish) → HasLine f → ¬ (l ≡ finish_words f)
  no_kind none f fits e =
      let is = fault_is l fault word rest f begins cut lacks e in
      none is.0.kind is.1.1.0

  pub no_line_word : ((more : List ℕ) → ¬ (rest ≡ codes "line " ++ more)) → (f : Finish) → HasLine f → ¬ (l ≡ finish_words f)
  no_line_word none f fits e =
      let is = fault_is l fault word rest f begins cut lacks e in
      none (decimal is.0.line) is.1.1.1

  pub no_line_number :
      (digits : List ℕ) → rest ≡ codes "line " ++ digits → ((n : ℕ) → n < 2 ^ 64 → ¬ (digits ≡ decimal n)) → (f : Finish) → HasLine f →
      ¬ (l ≡ finish_words f)
  no_line_number digits number none f fits e =
      let is = fault_is l fault word rest f begins cut lacks e in
      let small : is.0.line < 2 ^ 32 = subst HasLine is.1.0 fits in
      none is.0.line (omega arith) (append_cancel_left (codes "line ") digits (decimal is.0.line) (sym number ∙ is.1.1.1))

  pub no_small_line :
      (digits : List ℕ) (v : ℕ) → rest ≡ codes "line " ++ digits → digits ≡ decimal v → v < 2 ^ 64 → 2 ^ 32 ≤ v → (f : Finish) → HasLine f →
      ¬ (l ≡ finish_words f)
  no_small_line digits v number value small large f fits e =
      let is = fault_is l fault word rest f begins cut lacks e in
      let low : is.0.line < 2 ^ 32 = subst HasLine is.1.0 fits in
      let same : decimal v ≡ decimal is.0.line = sym value ∙ append_cancel_left (codes "line ") digits (decimal is.0.line) (sym number ∙ is.1.1.1) in
      omega (arith, decimal_injective v is.0.line small (omega arith) same)
