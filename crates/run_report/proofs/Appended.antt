-- A text grows by a line for each number, and then by the lines behind them.
use Rattle.std.proofs.Common.{◌≡◌, ℕ, ℤ, pos, ◌+◌, ◌<◌, List, [], ◌∷◌, ◌++◌, length, take, get_or, append-nil, append_assoc, map, ap, sym, ◌∙◌}
use Rattle.std.specs.Prelude.{codes}
use Rattle.std.specs.Fmt.{signed_decimal}
use Rattle.std.proofs.lemmas.Grind.{flat_map-append}
use Rattle.std.proofs.lemmas.List.{take_more, map-append}
use Rattle.dag_order.specs.declared.finish.Finish.{Finish}
use Rattle.run_report.specs.Texts.{line, text_of, outcome_lines, finish_words}

-- the text of one line more
pub text_of-snoc : (lines : List (List ℕ)) (last : List ℕ) → text_of (lines ++ last ∷ []) ≡ text_of lines ++ line last
text_of-snoc lines last =
    flat_map-append line lines (last ∷ []) ∙ ap (λ (t : List ℕ). text_of lines ++ t) (append-nil (line last))

-- the text of the first numbers grows by the line of the next one
pub one_more_line :
    (text text' : List ℕ) (numbers : List ℤ) (i : ℕ) → i < length numbers → text ≡ text_of (map signed_decimal (take i numbers)) →
    text' ≡ text ++ line (signed_decimal (get_or numbers i (pos 0))) → text' ≡ text_of (map signed_decimal (take (i + 1) numbers))
one_more_line text text' numbers i within before after =
    let n = get_or numbers i (pos 0) in
    after
    ∙ ap (λ (t : List ℕ). t ++ line (signed_decimal n)) before
    ∙ sym (text_of-snoc (map signed_decimal (take i numbers)) (signed_decimal n))
    ∙ ap text_of (sym (map-append signed_decimal (take i numbers) (n ∷ [])))
    ∙ ap (λ (l : List ℤ). text_of (map signed_decimal l)) (sym (take_more numbers i (pos 0) within))

-- behind the numbers come `--` and the finish line
pub ended :
    (text text' text'' : List ℕ) (numbers : List ℤ) (finish : Finish) → text ≡ text_of (map signed_decimal numbers) →
    text' ≡ text ++ line (codes "--") → text'' ≡ text' ++ line (finish_words finish) → text'' ≡ text_of (outcome_lines numbers finish)
ended text text' text'' numbers finish values dashes last =
    last
    ∙ ap (λ (t : List ℕ). t ++ line (finish_words finish)) (dashes ∙ ap (λ (t : List ℕ). t ++ line (codes "--")) values)
    ∙ ap (λ (t : List ℕ). t ++ line (finish_words finish)) (sym (text_of-snoc (map signed_decimal numbers) (codes "--")))
    ∙ sym (text_of-snoc (map signed_decimal numbers ++ codes "--" ∷ []) (finish_words finish))
    ∙ ap text_of (append_assoc (map signed_decimal numbers) (codes "--" ∷ []) (finish_words finish ∷ []))
