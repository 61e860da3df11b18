-- How the lines of a trail are joined.
use Rattle.std.proofs.Common.{◌≡◌, ℕ, List, [], ◌∷◌, ◌++◌, length, map, append_assoc, append-nil, ap, sym, ◌∙◌}
use Rattle.std.specs.List.{concat}
use Rattle.std.proofs.lemmas.List.Folds.{concat-append}
use Rattle.trail_meaning.specs.Shown.{TrailShown}
use Rattle.trail_text.specs.TrailText.{head_line, source_front, source_line, event_line, end_line, trail_text}

-- the last line joins what comes before it
pub joined_last : (lines : List (List ℕ)) (last : List ℕ) → concat (lines ++ last ∷ []) ≡ concat lines ++ last
joined_last lines last = concat-append lines (last ∷ []) ∙ ap (λ (t : List ℕ). concat lines ++ t) (append-nil last)

-- what follows the source's line
pub after_source :
    (source more : List ℕ) → source_line source ++ more ≡ source_front (length source) ++ (source ++ 10 ∷ more)
after_source source more =
    append_assoc (source_front (length source)) (source ++ 10 ∷ []) more
    ∙ ap (λ (t : List ℕ). source_front (length source) ++ t) (append_assoc source (10 ∷ []) more)

regrouped : (a b c d : List ℕ) → ((a ++ b) ++ c) ++ d ≡ a ++ (b ++ (c ++ d))
regrouped a b c d = simp append_assoc

-- the text of a trail, from what comes before its source, the source, and what comes after it
pub written :
    (t : TrailShown) (before text text' after : List ℕ) →
    before ≡ head_line t.k t.p t.arena t.steps t.deques ++ source_front (length t.source) → text ≡ before ++ t.source →
    text' ≡ text ++ after → after ≡ 10 ∷ (concat (map event_line t.events) ++ end_line t.numbers) → text' ≡ trail_text t
written t before text text' after is_before is_text is_text' is_after =
    is_text'
    ∙ ap (λ (u : List ℕ). u ++ after) (is_text ∙ ap (λ (u : List ℕ). u ++ t.source) is_before)
    ∙ regrouped (head_line t.k t.p t.arena t.steps t.deques) (source_front (length t.source)) t.source after
    ∙ ap (λ (u : List ℕ). head_line t.k t.p t.arena t.steps t.deques ++ (source_front (length t.source) ++ (t.source ++ u)))
    (is_after ∙ ap (λ (u : List ℕ). 10 ∷ u) (sym (joined_last (map event_line t.events) (end_line t.numbers))))
    ∙ ap (λ (u : List ℕ). head_line t.k t.p t.arena t.steps t.deques ++ u)
    (sym (after_source t.source (concat (map event_line t.events ++ end_line t.numbers ∷ []))))
