-- That a text is one trail or breaks at one place.
use Rattle.std.proofs.Common.{◌≡◌, ℕ, ◌<◌, ◌^◌, List, [], ◌∷◌, ◌++◌, length, append_assoc, append-nil, ap, sym, ◌∙◌, refl, subst, arith, length-append}
use Rattle.std.specs.List.{concat}
use Rattle.std.proofs.lemmas.List.{append_cancel_left}
use Rattle.trail_meaning.specs.Shown.{TrailShown}
use Rattle.trail_meaning.specs.Ranges.{FitEvents, FitNumbers, HasTrailRanges}
use Rattle.trail_meaning.specs.declared.trail_event.TrailEvent.{TrailEvent}
use Rattle.trail_meaning.specs.declared.trail_numbers.TrailNumbers.{TrailNumbers}
use Rattle.trail_text.specs.TrailText.{trail_lines, trail_text}
use Rattle.trail_text.specs.Reading.{Begins, BreaksAt, too_long, broken}
use Rattle.trail_text.specs.Laws.{OneTrail, OnePlace, NeverBoth}
use Rattle.trail_text.proofs.Fronts.{head_once, source_once}
use Rattle.trail_text.proofs.Tails.{event_once, end_once, event_or_end}
use Rattle.trail_text.proofs.Order.{first_is, others_are, tail_lines, lines_once, line_some, cut_lines}

-- the lines after the source are those of one list of events, and of one end
tails_once :
    (p q : ℕ) (events others : List TrailEvent) (n m : TrailNumbers) → p < 2 ^ 64 → q < 2 ^ 64 → FitEvents p events → FitEvents q others →
    FitNumbers n → FitNumbers m → tail_lines events n ≡ tail_lines others m → (events ≡ others) × (n ≡ m)
tails_once p q [] [] n m short short' ok ok' okn okm e =
    (refl, (end_once n m [] [] okn okm (ap (λ (l : List ℕ). l ++ []) (first_is _ _ _ _ e))).0)
tails_once p q [] (y ∷ others) n m short short' ok ok' okn okm e =
    absurd (event_or_end q y n [] [] short' ok'.0 okn (ap (λ (l : List ℕ). l ++ []) (sym (first_is _ _ _ _ e))))
tails_once p q (x ∷ events) [] n m short short' ok ok' okn okm e =
    absurd (event_or_end p x m [] [] short ok.0 okm (ap (λ (l : List ℕ). l ++ []) (first_is _ _ _ _ e)))
tails_once p q (x ∷ events) (y ∷ others) n m short short' ok ok' okn okm e =
    let one = event_once p q x y [] [] short short' ok.0 ok'.0 (ap (λ (l : List ℕ). l ++ []) (first_is _ _ _ _ e)) in
    let more = tails_once p q events others n m short short' ok.1 ok'.1 okn okm (others_are _ _ _ _ e) in
    (λ i. one.0 i ∷ more.0 i, more.1)

-- lines are those of one trail
same_lines : (t u : TrailShown) → HasTrailRanges t → HasTrailRanges u → trail_lines t ≡ trail_lines u → t ≡ u
same_lines t u ok ok' e =
    let head =
    head_once t.k t.p t.arena t.steps t.deques u.k u.p u.arena u.steps u.deques [] [] ok.setting ok'.setting
    (ap (λ (l : List ℕ). l ++ []) (first_is _ _ _ _ e)) in
    let e' = others_are _ _ _ _ e in
    let source = source_once t.source u.source [] [] ok.source ok'.source (ap (λ (l : List ℕ). l ++ []) (first_is _ _ _ _ e')) in
    let tails =
    tails_once t.p u.p t.events u.events t.numbers u.numbers (omega (arith, ok.setting.workers.1)) (omega (arith, ok'.setting.workers.1)) ok.events
    ok'.events ok.numbers ok'.numbers (others_are _ _ _ _ e') in
    λ i. record {
      k = head.0 i;
      p = head.1 i;
      arena = head.2 i;
      steps = head.3 i;
      deques = head.4 i;
      source = source.0 i;
      events = tails.0 i;
      numbers = tails.1 i;
    }

-- no line is left where no byte is
none_left :
    (u : TrailShown) (front more : List (List ℕ)) → HasTrailRanges u → trail_lines u ≡ front ++ more → [] ≡ concat more → more ≡ []
none_left u front [] ok is e = refl
none_left u front (line ∷ more) ok is e =
    absurd (omega (arith, line_some u front line more ok is, ap length e, length-append line (concat more)))

pub one_trail : OneTrail
one_trail text t u is is' =
    let cut =
    cut_lines t u (trail_lines t) [] [] is.0 is'.0 (sym (append-nil (trail_lines t))) (append-nil (trail_text t) ∙ sym is.2 ∙ is'.2) in
    let none = none_left u (trail_lines t) cut.0 is'.0 cut.1.0 cut.1.1 in
    same_lines t u is.0 is'.0
    (sym (cut.1.0 ∙ ap (λ (ls : List (List ℕ)). trail_lines t ++ ls) none ∙ append-nil (trail_lines t)))

-- two fronts of a text that go on with no line of a trail are one front
same_rest :
    (t u : TrailShown) (done front front' ahead ahead' : List (List ℕ)) (rest rest' : List ℕ) → HasTrailRanges t → HasTrailRanges u →
    trail_lines t ≡ done ++ (front ++ ahead) → trail_lines u ≡ done ++ (front' ++ ahead') → concat front ++ rest ≡ concat front' ++ rest' →
    ((next more : List ℕ) → rest ≡ next ++ more → ¬ Begins ((done ++ front) ++ next ∷ [])) →
    ((next more : List ℕ) → rest' ≡ next ++ more → ¬ Begins ((done ++ front') ++ next ∷ [])) → rest ≡ rest'
same_rest t u done [] [] ahead ahead' rest rest' ok ok' et eu e stuck stuck' = e
same_rest t u done [] (b ∷ front') ahead ahead' rest rest' ok ok' et eu e stuck stuck' =
    absurd
    (stuck b (concat front' ++ rest') (e ∙ append_assoc b (concat front') rest') (
      u,
      (
        ok',
        (
          front' ++ ahead',
          eu
              ∙ sym (append_assoc done (b ∷ []) (front' ++ ahead'))
              ∙ ap (λ (d : List (List ℕ)). (d ++ b ∷ []) ++ (front' ++ ahead')) (sym (append-nil done)),
        ),
      ),
    ))
same_rest t u done (a ∷ front) [] ahead ahead' rest rest' ok ok' et eu e stuck stuck' =
    absurd
    (stuck' a (concat front ++ rest) (sym e ∙ append_assoc a (concat front) rest) (
      t,
      (
        ok,
        (
          front ++ ahead,
          et
              ∙ sym (append_assoc done (a ∷ []) (front ++ ahead))
              ∙ ap (λ (d : List (List ℕ)). (d ++ a ∷ []) ++ (front ++ ahead)) (sym (append-nil done)),
        ),
      ),
    ))
same_rest t u done (a ∷ front) (b ∷ front') ahead ahead' rest rest' ok ok' et eu e stuck stuck' =
    let e' : a ++ (concat front ++ rest) ≡ b ++ (concat front' ++ rest') =
    sym (append_assoc a (concat front) rest) ∙ e ∙ append_assoc b (concat front') rest' in
    let one : a ≡ b =
    lines_once t u done a b (front ++ ahead) (front' ++ ahead') (concat front ++ rest) (concat front' ++ rest') ok ok' et eu e' in
    same_rest t u (done ++ a ∷ []) front front' ahead ahead' rest rest' ok ok' (et ∙ sym (append_assoc done (a ∷ []) (front ++ ahead)))
    (eu ∙ ap (λ (l : List ℕ). done ++ l ∷ (front' ++ ahead')) (sym one) ∙ sym (append_assoc done (a ∷ []) (front' ++ ahead')))
    (append_cancel_left a (concat front ++ rest) (concat front' ++ rest')
    (e' ∙ ap (λ (l : List ℕ). l ++ (concat front' ++ rest')) (sym one)))
    (λ next more is begins.
    stuck next more is
    (subst (λ (d : List (List ℕ)). Begins (d ++ next ∷ [])) (append_assoc done (a ∷ []) front) begins))
    (λ next more is begins.
    stuck' next more is
    (subst (λ (d : List (List ℕ)). Begins (d ++ next ∷ []))
    (append_assoc done (a ∷ []) front' ∙ ap (λ (l : List ℕ). done ++ l ∷ front') one) begins))

one_break : (text rest rest' : List ℕ) → BreaksAt text rest → BreaksAt text rest' → rest ≡ rest'
one_break text rest rest' b b' =
    same_rest b.begins.0 b'.begins.0 [] b.front b'.front b.begins.1.1.0 b'.begins.1.1.0 rest rest' b.begins.1.0 b'.begins.1.0 b.begins.1.1.1
    b'.begins.1.1.1 (sym b.spelled ∙ b'.spelled) b.breaks b'.breaks

pub one_place : OnePlace
one_place text at at' (too_long over is) (too_long over' is') = is ∙ sym is'
one_place text at at' (too_long over is) (broken short rest breaks is') = absurd (omega arith)
one_place text at at' (broken short rest breaks is) (too_long over is') = absurd (omega arith)
one_place text at at' (broken short rest breaks is) (broken short' rest' breaks' is') =
    omega (arith, is, is', ap length (one_break text rest rest' breaks breaks'))

pub never_both : NeverBoth
never_both text t at is (too_long over place) = omega (arith, is.1)
never_both text t at is (broken short rest breaks place) = breaks.no_trail t is.0 is.2
