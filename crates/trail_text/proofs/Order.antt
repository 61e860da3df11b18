-- In which order the lines of a trail are, and that a text is cut into them in one way.
use Rattle.std.proofs.Common.{◌≡◌, ◌≢◌, ℕ, ◌<◌, ◌^◌, ◌⊎◌, inl, inr, List, [], ◌∷◌, ◌++◌, length, map, get_or, drop, append_assoc, append-nil, ap, sym, ◌∙◌, refl, arith, length-append}
use Rattle.std.specs.List.{concat}
use Rattle.std.specs.Fmt.{decimal}
use Rattle.std.proofs.lemmas.List.{append_cancel_left}
use Rattle.trail_meaning.specs.Shown.{TrailShown}
use Rattle.trail_meaning.specs.Ranges.{FitsEvent, FitEvents, FitNumbers, HasTrailRanges}
use Rattle.trail_meaning.specs.declared.trail_event.TrailEvent.{TrailEvent}
use Rattle.trail_meaning.specs.declared.trail_numbers.TrailNumbers.{TrailNumbers}
use Rattle.trail_text.specs.TrailText.{head_line, source_line, kind_words, event_line, end_line, trail_lines, trail_text}
use Rattle.trail_text.specs.Reading.{Begins, BreaksAt}
use Rattle.trail_text.proofs.Fronts.{head_once, source_once}
use Rattle.trail_text.proofs.Tails.{event_once, end_once, event_or_end}

pub first_is : {A : Type 0} (a b : A) (ps qs : List A) → a ∷ ps ≡ b ∷ qs → a ≡ b
first_is a b ps qs e = ap (λ (l : List _). get_or l 0 a) e

pub others_are : {A : Type 0} (a b : A) (ps qs : List A) → a ∷ ps ≡ b ∷ qs → ps ≡ qs
others_are a b ps qs e = ap (λ (l : List _). drop 1 l) e

-- after the source each line is that of an event or the last
abbrev pub tail_lines : List TrailEvent → TrailNumbers → List (List ℕ)
tail_lines events n = map event_line events ++ end_line n ∷ []

abbrev IsTail : ℕ → List ℕ → Type 0
IsTail p line = ((event : TrailEvent) × (FitsEvent p event × (line ≡ event_line event))) ⊎ ((n : TrailNumbers) × (FitNumbers n × (line ≡ end_line n)))

tail_is :
    (p : ℕ) (events : List TrailEvent) (n : TrailNumbers) (front : List (List ℕ)) (a : List ℕ) (more : List (List ℕ)) →
    FitEvents p events → FitNumbers n → tail_lines events n ≡ front ++ a ∷ more → IsTail p a
tail_is p [] n [] a more ok ok' e = inr (n, (ok', sym (first_is _ _ _ _ e)))
tail_is p [] n (f ∷ front) a more ok ok' e =
    absurd (omega (arith, ap length (others_are _ _ _ _ e), length-append front (a ∷ more)))
tail_is p (x ∷ events) n [] a more ok ok' e = inl (x, (ok.0, sym (first_is _ _ _ _ e)))
tail_is p (x ∷ events) n (f ∷ front) a more ok ok' e = tail_is p events n front a more ok.1 ok' (others_are _ _ _ _ e)

tail_once :
    (p q : ℕ) (a b x y : List ℕ) → p < 2 ^ 64 → q < 2 ^ 64 → IsTail p a → IsTail q b → a ++ x ≡ b ++ y → a ≡ b
tail_once p q a b x y short short' (inl s) (inl t) e =
    s.1.1
    ∙ ap event_line
    (event_once p q s.0 t.0 x y short short' s.1.0 t.1.0 (ap (λ (l : List ℕ). l ++ x) (sym s.1.1) ∙ e ∙ ap (λ (l : List ℕ). l ++ y) t.1.1)).0
    ∙ sym t.1.1
tail_once p q a b x y short short' (inl s) (inr t) e =
    absurd (event_or_end p s.0 t.0 x y short s.1.0 t.1.0 (ap (λ (l : List ℕ). l ++ x) (sym s.1.1) ∙ e ∙ ap (λ (l : List ℕ). l ++ y) t.1.1))
tail_once p q a b x y short short' (inr s) (inl t) e =
    absurd (event_or_end q t.0 s.0 y x short' t.1.0 s.1.0 (ap (λ (l : List ℕ). l ++ y) (sym t.1.1) ∙ sym e ∙ ap (λ (l : List ℕ). l ++ x) s.1.1))
tail_once p q a b x y short short' (inr s) (inr t) e =
    s.1.1
    ∙ ap end_line (end_once s.0 t.0 x y s.1.0 t.1.0 (ap (λ (l : List ℕ). l ++ x) (sym s.1.1) ∙ e ∙ ap (λ (l : List ℕ). l ++ y) t.1.1)).0
    ∙ sym t.1.1

-- a line has some bytes
tail_some : (p : ℕ) (a : List ℕ) → IsTail p a → 0 < length a
tail_some p a (inl s) =
    omega (arith, ap length s.1.1, length-append (decimal s.0.worker) (32 ∷ (kind_words s.0.kind ++ 10 ∷ [])))
tail_some p a (inr t) = omega (arith, ap length t.1.1)

-- two trails that begin with the same lines go on with the same line, if the bytes are the same
pub lines_once :
    (t u : TrailShown) (front : List (List ℕ)) (a b : List ℕ) (more more' : List (List ℕ)) (x y : List ℕ) → HasTrailRanges t → HasTrailRanges u →
    trail_lines t ≡ front ++ a ∷ more → trail_lines u ≡ front ++ b ∷ more' → a ++ x ≡ b ++ y → a ≡ b
lines_once t u [] a b more more' x y ok ok' et eu e =
    let same =
    head_once t.k t.p t.arena t.steps t.deques u.k u.p u.arena u.steps u.deques x y ok.setting ok'.setting
    (ap (λ (l : List ℕ). l ++ x) (first_is _ _ _ _ et) ∙ e ∙ ap (λ (l : List ℕ). l ++ y) (sym (first_is _ _ _ _ eu))) in
    sym (first_is _ _ _ _ et)
    ∙ (λ i. head_line (same.0 i) (same.1 i) (same.2 i) (same.3 i) (same.4 i))
    ∙ first_is _ _ _ _ eu
lines_once t u (h ∷ []) a b more more' x y ok ok' et eu e =
    let is = first_is _ _ _ _ (others_are _ _ _ _ et) in
    let is' = first_is _ _ _ _ (others_are _ _ _ _ eu) in
    sym is
    ∙ ap source_line
    (source_once t.source u.source x y ok.source ok'.source (ap (λ (l : List ℕ). l ++ x) is ∙ e ∙ ap (λ (l : List ℕ). l ++ y) (sym is'))).0
    ∙ is'
lines_once t u (h ∷ s ∷ front) a b more more' x y ok ok' et eu e =
    tail_once t.p u.p a b x y (omega (arith, ok.setting.workers.1)) (omega (arith, ok'.setting.workers.1))
    (tail_is t.p t.events t.numbers front a more ok.events ok.numbers (others_are _ _ _ _ (others_are _ _ _ _ et)))
    (tail_is u.p u.events u.numbers front b more' ok'.events ok'.numbers (others_are _ _ _ _ (others_are _ _ _ _ eu))) e

pub line_some :
    (t : TrailShown) (front : List (List ℕ)) (a : List ℕ) (more : List (List ℕ)) → HasTrailRanges t → trail_lines t ≡ front ++ a ∷ more → 0 < length a
line_some t [] a more ok e = omega (arith, ap length (first_is _ _ _ _ e))
line_some t (h ∷ []) a more ok e = omega (arith, ap length (first_is _ _ _ _ (others_are _ _ _ _ e)))
line_some t (h ∷ s ∷ front) a more ok e =
    tail_some t.p a (tail_is t.p t.events t.numbers front a more ok.events ok.numbers (others_are _ _ _ _ (others_are _ _ _ _ e)))

-- lines at the front of a text are the first of its lines
cut_after :
    (t u : TrailShown) (done todo ahead left : List (List ℕ)) (rest : List ℕ) → HasTrailRanges t → HasTrailRanges u →
    trail_lines t ≡ done ++ (todo ++ ahead) → trail_lines u ≡ done ++ left → concat todo ++ rest ≡ concat left →
    (more : List (List ℕ)) × ((trail_lines u ≡ (done ++ todo) ++ more) × (rest ≡ concat more))
cut_after t u done [] ahead left rest ok ok' et eu e = (left, (eu ∙ ap (λ (d : List (List ℕ)). d ++ left) (sym (append-nil done)), e))
cut_after t u done (a ∷ todo) ahead [] rest ok ok' et eu e =
    absurd
    (omega (arith, line_some t done a (todo ++ ahead) ok et, ap length e, length-append (a ++ concat todo) rest, length-append a (concat todo)))
cut_after t u done (a ∷ todo) ahead (b ∷ left) rest ok ok' et eu e =
    let e' : a ++ (concat todo ++ rest) ≡ b ++ concat left = sym (append_assoc a (concat todo) rest) ∙ e in
    let one : a ≡ b = lines_once t u done a b (todo ++ ahead) left (concat todo ++ rest) (concat left) ok ok' et eu e' in
    let more =
    cut_after t u (done ++ a ∷ []) todo ahead left rest ok ok' (et ∙ sym (append_assoc done (a ∷ []) (todo ++ ahead)))
    (eu ∙ ap (λ (l : List ℕ). done ++ l ∷ left) (sym one) ∙ sym (append_assoc done (a ∷ []) left))
    (append_cancel_left a (concat todo ++ rest) (concat left) (e' ∙ ap (λ (l : List ℕ). l ++ concat left) (sym one))) in
    (more.0, (more.1.0 ∙ ap (λ (d : List (List ℕ)). d ++ more.0) (append_assoc done (a ∷ []) todo), more.1.1))

pub cut_lines :
    (t u : TrailShown) (front ahead : List (List ℕ)) (rest : List ℕ) → HasTrailRanges t → HasTrailRanges u → trail_lines t ≡ front ++ ahead →
    concat front ++ rest ≡ trail_text u → (more : List (List ℕ)) × ((trail_lines u ≡ front ++ more) × (rest ≡ concat more))
cut_lines t u front ahead rest ok ok' et e = cut_after t u [] front ahead (trail_lines u) rest ok ok' et refl e

-- what is left of a text does not go on as these lines do
abbrev pub Stuck : List ℕ → List (List ℕ) → Type 0
Stuck rest [] = rest ≢ []
Stuck rest (line ∷ lines) = (more : List ℕ) → rest ≢ line ++ more

-- if no trail goes on, the text breaks
pub breaks_here :
    (text rest : List ℕ) (front : List (List ℕ)) → text ≡ concat front ++ rest → Begins front →
    ((t : TrailShown) (more : List (List ℕ)) → HasTrailRanges t → trail_lines t ≡ front ++ more → Stuck rest more) → BreaksAt text rest
breaks_here text rest front spelled begins stuck = record {
  front = front;
  spelled = spelled;
  begins = begins;
  breaks = λ next more e other.
      stuck other.0 (next ∷ other.1.1.0) other.1.0 (other.1.1.1 ∙ append_assoc front (next ∷ []) other.1.1.0) more e;
  no_trail = λ t ok e. none t ok e;
}
  where
    ends : (more : List (List ℕ)) → Stuck rest more → rest ≡ concat more → ⊥
    ends [] stays e = stays e
    ends (line ∷ lines) stays e = stays (concat lines) e

    none : (t : TrailShown) → HasTrailRanges t → text ≡ trail_text t → ⊥
    none t ok e =
        let same = cut_lines begins.0 t front begins.1.1.0 rest begins.1.0 ok begins.1.1.1 (sym spelled ∙ e) in
        ends same.0 (stuck t same.0 ok same.1.0) same.1.1
