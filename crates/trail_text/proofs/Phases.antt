-- The places at which the reading of a trail may stop.
use Rattle.std.proofs.Common.{◌≡◌, ◌≢◌, ℕ, ◌<◌, ◌≤◌, ◌-◌, ◌^◌, List, [], ◌∷◌, ◌++◌, length, map, append_assoc, append-nil, ap, sym, ◌∙◌, refl, subst, arith, length-append}
use Rattle.std.specs.Prelude.{nat_eq, true, false}
use Rattle.std.specs.List.{concat}
use Rattle.std.proofs.lemmas.Bool.Decides.{nat_tests}
use Rattle.std.proofs.lemmas.List.{map-append}
use Rattle.language_limits.specs.declared.TheConstants.{LONGEST_TEXT, MOST_TRAIL}
use Rattle.trail_meaning.specs.Shown.{TrailShown}
use Rattle.trail_meaning.specs.Ranges.{FitSetting, FitsEvent, FitEvents, FitNumbers, HasTrailRanges}
use Rattle.trail_meaning.specs.declared.trail_event.TrailEvent.{TrailEvent}
use Rattle.trail_meaning.specs.declared.trail_numbers.TrailNumbers.{TrailNumbers}
use Rattle.trail_text.specs.TrailText.{head_line, source_line, event_line, end_line, trail_lines, trail_text, IsTrail}
use Rattle.trail_text.specs.Lines.{NoHead, NoSource, NoEvent, NoEnd}
use Rattle.trail_text.specs.Reading.{Begins, BreaksAt, broken, IsFailure}
use Rattle.trail_text.specs.declared.trail_fail.TrailFail.{TrailFail}
use Rattle.trail_text.specs.declared.trail_fail.TrailFail.TheVariants.{NotTrail}
use Rattle.trail_text.proofs.Joined.{joined_last}
use Rattle.trail_text.proofs.Fronts.{head_once}
use Rattle.trail_text.proofs.Tails.{event_or_end}
use Rattle.trail_text.proofs.Order.{first_is, others_are, tail_lines, Stuck, breaks_here}

-- a test of bytes has told whether there are any
pub are_none : (bytes : List ℕ) → true ≡ nat_eq (length bytes) 0 → bytes ≡ []
are_none [] e = refl
are_none (b ∷ bytes) e = absurd (grind (arith, nat_tests, e))

pub are_some : (bytes : List ℕ) → false ≡ nat_eq (length bytes) 0 → bytes ≢ []
are_some bytes e none = grind (arith, nat_tests, e, ap (λ (l : List ℕ). length l) none)

-- an event more
fit_snoc : (p : ℕ) (events : List TrailEvent) (event : TrailEvent) → FitEvents p events → FitsEvent p event → FitEvents p (events ++ event ∷ [])
fit_snoc p [] event ok fits = (fits, tt)
fit_snoc p (x ∷ events) event ok fits = (ok.0, fit_snoc p events event ok.1 fits)

pub one_event_more :
    (p : ℕ) (bytes rest after : List ℕ) (events events' : List TrailEvent) (event : TrailEvent) →
    bytes ≡ concat (map event_line events) ++ rest → FitEvents p events → rest ≡ event_line event ++ after → FitsEvent p event →
    events' ≡ events ++ event ∷ [] → (bytes ≡ concat (map event_line events') ++ after) × FitEvents p events'
one_event_more p bytes rest after events events' event spelled ok next fits are = (
  spelled
      ∙ ap (λ (r : List ℕ). concat (map event_line events) ++ r) next
      ∙ sym (append_assoc (concat (map event_line events)) (event_line event) after)
      ∙ ap (λ (l : List ℕ). l ++ after)
      (sym (joined_last (map event_line events) (event_line event))
      ∙ ap concat (sym (map-append event_line events (event ∷ [])) ∙ ap (λ (es : List TrailEvent). map event_line es) (sym are))),
  subst (FitEvents p) (sym are) (fit_snoc p events event ok fits),
)

-- a trail with these first lines, and nothing done
abbrev nothing : TrailNumbers
nothing = record { periods = 0; ahead = 0; high = 0 }

small : FitNumbers nothing
small = (omega arith, omega arith, omega arith)

-- the place of what is left of a short text
pub refused :
    (text rest : List ℕ) (fail : TrailFail) → length text ≤ MOST_TRAIL → fail ≡ NotTrail (length text - length rest) → BreaksAt text rest →
    IsFailure text fail
refused text rest fail short is breaks =
    subst (λ (f : TrailFail). IsFailure text f) (sym is)
    (broken short rest breaks (omega (arith, ap length breaks.spelled, length-append (concat breaks.front) rest)))

-- the least numbers of a setting, so that some trail begins with no line
least : FitSetting 16 1 16 1 1
least = record {
  quota = (omega arith, omega arith);
  quota_whole = refl;
  workers = (omega arith, omega arith);
  arena = (omega arith, omega arith);
  arena_whole = refl;
  steps = (omega arith, omega arith);
  deques = (omega arith, omega arith);
}

pub begins_with_none : Begins []
begins_with_none = (
  record { k = 16; p = 1; arena = 16; steps = 1; deques = 1; source = []; events = []; numbers = nothing },
  (record { setting = least; source = omega arith; events = tt; numbers = small }, (_, refl)),
)

-- in place of the first line
pub stops_at_head : (text : List ℕ) → NoHead text → BreaksAt text text
stops_at_head text none =
    breaks_here text text [] refl begins_with_none
    (λ t more ok e.
    subst (λ (ls : List (List ℕ)). Stuck text ls) e
    (λ back is. none t.k t.p t.arena t.steps t.deques back ok.setting is))

module _ (k p a s d : ℕ) (fits : FitSetting k p a s d) where
  -- in place of the second
  pub stops_at_source : (text rest : List ℕ) → text ≡ head_line k p a s d ++ rest → NoSource rest → BreaksAt text rest
  stops_at_source text rest spelled none =
      breaks_here text rest (head_line k p a s d ∷ [])
      (spelled ∙ ap (λ (l : List ℕ). l ++ rest) (sym (append-nil (head_line k p a s d)))) (
        record { k = k; p = p; arena = a; steps = s; deques = d; source = []; events = []; numbers = nothing },
        (record { setting = fits; source = omega arith; events = tt; numbers = small }, (_, refl)),
      )
      (λ t more ok e. subst (λ (ls : List (List ℕ)). Stuck rest ls) (others_are _ _ _ _ e) (λ back is. none t.source back ok.source is))

  -- a trail with the same first line has as many workers
  same_workers : (t : TrailShown) → HasTrailRanges t → head_line t.k t.p t.arena t.steps t.deques ≡ head_line k p a s d → t.p ≡ p
  same_workers t ok e = (head_once t.k t.p t.arena t.steps t.deques k p a s d [] [] ok.setting fits (ap (λ (l : List ℕ). l ++ []) e)).1

  short_count : p < 2 ^ 64
  short_count = omega (arith, fits.workers.1)

  -- after the lines of events comes that of an event or the last
  after_events :
      (rest : List ℕ) (events others : List TrailEvent) (n : TrailNumbers) (more : List (List ℕ)) → NoEvent p rest → NoEnd rest →
      FitEvents p events → FitEvents p others → FitNumbers n → tail_lines others n ≡ map event_line events ++ more → Stuck rest more
  after_events rest [] [] n more none none' ok ok' okn e =
      subst (λ (ls : List (List ℕ)). Stuck rest ls) e (λ back is. none' n back okn is)
  after_events rest [] (f ∷ others) n more none none' ok ok' okn e =
      subst (λ (ls : List (List ℕ)). Stuck rest ls) e (λ back is. none f back ok'.0 is)
  after_events rest (x ∷ events) [] n more none none' ok ok' okn e =
      absurd (event_or_end p x n [] [] short_count ok.0 okn (ap (λ (l : List ℕ). l ++ []) (sym (first_is _ _ _ _ e))))
  after_events rest (x ∷ events) (f ∷ others) n more none none' ok ok' okn e =
      after_events rest events others n more none none' ok.1 ok'.1 okn (others_are _ _ _ _ e)

  -- after the last line comes nothing
  after_end :
      (events others : List TrailEvent) (n m : TrailNumbers) (more : List (List ℕ)) → FitEvents p events → FitEvents p others → FitNumbers n →
      FitNumbers m → tail_lines others m ≡ tail_lines events n ++ more → more ≡ []
  after_end [] [] n m more ok ok' okn okm e = sym (others_are _ _ _ _ e)
  after_end [] (f ∷ others) n m more ok ok' okn okm e =
      absurd (event_or_end p f n [] [] short_count ok'.0 okn (ap (λ (l : List ℕ). l ++ []) (first_is _ _ _ _ e)))
  after_end (x ∷ events) [] n m more ok ok' okn okm e =
      absurd (event_or_end p x m [] [] short_count ok.0 okm (ap (λ (l : List ℕ). l ++ []) (sym (first_is _ _ _ _ e))))
  after_end (x ∷ events) (f ∷ others) n m more ok ok' okn okm e = after_end events others n m more ok.1 ok'.1 okn okm (others_are _ _ _ _ e)

  module _ (source : List ℕ) (short : length source ≤ LONGEST_TEXT) (events : List TrailEvent) (ok : FitEvents p events) where
    -- the lines up to the last event
    abbrev up_to : List (List ℕ)
    up_to = head_line k p a s d ∷ source_line source ∷ map event_line events

    spelled_to :
        (text at_source at_events rest : List ℕ) → text ≡ head_line k p a s d ++ at_source → at_source ≡ source_line source ++ at_events →
        at_events ≡ concat (map event_line events) ++ rest → text ≡ concat up_to ++ rest
    spelled_to text at_source at_events rest e1 e2 e3 =
        e1
        ∙ ap (λ (l : List ℕ). head_line k p a s d ++ l)
        (e2 ∙ ap (λ (l : List ℕ). source_line source ++ l) e3 ∙ sym (append_assoc (source_line source) (concat (map event_line events)) rest))
        ∙ sym (append_assoc (head_line k p a s d) (source_line source ++ concat (map event_line events)) rest)

    abbrev recorded : TrailNumbers → TrailShown
    recorded n = record { k = k; p = p; arena = a; steps = s; deques = d; source = source; events = events; numbers = n }

    pub has_ranges : (n : TrailNumbers) → FitNumbers n → HasTrailRanges (recorded n)
    has_ranges n okn = record { setting = fits; source = short; events = ok; numbers = okn }

    -- in place of an event or the last line
    pub stops_at_end :
        (text at_source at_events rest : List ℕ) → text ≡ head_line k p a s d ++ at_source → at_source ≡ source_line source ++ at_events →
        at_events ≡ concat (map event_line events) ++ rest → NoEvent p rest → NoEnd rest → BreaksAt text rest
    stops_at_end text at_source at_events rest e1 e2 e3 none none' =
        breaks_here text rest up_to (spelled_to text at_source at_events rest e1 e2 e3)
        (recorded nothing, (has_ranges nothing small, (end_line nothing ∷ [], refl)))
        (λ t more okt e.
        after_events rest events t.events t.numbers more none none' ok
        (subst (λ (q : ℕ). FitEvents q t.events) (same_workers t okt (first_is _ _ _ _ e)) okt.events) okt.numbers
        (others_are _ _ _ _ (others_are _ _ _ _ e)))

    module _ (n : TrailNumbers) (okn : FitNumbers n) where
      -- the bytes up to the last line, with it
      spelled_all :
          (text at_source at_events rest after : List ℕ) → text ≡ head_line k p a s d ++ at_source → at_source ≡ source_line source ++ at_events →
          at_events ≡ concat (map event_line events) ++ rest → rest ≡ end_line n ++ after → text ≡ trail_text (recorded n) ++ after
      spelled_all text at_source at_events rest after e1 e2 e3 e4 =
          e1
          ∙ ap (λ (l : List ℕ). head_line k p a s d ++ l)
          (e2
          ∙ ap (λ (l : List ℕ). source_line source ++ l)
          (e3
          ∙ ap (λ (l : List ℕ). concat (map event_line events) ++ l) e4
          ∙ sym (append_assoc (concat (map event_line events)) (end_line n) after)
          ∙ ap (λ (l : List ℕ). l ++ after) (sym (joined_last (map event_line events) (end_line n))))
          ∙ sym (append_assoc (source_line source) (concat (tail_lines events n)) after))
          ∙ sym (append_assoc (head_line k p a s d) (source_line source ++ concat (tail_lines events n)) after)

      -- after the last line
      pub stops_after_end :
          (text at_source at_events rest after : List ℕ) → text ≡ head_line k p a s d ++ at_source → at_source ≡ source_line source ++ at_events →
          at_events ≡ concat (map event_line events) ++ rest → rest ≡ end_line n ++ after → after ≢ [] → BreaksAt text after
      stops_after_end text at_source at_events rest after e1 e2 e3 e4 some =
          breaks_here text after (trail_lines (recorded n)) (spelled_all text at_source at_events rest after e1 e2 e3 e4)
          (recorded n, (has_ranges n okn, ([], sym (append-nil (trail_lines (recorded n))))))
          (λ t more okt e.
          subst (λ (ls : List (List ℕ)). Stuck after ls)
          (sym
          (after_end events t.events n t.numbers more ok
          (subst (λ (q : ℕ). FitEvents q t.events) (same_workers t okt (first_is _ _ _ _ e)) okt.events) okn okt.numbers
          (others_are _ _ _ _ (others_are _ _ _ _ e))))
          some)

      -- all is read
      pub reads_all :
          (text at_source at_events rest after : List ℕ) → text ≡ head_line k p a s d ++ at_source → at_source ≡ source_line source ++ at_events →
          at_events ≡ concat (map event_line events) ++ rest → rest ≡ end_line n ++ after → after ≡ [] → length text ≤ MOST_TRAIL →
          IsTrail text (recorded n)
      reads_all text at_source at_events rest after e1 e2 e3 e4 none within = (
        has_ranges n okn,
        within,
        spelled_all text at_source at_events rest after e1 e2 e3 e4
            ∙ ap (λ (l : List ℕ). trail_text (recorded n) ++ l) none ∙ append-nil (trail_text (recorded n)),
      )
