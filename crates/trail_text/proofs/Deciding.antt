-- That bytes begin with a line of a trail or do not, and so are a trail or are refused.
use Rattle.std.proofs.Common.{◌≡◌, ◌≢◌, ℕ, zero, suc, ◌<◌, ◌≤◌, ◌+◌, ◌-◌, ◌%◌, ◌^◌, ◌⊎◌, inl, inr, List, [], ◌∷◌, ◌++◌, length, map, take, drop, get_or, append_assoc, ap, sym, ◌∙◌, refl, arith, length-append}
use Rattle.std.specs.Prelude.{codes}
use Rattle.std.specs.List.{concat}
use Rattle.std.specs.Fmt.{decimal}
use Rattle.std.specs.Str.Parse.{digits_value}
use Rattle.std.proofs.Math.Seq.{take-append_seam}
use Rattle.std.proofs.lemmas.Bool.{cases_lt}
use Rattle.std.proofs.lemmas.Fmt.{decimal_is_IsNumeral}
use Rattle.std.proofs.lemmas.List.{take-append-drop, length-take-le}
use Rattle.byte_cuts.specs.Lacks.{Lacks}
use Rattle.byte_cuts.proofs.Cuts.{cut_here}
use Rattle.language_limits.specs.declared.TheConstants.{GREATEST_QUOTA, LEAST_QUOTA, LONGEST_TEXT, MOST_DEQUES, MOST_TRAIL, MOST_TRAIL_ACTIONS, MOST_WORDS, MOST_WORKERS}
use Rattle.trail_meaning.specs.Shown.{TrailShown}
use Rattle.trail_meaning.specs.Ranges.{IsWithin, FitSetting, FitsKind, FitsEvent, FitEvents, FitNumbers}
use Rattle.trail_meaning.specs.declared.trail_event.TrailEvent.{TrailEvent}
use Rattle.trail_meaning.specs.declared.trail_kind.TrailKind.{TrailKind}
use Rattle.trail_meaning.specs.declared.trail_kind.TrailKind.TheVariants.{Steal, Act, Suspend, GiveUp}
use Rattle.trail_meaning.specs.declared.trail_numbers.TrailNumbers.{TrailNumbers}
use Rattle.trail_text.specs.TrailText.{head_line, source_line, kind_words, event_line, end_line, IsTrail}
use Rattle.trail_text.specs.Lines.{number_then, NoNumber, NoneWithin, NoneBelow, NoHead, NoSource, NoKind, NoEvent, NoEnd}
use Rattle.trail_text.specs.Reading.{BreaksAt, IsRefused, too_long, broken}
use Rattle.trail_text.specs.Laws.{EachRead}
use Rattle.trail_text.proofs.Fronts.{no_stop, no_digits, too_small, too_great, not_below, from_workers, head_is, no_workers, no_whole_quota, no_arena, no_steps, no_whole_arena, no_deques, source_is, too_few_bytes, no_last_byte}
use Rattle.trail_text.proofs.Tails.{steal_is, no_kind, event_is, no_kind_after, no_worker, end_is, no_periods, no_ahead, no_high}
use Rattle.trail_text.proofs.Order.{first_is, others_are}
use Rattle.trail_text.proofs.Phases.{stops_at_head, stops_at_source, stops_at_end, stops_after_end, reads_all}

nat_or : (a b : ℕ) → (a ≡ b) ⊎ (a ≢ b)
nat_or a b =
    elim (cases_lt a b) [
      | inl under ↦ inr (λ e. omega (arith, e, under))
      | inr over ↦ elim (cases_lt b a) [ inl under ↦ inr (λ e. omega (arith, e, under)) | inr over' ↦ inl (omega arith) ]
    ]

both_or : (x y : ℕ) (xs ys : List ℕ) → (x ≡ y) ⊎ (x ≢ y) → (xs ≡ ys) ⊎ (xs ≢ ys) → (x ∷ xs ≡ y ∷ ys) ⊎ (x ∷ xs ≢ y ∷ ys)
both_or x y xs ys (inl e) (inl e') = inl (λ i. e i ∷ e' i)
both_or x y xs ys (inl e) (inr n) = inr (λ is. n (others_are _ _ _ _ is))
both_or x y xs ys (inr n) q = inr (λ is. n (first_is _ _ _ _ is))

bytes_or : (xs ys : List ℕ) → (xs ≡ ys) ⊎ (xs ≢ ys)
bytes_or [] [] = inl refl
bytes_or [] (y ∷ ys) = inr (λ e. omega (arith, ap length e))
bytes_or (x ∷ xs) [] = inr (λ e. omega (arith, ap length e))
bytes_or (x ∷ xs) (y ∷ ys) = both_or x y xs ys (nat_or x y) (bytes_or xs ys)

-- they begin with a name, or they do not
name_or : (name bytes : List ℕ) → ((after : List ℕ) × (bytes ≡ name ++ after)) ⊎ ((more : List ℕ) → ¬ (bytes ≡ name ++ more))
name_or name bytes =
    elim (bytes_or (take (length name) bytes) name) [
      | inl is ↦
          inl (drop (length name) bytes, sym (take-append-drop (length name) bytes) ∙ ap (λ (f : List ℕ). f ++ drop (length name) bytes) is)
      | inr other ↦ inr (λ more e. other (ap (λ (l : List ℕ). take (length name) l) e ∙ take-append_seam name more))
    ]

-- a byte stands in them, or it does not
abbrev CutAt : ℕ → List ℕ → Type 0
CutAt stop bytes = (front : List ℕ) × ((back : List ℕ) × ((bytes ≡ front ++ stop ∷ back) × Lacks stop front))

abbrev NoCut : ℕ → List ℕ → Type 0
NoCut stop bytes = (front back : List ℕ) → ¬ (bytes ≡ front ++ stop ∷ back)

lacks_more : (stop x : ℕ) (front : List ℕ) → x ≢ stop → Lacks stop front → Lacks stop (x ∷ front)
lacks_more stop x front other lacks zero below is = other is
lacks_more stop x front other lacks (suc k) below is = lacks k (omega arith) is

no_cut_more : (stop x : ℕ) (xs : List ℕ) → x ≢ stop → NoCut stop xs → NoCut stop (x ∷ xs)
no_cut_more stop x xs other none [] back e = other (first_is _ _ _ _ e)
no_cut_more stop x xs other none (f ∷ front) back e = none front back (others_are _ _ _ _ e)

cut_more : (stop x : ℕ) (xs : List ℕ) → (x ≡ stop) ⊎ (x ≢ stop) → CutAt stop xs ⊎ NoCut stop xs → CutAt stop (x ∷ xs) ⊎ NoCut stop (x ∷ xs)
cut_more stop x xs (inl is) q = inl ([], (xs, (ap (λ (y : ℕ). y ∷ xs) is, λ k below e. omega (arith, below))))
cut_more stop x xs (inr other) (inl c) =
    inl (x ∷ c.0, (c.1.0, (ap (λ (l : List ℕ). x ∷ l) c.1.1.0, lacks_more stop x c.0 other c.1.1.1)))
cut_more stop x xs (inr other) (inr none) = inr (no_cut_more stop x xs other none)

cut_or : (stop : ℕ) (bytes : List ℕ) → CutAt stop bytes ⊎ NoCut stop bytes
cut_or stop [] = inr (λ front back e. omega (arith, ap length e, length-append front (stop ∷ back)))
cut_or stop (x ∷ xs) = cut_more stop x xs (nat_or x stop) (cut_or stop xs)

-- they write a number, or they do not
abbrev Writes : List ℕ → Type 0
Writes digits = (n : ℕ) × ((digits ≡ decimal n) × (n < 2 ^ 64))

abbrev WritesNone : List ℕ → Type 0
WritesNone digits = (n : ℕ) → n < 2 ^ 64 → ¬ (digits ≡ decimal n)

written_value : (digits : List ℕ) (n : ℕ) → n < 2 ^ 64 → digits ≡ decimal n → digits_value 10 digits ≡ n
written_value digits n small e = ap (λ (l : List ℕ). digits_value 10 l) e ∙ (decimal_is_IsNumeral n small).1

value_or : (digits : List ℕ) → Writes digits ⊎ WritesNone digits
value_or digits =
    elim (cases_lt (digits_value 10 digits) (2 ^ 64)) [
      | inl small ↦
          elim (bytes_or digits (decimal (digits_value 10 digits))) [
            | inl is ↦ inl (digits_value 10 digits, (is, small))
            | inr other ↦ inr (λ n low e. other (e ∙ ap decimal (sym (written_value digits n low e))))
          ]
      | inr large ↦ inr (λ n low e. omega (arith, large, low, written_value digits n low e))
    ]

-- they begin with a name and a number for which something holds
abbrev Numbered : List ℕ → ℕ → List ℕ → (ℕ → Type 0) → Type 0
Numbered name stop bytes P = (n : ℕ) × ((rest : List ℕ) × ((bytes ≡ number_then name n stop rest) × P n))

number_or : (name : List ℕ) (stop : ℕ) (bytes : List ℕ) → stop < 48 → Numbered name stop bytes (λ n. n < 2 ^ 64) ⊎ NoNumber name stop bytes
number_or name stop bytes low =
    elim (name_or name bytes) [
      | inr none ↦ inr (λ n more small e. none (decimal n ++ stop ∷ more) e)
      | inl s ↦
          elim (cut_or stop s.0) [
            | inr none ↦ inr (no_stop name bytes s.0 stop s.1 none)
            | inl c ↦
                elim (value_or c.0) [
                  | inr none ↦ inr (no_digits name bytes s.0 c.0 c.1.0 stop low s.1 c.1.1.0 c.1.1.1 none)
                  | inl v ↦
                      inl (
                        v.0,
                        (
                          c.1.0,
                          (
                            s.1 ∙ ap (λ (t : List ℕ). name ++ t) (c.1.1.0 ∙ ap (λ (f : List ℕ). f ++ stop ∷ c.1.0) v.1.0),
                            v.1.1,
                          ),
                        ),
                      )
                ]
          ]
    ]

within_or :
    (name : List ℕ) (stop least most : ℕ) (bytes : List ℕ) → stop < 48 → most < 2 ^ 64 →
    Numbered name stop bytes (IsWithin least most) ⊎ NoneWithin name stop least most bytes
within_or name stop least most bytes low short =
    elim (number_or name stop bytes low) [
      | inr none ↦ inr (λ n more fits e. none n more (omega (arith, fits.1)) e)
      | inl v ↦
          elim (cases_lt v.0 least) [
            | inl under ↦ inr (too_small name bytes v.1.0 stop v.0 low v.1.1.0 v.1.1.1 least most short under)
            | inr from ↦
                elim (cases_lt most v.0) [
                  | inl over ↦ inr (too_great name bytes v.1.0 stop v.0 low v.1.1.0 v.1.1.1 least most short over)
                  | inr to ↦ inl (v.0, (v.1.0, (v.1.1.0, (from, to))))
                ]
          ]
    ]

below_or :
    (name : List ℕ) (stop bound : ℕ) (bytes : List ℕ) → stop < 48 → bound < 2 ^ 64 →
    Numbered name stop bytes (λ n. n < bound) ⊎ NoneBelow name stop bound bytes
below_or name stop bound bytes low short =
    elim (number_or name stop bytes low) [
      | inr none ↦ inr (λ n more under e. none n more (omega (arith, under)) e)
      | inl v ↦
          elim (cases_lt v.0 bound) [
            | inl under ↦ inl (v.0, (v.1.0, (v.1.1.0, under)))
            | inr over ↦ inr (not_below name bytes v.1.0 stop v.0 low v.1.1.0 v.1.1.1 bound short over)
          ]
    ]

-- the first line
record HeadAt (bytes : List ℕ) : Type 0 where
  k : ℕ
  p : ℕ
  arena : ℕ
  steps : ℕ
  deques : ℕ
  rest : List ℕ
  fits : FitSetting k p arena steps deques
  begins : bytes ≡ head_line k p arena steps deques ++ rest

head_or : (bytes : List ℕ) → HeadAt bytes ⊎ NoHead bytes
head_or bytes =
    elim (within_or (codes "trail k ") 32 LEAST_QUOTA GREATEST_QUOTA bytes (omega arith) (omega arith)) [
      | inr none ↦ inr (λ k p a s d more fits e. none k (from_workers p a s d more) fits.quota (e ∙ head_is k p a s d more))
      | inl k ↦
          elim (within_or (codes "p ") 32 1 MOST_WORKERS k.1.0 (omega arith) (omega arith)) [
            | inr none ↦ inr (no_workers bytes k.0 k.1.0 k.1.1.0 k.1.1.1 none)
            | inl p ↦
                elim (within_or (codes "arena ") 32 LEAST_QUOTA MOST_WORDS p.1.0 (omega arith) (omega arith)) [
                  | inr none ↦ inr (no_arena bytes k.0 k.1.0 k.1.1.0 k.1.1.1 p.0 p.1.0 p.1.1.1 p.1.1.0 none)
                  | inl a ↦
                      elim (within_or (codes "steps ") 32 1 MOST_TRAIL_ACTIONS a.1.0 (omega arith) (omega arith)) [
                        | inr none ↦ inr (no_steps bytes k.0 k.1.0 k.1.1.0 k.1.1.1 p.0 p.1.0 p.1.1.1 p.1.1.0 a.0 a.1.0 a.1.1.1 a.1.1.0 none)
                        | inl s ↦
                            elim (within_or (codes "deques ") 10 1 MOST_DEQUES s.1.0 (omega arith) (omega arith)) [
                              | inr none ↦
                                  inr
                                  (no_deques bytes k.0 k.1.0 k.1.1.0 k.1.1.1 p.0 p.1.0 p.1.1.1 p.1.1.0 a.0 a.1.0 a.1.1.1 a.1.1.0 s.0 s.1.0 s.1.1.1 s.1.1.0 none)
                              | inl d ↦
                                  elim (nat_or (k.0 % LEAST_QUOTA) 0) [
                                    | inr other ↦ inr (no_whole_quota bytes k.0 k.1.0 k.1.1.0 k.1.1.1 other)
                                    | inl whole ↦
                                        elim (nat_or (a.0 % LEAST_QUOTA) 0) [
                                          | inr other ↦
                                              inr (no_whole_arena bytes k.0 k.1.0 k.1.1.0 k.1.1.1 p.0 p.1.0 p.1.1.1 p.1.1.0 a.0 a.1.0 a.1.1.1 a.1.1.0 other)
                                          | inl whole' ↦
                                              inl (record {
                                                k = k.0;
                                                p = p.0;
                                                arena = a.0;
                                                steps = s.0;
                                                deques = d.0;
                                                rest = d.1.0;
                                                fits = record {
                                                  quota = k.1.1.1;
                                                  quota_whole = whole;
                                                  workers = p.1.1.1;
                                                  arena = a.1.1.1;
                                                  arena_whole = whole';
                                                  steps = s.1.1.1;
                                                  deques = d.1.1.1;
                                                };
                                                begins =
                                                    k.1.1.0
                                                    ∙ ap (λ (t : List ℕ). number_then (codes "trail k ") k.0 32 t)
                                                    (p.1.1.0
                                                    ∙ ap (λ (t : List ℕ). number_then (codes "p ") p.0 32 t)
                                                    (a.1.1.0
                                                    ∙ ap (λ (t : List ℕ). number_then (codes "arena ") a.0 32 t)
                                                    (s.1.1.0 ∙ ap (λ (t : List ℕ). number_then (codes "steps ") s.0 32 t) d.1.1.0)))
                                                    ∙ sym (head_is k.0 p.0 a.0 s.0 d.0 d.1.0);
                                              })
                                        ]
                                  ]
                            ]
                      ]
                ]
          ]
    ]

-- the second line
abbrev SourceAt : List ℕ → Type 0
SourceAt bytes = (source : List ℕ) × ((rest : List ℕ) × ((bytes ≡ source_line source ++ rest) × (length source ≤ LONGEST_TEXT)))

source_cut :
    (bytes : List ℕ) (n : ℕ) (rest : List ℕ) → bytes ≡ number_then (codes "source ") n 10 rest → n ≤ LONGEST_TEXT → n < length rest →
    get_or rest n 0 ≡ 10 → SourceAt bytes
source_cut bytes n rest begins short within is =
    let source = take n rest in
    let more = take (length rest - (n + 1)) (drop (n + 1) rest) in
    let size : length source ≡ n = length-take-le n rest (omega arith) in (
      source,
      (
        more,
        (
          begins
              ∙ ap (λ (t : List ℕ). number_then (codes "source ") n 10 t) (cut_here rest n 10 within is)
              ∙ ap (λ (m : ℕ). number_then (codes "source ") m 10 (source ++ 10 ∷ more)) (sym size)
              ∙ sym (source_is source more),
          omega (arith, size),
        ),
      ),
    )

source_or : (bytes : List ℕ) → SourceAt bytes ⊎ NoSource bytes
source_or bytes =
    elim (within_or (codes "source ") 10 0 LONGEST_TEXT bytes (omega arith) (omega arith)) [
      | inr none ↦ inr (λ source more short e. none (length source) (source ++ 10 ∷ more) (omega arith, short) (e ∙ source_is source more))
      | inl v ↦
          elim (cases_lt v.0 (length v.1.0)) [
            | inr few ↦ inr (too_few_bytes bytes v.0 v.1.0 v.1.1.0 v.1.1.1.1 few)
            | inl within ↦
                elim (nat_or (get_or v.1.0 v.0 0) 10) [
                  | inr other ↦ inr (no_last_byte bytes v.0 v.1.0 v.1.1.0 v.1.1.1.1 other)
                  | inl is ↦ inl (source_cut bytes v.0 v.1.0 v.1.1.0 v.1.1.1.1 within is)
                ]
          ]
    ]

-- the line of an event
abbrev KindAt : List ℕ → Type 0
KindAt bytes = (kind : TrailKind) × ((rest : List ℕ) × ((bytes ≡ kind_words kind ++ 10 ∷ rest) × FitsKind kind))

kind_or : (bytes : List ℕ) → KindAt bytes ⊎ NoKind bytes
kind_or bytes =
    elim (name_or (codes "act\n") bytes) [
      | inl s ↦ inl (Act, (s.0, (s.1, tt)))
      | inr act ↦
          elim (name_or (codes "suspend\n") bytes) [
            | inl s ↦ inl (Suspend, (s.0, (s.1, tt)))
            | inr suspend ↦
                elim (name_or (codes "giveup\n") bytes) [
                  | inl s ↦ inl (GiveUp, (s.0, (s.1, tt)))
                  | inr give_up ↦
                      elim (below_or (codes "steal ") 10 MOST_DEQUES bytes (omega arith) (omega arith)) [
                        | inl v ↦ inl (Steal v.0, (v.1.0, (v.1.1.0 ∙ sym (steal_is v.0 v.1.0), v.1.1.1)))
                        | inr steal ↦ inr (no_kind bytes act suspend give_up steal)
                      ]
                ]
          ]
    ]

abbrev EventAt : ℕ → List ℕ → Type 0
EventAt p bytes = (event : TrailEvent) × ((rest : List ℕ) × ((bytes ≡ event_line event ++ rest) × FitsEvent p event))

event_or : (p : ℕ) (bytes : List ℕ) → p < 2 ^ 64 → EventAt p bytes ⊎ NoEvent p bytes
event_or p bytes short =
    elim (below_or [] 32 p bytes (omega arith) short) [
      | inr none ↦ inr (no_worker p bytes none)
      | inl w ↦
          elim (kind_or w.1.0) [
            | inr none ↦ inr (no_kind_after p bytes w.0 w.1.0 short w.1.1.0 w.1.1.1 none)
            | inl v ↦
                inl (
                  record { worker = w.0; kind = v.0 },
                  (
                    v.1.0,
                    (
                      w.1.1.0
                          ∙ ap (λ (t : List ℕ). number_then [] w.0 32 t) v.1.1.0
                          ∙ sym (event_is (record { worker = w.0; kind = v.0 }) v.1.0),
                      (w.1.1.1, v.1.1.1),
                    ),
                  ),
                )
          ]
    ]

-- the last line
abbrev EndAt : List ℕ → Type 0
EndAt bytes = (n : TrailNumbers) × ((rest : List ℕ) × ((bytes ≡ end_line n ++ rest) × FitNumbers n))

end_or : (bytes : List ℕ) → EndAt bytes ⊎ NoEnd bytes
end_or bytes =
    elim (number_or (codes "end periods ") 32 bytes (omega arith)) [
      | inr none ↦ inr (no_periods bytes none)
      | inl p ↦
          elim (number_or (codes "ahead ") 32 p.1.0 (omega arith)) [
            | inr none ↦ inr (no_ahead bytes p.0 p.1.0 p.1.1.0 p.1.1.1 none)
            | inl a ↦
                elim (number_or (codes "high ") 10 a.1.0 (omega arith)) [
                  | inr none ↦ inr (no_high bytes p.0 p.1.0 p.1.1.0 p.1.1.1 a.0 a.1.0 a.1.1.0 a.1.1.1 none)
                  | inl h ↦
                      inl (
                        record { periods = p.0; ahead = a.0; high = h.0 },
                        (
                          h.1.0,
                          (
                            p.1.1.0
                                ∙ ap (λ (t : List ℕ). number_then (codes "end periods ") p.0 32 t)
                                (a.1.1.0 ∙ ap (λ (t : List ℕ). number_then (codes "ahead ") a.0 32 t) h.1.1.0)
                                ∙ sym (end_is (record { periods = p.0; ahead = a.0; high = h.0 }) h.1.0),
                            (p.1.1.1, a.1.1.1, h.1.1.1),
                          ),
                        ),
                      )
                ]
          ]
    ]

-- the lines of all events
abbrev EventsAt : ℕ → List ℕ → Type 0
EventsAt p bytes =
    (events : List TrailEvent) ×
    ((rest : List ℕ) × ((bytes ≡ concat (map event_line events) ++ rest) × (FitEvents p events × NoEvent p rest)))

event_size : (event : TrailEvent) → 0 < length (event_line event)
event_size event = omega (arith, length-append (decimal event.worker) (32 ∷ (kind_words event.kind ++ 10 ∷ [])))

events_more :
    (n p : ℕ) (bytes : List ℕ) → length bytes ≤ suc n → EventAt p bytes ⊎ NoEvent p bytes →
    ((rest : List ℕ) → length rest ≤ n → EventsAt p rest) → EventsAt p bytes
events_more n p bytes within (inr none) again = ([], (bytes, (refl, (tt, none))))
events_more n p bytes within (inl v) again =
    let more =
    again v.1.0 (omega (arith, within, event_size v.0, ap length v.1.1.0, length-append (event_line v.0) v.1.0)) in (
      v.0 ∷ more.0,
      (
        more.1.0,
        (
          v.1.1.0
              ∙ ap (λ (r : List ℕ). event_line v.0 ++ r) more.1.1.0
              ∙ sym (append_assoc (event_line v.0) (concat (map event_line more.0)) more.1.0),
          ((v.1.1.1, more.1.1.1.0), more.1.1.1.1),
        ),
      ),
    )

events_at : (n p : ℕ) (bytes : List ℕ) → p < 2 ^ 64 → length bytes ≤ n → EventsAt p bytes
events_at zero p bytes short within = (
  [],
  (
    bytes,
    (
      refl,
      (
        tt,
        λ event more fits is.
            omega (arith, within, event_size event, ap length is, length-append (event_line event) more),
      ),
    ),
  ),
)
events_at (suc n) p bytes short within =
    events_more n p bytes within (event_or p bytes short) (λ rest under. events_at n p rest short under)

-- a trail, or its refusal
abbrev Reads : List ℕ → Type 0
Reads text = ((t : TrailShown) × IsTrail text t) ⊎ ((at : ℕ) × IsRefused text at)

refuses : (text rest : List ℕ) → length text ≤ MOST_TRAIL → BreaksAt text rest → Reads text
refuses text rest short breaks =
    inr (length text - length rest, broken short rest breaks (omega (arith, ap length breaks.spelled, length-append (concat breaks.front) rest)))

module _ (text : List ℕ) (short : length text ≤ MOST_TRAIL) where
  reads_from_events : (h : HeadAt text) (s : SourceAt h.rest) (es : EventsAt h.p s.1.0) → EndAt es.1.0 ⊎ NoEnd es.1.0 → Reads text
  reads_from_events h s es (inr none) =
      refuses text es.1.0 short
      (stops_at_end h.k h.p h.arena h.steps h.deques h.fits s.0 s.1.1.1 es.0 es.1.1.1.0 text h.rest s.1.0 es.1.0 h.begins s.1.1.0 es.1.1.0 es.1.1.1.1 none)
  reads_from_events h s es (inl n) =
      elim (bytes_or n.1.0 []) [
        | inl none ↦
            inl (
              record { k = h.k; p = h.p; arena = h.arena; steps = h.steps; deques = h.deques; source = s.0; events = es.0; numbers = n.0 },
              reads_all h.k h.p h.arena h.steps h.deques h.fits s.0 s.1.1.1 es.0 es.1.1.1.0 n.0 n.1.1.1 text h.rest s.1.0 es.1.0 n.1.0 h.begins s.1.1.0 es.1.1.0
                  n.1.1.0 none short,
            )
        | inr some ↦
            refuses text n.1.0 short
            (stops_after_end h.k h.p h.arena h.steps h.deques h.fits s.0 s.1.1.1 es.0 es.1.1.1.0 n.0 n.1.1.1 text h.rest s.1.0 es.1.0 n.1.0 h.begins s.1.1.0
            es.1.1.0 n.1.1.0 some)
      ]

  reads_from_head : (h : HeadAt text) → SourceAt h.rest ⊎ NoSource h.rest → Reads text
  reads_from_head h (inr none) = refuses text h.rest short (stops_at_source h.k h.p h.arena h.steps h.deques h.fits text h.rest h.begins none)
  reads_from_head h (inl s) =
      let es = events_at (length s.1.0) h.p s.1.0 (omega (arith, h.fits.workers.1)) (omega arith) in reads_from_events h s es (end_or es.1.0)

  reads_from_start : HeadAt text ⊎ NoHead text → Reads text
  reads_from_start (inr none) = refuses text text short (stops_at_head text none)
  reads_from_start (inl h) = reads_from_head h (source_or h.rest)

pub each_read : EachRead
each_read text = elim (cases_lt MOST_TRAIL (length text)) [
  | inl over ↦ inr (MOST_TRAIL, too_long over refl)
  | inr short ↦ reads_from_start text short (head_or text)
]
