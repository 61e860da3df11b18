-- The places at which the reading of a report may stop.
use Rattle.std.proofs.Common.{◌≡◌, ◌≢◌, ℕ, ℤ, ◌<◌, ◌^◌, ◌⊎◌, inl, inr, List, [], ◌∷◌, ◌++◌, length, map, drop, append_assoc, append-nil, ap, sym, ◌∙◌, refl, subst, arith}
use Rattle.std.specs.Prelude.{codes, nat_eq, true, false}
use Rattle.std.proofs.lemmas.Bool.Decides.{nat_tests}
use Rattle.std.specs.Fmt.{signed_decimal}
use Rattle.std.proofs.lemmas.List.{map-append}
use Rattle.dag_order.specs.declared.finish.Finish.{Finish}
use Rattle.dag_order.specs.declared.finish.Finish.TheVariants.{Done}
use Rattle.run_report.specs.Lines.{NoValue, NoFinish, NoCounted}
use Rattle.run_report.specs.Shown.{ReportShown, InRange, IsWord, AreWords, HasLine}
use Rattle.run_report.specs.Texts.{line, text_of, finish_words, counted, report_lines, report_text}
use Rattle.run_report.specs.Reading.{Begins, BreaksAt, IsFailure, place_in}
use Rattle.run_report.specs.declared.read_fail.ReadFail.{ReadFail}
use Rattle.run_report.specs.declared.read_fail.ReadFail.TheVariants.{NotReport}
use Rattle.run_report.proofs.Appended.{text_of-snoc}
use Rattle.run_report.proofs.Orders.{tail, lines_are, after_values, after_dashes, Stuck, breaks_here}

-- a test of bytes has told whether there are any
pub are_none : (bytes : List ℕ) → true ≡ nat_eq (length bytes) 0 → bytes ≡ []
are_none [] e = refl
are_none (b ∷ bytes) e = absurd (grind (arith, nat_tests, e))

pub are_some : (bytes : List ℕ) → false ≡ nat_eq (length bytes) 0 → bytes ≢ []
are_some bytes e none = grind (arith, nat_tests, e, ap (λ (l : List ℕ). length l) none)

-- a text whose front was read goes on with a line
pub one_line_more :
    (text rest after : List ℕ) (front : List (List ℕ)) (l : List ℕ) → text ≡ text_of front ++ rest → rest ≡ line l ++ after →
    text ≡ text_of (front ++ l ∷ []) ++ after
one_line_more text rest after front l spelled next =
    spelled ∙ ap (λ (r : List ℕ). text_of front ++ r) next
    ∙ sym (append_assoc (text_of front) (line l) after)
    ∙ ap (λ (t : List ℕ). t ++ after) (sym (text_of-snoc front l))

words_snoc : (xs : List ℤ) (n : ℤ) → AreWords xs → IsWord n → AreWords (xs ++ n ∷ [])
words_snoc [] n ok word = (word, tt)
words_snoc (x ∷ xs) n ok word = (ok.0, words_snoc xs n ok.1 word)

-- a number more
pub one_value_more :
    (text rest after : List ℕ) (xs ys : List ℤ) (n : ℤ) → text ≡ text_of (map signed_decimal xs) ++ rest → AreWords xs →
    rest ≡ line (signed_decimal n) ++ after → IsWord n → ys ≡ xs ++ n ∷ [] →
    (text ≡ text_of (map signed_decimal ys) ++ after) × AreWords ys
one_value_more text rest after xs ys n spelled ok next word are = (
  one_line_more text rest after (map signed_decimal xs) (signed_decimal n) spelled next
      ∙ ap (λ (ls : List (List ℕ)). text_of ls ++ after) (sym (map-append signed_decimal xs (n ∷ [])) ∙ ap (λ (l : List ℤ). map signed_decimal l) (sym are)),
  subst AreWords (sym are) (words_snoc xs n ok word),
)

-- the lines of a report up to its `--`, and some behind
abbrev pub up_to : List ℤ → List (List ℕ) → List (List ℕ)
up_to xs behind = map signed_decimal xs ++ codes "--" ∷ behind

pub one_more_behind :
    (text rest after : List ℕ) (xs : List ℤ) (behind : List (List ℕ)) (l : List ℕ) → text ≡ text_of (up_to xs behind) ++ rest →
    rest ≡ line l ++ after → text ≡ text_of (up_to xs (behind ++ l ∷ [])) ++ after
one_more_behind text rest after xs behind l spelled next =
    one_line_more text rest after (up_to xs behind) l spelled next
    ∙ ap (λ (ls : List (List ℕ)). text_of ls ++ after) (append_assoc (map signed_decimal xs) (codes "--" ∷ behind) (l ∷ []))

-- in place of a number or `--`
pub stops_at_values :
    (text rest : List ℕ) (xs : List ℤ) → text ≡ text_of (map signed_decimal xs) ++ rest → AreWords xs → NoValue rest →
    ((more : List ℕ) → ¬ (rest ≡ codes "--\n" ++ more)) → BreaksAt text rest
stops_at_values text rest xs spelled ok none bare =
    breaks_here text rest (map signed_decimal xs) spelled begins stuck
  where
    begins : Begins (map signed_decimal xs)
    begins = (record { lines = xs; finish = Done; periods = 0; ahead = 0; high = 0 }, (record { lines = ok; finish = tt; periods = omega arith; ahead = omega arith; high = omega arith }, (codes "--" ∷ tail (record { lines = xs; finish = Done; periods = 0; ahead = 0; high = 0 }), lines_are (record { lines = xs; finish = Done; periods = 0; ahead = 0; high = 0 }))))

    stays : (next : List ℕ) (more : List (List ℕ)) → (next ≡ codes "--") ⊎ ((n : ℤ) × (IsWord n × (next ≡ signed_decimal n))) → Stuck rest (next ∷ more)
    stays next more (inl is) behind e = bare behind (e ∙ ap (λ (l : List ℕ). line l ++ behind) is)
    stays next more (inr is) behind e = none is.0 behind is.1.0 (e ∙ ap (λ (l : List ℕ). line l ++ behind) is.1.1)

    stuck : (r : ReportShown) (zs : List (List ℕ)) → InRange r → report_lines r ≡ map signed_decimal xs ++ zs → Stuck rest zs
    stuck r zs okr e =
        let next = after_values xs r.lines (tail r) zs ok okr.lines (sym (lines_are r) ∙ e) in
        subst (λ (l : List (List ℕ)). Stuck rest l) (sym next.1.1.0) (stays next.0 next.1.0 next.1.1.1)

-- the refusal of a text at such a place
pub refused : (text rest : List ℕ) (fail : ReadFail) → fail ≡ NotReport (place_in text rest) → BreaksAt text rest → IsFailure text fail
refused text rest fail is breaks = subst (λ (f : ReadFail). IsFailure text f) (sym is) (rest, (breaks, refl))

-- behind `--`
stops_behind :
    (text rest : List ℕ) (r : ReportShown) (behind more : List (List ℕ)) → text ≡ text_of (up_to r.lines behind) ++ rest → InRange r →
    tail r ≡ behind ++ more → ((s : ReportShown) (zs : List (List ℕ)) → InRange s → tail s ≡ behind ++ zs → Stuck rest zs) → BreaksAt text rest
stops_behind text rest r behind more spelled ok front stuck =
    breaks_here text rest (up_to r.lines behind) spelled
    (r, (ok, (more, lines_are r ∙ ap (λ (ls : List (List ℕ)). map signed_decimal r.lines ++ codes "--" ∷ ls) front ∙ sym (append_assoc (map signed_decimal r.lines) (codes "--" ∷ behind) more))))
    (λ s zs oks e. stuck s zs oks
    (after_dashes r.lines s.lines (tail s) (behind ++ zs) ok.lines oks.lines (sym (lines_are s) ∙ e ∙ append_assoc (map signed_decimal r.lines) (codes "--" ∷ behind) zs)))

rest_is : (a b : List ℕ) (ps qs : List (List ℕ)) → a ∷ ps ≡ b ∷ qs → ps ≡ qs
rest_is a b ps qs e = ap (λ (l : List (List ℕ)). drop 1 l) e

module _ (text rest : List ℕ) (xs : List ℤ) (ok : AreWords xs) where
  pub stops_at_finish : text ≡ text_of (up_to xs []) ++ rest → NoFinish rest → BreaksAt text rest
  stops_at_finish spelled none =
      stops_behind text rest (record { lines = xs; finish = Done; periods = 0; ahead = 0; high = 0 }) [] _ spelled
      (record { lines = ok; finish = tt; periods = omega arith; ahead = omega arith; high = omega arith }) refl
      (λ s zs oks e. subst (λ (l : List (List ℕ)). Stuck rest l) e (λ more e'. none s.finish more oks.finish e'))

  module _ (f : Finish) (okf : HasLine f) where
    pub stops_at_periods : text ≡ text_of (up_to xs (finish_words f ∷ [])) ++ rest → NoCounted (codes "periods ") (2 ^ 32) rest → BreaksAt text rest
    stops_at_periods spelled none =
        stops_behind text rest (record { lines = xs; finish = f; periods = 0; ahead = 0; high = 0 }) (finish_words f ∷ []) _ spelled
        (record { lines = ok; finish = okf; periods = omega arith; ahead = omega arith; high = omega arith }) refl
        (λ s zs oks e. subst (λ (l : List (List ℕ)). Stuck rest l) (rest_is _ _ _ _ e) (λ more e'. none s.periods more oks.periods e'))

    module _ (p : ℕ) (okp : p < 2 ^ 32) where
      pub stops_at_ahead :
          text ≡ text_of (up_to xs (finish_words f ∷ counted (codes "periods ") p ∷ [])) ++ rest → NoCounted (codes "ahead ") (2 ^ 32) rest → BreaksAt text rest
      stops_at_ahead spelled none =
          stops_behind text rest (record { lines = xs; finish = f; periods = p; ahead = 0; high = 0 }) (finish_words f ∷ counted (codes "periods ") p ∷ []) _ spelled
          (record { lines = ok; finish = okf; periods = okp; ahead = omega arith; high = omega arith }) refl
          (λ s zs oks e. subst (λ (l : List (List ℕ)). Stuck rest l) (rest_is _ _ _ _ (rest_is _ _ _ _ e)) (λ more e'. none s.ahead more oks.ahead e'))

      module _ (a : ℕ) (oka : a < 2 ^ 32) where
        pub stops_at_high :
            text ≡ text_of (up_to xs (finish_words f ∷ counted (codes "periods ") p ∷ counted (codes "ahead ") a ∷ [])) ++ rest →
            NoCounted (codes "high ") (2 ^ 64) rest → BreaksAt text rest
        stops_at_high spelled none =
            stops_behind text rest (record { lines = xs; finish = f; periods = p; ahead = a; high = 0 })
            (finish_words f ∷ counted (codes "periods ") p ∷ counted (codes "ahead ") a ∷ []) _ spelled
            (record { lines = ok; finish = okf; periods = okp; ahead = oka; high = omega arith }) refl
            (λ s zs oks e. subst (λ (l : List (List ℕ)). Stuck rest l) (rest_is _ _ _ _ (rest_is _ _ _ _ (rest_is _ _ _ _ e))) (λ more e'. none s.high more oks.high e'))

        module _ (h : ℕ) (okh : h < 2 ^ 64) where
          pub stops_at_end :
              text ≡ text_of (up_to xs (finish_words f ∷ counted (codes "periods ") p ∷ counted (codes "ahead ") a ∷ counted (codes "high ") h ∷ [])) ++ rest →
              rest ≢ [] → BreaksAt text rest
          stops_at_end spelled some =
              stops_behind text rest (record { lines = xs; finish = f; periods = p; ahead = a; high = h })
              (finish_words f ∷ counted (codes "periods ") p ∷ counted (codes "ahead ") a ∷ counted (codes "high ") h ∷ []) [] spelled
              (record { lines = ok; finish = okf; periods = okp; ahead = oka; high = okh }) refl
              (λ s zs oks e. subst (λ (l : List (List ℕ)). Stuck rest l) (rest_is _ _ _ _ (rest_is _ _ _ _ (rest_is _ _ _ _ (rest_is _ _ _ _ e)))) some)

          pub reads_all :
              text ≡ text_of (up_to xs (finish_words f ∷ counted (codes "periods ") p ∷ counted (codes "ahead ") a ∷ counted (codes "high ") h ∷ [])) ++ rest →
              rest ≡ [] → text ≡ report_text (record { lines = xs; finish = f; periods = p; ahead = a; high = h })
          reads_all spelled none =
              let r : ReportShown = record { lines = xs; finish = f; periods = p; ahead = a; high = h } in
              spelled ∙ ap (λ (b : List ℕ). text_of (up_to xs (tail r)) ++ b) none ∙ append-nil (text_of (up_to xs (tail r))) ∙ ap text_of (sym (lines_are r))
