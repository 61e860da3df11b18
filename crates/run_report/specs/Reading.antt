-- When bytes are no report, and where that shows.
use Rattle.std.specs.Prelude.{◌≡◌, ℕ, List, [], ◌∷◌, ◌++◌, length, min, ◌-◌}
use Rattle.run_report.specs.Shown.{ReportShown, InRange}
use Rattle.run_report.specs.Texts.{line, text_of, report_lines, report_text}
use Rattle.run_report.specs.declared.read_fail.ReadFail.{ReadFail}
use Rattle.run_report.specs.declared.read_fail.ReadFail.TheVariants.{NotReport, OutOfMemory}

-- some report begins with these lines
abbrev pub Begins : List (List ℕ) → Type 0
Begins lines = (r : ReportShown) × (InRange r × ((more : List (List ℕ)) × (report_lines r ≡ lines ++ more)))

-- the bytes are the text of no report
abbrev pub NoReport : List ℕ → Type 0
NoReport text = (r : ReportShown) → InRange r → ¬ (text ≡ report_text r)

-- the bytes are no report, and `rest` is where that shows: some report begins with the lines before it, and none
-- goes on with the line that stands there. Where nothing stands there a line is missing, and where what stands there
-- has no LF it is no line.
pub record BreaksAt (text rest : List ℕ) : Type 0 where
  pub front : List (List ℕ)
  pub spelled : text ≡ text_of front ++ rest
  pub begins : Begins front
  pub breaks : (next more : List ℕ) → rest ≡ line next ++ more → ¬ Begins (front ++ next ∷ [])
  pub no_report : NoReport text

-- the place of what is left of a text, or 4,294,967,295 where it lies behind
abbrev pub place_in : List ℕ → List ℕ → ℕ
place_in text rest = min (length text - length rest) 4294967295

-- the answer to bytes that are read as no report; want of memory may come at any time
abbrev pub IsFailure : List ℕ → ReadFail → Type 0
IsFailure text OutOfMemory = Unit {0}
IsFailure text (NotReport at) = (rest : List ℕ) × (BreaksAt text rest × (at ≡ place_in text rest))
