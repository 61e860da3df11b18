-- The texts of runs, line by line.
use Rattle.std.specs.Prelude.{ℕ, ℤ, List, [], ◌∷◌, ◌++◌, map, codes}
use Rattle.std.specs.List.{flat_map}
use Rattle.std.specs.Fmt.{decimal, signed_decimal}
use Rattle.dag_order.specs.declared.finish.Finish.{Finish}
use Rattle.dag_order.specs.declared.finish.Finish.TheVariants.{Done, Faulted}
use Rattle.dag_order.specs.declared.fault.FaultKind.{FaultKind}
use Rattle.dag_order.specs.declared.fault.FaultKind.TheVariants.{Index, Divide, Size, Split, Depth, Turns}
use Rattle.run_report.specs.Shown.{ReportShown}
use Rattle.run_report.specs.declared.summary.Summary.{Summary}

-- a line, ended by LF
abbrev pub line : List ℕ → List ℕ
line bytes = bytes ++ 10 ∷ []

-- the text of some lines
abbrev pub text_of : List (List ℕ) → List ℕ
text_of lines = flat_map line lines

-- the word for a kind of fault
abbrev pub kind_word : FaultKind → List ℕ
kind_word Index = codes "Index"
kind_word Divide = codes "Divide"
kind_word Size = codes "Size"
kind_word Split = codes "Split"
kind_word Depth = codes "Depth"
kind_word Turns = codes "Turns"

-- how a run ended: `end done`, or `end fault KIND line N`
abbrev pub finish_words : Finish → List ℕ
finish_words Done = codes "end done"
finish_words (Faulted at) = codes "end fault " ++ kind_word at.kind ++ codes " line " ++ decimal at.line

-- a name, which ends with its blank, and a number
abbrev pub counted : List ℕ → ℕ → List ℕ
counted name n = name ++ decimal n

-- with these lines each text of a run begins: what it printed, `--`, and how it ended
abbrev pub outcome_lines : List ℤ → Finish → List (List ℕ)
outcome_lines printed finish = map signed_decimal printed ++ codes "--" ∷ finish_words finish ∷ []

-- the report of a run by the scheduler's workers
abbrev pub report_lines : ReportShown → List (List ℕ)
report_lines r =
    outcome_lines r.lines r.finish ++
    counted (codes "periods ") r.periods ∷ counted (codes "ahead ") r.ahead ∷ counted (codes "high ") r.high ∷ []

abbrev pub report_text : ReportShown → List ℕ
report_text r = text_of (report_lines r)

-- the text of a depth-first run
abbrev pub peak_text : List ℤ → Finish → ℕ → ℕ → List ℕ
peak_text printed finish actions peak =
    text_of (outcome_lines printed finish ++ counted (codes "actions ") actions ∷ counted (codes "peak ") peak ∷ [])

-- the summary of a run: numbers alone
abbrev pub summary_text : Summary → List ℕ
summary_text s = text_of
    (counted (codes "bytes ") s.bytes ∷
    counted (codes "lines ") s.lines ∷
    (codes "total " ++ signed_decimal s.total) ∷
    counted (codes "actions ") s.actions ∷
    counted (codes "periods ") s.periods ∷
    counted (codes "ahead ") s.ahead ∷
    counted (codes "high ") s.high ∷ [])
