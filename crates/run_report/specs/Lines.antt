-- How bytes begin.
use Rattle.std.specs.Prelude.{◌≡◌, ℕ, ℤ, ◌<◌, List, ◌++◌}
use Rattle.std.specs.Fmt.{signed_decimal}
use Rattle.dag_order.specs.declared.finish.Finish.{Finish}
use Rattle.run_report.specs.Shown.{IsWord, HasLine}
use Rattle.run_report.specs.Texts.{line, counted, finish_words}

-- the bytes do not begin with the line of a printed number
abbrev pub NoValue : List ℕ → Type 0
NoValue bytes = (n : ℤ) (more : List ℕ) → IsWord n → ¬ (bytes ≡ line (signed_decimal n) ++ more)

-- they do not begin with a finish line
abbrev pub NoFinish : List ℕ → Type 0
NoFinish bytes = (f : Finish) (more : List ℕ) → HasLine f → ¬ (bytes ≡ line (finish_words f) ++ more)

-- they do not begin with the line of this name and a number below `most`
abbrev pub NoCounted : List ℕ → ℕ → List ℕ → Type 0
NoCounted name most bytes = (n : ℕ) (more : List ℕ) → n < most → ¬ (bytes ≡ line (counted name n) ++ more)
