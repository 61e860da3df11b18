-- What a report shows, as plain data.
use Rattle.std.specs.Prelude.{ℕ, ◌<◌, ◌^◌, ℤ, List, [], ◌∷◌}
use lib.Signed.{mag}
use Rattle.containers.specs.BoundedList.{entries}
use Rattle.dag_order.specs.declared.finish.Finish.{Finish}
use Rattle.dag_order.specs.declared.finish.Finish.TheVariants.{Done, Faulted}
use Rattle.run_report.specs.declared.report.Report.{Report}

pub record ReportShown : Type 0 where
  pub lines : List ℤ
  pub finish : Finish
  pub periods : ℕ
  pub ahead : ℕ
  pub high : ℕ

abbrev pub shown_by_report : Report → ReportShown
shown_by_report r = record { lines = entries r.lines; finish = r.finish; periods = r.periods; ahead = r.ahead; high = r.high }

-- a number of 64 bits with a sign: from -(2^63) to 2^63 - 1
abbrev pub IsWord : ℤ → Type 0
IsWord n = mag n < 2 ^ 63

abbrev pub AreWords : List ℤ → Type 0
AreWords [] = Unit {0}
AreWords (n ∷ ns) = IsWord n × AreWords ns

-- a fault has a line of 32 bits
abbrev pub HasLine : Finish → Type 0
HasLine Done = Unit {0}
HasLine (Faulted at) = at.line < 2 ^ 32

-- the numbers are of the sizes that a report has
pub record InRange (r : ReportShown) : Type 0 where
  pub lines : AreWords r.lines
  pub finish : HasLine r.finish
  pub periods : r.periods < 2 ^ 32
  pub ahead : r.ahead < 2 ^ 32
  pub high : r.high < 2 ^ 64
