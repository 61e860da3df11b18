use Rattle.std.proofs.Common.{◌≡◌, drop}
use Rattle.dfd_plays.specs.Make.{sum_with, sum_of}
use Rattle.dfd_plays.proofs.making.wrapping_sum.Given as goal

-- what is still to be sum_with makes the whole sum
abbrev pub invariant-numbers : goal.invariant-numbers
invariant-numbers l = sum_with l.sum (drop l.number-index l.numbers) ≡ sum_of l.numbers
