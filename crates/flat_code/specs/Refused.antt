-- Why there is no flat code.
use Rattle.std.specs.Prelude.{ℕ, ◌^◌, Result, Ok, Err}
use Rattle.flat_code.specs.declared.lower_fail.LowerFail.{LowerFail}
use Rattle.flat_code.specs.declared.lower_fail.LowerFail.TheVariants.{OutOfMemory, TooLong}

-- this holds where there are too many places
abbrev pub IfTooLong : {T : Type 0} → Result T LowerFail → Type 0 → Type 0
IfTooLong (Ok x) P = Unit {0}
IfTooLong (Err OutOfMemory) P = Unit {0}
IfTooLong (Err TooLong) P = P

-- how many places have a number
abbrev pub most_places : ℕ
most_places = 2 ^ 32
