-- What a value on the heap ends as, where it is lent for writing.
use Rattle.std.specs.Borrow.{Lends, Fml, RattleType, MutBor}
use Rattle.containers.specs.contracts.boxed.Boxed.{the_row}

-- the last value that was written through the result
abbrev pub lends_value : (T : RattleType) → MutBor T.Denot → MutBor T.Denot → Fml
lends_value T s r = Lends (the_row T) T s r (λ value. value)
