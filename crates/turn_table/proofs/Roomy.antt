-- Room for the values of a row, once the row is closed.
use Rattle.std.proofs.Common.{◌≡◌, ◌≤◌, ℕ, length, arith}
use Rattle.std.specs.Prelude.{vec_capacity}
use Rattle.std.specs.declared.vec.Vec.{Vec}
use Rattle.std.specs.declared.alloc.Global.{Global}

-- as many slots as values have room where the values had it
pub have_room : {V : Type 0} (values after : Vec V Global) (count : ℕ) → count ≡ length values.items → vec_capacity after ≡ vec_capacity values → count ≤ vec_capacity after
have_room values after count e f = omega arith
