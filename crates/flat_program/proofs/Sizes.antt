-- The lengths of rows that were tried.
use Rattle.std.proofs.Common.{◌≡◌, ℕ, ◌+◌, ◌-◌, ◌<◌, ◌≤◌, subst, arith}
use Rattle.std.specs.Prelude.{min}
use Rattle.node_table.specs.Table.{Table}
use Rattle.thread_stack.specs.declared.list_of.ListOf.{ListOf}
use Rattle.flat_code.specs.Fits.{CanBeFlat}

-- each length was tried from the slots of the function on
pub none_serves : (t : Table) (k most : ℕ) (list : ListOf) → ((n : ℕ) → n < most → CanBeFlat t k (min (k + n) 65535) list → ⊥)
    → (size : ℕ) → size < k + most → size < 65536 → CanBeFlat t k size list → ⊥
none_serves t k most list tried size low less is =
    let long = is.0 in
    let e : size ≡ min (k + (size - k)) 65535 = at size k long less in
    tried (size - k) (omega (arith, low, long)) (subst (λ (n : ℕ). CanBeFlat t k n list) e is)
  where
    at : (s m : ℕ) → m ≤ s → s < 65536 → s ≡ min (m + (s - m)) 65535
    at s m long below = omega (arith, long, below)
