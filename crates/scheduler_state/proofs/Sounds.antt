-- That what is held is sound is known in one way.
use Rattle.std.specs.Prelude.{◌≡◌, ◌≤◌, ℕ, pos}
use Rattle.std.proofs.Math.Logic.{∥∥₁_prop}
use denote.Struct.Props.{props}
use Rattle.open_periods.specs.Passed.Actions.{record_words}
use Rattle.node_table.specs.Table.{Table}
use Rattle.space_ledger.specs.Sums.{total_change}
use Rattle.open_periods.specs.Passed.Terms.{Terms}
use Rattle.scheduler_state.specs.Held.{Held}
use Rattle.scheduler_state.specs.Moments.{IsSound}

pub sound_one : (t : Table) (k : ℕ) (terms : Terms) (h : Held) → IsProp (IsSound t k terms h)
sound_one t k terms h = λ a b i. record {
  of_program = ∥∥₁_prop a.of_program b.of_program i;
  quota = (let one : IsProp (record_words ≤ k) = search props in one a.quota b.quota i);
  in_order = ∥∥₁_prop a.in_order b.in_order i;
  sum = (let one : IsProp (total_change h.moves ≡ pos h.live) = search props in one a.sum b.sum i);
  results = ∥∥₁_prop a.results b.results i;
  somewhere = λ c is. ∥∥₁_prop (a.somewhere c is) (b.somewhere c is) i;
}
