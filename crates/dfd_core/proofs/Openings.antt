-- That a run begins at the opening moment.
use Rattle.std.proofs.Common.{ℕ, ◌≤◌, [], refl, arith}
use Rattle.std.proofs.lemmas.Option.{none-some}
use Rattle.std.specs.Prelude.{None}
use Rattle.depth_first_list.specs.Actions.{record_words}
use Rattle.depth_first_run.specs.States.{Setting}
use Rattle.open_periods.specs.Passed.Moments.{opening}
use Rattle.open_periods.specs.Passed.Terms.{Terms}
use Rattle.node_table.specs.Table.{Table}
use Rattle.scheduler_state.specs.Passed.Settings.{IsSettingOf}
use Rattle.thread_frames.specs.declared.thread.Thread.{Thread}
use Rattle.scheduler_state.specs.Held.{Held}
use Rattle.scheduler_state.specs.Begun.{IsBegun}
use Rattle.scheduler_state.proofs.Begins.{none_ended, begun_stands}
use Rattle.dfd_core.specs.Running.{IsAtMoment, IsSomewhere}

module _ (t : Table) (k : ℕ) (terms : Terms) (h : Held) (x : Thread) (b : IsBegun t h x) (covers : record_words ≤ k) where
  pub opening_is_at : (c : Setting) → IsSettingOf t k c → IsAtMoment t k terms h None c [] opening
  opening_is_at c of = record {
    setting = of;
    reaches = refl;
    stands = begun_stands t k terms h x b covers c of;
    within = omega arith;
    going = λ none. none_ended t k terms h x b covers c of;
    finished = λ finish is. absurd (none-some _ is);
  }

  pub begun_somewhere : IsSomewhere t k terms h None
  begun_somewhere c of = ∣ ([], opening, opening_is_at c of) ∣₁
