-- The calls of a stream in memory.
use Rattle.std.specs.Prelude.{Bool, ◌==◌}
use Rattle.std.specs.List.{list_any}
use Rattle.byte_streams.specs.Faults.{raised}
use Rattle.byte_streams.specs.declared.call_plan.CallPlan.{CallPlan}

-- whether the next call is one at which the stream fails
abbrev pub fails_next : CallPlan → Bool
fails_next plan = list_any (λ number. number == raised plan.calls) plan.fail.items
