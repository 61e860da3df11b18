-- How a run ends with its root, or for want of memory.
use Rattle.std.specs.Prelude.{◌≡◌, ◌⊎◌, Bool, false, cond, Option, None, Some, []}
use Rattle.dag_order.specs.Births.{root}
use Rattle.thread_points.specs.Passed.Run.{finish_of_run}
use Rattle.thread_points.specs.Passed.States.{Setting}
use Rattle.open_periods.specs.Passed.Machine.{HasEnded}
use Rattle.open_periods.specs.Passed.Moments.{Moment}
use Rattle.open_periods.specs.Passed.Terms.{Terms, machine_of}
use Rattle.thread_frames.specs.declared.ended.Ended.{Ended}
use Rattle.thread_map.specs.Kept.{same_thread}
use Rattle.thread_frames.specs.Roots.{end_of_root}
use Rattle.scheduler_state.specs.declared.event.Event.{Event}
use Rattle.scheduler_state.specs.declared.event.Event.TheVariants.{Stole, Acted, Suspended, GaveUp}
use Rattle.play_rules.specs.declared.ends.RunEnd.{RunEnd}
use Rattle.play_rules.specs.declared.ends.RunEnd.TheVariants.{Finished, Stopped}
use Rattle.play_rules.specs.declared.stop.Stop.TheVariants.{OutOfMemory}

-- an action of the root, which ends with no other event
abbrev pub is_of_root : Event → Bool
is_of_root (Stole deque period) = false
is_of_root (Acted id) = same_thread root id.by
is_of_root (Suspended id) = false
is_of_root (GaveUp deque) = false

-- the end that is kept behind an event: the one that the result of the root tells, where the root acted
abbrev pub end_behind_event : Event → Option Ended → Option RunEnd
end_behind_event event ended = cond (is_of_root event) (end_of_root ended) None

-- the end that is kept once memory was wanting: a kept end is never replaced
abbrev pub end_without_memory : Option RunEnd → Option RunEnd
end_without_memory None = Some (Stopped OutOfMemory)
end_without_memory (Some end) = Some end

-- where the root has ended its finish is kept, and else nothing
abbrev pub KeepsEnd : Setting → Terms → Option RunEnd → Moment → Type 0
KeepsEnd c terms end m =
    ((¬ HasEnded (machine_of c terms) m []) × (end ≡ None))
    ⊎ (HasEnded (machine_of c terms) m [] × (end ≡ Some (Finished (finish_of_run c))))
