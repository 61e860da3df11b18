-- Each action is an event.
use Rattle.std.proofs.Common.{◌<◌}
use Rattle.open_periods.specs.Passed.DepthFirstListRuns.{IsDepthFirst}
use Rattle.deque_machine.specs.Machine.{Setting}
use Rattle.moment_shown.specs.Events.{does_alone, runs_dummy, joins_newest, forks_child, ends_above, ends_and_wakes, ends_and_leaves}
use Rattle.moment_shown.specs.Laws.{ActionsAreEvents}
use Rattle.moment_shown.proofs.Alone.{alone, dummy_runs, joins_the_newest}
use Rattle.moment_shown.proofs.Forking.{child_is_forked}
use Rattle.moment_shown.proofs.Ending.{above, wakes, leaves}

pub actions_are_events : (s : Setting) → 0 < s.quota → IsDepthFirst s.quota s.list → ActionsAreEvents s
actions_are_events s some run m parts worker place next lawful shows (does_alone o deed new periods is_next may acted children words notes) =
    alone s run m lawful parts shows worker o place deed new periods is_next may acted children words notes
actions_are_events s some run m parts worker place next lawful shows (runs_dummy o new periods is_next acted children words notes) =
    dummy_runs s run m lawful parts shows worker o place new periods is_next acted children words notes
actions_are_events s some run m parts worker place next lawful shows (joins_newest o newest older new periods children given is_next acted are words notes) =
    joins_the_newest s run m lawful parts shows worker o place newest older new periods children given is_next acted are words notes
actions_are_events s some run m parts worker place next lawful shows (forks_child o ordinal func new child periods is_next fits acted id parent label done func_is none children words notes) =
    child_is_forked s run m lawful parts shows worker o place ordinal is_next func new child periods acted id parent label done func_is none children notes fits words
actions_are_events s some run m parts worker place next lawful shows (ends_above o parent below result periods is_next under left_by notes) =
    above s run m lawful parts shows worker o place is_next result left_by parent below periods under notes
actions_are_events s some run m parts worker place next lawful shows (ends_and_wakes o before later parent newest older result periods is_next under waiting children newest_is left_by notes) =
    wakes s run m lawful parts shows worker o place is_next result left_by before later parent newest older periods under waiting children newest_is notes
actions_are_events s some run m parts worker place next lawful shows (ends_and_leaves o result periods is_next under unwaited left_by notes) =
    leaves s run m lawful parts shows worker o place is_next result left_by periods under unwaited notes
