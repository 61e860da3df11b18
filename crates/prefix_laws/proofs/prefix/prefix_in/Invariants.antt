use Rattle.std.proofs.Common.{◌<◌, ℕ}
use Rattle.containers.specs.BoundedList.{entries}
use Rattle.deque_machine.specs.Lists.{Among}
use Rattle.prefix_laws.specs.Prefixes.{all_ran, places_behind}
use Rattle.prefix_laws.proofs.prefix.prefix_in.Given as goal

-- those so far are done
abbrev pub invariant-actions : goal.invariant-actions
invariant-actions l = (i : ℕ) → i < l.place → Among i (all_ran (places_behind (entries l.books)))
