use Rattle.std.proofs.Common.{◌≡◌, List, drop, length}
use Rattle.depth_first_run.specs.Passed.Tree.{Name}
use Rattle.node_table.specs.Shown.{links_shown}
use Rattle.node_table.specs.Reading.{links_read, FitsLinks}
use Rattle.depth_first_run.specs.Stores.{Store}
use Rattle.depth_first_run.specs.Values.{chained}
use Rattle.slot_store.specs.Shown.{slots_shown}
use Rattle.slot_store.specs.Agreement.{ShowsStore}
use Rattle.slot_store.proofs.expressions.+evaluate.Given as goal

-- what is left of the chain gives, from the number so far, what the chain gives from its front
abbrev pub invariant-nested_chain-loop-link : goal.invariant-nested_chain-loop-link
invariant-nested_chain-loop-link l =
    (names : List Name) (store : Store) → ShowsStore names (slots_shown l.slots) store → FitsLinks (length names) (links_shown l.rest)
    → FitsLinks (length names) (links_shown (drop l.link-index l.rest))
    × (chained store (links_read names (links_shown (drop l.link-index l.rest))) l.number
    ≡ chained store (links_read names (links_shown l.rest)) l.fn.front)
