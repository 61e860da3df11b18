use Rattle.std.proofs.Common.{List, sym, subst, arith}
use Rattle.depth_first_run.specs.Stores.{nothing}
use Rattle.slot_store.specs.Rows.{Entry}
use Rattle.slot_store.specs.Agreement.{ShowsStore}
use Rattle.slot_store.proofs.Agreement.{shows_nothing}
use Rattle.slot_store.proofs.slots.Slots.new.Goals as goal

pub returns-clause-store : goal.returns-clause-store
returns-clause-store c names distinct is =
    subst (λ (row : List Entry). ShowsStore names row nothing) (sym c.loop.invariant.0)
    (shows_nothing names c.loop.counter distinct (omega (arith, is, c.loop-test.false, c.loop.auto.counter-end)))
