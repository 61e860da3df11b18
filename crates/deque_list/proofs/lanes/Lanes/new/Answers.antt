-- No id has a key.
use Rattle.std.proofs.Common.{◌≡◌, None, rules}
use Rattle.std.specs.Prelude.{replicate}
use Rattle.deque_list.proofs.TableLemmas.{none_stored}
use Rattle.deque_list.proofs.lanes.Lanes.new.Goals as goal

pub returns-clause-lanes : goal.returns-clause-lanes
returns-clause-lanes g c =
    let e : c.in_ok-keys.keys.items ≡ replicate c.args.most None = c.in_ok-keys.ensures.items_if_clones_equal (λ y same. search rules) in
    rw e (none_stored c.in_ok-slab.slab c.args.most)
