-- The lane lies under a fresh key.
use Rattle.std.proofs.Common.{◌<◌, ◌∙◌, ap, length, Some}
use Rattle.std.specs.Prelude.{slice_get, slice_set}
use Rattle.deque_list.proofs.TableLemmas.{no_key, table_put, keyed_put}
use Rattle.deque_list.proofs.lanes.Lanes.put.Goals as goal

pub invariant_of-self : goal.invariant_of-self
invariant_of-self g c =
    let within : c.args.id < length c.self.inside.keys.items =
    no_key c.self.inside.slab c.self.inside.keys.items c.args.id (ap (λ table. slice_get table.lanes c.args.id) c.self.view_is ∙ c.requires.free) in
    keyed_put c.self.inside.slab c.insert_reserved-key.new.self c.self.inside.keys.items c.args.id c.insert_reserved-key.result c.args.lane c.self.invariant within
    c.insert_reserved-key.ensures.was_vacant c.insert_reserved-key.ensures.updates

pub returns : goal.returns
returns g c =
    let within : c.args.id < length c.self.inside.keys.items =
    no_key c.self.inside.slab c.self.inside.keys.items c.args.id (ap (λ table. slice_get table.lanes c.args.id) c.self.view_is ∙ c.requires.free) in
    table_put c.self.inside.slab c.insert_reserved-key.new.self c.self.inside.keys.items c.args.id c.insert_reserved-key.result c.args.lane c.self.invariant within
    c.insert_reserved-key.ensures.was_vacant c.insert_reserved-key.ensures.updates
    ∙ ap (λ table. slice_set table.lanes c.args.id (Some c.args.lane)) c.self.view_is
