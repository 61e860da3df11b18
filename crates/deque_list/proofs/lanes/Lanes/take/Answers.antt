-- The lane that lay under the key of its id.
use Rattle.std.proofs.Common.{◌≡◌, ◌<◌, ◌∙◌, ap, sym, length, Some, None, arith}
use Rattle.std.specs.Prelude.{slice_get, slice_set}
use Rattle.std.proofs.lemmas.Option.{slice_get_within}
use Rattle.deque_list.proofs.TableLemmas.{key_of_lane, lane_of_key, table_take, keyed_take}
use Rattle.deque_list.proofs.lanes.Lanes.take.Goals as goal

pub key_at-key-requires : goal.key_at-key-requires
key_at-key-requires g c =
    let key = key_of_lane c.self.inside.slab c.self.inside.keys.items c.args.id c.requires.0 (ap (λ table. slice_get table.lanes c.args.id) c.self.view_is ∙ c.requires.1) in
    (key.0, ap (λ keys. slice_get keys c.args.id) c.deref.ensures.value ∙ key.1)

pub index_mut-requires : goal.index_mut-requires
index_mut-requires g c =
    let here : slice_get c.self.inside.keys.items c.args.id ≡ Some (Some c.key_at-key.result) =
    ap (λ keys. slice_get keys c.args.id) (sym c.deref.ensures.value) ∙ c.key_at-key.ensures in
    let within : c.args.id < length c.self.inside.keys.items = slice_get_within c.self.inside.keys.items c.args.id (Some c.key_at-key.result) here in
    omega (arith, within, c.self.inside.keys.ok.0)

pub invariant_of-self : goal.invariant_of-self
invariant_of-self g c =
    let here : slice_get c.self.inside.keys.items c.args.id ≡ Some (Some c.key_at-key.result) =
    ap (λ keys. slice_get keys c.args.id) (sym c.deref.ensures.value) ∙ c.key_at-key.ensures in
    keyed_take c.self.inside.slab c.remove.new.self c.self.inside.keys.items c.args.id c.key_at-key.result c.self.invariant here c.remove.ensures.updates

pub returns-clause-lane : goal.returns-clause-lane
returns-clause-lane g c =
    let here : slice_get c.self.inside.keys.items c.args.id ≡ Some (Some c.key_at-key.result) =
    ap (λ keys. slice_get keys c.args.id) (sym c.deref.ensures.value) ∙ c.key_at-key.ensures in
    ap (λ table. slice_get table.lanes c.args.id) (sym c.self.view_is)
    ∙ (lane_of_key c.self.inside.slab c.self.inside.keys.items c.args.id c.key_at-key.result here ∙ ap (λ lane. Some lane) c.remove.ensures.value)

pub returns-clause-rest : goal.returns-clause-rest
returns-clause-rest g c =
    let here : slice_get c.self.inside.keys.items c.args.id ≡ Some (Some c.key_at-key.result) =
    ap (λ keys. slice_get keys c.args.id) (sym c.deref.ensures.value) ∙ c.key_at-key.ensures in
    table_take c.self.inside.slab c.remove.new.self c.self.inside.keys.items c.args.id c.key_at-key.result c.self.invariant here c.remove.ensures.updates
    ∙ ap (λ table. slice_set table.lanes c.args.id None) c.self.view_is
