-- The lane lies under the key of its id.
use Rattle.std.proofs.Common.{◌≡◌, ◌∙◌, ap, sym, Some}
use Rattle.std.specs.Prelude.{slice_get}
use Rattle.deque_list.proofs.TableLemmas.{key_of_lane, lane_of_key}
use Rattle.deque_list.proofs.lanes.Lanes.lane.Goals as goal

pub key_at-requires : goal.key_at-requires
key_at-requires g c =
    let key = key_of_lane c.self.inside.slab c.self.inside.keys.items c.args.id c.requires.0 (ap (λ table. slice_get table.lanes c.args.id) c.self.view_is ∙ c.requires.1) in
    (key.0, ap (λ keys. slice_get keys c.args.id) c.deref.ensures.value ∙ key.1)

pub returns : goal.returns
returns g c =
    let here : slice_get c.self.inside.keys.items c.args.id ≡ Some (Some c.key_at.result) =
    ap (λ keys. slice_get keys c.args.id) (sym c.deref.ensures.value) ∙ c.key_at.ensures in
    ap (λ table. slice_get table.lanes c.args.id) (sym c.self.view_is)
    ∙ (lane_of_key c.self.inside.slab c.self.inside.keys.items c.args.id c.key_at.result here ∙ ap (λ lane. Some lane) c.index.ensures)
