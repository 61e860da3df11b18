-- The lane that is lent lies under the key of its id.
use Rattle.std.proofs.Common.{◌≡◌, ◌∙◌, ap, sym, Some, refl}
use Rattle.std.specs.Prelude.{slice_get}
use Rattle.deque_list.proofs.TableLemmas.{key_of_lane, lane_of_key}
use Rattle.deque_list.proofs.LendLemmas.{table_lent}
use Rattle.deque_list.proofs.lanes.Lanes.lane_mut.Goals as goal

pub key_at-key-requires : goal.key_at-key-requires
key_at-key-requires g c =
    let key = key_of_lane c.self.inside.slab c.self.inside.keys.items c.args.id c.requires.0 (ap (λ table. slice_get table.lanes c.args.id) c.self.view_is ∙ c.requires.1) in
    (key.0, ap (λ keys. slice_get keys c.args.id) c.deref.ensures.value ∙ key.1)

pub returns : goal.returns
returns g c =
    let here : slice_get c.self.inside.keys.items c.args.id ≡ Some (Some c.key_at-key.result) =
    ap (λ keys. slice_get keys c.args.id) (sym c.deref.ensures.value) ∙ c.key_at-key.ensures in (
      (refl, λ w. table_lent c.self.inside.slab c.self.inside.keys.items c.args.id c.key_at-key.result w c.args.self.now c.self.invariant here c.self.view_is),
      record {
        writes_back = tt;
        value = ap (λ table. slice_get table.lanes c.args.id) (sym c.self.view_is)
            ∙ (lane_of_key c.self.inside.slab c.self.inside.keys.items c.args.id c.key_at-key.result here ∙ ap (λ lane. Some lane) c.index_mut.ensures.value);
      },
    )
