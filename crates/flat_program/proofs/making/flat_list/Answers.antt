use Rattle.flat_program.specs.declared.flat_list.FlatList.{FlatList}
use Rattle.flat_program.proofs.Marks.{has_deepest}
use Rattle.flat_program.proofs.making.flat_list.Goals as goal

pub returns-clause-flat : goal.returns-clause-flat
returns-clause-flat c =
    let made = c.in_ok-places.ensures in
    let list : FlatList = record { places = c.in_ok-places.places; slots = c.args.slots; size = c.args.size; deepest = c.deepest_of-deepest.result } in
    record {
      others = made.begins;
      forward = made.forward;
      room = c.requires.0;
      deep = has_deepest list c.deref.result.now c.deref.ensures.value c.deepest_of-deepest.ensures;
    }
