use Rattle.std.proofs.Common.{ap, sym, ◌∙◌}
use Rattle.node_table.specs.Names.{name_at}
use Rattle.slot_store.specs.Rows.{Entry}
use Rattle.slot_store.proofs.Agreement.{rows_same}
use Rattle.slot_store.proofs.laws.stores_that_agree_are_shown.Goals as goal

pub returns : goal.returns
returns c names row store other shows same = record {
  distinct = shows.distinct;
  slots = shows.slots ∙ sym (rows_same names store other (λ j below. same (name_at names j)));
  known = λ x h. ap Entry.blocks (same x) ∙ shows.known x h;
}
