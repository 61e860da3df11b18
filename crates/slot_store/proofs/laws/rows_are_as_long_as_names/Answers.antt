use Rattle.slot_store.proofs.Agreement.{row_length}
use Rattle.slot_store.proofs.laws.rows_are_as_long_as_names.Goals as goal

pub returns : goal.returns
returns c names row store shows = row_length names row store shows
