use Rattle.slot_store.proofs.Agreement.{entry_is}
use Rattle.slot_store.proofs.laws.slots_have_what_the_store_has.Goals as goal

pub returns : goal.returns
returns c names row store s shows below = entry_is names row store shows s below
