use Rattle.slot_store.proofs.Holdings.{words_are}
use Rattle.slot_store.proofs.laws.words_are_those_of_the_store.Goals as goal

pub returns : goal.returns
returns c names row store shows = words_are names row store shows
