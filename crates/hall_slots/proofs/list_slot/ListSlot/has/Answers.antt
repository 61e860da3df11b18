use Rattle.std.proofs.Common.{ℕ, ◌<◌, ◌↔◌, List, sym, subst}
use Rattle.std.specs.Prelude.{IsTrue}
use Rattle.deque_machine.specs.Lists.{times}
use Rattle.hall_slots.proofs.Crews.{is_in}
use Rattle.hall_slots.proofs.list_slot.ListSlot.has.Goals as goal

pub returns : goal.returns
returns c = subst (λ (crew : List ℕ). IsTrue c.is_some.result ↔ (0 < times c.args.worker crew)) c.deref.ensures.value
    (subst (λ b. IsTrue b ↔ (0 < times c.args.worker c.deref.result.now)) (sym c.is_some.ensures) (is_in c.args.worker c.deref.result.now c.place_in.result c.place_in.ensures))
