use Rattle.std.proofs.Common.{ℕ, List, subst}
use Rattle.std.specs.Prelude.{◌≡◌, Some, slice_get}
use Rattle.hall_slots.proofs.Crews.{out_of}
use Rattle.hall_slots.proofs.list_slot.ListSlot.leave.Goals as goal

pub returns-clause-crew : goal.returns-clause-crew
returns-clause-crew c = out_of c.args.worker c.args.self.now.crew.items c.in-Some.place
    (subst (λ (crew : List ℕ). slice_get crew c.in-Some.place ≡ Some c.args.worker) c.deref.ensures.value c.in-Some.ensures) c.remove.new.self.items c.remove.ensures.items
