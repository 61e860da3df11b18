use Rattle.std.proofs.Common.{refl, sym, ap, ◌∙◌}
use Rattle.std.specs.Option.{option_map}
use Rattle.std.specs.Prelude.{Some}
use Rattle.hall_slots.specs.Shown.{running_shown}
use Rattle.hall_actions.proofs.rooms.reserve_running.Goals as goal

pub returns-clause-shown : goal.returns-clause-shown
returns-clause-shown c = ap Some (c.reserve_in.ensures.shown c.in-Some.running.worker) ∙ sym (ap (option_map running_shown) c.in-Some.is)

pub returns-clause-some : goal.returns-clause-some
returns-clause-some c = (record { worker = c.in-Some.running.worker; period = c.reserve_in.new.period }, refl)
