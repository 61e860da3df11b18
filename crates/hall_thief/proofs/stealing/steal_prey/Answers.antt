use Rattle.std.proofs.Common.{sym, ◌∙◌, subst}
use Rattle.std.proofs.lemmas.Option.{same_Some}
use Rattle.deque_list.specs.declared.place.Place.{Place}
use Rattle.hall_thief.specs.Prey.{StealsWith}
use Rattle.hall_thief.proofs.stealing.steal_prey.Goals as goal

pub returns-clause-seat : goal.returns-clause-seat
returns-clause-seat c victim there = subst (λ (v : Place). StealsWith c.args.prey.list v c.args.prey.lane c.args.seat.now c.steal_from.new.seat c.steal_from.result)
    (same_Some c.in-Some.victim victim (sym c.in-Some.is ∙ c.deque_at.ensures ∙ there)) c.steal_from.ensures.seat

pub steal_from-requires-clause-stealing : goal.steal_from-requires-clause-stealing
steal_from-requires-clause-stealing c =
    record { may = c.requires.may; has = c.requires.prey; meets = c.requires.meets; there = sym c.deque_at.ensures ∙ c.in-Some.is }
