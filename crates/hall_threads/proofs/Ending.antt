-- How a hall is closed by the last member.
use Rattle.std.proofs.Common.{◌≡◌, inl, inr, sym, ap, ◌∙◌, subst}
use Rattle.std.specs.Prelude.{Some, Ok}
use Rattle.dag_order.specs.declared.finish.Finish.{Finish}
use Rattle.play_rules.specs.declared.ends.RunEnd.{RunEnd}
use Rattle.play_rules.specs.declared.ends.RunEnd.TheVariants.{Finished}
use Rattle.work_loop.specs.declared.member.Member.{Member}
use Rattle.worker_entry.specs.declared.hall.Hall.{Hall}
use Rattle.worker_entry.specs.declared.seat.Seat.{Seat}
use Rattle.worker_entry.specs.declared.closing.Closing.{Closing}
use Rattle.worker_entry.specs.Closing.{Closes, LetsGoAfter}
use Rattle.hall_threads.specs.declared.worker.HallWorker.{HallWorker}
use Rattle.hall_threads.specs.Closed.{IsClosedBy}
use Rattle.hall_threads.specs.Crews.{HasItsEnd, HasKeptRules, WasTold, seat_of}

-- a seat that was told a finish gave no deque up
kept_after : (finish : Finish) (end : RunEnd) (last idle : Seat) → end ≡ Finished finish → WasTold last end → HasKeptRules last
    → LetsGoAfter end last idle → HasKeptRules idle
kept_after finish end last idle is told rules goes = elim goes [
  | inl same ↦ subst HasKeptRules (sym same.1) rules
  | inr gone ↦ absurd (gone.1.unfinished finish (told ∙ ap (λ (e : RunEnd). Some e) is))
]

pub closed_by : {C : Type 0} (hall : Hall) (last : Member (HallWorker C) RunEnd) (closing : Closing) → HasItsEnd hall last
    → Closes hall (seat_of last) (Ok closing) → ((end : RunEnd) → WasTold (seat_of last) end → closing.end ≡ end)
    → IsClosedBy hall (seat_of last) closing
closed_by hall last closing has closes told = record {
  closes = closes;
  rules = λ finish is. kept_after finish closing.end (seat_of last) closes.1 is
      (has.told ∙ ap (λ (e : RunEnd). Some e) (sym (told has.end has.told))) (has.rules finish (sym (told has.end has.told) ∙ is)) closes.2;
}
