use Rattle.std.proofs.Common.{List, sym, subst}
use Rattle.slot_store.specs.Rows.{Entry}
use Rattle.slot_store.specs.Shown.{slots_shown}
use Rattle.flat_code.specs.declared.place.Place.{Place}
use Rattle.flat_code.specs.Shown.{flat_shown}
use Rattle.flat_run.specs.Ran.{at_point, RanTo}
use Rattle.flat_program.specs.Running.{RunsThread}
use Rattle.flat_program.proofs.Threads.{runs_thread}
use Rattle.flat_program.proofs.flat_list.FlatList.run.Goals as goal

pub returns-clause-thread : goal.returns-clause-thread
returns-clause-thread c t begins =
    let l = c.args.self.now in
    let place = c.args.place in
    let turns = c.args.turns in
    let row = slots_shown c.args.slots.now in
    let stop = c.run_flat-stop.result in
    let after = slots_shown c.run_flat-stop.new.slots in
    let one =
    subst (λ (ps : List Place). RanTo (flat_shown ps) (at_point place (slots_shown c.lengthen.new.self) turns) stop after) c.deref.ensures.value
    c.run_flat-stop.ensures in
    let two = subst (λ (r : List Entry). RanTo (flat_shown l.places.items) (at_point place r turns) stop after) c.in_ok-lengthen.ensures.row one in
    subst (λ (r : List Entry). RunsThread t l place row turns stop r) (sym c.shorten.ensures)
    (runs_thread t l place row turns stop after begins c.requires.long two)
