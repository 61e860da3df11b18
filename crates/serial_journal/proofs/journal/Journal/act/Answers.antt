use Rattle.std.proofs.Common.{◌≡◌, rules, SFits, to_z, of_z, ◌∷◌, [], ◌++◌, ◌≤◌, length, w64, ◌∙◌}
use Rattle.std.proofs.lemmas.Int.{to_z-of_z}
use Rattle.containers.specs.BoundedList.{entries}
use Rattle.serial_journal.specs.declared.action.Action.{Action as Shown}
use Rattle.serial_journal.specs.Journals.{KeepsUp, Recorded, action_named}
use Rattle.serial_journal.proofs.Keeping.{act_kept, ending, limit_reached}
use Rattle.serial_journal.proofs.journal.Journal.act.Goals as goal

pub returns-clause-keeps_up : goal.returns-clause-keeps_up
returns-clause-keeps_up c = λ limit actions label deed keeps labelled kind plain.
    let fits : SFits w64 c.in_ok-change.change = search rules in
    let same : to_z w64 (of_z w64 c.in_ok-change.change) ≡ c.in_ok-change.change = to_z-of_z w64 c.in_ok-change.change fits in
    let shown : Shown = record { name = c.args.name; kind = c.args.kind; change = to_z w64 (of_z w64 c.in_ok-change.change) } in
    ending (λ _. Recorded shown c.args.self.now c.write_down.new.self) (λ _. KeepsUp limit (actions ++ action_named label c.args.name.index deed c.args.words ∷ []) c.write_down.new.self)
    (c.args.self.now.limit ≤ length (entries c.args.self.now.actions)) (limit ≤ length actions) c.write_down.result
    (λ _ recorded. act_kept limit actions label deed c.args.words shown c.args.self.now c.write_down.new.self recorded c.write_down.ensures.births keeps labelled kind (same ∙ c.in_ok-change.ensures.change deed kind) plain)
    (λ full. limit_reached limit actions c.args.self.now keeps full) c.write_down.ensures.cases
