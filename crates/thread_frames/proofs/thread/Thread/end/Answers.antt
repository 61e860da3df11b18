use Rattle.std.proofs.Common.{refl, sym, ◌∙◌, ap}
use denote.Struct.Props.{props}
use Rattle.std.proofs.Math.Logic.{∥∥₁_map}
use Rattle.thread_run.specs.Passed.Points.{words_at_end}
use Rattle.thread_frames.specs.Views.{recorded}
use Rattle.thread_frames.specs.declared.prepared.Prepared.TheVariants.{End}
use Rattle.thread_frames.proofs.Placed.{placed_gives, prepared_as}
use Rattle.thread_frames.proofs.Ending.{is_end, taken_out, ended_label_is, words_left, end_result}
use Rattle.thread_frames.proofs.thread.Thread.end.Goals as goal

pub returns-clause-label : goal.returns-clause-label
returns-clause-label c =
    let b = c.args.self.now in
    let is = is_end b.children.items b.prepared c.requires.next in
    let goes = taken_out b.run.state c.count_action.new.self c.replace.result c.replace.ensures.value c.count_action.ensures in
    placed_gives b (search props) c.requires.placed (λ t k setting of x.
    (let a = prepared_as setting t b.func b.run b.children.items b.record_block End b.prepared (sym is) x in
    (ended_label_is setting t b.func b.run b.children.items b.record_block _ goes a).0 ∙ sym a.stands.state.label))

pub returns-clause-words : goal.returns-clause-words
returns-clause-words c =
    let b = c.args.self.now in
    let is = is_end b.children.items b.prepared c.requires.next in
    let goes = taken_out b.run.state c.count_action.new.self c.replace.result c.replace.ensures.value c.count_action.ensures in
    placed_gives b (search props) c.requires.placed (λ t k setting of x.
    (let a = prepared_as setting t b.func b.run b.children.items b.record_block End b.prepared (sym is) x in
    words_left setting t b.func b.run b.children.items b.record_block _ goes a))

pub returns-clause-record : goal.returns-clause-record
returns-clause-record c =
    let b = c.args.self.now in
    let is = is_end b.children.items b.prepared c.requires.next in
    ap recorded c.take-record.ensures.value ∙ placed_gives b (search props) c.requires.placed (λ t k setting of x.
    (let a = prepared_as setting t b.func b.run b.children.items b.record_block End b.prepared (sym is) x in
    a.record_block ∙ ap words_at_end (sym a.stands.state.label)))

pub returns-clause-result : goal.returns-clause-result
returns-clause-result c = λ t k at.
    let b = c.args.self.now in
    let is = is_end b.children.items b.prepared c.requires.next in
    let goes = taken_out b.run.state c.count_action.new.self c.replace.result c.replace.ensures.value c.count_action.ensures in
    record {
      of_program = at.of_program;
      at = λ setting of. ∥∥₁_map (at.at setting of) (λ x.
          end_result setting t b.func b.run b.children.items b.record_block _ refl c.replace-2.ensures.value goes
          (prepared_as setting t b.func b.run b.children.items b.record_block End b.prepared (sym is) x));
    }
