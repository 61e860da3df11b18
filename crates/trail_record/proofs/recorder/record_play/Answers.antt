use Rattle.std.proofs.Common.{◌≤◌, ◌+◌, ◌*◌, refl, sym, ap, subst, ◌∙◌, arith}
use Rattle.std.proofs.lemmas.Option.{same_Some}
use Rattle.containers.specs.BoundedList.{entries}
use Rattle.dfd_core.specs.Cores.{terms_at, workers_of}
use Rattle.trail_record.specs.Turns.{with_event}
use Rattle.trail_record.specs.Recorded.{PlaysRecorded, PlaysInPart}
use Rattle.trail_record.proofs.Recording.{at_error, IsRecording, begins_recording, goes_on_by, ends_by, stops_in_part, too_many}
use Rattle.trail_record.proofs.recorder.record_play.Goals as goal

pub returns-in-Some-clause-kept : goal.returns-in-Some-clause-kept
returns-in-Some-clause-kept g c = λ end is. (_, refl, same_Some _ _ (c.in-Some.ensures ∙ is), c.new-events.ensures, refl, refl)

pub loop-init : goal.loop-init
loop-init g c = subst (λ told. IsRecording (g.C.Choices.coming c.args.choices.now) (g.C.Choices.coming c.args.choices.now) c.args.core.now c.args.core.now 0 told)
    (sym c.new-events.ensures) (begins_recording (g.C.Choices.coming c.args.choices.now) c.args.core.now (sym c.end.ensures ∙ c.in_default.is))

pub returns-in_err-reserve-clause-played : goal.returns-in_err-reserve-clause-played
returns-in_err-reserve-clause-played g c = λ none s run m at.
    at_error (λ r. PlaysRecorded s (terms_at c.args.core.now) (g.C.Choices.coming c.args.choices.now) (g.C.Choices.coming c.loop.choices) c.loop.core run m r.end (entries r.events))
    (PlaysInPart s (terms_at c.args.core.now) (g.C.Choices.coming c.args.choices.now) (g.C.Choices.coming c.loop.choices) c.loop.core run m) c.from_residual.result _ c.from_residual.ensures.1
    (stops_in_part (g.C.Choices.coming c.args.choices.now) (g.C.Choices.coming c.loop.choices) c.args.core.now c.loop.core c.loop.counter (entries c.loop.events)
    c.loop.invariant s run m at)

pub returns-in-Some-end-clause-played : goal.returns-in-Some-end-clause-played
returns-in-Some-end-clause-played g c = λ none s run m at.
    subst (λ told. PlaysRecorded s (terms_at c.args.core.now) (g.C.Choices.coming c.args.choices.now) (g.C.Choices.coming c.record_turn.new.choices) c.record_turn.new.core run m c.in-Some-end.end told)
    (ap (λ told. with_event told c.record_turn.result) (sym c.in_ok-reserve.ensures.entries) ∙ sym c.note.ensures)
    (ends_by (g.C.Choices.coming c.args.choices.now) (g.C.Choices.coming c.loop.choices) (g.C.Choices.coming c.record_turn.new.choices) c.args.core.now c.loop.core c.record_turn.new.core
    c.loop.counter (entries c.loop.events) c.loop.invariant c.record_turn.result c.record_turn.ensures.turn c.record_turn.ensures.setting c.in-Some-end.end (sym c.in-Some-end.ensures) s run m at)

pub loop-preserved : goal.loop-preserved
loop-preserved g c =
    subst (λ told. IsRecording (g.C.Choices.coming c.args.choices.now) (g.C.Choices.coming c.record_turn.new.choices) c.args.core.now c.record_turn.new.core (c.loop.counter + 1) told)
    (ap (λ told. with_event told c.record_turn.result) (sym c.in_ok-reserve.ensures.entries) ∙ sym c.note.ensures)
    (goes_on_by (g.C.Choices.coming c.args.choices.now) (g.C.Choices.coming c.loop.choices) (g.C.Choices.coming c.record_turn.new.choices) c.args.core.now c.loop.core c.record_turn.new.core
    c.loop.counter (entries c.loop.events) c.loop.invariant c.record_turn.result c.record_turn.ensures.turn c.record_turn.ensures.setting (sym c.end-in-loop.ensures ∙ c.in_default-end.is))

pub unreachable-requires : goal.unreachable-requires
unreachable-requires g c =
    let most = c.most_turns-end.ensures in let test = c.loop-test.false in
    let many : 5 * (terms_at c.args.core.now).limits.actions + 2 * workers_of c.args.core.now + 1 ≤ c.loop.counter = omega (arith, most, test) in
    too_many (g.C.Choices.coming c.args.choices.now) (g.C.Choices.coming c.loop.choices) c.args.core.now c.loop.core c.loop.counter (entries c.loop.events) c.loop.invariant many
