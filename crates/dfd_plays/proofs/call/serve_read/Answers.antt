use Rattle.std.proofs.Common.{ℕ, subst, sym}
use Rattle.byte_streams.specs.Faults.{Rose}
use Rattle.byte_streams.specs.Source.{IsRead}
use Rattle.dfd_plays.proofs.Answers.{read_of_kind, ends_more}
use Rattle.dfd_plays.specs.Answer.{BytesGive, most_read}
use Rattle.dfd_plays.specs.Counts.{Counts}
use Rattle.dfd_plays.proofs.call.serve_read.Goals as goal

pub returns-in-Ok-clause-ends : goal.returns-in-Ok-clause-ends
returns-in-Ok-clause-ends g c =
    let command = c.args.command.now in
    let left = g.S.Source.left c.args.source.now in
    let left' = g.S.Source.left c.read_source.new.source in
    let failed = Rose (g.S.Source.faults c.args.source.now) (g.S.Source.faults c.read_source.new.source) in
    let read : IsRead (most_read command.kind) left left' c.deref.result.now =
    rw c.deref.ensures.value (subst (λ n. IsRead n left left' c.in-Ok.bytes.items) c.most_read.ensures c.in-Ok.ensures.read) in
    ends_more (BytesGive command c.deref.result.now) _ _ _ _
    (λ status text gives. read_of_kind command failed left left' c.deref.result.now status text read gives)
    (c.write_answer.ensures.ends command c.deref.result.now c.answer_to.ensures)

pub returns-in-Ok-clause-no_memory : goal.returns-in-Ok-clause-no_memory
returns-in-Ok-clause-no_memory g c = c.write_answer.ensures.no_memory c.args.command.now c.deref.result.now c.answer_to.ensures

pub returns-in-Ok-clause-counts : goal.returns-in-Ok-clause-counts
returns-in-Ok-clause-counts g c =
    subst (λ (n : ℕ). Counts c.write_answer.result (g.S.Source.faults c.args.source.now) n (g.W.Sink.faults c.args.sink.now)
    (g.W.Sink.faults c.write_answer.new.sink)) (sym c.in-Ok.ensures.cause)
    (c.write_answer.ensures.counts c.args.command.now c.deref.result.now c.answer_to.ensures (g.S.Source.faults c.args.source.now))

pub returns-in-Err-Fault-clause-ends : goal.returns-in-Err-Fault-clause-ends
returns-in-Err-Fault-clause-ends g c =
    c.write_read_fault.ensures.ends c.args.command.now (g.S.Source.faults c.args.source.now) (g.S.Source.faults c.read_source.new.source)
    (g.S.Source.left c.args.source.now) (g.S.Source.left c.read_source.new.source) (rw c.in-Err-Fault.field-0-is at c.in-Err-Fault.ensures.cause)
