use Rattle.std.proofs.Common.{ℕ, subst, sym}
use Rattle.byte_streams.specs.Faults.{Rose}
use Rattle.byte_streams.specs.Source.{IsRead}
use Rattle.dfd_plays.proofs.Answers.{bytes_of_run, command_of_read, ends_more, read_of_kind, run_is_not_made}
use Rattle.dfd_plays.specs.Answer.{BytesGive, ReadGives, most_read}
use Rattle.dfd_plays.specs.Counts.{Counts}
use Rattle.dfd_run.proofs.call.serve_in_threads.Goals as goal

pub returns-in-Ok-clause-ends : goal.returns-in-Ok-clause-ends
returns-in-Ok-clause-ends g c =
    let command = c.args.command.now in
    let left = g.S.Source.left c.args.source.now in
    let left' = g.S.Source.left c.read_source.new.source in
    let failed = Rose (g.S.Source.faults c.args.source.now) (g.S.Source.faults c.read_source.new.source) in
    let read : IsRead (most_read command.kind) left left' c.deref.result.now =
    rw c.deref.ensures.value (subst (λ n. IsRead n left left' c.in-Ok.bytes.items) c.most_read.ensures c.in-Ok.ensures.read) in
    ends_more (BytesGive command c.deref.result.now) _ _ _ _
    (λ status text gives. command_of_read command.kind command failed left left' (run_is_not_made command.kind c.requires.in_threads) status text
    (read_of_kind command failed left left' c.deref.result.now status text read gives))
    (c.write_answer.ensures.ends command c.deref.result.now
    (bytes_of_run command c.deref.result.now c.run.result c.requires.in_threads c.run.ensures))

pub returns-in-Ok-clause-no_memory : goal.returns-in-Ok-clause-no_memory
returns-in-Ok-clause-no_memory g c =
    let command = c.args.command.now in
    c.write_answer.ensures.no_memory command c.deref.result.now
    (bytes_of_run command c.deref.result.now c.run.result c.requires.in_threads c.run.ensures)

pub returns-in-Ok-clause-counts : goal.returns-in-Ok-clause-counts
returns-in-Ok-clause-counts g c =
    let command = c.args.command.now in
    subst (λ (n : ℕ). Counts c.write_answer.result (g.S.Source.faults c.args.source.now) n (g.W.Sink.faults c.args.sink.now)
    (g.W.Sink.faults c.write_answer.new.sink)) (sym c.in-Ok.ensures.cause)
    (c.write_answer.ensures.counts command c.deref.result.now
    (bytes_of_run command c.deref.result.now c.run.result c.requires.in_threads c.run.ensures) (g.S.Source.faults c.args.source.now))

pub returns-in-Err-Fault-clause-ends : goal.returns-in-Err-Fault-clause-ends
returns-in-Err-Fault-clause-ends g c =
    let command = c.args.command.now in
    let reads = g.S.Source.faults c.args.source.now in
    let later = g.S.Source.faults c.read_source.new.source in
    let left = g.S.Source.left c.args.source.now in
    let left' = g.S.Source.left c.read_source.new.source in
    ends_more (ReadGives command (Rose reads later) left left') _ _ _ _
    (λ status text gives. command_of_read command.kind command (Rose reads later) left left'
    (run_is_not_made command.kind c.requires.in_threads) status text gives)
    (c.write_read_fault.ensures.ends command reads later left left' (rw c.in-Err-Fault.field-0-is at c.in-Err-Fault.ensures.cause))
