use Rattle.byte_streams.specs.Faults.{Rose}
use Rattle.dfd_plays.proofs.Answers.{command_of_read, command_of_made, ends_more}
use Rattle.dfd_plays.specs.Answer.{BytesGive, ReadGives, CommandGives}
use Rattle.dfd_plays.specs.Make.{source_of}
use Rattle.dfd_plays.proofs.call.serve.Goals as goal

pub returns-in-Make-clause-ends : goal.returns-in-Make-clause-ends
returns-in-Make-clause-ends g c =
    let command = c.args.command.now in
    let left = g.S.Source.left c.args.source.now in
    let failed = Rose (g.S.Source.faults c.args.source.now) (g.S.Source.faults c.args.source.now) in
    ends_more (BytesGive command (source_of command)) (CommandGives command failed left left) _ _ _
    (λ status text gives. command_of_made command.kind command failed left left c.in-Make.is status text gives) c.serve_made.ensures.ends

pub returns-in_default : goal.returns-in_default
returns-in_default g c =
    let command = c.args.command.now in
    let left = g.S.Source.left c.args.source.now in
    let left' = g.S.Source.left c.serve_read.new.source in
    let failed = Rose (g.S.Source.faults c.args.source.now) (g.S.Source.faults c.serve_read.new.source) in record {
      ends = ends_more (ReadGives command failed left left') (CommandGives command failed left left') _ _ _
          (λ status text gives. command_of_read command.kind command failed left left' c.in_default.not-Make status text gives)
          c.serve_read.ensures.ends;
      no_memory = c.serve_read.ensures.no_memory;
      unread = λ made. absurd (c.in_default.not-Make made);
      counts = c.serve_read.ensures.counts;
    }
