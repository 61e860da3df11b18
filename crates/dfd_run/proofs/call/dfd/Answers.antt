use Rattle.std.proofs.Common.{ap, inl, inr, sym, ◌∙◌}
use Rattle.command_line.specs.declared.command.Command.{Command}
use Rattle.dfd_plays.proofs.Answers.{call_of_command, ends_at_fault, ends_more}
use Rattle.dfd_plays.specs.declared.status.Status.TheVariants.{Usage}
use Rattle.dfd_run.proofs.call.dfd.Goals as goal

pub returns-in-Err-clause-ends : goal.returns-in-Err-clause-ends
returns-in-Err-clause-ends g c =
    ends_at_fault _ _ _ Usage c.as_bytes.result.now (c.in_default.ensures.exact, c.as_bytes.ensures.value) c.in-Err.ensures.front

pub returns-in-Run-clause-ends : goal.returns-in-Run-clause-ends
returns-in-Run-clause-ends g c = ends_more _ _ _ _ _ (call_of_command _ _ _ _ _ c.in-Some.ensures.exact) c.serve_in_threads.ensures.ends

pub returns-in_default-kind : goal.returns-in_default-kind
returns-in_default-kind g c = record {
  ends = ends_more _ _ _ _ _ (call_of_command _ _ _ _ _ c.in-Some.ensures.exact) c.serve.ensures.ends;
  no_memory = λ is. ((c.in-Some.command, c.in-Some.ensures.exact), c.serve.ensures.no_memory is);
  unread = λ quiet. elim quiet [
    | inl none ↦ absurd (none c.in-Some.command c.in-Some.ensures.exact)
    | inr made ↦ c.serve.ensures.unread (sym (ap Command.kind (c.in-Some.ensures.only made.0 made.1)) ∙ made.2)
  ];
  counts = c.serve.ensures.counts;
}
