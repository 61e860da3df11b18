use Rattle.std.proofs.Common.{List, ℕ, IfOk, subst}
use Rattle.byte_streams.specs.Sink.{Takes}
use Rattle.dfd_plays.proofs.Answers.{ends_at_text, has_memory, counts_none}
use Rattle.dfd_plays.specs.Answer.{BytesGive}
use Rattle.dfd_plays.proofs.call.write_answer.Goals as goal

pub returns-in-Ok-write_text-clause-ends : goal.returns-in-Ok-write_text-clause-ends
returns-in-Ok-write_text-clause-ends g c = λ command bytes gives.
    ends_at_text command bytes _ _ c.in-Ok.answer.status c.in-Ok.answer.text.items
    (subst (λ made. IfOk made (λ answer. BytesGive command bytes answer.status answer.text.items)) c.in-Ok.is gives)
    (subst (λ (t : List ℕ). Takes (g.W.Sink.taken c.args.sink.now) (g.W.Sink.taken c.write_text.new.sink) t) c.deref.ensures.value
    c.in-Ok-write_text.ensures.whole)

pub returns-in-Ok-write_text-clause-no_memory : goal.returns-in-Ok-write_text-clause-no_memory
returns-in-Ok-write_text-clause-no_memory g c = λ command bytes gives is.
    absurd (has_memory command bytes c.in-Ok.answer.status c.in-Ok.answer.text.items
    (subst (λ made. IfOk made (λ answer. BytesGive command bytes answer.status answer.text.items)) c.in-Ok.is gives) is)

pub returns-in-Ok-write_text-clause-counts : goal.returns-in-Ok-write_text-clause-counts
returns-in-Ok-write_text-clause-counts g c = λ command bytes gives reads.
    counts_none command bytes c.in-Ok.answer.status c.in-Ok.answer.text.items
    (subst (λ made. IfOk made (λ answer. BytesGive command bytes answer.status answer.text.items)) c.in-Ok.is gives) reads _ _
    c.in-Ok-write_text.ensures.quiet
