use Rattle.std.proofs.Common.{◌++◌, inl, inr, arith}
use Rattle.std.proofs.lemmas.Grind.{common_steps}
use Rattle.byte_streams.proofs.Streams.{gives_both, read_whole}
use Rattle.byte_streams.proofs.reading.read_source.Goals as goal
use Rattle.byte_streams.proofs.reading.read_source.Goals.{else-pulls-test, then-pulls-test+in_ok-pull_into+then-branch-eq0}

pub returns-in_err-pull_into-clause-goes_on : goal.returns-in_err-pull_into-clause-goes_on
returns-in_err-pull_into-clause-goes_on g c =
    let more = c.pull_into.ensures.goes_on in
    (c.pulls.text.items ++ more.0, gives_both _ _ _ _ _ c.pulls.invariant.gave more.1)

pub returns-clause-goes_on : goal.returns-clause-goes_on
returns-clause-goes_on g c = elim c.pulls-test.branch [
  | else-pulls-test w ↦ (c.pulls.text.items, rw w.source-is c.pulls.invariant.gave)
  | then-pulls-test+in_ok-pull_into+then-branch-eq0 w ↦
      let more = w.pull_into.ensures.goes_on in
      (c.pulls.text.items ++ more.0, rw w.source-is (gives_both _ _ _ _ _ c.pulls.invariant.gave more.1))
]

pub returns-clause-read : goal.returns-clause-read
returns-clause-read g c = elim c.pulls-test.branch [
  | else-pulls-test w ↦
      rw (w.source-is, w.text-is) (read_whole _ _ _ _ c.pulls.invariant.gave (grind (arith, common_steps)) (inl (grind (arith, common_steps))))
  | then-pulls-test+in_ok-pull_into+then-branch-eq0 w ↦
      let gave = w.in_ok-pull_into.ensures.gives in
      let ended = w.in_ok-pull_into.ensures.end in
      let text = w.in_ok-pull_into.ensures.text in
      rw (w.source-is, w.text-is) (read_whole _ _ _ _ (rw text (gives_both _ _ _ _ _ c.pulls.invariant.gave gave)) (grind (arith, common_steps)) (inr (ended w.if-branch-eq0.true (grind (arith, common_steps)))))
]
