use Rattle.depth_first_list.specs.QuotaWords.{quota_words}
use Rattle.node_table.specs.Codes.{code_shown}
use Rattle.thread_stack.specs.Measure.{left_to_do}
use Rattle.thread_run.specs.Functions.{frames_of}
use Rattle.thread_run.specs.Stepping.{UnderWay}
use Rattle.thread_run.proofs.run.ThreadRun.advance.Given as goal

abbrev pub invariant-steps : goal.invariant-steps
invariant-steps l = UnderWay (code_shown l.code) (quota_words l.k) l.initial.self l.self

abbrev pub decreases-steps : goal.decreases-steps
decreases-steps l = left_to_do (code_shown l.code) l.self.state.turns (frames_of l.self)
