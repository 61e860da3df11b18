use Rattle.std.proofs.Common.{sym, ◌∙◌, rules}
use Rattle.thread_run.proofs.Ways.{below_taken, left_within}
use Rattle.thread_run.proofs.run.ThreadRun.flat_start.Goals as goal

pub returns : goal.returns
returns c =
    let run = c.args.self.now in
    let left = c.in-Some-left_below.left in
    let above = c.in-Some-left_below.ensures.some in
    let items = sym c.deref.ensures.value ∙ c.in-Some.ensures.cases.0 in
    record {
      going = search rules;
      begins = c.in-Some-start.ensures;
      long = search rules;
      within = left_within left run.frames c.in-Some.below.now c.in-Some.frame.now items above.0;
      mark = below_taken left run.frames.items c.in-Some.below.now _ c.in-Some.frame.now items above.0 above.1;
    }
