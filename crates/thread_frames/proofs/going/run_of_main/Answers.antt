use Rattle.node_table.specs.Codes.{code_shown}
use Rattle.thread_frames.proofs.Beginning.{begins_main}
use Rattle.thread_frames.proofs.going.run_of_main.Goals as goal

pub returns : goal.returns
returns c =
    begins_main (code_shown c.args.code.now) c.main-main.result c.slots_of-count.result c.in_ok-state.state c.in_ok-frames.frames c.new.result c.is_accepted.ensures c.main-main.ensures
    c.slots_of-count.ensures c.in_ok-state.ensures c.in_ok-frames.ensures c.new.ensures.items
