use Rattle.std.proofs.Common.{arith}
use Rattle.std.proofs.lemmas.Grind.{common_steps}
use Rattle.byte_streams.proofs.Queues.{part_given}
use Rattle.byte_streams.proofs.byte_queue.ByteQueue.give.Goals as goal

pub returns-clause-gives : goal.returns-clause-gives
returns-clause-gives c = part_given c.args.self.now.bytes.items c.copy_from_slice.new.self _ c.args.self.now.given c.min-count.result (grind (arith, common_steps)) (grind (arith, common_steps))
