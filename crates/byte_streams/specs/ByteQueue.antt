-- What a queue of bytes has left.
use Rattle.std.specs.Prelude.{ℕ, List, drop}
use Rattle.byte_streams.specs.declared.byte_queue.ByteQueue.{ByteQueue}

-- the bytes that were not given yet
abbrev pub bytes_left : ByteQueue → List ℕ
bytes_left queue = drop queue.given queue.bytes.items
