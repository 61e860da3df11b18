use Rattle.std.proofs.Common.{◌≡◌, ◌++◌, map, take}
use Rattle.thread_frames.specs.Views.{label_of}
use Rattle.prefix_laws.proofs.deque_labels.add_labels.Given as goal

-- the labels of the first threads stand behind the others
abbrev pub invariant-threads : goal.invariant-threads
invariant-threads l = l.labels.items ≡ l.initial.labels.items ++ map label_of (take l.place l.lane.items)
