use Rattle.std.proofs.Common.{◌≡◌, take}
use Rattle.prefix_laws.specs.DequeLabels.{labels_in}
use Rattle.prefix_laws.proofs.deque_labels.labels_in.Given as goal

-- the labels of the first deques are there
abbrev pub invariant-deques : goal.invariant-deques
invariant-deques l = l.labels.items ≡ labels_in (take l.rank l.list.deques)
