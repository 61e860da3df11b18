use Rattle.std.proofs.Common.{◌≡◌, drop}
use Rattle.thread_frames.specs.Children.{place_in}
use Rattle.thread_frames.proofs.Newest.{behind}
use Rattle.thread_frames.proofs.joins.place_of.Given as goal

-- the child is behind those that were passed
abbrev pub invariant-loop-place : goal.invariant-loop-place
invariant-loop-place l = behind l.place (place_in l.id (drop l.place l.children.items)) ≡ place_in l.id l.children.items
