use Rattle.std.proofs.Common.{◌≡◌, ◌+◌, ◌≤◌, ◌++◌, length, drop}
use Rattle.std.specs.Prelude.{vec_len, vec_capacity}
use Rattle.flat_program.proofs.marking.push_all.Given as goal

-- the frames so far, and those that are left, are all; and there is room for those
abbrev pub invariant-loop-frame : goal.invariant-loop-frame
invariant-loop-frame l = record {
  all : l.stack.items ++ drop l.frame-index l.frames ≡ l.initial.stack.items ++ l.frames;
  room : vec_len l.stack + length (drop l.frame-index l.frames) ≤ vec_capacity l.stack;
}
