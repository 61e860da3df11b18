-- Threads and results as the parts of a scheduler have them.
use Rattle.std.specs.Prelude.{map, reverse}
use Rattle.moment_shown.specs.Parts as parts
use Rattle.thread_frames.specs.Views.{Child, children_of, label_of, done_of, thread_words, ended_label, ended_words}
use Rattle.thread_frames.specs.declared.thread.Thread.{Thread}
use Rattle.thread_frames.specs.declared.ended.Ended.{Ended}

-- an open child
abbrev pub child_shown : Child → parts.Child
child_shown child = record { id = child.id; ordinal = child.ordinal; func = child.func; delivered = child.delivered }

-- a thread; its open children stand the newest first
abbrev pub thread_shown : Thread → parts.Thread
thread_shown x = record {
  id = x.id;
  parent = x.parent;
  label = label_of x;
  done = done_of x;
  func = x.func;
  children = map child_shown (reverse (children_of x));
  words = thread_words x;
}

-- a result
abbrev pub result_shown : Ended → parts.Result
result_shown r = record { id = r.id; label = ended_label r; func = r.func; words = ended_words r }
