-- The machine of a program: its depth-first list and its quota, and what is fixed beside the program.
use Rattle.std.specs.Prelude.{ℕ}
use Rattle.depth_first_run.specs.States as program
use Rattle.depth_first_run.specs.Run.{list_of}
use Rattle.deque_machine.specs.Machine.{Setting}
use Rattle.deque_machine.specs.Play.{Limits}

-- What is fixed for a run beside its program: how many workers there are, and what may stop it.
pub record Terms : Type 0 where
  pub workers : ℕ
  pub limits : Limits

-- so many workers, words, actions and deques
abbrev pub given_terms : (workers capacity actions deques : ℕ) → Terms
given_terms workers capacity actions deques =
    record { workers = workers; limits = record { capacity = capacity; actions = actions; deques = deques } }

-- the machine over the depth-first list of a program, with its quota
abbrev pub machine_of : program.Setting → Terms → Setting
machine_of c terms = record { list = list_of c; quota = c.quota; workers = terms.workers }
