-- What the depth-first run of a program wrote down is its list.
use Rattle.std.proofs.Common.{◌≡◌, ℕ, ◌<◌, ◌≤◌, length, refl, subst}
use Rattle.containers.specs.BoundedList.{entries}
use Rattle.depth_first_run.specs.States as program
use Rattle.depth_first_run.specs.Run.{whole, list_of}
use Rattle.par_tree.specs.Tree.{Program}
use Rattle.serial_journal.specs.Telling.{Tells}
use Rattle.serial_journal.specs.declared.serial.Serial.{Serial}
use Rattle.serial_meaning.specs.Settings.{setting_of}
use Rattle.trail_check.specs.Judging.{IsListOf}

-- a run that has no more actions than the limit, and is written down
abbrev pub Written : Serial → (limit : ℕ) → program.Setting → Type 0
Written run limit c = Tells (whole c).items run × (length (list_of c) ≤ limit)

-- of the quota that a trail has
pub written_at : (run : Serial) (limit : ℕ) (p : Program) (quota k : ℕ) → quota ≡ k → Written run limit (setting_of p quota) → Written run limit (setting_of p k)
written_at run limit p quota k is written = subst (λ q. Written run limit (setting_of p q)) is written

pub list_written : (run : Serial) (limit : ℕ) (p : Program) (k : ℕ) → Written run limit (setting_of p k) → IsListOf (setting_of p k) k (entries run.actions)
list_written run limit p k written = record { quota = refl; births = entries run.births; shows = (written.0).actions_are }

pub long_at : (limit : ℕ) (p : Program) (quota k : ℕ) → quota ≡ k → limit < length (list_of (setting_of p quota)) → limit < length (list_of (setting_of p k))
long_at limit p quota k is long = subst (λ q. limit < length (list_of (setting_of p q))) is long
