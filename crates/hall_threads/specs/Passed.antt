-- What callers need of what this crate stands on.
pub use Rattle.play_rules.specs.declared.stop.Stop as Stop
pub use Rattle.play_rules.specs.declared.stop.Stop.TheVariants as StopVariants
pub use Rattle.worker_entry.specs.Held as Held
pub use Rattle.worker_entry.specs.Seated as Seated
