-- What callers need of what this crate stands on.
pub use Rattle.moment_laws.specs.Results as MomentLawsResults
pub use Rattle.play_rules.specs.declared.ends.RunEnd as RunEnd
pub use Rattle.play_rules.specs.declared.ends.RunEnd.TheVariants as RunEndVariants
pub use Rattle.play_rules.specs.declared.stop.Stop as Stop
pub use Rattle.play_rules.specs.declared.stop.Stop.TheVariants as StopVariants
pub use Rattle.thread_actions.specs.Acts as Acts
pub use Rattle.thread_actions.specs.Readiness as Readiness
pub use Rattle.thread_actions.specs.Results as ThreadActionsResults
pub use Rattle.thread_actions.specs.declared.readiness.Readiness.TheVariants as ReadinessVariants
pub use Rattle.thread_points.specs.Points as Points
pub use Rattle.thread_state.specs.Joins as Joins
pub use Rattle.thread_state.specs.Settings as Settings
pub use Rattle.thread_state.specs.States as States
