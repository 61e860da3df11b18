-- What callers need of what this crate stands on.
pub use Rattle.hall_actions.specs.Stepping as Stepping
pub use Rattle.hall_actions.specs.declared.refused.ActRefused as ActRefused
pub use Rattle.hall_actions.specs.declared.refused.ActRefused.TheVariants as ActRefusedVariants
