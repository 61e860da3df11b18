-- What callers need of what this crate stands on.
pub use Rattle.list_changes.specs.Events as ListChangesEvents
pub use Rattle.list_changes.specs.Shown as Shown
pub use Rattle.moment_shown.specs.Cuts as Cuts
pub use Rattle.moment_shown.specs.Events as MomentShownEvents
pub use Rattle.moment_shown.specs.Parts as Parts
pub use Rattle.moment_shown.specs.Standing as Standing
pub use Rattle.open_periods.specs.Laws as Laws
pub use Rattle.open_periods.specs.Names as Names
pub use Rattle.open_periods.specs.Numbers as Numbers
pub use Rattle.open_periods.specs.Periods as Periods
pub use Rattle.open_periods.specs.Tables as Tables
pub use Rattle.open_periods.specs.Telling as Telling
pub use Rattle.play_rules.specs.Choices as Choices
