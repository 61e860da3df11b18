-- What callers need of what this crate stands on.
pub use Rattle.hall_parts.specs.EventParts as EventParts
pub use Rattle.hall_parts.specs.HallNames as HallNames
pub use Rattle.hall_parts.specs.Leaving as Leaving
pub use Rattle.hall_parts.specs.Own as Own
pub use Rattle.hall_parts.specs.Puts as Puts
pub use Rattle.hall_parts.specs.Rooms as Rooms
pub use Rattle.hall_parts.specs.Taken as Taken
pub use Rattle.hall_parts.specs.Writes as Writes
pub use Rattle.hall_parts.specs.declared.noting.Noting as Noting
pub use Rattle.hall_parts.specs.declared.noting.Noting.TheVariants as NotingVariants
