-- A seat that failed to do its event notes what it noted, but for the end that it was answered and the stop that it found.
use Rattle.std.proofs.Common.{◌≡◌}
use Rattle.std.specs.Prelude.{Some}
use Rattle.worker_entry.specs.Owners.{FailsIn}
use Rattle.worker_entry.specs.declared.hall.Hall.{Hall}
use Rattle.worker_entry.specs.declared.seat.Seat.{Seat}
use Rattle.hall_owner.proofs.Called.{fails_note}
use Rattle.hall_owner.specs.Holding.{found_note}
use Rattle.hall_owner.specs.Passed.ActRefusedVariants.{Busy, Over, Stopped}
use Rattle.play_rules.specs.declared.ends.RunEnd.{RunEnd}
use Rattle.play_rules.specs.declared.stop.Stop.{Stop}
use Rattle.turn_table.specs.Tables.{key_of}
use Rattle.turn_table.specs.declared.held.Held.{Held}

module _ (hall : Hall) (before after : Seat) where
  pub busy_notes : (held : Held) → FailsIn hall before (Busy held) after → after.place.hand.note ≡ before.place.hand.note
  busy_notes held fails = fails_note (key_of hall.row) before.place fails.0 (Busy held) after.place fails.2

  pub over_notes : (end : RunEnd) → FailsIn hall before (Over end) after
      → after.place.hand.note ≡ record before.place.hand.note { answered = Some end }
  over_notes end fails = fails_note (key_of hall.row) before.place fails.0 (Over end) after.place fails.2

  pub stopped_notes : (stop : Stop) → FailsIn hall before (Stopped stop) after → after.place.hand.note ≡ found_note before.place.hand.note stop
  stopped_notes stop fails = fails_note (key_of hall.row) before.place fails.0 (Stopped stop) after.place fails.2
