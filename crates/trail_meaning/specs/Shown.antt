-- What contracts see of a trail, as plain data.
use Rattle.std.specs.Prelude.{ℕ, List}
use Rattle.containers.specs.BoundedList.{entries}
use Rattle.trail_meaning.specs.declared.trail.Trail.{Trail}
use Rattle.trail_meaning.specs.declared.trail_event.TrailEvent.{TrailEvent}
use Rattle.trail_meaning.specs.declared.trail_numbers.TrailNumbers.{TrailNumbers}

-- the setting of a play, the bytes of its source, its events, and the numbers that it ended with
pub record TrailShown : Type 0 where
  pub k : ℕ
  pub p : ℕ
  pub arena : ℕ
  pub steps : ℕ
  pub deques : ℕ
  pub source : List ℕ
  pub events : List TrailEvent
  pub numbers : TrailNumbers

abbrev pub shown_by_trail : Trail → TrailShown
shown_by_trail t = record {
  k = t.k;
  p = t.p;
  arena = t.arena;
  steps = t.steps;
  deques = t.deques;
  source = t.source.items;
  events = entries t.events;
  numbers = t.numbers;
}
