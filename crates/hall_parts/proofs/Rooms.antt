-- What parts show in which there is more room.
use Rattle.std.proofs.Common.{◌≡◌, List, map}
use Rattle.std.specs.Option.{option_map}
use Rattle.block_arena.specs.Region.{Region}
use Rattle.deque_list.specs.Orders.{OrderView}
use Rattle.moment_laws.specs.Passed.Parts as parts
use Rattle.hall_slots.specs.Passed.Periods.{closed_shown}
use Rattle.hall_slots.specs.Passed.ThreadFramesKept.{waiting_shown, result_kept}
use Rattle.hall_parts.specs.HallNames.{list_shown, pool_shown, end_shown, ListSlot, PoolSlot}
use Rattle.hall_parts.specs.Rooms.{KeepsDeques, IsSamePool}

pub pool_same : (was now : PoolSlot) → IsSamePool was now → pool_shown now ≡ pool_shown was
pool_same was now same = λ i. record { live = Region.live (same.pool i); moves = same.moves i }

-- a list shows the same but for what it keeps in no order
pub shown_with : (was now : ListSlot) → KeepsDeques was now → (waiting : List parts.Thread) (results : List parts.Result) → map waiting_shown now.part.waiting.entries ≡ waiting
    → map result_kept now.part.results.entries ≡ results → list_shown now ≡ record (list_shown was) { waiting = waiting; results = results }
shown_with was now keeps waiting results waits kept = λ i. record {
  places = OrderView.places (keeps.order i);
  crew = (keeps.crew i).items;
  waiting = waits i;
  results = kept i;
  closed = map closed_shown (keeps.closed i);
  begun = keeps.begun i;
  kept = option_map end_shown (keeps.end i);
}
