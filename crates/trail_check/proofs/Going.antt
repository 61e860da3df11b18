-- A checker goes on to the moment after an event.
use Rattle.std.proofs.Common.{◌≡◌, ℕ, List, [], ◌∷◌, ◌++◌, true, sym, subst, ◌∙◌}
use Rattle.std.specs.List.{AllZip}
use Rattle.containers.specs.BoundedList.{entries}
use Rattle.deque_machine.specs.Moments.{Moment, opening}
use Rattle.deque_machine.specs.Machine.{Setting, Event, May}
use Rattle.deque_machine.specs.Play.{Limits}
use Rattle.deque_machine.specs.Runs.{Pair}
use Rattle.deque_machine.proofs.Kept.{kept}
use Rattle.serial_journal.specs.Telling.{ShowsAction}
use Rattle.trail_check.specs.Partners.{ArePartners}
use Rattle.trail_meaning.specs.declared.trail_kind.TrailKind.{TrailKind}
use Rattle.trail_check.specs.Following.{Tells, pair_of}
use Rattle.trail_check.specs.declared.checker.Checker.{Checker}
use Rattle.trail_check.specs.Places.{PlacesAre}
use Rattle.trail_check.specs.Counts.{TallyIs}
use Rattle.trail_check.specs.Standing.{Knows, StandsFor}
use Rattle.trail_check.specs.Steps.{told_of, Came}
use Rattle.trail_check.proofs.Counting.{reaches_more}

-- what no event changes
pub record SameList (c d : Checker) : Type 0 where
  pub actions : entries d.actions ≡ entries c.actions
  pub partners : d.partners.items ≡ c.partners.items
  pub quota : d.quota ≡ c.quota
  pub workers : d.workers ≡ c.workers
  pub arena : d.arena ≡ c.arena
  pub steps : d.steps ≡ c.steps
  pub most : d.most ≡ c.most
  pub list_most : d.deques.most ≡ c.deques.most

pub knows_on : (s : Setting) (limits : Limits) (c d : Checker) → SameList c d → Knows s limits c → Knows s limits d
knows_on s limits c d same knows = record {
  some = knows.some;
  depth_first = knows.depth_first;
  births = knows.births;
  actions = subst (λ t. AllZip (ShowsAction knows.births) s.list t) (sym same.actions) knows.actions;
  partners = subst (ArePartners s.list) (sym same.partners) knows.partners;
  quota = knows.quota ∙ sym same.quota;
  workers = knows.workers ∙ sym same.workers;
  capacity = knows.capacity ∙ sym same.arena;
  steps = knows.steps ∙ sym same.steps;
  most = knows.most ∙ sym same.most;
  list_most = same.list_most ∙ knows.list_most ∙ sym same.most;
}

-- the event came
pub came : (s : Setting) (limits : Limits) (run : List Pair) (m : Moment) (c d : Checker) → StandsFor s limits run m c → (worker : ℕ) (kind : TrailKind) (event : Event) (next : Moment)
    → Tells m kind event → May s m worker event next → SameList c d → PlacesAre s next d.deques.deques d.seats.items d.waits.items
    → TallyIs s (run ++ pair_of worker event ∷ []) next d.tally → Came s limits run m (told_of worker kind) true d
came s limits run m c d stands worker kind event next tells may same places tally = (
  event,
  next,
  tells,
  may,
  record {
    knows = knows_on s limits c d same stands.knows;
    lawful = kept s (stands.knows).depth_first m stands.lawful worker event next may;
    reaches = reaches_more s run (pair_of worker event) opening m next stands.reaches may;
    places = places;
    tally = tally;
  },
)
