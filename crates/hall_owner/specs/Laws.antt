-- The law of what an owner sees.
use Rattle.std.specs.Prelude.{◌≡◌, Option}
use Rattle.hall_actions.specs.Passed.HallNames.{DequeId, Event, HallKey, ListSlot, Next}
use Rattle.hall_slots.specs.declared.event.Event.TheVariants.{Did, Suspended, GaveUp}
use Rattle.hall_actions.specs.declared.at_next.AtNext.{AtNext}
use Rattle.hall_owner.specs.Decided.{IsEventOf}

-- the same event, of an action whatever its name
abbrev pub IsSameEvent : Event → Event → Type 0
IsSameEvent (Did name) (Did other) = Unit {0}
IsSameEvent (Suspended thread) (Suspended other) = thread ≡ other
IsSameEvent (GaveUp id) (GaveUp other) = id ≡ other
IsSameEvent event other = ⊥

-- One lane and one list show one event. So an owner does each event exactly where they show it.
abbrev pub OneEvent : Type 0
OneEvent = (key : HallKey) (deque : DequeId) (at : AtNext) (next : Next) (seen : Option ListSlot) (event other : Event)
    → IsEventOf key deque at next seen event → IsEventOf key deque at next seen other → IsSameEvent event other
