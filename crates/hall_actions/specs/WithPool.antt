-- What an owner does that holds the pool beside its lane, whichever the action is.
use Rattle.std.specs.Prelude.{◌≡◌, ℕ, ◌<◌, List, [], length, IsTrue, ◌≢◌}
use Rattle.hall_parts.specs.HallNames.{ActionId, is_there, children_of, join_words_of, label_of, newest, Next, Thread}
use Rattle.depth_first_list.specs.Actions.{record_words}
use Rattle.hall_parts.specs.Passed.Acts.{AllocIsCharged, Always}
use Rattle.hall_parts.specs.Forks.{ForksHere}
use Rattle.hall_parts.specs.Here.{ActsHere}
use Rattle.hall_parts.specs.Ends.{EndsAbove}
use Rattle.hall_parts.specs.Joins.{JoinsHere}
use Rattle.hall_parts.specs.Passed.ThreadActionsResults.{FirstAwaits}
use Rattle.hall_slots.specs.Passed.Period.{Period as OpenPeriod}
use Rattle.thread_frames.specs.declared.next.Next.TheVariants.{Fork, Join, Alloc, Release, Dummy, Fault, End}

-- the words that an action takes of the arena
abbrev pub words_asked_by : Next → ℕ
words_asked_by Fork = record_words
words_asked_by (Join child) = 0
words_asked_by (Alloc words) = words
words_asked_by (Release words) = 0
words_asked_by Dummy = 0
words_asked_by (Fault fault) = 0
words_asked_by End = 0

-- The action is one for which the pool is held: a Join has the result of its child, and releases words; a thread that ends was forked, and the first
-- of those under it, its parent, waits for it.
abbrev pub IsWithPool : Next → Thread → (under : List Thread) → Type 0
IsWithPool Fork top under = Unit {0}
IsWithPool (Join child) top under = IsTrue (is_there (newest (children_of top))) × (0 < join_words_of top)
IsWithPool (Alloc words) top under = Unit {0}
IsWithPool (Release words) top under = Unit {0}
IsWithPool Dummy top under = ⊥
IsWithPool (Fault fault) top under = Unit {0}
IsWithPool End top under = (0 < length (label_of top)) × (under ≢ []) × FirstAwaits top under

-- What it does to the lane and the period, which has so many words less of the quota if it is an Alloc.
abbrev pub DoesWithPool : Next → (charge : ℕ) → Thread → (under : List Thread) → OpenPeriod → (threads : List Thread) → OpenPeriod → ActionId → Type 0
DoesWithPool Fork charge top under before threads after name = ForksHere top under before threads after name
DoesWithPool (Join child) charge top under before threads after name = JoinsHere top under before threads after name
DoesWithPool (Alloc words) charge top under before threads after name =
    ActsHere (Alloc words) (AllocIsCharged charge) top under before threads after name charge []
DoesWithPool (Release words) charge top under before threads after name = ActsHere (Release words) Always top under before threads after name 0 []
DoesWithPool Dummy charge top under before threads after name = ⊥
DoesWithPool (Fault fault) charge top under before threads after name = ActsHere (Fault fault) Always top under before threads after name 0 []
DoesWithPool End charge top under before threads after name = EndsAbove top under before threads after name
