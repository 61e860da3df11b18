-- For which event the next action of an owner asks, by its lane and by what is kept in the list.
use Rattle.std.specs.Prelude.{◌≡◌, ℕ, ◌+◌, ◌≤◌, ◌<◌, true, false, Option, None, Some, [], length, IsSome, IsTrue}
use Rattle.hall_actions.specs.Passed.HallNames.{HallKey, ListSlot, ThreadId, is_there, is_delivered, children_of, join_words_of, label_of, newest, Ended, Next}
use Rattle.hall_actions.specs.Passed.HallNames.{Thread, kept_under}
use Rattle.hall_actions.specs.declared.at_next.AtNext.{AtNext}
use Rattle.hall_actions.specs.Quotas.{MayUse}
use Rattle.hall_actions.specs.WithPool.{IsWithPool, words_asked_by}
use Rattle.hall_actions.specs.declared.with_all.WholeEvent.{WholeEvent}
use Rattle.hall_actions.specs.declared.with_all.WholeEvent.TheVariants as whole
use Rattle.hall_actions.specs.declared.with_list.ListEvent.{ListEvent}
use Rattle.hall_actions.specs.declared.with_list.ListEvent.TheVariants.{GiveUp, Wait, Dummy, Join, RootEnd}
use Rattle.hall_owner.specs.Decided.{IsDue, IsSpent}
use Rattle.hall_owner.specs.declared.taken.Taken.{Taken}
use Rattle.hall_owner.specs.declared.taken.Taken.TheVariants.{OnLane, WithPool, WithList, WithAll}
use Rattle.hall_owner.specs.declared.wanted.Chosen.{Chosen}
use Rattle.hall_owner.specs.declared.wanted.Chosen.TheVariants.{Alone, Beside}
use Rattle.hall_owner.specs.declared.wanted.ListWanted.{ListWanted}
use Rattle.hall_owner.specs.declared.wanted.ListWanted.TheVariants as listed
use Rattle.hall_owner.specs.declared.wanted.Wanted.{Wanted}
use Rattle.hall_owner.specs.declared.wanted.Wanted.TheVariants as wanted
use Rattle.thread_frames.specs.Passed.Joins.{released}
use Rattle.thread_frames.specs.declared.next.Next.TheVariants as nexts

-- For the Join of a child: whether a result is kept for it, and how many words the thread releases with it.
abbrev pub IsKeptFor : ListSlot → Thread → ThreadId → Option ℕ → Type 0
IsKeptFor list top child None = kept_under list.part.results child ≡ None
IsKeptFor list top child (Some words) =
    (ended : Ended) × (kept_under list.part.results child ≡ Some ended) × (words ≡ released top.run.state ended.state)

-- ---- by the lane

-- The Join of a child whose result was handed over and releases no words.
abbrev pub JoinsOnLane : AtNext → Next → ThreadId → Type 0
JoinsOnLane at next child = (next ≡ nexts.Join child) × IsTrue (is_there (newest (children_of at.top)))
    × (is_delivered child (children_of at.top) ≡ true) × (join_words_of at.top ≡ 0)

-- An action that needs the pool and may be done, and uses so many words of the quota.
pub record AsksWithPool (key : HallKey) (worker : ℕ) (at : AtNext) (next : Next) (charge : ℕ) : Type 0 where
  pub suits : IsWithPool next at.top at.lane.items
  pub due : IsDue key at next None
  pub uses : MayUse key worker next charge at.top at.running.period

-- Why the list is needed: the quota is spent; or it is a Dummy; or the Join of a child whose result was not handed over; or the End of a thread that
-- is alone in its deque.
abbrev pub IsWantedOfList : HallKey → AtNext → Next → ListWanted → Type 0
IsWantedOfList key at next listed.GiveUp = IsSpent key at next
IsWantedOfList key at next listed.Dummy = next ≡ nexts.Dummy
IsWantedOfList key at next (listed.Kept child) = (next ≡ nexts.Join child) × (is_delivered child (children_of at.top) ≡ false)
IsWantedOfList key at next listed.End = (next ≡ nexts.End) × (at.lane.items ≡ [])

abbrev pub IsWanted : HallKey → (worker : ℕ) → AtNext → Next → Wanted → Type 0
IsWanted key worker at next (wanted.Lane child) = JoinsOnLane at next child
IsWanted key worker at next (wanted.Pool charge) = AsksWithPool key worker at next charge
IsWanted key worker at next (wanted.List why) = IsWantedOfList key at next why

-- ---- by the list too

-- The quota is spent; or it is a Dummy; or the Join of a child whose result was not handed over, which is not in the list, or is there and releases
-- nothing; or the End of the root.
abbrev pub IsAskedByList : HallKey → ListSlot → AtNext → Next → ListEvent → Type 0
IsAskedByList key list at next GiveUp = IsSpent key at next
IsAskedByList key list at next (Wait child) =
    (next ≡ nexts.Join child) × (is_delivered child (children_of at.top) ≡ false) × (kept_under list.part.results child ≡ None)
IsAskedByList key list at next Dummy = next ≡ nexts.Dummy
IsAskedByList key list at next (Join child) = (next ≡ nexts.Join child) × (is_delivered child (children_of at.top) ≡ false)
    × (words : ℕ) × (words ≡ 0) × IsKeptFor list at.top child (Some words)
IsAskedByList key list at next RootEnd = (next ≡ nexts.End) × (label_of at.top ≡ []) × (at.lane.items ≡ [])

-- With the pool: such a Join that releases words; or the End of a forked thread that is alone in its deque, whose parent waits in the list or does not.
abbrev pub IsAskedByAll : ListSlot → AtNext → Next → WholeEvent → Type 0
IsAskedByAll list at next (whole.Join child) = (next ≡ nexts.Join child) × (is_delivered child (children_of at.top) ≡ false)
    × (words : ℕ) × (0 < words) × IsKeptFor list at.top child (Some words)
IsAskedByAll list at next whole.Wake =
    (next ≡ nexts.End) × (0 < length (label_of at.top)) × (at.lane.items ≡ []) × IsSome (kept_under list.part.waiting (Thread.id at.top))
IsAskedByAll list at next whole.Leave =
    (next ≡ nexts.End) × (0 < length (label_of at.top)) × (at.lane.items ≡ []) × (kept_under list.part.waiting (Thread.id at.top) ≡ None)

abbrev pub IsChosen : HallKey → ListSlot → AtNext → Next → Chosen → Type 0
IsChosen key list at next (Alone event) = IsAskedByList key list at next event
IsChosen key list at next (Beside event) = IsAskedByAll list at next event

-- ---- by all that was taken

-- The words of an action that takes some fit the pool. No end is kept in the list.
abbrev pub IsAskedFor : HallKey → (worker : ℕ) → AtNext → Next → Taken → Type 0
IsAskedFor key worker at next (OnLane child) = JoinsOnLane at next child
IsAskedFor key worker at next (WithPool pool action charge) = (action ≡ next) × AsksWithPool key worker at next charge
    × (pool.pool.live + words_asked_by next ≤ pool.pool.capacity)
IsAskedFor key worker at next (WithList list event) = (list.end ≡ None) × IsAskedByList key list at next event
IsAskedFor key worker at next (WithAll list pool event) = (list.end ≡ None) × IsAskedByAll list at next event
