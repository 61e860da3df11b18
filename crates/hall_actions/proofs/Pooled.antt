-- What an action does with the pool, whichever it is, may be put back.
use Rattle.std.proofs.Common.{◌≡◌, ◌≢◌, ℕ, ◌≤◌, List, [], ◌∷◌, refl, sym, ap, ◌∙◌, subst, arith}
use Rattle.std.specs.Prelude.{Some}
use Rattle.hall_parts.specs.HallNames.{DequeId, list_shown, pool_shown, HallKey, ActionId, Next, Thread}
use Rattle.deque_list.specs.Lanes.{LaneView}
use Rattle.depth_first_list.specs.Actions.{record_words}
use Rattle.hall_parts.specs.Here.{HasRoomHere, TakesWords}
use Rattle.hall_parts.specs.Passed.ThreadActionsResults.{FirstAwaits}
use Rattle.hall_slots.specs.Passed.Period.{Period as OpenPeriod}
use Rattle.hall_slots.specs.declared.event.Event.TheVariants.{Did}
use Rattle.hall_parts.specs.EventParts.{IsAtAction, MayDoNext}
use Rattle.hall_parts.specs.Writes.{Parts}
use Rattle.hall_parts.specs.Writing.{DoesEvent}
use Rattle.hall_parts.specs.declared.noting.Noting.TheVariants.{Does}
use Rattle.hall_parts.proofs.Lanes.{actions_do, joins_do, ends_above_do}
use Rattle.std.proofs.Math.Logic.{∥∥₁_map}
use Rattle.thread_frames.specs.declared.next.Next.TheVariants.{Fork, Join, Alloc, Release, Dummy, Fault, End}
use Rattle.hall_actions.specs.WithPool.{DoesWithPool, IsWithPool}

-- there is memory for fewer threads too
pub less_room : (threads : ℕ) (under : LaneView Thread) (running : OpenPeriod) (ready : ℕ) → threads ≤ 2 → HasRoomHere 2 under running ready
    → HasRoomHere threads under running ready
less_room threads under running ready few room = record { lane = let two = room.lane in omega (arith, few, two); period = room.period }

-- the first of those under a thread that ends
pub its_parent : (top : Thread) (under : List Thread) → under ≢ [] → FirstAwaits top under
    → (parent : Thread) × (below : List Thread) × (under ≡ parent ∷ below) × FirstAwaits top (parent ∷ below)
its_parent top [] some awaits = absurd (some refl)
its_parent top (parent ∷ below) some awaits = (parent, below, refl, awaits)

-- it is one event of the machine
pub with_pool_do : (key : HallKey) (worker : ℕ) (deque : DequeId) (was now : Parts) (top : Thread) (under : List Thread) (holder : ℕ) (before : OpenPeriod)
    → IsAtAction was.lane top under holder before → list_shown now.list ≡ list_shown was.list → (name : ActionId) (after : OpenPeriod)
    → now.lane.running ≡ Some (record { worker = holder; period = after }) → (next : Next) (charge : ℕ) → (next ≡ Fork → charge ≡ record_words)
    → IsWithPool next top under → DoesWithPool next charge top under before now.lane.lane.items after name
    → TakesWords next top name (pool_shown was.pool) (pool_shown now.pool) → MayDoNext key worker next charge top before
    → DoesEvent key worker deque was now (Does (Did name) (Some deque))
with_pool_do key worker deque was now top under holder before at same name after running Fork charge forks suits did takes may =
    actions_do key worker deque was now top under holder before at same name after running Fork record_words
    (record { parent = top.id; ordinal = did.0 } ∷ []) did.1 takes (subst (λ n. MayDoNext key worker Fork n top before) (forks refl) may)
with_pool_do key worker deque was now top under holder before at same name after running (Join child) charge forks suits did takes may =
    joins_do key worker deque was now top under holder before at same name after running child did takes (λ c of. ∥∥₁_map (may c of) (λ done. done.0))
with_pool_do key worker deque was now top under holder before at same name after running (Alloc words) charge forks suits did takes may =
    actions_do key worker deque was now top under holder before at same name after running (Alloc words) charge [] did takes may
with_pool_do key worker deque was now top under holder before at same name after running (Release words) charge forks suits did takes may =
    actions_do key worker deque was now top under holder before at same name after running (Release words) 0 [] did takes may
with_pool_do key worker deque was now top under holder before at same name after running Dummy charge forks suits did takes may = absurd suits
with_pool_do key worker deque was now top under holder before at same name after running (Fault fault) charge forks suits did takes may =
    actions_do key worker deque was now top under holder before at same name after running (Fault fault) 0 [] did takes may
with_pool_do key worker deque was now top under holder before at same name after running End charge forks suits did takes may =
    let above = its_parent top under suits.1 suits.2 in
    ends_above_do key worker deque was now top under holder before at same name after running above.0 above.1 above.2 did takes
    (λ c of. ∥∥₁_map (may c of) (λ done. done.0))
