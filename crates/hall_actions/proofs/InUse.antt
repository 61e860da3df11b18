-- The words that an owner's action gives back are in use.
use Rattle.std.proofs.Common.{◌≡◌, ℕ, ◌+◌, ◌≤◌, List, [], ◌∷◌, ◌++◌, inl, inr, sym, ap, subst, arith}
use Rattle.std.proofs.lemmas.Int.{ints}
use Rattle.std.specs.Prelude.{Bool, true, false, Some}
use denote.Struct.Props.{props}
use mathlib.Core.Option.{some}
use lib.ListN.{get_elem?}
use Rattle.hall_parts.specs.HallNames.{DequeId, LaneSlot, ListSlot, PoolSlot, HallKey, table_of, quota_of, HallSeat, MeetsLaw, ThreadId, IsPlaced}
use Rattle.hall_parts.specs.HallNames.{result_shown, ended_words, next_of, thread_words, Ended, Next, Thread, kept_under, HasAs}
use Rattle.hall_slots.specs.Passed.Lists.{Among, total}
use Rattle.moment_shown.specs.Parts.{Parts, deque_words, result_words}
use Rattle.moment_shown.specs.Events.{Works}
use Rattle.moment_shown.proofs.Shown.{among_map, deque_words_middle}
use Rattle.thread_frames.specs.Kept.{result_kept}
use Rattle.thread_frames.specs.declared.next.Next.TheVariants as nexts
use Rattle.thread_frames.proofs.Found.{found_among}
use Rattle.thread_frames.proofs.Placed.{placed_of}
use Rattle.hall_parts.specs.Passed.Joins.{words_by, released}
use Rattle.hall_parts.specs.Passed.States.{words_held}
use Rattle.turn_table.proofs.Standing.{shown_as}
use Rattle.thread_frames.proofs.Bounds.{release_within, join_within, end_within}
use Rattle.hall_machine.specs.Values.{PoolShown, parts_of}
use Rattle.hall_slots.specs.declared.slot.Slot.TheVariants as slots
use Rattle.hall_slots.proofs.Written.{pool_at}
use Rattle.hall_actions.specs.Reads.{HoldsItsLane}
use Rattle.hall_actions.specs.Lists.{ComesTo, words_back, WordsAreInUse, KeptWordsAreInUse}
use Rattle.hall_actions.proofs.Listing.{gives, results_are}
use Rattle.hall_actions.proofs.Reading.{shown, shows, owners_read_pools}
use Rattle.hall_actions.proofs.Topped.{its_hall, o}

-- an element adds no more than the sum is
among_total : {X : Type 0} (f : X → ℕ) (x : X) (xs : List X) → Among x xs → f x ≤ total f xs
among_total f x [] there = absurd there
among_total f x (y ∷ xs) there = elim there [
  | inl same ↦ let is = ap f same in omega (arith, is)
  | inr later ↦ let rest = among_total f x xs later in omega (arith, rest)
]

-- a Join releases no more than both threads have
by_faults : (own child : Bool) (mine its : ℕ) → words_by own child mine its ≤ mine + its
by_faults true child mine its = omega arith
by_faults false true mine its = omega arith
by_faults false false mine its = omega arith

module _ (key : HallKey) (seat : HallSeat) (deque : DequeId) (lane : LaneSlot) (has : HoldsItsLane seat deque lane) (meets : MeetsLaw key seat) (top : Thread) (under : List Thread)
    (next : Next) (comes : ComesTo key lane top under next) (pool : PoolSlot) (second : HasAs 1 (slots.Pool pool) seat.hand.holds) where
  its_words : thread_words top ≤ pool.pool.live
  its_words =
      let were : thread_words comes.top_was ≤ pool.pool.live = owners_read_pools key seat deque lane pool comes.top_was under has second meets comes.items in
      let same : thread_words top ≡ thread_words comes.top_was = comes.still.words in omega (arith, were, same)

  -- with those of a result
  module _ (list : ListSlot) (first : HasAs 0 (slots.List list) seat.hand.holds) (child : ThreadId) (ended : Ended) (kept : kept_under list.part.results child ≡ Some ended) where
    pool_is : get_elem? (shown key seat deque lane has meets) 1 ≡ some (slots.Pool pool)
    pool_is = shown_as (shown key seat deque lane has meets) 1 (slots.Pool pool) seat.hand.holds (shows key seat deque lane has meets) second

    words_with : thread_words top + ended_words ended ≤ pool.pool.live
    words_with = gives key seat deque lane has meets (search props) (λ c of law.
        let h = its_hall key seat deque lane has meets top under next comes c law in
        let w : Works (parts_of h) seat.hand.note.worker = o key seat deque lane has meets top under next comes c law in
        let there : Among (result_shown ended) (Parts.results (parts_of h)) = subst (Among (result_shown ended)) (sym (results_are key seat deque lane has meets list first))
        (among_map result_kept (child, ended) list.part.results.entries (found_among child list.part.results.entries ended kept)) in
        let its : ended_words ended ≤ total result_words (Parts.results (parts_of h)) = among_total result_words (result_shown ended) (Parts.results (parts_of h)) there in
        let deques : total deque_words (Parts.deques (parts_of h))
        ≡ total deque_words (w.left ++ record { id = w.id; owner = Some seat.hand.note.worker; threads = w.top ∷ w.under } ∷ w.right) = ap (total deque_words) w.deques_are in
        let sum = deque_words_middle w.left w.right (record { id = w.id; owner = Some seat.hand.note.worker; threads = w.top ∷ w.under }) in
        let words = law.state.stands.standing.shows.words in let live = law.state.stands.standing.live in
        let same : PoolShown.live (Rattle.hall_machine.specs.Values.Hall.pool h) ≡ pool.pool.live = ap (λ (p : PoolShown). p.live) (pool_at (shown key seat deque lane has meets) pool pool_is) in
        omega (arith, ints, its, deques, sum, words, live, same))

    released_within : released top.run.state ended.state ≤ pool.pool.live
    released_within =
        let most = by_faults top.run.state.faulted ended.state.faulted (words_held top.run.state) (words_held ended.state) in let all = words_with in omega (arith, most, all)

  by_next : (n : Next) → next_of top ≡ Some n → IsPlaced top → words_back top n ≤ pool.pool.live
  by_next nexts.Fork is placed = omega arith
  by_next (nexts.Join child) is placed = let within = join_within top in let all = its_words in omega (arith, within, all)
  by_next (nexts.Alloc words) is placed = omega arith
  by_next (nexts.Release words) is placed = let within = release_within top words placed is in let all = its_words in omega (arith, within, all)
  by_next nexts.Dummy is placed = omega arith
  by_next (nexts.Fault fault) is placed = let all = its_words in omega (arith, all)
  by_next nexts.End is placed = let within = end_within top placed in let all = its_words in omega (arith, within, all)

pub words_are_in_use : WordsAreInUse
words_are_in_use key seat deque lane pool top under next has second meets comes is point =
    by_next key seat deque lane has meets top under next comes pool second next is (placed_of (table_of key) (quota_of key) top point)

pub kept_words_are_in_use : KeptWordsAreInUse
kept_words_are_in_use key seat deque lane list pool top under child ended has first second meets comes kept =
    released_within key seat deque lane has meets top under (nexts.Join child) comes pool second list first child ended kept
