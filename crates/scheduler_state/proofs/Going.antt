-- How a run goes on by an action of a worker's top thread.
use Rattle.std.proofs.Common.{◌≡◌, ℕ, ◌+◌, ◌≤◌, ◌<◌, List, [], ◌∷◌, ◌++◌, length, refl, sym, ap, subst, ◌∙◌, arith}
use Rattle.std.proofs.lemmas.Int.{ints}
use Rattle.std.specs.Prelude.{ℤ, pos, ◌+ℤ◌, ◌<ℤ◌}
use Rattle.dag_order.specs.declared.thread_id.ThreadId.{ThreadId}
use Rattle.dag_order.specs.declared.action_id.ActionId.{ActionId}
use Rattle.open_periods.specs.Passed.Actions.{Action, record_words, live_words, weight}
use Rattle.open_periods.specs.Passed.Facts.{action_at, label_at, words_at}
use Rattle.open_periods.specs.Passed.DepthFirstListRuns.{IsDepthFirst}
use Rattle.thread_points.specs.Passed.States.{Setting}
use Rattle.thread_state.proofs.Passed.Built.{whole_is_depth_first}
use Rattle.open_periods.specs.Passed.Books.{booked}
use Rattle.open_periods.specs.Passed.Moments.{Moment, live_at}
use Rattle.open_periods.specs.Passed.Machine as machine
use Rattle.open_periods.specs.Passed.Play as play
use Rattle.open_periods.specs.Passed.Play.{Meets, words_taken, no_words, no_steps}
use Rattle.open_periods.specs.Passed.DequeMachineRuns.{Pair, moves}
use Rattle.open_periods.specs.Periods.{Period}
use Rattle.open_periods.specs.Names.{HasLabel, IsNamed}
use Rattle.open_periods.specs.Tables.{periods_of}
use Rattle.moment_laws.specs.Passed.Parts.{Parts}
use Rattle.moment_laws.specs.Passed.MomentShownEvents.{Does}
use Rattle.thread_points.specs.Passed.Run.{list_of}
use Rattle.space_ledger.specs.declared.moved.Moved.{Moved}
use Rattle.space_ledger.specs.Sums.{total_change}
use Rattle.moment_laws.specs.Moves.{AreMovesOf}
use Rattle.moment_laws.specs.Standing.{StandsAt, StandsAfter, Counts, Settles}
use Rattle.moment_laws.proofs.Going.{moves_go_on}
use Rattle.moment_laws.proofs.Labels.{does_keeps_labels}
use Rattle.moment_laws.proofs.Standing.{actions_stand, settled_periods}
use Rattle.moment_laws.proofs.Sums.{sums_go_on}
use Rattle.moment_laws.proofs.Told.{actions_are_added, coming_is_wanted}
use Rattle.scheduler_state.specs.declared.event.Event.TheVariants.{Acted}
use Rattle.scheduler_state.specs.Held.{Held, parts_in}
use Rattle.scheduler_state.specs.Moments.{shown, HasRun}
use Rattle.open_periods.specs.Passed.Terms.{Terms, machine_of}
use Rattle.scheduler_state.specs.Outcomes.{GoesOn, tells_action}

module _ (c : Setting) (terms : Terms) (quota : record_words ≤ c.quota) where
  pub some_quota : 0 < c.quota
  some_quota = omega (arith, quota)

  pub listed : IsDepthFirst c.quota (list_of c)
  listed = whole_is_depth_first c

  -- what is held goes on by an event after which what is shown stands
  pub has_run_on : (h after : Held) (run : List Pair) (m : Moment) → HasRun c terms h run m → (worker : ℕ) (event : machine.Event)
      → (behind : StandsAfter (machine_of c terms) (shown after) (moves (list_of c) run) m worker event) → after.done ≡ length (booked (behind.0).books)
      → HasRun c terms after (run ++ record { worker = worker; event = event } ∷ []) behind.0
  has_run_on h after run m at worker event behind done =
      let pair : Pair = record { worker = worker; event = event } in
      record {
        sum = sums_go_on (machine_of c terms) some_quota listed run m behind.0 worker event at.sum behind.1;
        standing = subst (λ ms. StandsAt (machine_of c terms) (shown after) ms behind.0) (sym (moves_go_on (list_of c) run pair)) behind.2;
        done = done;
      }

  -- with no stop the run goes on by the action
  module _ (h after : Held) (run : List Pair) (m : Moment) (at : HasRun c terms h run m) (worker place : ℕ) (next : Parts)
      (does : Does c.quota (list_of c) (parts_in h) worker place next) (settles : Settles worker next (parts_in after)) (name : ActionId)
      (named : IsNamed (list_of c) (periods_of h.table) name place) (done : after.done ≡ h.done + 1)
      (counts : Counts (list_of c) place name (shown h) (shown after)) where
    behind : StandsAfter (machine_of c terms) (shown after) (moves (list_of c) run) m worker (machine.does place)
    behind = actions_stand (machine_of c terms) some_quota listed (shown h) (shown after) (moves (list_of c) run) m worker place next name at.standing does settles named counts

    label_stays : (id : ThreadId) (label : List ℕ) → HasLabel (periods_of h.table) id label → HasLabel (periods_of after.table) id label
    label_stays id label has = subst (λ ps. HasLabel ps id label) (sym (settled_periods worker next (parts_in after) settles))
        (does_keeps_labels c.quota (list_of c) (parts_in h) worker place next m.books at.standing.shows.books does id label has)

    pub acted_goes_on : (word : ℕ) → (0 < words_taken (action_at (list_of c) place) → h.live + words_at (list_of c) place ≤ terms.limits.capacity) → h.done < terms.limits.actions
        → GoesOn c terms after worker word run m (Acted name)
    acted_goes_on word fits few =
        record {
          event = machine.does place;
          next = behind.0;
          wants = coming_is_wanted (machine_of c terms) m behind.0 worker word place at.standing.lawful behind.1;
          free = λ stop meets. no_stop stop meets;
          may = behind.1;
          stands = has_run_on h after run m at worker (machine.does place) behind
              (done ∙ ap (λ n. n + 1) at.done ∙ sym (actions_are_added (machine_of c terms) m behind.0 worker place behind.1).booked);
          tells = tells_action place name (record { inside = named.inside; by = label_stays name.by (label_at (list_of c) place) named.by; index = named.index });
        }
      where
        too_many : pos terms.limits.capacity <ℤ (live_at (list_of c) m +ℤ pos (words_at (list_of c) place)) → h.live + words_at (list_of c) place ≤ terms.limits.capacity → ⊥
        too_many above below = let was = at.standing.live in omega (arith, ints, above, below, was)

        no_stop : (stop : play.Stop) → Meets (machine_of c terms) terms.limits m (machine.does place) stop → ⊥
        no_stop stop (no_words p fills) = too_many fills.1 (fits fills.0)
        no_stop stop (no_steps p free spent) = let was = at.done in omega (arith, spent, few, was)

-- the words that are out are the sum of the moves
moves_sum : (periods : List Period) (ms : List Moved) (actions : List Action) → AreMovesOf periods ms actions → total_change ms ≡ live_words actions
moves_sum periods [] [] are = refl
moves_sum periods [] (a ∷ actions) are = absurd are
moves_sum periods (m ∷ ms) [] are = absurd are
moves_sum periods (m ∷ ms) (a ∷ actions) are = let rest = moves_sum periods ms actions are.1 in let here = are.0.change in
    sums m.change (weight a) (total_change ms) (live_words actions) here rest
  where
    sums : (a b x y : ℤ) → a ≡ b → x ≡ y → a +ℤ x ≡ b +ℤ y
    sums a b x y p q = λ i. p i +ℤ q i

pub sum_is : (c : Setting) (terms : Terms) (h : Held) (run : List Pair) (m : Moment) → HasRun c terms h run m → total_change h.moves ≡ pos h.live
sum_is c terms h run m at = moves_sum (periods_of h.table) h.moves (moves (list_of c) run) at.standing.moves
    ∙ at.sum ∙ sym at.standing.live
