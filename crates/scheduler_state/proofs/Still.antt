-- Where nothing happens: the same in another order, a thread that came nearer to its next action, and a result that is handed over.
use Rattle.std.proofs.Common.{◌≡◌, ℕ, ◌+◌, ◌≤◌, List, ◌∷◌, ◌++◌, map, reverse, refl, sym, ap, subst, ◌∙◌, arith}
use Rattle.std.proofs.Math.Logic.{∥∥₁_map}
use Rattle.std.specs.Prelude.{Some, pos}
use Rattle.std.proofs.lemmas.List.Sorted.{IsPermutation-map, IsPermutation-refl}
use Rattle.std.proofs.lemmas.List.{map-append}
use Rattle.deque_list.specs.declared.deque_id.DequeId.{DequeId}
use Rattle.deque_list.specs.Deques.{Deque}
use Rattle.open_periods.specs.Passed.Actions.{record_words}
use Rattle.thread_points.specs.Passed.States.{Setting}
use Rattle.thread_state.proofs.Passed.Built.{whole_is_depth_first}
use Rattle.open_periods.specs.Passed.Lists.{Each}
use Rattle.open_periods.proofs.Passed.Lists.{each_map, each_change, each_at}
use Rattle.open_periods.specs.Passed.Moments.{Moment}
use Rattle.open_periods.specs.Passed.DequeMachineRuns.{Pair, moves}
use Rattle.space_ledger.specs.Sums.{total_change}
use Rattle.node_table.specs.Table.{Table}
use Rattle.open_periods.specs.Tables.{deque_at}
use Rattle.moment_laws.specs.Passed.Parts.{Parts}
use Rattle.moment_laws.specs.Passed.MomentShownEvents.{HandsOver}
use Rattle.thread_points.specs.Passed.Run.{list_of}
use Rattle.thread_frames.specs.declared.thread.Thread.{Thread}
use Rattle.thread_frames.specs.Points.{IsAtPoint, IsResult}
use Rattle.thread_frames.specs.Actions.{IsStill}
use Rattle.thread_frames.specs.Shown.{thread_shown, child_shown}
use Rattle.moment_laws.specs.Passed.Shown.{deque_shown, Stands}
use Rattle.scheduler_state.specs.declared.scheduler.Scheduler.{Scheduler}
use Rattle.moment_laws.specs.Orders.{AreSame}
use Rattle.scheduler_state.specs.Held.{Held, held, held_under, parts_in, IsReordered, OwnersSit, IsInOrder, AreAtPoints, AreResults}
use Rattle.thread_frames.specs.Kept.{waiting_shown, result_kept, WaitsUnder, IsUnderItsId}
use Rattle.scheduler_state.specs.Moments.{shown, HasRun, IsSound}
use Rattle.open_periods.specs.Passed.Terms.{Terms, machine_of}
use Rattle.scheduler_state.proofs.Lists.{each_moved}
use Rattle.moment_laws.proofs.Standing.{handings_stand}
use Rattle.moment_laws.proofs.Standing as law

-- parts in another order
pub reordered_parts : (before after : Held) → IsReordered before after → AreSame (parts_in before) (parts_in after)
reordered_parts before after r = record {
  deques = ap (map (deque_shown thread_shown)) r.deques;
  waiting = IsPermutation-map waiting_shown before.waiting after.waiting r.waiting;
  results = IsPermutation-map result_kept before.results after.results r.results;
  periods = r.periods;
}

none_more : (n : ℕ) → n ≡ n + 0
none_more n = omega arith

-- the same parts, with the same counts and moves, stand at the same moment
pub same_stands : (c : Setting) (terms : Terms) (before after : Held) (run : List Pair) (m : Moment) → AreSame (parts_in before) (parts_in after)
    → after.live ≡ before.live → after.done ≡ before.done → after.table.begun ≡ before.table.begun → after.moves ≡ before.moves
    → HasRun c terms before run m → HasRun c terms after run m
same_stands c terms before after run m same live done begun moved at = record {
  sum = at.sum;
  standing = law.same_stands (machine_of c terms) (shown before) (shown after) (moves (list_of c) run) m at.standing same (record { live = live; begun = begun ∙ none_more before.table.begun; moves = moved });
  done = done ∙ at.done;
}

pub reordered_stands : (c : Setting) (terms : Terms) (before after : Held) (run : List Pair) (m : Moment) → IsReordered before after → HasRun c terms before run m
    → HasRun c terms after run m
reordered_stands c terms before after run m r at =
    same_stands c terms before after run m (reordered_parts before after r) r.live r.done r.begun r.moves at

pub reordered_order : (before after : Held) → IsReordered before after → IsInOrder before → IsInOrder after
reordered_order before after r o = record {
  owners = subst (OwnersSit after.table) (sym r.deques)
      (each_map (λ d. (w : ℕ) → Deque.owner d ≡ Some w → deque_at before.table w ≡ Some (Deque.id d)) (λ d. (w : ℕ) → Deque.owner d ≡ Some w → deque_at after.table w ≡ Some (Deque.id d)) before.deques
      (λ d there sits w owner. r.seats w ∙ sits w owner) o.owners);
  waiting = each_moved WaitsUnder before.waiting after.waiting r.waiting o.waiting;
  results = each_moved IsUnderItsId before.results after.results r.results o.results;
}

pub reordered_results : (t : Table) (k : ℕ) (before after : Held) → IsReordered before after → AreResults t k before → AreResults t k after
reordered_results t k before after r are = each_moved (λ e. IsResult t k e.1) before.results after.results r.results are

pub reordered_points : (t : Table) (k : ℕ) (before after : Held) → IsReordered before after → AreAtPoints t k before → AreAtPoints t k after
reordered_points t k before after r are = record {
  in_deques = subst (Each (λ d. Each (IsAtPoint t k) (Deque.items d))) (sym r.deques) are.in_deques;
  waiting = each_moved (λ e. IsAtPoint t k e.1) before.waiting after.waiting r.waiting are.waiting;
}

pub reordered_sound : (t : Table) (k : ℕ) (terms : Terms) (before after : Held) → IsReordered before after → IsSound t k terms before → IsSound t k terms after
reordered_sound t k terms before after r s = record {
  of_program = s.of_program;
  quota = s.quota;
  in_order = ∥∥₁_map s.in_order (reordered_order before after r);
  sum = ap total_change r.moves ∙ s.sum ∙ ap pos (sym r.live);
  results = ∥∥₁_map s.results (reordered_results t k before after r);
  somewhere = λ c is. ∥∥₁_map (s.somewhere c is) (λ x. (x.0, x.1, reordered_stands c terms before after x.0 x.1 r x.2));
}

-- ---- a thread that came nearer to its next action

-- it shows the same
pub shown_still : (x y : Thread) → IsStill x y → thread_shown y ≡ thread_shown x
shown_still x y still = λ i. record {
  id = still.same.id i;
  parent = still.same.parent i;
  label = still.same.label i;
  done = still.done i;
  func = still.same.func i;
  children = map child_shown (reverse (still.children i));
  words = still.words i;
}

module _ (s : Scheduler) {worker : ℕ} {id : DequeId} {items : List Thread} (stands : Stands s.list worker id items) (x y : Thread) (still : IsStill x y) where
  parts_still : parts_in (held_under s stands y) ≡ parts_in (held_under s stands x)
  parts_still =
      ap (λ ds. record (parts_in (held s)) { deques = ds })
      (map-append (deque_shown thread_shown) stands.left (record { id = id; owner = Some worker; items = y ∷ items } ∷ stands.right)
      ∙ ap (λ t. map (deque_shown thread_shown) stands.left ++ record { id = id.0; owner = Some worker; threads = t ∷ map thread_shown items } ∷ map (deque_shown thread_shown) stands.right) (shown_still x y still)
      ∙ sym (map-append (deque_shown thread_shown) stands.left (record { id = id; owner = Some worker; items = x ∷ items } ∷ stands.right)))

  same_still : AreSame (parts_in (held_under s stands x)) (parts_in (held_under s stands y))
  same_still = record {
    deques = ap (λ p. Parts.deques p) parts_still;
    waiting = IsPermutation-refl (map waiting_shown s.waiting.entries);
    results = IsPermutation-refl (map result_kept s.results.entries);
    periods = refl;
  }

  pub still_stands : (c : Setting) (terms : Terms) (run : List Pair) (m : Moment) → HasRun c terms (held_under s stands x) run m → HasRun c terms (held_under s stands y) run m
  still_stands c terms run m at = same_stands c terms (held_under s stands x) (held_under s stands y) run m same_still refl refl refl refl at

  still_order : IsInOrder (held_under s stands x) → IsInOrder (held_under s stands y)
  still_order o = record {
    owners = each_change (λ d. (w : ℕ) → Deque.owner d ≡ Some w → deque_at s.table w ≡ Some (Deque.id d)) stands.left
        (record { id = id; owner = Some worker; items = x ∷ items }) (record { id = id; owner = Some worker; items = y ∷ items }) stands.right o.owners
        (each_at (λ d. (w : ℕ) → Deque.owner d ≡ Some w → deque_at s.table w ≡ Some (Deque.id d)) stands.left (record { id = id; owner = Some worker; items = x ∷ items }) stands.right o.owners);
    waiting = o.waiting;
    results = o.results;
  }

  pub still_sound : (t : Table) (k : ℕ) (terms : Terms) → IsSound t k terms (held_under s stands x) → IsSound t k terms (held_under s stands y)
  still_sound t k terms sound = record {
    of_program = sound.of_program;
    quota = sound.quota;
    in_order = ∥∥₁_map sound.in_order still_order;
    sum = sound.sum;
    results = sound.results;
    somewhere = λ c is. ∥∥₁_map (sound.somewhere c is) (λ a. (a.0, a.1, still_stands c terms a.0 a.1 a.2));
  }

  -- and is at its point still
  pub still_points : (t : Table) (k : ℕ) → IsAtPoint t k y → AreAtPoints t k (held_under s stands x) → AreAtPoints t k (held_under s stands y)
  still_points t k point are = record {
    in_deques = each_change (λ d. Each (IsAtPoint t k) (Deque.items d)) stands.left
        (record { id = id; owner = Some worker; items = x ∷ items }) (record { id = id; owner = Some worker; items = y ∷ items }) stands.right are.in_deques
        (point, (each_at (λ d. Each (IsAtPoint t k) (Deque.items d)) stands.left (record { id = id; owner = Some worker; items = x ∷ items }) stands.right are.in_deques).1);
    waiting = are.waiting;
  }

-- ---- a result that is handed over

pub handed_stands : (c : Setting) (terms : Terms) → record_words ≤ c.quota → (before after : Held) (run : List Pair) (m : Moment) (worker : ℕ) (next : Parts)
    → HasRun c terms before run m → HandsOver (parts_in before) worker next → AreSame next (parts_in after)
    → after.live ≡ before.live → after.done ≡ before.done → after.table.begun ≡ before.table.begun → after.moves ≡ before.moves → HasRun c terms after run m
handed_stands c terms quota before after run m worker next at hands same live done begun moved = record {
  sum = at.sum;
  standing = handings_stand (machine_of c terms) (omega (arith, quota)) (whole_is_depth_first c) (shown before) (shown after) (moves (list_of c) run) m worker next at.standing hands same
      (record { live = live; begun = begun ∙ none_more before.table.begun; moves = moved });
  done = done ∙ at.done;
}
