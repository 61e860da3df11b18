-- What an owner knows of its lane before and after its top thread ran on.
use Rattle.std.proofs.Common.{◌≡◌, ℕ, ◌≤◌, ◌<◌, List, ◌∷◌, map, refl, sym, ap, ◌∙◌, subst, arith}
use Rattle.std.proofs.lemmas.Option.{none-some}
use Rattle.std.specs.Option.{option_map}
use Rattle.std.specs.Prelude.{Option, None, Some, Bool, is_some}
use Rattle.language_limits.specs.declared.TheConstants.{GREATEST_COUNT}
use Rattle.deque_list.specs.Lanes.{LaneView}
use Rattle.hall_parts.specs.HallNames.{DequeId, Each, table_of, quota_of, lane_shown, running_shown, HallSeat, HallKey, LaneSlot, Running, IsStill}
use Rattle.hall_parts.specs.HallNames.{IsOfTheList, JoinsNewest, IsAtPoint, thread_shown, children_of, done_of, next_of, Next, Thread, Setting}
use Rattle.depth_first_list.specs.QuotaWords.{quota_words}
use Rattle.depth_first_list.specs.declared.quota.Quota.{Quota}
use Rattle.hall_slots.proofs.Passed.DequeMachineLists.{same_head}
use Rattle.node_table.specs.Codes.{code_shown}
use Rattle.node_table.specs.declared.node_table.NodeTable.{NodeTable}
use Rattle.open_periods.specs.Periods.{Period, open_shown}
use Rattle.hall_parts.specs.Passed.StopVariants.{OutOfMemory}
use Rattle.hall_parts.specs.Passed.Settings.{IsSettingOf}
use Rattle.hall_parts.specs.Here.{HasRoomIn}
use Rattle.hall_parts.specs.Own.{IsShortThere, IsStillThere}
use Rattle.hall_parts.specs.EventParts.{IsAtAction}
use Rattle.hall_parts.proofs.Working.{still_shows}
use Rattle.hall_actions.specs.Advancing.{IsAtNext, IsReadable, IsRunBy}
use Rattle.hall_actions.specs.Stepping.{GoesOn}
use Rattle.hall_actions.specs.declared.at_next.AtNext.{AtNext}

some_running : (r : Option Running) (shown : Period) → option_map running_shown r ≡ Some shown → (running : Running) × (r ≡ Some running)
some_running None shown is = absurd (none-some shown is)
some_running (Some running) shown is = (running, refl)

-- a lane whose top thread has come to its next action shows what it showed
pub shows_the_same : (was now : LaneSlot) (top : Thread) (under : List Thread) (running : Running) → IsAtAction was top under running.worker running.period
    → now.lane.items ≡ top ∷ under → now.running ≡ Some running → lane_shown now ≡ lane_shown was
shows_the_same was now top under running at items runs = λ i. record {
  threads = (ap (map thread_shown) items ∙ ap (λ t. t ∷ map thread_shown under) (still_shows at.top_was top at.still) ∙ ap (map thread_shown) (sym at.items)) i;
  period = (ap (option_map running_shown) runs ∙ sym at.running) i;
}

module _ (key : HallKey) (seat : HallSeat) (deque : DequeId) (was lane : LaneSlot) (r : IsReadable key seat deque was lane) where
  abbrev At : Thread → Type 0
  At = IsAtPoint (table_of key) (quota_of key)

  -- all threads are at their points, since the seat found no want of memory
  pub all : Each At lane.lane.items
  all = subst (Each At) (sym r.items) (r.reads.points (λ is. none-some OutOfMemory (sym r.none ∙ is)))

  same : lane_shown lane ≡ lane_shown was
  same = λ i. record { threads = map thread_shown (r.items i); period = r.shown i }

  -- a period runs there
  pub runs_on : (running : Running) × (lane.running ≡ Some running)
  runs_on = some_running lane.running (running_shown (record { worker = r.reads.holder; period = r.reads.period })) (r.shown ∙ ap (option_map running_shown) r.reads.running)

  pub short : IsShortThere key seat deque lane
  short = let cut = r.items ∙ r.reads.items in record {
    may = r.may;
    none = r.none;
    lane_was = was;
    holds = r.holds;
    same = same;
    top = r.reads.top;
    under = r.reads.under;
    items = cut;
    points = (subst (Each At) cut all).1;
  }

  -- once the top thread is taken out
  module _ (top : Thread) (under : List Thread) (running : Running) (items : lane.lane.items ≡ top ∷ under) (runs : lane.running ≡ Some running) where
    pub points : At top × Each At under
    points = subst (Each At) items all

    was_items : was.lane.items ≡ top ∷ under
    was_items = sym r.items ∙ items

    top_was : r.reads.top ≡ top
    top_was = same_head r.reads.top top r.reads.under under (sym r.reads.items ∙ was_items)

    done : done_of top ≤ key.actions
    done = subst (λ t. done_of t ≤ key.actions) top_was r.reads.done

    pub few : done_of top < GREATEST_COUNT
    few = let its = done in let actions = r.is_key.few_actions in omega (arith, its, actions)

    pub period_is : option_map running_shown was.running ≡ Some (open_shown running.worker running.period)
    period_is = sym r.shown ∙ ap (option_map running_shown) runs

    used_was : Some (open_shown r.reads.holder r.reads.period) ≡ Some (open_shown running.worker running.period)
    used_was = sym (ap (option_map running_shown) r.reads.running) ∙ period_is

    pub used : running.period.used ≤ quota_of key
    used = subst (λ (o : Option Period). used_in o ≤ quota_of key) used_was r.reads.used
      where
        used_in : Option Period → ℕ
        used_in None = 0
        used_in (Some p) = p.used

    -- and ran on, perhaps not to its next action
    module _ (now : Thread) (still : IsStill top now) where
      abbrev at_action : IsAtAction was now under running.worker running.period
      at_action = record { top_was = top; items = was_items; still = still; running = period_is }

      pub short_now : (back : LaneSlot) → back.lane.items ≡ now ∷ under → back.running ≡ Some running → IsShortThere key seat deque back
      short_now back back_items back_runs = record {
        may = r.may;
        none = r.none;
        lane_was = was;
        holds = r.holds;
        same = shows_the_same was back now under running at_action back_items back_runs;
        top = now;
        under = under;
        items = back_items;
        points = points.1;
      }

      pub still_now : At now → (back : LaneSlot) → back.lane.items ≡ now ∷ under → back.running ≡ Some running → IsStillThere key seat deque back
      still_now point back back_items back_runs = record {
        placed = r.may.goes.placed;
        owns = r.may.goes.owns;
        lane_was = was;
        holds = r.holds;
        same = shows_the_same was back now under running at_action back_items back_runs;
        points = subst (Each At) (sym back_items) (point, points.1);
      }

      pub went_on : At now → (came : Bool) → came ≡ is_some (next_of now) → (back : LaneSlot) → back.lane.items ≡ now ∷ under
          → back.running ≡ Some running → GoesOn key lane back came
      went_on point came is back back_items back_runs = record {
        top_was = top;
        top = now;
        under = under;
        items_were = items;
        items = back_items;
        running = back_runs ∙ sym runs;
        still = still;
        point = point;
        answers = is;
      }

      pub at_next : (next : Next) (ready spare : ℕ) → quota_of key ≤ 1048576 → At now → next_of now ≡ Some next → JoinsNewest next (children_of now)
          → ((c : Setting) → IsSettingOf (table_of key) (quota_of key) c → ∥ IsOfTheList c now next ∥₁) → 2 ≤ spare → HasRoomIn running.period ready
          → (at : AtNext) → at.top ≡ now → at.lane ≡ record { items = under; spare = spare } → at.running ≡ running → IsAtNext key was at next ready
      at_next next ready spare small point is_next newest listed room runs_on at top_is lane_is running_is =
          subst (λ (z : Thread × (LaneView Thread × Running)). IsAtNext key was (record at { top = z.0; lane = z.1.0; running = z.1.1 }) next ready) (λ i. (sym top_is i, (sym lane_is i, sym running_is i))) (record {
            within = record { quota = r.is_key.quota; small = small; few = r.is_key.few_actions; used = used; done = subst (λ n. n ≤ key.actions) (sym still.done) done };
            at_action = at_action;
            point = point;
            under = points.1;
            room = record { lane = room; period = runs_on };
            next_is = is_next;
            newest = newest;
            listed = listed;
          })

module _ (key : HallKey) (code : NodeTable) (quota : Quota) (by : IsRunBy key code quota) where
  pub at_code : (t : Thread) → IsAtPoint (table_of key) (quota_of key) t → IsAtPoint (code_shown code) (quota_words quota) t
  at_code t = subst (λ (z : NodeTable × Quota). IsAtPoint (code_shown z.0) (quota_words z.1) t) (λ i. (by.program i, by.terms i))

  pub of_code : (t : Thread) → IsAtPoint (code_shown code) (quota_words quota) t → IsAtPoint (table_of key) (quota_of key) t
  of_code t = subst (λ (z : NodeTable × Quota). IsAtPoint (code_shown z.0) (quota_words z.1) t) (λ i. (sym by.program i, sym by.terms i))

  pub list_of_code : (t : Thread) (next : Next) → ((c : Setting) → IsSettingOf (code_shown code) (quota_words quota) c → ∥ IsOfTheList c t next ∥₁)
      → (c : Setting) → IsSettingOf (table_of key) (quota_of key) c → ∥ IsOfTheList c t next ∥₁
  list_of_code t next listed c of = listed c (subst (λ (z : NodeTable × Quota). IsSettingOf (code_shown z.0) (quota_words z.1) c) (λ i. (by.program i, by.terms i)) of)
