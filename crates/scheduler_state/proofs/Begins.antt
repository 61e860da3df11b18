-- What is held at the start is sound and stands at the opening moment.
use Rattle.std.proofs.Common.{◌≡◌, ℕ, ◌≤◌, [], map, reverse, refl, sym, ap, subst, ◌∙◌, arith}
use Rattle.std.proofs.lemmas.Option.{none-some}
use Rattle.std.specs.Prelude.{pos}
use Rattle.open_periods.specs.Passed.Actions.{record_words}
use Rattle.thread_points.specs.Passed.States.{Setting}
use Rattle.thread_state.proofs.Passed.Built.{whole_is_depth_first}
use Rattle.deque_list.specs.Deques.{Deque}
use Rattle.open_periods.specs.Passed.Lists.{Each}
use Rattle.open_periods.specs.Passed.Moments.{opening}
use Rattle.open_periods.specs.Passed.Machine.{HasEnded}
use Rattle.open_periods.specs.Passed.DequeMachineRuns.{moves}
use Rattle.moment_laws.specs.Passed.Parts.{parts_with_root}
use Rattle.moment_laws.proofs.Standing.{root_stands}
use Rattle.node_table.specs.Table.{Table}
use Rattle.space_ledger.specs.Sums.{total_change}
use Rattle.thread_state.specs.Settings.{IsSettingOf}
use Rattle.thread_frames.specs.declared.thread.Thread.{Thread}
use Rattle.thread_frames.specs.Points.{IsAtPoint, IsResult}
use Rattle.thread_frames.specs.Shown.{thread_shown, child_shown}
use Rattle.moment_laws.specs.Passed.Shown.{deque_shown}
use Rattle.scheduler_state.specs.Held.{Held, parts_in, OwnersSit}
use Rattle.thread_frames.specs.Kept.{waiting_shown, result_kept, WaitsUnder, IsUnderItsId}
use Rattle.scheduler_state.specs.Moments.{shown, HasRun, IsSound, CanGoOn}
use Rattle.open_periods.specs.Passed.Terms.{Terms, machine_of}
use Rattle.scheduler_state.specs.Begun.{IsBegun}

module _ (t : Table) (k : ℕ) (terms : Terms) (h : Held) (x : Thread) (b : IsBegun t h x) (covers : record_words ≤ k) where
  parts_are : parts_with_root (thread_shown x) ≡ parts_in h
  parts_are = λ i. record {
    deques = map (deque_shown thread_shown) (sym b.deques i);
    waiting = map waiting_shown (sym b.waiting i);
    results = map result_kept (sym b.results i);
    periods = sym b.periods i;
  }

  module _ (c : Setting) (of : IsSettingOf t k c) where
    pub none_ended : ¬ HasEnded (machine_of c terms) opening []
    none_ended has = let did = has.4 in absurd (omega (arith, did))

    pub begun_stands : HasRun c terms h [] opening
    begun_stands =
        let quota = of.quota in record {
          sum = refl;
          standing = root_stands (machine_of c terms) (omega (arith, covers, quota)) (whole_is_depth_first c) (thread_shown x) (shown h) b.id b.label b.own_done
              (ap (λ xs. map child_shown (reverse xs)) b.children) b.words (sym parts_are) b.live b.begun b.moves;
          done = b.done;
        }

  pub begun_is_sound : IsSound t k terms h
  begun_is_sound = record {
    of_program = (b.point k).of_program;
    quota = covers;
    in_order = ∣ record {
      owners = subst (OwnersSit h.table) (sym b.deques) (λ w is. absurd (none-some w is), tt);
      waiting = subst (Each WaitsUnder) (sym b.waiting) tt;
      results = subst (Each IsUnderItsId) (sym b.results) tt;
    } ∣₁;
    sum = ap total_change b.moves ∙ ap pos (sym b.live);
    results = ∣ subst (Each (λ entry. IsResult t k entry.1)) (sym b.results) tt ∣₁;
    somewhere = λ c of. ∣ ([], opening, begun_stands c of) ∣₁;
  }

  pub begun_can_go_on : CanGoOn t k h
  begun_can_go_on = ∣ record {
    in_deques = subst (Each (λ deque. Each (IsAtPoint t k) (Deque.items deque))) (sym b.deques) ((b.point k, tt), tt);
    waiting = subst (Each (λ entry. IsAtPoint t k entry.1)) (sym b.waiting) tt;
  } ∣₁
