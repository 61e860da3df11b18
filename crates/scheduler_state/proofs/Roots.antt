-- That the result of the root is kept where it has ended, and what it tells.
use Rattle.std.proofs.Common.{◌≡◌, ℕ, List, [], ◌∷◌, map, inl, inr, refl, sym, ap, subst, ◌∙◌}
use Rattle.std.proofs.Math.Logic.{∥∥₁_elim, ∥∥₁_map}
use Rattle.std.specs.Prelude.{Option, None, Some}
use Rattle.std.specs.Map.{lookup}
use denote.Struct.Props.{props}
use Rattle.dag_order.specs.declared.thread_id.ThreadId.{ThreadId}
use Rattle.dag_order.specs.Births.{root}
use Rattle.thread_points.specs.Passed.States.{Setting, State}
use Rattle.thread_points.specs.Passed.Run.{whole, first_fault, list_of, finish_of}
use Rattle.open_periods.specs.Passed.Lists.{Among}
use Rattle.open_periods.proofs.Passed.Lists.{each_among}
use Rattle.open_periods.specs.Passed.Moments.{Moment, done_at}
use Rattle.open_periods.specs.Passed.Machine.{HasEnded}
use Rattle.open_periods.specs.Passed.DequeMachineRuns.{Pair}
use Rattle.moment_laws.specs.Passed.Parts as parts
use Rattle.moment_laws.specs.Passed.Standing.{EndedIn}
use Rattle.open_periods.specs.Names.{HasLabel, of_root}
use Rattle.open_periods.proofs.Labels.{one_label}
use Rattle.open_periods.specs.Tables.{periods_of}
use Rattle.node_table.specs.Table.{Table}
use Rattle.thread_map.specs.Kept.{same_thread}
use Rattle.thread_frames.specs.Passed.Telling.{fault_of}
use Rattle.thread_state.specs.Settings.{IsSettingOf}
use Rattle.thread_frames.specs.declared.ended.Ended.{Ended}
use Rattle.thread_frames.specs.Points.{IsResult}
use Rattle.thread_frames.specs.Views.{ended_label}
use Rattle.thread_frames.proofs.Sets.{fault_set}
use Rattle.thread_frames.proofs.Telling.{whole_told}
use Rattle.scheduler_state.specs.Held.{Held}
use Rattle.thread_frames.specs.Kept.{result_kept, IsUnderItsId}
use Rattle.scheduler_state.specs.Moments.{IsSound, HasRun}
use Rattle.open_periods.specs.Passed.Terms.{Terms, machine_of}
use Rattle.scheduler_state.proofs.Lists.{among_mapped}
use Rattle.thread_frames.proofs.Found.{found_among, none_found}
use Rattle.play_rules.specs.declared.ends.RunEnd.TheVariants.{Finished}
use Rattle.thread_frames.specs.Roots.{end_of_root}
use Rattle.scheduler_state.specs.Ends.{KeepsEnd}

-- what stands in a list under a map comes from the list
pub mapped_from : {X Y : Type 0} (f : X → Y) (y : Y) (xs : List X) → Among y (map f xs) → (x : X) × Among x xs × (y ≡ f x)
mapped_from f y [] there = absurd there
mapped_from f y (x ∷ xs) there = elim there [
  | inl same ↦ (x, inl refl, same)
  | inr later ↦ let found = mapped_from f y xs later in (found.0, inr found.1, found.2)
]

-- the result that is kept under the id of the root, if there is one
abbrev pub root_result : Held → Option Ended
root_result h = lookup (same_thread root) h.results

module _ (t : Table) (k : ℕ) (terms : Terms) (h : Held) (sound : IsSound t k terms h) (c : Setting) (of : IsSettingOf t k c)
    (run : List Pair) (m : Moment) (at : HasRun c terms h run m) where
  module _ (ended : Ended) (is : root_result h ≡ Some ended) where
    there : Among {X = ThreadId × Ended} (root, ended) h.results
    there = found_among root h.results ended is

    labelled : HasLabel (periods_of h.table) (Ended.id ended) (ended_label ended)
    labelled = (at.standing.shows.results (result_kept (root, ended)) (among_mapped result_kept (root, ended) h.results there)).labelled

    pub of_the_root : ended_label ended ≡ []
    of_the_root = ∥∥₁_elim sound.in_order (search props) (λ o.
        one_label c.quota (list_of c) (periods_of h.table) m.books root (ended_label ended) [] at.standing.shows.books
        (subst (λ who. HasLabel (periods_of h.table) who (ended_label ended)) (each_among IsUnderItsId (root, ended) h.results o.results there) labelled) of_root)

    pub root_has_ended : HasEnded (machine_of c terms) m []
    root_has_ended = subst (EndedIn (list_of c) (done_at m)) of_the_root
        (at.standing.shows.results (result_kept (root, ended)) (among_mapped result_kept (root, ended) h.results there)).ended

    is_result : ∥ IsResult t k ended ∥₁
    is_result = ∥∥₁_map sound.results (λ all. each_among (λ entry. IsResult t k entry.1) (root, ended) h.results all there)

    pub its_fault : fault_of ended.told ≡ first_fault (State.items (whole c))
    its_fault = ∥∥₁_elim is_result (fault_set _ _) (λ r. ∥∥₁_elim (r.at c of) (fault_set _ _) (λ e. (whole_told c t ended e of_the_root).fault))

  pub not_ended : root_result h ≡ None → ¬ HasEnded (machine_of c terms) m []
  not_ended none has = ∥∥₁_elim sound.in_order (λ x y. absurd x) (λ o.
      let kept = at.standing.root_kept has in
      let from = mapped_from result_kept kept.0 h.results kept.1 in
      let its_id : Ended.id from.0.1 ≡ from.0.0 = each_among IsUnderItsId from.0 h.results o.results from.1 in
      let is_root : Ended.id from.0.1 ≡ root = ap (λ r. parts.Result.id r) (sym from.2) ∙ kept.2 in
      each_among (λ e. e.0 ≡ root → ⊥) from.0 h.results (none_found root h.results none) from.1 (sym its_id ∙ is_root))

  -- so what the result of the root tells is kept where it has ended, and else nothing
  pub end_is_kept : KeepsEnd c terms (end_of_root (root_result h)) m
  end_is_kept = by_result (root_result h) refl
    where
      by_result : (found : Option Ended) → root_result h ≡ found → KeepsEnd c terms (end_of_root found) m
      by_result None is = inl (not_ended is, refl)
      by_result (Some ended) is = inr (root_has_ended ended is, ap (λ f. Some (Finished (finish_of f))) (its_fault ended is))

-- the root has no label
pub label_of_root : (t : Table) (k : ℕ) (terms : Terms) (h : Held) → IsSound t k terms h → (ended : Ended) → root_result h ≡ Some ended
    → (c : Setting) → IsSettingOf t k c → ended_label ended ≡ []
label_of_root t k terms h sound ended is c of =
    ∥∥₁_elim (sound.somewhere c of) (search props) (λ w. of_the_root t k terms h sound c of w.0 w.1 w.2 ended is)

pub root_is_result : (t : Table) (k : ℕ) (terms : Terms) (h : Held) → IsSound t k terms h → (ended : Ended) → root_result h ≡ Some ended
    → ∥ IsResult t k ended ∥₁
root_is_result t k terms h sound ended is =
    ∥∥₁_map sound.results (λ all. each_among (λ entry. IsResult t k entry.1) (root, ended) h.results all (found_among root h.results ended is))
