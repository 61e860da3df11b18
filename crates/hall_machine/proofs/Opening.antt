-- A hall that begins, and one that shows the same.
use Rattle.std.proofs.Common.{◌≡◌, ◌<◌, ◌≤◌, [], ◌∷◌, ◌++◌, map, sym, ap, subst, ◌∙◌, arith}
use Rattle.std.specs.Prelude.{None}
use Rattle.std.proofs.lemmas.Option.{none-some}
use Rattle.depth_first_list.specs.Runs.{IsDepthFirst}
use Rattle.deque_machine.specs.Lists.{Each}
use Rattle.deque_machine.proofs.Lists.{each_map}
use Rattle.deque_machine.specs.Machine.{Setting}
use Rattle.deque_machine.specs.Runs.{moves}
use Rattle.moment_laws.specs.Passed.Numbers.{NumbersDiffer}
use Rattle.moment_laws.specs.Passed.Parts.{parts_with_root}
use Rattle.moment_laws.proofs.Standing as law
use Rattle.hall_machine.specs.Values.{deque_at, running, parts_of, showing_of}
use Rattle.hall_machine.specs.Steps.{run_of}
use Rattle.hall_machine.specs.Standing.{HasLane, RanBy}
use Rattle.hall_machine.specs.Rows.{FirstStands, StillStands}

module _ (s : Setting) (some : 0 < s.quota) (list : IsDepthFirst s.quota s.list) where
  pub first_stands : FirstStands s
  first_stands h x is id label done children words = record {
    standing = law.root_stands s some list x (showing_of h) id label done children words parts is.unused is.none_begun is.no_moves;
    shape = record {
      lanes = subst (Each (HasLane h.lanes)) (sym is.places) (record { inside = is.inside; runs = λ worker owner. absurd (none-some worker owner) }, tt);
      numbers = subst NumbersDiffer (sym none_run) (λ i j p q first second same. absurd (none-some p first));
    };
    ran = subst (Each (RanBy [])) (sym none_run) tt;
    tagged = tt;
  }
    where
      none_run : h.list.closed ++ running h.lanes h.list.places ≡ []
      none_run = λ i. is.none_closed i ++ running h.lanes (is.places i)

      deques : map (deque_at h.lanes) h.list.places ≡ record { id = 0; owner = None; threads = x ∷ [] } ∷ []
      deques = ap (map (deque_at h.lanes)) is.places ∙ (λ i. record { id = 0; owner = None; threads = is.threads i } ∷ [])

      parts : parts_of h ≡ parts_with_root x
      parts = λ i. record { deques = deques i; waiting = is.none_wait i; results = is.no_results i; periods = none_run i }

pub still_stands : (s : Setting) → StillStands s
still_stands s h after steps m at same keeps lanes = record {
  standing = law.same_stands s (showing_of h) (showing_of after) (moves s.list (run_of steps)) m at.standing same keeps;
  shape = record { lanes = lanes; numbers = subst NumbersDiffer (sym same.periods) at.shape.numbers };
  ran = subst (Each (RanBy steps)) (sym same.periods) at.ran;
  tagged = each_map (λ t. t.period ≤ h.list.begun) (λ t. t.period ≤ after.list.begun) steps
      (λ t there low. let begun = keeps.begun in omega (arith, low, begun)) at.tagged;
}
