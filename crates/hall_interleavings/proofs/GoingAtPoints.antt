-- The threads of one lane go on at their points.
use Rattle.std.proofs.Common.{◌≡◌, List, [], ◌∷◌, ◌++◌, sym, subst}
use Rattle.std.specs.List.Sorted.{IsPermutation}
use Rattle.std.proofs.lemmas.List.Sorted.{IsPermutation-sym}
use Rattle.deque_machine.specs.Lists.{Each}
use Rattle.deque_machine.proofs.Lists.{each_from, each_among, each_at, each_without}
use Rattle.moment_laws.proofs.Reordered.{among_moved}
use Rattle.thread_frames.specs.Points.{IsAtPoint, IsResult}
use Rattle.hall_interleavings.specs.Ways.{EndsAboveGoOn, WakingEndsGoOn, LeavingEndsGoOn, KeptJoinsGoOn}

module _ {X : Type 0} where
  -- what holds of each element holds of each in another order
  each_moved : (P : X → Type 0) (xs ys : List X) → IsPermutation xs ys → Each P xs → Each P ys
  each_moved P xs ys moved all = each_from P ys (λ y there. each_among P y xs all (among_moved ys xs (IsPermutation-sym xs ys moved) y there))

  each_is : (P : X → Type 0) (xs ys : List X) → ys ≡ xs → Each P xs → Each P ys
  each_is P xs ys same all = subst (Each P) (sym same) all

pub ends_above_go_on : EndsAboveGoOn
ends_above_go_on t k id x y top parent given below ended only was is waiting results leaves gives = record {
  beside = only;
  its = λ lane waits kept.
      let all = subst (Each (IsAtPoint t k)) was lane in (
        each_is (IsAtPoint t k) (given ∷ below) (y.in_lane id) is (gives all.1.0 (leaves all.0), all.1.1),
        each_is (IsAtPoint t k) x.waiting y.waiting waiting waits,
        each_is (IsResult t k) x.results y.results results kept,
      );
}

pub waking_ends_go_on : WakingEndsGoOn
waking_ends_go_on t k id x y top parent given before later ended only was waited is moved results leaves gives = record {
  beside = only;
  its = λ lane waits kept.
      let all = subst (Each (IsAtPoint t k)) was lane in let those = subst (Each (IsAtPoint t k)) waited waits in (
        each_is (IsAtPoint t k) (given ∷ []) (y.in_lane id) is (gives (each_at (IsAtPoint t k) before parent later those) (leaves all.0), tt),
        each_moved (IsAtPoint t k) (before ++ later) y.waiting moved (each_without (IsAtPoint t k) before parent later those),
        each_is (IsResult t k) x.results y.results results kept,
      );
}

pub leaving_ends_go_on : LeavingEndsGoOn
leaving_ends_go_on t k id x y top ended only was is waiting moved leaves = record {
  beside = only;
  its = λ lane waits kept.
      let all = subst (Each (IsAtPoint t k)) was lane in (
        each_is (IsAtPoint t k) [] (y.in_lane id) is tt,
        each_is (IsAtPoint t k) x.waiting y.waiting waiting waits,
        each_moved (IsResult t k) (ended ∷ x.results) y.results moved (leaves all.0, kept),
      );
}

pub kept_joins_go_on : KeptJoinsGoOn
kept_joins_go_on t k id x y top now under ended before later only was had is waiting moved joins = record {
  beside = only;
  its = λ lane waits kept.
      let all = subst (Each (IsAtPoint t k)) was lane in let those = subst (Each (IsResult t k)) had kept in (
        each_is (IsAtPoint t k) (now ∷ under) (y.in_lane id) is (joins all.0 (each_at (IsResult t k) before ended later those), all.1),
        each_is (IsAtPoint t k) x.waiting y.waiting waiting waits,
        each_moved (IsResult t k) (before ++ later) y.results moved (each_without (IsResult t k) before ended later those),
      );
}
