use Rattle.std.proofs.Common.{ℤ, List, length, w64, ap, ◌∙◌}
use Rattle.std.proofs.lemmas.Int.{to_z-of_z}
use Rattle.dfd_plays.specs.Make.{sum_of}
use Rattle.dfd_plays.proofs.Plays.{same_summary}
use Rattle.dfd_plays.proofs.making.summary_answer.Goals as goal

pub returns-clause-text : goal.returns-clause-text
returns-clause-text c = λ s run m at.
    let same = c.in_ok-lines.ensures s at.setting in (
      c.high.result,
      (
        c.high.ensures s run m at,
        c.in_ok-text.ensures
            ∙ same_summary c.args.bytes _ _ _ _ _ _ _ _ _ _ c.high.result
            (c.len.ensures ∙ ap (λ (l : List ℤ). length l) same)
            (to_z-of_z w64 c.wrapping_sum.result (record { sfits = c.wrapping_sum.type_inv })
            ∙ c.wrapping_sum.ensures ∙ ap (λ (l : List ℤ). sum_of l) (c.as_slice.ensures ∙ same))
            (c.actions.ensures s run m at) (c.periods.ensures s run m at) (c.ahead.ensures s run m at),
      ),
    )
