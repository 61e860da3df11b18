use Rattle.std.proofs.Common.{◌≡◌, ◌≤◌, ℕ, List, length, arith, sym, subst}
use Rattle.std.proofs.lemmas.Grind.{common_steps}
use Rattle.language_limits.specs.declared.TheConstants.{LONGEST_TEXT}
use Rattle.made_source.specs.MadeSource.{made_source}
use Rattle.made_source.proofs.Lengths.{source_short}
use Rattle.made_source.proofs.source.made_source.Goals as goal

pub returns-clause-fits : goal.returns-clause-fits
returns-clause-fits c =
    let spelled : c.into_bytes.result.items ≡ made_source c.args.groups =
    grind (
      arith,
      common_steps,
      c.into_bytes.ensures,
      c.in_ok-push_main.ensures,
      c.in_ok-push_functions.ensures,
      c.new-text.ensures,
      c.div_ceil-functions.ensures,
    ) in
    subst (λ (text : List ℕ). length text ≤ LONGEST_TEXT) (sym spelled) (source_short c.args.groups c.requires.most)
