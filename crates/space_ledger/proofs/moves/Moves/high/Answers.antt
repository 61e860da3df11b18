-- What is kept is the greatest sum of a prefix.
use Rattle.std.proofs.Common.{subst, sym, ◌∙◌, ℤ, rules}
use Rattle.std.specs.Int.{w64}
use Rattle.std.proofs.lemmas.Int.{to_z-of_z}
use Rattle.space_ledger.specs.Sums.{IsHighest}
use Rattle.space_ledger.proofs.SumLaws.{highest_is_greatest}
use Rattle.space_ledger.specs.MovesList.{moves_list}
use Rattle.space_ledger.proofs.moves.Moves.high.Goals as goal

pub returns-clause-greatest : goal.returns-clause-greatest
returns-clause-greatest c =
    let P : ℤ → Type 0 = λ h. IsHighest (moves_list c.args.self.now) h in subst P (sym (to_z-of_z w64 c.args.self.now.high (search rules) ∙ c.args.self.now.high_is)) (highest_is_greatest (moves_list c.args.self.now))
