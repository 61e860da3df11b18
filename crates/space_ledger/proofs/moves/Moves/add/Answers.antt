-- The sums after one move more.
use Rattle.std.proofs.Common.{◌≡◌, ◌∙◌, ap, sym, List, arith, rules, ◌+ℤ◌, FitsSigned}
use Rattle.std.specs.Int.{w64, int_max}
use Rattle.std.proofs.lemmas.Int.{ints}
use Rattle.containers.specs.BoundedList.{entries}
use Rattle.space_ledger.specs.Sums.{total_change, highest}
use Rattle.space_ledger.specs.declared.moved.Moved.{Moved}
use Rattle.space_ledger.proofs.MovesLemmas.{kept_high}
use Rattle.space_ledger.proofs.SumLaws.{total_change_push, highest_push}
use Rattle.space_ledger.proofs.moves.Moves.add.Goals as goal

pub invariant_of-self-clause-live_is : goal.invariant_of-self-clause-live_is
invariant_of-self-clause-live_is c =
    let sum_is : total_change (entries c.add.new.self) ≡ total_change (entries c.args.self.now.list) +ℤ c.args.moved.change =
    ap (λ moves. total_change moves) c.add.ensures.entries ∙ total_change_push (entries c.args.self.now.list) c.args.moved in
    let fits_live : FitsSigned w64 c.args.self.now.live = search rules in
    let fits_change : FitsSigned w64 c.args.moved.change = search rules in
    let fits_sum : FitsSigned w64 (total_change (entries c.args.self.now.list) +ℤ c.args.moved.change) = c.requires.fits in
    let live_is : c.args.self.now.live ≡ total_change (entries c.args.self.now.list) = c.args.self.now.live_is in
    omega (arith, ints)

pub invariant_of-self-clause-high_is : goal.invariant_of-self-clause-high_is
invariant_of-self-clause-high_is c =
    let old : List Moved = entries c.args.self.now.list in
    let sum_is : highest (entries c.add.new.self) ≡ int_max (highest old) (total_change old +ℤ c.args.moved.change) =
    ap (λ moves. highest moves) c.add.ensures.entries ∙ highest_push old c.args.moved in
    let fits_sum : FitsSigned w64 (c.args.self.now.live +ℤ c.args.moved.change) = rw c.args.self.now.live_is c.requires.fits in
    let kept = kept_high c.max-self.result c.args.self.now.high c.args.self.now.live c.args.moved.change (search rules) (search rules) (search rules) (search rules) fits_sum c.max-self.ensures.value in
    kept ∙ (ap (λ h. int_max h (c.args.self.now.live +ℤ c.args.moved.change)) c.args.self.now.high_is
    ∙ (ap (λ l. int_max (highest old) (l +ℤ c.args.moved.change)) c.args.self.now.live_is ∙ sym sum_is))
