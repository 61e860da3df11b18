use Rattle.std.proofs.Common.{◌≡◌, List, [], ◌∷◌, ◌++◌, length, Option, None, sym, ap, ◌∙◌, subst, arith, rules}
use Rattle.std.specs.Prelude.{All}
use Rattle.node_table.specs.Codes.{code_shown, nodes_of}
use Rattle.flat_program.specs.declared.flat_start.FlatStart.{FlatStart}
use Rattle.flat_program.specs.Programs.{StartsIn}
use Rattle.flat_program.proofs.Starts.{one_none}
use Rattle.flat_program.proofs.Entries.{two_longer, all_sized}
use Rattle.flat_program.proofs.flat_program.FlatProgram.without_lists.Goals as goal

pub loop-number-preserved : goal.loop-number-preserved
loop-number-preserved c =
    let t = code_shown c.args.table.now in
    let old = c.loop-number.starts.items in
    let items : c.push-in-loop-number.new.self.items ≡ (old ++ None ∷ []) ++ None ∷ [] = search rules in
    let long = ap (λ (starts : List (Option FlatStart)). length starts) items ∙ two_longer old None None in
    let before = c.loop-number.invariant.1 in (
      λ ls. subst (λ (starts : List (Option FlatStart)). All (StartsIn t ls) starts) (sym items)
          (one_none t ls (old ++ None ∷ []) (one_none t ls old (c.loop-number.invariant.0 ls))),
      omega (arith, long, before),
    )

pub returns-clause-sized : goal.returns-clause-sized
returns-clause-sized c =
    let end : c.loop-number._number ≡ length (nodes_of c.args.table.now) = search rules in
    all_sized c.args.table.now c.loop-number._number (length c.loop-number.starts.items) c.loop-number.invariant.1 end
