use Rattle.std.proofs.Common.{◌≡◌, List, [], ◌∷◌, ◌++◌, length, Some, slice_get, sym, ap, ◌∙◌, subst, rules}
use Rattle.std.specs.Prelude.{All}
use Rattle.node_table.specs.Codes.{code_shown}
use Rattle.flat_program.specs.declared.flat_list.FlatList.{FlatList}
use Rattle.flat_program.specs.Programs.{StartsIn}
use Rattle.flat_program.proofs.Starts.{get_last, each_more}
use Rattle.flat_program.proofs.flat_program.FlatProgram.put.Goals as goal

pub returns-clause-program : goal.returns-clause-program
returns-clause-program c =
    let t = code_shown c.args.table.now in
    let before = c.args.self.now.lists.items in
    let flat = c.args.flat in
    let number : c.in-Ok.number ≡ length before = search rules in
    let last : slice_get (before ++ flat ∷ []) c.in-Ok.number ≡ Some flat = ap (λ i. slice_get (before ++ flat ∷ []) i) number ∙ get_last before flat in
    let items : c.push_reserved.new.self.items ≡ before ++ flat ∷ [] = search rules in
    subst (λ (ls : List FlatList). All (StartsIn t ls) c.note_all.new.starts.items) (sym items)
    (c.note_all.ensures.starts (before ++ flat ∷ []) last (each_more t before flat c.args.self.now.starts.items c.requires.program))
