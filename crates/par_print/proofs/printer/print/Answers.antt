use Rattle.std.proofs.Common.{◌≡◌, ℕ, List, ◌++◌, map, ap, ◌∙◌}
use Rattle.std.specs.List.{flat_map}
use Rattle.par_tree.specs.View.{func_tree, program_tree}
use Rattle.par_tree.specs.declared.func.Func.{Func}
use Rattle.canonical_text.specs.Canonical.{func_text}
use Rattle.par_print.proofs.Printed.{printed_text, printed_again}
use Rattle.par_print.proofs.printer.print.Goals as goal

pub returns-clause-reads_back : goal.returns-clause-reads_back
returns-clause-reads_back c =
    printed_text c.print_funcs.new.out.items (program_tree c.args.program.now)
    (c.in_ok-print_funcs.ensures
    ∙ ap (λ (l : List ℕ). l ++ flat_map func_text (map func_tree c.deref.result.now)) c.new-text.ensures.items
    ∙ ap (λ (l : List Func). flat_map func_text (map func_tree l)) c.deref.ensures.value)

pub returns-clause-stays : goal.returns-clause-stays
returns-clause-stays c =
    printed_again c.print_funcs.new.out.items (program_tree c.args.program.now)
    (c.in_ok-print_funcs.ensures
    ∙ ap (λ (l : List ℕ). l ++ flat_map func_text (map func_tree c.deref.result.now)) c.new-text.ensures.items
    ∙ ap (λ (l : List Func). flat_map func_text (map func_tree l)) c.deref.ensures.value)
