use Rattle.std.proofs.Common.{List, [], ◌≡◌, sym, ap, ◌∙◌}
use Rattle.par_tree.specs.declared.stmt.Stmt.{Stmt}
use Rattle.par_print.proofs.Parts.{if_ok, if_text, while_text, par_text, split_text, else_text-else}
use Rattle.par_print.proofs.statements.+print_statement.Goals as goal

pub print_else-returns : goal.print_else-returns
print_else-returns t c =
    if_ok c.print_braces.result
    (else_text-else c.args.margin.now c.args.stmts.now c.args.out.now.items c.extend_from_slice.new.self.items c.print_braces.new.out.items
    (sym c.is_empty.ensures ∙ c.if-is_empty.false) c.in_ok-extend_from_slice.ensures.items)
    c.print_braces.ensures

pub print_statement-returns-in_ok-print_braces-in-If : goal.print_statement-returns-in_ok-print_braces-in-If
print_statement-returns-in_ok-print_braces-in-If t c =
    if_ok c.print_else.result
    (if_text c.args.kind.now c.in-If.cond c.in-If.then c.in-If.other c.args.margin.now c.deref.result.now c.deref-in-If.result.now c.args.out.now.items c.tested.new.out.items c.print_braces.new.out.items c.print_else.new.out.items
    c.in-If.is c.deref.ensures.value c.deref-in-If.ensures.value c.in_ok-tested-in-If.ensures c.in_ok-print_braces-in-If.ensures)
    c.print_else.ensures

pub print_statement-returns-in_ok-tested-in-While : goal.print_statement-returns-in_ok-tested-in-While
print_statement-returns-in_ok-tested-in-While t c =
    if_ok c.print_braces-in-While.result
    (while_text c.args.kind.now c.in-While.cond c.in-While.body c.args.margin.now c.deref-in-While.result.now c.args.out.now.items c.tested-in-While.new.out.items c.print_braces-in-While.new.out.items
    c.in-While.is c.deref-in-While.ensures.value c.in_ok-tested-in-While.ensures)
    c.print_braces-in-While.ensures

pub print_statement-returns-in_ok-extend_from_slice-in-Par-2 : goal.print_statement-returns-in_ok-extend_from_slice-in-Par-2
print_statement-returns-in_ok-extend_from_slice-in-Par-2 t c =
    if_ok c.print_braces-in-Par-2.result
    (par_text c.args.kind.now c.in-Par.left c.in-Par.right c.args.margin.now c.deref-in-Par.result.now c.deref-in-Par-2.result.now c.args.out.now.items c.extend_from_slice.new.self.items c.print_braces-in-Par.new.out.items c.extend_from_slice-in-Par.new.self.items c.print_braces-in-Par-2.new.out.items
    c.in-Par.is c.deref-in-Par.ensures.value c.deref-in-Par-2.ensures.value c.in_ok-extend_from_slice-in-Par.ensures.items c.in_ok-print_braces-in-Par.ensures c.in_ok-extend_from_slice-in-Par-2.ensures.items)
    c.print_braces-in-Par-2.ensures

pub print_statement-returns-in_ok-parted-in-Split : goal.print_statement-returns-in_ok-parted-in-Split
print_statement-returns-in_ok-parted-in-Split t c =
    if_ok c.print_braces-in-Split.result
    (split_text c.args.kind.now c.in-Split.block c.in-Split.at c.in-Split.left c.in-Split.right c.in-Split.body c.args.margin.now c.deref-in-Split.result.now c.args.out.now.items c.parted.new.out.items c.print_braces-in-Split.new.out.items
    c.in-Split.is c.deref-in-Split.ensures.value c.in_ok-parted-in-Split.ensures)
    c.print_braces-in-Split.ensures
