use Rattle.std.proofs.Common.{refl, sym, ap, ◌∙◌, subst, w64, rules}
use Rattle.std.proofs.lemmas.Int.{to_z-of_z}
use Rattle.node_table.specs.Names.{name_at}
use Rattle.node_table.specs.Table
use Rattle.node_table.specs.Shown.{arg_shown, expr_shown}
use Rattle.node_table.specs.Reading.{IsArg, expr_read}
use Rattle.depth_first_run.specs.Stores.{with_integer}
use Rattle.slot_store.specs.Agreement.{ShowsStore}
use Rattle.slot_store.specs.Shown.{slots_shown}
use Rattle.slot_store.specs.Calls.{store_with}
use Rattle.slot_store.proofs.ArgumentsPassed.{an_integer, no_integer}
use Rattle.slot_store.proofs.passing.pass_integer.Goals as goal

pub returns-in_ok-value-in-Value-clause-store : goal.returns-in_ok-value-in-Value-clause-store
returns-in_ok-value-in-Value-clause-store c names callee_names store q a blocks g shows theirs named is =
    let v = c.in_ok-value-in-Value.value in
    let e = expr_read names (expr_shown c.in-Value.expr) in
    let read = subst (λ (x : Table.Arg). IsArg names x a) (ap arg_shown c.in-Value.is) is in
    let number = to_z-of_z w64 v (search rules) in
    let kept = c.set_integer.ensures.store callee_names (store_with g.callee.integers blocks) theirs in
    an_integer callee_names store q e a v blocks g c.args.param (slots_shown c.set_integer.new.self) read.0
    (sym (c.evaluate.ensures names store e shows (refl, read.1)) ∙ c.in_ok-value-in-Value.was) named
    (subst (λ v. ShowsStore callee_names (slots_shown c.set_integer.new.self)
    (with_integer (name_at callee_names c.args.param) v (store_with g.callee.integers blocks))) number kept)

pub returns-in-Lend-clause-store : goal.returns-in-Lend-clause-store
returns-in-Lend-clause-store c names callee_names store q a blocks g shows theirs named is =
    no_integer names callee_names store q c.args.arg.now a blocks g (slots_shown c.args.callee.now) c.in-Lend.is is theirs

pub returns-in-Lend-2-clause-store : goal.returns-in-Lend-2-clause-store
returns-in-Lend-2-clause-store c names callee_names store q a blocks g shows theirs named is =
    no_integer names callee_names store q c.args.arg.now a blocks g (slots_shown c.args.callee.now) c.in-Lend.is is theirs
