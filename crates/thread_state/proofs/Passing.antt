-- One argument whose number is found.
use Rattle.std.proofs.Common.{◌≡◌, ◌⊎◌, ℕ, ℤ, List, Ok, sym, ap, ◌∙◌, subst}
use mathlib.Core.Logic.{inl, inr}
use Rattle.depth_first_run.specs.Passed.Tree
use Rattle.depth_first_run.specs.Passed.Tree.{Name, Param, Arg}
use Rattle.node_table.specs.Names.{name_at}
use Rattle.node_table.specs.Reading.{IsArg, arg_read}
use Rattle.node_table.specs.Shown.{arg_shown}
use Rattle.node_table.specs.declared.code_arg.CodeArg.{CodeArg}
use Rattle.node_table.specs.declared.code_arg.CodeArg.TheVariants.{Lend, Give}
use Rattle.depth_first_run.specs.Stores.{Store}
use Rattle.depth_first_run.specs.Values as values
use Rattle.depth_first_run.specs.Calls.{Passing, pass_integer, pass_block}
use Rattle.slot_store.proofs.ArgumentsPassed.{value_passes, lend_passes, give_passes}
use Rattle.thread_state.specs.Calls.{PassesValue}

pub value_found : (s : Store) (q : Param) (e : Tree.Expr) (a : Arg) (v : ℤ) (g : Passing) → Tree.value e ≡ a → values.value s e ≡ Ok v →
    PassesValue s q a g (Ok tt)
value_found s q e a v g same is =
    subst (λ (a : Arg). PassesValue s q a g (Ok tt)) same (pass_integer q.name v g, λ qs args. value_passes s q e v g is qs args)

pub no_value : (names : List Name) (s : Store) (q : Param) (arg : CodeArg) (a : Arg) (g : Passing) →
    ((x : ℕ) × (arg ≡ Lend x)) ⊎ ((x : ℕ) × (arg ≡ Give x)) → IsArg names (arg_shown arg) a → PassesValue s q a g (Ok tt)
no_value names s q arg a g (inl (x, lends)) is =
    let same : Tree.lend (name_at names x) ≡ a = sym (ap (λ (c : CodeArg). arg_read names (arg_shown c)) lends) ∙ is.0 in
    subst (λ (a : Arg). PassesValue s q a g (Ok tt)) same
    (pass_block q.name (name_at names x) g, λ qs args. lend_passes s q (name_at names x) g qs args)
no_value names s q arg a g (inr (x, gives)) is =
    let same : Tree.give (name_at names x) ≡ a = sym (ap (λ (c : CodeArg). arg_read names (arg_shown c)) gives) ∙ is.0 in
    subst (λ (a : Arg). PassesValue s q a g (Ok tt)) same
    (pass_block q.name (name_at names x) g, λ qs args. give_passes s q (name_at names x) g qs args)
