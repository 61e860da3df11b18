use Rattle.std.proofs.Common.{[], ℤ, sym, ◌∙◌, subst}
use Rattle.depth_first_run.specs.Passed.Tree.{Name}
use Rattle.node_table.specs.Shown.{args_shown}
use Rattle.depth_first_run.specs.Stores.{nothing}
use Rattle.depth_first_run.specs.Calls.{Passing}
use Rattle.slot_store.specs.Agreement.{ShowsStore}
use Rattle.slot_store.specs.Calls.{store_with}
use Rattle.slot_store.specs.Shown.{slots_shown}
use Rattle.slot_store.proofs.ArgumentsPassed.{keeps_integers}
use Rattle.slot_store.proofs.Moving.{can_pass_all, each_none}
use Rattle.slot_store.proofs.passing.pass.Goals as goal

pub pass_blocks-requires-clause-can : goal.pass_blocks-requires-clause-can
pass_blocks-requires-clause-can c =
    can_pass_all (slots_shown c.args.caller.now) (slots_shown c.pass_integers.new.callee) c.args.params.now (args_shown c.args.args.now)
    (each_none (slots_shown c.pass_integers.new.callee) c.args.params.now (λ s. c.in_ok-pass_integers.ensures.blocks s ∙ c.requires.new s))
    c.requires.params_once c.requires.blocks_once c.requires.there

pub returns-clause-store : goal.returns-clause-store
returns-clause-store c names callee_names store qs values shows theirs are args =
    let g : Passing = record { callee = nothing; caller = store } in
    let first = c.in_ok-pass_integers.ensures.store names callee_names store qs values [] g shows theirs are args in
    let h = first.0 in
    let second = c.pass_blocks.ensures names callee_names store qs values store.integers h.callee.integers g h are args first.1 shows first.2 in (
      h,
      first.1,
      subst (λ (f : Name → ℤ). ShowsStore names (slots_shown c.pass_blocks.new.caller) (store_with f h.caller.blocks))
          (sym (keeps_integers store qs values g h first.1)) second.0,
      second.1,
    )
