use Rattle.std.proofs.Common.{◌≡◌, ◌∷◌, Ok, ℤ, refl, sym, ap, ◌∙◌, rules, SFits, to_z, of_z, w64}
use Rattle.std.proofs.lemmas.Int.{to_z-of_z}
use Rattle.node_table.specs.Names.{name_at}
use Rattle.node_table.specs.Shown.{expr_shown}
use Rattle.node_table.specs.Reading.{expr_read}
use Rattle.node_table.specs.declared.code_ret_value.CodeRetValue.TheVariants as values
use Rattle.depth_first_run.specs.States.{unless_faulted, with_fault}
use Rattle.depth_first_run.specs.Calls.{with_answer, returned, number}
use Rattle.depth_first_run.specs.Values.{value}
use Rattle.thread_state.proofs.Splits.{skipped}
use Rattle.thread_state.proofs.Steps.{own_store, at_same}
use Rattle.thread_state.proofs.Returned.{ends_so, ends_with, ends_faulting, ends_handing, read_some, read_none, line_is, no_contexts}
use Rattle.thread_state.proofs.state.ThreadState.end_call.Goals as goal

pub returns-then-self-clause-state : goal.returns-then-self-clause-state
returns-then-self-clause-state c = λ contexts names callee_names r qs vals t reads are args is_target s is.
    at_same (names ∷ contexts) c.args.self.now s _ (sym (skipped (with_answer r (returned qs vals t)) s (sym is.faulted ∙ c.if-self.true)))
    (no_contexts (callee_names ∷ names ∷ contexts) (names ∷ contexts) c.args.self.now s c.if-self.true is)

pub returns-in_default-clause-state : goal.returns-in_default-clause-state
returns-in_default-clause-state c = λ contexts names callee_names r qs vals t reads are args is_target s is.
    at_same (names ∷ contexts) c.return_number.new.self _ (unless_faulted (with_answer r (returned qs vals t)) s)
    (sym (ends_so r (returned qs vals t) s (read_none callee_names r c.args.ret.now c.in_default.is reads) (sym is.faulted ∙ c.if-self.false)))
    (c.return_number.ensures.state contexts names callee_names qs vals t are args is_target s is)

pub returns-in-Ok-clause-state : goal.returns-in-Ok-clause-state
returns-in-Ok-clause-state c = λ contexts names callee_names r qs vals t reads are args is_target s is.
    let shows = own_store (names ∷ contexts) callee_names c.args.self.now s c.if-self.false is in
    let read = read_some callee_names r c.args.ret.now c.in-Some.ret (values.Int c.in-Int.expr) c.in-Some.is c.in-Int.is reads in
    let e = expr_read callee_names (expr_shown c.in-Int.expr) in
    let fits : SFits w64 c.in-Ok.value = search rules in
    let v : ℤ = to_z w64 (of_z w64 c.in-Ok.value) in
    let found : Ok v ≡ value s.store e = ap Ok (to_z-of_z w64 c.in-Ok.value fits) ∙ c.in-Ok.ensures callee_names s.store e shows (refl, read.1) in
    at_same (names ∷ contexts) c.return_number-in-Ok.new.self (returned qs vals t (number v) s) (unless_faulted (with_answer r (returned qs vals t)) s)
    (sym (ends_with r (returned qs vals t) s c.in-Some.ret.line e v read.0 (sym is.faulted ∙ c.if-self.false) found))
    (c.return_number-in-Ok.ensures.state contexts names callee_names qs vals t are args is_target s is)

pub returns-in-Err-clause-state : goal.returns-in-Err-clause-state
returns-in-Err-clause-state c = λ contexts names callee_names r qs vals t reads are args is_target s is.
    let shows = own_store (names ∷ contexts) callee_names c.args.self.now s c.if-self.false is in
    let read = read_some callee_names r c.args.ret.now c.in-Some.ret (values.Int c.in-Int.expr) c.in-Some.is c.in-Int.is reads in
    let e = expr_read callee_names (expr_shown c.in-Int.expr) in (
      is,
      ends_faulting r (returned qs vals t) s c.in-Some.ret.line e c.in-Err.kind read.0 (sym is.faulted ∙ c.if-self.false)
          (c.in-Err.ensures callee_names s.store e shows (refl, read.1))
          ∙ ap (λ n. with_fault c.in-Err.kind n s) (sym (line_is c.args.ret.now c.in-Some.ret c.in-Some.is)),
    )

pub returns-in-Own-clause-state : goal.returns-in-Own-clause-state
returns-in-Own-clause-state c = λ contexts names callee_names r qs vals t reads are args is_target s is.
    let read = read_some callee_names r c.args.ret.now c.in-Some.ret (values.Own c.in-Own.slot) c.in-Some.is c.in-Own.is reads in
    at_same (names ∷ contexts) c.return_block.new.self _ (unless_faulted (with_answer r (returned qs vals t)) s)
    (sym (ends_handing r (returned qs vals t) s c.in-Some.ret.line (name_at callee_names c.in-Own.slot) read.0 (sym is.faulted ∙ c.if-self.false)))
    (c.return_block.ensures.state contexts names callee_names qs vals t are args is_target s is)
