use Rattle.std.proofs.Common.{◌∷◌, Option, refl, sym, ap, ◌∙◌, subst}
use Rattle.node_table.specs.Names.{name_at}
use Rattle.node_table.specs.Shown.{expr_shown, ret_shown}
use Rattle.node_table.specs.Reading.{expr_read}
use Rattle.node_table.specs.declared.code_ret.CodeRet.{CodeRet}
use Rattle.node_table.specs.declared.code_ret_value.CodeRetValue.{CodeRetValue}
use Rattle.node_table.specs.declared.code_ret_value.CodeRetValue.TheVariants as values
use Rattle.depth_first_run.specs.States.{unless_faulted, with_fault}
use Rattle.depth_first_run.specs.Calls.{with_answer}
use Rattle.depth_first_run.specs.Run.{ignore_answer}
use Rattle.thread_state.specs.States.{own_row}
use Rattle.thread_state.specs.Calls.{HandsNoBlock, CanEndMain}
use Rattle.node_table.specs.Shown.{ret_value_shown}
use Rattle.thread_state.proofs.Splits.{skipped}
use Rattle.thread_state.proofs.Steps.{own_store, at_same}
use Rattle.thread_state.proofs.Returned.{ends_so, ends_with, ends_faulting, ends_handing, read_some, read_none, line_is, drops_none}
use Rattle.thread_state.proofs.state.ThreadState.end_main.Goals as goal

pub returns-then-self : goal.returns-then-self
returns-then-self c = λ contexts names r reads s is.
    at_same (names ∷ contexts) c.args.self.now s _ (sym (skipped (with_answer r ignore_answer) s (sym is.faulted ∙ c.if-self.true))) is

pub returns-in_default : goal.returns-in_default
returns-in_default c = λ contexts names r reads s is.
    at_same (names ∷ contexts) c.args.self.now s (unless_faulted (with_answer r ignore_answer) s)
    (sym (ends_so r ignore_answer s (read_none names r c.args.ret.now c.in_default.is reads) (sym is.faulted ∙ c.if-self.false))) is

pub returns-in-Ok : goal.returns-in-Ok
returns-in-Ok c = λ contexts names r reads s is.
    let shows = own_store contexts names c.args.self.now s c.if-self.false is in
    let read = read_some names r c.args.ret.now c.in-Some.ret (values.Int c.in-Int.expr) c.in-Some.is c.in-Int.is reads in
    let e = expr_read names (expr_shown c.in-Int.expr) in
    at_same (names ∷ contexts) c.args.self.now s (unless_faulted (with_answer r ignore_answer) s)
    (sym (ends_with r ignore_answer s c.in-Some.ret.line e c.in-Ok.field-0 read.0 (sym is.faulted ∙ c.if-self.false)
    (c.in-Ok.ensures names s.store e shows (refl, read.1)))) is

pub returns-in-Err : goal.returns-in-Err
returns-in-Err c = λ contexts names r reads s is.
    let shows = own_store contexts names c.args.self.now s c.if-self.false is in
    let read = read_some names r c.args.ret.now c.in-Some.ret (values.Int c.in-Int.expr) c.in-Some.is c.in-Int.is reads in
    let e = expr_read names (expr_shown c.in-Int.expr) in (
      is,
      ends_faulting r ignore_answer s c.in-Some.ret.line e c.in-Err.kind read.0 (sym is.faulted ∙ c.if-self.false)
          (c.in-Err.ensures names s.store e shows (refl, read.1))
          ∙ ap (λ n. with_fault c.in-Err.kind n s) (sym (line_is c.args.ret.now c.in-Some.ret c.in-Some.is)),
    )

pub returns-in-Own : goal.returns-in-Own
returns-in-Own c = λ contexts names r reads s is.
    let shows = own_store contexts names c.args.self.now s c.if-self.false is in
    let read = read_some names r c.args.ret.now c.in-Some.ret (values.Own c.in-Own.field-0) c.in-Some.is c.in-Own.is reads in
    let row = own_row c.args.self.now in
    let can = subst (λ (x : Option CodeRet). CanEndMain row (ret_shown x)) c.in-Some.is (c.requires c.if-self.false) in
    let hands = subst (λ (v : CodeRetValue). HandsNoBlock row (ret_value_shown v)) c.in-Own.is can in
    at_same (names ∷ contexts) c.args.self.now s (unless_faulted (with_answer r ignore_answer) s)
    (sym (ends_handing r ignore_answer s c.in-Some.ret.line (name_at names c.in-Own.field-0) read.0 (sym is.faulted ∙ c.if-self.false)
    ∙ drops_none names row s c.in-Own.field-0 shows read.1 hands.1)) is
