use Rattle.std.proofs.Common.{◌≡◌, ◌∙◌, Option, Some, None, refl, sym, ap, subst}
use Rattle.std.specs.Prelude.{slice_get}
use Rattle.std.specs.Option.{option_map}
use Rattle.std.proofs.Math.Logic.{∥∥₁_elim, ∥∥₁_map}
use Rattle.std.proofs.lemmas.Option.{slice_get-map}
use denote.Struct.Props.{props}
use Rattle.depth_first_list.specs.QuotaWords.{quota_words}
use Rattle.node_table.specs.Codes.{code_shown, nodes_of}
use Rattle.node_table.specs.Shown.{node_shown, kind_shown}
use Rattle.node_table.specs.Table as tables
use Rattle.node_table.specs.Table.{Kind}
use Rattle.node_table.specs.declared.node.Node.{Node}
use Rattle.thread_run.specs.Called.{IsNoCall}
use Rattle.thread_run.proofs.Arms.{kind_there}
use Rattle.thread_run.specs.declared.run.ThreadRun.{ThreadRun}
use Rattle.thread_run.specs.Calling.{is_call}
use Rattle.thread_run.proofs.CanCalls.{can_call_at}
use Rattle.thread_run.proofs.Meetings.{no_call, call_does, call_costs}
use Rattle.thread_run.proofs.Following.{follow_meaning, follow_cost, no_memory}
use Rattle.thread_run.proofs.Kept.{follow_functions}
use Rattle.thread_run.proofs.run.ThreadRun.statement.Goals as goal

pub unreachable-requires : goal.unreachable-requires
unreachable-requires c = ∥∥₁_elim c.requires (λ x y. absurd x) (λ m.
    let none : slice_get (tables.Table.nodes (code_shown c.args.code.now)) c.args.number ≡ None =
    slice_get-map node_shown (nodes_of c.args.code.now) c.args.number ∙ ap (λ (o : Option Node). option_map node_shown o) (sym c.in_default.ensures) in
    let some = m.meaning.node.there in
    let never : ⊥ = cc in never)

pub begin_call-requires-clause-there : goal.begin_call-requires-clause-there
begin_call-requires-clause-there c = slice_get-map node_shown (nodes_of c.args.code.now) c.args.number ∙ ap (λ (o : Option Node). option_map node_shown o) (sym c.in-Some.ensures)

pub begin_call-requires-clause-going : goal.begin_call-requires-clause-going
begin_call-requires-clause-going c = ∥∥₁_elim c.requires (search props) (λ m. m.meaning.in_state.faulted ∙ m.meaning.going)

pub begin_call-requires-clause-can : goal.begin_call-requires-clause-can
begin_call-requires-clause-can c =
    can_call_at (code_shown c.args.code.now) (quota_words c.args.k) c.args.number c.args.self.now.state (∥∥₁_map c.requires (λ m. m.meaning))
    (∥∥₁_elim c.requires (search props) (λ m. m.meaning.in_state.faulted ∙ m.meaning.going))
    (ap is_call (kind_there (code_shown c.args.code.now) c.args.number (node_shown c.in-Some.node.now) (kind_shown c.in-Some.node.now.kind)
    (slice_get-map node_shown (nodes_of c.args.code.now) c.args.number ∙ ap (λ (o : Option Node). option_map node_shown o) (sym c.in-Some.ensures)) refl) ∙ sym c.calls.ensures ∙ c.if-calls.true)

pub returns-then-calls-clause-meaning : goal.returns-then-calls-clause-meaning
returns-then-calls-clause-meaning c =
    call_does (code_shown c.args.code.now) (quota_words c.args.k) c.args.number c.args.self.now c.begin_call.new.self c.begin_call.result
    (ap is_call (kind_there (code_shown c.args.code.now) c.args.number (node_shown c.in-Some.node.now) (kind_shown c.in-Some.node.now.kind)
    (slice_get-map node_shown (nodes_of c.args.code.now) c.args.number ∙ ap (λ (o : Option Node). option_map node_shown o) (sym c.in-Some.ensures)) refl) ∙ sym c.calls.ensures ∙ c.if-calls.true)
    (c.begin_call.ensures.meaning (quota_words c.args.k)) c.begin_call.ensures.told

pub returns-then-calls-clause-cost : goal.returns-then-calls-clause-cost
returns-then-calls-clause-cost c = call_costs (code_shown c.args.code.now) c.args.number c.args.self.now c.begin_call.new.self c.begin_call.result c.begin_call.ensures.cost

pub statement-requires-clause-there : goal.statement-requires-clause-there
statement-requires-clause-there c = slice_get-map node_shown (nodes_of c.args.code.now) c.args.number ∙ ap (λ (o : Option Node). option_map node_shown o) (sym c.in-Some.ensures)

pub statement-requires-clause-meant : goal.statement-requires-clause-meant
statement-requires-clause-meant c = ∥∥₁_map c.requires (λ m. m.meaning)

pub statement-requires-clause-no_call : goal.statement-requires-clause-no_call
statement-requires-clause-no_call c =
    subst (λ (o : Option Kind). IsNoCall o) (sym (kind_there (code_shown c.args.code.now) c.args.number (node_shown c.in-Some.node.now) (kind_shown c.in-Some.node.now.kind)
    (slice_get-map node_shown (nodes_of c.args.code.now) c.args.number ∙ ap (λ (o : Option Node). option_map node_shown o) (sym c.in-Some.ensures)) refl))
    (no_call (Some (kind_shown c.in-Some.node.now.kind)) (sym c.calls.ensures ∙ c.if-calls.false))

pub returns-in-Ok-clause-meaning : goal.returns-in-Ok-clause-meaning
returns-in-Ok-clause-meaning c =
    follow_meaning (code_shown c.args.code.now) (quota_words c.args.k) c.args.number c.args.self.now c.follow.new.self c.statement.new.state c.in-Ok.done c.follow.result c.in-Ok.ensures.meaning
    c.follow.ensures.state c.follow.ensures.func c.follow.ensures.answer c.follow.ensures.frames c.follow.ensures.told

pub returns-in-Ok-clause-functions : goal.returns-in-Ok-clause-functions
returns-in-Ok-clause-functions c =
    follow_functions (code_shown c.args.code.now) (quota_words c.args.k) c.args.number c.args.self.now c.follow.new.self c.statement.new.state c.in-Ok.done c.follow.result c.requires c.in-Ok.ensures.meaning
    c.follow.ensures.func c.follow.ensures.answer c.follow.ensures.frames

pub returns-in-Ok-clause-cost : goal.returns-in-Ok-clause-cost
returns-in-Ok-clause-cost c =
    follow_cost (code_shown c.args.code.now) c.args.number c.args.self.now c.follow.new.self c.statement.new.state.turns c.in-Ok.done c.follow.result c.in-Ok.ensures.cost (ap (λ u. u.turns) c.follow.ensures.state) c.follow.ensures.frames

pub returns-in-Err-clause-meaning : goal.returns-in-Err-clause-meaning
returns-in-Err-clause-meaning c =
    let run : ThreadRun = record { func = c.args.self.now.func; state = c.statement.new.state; frames = c.args.self.now.frames; told = c.args.self.now.told } in
    no_memory (code_shown c.args.code.now) (quota_words c.args.k) c.args.number c.args.self.now run c.in-Err.error c.in-Err.error c.in-Err.ensures.meaning
