use Rattle.std.proofs.Common.{rules, ◌≡◌, ◌+◌, ◌<◌, ◌≤◌, ◌∙◌, ℕ, List, ◌∷◌, length, slice_get, slice_index_or, Some, sym, subst}
use Rattle.std.proofs.lemmas.Option.{slice_get-get_or}
use Rattle.depth_first_list.specs.QuotaWords.{quota_words}
use Rattle.node_table.specs.Codes.{code_shown}
use Rattle.thread_stack.specs.Lists.{numbers_of}
use Rattle.thread_stack.specs.declared.frame.Frame.TheVariants.{Statements}
use Rattle.thread_run.specs.Functions.{frames_of}
use Rattle.thread_run.proofs.Meetings.{RestPut, list_does, list_met, list_skipped, skip_cost, list_functions, list_cost_falls}
use Rattle.thread_run.proofs.run.ThreadRun.statements.Goals as goal

pub returns-then-is_faulted-clause-meaning : goal.returns-then-is_faulted-clause-meaning
returns-then-is_faulted-clause-meaning c = list_skipped (code_shown c.args.code.now) (quota_words c.args.k) c.args.self.now c.args.list c.args.next (sym c.is_faulted.ensures ∙ c.if-is_faulted.true)

pub returns-then-is_faulted-clause-cost : goal.returns-then-is_faulted-clause-cost
returns-then-is_faulted-clause-cost c = skip_cost (code_shown c.args.code.now) c.args.self.now c.args.list c.args.next

pub statement-requires : goal.statement-requires
statement-requires c =
    let below : c.args.next < length c.numbers-numbers.result.now = search rules in
    let there : slice_get (numbers_of (code_shown c.args.code.now) c.args.list) c.args.next ≡ Some (slice_index_or c.numbers-numbers.result.now c.args.next 0) =
    subst (λ (ns : List ℕ). slice_get ns c.args.next ≡ Some (slice_index_or c.numbers-numbers.result.now c.args.next 0)) c.numbers-numbers.ensures (slice_get-get_or c.numbers-numbers.result.now c.args.next 0 below) in
    let rest : RestPut (code_shown c.args.code.now) c.args.list (c.args.next + 1) c.args.self.now c.put_rest.new.self = record {
      some = subst (λ (ns : List ℕ). c.args.next + 1 < length ns → frames_of c.put_rest.new.self ≡ Statements c.args.list (c.args.next + 1) ∷ frames_of c.args.self.now) c.numbers-numbers.ensures c.in_ok-put_rest.ensures.some;
      none = subst (λ (ns : List ℕ). length ns ≤ c.args.next + 1 → frames_of c.put_rest.new.self ≡ frames_of c.args.self.now) c.numbers-numbers.ensures c.in_ok-put_rest.ensures.none;
    } in
    list_met (code_shown c.args.code.now) (quota_words c.args.k) (slice_index_or c.numbers-numbers.result.now c.args.next 0) c.args.self.now c.put_rest.new.self c.args.list c.args.next (sym c.is_faulted.ensures ∙ c.if-is_faulted.false) there rest
    c.put_rest.ensures.state c.requires

pub returns-clause-meaning : goal.returns-clause-meaning
returns-clause-meaning c =
    let below : c.args.next < length c.numbers-numbers.result.now = search rules in
    let there : slice_get (numbers_of (code_shown c.args.code.now) c.args.list) c.args.next ≡ Some (slice_index_or c.numbers-numbers.result.now c.args.next 0) =
    subst (λ (ns : List ℕ). slice_get ns c.args.next ≡ Some (slice_index_or c.numbers-numbers.result.now c.args.next 0)) c.numbers-numbers.ensures (slice_get-get_or c.numbers-numbers.result.now c.args.next 0 below) in
    let rest : RestPut (code_shown c.args.code.now) c.args.list (c.args.next + 1) c.args.self.now c.put_rest.new.self = record {
      some = subst (λ (ns : List ℕ). c.args.next + 1 < length ns → frames_of c.put_rest.new.self ≡ Statements c.args.list (c.args.next + 1) ∷ frames_of c.args.self.now) c.numbers-numbers.ensures c.in_ok-put_rest.ensures.some;
      none = subst (λ (ns : List ℕ). length ns ≤ c.args.next + 1 → frames_of c.put_rest.new.self ≡ frames_of c.args.self.now) c.numbers-numbers.ensures c.in_ok-put_rest.ensures.none;
    } in
    list_does (code_shown c.args.code.now) (quota_words c.args.k) (slice_index_or c.numbers-numbers.result.now c.args.next 0) c.args.self.now c.put_rest.new.self c.statement.new.self c.put_rest.ensures.told c.args.list c.args.next c.statement.result
    (sym c.is_faulted.ensures ∙ c.if-is_faulted.false) there rest c.put_rest.ensures.func c.put_rest.ensures.state c.statement.ensures.meaning

pub returns-clause-functions : goal.returns-clause-functions
returns-clause-functions c =
    let below : c.args.next < length c.numbers-numbers.result.now = search rules in
    let there : slice_get (numbers_of (code_shown c.args.code.now) c.args.list) c.args.next ≡ Some (slice_index_or c.numbers-numbers.result.now c.args.next 0) =
    subst (λ (ns : List ℕ). slice_get ns c.args.next ≡ Some (slice_index_or c.numbers-numbers.result.now c.args.next 0)) c.numbers-numbers.ensures (slice_get-get_or c.numbers-numbers.result.now c.args.next 0 below) in
    let rest : RestPut (code_shown c.args.code.now) c.args.list (c.args.next + 1) c.args.self.now c.put_rest.new.self = record {
      some = subst (λ (ns : List ℕ). c.args.next + 1 < length ns → frames_of c.put_rest.new.self ≡ Statements c.args.list (c.args.next + 1) ∷ frames_of c.args.self.now) c.numbers-numbers.ensures c.in_ok-put_rest.ensures.some;
      none = subst (λ (ns : List ℕ). length ns ≤ c.args.next + 1 → frames_of c.put_rest.new.self ≡ frames_of c.args.self.now) c.numbers-numbers.ensures c.in_ok-put_rest.ensures.none;
    } in
    list_functions (code_shown c.args.code.now) c.args.list c.args.next c.args.self.now c.put_rest.new.self c.statement.new.self c.statement.result rest c.put_rest.ensures.func c.statement.ensures.functions

pub returns-clause-cost : goal.returns-clause-cost
returns-clause-cost c =
    let below : c.args.next < length c.numbers-numbers.result.now = search rules in
    let there : slice_get (numbers_of (code_shown c.args.code.now) c.args.list) c.args.next ≡ Some (slice_index_or c.numbers-numbers.result.now c.args.next 0) =
    subst (λ (ns : List ℕ). slice_get ns c.args.next ≡ Some (slice_index_or c.numbers-numbers.result.now c.args.next 0)) c.numbers-numbers.ensures (slice_get-get_or c.numbers-numbers.result.now c.args.next 0 below) in
    let rest : RestPut (code_shown c.args.code.now) c.args.list (c.args.next + 1) c.args.self.now c.put_rest.new.self = record {
      some = subst (λ (ns : List ℕ). c.args.next + 1 < length ns → frames_of c.put_rest.new.self ≡ Statements c.args.list (c.args.next + 1) ∷ frames_of c.args.self.now) c.numbers-numbers.ensures c.in_ok-put_rest.ensures.some;
      none = subst (λ (ns : List ℕ). length ns ≤ c.args.next + 1 → frames_of c.put_rest.new.self ≡ frames_of c.args.self.now) c.numbers-numbers.ensures c.in_ok-put_rest.ensures.none;
    } in
    list_cost_falls (code_shown c.args.code.now) (slice_index_or c.numbers-numbers.result.now c.args.next 0) c.args.self.now c.put_rest.new.self c.statement.new.self c.args.list c.args.next c.statement.result there rest
    c.put_rest.ensures.state c.statement.ensures.cost
