use Rattle.std.proofs.Common.{sym, ◌∙◌, subst}
use Rattle.thread_frames.specs.Roots.{IsRootAlone}
use Rattle.depth_first_list.specs.QuotaWords.{quota_words}
use Rattle.depth_first_list.specs.declared.quota.Quota.{Quota}
use Rattle.node_table.specs.Codes.{code_shown}
use Rattle.node_table.specs.declared.node_table.NodeTable.{NodeTable}
use Rattle.worker_entry.proofs.Keyed.{key_is}
use Rattle.worker_entry.proofs.entry.open_hall.Goals as goal

pub open_row-requires-clause-root : goal.open_row-requires-clause-root
open_row-requires-clause-root c = let made = c.into_parts-code.result in let e = c.into_parts-code.ensures in let code = c.shown_code.ensures ∙ e.code in
    subst (λ (z : NodeTable × Quota). IsRootAlone (code_shown z.0) (quota_words z.1) made.lane.items) (λ k. (sym code k, sym e.quota k)) e.lane

pub open_row-requires-clause-key : goal.open_row-requires-clause-key
open_row-requires-clause-key c = let made = c.into_parts-code.result in let e = c.into_parts-code.ensures in let code = c.shown_code.ensures ∙ e.code in
    let capacity = c.words_of.ensures.value ∙ e.pool.1 in let deques = c.most_of.ensures.value ∙ e.bound ∙ e.most in
    key_is c.args.core (record { code = c.shown_code.result; quota = made.quota; workers = made.workers; capacity = c.words_of.result; actions = made.limit; deques = c.most_of.result }) made.lane.items
    (subst (λ (z : NodeTable × Quota). IsRootAlone (code_shown z.0) (quota_words z.1) made.lane.items) (λ k. (sym code k, sym e.quota k)) e.lane)
    e.quota (λ i. record { workers = e.workers i; limits = record { capacity = capacity i; actions = e.limit i; deques = deques i } }) c.words_of.ensures.few
