use Rattle.std.proofs.Common.{◌+◌, ◌≤◌, sym, ap, ◌∙◌, arith}
use Rattle.std.specs.Prelude.{◌/◌}
use Rattle.language_limits.specs.declared.TheConstants.{RECORD_WORDS}
use Rattle.depth_first_list.specs.Actions.{record_words}
use Rattle.depth_first_list.specs.QuotaWords.{quota_words}
use Rattle.node_table.specs.Codes.{code_shown}
use Rattle.scheduler_state.specs.Held.{held}
use Rattle.scheduler_state.specs.Moments.{terms_of}
use Rattle.deque_machine.specs.Terms.{Terms, given_terms}
use Rattle.scheduler_state.proofs.Begins.{begun_is_sound, begun_can_go_on}
use Rattle.async_core.proofs.Openings.{opening_is_at, begun_somewhere}
use Rattle.async_core.proofs.run.AsyncCore.new.Goals as goal

pub invariant_of-result : goal.invariant_of-result
invariant_of-result c =
    let b = c.in_ok-scheduler.ensures.begun in
    let covers : record_words ≤ quota_words c.args.k = (let q = c.args.k.is_quota in omega (arith, q)) in
    let workers = ap (λ (x : Terms). x.workers) (c.in_ok-scheduler.ensures.terms 0) in
    let within = c.requires.workers in let few = c.requires.limit in
    record {
      sound = begun_is_sound _ _ _ _ b.0 b.1 covers;
      points = λ none. begun_can_go_on (code_shown c.args.code) (quota_words c.args.k) (terms_of c.in_ok-scheduler.scheduler c.args.limit) (held c.in_ok-scheduler.scheduler) b.0 b.1 covers;
      somewhere = begun_somewhere _ _ _ _ b.0 b.1 covers;
      few = omega (arith, few);
      most_is = ap (λ (x : Terms). x.limits.deques) (c.in_ok-scheduler.ensures.terms 0) ∙ c.places-most.ensures.value ∙ ap (λ n. 1 + n / RECORD_WORDS) (sym (ap (λ (x : Terms). x.limits.capacity) (c.in_ok-scheduler.ensures.terms 0)));
      some_workers = omega (arith, workers, within);
      few_workers = omega (arith, workers, within);
    }

pub returns-clause-opening : goal.returns-clause-opening
returns-clause-opening c = λ s of.
    let b = c.in_ok-scheduler.ensures.begun in
    let covers : record_words ≤ quota_words c.args.k = (let q = c.args.k.is_quota in omega (arith, q)) in
    opening_is_at _ _ _ _ b.0 b.1 covers s of

pub returns-clause-terms : goal.returns-clause-terms
returns-clause-terms c = c.in_ok-scheduler.ensures.terms c.args.limit
    ∙ ap (given_terms c.args.workers c.args.arena.pool.capacity c.args.limit) c.places-most.ensures.value
