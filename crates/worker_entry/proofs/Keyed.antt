-- The key of the hall of a core is one.
use Rattle.std.proofs.Common.{◌≡◌, ℕ, List, ◌<◌, ◌≤◌, sym, ap, ◌∙◌, subst}
use Rattle.std.proofs.Math.Logic.{∥∥₁_elim, ∥∥₁_prop}
use Rattle.language_limits.specs.declared.TheConstants.{GREATEST_COUNT, MOST_WORKERS}
use Rattle.block_arena.specs.declared.size.TheConstants.{MOST_COUNTED}
use Rattle.depth_first_list.specs.Actions.{record_words}
use Rattle.hall_slots.specs.Passed.Terms.{Terms}
use Rattle.dfd_core.specs.Cores.{terms_at}
use Rattle.thread_frames.specs.Roots.{IsRootAlone}
use Rattle.dfd_core.specs.declared.run.Core.{Core}
use Rattle.depth_first_list.specs.QuotaWords.{quota_words}
use Rattle.thread_frames.specs.Points.{IsAtPoint}
use Rattle.thread_frames.specs.declared.thread.Thread.{Thread}
use Rattle.hall_slots.specs.Keys.{table_of, quota_of, terms_of, IsKey}
use Rattle.hall_slots.specs.declared.key.HallKey.{HallKey}

pub key_is : (core : Core) (key : HallKey) (items : List Thread) → IsRootAlone (table_of key) (quota_of key) items → key.quota ≡ core.k → terms_of key ≡ terms_at core → key.capacity ≤ MOST_COUNTED → IsKey key
key_is core key items root quota terms few = record {
  of_program = ∥∥₁_elim root.5 ∥∥₁_prop (λ p. p.of_program);
  quota = subst (λ k. record_words ≤ quota_words k) (sym quota) core.sound.quota;
  some_worker = subst (λ (t : Terms). 1 ≤ t.workers) (sym terms) core.some_workers;
  few_workers = subst (λ (t : Terms). t.workers ≤ MOST_WORKERS) (sym terms) core.few_workers;
  few_words = few;
  few_actions = subst (λ (t : Terms). t.limits.actions < GREATEST_COUNT) (sym terms) core.few;
}
