-- Two cores whose parts are the same are the same core: what a core has beside its parts are facts, and each fact has one proof.
use Rattle.std.specs.Prelude.{◌≡◌, ◌≤◌, ◌<◌, None, length}
use Rattle.std.proofs.Math.Logic.{∥∥₁_prop}
use Rattle.language_limits.specs.declared.TheConstants.{GREATEST_COUNT, MOST_WORKERS}
use mathlib.Core.HLevel.{is_prop→PathP}
use denote.Struct.Props.{props}
use Rattle.node_table.specs.Codes.{code_shown}
use Rattle.depth_first_list.specs.QuotaWords.{quota_words}
use Rattle.scheduler_state.specs.Held.{held}
use Rattle.scheduler_state.proofs.Sounds.{sound_one}
use Rattle.scheduler_state.specs.Moments.{IsSound, CanGoOn, terms_of}
use Rattle.dfd_core.specs.Running.{IsSomewhere}
use Rattle.dfd_core.specs.declared.run.Core.{Core}

pub same_core : (x y : Core) → x.scheduler ≡ y.scheduler → x.code ≡ y.code → x.k ≡ y.k → x.limit ≡ y.limit → x.most ≡ y.most → x.alloc ≡ y.alloc → x.end ≡ y.end → x ≡ y
same_core x y s c k l m a e = λ i. record {
  scheduler = s i;
  code = c i;
  k = k i;
  limit = l i;
  most = m i;
  alloc = a i;
  end = e i;
  sound = is_prop→PathP (λ j. IsSound (code_shown (c j)) (quota_words (k j)) (terms_of (s j) (l j)) (held (s j))) (λ j. sound_one (code_shown (c j)) (quota_words (k j)) (terms_of (s j) (l j)) (held (s j))) x.sound y.sound i;
  points = is_prop→PathP (λ j. e j ≡ None → CanGoOn (code_shown (c j)) (quota_words (k j)) (held (s j))) (λ j. λ p q i is. ∥∥₁_prop (p is) (q is) i) x.points y.points i;
  somewhere = is_prop→PathP (λ j. IsSomewhere (code_shown (c j)) (quota_words (k j)) (terms_of (s j) (l j)) (held (s j)) (e j)) (λ j. λ p q i d is. ∥∥₁_prop (p d is) (q d is) i) x.somewhere y.somewhere i;
  few = is_prop→PathP (λ j. l j < GREATEST_COUNT) (λ j. search props) x.few y.few i;
  most_is = is_prop→PathP (λ j. m j ≡ (s j).list.most) (λ j. search props) x.most_is y.most_is i;
  some_workers = is_prop→PathP (λ j. 1 ≤ length (s j).table.seats.items) (λ j. search props) x.some_workers y.some_workers i;
  few_workers = is_prop→PathP (λ j. length (s j).table.seats.items ≤ MOST_WORKERS) (λ j. search props) x.few_workers y.few_workers i;
}
