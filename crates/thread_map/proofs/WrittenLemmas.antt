-- A map of which one value was written.
use Rattle.std.proofs.Common.{◌≡◌, ◌≢◌, List, [], ◌∷◌, Option, Some, Bool, true, false, cond, sym, ◌∙◌, ap, refl}
use Rattle.std.specs.Map.{lookup, set_value}
use Rattle.dag_order.specs.declared.thread_id.ThreadId.{ThreadId}
use Rattle.thread_map.specs.Kept.{same_thread}
use Rattle.thread_map.specs.Laws.{ValueWritten}
use Rattle.thread_map.proofs.KeptLemmas.{same_is_same, others_differ}

module _ {T : Type 0} (id : ThreadId) (after : T) where
  -- the value under the id
  own_written : (es : List (ThreadId × T)) (before : T) → lookup (same_thread id) es ≡ Some before → lookup (same_thread id) (set_value (same_thread id) es after) ≡ Some after
  own_written [] before is = cc
  own_written (e ∷ es) before is = go (same_thread id e.0) refl is (λ found. own_written es before found)
    where
      go : (b : Bool) → same_thread id e.0 ≡ b → cond b (Some e.1) (lookup (same_thread id) es) ≡ Some before
          → (lookup (same_thread id) es ≡ Some before → lookup (same_thread id) (set_value (same_thread id) es after) ≡ Some after)
          → lookup (same_thread id) (cond b ((e.0, after) ∷ es) (e ∷ set_value (same_thread id) es after)) ≡ Some after
      go true passes found later = ap (λ b. cond b (Some after) (lookup (same_thread id) es)) passes
      go false passes found later = ap (λ b. cond b (Some e.1) (lookup (same_thread id) (set_value (same_thread id) es after))) passes ∙ later found

  -- and those under other ids
  others_kept : (other : ThreadId) → other ≢ id → (es : List (ThreadId × T)) → lookup (same_thread other) (set_value (same_thread id) es after) ≡ lookup (same_thread other) es
  others_kept other differs [] = refl
  others_kept other differs (e ∷ es) = go (same_thread id e.0) refl (others_kept other differs es)
    where
      go : (b : Bool) → same_thread id e.0 ≡ b → lookup (same_thread other) (set_value (same_thread id) es after) ≡ lookup (same_thread other) es
          → lookup (same_thread other) (cond b ((e.0, after) ∷ es) (e ∷ set_value (same_thread id) es after)) ≡ lookup (same_thread other) (e ∷ es)
      go true passes rest =
          let apart : same_thread other e.0 ≡ false = ap (λ k. same_thread other k) (same_is_same id e.0 passes) ∙ others_differ other id (λ same. differs (sym same)) in
          ap (λ b. cond b (Some after) (lookup (same_thread other) es)) apart ∙ sym (ap (λ b. cond b (Some e.1) (lookup (same_thread other) es)) apart)
      go false passes rest = ap (λ found. cond (same_thread other e.0) (Some e.1) found) rest

pub value_written : {T : Type 0} → ValueWritten T
value_written kept id before after is = (own_written id after kept.entries before is, λ other differs. others_kept id after other differs kept.entries)
