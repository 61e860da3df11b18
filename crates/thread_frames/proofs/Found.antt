-- What a lookup by the id of a thread says of the entries.
use Rattle.std.proofs.Common.{◌≡◌, ◌≢◌, List, [], ◌∷◌, inl, inr, refl, sym, ap, ◌∙◌, true≢false}
use Rattle.std.specs.Prelude.{Bool, true, false, cond, Some, None, nat_eq, ◌&&◌}
use Rattle.std.specs.Map.{lookup}
use Rattle.std.proofs.lemmas.Bool.{eq-eqb}
use Rattle.std.proofs.lemmas.Option.{same_Some, none-some}
use Rattle.dag_order.specs.declared.thread_id.ThreadId.{ThreadId}
use Rattle.deque_machine.specs.Lists.{Among, Each}
use Rattle.thread_map.specs.Kept.{same_thread}
use Rattle.thread_map.proofs.KeptLemmas.{same_is_same}

-- an id is the same as itself
pub same_with_itself : (id : ThreadId) → same_thread id id ≡ true
same_with_itself id = ap (λ b. b && nat_eq id.nth id.nth) (eq-eqb id.period id.period refl) ∙ eq-eqb id.nth id.nth refl

-- an entry that a lookup finds stands in the list under its key
pub found_among : {T : Type 0} (id : ThreadId) (entries : List (ThreadId × T)) (value : T) → lookup (same_thread id) entries ≡ Some value
    → Among {X = ThreadId × T} (id, value) entries
found_among id [] value is = absurd (none-some value is)
found_among {T} id (e ∷ entries) value is = by_test (same_thread id e.0) refl is (λ found. found_among id entries value found)
  where
    by_test : (b : Bool) → same_thread id e.0 ≡ b → cond b (Some e.1) (lookup (same_thread id) entries) ≡ Some value
        → (lookup (same_thread id) entries ≡ Some value → Among {X = ThreadId × T} (id, value) entries) → Among {X = ThreadId × T} (id, value) (e ∷ entries)
    by_test true passes found further = inl (λ i. (sym (same_is_same id e.0 passes) i, sym (same_Some e.1 value found) i))
    by_test false passes found further = inr (further found)

-- where it finds none, no entry has this key
pub none_found : {T : Type 0} (id : ThreadId) (entries : List (ThreadId × T)) → lookup (same_thread id) entries ≡ None → Each (λ e. e.0 ≢ id) entries
none_found id [] is = tt
none_found {T} id (e ∷ entries) is = by_test (same_thread id e.0) refl is (λ none. none_found id entries none)
  where
    by_test : (b : Bool) → same_thread id e.0 ≡ b → cond b (Some e.1) (lookup (same_thread id) entries) ≡ None
        → (lookup (same_thread id) entries ≡ None → Each (λ x. x.0 ≢ id) entries) → Each (λ x. x.0 ≢ id) (e ∷ entries)
    by_test true passes none further = absurd (none-some e.1 (sym none))
    by_test false passes none further = (λ same. absurd (apart e.0 passes same), further none)
      where
        apart : (key : ThreadId) → same_thread id key ≡ false → key ≢ id
        apart key fails same = true≢false (sym (same_with_itself id) ∙ ap (same_thread id) (sym same) ∙ fails)
