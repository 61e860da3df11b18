-- What a map keeps, from what std says of its entries.
use Rattle.std.proofs.Common.{◌≡◌, ◌≢◌, ℕ, zero, suc, ◌<◌, List, [], ◌∷◌, length, get_or, Option, Some, None, Bool, true, false, cond, sym, ◌∙◌, ap, refl, arith, subst}
use Rattle.std.specs.Prelude.{nat_eq, ◌&&◌, remove, IfSome}
use Rattle.std.specs.Map.{lookup, remove_entry}
use Rattle.std.specs.List.Sorted.{IsPermutation}
use Rattle.std.proofs.lemmas.List.Sorted.{IsPermutation-remove, IsPermutation-cons, IsPermutation-trans}
use borrow.Author.Tests.{eqb-true}
use Rattle.dag_order.specs.declared.thread_id.ThreadId.{ThreadId}
use Rattle.thread_map.specs.Kept.{same_thread}

-- the test of ids is exact
pub same_is_same : (a b : ThreadId) → same_thread a b ≡ true → b ≡ a
same_is_same a b same = go (nat_eq a.period b.period) refl (nat_eq a.nth b.nth) refl same
  where
    go : (p : Bool) → nat_eq a.period b.period ≡ p → (n : Bool) → nat_eq a.nth b.nth ≡ n → (p && n) ≡ true → b ≡ a
    go true is true is' both =
        let period = eqb-true a.period b.period is in let nth = eqb-true a.nth b.nth is' in
        sym (λ i. record { period = period i; nth = nth i })
    go true is false is' both = cc
    go false is n is' both = cc

pub others_differ : (a b : ThreadId) → b ≢ a → same_thread a b ≡ false
others_differ a b other = go (same_thread a b) refl
  where
    go : (t : Bool) → same_thread a b ≡ t → t ≡ false
    go true is = absurd (other (same_is_same a b is))
    go false is = refl

module _ {T : Type 0} (test : ThreadId → Bool) where
  -- an entry that a look-up finds, at its place
  pub record IsAt (es : List (ThreadId × T)) (value : T) : Type 0 where
    pub place : ℕ
    pub key : ThreadId
    pub within : place < length es
    pub passes : test key ≡ true
    pub here : ◌≡◌ {A = ThreadId × T} (key, value) (get_or es place (key, value))
    pub without : remove_entry test es ≡ remove es place

  pub found_at : (es : List (ThreadId × T)) (value : T) → lookup test es ≡ Some value → IsAt es value
  found_at [] value is = cc
  found_at (e ∷ es) value is = go (test e.0) refl is (λ found. found_at es value found)
    where
      go : (b : Bool) → test e.0 ≡ b → cond b (Some e.1) (lookup test es) ≡ Some value → (lookup test es ≡ Some value → IsAt es value) → IsAt (e ∷ es) value
      go true passes found others =
          let same : e.1 ≡ value = cc in
          record {
            place = zero;
            key = e.0;
            within = omega arith;
            passes = passes;
            here = λ i. (e.0, sym same i);
            without = ap (λ b. cond b es (e ∷ remove_entry test es)) passes;
          }
      go false passes found others =
          let rest = others found in
          let below = rest.within in
          record {
            place = suc rest.place;
            key = rest.key;
            within = omega arith;
            passes = rest.passes;
            here = rest.here;
            without = ap (λ b. cond b es (e ∷ remove_entry test es)) passes ∙ ap (λ others. e ∷ others) rest.without;
          }

-- what was taken and what is left are what there was
pub taken_entries : {T : Type 0} (old new : List (ThreadId × T)) (id : ThreadId) (found : Option T) → found ≡ lookup (same_thread id) old → IsPermutation (remove_entry (same_thread id) old) new
    → IfSome found (λ value. IsPermutation old ((id, value) ∷ new))
taken_entries old new id None is left = tt
taken_entries {T} old new id (Some value) is left =
    let at = found_at (same_thread id) old value (sym is) in
    let same : at.key ≡ id = same_is_same id at.key at.passes in
    let P : List (ThreadId × T) → Type 0 = λ rest. IsPermutation old ((id, value) ∷ rest) in
    let Q : ThreadId → Type 0 = λ key. IsPermutation old ((key, value) ∷ remove_entry (same_thread id) old) in
    let R : List (ThreadId × T) → Type 0 = λ rest. IsPermutation old ((at.key, value) ∷ rest) in
    IsPermutation-trans old ((id, value) ∷ remove_entry (same_thread id) old) ((id, value) ∷ new)
    (subst Q same (subst R (sym at.without) (IsPermutation-remove old at.place (at.key, value) at.within at.here)))
    (IsPermutation-cons (id, value) (remove_entry (same_thread id) old) new left)
