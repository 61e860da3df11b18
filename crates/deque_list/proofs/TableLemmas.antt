-- How changes of the slab and the keys change the table of lanes.
use Rattle.std.proofs.Common.{◌≡◌, ◌≢◌, ℕ, zero, suc, ◌<◌, List, [], ◌∷◌, length, map, Option, None, Some, IsSome, slice_get, sym, ◌∙◌, ap, inl, inr, refl, arith, true, ◌⊎◌}
use Rattle.std.specs.Prelude.{slice_set, is_some, replicate}
use Rattle.std.specs.Option.{option_map}
use Rattle.std.proofs.lemmas.Option.{slice_get-map, slice_get_within}
use Rattle.std.proofs.lemmas.List.{length-map, get_or-set_same, get_or-set_other}
use Rattle.std.proofs.lemmas.Bool.{cases_lt}
use Rattle.std.proofs.Math.ListN.{get_or-eq_default}
use Rattle.slab.specs.Slab.{Slab, get, Updates, with_value}
use Rattle.deque_list.specs.LaneTables.{stored, IsKeyed}
use Rattle.deque_list.proofs.ListLaws.{same_by_rank}
use Rattle.deque_list.proofs.RankLaws.{written_stands, others_unwritten, same_or_other}

-- a key of the new list is the new one, or was there
key_before : (keys : List (Option ℕ)) (id : ℕ) (slot : Option ℕ) (i k : ℕ) → id < length keys → slice_get (slice_set keys id slot) i ≡ Some (Some k)
    → ((i ≡ id) × (slot ≡ Some k)) ⊎ ((i ≢ id) × (slice_get keys i ≡ Some (Some k)))
key_before keys id slot i k within at_i =
    elim (same_or_other i id) [
      | inl same ↦ let here : Some slot ≡ Some (Some k) = sym (written_stands keys id slot within) ∙ (ap (λ r. slice_get (slice_set keys id slot) r) (sym same) ∙ at_i) in inl (same, cc)
      | inr other ↦ inr (other, sym (others_unwritten keys id slot i other) ∙ at_i)
    ]

module _ {L : Type 0} where
  -- the lane under a key
  pub lane_of_key : (slab : Slab L) (keys : List (Option ℕ)) (id key : ℕ) → slice_get keys id ≡ Some (Some key) → slice_get (map (stored slab) keys) id ≡ Some (get slab key)
  lane_of_key slab keys id key here = slice_get-map (stored slab) keys id ∙ ap (λ o. option_map (stored slab) o) here

  -- the key of a lane
  pub key_of_lane : (slab : Slab L) (keys : List (Option ℕ)) (id : ℕ) (lane : L) → slice_get (map (stored slab) keys) id ≡ Some (Some lane)
      → (key : ℕ) × (slice_get keys id ≡ Some (Some key)) × (get slab key ≡ Some lane)
  key_of_lane slab [] id lane here = cc
  key_of_lane slab (None ∷ keys) zero lane here = cc
  key_of_lane slab (Some key ∷ keys) zero lane here = let under : get slab key ≡ Some lane = cc in (key, refl, under)
  key_of_lane slab (first ∷ keys) (suc id) lane here = key_of_lane slab keys id lane here

  -- an id without a lane has no key, where each key has a value
  pub no_key : (slab : Slab L) (keys : List (Option ℕ)) (id : ℕ) → slice_get (map (stored slab) keys) id ≡ Some None → id < length keys
  no_key slab keys id here = let within = slice_get_within (map (stored slab) keys) id None here in let long = length-map keys (stored slab) in omega arith

  same_stored : (old new : Slab L) (o : Option (Option ℕ)) → ((key : ℕ) → o ≡ Some (Some key) → get new key ≡ get old key) → option_map (stored new) o ≡ option_map (stored old) o
  same_stored old new None each = refl
  same_stored old new (Some None) each = refl
  same_stored old new (Some (Some key)) each = ap (λ l. Some l) (each key refl)

  -- the table changes at one id
  pub table_changed : (old new : Slab L) (keys changed : List (Option ℕ)) (id : ℕ) (lane : Option L) → id < length keys
      → slice_get (map (stored new) changed) id ≡ Some lane
      → ((other : ℕ) → other ≢ id → slice_get changed other ≡ slice_get keys other)
      → ((other key : ℕ) → other ≢ id → slice_get keys other ≡ Some (Some key) → get new key ≡ get old key)
      → map (stored new) changed ≡ slice_set (map (stored old) keys) id lane
  table_changed old new keys changed id lane within here same_keys same_lanes =
      let long = length-map keys (stored old) in
      same_by_rank (map (stored new) changed) (slice_set (map (stored old) keys) id lane) (λ rank. elim (same_or_other rank id) [
        | inl is ↦ ap (λ r. slice_get (map (stored new) changed) r) is ∙ (here
            ∙ (sym (written_stands (map (stored old) keys) id lane (omega arith)) ∙ ap (λ r. slice_get (slice_set (map (stored old) keys) id lane) r) (sym is)))
        | inr other ↦ slice_get-map (stored new) changed rank ∙ (ap (λ o. option_map (stored new) o) (same_keys rank other)
            ∙ (same_stored old new (slice_get keys rank) (λ key is. same_lanes rank key other is)
            ∙ (sym (slice_get-map (stored old) keys rank) ∙ sym (others_unwritten (map (stored old) keys) id lane rank other))))
      ])

  -- a lane is put under a fresh key
  pub table_put : (old new : Slab L) (keys : List (Option ℕ)) (id key : ℕ) (lane : L) → IsKeyed old keys → id < length keys → get old key ≡ None → Updates old new key (Some lane)
      → map (stored new) (slice_set keys id (Some key)) ≡ slice_set (map (stored old) keys) id (Some lane)
  table_put old new keys id key lane keyed within vacant updates =
      table_changed old new keys (slice_set keys id (Some key)) id (Some lane) within
      (lane_of_key new (slice_set keys id (Some key)) id key (written_stands keys id (Some key) within) ∙ ap (λ l. Some l) updates.changed)
      (λ other differs. others_unwritten keys id (Some key) other differs)
      (λ other key' differs is. updates.others key' (λ same. let filled : is_some (get old key') ≡ true = keyed.filled other key' is in
      let empty : get old key' ≡ None = ap (λ k. get old k) same ∙ vacant in cc))

  -- a key in use is not a vacant one
  not_vacant : (old : Slab L) (keys : List (Option ℕ)) (i k key : ℕ) → IsKeyed old keys → get old key ≡ None → slice_get keys i ≡ Some (Some k) → k ≢ key
  not_vacant old keys i k key keyed vacant at_i same =
      let filled : is_some (get old k) ≡ true = keyed.filled i k at_i in let empty : get old k ≡ None = ap (λ m. get old m) same ∙ vacant in cc

  pub keyed_put : (old new : Slab L) (keys : List (Option ℕ)) (id key : ℕ) (lane : L) → IsKeyed old keys → id < length keys → get old key ≡ None → Updates old new key (Some lane)
      → IsKeyed new (slice_set keys id (Some key))
  keyed_put old new keys id key lane keyed within vacant updates = record {
    differ = λ i j k at_i at_j. elim (key_before keys id (Some key) i k within at_i) [
      | inl p ↦ elim (key_before keys id (Some key) j k within at_j) [
        | inl q ↦ p.0 ∙ sym q.0
        | inr q ↦ let is : Some key ≡ Some k = p.1 in absurd (not_vacant old keys j k key keyed vacant q.1 (cc))
      ]
      | inr p ↦ elim (key_before keys id (Some key) j k within at_j) [
        | inl q ↦ let is : Some key ≡ Some k = q.1 in absurd (not_vacant old keys i k key keyed vacant p.1 (cc))
        | inr q ↦ keyed.differ i j k p.1 q.1
      ]
    ];
    filled = λ i k at_i. elim (key_before keys id (Some key) i k within at_i) [
      | inl p ↦ let is : Some key ≡ Some k = p.1 in let same : key ≡ k = cc in ap (λ m. is_some (get new m)) (sym same) ∙ ap (λ l. is_some l) updates.changed
      | inr p ↦ ap (λ l. is_some l) (updates.others k (not_vacant old keys i k key keyed vacant p.1)) ∙ keyed.filled i k p.1
    ];
  }

  -- other ids have other keys
  other_key : (old : Slab L) (keys : List (Option ℕ)) (id key other key' : ℕ) → IsKeyed old keys → slice_get keys id ≡ Some (Some key) → other ≢ id → slice_get keys other ≡ Some (Some key') → key' ≢ key
  other_key old keys id key other key' keyed here differs is same = differs (keyed.differ other id key (is ∙ ap (λ k. Some (Some k)) same) here)

  -- a lane is taken away with its key
  pub table_take : (old new : Slab L) (keys : List (Option ℕ)) (id key : ℕ) → IsKeyed old keys → slice_get keys id ≡ Some (Some key) → Updates old new key None
      → map (stored new) (slice_set keys id None) ≡ slice_set (map (stored old) keys) id None
  table_take old new keys id key keyed here updates =
      let within : id < length keys = slice_get_within keys id (Some key) here in
      table_changed old new keys (slice_set keys id None) id None within
      (slice_get-map (stored new) (slice_set keys id None) id ∙ ap (λ o. option_map (stored new) o) (written_stands keys id None within))
      (λ other differs. others_unwritten keys id None other differs)
      (λ other key' differs is. updates.others key' (other_key old keys id key other key' keyed here differs is))

  pub keyed_take : (old new : Slab L) (keys : List (Option ℕ)) (id key : ℕ) → IsKeyed old keys → slice_get keys id ≡ Some (Some key) → Updates old new key None
      → IsKeyed new (slice_set keys id None)
  keyed_take old new keys id key keyed here updates =
      let within : id < length keys = slice_get_within keys id (Some key) here in
      record {
        differ = λ i j k at_i at_j. elim (key_before keys id None i k within at_i) [
          | inl p ↦ let clash = p.1 in cc
          | inr p ↦ elim (key_before keys id None j k within at_j) [ inl q ↦ let clash = q.1 in cc | inr q ↦ keyed.differ i j k p.1 q.1 ]
        ];
        filled = λ i k at_i. elim (key_before keys id None i k within at_i) [
          | inl p ↦ let clash = p.1 in cc
          | inr p ↦ ap (λ l. is_some l) (updates.others k (other_key old keys id key i k keyed here p.0 p.1)) ∙ keyed.filled i k p.1
        ];
      }

  -- a lane is written where it lies
  pub value_written : (old : Slab L) (key : ℕ) (lane : L) → IsSome (get old key) → Updates old (with_value old key lane) key (Some lane)
  value_written old key lane filled = record {
    changed = get_or-set_same old.slots key (Some lane) None (elim (cases_lt key (length old.slots)) [
      | inl within ↦ within
      | inr past ↦ let empty : get old key ≡ None = get_or-eq_default old.slots None past in let is : is_some (get old key) ≡ true = filled in cc
    ]);
    others = λ other differs. get_or-set_other old.slots key other (Some lane) None differs;
  }

  pub table_written : (old : Slab L) (keys : List (Option ℕ)) (id key : ℕ) (lane : L) → IsKeyed old keys → slice_get keys id ≡ Some (Some key)
      → map (stored (with_value old key lane)) keys ≡ slice_set (map (stored old) keys) id (Some lane)
  table_written old keys id key lane keyed here =
      let updates : Updates old (with_value old key lane) key (Some lane) = value_written old key lane (keyed.filled id key here) in
      table_changed old (with_value old key lane) keys keys id (Some lane) (slice_get_within keys id (Some key) here)
      (lane_of_key (with_value old key lane) keys id key here ∙ ap (λ l. Some l) updates.changed)
      (λ other differs. refl)
      (λ other key' differs is. updates.others key' (other_key old keys id key other key' keyed here differs is))

  pub keyed_written : (old : Slab L) (keys : List (Option ℕ)) (id key : ℕ) (lane : L) → IsKeyed old keys → slice_get keys id ≡ Some (Some key) → IsKeyed (with_value old key lane) keys
  keyed_written old keys id key lane keyed here =
      let updates : Updates old (with_value old key lane) key (Some lane) = value_written old key lane (keyed.filled id key here) in
      record {
        differ = keyed.differ;
        filled = λ i k at_i. elim (same_or_other k key) [
          | inl same ↦ ap (λ m. is_some (get (with_value old key lane) m)) same ∙ ap (λ l. is_some l) updates.changed
          | inr other ↦ ap (λ l. is_some l) (updates.others k other) ∙ keyed.filled i k at_i
        ];
      }

  -- where no id has a key, none has a lane
  pub none_stored : (slab : Slab L) (most : ℕ) → map (stored slab) (replicate most None) ≡ replicate most None
  none_stored slab zero = refl
  none_stored slab (suc most) = ap (λ lanes. None ∷ lanes) (none_stored slab most)
