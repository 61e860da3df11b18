-- Children of which the newest alone has an id.
use Rattle.std.proofs.Common.{◌≡◌, ◌≢◌, ℕ, List, [], ◌∷◌, ◌++◌, map, reverse, inl, inr, sym, ap, subst, ◌∙◌}
use Rattle.std.specs.Prelude.{true, false}
use Rattle.std.proofs.lemmas.List.{reverse-append, map-append}
use Rattle.dag_order.specs.declared.thread_id.ThreadId.{ThreadId}
use Rattle.open_periods.specs.Passed.Lists.{Among, Each}
use Rattle.thread_map.proofs.KeptLemmas.{others_differ}
use Rattle.thread_frames.specs.Actions.{IsIdOf}
use Rattle.thread_frames.specs.Children.{same_id, IsResultFor, either_of, IsAwaited, delivered_if, with_delivered, IsOnlyNewest, told_if, is_delivered}
use Rattle.thread_frames.specs.Views.{Child, newest}
use Rattle.thread_frames.specs.declared.ended.Ended.{Ended}
use Rattle.thread_frames.specs.Shown.{child_shown}
use Rattle.thread_frames.proofs.Threads.{newest_last}
use Rattle.open_periods.proofs.Passed.Lists.{among_left, among_right, by_end}
use Rattle.thread_frames.proofs.Found.{same_with_itself}

-- the children with the newest one at the end, which has the id
pub record Cut (children : List Child) (id : ThreadId) : Type 0 where
  pub front : List Child
  pub last : Child
  pub are : children ≡ front ++ last ∷ []
  pub its_id : last.id ≡ id

pub cut_newest : (children : List Child) (id : ThreadId) → IsIdOf id (newest children) → Cut children id
cut_newest children id is = elim (by_end children) [
  | inl none ↦ absurd (subst (λ cs. IsIdOf id (newest cs)) none is)
  | inr cut ↦ record {
    front = cut.0;
    last = cut.1;
    are = cut.2;
    its_id = subst (IsIdOf id) (ap newest cut.2 ∙ newest_last cut.0 cut.1) is;
  }
]

-- the newest one stands first among those that are shown
pub shown_cut : (front : List Child) (last : Child) → map child_shown (reverse (front ++ last ∷ [])) ≡ child_shown last ∷ map child_shown (reverse front)
shown_cut front last = ap (map child_shown) (reverse-append front (last ∷ []))

pub among_reversed : (x : Child) (xs : List Child) → Among x xs → Among (child_shown x) (map child_shown (reverse xs))
among_reversed x [] there = absurd there
among_reversed x (y ∷ xs) there = subst (Among (child_shown x)) (sym (last_shown y xs)) (elim there [
  | inl same ↦ among_right (child_shown x) (map child_shown (reverse xs)) (child_shown y ∷ []) (inl (ap child_shown same))
  | inr later ↦ among_left (child_shown x) (map child_shown (reverse xs)) (child_shown y ∷ []) (among_reversed x xs later)
])
  where
    last_shown : (y : Child) (xs : List Child) → map child_shown (reverse (y ∷ xs)) ≡ map child_shown (reverse xs) ++ child_shown y ∷ []
    last_shown y xs = ap (map child_shown) (reverse-append (y ∷ []) xs) ∙ map-append child_shown (reverse xs) (y ∷ [])

module _ (id : ThreadId) where
  -- no older one has the id
  abbrev pub AreOthers : List Child → Type 0
  AreOthers front = Each (λ x. x.id ≢ id) front

  it_is : (x : Child) → x.id ≡ id → same_id x.id id ≡ true
  it_is x is = ap (λ i. same_id i id) is ∙ same_with_itself id

  it_is_not : (x : Child) → x.id ≢ id → same_id x.id id ≡ false
  it_is_not x other = others_differ x.id id (λ same. other (sym same))

  pub delivered_last : (front : List Child) (last : Child) → AreOthers front → last.id ≡ id → is_delivered id (front ++ last ∷ []) ≡ last.delivered
  delivered_last [] last others is = ap (λ b. told_if b last.delivered false) (it_is last is)
  delivered_last (x ∷ front) last others is =
      ap (λ b. told_if b x.delivered (is_delivered id (front ++ last ∷ []))) (it_is_not x others.0) ∙ delivered_last front last others.1 is

  pub with_delivered_last : (front : List Child) (last : Child) → AreOthers front → last.id ≡ id
      → with_delivered id (front ++ last ∷ []) ≡ front ++ record last { delivered = true } ∷ []
  with_delivered_last [] last others is = ap (λ b. delivered_if b last [] (with_delivered id [])) (it_is last is)
  with_delivered_last (x ∷ front) last others is =
      ap (λ b. delivered_if b x (front ++ last ∷ []) (with_delivered id (front ++ last ∷ []))) (it_is_not x others.0)
      ∙ ap (λ t. x ∷ t) (with_delivered_last front last others.1 is)

  pub only_last : (front : List Child) (last : Child) → AreOthers front → last.id ≡ id → IsOnlyNewest id (front ++ last ∷ [])
  only_last [] last others is = it_is last is
  only_last (x ∷ []) last others is = (it_is_not x others.0, it_is last is)
  only_last (x ∷ y ∷ front) last others is = (it_is_not x others.0, only_last (y ∷ front) last others.1 is)

  pub awaits_last : (label : List ℕ) (ended : Ended) → ended.id ≡ id → (front : List Child) (last : Child) → AreOthers front → last.id ≡ id → IsResultFor label ended last
      → IsAwaited label ended (front ++ last ∷ [])
  awaits_last label ended its [] last others is result =
      subst (λ b. either_of b (IsResultFor label ended last) ⊥) (sym (ap (same_id last.id) its ∙ it_is last is)) result
  awaits_last label ended its (x ∷ front) last others is result =
      subst (λ b. either_of b (IsResultFor label ended x) (IsAwaited label ended (front ++ last ∷ []))) (sym (ap (same_id x.id) its ∙ it_is_not x others.0))
      (awaits_last label ended its front last others.1 is result)
