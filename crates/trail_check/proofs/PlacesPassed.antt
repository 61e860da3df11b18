-- Whatever the kinds, there is an entry for each place that was passed, and what is kept is among these places.
use Rattle.std.proofs.Common.{◌≡◌, ℕ, suc, ◌+◌, ◌<◌, List, [], ◌∷◌, ◌++◌, inl, inr, length, set, refl, sym, subst, ap, ◌∙◌, arith}
use Rattle.std.specs.Prelude.{Option, None, Some}
use Rattle.dag_order.specs.declared.kind.Kind.{Kind}
use Rattle.dag_order.specs.declared.kind.Kind.TheVariants.{Fork, Join, Alloc, Release, Dummy, End, Fault}
use Rattle.trail_check.specs.Pairing.{Pairs, no_pairs, after, after_end, after_join, ArePassed}
use Rattle.trail_check.proofs.GrowingLists.{length_set, length_more}

pub record IsPassing (place : ℕ) (p : Pairs) : Type 0 where
  pub size : length p.partners ≡ place
  pub passed : ArePassed p

pub none_passed : IsPassing 0 no_pairs
none_passed = record { size = refl; passed = λ x. (λ no. absurd no, λ no. absurd no) }

other_passed : (place : ℕ) (p : Pairs) → IsPassing place p → IsPassing (suc place) (record { partners = p.partners ++ None ∷ []; running = p.running; ended = p.ended })
other_passed place p h =
    let long = length_more p.partners None in let size = h.size in record {
      size = long ∙ ap suc size;
      passed = λ x. (λ m. let lt = (h.passed x).0 m in omega arith, λ m. let lt = (h.passed x).1 m in omega arith);
    }

end_passed : (place : ℕ) (partners : List (Option ℕ)) (running ended : List ℕ)
    → IsPassing place (record { partners = partners; running = running; ended = ended }) → IsPassing (suc place) (after_end place partners running ended)
end_passed place partners [] ended h = other_passed place (record { partners = partners; running = []; ended = ended }) h
end_passed place partners (f ∷ older) ended h =
    let long = length_more (set partners f (Some place)) None in
    let same = length_set partners (Some place) f in
    let size : length partners ≡ place = h.size in record {
      size = long ∙ ap suc (same ∙ size);
      passed = λ x. (
        λ m. let lt : x < length partners = (h.passed x).0 (inr m) in omega arith,
        λ m. elim m [ inl e ↦ omega arith | inr old ↦ let lt : x < length partners = (h.passed x).1 old in omega arith ],
      );
    }

join_passed : (place : ℕ) (partners : List (Option ℕ)) (running ended : List ℕ)
    → IsPassing place (record { partners = partners; running = running; ended = ended }) → IsPassing (suc place) (after_join place partners running ended)
join_passed place partners running [] h = other_passed place (record { partners = partners; running = running; ended = [] }) h
join_passed place partners running (e ∷ older) h =
    let long = length_more (set partners e (Some place)) (Some e) in
    let same = length_set partners (Some place) e in
    let size : length partners ≡ place = h.size in record {
      size = long ∙ ap suc (same ∙ size);
      passed = λ x. (
        λ m. let lt : x < length partners = (h.passed x).0 m in omega arith,
        λ m. let lt : x < length partners = (h.passed x).1 (inr m) in omega arith,
      );
    }

pub goes_on_passing : (place : ℕ) (kind : Kind) (p : Pairs) → IsPassing place p → IsPassing (suc place) (after place kind p)
goes_on_passing place Fork p h =
    let long = length_more p.partners None in let size = h.size in record {
      size = long ∙ ap suc size;
      passed = λ x. (
        λ m. elim m [ inl e ↦ omega arith | inr old ↦ let lt = (h.passed x).0 old in omega arith ],
        λ m. let lt = (h.passed x).1 m in omega arith,
      );
    }
goes_on_passing place Join p h = join_passed place p.partners p.running p.ended h
goes_on_passing place Alloc p h = other_passed place p h
goes_on_passing place Release p h = other_passed place p h
goes_on_passing place Dummy p h = other_passed place p h
goes_on_passing place End p h = end_passed place p.partners p.running p.ended h
goes_on_passing place Fault p h = other_passed place p h

-- after one place more
pub passing_on : (place : ℕ) (kind : Kind) (p q : Pairs) → IsPassing place p → q ≡ after place kind p → IsPassing (place + 1) q
passing_on place kind p q h is =
    let next : suc place ≡ place + 1 = omega arith in
    subst (λ m. IsPassing m q) next (subst (λ m. IsPassing (suc place) m) (sym is) (goes_on_passing place kind p h))
