-- Where the machine has gone on until it stopped, so has the thread.
use Rattle.std.proofs.Common.{◌≡◌, ℕ, zero, suc, ◌≤◌, refl, sym, ap, ◌∙◌, subst, arith}
use Rattle.thread_stack.specs.Passed.Table.{Table}
use Rattle.flat_statements.specs.Flat.{FlatCode, Point, Came, goes_to, meets, stops, IsEnd, flat_step, Runs, arrived, further}
use Rattle.flat_statements.specs.Threads.{Standing, thread_step}
use Rattle.flat_statements.specs.Follows.{StandsFor, IsWithin, Follows, stays, onward, IsSameEnd, EndsWithin}
use Rattle.flat_statements.proofs.Following.{machine_follows}

abbrev pub next_of : Point → Came Point → Point
next_of p (goes_to q) = q
next_of p (meets kind) = p
next_of p stops = p

module _ (f : FlatCode) where
  one_next : (p q r : Point) → flat_step f p ≡ goes_to q → flat_step f p ≡ goes_to r → q ≡ r
  one_next p q r one two = ap (next_of p) (sym one ∙ two)

  no_next : (p q : Point) → flat_step f p ≡ goes_to q → IsEnd (flat_step f p) → ⊥
  no_next p q e end = let never : ⊥ = subst (λ (c : Came Point). IsEnd c) e end in never

  abbrev pub steps_of : {p q : Point} → Runs f p q → ℕ
  steps_of arrived = zero
  steps_of (further q e h) = suc (steps_of h)

  -- a way to where the machine does not go on leads on from each point that the machine gets to
  record Through (r q : Point) (most : ℕ) : Type 0 where
    runs : Runs f r q
    few : steps_of runs ≤ most

  through : {p q r : Point} → (one : Runs f p q) → Runs f p r → IsEnd (flat_step f q) → Through r q (steps_of one)
  through one arrived end = record { runs = one; few = omega arith }
  through arrived (further m e h) end = absurd (no_next _ m e end)
  through {p} {q} {r} (further m e h) (further n d g) end =
      let rest = through h (subst (λ (x : Point). Runs f x r) (one_next p n m d e) g) end in
      record { runs = rest.runs; few = let less = rest.few in omega (arith, less) }

  no_way : {r q : Point} → Runs f r q → IsEnd (flat_step f r) → r ≡ q
  no_way arrived other = refl
  no_way (further m e h) other = absurd (no_next _ m e other)

  one_end : {p q r : Point} → Runs f p q → Runs f p r → IsEnd (flat_step f q) → IsEnd (flat_step f r) → r ≡ q
  one_end one two end other = no_way (through one two end).runs other

module _ (t : Table) (f : FlatCode) (k size : ℕ) (q : Point) (end : IsEnd (flat_step f q)) where
  further_on : (s v : Standing) → thread_step t s ≡ goes_to v → EndsWithin t f k size q v → EndsWithin t f k size q s
  further_on s v e h = record { at = h.at; way = onward v e h.way; within = h.within; same = h.same }

  ends_here : (s : Standing) (r : Point) → r ≡ q → IsWithin f k size r s → IsSameEnd (flat_step f r) (thread_step t s) → EndsWithin t f k size q s
  ends_here s r e within same = record {
    at = s;
    way = stays;
    within = subst (λ (x : Point). IsWithin f k size x s) e within;
    same = subst (λ (x : Point). IsSameEnd (flat_step f x) (thread_step t s)) e same;
  }

  same_end : (r : Point) (c : Came Point) (d : Came Standing) → flat_step f r ≡ c → IsSameEnd c d → IsSameEnd (flat_step f r) d
  same_end r c d e h = subst (λ (x : Came Point). IsSameEnd x d) (sym e) h

  abbrev GoesOn : (p : Point) → Standing → Runs f p q → Type 0
  GoesOn p s runs = StandsFor t f k size p s → EndsWithin t f k size q s

  by_step : (most : ℕ) → ((p : Point) (s : Standing) (runs : Runs f p q) → suc (steps_of f runs) ≤ most → GoesOn p s runs)
      → (p : Point) (s : Standing) (c : Came Standing) → thread_step t s ≡ c → Follows t f k size p s c → (runs : Runs f p q) → steps_of f runs ≤ most
      → EndsWithin t f k size q s
  by_step most more p s (goes_to v) e h arrived few = absurd (no_next f q h.1.next h.1.first end)
  by_step most more p s (goes_to v) e h (further m d g) few =
      let rest = through f g (subst (λ (x : Point). Runs f x h.0) (one_next f p h.1.next m h.1.first d) h.1.rest) end in
      let less = rest.few in
      further_on s v e (more h.0 v rest.runs (omega (arith, few, less)) h.2)
  by_step most more p s (meets kind) e h runs few =
      let other : IsEnd (flat_step f h.0) = subst (λ (x : Came Point). IsEnd x) (sym h.2) tt in
      ends_here s h.0 (one_end f runs h.1 end other) h.3
      (subst (λ (d : Came Standing). IsSameEnd (flat_step f h.0) d) (sym e) (same_end h.0 (meets kind) (meets kind) h.2 refl))
  by_step most more p s stops e h runs few =
      let other : IsEnd (flat_step f h.0) = subst (λ (x : Came Point). IsEnd x) (sym h.2) tt in
      ends_here s h.0 (one_end f runs h.1 end other) h.3
      (subst (λ (d : Came Standing). IsSameEnd (flat_step f h.0) d) (sym e) (same_end h.0 stops stops h.2 refl))

  goes_on : (n : ℕ) (p : Point) (s : Standing) (runs : Runs f p q) → steps_of f runs ≤ n → GoesOn p s runs
  goes_on zero p s runs few stands =
      by_step zero (λ p s runs less stands. absurd (omega (arith, less))) p s (thread_step t s) refl (machine_follows t f k size p s stands) runs few
  goes_on (suc n) p s runs few stands =
      by_step (suc n) (λ p s runs less stands. goes_on n p s runs (omega (arith, less)) stands) p s (thread_step t s) refl
      (machine_follows t f k size p s stands) runs few

pub machine_ends : (t : Table) (f : FlatCode) (k size : ℕ) (p q : Point) (s : Standing) → StandsFor t f k size p s → Runs f p q → IsEnd (flat_step f q)
    → EndsWithin t f k size q s
machine_ends t f k size p q s stands runs end = goes_on t f k size q end (steps_of f runs) p s runs (omega arith) stands
