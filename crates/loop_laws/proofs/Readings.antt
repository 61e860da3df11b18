-- What is read of items that stand one behind the other.
use Rattle.std.specs.Prelude.{◌≡◌, ◌||◌, Bool, true, false, List, [], ◌∷◌, ◌++◌, ℤ, Option, Some, None, is_some, refl}
use Rattle.std.proofs.Common.{sym, ◌∙◌, ap, subst, append-nil, append_assoc}
use Rattle.dag_order.specs.declared.fault.FaultAt.{FaultAt}
use Rattle.depth_first_run.specs.States.{State, Item, began, acted, printed, failed}
use Rattle.depth_first_run.specs.Run.{lines_of, first_fault}
use Rattle.loop_laws.specs.Outcomes.{Mark, number, fault, marks_of, added, KeepsLimits}
use Rattle.loop_laws.proofs.Lists.{limits_front, limits_back, added_is}
use Rattle.loop_laws.proofs.Faulting.{Tells, has_fault}

-- what counts behind a first fault, where there is one
or_first : Option FaultAt → Option FaultAt → Option FaultAt
or_first None later = later
or_first (Some f) later = Some f

behind : Option FaultAt → List ℤ → List ℤ
behind None vs = vs
behind (Some f) vs = []

fault_append : (xs ys : List Item) → first_fault (xs ++ ys) ≡ or_first (first_fault xs) (first_fault ys)
unfolding or_first
fault_append [] ys = refl
fault_append (began line ∷ xs) ys = fault_append xs ys
fault_append (acted a ∷ xs) ys = fault_append xs ys
fault_append (printed v ∷ xs) ys = fault_append xs ys
fault_append (failed f ∷ xs) ys = refl

one_line_more : (o : Option FaultAt) (v : ℤ) (us vs : List ℤ) → v ∷ (us ++ behind o vs) ≡ (v ∷ us) ++ behind o vs
one_line_more o v us vs = refl

lines_append : (xs ys : List Item) → lines_of (xs ++ ys) ≡ lines_of xs ++ behind (first_fault xs) (lines_of ys)
unfolding behind
lines_append [] ys = refl
lines_append (began line ∷ xs) ys = lines_append xs ys
lines_append (acted a ∷ xs) ys = lines_append xs ys
lines_append (printed v ∷ xs) ys = ap (λ (vs : List ℤ). v ∷ vs) (lines_append xs ys)
lines_append (failed f ∷ xs) ys = refl

-- the same is read of two lists: the same lines, and the same first fault
pub record ReadTheSame (xs ys : List Item) : Type 0 where
  pub lines : lines_of xs ≡ lines_of ys
  pub fault : first_fault xs ≡ first_fault ys

pub read_append : (xs ys xs' ys' : List Item) → ReadTheSame xs ys → ReadTheSame xs' ys' → ReadTheSame (xs ++ xs') (ys ++ ys')
read_append xs ys xs' ys' r r' = record {
  lines = lines_append xs xs' ∙ (λ i. r.lines i ++ behind (r.fault i) (r'.lines i)) ∙ sym (lines_append ys ys');
  fault = fault_append xs xs' ∙ (λ i. or_first (r.fault i) (r'.fault i)) ∙ sym (fault_append ys ys');
}

nothing_behind : (o : Option FaultAt) (us vs : List ℤ) → is_some o ≡ true → us ++ behind o vs ≡ us
unfolding behind
nothing_behind None us vs e = let never : ⊥ = cc in absurd never
nothing_behind (Some f) us vs e = append-nil us

first_stays : (o later : Option FaultAt) → is_some o ≡ true → or_first o later ≡ o
unfolding or_first
first_stays None later e = let never : ⊥ = cc in absurd never
first_stays (Some f) later e = refl

-- behind a fault nothing more is read
pub read_front : (xs more : List Item) → has_fault xs ≡ true → ReadTheSame (xs ++ more) xs
read_front xs more e = record {
  lines = lines_append xs more ∙ nothing_behind (first_fault xs) (lines_of xs) (lines_of more) e;
  fault = fault_append xs more ∙ first_stays (first_fault xs) (first_fault more) e;
}

pub read_trans : (xs ys zs : List Item) → ReadTheSame xs ys → ReadTheSame ys zs → ReadTheSame xs zs
read_trans xs ys zs p q = record { lines = p.lines ∙ q.lines; fault = p.fault ∙ q.fault }

pub read_faults : (xs ys : List Item) → ReadTheSame xs ys → has_fault xs ≡ has_fault ys
read_faults xs ys r = ap (λ (o : Option FaultAt). is_some o) r.fault

-- items that tell the same are read the same
lines_told : List Mark → List ℤ
lines_told [] = []
lines_told (number v ∷ ms) = v ∷ lines_told ms
lines_told (fault f ∷ ms) = []

fault_told : List Mark → Option FaultAt
fault_told [] = None
fault_told (number v ∷ ms) = fault_told ms
fault_told (fault f ∷ ms) = Some f

lines_by_marks : (xs : List Item) → lines_of xs ≡ lines_told (marks_of xs)
unfolding lines_told
lines_by_marks [] = refl
lines_by_marks (began line ∷ xs) = lines_by_marks xs
lines_by_marks (acted a ∷ xs) = lines_by_marks xs
lines_by_marks (printed v ∷ xs) = ap (λ (vs : List ℤ). v ∷ vs) (lines_by_marks xs)
lines_by_marks (failed f ∷ xs) = refl

fault_by_marks : (xs : List Item) → first_fault xs ≡ fault_told (marks_of xs)
unfolding fault_told
fault_by_marks [] = refl
fault_by_marks (began line ∷ xs) = fault_by_marks xs
fault_by_marks (acted a ∷ xs) = fault_by_marks xs
fault_by_marks (printed v ∷ xs) = fault_by_marks xs
fault_by_marks (failed f ∷ xs) = refl

pub read_by_marks : (xs ys : List Item) → marks_of xs ≡ marks_of ys → ReadTheSame xs ys
read_by_marks xs ys e = record {
  lines = lines_by_marks xs ∙ ap lines_told e ∙ sym (lines_by_marks ys);
  fault = fault_by_marks xs ∙ ap fault_told e ∙ sym (fault_by_marks ys);
}

-- ---- what was added

limits_append : (xs ys : List Item) → KeepsLimits (xs ++ ys) → KeepsLimits xs × KeepsLimits ys
limits_append xs ys k = (limits_front xs ys k, limits_back xs ys k)

-- the limits that what was added keeps are kept by a list that is known to be it
pub limits_of : (s t : State) (new : List Item) → t.items ≡ s.items ++ new → KeepsLimits (added s t) → KeepsLimits new
limits_of s t new e k = subst (λ (is : List Item). KeepsLimits is) (added_is s t new e) k

-- the second state has more items
pub record Longer (s t : State) : Type 0 where
  pub new : List Item
  pub items : t.items ≡ s.items ++ new

pub longer : (s t : State) → Tells s t → Longer s t
longer s t p = record { new = p.new; items = p.items }

pub longer_by : (s t : State) (new : List Item) → t.items ≡ s.items ++ new → Longer s t
longer_by s t new e = record { new = new; items = e }

pub longer_trans : (s t u : State) → Longer s t → Longer t u → Longer s u
longer_trans s t u p q = record { new = p.new ++ q.new; items = q.items ∙ ap (λ (is : List Item). is ++ q.new) p.items ∙ append_assoc s.items p.new q.new }

-- what two runs add, one behind the other
pub added_split : (s t u : State) → Longer s t → Longer t u → added s u ≡ added s t ++ added t u
added_split s t u p q =
    added_is s u (p.new ++ q.new) (q.items ∙ ap (λ (is : List Item). is ++ q.new) p.items ∙ append_assoc s.items p.new q.new)
    ∙ (λ i. sym (added_is s t p.new p.items) i ++ sym (added_is t u q.new q.items) i)

-- where two runs, one behind the other, keep the limits, the first does, and the second
pub limits_split : (s t u : State) → Longer s t → Longer t u → KeepsLimits (added s u) → KeepsLimits (added s t) × KeepsLimits (added t u)
limits_split s t u p q k = limits_append (added s t) (added t u) (subst (λ (is : List Item). KeepsLimits is) (added_split s t u p q) k)

-- a thread that had not faulted has faulted where a fault was added
pub faulted_is : (s t : State) → Tells s t → s.faulted ≡ false → t.faulted ≡ has_fault (added s t)
faulted_is s t p e = p.faulted ∙ ap (λ (b : Bool). b || has_fault p.new) e ∙ ap has_fault (sym (added_is s t p.new p.items))
