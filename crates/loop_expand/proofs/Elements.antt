-- Reading a loop finds what the form says, and finds each loop of the form.
use Rattle.std.proofs.Common.{◌≡◌, ℕ, zero, suc, ◌<◌, ◌≤◌, Bool, true, false, cond, List, [], ◌∷◌, ◌++◌, length, refl, sym, ap, ◌∙◌, subst, arith}
use Rattle.std.specs.Prelude.{Some, None}
use Rattle.std.proofs.lemmas.List.{length-append}
use Rattle.par_text.specs.declared.kind.Kind.{Kind}
use Rattle.par_text.specs.declared.kind.Kind.TheVariants.{Name, Number, Comma, Into, Use, At}
use Rattle.par_text.specs.Kinds.{is}
use Rattle.par_text.proofs.KindLemmas.{is-self, same_from_is}
use Rattle.par_lex.specs.declared.lexeme.Lexeme.{Lexeme}
use Rattle.loop_expand.specs.Runs.{is_plain, closer, Nested, nothing, plain, bracketed}
use Rattle.loop_expand.specs.Loops.{Range, numbers, parts, is_size, Element, sign, size, run, StandsFirst, StandFirst, range_form, others_form, next_is}
use Rattle.loop_expand.specs.Reading.{Answer, ◌>>=◌, ends, turn, read_run, read_one, read_size, read_numbers, read_parts, read_range, read_other, read_others}
use Rattle.loop_expand.proofs.Nesting.{some_same, Stops, run_read, run_found}

-- one step and what is read behind it
pub record Step {A B : Type 0} (o : Answer A) (f : A × List Lexeme → Answer B) (y : B × List Lexeme) : Type 0 where
  pub middle : A × List Lexeme
  pub first : o ≡ Some middle
  pub second : f middle ≡ Some y

pub step_of : {A B : Type 0} (o : Answer A) (f : A × List Lexeme → Answer B) (y : B × List Lexeme) → (o >>= f) ≡ Some y → Step o f y
step_of (Some x) f y e = record { middle = x; first = refl; second = e }
step_of None f y e = cc

pub behind_step : {A B : Type 0} (o : Answer A) (f : A × List Lexeme → Answer B) (x : A × List Lexeme) → o ≡ Some x → (o >>= f) ≡ f x
behind_step {A} o f x e = ap (λ (p : Answer A). p >>= f) e

-- what holds of a value and the tokens behind it, at the same value and tokens
pub at_same : {X : Type 0} (P : X → List Lexeme → Type 0) (a b : X × List Lexeme) → a ≡ b → P a.0 a.1 → P b.0 b.1
at_same {X} P a b same here = subst (λ (y : X × List Lexeme). P y.0 y.1) same here

-- one token

pub one_found : (k : Kind) (ts : List Lexeme) (x : Lexeme × List Lexeme) → read_one k ts ≡ Some x → (ts ≡ x.0 ∷ x.1) × (x.0.kind ≡ k)
one_found k [] x e = cc
one_found k (t ∷ ts) x e = by_kind (is k t.kind) refl e
  where
    by_kind : (b : Bool) → is k t.kind ≡ b → cond b (let found : Answer Lexeme = Some (t, ts) in found) None ≡ Some x → ((t ∷ ts) ≡ x.0 ∷ x.1) × (x.0.kind ≡ k)
    by_kind true same h =
        let pair = some_same (t, ts) x h in (
          ap (λ (y : Lexeme × List Lexeme). y.0 ∷ y.1) pair,
          sym (ap (λ (y : Lexeme × List Lexeme). y.0.kind) pair) ∙ same_from_is k t.kind same,
        )
    by_kind false other h = cc

pub one_read : (k : Kind) (ts : List Lexeme) (t : Lexeme) (behind : List Lexeme) → ts ≡ t ∷ behind → t.kind ≡ k → read_one k ts ≡ Some (t, behind)
one_read k ts t behind split same =
    ap (λ (l : List Lexeme). read_one k l) split
    ∙ ap (λ (b : Bool). cond b (let found : Answer Lexeme = Some (t, behind) in found) None) (is-self k t.kind same)

sized : (ts : List Lexeme) (n x : Lexeme × List Lexeme) (b : Bool) → is_size n.0.value ≡ b → (ts ≡ n.0 ∷ n.1) × (n.0.kind ≡ Number)
    → cond b (let found : Answer Lexeme = Some n in found) None ≡ Some x → StandsFirst (size x.0) ts x.1
sized ts n x true fits here e = subst (λ (y : Lexeme × List Lexeme). StandsFirst (size y.0) ts y.1) (some_same n x e) (here.0, here.1, fits)
sized ts n x false misses here e = cc

size_found : (ts : List Lexeme) (x : Lexeme × List Lexeme) → read_size ts ≡ Some x → StandsFirst (size x.0) ts x.1
size_found ts x e =
    let s = step_of (read_one Number ts) (λ n. cond (is_size n.0.value) (Some n) None) x e in
    sized ts s.middle x (is_size s.middle.0.value) refl (one_found Number ts s.middle s.first) s.second

size_read : (ts : List Lexeme) (t : Lexeme) (behind : List Lexeme) → StandsFirst (size t) ts behind → read_size ts ≡ Some (t, behind)
size_read ts t behind here =
    behind_step (read_one Number ts) (λ n. cond (is_size n.0.value) (Some n) None) (t, behind) (one_read Number ts t behind here.0 here.1)
    ∙ ap (λ (b : Bool). cond b (let found : Answer Lexeme = Some (t, behind) in found) None) here.2

-- elements one behind the other

pub stand_join : (es fs : List Element) (ts middle behind : List Lexeme) → StandFirst es ts middle → StandFirst fs middle behind → StandFirst (es ++ fs) ts behind
stand_join [] fs ts middle behind here more = subst (λ (l : List Lexeme). StandFirst fs l behind) (sym here) more
stand_join (e ∷ es) fs ts middle behind here more = (here.0, here.1, stand_join es fs here.0 middle behind here.2 more)

pub record Cut (es fs : List Element) (ts behind : List Lexeme) : Type 0 where
  pub middle : List Lexeme
  pub front : StandFirst es ts middle
  pub back : StandFirst fs middle behind

pub stand_cut : (es fs : List Element) (ts behind : List Lexeme) → StandFirst (es ++ fs) ts behind → Cut es fs ts behind
stand_cut [] fs ts behind here = record { middle = ts; front = refl; back = here }
stand_cut (e ∷ es) fs ts behind here =
    let more = stand_cut es fs here.0 behind here.2 in
    record { middle = more.middle; front = (here.0, here.1, more.front); back = more.back }

-- a token that ends a run before it
pub stops_before : (k : Kind) (ts : List Lexeme) (t : Lexeme) (behind : List Lexeme) → turn [] k ≡ ends → ts ≡ t ∷ behind → t.kind ≡ k → Stops ts
stops_before k ts t behind ending split same = subst Stops (sym split) (subst (λ (j : Kind). turn [] j ≡ ends) (sym same) ending)

-- ranges

numbers_found : (ts : List Lexeme) (x : Range × List Lexeme) → read_numbers ts ≡ Some x → StandFirst (range_form x.0) ts x.1
unfolding read_numbers
numbers_found ts x e =
    let a = step_of (read_run ts) (λ low. read_one Into low.1 >>= λ i. read_run i.1 >>= λ high. Some (numbers low.0 high.0, high.1)) x e in
    let b = step_of (read_one Into a.middle.1) (λ i. read_run i.1 >>= λ high. Some (numbers a.middle.0 high.0, high.1)) x a.second in
    let c = step_of (read_run b.middle.1) (λ high. Some (numbers a.middle.0 high.0, high.1)) x b.second in
    let into = one_found Into a.middle.1 b.middle b.first in
    at_same (λ v l. StandFirst (range_form v) ts l) (numbers a.middle.0 c.middle.0, c.middle.1) x (some_same (numbers a.middle.0 c.middle.0, c.middle.1) x c.second) (
      a.middle.1,
      run_found ts a.middle.0 a.middle.1 a.first,
      (b.middle.1, (b.middle.0, into.0, into.1), (c.middle.1, run_found b.middle.1 c.middle.0 c.middle.1 c.first, refl)),
    )

parts_found : (ts : List Lexeme) (x : Range × List Lexeme) → read_parts ts ≡ Some x → StandFirst (range_form x.0) ts x.1
unfolding read_parts
parts_found ts x e =
    let a = step_of (read_one Use ts) (λ u. read_one Name u.1 >>= λ b. read_one At b.1 >>= λ a. read_size a.1 >>= λ n. Some (parts b.0 n.0, n.1)) x e in
    let b = step_of (read_one Name a.middle.1) (λ b. read_one At b.1 >>= λ a. read_size a.1 >>= λ n. Some (parts b.0 n.0, n.1)) x a.second in
    let c = step_of (read_one At b.middle.1) (λ a. read_size a.1 >>= λ n. Some (parts b.middle.0 n.0, n.1)) x b.second in
    let d = step_of (read_size c.middle.1) (λ n. Some (parts b.middle.0 n.0, n.1)) x c.second in
    let is_use = one_found Use ts a.middle a.first in
    let is_at = one_found At b.middle.1 c.middle c.first in
    at_same (λ v l. StandFirst (range_form v) ts l) (parts b.middle.0 d.middle.0, d.middle.1) x (some_same (parts b.middle.0 d.middle.0, d.middle.1) x d.second) (
      a.middle.1,
      (a.middle.0, is_use.0, is_use.1),
      (b.middle.1, one_found Name a.middle.1 b.middle b.first, (c.middle.1, (c.middle.0, is_at.0, is_at.1), (d.middle.1, size_found c.middle.1 d.middle d.first, refl))),
    )

pub range_found : (ts : List Lexeme) (x : Range × List Lexeme) → read_range ts ≡ Some x → StandFirst (range_form x.0) ts x.1
unfolding read_range
range_found ts x e = by_kind (next_is Use ts) e
  where
    by_kind : (b : Bool) → cond b (read_parts ts) (read_numbers ts) ≡ Some x → StandFirst (range_form x.0) ts x.1
    by_kind true h = parts_found ts x h
    by_kind false h = numbers_found ts x h

plain_is_no_use : (k : Kind) → is_plain k ≡ true → is Use k ≡ false
plain_is_no_use k ok = by_kind (is Use k) refl
  where
    by_kind : (b : Bool) → is Use k ≡ b → b ≡ false
    by_kind true same = let use_plain : is_plain k ≡ is_plain Use = ap is_plain (same_from_is Use k same) in cc
    by_kind false other = refl

opening_is_no_use : (k c : Kind) → closer k ≡ Some c → is Use k ≡ false
opening_is_no_use k c opening = by_kind (is Use k) refl
  where
    by_kind : (b : Bool) → is Use k ≡ b → b ≡ false
    by_kind true same = let use_opens : closer k ≡ closer Use = ap closer (same_from_is Use k same) in cc
    by_kind false other = refl

run_begins : (r behind : List Lexeme) → (0 < length r) → Nested is_plain r → next_is Use (r ++ behind) ≡ false
run_begins [] behind some (nothing q) = absurd (omega arith)
run_begins r behind some (plain q t ts ok rest) = plain_is_no_use t.kind ok
run_begins r behind some (bracketed q o c inside after opening inner rest) = opening_is_no_use o.kind c.kind opening

numbers_read : (low high : List Lexeme) (ts behind : List Lexeme) → StandFirst (range_form (numbers low high)) ts behind → Stops behind → read_numbers ts ≡ Some (numbers low high, behind)
unfolding read_numbers
numbers_read low high ts behind here stop =
    let into = here.2.1 in
    let back = here.2.2 in
    let after : back.0 ≡ behind = back.2 in
    let first : read_run ts ≡ Some (low, here.0) =
    ap read_run here.1.0 ∙ run_read low here.0 here.1.1 (stops_before Into here.0 into.0 here.2.0 refl into.1 into.2) in
    let last : read_run here.2.0 ≡ Some (high, behind) =
    ap read_run (back.1.0 ∙ ap (λ (l : List Lexeme). high ++ l) after) ∙ run_read high behind back.1.1 stop in
    behind_step (read_run ts) (λ low. read_one Into low.1 >>= λ i. read_run i.1 >>= λ high. Some (numbers low.0 high.0, high.1)) (low, here.0) first
    ∙ behind_step (read_one Into here.0) (λ i. read_run i.1 >>= λ high. Some (numbers low high.0, high.1)) (into.0, here.2.0) (one_read Into here.0 into.0 here.2.0 into.1 into.2)
    ∙ behind_step (read_run here.2.0) (λ high. Some (numbers low high.0, high.1)) (high, behind) last

parts_read : (block most : Lexeme) (ts behind : List Lexeme) → StandFirst (range_form (parts block most)) ts behind → read_parts ts ≡ Some (parts block most, behind)
unfolding read_parts
parts_read block most ts behind here =
    let is_use = here.1 in
    let named = here.2 in
    let is_at = named.2.1 in
    let sized = named.2.2 in
    let size_stands : StandsFirst (size most) named.2.0 behind = subst (λ (l : List Lexeme). StandsFirst (size most) named.2.0 l) sized.2 sized.1 in
    behind_step (read_one Use ts) (λ u. read_one Name u.1 >>= λ b. read_one At b.1 >>= λ a. read_size a.1 >>= λ n. Some (parts b.0 n.0, n.1)) (is_use.0, here.0) (one_read Use ts is_use.0 here.0 is_use.1 is_use.2)
    ∙ behind_step (read_one Name here.0) (λ b. read_one At b.1 >>= λ a. read_size a.1 >>= λ n. Some (parts b.0 n.0, n.1)) (block, named.0) (one_read Name here.0 block named.0 named.1.0 named.1.1)
    ∙ behind_step (read_one At named.0) (λ a. read_size a.1 >>= λ n. Some (parts block n.0, n.1)) (is_at.0, named.2.0) (one_read At named.0 is_at.0 named.2.0 is_at.1 is_at.2)
    ∙ behind_step (read_size named.2.0) (λ n. Some (parts block n.0, n.1)) (most, behind) (size_read named.2.0 most behind size_stands)

pub range_read : (r : Range) (ts behind : List Lexeme) → StandFirst (range_form r) ts behind → Stops behind → read_range ts ≡ Some (r, behind)
unfolding read_range
range_read (numbers low high) ts behind here stop =
    let begins : next_is Use ts ≡ false = ap (λ (l : List Lexeme). next_is Use l) here.1.0 ∙ run_begins low here.0 here.1.1.0 here.1.1.1 in
    ap (λ (b : Bool). cond b (read_parts ts) (read_numbers ts)) begins ∙ numbers_read low high ts behind here stop
range_read (parts block most) ts behind here stop =
    let begins : next_is Use ts ≡ true = ap (λ (l : List Lexeme). next_is Use l) here.1.1 ∙ is-self Use here.1.0.kind here.1.2 in
    ap (λ (b : Bool). cond b (read_parts ts) (read_numbers ts)) begins ∙ parts_read block most ts behind here

-- further arguments

other_found : (ts : List Lexeme) (x : List Lexeme × List Lexeme) → read_other ts ≡ Some x → StandFirst (sign Comma ∷ run x.0 ∷ []) ts x.1
unfolding read_other
other_found ts x e =
    let a = step_of (read_one Comma ts) (λ c. read_run c.1) x e in
    let comma = one_found Comma ts a.middle a.first in
    (a.middle.1, (a.middle.0, comma.0, comma.1), (x.1, run_found a.middle.1 x.0 x.1 a.second, refl))

pub others_found : (n : ℕ) (ts : List Lexeme) (x : List (List Lexeme) × List Lexeme) → read_others n ts ≡ Some x → StandFirst (others_form x.0) ts x.1
unfolding read_others
others_found zero ts x e = at_same (λ v l. StandFirst (others_form v) ts l) ([], ts) x (some_same ([], ts) x e) refl
others_found (suc n) ts x e = by_kind (next_is Comma ts) e (others_found n)
  where
    none : Answer (List (List Lexeme))
    none = Some ([], ts)

    by_kind : (b : Bool) → cond b (read_other ts >>= λ r. read_others n r.1 >>= λ rs. Some (r.0 ∷ rs.0, rs.1)) (Some ([], ts)) ≡ Some x
        → ((ts : List Lexeme) (x : List (List Lexeme) × List Lexeme) → read_others n ts ≡ Some x → StandFirst (others_form x.0) ts x.1) → StandFirst (others_form x.0) ts x.1
    by_kind false h more = at_same (λ v l. StandFirst (others_form v) ts l) ([], ts) x (some_same ([], ts) x h) refl
    by_kind true h more =
        let a = step_of (read_other ts) (λ r. read_others n r.1 >>= λ rs. Some (r.0 ∷ rs.0, rs.1)) x h in
        let b = step_of (read_others n a.middle.1) (λ rs. Some (a.middle.0 ∷ rs.0, rs.1)) x a.second in
        at_same (λ v l. StandFirst (others_form v) ts l) (a.middle.0 ∷ b.middle.0, b.middle.1) x (some_same (a.middle.0 ∷ b.middle.0, b.middle.1) x b.second)
        (stand_join (sign Comma ∷ run a.middle.0 ∷ []) (others_form b.middle.0) ts a.middle.1 b.middle.1 (other_found ts a.middle a.first) (more a.middle.1 b.middle b.first))

pub others_stop : (os : List (List Lexeme)) (ts behind : List Lexeme) → StandFirst (others_form os) ts behind → Stops behind → Stops ts
others_stop [] ts behind here stop = subst Stops (sym here) stop
others_stop (o ∷ os) ts behind here stop = stops_before Comma ts here.1.0 here.0 refl here.1.1 here.1.2

pub others_short : (os : List (List Lexeme)) (ts behind : List Lexeme) → StandFirst (others_form os) ts behind → length os ≤ length ts
others_short [] ts behind here = omega arith
others_short (o ∷ os) ts behind here =
    let more = others_short os here.2.0 behind here.2.2 in
    omega (arith, more, ap (λ (l : List Lexeme). length l) here.1.1, ap (λ (l : List Lexeme). length l) here.2.1.0, length-append o here.2.0)

pub others_read : (os : List (List Lexeme)) (n : ℕ) (ts behind : List Lexeme) → length os ≤ n → StandFirst (others_form os) ts behind → Stops behind → next_is Comma behind ≡ false
    → read_others n ts ≡ Some (os, behind)
unfolding read_others read_other
others_read [] zero ts behind room here stop other = ap (λ (l : List Lexeme). Some ([], l)) here
others_read [] (suc n) ts behind room here stop other =
    ap (λ (b : Bool). cond b (read_other ts >>= λ r. read_others n r.1 >>= λ rs. Some (r.0 ∷ rs.0, rs.1)) (Some ([], ts))) (ap (λ (l : List Lexeme). next_is Comma l) here ∙ other)
    ∙ ap (λ (l : List Lexeme). Some ([], l)) here
others_read (o ∷ os) zero ts behind room here stop other = absurd (omega arith)
others_read (o ∷ os) (suc n) ts behind room here stop other =
    let begins : next_is Comma ts ≡ true = ap (λ (l : List Lexeme). next_is Comma l) here.1.1 ∙ is-self Comma here.1.0.kind here.1.2 in
    let rest = here.2 in
    let first : read_other ts ≡ Some (o, rest.0) =
    behind_step (read_one Comma ts) (λ c. read_run c.1) (here.1.0, here.0) (one_read Comma ts here.1.0 here.0 here.1.1 here.1.2)
    ∙ ap read_run rest.1.0 ∙ run_read o rest.0 rest.1.1 (others_stop os rest.0 behind rest.2 stop) in
    ap (λ (b : Bool). cond b (read_other ts >>= λ r. read_others n r.1 >>= λ rs. Some (r.0 ∷ rs.0, rs.1)) (Some ([], ts))) begins
    ∙ behind_step (read_other ts) (λ r. read_others n r.1 >>= λ rs. Some (r.0 ∷ rs.0, rs.1)) (o, rest.0) first
    ∙ behind_step (read_others n rest.0) (λ rs. Some (o ∷ rs.0, rs.1)) (os, behind) (others_read os n rest.0 behind (omega arith) rest.2 stop other)
