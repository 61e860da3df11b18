-- Lists that are made after others.
use Rattle.std.proofs.Common.{inl, inr, ◌≡◌, ℕ, zero, suc, ◌+◌, ◌<◌, ◌≤◌, List, [], ◌∷◌}
use Rattle.std.proofs.Common.{◌++◌, length, Some, None, slice_get, sym, ap, ◌∙◌, subst, arith, append_assoc, append-nil}
use Rattle.std.specs.Prelude.{Result, Ok, Err, IfOk, ◌*◌, ◌⊎◌, map}
use Rattle.std.proofs.lemmas.Bool.{cases_lt}
use Rattle.node_table.specs.Table.{Function, Table}
use Rattle.node_table.specs.Codes.{funcs_of, code_shown}
use Rattle.node_table.specs.Shown.{func_shown}
use Rattle.node_table.specs.declared.func_code.FuncCode.{FuncCode}
use Rattle.node_table.specs.declared.node_table.NodeTable.{NodeTable}
use Rattle.thread_stack.specs.declared.list_of.ListOf.{ListOf}
use Rattle.thread_stack.specs.declared.list_of.ListOf.TheVariants.{Body}
use Rattle.flat_code.specs.Passed.Codes.{IsWholeCode}
use Rattle.flat_code.specs.Shown.{flat_shown}
use Rattle.flat_program.specs.declared.flat_list.FlatList.{FlatList}
use Rattle.flat_program.specs.declared.flat_program.FlatProgram.{FlatProgram}
use Rattle.flat_program.specs.Entries.{KeepsStarts, BeginsWith, HasStart}
use Rattle.flat_program.proofs.First.{begins_with}
use Rattle.flat_program.specs.Lists.{HasCodeIfCan, HasBodies, HasStartIfCan, HasBodyStarts, Grows, IsPutAfter, most_lists}
use Rattle.flat_program.proofs.Starts.{get_last}

get_more : {A : Type 0} (xs ys : List A) (i : ℕ) (x : A) → slice_get xs i ≡ Some x → slice_get (xs ++ ys) i ≡ Some x
get_more [] ys i x e = let never : ⊥ = cc in absurd never
get_more (z ∷ xs) ys zero x e = e
get_more (z ∷ xs) ys (suc i) x e = get_more xs ys i x e

long_more : {A : Type 0} (xs ys : List A) → length xs ≤ length (xs ++ ys)
long_more [] ys = omega arith
long_more (x ∷ xs) ys = let rest = long_more xs ys in omega (arith, rest)

pub grows_none : (ls : List FlatList) → Grows ls ls
grows_none ls = ([], sym (append-nil ls))

pub grows_both : (ls ms ns : List FlatList) → Grows ls ms → Grows ms ns → Grows ls ns
grows_both ls ms ns p q = (p.0 ++ q.0, q.1 ∙ ap (λ (xs : List FlatList). xs ++ q.0) p.1 ∙ append_assoc ls p.0 q.0)

pub has_more : (t : Table) (ls ms : List FlatList) (k : ℕ) (list : ListOf) → Grows ls ms → HasCodeIfCan t ls k list → HasCodeIfCan t ms k list
has_more t ls ms k list grown has can few =
    let e : length ms ≡ length (ls ++ grown.0) = ap (λ (xs : List FlatList). length xs) grown.1 in
    let more = long_more ls grown.0 in
    let h = has can (omega (arith, e, more, few)) in
    record {
      number = h.number;
      flat = h.flat;
      there = subst (λ (xs : List FlatList). slice_get xs h.number ≡ Some h.flat) (sym grown.1) (get_more ls grown.0 h.number h.flat h.there);
      slots = h.slots;
      code = h.code;
    }

pub bodies_more : (t : Table) (ls ms : List FlatList) (many : ℕ) → Grows ls ms → HasBodies t ls many → HasBodies t ms many
bodies_more t ls ms many grown has func f below there = has_more t ls ms f.slots _ grown (has func f below there)

pub put_grows : (ls ms : List FlatList) (l : FlatList) → IsPutAfter ls l ms → Grows ls ms
put_grows ls ms l (inl e) = (l ∷ [], e)
put_grows ls ms l (inr h) = ([], h.0 ∙ sym (append-nil ls))

pub put_has : (t : Table) (ls ms : List FlatList) (l : FlatList) (k : ℕ) (list : ListOf) → IsPutAfter ls l ms → l.slots ≡ k
    → IsWholeCode t (flat_shown l.places.items) k l.size list 0 → HasCodeIfCan t ms k list
put_has t ls ms l k list (inl e) slots code can few = record {
  number = length ls;
  flat = l;
  there = subst (λ (xs : List FlatList). slice_get xs (length ls) ≡ Some l) (sym e) (get_last ls l);
  slots = slots;
  code = code;
}
put_has t ls ms l k list (inr h) slots code can few =
    let same : length ms ≡ length ls = ap (λ (xs : List FlatList). length xs) h.0 in
    let many = h.1 in
    absurd (omega (arith, same, many, few))

-- the function of a number, as it is shown
pub get_shown : {A B : Type 0} (F : A → B) (xs : List A) (i : ℕ) (x : A) → slice_get xs i ≡ Some x → slice_get (map F xs) i ≡ Some (F x)
get_shown F [] i x e = let never : ⊥ = cc in absurd never
get_shown F (y ∷ xs) zero x e = let same : y ≡ x = cc in ap (λ z. Some (F z)) same
get_shown F (y ∷ xs) (suc i) x e = get_shown F xs i x e

none_after : {A B : Type 0} (F : A → B) (xs : List A) (i j : ℕ) (y : B) → slice_get xs i ≡ None → i ≤ j → slice_get (map F xs) j ≡ Some y → ⊥
none_after F [] i j y e low is = let never : ⊥ = cc in never
none_after F (x ∷ xs) zero j y e low is = let never : ⊥ = cc in never
none_after F (x ∷ xs) (suc i) zero y e low is = absurd (omega (arith, low))
none_after F (x ∷ xs) (suc i) (suc j) y e low is = none_after F xs i j y e (omega (arith, low)) is

some_same : {A : Type 0} (x y : A) → Some x ≡ Some y → x ≡ y
some_same x y e = cc

-- one function more; and where there are no more
pub bodies_next : (table : NodeTable) (ls ms : List FlatList) (many : ℕ) (g : FuncCode) → slice_get (funcs_of table) many ≡ Some g
    → HasBodies (code_shown table) ls many → Grows ls ms → HasCodeIfCan (code_shown table) ms g.slots (Body many)
    → HasBodies (code_shown table) ms (many + 1)
bodies_next table ls ms many g there has grown now func f below is = by (cases_lt func many)
  where
    by : (func < many) ⊎ (many ≤ func) → HasCodeIfCan (code_shown table) ms f.slots (Body func)
    by (inl less) = bodies_more (code_shown table) ls ms many grown has func f less is
    by (inr more) =
        let e : func ≡ many = omega (arith, below, more) in
        let here : slice_get (code_shown table).funcs many ≡ Some f = subst (λ (n : ℕ). slice_get (code_shown table).funcs n ≡ Some f) e is in
        let same : func_shown g ≡ f = some_same (func_shown g) f (sym (get_shown func_shown (funcs_of table) many g there) ∙ here) in
        subst (λ (h : Function). HasCodeIfCan (code_shown table) ms h.slots (Body func)) same
        (subst (λ (n : ℕ). HasCodeIfCan (code_shown table) ms g.slots (Body n)) (sym e) now)

pub bodies_all : (table : NodeTable) (ls : List FlatList) (many most : ℕ) → slice_get (funcs_of table) many ≡ None → HasBodies (code_shown table) ls many
    → HasBodies (code_shown table) ls most
bodies_all table ls many most none has func f below is = by (cases_lt func many)
  where
    by : (func < many) ⊎ (many ≤ func) → HasCodeIfCan (code_shown table) ls f.slots (Body func)
    by (inl less) = has func f less is
    by (inr more) = absurd (none_after func_shown (funcs_of table) many func f none more is)

-- ---- starts

begin_more : (t : Table) (p q : FlatProgram) (k : ℕ) (list : ListOf) → Grows p.lists.items q.lists.items → KeepsStarts p.starts.items q.starts.items
    → HasStartIfCan t p k list → HasStartIfCan t q k list
begin_more t p q k list grown keeps has can few n first within =
    let e : length q.lists.items ≡ length (p.lists.items ++ grown.0) = ap (λ (xs : List FlatList). length xs) grown.1 in
    let more = long_more p.lists.items grown.0 in
    let long = keeps.long in
    keeps.kept (n * 2) (has can (omega (arith, e, more, few)) n first (omega (arith, long, within)))

pub starts_more : (t : Table) (p q : FlatProgram) (many : ℕ) → Grows p.lists.items q.lists.items → KeepsStarts p.starts.items q.starts.items
    → HasBodyStarts t p many → HasBodyStarts t q many
starts_more t p q many grown keeps has func f below there = begin_more t p q f.slots _ grown keeps (has func f below there)

pub starts_next : (table : NodeTable) (p q : FlatProgram) (many : ℕ) (g : FuncCode) → slice_get (funcs_of table) many ≡ Some g
    → HasBodyStarts (code_shown table) p many → Grows p.lists.items q.lists.items → KeepsStarts p.starts.items q.starts.items
    → HasStartIfCan (code_shown table) q g.slots (Body many) → HasBodyStarts (code_shown table) q (many + 1)
starts_next table p q many g there has grown keeps now func f below is = by (cases_lt func many)
  where
    by : (func < many) ⊎ (many ≤ func) → HasStartIfCan (code_shown table) q f.slots (Body func)
    by (inl less) = starts_more (code_shown table) p q many grown keeps has func f less is
    by (inr more) =
        let e : func ≡ many = omega (arith, below, more) in
        let here : slice_get (code_shown table).funcs many ≡ Some f = subst (λ (n : ℕ). slice_get (code_shown table).funcs n ≡ Some f) e is in
        let same : func_shown g ≡ f = some_same (func_shown g) f (sym (get_shown func_shown (funcs_of table) many g there) ∙ here) in
        subst (λ (h : Function). HasStartIfCan (code_shown table) q h.slots (Body func)) same
        (subst (λ (n : ℕ). HasStartIfCan (code_shown table) q g.slots (Body n)) (sym e) now)

pub starts_all : (table : NodeTable) (p : FlatProgram) (many most : ℕ) → slice_get (funcs_of table) many ≡ None → HasBodyStarts (code_shown table) p many
    → HasBodyStarts (code_shown table) p most
starts_all table p many most none has func f below is = by (cases_lt func many)
  where
    by : (func < many) ⊎ (many ≤ func) → HasStartIfCan (code_shown table) p f.slots (Body func)
    by (inl less) = has func f less is
    by (inr more) = absurd (none_after func_shown (funcs_of table) many func f none more is)

pub starts_below : (t : Table) (p : FlatProgram) (many most : ℕ) → most ≤ many → HasBodyStarts t p many → HasBodyStarts t p most
starts_below t p many most low has func f below is = has func f (omega (arith, low, below)) is

pub put_begins : (t : Table) (p q : FlatProgram) (l : FlatList) (k : ℕ) (list : ListOf) → IsWholeCode t (flat_shown l.places.items) k l.size list 0
    → KeepsStarts p.starts.items q.starts.items
    → ((entry : ℕ) → length q.lists.items < most_lists → BeginsWith t l entry → entry < length p.starts.items → HasStart q.starts.items entry)
    → HasStartIfCan t q k list
put_begins t p q l k list whole keeps noted can few n first within =
    let long = keeps.long in noted (n * 2) few (begins_with t l k list n whole first) (omega (arith, long, within))

pub IfOk-and : {T E : Type 0} (r : Result T E) (P Q : T → Type 0) → IfOk r P → IfOk r Q → IfOk r (λ v. P v × Q v)
IfOk-and (Ok v) P Q p q = (p, q)
IfOk-and (Err e) P Q p q = tt
