-- No rule of ownership refuses a made program.
use Rattle.std.proofs.Common.{◌≡◌, ℕ, zero, suc, ◌+◌, ◌*◌, ◌^◌, ◌<◌, ◌≤◌, Bool, true, false, cond, List, [], ◌∷◌, ◌++◌, Some, None, Ok, ◌⊎◌, inl, inr, refl, sym, ap, ◌∙◌, arith}
use Rattle.std.specs.Prelude.{is_none, ◌==◌}
use Rattle.std.specs.Str.{bytes_eq}
use Rattle.std.proofs.lemmas.Bool.Decides.{eqb_tells}
use Rattle.std.proofs.lemmas.Fmt.{decimal_injective}
use Rattle.std.proofs.lemmas.Grind.{div_ceil_times}
use Rattle.std.proofs.lemmas.Slice.Eq.{bytes_eq-Decides}
use Rattle.par_tree.specs.Tree.{Name, unused, Stmt, Func, Program}
use Rattle.par_ownership.specs.Ownership.{Ownership, function_of, main_name}
use Rattle.par_ownership.specs.Walk.{first_of, unless, then_walk, guarded, function_refusal, walk, walk_all, last_refusal, funcs_refusal, names_refusal, main_case}
use Rattle.par_ownership.specs.declared.check_kind.CheckKind.TheVariants.{Redefined}
use Rattle.par_ownership.proofs.Law.{tells_program}
use Rattle.made_laws.specs.MadeProgram.{group, call, one_a_line, groups_of, function_name, made_function, made_main, functions_from, function_count, made_program}

-- names

abbrev tail_of : List ℕ → List ℕ
tail_of [] = []
tail_of (c ∷ cs) = cs

-- functions of different numbers have different names
differ : (j k : ℕ) → j < 2 ^ 64 → k < 2 ^ 64 → (j ≡ k → ⊥) → bytes_eq (function_name j) (function_name k) ≡ false
differ j k low low' other = by_test (bytes_eq (function_name j) (function_name k)) refl
  where
    by_test : (b : Bool) → bytes_eq (function_name j) (function_name k) ≡ b → b ≡ false
    by_test false e = refl
    by_test true e = absurd (other (decimal_injective j k low low' (ap tail_of ((bytes_eq-Decides (function_name j) (function_name k)).0 e))))

same : (j : ℕ) → bytes_eq (function_name j) (function_name j) ≡ true
same j = (bytes_eq-Decides (function_name j) (function_name j)).1 refl

-- a name that no function has is still that of none after a function of another name
one_more : (f : Func) (fs : List Func) (x : Name) → function_of fs x ≡ None → bytes_eq f.name x ≡ false → function_of (fs ++ f ∷ []) x ≡ None
one_more f [] x none other = ap (λ b. cond b (Some f) None) other
one_more f (g ∷ gs) x none other = by_test (λ h. one_more f gs x h other) (bytes_eq g.name x) none
  where
    by_test : (function_of gs x ≡ None → function_of (gs ++ f ∷ []) x ≡ None) → (b : Bool) → cond b (Some g) (function_of gs x) ≡ None
        → cond b (Some g) (function_of (gs ++ f ∷ []) x) ≡ None
    by_test more true h = let never : ⊥ = cc in absurd never
    by_test more false h = more h

-- each function has a new name

new_names :
    (n functions j count line : ℕ) (before : List Func) → j + count < 2 ^ 64 → ((k : ℕ) → j ≤ k → k < 2 ^ 64 → function_of before (function_name k) ≡ None)
    → function_of before main_name ≡ None → names_refusal before (functions_from n functions j count line) ≡ None
new_names n functions j zero line before room free main = ap (λ o. first_of (unless (is_none o) Redefined line main_name) None) main
new_names n functions j (suc count) line before room free main =
    let f : Func = made_function n j line in
    let next : ℕ = line + 1 + groups_of n j + 1 in
    ap (λ o. first_of (unless (is_none o) Redefined line f.name) (names_refusal (before ++ f ∷ []) (functions_from n functions (j + 1) count next)))
    (free j (omega arith) (omega (arith, room)))
    ∙ new_names n functions (j + 1) count next (before ++ f ∷ []) (omega (arith, room))
    (λ k above low. one_more f before (function_name k) (free k (omega (arith, above)) low)
    (differ j k (omega (arith, room)) low (λ e. omega (arith, e, above))))
    (one_more f before main_name main refl)

-- `main` and each function that it calls are found

pub record FindsMain (functions : ℕ) (p : Program) : Type 0 where
  pub line : ℕ
  pub found : function_of p main_name ≡ Some (made_main functions line)

finds_main : (n functions j count line : ℕ) → FindsMain functions (functions_from n functions j count line)
finds_main n functions j zero line = record { line = line; found = refl }
finds_main n functions j (suc count) line =
    let rest = finds_main n functions (j + 1) count (line + 1 + groups_of n j + 1) in
    record { line = rest.line; found = rest.found }

pub record Finds (n k : ℕ) (p : Program) : Type 0 where
  pub line : ℕ
  pub found : function_of p (function_name k) ≡ Some (made_function n k line)

pub finds : (n functions j count line k : ℕ) → j + count < 2 ^ 64 → j ≤ k → k < j + count → Finds n k (functions_from n functions j count line)
finds n functions j zero line k room above below = absurd (omega (arith, above, below))
finds n functions j (suc count) line k room above below =
    by_number (λ other. finds n functions (j + 1) count (line + 1 + groups_of n j + 1) k (omega (arith, room)) (omega (arith, above, other))
    (omega (arith, below))) (eqb_tells j k)
  where
    by_number : ((j ≡ k → ⊥) → Finds n k (functions_from n functions (j + 1) count (line + 1 + groups_of n j + 1)))
        → (((j == k) ≡ true) × (j ≡ k)) ⊎ (((j == k) ≡ false) × (j ≡ k → ⊥)) → Finds n k (functions_from n functions j (suc count) line)
    by_number rest (inl h) = record {
      line = line;
      found =
          ap (λ b. cond b (Some (made_function n j line))
          (function_of (functions_from n functions (j + 1) count (line + 1 + groups_of n j + 1)) (function_name k)))
          (ap (λ i. bytes_eq (function_name j) (function_name i)) (sym h.1) ∙ same j)
          ∙ ap (λ i. Some (made_function n i line)) h.1;
    }
    by_number rest (inr h) =
        let more = rest h.1 in
        record {
          line = more.line;
          found =
              ap (λ b. cond b (Some (made_function n j line))
              (function_of (functions_from n functions (j + 1) count (line + 1 + groups_of n j + 1)) (function_name k)))
              (differ j k (omega (arith, room)) (omega (arith, room, below)) h.1)
              ∙ more.found;
        }

-- the statements

group_walk : (p : Program) (i line : ℕ) → walk p line (group i line) [] ≡ Ok []
group_walk p i line = refl

call_walk : (n j line : ℕ) (p : Program) → Finds n j p → walk p line (call j line) [] ≡ Ok []
call_walk n j line p h = ap (λ o. guarded (function_refusal line [] unused (function_name j) [] o) (Ok [])) h.found

lines_walk : (p : Program) (stmt : ℕ → ℕ → Stmt) (i count line : ℕ) → ((k l : ℕ) → i ≤ k → k < i + count → walk p l (stmt k l) [] ≡ Ok [])
    → walk_all p (one_a_line stmt i count line) [] ≡ Ok []
lines_walk p stmt i zero line each = refl
lines_walk p stmt i (suc count) line each =
    ap (λ r. then_walk r (walk_all p (one_a_line stmt (i + 1) count (line + 1)))) (each i line (omega arith) (omega arith))
    ∙ lines_walk p stmt (i + 1) count (line + 1) (λ k l above below. each k l (omega (arith, above)) (omega (arith, below)))

-- the functions

functions_walk : (p : Program) (n functions j count line : ℕ) → ((k : ℕ) → k < functions → Finds n k p)
    → funcs_refusal p (functions_from n functions j count line) ≡ None
functions_walk p n functions j zero line all =
    ap (λ r. first_of (last_refusal (then_walk r (λ env. Ok env))) None)
    (lines_walk p call 0 functions (line + 1) (λ k l above below. call_walk n k l p (all k (omega (arith, below)))))
functions_walk p n functions j (suc count) line all =
    ap (λ r. first_of (last_refusal (then_walk r (λ env. Ok env))) (funcs_refusal p (functions_from n functions (j + 1) count (line + 1 + groups_of n j + 1))))
    (lines_walk p group (64 * j) (groups_of n j) (line + 1) (λ k l above below. group_walk p k l))
    ∙ functions_walk p n functions (j + 1) count (line + 1 + groups_of n j + 1) all

pub made_finds : (n k : ℕ) → n ≤ 8000 → k < function_count n → Finds n k (made_program n)
made_finds n k most below =
    let bounds = div_ceil_times n 64 (omega arith) in
    finds n (function_count n) 0 (function_count n) 1 k (omega (arith, bounds.1)) (omega arith) (omega (arith, below))

pub made_finds_main : (n : ℕ) → FindsMain (function_count n) (made_program n)
made_finds_main n = finds_main n (function_count n) 0 (function_count n) 1

pub made_programs_keep_the_rules : (n : ℕ) → n ≤ 8000 → Ownership (made_program n)
made_programs_keep_the_rules n most =
    let p : Program = made_program n in
    let m : ℕ = function_count n in
    let bounds = div_ceil_times n 64 (omega arith) in
    let names : names_refusal [] p ≡ None = new_names n m 0 m 1 [] (omega (arith, bounds.1)) (λ k above low. refl) refl in
    let main = made_finds_main n in
    (tells_program p).sound
    (ap (λ o. first_of o (first_of (main_case (function_of p main_name)) (funcs_refusal p p))) names
    ∙ ap (λ o. first_of (main_case o) (funcs_refusal p p)) main.found
    ∙ functions_walk p n m 0 m 1 (λ k below. made_finds n k most below))
