-- The loops of a list of tokens, found from the left.
use Rattle.std.proofs.Common.{◌≡◌, ℕ, Bool, true, false, cond, List, [], ◌∷◌, length, Result, Ok, Err, refl, sym, ap, ◌∙◌, arith}
use Rattle.std.proofs.lemmas.List.{append-nil}
use Rattle.par_lex.specs.declared.lexeme.Lexeme.{Lexeme}
use Rattle.loop_expand.specs.declared.found_loop.Loop.{Loop as RustLoop}
use Rattle.loop_expand.specs.declared.expand_fail.ExpandFail.{ExpandFail}
use Rattle.loop_expand.specs.declared.expand_fail.ExpandFail.TheVariants.{Refused, BadLoop, NameTaken, OutOfMemory}
use Rattle.loop_expand.specs.Loops.{Loop, begins_call}
use Rattle.loop_expand.specs.Reading.{read_loop, with_loop, loops_of}
use Rattle.loop_expand.specs.View.{loops_shown}
use Rattle.loop_expand.specs.Found.{FailsAt, loops_in_front}

by_test : (t : Lexeme) (ts : List Lexeme) (b : Bool) → begins_call (t ∷ ts) ≡ b → loops_of (t ∷ ts) ≡ cond b (with_loop (read_loop (t ∷ ts)) t.at (loops_of ts)) (loops_of ts)
unfolding loops_of
by_test t ts b is = ap (λ (c : Bool). cond c (with_loop (read_loop (t ∷ ts)) t.at (loops_of ts)) (loops_of ts)) is

pub loops-call : (rest : List Lexeme) (t : Lexeme) (ts : List Lexeme) → rest ≡ t ∷ ts → begins_call rest ≡ true → loops_of rest ≡ with_loop (read_loop rest) t.at (loops_of ts)
loops-call rest t ts split is =
    ap loops_of split ∙ by_test t ts true (ap begins_call (sym split) ∙ is) ∙ ap (λ (l : List Lexeme). with_loop (read_loop l) t.at (loops_of ts)) (sym split)

pub loops-other : (rest : List Lexeme) (t : Lexeme) (ts : List Lexeme) → rest ≡ t ∷ ts → begins_call rest ≡ false → loops_of rest ≡ loops_of ts
loops-other rest t ts split is = ap loops_of split ∙ by_test t ts false (ap begins_call (sym split) ∙ is)

pub loops-none : (rest : List Lexeme) → length rest ≡ 0 → loops_of rest ≡ Ok []
unfolding loops_of
loops-none [] e = refl
loops-none (t ∷ ts) e = absurd (omega arith)

pub find_fails : (e : ExpandFail) (front : List Loop) (now total : Result (List Loop) ℕ) → FailsAt e now → loops_in_front front now ≡ total → FailsAt e total
find_fails (BadLoop at) front now total is so_far = sym so_far ∙ ap (λ (r : Result (List Loop) ℕ). loops_in_front front r) is
find_fails OutOfMemory front now total is so_far = tt
find_fails (Refused e) front now total is so_far = absurd is
find_fails (NameTaken at) front now total is so_far = absurd is

pub find_ends : (front : List Loop) (now total : Result (List Loop) ℕ) → now ≡ Ok [] → loops_in_front front now ≡ total → total ≡ Ok front
find_ends front now total is so_far = sym so_far ∙ ap (λ (r : Result (List Loop) ℕ). loops_in_front front r) is ∙ ap (λ (ls : List Loop). Ok ls) (append-nil front)

pub find_starts : (front : List RustLoop) (now : Result (List Loop) ℕ) → front ≡ [] → loops_in_front (loops_shown front) now ≡ now
find_starts front now none = ap (λ (ls : List RustLoop). loops_in_front (loops_shown ls) now) none ∙ bare now
  where
    bare : (r : Result (List Loop) ℕ) → loops_in_front [] r ≡ r
    bare (Ok ls) = refl
    bare (Err at) = refl
