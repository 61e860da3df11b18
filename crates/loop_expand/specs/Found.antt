-- What the search for loops returns, against reading all of them.
use Rattle.std.specs.Prelude.{◌≡◌, ℕ, List, ◌++◌, Result, Ok, Err}
use Rattle.std.specs.declared.vec.Vec.{Vec}
use Rattle.std.specs.declared.alloc.Global.{Global}
use Rattle.par_lex.specs.declared.lexeme.Lexeme.{Lexeme}
use Rattle.loop_expand.specs.declared.found_loop.Loop.{Loop as RustLoop}
use Rattle.loop_expand.specs.declared.expand_fail.ExpandFail.{ExpandFail}
use Rattle.loop_expand.specs.declared.expand_fail.ExpandFail.TheVariants.{Refused, BadLoop, NameTaken, OutOfMemory}
use Rattle.loop_expand.specs.Loops.{Loop}
use Rattle.loop_expand.specs.Reading.{read_loop, with_loop}
use Rattle.loop_expand.specs.View.{loops_shown}

-- the place of a `par call` that begins no loop, unless memory ran out
abbrev pub FailsAt : ExpandFail → Result (List Loop) ℕ → Type 0
FailsAt (BadLoop at) loops = loops ≡ Err at
FailsAt OutOfMemory loops = Unit {0}
FailsAt (Refused e) loops = ⊥
FailsAt (NameTaken at) loops = ⊥

abbrev pub Finds : Result (Vec RustLoop Global) ExpandFail → Result (List Loop) ℕ → Type 0
Finds (Ok v) loops = loops ≡ Ok (loops_shown v.items)
Finds (Err e) loops = FailsAt e loops

-- loops in front of others
abbrev pub loops_in_front : List Loop → Result (List Loop) ℕ → Result (List Loop) ℕ
loops_in_front front (Ok ls) = Ok (front ++ ls)
loops_in_front front (Err at) = Err at

-- The loop stands behind the old ones in front of whatever follows, or there is none.
abbrev pub AddsLoop : Result (Unit {0}) ExpandFail → List RustLoop → List RustLoop → List Lexeme → ℕ → Type 0
AddsLoop (Ok x) old new tokens at =
    (rest : Result (List Loop) ℕ) → loops_in_front (loops_shown old) (with_loop (read_loop tokens) at rest) ≡ loops_in_front (loops_shown new) rest
AddsLoop (Err e) old new tokens at = (rest : Result (List Loop) ℕ) → FailsAt e (with_loop (read_loop tokens) at rest)
