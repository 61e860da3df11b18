-- What the code's readers return, against reading by the definitions.
use Rattle.std.specs.Prelude.{◌≡◌, ℕ, List, map, Option, Some, None, Result, Ok, Err, Bool, true, false}
use denote.Ref.{Bor}
use Rattle.par_text.specs.declared.kind.Kind.{Kind}
use Rattle.par_lex.specs.declared.lexeme.Lexeme.{Lexeme}
use Rattle.loop_expand.specs.declared.read_fail.ReadFail.{ReadFail}
use Rattle.loop_expand.specs.declared.read_fail.ReadFail.TheVariants.{NoLoop, OutOfMemory}
use Rattle.loop_expand.specs.Reading.{Turn, goes_on, ends, breaks}

abbrev pub Fails : {Y : Type 0} → ReadFail → Option Y → Type 0
Fails NoLoop read = read ≡ None
Fails OutOfMemory read = Unit {0}

-- what a function returned, seen by view, is what reading gives, unless memory ran out
abbrev pub Gives : {X Y : Type 0} → (X → Y) → Result X ReadFail → Option Y → Type 0
Gives view (Ok x) read = read ≡ Some (view x)
Gives view (Err e) read = Fails e read

-- whether the run goes on, with these brackets open, or has ended
abbrev pub TurnsTo : Bool → List Kind → Turn → Type 0
TurnsTo true brackets turn = turn ≡ goes_on brackets
TurnsTo false brackets turn = turn ≡ ends

abbrev pub TurnFails : ReadFail → Turn → Type 0
TurnFails NoLoop turn = turn ≡ breaks
TurnFails OutOfMemory turn = Unit {0}

abbrev pub GivesTurn : Result Bool ReadFail → List Kind → Turn → Type 0
GivesTurn (Ok on) brackets turn = TurnsTo on brackets turn
GivesTurn (Err e) brackets turn = TurnFails e turn

-- runs, as the code holds them
abbrev pub run_shown : Bor (List Lexeme) → List Lexeme
run_shown r = r.now

abbrev pub runs_shown : List (Bor (List Lexeme)) → List (List Lexeme)
runs_shown rs = map run_shown rs

-- the bytes of a piece of a text
abbrev pub piece_shown : Bor (List ℕ) → List ℕ
piece_shown p = p.now
