-- The words that the system gives a program, and those of its command line.
use Rattle.std.specs.Prelude.{◌≡◌, ◌≢◌, ℕ, List, [], drop, Result, Ok, Err}
use Rattle.std.specs.IoError.{error_kind}
use Rattle.std.specs.Vec.Iter.{into_iter_items}
use Rattle.std.specs.declared.alloc.Global.{Global}
use Rattle.std.specs.declared.io.Error.{Error}
use Rattle.std.specs.declared.io.ErrorKind.TheVariants.{OutOfMemory}
use Rattle.std.specs.declared.string.String.{String}
use Rattle.std.specs.declared.vec.IntoIter.{IntoIter}
use Rattle.command_line.specs.Arguments.{arguments_of}

-- what the system gives: the words of the call, the first of which is the program's own name, or why there are none
abbrev pub Given : Type 0
Given = Result (IntoIter (String Global) Global) Error

-- the words of the command line: those behind the program's name; none where one of them is not UTF-8
abbrev pub words_given : Given → List (List ℕ)
words_given (Ok args) = drop 1 (arguments_of (into_iter_items args))
words_given (Err error) = []

-- there was no memory for the words
abbrev pub LacksWords : Given → Type 0
LacksWords (Ok args) = ⊥
LacksWords (Err error) = error_kind error ≡ OutOfMemory

-- the words cannot be read, as one that is not UTF-8
abbrev pub AreNoWords : Given → Type 0
AreNoWords (Ok args) = ⊥
AreNoWords (Err error) = error_kind error ≢ OutOfMemory
