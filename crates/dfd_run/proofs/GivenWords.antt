-- The words of the command line, and the number of want of memory.
use Rattle.std.proofs.Common.{◌≡◌, ℕ, List, [], ◌∷◌, drop, Option, Some, None, ap, sym, ◌∙◌, refl, subst, arith}
use Rattle.std.proofs.lemmas.List.{nil_from_length}
use Rattle.std.specs.Prelude.{Ok, Err}
use Rattle.std.specs.Vec.Iter.{into_iter_items, into_iter_steps}
use Rattle.std.specs.declared.alloc.Global.{Global}
use Rattle.std.specs.declared.string.String.{String}
use Rattle.std.specs.declared.vec.IntoIter.{IntoIter}
use Rattle.command_line.specs.Arguments.{IsCommand}
use Rattle.command_line.specs.declared.command.Command.{Command}
use Rattle.dfd_plays.specs.Answer.{CallGives, Ends}
use Rattle.dfd_run.specs.Program.{Given, words_given, AreNoWords}
use Rattle.dfd_plays.specs.Status.{code_of}
use Rattle.dfd_plays.specs.declared.status.Status.{Status}
use Rattle.dfd_plays.specs.declared.status.Status.TheVariants.{Done, Usage, ReadFault, WriteFault, Syntax, Check, UserFault, StepsSpent, ArenaFull, DequesFull, OutOfMemory, TrailRefused}

-- what is left behind the first word
pub behind_first :
    (s t : IntoIter (String Global) Global) (r : Option (String Global)) → into_iter_steps s r t →
    drop 1 (into_iter_items s) ≡ into_iter_items t
behind_first s t None h =
    let e : into_iter_items s ≡ [] = nil_from_length (into_iter_items s) (sym s.rest.ok.0 ∙ h.0) in
    let e' : into_iter_items t ≡ [] = nil_from_length (into_iter_items t) (sym t.rest.ok.0 ∙ h.1) in
    ap (λ (l : List (String Global)). drop 1 l) e ∙ sym e'
behind_first s t (Some x) h = ap (λ (l : List (String Global)). drop 1 l) h.0

-- a call of the number 10 ended for want of memory
pub code_of_memory : (s : Status) → code_of s ≡ 10 → s ≡ OutOfMemory
code_of_memory Done e = absurd (omega (arith, e))
code_of_memory Usage e = absurd (omega (arith, e))
code_of_memory ReadFault e = absurd (omega (arith, e))
code_of_memory WriteFault e = absurd (omega (arith, e))
code_of_memory Syntax e = absurd (omega (arith, e))
code_of_memory Check e = absurd (omega (arith, e))
code_of_memory UserFault e = absurd (omega (arith, e))
code_of_memory StepsSpent e = absurd (omega (arith, e))
code_of_memory ArenaFull e = absurd (omega (arith, e))
code_of_memory DequesFull e = absurd (omega (arith, e))
code_of_memory OutOfMemory e = refl
code_of_memory TrailRefused e = absurd (omega (arith, e))

abbrev IsNil : List (List ℕ) → Type 0
IsNil [] = Unit {0}
IsNil (x ∷ xs) = ⊥

-- no words are no command
pub no_command : (words : List (List ℕ)) → words ≡ [] → (command : Command) → ¬ IsCommand words command
no_command words none command is = subst IsNil (sym none ∙ is.written) tt

-- words that cannot be read are none
pub none_given : (args : Given) → AreNoWords args → words_given args ≡ []
none_given (Ok args) h = absurd h
none_given (Err error) h = refl

-- the same words have the same answers
pub same_words :
    (words words' : List (List ℕ)) (failed : Type 0) (left left' taken taken' : Option (List ℕ)) (status : Status) → words ≡ words' →
    Ends (CallGives words failed left left') taken taken' status → Ends (CallGives words' failed left left') taken taken' status
same_words words words' failed left left' taken taken' status same ends =
    let P : List (List ℕ) → Type 0 = λ w. Ends (CallGives w failed left left') taken taken' status in subst P same ends
