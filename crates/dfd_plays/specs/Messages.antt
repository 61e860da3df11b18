-- The texts of one line, each of which says why there is no result.
use Rattle.std.specs.Prelude.{ℕ, ℤ, List, ◌++◌, codes}
use Rattle.std.specs.Fmt.{decimal, signed_decimal}
use Rattle.par_ownership.specs.Walk.{Refusal}
use Rattle.par_ownership.specs.declared.check_kind.CheckKind.{CheckKind}
use Rattle.par_ownership.specs.declared.check_kind.CheckKind.TheVariants.{UnknownName, Redefined, WrongKind, WrongCount, SharedBlock, SharedInt, Gone, NotFreed, ArmsDiffer, FreesLent, NoMain}
use Rattle.par_text.specs.declared.syntax_error.SyntaxError.{SyntaxError}
use Rattle.par_text.specs.declared.syntax_error.SyntaxKind.{SyntaxKind}
use Rattle.par_text.specs.declared.syntax_error.SyntaxKind.TheVariants.{BadByte, BadToken, NumberTooLarge, Expected, TooDeep, TooLong, TooMany}
use Rattle.run_report.specs.Texts.{line}

-- the words are no command
abbrev pub usage_text : List ℕ
usage_text = line (codes "usage: dfd play|run|peak|check|make|async|trail|verify|loops|expand [options]")

-- the source failed
abbrev pub read_fault_text : List ℕ
read_fault_text = line (codes "read fault")

-- the word for a refusal of a text
abbrev pub syntax_word : SyntaxKind → List ℕ
syntax_word BadByte = codes "BadByte"
syntax_word BadToken = codes "BadToken"
syntax_word NumberTooLarge = codes "NumberTooLarge"
syntax_word Expected = codes "Expected"
syntax_word TooDeep = codes "TooDeep"
syntax_word TooLong = codes "TooLong"
syntax_word TooMany = codes "TooMany"

-- the bytes are no text: the refusal and its byte
abbrev pub syntax_text : SyntaxError → List ℕ
syntax_text refusal = line (codes "syntax " ++ syntax_word refusal.kind ++ codes " at " ++ decimal refusal.at)

-- a `par call` begins no loop: the byte of its `par`
abbrev pub bad_loop_text : ℕ → List ℕ
bad_loop_text at = line (codes "syntax BadLoop at " ++ decimal at)

-- a name is the one of a helper of a loop: its byte
abbrev pub name_taken_text : ℕ → List ℕ
name_taken_text at = line (codes "syntax NameTaken at " ++ decimal at)

-- the word for a refusal of a program
abbrev pub check_word : CheckKind → List ℕ
check_word UnknownName = codes "UnknownName"
check_word Redefined = codes "Redefined"
check_word WrongKind = codes "WrongKind"
check_word WrongCount = codes "WrongCount"
check_word SharedBlock = codes "SharedBlock"
check_word SharedInt = codes "SharedInt"
check_word Gone = codes "Gone"
check_word NotFreed = codes "NotFreed"
check_word ArmsDiffer = codes "ArmsDiffer"
check_word FreesLent = codes "FreesLent"
check_word NoMain = codes "NoMain"

-- the program breaks a rule of ownership: the refusal, its line and the name
abbrev pub check_text : Refusal → List ℕ
check_text r = line (codes "check " ++ check_word r.kind ++ codes " line " ++ decimal r.line ++ codes " name " ++ r.name)

-- one more action than the limit allows would be done
abbrev pub spent_text : ℕ → List ℕ
spent_text limit = line (codes "stop StepsSpent limit " ++ decimal limit)

-- the words that an action asks for do not fit beside those that are in use
abbrev pub arena_text : (live : ℤ) → (asked : ℕ) → List ℕ
arena_text live asked = line (codes "stop ArenaFull live " ++ signed_decimal live ++ codes " asked " ++ decimal asked)

-- a theft would make one deque more than there may be
abbrev pub deques_text : ℕ → List ℕ
deques_text deques = line (codes "stop DequesFull deques " ++ decimal deques)
