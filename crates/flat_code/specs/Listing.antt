-- Flat code as a text for a person: a line for each place, with its number, what is there, and its mark, the next frame last.
use Rattle.std.specs.Prelude.{ℕ, ◌+◌, List, [], ◌∷◌, ◌++◌, map, codes}
use Rattle.std.specs.List.{concat}
use Rattle.std.specs.Fmt.{decimal, signed_decimal}
use Rattle.par_tree.specs.Tree.{ChainOp, plus, minus, times, over, modulo, Comparison, equal, unequal, below, at_most, above, at_least}
use Rattle.thread_stack.specs.declared.frame.Frame.{Frame}
use Rattle.thread_stack.specs.declared.frame.Frame.TheVariants.{Statements, Again}
use Rattle.thread_stack.specs.declared.list_of.ListOf.{ListOf}
use Rattle.thread_stack.specs.declared.list_of.ListOf.TheVariants.{Body, Then, Other, Round, Left, Right, Inside}
use Rattle.flat_expressions.specs.Acts.{Operand, at_slot, literal, Act, move_to, length_to, element_to, negate_to, operate_to, compare_to}
use Rattle.flat_expressions.specs.Acts.{write_at, Test, is_set, compares}
use Rattle.flat_statements.specs.Flat.{Flat, doing, unless, rounds, jumps, leaves}
use Rattle.flat_code.specs.Shown.{instruction_shown}
use Rattle.flat_code.specs.declared.place.Place.{Place}

-- one text after another
infixr 5 ◌⊕◌
abbrev pub ◌⊕◌ : List ℕ → List ℕ → List ℕ
u ⊕ v = u ++ v

abbrev pub slot_text : ℕ → List ℕ
slot_text s = codes "s" ⊕ decimal s

abbrev pub operand_text : Operand → List ℕ
operand_text (at_slot s) = slot_text s
operand_text (literal v) = signed_decimal v

abbrev pub operator_text : ChainOp → List ℕ
operator_text plus = codes " + "
operator_text minus = codes " - "
operator_text times = codes " * "
operator_text over = codes " / "
operator_text modulo = codes " % "

abbrev pub comparison_text : Comparison → List ℕ
comparison_text equal = codes " == "
comparison_text unequal = codes " != "
comparison_text below = codes " < "
comparison_text at_most = codes " <= "
comparison_text above = codes " > "
comparison_text at_least = codes " >= "

abbrev pub target_text : ℕ → List ℕ
target_text d = slot_text d ⊕ codes " = "

abbrev pub element_text : (b : ℕ) → Operand → List ℕ
element_text b i = slot_text b ⊕ codes "[" ⊕ operand_text i ⊕ codes "]"

abbrev pub act_text : Act → List ℕ
act_text (move_to d a) = target_text d ⊕ operand_text a
act_text (length_to d b) = target_text d ⊕ codes "len " ⊕ slot_text b
act_text (element_to d b i) = target_text d ⊕ element_text b i
act_text (negate_to d a) = target_text d ⊕ codes "-" ⊕ operand_text a
act_text (operate_to op d a b) = target_text d ⊕ operand_text a ⊕ operator_text op ⊕ operand_text b
act_text (compare_to op d a b) = target_text d ⊕ operand_text a ⊕ comparison_text op ⊕ operand_text b
act_text (write_at b i a) = element_text b i ⊕ codes " = " ⊕ operand_text a

abbrev pub test_text : Test → List ℕ
test_text (is_set a) = operand_text a
test_text (compares op a b) = operand_text a ⊕ comparison_text op ⊕ operand_text b

abbrev pub flat_text : Flat → List ℕ
flat_text (doing a) = act_text a
flat_text (unless test other) = codes "if " ⊕ test_text test ⊕ codes " else " ⊕ decimal other
flat_text (rounds test body behind) = codes "while " ⊕ test_text test ⊕ codes " go to " ⊕ decimal body ⊕ codes " else " ⊕ decimal behind
flat_text (jumps place) = codes "go to " ⊕ decimal place
flat_text leaves = codes "leave"

-- a frame: the list and the place in it of the statement that comes next, or the node of a loop that comes again
abbrev pub list_text : ListOf → List ℕ
list_text (Body n) = codes "body " ⊕ decimal n
list_text (Then n) = codes "then " ⊕ decimal n
list_text (Other n) = codes "else " ⊕ decimal n
list_text (Round n) = codes "round " ⊕ decimal n
list_text (Left n) = codes "left " ⊕ decimal n
list_text (Right n) = codes "right " ⊕ decimal n
list_text (Inside n) = codes "inside " ⊕ decimal n

abbrev pub frame_text : Frame → List ℕ
frame_text (Statements list next) = codes " | " ⊕ list_text list ⊕ codes " at " ⊕ decimal next
frame_text (Again n) = codes " | again " ⊕ decimal n
frame_text other = codes " | other"

abbrev pub frames_text : List Frame → List ℕ
frames_text stack = concat (map frame_text stack)

abbrev pub place_text : ℕ → Place → List ℕ
place_text n p = decimal n ⊕ codes " " ⊕ flat_text (instruction_shown p.what) ⊕ frames_text p.mark.items ⊕ codes "\n"

-- the lines of places, of which the first one has this number
abbrev pub places_text : ℕ → List Place → List ℕ
places_text n [] = []
places_text n (p ∷ ps) = place_text n p ++ places_text (n + 1) ps
