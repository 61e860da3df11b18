-- The functions that the helpers of a text's loops are.
use Rattle.std.specs.Prelude.{ℕ, ◌+◌, ℤ, pos, negsuc, List, [], ◌∷◌, length}
use Rattle.par_tree.specs.Tree.{Name, Func}
use Rattle.loop_expand.specs.Loops.{Range, numbers, parts, Loop}
use Rattle.loop_expand.specs.Texts.{bytes_of, sum_name}
use Rattle.loop_laws.specs.HelperTrees.{numbers_helper, parts_helper}

-- how many words a part may have, by the value of a size
abbrev pub words_of : ℤ → ℕ
words_of (pos n) = n
words_of (negsuc n) = 0

-- The helper of a loop over a range: it has the name `sum`, calls `f`, and takes k further arguments.
abbrev pub range_function : Range → (sum f : Name) → ℕ → ℕ → Func
range_function (numbers low high) sum f k line = numbers_helper sum f k line
range_function (parts block most) sum f k line = parts_helper sum f (words_of most.value) k line

-- the helper of loop J, on a line
abbrev pub helper_function : List ℕ → ℕ → Loop → ℕ → Func
helper_function text j l line = range_function l.range (sum_name j) (bytes_of text l.function) (length l.others) line

-- the helpers of these loops, numbered from J on, each on a line of its own from this one on
abbrev pub helper_functions : List ℕ → ℕ → ℕ → List Loop → List Func
helper_functions text j line [] = []
helper_functions text j line (l ∷ ls) = helper_function text j l line ∷ helper_functions text (j + 1) (line + 1) ls
