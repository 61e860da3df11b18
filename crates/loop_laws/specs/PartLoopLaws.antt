-- What a caller may use: a loop over the parts of a block that is written out as calls means the plain loop.
use Rattle.std.specs.Prelude.{◌≡◌, ℕ, ◌≤◌, ◌<◌, ◌++◌, false, List, [], ◌∷◌, length, ℤ, pos, FitsSigned, Some}
use Rattle.std.specs.Int.{w64}
use Rattle.std.specs.List.{All}
use Rattle.par_tree.specs.Tree.{Name, Expr, Func}
use Rattle.par_ownership.specs.Ownership.{Ownership, function_of, hands_back}
use Rattle.language_limits.specs.declared.TheConstants.{LONGEST_BLOCK}
use Rattle.depth_first_run.specs.Stores.{block_of}
use Rattle.depth_first_run.specs.States.{Setting, State}
use Rattle.depth_first_run.specs.Run.{set_integer}
use Rattle.ownership_laws.specs.Counts.{count}
use Rattle.loop_laws.specs.Outcomes.{added, KeepsLimits}
use Rattle.loop_laws.specs.HelperTrees.{parts_helper}
use Rattle.loop_laws.specs.PlainLoop.{MeansTheSame}
use Rattle.loop_laws.specs.Parts.{left_half, right_half, parts_of, joined_parts}
use Rattle.loop_laws.specs.PartsLoop.{call_on, add_calls_on, sum_calls_on, plain_parts_loop, written_out_on}

-- A block that a part may hold is its one part.
abbrev pub ShortBlocksAreOnePart : Type 0
ShortBlocksAreOnePart = (most : ℕ) (items : List ℤ) → length items ≤ most → parts_of most items ≡ items ∷ []

-- The parts of a longer block are those of its left half, and then those of its right half.
abbrev pub LongBlocksAreHalved : Type 0
LongBlocksAreHalved =
    (most : ℕ) (items : List ℤ) → 16 ≤ most → most < length items → parts_of most items ≡ parts_of most (left_half items) ++ parts_of most (right_half items)

-- The parts of a block, one behind the other, are the block.
abbrev pub PartsMakeTheBlock : Type 0
PartsMakeTheBlock = (most : ℕ) (items : List ℤ) → joined_parts (parts_of most items) ≡ items

-- No part is longer than a part may be.
abbrev pub PartsAreShort : Type 0
PartsAreShort = (most : ℕ) (items : List ℤ) → 16 ≤ most → All (λ (part : List ℤ). length part ≤ most) (parts_of most items)

-- In a program that keeps the rules of ownership, where `sum` is the helper of a loop over parts that calls f: the call by
-- which the loop is written out means the plain loop, where one block of the name is held, unless one of the two meets a
-- limit.
abbrev pub PartsLoopsArePlain : Type 0
PartsLoopsArePlain =
    (c : Setting) (sum f : Name) (most k helper_line : ℕ) → Ownership c.program → function_of c.program sum ≡ Some (parts_helper sum f most k helper_line)
    → 16 ≤ most → (line : ℕ) (x b : Name) (cs : List Expr) (s : State) → length cs ≡ k → s.faulted ≡ false
    → count s.store.blocks b ≡ 1 → length (block_of s.store.blocks b) ≤ LONGEST_BLOCK
    → KeepsLimits (added s (written_out_on c line sum x b cs s)) → KeepsLimits (added s (plain_parts_loop c line f most x b cs s))
    → MeansTheSame s (written_out_on c line sum x b cs s) (plain_parts_loop c line f most x b cs s)

-- The sum of a loop over parts may as well begin with 0, to which each answer is added: where f has a parameter and hands
-- no block back, the first answer is a number of 64 bits, and no limit is met, both mean the same.
abbrev pub SumsOfPartsMayBeginAtZero : Type 0
SumsOfPartsMayBeginAtZero =
    (c : Setting) (line : ℕ) (f x b : Name) (g : Func) → function_of c.program f ≡ Some g → 1 ≤ length g.params → hands_back g.ret ≡ false
    → (vs part : List ℤ) (parts : List (List ℤ)) (s : State) → s.faulted ≡ false → FitsSigned w64 ((call_on c line f x b vs part s).store.integers x)
    → KeepsLimits (added s (add_calls_on c line f x b vs (part ∷ parts) [] (set_integer x (pos 0) s)))
    → KeepsLimits (added s (sum_calls_on c line f x b vs (part ∷ parts) s))
    → MeansTheSame s (add_calls_on c line f x b vs (part ∷ parts) [] (set_integer x (pos 0) s)) (sum_calls_on c line f x b vs (part ∷ parts) s)
