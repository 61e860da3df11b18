-- What the loops of a text mean in the program of its expansion.
use Rattle.std.specs.Prelude.{◌≡◌, ℕ, suc, ◌*◌, ◌^◌, ◌<◌, ◌≤◌, List, length, ℤ, pos, ◌+ℤ◌, ◌≤ℤ◌, Ok}
use Rattle.par_tree.specs.Tree.{Expr, Stmt}
use Rattle.language_limits.specs.declared.TheConstants.{LONGEST_BLOCK}
use Rattle.depth_first_run.specs.Stores.{Store, block_of}
use Rattle.depth_first_run.specs.States.{Setting, State}
use Rattle.depth_first_run.specs.Values.{value}
use Rattle.depth_first_run.specs.Run.{exec, run, actions_of}
use Rattle.depth_first_list.specs.Actions.{peak, record_words}
use Rattle.ownership_laws.specs.Counts.{count}
use Rattle.loop_laws.specs.Outcomes.{added, KeepsLimits}
use Rattle.loop_expand.specs.Loops.{Range, numbers, parts, Loop}
use Rattle.loop_expand.specs.Texts.{bytes_of}
use Rattle.loop_laws.specs.PlainLoop.{plain_loop, MeansTheSame, count_between, numbers_of, RoundsTakeAtMost}
use Rattle.loop_laws.specs.PartsLoop.{plain_parts_loop}
use Rattle.loop_laws.specs.HelperFunctions.{words_of}
use Rattle.loop_laws.specs.LoopCalls.{IsExpression, AreExpressions, run_words}

-- The plain loop of a text that goes over a range, as a statement of this line: over the numbers from the first expression to the last one,
-- or over the parts of a block, with the further expressions.
abbrev pub IsPlainOver : List ℕ → Range → Setting → (line : ℕ) → Loop → List Expr → (State → State) → Type 0
IsPlainOver text (numbers low high) c line l others plain =
    (first : Expr) × (last : Expr) × IsExpression (run_words text low) first × IsExpression (run_words text high) last
    × (plain ≡ plain_loop c line (bytes_of text l.function) (bytes_of text l.target) first last others)
IsPlainOver text (parts block most) c line l others plain =
    plain ≡ plain_parts_loop c line (bytes_of text l.function) (words_of most.value) (bytes_of text l.target) (bytes_of text block) others

abbrev pub IsPlain : List ℕ → Setting → (line : ℕ) → Loop → (State → State) → Type 0
IsPlain text c line l plain = (others : List Expr) × AreExpressions text l.others others × IsPlainOver text l.range c line l others plain

-- The block that a loop goes over is held, as the rules of ownership have it: once, and no longer than a block may be.
abbrev pub HoldsRange : List ℕ → Range → Store → Type 0
HoldsRange text (numbers low high) s = Unit {0}
HoldsRange text (parts block most) s =
    (count s.blocks (bytes_of text block) ≡ 1) × (length (block_of s.blocks (bytes_of text block)) ≤ LONGEST_BLOCK)

-- A statement that stands for a loop means the plain loop: where it begins without a fault, and neither of both meets a limit.
abbrev pub MeansPlain : List ℕ → Setting → (line : ℕ) → Loop → Stmt → State → Type 0
MeansPlain text c line l stmt s =
    (plain : State → State) × IsPlain text c line l plain
    × (KeepsLimits (added s (exec c (run c) line stmt s)) → KeepsLimits (added s (plain s)) → MeansTheSame s (exec c (run c) line stmt s) (plain s))

-- A statement that stands for a loop over numbers, from the first expression up to before the last one, takes few words: where no round alone
-- has at any time more than w words in use beyond those before it, and no limit is met, the statement has at no time more than w words and the
-- records of as many threads as the logarithm of the count of rounds, to base 2 and rounded down.
abbrev pub StaysLow : List ℕ → Range → Setting → (line : ℕ) → Loop → Stmt → State → Type 0
StaysLow text (numbers low high) c line l stmt s =
    (first : Expr) × (last : Expr) × (others : List Expr) × IsExpression (run_words text low) first × IsExpression (run_words text high) last
    × AreExpressions text l.others others
    × ((lo hi : ℤ) (vs : List ℤ) → value s.store first ≡ Ok lo → value s.store last ≡ Ok hi → numbers_of s.store others ≡ Ok vs
    → (logarithm : ℕ) → 1 ≤ count_between lo hi → count_between lo hi < 2 ^ suc logarithm
    → (w : ℤ) → RoundsTakeAtMost c line (bytes_of text l.function) (bytes_of text l.target) vs lo (count_between lo hi) s w
    → KeepsLimits (added s (exec c (run c) line stmt s))
    → peak (actions_of (added s (exec c (run c) line stmt s))) ≤ℤ (w +ℤ pos (record_words * logarithm)))
StaysLow text (parts block most) c line l stmt s = Unit {0}
