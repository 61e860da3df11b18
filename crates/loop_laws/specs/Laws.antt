-- What a caller may use: in the program of an expansion each loop of the text means the plain loop.
use Rattle.std.specs.Prelude.{◌≡◌, ℕ, false, List, ◌∷◌, ◌++◌, length, Ok}
use Rattle.par_tree.specs.Tree.{Stmt, Body, step}
use Rattle.par_text.specs.Judging.{IsText}
use Rattle.par_ownership.specs.Ownership.{Ownership}
use Rattle.par_lex.specs.declared.lexeme.Lexeme.{Lexeme}
use Rattle.depth_first_run.specs.Middle.{Frame, does, statements, middle}
use Rattle.depth_first_run.specs.States.{Setting, State}
use Rattle.thread_points.specs.Points.{after_steps}
use Rattle.ownership_laws.specs.Counts.{count}
use Rattle.loop_expand.specs.Loops.{parts, Loop}
use Rattle.loop_expand.specs.Texts.{bytes_of}
use Rattle.loop_expand.specs.Expansion.{Expands}
use Rattle.loop_laws.specs.LoopCalls.{IsCall}
use Rattle.loop_laws.specs.TreeLaws.{IsExpansionOf}
use Rattle.loop_laws.specs.Meaning.{HoldsRange, MeansPlain, StaysLow}

-- Where a text has an expansion, and this is accepted: its program has the loops of the text, each with its call and its helper, and each
-- statement that is the call of a loop means the plain loop, in whatever state a run comes to it.
abbrev pub WrittenOutLoopsArePlain : Type 0
WrittenOutLoopsArePlain =
    (text bytes : List ℕ) (c : Setting) → Expands text (Ok bytes) → IsText bytes c.program → Ownership c.program
    → (x : IsExpansionOf text c.program)
    × ((before : List Loop) (l : Loop) (behind : List Loop) → x.loops ≡ before ++ l ∷ behind
    → (line : ℕ) (stmt : Stmt) (s : State) → IsCall text (length before) l stmt → s.faulted ≡ false → HoldsRange text l.range s.store
    → MeansPlain text c line l stmt s)

-- And each call of a loop over numbers stays within the words of one round and the records of few threads.
abbrev pub WrittenOutLoopsStayLow : Type 0
WrittenOutLoopsStayLow =
    (text bytes : List ℕ) (c : Setting) → Expands text (Ok bytes) → IsText bytes c.program → Ownership c.program
    → (x : IsExpansionOf text c.program)
    × ((before : List Loop) (l : Loop) (behind : List Loop) → x.loops ≡ before ++ l ∷ behind
    → (line : ℕ) (stmt : Stmt) (s : State) → IsCall text (length before) l stmt → s.faulted ≡ false
    → StaysLow text l.range c line l stmt s)

-- Where the call of a loop over the parts of a block comes next at a point of the run of an accepted program, in a thread that no fault has ended,
-- this block is held once.
abbrev pub LoopsFindTheirBlocks : Type 0
LoopsFindTheirBlocks =
    (text : List ℕ) (c : Setting) → Ownership c.program
    → (n line j : ℕ) (l : Loop) (block most : Lexeme) (stmt : Stmt) (rest : Body) (fs : List Frame) (s : State)
    → l.range ≡ parts block most → IsCall text j l stmt → after_steps c n ≡ middle (does (statements (step line stmt rest)) ∷ fs) s
    → s.faulted ≡ false → count s.store.blocks (bytes_of text block) ≡ 1

-- So at the points of such a run each call of a loop means the plain loop: over parts, its block is held once and is not too long.
abbrev pub LoopsOfRunsArePlain : Type 0
LoopsOfRunsArePlain =
    (text bytes : List ℕ) (c : Setting) → Expands text (Ok bytes) → IsText bytes c.program → Ownership c.program
    → (x : IsExpansionOf text c.program)
    × ((before : List Loop) (l : Loop) (behind : List Loop) → x.loops ≡ before ++ l ∷ behind
    → (n line : ℕ) (stmt : Stmt) (rest : Body) (fs : List Frame) (s : State) → IsCall text (length before) l stmt
    → after_steps c n ≡ middle (does (statements (step line stmt rest)) ∷ fs) s → s.faulted ≡ false → MeansPlain text c line l stmt s)
