-- Each loop of an expansion means the plain loop.
use Rattle.std.proofs.Common.{◌≡◌, ℕ, suc, false, List, [], ◌∷◌, length, map, refl, sym, ap, subst}
use Rattle.std.specs.Prelude.{Some, ◌*◌, pos, ◌+ℤ◌, ◌≤ℤ◌}
use Rattle.par_tree.specs.Tree.{Expr, Arg, value, Stmt, call_stmt, integer}
use Rattle.par_ownership.specs.Ownership.{Ownership, function_of}
use Rattle.depth_first_run.specs.States.{Setting, State}
use Rattle.depth_first_run.specs.Run.{exec, run, actions_of}
use Rattle.depth_first_list.specs.Actions.{peak, record_words}
use Rattle.loop_laws.specs.Outcomes.{added, KeepsLimits}
use Rattle.par_lex.specs.declared.lexeme.Lexeme.{Lexeme}
use Rattle.loop_expand.specs.Loops.{Range, numbers, parts, Loop}
use Rattle.loop_expand.specs.Texts.{bytes_of, sum_name}
use Rattle.loop_laws.specs.PlainLoop.{plain_loop, MeansTheSame}
use Rattle.loop_laws.proofs.Plain.{numbers_loops}
use Rattle.loop_laws.proofs.Logarithm.{prefix_sums}
use Rattle.loop_laws.specs.PartsLoop.{plain_parts_loop}
use Rattle.loop_laws.proofs.PlainParts.{parts_loops}
use Rattle.loop_laws.specs.HelperFunctions.{range_function, words_of}
use Rattle.loop_laws.specs.LoopCalls.{AreExpressions, AreArguments}
use Rattle.loop_laws.proofs.WholeExpansions.{expansions_are_so}
use Rattle.loop_laws.specs.Laws.{WrittenOutLoopsArePlain, WrittenOutLoopsStayLow}
use Rattle.loop_laws.specs.Meaning.{HoldsRange, IsPlainOver, MeansPlain, StaysLow}
use Rattle.loop_laws.proofs.Sizes.{IsRanged, ranged}

-- as many expressions as runs
as_many : (text : List ℕ) (runs : List (List Lexeme)) (es : List Expr) → AreExpressions text runs es → length es ≡ length runs
as_many text [] [] are = refl
as_many text [] (e ∷ es) are = absurd are
as_many text (r ∷ rs) [] are = absurd are
as_many text (r ∷ rs) (e ∷ es) are = ap suc (as_many text rs es are.1)

-- the call of a loop over a range
means_over : (text : List ℕ) (c : Setting) (own : Ownership c.program) (j line helper_line : ℕ) (l : Loop) (range : Range) (others : List Expr) (args : List Arg) (s : State)
    → function_of c.program (sum_name j) ≡ Some (range_function range (sum_name j) (bytes_of text l.function) (length l.others) helper_line)
    → IsRanged range → AreExpressions text l.others others → AreArguments text range (map value others) args → s.faulted ≡ false → HoldsRange text range s.store
    → (plain : State → State) × IsPlainOver text range c line l others plain
    × (KeepsLimits (added s (exec c (run c) line (call_stmt (integer (bytes_of text l.target)) (sum_name j) args) s)) → KeepsLimits (added s (plain s))
    → MeansTheSame s (exec c (run c) line (call_stmt (integer (bytes_of text l.target)) (sum_name j) args) s) (plain s))
means_over text c own j line helper_line l (numbers low high) others args s helper is_ranged are arguments going holds =
    let first = arguments.0 in
    let last = arguments.1 in (
      plain_loop c line (bytes_of text l.function) (bytes_of text l.target) first last others,
      (first, last, arguments.2, arguments.3, refl),
      subst (λ (xs : List Arg). KeepsLimits (added s (exec c (run c) line (call_stmt (integer (bytes_of text l.target)) (sum_name j) xs) s))
          → KeepsLimits (added s (plain_loop c line (bytes_of text l.function) (bytes_of text l.target) first last others s))
          → MeansTheSame s (exec c (run c) line (call_stmt (integer (bytes_of text l.target)) (sum_name j) xs) s) (plain_loop c line (bytes_of text l.function) (bytes_of text l.target) first last others s))
          (sym arguments.4)
          (numbers_loops c (sum_name j) (bytes_of text l.function) (length l.others) helper_line own helper line (bytes_of text l.target) first last others s (as_many text l.others others are) going),
    )
means_over text c own j line helper_line l (parts block most) others args s helper is_ranged are arguments going holds = (
  plain_parts_loop c line (bytes_of text l.function) (words_of most.value) (bytes_of text l.target) (bytes_of text block) others,
  refl,
  subst (λ (xs : List Arg). KeepsLimits (added s (exec c (run c) line (call_stmt (integer (bytes_of text l.target)) (sum_name j) xs) s))
      → KeepsLimits (added s (plain_parts_loop c line (bytes_of text l.function) (words_of most.value) (bytes_of text l.target) (bytes_of text block) others s))
      → MeansTheSame s (exec c (run c) line (call_stmt (integer (bytes_of text l.target)) (sum_name j) xs) s) (plain_parts_loop c line (bytes_of text l.function) (words_of most.value) (bytes_of text l.target) (bytes_of text block) others s))
      (sym arguments)
      (parts_loops c (sum_name j) (bytes_of text l.function) (words_of most.value) (length l.others) helper_line own helper is_ranged line (bytes_of text l.target) (bytes_of text block) others s
      (as_many text l.others others are) going holds.0 holds.1),
)

pub written_out_loops : WrittenOutLoopsArePlain
written_out_loops text bytes c expands is_text own =
    let x = expansions_are_so text bytes c.program expands is_text own in (
      x,
      λ before l behind is line stmt s call going holds.
          let has = x.each before l behind is in
          let over = means_over text c own (length before) line has.line l l.range call.0 call.1 s has.helper (ranged _ x.loops x.are before l behind is) call.2 call.3 going holds in
          subst (λ (one : Stmt). MeansPlain text c line l one s) (sym call.4) (over.0, (call.0, call.2, over.1), over.2),
    )

-- the words of a call
low_over : (text : List ℕ) (c : Setting) (own : Ownership c.program) (j line helper_line : ℕ) (l : Loop) (range : Range) (others : List Expr) (args : List Arg) (s : State)
    → function_of c.program (sum_name j) ≡ Some (range_function range (sum_name j) (bytes_of text l.function) (length l.others) helper_line)
    → AreExpressions text l.others others → AreArguments text range (map value others) args → s.faulted ≡ false
    → StaysLow text range c line l (call_stmt (integer (bytes_of text l.target)) (sum_name j) args) s
low_over text c own j line helper_line l (numbers low high) others args s helper are arguments going = (
  arguments.0,
  arguments.1,
  others,
  arguments.2,
  arguments.3,
  are,
  λ lo hi vs first_is last_is others_are logarithm some few w rounds.
      subst (λ (xs : List Arg). KeepsLimits (added s (exec c (run c) line (call_stmt (integer (bytes_of text l.target)) (sum_name j) xs) s))
      → peak (actions_of (added s (exec c (run c) line (call_stmt (integer (bytes_of text l.target)) (sum_name j) xs) s))) ≤ℤ (w +ℤ pos (record_words * logarithm)))
      (sym arguments.4)
      (prefix_sums c (sum_name j) (bytes_of text l.function) (length l.others) helper_line own helper line (bytes_of text l.target) arguments.0 arguments.1 others s (as_many text l.others others are) going
      lo hi vs first_is last_is others_are logarithm some few w rounds),
)
low_over text c own j line helper_line l (parts block most) others args s helper are arguments going = tt

pub low_loops : WrittenOutLoopsStayLow
low_loops text bytes c expands is_text own =
    let x = expansions_are_so text bytes c.program expands is_text own in (
      x,
      λ before l behind is line stmt s call going.
          let has = x.each before l behind is in
          subst (λ (one : Stmt). StaysLow text l.range c line l one s) (sym call.4)
          (low_over text c own (length before) line has.line l l.range call.0 call.1 s has.helper call.2 call.3 going),
    )
