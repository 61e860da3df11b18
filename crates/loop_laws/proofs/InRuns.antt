-- The loops of a run.
use Rattle.std.proofs.Common.{◌≡◌, ◌≤◌, ℕ, true, false, List, ◌∷◌, length, map, refl, ap, subst, ◌∙◌}
use Rattle.std.specs.Prelude.{◌||◌}
use Rattle.language_limits.specs.declared.TheConstants.{LONGEST_BLOCK}
use Rattle.par_tree.specs.Tree.{value, lend, Stmt, Body, step}
use Rattle.par_ownership.specs.Ownership.{Ownership}
use Rattle.par_lex.specs.declared.lexeme.Lexeme.{Lexeme}
use Rattle.depth_first_run.specs.Middle.{Frame, does, statements, middle}
use Rattle.depth_first_run.specs.States.{Setting, State}
use Rattle.depth_first_run.specs.Stores.{block_of}
use Rattle.thread_points.specs.Points.{after_steps}
use Rattle.ownership_laws.specs.Needs.{needs_block, needed_by_args}
use Rattle.ownership_laws.proofs.Counting.{name_same}
use Rattle.ownership_laws.proofs.Fitting.{finds_at}
use Rattle.ownership_laws.proofs.Short.{short_block}
use Rattle.ownership_laws.proofs.Stepping.{CarriesPoint, carried, carries_after}
use Rattle.loop_expand.specs.Loops.{Range, numbers, parts, Loop}
use Rattle.loop_expand.specs.Texts.{bytes_of}
use Rattle.loop_laws.specs.LoopCalls.{AreArguments, IsCall}
use Rattle.loop_laws.specs.Meaning.{HoldsRange}
use Rattle.loop_laws.specs.Laws.{LoopsFindTheirBlocks, LoopsOfRunsArePlain}
use Rattle.loop_laws.proofs.Loops.{written_out_loops}

pub loops_find_their_blocks : LoopsFindTheirBlocks
loops_find_their_blocks text c own n line j l block most stmt rest fs s is call at going =
    let b = bytes_of text block in
    let passes : call.1 ≡ lend b ∷ map value call.0 = subst (λ range. AreArguments text range (map value call.0) call.1) is call.3 in
    let needs : needs_block b stmt ≡ true =
    ap (needs_block b) call.4 ∙ ap (needed_by_args b) passes ∙ ap (λ t. t || needed_by_args b (map value call.0)) (name_same b) in
    finds_at c own n line stmt rest fs s at going b needs

-- a block that is there at a point of such a run is no longer than a block may be
short_at : (c : Setting) → Ownership c.program → (n : ℕ) (fs : List Frame) (s : State) → after_steps c n ≡ middle fs s → (b : List ℕ)
    → length (block_of s.store.blocks b) ≤ LONGEST_BLOCK
short_at c own n fs s at b =
    short_block s.store.blocks b (carried c fs s (subst (λ m. CarriesPoint c m) at (carries_after c own n))).0.1

module _ (text : List ℕ) (c : Setting) (own : Ownership c.program) (n line j : ℕ) (l : Loop) (stmt : Stmt) (rest : Body) (fs : List Frame) (s : State)
    (call : IsCall text j l stmt) (at : after_steps c n ≡ middle (does (statements (step line stmt rest)) ∷ fs) s) (going : s.faulted ≡ false) where
  holds : (range : Range) → l.range ≡ range → HoldsRange text range s.store
  holds (numbers low high) is = tt
  holds (parts block most) is = (
    loops_find_their_blocks text c own n line j l block most stmt rest fs s is call at going,
    short_at c own n (does (statements (step line stmt rest)) ∷ fs) s at (bytes_of text block),
  )

pub loops_of_runs : LoopsOfRunsArePlain
loops_of_runs text bytes c expands is_text own =
    let plain = written_out_loops text bytes c expands is_text own in (
      plain.0,
      λ before l behind is n line stmt rest fs s call at going.
          plain.1 before l behind is line stmt s call going (holds text c own n line (length before) l stmt rest fs s call at going l.range refl),
    )
