-- Between a thread with its rows and the standing of a thread over slots.
use Rattle.std.proofs.Common.{◌≡◌, Bool, false, List, [], ◌∷◌, ◌++◌, map, ℤ, refl, sym, ap, ◌∙◌, subst, arith}
use Rattle.par_tree.specs.Tree.{Name, Func}
use Rattle.thread_state.specs.Passed.States.{Setting, State, Item, began, acted, printed, failed}
use Rattle.thread_state.specs.Passed.Run.{lines_of, first_fault}
use Rattle.thread_state.specs.Passed.Middle as middles
use Rattle.thread_output.specs.Passed.Threads.{IsThread}
use Rattle.thread_state.specs.Passed.Names.{slot_names}
use Rattle.thread_state.specs.Passed.Table.{Table}
use Rattle.thread_state.specs.Passed.Rows.{row_words}
use Rattle.thread_state.specs.Passed.Shown.{slots_shown}
use Rattle.thread_state.proofs.Passed.Rows.{block_or_none}
use Rattle.flat_statements.specs.Passed.Frame.{Frame}
use Rattle.flat_statements.specs.Passed.Frames.{AreFrames}
use Rattle.thread_state.specs.Rows.{Holds, waiting_rows, all_words}
use Rattle.thread_state.specs.States.{IsState, own_row, rows_of, words_held}
use Rattle.thread_state.specs.declared.state.ThreadState.{ThreadState}
use Rattle.thread_state.proofs.Holding.{own_shows, own_changed}
use Rattle.thread_output.specs.Telling.{Tells, AreLines}
use Rattle.thread_output.specs.declared.told.Told.{Told}
use Rattle.flat_statements.specs.Threads.{standing}
use Rattle.flat_statements.specs.Follows.{Steps}
use Rattle.flat_statements.specs.Runs.{IsInState}
use Rattle.flat_threads.specs.Along.{AreMarks, ComesAlong, DiffersInRow, HasGone}
use Rattle.flat_threads.proofs.Along.{threads_come_along}
use Rattle.flat_threads.proofs.Rows.{rows_stay}

-- ---- states

-- the row in memory has one block at most in each slot
pub in_state : (contexts : List (List Name)) (names : List Name) (one : ThreadState) (at : State) → one.faulted ≡ false
    → IsState (names ∷ contexts) one at → IsInState names (own_row one) one.turns at
in_state contexts names one at going is = record {
  shows = own_shows one.faulted names contexts (own_row one) (waiting_rows one.callers.items) at.store at.callers going is.holds;
  turns = is.turns;
  going = sym is.faulted ∙ going;
  single = block_or_none one.slots.slots.items;
}

-- the state a with another store and other turns, and more items
abbrev like : State → State → List Item → State
like a b new = record a { store = b.store; turns = b.turns; items = a.items ++ new }

later_like : (contexts : List (List Name)) (names : List Name) (one other : ThreadState) (at to : State) (new : List Item) → one.faulted ≡ false
    → DiffersInRow one other → IsState (names ∷ contexts) one at → IsInState names (own_row other) other.turns to
    → IsState (names ∷ contexts) other (like at to new)
later_like contexts names one other at to new going same is state = record {
  label = same.label ∙ is.label;
  done = same.done_so_far ∙ is.done;
  forks = same.forks ∙ is.forks;
  faulted = same.faulted ∙ is.faulted;
  calls = same.calls ∙ is.calls;
  turns = state.turns;
  holds =
      subst (λ (b : Bool). Holds b (names ∷ contexts) (rows_of other) to.store at.callers) (sym same.faulted)
      (subst (λ cs. Holds one.faulted (names ∷ contexts) (own_row other ∷ waiting_rows cs) to.store at.callers) (sym same.callers)
      (own_changed one.faulted names contexts (own_row one) (own_row other) (waiting_rows one.callers.items) at.store to.store at.callers going is.holds
      state.shows));
}

pub in_later_state : (c : Setting) (t : Table) (g : Func) (gs : List Func) (zs : List Frame) (own : List middles.Frame) (xs : List Frame)
    (one other : ThreadState) (at : State) → one.faulted ≡ false → DiffersInRow one other → IsState (map slot_names (g ∷ gs)) one at
    → (w : ComesAlong c t (g ∷ gs) zs own at (standing xs (own_row other) other.turns)) → IsState (map slot_names (g ∷ gs)) other w.to
in_later_state c t g gs zs own xs one other at going same is w =
    subst (λ (s : State). IsState (map slot_names (g ∷ gs)) other s) (sym w.same)
    (later_like (map slot_names gs) (slot_names g) one other at w.to w.new going same is w.state)

pub words_stay : (t : Table) (xs ys : List Frame) (one other : ThreadState) → DiffersInRow one other
    → Steps t (standing xs (own_row one) one.turns) (standing ys (own_row other) other.turns) → words_held other ≡ words_held one
words_stay t xs ys one other same way =
    let stay = rows_stay t (standing xs (own_row one) one.turns) (standing ys (own_row other) other.turns) way (block_or_none one.slots.slots.items) in
    let own : row_words (own_row other) ≡ row_words (own_row one) = stay.words in
    let waiting : all_words (map slots_shown other.callers.items) ≡ all_words (map slots_shown one.callers.items) =
    ap (λ cs. all_words (map slots_shown cs)) same.callers in
    omega (arith, own, waiting)

-- ---- lines and faults

same_fault : (part new : List Item) → AreMarks new → first_fault (part ++ new) ≡ first_fault part
same_fault [] [] marks = refl
same_fault [] (began line ∷ new) marks = same_fault [] new marks
same_fault [] (acted a ∷ new) marks = absurd marks
same_fault [] (printed v ∷ new) marks = absurd marks
same_fault [] (failed fault ∷ new) marks = absurd marks
same_fault (began line ∷ part) new marks = same_fault part new marks
same_fault (acted a ∷ part) new marks = same_fault part new marks
same_fault (printed v ∷ part) new marks = same_fault part new marks
same_fault (failed fault ∷ part) new marks = refl

same_lines : (part new : List Item) → AreMarks new → lines_of (part ++ new) ≡ lines_of part
same_lines [] [] marks = refl
same_lines [] (began line ∷ new) marks = same_lines [] new marks
same_lines [] (acted a ∷ new) marks = absurd marks
same_lines [] (printed v ∷ new) marks = absurd marks
same_lines [] (failed fault ∷ new) marks = absurd marks
same_lines (began line ∷ part) new marks = same_lines part new marks
same_lines (acted a ∷ part) new marks = same_lines part new marks
same_lines (printed v ∷ part) new marks = ap (λ (vs : List ℤ). v ∷ vs) (same_lines part new marks)
same_lines (failed fault ∷ part) new marks = refl

pub marks_say_nothing : (told : Told) (part new : List Item) → AreMarks new → Tells told part → Tells told (part ++ new)
marks_say_nothing told part new marks tells = record {
  fault = tells.fault ∙ sym (same_fault part new marks);
  lines = subst (λ (vs : List ℤ). AreLines told.lines vs) (sym (same_lines part new marks)) tells.lines;
}

-- ---- a whole way

pub threads_go : (c : Setting) (t : Table) (g : Func) (gs : List Func) (xs ys zs : List Frame) (one other : ThreadState) (told : Told)
    (own : List middles.Frame) (at : State) (part : List Item) (older : List (List Item))
    → Steps t (standing xs (own_row one) one.turns) (standing ys (own_row other) other.turns) → one.faulted ≡ false → DiffersInRow one other
    → IsThread c own at (part ∷ older) → AreFrames c.program t (g ∷ gs) (xs ++ zs) own → IsState (map slot_names (g ∷ gs)) one at → Tells told part
    → HasGone c t (g ∷ gs) ys zs other told own older
threads_go c t g gs xs ys zs one other told own at part older way going same thread frames is tells =
    let from = standing xs (own_row one) one.turns in
    let u = standing ys (own_row other) other.turns in
    let w = threads_come_along c t g gs zs from u way own at frames (in_state (map slot_names gs) (slot_names g) one at going is) in
    record {
      frames = w.frames;
      to = w.to;
      part = part ++ w.new;
      thread = w.thread part older thread;
      children = w.children;
      are = w.are;
      state = in_later_state c t g gs zs own ys one other at going same is w;
      tells = marks_say_nothing told part w.new w.marks tells;
    }
