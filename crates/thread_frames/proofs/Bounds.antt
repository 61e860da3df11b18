-- The words that an action gives back are words that the thread has.
use Rattle.std.proofs.Common.{◌≡◌, ℕ, ◌+◌, ◌≤◌, List, [], ◌∷◌, map, sym, ap, subst, ◌∙◌, arith}
use Rattle.std.specs.Prelude.{Option, None, Some, Bool, true, false}
use denote.Struct.Props.{props}
use Rattle.block_arena.specs.declared.record_block.RecordBlock.{RecordBlock}
use Rattle.thread_state.specs.Passed.States.{Setting, State}
use Rattle.thread_state.proofs.Passed.Words.{without_words}
use Rattle.thread_run.specs.Passed.Tree.{Func}
use Rattle.node_table.specs.Table.{Table}
use Rattle.node_table.specs.Names.{slot_names}
use Rattle.thread_state.specs.States.{words_held}
use Rattle.thread_state.specs.Joins.{words_by}
use Rattle.thread_state.proofs.Held.{holdings_are}
use Rattle.thread_run.specs.Passed.Points.{words_at_end, marked}
use Rattle.thread_state.specs.Passed.Middle.{step_frame}
use Rattle.thread_run.specs.Dones.{IsRelease as IsGiven}
use Rattle.thread_run.specs.declared.run.ThreadRun.{ThreadRun}
use Rattle.thread_run.specs.declared.ready.Ready.TheVariants as ready
use Rattle.thread_run.specs.Going.{ActsBy}
use Rattle.thread_frames.specs.declared.thread.Thread.{Thread}
use Rattle.thread_frames.specs.declared.ended.Ended.{Ended}
use Rattle.thread_frames.specs.declared.open_child.OpenChild.{OpenChild}
use Rattle.thread_frames.specs.declared.next.Next.TheVariants as nexts
use Rattle.thread_frames.specs.declared.prepared.Prepared.{Prepared}
use Rattle.thread_frames.specs.declared.prepared.Prepared.TheVariants.{Nothing, Fork, Join, Alloc, Release, Dummy, Fault, End}
use Rattle.thread_frames.specs.Actions.{IsRelease}
use Rattle.thread_frames.specs.Views.{newest, told_as, next_of, label_of, thread_words, join_words_of, released_by, result_of, all_brought, brought, words_asked}
use Rattle.thread_frames.specs.Points.{At, Stands, IsThreadAt, IsPlaced}
use Rattle.thread_frames.proofs.Placed.{placed_gives}
use Rattle.thread_frames.proofs.Doing.{is_release}

-- a block that a thread is about to give back is one that it has
release_held : (c : Setting) (t : Table) (func : Option ℕ) (run : ThreadRun) (children : List OpenChild) (block : Option RecordBlock) (slot words : ℕ)
    → At c t func run children block (Release slot words) → words ≤ words_held run.state
release_held c t func run children block slot words a =
    let by : ActsBy c t a.functions run (ready.Release slot words) a.own a.at = a.stands.next in
    let is : IsGiven a.functions run.state slot words (marked by.next a.at) (step_frame c by.next by.rest a.at).state = by.acts.1 in
    let before = holdings_are (map slot_names a.functions) run.state a.at a.stands.state in
    let held = without_words a.at.store.blocks is.block in
    let counted = is.counted in omega (arith, before, held, counted)

pub release_within : (x : Thread) (words : ℕ) → IsPlaced x → next_of x ≡ Some (nexts.Release words) → words ≤ thread_words x
release_within x words placed is = placed_gives x (search props) placed (λ t k c of_table a. at_point t c a)
  where
    at_point : (t : Table) (c : Setting) → IsThreadAt c t x → words ≤ thread_words x
    at_point t c a =
        let found = is_release x.children.items x.prepared (subst IsRelease (sym is) tt) in
        let same : found.1 ≡ words = ap words_asked (sym (ap (told_as x.children.items) found.2) ∙ is) in
        let within = release_held c t x.func x.run x.children.items x.record_block found.0 found.1 (subst (At c t x.func x.run x.children.items x.record_block) found.2 a) in
        omega (arith, same, within)

-- the words of the newest child are among those of all
newest_brought : (xs : List OpenChild) → brought (result_of (newest xs)) ≤ all_brought xs
newest_brought [] = omega arith
newest_brought (x ∷ []) = omega arith
newest_brought (x ∷ y ∷ xs) = let rest = newest_brought (y ∷ xs) in omega (arith, rest)

pub join_within : (x : Thread) → join_words_of x ≤ thread_words x
join_within x = by_result (result_of (newest x.children.items)) (newest_brought x.children.items)
  where
    by_faults : (own child : Bool) (mine its : ℕ) → words_by own child mine its ≤ mine + its
    by_faults true child mine its = omega arith
    by_faults false true mine its = omega arith
    by_faults false false mine its = omega arith

    by_result : (result : Option Ended) → brought result ≤ all_brought x.children.items → released_by x result ≤ thread_words x
    by_result None within = omega arith
    by_result (Some ended) within =
        let most = by_faults x.run.state.faulted ended.state.faulted (words_held x.run.state) (words_held ended.state) in omega (arith, most, within)

-- a thread at a point has the label of its state
label_there : (c : Setting) (t : Table) (gs : List Func) (run : ThreadRun) (prepared : Prepared) (own : List _) (s : State) (part : List _)
    → Stands c t gs run prepared own s part → run.state.label ≡ s.label
label_there c t gs run Nothing own s part stands = stands.state.label
label_there c t gs run (Fork forking room) own s part stands = stands.0.state.label
label_there c t gs run (Join branch assigned) own s part stands = stands.0.state.label
label_there c t gs run (Alloc slot len words shell) own s part stands = stands.0.state.label
label_there c t gs run (Release slot words) own s part stands = stands.state.label
label_there c t gs run Dummy own s part stands = stands.state.label
label_there c t gs run (Fault fault) own s part stands = stands.state.label
label_there c t gs run End own s part stands = stands.state.label

pub end_within : (x : Thread) → IsPlaced x → words_at_end (label_of x) ≤ thread_words x
end_within x placed = placed_gives x (search props) placed (λ t k c of_table a. at_point t c a)
  where
    at_point : (t : Table) (c : Setting) → IsThreadAt c t x → words_at_end (label_of x) ≤ thread_words x
    at_point t c a =
        let same : words_at_end (label_of x) ≡ words_at_end a.at.label =
        ap words_at_end (label_there c t a.functions x.run x.prepared a.own a.at a.part a.stands) in
        let block = a.record_block in omega (arith, same, block)
