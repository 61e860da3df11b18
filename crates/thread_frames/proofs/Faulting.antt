-- The action of a fault.
use Rattle.std.proofs.Common.{◌≡◌, ℕ, true, List, [], ◌∷◌, ◌++◌, map, Option, sym, ◌∙◌, ap, subst, append_assoc}
use Rattle.dag_order.specs.declared.fault.FaultAt.{FaultAt}
use Rattle.dag_order.specs.declared.fault.FaultKind.{FaultKind}
use Rattle.block_arena.specs.declared.record_block.RecordBlock.{RecordBlock}
use Rattle.depth_first_list.specs.Actions as actions
use Rattle.thread_run.specs.Passed.Tree.{Name}
use Rattle.thread_state.specs.Passed.States.{Setting, State, Item, failed, next_action, with_action, with_fault, holdings}
use Rattle.thread_state.specs.Passed.Middle.{step_frame}
use Rattle.node_table.specs.Table.{Table}
use Rattle.node_table.specs.Names.{slot_names}
use Rattle.thread_run.specs.Passed.Points.{mark_of, marked}
use Rattle.thread_output.specs.Telling.{Tells}
use Rattle.thread_output.specs.declared.told.Told.{Told}
use Rattle.thread_state.specs.Effects.{Goes}
use Rattle.thread_state.specs.States.{IsState, rows_of, words_held}
use Rattle.thread_state.specs.declared.state.ThreadState.{ThreadState}
use Rattle.thread_state.proofs.Holding.{ended, ends}
use Rattle.thread_state.proofs.Held.{holdings_are}
use Rattle.thread_run.specs.Stands.{InState}
use Rattle.thread_run.specs.Going.{FaultsBy}
use Rattle.thread_run.specs.declared.run.ThreadRun.{ThreadRun}
use Rattle.thread_frames.specs.Points.{At}
use Rattle.thread_frames.specs.declared.open_child.OpenChild.{OpenChild}
use Rattle.thread_frames.specs.declared.prepared.Prepared.TheVariants.{Nothing, Fault}
use Rattle.thread_frames.proofs.Acting.{Counts, counts, marked_state, moved_at, quiet_behind, mark_no_fault, mark_no_line}

-- the functions of a thread that a fault has ended are of no account
pub other_contexts : (contexts next : List (List Name)) (u : ThreadState) (s : State) → u.faulted ≡ true → IsState contexts u s → IsState next u s
other_contexts contexts next u s e is =
    let h = ended u.faulted contexts (rows_of u) s.store s.callers e is.holds in
    record {
      label = is.label;
      done = is.done;
      forks = is.forks;
      faulted = is.faulted;
      calls = is.calls;
      turns = is.turns;
      holds = ends u.faulted next (rows_of u) s.store s.callers e h.0 h.1 h.2;
    }

pub record Faulted (c : Setting) (t : Table) (func : Option ℕ) (run : ThreadRun) (children : List OpenChild) (block : Option RecordBlock) (u : ThreadState) (told : Told)
    : Type 0 where
  pub at : At c t func (record run { state = u; told = told }) children block Nothing
  pub counts : Counts u run.state
  pub words : words_held u ≡ 0

pub fault_done : (c : Setting) (t : Table) (func : Option ℕ) (run : ThreadRun) (children : List OpenChild) (block : Option RecordBlock) (fault : FaultAt) (u : ThreadState)
    (told : Told) → ((contexts : List (List Name)) (kind : FaultKind) (line : ℕ) → Goes contexts contexts run.state u (with_fault kind line))
    → ((items : List Item) → Tells run.told items → Tells told (items ++ failed fault ∷ []))
    → At c t func run children block (Fault fault) → Faulted c t func run children block u told
unfolding with_fault with_action
fault_done c t func run children block fault u told goes tells a =
    let by : FaultsBy c t run fault a.own a.at = a.stands.next in
    let s = a.at in
    let after : State = (step_frame c by.next by.rest s).state in
    let does : after ≡ with_fault fault.kind fault.line (marked by.next s) = by.comes in
    let contexts : List (List Name) = map slot_names a.functions in
    let is : IsState contexts u (with_fault fault.kind fault.line (marked by.next s)) =
    goes contexts fault.kind fault.line (marked by.next s) (marked_state a.functions run.state by.next s a.stands.state) in
    let state : InState by.functions u after =
    subst (λ (x : State). IsState (map slot_names by.functions) u x) (sym does) (other_contexts contexts (map slot_names by.functions) u _ is.faulted is) in
    let act : Item = next_action actions.faults (holdings s) s in
    let mark : List Item = mark_of by.next in
    let new : List Item = mark ++ act ∷ failed fault ∷ [] in
    let grown : after.items ≡ s.items ++ new =
    ap State.items does ∙ append_assoc (s.items ++ mark) (act ∷ []) (failed fault ∷ []) ∙ append_assoc s.items mark (act ∷ failed fault ∷ []) in
    let quiet : Tells run.told (a.part ++ (mark ++ act ∷ [])) =
    quiet_behind run.told a.part (mark ++ act ∷ []) a.stands.tells (mark_no_fault by.next (act ∷ [])) (mark_no_line by.next (act ∷ [])) in
    let regrouped : (a.part ++ (mark ++ act ∷ [])) ++ failed fault ∷ [] ≡ a.part ++ new =
    append_assoc a.part (mark ++ act ∷ []) (failed fault ∷ []) ∙ ap (λ xs. a.part ++ xs) (append_assoc mark (act ∷ []) (failed fault ∷ [])) in
    let nothing = holdings_are contexts u _ is in
    record {
      at = moved_at c t func run children block by.functions by.next by.rest a.own s a.part a.older new u told by.own_is by.plain by.runs by.frames a.point
          (subst (λ (xs : List Item). Tells told xs) regrouped (tells (a.part ++ (mark ++ act ∷ [])) quiet)) a.children a.run_in a.record_block
          (ap State.label does) grown state;
      counts = counts contexts (map slot_names by.functions) u run.state s after a.stands.state state (ap State.label does) (ap State.done does) (ap State.forks does);
      words = nothing;
    }
