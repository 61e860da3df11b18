use Rattle.std.proofs.Common.{◌∷◌, ◌++◌, [], map, refl, sym, ◌∙◌, ap, subst, arith, Some, None, length, false}
use Rattle.std.proofs.Math.Logic.{∥∥₁_map, ∥∥₁_prop}
use denote.Struct.Props.{props}
use mathlib.Core.List.{map-append}
use Rattle.thread_state.specs.States.{own_row, words_held}
use Rattle.thread_output.specs.Telling.{Tells}
use Rattle.thread_state.specs.declared.state.ThreadState.{ThreadState}
use Rattle.thread_frames.specs.Views.{Child, child_shown, told_as, all_brought, recorded}
use Rattle.thread_frames.specs.Points.{At}
use Rattle.thread_frames.specs.declared.open_child.OpenChild.{OpenChild}
use Rattle.thread_frames.specs.declared.prepared.Prepared.TheVariants.{Fork, Nothing}
use Rattle.thread_frames.proofs.Sets.{room_had, fits_had}
use Rattle.thread_frames.proofs.Placed.{placed_gives, next_point, prepared_as, same_parts}
use Rattle.thread_frames.proofs.Forking.{States, states_had, running, slots_fit, states_of, child_at, parent_at, brought_more}
use Rattle.thread_frames.proofs.thread.Thread.do_fork.Goals as goal

pub fork_state-state-requires-clause-going : goal.fork_state-state-requires-clause-going
fork_state-state-requires-clause-going c =
    let b = c.args.self.now in
    let is = sym c.replace.ensures.value ∙ c.in-Fork.is in
    placed_gives b (search props) c.requires.placed (λ t k setting of x.
    running setting t b.func b.run b.children.items b.record_block c.in-Fork.forking c.in-Fork.room of.owned of.turns
    (prepared_as setting t b.func b.run b.children.items b.record_block _ b.prepared (sym is) x))

pub fork_state-state-requires-clause-room : goal.fork_state-state-requires-clause-room
fork_state-state-requires-clause-room c =
    let b = c.args.self.now in
    let is = sym c.replace.ensures.value ∙ c.in-Fork.is in
    room_had b.run.state c.in-Fork.forking.branch c.in-Fork.room.room (placed_gives b ∥∥₁_prop c.requires.placed (λ t k setting of x.
    (let a : At setting t b.func b.run b.children.items b.record_block (Fork c.in-Fork.forking c.in-Fork.room) =
    prepared_as setting t b.func b.run b.children.items b.record_block _ b.prepared (sym is) x in
    ∣ a.stands.2 ∣₁)))

pub fork_state-state-requires-clause-within : goal.fork_state-state-requires-clause-within
fork_state-state-requires-clause-within c =
    let b = c.args.self.now in
    let is = sym c.replace.ensures.value ∙ c.in-Fork.is in
    fits_had (length (own_row b.run.state)) c.deref.result.now (placed_gives b ∥∥₁_prop c.requires.placed (λ t k setting of x.
    ∣ slots_fit setting t b.func b.run b.children.items b.record_block c.in-Fork.forking c.in-Fork.room of.owned of.turns
    (prepared_as setting t b.func b.run b.children.items b.record_block _ b.prepared (sym is) x) c.deref.result.now c.deref.ensures.value ∣₁))

pub returns-clause-point : goal.returns-clause-point
returns-clause-point c = λ t k.
    let b = c.args.self.now in
    let is = sym c.replace.ensures.value ∙ c.in-Fork.is in
    let kid : OpenChild = record {
      id = c.args.id;
      ordinal = c.forks.result;
      func = c.forked_in-func.result;
      before = c.replace-before.result;
      ended = None;
    } in
    next_point t k b _ (λ setting of x.
    same_parts setting t b.func b.func _ _ c.push_reserved-3.new.self.items (b.children.items ++ kid ∷ []) b.record_block b.record_block c.replace.new.dest Nothing
    refl refl c.push_reserved-3.ensures.items refl c.replace.ensures.after
    (parent_at setting t b.func b.run b.children.items b.record_block c.in-Fork.forking c.in-Fork.room of.owned of.turns
    (prepared_as setting t b.func b.run b.children.items b.record_block _ b.prepared (sym is) x) c.deref.result.now c.fork_state-state.new.state c.fork_state-state.result
    c.push_reserved-2.new.self c.replace-before.new.dest kid c.deref.ensures.value c.fork_state-state.ensures
    (c.push_reserved-2.ensures.items ∙ ap (λ ys. ys ++ c.in-Fork.forking.own ∷ []) c.push_reserved.ensures.items)
    (subst (λ y. Tells y []) (sym c.replace-before.ensures.after) c.new.ensures.items)
    c.forks.ensures.value c.forked_in-func.ensures c.replace-before.ensures.value refl))

pub returns-clause-child : goal.returns-clause-child
returns-clause-child c = λ t k at.
    let b = c.args.self.now in
    let is = sym c.replace.ensures.value ∙ c.in-Fork.is in
    let func = c.begin.ensures.run_func ∙ c.forked_in-func.ensures in
    let state = c.begin.ensures.state in
    record {
      of_program = at.of_program;
      at = λ setting of. ∥∥₁_map (at.at setting of) (λ x.
          same_parts setting t _ _ _ _ _ [] _ (Some c.in_ok-block.block) _ Nothing
          (c.begin.ensures.func ∙ c.forked_in-func.ensures)
          (λ i. record { func = func i; state = state i; frames = c.begin.result.run.frames; told = c.begin.result.run.told })
          c.begin.ensures.children c.begin.ensures.block c.begin.ensures.prepared
          (child_at setting t b.func b.run b.children.items b.record_block c.in-Fork.forking c.in-Fork.room of.owned of.turns
          (prepared_as setting t b.func b.run b.children.items b.record_block _ b.prepared (sym is) x) c.deref.result.now c.fork_state-state.new.state c.fork_state-state.result
          c.begin.result.run.frames c.begin.result.run.told c.in_ok-block.block c.deref.ensures.value c.fork_state-state.ensures c.begin.ensures.frames c.begin.ensures.told));
    }

pub returns-clause-forked : goal.returns-clause-forked
returns-clause-forked c =
    let b = c.args.self.now in
    let is = sym c.replace.ensures.value ∙ c.in-Fork.is in
    let new = c.fork_state-state.new.state in
    let kid : OpenChild = record {
      id = c.args.id;
      ordinal = c.forks.result;
      func = c.forked_in-func.result;
      before = c.replace-before.result;
      ended = None;
    } in
    let st : States b.run.state new c.fork_state-state.result = states_had b.run.state new c.fork_state-state.result (placed_gives b ∥∥₁_prop c.requires.placed (λ t k setting of x.
    ∣ states_of setting t b.func b.run b.children.items b.record_block c.in-Fork.forking c.in-Fork.room of.owned of.turns
    (prepared_as setting t b.func b.run b.children.items b.record_block _ b.prepared (sym is) x) c.deref.result.now new c.fork_state-state.result
    c.deref.ensures.value c.fork_state-state.ensures ∣₁)) in
    let begun = c.begin.ensures.state in
    record {
      same = record { id = refl; parent = refl; func = refl; label = st.label };
      done = st.done;
      forks = st.forks;
      children =
          ap (map child_shown) c.push_reserved-3.ensures.items
          ∙ map-append child_shown b.children.items (kid ∷ [])
          ∙ ap (λ (x : Child). map child_shown b.children.items ++ x ∷ [])
          (λ i. record { id = c.args.id; ordinal = (c.forks.ensures.value ∙ st.forks) i; func = sym c.begin.ensures.func i; delivered = false });
      next = ap (told_as c.push_reserved-3.new.self.items) c.replace.ensures.after;
      words =
          let more = ap all_brought c.push_reserved-3.ensures.items ∙ brought_more b.children.items kid refl in
          let held = ap words_held begun in
          let block = ap recorded c.begin.ensures.block in
          let none = ap all_brought c.begin.ensures.children in
          let all = st.words in
          omega (arith, more, held, block, none, all);
      child_id = c.begin.ensures.id;
      child_parent = c.begin.ensures.parent;
      child_label = ap (λ (x : ThreadState). x.label) begun ∙ st.child_label;
      child_done = ap (λ (x : ThreadState). x.done) begun ∙ st.child_done;
      child_children = ap (map child_shown) c.begin.ensures.children;
      child_next = ap (told_as c.begin.result.children.items) c.begin.ensures.prepared;
    }
