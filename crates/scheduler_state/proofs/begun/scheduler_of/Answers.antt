use Rattle.std.proofs.Common.{refl, ap, ◌∙◌}
use Rattle.scheduler_state.specs.Begun.{deques_with}
use Rattle.scheduler_state.proofs.begun.scheduler_of.Goals as goal

pub returns-clause-begun : goal.returns-clause-begun
returns-clause-begun c = (
  c.in_ok-thread.thread,
  record {
    point = c.in_ok-thread.ensures.point;
    id = c.in_ok-thread.ensures.id;
    label = c.in_ok-thread.ensures.label;
    own_done = c.in_ok-thread.ensures.done;
    children = c.in_ok-thread.ensures.children;
    words = c.in_ok-thread.ensures.words;
    deques = c.in_ok-list.ensures.deques ∙ ap deques_with c.in_ok-root.ensures;
    waiting = c.new-3.ensures;
    results = c.new-4.ensures;
    periods = c.in_ok-table.ensures.none;
    begun = c.in_ok-table.ensures.begun;
    live = c.requires.pool;
    moves = c.new-5.ensures;
    done = refl;
  },
)
