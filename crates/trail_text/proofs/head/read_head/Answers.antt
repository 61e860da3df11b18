use Rattle.trail_text.proofs.Fronts.{no_workers, no_whole_quota, no_arena, no_steps, no_whole_arena, no_deques}
use Rattle.trail_text.proofs.head.read_head.Goals as goal

pub returns-in_err-p : goal.returns-in_err-p
returns-in_err-p c = rw c.from_residual-in_err-p.ensures
    (no_workers c.args.bytes.now c.in_ok-k.k c.in_ok-k.at_p.now c.in_ok-k.ensures.0 c.in_ok-k.ensures.1 c.in_err-p.ensures)

pub returns-in_err-arena : goal.returns-in_err-arena
returns-in_err-arena c = rw c.from_residual-in_err-arena.ensures
    (no_arena c.args.bytes.now c.in_ok-k.k c.in_ok-k.at_p.now c.in_ok-k.ensures.0 c.in_ok-k.ensures.1
    c.in_ok-p.p c.in_ok-p.at_arena.now c.in_ok-p.ensures.1 c.in_ok-p.ensures.0 c.in_err-arena.ensures)

pub returns-in_err-steps : goal.returns-in_err-steps
returns-in_err-steps c = rw c.from_residual-in_err-steps.ensures
    (no_steps c.args.bytes.now c.in_ok-k.k c.in_ok-k.at_p.now c.in_ok-k.ensures.0 c.in_ok-k.ensures.1
    c.in_ok-p.p c.in_ok-p.at_arena.now c.in_ok-p.ensures.1 c.in_ok-p.ensures.0
    c.in_ok-arena.arena c.in_ok-arena.at_steps.now c.in_ok-arena.ensures.1 c.in_ok-arena.ensures.0 c.in_err-steps.ensures)

pub returns-in_err-deques : goal.returns-in_err-deques
returns-in_err-deques c = rw c.from_residual-in_err-deques.ensures
    (no_deques c.args.bytes.now c.in_ok-k.k c.in_ok-k.at_p.now c.in_ok-k.ensures.0 c.in_ok-k.ensures.1
    c.in_ok-p.p c.in_ok-p.at_arena.now c.in_ok-p.ensures.1 c.in_ok-p.ensures.0
    c.in_ok-arena.arena c.in_ok-arena.at_steps.now c.in_ok-arena.ensures.1 c.in_ok-arena.ensures.0
    c.in_ok-steps.steps c.in_ok-steps.at_deques.now c.in_ok-steps.ensures.1 c.in_ok-steps.ensures.0 c.in_err-deques.ensures)

pub returns-then-k-ne0 : goal.returns-then-k-ne0
returns-then-k-ne0 c =
    no_whole_quota c.args.bytes.now c.in_ok-k.k c.in_ok-k.at_p.now c.in_ok-k.ensures.0 c.in_ok-k.ensures.1 c.if-k-ne0.true

pub returns-then-arena-ne0 : goal.returns-then-arena-ne0
returns-then-arena-ne0 c =
    no_whole_arena c.args.bytes.now c.in_ok-k.k c.in_ok-k.at_p.now c.in_ok-k.ensures.0 c.in_ok-k.ensures.1
    c.in_ok-p.p c.in_ok-p.at_arena.now c.in_ok-p.ensures.1 c.in_ok-p.ensures.0
    c.in_ok-arena.arena c.in_ok-arena.at_steps.now c.in_ok-arena.ensures.1 c.in_ok-arena.ensures.0 c.if-arena-ne0.true
