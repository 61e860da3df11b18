use Rattle.std.proofs.Common.{◌≡◌, Option, sym, subst}
use Rattle.node_table.specs.Codes.{code_shown}
use Rattle.thread_run.specs.Functions.{functions_of, frames_of}
use Rattle.thread_run.specs.Stepping.{ComesTo, frames_left}
use Rattle.thread_run.specs.declared.ready.Ready.{Ready}
use Rattle.thread_frames.specs.Points.{At}
use Rattle.thread_frames.specs.declared.prepared.Prepared.TheVariants.{Nothing}
use Rattle.thread_frames.proofs.Placed.{next_point, prepared_as}
use Rattle.thread_frames.proofs.Advancing.{is_nothing, known, came, gone}
use Rattle.thread_frames.proofs.thread.Thread.go_on.Goals as goal

pub advance-requires : goal.advance-requires
advance-requires c = record {
  known = known _ _ c.args.self.now (is_nothing c.args.self.now.children.items c.args.self.now.prepared c.requires.nothing) c.requires.point;
}

pub returns-in_default-clause-point : goal.returns-in_default-clause-point
returns-in_default-clause-point c =
    let b = c.args.self.now in
    let t = code_shown c.args.code.now in
    let after = c.advance.new.self in
    let is = is_nothing b.children.items b.prepared c.requires.nothing in
    next_point t _ b _ (λ setting of x.
    (let a : At setting t b.func b.run b.children.items b.record_block Nothing =
    prepared_as setting t b.func b.run b.children.items b.record_block Nothing b.prepared (sym is) x in
    prepared_as setting t b.func after b.children.items b.record_block b.prepared Nothing is
    (gone setting t b.func b.run after b.children.items b.record_block a
    (subst (λ (o : Option Ready). ComesTo setting t a.own a.older after o) c.in_default.is
    (c.in_ok-ready.ensures.meaning setting a.functions a.own a.at a.part a.older of a.point a.stands))
    (subst (λ (o : Option Ready). functions_of after.func (frames_left o (frames_of after)) ≡ functions_of b.run.func (frames_of b.run)) c.in_default.is
    c.in_ok-ready.ensures.functions)
    c.advance.ensures.label))) c.requires.point

pub returns-clause-point : goal.returns-clause-point
returns-clause-point c =
    let b = c.args.self.now in
    let t = code_shown c.args.code.now in
    let after = c.advance.new.self in
    let is = is_nothing b.children.items b.prepared c.requires.nothing in
    next_point t _ b _ (λ setting of x.
    (let a : At setting t b.func b.run b.children.items b.record_block Nothing =
    prepared_as setting t b.func b.run b.children.items b.record_block Nothing b.prepared (sym is) x in
    came setting t b.func b.run after c.reserve.new.frames b.children.items c.reserve.new.children.items b.record_block c.in-Some.ready
    c.in_ok-prepared.prepared a
    (subst (λ (o : Option Ready). ComesTo setting t a.own a.older after o) c.in-Some.is
    (c.in_ok-ready.ensures.meaning setting a.functions a.own a.at a.part a.older of a.point a.stands))
    c.in_ok-prepared.ensures
    (subst (λ (o : Option Ready). functions_of after.func (frames_left o (frames_of after)) ≡ functions_of b.run.func (frames_of b.run)) c.in-Some.is
    c.in_ok-ready.ensures.functions)
    c.advance.ensures.label c.reserve.ensures.frames c.reserve.ensures.children)) c.requires.point
