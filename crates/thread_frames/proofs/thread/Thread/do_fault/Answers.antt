use Rattle.std.proofs.Common.{refl, sym, ◌∙◌, ap, arith}
use denote.Struct.Props.{props}
use Rattle.thread_frames.specs.Views.{told_as}
use Rattle.thread_frames.proofs.Placed.{placed_gives, next_point, prepared_as}
use Rattle.thread_frames.proofs.Acting.{Counts}
use Rattle.thread_frames.proofs.Doing.{acted_counts}
use Rattle.thread_frames.proofs.Faulting.{fault_done}
use Rattle.thread_frames.proofs.thread.Thread.do_fault.Goals as goal

pub returns-clause-acted : goal.returns-clause-acted
returns-clause-acted c =
    let b = c.args.self.now in
    let is = sym c.replace.ensures.value ∙ c.in-Fault.is in
    let k : Counts c.fault.new.self b.run.state = acted_counts b c.fault.new.self c.requires.placed
    (λ t k setting of a. (fault_done setting t b.func b.run b.children.items b.record_block c.in-Fault.fault c.fault.new.self c.mark.new.self c.fault.ensures.state c.mark.ensures.items
    (prepared_as setting t b.func b.run b.children.items b.record_block _ _ (sym is) a)).counts) in
    record {
      same = record { id = refl; parent = refl; func = refl; label = k.label };
      done = k.done;
      forks = k.forks;
      children = refl;
      next = ap (told_as b.children.items) c.replace.ensures.after;
    }

pub returns-clause-words : goal.returns-clause-words
returns-clause-words c =
    let b = c.args.self.now in
    let is = sym c.replace.ensures.value ∙ c.in-Fault.is in
    placed_gives b (search props) c.requires.placed (λ t k setting of a. (let w = (fault_done setting t b.func b.run b.children.items b.record_block c.in-Fault.fault c.fault.new.self c.mark.new.self
    c.fault.ensures.state c.mark.ensures.items (prepared_as setting t b.func b.run b.children.items b.record_block _ _ (sym is) a)).words in
    omega (arith, w)))

pub returns-clause-point : goal.returns-clause-point
returns-clause-point c = λ t k.
    let b = c.args.self.now in
    let is = sym c.replace.ensures.value ∙ c.in-Fault.is in
    next_point t k b _ (λ setting of a.
    prepared_as setting t b.func _ b.children.items b.record_block _ _ c.replace.ensures.after
    (fault_done setting t b.func b.run b.children.items b.record_block c.in-Fault.fault c.fault.new.self c.mark.new.self c.fault.ensures.state c.mark.ensures.items
    (prepared_as setting t b.func b.run b.children.items b.record_block _ _ (sym is) a)).at)
