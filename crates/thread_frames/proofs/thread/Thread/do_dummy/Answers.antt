use Rattle.std.proofs.Common.{refl, arith}
use denote.Struct.Props.{props}
use Rattle.thread_frames.proofs.Placed.{placed_gives, next_point}
use Rattle.thread_frames.proofs.Acting.{Counts}
use Rattle.thread_frames.proofs.Doing.{acted_counts, is_dummy, dummy_at}
use Rattle.thread_frames.proofs.thread.Thread.do_dummy.Goals as goal

pub returns-clause-acted : goal.returns-clause-acted
returns-clause-acted c =
    let before = c.args.self.now in
    let is = is_dummy before.children.items before.prepared c.requires.next in
    let k : Counts c.count_action.new.self before.run.state = acted_counts before c.count_action.new.self c.requires.placed
    (λ t k setting of a. (dummy_at setting t before.func before.run before.children.items before.record_block before.prepared _ is c.count_action.ensures a).counts) in
    record {
      same = record { id = refl; parent = refl; func = refl; label = k.label };
      done = k.done;
      forks = k.forks;
      children = refl;
      next = refl;
    }

pub returns-clause-words : goal.returns-clause-words
returns-clause-words c =
    let before = c.args.self.now in
    let is = is_dummy before.children.items before.prepared c.requires.next in
    placed_gives before (search props) c.requires.placed (λ t k setting of a.
    (let w = (dummy_at setting t before.func before.run before.children.items before.record_block before.prepared _ is c.count_action.ensures a).words in
    omega (arith, w)))

pub returns-clause-point : goal.returns-clause-point
returns-clause-point c = λ t k.
    let before = c.args.self.now in
    let is = is_dummy before.children.items before.prepared c.requires.next in
    next_point t k before _ (λ setting of a. (dummy_at setting t before.func before.run before.children.items before.record_block before.prepared _ is c.count_action.ensures a).at)
