use Rattle.std.proofs.Common.{refl, sym, ◌∙◌, ap, arith}
use denote.Struct.Props.{props}
use Rattle.block_arena.specs.Region.{with_given}
use Rattle.thread_frames.specs.Views.{told_as, words_asked}
use Rattle.thread_frames.proofs.Placed.{placed_gives, next_point, prepared_as}
use Rattle.thread_frames.proofs.Acting.{Counts}
use Rattle.thread_frames.proofs.Doing.{acted_counts, can_give, release_done}
use Rattle.thread_frames.proofs.thread.Thread.do_release.Goals as goal

pub release-requires-clause-going : goal.release-requires-clause-going
release-requires-clause-going c =
    let b = c.args.self.now in
    let is = sym c.replace.ensures.value ∙ c.in-Release.is in
    placed_gives b (search props) c.requires.placed (λ t k setting of a. (can_give setting t b.func b.run b.children.items b.record_block c.in-Release.slot c.in-Release.words
    (prepared_as setting t b.func b.run b.children.items b.record_block _ _ (sym is) a)).going)

pub release-requires-clause-within : goal.release-requires-clause-within
release-requires-clause-within c =
    let b = c.args.self.now in
    let is = sym c.replace.ensures.value ∙ c.in-Release.is in
    placed_gives b (search props) c.requires.placed (λ t k setting of a. (can_give setting t b.func b.run b.children.items b.record_block c.in-Release.slot c.in-Release.words
    (prepared_as setting t b.func b.run b.children.items b.record_block _ _ (sym is) a)).within)

pub release-requires-clause-has : goal.release-requires-clause-has
release-requires-clause-has c =
    let b = c.args.self.now in
    let is = sym c.replace.ensures.value ∙ c.in-Release.is in
    placed_gives b (search props) c.requires.placed (λ t k setting of a. (can_give setting t b.func b.run b.children.items b.record_block c.in-Release.slot c.in-Release.words
    (prepared_as setting t b.func b.run b.children.items b.record_block _ _ (sym is) a)).has)

pub release-requires-clause-live : goal.release-requires-clause-live
release-requires-clause-live c =
    let b = c.args.self.now in
    let is = sym c.replace.ensures.value ∙ c.in-Release.is in
    let asked = ap (λ p. words_asked (told_as b.children.items p)) is in
    let live = c.requires.live in
    placed_gives b (search props) c.requires.placed (λ t k setting of a. (let taken = (can_give setting t b.func b.run b.children.items b.record_block c.in-Release.slot c.in-Release.words
    (prepared_as setting t b.func b.run b.children.items b.record_block _ _ (sym is) a)).taken in
    omega (arith, asked, live, taken)))

pub returns-clause-acted : goal.returns-clause-acted
returns-clause-acted c =
    let b = c.args.self.now in
    let is = sym c.replace.ensures.value ∙ c.in-Release.is in
    let k : Counts c.release.new.self b.run.state = acted_counts b c.release.new.self c.requires.placed
    (λ t k setting of a. (release_done setting t b.func b.run b.children.items b.record_block c.in-Release.slot c.in-Release.words
    (prepared_as setting t b.func b.run b.children.items b.record_block _ _ (sym is) a) c.release.new.self c.release.ensures.state).counts) in
    record {
      same = record { id = refl; parent = refl; func = refl; label = k.label };
      done = k.done;
      forks = k.forks;
      children = refl;
      next = ap (told_as b.children.items) c.replace.ensures.after;
    }

pub returns-clause-words : goal.returns-clause-words
returns-clause-words c =
    let b = c.args.self.now in
    let is = sym c.replace.ensures.value ∙ c.in-Release.is in
    let asked = ap (λ p. words_asked (told_as b.children.items p)) is in
    placed_gives b (search props) c.requires.placed (λ t k setting of a. (let w = (release_done setting t b.func b.run b.children.items b.record_block c.in-Release.slot c.in-Release.words
    (prepared_as setting t b.func b.run b.children.items b.record_block _ _ (sym is) a) c.release.new.self c.release.ensures.state).words in
    omega (arith, asked, w)))

pub returns-clause-pool : goal.returns-clause-pool
returns-clause-pool c =
    let b = c.args.self.now in
    let is = sym c.replace.ensures.value ∙ c.in-Release.is in
    let asked = ap (λ p. words_asked (told_as b.children.items p)) is in
    c.release.ensures.pool ∙ ap (λ n. with_given c.args.pool.now n) (placed_gives b (search props) c.requires.placed (λ t k setting of a.
    (can_give setting t b.func b.run b.children.items b.record_block c.in-Release.slot c.in-Release.words
    (prepared_as setting t b.func b.run b.children.items b.record_block _ _ (sym is) a)).taken ∙ sym asked))

pub returns-clause-point : goal.returns-clause-point
returns-clause-point c = λ t k.
    let b = c.args.self.now in
    let is = sym c.replace.ensures.value ∙ c.in-Release.is in
    next_point t k b _ (λ setting of a.
    prepared_as setting t b.func _ b.children.items b.record_block _ _ c.replace.ensures.after
    (release_done setting t b.func b.run b.children.items b.record_block c.in-Release.slot c.in-Release.words
    (prepared_as setting t b.func b.run b.children.items b.record_block _ _ (sym is) a) c.release.new.self c.release.ensures.state).at)
