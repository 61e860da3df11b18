use Rattle.std.proofs.Common.{◌≡◌, refl, sym, ◌∙◌, ap, arith}
use denote.Struct.Props.{props}
use Rattle.block_arena.specs.Region.{with_taken}
use Rattle.block_arena.specs.Size.{words_taken}
use Rattle.std.proofs.lemmas.List.{nil_from_length}
use Rattle.std.proofs.Common.{length}
use Rattle.thread_frames.specs.Views.{told_as, words_asked}
use Rattle.thread_frames.proofs.Placed.{placed_gives, next_point, prepared_as}
use Rattle.thread_frames.proofs.Acting.{Counts}
use Rattle.thread_frames.proofs.Doing.{acted_counts, can_hold, alloc_done}
use Rattle.thread_frames.proofs.thread.Thread.do_alloc.Goals as goal

pub take-requires-clause-few : goal.take-requires-clause-few
take-requires-clause-few c =
    let b = c.args.self.now in
    let is = sym c.replace.ensures.value ∙ c.in-Alloc.is in
    let asked = ap (λ p. words_asked (told_as b.children.items p)) is in
    let told : c.in-Alloc.words ≡ words_taken c.in-Alloc.len =
    placed_gives b (search props) c.requires.placed (λ t k setting of a. (can_hold setting t b.func b.run b.children.items b.record_block c.in-Alloc.slot c.in-Alloc.len c.in-Alloc.words c.in-Alloc.shell of.owned
    (prepared_as setting t b.func b.run b.children.items b.record_block _ _ (sym is) a)).told) in
    let d = c.words_asked-asked.ensures in
    let small = c.words_asked-asked.type_inv in
    omega (arith, asked, told, d, small)

pub take-requires-clause-shell : goal.take-requires-clause-shell
take-requires-clause-shell c =
    let b = c.args.self.now in
    let is = sym c.replace.ensures.value ∙ c.in-Alloc.is in
    placed_gives b (search props) c.requires.placed (λ t k setting of a. (let room = (can_hold setting t b.func b.run b.children.items b.record_block c.in-Alloc.slot c.in-Alloc.len c.in-Alloc.words c.in-Alloc.shell of.owned
    (prepared_as setting t b.func b.run b.children.items b.record_block _ _ (sym is) a)).room in omega (arith, room)))

pub unreachable-requires-in_default-take : goal.unreachable-requires-in_default-take
unreachable-requires-in_default-take c =
    let b = c.args.self.now in
    let is = sym c.replace.ensures.value ∙ c.in-Alloc.is in
    let asked = ap (λ p. words_asked (told_as b.children.items p)) is in
    let told : c.in-Alloc.words ≡ words_taken c.in-Alloc.len =
    placed_gives b (search props) c.requires.placed (λ t k setting of a. (can_hold setting t b.func b.run b.children.items b.record_block c.in-Alloc.slot c.in-Alloc.len c.in-Alloc.words c.in-Alloc.shell of.owned
    (prepared_as setting t b.func b.run b.children.items b.record_block _ _ (sym is) a)).told) in
    let full = c.in_default-take.ensures.full.0 refl in
    let d = c.words_asked-asked.ensures in
    let f = c.from.ensures in
    let no = c.in_ok-test_room.ensures.full.1 (omega (arith, asked, told, full, d, f)) in
    cc

pub hold-requires-clause-going : goal.hold-requires-clause-going
hold-requires-clause-going c =
    let b = c.args.self.now in
    let is = sym c.replace.ensures.value ∙ c.in-Alloc.is in
    placed_gives b (search props) c.requires.placed (λ t k setting of a. (can_hold setting t b.func b.run b.children.items b.record_block c.in-Alloc.slot c.in-Alloc.len c.in-Alloc.words c.in-Alloc.shell of.owned
    (prepared_as setting t b.func b.run b.children.items b.record_block _ _ (sym is) a)).going)

pub hold-requires-clause-within : goal.hold-requires-clause-within
hold-requires-clause-within c =
    let b = c.args.self.now in
    let is = sym c.replace.ensures.value ∙ c.in-Alloc.is in
    placed_gives b (search props) c.requires.placed (λ t k setting of a. (can_hold setting t b.func b.run b.children.items b.record_block c.in-Alloc.slot c.in-Alloc.len c.in-Alloc.words c.in-Alloc.shell of.owned
    (prepared_as setting t b.func b.run b.children.items b.record_block _ _ (sym is) a)).within)

pub hold-requires-clause-none : goal.hold-requires-clause-none
hold-requires-clause-none c =
    let b = c.args.self.now in
    let is = sym c.replace.ensures.value ∙ c.in-Alloc.is in
    nil_from_length _ (placed_gives b (search props) c.requires.placed (λ t k setting of a. ap length (can_hold setting t b.func b.run b.children.items b.record_block c.in-Alloc.slot c.in-Alloc.len c.in-Alloc.words c.in-Alloc.shell of.owned
    (prepared_as setting t b.func b.run b.children.items b.record_block _ _ (sym is) a)).none))

pub returns-clause-acted : goal.returns-clause-acted
returns-clause-acted c =
    let b = c.args.self.now in
    let is = sym c.replace.ensures.value ∙ c.in-Alloc.is in
    let k : Counts c.hold.new.self b.run.state = acted_counts b c.hold.new.self c.requires.placed
    (λ t k setting of a. (alloc_done setting t b.func b.run b.children.items b.record_block c.in-Alloc.slot c.in-Alloc.len c.in-Alloc.words c.in-Alloc.shell of.owned
    (prepared_as setting t b.func b.run b.children.items b.record_block _ _ (sym is) a) c.hold.new.self
    (λ contexts names. c.hold.ensures contexts names c.in-Alloc.len (ap (λ x. x.items) c.in-Ok.ensures.block))).counts) in
    record {
      same = record { id = refl; parent = refl; func = refl; label = k.label };
      done = k.done;
      forks = k.forks;
      children = refl;
      next = ap (told_as b.children.items) c.replace.ensures.after;
    }

pub returns-clause-words : goal.returns-clause-words
returns-clause-words c =
    let b = c.args.self.now in
    let is = sym c.replace.ensures.value ∙ c.in-Alloc.is in
    let asked = ap (λ p. words_asked (told_as b.children.items p)) is in
    placed_gives b (search props) c.requires.placed (λ t k setting of a. (let w = (alloc_done setting t b.func b.run b.children.items b.record_block c.in-Alloc.slot c.in-Alloc.len c.in-Alloc.words c.in-Alloc.shell of.owned
    (prepared_as setting t b.func b.run b.children.items b.record_block _ _ (sym is) a) c.hold.new.self
    (λ contexts names. c.hold.ensures contexts names c.in-Alloc.len (ap (λ x. x.items) c.in-Ok.ensures.block))).words in omega (arith, asked, w)))

pub returns-clause-pool : goal.returns-clause-pool
returns-clause-pool c =
    let b = c.args.self.now in
    let is = sym c.replace.ensures.value ∙ c.in-Alloc.is in
    let asked = ap (λ p. words_asked (told_as b.children.items p)) is in
    let told : c.in-Alloc.words ≡ words_taken c.in-Alloc.len =
    placed_gives b (search props) c.requires.placed (λ t k setting of a. (can_hold setting t b.func b.run b.children.items b.record_block c.in-Alloc.slot c.in-Alloc.len c.in-Alloc.words c.in-Alloc.shell of.owned
    (prepared_as setting t b.func b.run b.children.items b.record_block _ _ (sym is) a)).told) in
    c.in-Ok.ensures.taken ∙ ap (λ n. with_taken c.args.pool.now n) (sym told ∙ sym asked)

pub returns-clause-point : goal.returns-clause-point
returns-clause-point c = λ t k.
    let b = c.args.self.now in
    let is = sym c.replace.ensures.value ∙ c.in-Alloc.is in
    next_point t k b _ (λ setting of a. prepared_as setting t b.func _ b.children.items b.record_block _ _ c.replace.ensures.after (alloc_done setting t b.func b.run b.children.items b.record_block c.in-Alloc.slot c.in-Alloc.len c.in-Alloc.words c.in-Alloc.shell of.owned
    (prepared_as setting t b.func b.run b.children.items b.record_block _ _ (sym is) a) c.hold.new.self
    (λ contexts names. c.hold.ensures contexts names c.in-Alloc.len (ap (λ x. x.items) c.in-Ok.ensures.block))).at)
