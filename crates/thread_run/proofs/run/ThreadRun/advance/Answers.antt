use Rattle.std.proofs.Common.{◌≡◌, List, [], ◌∷◌, Ok, Option, refl, ap, subst, arith}
use Rattle.std.specs.Prelude.{reverse}
use Rattle.std.proofs.lemmas.List.{nil_from_length}
use Rattle.depth_first_list.specs.QuotaWords.{quota_words}
use Rattle.node_table.specs.Codes.{code_shown}
use Rattle.thread_stack.specs.declared.frame.Frame.{Frame}
use Rattle.thread_run.specs.declared.ready.Ready.{Ready}
use Rattle.thread_run.specs.declared.run.ThreadRun.{ThreadRun}
use Rattle.thread_run.specs.Functions.{frames_of}
use Rattle.thread_run.specs.Stepping.{ComesBy, KnownAgain, KeepsFunctions, FallsBy, UnderWay}
use Rattle.thread_run.proofs.OnTheWay.{taken_off, known_at, further, arrives, ends, functions_there, falls}
use Rattle.thread_run.proofs.Ways.{way_on, way_less}
use Rattle.thread_run.proofs.run.ThreadRun.advance.Goals as goal

pub go_on-requires : goal.go_on-requires
go_on-requires c =
    let t = code_shown c.args.code.now in
    let k = quota_words c.args.k in
    let start : ThreadRun = c.args.self.now in
    let run : ThreadRun = c.ahead.new.self in
    let way : UnderWay t k start run = way_on t k start c.steps.self run c.in_ok-ahead.ensures.way c.steps.invariant in
    let popped : ThreadRun = record { func = run.func; state = run.state; frames = c.pop.new.self; told = run.told } in
    let x : Frame = c.in-Some.frame in
    let taken : frames_of run ≡ x ∷ frames_of popped = taken_off run popped x c.in-Some.ensures.items in
    record { known = known_at t k start run popped x refl refl refl taken way.known }

pub returns-in-Some-2-clause-meaning : goal.returns-in-Some-2-clause-meaning
returns-in-Some-2-clause-meaning c =
    let t = code_shown c.args.code.now in
    let k = quota_words c.args.k in
    let start : ThreadRun = c.args.self.now in
    let run : ThreadRun = c.ahead.new.self in
    let way : UnderWay t k start run = way_on t k start c.steps.self run c.in_ok-ahead.ensures.way c.steps.invariant in
    let popped : ThreadRun = record { func = run.func; state = run.state; frames = c.pop.new.self; told = run.told } in
    let x : Frame = c.in-Some.frame in
    let taken : frames_of run ≡ x ∷ frames_of popped = taken_off run popped x c.in-Some.ensures.items in
    arrives t k start run popped x refl refl refl taken c.go_on.new.self c.in-Some-2.ready way
    (subst (λ (o : Option Ready). ComesBy t k popped x (Ok o) c.go_on.new.self) c.in-Some-2.is c.in_ok-ready.ensures.comes)

pub returns-in-Some-2-clause-functions : goal.returns-in-Some-2-clause-functions
returns-in-Some-2-clause-functions c =
    let t = code_shown c.args.code.now in
    let k = quota_words c.args.k in
    let start : ThreadRun = c.args.self.now in
    let run : ThreadRun = c.ahead.new.self in
    let way : UnderWay t k start run = way_on t k start c.steps.self run c.in_ok-ahead.ensures.way c.steps.invariant in
    let popped : ThreadRun = record { func = run.func; state = run.state; frames = c.pop.new.self; told = run.told } in
    let x : Frame = c.in-Some.frame in
    let taken : frames_of run ≡ x ∷ frames_of popped = taken_off run popped x c.in-Some.ensures.items in
    functions_there t k start run popped x refl refl refl taken c.go_on.new.self c.in-Some-2.ready way
    (subst (λ (o : Option Ready). KeepsFunctions popped x (Ok o) c.go_on.new.self) c.in-Some-2.is c.in_ok-ready.ensures.functions)

pub steps-preserved : goal.steps-preserved
steps-preserved c =
    let t = code_shown c.args.code.now in
    let k = quota_words c.args.k in
    let start : ThreadRun = c.args.self.now in
    let run : ThreadRun = c.ahead.new.self in
    let way : UnderWay t k start run = way_on t k start c.steps.self run c.in_ok-ahead.ensures.way c.steps.invariant in
    let popped : ThreadRun = record { func = run.func; state = run.state; frames = c.pop.new.self; told = run.told } in
    let x : Frame = c.in-Some.frame in
    let taken : frames_of run ≡ x ∷ frames_of popped = taken_off run popped x c.in-Some.ensures.items in
    further t k start run popped x refl refl refl taken c.go_on.new.self way
    (subst (λ (o : Option Ready). ComesBy t k popped x (Ok o) c.go_on.new.self) c.in_default-2.is c.in_ok-ready.ensures.comes)
    (subst (λ (o : Option Ready). KnownAgain t k c.go_on.new.self o) c.in_default-2.is c.in_ok-ready.ensures.known)
    c.go_on.ensures.counts
    (subst (λ (o : Option Ready). KeepsFunctions popped x (Ok o) c.go_on.new.self) c.in_default-2.is c.in_ok-ready.ensures.functions)

pub steps-smaller : goal.steps-smaller
steps-smaller c =
    let t = code_shown c.args.code.now in
    let k = quota_words c.args.k in
    let start : ThreadRun = c.args.self.now in
    let run : ThreadRun = c.ahead.new.self in
    let way : UnderWay t k start run = way_on t k start c.steps.self run c.in_ok-ahead.ensures.way c.steps.invariant in
    let popped : ThreadRun = record { func = run.func; state = run.state; frames = c.pop.new.self; told = run.told } in
    let x : Frame = c.in-Some.frame in
    let taken : frames_of run ≡ x ∷ frames_of popped = taken_off run popped x c.in-Some.ensures.items in
    let no_more = way_less t k c.steps.self run c.in_ok-ahead.ensures.way c.steps.invariant.known in
    let less = falls t k start run popped x refl refl refl taken c.go_on.new.self
    (subst (λ (o : Option Ready). FallsBy t popped x c.go_on.new.self o) c.in_default-2.is c.in_ok-ready.ensures.cost) in
    omega (arith, less, no_more)

pub returns-in_default-clause-meaning : goal.returns-in_default-clause-meaning
returns-in_default-clause-meaning c =
    let t = code_shown c.args.code.now in
    let k = quota_words c.args.k in
    let start : ThreadRun = c.args.self.now in
    let run : ThreadRun = c.ahead.new.self in
    let way : UnderWay t k start run = way_on t k start c.steps.self run c.in_ok-ahead.ensures.way c.steps.invariant in
    let popped : ThreadRun = record { func = run.func; state = run.state; frames = c.pop.new.self; told = run.told } in
    let before : run.frames.items ≡ [] = nil_from_length run.frames.items (omega (arith, run.frames.ok.0, c.in_default.ensures.cases.0)) in
    let behind : c.pop.new.self.items ≡ [] = nil_from_length c.pop.new.self.items (omega (arith, c.pop.new.self.ok.0, c.in_default.ensures.cases.1)) in
    ends t k start run popped refl refl refl (ap (λ (xs : List Frame). reverse xs) before) (ap (λ (xs : List Frame). reverse xs) behind) way
