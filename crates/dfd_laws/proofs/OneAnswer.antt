-- A command has one answer to the bytes of a source.
use Rattle.std.proofs.Common.{◌≡◌, ◌≢◌, inl, inr, ℕ, ℤ, pos, negsuc, ◌≤◌, ◌<◌, length, arith, List, Option, Some, None, ap, sym, ◌∙◌, refl, subst}
use Rattle.std.specs.Prelude.{Result, Ok, Err}
use Rattle.std.proofs.Math.Logic.{∥∥₁_elim}
use denote.Struct.Props.{props}
use Rattle.canonical_text.specs.Canonical.{canonical}
use Rattle.command_line.specs.declared.command.Command.{Command}
use Rattle.command_line.specs.declared.command_kind.CommandKind.{CommandKind}
use Rattle.command_line.specs.declared.command_kind.CommandKind.TheVariants.{Play, Async, Run, Peak, Check as Checks, Make, Loops, Expand, Trail, Verify}
use Rattle.dag_order.specs.declared.fault.FaultAt.{FaultAt}
use Rattle.command_line.specs.declared.setting.Setting.TheVariants.{Quota as QuotaSetting}
use Rattle.depth_first_run.proofs.Built.{whole_is_depth_first}
use Rattle.depth_first_run.specs.States.{Item, Setting}
use Rattle.depth_first_run.specs.Run.{whole, actions_of, first_fault, lines_of, finish_of, finish_of_run}
use Rattle.serial_meaning.specs.Settings.{setting_of}
use Rattle.deque_machine.specs.Moments.{Moment}
use Rattle.deque_machine.specs.Play.{Ending, finished, stopped}
use Rattle.deque_machine.specs.Runs.{Pair}
use Rattle.deque_machine.specs.Books.{booked, periods_marked}
use Rattle.loop_expand.specs.declared.expand_fail.ExpandFail.{ExpandFail}
use Rattle.loop_expand.specs.declared.expand_fail.ExpandFail.TheVariants.{Refused, BadLoop, NameTaken, OutOfMemory as NoMemory}
use Rattle.loop_expand.proofs.Answered.{one_answer as a_text_has_one_answer}
use Rattle.deque_machine.proofs.OnePlay.{one_play}
use Rattle.par_ownership.specs.Accepted.{IsAccepted}
use Rattle.par_ownership.specs.Walk.{Refusal, program_refusal}
use Rattle.par_text.specs.Judging.{IsText, IsRefused, Verdict, tree, refusal}
use Rattle.par_text.proofs.Verdicts.{one_verdict}
use Rattle.par_text.specs.declared.syntax_error.SyntaxError.{SyntaxError}
use Rattle.par_tree.specs.Tree.{Program}
use Rattle.run_report.specs.Texts.{peak_text, report_text, summary_text}
use Rattle.dfd_plays.specs.Answer.{CheckMakes, KindGives, BytesGive, HasRanges}
use Rattle.dfd_plays.specs.Sources.{SourceGives}
use Rattle.dfd_plays.specs.Expanding.{TellsExpandFail, OfExpansion, ExpansionGives, ExpandMakes}
use Rattle.trail_check.specs.declared.verify_fail.VerifyFail.{VerifyFail}
use Rattle.trail_check.specs.declared.verify_fail.VerifyFail.TheVariants.{LongRun, BadEvent, NotEnded, WrongNumbers, OutOfMemory as NoRoom}
use Rattle.trail_check.proofs.Outcomes.{one_answer as a_trail_has_one_answer}
use Rattle.trail_meaning.specs.Ranges.{HasTrailRanges}
use Rattle.trail_meaning.specs.Shown.{TrailShown}
use Rattle.trail_text.specs.TrailText.{trail_text}
use Rattle.trail_text.proofs.Readings.{one_trail, one_place, never_both}
use Rattle.dfd_plays.specs.TrailMessages.{not_trail_text}
use Rattle.dfd_plays.specs.Trails.{Records, TrailMakes, TellsCheck, VerifyMakes, VerifyGives, trail_of}
use Rattle.dfd_plays.specs.Messages.{syntax_text, check_text, spent_text}
use Rattle.dfd_plays.specs.Make.{MakeMakes, Summarizes, sum_of}
use Rattle.dfd_plays.specs.Peak.{RunText, ItemsMake, PeakMakes}
use Rattle.ready_machine.proofs.Ones.{one_play as one_ready_play}
use Rattle.dfd_plays.specs.Async.{IsAsyncPlay, AsyncMakes, async_terms, async_machine}
use Rattle.dfd_plays.specs.Play.{IsPlay, TellsRun, TellsPlay, TellsEnding, Reports, PlayMakes, play_setting, play_terms, play_machine, seeded_words}
use Rattle.dfd_plays.specs.Status.{code_of}
use Rattle.dfd_plays.specs.declared.status.Status.{Status}
use Rattle.dfd_plays.specs.declared.status.Status.TheVariants.{Done, Usage, ReadFault, WriteFault, Syntax, Check, UserFault, StepsSpent, ArenaFull, DequesFull, OutOfMemory, TrailRefused}
use Rattle.dfd_laws.proofs.Statuses.{same_status}

abbrev program_in : Program → Verdict → Program
program_in default (tree p) = p
program_in default (refusal e) = default

abbrev error_in : SyntaxError → Verdict → SyntaxError
error_in default (tree p) = default
error_in default (refusal e) = e

abbrev IsTree : Verdict → Type 0
IsTree (tree p) = Unit {0}
IsTree (refusal e) = ⊥

one_program : (bytes : List ℕ) (p q : Program) → IsText bytes p → IsText bytes q → p ≡ q
one_program bytes p q is is' = ap (program_in p) (one_verdict bytes (tree p) (tree q) is is')

one_error : (bytes : List ℕ) (e f : SyntaxError) → IsRefused bytes e → IsRefused bytes f → e ≡ f
one_error bytes e f is is' = ap (error_in e) (one_verdict bytes (refusal e) (refusal f) is is')

not_both : (bytes : List ℕ) (p : Program) (e : SyntaxError) → IsText bytes p → IsRefused bytes e → ⊥
not_both bytes p e is is' = subst IsTree (one_verdict bytes (tree p) (refusal e) is is') tt

abbrev Same : (s s' : Status) (t t' : List ℕ) → Type 0
Same s s' t t' = (s ≡ s') × (t ≡ t')

-- what is made of a program is one answer
abbrev IsOne : (Program → Status → List ℕ → Type 0) → Type 0
IsOne makes = (p : Program) (s s' : Status) (t t' : List ℕ) → makes p s t → makes p s' t' → Same s s' t t'

-- an answer is a refusal of the bytes, one of their program, or made of their program
data Way (makes : Program → Status → List ℕ → Type 0) (bytes : List ℕ) (s : Status) (t : List ℕ) : Type 0 where
  refused : (e : SyntaxError) → IsRefused bytes e → s ≡ Syntax → t ≡ syntax_text e → Way makes bytes s t
  broken : (p : Program) → IsText bytes p → (r : Refusal) → program_refusal p ≡ Some r → s ≡ Check → t ≡ check_text r → Way makes bytes s t
  made : (p : Program) → IsText bytes p → program_refusal p ≡ None → makes p s t → Way makes bytes s t

made_of : (makes : Program → Status → List ℕ → Type 0) (bytes : List ℕ) (s : Status) (t : List ℕ) →
    (p : Program) × (IsText bytes p × (IsAccepted p × makes p s t)) → Way makes bytes s t
made_of makes bytes s t g = made g.0 g.1.0 g.1.1.0 g.1.1.1

way_of : (makes : Program → Status → List ℕ → Type 0) (bytes : List ℕ) (s : Status) (t : List ℕ) → SourceGives makes bytes s t → Way makes bytes s t
way_of makes bytes Done t g = made_of makes bytes Done t g
way_of makes bytes Usage t g = made_of makes bytes Usage t g
way_of makes bytes ReadFault t g = made_of makes bytes ReadFault t g
way_of makes bytes WriteFault t g = made_of makes bytes WriteFault t g
way_of makes bytes Syntax t g = refused g.0 g.1.0 refl g.1.1
way_of makes bytes Check t g = broken g.0 g.1.0 g.1.1.0 g.1.1.1.0 refl g.1.1.1.1
way_of makes bytes UserFault t g = made_of makes bytes UserFault t g
way_of makes bytes StepsSpent t g = made_of makes bytes StepsSpent t g
way_of makes bytes ArenaFull t g = made_of makes bytes ArenaFull t g
way_of makes bytes DequesFull t g = made_of makes bytes DequesFull t g
way_of makes bytes OutOfMemory t g = made_of makes bytes OutOfMemory t g
way_of makes bytes TrailRefused t g = made_of makes bytes TrailRefused t g

no_refusal : (p : Program) (r : Refusal) → program_refusal p ≡ None → program_refusal p ≡ Some r → ⊥
no_refusal p r none some = is_some (sym some ∙ none)
  where
    IsNone : Option Refusal → Type 0
    IsNone None = Unit {0}
    IsNone (Some x) = ⊥

    is_some : ◌≡◌ {A = Option Refusal} (Some r) None → ⊥
    is_some e = subst IsNone (sym e) tt

abbrev refusal_or : Refusal → Option Refusal → Refusal
refusal_or r None = r
refusal_or r (Some x) = x

one_way :
    (makes : Program → Status → List ℕ → Type 0) → IsOne makes → (bytes : List ℕ) (s s' : Status) (t t' : List ℕ) →
    Way makes bytes s t → Way makes bytes s' t' → Same s s' t t'
one_way makes one bytes s s' t t' (refused e is a b) (refused e' is' a' b') =
    (a ∙ sym a', b ∙ ap syntax_text (one_error bytes e e' is is') ∙ sym b')
one_way makes one bytes s s' t t' (refused e is a b) (broken p is' r w a' b') = absurd (not_both bytes p e is' is)
one_way makes one bytes s s' t t' (refused e is a b) (made p is' w m) = absurd (not_both bytes p e is' is)
one_way makes one bytes s s' t t' (broken p is r w a b) (refused e is' a' b') = absurd (not_both bytes p e is is')
one_way makes one bytes s s' t t' (broken p is r w a b) (broken q is' r' w' a' b') =
    (a ∙ sym a', b ∙ ap check_text (ap (refusal_or r) (sym w ∙ ap program_refusal (one_program bytes p q is is') ∙ w')) ∙ sym b')
one_way makes one bytes s s' t t' (broken p is r w a b) (made q is' w' m) =
    absurd (no_refusal q r w' (ap program_refusal (one_program bytes q p is' is) ∙ w))
one_way makes one bytes s s' t t' (made p is w m) (refused e is' a' b') = absurd (not_both bytes p e is is')
one_way makes one bytes s s' t t' (made p is w m) (broken q is' r w' a' b') =
    absurd (no_refusal p r w (ap program_refusal (one_program bytes p q is is') ∙ w'))
one_way makes one bytes s s' t t' (made p is w m) (made q is' w' m') =
    one p s s' t t' m (subst (λ (o : Program). makes o s' t') (one_program bytes q p is' is) m')

one_source :
    (makes : Program → Status → List ℕ → Type 0) → IsOne makes → (bytes : List ℕ) (s s' : Status) (t t' : List ℕ) →
    SourceGives makes bytes s t → SourceGives makes bytes s' t' → Same s s' t t'
one_source makes one bytes s s' t t' g g' = one_way makes one bytes s s' t t' (way_of makes bytes s t g) (way_of makes bytes s' t' g')

-- `check`
is_done : (p : Program) (s : Status) (t : List ℕ) → CheckMakes p s t → (s ≡ Done) × (t ≡ canonical p)
is_done p Done t m = (refl, m)
is_done p Usage t m = absurd m
is_done p ReadFault t m = absurd m
is_done p WriteFault t m = absurd m
is_done p Syntax t m = absurd m
is_done p Check t m = absurd m
is_done p UserFault t m = absurd m
is_done p StepsSpent t m = absurd m
is_done p ArenaFull t m = absurd m
is_done p DequesFull t m = absurd m
is_done p OutOfMemory t m = absurd m
is_done p TrailRefused t m = absurd m

one_check : IsOne CheckMakes
one_check p s s' t t' m m' =
    let d = is_done p s t m in
    let d' = is_done p s' t' m' in
    (d.0 ∙ sym d'.0, d.1 ∙ sym d'.1)

-- `play`
abbrev size_of : ℤ → ℕ
size_of (pos n) = n
size_of (negsuc n) = n

-- one thing is told of a play
one_ending : (tells : List Pair → Moment → List ℕ → Type 0) →
    ((run : List Pair) (last : Moment) (t t' : List ℕ) → tells run last t → tells run last t' → t ≡ t') →
    (c : Setting) (run : List Pair) (last : Moment) (ending : Ending) (s s' : Status) (t t' : List ℕ) →
    TellsEnding tells c run last ending s t → TellsEnding tells c run last ending s' t' → Same s s' t t'
one_ending tells one c run last finished s s' t t' told told' = (told.0 ∙ sym told'.0, one run last t t' told.1 told'.1)
one_ending tells one c run last (stopped stop) s s' t t' told told' = (told.0 ∙ sym told'.0, told.1 ∙ sym told'.1)

one_report : (c : Setting) (run : List Pair) (last : Moment) (t t' : List ℕ) → Reports c run last t → Reports c run last t' → t ≡ t'
one_report c run last t t' told told' =
    let same : told.0 ≡ told'.0 = ap size_of (told.1.0 ∙ sym told'.1.0) in
    told.1.1
    ∙ ap (λ (n : ℕ). report_text (record {
      lines = lines_of (whole c).items;
      finish = finish_of_run c;
      periods = length last.books;
      ahead = periods_marked last.books;
      high = n;
    })) same
    ∙ sym told'.1.1

one_summary : (bytes : ℕ) (c : Setting) (run : List Pair) (last : Moment) (t t' : List ℕ) → Summarizes bytes c run last t →
    Summarizes bytes c run last t' → t ≡ t'
one_summary bytes c run last t t' told told' =
    let same : told.0 ≡ told'.0 = ap size_of (told.1.0 ∙ sym told'.1.0) in
    told.1.1
    ∙ ap (λ (n : ℕ). summary_text (record {
      bytes = bytes;
      lines = length (lines_of (whole c).items);
      total = sum_of (lines_of (whole c).items);
      actions = length (booked last.books);
      periods = length last.books;
      ahead = periods_marked last.books;
      high = n;
    })) same
    ∙ sym told'.1.1

one_record : (command : Command) (bytes : List ℕ) (c : Setting) (run : List Pair) (last : Moment) (t t' : List ℕ) →
    Records command bytes c run last t → Records command bytes c run last t' → t ≡ t'
one_record command bytes c run last t t' told told' =
    let same : told.0 ≡ told'.0 = ap size_of (told.1.0 ∙ sym told'.1.0) in
    told.1.1 ∙ ap (λ (n : ℕ). trail_text (trail_of command bytes run last n)) same ∙ sym told'.1.1

-- what is told of a run, of a kind of which there is one, is one answer
module _ (IsRun : Command → Program → List Pair → Moment → Ending → Type 0) (tells : Setting → List Pair → Moment → List ℕ → Type 0)
    (one : (c : Setting) (run : List Pair) (last : Moment) (t t' : List ℕ) → tells c run last t → tells c run last t' → t ≡ t')
    (command : Command) (one_run : (p : Program) (run run' : List Pair) (last last' : Moment) (ending ending' : Ending) → IsRun command p run last ending
    → IsRun command p run' last' ending' → (run ≡ run') × (last ≡ last') × (ending ≡ ending')) (p : Program) where
  same_told : (s s' : Status) (t t' : List ℕ) (run run' : List Pair) (last last' : Moment) (ending ending' : Ending) →
      IsRun command p run last ending → TellsEnding (tells (play_setting command p)) (play_setting command p) run last ending s t →
      IsRun command p run' last' ending' → TellsEnding (tells (play_setting command p)) (play_setting command p) run' last' ending' s' t' →
      Same s s' t t'
  same_told s s' t t' run run' last last' ending ending' plays told plays' told' =
      let same = one_run p run run' last last' ending ending' plays plays' in
      one_ending (tells (play_setting command p)) (one (play_setting command p)) (play_setting command p) run last ending s s' t t' told
      (subst (λ r. TellsEnding (tells (play_setting command p)) (play_setting command p) r last ending s' t') (sym same.0)
      (subst (λ l. TellsEnding (tells (play_setting command p)) (play_setting command p) run' l ending s' t') (sym same.1)
      (subst (λ e. TellsEnding (tells (play_setting command p)) (play_setting command p) run' last' e s' t') (sym same.2) told')))

  one_run_answer : (s s' : Status) (t t' : List ℕ) → TellsRun IsRun tells command p s t → TellsRun IsRun tells command p s' t' → Same s s' t t'
  one_run_answer s s' t t' makes makes' = (
    same_status s s' (∥∥₁_elim makes (search props) (λ w. ∥∥₁_elim makes' (search props) (λ w'.
        ap code_of (same_told s s' t t' w.0 w'.0 w.1 w'.1 w.2 w'.2 w.3 w.4 w'.3 w'.4).0))),
    ∥∥₁_elim makes (search props) (λ w. ∥∥₁_elim makes' (search props) (λ w'.
        (same_told s s' t t' w.0 w'.0 w.1 w'.1 w.2 w'.2 w.3 w.4 w'.3 w'.4).1)),
  )

module _ (command : Command) (ranges : HasRanges command) where
  some_quota : 0 < command.k
  some_quota = omega (arith, (ranges.numbers QuotaSetting).0)

  -- a command has one play of a program, with deques, and with a ready list
  one_play_of : (p : Program) (run run' : List Pair) (last last' : Moment) (ending ending' : Ending) → IsPlay command p run last ending →
      IsPlay command p run' last' ending' → (run ≡ run') × (last ≡ last') × (ending ≡ ending')
  one_play_of p run run' last last' ending ending' =
      one_play (play_machine command p) some_quota (whole_is_depth_first (play_setting command p)) (play_terms command).limits
      (seeded_words command.seed) run run' last last' ending ending'

  one_async_play_of : (p : Program) (run run' : List Pair) (last last' : Moment) (ending ending' : Ending) → IsAsyncPlay command p run last ending →
      IsAsyncPlay command p run' last' ending' → (run ≡ run') × (last ≡ last') × (ending ≡ ending')
  one_async_play_of p =
      one_ready_play (async_machine command p) some_quota (whole_is_depth_first (play_setting command p)) (async_terms command).limits
      (seeded_words command.seed)

one_play_answer : (tells : Setting → List Pair → Moment → List ℕ → Type 0) →
    ((c : Setting) (run : List Pair) (last : Moment) (t t' : List ℕ) → tells c run last t → tells c run last t' → t ≡ t') →
    (command : Command) → HasRanges command → IsOne (TellsPlay tells command)
one_play_answer tells one command ranges = one_run_answer IsPlay tells one command (one_play_of command ranges)

-- `peak`
abbrev fault_status : Option FaultAt → Status
fault_status None = Done
fault_status (Some fault) = UserFault

-- an answer to a run is its text, or the line of the limit
data RunWay (items : List Item) (limit : ℕ) (s : Status) (t : List ℕ) : Type 0 where
  within : length (actions_of items) ≤ limit → s ≡ fault_status (first_fault items) → RunText items t → RunWay items limit s t
  beyond : limit < length (actions_of items) → s ≡ StepsSpent → t ≡ spent_text limit → RunWay items limit s t

run_way_of : (items : List Item) (limit : ℕ) (s : Status) (t : List ℕ) → ItemsMake items limit s t → RunWay items limit s t
run_way_of items limit Done t m = within m.0 (sym (ap fault_status m.1.0)) m.1.1
run_way_of items limit Usage t m = absurd m
run_way_of items limit ReadFault t m = absurd m
run_way_of items limit WriteFault t m = absurd m
run_way_of items limit Syntax t m = absurd m
run_way_of items limit Check t m = absurd m
run_way_of items limit UserFault t m = within m.0 (sym (ap fault_status m.1.0.1)) m.1.1
run_way_of items limit StepsSpent t m = beyond m.0 refl m.1
run_way_of items limit ArenaFull t m = absurd m
run_way_of items limit DequesFull t m = absurd m
run_way_of items limit OutOfMemory t m = absurd m
run_way_of items limit TrailRefused t m = absurd m

one_text : (items : List Item) (t t' : List ℕ) → RunText items t → RunText items t' → t ≡ t'
one_text items t t' a b =
    let same : a.0 ≡ b.0 = ap size_of (a.1.0 ∙ sym b.1.0) in
    a.1.1 ∙ ap (λ (n : ℕ). peak_text (lines_of items) (finish_of (first_fault items)) (length (actions_of items)) n) same ∙ sym b.1.1

one_run_way :
    (items : List Item) (limit : ℕ) (s s' : Status) (t t' : List ℕ) → RunWay items limit s t → RunWay items limit s' t' → Same s s' t t'
one_run_way items limit s s' t t' (within a e x) (within a' e' x') = (e ∙ sym e', one_text items t t' x x')
one_run_way items limit s s' t t' (within a e x) (beyond a' e' x') = absurd (omega arith)
one_run_way items limit s s' t t' (beyond a e x) (within a' e' x') = absurd (omega arith)
one_run_way items limit s s' t t' (beyond a e x) (beyond a' e' x') = (e ∙ sym e', x ∙ sym x')

one_peak : (k limit : ℕ) → IsOne (PeakMakes k limit)
one_peak k limit p s s' t t' m m' =
    let items = (whole (setting_of p k)).items in
    one_run_way items limit s s' t t' (run_way_of items limit s t m) (run_way_of items limit s' t' m')

-- `loops` and `expand`: a refusal has one line, and bytes have one expansion or one refusal
one_line : (fail : ExpandFail) (t t' : List ℕ) → TellsExpandFail fail t → TellsExpandFail fail t' → t ≡ t'
one_line (Refused e) t t' told told' = told ∙ sym told'
one_line (BadLoop at) t t' told told' = told ∙ sym told'
one_line (NameTaken at) t t' told told' = told ∙ sym told'
one_line NoMemory t t' told told' = absurd told

pub one_expansion :
    (makes : List ℕ → Status → List ℕ → Type 0) (bytes : List ℕ) (s s' : Status) (t t' : List ℕ) →
    ((expanded : List ℕ) → makes expanded s t → makes expanded s' t' → Same s s' t t') →
    ExpansionGives makes bytes s t → ExpansionGives makes bytes s' t' → Same s s' t t'
one_expansion makes bytes s s' t t' one g g' =
    by_answer g.0 g.2 (subst (λ a. OfExpansion makes a s' t') (a_text_has_one_answer bytes g'.0 g.0 g'.1 g.1) g'.2)
  where
    by_answer : (answer : Result (List ℕ) ExpandFail) → OfExpansion makes answer s t → OfExpansion makes answer s' t' → Same s s' t t'
    by_answer (Ok expanded) m m' = one expanded m m'
    by_answer (Err fail) told told' = (told.0 ∙ sym told'.0, one_line fail t t' told.1 told'.1)

-- `verify`: bytes are one trail or refused at one place, and a trail has one answer
one_told : (t : TrailShown) (answer : Result ℕ VerifyFail) (s s' : Status) (u u' : List ℕ) → TellsCheck t answer s u → TellsCheck t answer s' u' →
    Same s s' u u'
one_told t (Ok actions) s s' u u' told told' = (told.0 ∙ sym told'.0, told.1 ∙ sym told'.1)
one_told t (Err (LongRun limit)) s s' u u' told told' = (told.0 ∙ sym told'.0, told.1 ∙ sym told'.1)
one_told t (Err (BadEvent event)) s s' u u' told told' = (told.0 ∙ sym told'.0, told.1 ∙ sym told'.1)
one_told t (Err (NotEnded events)) s s' u u' told told' = (told.0 ∙ sym told'.0, told.1 ∙ sym told'.1)
one_told t (Err (WrongNumbers numbers)) s s' u u' told told' = (told.0 ∙ sym told'.0, told.1 ∙ sym told'.1)
one_told t (Err NoRoom) s s' u u' told told' = absurd told

no_want : (t : TrailShown) (answer : Result ℕ VerifyFail) (s : Status) (u : List ℕ) → TellsCheck t answer s u → answer ≢ Err NoRoom
no_want t answer s u told is = subst (λ a. TellsCheck t a s u) is told

one_verify : (t : TrailShown) → 0 < t.k → IsOne (VerifyMakes t)
one_verify t some p s s' u u' m m' =
    let same = a_trail_has_one_answer (setting_of p t.k) t m'.0 m.0 some (no_want t m'.0 s' u' m'.1.1, m'.1.0) (no_want t m.0 s u m.1.1, m.1.0) in
    one_told t m.0 s s' u u' m.1.1 (subst (λ a. TellsCheck t a s' u') same m'.1.1)

quota_of_trail : (t : TrailShown) → HasTrailRanges t → 0 < t.k
quota_of_trail t ranges = let least = ranges.setting.quota.0 in omega (arith, least)

pub one_trail_answer : (bytes : List ℕ) (s s' : Status) (u u' : List ℕ) → VerifyGives bytes s u → VerifyGives bytes s' u' → Same s s' u u'
one_trail_answer bytes s s' u u' (inl one) (inl other) =
    (one.1.1.0 ∙ sym other.1.1.0, one.1.1.1 ∙ ap not_trail_text (one_place bytes one.0 other.0 one.1.0 other.1.0) ∙ sym other.1.1.1)
one_trail_answer bytes s s' u u' (inl one) (inr of) = absurd (never_both bytes of.0 one.0 of.1.0 one.1.0)
one_trail_answer bytes s s' u u' (inr of) (inl one) = absurd (never_both bytes of.0 one.0 of.1.0 one.1.0)
one_trail_answer bytes s s' u u' (inr of) (inr of') =
    one_source (VerifyMakes of.0) (one_verify of.0 (quota_of_trail of.0 of.1.0.0)) of.0.source s s' u u' of.1.1
    (subst (λ t. SourceGives (VerifyMakes t) t.source s' u') (one_trail bytes of'.0 of.0 of'.1.0 of.1.0) of'.1.1)

one_kind : (kind : CommandKind) (command : Command) → HasRanges command → kind ≢ Run → (bytes : List ℕ) (s s' : Status) (t t' : List ℕ) →
    KindGives kind command bytes s t → KindGives kind command bytes s' t' → Same s s' t t'
one_kind Play command ranges alone bytes s s' t t' =
    one_source (PlayMakes command) (one_play_answer Reports one_report command ranges) bytes s s' t t'
one_kind Async command ranges alone bytes s s' t t' =
    one_source (AsyncMakes command) (one_run_answer IsAsyncPlay Reports one_report command (one_async_play_of command ranges)) bytes s s' t t'
one_kind Run command ranges alone bytes s s' t t' = absurd (alone refl)
one_kind Peak command ranges alone bytes s s' t t' =
    one_source (PeakMakes command.k command.steps) (one_peak command.k command.steps) bytes s s' t t'
one_kind Checks command ranges alone bytes s s' t t' = one_source CheckMakes one_check bytes s s' t t'
one_kind Make command ranges alone bytes s s' t t' =
    one_source (MakeMakes command bytes) (one_play_answer (Summarizes (length bytes)) (one_summary (length bytes)) command ranges) bytes
    s s' t t'
one_kind Loops command ranges alone bytes s s' t t' =
    one_expansion (SourceGives (PlayMakes command)) bytes s s' t t'
    (λ expanded. one_source (PlayMakes command) (one_play_answer Reports one_report command ranges) expanded s s' t t')
one_kind Expand command ranges alone bytes s s' t t' =
    one_expansion ExpandMakes bytes s s' t t' (λ expanded m m'. (m.0 ∙ sym m'.0, m.1 ∙ sym m'.1))
one_kind Trail command ranges alone bytes s s' t t' =
    one_source (TrailMakes command bytes) (one_play_answer (Records command bytes) (one_record command bytes) command ranges) bytes s s' t t'
one_kind Verify command ranges alone bytes s s' t t' = one_trail_answer bytes s s' t t'

pub one_answer :
    (command : Command) (bytes : List ℕ) (s s' : Status) (t t' : List ℕ) → HasRanges command → command.kind ≢ Run →
    BytesGive command bytes s t → BytesGive command bytes s' t' → Same s s' t t'
one_answer command bytes s s' t t' ranges alone = one_kind command.kind command ranges alone bytes s s' t t'
